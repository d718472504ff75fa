-- Laws of a page's part of a sum: what acceptance says, and that the answer's value is it. Assumes nothing.
use mathlib.Core.Path.{◌≡◌, refl}
use mathlib.Core.Bool.{◌&&◌}
use mathlib.Core.List.{List}
use Prim.Native.Nat.{ℕ, ◌+◌, ◌*◌, ◌/◌, ◌%◌, ◌≤◌}
use native.Mathlib.Nat.{div-mul-le_self, div-add-mod', mul-le-mul, mod-lt}
use native.Mathlib.Omega.{arith}
use lib.Dec.{eqb}
use lib.ListN.{length}
use borrow.Author.Tests.{eqb-true, ltb-true}
use Rattle.lists.specs.Refusal.{pick}
use Rattle.lists.proofs.TestLaws.{both, within-facts, accepted}
use Rattle.lists.proofs.PageLaws.{page-end}
use Rattle.records.specs.Kind.{unit_ok}
use Rattle.records.proofs.KindLaws.{unit-le}
use Rattle.records.proofs.RefusalLaws.{refusal-some}
use Rattle.settings.specs.Range.{most_pages, memory_pages_ok}
use Rattle.sums.specs.Sum.{page_sum}
use Rattle.capi.specs.PairCalls.{page_sum_tests, page_sum_refusal, page_sum_word}
use Rattle.capi.proofs.AnswerLaws.{Parts, reply-parts, reply-fits}

-- a page size is in its range
pub ruleset units = (unit-le)

-- the page is one of the image, as its part requires it
pub page-sum-accepted : (u image page : ℕ) → page_sum_refusal u image page ≡ 0 → (u ≤ 4096) × (page * u + u ≤ image) × (image ≤ 268435456)
unfolding page_sum_refusal
page-sum-accepted u image page e =
    let h = accepted (page_sum_tests u image page) refl e in
    let m = both (unit_ok u && eqb (image % u) 0) (memory_pages_ok (image / u)) h.0 in
    let w = both (unit_ok u) (eqb (image % u) 0) m.0 in
    let few = (within-facts 1 most_pages (image / u) m.1).1 in
    let small = (unit-le u w.0).1 in
    let most : image / u * u ≤ 268435456 = mul-le-mul few small in
    (small, omega (arith, page-end page (image / u) u (ltb-true page (image / u) h.1.0), div-mul-le_self image u), omega (arith, most, div-add-mod' image u, eqb-true (image % u) 0 w.1))

-- a page's part is refused or accepted
pub ruleset told = (page-sum-accepted, refusal-some)

pub page-sum-parts : (u : ℕ) (image : List ℕ) (page : ℕ) → let n = page_sum_refusal u (length image) page in Parts (page_sum_word u image page) n 0 0 (pick n (page_sum u image page) 0)
unfolding page_sum_word page_sum_refusal
page-sum-parts u image page = reply-parts (reply-fits (page_sum_tests u (length image) page) (page_sum u image page) refl (λ z. mod-lt _ (omega arith)))
