-- `word::store_at` meets its contract. Assumes nothing.
use Prim.Native.Nat.{ℕ, ◌+◌, ◌-◌}
use mathlib.Core.Path.{ap, ◌∙◌}
use mathlib.Core.List.{List}
use native.Mathlib.Omega.{arith}
use lib.ListN.{length}
use borrow.Rule.Slice.PartMut.{put_mid}
use Rattle.capi.proofs.WordLaws.{part-put}
use Rattle.capi.proofs.word.store_at.Goals as goal

pub returns : goal.returns
returns c =
    let a = c.args in
    let n : ℕ = a.at + length a.src.now - a.at in
    ap (λ (l : List ℕ). put_mid a.at n a.w.now l) c.copy_from_slice.ensures.after ∙ part-put a.w.now a.src.now a.at n (omega arith)
