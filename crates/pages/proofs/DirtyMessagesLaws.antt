-- Laws of the dirty pages as messages: they encode to the dirty records, and fit their fields. Assumes nothing.
use mathlib.Core.Path.{◌≡◌, ◌∙◌}
use mathlib.Core.Logic.{⊎_elim}
use mathlib.Core.Bool.{Bool, true, false}
use mathlib.Core.List.{List, [], ◌∷◌, ◌++◌, append-nil}
use Prim.Native.Nat.{ℕ, zero, suc, ◌+◌, ◌*◌, ◌^◌, ◌≤◌, ◌<◌}
use native.Mathlib.Nat.{suc-mul}
use native.Mathlib.Numerals.{add-one}
use native.Mathlib.Omega.{arith}
use lib.ListN.{length}
use Rattle.lists.specs.Page.{page}
use Rattle.lists.proofs.TestLaws.{by-test}
use Rattle.lists.proofs.PageLaws.{gather_none, gather-more, length-page}
use Rattle.records.specs.Kind.{number_width}
use Rattle.records.specs.Message.{Message, encode_all}
use Rattle.records.specs.Message as message
use Rattle.records.proofs.MessageLaws.{encode_all-append}
use Rattle.marks.specs.Mark.{marked}
use Rattle.pages.specs.Dirty.{dirty_records}
use Rattle.pages.specs.DirtyMessages.{dirty_message, dirty_messages, AllFit}
use Rattle.pages.proofs.DirtyLaws.{dirty-none, dirty-marked, dirty-unmarked}

pub all-fit-append : (u : ℕ) (wide : Bool) (xs ys : List Message) → AllFit u wide xs → AllFit u wide ys → AllFit u wide (xs ++ ys)
all-fit-append u wide [] ys f g = g
all-fit-append u wide (x ∷ xs) ys f g = (f.0, all-fit-append u wide xs ys f.1 g)

module _ (memory dirty : List ℕ) (u epoch : ℕ) where
  pub messages-none : dirty_messages memory dirty u epoch 0 ≡ []
  unfolding dirty_messages
  messages-none = gather_none (dirty_message memory dirty u epoch)

  -- one page more
  pub messages-marked : (p : ℕ) → marked dirty p ≡ true
      → dirty_messages memory dirty u epoch (p + 1) ≡ dirty_messages memory dirty u epoch p ++ (message.page epoch p (page u memory p) ∷ [])
  unfolding dirty_messages dirty_message
  messages-marked p e = gather-more (dirty_message memory dirty u epoch) p ∙ rw e

  pub messages-unmarked : (p : ℕ) → marked dirty p ≡ false → dirty_messages memory dirty u epoch (p + 1) ≡ dirty_messages memory dirty u epoch p
  unfolding dirty_messages dirty_message
  messages-unmarked p e = gather-more (dirty_message memory dirty u epoch) p ∙ rw e (append-nil _)

  -- they are the dirty records
  pub dirty-encode : (wide : Bool) (m : ℕ) → encode_all wide (dirty_messages memory dirty u epoch m) ≡ dirty_records memory dirty wide u epoch m
  dirty-encode wide zero = rw (messages-none, dirty-none)
  dirty-encode wide (suc m) =
      rw (← add-one m)
      (⊎_elim
      (λ e. rw (messages-marked m e, dirty-marked memory dirty wide u epoch m e, encode_all-append, dirty-encode wide m, append-nil))
      (λ e. rw (messages-unmarked m e, dirty-unmarked memory dirty wide u epoch m e) (dirty-encode wide m))
      (by-test (marked dirty m)))

  -- and each fits
  module _ (wide : Bool) (bound : epoch < 2 ^ 32) where
    messages-fit-part : (m : ℕ) → m ≤ 256 ^ number_width wide → m * u ≤ length memory → AllFit u wide (dirty_messages memory dirty u epoch m)
    messages-fit-part zero h s = rw messages-none tt
    messages-fit-part (suc m) h s =
        let inside : m * u + u ≤ length memory = rw suc-mul at s in
        let below = messages-fit-part m (omega arith) (omega arith) in
        rw (← add-one m)
        (⊎_elim
        (λ e. rw (messages-marked m e)
        (all-fit-append u wide (dirty_messages memory dirty u epoch m) _ below ((bound, omega arith, length-page u m memory inside), tt)))
        (λ e. rw (messages-unmarked m e) below)
        (by-test (marked dirty m)))

    pub messages-fit : (m : ℕ) → m ≤ 256 ^ number_width wide → length memory ≡ m * u → AllFit u wide (dirty_messages memory dirty u epoch m)
    messages-fit m h e = messages-fit-part m h (omega arith)
