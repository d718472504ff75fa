-- What the call answers, by the records of the file: where none is refused by the ending, else the number of the first
-- that is, behind records that are not. Assumes nothing.
use Rattle.std.specs.Prelude.{Err}
use Rattle.records.specs.declared.Unread.TheVariants.{Refused}
use mathlib.Core.Path.{◌≡◌, refl, ◌∙◌}
use mathlib.Core.Bool.{true}
use mathlib.Core.List.{List, [], ◌∷◌, ◌++◌}
use Prim.Native.Nat.{ℕ}
use lib.ListN.{length}
use borrow.Author.Tests.{ne_eqb}
use Rattle.lists.proofs.TestLaws.{pick-accepted, pick-refused}
use Rattle.records.specs.Message.{Message}
use Rattle.checkpoints.specs.declared.FileSettings.{FileSettings}
use Rattle.checkpoints.specs.Judge.{Known, none_known, message_refusal, known_with, refusal_from}
use Rattle.checkpoints.specs.File.{file_in}
use Rattle.checkpoints.specs.Saving.{file_settings_ok, normal_bytes, ended, saved}
use Rattle.checkpoints.proofs.KnownLaws.{known_after, refusal-cons}

-- ---- the first that is refused
module _ (g : FileSettings) where
  -- is the first record, where that is
  pub refusal-first : (k : Known) (x : Message) (xs : List Message) → (message_refusal g k x ≡ 0 → ⊥) → refusal_from g k (x ∷ xs) ≡ message_refusal g k x
  unfolding refusal_from
  refusal-first k x xs ne = pick-refused (message_refusal g k x) (refusal_from g (known_with k x) xs) (message_refusal g k x) ne

  -- else one of the others
  pub refusal-rest : (k : Known) (x : Message) (xs : List Message) → message_refusal g k x ≡ 0 → refusal_from g k (x ∷ xs) ≡ refusal_from g (known_with k x) xs
  unfolding refusal_from
  refusal-rest k x xs z = pick-accepted (message_refusal g k x) (refusal_from g (known_with k x) xs) (message_refusal g k x) z

  -- so behind records that are not, one of those behind
  pub refusal-behind : (k : Known) (xs ys : List Message) → refusal_from g k xs ≡ 0 → refusal_from g k (xs ++ ys) ≡ refusal_from g (known_after k xs) ys
  refusal-behind k [] ys z = refl
  refusal-behind k (x ∷ xs) ys z =
      let c = refusal-cons g k x xs z in
      refusal-rest k x (xs ++ ys) c.0 ∙ refusal-behind (known_with k x) xs ys c.1

-- ---- the answer
module _ (g : FileSettings) (ok : file_settings_ok g ≡ true) (file : List ℕ) (room : ℕ) where
  -- where none is refused, by the ending
  pub saved-ended : refusal_from g none_known (file_in g file).messages ≡ 0
      → saved g file room ≡ ended (file_in g file).ending (length (normal_bytes g (file_in g file).messages)) room
  unfolding saved
  saved-ended z = rw (ok, z)

  -- else the number of the first that is
  pub saved-refused : (n : ℕ) → refusal_from g none_known (file_in g file).messages ≡ n → (n ≡ 0 → ⊥) → saved g file room ≡ Err (Refused n)
  unfolding saved
  saved-refused n z ne = rw (ok, z, ne_eqb n 0 ne)
