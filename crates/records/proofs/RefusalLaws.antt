-- Laws of the refusals' numbers: none is 0, so that a test passed where its number is 0 and nowhere else. Assumes nothing.
use Rattle.std.specs.Prelude.{◌≡◌, ℕ, Result, Ok, Err}
use mathlib.Core.Path.{sym, ap, ◌∙◌}
use native.Mathlib.Omega.{arith}
use Rattle.records.specs.declared.refusal.Refusal.{Refusal}
use Rattle.records.specs.declared.refusal.Refusal.TheVariants.{OutOfRange, NoSuchUnit, BadSize, BadPacket, NoRoom, BadKind, BadLength, BadEpoch, OutOfOrder, BadCounts, BadAck, BadArea, WrongMode, AllowanceUsed, StreamFull, QueueFull, SlotsFull, NothingFree, LastEpoch, BlocksDue, NoSuchPort, NoPlan, BytesBehind, DestinationShort}
use Rattle.records.specs.Number.{refusal_number, number_in}

pub refusal-some : (r : Refusal) → refusal_number r ≡ 0 → ⊥
refusal-some OutOfRange h = omega arith
refusal-some NoSuchUnit h = omega arith
refusal-some BadSize h = omega arith
refusal-some BadPacket h = omega arith
refusal-some NoRoom h = omega arith
refusal-some BadKind h = omega arith
refusal-some BadLength h = omega arith
refusal-some BadEpoch h = omega arith
refusal-some OutOfOrder h = omega arith
refusal-some BadCounts h = omega arith
refusal-some BadAck h = omega arith
refusal-some BadArea h = omega arith
refusal-some WrongMode h = omega arith
refusal-some AllowanceUsed h = omega arith
refusal-some StreamFull h = omega arith
refusal-some QueueFull h = omega arith
refusal-some SlotsFull h = omega arith
refusal-some NothingFree h = omega arith
refusal-some LastEpoch h = omega arith
refusal-some BlocksDue h = omega arith
refusal-some NoSuchPort h = omega arith
refusal-some NoPlan h = omega arith
refusal-some BytesBehind h = omega arith
refusal-some DestinationShort h = omega arith

-- the number of a test that passed, and of one that failed
module _ {A : Type 0} (tests : Result A Refusal) (number : ℕ) (is : number_in tests ≡ number) where
  pub number-passed : {a : A} → tests ≡ Ok a → number ≡ 0
  number-passed e = sym is ∙ ap number_in e

  pub number-failed : {refusal : Refusal} → tests ≡ Err refusal → number ≡ refusal_number refusal
  number-failed e = sym is ∙ ap number_in e

  pub failed-some : {refusal : Refusal} → tests ≡ Err refusal → number ≡ 0 → ⊥
  failed-some {refusal} e z = refusal-some refusal (sym (number-failed e) ∙ z)
