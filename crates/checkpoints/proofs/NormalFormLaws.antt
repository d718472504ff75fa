-- What `normal_form` answers and leaves, by where going through the file ended. Assumes nothing.
use Rattle.std.specs.Prelude.{Result, Err, Ok}
use Prim.Native.Nat.{ℕ, ◌-◌, ◌≤◌}
use mathlib.Core.Path.{◌≡◌, refl, ◌∙◌}
use mathlib.Core.Bool.{Bool, false}
use mathlib.Core.List.{List}
use lib.ListN.{length}
use borrow.Author.Tests.{ne_eqb, leb-true}
use Rattle.lists.specs.Part.{put}
use Rattle.lists.specs.Refusal.{refusal}
use Rattle.lists.proofs.TestLaws.{accepted}
use Rattle.records.specs.declared.Unread.{Unread}
use Rattle.records.specs.declared.Unread.TheVariants.{Refused}
use Rattle.records.specs.declared.refusal.Refusal.{Refusal}
use Rattle.records.specs.Kind.{is_wide}
use Rattle.records.specs.Number.{refusal_number, number_in}
use Rattle.records.proofs.RefusalLaws.{refusal-some, number-passed}
use Rattle.checkpoints.specs.declared.FileSettings.{FileSettings}
use Rattle.checkpoints.specs.declared.Scanned.{Scanned}
use Rattle.checkpoints.specs.File.{file_in}
use Rattle.checkpoints.specs.Form.{form_length}
use Rattle.checkpoints.specs.Saving.{file_settings_ok, normal_bytes, end_tests, written, saved, saved_destination}
use Rattle.checkpoints.proofs.ScanEnds.{Committed}

-- ---- what the destination becomes
module _ (g : FileSettings) (file destination : List ℕ) where
  pub left-unread : (u : Unread) → saved g file (length destination) ≡ Err u → destination ≡ saved_destination g file destination
  unfolding saved_destination
  left-unread u e = rw e

  pub left-written : (n : ℕ) → saved g file (length destination) ≡ Ok n → put destination 0 (normal_bytes g (file_in g file).messages) ≡ saved_destination g file destination
  unfolding saved_destination
  left-written n e = rw e

-- 1
pub range-refused : (g : FileSettings) (file : List ℕ) (room : ℕ) → file_settings_ok g ≡ false → saved g file room ≡ Err (Refused 1)
unfolding saved
range-refused g file room e = rw e

-- ---- 29 and 30, or the length
module _ {g : FileSettings} {file : List ℕ} {s : Scanned} {numbers places : List ℕ} (d : Committed g file s numbers places) (room : ℕ) {normal : ℕ} {wide : Bool} (w : wide ≡ is_wide g.m)
    (long : normal ≡ form_length g.u wide s.counts) {A : Type 0} (tests : Result A Refusal) (tested : number_in tests ≡ refusal (end_tests (length file - s.end) normal room)) where
  answer : saved g file room ≡ written (number_in tests) normal
  answer = d.answer room ∙ rw (tested, long, w) refl

  pub end-refused : {r : Refusal} → tests ≡ Err r → saved g file room ≡ Err (Refused (refusal_number r))
  end-refused {r} e = answer ∙ rw e (rw (ne_eqb (refusal_number r) 0 (refusal-some r)) refl)

  pub end-written : {a : A} → tests ≡ Ok a → saved g file room ≡ Ok normal
  end-written e = answer ∙ rw e refl

  -- and then it has room
  pub end-room : {a : A} → tests ≡ Ok a → normal ≤ room
  end-room e = leb-true normal room (accepted (end_tests (length file - s.end) normal room) refl (number-passed tests _ tested e)).1.0
