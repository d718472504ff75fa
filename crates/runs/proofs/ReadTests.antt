-- The three tests of a read: what 17 says of the first two, and what these leave. Assumes nothing.
use Prim.Native.Nat.{ℕ, ◌≤◌}
use mathlib.Core.Path.{◌≡◌, refl}
use mathlib.Core.Logic.{◌⊎◌, inl, inr}
use mathlib.Core.Bool.{Bool, true, false, ◌||◌, not, or-true}
use mathlib.Core.List.{List, [], ◌∷◌}
use native.Mathlib.Omega.{arith}
use lib.Dec.{leb, ltb, eqb}
use lib.ListN.{length, take}
use borrow.Author.Tests.{le-leb}
use Rattle.lists.specs.Refusal.{test, refusal}
use Rattle.records.specs.Kind.{BLOCK, ACK, is_commit, record_length}
use Rattle.records.specs.Read.{cut_short}
use Rattle.records.specs.Number.{no_room, slots_full}
use Rattle.settings.specs.declared.Settings.{Settings}
use Rattle.staging.specs.Slot.{is_staged}
use Rattle.rules.specs.World.{World}
use Rattle.runs.specs.Progress.{whole_record, kind_at, block_at, read_number}

-- a COMMIT has room for its ACK; a BLOCK has a slot
abbrev pub room_for : Settings → List ℕ → List ℕ → Bool
room_for g bytes reply = not (is_commit (kind_at bytes)) || leb (record_length g.u ACK) (length reply)

abbrev has_slot : Settings → World → List ℕ → Bool
has_slot g w bytes = not (eqb (kind_at bytes) BLOCK) || is_staged w.standby.state.slots (block_at bytes) || ltb w.standby.state.slots.staged g.s

abbrev number : Bool → Bool → Bool → ℕ
number whole room slot = refusal (test cut_short whole ∷ test no_room room ∷ test slots_full slot ∷ [])

full : (whole room slot : Bool) → number whole room slot ≡ slots_full → (whole ≡ true) × (room ≡ true)
full false room slot e = absurd (omega arith)
full true false slot e = absurd (omega arith)
full true true slot e = (refl, refl)

accepted : (whole room slot : Bool) → whole ≡ true → room ≡ true → (number whole room slot ≡ slots_full → ⊥) → number whole room slot ≡ 0
accepted whole room true w r f = rw (w, r)
accepted whole room false w r f = absurd (f (rw (w, r)))

-- the number is one of four
abbrev pub Number : ℕ → Type 0
Number n = (n ≡ 0) ⊎ ((n ≡ cut_short) ⊎ ((n ≡ no_room) ⊎ (n ≡ slots_full)))

one_of : (whole room slot : Bool) → Number (number whole room slot)
one_of false room slot = inr (inl refl)
one_of true false slot = inr (inr (inl refl))
one_of true true false = inr (inr (inr refl))
one_of true true true = inl refl

module _ (g : Settings) (w : World) (n : ℕ) (reply : List ℕ) where
  pub read-number-is : Number (read_number g w n reply)
  read-number-is = one_of (whole_record (take n w.link)) (room_for g (take n w.link) reply) (has_slot g w (take n w.link))

  pub read-waits : read_number g w n reply ≡ slots_full → (whole_record (take n w.link) ≡ true) × (room_for g (take n w.link) reply ≡ true)
  read-waits = full (whole_record (take n w.link)) (room_for g (take n w.link) reply) (has_slot g w (take n w.link))

  pub read-accepts : whole_record (take n w.link) ≡ true → room_for g (take n w.link) reply ≡ true → (read_number g w n reply ≡ slots_full → ⊥) → read_number g w n reply ≡ 0
  read-accepts = accepted (whole_record (take n w.link)) (room_for g (take n w.link) reply) (has_slot g w (take n w.link))

pub room-enough : (g : Settings) (bytes reply : List ℕ) → record_length g.u ACK ≤ length reply → room_for g bytes reply ≡ true
room-enough g bytes reply room = rw (le-leb (record_length g.u ACK) (length reply) room) (or-true (not (is_commit (kind_at bytes))))
