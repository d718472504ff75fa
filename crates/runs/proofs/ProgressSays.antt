-- Progress, sentence by sentence, read off `GoesOn` for any steps. Assumes nothing.
use Prim.Native.Nat.{ℕ, ◌≤◌, ◌<◌}
use mathlib.Core.Path.{◌≡◌, sym, ◌∙◌}
use mathlib.Core.Logic.{◌⊎◌, inl, inr, ⊎_elim}
use mathlib.Core.Bool.{true, false}
use mathlib.Core.List.{List}
use lib.ListN.{length, take}
use borrow.Author.Tests.{lt-leb}
use Rattle.lists.proofs.TestLaws.{eq-or-ne, cond-true, cond-false}
use Rattle.records.specs.Kind.{is_commit, body_length, record_length}
use Rattle.records.specs.Read.{cut_short}
use Rattle.records.specs.Number.{no_room, slots_full}
use Rattle.settings.specs.declared.Settings.{Settings}
use Rattle.rules.specs.StandbyState.{is_receiving}
use Rattle.rules.specs.World.{World}
use Rattle.rules.specs.World as call
use Rattle.runs.specs.Run.{Steps}
use Rattle.runs.specs.Progress.{number_of, whole_record, kind_at, read_number, WaitsForFlush, GoesOn}
use Rattle.runs.proofs.ReadTests.{Number, read-number-is, read-accepts, room-enough}

module _ (κ : Steps) (g : Settings) (w : World) (h : GoesOn κ g w) where
  -- ---- while receiving
  module _ (on : is_receiving w.standby.state.mode ≡ true) (n : ℕ) (reply : List ℕ) where
    -- a read that is given the whole next record and 8 bytes of reply or more is accepted, or it is 17 with all S slots staged and one due at least, where
    -- any flush of one or more lets the same read be accepted
    pub read-goes-on : whole_record (take n w.link) ≡ true → 8 ≤ length reply → (number_of κ w (call.read n reply) ≡ 0) ⊎ WaitsForFlush κ g w n reply
    unfolding record_length body_length
    read-goes-on whole room =
        ⊎_elim
        (λ (e : read_number g w n reply ≡ slots_full). inr (h.waits on n reply (h.reads on n reply ∙ e)))
        (λ (ne : read_number g w n reply ≡ slots_full → ⊥). inl (h.reads on n reply ∙ read-accepts g w n reply whole (room-enough g (take n w.link) reply room) ne))
        (eq-or-ne (read_number g w n reply) slots_full)

    -- given less of the record, it is cut short
    pub read-cut-short : whole_record (take n w.link) ≡ false → number_of κ w (call.read n reply) ≡ cut_short
    read-cut-short short = h.reads on n reply ∙ cond-false (whole_record (take n w.link)) _ cut_short short

    -- with a reply under 8 bytes it is 5 at the COMMIT
    pub commit-without-room : whole_record (take n w.link) ≡ true → is_commit (kind_at (take n w.link)) ≡ true → length reply < 8 → number_of κ w (call.read n reply) ≡ no_room
    unfolding record_length body_length
    commit-without-room whole commit few = h.reads on n reply ∙ rw (whole, commit, lt-leb 8 (length reply) few)

    -- and at any other record it is as with any other reply
    pub reply-unused : is_commit (kind_at (take n w.link)) ≡ false → (other : List ℕ) → number_of κ w (call.read n reply) ≡ number_of κ w (call.read n other)
    reply-unused none other = let same : read_number g w n reply ≡ read_number g w n other = rw none in h.reads on n reply ∙ same ∙ sym (h.reads on n other)

    -- so never 2, 6, 7, 8, 9, 10 or 14
    pub one-of-four : Number (number_of κ w (call.read n reply))
    one-of-four = rw (h.reads on n reply) (read-number-is g w n reply)

  -- ---- while protected: an ACK call given a whole ACK is accepted, given less it is cut short; so never 6, 7 or 11
  module _ (protects : w.primary.state.alone ≡ false) (n : ℕ) where
    pub ack-goes-on : whole_record (take n w.acks) ≡ true → number_of κ w (call.ack n) ≡ 0
    ack-goes-on whole = h.acks protects n ∙ cond-true (whole_record (take n w.acks)) 0 cut_short whole

    pub ack-cut-short : whole_record (take n w.acks) ≡ false → number_of κ w (call.ack n) ≡ cut_short
    ack-cut-short short = h.acks protects n ∙ cond-false (whole_record (take n w.acks)) 0 cut_short short
