-- Flush at the standby. Assumes nothing.
use Rattle.rules.specs.declared.Reply.{Reply}
use Rattle.std.specs.Prelude.{ℕ, ◌&&◌, List, [], ◌∷◌, eqb, length}
use Rattle.lists.specs.Refusal.{Test, test, refusal, pick}
use Rattle.records.specs.Number.{out_of_range}
use Rattle.staging.specs.Slot.{flush_count, flushed, flushed_bytes, stored}
use Rattle.rules.specs.declared.Standby.{Standby}
use Rattle.rules.specs.StandbyState.{standby_ok, disk_length, slots_length, with_slots_blocks}
use Rattle.rules.specs.Reply.{reply_of}

-- 1
abbrev pub flush_tests : Standby → ℕ → ℕ → List Test
flush_tests s slots disk = test out_of_range (standby_ok s && eqb slots (slots_length s) && eqb disk (disk_length s)) ∷ []

unfoldable pub flush_refusal : Standby → ℕ → ℕ → ℕ
flush_refusal s slots disk = refusal (flush_tests s slots disk)

unfoldable pub flush_reply : Standby → ℕ → ℕ → ℕ → Reply Standby
flush_reply s slots disk n =
    let count = flush_count s.slots n in
    reply_of (flush_refusal s slots disk) s (with_slots_blocks s (flushed s.slots count) s.blocks s.records) count

unfoldable pub flush_staged_blocks : Standby → List ℕ → List ℕ → ℕ → List ℕ
flush_staged_blocks s slots disk n =
    pick (flush_refusal s (length slots) (length disk)) (flushed_bytes s.settings.u s.slots (flush_count s.slots n) slots) slots

-- "stores min(n, due) due blocks in order of arrival"
unfoldable pub flush_disk : Standby → List ℕ → List ℕ → ℕ → List ℕ
flush_disk s slots disk n =
    pick (flush_refusal s (length slots) (length disk)) (stored s.settings.u s.slots.numbers slots disk (flush_count s.slots n)) disk
