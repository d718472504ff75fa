use borrow.Author.Rules.{rules}
use native.Mathlib.Omega.{arith}
use mathlib.Core.Path.{◌≡◌}
use Prim.Native.Nat.{ℕ}
use lib.ListN.{length}
use Rattle.records.proofs.RefusalLaws.{number-passed}
use Rattle.settings.specs.Range.{most_slots}
use Rattle.staging.specs.Fits.{FlushFits}
use Rattle.rules.specs.declared.Standby.{Standby}
use Rattle.rules.specs.Flush.{flush_refusal}
use Rattle.rules.proofs.FlushLaws.{flush-accepted, flush-room}
use Rattle.standby.proofs.flush.flush.Goals as goal

-- what acceptance says
room : (s : Standby) (slots disk : ℕ) → length s.slots.numbers ≡ most_slots → flush_refusal s slots disk ≡ 0 → FlushFits s.settings.u s.slots slots disk
room s slots disk array z = flush-room s slots disk array (flush-accepted s slots disk z)

pub flush-count-requires : goal.flush-count-requires
flush-count-requires c = room _ _ _ (search rules) (number-passed _ _ c.check_flush.ensures c.in_default.is)

pub flushed-requires : goal.flushed-requires
flushed-requires c =
    let f = room _ _ _ (search rules) (number-passed _ _ c.check_flush.ensures c.in_default.is) in
    let e = c.flush-count.ensures.value in
    omega arith
