use Prim.Native.Nat.{◌-◌}
use lib.ListN.{length}
use Rattle.checkpoints.specs.Scan.{numbers_of, places_of}
use Rattle.checkpoints.proofs.ScanLaws.{Scans}
use Rattle.checkpoints.proofs.scan.scan.Given as goal

abbrev pub invariant-loop-r : goal.invariant-loop-r
invariant-loop-r l = Scans l.g l.file (numbers_of l.initial.blocks) (places_of l.initial.blocks) (numbers_of l.blocks) (places_of l.blocks) l.k l.at

abbrev pub decreases-loop-r : goal.decreases-loop-r
decreases-loop-r l = length l.file - l.at
