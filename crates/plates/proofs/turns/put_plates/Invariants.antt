-- `plates::turns::put_plates` meets its contract. The loop's invariant: what is printed so far, in front of what the
-- bytes from the place on give, is what all of them give.
use Prim.Native.Nat.{◌-◌}
use lib.ListN.{length}
use Rattle.plates.proofs.PlateLaws.{Turned}
use Rattle.plates.proofs.turns.put_plates.Given as goal

abbrev pub invariant-loop-used : goal.invariant-loop-used
invariant-loop-used l = Turned l.u l.bytes l.initial.out l.at l.out l.next l.place l.used

abbrev pub decreases-loop-used : goal.decreases-loop-used
decreases-loop-used l = length l.bytes - l.place
