use Rattle.std.proofs.Common.{arith}
use Rattle.lists.proofs.PartLaws.{length_part}
use Rattle.queue.proofs.hand_out.Goals as goal

pub copy_front-requires : goal.copy_front-requires
copy_front-requires c = rw c.part_of.ensures (omega (arith, length_part c.args.at c.args.n c.args.held.now))
