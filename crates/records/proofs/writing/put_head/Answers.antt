use Rattle.records.proofs.WriteLaws.{put-fields}
use Rattle.records.proofs.writing.put_head.Goals as goal

pub returns : goal.returns
returns c = cc (put-fields c.args.n c.args.kind c.args.epoch c.args.out.now c.requires)
