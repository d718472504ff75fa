-- `script::link::read_reply` meets its contract. Assumes nothing.
use Rattle.records.specs.Kind.{body_length, record_length}
use Rattle.script.proofs.LinkLaws.{box_read, box-reply}
use Rattle.script.proofs.link.read_reply.Goals as goal

pub returns : goal.returns
unfolding record_length body_length
returns c =
    let a = c in
    let r = c.read-r in
    let e = r.ensures in record {
      value = box_read a.args.b _ r.result e.value _ _ _ _ _ e.memory_after e.pages_after e.marks_after e.blocks_after e.reply_after;
      reply_value = box-reply a.args.b _ r.result e.value _ e.reply_after;
    }
