-- `script::link::read_ack` meets its contract. Assumes nothing.
use mathlib.Core.Path.{◌≡◌, sym, ap, ◌∙◌}
use native.Mathlib.Omega.{arith}
use Rattle.records.specs.Write.{ack_record}
use Rattle.rules.specs.Stream.{ack_reply}
use Rattle.script.proofs.LinkLaws.{ack-done}
use Rattle.script.proofs.link.read_ack.Goals as goal

pub returns : goal.returns
returns c =
    let a = c in
    let bytes : c.ack_bytes.result ≡ ack_record a.args.s.unread = c.ack_bytes.ensures ∙ ap ack_record (sym a.requires.0) in
    c.answered.ensures
    ∙ ack-done a.args.s c.acknowledge-r.result c.after_ack.result
    (omega arith)
    (c.acknowledge-r.ensures.value ∙ ap (ack_reply a.args.s.primary.state) bytes)
    (rw c.used_of.ensures at c.after_ack.ensures)
