use Rattle.settings.proofs.RangeLaws.{least-stream}
use Rattle.settings.proofs.stream_ok.Goals as goal

pub returns : goal.returns
returns c =
    let a = c.args in
    rw (least-stream a.u a.m a.b, ← c.is_wide-wide.ensures, c.number_end.ensures, c.checkpoint_end.ensures)
