-- `queue::queue_ok` meets its contract. Assumes nothing.
use Rattle.std.proofs.Common.{ap, ◌∙◌}
use Rattle.queue.specs.Seen.{seen_ok}
use Rattle.queue.proofs.SeenLaws.{seen-all}
use Rattle.queue.proofs.queue_ok.Goals as goal

pub returns : goal.returns
returns c =
    let k = c.args.k in
    c.seen_ok.ensures ∙ ap (λ s. seen_ok s k.count k.bytes c.args.epoch c.args.q) c.seen_of-seen.ensures.value ∙ seen-all k _ _ _ c.min.ensures
