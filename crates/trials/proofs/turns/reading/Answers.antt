-- `trials::turns::reading` meets its contract. Assumes nothing.
use Prim.Native.Nat.{ℕ, suc}
use mathlib.Core.Path.{sym, ap, ◌∙◌}
use Rattle.script.proofs.SiteLaws.{lengths}
use Rattle.script.proofs.LinkLaws.{length-link}
use Rattle.trials.specs.Part.{whilst}
use Rattle.trials.specs.Tick.{reads_on, read_turn}
use Rattle.trials.specs.Site.{trial_of}
use Rattle.trials.proofs.turns.reading.Goals as goal

pub returns : goal.returns
unfolding trial_of
returns c =
    let s = c.args.t.site in
    let length-is = c.in_link.ensures ∙ sym (length-link s (sym (lengths s _ c.well_formed.0.1.1.1.1.0).link)) in
    c.repeat.ensures reads_on read_turn (λ u r p. p.1)
    ∙ ap (λ (n : ℕ). (whilst reads_on read_turn (suc n)).course (trial_of c.args.t)) length-is
