-- `trials::counts::longest_of` meets its contract. Assumes nothing.
use Prim.Native.Nat.{ℕ, min}
use mathlib.Core.Path.{◌≡◌, ap, ◌∙◌}
use native.Mathlib.Omega.{arith}
use borrow.Author.Rules.{rules}
use lib.ListN.{length, take}
use Rattle.std.proofs.lemmas.List.{take_min}
use Rattle.trials.specs.Trial.{longest_to}
use Rattle.trials.specs.Site.{trial_of}
use Rattle.trials.proofs.counts.longest_of.Goals as goal

pub returns : goal.returns
unfolding trial_of
returns c =
    let t = c.args.t in
    let l : 64 ≡ length t.sent = search rules in
    let n : c.min-count.result ≡ min t.site.primary.state.queue.count (length t.sent) = omega (arith, c.min-count.ensures) in
    c.most_of.ensures
    ∙ ap (λ (i : ℕ). longest_to t.tick t.most (take i t.sent)) n
    ∙ ap (longest_to t.tick t.most) (take_min t.site.primary.state.queue.count t.sent)
