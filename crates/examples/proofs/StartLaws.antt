-- What an accepted start gives the primary, in the examples' terms. Assumes nothing.
use mathlib.Core.Path.{◌≡◌, ap}
use mathlib.Core.Bool.{true}
use Rattle.settings.specs.declared.Settings.{Settings}
use Rattle.settings.specs.Range.{settings_ok}
use Rattle.rules.specs.declared.Started.{Started}
use Rattle.rules.specs.Start.{start_lent_ok, start_refusal, opened_primary}
use Rattle.rules.specs.World.{Processor, Buffers, start_lent, start_number, start_world}
use Rattle.rules.proofs.StartLaws.{StartLentFacts, start-accepted, started-accepted}

module _ (g : Settings) (b : Buffers) (h : start_number g b ≡ 0) where
  pub opened : (c : Processor) → (start_world g c b).primary.state ≡ opened_primary g
  unfolding start_world
  opened c = ap (λ (s : Started). s.primary) (started-accepted g (start_lent b) c.bytes h)

  pub lent : StartLentFacts g (start_lent b)
  lent = (start-accepted g (start_lent b) h).lent

-- settings in range and buffers of the lengths that they ask are accepted
pub starts : (g : Settings) (b : Buffers) → settings_ok g ≡ true → start_lent_ok g (start_lent b) ≡ true → start_number g b ≡ 0
unfolding start_refusal
starts g b p q = simp (p, q)
