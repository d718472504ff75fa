-- Of settings in their ranges no product wraps. Assumes nothing.
use mathlib.Core.Path.{◌≡◌}
use mathlib.Core.Bool.{true}
use Prim.Native.Nat.{◌*◌, ◌^◌, ◌<◌}
use native.Mathlib.Omega.{arith}
use Rattle.settings.specs.declared.Settings.{Settings}
use Rattle.settings.specs.Range.{settings_ok}
use Rattle.settings.proofs.RangeLaws.{settings-facts, memory-bytes, disk-bytes, slots-bytes}

module _ (g : Settings) (ok : settings_ok g ≡ true) where
  pub memory_fits : g.m * g.u < 2 ^ 64
  memory_fits = omega (arith, memory-bytes (settings-facts g ok).shared)

  pub disk_fits : g.d * g.u < 2 ^ 64
  disk_fits = omega (arith, disk-bytes (settings-facts g ok).shared)

  pub slots_fit : g.s * g.u < 2 ^ 64
  slots_fit = let f = settings-facts g ok in omega (arith, slots-bytes f.shared f.slots)
