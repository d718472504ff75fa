-- The standby has one mode. Assumes nothing.
use mathlib.Core.Path.{◌≡◌, refl}
use mathlib.Core.Bool.{true, false, false≢true}
use Rattle.rules.specs.declared.Mode.{Mode}
use Rattle.rules.specs.declared.Mode.TheVariants.{Receiving, TakingOver, Active}
use Rattle.rules.specs.StandbyState.{is_receiving, is_taking_over, is_active}

pub receiving-not-active : (m : Mode) → is_receiving m ≡ true → is_active m ≡ false
receiving-not-active Receiving e = refl
receiving-not-active TakingOver e = absurd (false≢true e)
receiving-not-active Active e = absurd (false≢true e)

pub taking-not-active : (m : Mode) → is_taking_over m ≡ true → is_active m ≡ false
taking-not-active Receiving e = absurd (false≢true e)
taking-not-active TakingOver e = refl
taking-not-active Active e = absurd (false≢true e)

pub taking-not-receiving : (m : Mode) → is_taking_over m ≡ true → is_receiving m ≡ false
taking-not-receiving Receiving e = absurd (false≢true e)
taking-not-receiving TakingOver e = refl
taking-not-receiving Active e = absurd (false≢true e)
