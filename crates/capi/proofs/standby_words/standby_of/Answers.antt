-- `standby_words::standby_of` meets its contract. Assumes nothing.
use native.Mathlib.Omega.{arith}
use Rattle.capi.specs.StandbyWords.{standby_of}
use Rattle.capi.proofs.StandbyWordLaws.{standby-many, standby-word-facts, ticks-field}
use Rattle.capi.proofs.standby_words.standby_of.Goals as goal

pub bounds-w-0 : goal.bounds-w-0
bounds-w-0 c = omega (arith, standby-many _ c.requires)

pub bounds-w-1 : goal.bounds-w-1
bounds-w-1 c = omega (arith, standby-many _ c.requires)

pub bounds-w-2 : goal.bounds-w-2
bounds-w-2 c = omega (arith, standby-many _ c.requires)

pub bounds-w-3 : goal.bounds-w-3
bounds-w-3 c = omega (arith, standby-many _ c.requires)

pub bounds-w-4 : goal.bounds-w-4
bounds-w-4 c = omega (arith, standby-many _ c.requires)

pub bounds-w-5 : goal.bounds-w-5
bounds-w-5 c = omega (arith, standby-many _ c.requires)

pub field-requires : goal.field-requires
field-requires c = ticks-field _ 5 c.requires (omega arith) (omega arith)

pub bounds-w-6 : goal.bounds-w-6
bounds-w-6 c = omega (arith, standby-many _ c.requires)

pub field-requires-2 : goal.field-requires-2
field-requires-2 c = ticks-field _ 6 c.requires (omega arith) (omega arith)

pub bounds-w-7 : goal.bounds-w-7
bounds-w-7 c = omega (arith, standby-many _ c.requires)

pub numbers_of-requires : goal.numbers_of-requires
numbers_of-requires c = standby-many _ c.requires

pub bounds-w-9 : goal.bounds-w-9
bounds-w-9 c = omega (arith, standby-many _ c.requires)

pub bounds-w-10 : goal.bounds-w-10
bounds-w-10 c = omega (arith, standby-many _ c.requires)

pub bounds-w-8 : goal.bounds-w-8
bounds-w-8 c = omega (arith, standby-many _ c.requires)

pub field-requires-3 : goal.field-requires-3
field-requires-3 c = (standby-word-facts _ c.requires).received

pub bounds-w-75 : goal.bounds-w-75
bounds-w-75 c = omega (arith, standby-many _ c.requires)

pub bounds-w-76 : goal.bounds-w-76
bounds-w-76 c = omega (arith, standby-many _ c.requires)

pub bounds-w-77 : goal.bounds-w-77
bounds-w-77 c = omega (arith, standby-many _ c.requires)

pub bounds-w-78 : goal.bounds-w-78
bounds-w-78 c = omega (arith, standby-many _ c.requires)

pub bounds-w-79 : goal.bounds-w-79
bounds-w-79 c = omega (arith, standby-many _ c.requires)

pub returns : goal.returns
unfolding standby_of
returns c = rw (c.field.ensures, c.field-2.ensures, c.field-3.ensures, c.flag_of.ensures, c.mode_of.ensures, c.numbers_of.ensures)
