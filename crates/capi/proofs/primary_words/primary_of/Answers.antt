-- `primary_words::primary_of` meets its contract. Assumes nothing.
use native.Mathlib.Omega.{arith}
use Rattle.capi.specs.PrimaryWords.{primary_of}
use Rattle.capi.proofs.PrimaryWordLaws.{primary-many, primary-field}
use Rattle.capi.proofs.primary_words.primary_of.Goals as goal

pub bounds-w-0 : goal.bounds-w-0
bounds-w-0 c = omega (arith, primary-many _ c.requires)

pub bounds-w-1 : goal.bounds-w-1
bounds-w-1 c = omega (arith, primary-many _ c.requires)

pub bounds-w-2 : goal.bounds-w-2
bounds-w-2 c = omega (arith, primary-many _ c.requires)

pub bounds-w-3 : goal.bounds-w-3
bounds-w-3 c = omega (arith, primary-many _ c.requires)

pub bounds-w-4 : goal.bounds-w-4
bounds-w-4 c = omega (arith, primary-many _ c.requires)

pub bounds-w-5 : goal.bounds-w-5
bounds-w-5 c = omega (arith, primary-many _ c.requires)

pub bounds-w-6 : goal.bounds-w-6
bounds-w-6 c = omega (arith, primary-many _ c.requires)

pub field-requires : goal.field-requires
field-requires c = primary-field _ 6 c.requires (omega arith) (omega arith)

pub bounds-w-7 : goal.bounds-w-7
bounds-w-7 c = omega (arith, primary-many _ c.requires)

pub field-requires-2 : goal.field-requires-2
field-requires-2 c = primary-field _ 7 c.requires (omega arith) (omega arith)

pub bounds-w-14 : goal.bounds-w-14
bounds-w-14 c = omega (arith, primary-many _ c.requires)

pub bounds-w-15 : goal.bounds-w-15
bounds-w-15 c = omega (arith, primary-many _ c.requires)

pub bounds-w-8 : goal.bounds-w-8
bounds-w-8 c = omega (arith, primary-many _ c.requires)

pub field-requires-3 : goal.field-requires-3
field-requires-3 c = primary-field _ 8 c.requires (omega arith) (omega arith)

pub bounds-w-9 : goal.bounds-w-9
bounds-w-9 c = omega (arith, primary-many _ c.requires)

pub field-requires-4 : goal.field-requires-4
field-requires-4 c = primary-field _ 9 c.requires (omega arith) (omega arith)

pub bounds-w-10 : goal.bounds-w-10
bounds-w-10 c = omega (arith, primary-many _ c.requires)

pub bounds-w-11 : goal.bounds-w-11
bounds-w-11 c = omega (arith, primary-many _ c.requires)

pub bounds-w-12 : goal.bounds-w-12
bounds-w-12 c = omega (arith, primary-many _ c.requires)

pub bounds-w-13 : goal.bounds-w-13
bounds-w-13 c = omega (arith, primary-many _ c.requires)

pub returns : goal.returns
unfolding primary_of
returns c = rw (c.field.ensures, c.field-2.ensures, c.field-3.ensures, c.field-4.ensures, c.flag_of.ensures, c.packets_of.ensures, c.numbers_of.ensures)
