-- `primary::writes::with_block_appended` meets its contract. Assumes nothing.
use mathlib.Core.Path.{◌≡◌, sym, ◌∙◌}
use mathlib.Core.Bool.{true, false}
use Prim.Native.Nat.{◌<◌}
use native.Mathlib.Omega.{arith}
use Rattle.settings.proofs.RangeLaws.{block-record}
use Rattle.rules.specs.PrimaryState.{is_written}
use Rattle.rules.proofs.BlocksLaws.{block_room}
use Rattle.rules.proofs.PrimaryFacts.{primary-facts}
use Rattle.primary.proofs.writes.with_block_appended.Goals as goal
use Rattle.primary.proofs.writes.with_block_appended.Goals.{Else-is_in}

-- a block that the epoch did not have is the next of at most B different ones
module _ (c : Else-is_in) where
  new : is_written c.args.p c.args.block ≡ false
  new = sym c.is_in.ensures ∙ c.if-is_in.false

  low : let p = c.args.p in p.blocks < p.settings.b
  low =
      let a = c.args in
      (block_room (is_written a.p a.block) a.p.settings.b a.p.blocks a.p.records c.requires.2).blocks-low new

pub is_in-requires : goal.is_in-requires
is_in-requires c = let f = primary-facts _ c.requires.0 in omega arith

pub overflow_add-next : goal.overflow_add-next
overflow_add-next c = let f = primary-facts _ c.requires.0 in omega arith

pub overflow_add-next-2 : goal.overflow_add-next-2
overflow_add-next-2 c = let f = primary-facts _ c.requires.0 in omega arith

pub overflow_add-next-3 : goal.overflow_add-next-3
overflow_add-next-3 c = let f = primary-facts _ c.requires.0 in omega arith

pub returns-then-is_in : goal.returns-then-is_in
returns-then-is_in c =
    let a = c.args in
    let e : is_written a.p a.block ≡ true = sym c.is_in.ensures ∙ c.if-is_in.true in
    rw (e, block-record)

pub offset_bounds-next-p : goal.offset_bounds-next-p
offset_bounds-next-p c = let f = primary-facts _ c.requires.0 in omega arith

pub bounds-next-p : goal.bounds-next-p
bounds-next-p c = let f = primary-facts _ c.requires.0 in omega (arith, low (goal.at.bounds-next-p c).Else-is_in)

pub overflow_add-next-4 : goal.overflow_add-next-4
overflow_add-next-4 c = let f = primary-facts _ c.requires.0 in omega arith

pub returns : goal.returns
returns c = rw (new (goal.at.returns c).Else-is_in, block-record)
