-- What keeping a record requires of what is kept. Assumes nothing.
use Rattle.std.specs.Prelude.{ℕ, ◌+◌, ◌^◌, ◌≤◌, ◌<◌, List, length, Result}
use Rattle.records.specs.declared.Record.{Record}
use Rattle.records.specs.declared.Unread.{Unread}
use Rattle.records.specs.Cases.{by_kind}
use Rattle.checkpoints.specs.declared.Counts.{Counts}
use Rattle.checkpoints.specs.Scan.{slot_in}

-- a BLOCK has a slot in both arrays, and the position of its bytes is a number
abbrev pub BlockFits : Counts → (numbers places : List ℕ) → (n place : ℕ) → Type 0
BlockFits k numbers places n place =
    (k.blocks ≤ length numbers) × (slot_in k.blocks numbers n < length numbers) × (slot_in k.blocks numbers n < length places) × (place < 2 ^ 64)

-- the counts can grow
pub record TurnFits (k : Counts) (numbers places : List ℕ) (at : ℕ) (r : Result Record Unread) : Type 0 where
  pub blocks : k.blocks + 1 < 2 ^ 64
  pub records : k.records + 1 < 2 ^ 64
  pub pages : k.pages + 1 < 2 ^ 64
  pub fits : by_kind r (λ e p c. p + 1 < 2 ^ 64) (λ e n c. BlockFits k numbers places n (at + c.start)) (λ e c. Unit {0}) (λ e p b c. Unit {0}) (Unit {0})
