-- A `step` with one clause wrong, and the parts from which the wrong clauses are made. Assumes nothing.
use Prim.Native.Nat.{ℕ}
use mathlib.Core.Bool.{Bool, true, false, ◌&&◌}
use mathlib.Core.List.{List}
use lib.Dec.{eqb}
use Rattle.rules.specs.declared.Primary.{Primary}
use Rattle.rules.specs.declared.Standby.{Standby}
use Rattle.rules.specs.World.{World, Call}
use Rattle.rules.specs.World as call
use Rattle.rules.specs.Step.{Stepped, outcome, at_primary, at_standby, stepped, step}
use Rattle.runs.specs.Plain.{plain_step}
use Rattle.runs.specs.Run.{Steps}

-- which of the sixteen calls it is
abbrev kind_number : Call → ℕ
kind_number (call.memory_write page offset bytes) = 0
kind_number (call.disk_write block bytes) = 1
kind_number (call.packet port bytes) = 2
kind_number (call.checkpoint processor) = 3
kind_number (call.drain n destination) = 4
kind_number (call.ack n) = 5
kind_number (call.take port destination) = 6
kind_number call.primary_tick = 7
kind_number call.primary_sum = 8
kind_number (call.read n reply) = 9
kind_number (call.flush n) = 10
kind_number call.standby_tick = 11
kind_number call.activation = 12
kind_number (call.active_memory_write page offset bytes) = 13
kind_number (call.active_disk_write block bytes) = 14
kind_number (call.standby_sum order) = 15

abbrev pub same_kind : Call → Call → Bool
same_kind c d = eqb (kind_number c) (kind_number d)

-- `step`, but for the calls of a sample's kind: there `wrong` is told the world, the call and what `step` makes of them
abbrev pub instead_of : Call → (World → Call → Stepped → Stepped) → World → Call → Stepped
instead_of sample wrong w c = elim (same_kind c sample) [ true ↦ wrong w c (step w c) | false ↦ step w c ]

-- it stands in `step`'s place, beside document 01's plain pair
abbrev pub wrongly : (World → Call → Stepped) → Steps
wrongly real = record { real = real; plain = plain_step }

-- ---- what a wrong clause answers
abbrev pub accepts : Stepped → Bool
accepts s = eqb s.outcome.number 0

-- an accepted read of a record of this kind
abbrev pub accepts_kind : Stepped → ℕ → Bool
accepts_kind s kind = accepts s && eqb s.outcome.value kind

-- the right answer with another world after it
abbrev pub leaving : Stepped → World → Stepped
leaving s w = record { next = w; outcome = s.outcome; handed = s.handed }

-- the right world with another answer
abbrev pub answering : Stepped → ℕ → ℕ → Stepped
answering s number value = record { next = s.next; outcome = outcome number value; handed = s.handed }

-- nothing done, and a number
abbrev pub refusing : World → ℕ → Stepped
refusing w number = stepped w number 0

-- ---- the parts of a world replaced
abbrev pub primary_with : World → Primary → List ℕ → List ℕ → World
primary_with w state dirty stream =
    let p = w.primary in
    at_primary w (record { state = state; memory = p.memory; disk = p.disk; dirty = dirty; held = p.held; stream = stream })

abbrev pub standby_with : World → Standby → List ℕ → List ℕ → World
standby_with w state memory disk =
    let s = w.standby in
    at_standby w (record { state = state; memory = memory; disk = disk; staged_pages = s.staged_pages; staged_marks = s.staged_marks; staged_blocks = s.staged_blocks; area = s.area })

abbrev pub travelling : World → List ℕ → List ℕ → World
travelling w link acks = record { primary = w.primary; standby = w.standby; link = link; acks = acks }
