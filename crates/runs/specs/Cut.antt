-- Cuts: which calls of a list count. Assumes nothing.
use Rattle.std.specs.Prelude.{ℕ, zero, suc, min, Bool, true, false, cond, List, [], ◌∷◌, ◌++◌}
use Rattle.rules.specs.World.{Call}
use Rattle.rules.specs.World as call

-- how the call counts that an end is cut inside: "made or not made, a flush as one of any smaller budget"
pub data Running : Type 0 where
  not_made : Running
  made : Running
  budget : ℕ → Running

-- an end is cut once this many calls of the list have begun, inside its next call of those that follow; or it is not
-- cut
pub data EndCut : Type 0 where
  uncut : EndCut
  after : ℕ → Running → EndCut

-- "at either end or both"
pub record Cut : Type 0 where
  pub primary : EndCut
  pub standby : EndCut

abbrev pub is_primarys : Call → Bool
is_primarys (call.memory_write page offset bytes) = true
is_primarys (call.disk_write block bytes) = true
is_primarys (call.packet port bytes) = true
is_primarys (call.checkpoint processor) = true
is_primarys (call.drain n destination) = true
is_primarys (call.ack n) = true
is_primarys (call.take port destination) = true
is_primarys call.primary_tick = true
is_primarys call.primary_sum = true
is_primarys (call.read n reply) = false
is_primarys (call.flush n) = false
is_primarys call.standby_tick = false
is_primarys call.activation = false
is_primarys (call.active_memory_write page offset bytes) = false
is_primarys (call.active_disk_write block bytes) = false
is_primarys (call.standby_sum order) = false

-- a flush cut inside, as one of a smaller budget; no other call has a budget
abbrev pub with_budget : ℕ → Call → List Call
with_budget b (call.memory_write page offset bytes) = []
with_budget b (call.disk_write block bytes) = []
with_budget b (call.packet port bytes) = []
with_budget b (call.checkpoint processor) = []
with_budget b (call.drain n destination) = []
with_budget b (call.ack n) = []
with_budget b (call.take port destination) = []
with_budget b call.primary_tick = []
with_budget b call.primary_sum = []
with_budget b (call.read n reply) = []
with_budget b (call.flush n) = call.flush (min b n) ∷ []
with_budget b call.standby_tick = []
with_budget b call.activation = []
with_budget b (call.active_memory_write page offset bytes) = []
with_budget b (call.active_disk_write block bytes) = []
with_budget b (call.standby_sum order) = []

abbrev pub cut_inside : Running → Call → List Call
cut_inside not_made c = []
cut_inside made c = c ∷ []
cut_inside (budget b) c = with_budget b c

-- what counts of a call of an end, and where the end stands after it: it makes no call after the one that it is cut
-- inside
abbrev pub counted : EndCut → Call → List Call
counted uncut c = c ∷ []
counted (after zero running) c = cut_inside running c
counted (after (suc n) running) c = c ∷ []

abbrev pub after_own : EndCut → EndCut
after_own uncut = uncut
after_own (after zero running) = after zero not_made
after_own (after (suc n) running) = after n running

-- after a call of the other end
abbrev pub after_other : EndCut → EndCut
after_other uncut = uncut
after_other (after zero running) = after zero running
after_other (after (suc n) running) = after n running

-- what counts of one call, and the cut as it stands after it
abbrev pub counted_of : Cut → Call → List Call
counted_of k c = cond (is_primarys c) (counted k.primary c) (counted k.standby c)

abbrev pub cut_after : Cut → Call → Cut
cut_after k c =
    record {
      primary = cond (is_primarys c) (after_own k.primary) (after_other k.primary);
      standby = cond (is_primarys c) (after_other k.standby) (after_own k.standby);
    }

-- the calls that count: each end's up to its cut
abbrev pub counted_calls : Cut → List Call → List Call
counted_calls k [] = []
counted_calls k (c ∷ cs) = counted_of k c ++ counted_calls (cut_after k c) cs
