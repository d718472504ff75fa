-- A host that makes calls through the C interface makes a run: demand 3 is about the words and the buffers that the
-- exported code leaves. Assumes nothing.
use mathlib.Core.Path.{◌≡◌, refl, sym, ap, subst, ◌∙◌}
use mathlib.Core.List.{List, [], ◌∷◌, ◌++◌}
use mathlib.Core.Bool.{Bool, true, false, cond}
use mathlib.Core.Logic.{⊎_elim}
use Prim.Native.Nat.{ℕ, ◌≤◌}
use native.Mathlib.Omega.{arith}
use Rattle.lists.proofs.TestLaws.{by-test, cond-false}
use Rattle.records.specs.Number.{out_of_range}
use Rattle.settings.specs.declared.Settings.{Settings}
use Rattle.rules.specs.World.{StandbyEnd, World, Processor, Call, Buffers, start_number, start_world}
use Rattle.rules.specs.World as call
use Rattle.rules.specs.Step.{Stepped, step}
use Rattle.runs.specs.Plain.{Plain, received_checkpoint, plain_start, plain_step}
use Rattle.runs.specs.Run.{Both, steps, run, start_both}
use Rattle.runs.specs.Demand3.{active, takeover_calls, TakeRight, Holds}
use Rattle.runs.specs.Corollaries.{IsCheckpoint}
use Rattle.runs.proofs.PlainLaws.{run-append}
use Rattle.runs.proofs.Refused.{refused-world}
use Rattle.runs.proofs.Corollaries.{whole}
use Rattle.capi.specs.Word.{answer_number}
use Rattle.capi.specs.PrimaryWords.{primary_words_ok}
use Rattle.capi.specs.StandbyCalls.{LentStandby, is_standby}
use Rattle.capi.specs.PairCalls.{settings_of, start_words_ok}
use Rattle.capi.specs.Host.{Host, host_of, world_of, HasStates, Made, told_outcome, made_step, MadeAll, plain_told, StartMade}
use Rattle.capi.proofs.StepLaws.{memory-write-joined, disk-write-joined, packet-joined, checkpoint-joined, drain-joined, ack-joined, take-joined, primary-tick-joined, primary-sum-joined, read-joined, flush-joined, standby-tick-joined, activation-joined, active-memory-write-joined, active-disk-write-joined, standby-sum-joined, start-joined, primary-same, standby-same}

-- ---- one call

-- it is the step of the world that the words and buffers are, to the world that they then are, with the answer's number
-- and value and the packet that a take hands out; and both words are a state again
pub record MadeStep (h : Host) (c : Call) (answer : ℕ) (filled : List ℕ) (h' : Host) : Type 0 where
  pub is : step (world_of h) c ≡ made_step c answer filled h'
  pub again : HasStates h'

module _ (h : Host) (s : HasStates h) (answer : ℕ) (filled : List ℕ) (h' : Host) where
  -- from the step to the host x that h' is. After a call of the primary the standby's words are those before
  primary-made : {c : Call} {x : Host} → h' ≡ x → x.standby ≡ h.standby → primary_words_ok h'.primary ≡ true
      → step (world_of h) c ≡ made_step c answer filled x → MadeStep h c answer filled h'
  primary-made {c} e same ok is =
      record {
        is = is ∙ ap (made_step c answer filled) (sym e);
        again = record { primary = ok; standby = ap (λ (y : Host). is_standby y.standby) e ∙ ap is_standby same ∙ s.standby };
      }

  -- and after one of the standby the primary's
  standby-made : {c : Call} {x : Host} → h' ≡ x → x.primary ≡ h.primary → is_standby h'.standby ≡ true
      → step (world_of h) c ≡ made_step c answer filled x → MadeStep h c answer filled h'
  standby-made {c} e same ok is =
      record {
        is = is ∙ ap (made_step c answer filled) (sym e);
        again = record { primary = ap (λ (y : Host). primary_words_ok y.primary) e ∙ ap primary_words_ok same ∙ s.primary; standby = ok };
      }

  pub made-step : (c : Call) → Made h c answer filled h' → MadeStep h c answer filled h'
  made-step (call.memory_write page offset bytes) made =
      primary-made made.1 refl (made.0.0.again s.primary)
      (memory-write-joined (world_of h) _ _ _ _ _ _ answer _ s.primary page offset bytes _ _ made.0)
  made-step (call.disk_write block bytes) made =
      primary-made made.1 refl (made.0.0.again s.primary)
      (disk-write-joined (world_of h) _ _ _ _ _ _ answer _ s.primary block bytes _ _ made.0)
  made-step (call.packet port bytes) made =
      primary-made made.1 refl (made.0.0.again s.primary)
      (packet-joined (world_of h) _ _ _ _ _ _ answer _ s.primary port bytes _ made.0)
  made-step (call.checkpoint processor) made =
      primary-made made.1 refl (made.0.0.again s.primary)
      (checkpoint-joined (world_of h) _ _ _ _ _ _ answer _ s.primary processor _ _ made.0)
  made-step (call.drain n destination) made =
      primary-made made.1 refl (made.0.0.again s.primary)
      (drain-joined (world_of h) _ _ _ _ _ _ answer _ s.primary n destination _ _ made.0)
  made-step (call.ack n) made =
      primary-made made.1 refl (made.0.again s.primary) (ack-joined (world_of h) _ _ _ _ _ _ answer _ s.primary n made.0)
  made-step (call.take port destination) made =
      primary-made made.1 refl (made.0.0.again s.primary)
      (take-joined (world_of h) _ _ _ _ _ _ answer _ s.primary port destination _ _ made.0)
  made-step call.primary_tick made =
      primary-made made.1 refl (made.0.again s.primary) (primary-tick-joined (world_of h) _ _ _ _ _ _ answer _ s.primary made.0)
  made-step call.primary_sum made =
      primary-made made.1 refl (ap (λ (x : Host). primary_words_ok x.primary) made.1 ∙ s.primary)
      (primary-sum-joined (world_of h) _ _ _ _ _ _ answer s.primary made.0)
  made-step (call.read n reply) made =
      standby-made made.1 refl (made.0.0.again s.standby)
      (read-joined (world_of h) _ _ _ _ _ _ _ answer _ s.standby n reply _ _ _ _ _ made.0)
  made-step (call.flush n) made =
      standby-made made.1 refl (made.0.0.again s.standby)
      (flush-joined (world_of h) _ _ _ _ _ _ _ answer _ s.standby n _ _ made.0)
  made-step call.standby_tick made =
      standby-made made.1 refl (made.0.0.again s.standby)
      (standby-tick-joined (world_of h) _ _ _ _ _ _ _ answer _ s.standby _ made.0)
  made-step call.activation made =
      standby-made made.1 refl (made.0.0.again s.standby)
      (activation-joined (world_of h) _ _ _ _ _ _ _ answer _ s.standby _ made.0)
  made-step (call.active_memory_write page offset bytes) made =
      standby-made made.1 refl (made.0.0.again s.standby)
      (active-memory-write-joined (world_of h) _ _ _ _ _ _ _ answer _ s.standby page offset bytes _ made.0)
  made-step (call.active_disk_write block bytes) made =
      standby-made made.1 refl (made.0.0.again s.standby)
      (active-disk-write-joined (world_of h) _ _ _ _ _ _ _ answer _ s.standby block bytes _ made.0)
  made-step (call.standby_sum order) made =
      standby-made made.1 refl (ap (λ (x : Host). is_standby x.standby) made.1 ∙ s.standby)
      (standby-sum-joined (world_of h) _ _ _ _ _ _ _ answer order s.standby made.0)

-- ---- a refused call, and one that is cut short, leaves every word and every byte that the host keeps
host-same : (h h' : Host) → HasStates h → HasStates h' → world_of h' ≡ world_of h → h' ≡ h
host-same h h' s s' e =
    let p = primary-same s.primary s'.primary (ap (λ (w : World). w.primary.state) e) in
    let q = standby-same s.standby s'.standby (ap (λ (w : World). w.standby.state) e) in
    λ i. host_of (p i) (e i).primary.memory (e i).primary.disk (e i).primary.dirty (e i).primary.held (e i).primary.stream
    (q i) (e i).standby.memory (e i).standby.disk (e i).standby.staged_pages (e i).standby.staged_marks (e i).standby.staged_blocks (e i).standby.area (e i).link (e i).acks

pub made-refused : (h : Host) (s : HasStates h) (c : Call) (answer : ℕ) (filled : List ℕ) (h' : Host) → Made h c answer filled h'
    → (answer_number answer ≡ 0 → ⊥) → h' ≡ h
made-refused h s c answer filled h' made refused =
    let m = made-step h s answer filled h' c made in
    let n : (step (world_of h) c).outcome.number ≡ answer_number answer = ap (λ (x : Stepped). x.outcome.number) m.is in
    host-same h h' s m.again (sym (ap (λ (x : Stepped). x.next) m.is) ∙ refused-world (world_of h) c (λ z. refused (sym n ∙ z)))

-- ---- calls one after the other: a run from the world before to the world after, in which the plain pair is told the
-- calls, numbers and values that the host was
pub made-run : (u : ℕ) (h : Host) (calls : List Call) (h' : Host) → HasStates h → (all : MadeAll h calls h') → (p : Plain)
    → (run steps u (record { world = world_of h; plain = p }) calls ≡ record { world = world_of h'; plain = plain_told u h calls h' all p }) × HasStates h'
made-run u h [] h' s all p = (ap (λ (x : Host). record { world = world_of x; plain = p }) (sym all), subst HasStates (sym all) s)
made-run u h (c ∷ cs) h' s all p =
    let one = made-step h s all.0 all.1 all.2 c all.3 in
    let rest = made-run u all.2 cs h' one.again all.4 (plain_step u c (told_outcome all.0) p) in
    (ap (λ (x : Stepped). run steps u (record { world = x.next; plain = plain_step u c x.outcome p }) cs) one.is ∙ rest.0, rest.1)

-- ---- start: the host that it leaves is the world after start, and both words are a state
pub start-host : (settings : List ℕ) (processor : Processor) (b : Buffers) (primary : List ℕ) (standby : LentStandby) (answer : ℕ) (h : Host)
    → StartMade settings processor b primary standby answer h → start_words_ok settings primary standby.words ≡ true
    → (world_of h ≡ start_world (settings_of settings) processor b) × (answer_number answer ≡ start_number (settings_of settings) b) × HasStates h
start-host settings processor b primary standby answer h made ok =
    let j = start-joined settings processor b primary standby answer _ _ _ _ _ _ _ ok made.0 in
    (ap world_of made.1 ∙ sym j.0, j.1.number_is, record { primary = made.0.0.again ok; standby = made.0.1.again ok })

-- where the answer's number is 0, the words had the room that start needs
told-zero : (ok : Bool) (word answer : ℕ) → answer ≡ cond ok word out_of_range → answer_number answer ≡ 0 → ok ≡ true
told-zero ok word answer told zero =
    ⊎_elim (λ e. e) (λ none. let one : answer ≡ out_of_range = told ∙ cond-false _ _ _ none in absurd (omega arith)) (by-test ok)

-- ---- demand 3 of a host that makes calls after a start whose answer's number is 0
module _ (settings : List ℕ) (processor : Processor) (b : Buffers) (primary : List ℕ) (standby : LentStandby) (answer : ℕ) (h : Host) (made : StartMade settings processor b primary standby answer h) (zero : answer_number answer ≡ 0) where
  -- the settings, and the plain pair after start
  abbrev g : Settings
  g = settings_of settings

  abbrev plain : Plain
  plain = plain_start b.memory b.disk processor.bytes

  start-made : (world_of h ≡ start_world g processor b) × (answer_number answer ≡ start_number g b) × HasStates h
  start-made = start-host settings processor b primary standby answer h made (told-zero _ _ answer made.0.0.told zero)

  -- the run of the world after start
  start-run : (calls : List Call) (h' : Host) (all : MadeAll h calls h')
      → (run steps g.u (start_both g processor b) calls ≡ record { world = world_of h'; plain = plain_told g.u h calls h' all plain }) × HasStates h'
  start-run calls h' all =
      let r = made-run g.u h calls h' start-made.2 all plain in
      (ap (λ (w : World). run steps g.u (record { world = w; plain = plain }) calls) (sym start-made.0) ∙ r.0, r.1)

  -- after any calls, as many as a cut leaves: all that demand 3 says of the pair there
  pub made-demand-3 : (calls : List Call) (h' : Host) (all : MadeAll h calls h') → Holds steps g (record { world = world_of h'; plain = plain_told g.u h calls h' all plain })
  made-demand-3 calls h' all = subst (Holds steps g) (start-run calls h' all).0 (whole g processor b (sym start-made.1 ∙ zero) calls).end

  -- and of every take among the calls: the packet is the first bytes of its destination
  pub made-takes : (before : List Call) (there : Host) (first : MadeAll h before there)
      → (port : ℕ) (destination : List ℕ) (told : ℕ) (filled : List ℕ) (next : Host) → Made there (call.take port destination) told filled next
      → (later : List Call) (h' : Host) (rest : MadeAll next later h')
      → let p = plain_told g.u h before there first plain in
      TakeRight g.t port p (plain_told g.u next later h' rest (plain_step g.u (call.take port destination) (told_outcome told) p)) (made_step (call.take port destination) told filled next)
  made-takes before there first port destination told filled next one later h' rest =
      let c = call.take port destination in
      let calls = c ∷ later in
      let start = start_both g processor b in
      let to = start-run before there first in
      let p = plain_told g.u h before there first plain in
      let on = made-run g.u there calls h' to.1 (told, filled, next, one, rest) p in
      let all = (whole g processor b (sym start-made.1 ∙ zero) (before ++ calls)).takes before port destination later refl in
      let split = subst (λ (x : Both). TakeRight g.t port (run steps g.u start before).plain x.plain (step (run steps g.u start before).world c)) (run-append steps g.u before calls start) all in
      let here = subst (λ (x : Both). TakeRight g.t port x.plain (run steps g.u x calls).plain (step x.world c)) to.0 split in
      let end = subst (λ (x : Both). TakeRight g.t port p x.plain (step (world_of there) c)) on.0 here in
      subst (TakeRight g.t port p _) (made-step there to.1 told filled next c one).is end

  -- a host that then makes the calls of a takeover has the last wholly received checkpoint at the standby
  pub made-takeover : (calls : List Call) (there : Host) (all : MadeAll h calls there) → active (world_of there) ≡ false
      → (n : ℕ) → (world_of there).standby.state.slots.due ≤ n → (h' : Host) → MadeAll there (takeover_calls g.t n) h'
      → IsCheckpoint (world_of h').standby (received_checkpoint (plain_told g.u h calls there all plain))
  made-takeover calls there all off n due h' rest =
      let t = (made-demand-3 calls there all).takeover off n due in
      let is = (made-run g.u there (takeover_calls g.t n) h' (start-run calls there all).1 rest (plain_told g.u h calls there all plain)).0 in
      let end = ap (λ (x : Both). x.world.standby) (sym is) in
      record {
        memory = ap (λ (x : StandbyEnd). x.memory) end ∙ t.memory;
        disk = ap (λ (x : StandbyEnd). x.disk) end ∙ t.disk;
        processor = ap (λ (x : StandbyEnd). x.state.processor) end ∙ t.processor;
      }
