-- Reads and flushes: by cases, at a standby that receives a checkpoint, and that the last checkpoint received never
-- falls. Assumes nothing.
use Rattle.std.specs.Prelude.{Result, Ok, Err}
use Prim.Native.Nat.{ℕ, ◌+◌, ◌≤◌}
use mathlib.Core.Path.{◌≡◌, refl, sym, ap, subst}
use mathlib.Core.Bool.{Bool, true, false, cond}
use mathlib.Core.List.{List, [], ◌∷◌, ◌++◌}
use native.Mathlib.Omega.{arith}
use lib.Dec.{eqb}
use lib.ListN.{length, take}
use Rattle.records.specs.declared.Reader.TheVariants as reader
use Rattle.records.specs.declared.Record.{Record}
use Rattle.records.specs.declared.Unread.{Unread}
use Rattle.records.specs.declared.Record.TheVariants.{Page, Block, State, Commit, Ack}
use Rattle.records.specs.declared.Unread.TheVariants.{Short, Refused}
use Rattle.records.specs.Kind.{ACK, is_wide, body_length, record_length}
use Rattle.records.specs.Read.{read_record}
use Rattle.records.specs.Message.{Message}
use Rattle.settings.specs.declared.StandbySettings.{StandbySettings}
use Rattle.rules.specs.declared.ReadLent.{ReadLent}
use Rattle.rules.specs.declared.Standby.{Standby}
use Rattle.rules.specs.Judge.{judged}
use Rattle.rules.specs.Read.{read_lent, read_state}
use Rattle.rules.specs.Flush.{flush_refusal, flush_reply}
use Rattle.rules.specs.World.{World, Call}
use Rattle.rules.specs.World as call
use Rattle.rules.specs.Step.{Stepped, step}
use Rattle.rules.proofs.JudgeLaws.{JudgedFacts, judged-facts}
use Rattle.runs.specs.Plain.{Checkpoint}
use Rattle.runs.proofs.RecordSteps.{read_step}
use Rattle.checkpoints.specs.Judge.{Known}
use Rattle.checkpoints.specs.Received.{made, ReadOrFlush, AllReadOrFlush}
use Rattle.checkpoints.proofs.Standing.{Standing}
use Rattle.checkpoints.proofs.StandingFlush.{flush_end, flush-none-refused, flush-standing, flush-step}
use Rattle.checkpoints.proofs.StandingRead.{ReadDone, read_done}

-- a fact of every read and every flush
pub call-cases : (w : World) (P : Call → Type 0) → ((n : ℕ) (reply : List ℕ) → ReadOrFlush w (call.read n reply) → P (call.read n reply)) → ((n : ℕ) → P (call.flush n))
    → (c : Call) → ReadOrFlush w c → P c
call-cases w P reads flushes (call.read n reply) f = reads n reply f
call-cases w P reads flushes (call.flush n) f = flushes n
call-cases w P reads flushes (call.memory_write page offset bytes) f = absurd f
call-cases w P reads flushes (call.disk_write block bytes) f = absurd f
call-cases w P reads flushes (call.packet port bytes) f = absurd f
call-cases w P reads flushes (call.checkpoint processor) f = absurd f
call-cases w P reads flushes (call.drain n destination) f = absurd f
call-cases w P reads flushes (call.ack n) f = absurd f
call-cases w P reads flushes (call.take port destination) f = absurd f
call-cases w P reads flushes call.primary_tick f = absurd f
call-cases w P reads flushes call.primary_sum f = absurd f
call-cases w P reads flushes call.standby_tick f = absurd f
call-cases w P reads flushes call.activation f = absurd f
call-cases w P reads flushes (call.active_memory_write page offset bytes) f = absurd f
call-cases w P reads flushes (call.active_disk_write block bytes) f = absurd f
call-cases w P reads flushes (call.standby_sum order) f = absurd f

-- ---- the last checkpoint received never falls
-- by a read, whatever record is judged
read-grows : (s : Standby) (l : ReadLent) (bytes : List ℕ) (q : Result Record Unread) → JudgedFacts s l bytes q → s.received ≤ (read_state s bytes q).received
read-grows s l bytes (Ok (Page v e p c)) f = omega arith
read-grows s l bytes (Ok (Block e n c)) f = omega arith
read-grows s l bytes (Ok (State e c)) f = omega arith
read-grows s l bytes (Ok (Commit v e p b c)) f = omega (arith, f.tests.epoch-next)
read-grows s l bytes (Ok (Ack e c)) f = absurd f
read-grows s l bytes (Err (Short n)) f = omega arith
read-grows s l bytes (Err (Refused n)) f = omega arith

-- by a flush, accepted or refused
flush-grows : (b : Bool) (s t : Standby) → s.received ≡ t.received → s.received ≤ (cond b t s).received
flush-grows true s t e = omega arith
flush-grows false s t e = omega arith

-- in the world
flush-step-grows : (w : World) (n : ℕ) → w.standby.state.received ≤ (step w (call.flush n)).next.standby.state.received
unfolding step flush_reply
flush-step-grows w n =
    let e = w.standby in
    flush-grows (eqb (flush_refusal e.state (length e.staged_blocks) (length e.disk)) 0) e.state (flush_end e n).state refl

-- by either call
step-grows : (w : World) (c : Call) → ReadOrFlush w c → w.standby.state.received ≤ (step w c).next.standby.state.received
step-grows w = call-cases w (λ (c : Call). w.standby.state.received ≤ (step w c).next.standby.state.received) reads (flush-step-grows w)
  where
    reads : (n : ℕ) (reply : List ℕ) → ReadOrFlush w (call.read n reply) → w.standby.state.received ≤ (step w (call.read n reply)).next.standby.state.received
    reads n reply f =
        let s = w.standby in
        let l = read_lent s.memory s.staged_pages s.staged_marks s.staged_blocks reply in
        subst (λ (t : Stepped). s.state.received ≤ t.next.standby.state.received) (sym (read_step w n reply))
        (read-grows s.state l (take n w.link) (judged s.state l (take n w.link)) (judged-facts s.state l (take n w.link)))

-- ---- a read by which it rises accepts a COMMIT, and so has room for an ACK
commit-room : (s : Standby) (l : ReadLent) (bytes : List ℕ) (q : Result Record Unread) → JudgedFacts s l bytes q → (read_state s bytes q).received ≡ s.received + 1 → 8 ≤ l.reply
commit-room s l bytes (Ok (Page v e p c)) f h = absurd (omega arith)
commit-room s l bytes (Ok (Block e n c)) f h = absurd (omega arith)
commit-room s l bytes (Ok (State e c)) f h = absurd (omega arith)
commit-room s l bytes (Ok (Commit v e p b c)) f h = f.tests.room
commit-room s l bytes (Ok (Ack e c)) f h = absurd f
commit-room s l bytes (Err (Short n)) f h = absurd (omega arith)
commit-room s l bytes (Err (Refused n)) f h = absurd (omega arith)

-- in the world
pub read-room : (w : World) (n : ℕ) (reply : List ℕ) → (step w (call.read n reply)).next.standby.state.received ≡ w.standby.state.received + 1
    → (u : ℕ) → record_length u ACK ≤ length reply
unfolding record_length body_length
read-room w n reply h u =
    let s = w.standby in
    let l = read_lent s.memory s.staged_pages s.staged_marks s.staged_blocks reply in
    commit-room s.state l (take n w.link) (judged s.state l (take n w.link)) (judged-facts s.state l (take n w.link))
    (subst (λ (t : Stepped). t.next.standby.state.received ≡ s.state.received + 1) (read_step w n reply) h)

-- ---- several calls
-- the last of them
pub made-last : (cs : List Call) (c : Call) (w : World) → made w (cs ++ (c ∷ [])) ≡ (step (made w cs) c).next
made-last [] c w = refl
made-last (d ∷ cs) c w = made-last cs c (step w d).next

-- the last checkpoint received never falls by several, of which more may follow
pub made-grows : (cs ds : List Call) (w : World) → AllReadOrFlush w (cs ++ ds) → w.standby.state.received ≤ (made w cs).standby.state.received
made-grows [] ds w f = omega arith
made-grows (c ∷ cs) ds w f = omega (arith, step-grows w c f.0, made-grows cs ds (step w c).next f.1)

-- ---- at a standby that receives a checkpoint
module _ (x : StandbySettings) (base : Checkpoint) (r : ℕ) (k : Known) (ms : List Message) (w : World) (h : Standing x base r k ms w.standby) where
  -- in its own settings
  own : Standing w.standby.state.settings base r k ms w.standby
  own = subst (λ (y : StandbySettings). Standing y base r k ms w.standby) (sym h.settings) h

  -- an accepted read is of the record at the head of the link
  pub read_at : (n : ℕ) (reply : List ℕ) → (step w (call.read n reply)).outcome.number ≡ 0
      → ReadDone x base r k ms w.link (step w (call.read n reply)) (read_record (reader.Standby (is_wide x.m)) x.u w.link)
  read_at n reply z =
      subst (λ (y : StandbySettings). ReadDone y base r k ms w.link (step w (call.read n reply)) (read_record (reader.Standby (is_wide y.m)) y.u w.link)) h.settings
      (read_done base r k ms w own n reply z)

  -- a flush keeps all, and the link
  pub flush-at : (n : ℕ) → Standing x base r k ms (step w (call.flush n)).next.standby × ((step w (call.flush n)).next.link ≡ w.link)
  flush-at n =
      let is = flush-step w n (flush-none-refused base r k ms w.standby own n) in (
        subst (λ (v : World). Standing x base r k ms v.standby) (sym is) (subst (λ (y : StandbySettings). Standing y base r k ms (flush_end w.standby n)) h.settings (flush-standing base r k ms w.standby own n)),
        ap (λ (v : World). v.link) is,
      )
