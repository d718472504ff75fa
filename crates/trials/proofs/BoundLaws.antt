-- The bounds of reading, of ACKs and of takes are enough: each turn uses up what the bound counts. Assumes nothing.
use Rattle.std.specs.Prelude.{Result, Err}
use Prim.Native.Nat.{ℕ, suc, ◌-◌, ◌<◌, min}
use mathlib.Core.Path.{◌≡◌, refl, ap, ◌∙◌}
use mathlib.Core.Bool.{Bool, true, false, cond}
use mathlib.Core.List.{List}
use native.Mathlib.Omega.{arith}
use lib.Dec.{eqb}
use lib.ListN.{length, take, replicate, length-drop, length-take}
use borrow.Author.Tests.{eqb-true, eqb-false, not-true}
use Rattle.records.specs.declared.Record.{Record}
use Rattle.records.specs.declared.Unread.{Unread}
use Rattle.records.specs.declared.Unread.TheVariants.{Refused}
use Rattle.records.specs.declared.Reader.{Reader}
use Rattle.records.specs.declared.Reader.TheVariants as reader
use Rattle.records.specs.Kind.{record_length}
use Rattle.records.specs.Read.{read_record}
use Rattle.records.specs.Number.{out_of_range, wrong_mode}
use Rattle.records.proofs.ReadLaws.{found-cases, ReadFacts, found-facts, read-facts, refused-number}
use Rattle.rules.specs.declared.Primary.{Primary}
use Rattle.rules.specs.declared.Standby.{Standby}
use Rattle.rules.specs.declared.ReadLent.{ReadLent}
use Rattle.rules.specs.PrimaryState.{primary_ok, protected}
use Rattle.rules.specs.Reply.{number_of, used_of, answer_of, unless_refused}
use Rattle.rules.specs.Stream.{ack_refusal, ack_judged, ack_reply}
use Rattle.rules.specs.Judge.{reader_of}
use Rattle.rules.specs.Read.{read_lent, read_reply}
use Rattle.rules.specs.World.{Call}
use Rattle.rules.specs.World as call
use Rattle.rules.specs.Step.{step}
use Rattle.rules.proofs.ReplyLaws.{unless-cases, answers}
use Rattle.rules.proofs.JudgeLaws.{judged-cases}
use Rattle.text.specs.Line.{is_empty}
use Rattle.script.specs.Command.{letter_m, letter_a, letter_t}
use Rattle.script.specs.Pair.{ack_bytes, most_lent, used_port}
use Rattle.script.proofs.LinkLaws.{used-inside}
use Rattle.trials.specs.Trial.{Trial, with_world, with_taken}
use Rattle.trials.specs.Trial as course
use Rattle.trials.specs.Part.{Part, must_note, whilst, bounded}
use Rattle.trials.specs.Tick.{read_call, reads_on, read_turn, acks_unread, ack_turn, take_call, may_take, take_turn}
use Rattle.trials.specs.Runs.{Enough, EveryBound}
use Rattle.trials.proofs.PartLaws.{bound-enough, bound-done}
use Rattle.trials.proofs.QueueLaws.{held_count, step-take}

-- ---- a record that is accepted uses bytes
abbrev Uses : Result Record Unread → Type 0
Uses r = number_of (answer_of r) ≡ 0 → 0 < used_of (answer_of r)

uses-refused : (n : ℕ) → (n ≡ 0 → ⊥) → Uses (Err (Refused n))
uses-refused n h e = absurd (h e)

uses-read : (reader : Reader) (u : ℕ) (s : List ℕ) → Uses (read_record reader u s)
unfolding record_length
uses-read reader u s =
    found-cases (λ r. ReadFacts reader u s r → Uses r)
    (λ r h f e. let g = found-facts reader u s r h f in let k = (answers r).used_is in omega (arith, g.used))
    (λ n f e. absurd (omega arith))
    (λ n f e. let h = refused-number u n f in absurd (omega arith))
    (read_record reader u s) (read-facts reader u s)

read-uses : (s : Standby) (l : ReadLent) (bytes : List ℕ) → number_of (read_reply s l bytes).answer ≡ 0 → 0 < used_of (read_reply s l bytes).answer
unfolding read_reply
read-uses s l bytes = judged-cases s l bytes Uses (λ n h. uses-refused n (λ e. omega arith)) (λ ready z. uses-read (reader_of s) s.settings.u bytes)

ack-uses : (p : Primary) (bytes : List ℕ) → number_of (ack_reply p bytes).answer ≡ 0 → 0 < used_of (ack_reply p bytes).answer
unfolding ack_reply ack_judged
ack-uses p bytes = go (primary_ok p) (protected p)
  where
    read : Result Record Unread
    read = read_record reader.Primary p.settings.u bytes

    go : (a b : Bool) → Uses (cond a (cond b (unless_refused (ack_refusal p read) read) (Err (Refused wrong_mode))) (Err (Refused out_of_range)))
    go false b = uses-refused out_of_range (λ e. omega arith)
    go true false = uses-refused wrong_mode (λ e. omega arith)
    go true true = unless-cases (ack_refusal p read) read Uses (λ z. uses-read reader.Primary p.settings.u bytes) (λ z. uses-refused (ack_refusal p read) z)

-- ---- a trial that goes on after a call that must be accepted
module _ (letter : ℕ) (c : Trial → Call) (f : Trial → Trial) (t next : Trial) (e : (must_note letter c f).course t ≡ course.on next) where
  abbrev number : ℕ
  number = (step t.world (c t)).outcome.number

  abbrev after : Trial
  after = f (with_world t (step t.world (c t)).next)

  by_number : (b : Bool) → eqb number 0 ≡ b → cond b (course.on after) (course.ended (with_world t (step t.world (c t)).next) letter (step t.world (c t)).outcome) ≡ course.on next
      → (number ≡ 0) × (next ≡ after)
  by_number true h q = (eqb-true number 0 h, same q)
    where
      same : course.on after ≡ course.on next → next ≡ after
      same z = cc
  by_number false h q = absurd (never q)
    where
      never : course.ended (with_world t (step t.world (c t)).next) letter (step t.world (c t)).outcome ≡ course.on next → ⊥
      never z = let y : ◌≡◌ {A = ℕ} 0 1 = cc in omega arith

  pub must-on : (number ≡ 0) × (next ≡ after)
  must-on = by_number (eqb number 0) refl e

-- ---- each turn uses up what is counted
less-read : (t next : Trial) → reads_on t ≡ true → read_turn.course t ≡ course.on next → length next.world.link < length t.world.link
unfolding step
less-read t next h e =
    let m = must-on letter_m read_call (λ u. u) t next e in
    let s = t.world.standby in
    let l = read_lent s.memory s.staged_pages s.staged_marks s.staged_blocks (replicate ack_bytes 0) in
    let bytes = take (length t.world.link) t.world.link in
    let r = read_reply s.state l bytes in
    let u = read-uses s.state l bytes m.0 in
    let i = used-inside s.state l bytes in
    let b : length bytes ≡ min (length t.world.link) (length t.world.link) = length-take (length t.world.link) t.world.link in
    let d : length next.world.link ≡ length t.world.link - used_of r.answer =
    ap (λ (x : Trial). length x.world.link) m.1 ∙ length-drop (used_of r.answer) t.world.link in
    omega arith

less-ack : (t next : Trial) → acks_unread t ≡ true → ack_turn.course t ≡ course.on next → length next.world.acks < length t.world.acks
unfolding step
less-ack t next h e =
    let m = must-on letter_a (λ u. call.ack ack_bytes) (λ u. u) t next e in
    let p = t.world.primary.state in
    let r = ack_reply p (take ack_bytes t.world.acks) in
    let u = ack-uses p (take ack_bytes t.world.acks) m.0 in
    let some : length t.world.acks ≡ 0 → ⊥ = eqb-false _ _ (not-true (is_empty t.world.acks) h) in
    let d : length next.world.acks ≡ length t.world.acks - used_of r.answer =
    ap (λ (x : Trial). length x.world.acks) m.1 ∙ length-drop (used_of r.answer) t.world.acks in
    omega arith

less-take : (t next : Trial) → may_take t ≡ true → take_turn.course t ≡ course.on next → held_count next.world < held_count t.world
less-take t next h e =
    let m = must-on letter_t take_call with_taken t next e in
    let s = step-take t.world used_port (replicate most_lent 0) m.0 in
    let d : held_count next.world ≡ held_count t.world - 1 = ap (λ (x : Trial). held_count x.world) m.1 ∙ s.1 in
    omega (arith, s.0)

-- ---- so the bound of each, one more than is counted, is enough
module _ (test : Trial → Bool) (turn : Part) (size : Trial → ℕ) (less : (t next : Trial) → test t ≡ true → turn.course t ≡ course.on next → size next < size t) (t : Trial) where
  enough : Enough test turn size (bounded (λ u. suc (size u)) (whilst test turn)) t
  enough =
      record {
        same = λ n h. bound-enough test turn size less (suc (size t)) n (omega arith) t (omega arith);
        until = λ v e. bound-done test turn size less (suc (size t)) t v (omega arith) e;
      }

pub bounds-enough : EveryBound
bounds-enough t =
    record {
      reading_bound = enough reads_on read_turn (λ u. length u.world.link) less-read t;
      acks_bound = enough acks_unread ack_turn (λ u. length u.world.acks) less-ack t;
      takes_bound = enough may_take take_turn (λ u. u.world.primary.state.queue.count) less-take t;
    }
