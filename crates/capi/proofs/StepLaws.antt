-- What each call's contract says is the step rules' clause of it, on the world that has this end with these words and
-- buffers: one equation of all that a step leaves. Assumes nothing.
use Rattle.std.specs.Prelude.{Result, Ok, Err}
use mathlib.Core.Path.{◌≡◌, refl, sym, ap, subst, ◌∙◌}
use mathlib.Core.List.{List, [], ◌++◌}
use mathlib.Core.Bool.{Bool, true, false, cond}
use Prim.Native.Nat.{ℕ}
use native.Mathlib.Omega.{arith}
use lib.ListN.{length, take, drop, get_or}
use Rattle.lists.proofs.TestLaws.{cond-true, cond-false}
use Rattle.records.specs.Number.{out_of_range}
use Rattle.records.specs.Kind.{body_length, record_length}
use Rattle.settings.specs.Range.{settings_ok}
use Rattle.settings.proofs.RangeLaws.{settings-facts}
use Rattle.rules.specs.declared.Primary.{Primary}
use Rattle.rules.specs.declared.Standby.{Standby}
use Rattle.rules.specs.Start.{started}
use Rattle.rules.specs.Stream.{ack_reply}
use Rattle.rules.specs.Read.{read_lent, read_reply}
use Rattle.rules.specs.PrimaryWrites.{memory_write_refusal, memory_write_reply}
use Rattle.rules.proofs.ReplyLaws.{pick-cases}
use Rattle.rules.proofs.SumLaws.{primary-sum-state, standby-sum-state}
use Rattle.rules.specs.Choose.{choice_of, choice_number, disk_of}
use Rattle.records.specs.declared.refusal.Refusal.{Refusal}
use Rattle.rules.specs.declared.Disk.{Disk}
use Rattle.rules.specs.declared.Disk.TheVariants.{PrimaryDisk, StandbyDisk}
use Rattle.rules.specs.World.{World, Processor, Buffers, start_lent, start_number, start_world}
use Rattle.rules.specs.World as call
use Rattle.rules.specs.Step.{step, outcome, at_primary, at_standby}
use Rattle.capi.specs.Word.{reply_word, answer_number, answer_used, answer_value, Leaves}
use Rattle.capi.specs.PrimaryWords.{primary_words, primary_words_ok, primary_of}
use Rattle.capi.specs.StandbyWords.{standby_words, standby_of}
use Rattle.capi.specs.PrimaryCalls.{PrimaryDone, MemoryWriteDone, DiskWriteDone, PacketDone, CheckpointDone, DrainDone, AckDone, TakeDone, PrimaryTickDone, PrimarySumDone}
use Rattle.capi.specs.StandbyCalls.{LentStandby, as_lent, is_standby, standby_in, StandbyDone, ReadDone, FlushDone, StandbyTickDone, ActivationDone, ActiveMemoryWriteDone, ActiveDiskWriteDone, StandbySumDone}
use Rattle.capi.specs.PairCalls.{settings_of, start_words_ok, StartDone, choice_word}
use Rattle.capi.specs.Joined.{primary_end, standby_end, with_link, with_acks, told_step, ack_sent}
use Rattle.capi.proofs.PrimaryWordLaws.{primary-words-again}
use Rattle.capi.proofs.StandbyWordLaws.{standby-words-again}
use Rattle.capi.proofs.AnswerLaws.{ReplyFits, Parts, reply-parts, record-parts, memory-write-fits, disk-write-fits, packet-fits, checkpoint-fits, drain-fits, ack-fits, take-fits, primary-tick-fits, primary-sum-fits, read_fits, flush-fits, standby-tick-fits, activation-fits, active-memory-write-fits, active-disk-write-fits, standby-sum-fits, start_fits, choice-fits}

-- ---- what every call leaves, where it is lent a state

-- the state of the words after it is the next one, and the answer's parts are those of the reply
pub record Told {S : Type 0} (after next : S) (answer n u m v : ℕ) : Type 0 where
  pub state : after ≡ next
  pub parts : Parts answer n u m v

module _ {word n u m v answer : ℕ} (parts : Parts word n u m v) where
  parts-told : {ok : Bool} → ok ≡ true → answer ≡ cond ok word out_of_range → Parts answer n u m v
  parts-told ok told = subst (λ (x : ℕ). Parts x n u m v) (sym (told ∙ cond-true _ _ _ ok)) parts

  primary-answered : {ok : Bool} {w w' : List ℕ} {next : Primary} → ok ≡ true → PrimaryDone ok w next word answer w' → Told (primary_of w') next answer n u m v
  primary-answered ok done = record { state = done.same ok; parts = parts-told ok done.told }

  standby-answered : {ok : Bool} {w w' : LentStandby} {next : Standby} → ok ≡ true → StandbyDone ok w next word answer w' → Told (standby_in w') next answer n u m v
  standby-answered ok done = record { state = done.same ok; parts = parts-told ok done.told }

-- of a call that reads no record
module _ {n v answer : ℕ} (fits : ReplyFits n v) where
  pub primary-told : {ok : Bool} {w w' : List ℕ} {next : Primary} → ok ≡ true → PrimaryDone ok w next (reply_word n v) answer w' → Told (primary_of w') next answer n 0 0 v
  primary-told = primary-answered (reply-parts fits)

  pub standby-told : {ok : Bool} {w w' : LentStandby} {next : Standby} → ok ≡ true → StandbyDone ok w next (reply_word n v) answer w' → Told (standby_in w') next answer n 0 0 v
  standby-told = standby-answered (reply-parts fits)

-- ---- the primary's calls: the end that a call leaves has the words and the buffers after it
module _ (κ : World) (w memory disk dirty held stream : List ℕ) (answer : ℕ) (w' : List ℕ) (ok : primary_words_ok w ≡ true) where
  pub memory-write-joined : (page offset : ℕ) (bytes memory' dirty' : List ℕ) → MemoryWriteDone w memory dirty page offset bytes answer w' memory' dirty'
      → step (at_primary κ (primary_end w memory disk dirty held stream)) (call.memory_write page offset bytes)
      ≡ told_step (at_primary κ (primary_end w' memory' disk dirty' held stream)) answer
  unfolding step
  memory-write-joined page offset bytes memory' dirty' done =
      let t = primary-told (memory-write-fits w ok _ _ page offset _) ok done.0 in
      rw (t.state, t.parts.number_is, t.parts.value_is, done.1, done.2, ok)

  pub disk-write-joined : (block : ℕ) (bytes disk' stream' : List ℕ) → DiskWriteDone w disk stream block bytes answer w' disk' stream'
      → step (at_primary κ (primary_end w memory disk dirty held stream)) (call.disk_write block bytes)
      ≡ told_step (at_primary κ (primary_end w' memory disk' dirty held stream')) answer
  unfolding step
  disk-write-joined block bytes disk' stream' done =
      let t = primary-told (disk-write-fits w ok _ _ block _) ok done.0 in
      rw (t.state, t.parts.number_is, t.parts.value_is, done.1, done.2, ok)

  pub packet-joined : (port : ℕ) (bytes held' : List ℕ) → PacketDone w held port bytes answer w' held'
      → step (at_primary κ (primary_end w memory disk dirty held stream)) (call.packet port bytes)
      ≡ told_step (at_primary κ (primary_end w' memory disk dirty held' stream)) answer
  unfolding step
  packet-joined port bytes held' done =
      let t = primary-told (packet-fits (primary_of w) _ port _) ok done.0 in
      rw (t.state, t.parts.number_is, t.parts.value_is, done.1, ok)

  pub checkpoint-joined : (processor : Processor) (dirty' stream' : List ℕ) → CheckpointDone w memory dirty stream processor.bytes answer w' dirty' stream'
      → step (at_primary κ (primary_end w memory disk dirty held stream)) (call.checkpoint processor)
      ≡ told_step (at_primary κ (primary_end w' memory disk dirty' held stream')) answer
  unfolding step
  checkpoint-joined processor dirty' stream' done =
      let t = primary-told (checkpoint-fits w ok _ _ _ _) ok done.0 in
      rw (t.state, t.parts.number_is, t.parts.value_is, done.1, done.2, ok)

  -- the link gets the first bytes of the destination, as many as the value says
  pub drain-joined : (n : ℕ) (destination stream' destination' : List ℕ) → DrainDone w stream n destination answer w' stream' destination'
      → step (at_primary κ (primary_end w memory disk dirty held stream)) (call.drain n destination)
      ≡ told_step (with_link (at_primary κ (primary_end w' memory disk dirty held stream')) (κ.link ++ take (answer_value answer) destination')) answer
  unfolding step
  drain-joined n destination stream' destination' done =
      let t = primary-told (drain-fits (primary_of w) _ n _) ok done.0 in
      rw (t.state, t.parts.number_is, t.parts.value_is, done.1, done.2, ok)

  -- the bytes used leave the ACKs
  pub ack-joined : (n : ℕ) → AckDone w (take n κ.acks) answer w'
      → step (at_primary κ (primary_end w memory disk dirty held stream)) (call.ack n)
      ≡ told_step (with_acks (at_primary κ (primary_end w' memory disk dirty held stream)) (drop (answer_used answer) κ.acks)) answer
  unfolding step
  ack-joined n done =
      let bytes = take n κ.acks in
      let t = primary-answered (record-parts (ack_reply (primary_of w) bytes).answer (ack-fits w ok bytes)) ok done in
      rw (t.state, t.parts.used_is, t.parts.number_is, t.parts.value_is)

  -- the packet is the first bytes of the destination, as many as the value says
  pub take-joined : (port : ℕ) (destination held' destination' : List ℕ) → TakeDone w held port destination answer w' held' destination'
      → step (at_primary κ (primary_end w memory disk dirty held stream)) (call.take port destination)
      ≡ record { next = at_primary κ (primary_end w' memory disk dirty held' stream); outcome = outcome (answer_number answer) (answer_value answer); handed = take (answer_value answer) destination' }
  unfolding step
  take-joined port destination held' destination' done =
      let t = primary-told (take-fits w ok _ port _) ok done.0 in
      rw (t.state, t.parts.number_is, t.parts.value_is, done.1, done.2, ok)

  pub primary-tick-joined : PrimaryTickDone w answer w'
      → step (at_primary κ (primary_end w memory disk dirty held stream)) call.primary_tick
      ≡ told_step (at_primary κ (primary_end w' memory disk dirty held stream)) answer
  unfolding step
  primary-tick-joined done =
      let t = primary-told (primary-tick-fits (primary_of w)) ok done in
      rw (t.state, t.parts.number_is, t.parts.value_is)

-- a sum leaves the words and the buffers
pub primary-sum-joined : (κ : World) (w memory disk dirty held stream : List ℕ) (answer : ℕ) → primary_words_ok w ≡ true → PrimarySumDone w memory answer
    → step (at_primary κ (primary_end w memory disk dirty held stream)) call.primary_sum
    ≡ told_step (at_primary κ (primary_end w memory disk dirty held stream)) answer
unfolding step
primary-sum-joined κ w memory disk dirty held stream answer ok done =
    let t = parts-told (reply-parts (primary-sum-fits (primary_of w) memory)) ok done in
    rw (primary-sum-state (primary_of w) memory, t.number_is, t.value_is)

-- ---- the standby's calls
module _ (κ : World) (w : LentStandby) (memory disk pages marks blocks area : List ℕ) (answer : ℕ) (w' : LentStandby) (ok : is_standby w ≡ true) where
  -- the bytes used leave the link, and the ACK of an accepted COMMIT is sent back
  pub read-joined : (n : ℕ) (reply memory' pages' marks' blocks' reply' : List ℕ) → ReadDone w memory pages marks blocks (take n κ.link) reply answer w' memory' pages' marks' blocks' reply'
      → step (at_standby κ (standby_end w memory disk pages marks blocks area)) (call.read n reply)
      ≡ told_step (with_acks (with_link (at_standby κ (standby_end w' memory' disk pages' marks' blocks' area)) (drop (answer_used answer) κ.link)) (κ.acks ++ ack_sent answer reply')) answer
  unfolding step record_length body_length
  read-joined n reply memory' pages' marks' blocks' reply' done =
      let l = read_lent memory pages marks blocks reply in
      let bytes = take n κ.link in
      let t = standby-answered (record-parts (read_reply (standby_in w) l bytes).answer (read_fits (standby_in w) l bytes)) ok done.0 in
      rw (t.state, t.parts.used_is, t.parts.number_is, t.parts.value_is, done.1, done.2, done.3, done.4, done.5, ok)

  pub flush-joined : (n : ℕ) (blocks' disk' : List ℕ) → FlushDone w blocks disk n answer w' blocks' disk'
      → step (at_standby κ (standby_end w memory disk pages marks blocks area)) (call.flush n)
      ≡ told_step (at_standby κ (standby_end w' memory disk' pages marks blocks' area)) answer
  unfolding step
  flush-joined n blocks' disk' done =
      let t = standby-told (flush-fits (standby_in w) _ _ n) ok done.0 in
      rw (t.state, t.parts.number_is, t.parts.value_is, done.1, done.2, ok)

  pub standby-tick-joined : (marks' : List ℕ) → StandbyTickDone w marks answer w' marks'
      → step (at_standby κ (standby_end w memory disk pages marks blocks area)) call.standby_tick
      ≡ told_step (at_standby κ (standby_end w' memory disk pages marks' blocks area)) answer
  unfolding step
  standby-tick-joined marks' done =
      let t = standby-told (standby-tick-fits (standby_in w) _) ok done.0 in
      rw (t.state, t.parts.number_is, t.parts.value_is, done.1, ok)

  pub activation-joined : (area' : List ℕ) → ActivationDone w area answer w' area'
      → step (at_standby κ (standby_end w memory disk pages marks blocks area)) call.activation
      ≡ told_step (at_standby κ (standby_end w' memory disk pages marks blocks area')) answer
  unfolding step
  activation-joined area' done =
      let t = standby-told (activation-fits _ _ _ ok _) ok done.0 in
      rw (t.state, t.parts.number_is, t.parts.value_is, done.1, ok)

  pub active-memory-write-joined : (page offset : ℕ) (bytes memory' : List ℕ) → ActiveMemoryWriteDone w memory page offset bytes answer w' memory'
      → step (at_standby κ (standby_end w memory disk pages marks blocks area)) (call.active_memory_write page offset bytes)
      ≡ told_step (at_standby κ (standby_end w' memory' disk pages marks blocks area)) answer
  unfolding step
  active-memory-write-joined page offset bytes memory' done =
      let t = standby-told (active-memory-write-fits _ _ _ ok _ page offset _) ok done.0 in
      rw (t.state, t.parts.number_is, t.parts.value_is, done.1, ok)

  pub active-disk-write-joined : (block : ℕ) (bytes disk' : List ℕ) → ActiveDiskWriteDone w disk block bytes answer w' disk'
      → step (at_standby κ (standby_end w memory disk pages marks blocks area)) (call.active_disk_write block bytes)
      ≡ told_step (at_standby κ (standby_end w' memory disk' pages marks blocks area)) answer
  unfolding step
  active-disk-write-joined block bytes disk' done =
      let t = standby-told (active-disk-write-fits _ _ _ ok _ block _) ok done.0 in
      rw (t.state, t.parts.number_is, t.parts.value_is, done.1, ok)

pub standby-sum-joined : (κ : World) (w : LentStandby) (memory disk pages marks blocks area : List ℕ) (answer : ℕ) (order : List ℕ) → is_standby w ≡ true → StandbySumDone w memory order answer
    → step (at_standby κ (standby_end w memory disk pages marks blocks area)) (call.standby_sum order)
    ≡ told_step (at_standby κ (standby_end w memory disk pages marks blocks area)) answer
unfolding step
standby-sum-joined κ w memory disk pages marks blocks area answer order ok done =
    let t = parts-told (reply-parts (standby-sum-fits (standby_in w) memory order)) ok done in
    rw (standby-sum-state (standby_in w) memory order, t.number_is, t.value_is)

-- ---- start: the world that it leaves, and its answer
pub start-joined : (settings : List ℕ) (processor : Processor) (b : Buffers) (primary : List ℕ) (standby : LentStandby) (answer : ℕ) (dirty' memory' disk' marks' area' primary' : List ℕ) (standby' : LentStandby)
    → start_words_ok settings primary standby.words ≡ true
    → StartDone settings processor.bytes b primary standby answer dirty' memory' disk' marks' area' primary' standby'
    → (start_world (settings_of settings) processor b
    ≡ record {
      primary = primary_end primary' b.memory b.disk dirty' b.held b.stream;
      standby = standby_end standby' memory' disk' b.staged_pages marks' b.staged_blocks area';
      link = [];
      acks = [];
    })
    × Parts answer (start_number (settings_of settings) b) 0 0 0
unfolding start_world started
start-joined settings processor b primary standby answer dirty' memory' disk' marks' area' primary' standby' ok done =
    let fits = start_fits (settings_of settings) (start_lent b) processor.bytes in
    let p = primary-told fits ok done.0 in
    let s = standby-told fits ok done.1 in
    (rw (p.state, s.state, done.2, done.3, done.4, done.5, done.6, ok), p.parts)

-- an accepted T is the word that was given, not what it was cut to
pub patience-kept : (settings : List ℕ) → settings_ok (settings_of settings) ≡ true → (settings_of settings).t ≡ get_or settings 7 0
unfolding settings_of
patience-kept settings e = let f = (settings-facts (settings_of settings) e).t-high in omega arith

-- ---- the disk choice: the word's number, and its value, which is 1 for the primary's disk alone and 2 for the
-- standby's alone
pub record ChoiceJoined (c : Result Disk Refusal) (word : ℕ) : Type 0 where
  pub number_is : answer_number word ≡ choice_number c
  pub value_is : answer_value word ≡ disk_of c
  pub primary : answer_value word ≡ 1 → c ≡ Ok PrimaryDisk
  pub standby : answer_value word ≡ 2 → c ≡ Ok StandbyDisk

pub choice-joined : (primary standby : ℕ) (area : List ℕ) → ChoiceJoined (choice_of primary standby area) (choice_word (choice_of primary standby area))
choice-joined primary standby area =
    let c = choice_of primary standby area in
    let t = reply-parts (choice-fits primary standby area) in
    record { number_is = t.number_is; value_is = t.value_is; primary = λ e. first c (sym t.value_is ∙ e); standby = λ e. second c (sym t.value_is ∙ e) }
  where
    first : (c : Result Disk Refusal) → disk_of c ≡ 1 → c ≡ Ok PrimaryDisk
    first (Ok PrimaryDisk) e = refl
    first (Ok StandbyDisk) e = absurd (omega arith)
    first (Err refusal) e = absurd (omega arith)

    second : (c : Result Disk Refusal) → disk_of c ≡ 2 → c ≡ Ok StandbyDisk
    second (Ok PrimaryDisk) e = absurd (omega arith)
    second (Ok StandbyDisk) e = refl
    second (Err refusal) e = absurd (omega arith)

-- ---- what is lent of a standby's state is one, part by part
lent_same : {w w' : LentStandby} → w'.words ≡ w.words → w'.pending ≡ w.pending → w'.processor ≡ w.processor → w' ≡ w
lent_same a b c = λ i. as_lent (a i) (b i) (c i)

-- ---- words that are no state: the answer is 1, and nothing that is lent changes
module _ {ok : Bool} (none : ok ≡ false) where
  pub leaves_none : (new old after : List ℕ) → Leaves ok new old after → after ≡ old
  leaves_none new old after left = left ∙ cond-false _ _ _ none

  pub primary-none : {w w' : List ℕ} {next : Primary} {word answer : ℕ} → PrimaryDone ok w next word answer w' → (answer ≡ out_of_range) × (w' ≡ w)
  primary-none done = (done.told ∙ cond-false _ _ _ none, leaves_none _ _ _ done.words)

  pub standby-none : {w w' : LentStandby} {next : Standby} {word answer : ℕ} → StandbyDone ok w next word answer w' → (answer ≡ out_of_range) × (w' ≡ w)
  standby-none done = (done.told ∙ cond-false _ _ _ none, lent_same (leaves_none _ _ _ done.words) (leaves_none _ _ _ done.staged) (leaves_none _ _ _ done.kept))

-- ---- words that are read as the same state are the same words
pub primary-same : {w w' : List ℕ} → primary_words_ok w ≡ true → primary_words_ok w' ≡ true → primary_of w' ≡ primary_of w → w' ≡ w
primary-same {w} {w'} ok ok' e = sym (primary-words-again w' ok') ∙ ap primary_words e ∙ primary-words-again w ok

pub standby-same : {w w' : LentStandby} → is_standby w ≡ true → is_standby w' ≡ true → standby_in w' ≡ standby_in w → w' ≡ w
unfolding standby_of
standby-same {w} {w'} ok ok' e =
    lent_same
    (sym (standby-words-again w'.words w'.pending w'.processor ok') ∙ ap standby_words e ∙ standby-words-again w.words w.pending w.processor ok)
    (ap (λ (s : Standby). s.pending) e) (ap (λ (s : Standby). s.processor) e)

-- a memory write leaves the words, accepted or refused: a host may write the memory and its mark itself
pub memory-write-words : (w memory dirty : List ℕ) (page offset : ℕ) (bytes : List ℕ) (answer : ℕ) (w' memory' dirty' : List ℕ) → primary_words_ok w ≡ true
    → MemoryWriteDone w memory dirty page offset bytes answer w' memory' dirty' → w' ≡ w
unfolding memory_write_reply
memory-write-words w memory dirty page offset bytes answer w' memory' dirty' ok done =
    let p = primary_of w in
    let n = memory_write_refusal p (length memory) (length dirty) page offset (length bytes) in
    let t = primary-told (memory-write-fits w ok _ _ page offset _) ok done.0 in
    primary-same ok (done.0.again ok) (t.state ∙ pick-cases (λ (x : Primary). x ≡ p) n p p (λ e. refl) (λ e. refl))
