-- The answer word cuts nothing off: the number, the bytes used or missing and the value of every call's reply fit their
-- parts of it, and only cut short has its number. At most the lent words are asked to be a state. Assumes nothing.
use Rattle.rules.specs.declared.Accepted.{Accepted}
use Rattle.records.specs.declared.Unread.TheVariants as unread
use Rattle.rules.specs.declared.Reply.{Reply}
use Rattle.std.specs.Prelude.{Result, Ok, Err}
use mathlib.Core.Path.{◌≡◌, refl, sym, subst}
use mathlib.Core.List.{List, [], ◌∷◌}
use mathlib.Core.Bool.{Bool, true, false, cond, ◌&&◌}
use Prim.Native.Nat.{ℕ, ◌+◌, ◌≤◌, ◌<◌}
use native.Mathlib.Omega.{arith}
use borrow.Author.Tests.{ltb-true, eq-eqb, ne_eqb}
use lib.Dec.{eqb, ltb}
use lib.ListN.{length}
use Rattle.lists.specs.Refusal.{Test, refusal, pick}
use Rattle.lists.proofs.TestLaws.{both}
use Rattle.records.specs.Number.{out_of_range, bad_length, wrong_mode}
use Rattle.records.specs.declared.Cursor.{Cursor}
use Rattle.records.specs.declared.Reader.{Reader}
use Rattle.records.specs.declared.Reader.TheVariants as reader
use Rattle.records.specs.declared.Record.{Record}
use Rattle.records.specs.declared.Unread.{Unread}
use Rattle.records.specs.declared.Record.TheVariants.{Page, Block, State, Commit, Ack}
use Rattle.records.specs.declared.Unread.TheVariants.{Short, Refused}
use Rattle.records.specs.declared.Area.{Area}
use Rattle.records.specs.declared.Area.TheVariants.{Zero, Activation, Neither}
use Rattle.records.specs.Area.{area_of, area_length}
use Rattle.records.specs.Read.{read_record, other_refusal, cut_short, kind_of}
use Rattle.records.specs.Read as read
use Rattle.records.proofs.ReadLaws.{ReadRanges, read-ranges, on-ack, found-cases}
use Rattle.settings.specs.declared.Settings.{Settings}
use Rattle.queue.specs.Held.{oldest_at, oldest}
use Rattle.staging.specs.Slot.{flush_count}
use Rattle.sums.specs.Sum.{sum_over, rising}
use Rattle.sums.proofs.SumLaws.{sum_low}
use Rattle.rules.specs.declared.Primary.{Primary}
use Rattle.rules.specs.declared.Standby.{Standby}
use Rattle.rules.specs.declared.ReadLent.{ReadLent}
use Rattle.rules.specs.declared.StartLent.{StartLent}
use Rattle.rules.specs.Reply.{number_of, value_of, used_of, missing_of, unless_refused, answer_of}
use Rattle.rules.specs.PrimaryState.{primary_ok, protected}
use Rattle.rules.specs.StandbyState.{standby_ok, is_receiving}
use Rattle.rules.specs.PrimaryWrites.{memory_write_tests, memory_write_refusal, memory_write_reply, disk_write_tests, disk_write_refusal, disk_write_reply}
use Rattle.rules.specs.Packets.{packet_tests, packet_refusal, packet_reply, take_tests, take_refusal, take_reply}
use Rattle.rules.specs.Checkpoint.{checkpoint_tests, checkpoint_refusal, checkpoint_reply}
use Rattle.rules.specs.Stream.{drain_tests, drain_count, drain_refusal, drain_reply, ack_tests, ack_refusal, ack_judged, ack_reply}
use Rattle.rules.specs.PrimaryTick.{primary_tick_tests, primary_tick_refusal, primary_tick_reply}
use Rattle.rules.specs.Sums.{primary_sum_tests, primary_sum_refusal, primary_sum_reply, standby_sum_tests, standby_sum_refusal, standby_sum_reply}
use Rattle.rules.specs.Judge.{reader_of, read_lent_ok, free_for, page_tests, page_refusal, block_tests, block_refusal, state_tests, state_refusal, commit_tests, commit_refusal, record_refusal, judged}
use Rattle.rules.specs.Read.{read_reply}
use Rattle.rules.specs.Flush.{flush_tests, flush_refusal, flush_reply}
use Rattle.rules.specs.Takeover.{standby_tick_tests, standby_tick_refusal, standby_tick_reply, activation_tests, activation_refusal, activation_reply, active_write_tests, active_memory_write_refusal, active_memory_write_reply, active_disk_write_refusal, active_disk_write_reply}
use Rattle.rules.specs.Start.{start_tests, start_refusal, started}
use Rattle.records.specs.declared.refusal.Refusal.TheVariants.{OutOfRange}
use Rattle.rules.specs.Choose.{area_choice, choice_of, choice_number, disk_of}
use Rattle.rules.proofs.ReplyLaws.{pick-cases, unless-cases, answer-found}
use Rattle.rules.proofs.PrimaryFacts.{primary-facts}
use Rattle.rules.proofs.StandbyFacts.{standby-facts}
use Rattle.rules.proofs.PacketLaws.{packet-accepted}
use Rattle.rules.proofs.StreamLaws.{drain-accepted, ack-epochs}
use Rattle.rules.proofs.FlushLaws.{flush-accepted}
use Rattle.pages.specs.Write.{inside_page}
use Rattle.capi.specs.Word.{answer_word, answer_number, answer_cut_short, answer_used, answer_missing, answer_value, reply_word, record_word}
use Rattle.capi.specs.PrimaryWords.{packets_in, primary_words_ok, primary_of}
use Rattle.capi.specs.StandbyWords.{standby_words_ok, standby_of}
use Rattle.capi.proofs.PrimaryWordLaws.{primary-word-facts, primary-field, packet-length-low}
use Rattle.capi.proofs.StandbyWordLaws.{standby-word-facts}

-- ---- the word's parts

-- what the caller takes out of a word: the number, the bytes used, those missing, and the value
pub record Parts (word n u m v : ℕ) : Type 0 where
  pub number_is : answer_number word ≡ n
  pub used_is : answer_used word ≡ u
  pub missing_is : answer_missing word ≡ m
  pub value_is : answer_value word ≡ v

-- a number below that of cut short, a count of 16 bits and a value of 32 are taken out as they were put in
told-parts : {n u v : ℕ} → n < cut_short → u < 65536 → v < 4294967296 → Parts (answer_word n u v) n u 0 v
told-parts {n} {u} {v} a b c =
    let no : answer_cut_short (answer_word n u v) ≡ false = ne_eqb (answer_number (answer_word n u v)) cut_short (λ e. omega arith) in
    record { number_is = omega arith; used_is = rw no (omega arith); missing_is = rw no; value_is = omega arith }

-- of cut short the count is the bytes missing
short-parts : {m : ℕ} → m < 65536 → Parts (answer_word cut_short m 0) cut_short 0 m 0
short-parts {m} h =
    let yes : answer_cut_short (answer_word cut_short m 0) ≡ true = eq-eqb (answer_number (answer_word cut_short m 0)) cut_short (omega arith) in
    record { number_is = omega arith; used_is = rw yes; missing_is = rw yes (omega arith); value_is = omega arith }

-- of a reply, which counts no bytes
pub record ReplyFits (n v : ℕ) : Type 0 where
  pub number : n < cut_short
  pub value : v < 4294967296

pub reply-parts : {n v : ℕ} → ReplyFits n v → Parts (reply_word n v) n 0 0 v
reply-parts f = told-parts f.number (omega arith) f.value

-- of the answer of a call that reads a record
abbrev pub AnsweredFits : Result Accepted Unread → Type 0
AnsweredFits (Ok a) = (a.used < 65536) × (a.value < 4294967296)
AnsweredFits (Err (unread.Short missing)) = missing < 65536
AnsweredFits (Err (unread.Refused number)) = number < cut_short

pub record-parts : (a : Result Accepted Unread) → AnsweredFits a → Parts (record_word a) (number_of a) (used_of a) (missing_of a) (value_of a)
record-parts (Ok a) f = told-parts (omega arith) f.0 f.1
record-parts (Err (unread.Short missing)) f = short-parts f
record-parts (Err (unread.Refused number)) f = told-parts f (omega arith) (omega arith)

-- ---- calls that read no record

-- every number of a list of tests is below that of cut short: computed at each list
abbrev pub all_below : List Test → Bool
all_below [] = true
all_below (t ∷ ts) = ltb t.number cut_short && all_below ts

-- and so is the refusal
pub refusal-below : (ts : List Test) → all_below ts ≡ true → refusal ts < cut_short
refusal-below [] e = omega arith
refusal-below (t ∷ ts) e =
    let b = both (ltb t.number cut_short) (all_below ts) e in
    go t.holds (refusal-below ts b.1) (ltb-true t.number cut_short b.0)
  where
    go : (h : Bool) {r n : ℕ} → r < cut_short → n < cut_short → cond h r n < cut_short
    go true p q = p
    go false p q = q

reply-of : {n v : ℕ} → n < cut_short → v < 4294967296 → ReplyFits n v
reply-of h k = record { number = h; value = k }

-- a refused call's value is 0: the reply fits where the value of an accepted one does
pub reply-fits : (ts : List Test) (v : ℕ) → all_below ts ≡ true → (refusal ts ≡ 0 → v < 4294967296) → ReplyFits (refusal ts) (pick (refusal ts) v 0)
reply-fits ts v b f =
    reply-of (refusal-below ts b) (pick-cases (λ (x : ℕ). x < 4294967296) (refusal ts) v 0 f (λ e. omega arith))

abbrev pub PrimaryFits : Reply Primary → Type 0
PrimaryFits r = ReplyFits r.number r.value

abbrev pub StandbyFits : Reply Standby → Type 0
StandbyFits r = ReplyFits r.number r.value

-- ---- the primary's, of words that are a state: the value is an epoch or a packet's length, which fit their words
module _ (w : List ℕ) (e : primary_words_ok w ≡ true) where
  pub epoch-low : (primary_of w).epoch < 4294967296
  unfolding primary_of
  epoch-low = primary-field w 8 e (omega arith) (omega arith)

  pub oldest-low : (port : ℕ) → (oldest (primary_of w).queue port).length < 4294967296
  unfolding primary_of
  oldest-low port =
      let k = (primary_of w).queue in
      let n : (oldest k port).length < 65536 = packet-length-low (packets_in w) (oldest_at k port) (primary-word-facts w e).packets in
      omega arith

  pub memory-write-fits : (memory dirty page offset n : ℕ) → PrimaryFits (memory_write_reply (primary_of w) memory dirty page offset n)
  unfolding memory_write_reply memory_write_refusal
  memory-write-fits memory dirty page offset n = reply-fits (memory_write_tests (primary_of w) memory dirty page offset n) (primary_of w).epoch refl (λ z. epoch-low)

  pub disk-write-fits : (disk stream block n : ℕ) → PrimaryFits (disk_write_reply (primary_of w) disk stream block n)
  unfolding disk_write_reply disk_write_refusal
  disk-write-fits disk stream block n = reply-fits (disk_write_tests (primary_of w) disk stream block n) (primary_of w).epoch refl (λ z. epoch-low)

  pub checkpoint-fits : (memory dirty stream pages : ℕ) → PrimaryFits (checkpoint_reply (primary_of w) memory dirty stream pages)
  unfolding checkpoint_reply checkpoint_refusal
  checkpoint-fits memory dirty stream pages = reply-fits (checkpoint_tests (primary_of w) memory dirty stream pages) (primary_of w).epoch refl (λ z. epoch-low)

  pub take-fits : (held port destination : ℕ) → PrimaryFits (take_reply (primary_of w) held port destination)
  unfolding take_reply take_refusal
  take-fits held port destination = reply-fits (take_tests (primary_of w) held port destination) (oldest (primary_of w).queue port).length refl (λ z. oldest-low port)

-- of any state: at most 64 packets are held, at most L bytes wait
module _ (p : Primary) where
  pub packet-fits : (held port n : ℕ) → PrimaryFits (packet_reply p held port n)
  unfolding packet_reply packet_refusal
  packet-fits held port n = reply-fits (packet_tests p held port n) (p.queue.count + 1) refl (λ z. let f = packet-accepted p held port n z in omega (arith, f.count_low))

  pub drain-fits : (stream n destination : ℕ) → PrimaryFits (drain_reply p stream n destination)
  unfolding drain_reply drain_refusal
  drain-fits stream n destination =
      reply-fits (drain_tests p stream) (drain_count p n destination) refl
      (λ z. let f = primary-facts p (drain-accepted p stream z).ok in omega (arith, f.waiting, f.settings.stream.l-high))

  pub primary-tick-fits : PrimaryFits (primary_tick_reply p)
  unfolding primary_tick_reply primary_tick_refusal
  primary-tick-fits = reply-fits (primary_tick_tests p) 0 refl (λ z. omega arith)

  pub primary-sum-fits : (memory : List ℕ) → PrimaryFits (primary_sum_reply p memory)
  unfolding primary_sum_reply primary_sum_refusal
  primary-sum-fits memory =
      reply-fits (primary_sum_tests p (length memory)) (sum_over p.settings.u memory (rising p.settings.m)) refl (λ z. sum_low p.settings.u memory _)

-- ---- the standby's, of words that are a state: the value is the last received epoch
module _ (w pending processor : List ℕ) (e : standby_words_ok w ≡ true) where
  pub received-low : (standby_of w pending processor).received < 4294967296
  unfolding standby_of
  received-low = (standby-word-facts w e).received

  pub activation-fits : (area : ℕ) → StandbyFits (activation_reply (standby_of w pending processor) area)
  unfolding activation_reply activation_refusal
  activation-fits area = let s = standby_of w pending processor in reply-fits (activation_tests s area) s.received refl (λ z. received-low)

  pub active-memory-write-fits : (memory page offset n : ℕ) → StandbyFits (active_memory_write_reply (standby_of w pending processor) memory page offset n)
  unfolding active_memory_write_reply active_memory_write_refusal
  active-memory-write-fits memory page offset n =
      let s = standby_of w pending processor in
      reply-fits (active_write_tests s memory s.settings.m page (inside_page s.settings.u offset n)) s.received refl (λ z. received-low)

  pub active-disk-write-fits : (disk block n : ℕ) → StandbyFits (active_disk_write_reply (standby_of w pending processor) disk block n)
  unfolding active_disk_write_reply active_disk_write_refusal
  active-disk-write-fits disk block n =
      let s = standby_of w pending processor in
      reply-fits (active_write_tests s disk s.settings.d block (eqb n s.settings.u)) s.received refl (λ z. received-low)

-- of any state: at most 64 blocks are stored
module _ (s : Standby) where
  pub flush-fits : (slots disk n : ℕ) → StandbyFits (flush_reply s slots disk n)
  unfolding flush_reply flush_refusal
  flush-fits slots disk n =
      reply-fits (flush_tests s slots disk) (flush_count s.slots n) refl
      (λ z. let f = standby-facts s (flush-accepted s slots disk z).in_range in omega (arith, f.slots.due_high, f.slots.staged-high, f.settings.slots.s-high))

  pub standby-tick-fits : (marks : ℕ) → StandbyFits (standby_tick_reply s marks)
  unfolding standby_tick_reply standby_tick_refusal
  standby-tick-fits marks = reply-fits (standby_tick_tests s marks) 0 refl (λ z. omega arith)

  pub standby-sum-fits : (memory order : List ℕ) → StandbyFits (standby_sum_reply s memory order)
  unfolding standby_sum_reply standby_sum_refusal
  standby-sum-fits memory order =
      reply-fits (standby_sum_tests s (length memory) order) (sum_over s.settings.u memory order) refl (λ z. sum_low s.settings.u memory order)

-- ---- calls that read a record

-- a record with its own refusal, behind the tests of the state and of its mode: the answer fits where that of an
-- accepted record does
judged-fits : (a b : Bool) (n : ℕ) (r : Result Record Unread) → n < cut_short → (n ≡ 0 → AnsweredFits (answer_of r))
    → AnsweredFits (answer_of (cond a (cond b (unless_refused n r) (Err (Refused wrong_mode))) (Err (Refused out_of_range))))
judged-fits false b n r low taken = omega arith
judged-fits true false n r low taken = omega arith
judged-fits true true n r low taken = unless-cases n r (λ x. AnsweredFits (answer_of x)) taken (λ z. low)

-- the record that is read has its kind as its value, but for an ACK
found-fits : (for : Reader) (u : ℕ) (s : List ℕ) → ((e : ℕ) (c : Cursor) → read_record for u s ≡ Ok (Ack e c) → e < 4294967296)
    → AnsweredFits (answer_of (read_record for u s))
found-fits for u s f = go (read_record for u s) (read-ranges for u s) f
  where
    go : (r : Result Record Unread) → ReadRanges for s r → ((e : ℕ) (c : Cursor) → r ≡ Ok (Ack e c) → e < 4294967296) → AnsweredFits (answer_of r)
    go = found-cases (λ r. ReadRanges for s r → ((e : ℕ) (c : Cursor) → r ≡ Ok (Ack e c) → e < 4294967296) → AnsweredFits (answer_of r))
        (λ r h g f.
        let v : read.value_of r < 4294967296 = on-ack (λ (x : ℕ). x < 4294967296) (λ e c. e) (kind_of r) r f (omega (arith, g.kind)) in
        subst AnsweredFits (sym (answer-found r h)) (omega (arith, g.used), v))
        (λ n g f. omega (arith, g.missing)) (λ n g f. omega (arith, g.other))

-- an ACK's epoch is below the open one where it is accepted
pub ack-fits : (w : List ℕ) → primary_words_ok w ≡ true → (bytes : List ℕ) → AnsweredFits (ack_reply (primary_of w) bytes).answer
unfolding ack_reply ack_judged
ack-fits w ok bytes =
    let p = primary_of w in
    let r = read_record reader.Primary p.settings.u bytes in
    judged-fits (primary_ok p) (protected p) (ack_refusal p r) r
    (on-ack (λ (n : ℕ). n < cut_short) (λ e c. refusal (ack_tests p e)) (other_refusal r) r (λ e c q. refusal-below (ack_tests p e) refl) (omega (arith, (read-ranges reader.Primary p.settings.u bytes).other)))
    (λ z. found-fits reader.Primary p.settings.u bytes (λ e c q. let f = ack-epochs p e c (rw q at z) in let h = epoch-low w ok in omega (arith, f.1)))

-- every refusal of a record at the standby
module _ (s : Standby) (reply : ℕ) where
  record-below : (r : Result Record Unread) → other_refusal r ≤ bad_length → record_refusal s reply r < cut_short
  unfolding page_refusal block_refusal state_refusal commit_refusal
  record-below (Ok (Page w e p c)) h = refusal-below (page_tests s e p) refl
  record-below (Ok (Block e n c)) h = refusal-below (block_tests s (free_for s) e n) refl
  record-below (Ok (State e c)) h = refusal-below (state_tests s e) refl
  record-below (Ok (Commit w e p b c)) h = refusal-below (commit_tests s reply e p b) refl
  record-below (Ok (Ack e c)) h = omega arith
  record-below (Err (Short n)) h = omega arith
  record-below (Err (Refused n)) h = omega arith

-- of any state; an ACK is of another kind
pub read_fits : (s : Standby) (l : ReadLent) (bytes : List ℕ) → AnsweredFits (read_reply s l bytes).answer
unfolding read_reply judged
read_fits s l bytes =
    let r = read_record (reader_of s) s.settings.u bytes in
    judged-fits (standby_ok s && read_lent_ok s l) (is_receiving s.mode) (record_refusal s l.reply r) r
    (record-below s l.reply r (read-ranges (reader_of s) s.settings.u bytes).other)
    (λ z. found-fits (reader_of s) s.settings.u bytes (λ e c q. absurd (other e c (rw q at z))))
  where
    other : (e : ℕ) (c : Cursor) → record_refusal s l.reply (Ok (Ack e c)) ≡ 0 → ⊥
    other e c z = omega arith

-- ---- start and the disk choice
pub start_fits : (g : Settings) (l : StartLent) (processor : List ℕ) → ReplyFits (started g l processor).number 0
unfolding started start_refusal
start_fits g l processor = reply-of (refusal-below (start_tests g l) refl) (omega arith)

-- the choice's numbers are 1 and 12, its values 1 and 2
pub choice-fits : (primary standby : ℕ) (area : List ℕ) → ReplyFits (choice_number (choice_of primary standby area)) (disk_of (choice_of primary standby area))
unfolding choice_of
choice-fits primary standby area = go (eqb primary standby && eqb (length area) area_length) (area_of area)
  where
    go : (b : Bool) (a : Area) → let c = cond b (area_choice a) (Err OutOfRange) in ReplyFits (choice_number c) (disk_of c)
    go true Zero = reply-of (omega arith) (omega arith)
    go true (Activation epoch) = reply-of (omega arith) (omega arith)
    go true Neither = reply-of (omega arith) (omega arith)
    go false a = reply-of (omega arith) (omega arith)
