-- The standby's calls on a state that is lent as words and two processor states: what each leaves, as PrimaryCalls says
-- it of the primary's. Assumes nothing.
use Rattle.rules.specs.declared.Reply.{Reply}
use Rattle.rules.specs.declared.ReadReply.{ReadReply}
use Rattle.std.specs.Prelude.{ℕ, ◌≡◌, Bool, true, cond, List, length}
use Rattle.records.specs.Number.{out_of_range}
use Rattle.rules.specs.declared.Standby.{Standby}
use Rattle.rules.specs.Read.{read_lent, read_reply, read_memory, read_staged_pages, read_staged_marks, read_staged_blocks, read_reply_bytes}
use Rattle.rules.specs.Flush.{flush_reply, flush_staged_blocks, flush_disk}
use Rattle.rules.specs.Takeover.{standby_tick_reply, standby_tick_marks, activation_reply, activation_area, active_memory_write_reply, active_memory_write_memory, active_disk_write_reply, active_disk_write_disk}
use Rattle.rules.specs.Sums.{standby_sum_reply}
use Rattle.capi.specs.Word.{reply_word, record_word, Leaves}
use Rattle.capi.specs.StandbyWords.{standby_words, standby_words_ok, standby_of}

-- a state as it is lent: its words, the staged and the kept processor state
pub record LentStandby : Type 0 where
  pub words : List ℕ
  pub pending : List ℕ
  pub processor : List ℕ

abbrev pub as_lent : List ℕ → List ℕ → List ℕ → LentStandby
as_lent words pending processor = record { words = words; pending = pending; processor = processor }

abbrev pub is_standby : LentStandby → Bool
is_standby w = standby_words_ok w.words

abbrev pub standby_in : LentStandby → Standby
standby_in w = standby_of w.words w.pending w.processor

-- the same of the standby, with its two processor states
pub record StandbyDone (ok : Bool) (w : LentStandby) (next : Standby) (word answer : ℕ) (w' : LentStandby) : Type 0 where
  pub told : answer ≡ cond ok word out_of_range
  pub words : Leaves ok (standby_words next) w.words w'.words
  pub staged : Leaves ok next.pending w.pending w'.pending
  pub kept : Leaves ok next.processor w.processor w'.processor
  pub again : ok ≡ true → is_standby w' ≡ true
  pub same : ok ≡ true → standby_in w' ≡ next

abbrev pub StandbyReplied : LentStandby → Reply Standby → ℕ → LentStandby → Type 0
StandbyReplied w r = StandbyDone (is_standby w) w r.state (reply_word r.number r.value)

abbrev pub StandbyAnswered : LentStandby → ReadReply Standby → ℕ → LentStandby → Type 0
StandbyAnswered w r = StandbyDone (is_standby w) w r.state (record_word r.answer)

-- a lent buffer
abbrev pub StandbyLeaves : LentStandby → List ℕ → List ℕ → List ℕ → Type 0
StandbyLeaves w = Leaves (is_standby w)

abbrev pub ReadDone : (w : LentStandby) (memory pages marks blocks bytes reply : List ℕ) (answer : ℕ) (w' : LentStandby) (memory' pages' marks' blocks' reply' : List ℕ) → Type 0
ReadDone w memory pages marks blocks bytes reply answer w' memory' pages' marks' blocks' reply' =
    let s = standby_in w in
    let l = read_lent memory pages marks blocks reply in
    StandbyAnswered w (read_reply s l bytes) answer w'
    × StandbyLeaves w (read_memory s l bytes memory pages marks) memory memory'
    × StandbyLeaves w (read_staged_pages s l bytes pages) pages pages'
    × StandbyLeaves w (read_staged_marks s l bytes marks) marks marks'
    × StandbyLeaves w (read_staged_blocks s l bytes blocks) blocks blocks'
    × StandbyLeaves w (read_reply_bytes s l bytes reply) reply reply'

abbrev pub FlushDone : (w : LentStandby) (blocks disk : List ℕ) (n answer : ℕ) (w' : LentStandby) (blocks' disk' : List ℕ) → Type 0
FlushDone w blocks disk n answer w' blocks' disk' =
    let s = standby_in w in
    StandbyReplied w (flush_reply s (length blocks) (length disk) n) answer w'
    × StandbyLeaves w (flush_staged_blocks s blocks disk n) blocks blocks'
    × StandbyLeaves w (flush_disk s blocks disk n) disk disk'

abbrev pub StandbyTickDone : (w : LentStandby) (marks : List ℕ) (answer : ℕ) (w' : LentStandby) (marks' : List ℕ) → Type 0
StandbyTickDone w marks answer w' marks' =
    StandbyReplied w (standby_tick_reply (standby_in w) (length marks)) answer w'
    × StandbyLeaves w (standby_tick_marks (standby_in w) marks) marks marks'

abbrev pub ActivationDone : (w : LentStandby) (area : List ℕ) (answer : ℕ) (w' : LentStandby) (area' : List ℕ) → Type 0
ActivationDone w area answer w' area' =
    StandbyReplied w (activation_reply (standby_in w) (length area)) answer w'
    × StandbyLeaves w (activation_area (standby_in w) area) area area'

abbrev pub ActiveMemoryWriteDone : (w : LentStandby) (memory : List ℕ) (page offset : ℕ) (bytes : List ℕ) (answer : ℕ) (w' : LentStandby) (memory' : List ℕ) → Type 0
ActiveMemoryWriteDone w memory page offset bytes answer w' memory' =
    StandbyReplied w (active_memory_write_reply (standby_in w) (length memory) page offset (length bytes)) answer w'
    × StandbyLeaves w (active_memory_write_memory (standby_in w) memory page offset bytes) memory memory'

abbrev pub ActiveDiskWriteDone : (w : LentStandby) (disk : List ℕ) (block : ℕ) (bytes : List ℕ) (answer : ℕ) (w' : LentStandby) (disk' : List ℕ) → Type 0
ActiveDiskWriteDone w disk block bytes answer w' disk' =
    StandbyReplied w (active_disk_write_reply (standby_in w) (length disk) block (length bytes)) answer w'
    × StandbyLeaves w (active_disk_write_disk (standby_in w) disk block bytes) disk disk'

-- all is lent to a sum for reading only, so that nothing of it can change
abbrev pub StandbySumDone : (w : LentStandby) (memory order : List ℕ) (answer : ℕ) → Type 0
StandbySumDone w memory order answer =
    let r = standby_sum_reply (standby_in w) memory order in
    answer ≡ cond (is_standby w) (reply_word r.number r.value) out_of_range
