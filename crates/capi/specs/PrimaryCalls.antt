-- The primary's calls on a state that is lent as words: what each leaves, by the definitions of its own contract. Words
-- that are no state give 1, and nothing changes. In each, a name with a prime is what the call leaves. Assumes nothing.
use Rattle.rules.specs.declared.Reply.{Reply}
use Rattle.rules.specs.declared.ReadReply.{ReadReply}
use Rattle.std.specs.Prelude.{ℕ, ◌≡◌, Bool, true, cond, List, length}
use Rattle.records.specs.Number.{out_of_range}
use Rattle.rules.specs.declared.Primary.{Primary}
use Rattle.rules.specs.PrimaryWrites.{memory_write_reply, memory_write_memory, memory_write_dirty, disk_write_reply, disk_write_disk, disk_write_stream}
use Rattle.rules.specs.Packets.{packet_reply, packet_held, take_reply, take_held, take_destination}
use Rattle.rules.specs.Checkpoint.{dirty_count, checkpoint_reply, checkpoint_dirty, checkpoint_stream}
use Rattle.rules.specs.Stream.{drain_reply, drain_stream, drain_destination, ack_reply}
use Rattle.rules.specs.PrimaryTick.{primary_tick_reply}
use Rattle.rules.specs.Sums.{primary_sum_reply}
use Rattle.capi.specs.Word.{reply_word, record_word, Leaves}
use Rattle.capi.specs.PrimaryWords.{primary_words, primary_words_ok, primary_of}

-- ok is whether a state is lent. Then the answer is this word, and the words are those of the next state; they are a
-- state again. That they are read as the next state (`same`) is said too: a list's type does not say that the packets,
-- or the block numbers of either end, are 64, so that no law could give it
pub record PrimaryDone (ok : Bool) (w : List ℕ) (next : Primary) (word answer : ℕ) (w' : List ℕ) : Type 0 where
  pub told : answer ≡ cond ok word out_of_range
  pub words : Leaves ok (primary_words next) w w'
  pub again : ok ≡ true → primary_words_ok w' ≡ true
  pub same : ok ≡ true → primary_of w' ≡ next

abbrev pub PrimaryReplied : List ℕ → Reply Primary → ℕ → List ℕ → Type 0
PrimaryReplied w r = PrimaryDone (primary_words_ok w) w r.state (reply_word r.number r.value)

abbrev pub PrimaryAnswered : List ℕ → ReadReply Primary → ℕ → List ℕ → Type 0
PrimaryAnswered w r = PrimaryDone (primary_words_ok w) w r.state (record_word r.answer)

-- a lent buffer
abbrev pub PrimaryLeaves : List ℕ → List ℕ → List ℕ → List ℕ → Type 0
PrimaryLeaves w = Leaves (primary_words_ok w)

abbrev pub MemoryWriteDone : (w memory dirty : List ℕ) (page offset : ℕ) (bytes : List ℕ) (answer : ℕ) (w' memory' dirty' : List ℕ) → Type 0
MemoryWriteDone w memory dirty page offset bytes answer w' memory' dirty' =
    let p = primary_of w in
    PrimaryReplied w (memory_write_reply p (length memory) (length dirty) page offset (length bytes)) answer w'
    × PrimaryLeaves w (memory_write_memory p memory dirty page offset bytes) memory memory'
    × PrimaryLeaves w (memory_write_dirty p memory dirty page offset bytes) dirty dirty'

abbrev pub DiskWriteDone : (w disk stream : List ℕ) (block : ℕ) (bytes : List ℕ) (answer : ℕ) (w' disk' stream' : List ℕ) → Type 0
DiskWriteDone w disk stream block bytes answer w' disk' stream' =
    let p = primary_of w in
    PrimaryReplied w (disk_write_reply p (length disk) (length stream) block (length bytes)) answer w'
    × PrimaryLeaves w (disk_write_disk p disk stream block bytes) disk disk'
    × PrimaryLeaves w (disk_write_stream p disk stream block bytes) stream stream'

abbrev pub PacketDone : (w held : List ℕ) (port : ℕ) (bytes : List ℕ) (answer : ℕ) (w' held' : List ℕ) → Type 0
PacketDone w held port bytes answer w' held' =
    let p = primary_of w in
    PrimaryReplied w (packet_reply p (length held) port (length bytes)) answer w'
    × PrimaryLeaves w (packet_held p held port bytes) held held'

abbrev pub CheckpointDone : (w memory dirty stream processor : List ℕ) (answer : ℕ) (w' dirty' stream' : List ℕ) → Type 0
CheckpointDone w memory dirty stream processor answer w' dirty' stream' =
    let p = primary_of w in
    PrimaryReplied w (checkpoint_reply p (length memory) (length dirty) (length stream) (dirty_count p dirty)) answer w'
    × PrimaryLeaves w (checkpoint_dirty p memory dirty stream) dirty dirty'
    × PrimaryLeaves w (checkpoint_stream p memory dirty stream processor) stream stream'

abbrev pub DrainDone : (w stream : List ℕ) (n : ℕ) (destination : List ℕ) (answer : ℕ) (w' stream' destination' : List ℕ) → Type 0
DrainDone w stream n destination answer w' stream' destination' =
    let p = primary_of w in
    PrimaryReplied w (drain_reply p (length stream) n (length destination)) answer w'
    × PrimaryLeaves w (drain_stream p stream n (length destination)) stream stream'
    × PrimaryLeaves w (drain_destination p stream n destination) destination destination'

abbrev pub AckDone : (w bytes : List ℕ) (answer : ℕ) (w' : List ℕ) → Type 0
AckDone w bytes answer w' = PrimaryAnswered w (ack_reply (primary_of w) bytes) answer w'

abbrev pub TakeDone : (w held : List ℕ) (port : ℕ) (destination : List ℕ) (answer : ℕ) (w' held' destination' : List ℕ) → Type 0
TakeDone w held port destination answer w' held' destination' =
    let p = primary_of w in
    PrimaryReplied w (take_reply p (length held) port (length destination)) answer w'
    × PrimaryLeaves w (take_held p held port destination) held held'
    × PrimaryLeaves w (take_destination p held port destination) destination destination'

abbrev pub PrimaryTickDone : (w : List ℕ) (answer : ℕ) (w' : List ℕ) → Type 0
PrimaryTickDone w answer w' = PrimaryReplied w (primary_tick_reply (primary_of w)) answer w'

-- all is lent to a sum for reading only, so that nothing of it can change
abbrev pub PrimarySumDone : (w memory : List ℕ) (answer : ℕ) → Type 0
PrimarySumDone w memory answer =
    let r = primary_sum_reply (primary_of w) memory in
    answer ≡ cond (primary_words_ok w) (reply_word r.number r.value) out_of_range
