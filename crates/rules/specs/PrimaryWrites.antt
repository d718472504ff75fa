-- The guest's writes at the primary. Assumes nothing.
use Rattle.rules.specs.declared.Reply.{Reply}
use Rattle.std.specs.Prelude.{ℕ, ◌+◌, cond, ◌&&◌, ◌||◌, List, [], ◌∷◌, leb, ltb, eqb, length, set}
use Rattle.lists.specs.Refusal.{Test, test, refusal, pick}
use Rattle.lists.specs.Part.{put}
use Rattle.lists.specs.Page.{with_page}
use Rattle.records.specs.Kind.{BLOCK, record_length}
use Rattle.records.specs.Write.{block_record}
use Rattle.records.specs.Number.{out_of_range, no_such_unit, bad_size, allowance_used, stream_full}
use Rattle.marks.specs.Mark.{with_mark}
use Rattle.rules.specs.declared.Primary.{Primary}
use Rattle.pages.specs.Write.{inside_page, written}
use Rattle.rules.specs.Blocks.{block_allowed, blocks_with}
use Rattle.rules.specs.PrimaryState.{primary_ok, is_written, memory_length, disk_length, marks_length, with_blocks_waiting}
use Rattle.rules.specs.Reply.{reply_of}

-- ---- memory write: 1 2 3
abbrev pub memory_write_tests : Primary → ℕ → ℕ → ℕ → ℕ → ℕ → List Test
memory_write_tests p memory dirty page offset n =
    test out_of_range (primary_ok p && eqb memory (memory_length p) && eqb dirty (marks_length p))
    ∷ test no_such_unit (ltb page p.settings.m)
    ∷ test bad_size (inside_page p.settings.u offset n)
    ∷ []

unfoldable pub memory_write_refusal : Primary → ℕ → ℕ → ℕ → ℕ → ℕ → ℕ
memory_write_refusal p memory dirty page offset n = refusal (memory_write_tests p memory dirty page offset n)

unfoldable pub memory_write_reply : Primary → ℕ → ℕ → ℕ → ℕ → ℕ → Reply Primary
memory_write_reply p memory dirty page offset n = reply_of (memory_write_refusal p memory dirty page offset n) p p p.epoch

unfoldable pub memory_write_memory : Primary → List ℕ → List ℕ → ℕ → ℕ → List ℕ → List ℕ
memory_write_memory p memory dirty page offset bytes =
    pick (memory_write_refusal p (length memory) (length dirty) page offset (length bytes)) (written p.settings.u memory page offset bytes) memory

-- "the page becomes dirty even if its bytes are equal"
unfoldable pub memory_write_dirty : Primary → List ℕ → List ℕ → ℕ → ℕ → List ℕ → List ℕ
memory_write_dirty p memory dirty page offset bytes =
    pick (memory_write_refusal p (length memory) (length dirty) page offset (length bytes)) (with_mark dirty page) dirty

-- ---- disk write: 1 2 3 14 15; alone "disk writes append nothing and take no allowance, so 14 and 15 aren't given"
abbrev pub disk_write_tests : Primary → ℕ → ℕ → ℕ → ℕ → List Test
disk_write_tests p disk stream block n =
    test out_of_range (primary_ok p && eqb disk (disk_length p) && eqb stream p.settings.l)
    ∷ test no_such_unit (ltb block p.settings.d)
    ∷ test bad_size (eqb n p.settings.u)
    ∷ test allowance_used (p.alone || block_allowed (is_written p block) p.settings.b p.blocks p.records)
    ∷ test stream_full (p.alone || leb (p.waiting + record_length p.settings.u BLOCK) p.settings.l)
    ∷ []

unfoldable pub disk_write_refusal : Primary → ℕ → ℕ → ℕ → ℕ → ℕ
disk_write_refusal p disk stream block n = refusal (disk_write_tests p disk stream block n)

-- one BLOCK more; the number of a block that the open epoch did not have is remembered
abbrev pub with_block_appended : Primary → ℕ → Primary
with_block_appended p block =
    with_blocks_waiting p
    (blocks_with (is_written p block) p.blocks)
    (p.records + 1)
    (cond (is_written p block) p.numbers (set p.numbers p.blocks block))
    (p.waiting + record_length p.settings.u BLOCK)

unfoldable pub disk_write_state : Primary → ℕ → Primary
disk_write_state p block = cond p.alone p (with_block_appended p block)

unfoldable pub disk_write_reply : Primary → ℕ → ℕ → ℕ → ℕ → Reply Primary
disk_write_reply p disk stream block n = reply_of (disk_write_refusal p disk stream block n) p (disk_write_state p block) p.epoch

-- "U bytes, stored on the primary's disk, and a BLOCK appended to the stream"
unfoldable pub disk_write_disk : Primary → List ℕ → List ℕ → ℕ → List ℕ → List ℕ
disk_write_disk p disk stream block bytes =
    pick (disk_write_refusal p (length disk) (length stream) block (length bytes)) (with_page p.settings.u disk block bytes) disk

unfoldable pub disk_write_stream : Primary → List ℕ → List ℕ → ℕ → List ℕ → List ℕ
disk_write_stream p disk stream block bytes =
    pick (disk_write_refusal p (length disk) (length stream) block (length bytes))
    (cond p.alone stream (put stream p.waiting (block_record p.epoch block bytes)))
    stream
