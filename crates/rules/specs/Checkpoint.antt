-- The primary's checkpoint. Assumes nothing.
use Rattle.rules.specs.declared.Reply.{Reply}
use Rattle.std.specs.Prelude.{ℕ, ◌+◌, ◌*◌, Bool, ◌&&◌, List, [], ◌∷◌, ◌++◌, leb, ltb, eqb, length}
use Rattle.lists.specs.Refusal.{Test, test, refusal, pick}
use Rattle.lists.specs.Part.{put}
use Rattle.records.specs.Kind.{is_wide, page_kind, record_length}
use Rattle.records.specs.Write.{state_record, commit_record}
use Rattle.records.specs.Number.{out_of_range, wrong_mode, stream_full, last_epoch}
use Rattle.settings.specs.Range.{most_epoch, checkpoint_end}
use Rattle.marks.specs.Mark.{count_marks, cleared}
use Rattle.pages.specs.Dirty.{dirty_records}
use Rattle.rules.specs.declared.Primary.{Primary}
use Rattle.rules.specs.PrimaryState.{primary_ok, protected, memory_length, marks_length, with_epoch_waiting}
use Rattle.rules.specs.Reply.{reply_of}

-- the dirty pages of the memory
abbrev pub dirty_count : Primary → List ℕ → ℕ
dirty_count p dirty = count_marks dirty p.settings.m

-- the bytes that a checkpoint of this many pages appends
unfoldable pub checkpoint_length : ℕ → (wide : Bool) → ℕ → ℕ
checkpoint_length u wide pages = pages * record_length u (page_kind wide) + checkpoint_end u wide

-- "appends every dirty page, STATE and COMMIT", "COMMIT with the counts"; that of blocks "is still of records"
-- (document 02, Job 9)
unfoldable pub checkpoint_bytes : Primary → List ℕ → List ℕ → List ℕ → List ℕ
checkpoint_bytes p memory dirty processor =
    dirty_records memory dirty (is_wide p.settings.m) p.settings.u p.epoch p.settings.m
    ++ (state_record p.epoch processor ++ commit_record (is_wide p.settings.m) p.epoch (dirty_count p dirty) p.records)

-- 1 13 15 19; pages is the count of dirty pages
abbrev pub checkpoint_tests : Primary → ℕ → ℕ → ℕ → ℕ → List Test
checkpoint_tests p memory dirty stream pages =
    test out_of_range (primary_ok p && eqb memory (memory_length p) && eqb dirty (marks_length p) && eqb stream p.settings.l)
    ∷ test wrong_mode (protected p)
    ∷ test stream_full (leb (p.waiting + checkpoint_length p.settings.u (is_wide p.settings.m) pages) p.settings.l)
    ∷ test last_epoch (ltb p.epoch most_epoch)
    ∷ []

unfoldable pub checkpoint_refusal : Primary → ℕ → ℕ → ℕ → ℕ → ℕ
checkpoint_refusal p memory dirty stream pages = refusal (checkpoint_tests p memory dirty stream pages)

unfoldable pub checkpoint_state : Primary → ℕ → Primary
checkpoint_state p pages = with_epoch_waiting p (p.epoch + 1) (p.waiting + checkpoint_length p.settings.u (is_wide p.settings.m) pages)

unfoldable pub checkpoint_reply : Primary → ℕ → ℕ → ℕ → ℕ → Reply Primary
checkpoint_reply p memory dirty stream pages =
    reply_of (checkpoint_refusal p memory dirty stream pages) p (checkpoint_state p pages) p.epoch

abbrev pub checkpoint_number : Primary → List ℕ → List ℕ → List ℕ → ℕ
checkpoint_number p memory dirty stream = checkpoint_refusal p (length memory) (length dirty) (length stream) (dirty_count p dirty)

-- "clears the marks"
unfoldable pub checkpoint_dirty : Primary → List ℕ → List ℕ → List ℕ → List ℕ
checkpoint_dirty p memory dirty stream = pick (checkpoint_number p memory dirty stream) (cleared dirty p.settings.m) dirty

-- "written into the free end of the outgoing buffer"
unfoldable pub checkpoint_stream : Primary → List ℕ → List ℕ → List ℕ → List ℕ → List ℕ
checkpoint_stream p memory dirty stream processor =
    pick (checkpoint_number p memory dirty stream) (put stream p.waiting (checkpoint_bytes p memory dirty processor)) stream
