-- Start, which makes the words of both states, the disk choice, and a page's part of a sum. Assumes nothing.
use Rattle.std.specs.Prelude.{ℕ, ◌/◌, ◌%◌, min, Bool, ◌&&◌, List, [], ◌∷◌, ltb, eqb, length, get_or, Result}
use Rattle.lists.specs.Refusal.{Test, test, refusal, pick}
use Rattle.records.specs.Kind.{unit_ok}
use Rattle.records.specs.Number.{out_of_range, no_such_unit}
use Rattle.settings.specs.declared.Settings.{Settings}
use Rattle.settings.specs.Range.{memory_pages_ok}
use Rattle.sums.specs.Sum.{page_sum}
use Rattle.records.specs.declared.refusal.Refusal.{Refusal}
use Rattle.rules.specs.declared.Disk.{Disk}
use Rattle.rules.specs.Choose.{choice_number, disk_of}
use Rattle.rules.specs.Start.{started, start_marks, start_copy, start_area}
use Rattle.rules.specs.World.{Buffers, start_lent}
use Rattle.capi.specs.Word.{reply_word, most32, Leaves}
use Rattle.capi.specs.PrimaryWords.{primary_length}
use Rattle.capi.specs.StandbyWords.{standby_length}
use Rattle.capi.specs.PrimaryCalls.{PrimaryDone}
use Rattle.capi.specs.StandbyCalls.{LentStandby, StandbyDone}

-- ---- the settings as words: U M D B S Q L T. A T that does not fit its field is taken as the largest that does, which
-- is out of T's range as well
abbrev pub settings_length : ℕ
settings_length = 8

unfoldable pub settings_of : List ℕ → Settings
settings_of w =
    record { u = get_or w 0 0; m = get_or w 1 0; d = get_or w 2 0; b = get_or w 3 0; s = get_or w 4 0; q = get_or w 5 0; l = get_or w 6 0; t = min (get_or w 7 0) most32 }

-- as many words as there are settings, and room for the words of both states; else 1, and nothing changes
unfoldable pub start_words_ok : List ℕ → List ℕ → List ℕ → Bool
start_words_ok settings primary standby =
    eqb (length settings) settings_length && eqb (length primary) primary_length && eqb (length standby) standby_length

-- the words of both states, those of a refused start too, and the five buffers that start changes
abbrev pub StartDone : (settings first : List ℕ) (b : Buffers) (primary : List ℕ) (standby : LentStandby) (answer : ℕ) (dirty' memory' disk' marks' area' primary' : List ℕ) (standby' : LentStandby) → Type 0
StartDone settings first b primary standby answer dirty' memory' disk' marks' area' primary' standby' =
    let g = settings_of settings in
    let l = start_lent b in
    let made = started g l first in
    let ok = start_words_ok settings primary standby.words in
    PrimaryDone ok primary made.primary (reply_word made.number 0) answer primary'
    × StandbyDone ok standby made.standby (reply_word made.number 0) answer standby'
    × Leaves ok (start_marks g l b.dirty) b.dirty dirty'
    × Leaves ok (start_copy g l b.memory b.standby_memory) b.standby_memory memory'
    × Leaves ok (start_copy g l b.disk b.standby_disk) b.standby_disk disk'
    × Leaves ok (start_marks g l b.staged_marks) b.staged_marks marks'
    × Leaves ok (start_area g l b.area) b.area area'

-- the eleven buffers that start is lent
abbrev pub lent_buffers : (memory disk dirty held stream standby_memory standby_disk staged_pages staged_marks staged_blocks area : List ℕ) → Buffers
lent_buffers memory disk dirty held stream standby_memory standby_disk staged_pages staged_marks staged_blocks area =
    record {
      memory = memory;
      disk = disk;
      dirty = dirty;
      held = held;
      stream = stream;
      standby_memory = standby_memory;
      standby_disk = standby_disk;
      staged_pages = staged_pages;
      staged_marks = staged_marks;
      staged_blocks = staged_blocks;
      area = area;
    }

-- ---- the disk choice: its value is the disk
abbrev pub choice_word : Result Disk Refusal → ℕ
choice_word c = reply_word (choice_number c) (disk_of c)

-- ---- a page's own part of a sum, at either end. 1: u is no page size, or the image is not of 1 to 65,536 pages;
-- 2: the page is none of them
abbrev pub page_sum_tests : (u image page : ℕ) → List Test
page_sum_tests u image page =
    test out_of_range (unit_ok u && eqb (image % u) 0 && memory_pages_ok (image / u))
    ∷ test no_such_unit (ltb page (image / u))
    ∷ []

unfoldable pub page_sum_refusal : (u image page : ℕ) → ℕ
page_sum_refusal u image page = refusal (page_sum_tests u image page)

unfoldable pub page_sum_word : (u : ℕ) (image : List ℕ) (page : ℕ) → ℕ
page_sum_word u image page =
    let n = page_sum_refusal u (length image) page in
    reply_word n (pick n (page_sum u image page) 0)
