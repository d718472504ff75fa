-- The standby's staged blocks. Assumes nothing.
use Rattle.std.specs.Prelude.{ℕ, zero, suc, ◌+◌, ◌-◌, ◌*◌, min, Bool, true, cond, ◌&&◌, List, [], ◌∷◌, leb, ltb, take, drop, get_or, set, replicate}
use Rattle.lists.specs.Part.{removed, freed}
use Rattle.lists.specs.Select.{place_in, is_in}
use Rattle.lists.specs.Page.{page, with_page}
use Rattle.settings.specs.Range.{most_slots}
use Rattle.staging.specs.declared.Slots.{Slots}

-- the array has an entry for each slot that there can be
abbrev pub empty_slots : Slots
empty_slots = record { staged = 0; due = 0; numbers = replicate most_slots 0 }

-- ---- the range: "staged over S, due over staged, a staged number not below D"
unfoldable pub numbers_ok : ℕ → List ℕ → Bool
numbers_ok d [] = true
numbers_ok d (n ∷ ns) = ltb n d && numbers_ok d ns

unfoldable pub slots_ok : Slots → ℕ → ℕ → Bool
slots_ok k s d = leb k.staged s && leb k.due k.staged && numbers_ok d (take k.staged k.numbers)

-- the slots free for a block (17)
abbrev pub free_slots : Slots → ℕ → ℕ
free_slots k s = s - k.staged

-- ---- a block staged
-- the numbers of the blocks of the epoch that is being received: staged and not due
abbrev pub fresh_numbers : Slots → List ℕ
fresh_numbers k = drop k.due (take k.staged k.numbers)

-- "a block staged in the same epoch" (document 02, Job 9)
abbrev pub is_staged : Slots → ℕ → Bool
is_staged k n = is_in n (fresh_numbers k)

-- it "reuses the first such slot"; a block that the epoch does not have takes the next one: where there is none,
-- `place_in` is their count, so that this is `staged`. Due slots are in front, and stay
unfoldable pub slot_for : Slots → ℕ → ℕ
slot_for k n = k.due + place_in n (fresh_numbers k)

-- "the earlier place"
unfoldable pub with_block : Slots → ℕ → Slots
with_block k n =
    cond (is_staged k n) k (record { staged = k.staged + 1; due = k.due; numbers = set k.numbers k.staged n })

-- "the later bytes"
unfoldable pub with_block_bytes : ℕ → Slots → ℕ → List ℕ → List ℕ → List ℕ
with_block_bytes u k n slots block = with_page u slots (slot_for k n) block

-- "makes the epoch's staged blocks due"
unfoldable pub all_due : Slots → Slots
all_due k = record { staged = k.staged; due = k.staged; numbers = k.numbers }

-- "staged pages and blocks not yet due are dropped"; "dropping changes counts and staged marks, no other lent byte"
unfoldable pub only_due : Slots → Slots
only_due k = record { staged = k.due; due = k.due; numbers = k.numbers }

-- ---- flush: "stores min(n, due) due blocks in order of arrival, and reports that count"
abbrev pub flush_count : Slots → ℕ → ℕ
flush_count k n = min n k.due

-- the disk with the blocks of the first count slots stored, in order
unfoldable pub stored : ℕ → List ℕ → List ℕ → List ℕ → ℕ → List ℕ
stored u numbers slots disk zero = disk
stored u numbers slots disk (suc i) = with_page u (stored u numbers slots disk i) (get_or numbers i 0) (page u slots i)

-- "freed slots are used again": the rest moves to the front, the freed entries are 0, the bytes behind stay
unfoldable pub flushed : Slots → ℕ → Slots
flushed k count = record { staged = k.staged - count; due = k.due - count; numbers = freed 0 0 count k.staged k.numbers }

unfoldable pub flushed_bytes : ℕ → Slots → ℕ → List ℕ → List ℕ
flushed_bytes u k count slots = removed 0 (count * u) (k.staged * u) slots
