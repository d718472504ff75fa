-- The call: a file into its normal form at the head of the destination (document 02, Job 14). Assumes nothing.
use Rattle.records.specs.declared.Unread.{Unread}
use Rattle.records.specs.declared.Unread.TheVariants.{Short, Refused}
use Rattle.std.specs.Prelude.{ℕ, Bool, true, false, cond, ◌&&◌, List, [], ◌∷◌, leb, eqb, length, Result, Ok, Err}
use Rattle.lists.specs.Part.{put}
use Rattle.lists.specs.Refusal.{Test, test, refusal}
use Rattle.records.specs.Number.{out_of_range, bytes_behind, destination_short}
use Rattle.records.specs.Kind.{unit_ok, is_wide}
use Rattle.records.specs.Read.{cut_short}
use Rattle.records.specs.Message.{Message, encode_all}
use Rattle.settings.specs.Range.{memory_pages_ok, disk_blocks_ok, allowance_ok}
use Rattle.checkpoints.specs.declared.FileSettings.{FileSettings}
use Rattle.checkpoints.specs.Normal.{normal_of}
use Rattle.checkpoints.specs.Judge.{none_known, refusal_from, epoch_of}
use Rattle.checkpoints.specs.File.{Ending, closed, short, refused, file_in}

-- this paper's number of each answer, its value and the bytes missing; "Every refusal's value is 0"
abbrev pub number_of : Result ℕ Unread → ℕ
number_of (Ok length) = 0
number_of (Err (Short missing)) = cut_short
number_of (Err (Refused number)) = number

abbrev pub value_of : Result ℕ Unread → ℕ
value_of (Ok length) = length
value_of (Err u) = 0

abbrev pub missing_of : Result ℕ Unread → ℕ
missing_of (Ok length) = 0
missing_of (Err (Short missing)) = missing
missing_of (Err (Refused number)) = 0

-- U, M, D and B are in their ranges; else 1
abbrev pub file_settings_ok : FileSettings → Bool
file_settings_ok g = unit_ok g.u && memory_pages_ok g.m && disk_blocks_ok g.d && allowance_ok g.b

-- the bytes of the normal form of these records, with their epoch
unfoldable pub normal_bytes : FileSettings → List Message → List ℕ
normal_bytes g ms = encode_all (is_wide g.m) (normal_of (epoch_of ms) g.d g.m ms)

-- of a file that holds a whole checkpoint, and so many bytes after it: 29, then 30
abbrev pub end_tests : (behind normal room : ℕ) → List Test
end_tests behind normal room = test bytes_behind (eqb behind 0) ∷ test destination_short (leb normal room) ∷ []

abbrev pub written : (number normal : ℕ) → Result ℕ Unread
written number normal = cond (eqb number 0) (Ok normal) (Err (Refused number))

-- by how the file ends, once none of its records is refused
abbrev pub ended : Ending → (normal room : ℕ) → Result ℕ Unread
ended (closed rest) normal room = written (refusal (end_tests (length rest) normal room)) normal
ended (short missing) normal room = Err (Short missing)
ended (refused number) normal room = Err (Refused number)

-- 1; the records in turn; 29; 30
unfoldable pub saved : FileSettings → List ℕ → (room : ℕ) → Result ℕ Unread
saved g file room =
    let f = file_in g file in
    let number = refusal_from g none_known f.messages in
    cond (file_settings_ok g)
    (cond (eqb number 0) (ended f.ending (length (normal_bytes g f.messages)) room) (Err (Refused number)))
    (Err (Refused out_of_range))

-- the normal form is written
abbrev pub is_written : Result ℕ Unread → Bool
is_written (Ok length) = true
is_written (Err u) = false

-- the destination: the normal form at its head, "the destination's spare end" stays; refused or cut short, all of it does
unfoldable pub saved_destination : FileSettings → (file destination : List ℕ) → List ℕ
saved_destination g file destination =
    cond (is_written (saved g file (length destination))) (put destination 0 (normal_bytes g (file_in g file).messages)) destination
