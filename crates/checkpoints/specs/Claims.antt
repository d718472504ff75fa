-- What is claimed of files and their normal forms (document 02, Job 14). Assumes nothing.
use Rattle.records.specs.declared.Unread.TheVariants.{Short, Refused}
use Rattle.std.specs.Prelude.{ℕ, ◌≤◌, ◌<◌, ◌≡◌, List, [], ◌++◌, true, ◌⊎◌, length, drop, get_or, Ok, Err}
use Rattle.checkpoints.specs.declared.FileSettings.{FileSettings}
use Rattle.checkpoints.specs.Content.{SameContent}
use Rattle.checkpoints.specs.Judge.{none_known, refusal_from, epoch_of}
use Rattle.checkpoints.specs.File.{closed, file_in}
use Rattle.checkpoints.specs.Saving.{file_settings_ok, normal_bytes, saved, saved_destination}

-- bytes, as those of every lent slice are
abbrev pub AreBytes : List ℕ → Type 0
AreBytes s = (i : ℕ) → get_or s i 0 < 256

-- a file that is accepted, given room for its normal form: one whole checkpoint, no record of which is refused, and no
-- byte after it
pub record Accepted (g : FileSettings) (file : List ℕ) : Type 0 where
  pub bytes : AreBytes file
  pub settings : file_settings_ok g ≡ true
  pub records : refusal_from g none_known (file_in g file).messages ≡ 0
  pub whole : (file_in g file).ending ≡ closed []

-- the bytes of its normal form
abbrev pub normal_of_file : FileSettings → List ℕ → List ℕ
normal_of_file g file = normal_bytes g (file_in g file).messages

-- given room, an accepted file's normal form is written, and no other file's is: it is then at the head of the
-- destination, whose spare end stays; refused or cut short, all of the destination stays
abbrev pub WrittenExactly : Type 0
WrittenExactly =
    (g : FileSettings) (file : List ℕ) (room : ℕ) → AreBytes file
    → (Accepted g file → length (normal_of_file g file) ≤ room → saved g file room ≡ Ok (length (normal_of_file g file)))
    × ((n : ℕ) → saved g file room ≡ Ok n → Accepted g file × (n ≡ length (normal_of_file g file)) × (n ≤ room))
    × ((destination : List ℕ)
    → (Accepted g file → length (normal_of_file g file) ≤ length destination
    → saved_destination g file destination ≡ normal_of_file g file ++ drop (length (normal_of_file g file)) destination)
    × ((n : ℕ) → (saved g file (length destination) ≡ Err (Refused n)) ⊎ (saved g file (length destination) ≡ Err (Short n)) → saved_destination g file destination ≡ destination))

-- the normal form, read as a file, has the file's epoch and content
abbrev pub NormalContent : Type 0
NormalContent =
    (g : FileSettings) (file : List ℕ) → Accepted g file
    → let f = file_in g file in let n = file_in g (normal_of_file g file) in (epoch_of n.messages ≡ epoch_of f.messages) × SameContent n.messages f.messages

-- "Two checkpoints of the same epoch and settings have equal files exactly when ..": their normal forms are equal where
-- the contents are the same, and only there
abbrev pub EqualFiles : Type 0
EqualFiles =
    (g : FileSettings) (a b : List ℕ) → Accepted g a → Accepted g b → epoch_of (file_in g a).messages ≡ epoch_of (file_in g b).messages
    → (normal_of_file g a ≡ normal_of_file g b → SameContent (file_in g a).messages (file_in g b).messages)
    × (SameContent (file_in g a).messages (file_in g b).messages → normal_of_file g a ≡ normal_of_file g b)

-- "A file is normalised to itself" (a file here is a normal form): a normal form is accepted, and is its own normal
-- form
abbrev pub NormalItself : Type 0
NormalItself =
    (g : FileSettings) (file : List ℕ) → Accepted g file → Accepted g (normal_of_file g file) × (normal_of_file g (normal_of_file g file) ≡ normal_of_file g file)
