-- The records of a file, in turn: each as a standby with these settings reads it, up to its COMMIT. Assumes nothing.
use Rattle.std.specs.Prelude.{ℕ, zero, suc, List, [], ◌∷◌, length, drop}
use Rattle.records.specs.declared.Reader.{Reader}
use Rattle.records.specs.declared.Reader.TheVariants as reader
use Rattle.records.specs.Cases.{by_kind, on_found}
use Rattle.records.specs.Number.{bad_kind}
use Rattle.records.specs.Kind.{is_wide, header_length}
use Rattle.records.specs.Read.{read_record, used_of}
use Rattle.records.specs.Message.{Message, page, block, state, commit}
use Rattle.rules.specs.Read.{bytes_at}
use Rattle.checkpoints.specs.declared.FileSettings.{FileSettings}

-- how a file ends: with a COMMIT, and the bytes after it; cut short, with the bytes missing of the record under way; with
-- a record that is refused by its header (6, 7), and the number
pub data Ending : Type 0 where
  closed : List ℕ → Ending
  short : ℕ → Ending
  refused : ℕ → Ending

pub record File : Type 0 where
  pub messages : List Message
  pub ending : Ending

abbrev pub file_of : List Message → Ending → File
file_of messages ending = record { messages = messages; ending = ending }

-- a record in front of the rest
abbrev pub after : Message → File → File
after x f = file_of (x ∷ f.messages) f.ending

-- "A standby reads only the kinds that its M calls for" (Job 7), so that ACK and COPY give 6
abbrev pub file_reader : FileSettings → Reader
file_reader g = reader.Standby (is_wide g.m)

-- at most so many records. Each has at least one byte, so that there are no more of them than bytes: as many as the file
-- has bytes are all, and where none is left to be read, no byte is
unfoldable pub records_in : (most : ℕ) → FileSettings → List ℕ → File
records_in zero g s = file_of [] (short header_length)
records_in (suc most) g s =
    let r = read_record (file_reader g) g.u s in
    let rest = drop (used_of r) s in
    by_kind r
    (λ e p c. after (page e p (bytes_at c s)) (records_in most g rest))
    (λ e n c. after (block e n (bytes_at c s)) (records_in most g rest))
    (λ e c. after (state e (bytes_at c s)) (records_in most g rest))
    (λ e p b c. file_of (commit e p b ∷ []) (closed rest))
    (on_found r (file_of [] (refused bad_kind)) (λ n. file_of [] (short n)) (λ n. file_of [] (refused n)))

abbrev pub file_in : FileSettings → List ℕ → File
file_in g s = records_in (length s) g s
