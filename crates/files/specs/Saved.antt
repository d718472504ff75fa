-- The normal form of a file, as C has it: the word of the calls, whose value is the length written. No bytes are used of
-- a link. Assumes nothing.
use Rattle.std.specs.Prelude.{ℕ, Result, Ok, Err}
use Rattle.records.specs.declared.Unread.{Unread}
use Rattle.rules.specs.declared.Accepted.{Accepted}
use Rattle.rules.specs.Reply.{accepted}
use Rattle.checkpoints.specs.declared.FileSettings.{FileSettings}
use Rattle.capi.specs.Word.{record_word}

abbrev pub file_settings : (u m d b : ℕ) → FileSettings
file_settings u m d b = record { u = u; m = m; d = d; b = b }

abbrev pub saved_answer : Result ℕ Unread → Result Accepted Unread
saved_answer (Ok length) = accepted length 0
saved_answer (Err u) = Err u

abbrev pub saved_word : Result ℕ Unread → ℕ
saved_word a = record_word (saved_answer a)
