-- The record that is judged, by what was read and its refusal. Assumes nothing.
use Rattle.std.specs.Prelude.{Result}
use Prim.Native.Nat.{ℕ}
use mathlib.Core.Path.{◌≡◌, refl, sym}
use mathlib.Core.List.{List}
use Rattle.records.specs.declared.Record.{Record}
use Rattle.records.specs.declared.Unread.{Unread}
use Rattle.records.specs.Read.{read_record}
use Rattle.rules.specs.Reply.{unless_refused}
use Rattle.checkpoints.specs.declared.FileSettings.{FileSettings}
use Rattle.checkpoints.specs.Judge.{Known}
use Rattle.checkpoints.specs.File.{file_reader}
use Rattle.checkpoints.specs.Scan.{record_refusal, judged}

pub judged-number : (g : FileSettings) (k : Known) (rest : List ℕ) (r : Result Record Unread) → r ≡ read_record (file_reader g) g.u rest
    → judged g k rest ≡ unless_refused (record_refusal g k r) r
unfolding judged
judged-number g k rest r e = rw (sym e) refl
