-- Laws of the two widths (document 02, Job 7): a header of a kind that the standby's M does not call for is refused
-- with 6, whatever follows. Assumes nothing.
use Rattle.records.specs.declared.Unread.TheVariants.{Refused}
use Rattle.std.specs.Prelude.{Err}
use Prim.Native.Nat.{ℕ, ◌≤◌}
use mathlib.Core.Path.{◌≡◌, refl, sym, ap, ◌∙◌}
use mathlib.Core.Logic.{◌⊎◌, ⊎_elim}
use mathlib.Core.Bool.{false, not}
use mathlib.Core.List.{List}
use lib.ListN.{length}
use Rattle.lists.specs.LittleEndian.{le_at}
use Rattle.records.specs.declared.Unread.TheVariants as unread
use Rattle.records.specs.Kind.{is_wide, page_kind, commit_kind, header_length, is_for}
use Rattle.records.specs.Number.{bad_kind}
use Rattle.records.specs.Read.{read_record}
use Rattle.records.proofs.KindLaws.{other-page, other-commit}
use Rattle.records.proofs.ReadLaws.{read-kind}
use Rattle.settings.proofs.RangeLaws.{shared-unit}
use Rattle.rules.specs.declared.Standby.{Standby}
use Rattle.rules.specs.declared.ReadLent.{ReadLent}
use Rattle.rules.specs.Reply.{answer_of}
use Rattle.rules.specs.Judge.{reader_of}
use Rattle.rules.specs.Read.{read_reply}
use Rattle.rules.proofs.StandbyFacts.{standby-facts}
use Rattle.rules.proofs.JudgeLaws.{ReadReady, read-lent-of, judged-number}

module _ (s : Standby) (l : ReadLent) (bytes : List ℕ) (ready : ReadReady s l) (header : header_length ≤ length bytes) where
  -- "the others give 6"
  pub other-kinds-refused : is_for (reader_of s) (le_at 2 bytes 2) ≡ false → (read_reply s l bytes).answer ≡ Err (Refused bad_kind)
  unfolding read_reply
  other-kinds-refused other =
      let unit = shared-unit (standby-facts s ready.ok).settings.shared in
      let r : Err (unread.Refused bad_kind) ≡ read_record (reader_of s) s.settings.u bytes = sym (read-kind (reader_of s) s.settings.u bytes unit header other) in
      ap answer_of (judged-number s l bytes ready.ok (read-lent-of s l ready.lent) ready.receiving (Err (unread.Refused bad_kind)) r bad_kind refl)

  -- so a PAGE or a COMMIT of the other width is, of any length
  pub other-width-refused : (le_at 2 bytes 2 ≡ page_kind (not (is_wide s.settings.m))) ⊎ (le_at 2 bytes 2 ≡ commit_kind (not (is_wide s.settings.m)))
      → (read_reply s l bytes).answer ≡ Err (Refused bad_kind)
  other-width-refused =
      let wide = is_wide s.settings.m in
      ⊎_elim
      (λ e. other-kinds-refused (ap (is_for (reader_of s)) e ∙ other-page wide))
      (λ e. other-kinds-refused (ap (is_for (reader_of s)) e ∙ other-commit wide))
