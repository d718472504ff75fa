-- The answer word of a normal form cuts nothing off. Assumes nothing.
use Rattle.records.specs.declared.Unread.TheVariants.{Short, Refused}
use Rattle.std.specs.Prelude.{Result, Ok, Err}
use Prim.Native.Nat.{ℕ, zero, suc, ◌+◌, ◌*◌, ◌-◌, ◌<◌}
use mathlib.Core.Path.{◌≡◌, refl, ap}
use mathlib.Core.Bool.{Bool, true, false, cond}
use mathlib.Core.Logic.{◌⊎◌, inl, inr}
use mathlib.Core.List.{List}
use native.Mathlib.Omega.{arith}
use lib.Dec.{eqb}
use lib.ListN.{length, drop, replicate}
use Rattle.lists.specs.Refusal.{refusal}
use Rattle.lists.specs.Select.{is_in}
use Rattle.lists.proofs.TestLaws.{by-test}
use Rattle.records.specs.declared.Record.{Record}
use Rattle.records.specs.declared.Unread.{Unread}
use Rattle.records.specs.declared.Record.TheVariants as record_of
use Rattle.records.specs.Kind.{is_wide}
use Rattle.records.specs.Read.{cut_short, missing_of as missing, other_refusal, read_record}
use Rattle.records.proofs.KindLaws.{width-range, commit-length}
use Rattle.records.proofs.ReadLaws.{read-ranges}
use Rattle.rules.proofs.ReplyLaws.{unless-cases}
use Rattle.checkpoints.specs.declared.FileSettings.{FileSettings}
use Rattle.checkpoints.specs.declared.Counts.{Counts}
use Rattle.checkpoints.specs.declared.Scanned.{Scanned}
use Rattle.checkpoints.specs.Judge.{Known, page_tests, block_tests, state_tests, commit_tests}
use Rattle.checkpoints.specs.File.{file_reader}
use Rattle.checkpoints.specs.Scan.{known_of, record_refusal, judged, goes_on, Scanning, scanned_with, scan_end, scan_in, scanning, scan_of, scanned_by}
use Rattle.checkpoints.specs.Form.{form_length}
use Rattle.checkpoints.specs.Claims.{AreBytes}
use Rattle.checkpoints.specs.Saving.{file_settings_ok, end_tests, written, saved}
use Rattle.checkpoints.specs.Saving as saving
use Rattle.checkpoints.proofs.NormalFormLaws.{range-refused}
use Rattle.checkpoints.proofs.WrittenLaws.{block-length, few-records, pages-most}
use Rattle.checkpoints.proofs.ScanEnds.{Committed, EndsRight, scan-ends}
use Rattle.files.specs.Saved.{saved_answer, saved_word}
use Rattle.capi.proofs.AnswerLaws.{Parts, AnsweredFits, record-parts, refusal-below}

-- ---- the record with which going through a file ends: the bytes missing and the number that it is refused with
abbrev LastFits : Result Record Unread → Type 0
LastFits r = (missing r < 65536) × (other_refusal r < cut_short)

record-below : (g : FileSettings) (k : Known) (r : Result Record Unread) → other_refusal r < cut_short → record_refusal g k r < cut_short
record-below g k (Ok (record_of.Page w e p c)) h = refusal-below (page_tests g k e p) refl
record-below g k (Ok (record_of.Block e n c)) h = refusal-below (block_tests g k (is_in n k.numbers) e n) refl
record-below g k (Ok (record_of.State e c)) h = refusal-below (state_tests k e) refl
record-below g k (Ok (record_of.Commit w e p b c)) h = refusal-below (commit_tests k e p b) refl
record-below g k (Ok (record_of.Ack e c)) h = h
record-below g k (Err (Short n)) h = h
record-below g k (Err (Refused n)) h = h

judged-fits : (g : FileSettings) (k : Known) (rest : List ℕ) → LastFits (judged g k rest)
unfolding judged
judged-fits g k rest =
    let r = read_record (file_reader g) g.u rest in
    let w = read-ranges (file_reader g) g.u rest in
    let low : other_refusal r < cut_short = omega (arith, w.other) in
    unless-cases (record_refusal g k r) r LastFits (λ z. (omega (arith, w.missing), low)) (λ z. (omega arith, record-below g k r low))

last_fits : (most : ℕ) (g : FileSettings) (file : List ℕ) (t : Scanning) → LastFits (scan_in most g file t).last
unfolding scan_in
last_fits zero g file t = (omega arith, omega arith)
last_fits (suc most) g file t =
    let r = judged g (known_of t.counts t.numbers) (drop t.at file) in
    go r (judged-fits g (known_of t.counts t.numbers) (drop t.at file)) (last_fits most g file (scanned_with t r)) (goes_on r)
  where
    go : (r : Result Record Unread) → LastFits r → LastFits (scan_in most g file (scanned_with t r)).last → (b : Bool)
        → LastFits (cond b (scan_in most g file (scanned_with t r)) (scan_end t r)).last
    go r f more true = more
    go r f more false = f

-- ---- the length of a normal form has 32 bits
form-low : (g : FileSettings) (file : List ℕ) (s : Scanned) (numbers places : List ℕ) → Committed g file s numbers places → form_length g.u (is_wide g.m) s.counts < 4294967296
form-low g file s numbers places d =
    let wide = is_wide g.m in
    let k = s.counts in
    let u-high = d.fits.blocks.unit in
    omega (
      arith,
      ap (λ (x : ℕ). k.blocks * x) (block-length g.u),
      few-records k.blocks 64 g.u 10 d.fits.blocks.slots u-high (omega arith),
      pages-most g.u wide k u-high d.pages,
      commit-length g.u wide,
      width-range wide,
    )

-- ---- every answer fits
abbrev SavedFits : Result ℕ Unread → Type 0
SavedFits a = AnsweredFits (saved_answer a)

written-fits : (number normal : ℕ) → number < cut_short → normal < 4294967296 → SavedFits (written number normal)
written-fits number normal a b = go (eqb number 0)
  where
    go : (t : Bool) → SavedFits (cond t (Ok normal) (Err (Refused number)))
    go true = (omega arith, b)
    go false = a

ends-fit : (g : FileSettings) (file : List ℕ) (room : ℕ) (last : Result Record Unread) (counts : Counts) (end : ℕ) (numbers places : List ℕ)
    → LastFits last → EndsRight g file (scanned_by last counts end) numbers places → SavedFits (saved g file room)
ends-fit g file room (Ok r) counts end numbers places l d =
    let normal = form_length g.u (is_wide g.m) counts in
    let tests = end_tests (length file - end) normal room in
    rw (d.answer room) (written-fits (refusal tests) normal (refusal-below tests refl) (form-low g file (record { counts = counts; end = end }) numbers places d))
ends-fit g file room (Err (Short n)) counts end numbers places l answer = rw (answer room) l.0
ends-fit g file room (Err (Refused n)) counts end numbers places l answer = rw (answer room) l.1

saved-fits : (g : FileSettings) (file : List ℕ) (room : ℕ) → AreBytes file → SavedFits (saved g file room)
saved-fits g file room bytes = go (by-test (file_settings_ok g))
  where
    go : (file_settings_ok g ≡ true) ⊎ (file_settings_ok g ≡ false) → SavedFits (saved g file room)
    go (inl ok) =
        let e = scan_of g file (replicate 64 0) (replicate 64 0) in
        ends-fit g file room e.last e.counts e.end e.numbers e.places (last_fits (length file + 1) g file (scanning (replicate 64 0) (replicate 64 0))) (scan-ends g file bytes ok (replicate 64 0) (replicate 64 0) refl refl).right
    go (inr bad) = rw (range-refused g file room bad) (omega arith)

-- what the caller takes out of the word is the answer's number, no bytes used, those missing, and its value
pub saved-parts : (g : FileSettings) (file : List ℕ) (room : ℕ) → AreBytes file
    → let a = saved g file room in Parts (saved_word a) (saving.number_of a) 0 (saving.missing_of a) (saving.value_of a)
saved-parts g file room bytes = parts (saved g file room) (saved-fits g file room bytes)
  where
    parts : (a : Result ℕ Unread) → SavedFits a → Parts (saved_word a) (saving.number_of a) 0 (saving.missing_of a) (saving.value_of a)
    parts (Ok n) f = record-parts (saved_answer (Ok n)) f
    parts (Err (Short n)) f = record-parts (saved_answer (Err (Short n))) f
    parts (Err (Refused n)) f = record-parts (saved_answer (Err (Refused n))) f
