-- Where going through a file ends, and what the call then answers: at a COMMIT with what was kept of the whole
-- checkpoint, else cut short or refused. Assumes nothing.
use Rattle.std.specs.Prelude.{Result, Ok, Err}
use mathlib.Core.Path.{◌≡◌, refl, sym, ap, ap₂, ◌∙◌, subst}
use mathlib.Core.Bool.{Bool, true}
use mathlib.Core.Logic.{⊎_elim}
use mathlib.Core.List.{List, [], ◌∷◌, ◌++◌, append-nil}
use Prim.Native.Nat.{ℕ, zero, suc, ◌+◌, ◌-◌, ◌≤◌, ◌<◌}
use native.Mathlib.Omega.{arith}
use lib.ListN.{length, drop, length-drop}
use Rattle.lists.specs.Refusal.{refusal}
use Rattle.lists.proofs.TestLaws.{eq-or-ne}
use Rattle.records.specs.declared.Cursor.{Cursor}
use Rattle.records.specs.declared.Record.{Record}
use Rattle.records.specs.declared.Unread.{Unread}
use Rattle.records.specs.declared.Record.TheVariants.{Page, Block, State, Commit, Ack}
use Rattle.records.specs.declared.Unread.TheVariants.{Short, Refused}
use Rattle.records.specs.Kind.{unit_ok, is_wide}
use Rattle.records.specs.Read.{used_of}
use Rattle.records.specs.Message.{Message, commit, encode_all}
use Rattle.records.proofs.ReadLaws.{is_found}
use Rattle.settings.proofs.RangeLaws.{SharedFacts, shared-facts, shared-unit}
use Rattle.runs.proofs.Effects.{All, Readable}
use Rattle.checkpoints.specs.declared.FileSettings.{FileSettings}
use Rattle.checkpoints.specs.declared.KeptBlock.{KeptBlock}
use Rattle.checkpoints.specs.declared.Scanned.{Scanned}
use Rattle.checkpoints.specs.Judge.{Known, none_known, message_refusal, refusal_from}
use Rattle.checkpoints.specs.File.{File, Ending, closed, file_of, file_in}
use Rattle.checkpoints.specs.File as file-of
use Rattle.checkpoints.specs.Scan.{numbers_of, places_of, known_of, record_refusal, judged, goes_on, Scanning, scanned_with, ScanEnd, scan_in, scanning, scan_of, scanned_in}
use Rattle.checkpoints.specs.Form.{Kept, kept_of, kept_form, form_length, FormFits}
use Rattle.checkpoints.specs.Saving.{file_settings_ok, normal_bytes, end_tests, written, ended, saved}
use Rattle.checkpoints.specs.Claims.{AreBytes}
use Rattle.checkpoints.proofs.ByteLaws.{message_of, found-no-ack, used-range}
use Rattle.checkpoints.proofs.FileLaws.{head_of, file-before, file-commit, file-short, file-refused}
use Rattle.checkpoints.proofs.FileBytes.{file-readable, file-encoded}
use Rattle.checkpoints.proofs.KnownLaws.{known_after, known-append, cons-refusal, nil-refusal, append-refusal}
use Rattle.checkpoints.proofs.PlaceLaws.{length-numbers, length-places}
use Rattle.checkpoints.proofs.ShapeLaws.{shape_of}
use Rattle.checkpoints.proofs.ScanMeaning.{judged-accepted, judged-refused, refusal-found, goes_before, scan-more, scan-last}
use Rattle.checkpoints.proofs.ReadTo.{joined, ReadTo, read-start, last-stays, read_more}
use Rattle.checkpoints.proofs.FormLaws.{KeptOf, form-bytes, form-length, form-fits, pages-high, records-high}
use Rattle.checkpoints.proofs.AnswerLaws.{refusal-first, refusal-behind, saved-ended, saved-refused}

-- it ends with a COMMIT: what was kept is that of a whole checkpoint, and the answer is by the bytes left and the room
pub record Committed (g : FileSettings) (file : List ℕ) (s : Scanned) (numbers places : List ℕ) : Type 0 where
  pub inside : s.end ≤ length file
  pub answer : (room : ℕ)
      → saved g file room
      ≡ written (refusal (end_tests (length file - s.end) (form_length g.u (is_wide g.m) s.counts) room)) (form_length g.u (is_wide g.m) s.counts)
  pub form : kept_form g.u g.d (is_wide g.m) (kept_of s.counts numbers places file) ≡ normal_bytes g (file_in g file).messages
  pub fits : FormFits g.u g.d (is_wide g.m) (kept_of s.counts numbers places file)
  pub pages : s.counts.pages ≤ 65536
  pub records : s.counts.records ≤ 65535

-- with a COMMIT, or with what is cut short or refused, which is the answer
abbrev pub EndsRight : FileSettings → (file : List ℕ) → Result Scanned Unread → (numbers places : List ℕ) → Type 0
EndsRight g file (Ok s) numbers places = Committed g file s numbers places
EndsRight g file (Err u) numbers places = (room : ℕ) → saved g file room ≡ Err u

-- the last record, where one is accepted
pub record LastCommit (r : Record) : Type 0 where
  pub wide : Bool
  pub epoch : ℕ
  pub pages : ℕ
  pub blocks : ℕ
  pub at : Cursor
  pub is_commit : r ≡ Commit wide epoch pages blocks at

abbrev pub LastRight : Result Record Unread → Type 0
LastRight (Ok r) = LastCommit r
LastRight (Err u) = Unit {0}

pub record ScanEnds (g : FileSettings) (file : List ℕ) (e : ScanEnd) : Type 0 where
  pub last : LastRight e.last
  pub right : EndsRight g file (scanned_in e) e.numbers e.places

-- a record that is kept moves on by its bytes
at_with : (t : Scanning) (r : Result Record Unread) → (scanned_with t r).at ≡ t.at + used_of r
unfolding scanned_with
at_with t r = refl

module _ (g : FileSettings) (file : List ℕ) (bytes : AreBytes file) (ok : file_settings_ok g ≡ true) where
  -- U, M, D and B are in their ranges
  settings : SharedFacts g.u g.m g.d g.b
  settings = shared-facts g.u g.m g.d g.b ok

  -- so U is
  unit : unit_ok g.u ≡ true
  unit = shared-unit settings

  module _ (t : Scanning) (done : List Message) (i : ReadTo g file t done) where
    -- the bytes that are not read yet, and what is known
    abbrev rest : List ℕ
    rest = drop t.at file

    abbrev known : Known
    known = known_of t.counts t.numbers

    -- ---- the answer
    -- where no record is found, by the ending
    none-answer : (last : Ending) → file_in g rest ≡ file_of [] last → (room : ℕ) → saved g file room ≡ ended last (length (normal_bytes g done)) room
    none-answer last q room =
        let all : file_in g file ≡ file_of done last = i.records ∙ ap (joined done) q ∙ ap (λ (l : List Message). file_of l last) (append-nil done) in
        saved-ended g ok file room (ap (λ (f : File). refusal_from g none_known f.messages) all ∙ i.accepted)
        ∙ ap (λ (f : File). ended f.ending (length (normal_bytes g f.messages)) room) all

    -- where one is found that is refused, its number
    refused-answer : (r : Result Record Unread) → is_found r ≡ true → (more : List Message) (last : Ending) → file_in g rest ≡ file_of (message_of r rest ∷ more) last
        → (record_refusal g known r ≡ 0 → ⊥) → (room : ℕ) → saved g file room ≡ Err (Refused (record_refusal g known r))
    refused-answer r f more last q ne room =
        let x = message_of r rest in
        let number : record_refusal g known r ≡ message_refusal g (known_after none_known done) x =
        refusal-found g known rest r f ∙ ap (λ (n : Known). message_refusal g n x) i.known in
        saved-refused g ok file room (record_refusal g known r)
        (ap (λ (h : File). refusal_from g none_known h.messages) (i.records ∙ ap (joined done) q)
        ∙ refusal-behind g none_known done (x ∷ more) i.accepted
        ∙ refusal-first g (known_after none_known done) x more (λ z. ne (number ∙ z))
        ∙ sym number)
        ne

    -- ---- at a COMMIT that is not refused
    module _ (w : Bool) (e p b : ℕ) (c : Cursor) (q : head_of g rest ≡ Ok (Commit w e p b c)) (z : message_refusal g known (commit e p b) ≡ 0) where
      -- all records, the bytes behind them, and what is kept
      abbrev ms : List Message
      ms = done ++ (commit e p b ∷ [])

      abbrev behind : List ℕ
      behind = drop c.end rest

      abbrev kept : Kept
      kept = kept_of t.counts t.numbers t.places file

      -- they are those of the file
      whole-file : file_in g file ≡ file_of ms (closed behind)
      whole-file = i.records ∙ ap (joined done) (file-commit g rest unit q)

      -- none of them is refused
      whole-accepted : refusal_from g none_known ms ≡ 0
      whole-accepted =
          append-refusal g none_known done (commit e p b ∷ []) i.accepted
          (cons-refusal g (known_after none_known done) (commit e p b) [] (subst (λ (n : Known). message_refusal g n (commit e p b) ≡ 0) i.known z) (nil-refusal g (known_after none_known done)))

      -- what is kept is of them
      whole-kept : KeptOf g ms behind kept
      whole-kept =
          record {
            settings = settings;
            shape = shape_of g done e p b i.before whole-accepted;
            readable = subst (λ (f : File). All (Readable g.u (is_wide g.m)) f.messages) whole-file (file-readable g file unit bytes);
            bytes = ap (λ (f : File). encode_all (is_wide g.m) f.messages ++ behind) (sym whole-file)
                ∙ file-encoded g file behind unit bytes (ap (λ (f : File). f.ending) whole-file);
            known = i.known ∙ sym (known-append none_known done (commit e p b ∷ []));
            numbers = i.numbers;
            places = i.places;
            few = i.few;
            last = λ n there. let l = i.last n there in (l.0 ∙ sym (last-stays n done (commit e p b) refl), l.1);
          }

      -- the COMMIT ends inside the file
      commit-inside : t.at + c.end ≤ length file
      commit-inside =
          let range = rw q at (used-range g.u (is_wide g.m) rest (ap is_found q)) in
          omega (arith, range.1, length-drop t.at file, i.inside)

      -- and leaves the bytes behind
      behind-length : length behind ≡ length file - (t.at + c.end)
      behind-length = length-drop c.end rest ∙ omega (arith, length-drop t.at file, commit-inside)

      -- all that is said of a COMMIT
      whole-committed : Committed g file (record { counts = t.counts; end = t.at + c.end }) t.numbers t.places
      whole-committed =
          record {
            inside = commit-inside;
            answer = λ room.
                saved-ended g ok file room (ap (λ (f : File). refusal_from g none_known f.messages) whole-file ∙ whole-accepted)
                ∙ ap (λ (f : File). ended f.ending (length (normal_bytes g f.messages)) room) whole-file
                ∙ ap₂ (λ (left n : ℕ). written (refusal (end_tests left n room)) n) behind-length (form-length g ms behind kept whole-kept);
            form = form-bytes g ms behind kept whole-kept ∙ ap (λ (f : File). normal_bytes g f.messages) (sym whole-file);
            fits = form-fits g ms behind kept whole-kept;
            pages = pages-high g ms behind kept whole-kept;
            records = records-high g ms behind kept whole-kept;
          }

    -- ---- one step, where the later ones are shown
    module _ (most : ℕ) (later : (r : Result Record Unread) (xs : List Message) → ReadTo g file (scanned_with t r) xs → t.at + 8 ≤ (scanned_with t r).at → ScanEnds g file (scan_in most g file (scanned_with t r))) where
      -- what is shown
      abbrev Shown : Type 0
      Shown = ScanEnds g file (scan_in (suc most) g file t)

      -- a record that is refused is the last
      step-refused : (r : Result Record Unread) → head_of g rest ≡ r → is_found r ≡ true → (more : List Message) (last : Ending) → file_in g rest ≡ file_of (message_of r rest ∷ more) last
          → (record_refusal g known r ≡ 0 → ⊥) → Shown
      step-refused r q f more last files ne =
          let n = record_refusal g known r in
          subst (ScanEnds g file) (sym (scan-last most g file t (Err (Refused n)) (judged-refused g known rest r q ne) refl))
          (record { last = tt; right = refused-answer r f more last files ne })

      -- a PAGE, a BLOCK or a STATE
      step-goes : (r : Result Record Unread) → head_of g rest ≡ r → goes_on r ≡ true → Shown
      step-goes r q h =
          let f = goes_before rest r h in
          let x = message_of r rest in
          let range = rw q at (used-range g.u (is_wide g.m) rest (ap is_found q ∙ f.0)) in
          let files = (rw q at (file-before g rest unit)) f.1 in
          ⊎_elim
          (λ (z : record_refusal g known r ≡ 0).
          subst (ScanEnds g file) (sym (scan-more most g file t r (judged-accepted g known rest r q z) h))
          (later r (done ++ (x ∷ []))
          (read_more g unit settings.b-high file t done i r q h (sym (refusal-found g known rest r f.0) ∙ z))
          (omega (arith, range.0, at_with t r))))
          (λ (ne : record_refusal g known r ≡ 0 → ⊥). step-refused r q f.0 (file_in g (drop (used_of r) rest)).messages (file_in g (drop (used_of r) rest)).ending files ne)
          (eq-or-ne (record_refusal g known r) 0)

      -- a COMMIT
      step-commit : (w : Bool) (e p b : ℕ) (c : Cursor) → head_of g rest ≡ Ok (Commit w e p b c) → Shown
      step-commit w e p b c q =
          let r = Ok (Commit w e p b c) in
          ⊎_elim
          (λ (z : record_refusal g known r ≡ 0).
          subst (ScanEnds g file) (sym (scan-last most g file t r (judged-accepted g known rest r q z) refl))
          (record {
            last = record { wide = w; epoch = e; pages = p; blocks = b; at = c; is_commit = refl };
            right = whole-committed w e p b c q z;
          }))
          (λ (ne : record_refusal g known r ≡ 0 → ⊥). step-refused r q refl [] (closed (drop c.end rest)) (file-commit g rest unit q) ne)
          (eq-or-ne (record_refusal g known r) 0)

      -- refused by its header
      judged-bad : (n : ℕ) → head_of g rest ≡ Err (Refused n) → judged g known rest ≡ Err (Refused n)
      judged-bad n q =
          ⊎_elim (λ (z : n ≡ 0). judged-accepted g known rest (Err (Refused n)) q z) (λ (ne : n ≡ 0 → ⊥). judged-refused g known rest (Err (Refused n)) q ne) (eq-or-ne n 0)

      -- by what is read
      step_by : (r : Result Record Unread) → head_of g rest ≡ r → Shown
      step_by (Ok (Page w e p c)) q = step-goes (Ok (Page w e p c)) q refl
      step_by (Ok (Block e n c)) q = step-goes (Ok (Block e n c)) q refl
      step_by (Ok (State e c)) q = step-goes (Ok (State e c)) q refl
      step_by (Ok (Commit w e p b c)) q = step-commit w e p b c q
      step_by (Ok (Ack e c)) q = absurd (found-no-ack g.u (is_wide g.m) rest e c q)
      step_by (Err (Short n)) q =
          subst (ScanEnds g file) (sym (scan-last most g file t (Err (Short n)) (judged-accepted g known rest (Err (Short n)) q refl) refl))
          (record { last = tt; right = none-answer (file-of.short n) (file-short g rest unit q) })
      step_by (Err (Refused n)) q =
          subst (ScanEnds g file) (sym (scan-last most g file t (Err (Refused n)) (judged-bad n q) refl))
          (record { last = tt; right = none-answer (file-of.refused n) (file-refused g rest unit q) })

  -- ---- all steps: there are more than the bytes left, and each record has some
  go : (most : ℕ) (t : Scanning) (done : List Message) → ReadTo g file t done → length file < most + t.at → ScanEnds g file (scan_in most g file t)
  go zero t done i l = absurd (omega (arith, i.inside))
  go (suc most) t done i l = step_by t done i most (λ r xs j k. go most (scanned_with t r) xs j (omega arith)) (head_of g (drop t.at file)) refl

-- where it ends, and the answer
pub scan-ends : (g : FileSettings) (file : List ℕ) → AreBytes file → file_settings_ok g ≡ true → (numbers places : List ℕ) → length numbers ≡ 64 → length places ≡ 64
    → ScanEnds g file (scan_of g file numbers places)
scan-ends g file bytes ok numbers places n p =
    go g file bytes ok (length file + 1) (scanning numbers places) [] (read-start g file numbers places n p) (omega arith)

-- the same, of what the code then has
pub ends-right : (g : FileSettings) (file : List ℕ) (blocks : List KeptBlock) {r : Result Scanned Unread} {ns ps : List ℕ} → AreBytes file → file_settings_ok g ≡ true → length blocks ≡ 64
    → let e = scan_of g file (numbers_of blocks) (places_of blocks) in r ≡ scanned_in e → ns ≡ e.numbers → ps ≡ e.places → EndsRight g file r ns ps
ends-right g file blocks bytes ok size e f h =
    rw (e, f, h) (scan-ends g file bytes ok (numbers_of blocks) (places_of blocks) (length-numbers blocks ∙ size) (length-places blocks ∙ size)).right
