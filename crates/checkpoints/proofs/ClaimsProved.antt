-- The claims of files and their normal forms, proved (document 02, Job 14): what is written, that a normal form has its
-- file's content, that equal content is equal normal forms, and that a normal form is its own normal form.
-- Assumes nothing.
use Rattle.std.specs.Prelude.{Result, Ok, Err}
use Rattle.std.specs.Result.{is_err}
use Rattle.records.specs.declared.Unread.{Unread}
use Rattle.records.specs.declared.Unread.TheVariants.{Short, Refused}
use mathlib.Core.Path.{◌≡◌, refl, sym, ap, ◌∙◌, subst}
use mathlib.Core.Bool.{Bool, true, false, cond, true≢false}
use mathlib.Core.Logic.{◌⊎◌, ⊎_elim}
use mathlib.Core.List.{List, [], ◌∷◌, ◌++◌, append-nil}
use Prim.Native.Nat.{ℕ, ◌≤◌}
use native.Mathlib.Omega.{arith}
use lib.Dec.{leb, eqb}
use lib.ListN.{length}
use borrow.Author.Tests.{leb-true, le-leb, eqb-true, ne_eqb}
use Rattle.lists.proofs.TestLaws.{by-test}
use Rattle.lists.proofs.PartLaws.{put_front}
use Rattle.records.specs.Number.{out_of_range, bytes_behind, destination_short}
use Rattle.records.specs.Kind.{unit_ok, is_wide}
use Rattle.records.specs.Message.{Message, commit, encode_all}
use Rattle.settings.proofs.RangeLaws.{SharedFacts, shared-facts, shared-unit}
use Rattle.runs.proofs.Effects.{All, Readable}
use Rattle.checkpoints.specs.declared.FileSettings.{FileSettings}
use Rattle.checkpoints.specs.Content.{SameContent, is_block}
use Rattle.checkpoints.specs.Normal.{normal_of}
use Rattle.checkpoints.specs.Judge.{none_known, refusal_from, epoch_of}
use Rattle.checkpoints.specs.File.{File, Ending, closed, short, refused, file_of, file_in}
use Rattle.checkpoints.specs.Saving.{file_settings_ok, normal_bytes, ended, saved}
use Rattle.checkpoints.specs.Claims.{Accepted, normal_of_file, WrittenExactly, NormalContent, EqualFiles, NormalItself}
use Rattle.checkpoints.proofs.FileBytes.{file-readable, file-closed, file-of}
use Rattle.checkpoints.proofs.ShapeLaws.{Shape, shape_of}
use Rattle.checkpoints.proofs.ContentLaws.{content-sym, content-trans}
use Rattle.checkpoints.proofs.NormalLaws.{normal_staged, normal-same, normal-epoch}
use Rattle.checkpoints.proofs.NormalShapeLaws.{normal-content, normal-accepted, normal-again, normal_front, normal-before, normal-ends}
use Rattle.checkpoints.proofs.NormalReadLaws.{normal-readable}
use Rattle.checkpoints.proofs.NormalBytesLaws.{file-bytes, normal-bytes}
use Rattle.checkpoints.proofs.NormalFormLaws.{left-unread, left-written}

-- ---- a file that is accepted
module _ (g : FileSettings) (file : List ℕ) (a : Accepted g file) where
  -- its records, and those of its normal form
  abbrev pub messages_of : List Message
  messages_of = (file_in g file).messages

  -- those of its normal form
  abbrev pub normal_messages : List Message
  normal_messages = normal_of (epoch_of messages_of) g.d g.m messages_of

  -- its settings are in their ranges
  accepted-settings : SharedFacts g.u g.m g.d g.b
  accepted-settings = shared-facts g.u g.m g.d g.b a.settings

  -- U is
  pub accepted-unit : unit_ok g.u ≡ true
  accepted-unit = shared-unit accepted-settings

  -- its records have the shape
  pub accepted-shape : Shape g messages_of
  accepted-shape =
      let c = file-closed g file [] accepted-unit a.whole in
      subst (Shape g) (sym c.are) (shape_of g c.before c.epoch c.pages c.blocks c.befores (ap (refusal_from g none_known) (sym c.are) ∙ a.records))

  -- the records of its normal form are read back
  pub accepted-readable : All (Readable g.u (is_wide g.m)) normal_messages
  accepted-readable =
      let f = accepted-settings in
      normal-readable g messages_of accepted-shape f.m-high f.d-high f.b-high (file-readable g file accepted-unit a.bytes)

  -- the normal form, read as a file
  pub normal-file : file_in g (normal_of_file g file) ≡ file_of normal_messages (closed [])
  unfolding normal_bytes
  normal-file =
      let s = accepted-shape in
      let front = normal_front g messages_of s in
      let e = epoch_of messages_of in
      let p = length s.ps in
      let b = length (normal_staged is_block g.d messages_of) in
      let ends : normal_messages ≡ front ++ (commit e p b ∷ []) = normal-ends g messages_of s in
      let wide = is_wide g.m in
      ap (file_in g) (ap (encode_all wide) ends ∙ sym (append-nil (encode_all wide (front ++ (commit e p b ∷ [])))))
      ∙ file-of g accepted-unit front e p b [] (normal-before g messages_of s) (subst (All (Readable g.u wide)) ends accepted-readable)
      ∙ ap (λ (l : List Message). file_of l (closed [])) (sym ends)

  -- so its records are those of the normal form
  pub normal-messages : (file_in g (normal_of_file g file)).messages ≡ normal_messages
  normal-messages = ap (λ (f : File). f.messages) normal-file

-- ---- the normal form has the file's epoch and content
pub normal-content-proved : NormalContent
normal-content-proved g file a =
    let ms = messages_of g file a in
    let same = normal-messages g file a in (
      ap epoch_of same ∙ normal-epoch (epoch_of ms) g.d g.m ms,
      subst (λ (l : List Message). SameContent l ms) (sym same) (normal-content g ms (accepted-shape g file a)),
    )

-- ---- equal content is equal normal forms
pub equal-files-proved : EqualFiles
unfolding normal_bytes
equal-files-proved g a b x y epochs =
    let ma = messages_of g a x in
    let mb = messages_of g b y in
    let na = normal_messages g a x in
    let nb = normal_messages g b y in (
      (λ (q : normal_of_file g a ≡ normal_of_file g b).
          let same : na ≡ nb = sym (normal-messages g a x) ∙ ap (λ (l : List ℕ). (file_in g l).messages) q ∙ normal-messages g b y in
          content-trans ma na mb (content-sym na ma (normal-content g ma (accepted-shape g a x)))
          (subst (λ (l : List Message). SameContent l mb) (sym same) (normal-content g mb (accepted-shape g b y)))),
      (λ (c : SameContent ma mb).
          ap (encode_all (is_wide g.m))
          (normal-same (epoch_of ma) g.d g.m ma mb c ∙ ap (λ (e : ℕ). normal_of e g.d g.m mb) epochs)),
    )

-- ---- a normal form is accepted, and is its own normal form
itself : (g : FileSettings) (ms : List Message) → Shape g ms → normal_bytes g (normal_of (epoch_of ms) g.d g.m ms) ≡ normal_bytes g ms
unfolding normal_bytes
itself g ms s =
    let nf = normal_of (epoch_of ms) g.d g.m ms in
    ap (encode_all (is_wide g.m)) (ap (λ (e : ℕ). normal_of e g.d g.m nf) (normal-epoch (epoch_of ms) g.d g.m ms) ∙ normal-again g ms s)

-- "A file is normalised to itself" (a file here is a normal form)
pub normal-itself-proved : NormalItself
normal-itself-proved g file a =
    let ms = messages_of g file a in
    let nf = normal_messages g file a in
    let s = accepted-shape g file a in
    let same : (file_in g (normal_of_file g file)).messages ≡ nf = normal-messages g file a in (
      record {
        bytes = normal-bytes g ms (file-bytes g file (accepted-unit g file a) a.bytes);
        settings = a.settings;
        records = ap (refusal_from g none_known) same ∙ normal-accepted g ms s;
        whole = ap (λ (f : File). f.ending) (normal-file g file a);
      },
      ap (normal_bytes g) same ∙ itself g ms s,
    )

-- ---- what is written
-- a refusal is none, nor is cut short
not_written : {A : Type 0} (u : Unread) (n : ℕ) → ◌≡◌ {A = Result ℕ Unread} (Err u) (Ok n) → A
not_written u n q = absurd (true≢false (ap is_err q))

-- the end of a file that is written: no byte after it, and room
ended-written : (f : Ending) (normal room n : ℕ) → ended f normal room ≡ Ok n → (f ≡ closed []) × (n ≡ normal) × (n ≤ room)
ended-written (closed []) normal room n q =
    ⊎_elim
    (λ (t : leb normal room ≡ true). let e : n ≡ normal = cc (rw t at q) in (refl, e, omega (arith, leb-true normal room t)))
    (λ (t : leb normal room ≡ false). not_written (Refused destination_short) n (rw t at q))
    (by-test (leb normal room))
ended-written (closed (x ∷ xs)) normal room n q =
    let t : eqb (length (x ∷ xs)) 0 ≡ false = ne_eqb (length (x ∷ xs)) 0 (λ e. omega arith) in not_written (Refused bytes_behind) n (rw t at q)
ended-written (short k) normal room n q = not_written (Short k) n q
ended-written (refused k) normal room n q = not_written (Refused k) n q

-- all tests before it
saved-written : (ok : Bool) (number : ℕ) (s : Result ℕ Unread) (n : ℕ) → cond ok (cond (eqb number 0) s (Err (Refused number))) (Err (Refused out_of_range)) ≡ Ok n
    → (ok ≡ true) × (number ≡ 0) × (s ≡ Ok n)
saved-written false number s n q = not_written (Refused out_of_range) n q
saved-written true number s n q = go (eqb number 0) refl q
  where
    go : (b : Bool) → eqb number 0 ≡ b → cond b s (Err (Refused number)) ≡ Ok n → (true ≡ true) × (number ≡ 0) × (s ≡ Ok n)
    go true e q = (refl, eqb-true number 0 e, q)
    go false e q = not_written (Refused number) n q

-- with room an accepted file is
written-accepted : (g : FileSettings) (file : List ℕ) (room : ℕ) → Accepted g file → length (normal_of_file g file) ≤ room → saved g file room ≡ Ok (length (normal_of_file g file))
unfolding saved
written-accepted g file room a l = rw (a.settings, a.records, a.whole, le-leb (length (normal_of_file g file)) room l)

-- with room an accepted file's normal form is written, and no other file's; the destination is as claimed
pub written-exactly-proved : WrittenExactly
unfolding saved
written-exactly-proved g file room bytes =
    let normal = length (normal_of_file g file) in (
      written-accepted g file room,
      (λ (n : ℕ) (q : saved g file room ≡ Ok n).
          let s = saved-written (file_settings_ok g) (refusal_from g none_known (file_in g file).messages) (ended (file_in g file).ending normal room) n q in
          let e = ended-written (file_in g file).ending normal room n s.2 in
          (record { bytes = bytes; settings = s.0; records = s.1; whole = e.0 }, e.1, e.2)),
      (λ (destination : List ℕ). (
        (λ (a : Accepted g file) (l : normal ≤ length destination).
            sym (left-written g file destination normal (written-accepted g file (length destination) a l)) ∙ put_front destination (normal_of_file g file)),
        (λ (n : ℕ) (q : (saved g file (length destination) ≡ Err (Refused n)) ⊎ (saved g file (length destination) ≡ Err (Short n))).
            ⊎_elim (λ r. sym (left-unread g file destination (Refused n) r)) (λ r. sym (left-unread g file destination (Short n) r)) q),
      )),
    )
