-- `checkpoints::normal::normal_form` meets its contract. Assumes nothing.
use Rattle.std.specs.Prelude.{Result, Err}
use Rattle.std.proofs.lemmas.Result.{err_from_is_err_and}
use mathlib.Core.Path.{◌≡◌, refl, sym, ap, subst, ◌∙◌}
use mathlib.Core.Bool.{true}
use native.Mathlib.Omega.{arith}
use lib.ListN.{length, replicate}
use Rattle.lists.specs.Part.{put}
use Rattle.records.specs.declared.Unread.{Unread}
use Rattle.checkpoints.specs.declared.Scanned.{Scanned}
use Rattle.checkpoints.specs.Claims.{AreBytes}
use Rattle.checkpoints.specs.Saving.{file_settings_ok, saved}
use Rattle.checkpoints.specs.Scan.{numbers_of, places_of}
use Rattle.checkpoints.proofs.ScanLaws.{file-range}
use Rattle.checkpoints.proofs.ScanEnds.{Committed, EndsRight, ends-right}
use Rattle.checkpoints.proofs.NormalFormLaws.{left-unread, left-written, range-refused, end-refused, end-written, end-room}
use Rattle.checkpoints.proofs.normal.normal_form.Goals as goal
use Rattle.checkpoints.proofs.normal.normal_form.Goals.{Else-not-shared_ok, After-scan, In_ok-scanned}

-- the settings are in their ranges
ok : (c : Else-not-shared_ok) → file_settings_ok c.args.g ≡ true
ok c = sym c.shared_ok.ensures ∙ c.if-not-shared_ok.false

-- where going through the file ended
ends : (c : After-scan) → file_settings_ok c.args.g ≡ true → EndsRight c.args.g c.args.file.now c.scan.result (numbers_of c.scan.new.blocks) (places_of c.scan.new.blocks)
ends c h =
    let bytes : AreBytes c.args.file.now = λ i. omega (arith, c.type_inv.file i) in
    ends-right c.args.g c.args.file.now (replicate 64 c.default-blocks.result) bytes h refl c.scan.ensures.0 c.scan.ensures.1 c.scan.ensures.2

-- with a COMMIT
whole : (c : In_ok-scanned) → EndsRight c.args.g c.args.file.now c.scan.result (numbers_of c.scan.new.blocks) (places_of c.scan.new.blocks)
    → Committed c.args.g c.args.file.now c.in_ok-scanned.scanned (numbers_of c.scan.new.blocks) (places_of c.scan.new.blocks)
whole c = subst (λ (r : Result Scanned Unread). EndsRight c.args.g c.args.file.now r (numbers_of c.scan.new.blocks) (places_of c.scan.new.blocks)) c.in_ok-scanned.was

pub returns-then-not-shared_ok : goal.returns-then-not-shared_ok
returns-then-not-shared_ok c =
    let a = c.args in
    let e : saved a.g a.file.now (length a.destination.now) ≡ Err c.from.result
    = range-refused a.g a.file.now (length a.destination.now) (sym c.shared_ok.ensures ∙ c.if-not-shared_ok.true) ∙ ap (λ (u : Unread). Err u) (sym c.from.ensures) in
    (sym e, left-unread a.g a.file.now a.destination.now _ e)

pub returns-in_err-scanned : goal.returns-in_err-scanned
returns-in_err-scanned c =
    let a = c.args in
    let w = goal.at.returns-in_err-scanned c in
    let p = err_from_is_err_and c.from_residual.result c.from_residual.ensures.1 in
    let unread = subst (λ (r : Result Scanned Unread). EndsRight a.g a.file.now r (numbers_of c.scan.new.blocks) (places_of c.scan.new.blocks)) c.in_err-scanned.was (ends w.After-scan (ok w.Else-not-shared_ok)) in
    let e = unread (length a.destination.now) in
    (rw (p.1, p.2) (sym e), left-unread a.g a.file.now a.destination.now _ e)

pub form_length-length-requires : goal.form_length-length-requires
form_length-length-requires c =
    let w = goal.at.form_length-length-requires c in
    let h = ok w.Else-not-shared_ok in
    let d = whole w.In_ok-scanned (ends w.After-scan h) in
    ((file-range c.args.g h).u-high, d.fits.blocks.slots, d.pages)

pub overflow_sub-file : goal.overflow_sub-file
overflow_sub-file c = let w = goal.at.overflow_sub-file c in (whole w.In_ok-scanned (ends w.After-scan (ok w.Else-not-shared_ok))).inside

pub returns-in_err-check_end : goal.returns-in_err-check_end
returns-in_err-check_end c =
    let a = c.args in
    let w = goal.at.returns-in_err-check_end c in
    let d = whole w.In_ok-scanned (ends w.After-scan (ok w.Else-not-shared_ok)) in
    let p = err_from_is_err_and c.from_residual-in_err-check_end.result c.from_residual-in_err-check_end.ensures.1 in
    let e = end-refused d (length a.destination.now) c.is_wide-wide.ensures c.form_length-length.ensures _ c.check_end.ensures c.in_err-check_end.was in
    (rw (p.1, p.2) (sym e), left-unread a.g a.file.now a.destination.now _ e)

pub write_form-requires : goal.write_form-requires
write_form-requires c =
    let a = c.args in
    let w = goal.at.write_form-requires c in
    let d = whole w.In_ok-scanned (ends w.After-scan (ok w.Else-not-shared_ok)) in
    let room = end-room d (length a.destination.now) c.is_wide-wide.ensures c.form_length-length.ensures _ c.check_end.ensures c.in_ok-check_end.was in
    (rw c.is_wide-wide.ensures d.fits, omega (arith, room, c.form_length-length.ensures), d.pages, d.records)

pub returns : goal.returns
returns c =
    let a = c.args in
    let w = goal.at.returns c in
    let d = whole w.In_ok-scanned (ends w.After-scan (ok w.Else-not-shared_ok)) in
    let e = end-written d (length a.destination.now) c.is_wide-wide.ensures c.form_length-length.ensures _ c.check_end.ensures c.in_ok-check_end.was in
    let form = rw (sym c.is_wide-wide.ensures) at d.form in
    (sym e, c.write_form.ensures ∙ ap (put a.destination.now 0) form ∙ left-written a.g a.file.now a.destination.now _ e)
