-- `checkpoints::normal::write_form` meets its contract. Assumes nothing.
use mathlib.Core.Path.{◌≡◌, sym, ap, subst, ◌∙◌}
use mathlib.Core.List.{List}
use Prim.Native.Nat.{ℕ, ◌*◌}
use native.Mathlib.Omega.{arith}
use Rattle.lists.specs.Part.{part, put}
use Rattle.std.proofs.lemmas.List.{take-map}
use lib.ListN.{replicate}
use Rattle.checkpoints.specs.declared.KeptBlock.{KeptBlock}
use Rattle.checkpoints.specs.Form.{pages_at, kept_in, kept_pages, marked_all, MarksKept}
use Rattle.checkpoints.proofs.MarkedLaws.{marks-kept}
use Rattle.checkpoints.proofs.WrittenLaws.{block-length, few-records, blocks-room, pages-room, form-done}
use Rattle.checkpoints.proofs.normal.write_form.Goals as goal
use Rattle.checkpoints.proofs.normal.write_form.Goals.{After-part_of}

pub write_blocks-at-requires : goal.write_blocks-at-requires
write_blocks-at-requires c =
    let t = c in
    (t.requires.0.blocks, subst (λ (ws : List ℕ). MarksKept t.args.d ws (kept_in t.args.kept)) (sym (c.mark_all.ensures ∙ ap (marked_all (replicate 64 0)) (sym (take-map (λ (b : KeptBlock). b.number) t.args.kept.counts.blocks t.args.kept.blocks.now)))) (marks-kept t.args.d t.requires.0.blocks.disk (kept_in t.args.kept)), blocks-room t.args.u t.args.d t.args.wide (kept_in t.args.kept) t.requires.0 t.args.out.now t.requires.1)

pub overflow_mul-from : goal.overflow_mul-from
overflow_mul-from c = let t = c in record { fits = omega (arith, few-records t.args.kept.counts.records 65535 t.args.u 10 t.requires.3 t.requires.0.blocks.unit (omega arith)) }

pub part_of-requires : goal.part_of-requires
part_of-requires c = let t = c in rw (sym (block-length t.args.u), c.pages_length-n.ensures) t.requires.0.pages

-- the bytes copied are PAGEs and STATE
pages-are : (c : After-part_of) → let t = c in c.part_of.result.now ≡ kept_pages t.args.u t.args.wide (kept_in t.args.kept)
pages-are c =
    let t = c in
    c.part_of.ensures
    ∙ ap (λ (x : ℕ). part (t.args.kept.counts.records * x) c.pages_length-n.result t.args.kept.file.now) (sym (block-length t.args.u))
    ∙ ap (λ (x : ℕ). part (pages_at t.args.u t.args.kept.counts) x t.args.kept.file.now) c.pages_length-n.ensures

pub copy_into-requires : goal.copy_into-requires
copy_into-requires c =
    let t = c in
    let wb = c.write_blocks-at in
    rw (pages-are (goal.at.copy_into-requires c).After-part_of) (pages-room t.args.u t.args.d t.args.wide (kept_in t.args.kept) t.requires.0 t.args.out.now t.requires.1 wb.new.out wb.result wb.ensures)

pub returns : goal.returns
returns c =
    let t = c in
    let wb = c.write_blocks-at in
    let copied = c.copy_into in
    form-done t.args.u t.args.d t.args.wide (kept_in t.args.kept) t.requires.0 t.args.out.now t.requires.1 wb.new.out wb.result wb.ensures copied.new.dst
    (copied.ensures ∙ ap (put wb.new.out wb.result) (pages-are (goal.at.returns c).After-part_of)) c.pages_length-n.result c.pages_length-n.ensures
    c.write_commit.new.out c.write_commit.result (rw c.epoch.ensures at c.write_commit.ensures)
