use mathlib.Core.Path.{refl}
use Prim.Native.Nat.{◌+◌, ◌-◌}
use native.Mathlib.Omega.{arith}
use Rattle.lists.specs.LittleEndian.{le_bytes}
use Rattle.lists.proofs.LittleEndianLaws.{length-le_bytes}
use Rattle.records.specs.Kind.{commit_kind, number_width}
use Rattle.records.specs.Write.{commit_record}
use Rattle.records.proofs.FrameLaws.{length-commit}
use Rattle.records.proofs.KindLaws.{width-range}
use Rattle.records.proofs.WriteLaws.{put-number-rest, two-room, two-no-room, written_of, unwritten_of}
use borrow.Author.Rules.{rules}
use Rattle.records.proofs.writing.write_commit.Goals as goal
use Rattle.records.proofs.writing.write_commit.Goals.{then-most_number-pages-via-then-most_number-pages, then-most_number-pages-via-else-most_number-pages+then-most_number-blocks, then-most_number-pages-via-else-most_number-pages+else-most_number-blocks+then-out-n}

pub returns-then-most_number-pages : goal.returns-then-most_number-pages
returns-then-most_number-pages c =
    let a = c.args in
    let n = length-commit a.wide a.epoch a.pages a.blocks in
    unwritten_of
    (two-no-room (number_width a.wide) (number_width a.wide) a.pages a.blocks _ _
    (λ p q h.
    elim c.then-most_number-pages.branch [
      | then-most_number-pages-via-then-most_number-pages w ↦ omega arith
      | then-most_number-pages-via-else-most_number-pages+then-most_number-blocks w ↦ omega arith
      | then-most_number-pages-via-else-most_number-pages+else-most_number-blocks+then-out-n w ↦ omega arith
    ]))
    refl refl

pub overflow_cast-n : goal.overflow_cast-n
overflow_cast-n c = let w = width-range c.args.wide in search rules

pub overflow_cast-pages : goal.overflow_cast-pages
overflow_cast-pages c = let m = c.most_number.ensures in search rules

pub overflow_cast-blocks : goal.overflow_cast-blocks
overflow_cast-blocks c = let m = c.most_number-else-most_number-pages.ensures in search rules

pub returns : goal.returns
unfolding commit_record
returns c =
    let a = c.args in
    let k = number_width a.wide in
    let n = length-commit a.wide a.epoch a.pages a.blocks in
    let e = put-number-rest (8 + k + k - 4) (commit_kind a.wide) a.epoch a.out.now k a.pages (le_bytes k a.blocks) (rw length-le_bytes (omega arith)) (omega arith) in
    written_of (two-room k k a.pages a.blocks _ _ (omega arith) (omega arith) (omega arith)) (cc e) (omega arith)
