use mathlib.Core.Path.{◌≡◌, ap, ◌∙◌}
use native.Mathlib.Omega.{arith}
use lib.ListN.{length}
use borrow.Author.Rules.{rules}
use Rattle.lists.proofs.PartLaws.{length_part}
use Rattle.plates.proofs.KeptLaws.{kept_more}
use Rattle.plates.proofs.kept.kept_with_all.Goals as goal

pub copy_into-requires : goal.copy_into-requires
copy_into-requires c =
    let a = c.args in
    let h : length a.l.bytes ≡ 65537 = search rules in
    let n = c.min-n.result in
    let m = c.min-n.ensures in
    let k = c.kept_length-length.ensures in
    let long : length c.part_of.result.now ≡ n = ap length c.part_of.ensures ∙ length_part 0 n a.bytes.now (omega arith) in
    omega (arith, long, h, m, k.1)

pub returns : goal.returns
returns c =
    let a = c.args in
    let h : length a.l.bytes ≡ 65537 = search rules in
    kept_more a.l a.bytes.now _ _ _ h c.kept_length-length.ensures.0 (omega (arith, c.min-n.ensures)) (rw c.part_of.ensures at c.copy_into.ensures)
