-- `trials::counts::without_first` meets its contract. Assumes nothing.
use Prim.Native.Nat.{◌≤◌}
use mathlib.Core.Path.{◌≡◌, ◌∙◌}
use native.Mathlib.Omega.{arith}
use borrow.Author.Rules.{rules}
use lib.ListN.{length, drop, length-take, length-drop}
use lib.Seq.{take_all}
use Rattle.std.proofs.lemmas.List.{take-append-le}
use Rattle.trials.proofs.counts.without_first.Goals as goal

pub slice_bounds-copy_from_slice-end : goal.slice_bounds-copy_from_slice-end
slice_bounds-copy_from_slice-end c = let l : 64 ≡ length c.args.sent = search rules in simp length-take (omega arith)

pub copy_from_slice-requires : goal.copy_from_slice-requires
copy_from_slice-requires c = let l : 64 ≡ length c.args.sent = search rules in simp (length-take, length-drop) (omega arith)

pub returns : goal.returns
returns c =
    let l : 64 ≡ length c.args.sent = search rules in
    let e = c.copy_from_slice.ensures in
    let rest : length (drop 1 c.args.sent) ≡ 63 = simp length-drop (omega arith) in
    let n : length c.copy_from_slice.new.self ≡ 63 = e.len ∙ simp length-take (omega arith) in
    let h : 63 ≤ length c.copy_from_slice.new.self = omega arith in
    rw take-append-le (take_all 63 c.copy_from_slice.new.self (omega arith) ∙ e.after ∙ take_all 63 (drop 1 c.args.sent) (omega arith))
