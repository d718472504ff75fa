use mathlib.Core.Path.{◌≡◌, sym, ◌∙◌}
use native.Mathlib.Omega.{arith}
use Rattle.records.specs.Kind.{commit_kind, record_length}
use Rattle.records.proofs.KindLaws.{commit-length}
use Rattle.records.proofs.reading.commit_at.Goals as goal

pub get-requires : goal.get-requires
get-requires c = let a = c in omega (arith, commit-length a.args.u a.args.wide, a.requires)

pub number_at-requires : goal.number_at-requires
number_at-requires c = let a = c in omega (arith, commit-length a.args.u a.args.wide, a.requires)

pub number_at-requires-2 : goal.number_at-requires-2
number_at-requires-2 c = let a = c in omega (arith, commit-length a.args.u a.args.wide, a.requires, c.number_end.ensures)

pub returns : goal.returns
returns c =
    let a = c.args in
    let e : record_length a.u (commit_kind a.wide) ≡ c.commit_length-end.result = commit-length a.u a.wide ∙ sym c.commit_length-end.ensures in
    rw (e, c.commit_length-end.ensures, c.get.ensures, c.number_at.ensures, c.number_at-2.ensures, c.number_end.ensures)
