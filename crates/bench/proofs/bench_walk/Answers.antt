-- `bench::bench_walk` is safe: it counts no more pages than there are.
use mathlib.Core.Path.{ap, ◌∙◌}
use mathlib.Core.Logic.{inl}
use native.Mathlib.Omega.{arith}
use lib.ListN.{length}
use Rattle.marks.proofs.MarkLaws.{count-le}
use Rattle.marks.proofs.WalkLaws.{length-marked-pages}
use Rattle.bench.proofs.bench_walk.Goals as goal

pub count-requires-clause-fits : goal.count-requires-clause-fits
count-requires-clause-fits c =
    let a = c.args in
    inl (omega (arith, ap length c.marked.ensures ∙ length-marked-pages a.marks.now a.m, count-le a.marks.now a.m))
