-- `checkpoints::scan::scan` meets its contract. Assumes nothing.
use Prim.Native.Nat.{◌^◌, ◌<◌}
use mathlib.Core.Path.{◌≡◌, refl, sym, ◌∙◌}
use mathlib.Core.Bool.{true}
use native.Mathlib.Omega.{arith}
use lib.ListN.{length, drop}
use borrow.Author.Rules.{rules}
use Rattle.std.specs.Prelude.{Ok}
use Rattle.std.proofs.lemmas.Result.{err_from_is_err_and}
use Rattle.checkpoints.specs.Scan.{numbers_of, no_counts, known_of, judged, goes_on}
use Rattle.checkpoints.proofs.PlaceLaws.{length-numbers, length-places}
use Rattle.checkpoints.proofs.ScanMeaning.{accepted-goes}
use Rattle.checkpoints.proofs.ScanLaws.{judged-rest, counts-none, scans-start, scans-end, scans-low, scans-used, scans-next, turn-used, turn-fits}
use Rattle.checkpoints.proofs.scan.scan.Goals as goal
use Rattle.checkpoints.proofs.scan.scan.Goals.{After-used_of, In_default}

-- a record that is read is judged by what is kept
head : (c : After-used_of) → Ok c.in_ok-r.r ≡ judged c.args.g (known_of c.loop-r.k (numbers_of c.loop-r.blocks)) (drop c.loop-r.at c.args.file.now)
head c = let at = c.loop-r in sym c.in_ok-r.was ∙ judged-rest c.args.g at.k at.blocks c.args.file.now at.at c.judged.ensures

-- another has to follow one that is no COMMIT
on : (c : In_default) → Ok c.in_ok-r.r ≡ judged c.args.g (known_of c.loop-r.k (numbers_of c.loop-r.blocks)) (drop c.loop-r.at c.args.file.now) → goes_on (Ok c.in_ok-r.r) ≡ true
on c h = let at = c.loop-r in accepted-goes c.args.g (known_of at.k (numbers_of at.blocks)) (drop at.at c.args.file.now) c.in_ok-r.r (sym h) c.in_default.not-Commit

pub loop-r-init : goal.loop-r-init
loop-r-init c =
    let d = c.default-k.ensures in
    let none : c.default-k.result ≡ no_counts = counts-none c.default-k.result d.0 d.1.0 d.1.1.0 d.1.1.1.0 d.1.1.1.1.0 d.1.1.1.1.1 in
    rw none (scans-start (length-numbers c.args.blocks.now ∙ c.requires.1) (length-places c.args.blocks.now ∙ c.requires.1))

pub slice_bounds-judged-count : goal.slice_bounds-judged-count
slice_bounds-judged-count c = c.loop-r.invariant.inside

pub slice_bounds-judged-start : goal.slice_bounds-judged-start
slice_bounds-judged-start c = let h = c.loop-r.invariant.inside in search rules

pub judged-requires : goal.judged-requires
judged-requires c = omega (arith, scans-low c.requires.0 c.loop-r.invariant refl, length-numbers c.loop-r.blocks)

pub returns-in_err-r : goal.returns-in_err-r
returns-in_err-r c =
    let at = c.loop-r in
    let p = err_from_is_err_and c.from_residual.result c.from_residual.ensures.1 in
    let h = sym c.in_err-r.was ∙ judged-rest c.args.g at.k at.blocks c.args.file.now at.at c.judged.ensures in
    rw (p.1, p.2, scans-end c.requires.0 at.invariant h refl) (refl, refl, refl)

pub overflow_add-end : goal.overflow_add-end
overflow_add-end c = record { fits = omega (arith, c.used_of.ensures, scans-used c.requires.0 c.loop-r.invariant (head (goal.at.overflow_add-end c).After-used_of)) }

pub returns-in-Commit : goal.returns-in-Commit
returns-in-Commit c =
    let h = rw c.in-Commit.is at (head (goal.at.returns-in-Commit c).After-used_of) in
    rw (c.used_of.ensures, scans-end c.requires.0 c.loop-r.invariant h refl, c.in-Commit.is) (refl, refl, refl)

pub kept_with-k-requires : goal.kept_with-k-requires
kept_with-k-requires c =
    let h = head (goal.at.kept_with-k-requires c).After-used_of in
    let small : length c.args.file.now < 2 ^ 64 = omega arith in
    turn-fits c.requires.0 c.loop-r.invariant h (on (goal.at.kept_with-k-requires c).In_default h) small

pub loop-r-smaller : goal.loop-r-smaller
loop-r-smaller c =
    let h = head (goal.at.loop-r-smaller c).After-used_of in
    let u = turn-used c.requires.0 c.loop-r.invariant h (on (goal.at.loop-r-smaller c).In_default h) in
    omega (arith, u.0, u.1, c.used_of.ensures)

pub loop-r-preserved : goal.loop-r-preserved
loop-r-preserved c =
    let h = head (goal.at.loop-r-preserved c).After-used_of in
    let q = c.kept_with-k.ensures in
    scans-next c.requires.0 c.loop-r.invariant h (on (goal.at.loop-r-preserved c).In_default h) _ _ _ _ q.1 q.2 q.0 c.used_of.ensures
