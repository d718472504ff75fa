use Rattle.std.proofs.Common.{refl, sym, ◌∙◌, ◌≡◌, zero-add, true, false, arith}
use Rattle.std.proofs.Common.{eq-eqb}
use borrow.Author.Tests.{ne_eqb}
use Rattle.queue.specs.Held.{is_of_port, sum_lengths}
use Rattle.queue.proofs.PlaceLaws.{next, first-passed, first-found, first-none, bytes-more}
use Rattle.queue.proofs.first_of.Goals as goal

pub loop-at-init : goal.loop-at-init
unfolding sum_lengths
loop-at-init c = record { passed = zero-add _; before-is = refl; bytes_high = omega arith }

pub returns-then-from-port : goal.returns-then-from-port
returns-then-from-port c =
    let l = c.loop-at in
    let ps = c.args.packets.now in
    let is : is_of_port c.args.port (next c.args.port ps l.at) ≡ true = eq-eqb _ _ (sym c.from.ensures ∙ c.if-from-port.true) in
    (omega arith, sym (first-found c.args.port ps l.at (omega arith) is) ∙ l.invariant.passed, l.invariant.before-is)

pub loop-at-preserved : goal.loop-at-preserved
loop-at-preserved c =
    let l = c.loop-at in
    let ps = c.args.packets.now in
    let other : is_of_port c.args.port (next c.args.port ps l.at) ≡ false = ne_eqb _ _ (λ e. c.if-from-port.false (c.from.ensures ∙ e)) in
    record {
      passed = sym (first-passed c.args.port ps l.at (omega arith) other) ∙ l.invariant.passed;
      before-is = omega (arith, l.invariant.before-is, bytes-more c.args.port ps l.at (omega arith), c.from-before.ensures);
      bytes_high = omega arith;
    }

pub returns : goal.returns
returns c =
    let l = c.loop-at in
    omega (arith, first-none c.args.port c.args.packets.now l.at (omega arith), l.invariant.passed)
