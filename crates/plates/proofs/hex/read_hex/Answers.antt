use Prim.Native.Nat.{ℕ, ◌+◌}
use mathlib.Core.Path.{◌≡◌, sym, ap, ◌∙◌}
use native.Mathlib.Omega.{arith}
use borrow.Author.Rules.{rules}
use lib.ListN.{length, get_or}
use Rattle.std.specs.Prelude.{Result, Ok, Err}
use Rattle.plates.specs.declared.BadLine.{BadLine}
use Rattle.plates.specs.declared.Fault.{Fault}
use Rattle.plates.specs.declared.Fault.TheVariants.{Half}
use Rattle.plates.specs.declared.HexStep.{HexStep}
use Rattle.plates.specs.Hex.{bad}
use Rattle.plates.specs.Read.{digit_or_none, hex_of, hex_step}
use Rattle.plates.proofs.HexLaws.{read_first, read-stops, read-between, read-digit, read-byte, read-half, read-whole, none-half}
use Rattle.plates.proofs.MapLaws.{mapped-ok, mapped-err}
use Rattle.plates.proofs.hex.read_hex.Goals as goal
use Rattle.plates.proofs.hex.read_hex.Goals.{in-Between, in-First, in-Whole}

pub loop-i-init : goal.loop-i-init
loop-i-init c = read_first c.args.line.now c.args.from c.args.bytes.now c.requires.2

pub returns-in_err-step-clause-value : goal.returns-in_err-step-clause-value
returns-in_err-step-clause-value c =
    let at = c.loop-i in
    let is : c.from_residual.result ≡ Err c.in_err-step.field-0.0 = search rules in
    let m = mapped-err _ c.hex_step.result c.map_err.result c.map_err.ensures.cases _ c.in_err-step.was in
    let made : c.in_err-step.field-0.0 ≡ record { fault = m.0; place = at.i-counter + 1 } = search rules in
    ap (λ (r : Result ℕ BadLine). hex_of r at.bytes) is
    ∙ ap (λ (b : BadLine). bad b.fault b.place) made
    ∙ read-stops at.invariant (omega arith) m.0 (m.1 ∙ c.hex_step.ensures)

abbrev ok : HexStep → Result HexStep Fault
ok t = Ok t

pub loop-i-preserved : goal.loop-i-preserved
loop-i-preserved c =
    let at = c.loop-i in
    let step = mapped-ok _ c.hex_step.result c.map_err.result c.map_err.ensures.cases _ c.in_ok-step.was ∙ c.hex_step.ensures in
    let told : (t : HexStep) → c.in_ok-step.step ≡ t → Ok t ≡ hex_step (digit_or_none at.half) (get_or c.args.line.now at.i-counter 0) =
    λ t e. ap ok (sym e) ∙ step in
    elim c.match-step.branch [
      | in-Between w ↦ rw (w.bytes-is, w.count-is, w.half-is) (read-between at.invariant (omega arith) (told _ w.in-Between.is))
      | in-First w ↦ rw (w.bytes-is, w.count-is, w.half-is) (read-digit at.invariant (omega arith) _ (told _ w.in-First.is))
      | in-Whole w ↦ rw (w.bytes-is, w.count-is, w.half-is) (read-byte at.invariant (omega arith) c.requires.1 _ (told _ w.in-Whole.is))
    ]

pub returns-then-is_some-clause-value : goal.returns-then-is_some-clause-value
returns-then-is_some-clause-value c =
    let at = c.loop-i in
    let end : at.i-counter ≡ length c.args.line.now = omega (arith, c.requires.0) in
    ap (λ (n : ℕ). bad Half (n + 1)) (sym end) ∙ read-half at.invariant (omega arith) c.if-is_some.ensures

pub returns-clause-value : goal.returns-clause-value
returns-clause-value c = let at = c.loop-i in read-whole at.invariant (omega arith) (none-half at.half c.if-is_some.ensures)
