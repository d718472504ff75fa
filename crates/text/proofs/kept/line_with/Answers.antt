use Rattle.std.proofs.Common.{arith, ne_eqb, eq-eqb}
use Rattle.text.specs.Kept.{line_with}
use Rattle.text.proofs.kept.line_with.Goals as goal

pub returns-then-b-eq32 : goal.returns-then-b-eq32
unfolding line_with
returns-then-b-eq32 c = rw (c.next_word.ensures, eq-eqb c.args.b 32 c.if-b-eq32.true)

pub returns-in-1 : goal.returns-in-1
unfolding line_with
returns-in-1 c = rw (c.with_letter.ensures, ne_eqb c.args.b 32 c.if-b-eq32.false, eq-eqb c.args.l.words 1 c.in-1.is)

pub returns-in-2 : goal.returns-in-2
unfolding line_with
returns-in-2 c = rw (c.number_with.ensures, ne_eqb c.args.b 32 c.if-b-eq32.false, c.in-2.is)

pub returns-in-3 : goal.returns-in-3
unfolding line_with
returns-in-3 c = rw (c.number_with-in-3.ensures, ne_eqb c.args.b 32 c.if-b-eq32.false, c.in-3.is)

pub returns-in_default : goal.returns-in_default
unfolding line_with
returns-in_default c = let w = c.args.l.words in rw (ne_eqb c.args.b 32 c.if-b-eq32.false, ne_eqb w 1 (λ e. omega arith), ne_eqb w 2 (λ e. omega arith), ne_eqb w 3 (λ e. omega arith))
