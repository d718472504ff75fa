use Rattle.std.proofs.Common.{◌≡◌, true, false, sym}
use Rattle.text.specs.Decimal.{is_digit}
use Rattle.text.specs.Kept.{number_with}
use Rattle.text.proofs.kept.number_with.Goals as goal

pub returns-then-not-is_ascii_digit : goal.returns-then-not-is_ascii_digit
unfolding number_with
returns-then-not-is_ascii_digit c = let e : is_digit c.args.b ≡ false = sym c.if-not-is_ascii_digit.ensures.value in rw e

pub returns : goal.returns
unfolding number_with
returns c = let e : is_digit c.args.b ≡ true = sym c.if-not-is_ascii_digit.ensures.value in rw (e, c.min-2.ensures, c.min.ensures)
