-- `text::printing::put_right` meets its contract. Assumes nothing.
use Rattle.std.proofs.Common.{◌≡◌, ◌-◌, ◌∙◌, arith, length}
use Rattle.text.specs.Decimal.{decimal}
use Rattle.text.proofs.PrintLaws.{right-put}
use Rattle.text.proofs.printing.put_right.Goals as goal

pub returns-clause-put_done : goal.returns-clause-put_done
returns-clause-put_done c =
    let d = c.as_slice-digits in
    let is : d.result.now ≡ decimal c.args.n = d.ensures.digits ∙ c.digits_of-d.ensures in
    let put = rw is at c.put_text.ensures in
    let gap : c.saturating_sub.result ≡ c.args.width - length (decimal c.args.n) = rw is at c.saturating_sub.ensures in
    right-put (decimal c.args.n) _ _ _ _ _ _ _ _ gap (omega (arith, c.requires, c.saturating_sub.ensures)) c.put_spaces-behind.ensures.put_done put
