-- `text::printing::put_byte` meets its contract. Assumes nothing.
use native.Mathlib.Omega.{arith}
use Rattle.lists.proofs.ArrayLaws.{set-put}
use Rattle.text.proofs.printing.put_byte.Goals as goal

pub returns : goal.returns
returns c = record { bytes = set-put _ _ _ c.requires; position = omega arith }
