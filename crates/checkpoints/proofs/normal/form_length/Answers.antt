-- `checkpoints::normal::form_length` meets its contract. Assumes nothing.
use native.Mathlib.Omega.{arith}
use Rattle.records.proofs.KindLaws.{width-range}
use Rattle.checkpoints.proofs.WrittenLaws.{few-records, pages-most, form-is}
use Rattle.checkpoints.proofs.normal.form_length.Goals as goal

pub overflow_add-result : goal.overflow_add-result
overflow_add-result c = record { fits = omega (arith, pages-most c.args.u c.args.wide c.args.k c.requires.0 c.requires.2, c.pages_length-pages.ensures, c.commit_length.ensures, width-range c.args.wide) }

pub overflow_add-result-2 : goal.overflow_add-result-2
overflow_add-result-2 c = record { fits = omega (arith, few-records c.args.k.blocks 64 c.args.u 10 c.requires.1 c.requires.0 (omega arith), pages-most c.args.u c.args.wide c.args.k c.requires.0 c.requires.2, c.pages_length-pages.ensures, c.commit_length.ensures, width-range c.args.wide) }

pub returns : goal.returns
returns c = let a = c.args in form-is a.u a.wide a.k c.pages_length-pages.result c.commit_length.result c.pages_length-pages.ensures c.commit_length.ensures
