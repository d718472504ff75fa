-- `primary_words::words_ok` meets its contract. Assumes nothing.
use borrow.Author.Tests.{eq-eqb, ne_eqb}
use Rattle.capi.specs.PrimaryWords.{primary_words_ok}
use Rattle.capi.proofs.primary_words.words_ok.Goals as goal

pub returns-then-w-ne-LENGTH : goal.returns-then-w-ne-LENGTH
unfolding primary_words_ok
returns-then-w-ne-LENGTH c = simp (ne_eqb _ _ c.if-w-ne-LENGTH.true)

pub returns : goal.returns
unfolding primary_words_ok
returns c = rw (eq-eqb _ _ c.if-w-ne-LENGTH.false, c.all_fit32-low.ensures, c.packets_fit-packets.ensures, c.numbers_fit-numbers.ensures)
