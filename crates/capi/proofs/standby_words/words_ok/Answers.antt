-- `standby_words::words_ok` meets its contract. Assumes nothing.
use borrow.Author.Tests.{eq-eqb, ne_eqb}
use Rattle.capi.specs.StandbyWords.{standby_words_ok}
use Rattle.capi.proofs.standby_words.words_ok.Goals as goal

pub returns-then-w-ne-LENGTH : goal.returns-then-w-ne-LENGTH
unfolding standby_words_ok
returns-then-w-ne-LENGTH c = simp (ne_eqb _ _ c.if-w-ne-LENGTH.true)

pub returns : goal.returns
unfolding standby_words_ok
returns c = rw (eq-eqb _ _ c.if-w-ne-LENGTH.false, c.all_fit32-ticks.ensures)
