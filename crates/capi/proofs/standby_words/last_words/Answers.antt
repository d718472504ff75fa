-- `standby_words::last_words` meets its contract. Assumes nothing.
use Rattle.capi.specs.StandbyWords.{last_words}
use Rattle.capi.proofs.WordLaws.{flag_is}
use Rattle.capi.proofs.standby_words.last_words.Goals as goal

pub returns : goal.returns
unfolding last_words
returns c = rw (c.from.ensures, flag_is c.args.s.seen)
