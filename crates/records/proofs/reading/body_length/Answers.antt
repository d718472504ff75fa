use Rattle.records.specs.Kind.{body_length}
use Rattle.records.proofs.KindLaws.{other-ack, page-or, commit-or}
use Rattle.records.proofs.reading.body_length.Goals as goal

pub returns-in-1 : goal.returns-in-1
unfolding body_length
returns-in-1 c = rw c.in-1.is

pub returns-in-2 : goal.returns-in-2
unfolding body_length
returns-in-2 c = rw c.in-2.is

pub returns-in-3 : goal.returns-in-3
unfolding body_length
returns-in-3 c = rw c.in-3.is

pub returns-in-4 : goal.returns-in-4
unfolding body_length
returns-in-4 c = rw c.in-4.is

pub returns-in-8 : goal.returns-in-8
unfolding body_length
returns-in-8 c = rw c.in-8.is

pub returns-in-9 : goal.returns-in-9
unfolding body_length
returns-in-9 c = rw c.in-9.is

pub returns-in_default : goal.returns-in_default
unfolding body_length
returns-in_default c =
    let r = c.in_default.in_default-own.rest in
    rw (other-ack c.args.kind c.requires.1 (page-or r.0.0.0.0.0.1 r.0.1) r.0.0.0.0.1 r.0.0.0.1 (commit-or r.0.0.1 r.1))
