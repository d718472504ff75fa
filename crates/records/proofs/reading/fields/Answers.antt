use mathlib.Core.Path.{◌≡◌}
use Prim.Native.Nat.{◌+◌}
use native.Mathlib.Omega.{arith}
use Rattle.records.specs.Kind.{BLOCK, body_length, record_length}
use Rattle.records.specs.Read.{fields_of}
use Rattle.records.proofs.KindLaws.{page-or, commit-or, other-ack, record-ge}
use Rattle.records.proofs.reading.fields.Goals as goal

pub get-epoch-requires : goal.get-epoch-requires
get-epoch-requires c =
    let s = c in
    let h = record-ge s.args.u s.args.kind s.requires.1 in
    omega arith

pub page_at-requires : goal.page_at-requires
page_at-requires c = (c.requires.0, rw c.in-1.is at c.requires.2)

pub get-requires : goal.get-requires
unfolding record_length body_length
get-requires c =
    let h = rw c.in-2.is at c.requires.2 in
    omega arith

pub commit_at-requires : goal.commit_at-requires
commit_at-requires c = rw c.in-4.is at c.requires.2

pub page_at-requires-in-8 : goal.page_at-requires-in-8
page_at-requires-in-8 c = (c.requires.0, rw c.in-8.is at c.requires.2)

pub commit_at-requires-in-9 : goal.commit_at-requires-in-9
commit_at-requires-in-9 c = rw c.in-9.is at c.requires.2

pub returns-in-1 : goal.returns-in-1
unfolding fields_of
returns-in-1 c = rw c.in-1.is c.page_at.ensures

pub returns-in-2 : goal.returns-in-2
unfolding fields_of record_length body_length
returns-in-2 c =
    let e : c.args.u + 10 ≡ record_length c.args.u BLOCK = omega arith in
    rw (c.in-2.is, c.get-epoch.ensures, c.get.ensures, e)

pub returns-in-3 : goal.returns-in-3
unfolding fields_of record_length body_length
returns-in-3 c = rw (c.in-3.is, c.get-epoch.ensures)

pub returns-in-4 : goal.returns-in-4
unfolding fields_of
returns-in-4 c = rw c.in-4.is c.commit_at.ensures

pub returns-in-8 : goal.returns-in-8
unfolding fields_of
returns-in-8 c = rw c.in-8.is c.page_at-in-8.ensures

pub returns-in-9 : goal.returns-in-9
unfolding fields_of
returns-in-9 c = rw c.in-9.is c.commit_at-in-9.ensures

pub returns-in_default : goal.returns-in_default
unfolding fields_of record_length body_length
returns-in_default c =
    let s = c in
    let r = c.in_default.in_default-own.rest in
    rw (other-ack s.args.kind s.requires.1 (page-or r.0.0.0.0.0.1 r.0.1) r.0.0.0.0.1 r.0.0.0.1 (commit-or r.0.0.1 r.1), c.get-epoch.ensures)
