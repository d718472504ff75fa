-- `primary::packets::check_take` meets its contract. Assumes nothing.
use mathlib.Core.Path.{◌≡◌, sym, ◌∙◌}
use mathlib.Core.Bool.{Bool, true, ◌&&◌, ◌||◌}
use Prim.Native.Nat.{ℕ}
use lib.Dec.{leb, eqb}
use borrow.Author.Tests.{le-leb, lt-leb}
use Rattle.lists.proofs.TestLaws.{both}
use Rattle.queue.specs.Held.{has_packet, oldest}
use Rattle.rules.specs.PrimaryState.{primary_ok}
use Rattle.rules.specs.Packets.{take_refusal}
use Rattle.primary.proofs.RangeLaws.{queue_in_range}
use Rattle.primary.proofs.packets.check_take.Goals as goal
use Rattle.primary.proofs.packets.check_take.Goals.{Else-not-held_ok}

-- the state and the length are in range past the first test
ok : (c : Else-not-held_ok) → let a = c.args in (primary_ok a.p && eqb a.held a.p.settings.q) ≡ true
ok c = sym c.held_ok.ensures ∙ c.if-not-held_ok.false

-- so what is known of the port's oldest packet holds
port : (c : Else-not-held_ok) → let a = c.args in (a.found ≡ has_packet a.p.queue a.port) × (a.found ≡ true → (a.first ≡ (oldest a.p.queue a.port).epoch) × (a.n ≡ (oldest a.p.queue a.port).length))
port c = c.requires.1 (queue_in_range c.args.p (both _ _ (ok c)).0)

-- it may leave, or not, by the test of the code
leaves : {first oldest : ℕ} (alone : Bool) (acknowledged : ℕ) → first ≡ oldest → (alone || leb first acknowledged) ≡ (alone || leb oldest acknowledged)
leaves alone acknowledged e = rw e

pub returns-then-not-found : goal.returns-then-not-found
unfolding take_refusal
returns-then-not-found c =
    let k = (goal.at.returns-then-not-found c).Else-not-held_ok in
    simp (ok k, le-leb _ _ c.if-port-gt-MOST_PORT.false, sym (port k).0 ∙ c.if-not-found.true)

pub returns-then-not-free : goal.returns-then-not-free
unfolding take_refusal
returns-then-not-free c =
    let k = (goal.at.returns-then-not-free c).Else-not-held_ok in
    let f = c.if-not-found.false in
    simp (ok k, le-leb _ _ c.if-port-gt-MOST_PORT.false, sym (port k).0 ∙ f, sym (leaves _ _ ((port k).1 f).0) ∙ c.if-not-free.true)

pub returns-then-destination-n : goal.returns-then-destination-n
unfolding take_refusal
returns-then-destination-n c =
    let k = (goal.at.returns-then-destination-n c).Else-not-held_ok in
    let f = c.if-not-found.false in
    simp (ok k, le-leb _ _ c.if-port-gt-MOST_PORT.false, sym (port k).0 ∙ f, sym (leaves _ _ ((port k).1 f).0) ∙ c.if-not-free.false, lt-leb _ _ (rw ((port k).1 f).1 at c.if-destination-n.true))

pub returns : goal.returns
unfolding take_refusal
returns c =
    let k = (goal.at.returns c).Else-not-held_ok in
    let f = c.if-not-found.false in
    simp (ok k, le-leb _ _ c.if-port-gt-MOST_PORT.false, sym (port k).0 ∙ f, sym (leaves _ _ ((port k).1 f).0) ∙ c.if-not-free.false, le-leb _ _ (rw ((port k).1 f).1 at c.if-destination-n.false))
