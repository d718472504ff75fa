-- `primary::stream::drain` meets its contract. Assumes nothing.
use Rattle.rules.specs.declared.Reply.{Reply}
use mathlib.Core.Path.{◌≡◌, sym, ◌∙◌}
use mathlib.Core.Logic.{⊎_elim}
use Prim.Native.Nat.{ℕ, ◌-◌, ◌≤◌, min}
use native.Mathlib.Omega.{arith}
use lib.ListN.{length}
use borrow.Author.Tests.{eq-eqb, ne_eqb}
use Rattle.lists.specs.Refusal.{pick}
use Rattle.lists.proofs.TestLaws.{eq-or-ne}
use Rattle.rules.specs.declared.Primary.{Primary}
use Rattle.rules.specs.PrimaryState.{with_waiting}
use Rattle.rules.specs.Reply.{reply_of}
use Rattle.rules.specs.Stream.{drain_reply, drain_stream, drain_destination}
use Rattle.rules.proofs.ReplyLaws.{pick-cases}
use Rattle.rules.proofs.PrimaryFacts.{primary-facts}
use Rattle.rules.proofs.StreamLaws.{drain-accepted}
use Rattle.primary.proofs.stream.drain.Goals as goal

-- where nothing has left, the state is as it was
replied : (number count : ℕ) (p : Primary)
    → ◌≡◌ {A = Reply Primary} (record { state = with_waiting p (p.waiting - pick number count 0); number = number; value = pick number count 0 }) (reply_of number p (with_waiting p (p.waiting - count)) count)
replied number count p =
    let none : p.waiting - 0 ≡ p.waiting = omega arith in
    ⊎_elim (λ e. rw (eq-eqb number 0 e)) (λ e. rw (ne_eqb number 0 e, none)) (eq-or-ne number 0)

pub moved-count-requires : goal.moved-count-requires
moved-count-requires c =
    λ z.
    let f = drain-accepted _ _ (sym (c.number_in-number.ensures ∙ c.check_drain.ensures) ∙ z) in
    let w = (primary-facts _ f.ok).waiting in
    omega arith

pub overflow_sub-p : goal.overflow_sub-p
overflow_sub-p c =
    let a = c.args in
    let number = c.number_in-number.result in
    let count = min a.n (min a.p.waiting (length a.destination.now)) in
    let h = pick-cases (λ (x : ℕ). x ≤ a.p.waiting) number count 0 (λ z. omega arith) (λ z. omega arith) in
    omega (arith, c.moved-count.ensures.value, h)

pub returns : goal.returns
unfolding drain_reply drain_stream drain_destination
returns c =
    let a = c.args in
    let e = c.number_in-number.ensures ∙ c.check_drain.ensures in
    let m = c.moved-count.ensures in
    record {
      value = rw (c.with_waiting.ensures, m.value, e) (replied _ _ a.p);
      stream_after = rw e at m.stream_after;
      destination_after = rw e at m.destination_after;
    }
