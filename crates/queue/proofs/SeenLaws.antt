-- The range test made one packet after the other: what was seen of all packets decides the range of the queue. Assumes
-- nothing.
use Rattle.std.proofs.Common.{◌≡◌, ℕ, ◌+◌, min, Bool, true, false, ◌&&◌, cond, leb, eqb, Some, None, List, [], ◌∷◌, take, refl, sym, ap, ◌∙◌, ⊎_elim, arith, add_assoc, add-zero, zero-add}
use mathlib.Core.Bool.{and-true, and-false}
use borrow.Author.Tests.{leb-true}
use Rattle.lists.proofs.TestLaws.{by-test}
use Rattle.settings.specs.Range.{most_packets}
use Rattle.queue.specs.declared.Packet.{Packet}
use Rattle.queue.specs.declared.Queue.{Queue}
use Rattle.queue.specs.declared.Seen.{Seen}
use Rattle.queue.specs.Held.{packet_ok, packets_ok, sum_lengths, epochs_ok, queue_ok}
use Rattle.queue.specs.Seen.{seen_with, seen_from, seen_of, seen_ok}

-- ---- one packet more, where a test kept beside the epoch and the bytes says whether anything is seen
pub seen-more : (ok : Bool) (epoch bytes : ℕ) (p : Packet)
    → seen_with (cond ok (Some (record { epoch = epoch; bytes = bytes })) None) p ≡ cond (ok && (packet_ok p.length p.port && leb epoch p.epoch)) (Some (record { epoch = p.epoch; bytes = bytes + p.length })) None
unfolding seen_with
seen-more true epoch bytes p = refl
seen-more false epoch bytes p = refl

-- ---- once nothing is seen, nothing is
none-stays : (ps : List Packet) → seen_from None ps ≡ None
unfolding seen_with
none-stays [] = refl
none-stays (p ∷ ps) = none-stays ps

-- ---- the bytes seen are the lengths of the packets, from any seen before them on
pub bytes-from : (a : Seen) (ps : List Packet) (s : Seen) → seen_from (Some a) ps ≡ Some s → s.bytes ≡ a.bytes + sum_lengths ps
unfolding seen_with sum_lengths
bytes-from a [] s e = let is : a ≡ s = cc in omega (arith, ap (λ (x : Seen). x.bytes) is)
bytes-from a (p ∷ ps) s e =
    ⊎_elim
    (λ t. let rest = bytes-from (record { epoch = p.epoch; bytes = a.bytes + p.length }) ps s (rw t at e) in omega (arith, rest))
    (λ f. absurd (let none : None ≡ Some s = sym (none-stays ps) ∙ (rw f at e) in cc))
    (by-test (packet_ok p.length p.port && leb a.epoch p.epoch))

pub bytes-next : (a : Seen) (p : Packet) (s : Seen) → seen_with (Some a) p ≡ Some s → s.bytes ≡ a.bytes + p.length
unfolding sum_lengths
bytes-next a p s e = omega (arith, bytes-from a (p ∷ []) s e)

pub seen-bytes : (ps : List Packet) (s : Seen) → seen_of ps ≡ Some s → s.bytes ≡ sum_lengths ps
seen-bytes ps s e = bytes-from (record { epoch = 0; bytes = 0 }) ps s e ∙ zero-add _

-- ---- what was seen of all packets decides the range
module _ (count bytes epoch q : ℕ) where
  abbrev tested : (packets : Bool) (sum : ℕ) (epochs : Bool) → Bool
  tested packets sum epochs = leb count most_packets && packets && eqb sum bytes && leb bytes q && epochs

  seen-tests : (s : Seen) (ps : List Packet) → seen_ok (seen_from (Some s) ps) count bytes epoch q ≡ tested (packets_ok ps) (s.bytes + sum_lengths ps) (epochs_ok s.epoch epoch ps)
  unfolding seen_with seen_ok packets_ok sum_lengths epochs_ok
  seen-tests s [] = rw (and-true, add-zero)
  seen-tests s (p ∷ ps) =
      let next : Seen = record { epoch = p.epoch; bytes = s.bytes + p.length } in
      let sum : ℕ = s.bytes + (p.length + sum_lengths ps) in
      let epochs : Bool = epochs_ok p.epoch epoch ps in
      let step : (a b : Bool) → seen_ok (seen_from (cond (a && b) (Some next) None) ps) count bytes epoch q ≡ tested (a && packets_ok ps) sum (b && epochs) =
      λ a b. elim a as (λ v. seen_ok (seen_from (cond (v && b) (Some next) None) ps) count bytes epoch q ≡ tested (v && packets_ok ps) sum (b && epochs)) [
        | true ↦
            elim b as (λ v. seen_ok (seen_from (cond v (Some next) None) ps) count bytes epoch q ≡ tested (packets_ok ps) sum (v && epochs)) [
              | true ↦ seen-tests next ps ∙ ap (λ (n : ℕ). tested (packets_ok ps) n epochs) (add_assoc s.bytes p.length (sum_lengths ps))
              | false ↦ rw (none-stays, and-false)
            ]
        | false ↦ rw (none-stays, and-false)
      ] in
      step (packet_ok p.length p.port) (leb s.epoch p.epoch)

pub seen-all : (k : Queue) (epoch q n : ℕ) → n ≡ min k.count most_packets → seen_ok (seen_of (take n k.packets)) k.count k.bytes epoch q ≡ queue_ok k epoch q
unfolding queue_ok
seen-all k epoch q n e =
    rw (seen-tests k.count k.bytes epoch q (record { epoch = 0; bytes = 0 }) (take n k.packets), zero-add)
    (⊎_elim
    (λ (few : leb k.count most_packets ≡ true). let m : n ≡ k.count = omega (arith, leb-true k.count most_packets few) in rw m)
    (λ (many : leb k.count most_packets ≡ false). rw many)
    (by-test (leb k.count most_packets)))
