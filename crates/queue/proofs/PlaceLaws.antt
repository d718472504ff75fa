-- The search for a port's oldest packet: a packet that is passed, the one that is found, and what it is among those of
-- a queue. Assumes nothing.
use Rattle.std.proofs.Common.{◌≡◌, ℕ, ◌+◌, ◌<◌, ◌≤◌, min, true, false, Option, Some, None, is_some, List, ◌∷◌, length, take, drop, get_or, sym, ap, ◌∙◌, arith, add-one}
use lib.ListN.{drop_of_length-le}
use lib.Seq.{take-suc, drop-cons, take-take, length-take-le}
use borrow.Author.Tests.{lt-ltb, le-ltb}
use Rattle.lists.specs.Select.{place_of}
use Rattle.lists.proofs.SelectLaws.{place-yes, place-no, place_none}
use Rattle.settings.specs.Range.{most_packets}
use Rattle.queue.specs.declared.Packet.{Packet}
use Rattle.queue.specs.declared.Queue.{Queue}
use Rattle.queue.specs.declared.Place.{Place}
use Rattle.queue.specs.Held.{no_packet, is_of_port, oldest_at, has_packet, sum_lengths, bytes_before}
use Rattle.queue.specs.Seen.{IsFirstOf}
use Rattle.queue.proofs.PacketLaws.{sum_more}

module _ (port : ℕ) (ps : List Packet) (i : ℕ) where
  abbrev pub next : Packet
  next = get_or ps i no_packet

  abbrev place : ℕ → ℕ
  place at = at + place_of (is_of_port port) (drop at ps)

  cons : i < length ps → drop i ps ≡ next ∷ drop (i + 1) ps
  cons h = rw (drop-cons ps i no_packet h, ← add-one i)

  pub first-passed : i < length ps → is_of_port port next ≡ false → place i ≡ place (i + 1)
  first-passed h e = ap (λ (r : List Packet). i + place_of (is_of_port port) r) (cons h) ∙ omega (arith, place-no (is_of_port port) next (drop (i + 1) ps) e)

  pub first-found : i < length ps → is_of_port port next ≡ true → place i ≡ i
  first-found h e = ap (λ (r : List Packet). i + place_of (is_of_port port) r) (cons h) ∙ omega (arith, place-yes (is_of_port port) next (drop (i + 1) ps) e)

  pub first-none : length ps ≤ i → place i ≡ i
  first-none h = ap (λ (r : List Packet). i + place_of (is_of_port port) r) (drop_of_length-le ps h) ∙ omega (arith, place_none (is_of_port port))

  pub bytes-more : i < length ps → sum_lengths (take (i + 1) ps) ≡ sum_lengths (take i ps) + next.length
  bytes-more h = ap (λ (n : ℕ). sum_lengths (take n ps)) (add-one i) ∙ ap sum_lengths (take-suc ps i no_packet h) ∙ sum_more (take i ps) next

-- ---- what was found among the first i packets
abbrev pub Placed : ℕ → List Packet → Option Place → ℕ → Type 0
Placed port ps None i = place_of (is_of_port port) (take i ps) ≡ i
Placed port ps (Some s) i = (s.at < i) × (s.at ≡ place_of (is_of_port port) (take i ps)) × (s.before ≡ sum_lengths (take s.at ps))

-- ---- among all packets of a queue in range
pub record Found (k : Queue) (port : ℕ) (s : Option Place) : Type 0 where
  pub found-is : is_some s ≡ has_packet k port
  pub at-is : (x : Place) → s ≡ Some x → x.at ≡ oldest_at k port
  pub before-is : (x : Place) → s ≡ Some x → x.before ≡ bytes_before k (oldest_at k port)

pub placed-all : (k : Queue) (port n : ℕ) (s : Option Place) (i : ℕ) → n ≡ min k.count most_packets → k.count ≤ most_packets → i ≤ n → (i < n → ⊥)
    → Placed port k.packets s i → Found k port s
placed-all k port n None i e few passed last w =
    let is : i ≡ k.count = omega arith in
    let none : oldest_at k port ≡ k.count = ap (λ (m : ℕ). place_of (is_of_port port) (take m k.packets)) (sym is) ∙ w ∙ is in
    record {
      found-is = sym (le-ltb (oldest_at k port) k.count (omega arith));
      at-is = λ x y. cc;
      before-is = λ x y. cc;
    }
placed-all k port n (Some s) i e few passed last w =
    let is : i ≡ k.count = omega arith in
    let there : s.at ≡ oldest_at k port = w.1 ∙ ap (λ (m : ℕ). place_of (is_of_port port) (take m k.packets)) is in
    let before : s.before ≡ bytes_before k (oldest_at k port) = w.2 ∙ ap (bytes_before k) there in
    record {
      found-is = sym (lt-ltb (oldest_at k port) k.count (omega (arith, w.0)));
      at-is = λ x y. cc;
      before-is = λ x y. cc;
    }

-- as the code looks for it, in a part of the array
placed : (port : ℕ) (ps : List Packet) (s : Option Place) (n : ℕ) → n ≤ length ps → IsFirstOf port (take n ps) s → Placed port ps s n
placed port ps None n h w = w ∙ length-take-le n ps h
placed port ps (Some s) n h w =
    let low : s.at < n = omega (arith, w.0, length-take-le n ps h) in
    (low, w.1, w.2 ∙ ap sum_lengths (take-take s.at n ps (omega arith)))

pub first-all : (k : Queue) (port n : ℕ) (s : Option Place) → n ≡ min k.count most_packets → k.count ≤ length k.packets → IsFirstOf port (take n k.packets) s → k.count ≤ most_packets → Found k port s
first-all k port n s e array w few = placed-all k port n s n e few (omega arith) (λ l. omega arith) (placed port k.packets s n (omega arith) w)
