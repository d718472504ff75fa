-- Laws of lists of packets: what the range tests say of the first packet and the rest, of one packet more and of one
-- fewer, and of the epochs in wider bounds. Assumes nothing.
use mathlib.Core.Path.{◌≡◌}
use mathlib.Core.Bool.{true}
use mathlib.Core.List.{List, [], ◌∷◌, ◌++◌}
use Prim.Native.Nat.{ℕ, zero, suc, ◌+◌, ◌≤◌, ◌<◌}
use native.Mathlib.Nat.{le_refl, le_trans}
use native.Mathlib.Omega.{arith}
use lib.Dec.{leb}
use lib.ListN.{length, take, get_or}
use borrow.Author.Tests.{leb-true, le-leb}
use Rattle.lists.proofs.TestLaws.{both, join}
use Rattle.lists.specs.Select.{without}
use Rattle.queue.specs.declared.Packet.{Packet}
use Rattle.queue.specs.Held.{packet_ok, packets_ok, sum_lengths, epochs_ok}

-- ---- each packet's own numbers
abbrev Ok : Packet → Type 0
Ok p = packet_ok p.length p.port ≡ true

packets-cons : (p : Packet) (ps : List Packet) → packets_ok (p ∷ ps) ≡ true → Ok p × (packets_ok ps ≡ true)
unfolding packets_ok
packets-cons p ps e = both (packet_ok p.length p.port) (packets_ok ps) e

packets-join : (p : Packet) (ps : List Packet) → Ok p → packets_ok ps ≡ true → packets_ok (p ∷ ps) ≡ true
unfolding packets_ok
packets-join p ps h k = join (packet_ok p.length p.port) (packets_ok ps) h k

pub packets-more : (ps : List Packet) (p : Packet) → packets_ok ps ≡ true → packet_ok p.length p.port ≡ true → packets_ok (ps ++ (p ∷ [])) ≡ true
packets-more [] p h k = packets-join p [] k h
packets-more (x ∷ xs) p h k = let b = packets-cons x xs h in packets-join x (xs ++ (p ∷ [])) b.0 (packets-more xs p b.1 k)

pub packets-without : (i : ℕ) (ps : List Packet) → packets_ok ps ≡ true → packets_ok (without i ps) ≡ true
unfolding without
packets-without i [] e = e
packets-without zero (p ∷ ps) e = (packets-cons p ps e).1
packets-without (suc i) (p ∷ ps) e = let b = packets-cons p ps e in packets-join p (without i ps) b.0 (packets-without i ps b.1)

pub packets-at : (i : ℕ) (ps : List Packet) (z : Packet) → i < length ps → packets_ok ps ≡ true → packet_ok (get_or ps i z).length (get_or ps i z).port ≡ true
packets-at i [] z h e = absurd (omega arith)
packets-at zero (p ∷ ps) z h e = (packets-cons p ps e).0
packets-at (suc i) (p ∷ ps) z h e = packets-at i ps z (omega arith) (packets-cons p ps e).1

-- ---- their sum
pub sum_more : (ps : List Packet) (p : Packet) → sum_lengths (ps ++ (p ∷ [])) ≡ sum_lengths ps + p.length
unfolding sum_lengths
sum_more [] p = omega arith
sum_more (x ∷ xs) p = omega (arith, sum_more xs p)

pub sum-without : (i : ℕ) (ps : List Packet) (z : Packet) → i < length ps → sum_lengths (without i ps) + (get_or ps i z).length ≡ sum_lengths ps
unfolding sum_lengths without
sum-without i [] z h = absurd (omega arith)
sum-without zero (p ∷ ps) z h = omega arith
sum-without (suc i) (p ∷ ps) z h = omega (arith, sum-without i ps z (omega arith))

-- those before the i-th, and it
pub sum-before : (i : ℕ) (ps : List Packet) (z : Packet) → i < length ps → sum_lengths (take i ps) + (get_or ps i z).length ≤ sum_lengths ps
unfolding sum_lengths
sum-before i [] z h = absurd (omega arith)
sum-before zero (p ∷ ps) z h = omega arith
sum-before (suc i) (p ∷ ps) z h = omega (arith, sum-before i ps z (omega arith))

-- ---- the epochs
epochs-cons : (low top : ℕ) (p : Packet) (ps : List Packet) → epochs_ok low top (p ∷ ps) ≡ true → (low ≤ p.epoch) × (epochs_ok p.epoch top ps ≡ true)
unfolding epochs_ok
epochs-cons low top p ps e =
    let b = both (leb low p.epoch) (epochs_ok p.epoch top ps) e in
    (leb-true low p.epoch b.0, b.1)

epochs-join : (low top : ℕ) (p : Packet) (ps : List Packet) → low ≤ p.epoch → epochs_ok p.epoch top ps ≡ true → epochs_ok low top (p ∷ ps) ≡ true
unfolding epochs_ok
epochs-join low top p ps h k = join (leb low p.epoch) (epochs_ok p.epoch top ps) (le-leb low p.epoch h) k

epochs-none : (low top : ℕ) → low ≤ top → epochs_ok low top [] ≡ true
unfolding epochs_ok
epochs-none low top h = le-leb low top h

epochs-range : (ps : List Packet) (low top : ℕ) → epochs_ok low top ps ≡ true → low ≤ top
unfolding epochs_ok
epochs-range [] low top e = leb-true low top e
epochs-range (p ∷ ps) low top e = let b = epochs-cons low top p ps e in le_trans b.0 (epochs-range ps p.epoch top b.1)

-- one packet more, of the top epoch
pub epochs-more : (ps : List Packet) (low top : ℕ) (x : Packet) → x.epoch ≡ top → epochs_ok low top ps ≡ true → epochs_ok low top (ps ++ (x ∷ [])) ≡ true
epochs-more [] low top x is e = epochs-join low top x [] (omega (arith, epochs-range [] low top e)) (epochs-none x.epoch top (omega arith))
epochs-more (p ∷ ps) low top x is e =
    let b = epochs-cons low top p ps e in
    epochs-join low top p (ps ++ (x ∷ [])) b.0 (epochs-more ps p.epoch top x is b.1)

-- a lower beginning, a higher top
pub epochs-wider : (ps : List Packet) (low low' top top' : ℕ) → low' ≤ low → top ≤ top' → epochs_ok low top ps ≡ true → epochs_ok low' top' ps ≡ true
epochs-wider [] low low' top top' h k e = epochs-none low' top' (omega (arith, epochs-range [] low top e))
epochs-wider (p ∷ ps) low low' top top' h k e =
    let b = epochs-cons low top p ps e in
    epochs-join low' top' p ps (le_trans h b.0) (epochs-wider ps p.epoch p.epoch top top' (le_refl p.epoch) k b.1)

-- one packet fewer
pub epochs-without : (i : ℕ) (ps : List Packet) (low top : ℕ) → epochs_ok low top ps ≡ true → epochs_ok low top (without i ps) ≡ true
unfolding without
epochs-without i [] low top e = e
epochs-without zero (p ∷ ps) low top e = let b = epochs-cons low top p ps e in epochs-wider ps p.epoch low top top b.0 (le_refl top) b.1
epochs-without (suc i) (p ∷ ps) low top e = let b = epochs-cons low top p ps e in epochs-join low top p (without i ps) b.0 (epochs-without i ps p.epoch top b.1)
