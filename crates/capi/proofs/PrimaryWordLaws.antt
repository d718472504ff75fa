-- The primary's words: what words that are a state have; that a state is the state of its words, and words that are a
-- state are the words of it. Assumes nothing.
use mathlib.Core.Path.{◌≡◌, refl, sym, ap, ◌∙◌}
use mathlib.Core.List.{List, [], ◌∷◌, ◌++◌, append-nil, append_assoc}
use mathlib.Core.Bool.{Bool, true, false, ◌&&◌}
use Prim.Native.Nat.{ℕ, suc, zero, ◌+◌, ◌*◌, ◌≤◌, ◌<◌}
use native.Mathlib.Numerals.{add-one}
use native.Mathlib.Omega.{arith}
use borrow.Author.Tests.{leb-true, le-leb, eqb-true, eq-eqb}
use lib.ListN.{length, take, drop, get_or, set, length-append, length-drop}
use lib.Seq.{take_at, drop_at, take-suc-set, take-suc, take_all, length-take-le, append_snoc}
use Rattle.lists.specs.Part.{put}
use Rattle.lists.proofs.PartLaws.{put-put, put_front, put_next, put_whole}
use Rattle.lists.proofs.ArrayLaws.{rest-cons, rest-none}
use Rattle.lists.proofs.TestLaws.{both, join}
use Rattle.queue.specs.declared.Packet.{Packet}
use Rattle.queue.specs.Held.{no_packet}
use Rattle.rules.specs.declared.Primary.{Primary}
use Rattle.capi.specs.Word.{is_flag, flag_of, flag_word, fits32, fits16, most32, most16, all_fit32, all_fit16, between}
use Rattle.capi.specs.PrimaryWords.{packets_fit, packets_of, packet_words, head_words, primary_words, primary_words_ok, primary_of, primary_length, packets_at, written_at, packets_in, written_in}
use Rattle.capi.proofs.WordLaws.{fits-at, fits-set, words-from, between-all, between-rest, put-behind, put-inside, set-behind}

-- what words that are a state have
pub record PrimaryWordFacts (w : List ℕ) : Type 0 where
  pub many : length w ≡ primary_length
  pub low : all_fit32 (between 6 10 w) ≡ true
  pub flag : get_or w 10 0 ≤ 1
  pub packets : packets_fit (packets_in w) ≡ true
  pub numbers : all_fit16 (written_in w) ≡ true

pub primary-word-facts : (w : List ℕ) → primary_words_ok w ≡ true → PrimaryWordFacts w
unfolding primary_words_ok
primary-word-facts w e =
    let z = both _ _ e in
    let a = both _ _ z.0 in
    let b = both _ _ a.0 in
    let d = both _ _ b.0 in
    record { many = eqb-true _ _ d.0; low = d.1; flag = leb-true _ _ b.1; packets = a.1; numbers = z.1 }

pub primary-many : (w : List ℕ) → primary_words_ok w ≡ true → length w ≡ primary_length
primary-many w e = (primary-word-facts w e).many

-- a number of a field of 32 bits
pub primary-field : (w : List ℕ) (i : ℕ) → primary_words_ok w ≡ true → 6 ≤ i → i < 10 → get_or w i 0 < 4294967296
primary-field w i e h k = let f = primary-word-facts w e in fits-at most32 w 6 10 i f.low h k (omega (arith, f.many))

-- a block number; the words of all, and of the packets
pub written-field : (w : List ℕ) (i : ℕ) → primary_words_ok w ≡ true → i < 64 → get_or w (written_at + i) 0 < 65536
written-field w i e h =
    let f = primary-word-facts w e in
    let all : between written_at primary_length w ≡ written_in w = between-all w written_at primary_length (omega (arith, f.many)) in
    fits-at most16 w written_at primary_length (written_at + i) (rw all f.numbers) (omega arith) (omega arith) (omega (arith, f.many))

pub numbers-many : (w : List ℕ) → primary_words_ok w ≡ true → length (primary_of w).numbers ≡ 64
unfolding primary_of
numbers-many w e = rw (length-drop written_at w) (omega (arith, primary-many w e))

length-packets_in : (w : List ℕ) → primary_words_ok w ≡ true → length (packets_in w) ≡ 3 * 64
length-packets_in w e = rw (length-drop packets_at (take written_at w), length-take-le written_at w (omega (arith, primary-many w e)))

-- ---- a packet's words, before those behind it
packet-at : (w : List ℕ) (at to : ℕ) → at + 3 ≤ to → to ≤ length w → between at to w ≡ get_or w at 0 ∷ get_or w (at + 1) 0 ∷ get_or w (at + 2) 0 ∷ between (at + 3) to w
packet-at w at to h k =
    let two : at + 1 + 1 ≡ at + 2 = omega arith in
    let three : at + 2 + 1 ≡ at + 3 = omega arith in
    rw (rest-cons w 0 at to (omega arith) k, rest-cons w 0 (at + 1) to (omega arith) k, two, rest-cons w 0 (at + 2) to (omega arith) k, three)

-- the test of the packets from a word on, one packet more; and no packet
pub packets-fit-more : (w : List ℕ) (at to : ℕ) → at + 3 ≤ to → to ≤ length w
    → packets_fit (between at to w) ≡ (fits32 (get_or w at 0) && fits16 (get_or w (at + 1) 0) && fits16 (get_or w (at + 2) 0) && packets_fit (between (at + 3) to w))
unfolding packets_fit
packets-fit-more w at to h k = ap packets_fit (packet-at w at to h k)

pub packets-fit-end : (w : List ℕ) (at to : ℕ) → to ≤ at → to ≤ length w → packets_fit (between at to w) ≡ true
unfolding packets_fit
packets-fit-end w at to h k = rw (rest-none w at to h k)

-- where they all fit: those of the first packet, and the rest
packet-fits : (a b c : ℕ) (w : List ℕ) → packets_fit (a ∷ b ∷ c ∷ w) ≡ true → (a < 4294967296) × (b < 65536) × (c < 65536) × (packets_fit w ≡ true)
unfolding packets_fit
packet-fits a b c w e =
    let f = both _ _ e in
    let g = both _ _ f.0 in
    let h = both _ _ g.0 in
    let epoch : a ≤ most32 = leb-true a most32 h.0 in
    let size : b ≤ most16 = leb-true b most16 h.1 in
    let port : c ≤ most16 = leb-true c most16 g.1 in
    (omega arith, omega arith, omega arith, f.1)

pub packet-fields : (w : List ℕ) (at to : ℕ) → at + 3 ≤ to → to ≤ length w → packets_fit (between at to w) ≡ true
    → (get_or w at 0 < 4294967296) × (get_or w (at + 1) 0 < 65536) × (get_or w (at + 2) 0 < 65536) × (packets_fit (between (at + 3) to w) ≡ true)
packet-fields w at to h k e = packet-fits _ _ _ _ (sym (ap packets_fit (packet-at w at to h k)) ∙ e)

-- the length of any of these packets
pub packet-length-low : (w : List ℕ) (i : ℕ) → packets_fit w ≡ true → (get_or (packets_of w) i no_packet).length < 65536
unfolding packets_of
packet-length-low [] i e = omega arith
packet-length-low (a ∷ []) i e = omega arith
packet-length-low (a ∷ b ∷ []) i e = omega arith
packet-length-low (a ∷ b ∷ c ∷ w) zero e = (packet-fits a b c w e).1
packet-length-low (a ∷ b ∷ c ∷ w) (suc i) e = packet-length-low w i (packet-fits a b c w e).3

-- ---- a packet of words, and the words of packets
pub packet-cons : (w : List ℕ) (at to : ℕ) → at + 3 ≤ to → to ≤ length w
    → packets_of (between at to w) ≡ record { epoch = get_or w at 0; length = get_or w (at + 1) 0; port = get_or w (at + 2) 0 } ∷ packets_of (between (at + 3) to w)
unfolding packets_of
packet-cons w at to h k = ap packets_of (packet-at w at to h k)

packet-words-append : (a b : List Packet) → packet_words (a ++ b) ≡ packet_words a ++ packet_words b
unfolding packet_words
packet-words-append [] b = refl
packet-words-append (k ∷ ks) b = rw (packet-words-append ks b)

pub length-packet_words : (ks : List Packet) → length (packet_words ks) ≡ 3 * length ks
unfolding packet_words
length-packet_words [] = refl
length-packet_words (k ∷ ks) = rw (length-packet_words ks) (omega arith)

-- ---- the loops: one packet more is read, and all are; one packet more is stored, and all are
pub read_more : (w : List ℕ) (l : List Packet) (x : Packet) (i at to : ℕ) → i < length l
    → packets_of (between at to w) ≡ x ∷ packets_of (between (at + 3) to w)
    → packets_of (packets_in w) ≡ take i l ++ packets_of (between at to w)
    → packets_of (packets_in w) ≡ take (i + 1) (set l i x) ++ packets_of (between (at + 3) to w)
read_more w l x i at to k h e =
    e ∙ ap (λ (r : List Packet). take i l ++ r) h
    ∙ rw (add-one i, take-suc-set l i x k) (sym (append_snoc (take i l) x (packets_of (between (at + 3) to w))))

pub read_all : (w : List ℕ) (l : List Packet) (n to : ℕ) → length l ≡ n → to ≤ length w
    → packets_of (packets_in w) ≡ take n l ++ packets_of (between to to w) → packets_of (packets_in w) ≡ l
unfolding packets_of
read_all w l n to h k e = e ∙ rw (take_all n l (omega arith), rest-none w to to (omega arith) k, append-nil)

pub store-more : (w : List ℕ) (ks : List Packet) (z : Packet) (at i : ℕ) → i < length ks → at + 3 * length ks ≤ length w
    → put (put w at (packet_words (take i ks))) (at + 3 * i) (packet_words (get_or ks i z ∷ [])) ≡ put w at (packet_words (take (i + 1) ks))
store-more w ks z at i h k =
    let n : length (take i ks) ≡ i = length-take-le i ks (omega arith) in
    let m : length (packet_words (take i ks)) ≡ 3 * i = length-packet_words (take i ks) ∙ ap (λ (x : ℕ). 3 * x) n in
    let e : at + 3 * i ≡ at + length (packet_words (take i ks)) = omega arith in
    rw (e, put-put w at (packet_words (take i ks)) (packet_words (get_or ks i z ∷ [])) (omega arith), add-one i, take-suc ks i z h, packet-words-append (take i ks) (get_or ks i z ∷ []))

-- the fields of a packet that is stored fit, and so do those of all
pub fits-packet : (k : Packet) → k.epoch < 4294967296 → k.length < 65536 → k.port < 65536 → packets_fit (packet_words (k ∷ [])) ≡ true
unfolding packets_fit packet_words
fits-packet k epoch size port =
    join _ _ (join _ _ (join _ _ (le-leb k.epoch most32 (omega arith)) (le-leb k.length most16 (omega arith))) (le-leb k.port most16 (omega arith))) refl

fits-packets-append : (a b : List Packet) → packets_fit (packet_words a) ≡ true → packets_fit (packet_words b) ≡ true → packets_fit (packet_words (a ++ b)) ≡ true
unfolding packets_fit packet_words
fits-packets-append [] b p q = q
fits-packets-append (k ∷ ks) b p q =
    let one = fits32 k.epoch && fits16 k.length && fits16 k.port in
    let e = both one (packets_fit (packet_words ks)) p in
    join one (packets_fit (packet_words (ks ++ b))) e.0 (fits-packets-append ks b e.1 q)

pub fits-packets-more : (ks : List Packet) (z : Packet) (i : ℕ) → i < length ks → packets_fit (packet_words (take i ks)) ≡ true
    → packets_fit (packet_words (get_or ks i z ∷ [])) ≡ true → packets_fit (packet_words (take (i + 1) ks)) ≡ true
fits-packets-more ks z i h p q = rw (add-one i, take-suc ks i z h) (fits-packets-append (take i ks) (get_or ks i z ∷ []) p q)

-- the three parts of the words, stored one after the other, over all of them
packet-words-many : (p : Primary) → length p.queue.packets ≡ 64 → length (packet_words p.queue.packets) ≡ 192
packet-words-many p k = length-packet_words p.queue.packets ∙ ap (λ (x : ℕ). 3 * x) k

pub store-all : (w : List ℕ) (p : Primary) → length w ≡ primary_length → length p.queue.packets ≡ 64 → length p.numbers ≡ 64
    → put (put (put w 0 (head_words p)) packets_at (packet_words p.queue.packets)) written_at p.numbers ≡ primary_words p
unfolding primary_words head_words
store-all w p h k m =
    let a = head_words p in
    let b = packet_words p.queue.packets in
    let ns = p.numbers in
    let n : length (a ++ b) ≡ written_at = rw (length-append a b, packet-words-many p k) in
    ap (λ (x : List ℕ). put x written_at ns) (put_next w a b packets_at refl (omega arith))
    ∙ put_next w (a ++ b) ns written_at n (omega arith)
    ∙ put_whole w (a ++ b ++ ns) (rw (length-append (a ++ b) ns, n, m) (sym h))
    ∙ append_assoc a b ns

-- the words of the packets of words
packets-words : (n : ℕ) (w : List ℕ) → length w ≡ 3 * n → packet_words (packets_of w) ≡ w
unfolding packets_of packet_words
packets-words zero [] h = refl
packets-words zero (a ∷ w) h = absurd (omega arith)
packets-words (suc n) [] h = absurd (omega arith)
packets-words (suc n) (a ∷ []) h = absurd (omega arith)
packets-words (suc n) (a ∷ b ∷ []) h = absurd (omega arith)
packets-words (suc n) (a ∷ b ∷ c ∷ w) h = rw (packets-words n w (omega arith))

-- one packet replaced
packet-words-set : (ks : List Packet) (i : ℕ) (x : Packet) → i < length ks → packet_words (set ks i x) ≡ put (packet_words ks) (3 * i) (packet_words (x ∷ []))
unfolding packet_words
packet-words-set [] i x h = absurd (omega arith)
packet-words-set (k ∷ ks) zero x h = sym (put_front (packet_words (k ∷ ks)) (packet_words (x ∷ [])))
packet-words-set (k ∷ ks) (suc i) x h =
    let e : 3 * suc i ≡ 3 + 3 * i = omega arith in
    rw e
    (ap (λ (l : List ℕ). packet_words (k ∷ []) ++ l) (packet-words-set ks i x (omega arith))
    ∙ sym (put-behind (packet_words (k ∷ [])) (packet_words ks) (packet_words (x ∷ [])) (3 * i)))

fits-packets-set : (ks : List Packet) (i : ℕ) (x : Packet) → packets_fit (packet_words ks) ≡ true → packets_fit (packet_words (x ∷ [])) ≡ true
    → packets_fit (packet_words (set ks i x)) ≡ true
unfolding packets_fit packet_words
fits-packets-set [] i x p q = p
fits-packets-set (k ∷ ks) zero x p q =
    let old = fits32 k.epoch && fits16 k.length && fits16 k.port in
    let new = fits32 x.epoch && fits16 x.length && fits16 x.port in
    join new (packets_fit (packet_words ks)) (both new true q).0 (both old (packets_fit (packet_words ks)) p).1
fits-packets-set (k ∷ ks) (suc i) x p q =
    let one = fits32 k.epoch && fits16 k.length && fits16 k.port in
    let e = both one (packets_fit (packet_words ks)) p in
    join one (packets_fit (packet_words (set ks i x))) e.0 (fits-packets-set ks i x e.1 q)

-- all 64 of them
pub packets-many : (w : List ℕ) → primary_words_ok w ≡ true → length (primary_of w).queue.packets ≡ 64
unfolding primary_of
packets-many w ok =
    let rest = packets_in w in
    let n = length-packets_in w ok in
    omega (arith, length-packet_words (packets_of rest), ap length (packets-words 64 rest n), n)

pub fits_one : (w : List ℕ) (i : ℕ) (x : Packet) → primary_words_ok w ≡ true → packets_fit (packet_words (x ∷ [])) ≡ true
    → packets_fit (packet_words (set (primary_of w).queue.packets i x)) ≡ true
unfolding primary_of
fits_one w i x ok q =
    let rest = packets_in w in
    fits-packets-set (packets_of rest) i x (rw (packets-words 64 rest (length-packets_in w ok)) (primary-word-facts w ok).packets) q

pub fits-number : (w : List ℕ) (j n : ℕ) → primary_words_ok w ≡ true → n < 65536 → all_fit16 (set (primary_of w).numbers j n) ≡ true
unfolding primary_of
fits-number w j n ok h = fits-set most16 (written_in w) j n (primary-word-facts w ok).numbers h

-- what is behind the head: the words of the packets, then the block numbers
behind-head : (w : List ℕ) → primary_words_ok w ≡ true → packet_words (packets_of (packets_in w)) ++ written_in w ≡ drop packets_at w
behind-head w ok =
    rw (packets-words 64 (packets_in w) (length-packets_in w ok)) (between-rest w packets_at written_at (omega arith) (omega (arith, primary-many w ok)))

-- the head of the words, then one packet and one block number, where the others stay
module _ (w : List ℕ) (p : Primary) (i : ℕ) (x : Packet) (ok : primary_words_ok w ≡ true) (h : i < 64) (e : p.queue.packets ≡ set (primary_of w).queue.packets i x) where
  store-packet : put (put w 0 (head_words p)) (packets_at + 3 * i) (packet_words (x ∷ [])) ≡ head_words p ++ (packet_words p.queue.packets ++ written_in w)
  unfolding head_words primary_of
  store-packet =
      let a = head_words p in
      let ks = packets_of (packets_in w) in
      let b = packet_words ks in
      let one = packet_words (x ∷ []) in
      let many : length ks ≡ 64 = packets-many w ok in
      let inside : 3 * i + length one ≤ length b = rw (length-packet_words ks, length-packet_words (x ∷ [])) (omega arith) in
      ap (λ (l : List ℕ). put l (packets_at + 3 * i) one) (put_front w a ∙ ap (λ (l : List ℕ). a ++ l) (sym (behind-head w ok)))
      ∙ put-behind a (b ++ written_in w) one (3 * i)
      ∙ ap (λ (l : List ℕ). a ++ l) (put-inside b (written_in w) one (3 * i) inside)
      ∙ ap (λ (l : List ℕ). a ++ (l ++ written_in w)) (sym (packet-words-set ks i x (omega arith)) ∙ ap packet_words (sym e))

  pub store-one : (j n : ℕ) → length p.queue.packets ≡ 64 → p.numbers ≡ set (primary_of w).numbers j n
      → set (put (put w 0 (head_words p)) (packets_at + 3 * i) (packet_words (x ∷ []))) (written_at + j) n ≡ primary_words p
  unfolding primary_words head_words primary_of
  store-one j n k d =
      let a = head_words p in
      let b = packet_words p.queue.packets in
      let place : written_at + j ≡ length a + (length b + j) = rw (packet-words-many p k) (omega arith) in
      ap (λ (l : List ℕ). set l (written_at + j) n) store-packet
      ∙ ap (λ (m : ℕ). set (a ++ (b ++ written_in w)) m n) place
      ∙ set-behind a (b ++ written_in w) (length b + j) n
      ∙ ap (λ (l : List ℕ). a ++ l) (set-behind b (written_in w) j n ∙ ap (λ (l : List ℕ). b ++ l) (sym d))

-- ---- the words of a state whose fields of 32 and of 16 bits fit are a state's; its arrays have the 64 entries that
-- their types say
module _ (p : Primary) (k : length p.queue.packets ≡ 64) where
  packets-apart : packets_in (primary_words p) ≡ packet_words p.queue.packets
  unfolding primary_words head_words
  packets-apart = take_at (packet_words p.queue.packets) p.numbers 192 (packet-words-many p k)

  written_apart : written_in (primary_words p) ≡ p.numbers
  unfolding primary_words head_words
  written_apart = drop_at (packet_words p.queue.packets) p.numbers 192 (packet-words-many p k)

  length-primary_words : length p.numbers ≡ 64 → length (primary_words p) ≡ primary_length
  unfolding primary_words head_words
  length-primary_words m =
      rw (length-append (head_words p) (packet_words p.queue.packets ++ p.numbers), length-append (packet_words p.queue.packets) p.numbers, packet-words-many p k, m)

pub flag-fits : (b : Bool) → is_flag (flag_word b) ≡ true
flag-fits true = refl
flag-fits false = refl

pub primary-words-ok : (p : Primary) → length p.queue.packets ≡ 64 → length p.numbers ≡ 64 → all_fit32 (between 6 10 (head_words p)) ≡ true
    → packets_fit (packet_words p.queue.packets) ≡ true → all_fit16 p.numbers ≡ true → primary_words_ok (primary_words p) ≡ true
unfolding primary_words_ok primary_words head_words
primary-words-ok p k m low packets numbers =
    join _ _ (join _ _ (join _ _ (join _ _ (eq-eqb _ _ (length-primary_words p k m)) low) (flag-fits p.alone)) (rw (packets-apart p k) packets)) (rw (written_apart p k) numbers)

-- ---- a state is the state of its words
pub flag-again : (b : Bool) → flag_of (flag_word b) ≡ b
flag-again true = refl
flag-again false = refl

packets-again : (ks : List Packet) → packets_of (packet_words ks) ≡ ks
unfolding packets_of packet_words
packets-again [] = refl
packets-again (k ∷ ks) = rw (packets-again ks)

pub primary-again : (p : Primary) → length p.queue.packets ≡ 64 → primary_of (primary_words p) ≡ p
unfolding primary_of primary_words head_words
primary-again p k = rw (packets-apart p k, written_apart p k, packets-again p.queue.packets, flag-again p.alone)

-- ---- and words that are a state are the words of it
pub flag-words : (n : ℕ) → n ≤ 1 → flag_word (flag_of n) ≡ n
flag-words zero h = refl
flag-words (suc zero) h = refl
flag-words (suc (suc n)) h = absurd (omega arith)

pub primary-words-again : (w : List ℕ) → primary_words_ok w ≡ true → primary_words (primary_of w) ≡ w
unfolding primary_of primary_words head_words
primary-words-again w e =
    let f = primary-word-facts w e in
    rw (flag-words (get_or w 10 0) f.flag, behind-head w e) (words-from 16 0 w (omega (arith, f.many)))
