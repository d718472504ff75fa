-- Laws of little-endian fields, over the width. Assumes nothing.
use mathlib.Core.Path.{◌≡◌, refl, sym, ap, ◌∙◌}
use mathlib.Core.List.{List, ◌∷◌, ◌++◌, append_assoc, append-nil}
use Prim.Native.Nat.{ℕ, zero, suc, ◌+◌, ◌-◌, ◌*◌, ◌/◌, ◌%◌, ◌^◌, ◌≤◌, ◌<◌}
use native.Mathlib.Nat.{pow-succ', add-suc}
use native.Mathlib.Omega.{arith}
use lib.ListN.{length, get_or, take, set}
use mir.Val.{Fits}
use mir.Syntax.{w8}
use lib.Seq.{get_or-append-add, get_or-take, drop-cons, take-suc-set, take_all}
use native.Mathlib.Numerals.{add-one}
use Rattle.lists.specs.Part.{part}
use Rattle.lists.specs.LittleEndian.{le_bytes, le_at}

pub length-le_bytes : (k v : ℕ) → length (le_bytes k v) ≡ k
unfolding le_bytes
length-le_bytes zero v = refl
length-le_bytes (suc k) v = ap suc (length-le_bytes k (v / 256))

-- a turn of the loop that makes the bytes, and its end
pub le_bytes-turn : (s : List ℕ) (n i v : ℕ) → length s ≡ n → i < n → take (i + 1) (set s i (v % 256)) ++ le_bytes (n - (i + 1)) (v / 256) ≡ take i s ++ le_bytes (n - i) v
unfolding le_bytes
le_bytes-turn s n i v l h =
    let k : n - i ≡ suc (n - (i + 1)) = omega arith in
    let w : i < length s = omega arith in
    rw (k, add-one, take-suc-set s i (v % 256) w, append_assoc)

pub le_bytes-end : (s t : List ℕ) (n i v : ℕ) → length s ≡ n → n ≤ i → take i s ++ le_bytes (n - i) v ≡ t → s ≡ t
unfolding le_bytes
le_bytes-end s t n i v l h e =
    let z : n - i ≡ 0 = omega arith in
    let all : length s ≤ i = omega arith in
    sym (append-nil s) ∙ rw (z, take_all i s all) at e

le_at-cons : (k : ℕ) (x : ℕ) (s : List ℕ) (i : ℕ) → le_at k (x ∷ s) (suc i) ≡ le_at k s i
unfolding le_at
le_at-cons zero x s i = refl
le_at-cons (suc k) x s i = ap (λ (n : ℕ). get_or s i 0 + 256 * n) (le_at-cons k x s (suc i))

-- the law over the width: what is written in k bytes is read back, whatever follows
pub le_at-le_bytes : (k v : ℕ) (t : List ℕ) → v < 256 ^ k → le_at k (le_bytes k v ++ t) 0 ≡ v
unfolding le_at le_bytes
le_at-le_bytes zero v t h = omega arith
le_at-le_bytes (suc k) v t h =
    let q : v < 256 * 256 ^ k = rw pow-succ' at h in
    let e = le_at-le_bytes k (v / 256) t (omega arith) in
    let f = le_at-cons k (v % 256) (le_bytes k (v / 256) ++ t) 0 in
    omega arith

-- a field of k bytes holds a number of k bytes
pub le_at-lt : (k i : ℕ) (s : List ℕ) → ((j : ℕ) → get_or s j 0 < 256) → le_at k s i < 256 ^ k
unfolding le_at
le_at-lt zero i s h = omega arith
le_at-lt (suc k) i s h =
    let e = le_at-lt k (suc i) s h in
    let b = h i in
    rw pow-succ' (omega arith)

-- no byte, and one more byte before the others
pub le_at-none : (k i : ℕ) (s : List ℕ) → k ≡ 0 → le_at k s i ≡ 0
unfolding le_at
le_at-none k i s e = rw e

pub le_at-down : (k n i j : ℕ) (s : List ℕ) → n ≡ suc k → i ≡ suc j → le_at n s j ≡ 256 * le_at k s i + get_or s j 0
unfolding le_at
le_at-down k n i j s e f = rw (e, f) (omega arith)

-- up to three bytes, and one more, fit 32 bits
three-bytes : (k n : ℕ) → k < 4 → n < 256 ^ k → 256 * n + 255 < 2 ^ 32
three-bytes zero n h l = omega arith
three-bytes (suc zero) n h l = omega arith
three-bytes (suc (suc zero)) n h l = omega arith
three-bytes (suc (suc (suc zero))) n h l = omega arith
three-bytes (suc (suc (suc (suc k)))) n h l = absurd (omega arith)

pub le_at-three : (k i n : ℕ) (s : List ℕ) → k < 4 → ((j : ℕ) → Fits w8 (get_or s j 0)) → n ≡ le_at k s i → 256 * n + 255 < 2 ^ 32
le_at-three k i n s h fits e = rw e (three-bytes k (le_at k s i) h (le_at-lt k i s (λ j. (fits j).fits)))

-- reading behind a part
pub le_at-append : (k i : ℕ) (p q : List ℕ) → le_at k (p ++ q) (length p + i) ≡ le_at k q i
unfolding le_at
le_at-append zero i p q = refl
le_at-append (suc k) i p q =
    let e : le_at k (p ++ q) (suc (length p + i)) ≡ le_at k q (suc i) = rw (← add-suc) (le_at-append k (suc i) p q) in
    rw (get_or-append-add, e)

-- reading past a field
pub le_at-skip : (j v k i : ℕ) (t : List ℕ) → le_at k (le_bytes j v ++ t) (j + i) ≡ le_at k t i
le_at-skip j v k i t =
    let e = le_at-append k i (le_bytes j v) t in
    rw length-le_bytes at e

-- reading inside the first n bytes
pub le_at-take : (k i n : ℕ) (s : List ℕ) → i + k ≤ n → le_at k (take n s) i ≡ le_at k s i
unfolding le_at
le_at-take zero i n s h = refl
le_at-take (suc k) i n s h =
    let e = le_at-take k (suc i) n s (omega arith) in
    rw (get_or-take n s i 0 (omega arith), e)

-- the law over the width: the number in k bytes, written again, is those bytes
pub le_bytes-le_at : (k i : ℕ) (s : List ℕ) → ((j : ℕ) → get_or s j 0 < 256) → i + k ≤ length s → le_bytes k (le_at k s i) ≡ part i k s
unfolding le_bytes le_at part
le_bytes-le_at zero i s h l = refl
le_bytes-le_at (suc k) i s h l =
    let v = le_at k s (suc i) in
    let b = h i in
    let low : (get_or s i 0 + 256 * v) % 256 ≡ get_or s i 0 = omega arith in
    let high : (get_or s i 0 + 256 * v) / 256 ≡ v = omega arith in
    let rest = le_bytes-le_at k (suc i) s h (omega arith) in
    rw (low, high, drop-cons s i 0 (omega arith)) (ap (λ (t : List ℕ). get_or s i 0 ∷ t) rest)
