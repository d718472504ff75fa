-- Laws of pages and of what is gathered. Assumes nothing.
use mathlib.Core.Path.{◌≡◌, refl, sym, ap, ap₂, ◌∙◌, subst}
use mathlib.Core.Logic.{◌⊎◌, inl, inr, ⊎_elim, ◌≢◌}
use mathlib.Core.List.{List, [], ◌++◌}
use Prim.Native.Nat.{ℕ, zero, suc, ◌+◌, ◌-◌, ◌*◌, ◌≤◌, ◌<◌, min}
use native.Mathlib.Nat.{zero-add, add-zero, le_refl, suc-mul, zero-mul, mul-le-mul_right, le_of_suc-le-suc, not-suc-le-zero, eq-or-lt_of_le}
use native.Mathlib.Numerals.{add-one}
use native.Mathlib.Omega.{arith}
use lib.Arith.{lt_of_le-ne}
use lib.ListN.{length, get_or, take, drop, length-append, length-take, length-drop, get_or-append}
use lib.Seq.{take_all, length-take-le, drop_at, take-append-le, drop-append-le, take-add, get_or-take, get_or-drop, get_or-append-add, ext_get_or}
use Rattle.lists.specs.Part.{part, put}
use Rattle.lists.specs.Page.{page, with_page, gather}
use Rattle.lists.proofs.TestLaws.{lt-or-ge, eq-or-ne}
use Rattle.lists.proofs.PartLaws.{length_part, length-put, part-put}

-- ---- sizes: p * u, where u is a variable. This is the only fact about the product that the rest uses
pub page-end : (p m u : ℕ) → p < m → p * u + u ≤ m * u
page-end p m u h = subst (λ (x : ℕ). x ≤ m * u) (suc-mul p u) (mul-le-mul_right u h)

below-or-at : (p n : ℕ) → p < suc n → (p < n) ⊎ (p ≡ n)
below-or-at p n l = ⊎_elim inr inl (eq-or-lt_of_le (le_of_suc-le-suc l))

module _ {A : Type 0} where
  -- ---- gather
  module _ (f : ℕ → List A) where
    pub gather_none : gather f 0 ≡ []
    unfolding gather
    gather_none = refl

    pub gather-more : (n : ℕ) → gather f (n + 1) ≡ gather f n ++ f n
    unfolding gather
    gather-more n = rw add-one

    pub length-gather : (u n : ℕ) → ((p : ℕ) → p < n → length (f p) ≡ u) → length (gather f n) ≡ n * u
    unfolding gather
    length-gather u zero h = sym (zero-mul u)
    length-gather u (suc n) h =
        length-append (gather f n) (f n)
        ∙ ap₂ ◌+◌ (length-gather u n (λ p l. h p (omega arith))) (h n (le_refl (suc n)))
        ∙ sym (suc-mul n u)

    -- page p of what is gathered, where each part has u bytes
    pub page-gather : (u n p : ℕ) → ((q : ℕ) → q < n → length (f q) ≡ u) → p < n → page u (gather f n) p ≡ f p
    unfolding gather page part
    page-gather u zero p h l = absurd (not-suc-le-zero l)
    page-gather u (suc n) p h l =
        let below : (q : ℕ) → q < n → length (f q) ≡ u = λ q b. h q (omega arith) in
        let len : length (gather f n) ≡ n * u = length-gather u n below in
        ⊎_elim
        (λ b. let fits : p * u + u ≤ n * u = page-end p n u b in
        rw (drop-append-le (p * u) (gather f n) (f n) (omega arith))
        (let k : u ≤ length (drop (p * u) (gather f n)) = rw length-drop (omega arith) in
        rw take-append-le (page-gather u n p below b)))
        (λ e. ap (λ (q : ℕ). take u (drop (q * u) (gather f n ++ f n))) e
        ∙ ap (take u) (drop_at (gather f n) (f n) (n * u) len)
        ∙ take_all u (f n) (omega (arith, h n (le_refl (suc n))))
        ∙ ap f (sym e))
        (below-or-at p n l)

  pub gather_ext : (f g : ℕ → List A) (n : ℕ) → ((p : ℕ) → p < n → f p ≡ g p) → gather f n ≡ gather g n
  unfolding gather
  gather_ext f g zero h = refl
  gather_ext f g (suc n) h = ap₂ ◌++◌ (gather_ext f g n (λ p l. h p (omega arith))) (h n (le_refl (suc n)))

  -- ---- pages
  pub length-page : (u p : ℕ) (l : List A) → p * u + u ≤ length l → length (page u l p) ≡ u
  unfolding page
  length-page u p l h = length_part (p * u) u l h

  -- an image is what its pages gather
  pub pages-take : (u : ℕ) (l : List A) (n : ℕ) → gather (page u l) n ≡ take (n * u) l
  unfolding gather page part
  pages-take u l zero = rw zero-mul
  pages-take u l (suc n) = rw (suc-mul, take-add, pages-take u l n)

  pub pages-whole : (u m : ℕ) (l : List A) → length l ≡ m * u → gather (page u l) m ≡ l
  pages-whole u m l e = pages-take u l m ∙ take_all (m * u) l (omega arith)

  -- two images of m pages that agree on each page are one
  pub pages-ext : (u m : ℕ) (a b : List A) → length a ≡ m * u → length b ≡ m * u → ((p : ℕ) → p < m → page u a p ≡ page u b p) → a ≡ b
  pages-ext u m a b ea eb h = sym (pages-whole u m a ea) ∙ gather_ext (page u a) (page u b) m h ∙ pages-whole u m b eb

  -- ---- a write inside one page
  module _ (s : List A) (at : ℕ) (bs : List A) (z : A) (fits : at + length bs ≤ length s) where
    head-length : length (take at s ++ bs) ≡ at + length bs
    head-length = length-append (take at s) bs ∙ ap (λ (n : ℕ). n + length bs) (length-take-le at s (omega arith))

    pub get_d-put-below : (i : ℕ) → i < at → get_or (put s at bs) i z ≡ get_or s i z
    unfolding put
    get_d-put-below i h =
        get_or-append (take at s ++ bs) (drop (at + length bs) s) z i (omega (arith, head-length))
        ∙ get_or-append (take at s) bs z i (omega (arith, length-take-le at s (omega arith)))
        ∙ get_or-take at s i z h

    pub get_d-put-above : (i : ℕ) → at + length bs ≤ i → get_or (put s at bs) i z ≡ get_or s i z
    unfolding put
    get_d-put-above i h =
        let n = at + length bs in
        let e : n + (i - n) ≡ i = omega arith in
        let e' : length (take at s ++ bs) + (i - n) ≡ i = omega (arith, head-length) in
        ap (λ (k : ℕ). get_or (take at s ++ bs ++ drop n s) k z) (sym e')
        ∙ get_or-append-add (take at s ++ bs) (drop n s) (i - n) z
        ∙ get_or-drop n s (i - n) z
        ∙ ap (λ (k : ℕ). get_or s k z) e

    -- a part that lies before or after the bytes that were put
    pub part-put-apart : (from n : ℕ) → (from + n ≤ at) ⊎ (at + length bs ≤ from) → part from n (put s at bs) ≡ part from n s
    unfolding part
    part-put-apart from n apart =
        let e : length (take n (drop from (put s at bs))) ≡ length (take n (drop from s)) = simp (length-take, length-drop) (ap (λ (k : ℕ). min n (k - from)) (length-put s at bs fits)) in
        ext_get_or z (take n (drop from (put s at bs))) (take n (drop from s)) e
        (λ i h.
        let hu : i < n = omega (arith, simp (length-take, length-drop) at h) in
        get_or-take n (drop from (put s at bs)) i z hu
        ∙ get_or-drop from (put s at bs) i z
        ∙ ⊎_elim (λ b. get_d-put-below (from + i) (omega arith)) (λ a. get_d-put-above (from + i) (omega arith)) apart
        ∙ sym (get_or-take n (drop from s) i z hu ∙ get_or-drop from s i z))

-- no other page changes
pub page-put-other : (mem : List ℕ) (u p q o : ℕ) (bs : List ℕ) → q ≢ p → o + length bs ≤ u → p * u + u ≤ length mem → page u (put mem (p * u + o) bs) q ≡ page u mem q
unfolding page
page-put-other mem u p q o bs ne h l =
    part-put-apart mem (p * u + o) bs 0 (omega arith) (q * u) u
    (⊎_elim
    (λ b. inl (omega (arith, page-end q p u b)))
    (λ g. inr (omega (arith, page-end p q u (lt_of_le-ne g (λ e. ne (sym e))))))
    (lt-or-ge q p))

-- a whole page or block stored: it is there, and no other changes
module _ (u p : ℕ) (l bs : List ℕ) (size : length bs ≡ u) (fits : p * u + u ≤ length l) where
  pub length-with-page : length (with_page u l p bs) ≡ length l
  unfolding with_page
  length-with-page = length-put l (p * u) bs (omega arith)

  pub page-with-same : page u (with_page u l p bs) p ≡ bs
  unfolding page with_page
  page-with-same = ap (λ (n : ℕ). part (p * u) n (put l (p * u) bs)) (sym size) ∙ part-put l (p * u) bs (omega arith)

  pub page-with-other : (q : ℕ) → q ≢ p → page u (with_page u l p bs) q ≡ page u l q
  unfolding with_page
  page-with-other q ne =
      ap (λ (n : ℕ). page u (put l n bs) q) (sym (add-zero (p * u))) ∙ page-put-other l u p q 0 bs ne (omega (arith, zero-add (length bs))) fits

-- ---- two pages stored one after the other, in an image of m pages
module _ (u m : ℕ) (l : List ℕ) (whole : length l ≡ m * u) (p : ℕ) (a : List ℕ) (below : p < m) (size : length a ≡ u) where
  inside : p * u + u ≤ length l
  inside = omega (arith, page-end p m u below)

  -- it stays one of m pages
  pub whole-with-page : length (with_page u l p a) ≡ m * u
  whole-with-page = length-with-page u p l a size inside ∙ whole

  -- the same page: the later bytes stay
  pub with-page-twice : (b : List ℕ) → length b ≡ u → with_page u (with_page u l p a) p b ≡ with_page u l p b
  with-page-twice b size' =
      let fits : p * u + u ≤ length (with_page u l p a) = omega (arith, whole-with-page, page-end p m u below) in
      pages-ext u m _ _ (length-with-page u p (with_page u l p a) b size' fits ∙ whole-with-page) (length-with-page u p l b size' inside ∙ whole)
      (λ r h.
      ⊎_elim
      (λ (e : r ≡ p). rw e (page-with-same u p (with_page u l p a) b size' fits ∙ sym (page-with-same u p l b size' inside)))
      (λ (ne : r ≢ p).
      page-with-other u p (with_page u l p a) b size' fits r ne
      ∙ page-with-other u p l a size inside r ne
      ∙ sym (page-with-other u p l b size' inside r ne))
      (eq-or-ne r p))

-- two pages: their order does not matter
pub with-page-swap : (u m : ℕ) (l : List ℕ) → length l ≡ m * u → (p q : ℕ) (a b : List ℕ) → p < m → q < m → length a ≡ u → length b ≡ u → q ≢ p
    → with_page u (with_page u l p a) q b ≡ with_page u (with_page u l q b) p a
with-page-swap u m l whole p q a b lp lq sa sb ne =
    let ip = inside u m l whole p a lp sa in
    let iq = inside u m l whole q b lq sb in
    let wp = whole-with-page u m l whole p a lp sa in
    let wq = whole-with-page u m l whole q b lq sb in
    let ip' = inside u m (with_page u l q b) wq p a lp sa in
    let iq' = inside u m (with_page u l p a) wp q b lq sb in
    pages-ext u m _ _ (whole-with-page u m (with_page u l p a) wp q b lq sb) (whole-with-page u m (with_page u l q b) wq p a lp sa)
    (λ r h.
    ⊎_elim
    (λ (e : r ≡ q).
    rw e
    (page-with-same u q (with_page u l p a) b sb iq'
    ∙ sym (page-with-other u p (with_page u l q b) a sa ip' q ne ∙ page-with-same u q l b sb iq)))
    (λ (nq : r ≢ q).
    page-with-other u q (with_page u l p a) b sb iq' r nq
    ∙ ⊎_elim
    (λ (e : r ≡ p). rw e (page-with-same u p l a sa ip ∙ sym (page-with-same u p (with_page u l q b) a sa ip')))
    (λ (np : r ≢ p).
    page-with-other u p l a sa ip r np
    ∙ sym (page-with-other u p (with_page u l q b) a sa ip' r np ∙ page-with-other u q l b sb iq r nq))
    (eq-or-ne r p))
    (eq-or-ne r q))
