-- Laws of parts: what every call of a part keeps, the part keeps; and a bound that is large enough is none. Assumes nothing.
use Prim.Native.Nat.{ℕ, zero, suc, ◌≤◌, ◌<◌}
use mathlib.Core.Path.{◌≡◌, refl, sym, ap, subst}
use mathlib.Core.Bool.{Bool, true, false, cond}
use mathlib.Core.List.{List, [], ◌∷◌, ◌++◌, append_assoc, append-nil}
use native.Mathlib.Omega.{arith}
use Rattle.rules.specs.Step.{Outcome}
use Rattle.trials.specs.Trial.{Trial, Course, and_then}
use Rattle.trials.specs.Trial as course
use Rattle.trials.specs.Part.{Made, Part, made_then, nothing, note, then, in_order, when, each, whilst, bounded}

-- ---- what is done next
pub then-on : (c : Course) → and_then c (λ t. course.on t) ≡ c
then-on (course.on t) = refl
then-on (course.ended t letter o) = refl

-- ---- what holds of a trial that goes on and the calls made so far, and of one that has ended: what a part keeps
module _ (F : List Made → Trial → Type 0) (G : List Made → Trial → ℕ → Outcome → Type 0) where
  abbrev pub After : List Made → Course → Type 0
  After log (course.on t) = F log t
  After log (course.ended t letter o) = G log t letter o

  abbrev pub Keeps : Part → Type 0
  Keeps p = (log : List Made) (t : Trial) → F log t → After (log ++ p.made t) (p.course t)

  -- where it goes on the next part begins from its trial, else it stays as it is
  keeps-next : (log : List Made) (c : Course) (made : List Made) (q : Part) → After (log ++ made) c → Keeps q
      → After (log ++ (made ++ made_then c q.made)) (and_then c q.course)
  keeps-next log (course.on t) made q f k = subst (λ (l : List Made). After l (q.course t)) (append_assoc log made (q.made t)) (k (log ++ made) t f)
  keeps-next log (course.ended t letter o) made q f k = subst (λ (l : List Made). G (log ++ l) t letter o) (sym (append-nil made)) f

  pub keeps_then : (p q : Part) → Keeps p → Keeps q → Keeps (then p q)
  keeps_then p q k l log t f = keeps-next log (p.course t) (p.made t) q (k log t f) l

  pub keeps-nothing : Keeps nothing
  keeps-nothing log t f = subst (λ (l : List Made). F l t) (sym (append-nil log)) f

  pub keeps-note : (g : Trial → Trial) → ((log : List Made) (t : Trial) → F log t → F log (g t)) → Keeps (note g)
  keeps-note g k log t f = subst (λ (l : List Made). F l (g t)) (sym (append-nil log)) (k log t f)

  pub keeps-when : (test : Trial → Bool) (p : Part) → ((log : List Made) (t : Trial) → test t ≡ true → F log t → After (log ++ p.made t) (p.course t)) → Keeps (when test p)
  keeps-when test p k log t f = by (test t) refl
    where
      by : (b : Bool) → test t ≡ b → After (log ++ cond b (p.made t) []) (cond b (p.course t) (course.on t))
      by true e = k log t e f
      by false e = keeps-nothing log t f

  -- each of them
  abbrev pub AllKeep : List Part → Type 0
  AllKeep [] = Unit {0}
  AllKeep (q ∷ qs) = Keeps q × AllKeep qs

  pub keeps-order : (qs : List Part) (p : Part) → Keeps p → AllKeep qs → Keeps (in_order p qs)
  keeps-order [] p k ks = k
  keeps-order (q ∷ qs) p k ks = keeps-order qs (then p q) (keeps_then p q k ks.0) ks.1

  pub keeps-each : (p : ℕ → Part) → ((i : ℕ) → Keeps (p i)) → (n from : ℕ) → Keeps (each p from n)
  unfolding each
  keeps-each p k zero from = keeps-nothing
  keeps-each p k (suc n) from = keeps_then (p from) (each p (suc from) n) (k from) (keeps-each p k n (suc from))

  pub keeps-whilst : (test : Trial → Bool) (p : Part) → Keeps p → (n : ℕ) → Keeps (whilst test p n)
  unfolding whilst
  keeps-whilst test p k zero = keeps-nothing
  keeps-whilst test p k (suc n) =
      keeps-when test (then p (whilst test p n)) (λ log t e f. keeps_then p (whilst test p n) k (keeps-whilst test p k n) log t f)

  pub keeps-bounded : (n : Trial → ℕ) (p : ℕ → Part) → ((i : ℕ) → Keeps (p i)) → Keeps (bounded n p)
  keeps-bounded n p k log t f = k (n t) log t f

-- ---- a bound that is large enough is none
module _ (test : Trial → Bool) (p : Part) (size : Trial → ℕ)
    -- each turn after which the trial goes on makes the size less
    (less : (t next : Trial) → test t ≡ true → p.course t ≡ course.on next → size next < size t) where
  -- m turns at the most do what n do
  abbrev pub SameFor : ℕ → ℕ → Trial → Type 0
  SameFor n m t = ((whilst test p m).course t ≡ (whilst test p n).course t) × ((whilst test p m).made t ≡ (whilst test p n).made t)

  same_after : (n m : ℕ) (t : Trial) (c : Course) → p.course t ≡ c → test t ≡ true → size t < suc n → ((u : Trial) → size u < n → SameFor n m u)
      → (and_then c (whilst test p m).course ≡ and_then c (whilst test p n).course) × (made_then c (whilst test p m).made ≡ made_then c (whilst test p n).made)
  same_after n m t (course.on next) e h k s = let l = less t next h e in s next (omega arith)
  same_after n m t (course.ended next letter o) e h k s = (refl, refl)

  pub bound-enough : (n m : ℕ) → n ≤ m → (t : Trial) → size t < n → SameFor n m t
  unfolding whilst
  bound-enough zero m h t k = absurd (omega arith)
  bound-enough (suc n) zero h t k = absurd (omega arith)
  bound-enough (suc n) (suc m) h t k = by (test t) refl (bound-enough n m (omega arith))
    where
      by : (b : Bool) → test t ≡ b → ((u : Trial) → size u < n → SameFor n m u)
          → (cond b (and_then (p.course t) (whilst test p m).course) (course.on t) ≡ cond b (and_then (p.course t) (whilst test p n).course) (course.on t))
          × (cond b (p.made t ++ made_then (p.course t) (whilst test p m).made) [] ≡ cond b (p.made t ++ made_then (p.course t) (whilst test p n).made) [])
      by true e next =
          let s = same_after n m t (p.course t) refl e k next in
          (s.0, ap (λ (l : List Made). p.made t ++ l) s.1)
      by false e next = (refl, refl)

  -- and a trial that goes on has nothing more to do
  pub bound-done : (n : ℕ) (t next : Trial) → size t < n → (whilst test p n).course t ≡ course.on next → test next ≡ false
  unfolding whilst
  bound-done zero t next k e = absurd (omega arith)
  bound-done (suc n) t next k e = by (test t) refl e (λ u h q. bound-done n u next h q)
    where
      after : (c : Course) → p.course t ≡ c → test t ≡ true → and_then c (whilst test p n).course ≡ course.on next → ((u : Trial) → size u < n → (whilst test p n).course u ≡ course.on next → test next ≡ false)
          → test next ≡ false
      after (course.on u) f h q then = let l = less t u h f in then u (omega arith) q
      after (course.ended u letter o) f h q then = absurd (never q)
        where
          never : course.ended u letter o ≡ course.on next → ⊥
          never z = let y : ◌≡◌ {A = ℕ} 0 1 = cc in omega arith

      by : (b : Bool) → test t ≡ b → cond b (and_then (p.course t) (whilst test p n).course) (course.on t) ≡ course.on next
          → ((u : Trial) → size u < n → (whilst test p n).course u ≡ course.on next → test next ≡ false) → test next ≡ false
      by true h q then = after (p.course t) refl h q then
      by false h q then = subst (λ (u : Trial). test u ≡ false) (same q) h
        where
          same : course.on t ≡ course.on next → t ≡ next
          same z = cc
