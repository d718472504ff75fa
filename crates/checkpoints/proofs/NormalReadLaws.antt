-- The normal form of records that a standby reads back is one of records that it reads back. Assumes nothing.
use mathlib.Core.Path.{◌≡◌, refl, sym, ap, ◌∙◌, subst}
use mathlib.Core.Bool.{Bool, true, false, cond, ◌||◌, false≢true}
use mathlib.Core.Logic.{⊎_elim}
use mathlib.Core.List.{List, [], ◌∷◌}
use Prim.Native.Nat.{ℕ, zero, suc, ◌^◌, ◌≤◌, ◌<◌}
use native.Mathlib.Omega.{arith}
use lib.ListN.{length}
use Rattle.lists.specs.Page.{gather}
use Rattle.lists.proofs.TestLaws.{by-test, cond-true}
use Rattle.records.specs.Kind.{is_wide, processor_bytes}
use Rattle.records.specs.Message.{Message, page, block, state, commit, ack, bytes_of}
use Rattle.records.proofs.KindLaws.{for-page, for-block, for-state, for-commit, number_fits, two_fits}
use Rattle.runs.proofs.Effects.{All, all_append, Readable}
use Rattle.checkpoints.specs.declared.FileSettings.{FileSettings}
use Rattle.checkpoints.specs.Content.{is_page, is_block, is_state, named, last_of}
use Rattle.checkpoints.specs.Normal.{once, normal_blocks, normal_pages, normal_of}
use Rattle.checkpoints.specs.Judge.{epoch_of}
use Rattle.checkpoints.proofs.KnownLaws.{message_epoch, epoch-cons}
use Rattle.checkpoints.proofs.ShapeLaws.{Shape}
use Rattle.checkpoints.proofs.ContentLaws.{same_none}
use Rattle.checkpoints.proofs.NormalLaws.{rises-length, length-pages}
use Rattle.checkpoints.proofs.NormalShapeLaws.{state-named, normal-pages, normal-blocks-count}

-- ---- what holds of all of several lists
pub all-gather : (P : Message → Type 0) (h : ℕ → List Message) (d : ℕ) → ((i : ℕ) → i < d → All P (h i)) → All P (gather h d)
unfolding gather
all-gather P h zero each = tt
all-gather P h (suc d) each = all_append P (gather h d) (h d) (all-gather P h d (λ i l. each i (omega arith))) (each d (omega arith))

-- of the one record made where one is named
pub all_once : (P : Message → Type 0) (f : Message → Bool) (make : List ℕ → Message) (ms : List Message) → (named f ms ≡ true → P (make (last_of f [] ms))) → All P (once f make ms)
all_once P f make ms h = go (named f ms) h
  where
    go : (b : Bool) → (b ≡ true → P (make (last_of f [] ms))) → All P (cond b (make (last_of f [] ms) ∷ []) [])
    go true h = (h refl, tt)
    go false h = tt

-- what holds of all records of a normal form
pub normal-all : (P : Message → Type 0) (e d m : ℕ) (ms : List Message)
    → ((n : ℕ) → n < d → named (is_block n) ms ≡ true → P (block e n (last_of (is_block n) [] ms)))
    → ((p : ℕ) → p < m → named (is_page p) ms ≡ true → P (page e p (last_of (is_page p) [] ms)))
    → P (state e (last_of is_state [] ms)) → P (commit e (length (normal_pages e m ms)) (length (normal_blocks e d ms)))
    → All P (normal_of e d m ms)
unfolding normal_of normal_blocks normal_pages
normal-all P e d m ms blocks pages st end =
    all_append P (gather (λ n. once (is_block n) (block e n) ms) d) _
    (all-gather P (λ n. once (is_block n) (block e n) ms) d (λ n l. all_once P (is_block n) (block e n) ms (blocks n l)))
    (all_append P (gather (λ p. once (is_page p) (page e p) ms) m) _
    (all-gather P (λ p. once (is_page p) (page e p) ms) m (λ p l. all_once P (is_page p) (page e p) ms (pages p l)))
    (st, (end, tt)))

-- ---- the last bytes have what the bytes of each record that passes have
pub last_has : (Q : List ℕ → Type 0) (f : Message → Bool) (ms : List Message) (z : List ℕ) → All (λ x. f x ≡ true → Q (bytes_of x)) ms → named f ms ≡ true → Q (last_of f z ms)
unfolding named last_of
last_has Q f [] z a h = absurd (false≢true h)
last_has Q f (x ∷ xs) z a h =
    ⊎_elim
    (λ (t : named f xs ≡ true). last_has Q f xs (cond (f x) (bytes_of x) z) a.1 t)
    (λ (t : named f xs ≡ false).
    let passes : f x ≡ true = or-first (f x) (named f xs) h t in
    subst Q (sym ((same_none f xs t).last (cond (f x) (bytes_of x) z) ∙ cond-true (f x) (bytes_of x) z passes)) (a.0 passes))
    (by-test (named f xs))
  where
    or-first : (a b : Bool) → (a || b) ≡ true → b ≡ false → a ≡ true
    or-first true b h t = refl
    or-first false b h t = absurd (false≢true (sym t ∙ h))

-- or that each record's bytes have, where the empty ones have it
pub last-all : (Q : List ℕ → Type 0) (f : Message → Bool) (ms : List Message) (z : List ℕ) → All (λ x. Q (bytes_of x)) ms → Q z → Q (last_of f z ms)
unfolding last_of
last-all Q f [] z a h = h
last-all Q f (x ∷ xs) z a h = last-all Q f xs (cond (f x) (bytes_of x) z) a.1 (go (f x))
  where
    go : (b : Bool) → Q (cond b (bytes_of x) z)
    go true = a.0
    go false = h

-- what follows from what holds of each
pub all_map : {P Q : Message → Type 0} → ((x : Message) → P x → Q x) → (xs : List Message) → All P xs → All Q xs
all_map f [] a = tt
all_map f (x ∷ xs) a = (f x a.0, all_map f xs a.1)

-- ---- records that are read back
module _ (u : ℕ) (wide : Bool) where
  -- a PAGE and a BLOCK have u bytes, a STATE those of a processor state
  page-size : (p : ℕ) (x : Message) → Readable u wide x → is_page p x ≡ true → length (bytes_of x) ≡ u
  page-size p (page e q bs) r t = r.0.2
  page-size p (block e n bs) r t = absurd (false≢true t)
  page-size p (state e bs) r t = absurd (false≢true t)
  page-size p (commit e q b) r t = absurd (false≢true t)
  page-size p (ack e) r t = absurd (false≢true t)

  -- a BLOCK
  block_size : (n : ℕ) (x : Message) → Readable u wide x → is_block n x ≡ true → length (bytes_of x) ≡ u
  block_size n (page e q bs) r t = absurd (false≢true t)
  block_size n (block e k bs) r t = r.0.2
  block_size n (state e bs) r t = absurd (false≢true t)
  block_size n (commit e q b) r t = absurd (false≢true t)
  block_size n (ack e) r t = absurd (false≢true t)

  -- a STATE
  state-size : (x : Message) → Readable u wide x → is_state x ≡ true → length (bytes_of x) ≡ processor_bytes
  state-size (page e q bs) r t = absurd (false≢true t)
  state-size (block e k bs) r t = absurd (false≢true t)
  state-size (state e bs) r t = r.0.1
  state-size (commit e q b) r t = absurd (false≢true t)
  state-size (ack e) r t = absurd (false≢true t)

  -- an epoch has four bytes
  epoch-size : (x : Message) → Readable u wide x → message_epoch x < 2 ^ 32
  epoch-size (page e q bs) r = r.0.0
  epoch-size (block e k bs) r = r.0.0
  epoch-size (state e bs) r = r.0.0
  epoch-size (commit e q b) r = r.0.0
  epoch-size (ack e) r = r.0

  -- so has that of the first record
  pub epoch-fits : (ms : List Message) → All (Readable u wide) ms → epoch_of ms < 2 ^ 32
  unfolding epoch_of
  epoch-fits [] a = omega arith
  epoch-fits (x ∷ xs) a = subst (λ (n : ℕ). n < 2 ^ 32) (sym (epoch-cons x xs)) (epoch-size x a.0)

-- the normal form is read back
pub normal-readable : (g : FileSettings) (ms : List Message) → Shape g ms → g.m ≤ 65536 → g.d ≤ 4096 → g.b ≤ 64
    → All (Readable g.u (is_wide g.m)) ms → All (Readable g.u (is_wide g.m)) (normal_of (epoch_of ms) g.d g.m ms)
normal-readable g ms s low-m low-d low-b a =
    let u = g.u in
    let wide = is_wide g.m in
    let e = epoch_of ms in
    let low = epoch-fits u wide ms a in
    let size : List ℕ → Type 0 = λ (l : List ℕ). length l ≡ u in
    let pages : length (normal_pages e g.m ms) ≤ g.m = omega (arith, ap length (normal-pages g ms s), length-pages e s.ps, rises-length 0 g.m s.ps (omega arith) s.rises) in
    let blocks : length (normal_blocks e g.d ms) ≤ 64 = omega (arith, normal-blocks-count g ms s, s.few) in
    normal-all (Readable u wide) e g.d g.m ms
    (λ n l t. ((low, omega arith, last_has size (is_block n) ms [] (all_map (block_size u wide n) ms a) t), for-block wide))
    (λ p l t. ((low, number_fits g.m p low-m (omega arith), last_has size (is_page p) ms [] (all_map (page-size u wide p) ms a) t), for-page wide))
    ((low, last_has (λ (l : List ℕ). length l ≡ processor_bytes) is_state ms [] (all_map (state-size u wide) ms a) (state-named g ms s)), for-state wide)
    ((low, number_fits g.m (length (normal_pages e g.m ms)) low-m pages, two_fits wide (length (normal_blocks e g.d ms)) (omega arith)), for-commit wide)
