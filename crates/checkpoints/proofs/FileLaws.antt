-- Laws of the records of a file: one for each answer of a reading, that as many steps as bytes are enough, and an
-- induction over the records. Assumes nothing.
use Rattle.std.specs.Prelude.{Result, Ok, Err}
use Prim.Native.Nat.{ℕ, zero, suc, ◌≤◌, ◌<◌}
use mathlib.Core.Path.{◌≡◌, refl, sym, ap, ◌∙◌, subst}
use mathlib.Core.Bool.{Bool, true}
use mathlib.Core.List.{List, [], ◌∷◌}
use native.Mathlib.Omega.{arith}
use lib.ListN.{length, drop, length-drop}
use Rattle.records.specs.declared.Cursor.{Cursor}
use Rattle.records.specs.declared.Record.{Record}
use Rattle.records.specs.declared.Unread.{Unread}
use Rattle.records.specs.declared.Record.TheVariants.{Page, Block, State, Commit, Ack}
use Rattle.records.specs.declared.Unread.TheVariants.{Short, Refused}
use Rattle.records.specs.Kind.{unit_ok, is_wide, header_length}
use Rattle.records.specs.Read.{read_record, used_of}
use Rattle.records.specs.Message.{Message, page, block, state, commit}
use Rattle.records.proofs.ReadLaws.{is_found}
use Rattle.records.proofs.MessageLaws.{read_none}
use Rattle.rules.specs.Read.{bytes_at}
use Rattle.runs.proofs.Effects.{Before}
use Rattle.checkpoints.specs.declared.FileSettings.{FileSettings}
use Rattle.checkpoints.specs.File.{File, closed, short, refused, file_of, after, file_reader, records_in, file_in}
use Rattle.checkpoints.proofs.ByteLaws.{message_of, found-no-ack, used-range}

-- what is read at the head of these bytes
abbrev pub head_of : FileSettings → List ℕ → Result Record Unread
head_of g s = read_record (file_reader g) g.u s

-- ---- one step, by what is read
module _ (g : FileSettings) (s : List ℕ) (most : ℕ) where
  -- a PAGE is in front of the records of the rest
  pub records-page : {w : Bool} {e p : ℕ} {c : Cursor} → head_of g s ≡ Ok (Page w e p c)
      → records_in (suc most) g s ≡ after (page e p (bytes_at c s)) (records_in most g (drop c.end s))
  unfolding records_in
  records-page q = rw q

  -- so is a BLOCK
  pub records-block : {e n : ℕ} {c : Cursor} → head_of g s ≡ Ok (Block e n c)
      → records_in (suc most) g s ≡ after (block e n (bytes_at c s)) (records_in most g (drop c.end s))
  unfolding records_in
  records-block q = rw q

  -- so is a STATE
  pub records-state : {e : ℕ} {c : Cursor} → head_of g s ≡ Ok (State e c)
      → records_in (suc most) g s ≡ after (state e (bytes_at c s)) (records_in most g (drop c.end s))
  unfolding records_in
  records-state q = rw q

  -- a COMMIT is the last, and the rest is left
  pub records-commit : {w : Bool} {e p b : ℕ} {c : Cursor} → head_of g s ≡ Ok (Commit w e p b c)
      → records_in (suc most) g s ≡ file_of (commit e p b ∷ []) (closed (drop c.end s))
  unfolding records_in
  records-commit q = rw q

  -- cut short, there is no record
  pub records-short : {n : ℕ} → head_of g s ≡ Err (Short n) → records_in (suc most) g s ≡ file_of [] (short n)
  unfolding records_in
  records-short q = rw q

  -- refused, there is none either
  pub records-refused : {n : ℕ} → head_of g s ≡ Err (Refused n) → records_in (suc most) g s ≡ file_of [] (refused n)
  unfolding records_in
  records-refused q = rw q

-- ---- the cases of a reading
-- at the head of s a record is read: x, of n bytes
pub record Reads (g : FileSettings) (s : List ℕ) (x : Message) (n : ℕ) : Type 0 where
  pub found : is_found (head_of g s) ≡ true
  pub message : message_of (head_of g s) s ≡ x
  pub used : used_of (head_of g s) ≡ n
  pub least : 8 ≤ n
  pub inside : n ≤ length s

-- what is shown for a record before the COMMIT, for a COMMIT, for cut short and for a refusal, is shown
pub read_step : (g : FileSettings) (s : List ℕ) (P : Type 0)
    → ((x : Message) (n : ℕ) → Before x → Reads g s x n → ((most : ℕ) → records_in (suc most) g s ≡ after x (records_in most g (drop n s))) → P)
    → ((e p b n : ℕ) → Reads g s (commit e p b) n → ((most : ℕ) → records_in (suc most) g s ≡ file_of (commit e p b ∷ []) (closed (drop n s))) → P)
    → ((n : ℕ) → head_of g s ≡ Err (Short n) → ((most : ℕ) → records_in (suc most) g s ≡ file_of [] (short n)) → P)
    → ((n : ℕ) → head_of g s ≡ Err (Refused n) → ((most : ℕ) → records_in (suc most) g s ≡ file_of [] (refused n)) → P)
    → P
read_step g s P more last cut refuse = go (head_of g s) refl
  where
    reads : (r : Result Record Unread) → head_of g s ≡ r → is_found r ≡ true → Reads g s (message_of r s) (used_of r)
    reads r q f =
        let found : is_found (head_of g s) ≡ true = ap is_found q ∙ f in
        let range = used-range g.u (is_wide g.m) s found in
        let used : used_of (head_of g s) ≡ used_of r = ap used_of q in
        record { found = found; message = ap (λ (x : Result Record Unread). message_of x s) q; used = used; least = omega arith; inside = omega arith }

    go : (r : Result Record Unread) → head_of g s ≡ r → P
    go (Ok (Page w e p c)) q = more (page e p (bytes_at c s)) c.end tt (reads (Ok (Page w e p c)) q refl) (λ most. records-page g s most q)
    go (Ok (Block e n c)) q = more (block e n (bytes_at c s)) c.end tt (reads (Ok (Block e n c)) q refl) (λ most. records-block g s most q)
    go (Ok (State e c)) q = more (state e (bytes_at c s)) c.end tt (reads (Ok (State e c)) q refl) (λ most. records-state g s most q)
    go (Ok (Commit w e p b c)) q = last e p b c.end (reads (Ok (Commit w e p b c)) q refl) (λ most. records-commit g s most q)
    go (Ok (Ack e c)) q = absurd (found-no-ack g.u (is_wide g.m) s e c q)
    go (Err (Short n)) q = cut n q (λ most. records-short g s most q)
    go (Err (Refused n)) q = refuse n q (λ most. records-refused g s most q)

-- ---- as many steps as bytes are enough
module _ (g : FileSettings) (v : unit_ok g.u ≡ true) where
  -- where no byte is, the reader says what the definition says with no step left
  records-none : (s : List ℕ) → length s ≤ 0 → (most : ℕ) → records_in most g s ≡ file_of [] (short header_length)
  unfolding records_in
  records-none s l zero = refl
  records-none [] l (suc most) = records-short g [] most (read_none (file_reader g) g.u v)
  records-none (x ∷ s) l (suc most) = absurd (omega arith)

  -- two numbers of steps, both enough, give the same
  enough : (s : List ℕ) (a b : ℕ) → length s ≤ a → length s ≤ b → records_in a g s ≡ records_in b g s
  enough s zero b k l = records-none s k zero ∙ sym (records-none s k b)
  enough s (suc a) zero k l = records-none s l (suc a) ∙ sym (records-none s l zero)
  enough s (suc a) (suc b) k l =
      read_step g s (records_in (suc a) g s ≡ records_in (suc b) g s)
      (λ x n i r step.
      let rest : records_in a g (drop n s) ≡ records_in b g (drop n s) = enough (drop n s) a b (simp length-drop (omega arith)) (simp length-drop (omega arith)) in
      step a ∙ ap (after x) rest ∙ sym (step b))
      (λ e p c n r step. step a ∙ sym (step b))
      (λ n q step. step a ∙ sym (step b))
      (λ n q step. step a ∙ sym (step b))

-- so any number of steps from there on gives the same
pub file-enough : (g : FileSettings) (s : List ℕ) (most : ℕ) → length s ≤ most → unit_ok g.u ≡ true → records_in most g s ≡ file_in g s
file-enough g s most l v = enough g v s most (length s) l (omega arith)

-- ---- the records of all bytes, by what is read at their head
module _ (g : FileSettings) (s : List ℕ) (v : unit_ok g.u ≡ true) where
  -- one step more than there are bytes
  one-step : (f : File) → records_in (suc (length s)) g s ≡ f → file_in g s ≡ f
  one-step f q = sym (file-enough g s (suc (length s)) (omega arith) v) ∙ q

  -- a record, then the records of the rest
  more-step : (x : Message) (n : ℕ) → records_in (suc (length s)) g s ≡ after x (records_in (length s) g (drop n s)) → file_in g s ≡ after x (file_in g (drop n s))
  more-step x n q =
      let rest : records_in (length s) g (drop n s) ≡ file_in g (drop n s) = file-enough g (drop n s) (length s) (simp length-drop (omega arith)) v in
      one-step (after x (file_in g (drop n s))) (q ∙ ap (after x) rest)

  -- a PAGE is in front of the records of the rest
  pub file-page : {w : Bool} {e p : ℕ} {c : Cursor} → head_of g s ≡ Ok (Page w e p c) → file_in g s ≡ after (page e p (bytes_at c s)) (file_in g (drop c.end s))
  file-page {w} {e} {p} {c} q = more-step (page e p (bytes_at c s)) c.end (records-page g s (length s) q)

  -- so is a BLOCK
  pub file-block : {e n : ℕ} {c : Cursor} → head_of g s ≡ Ok (Block e n c) → file_in g s ≡ after (block e n (bytes_at c s)) (file_in g (drop c.end s))
  file-block {e} {n} {c} q = more-step (block e n (bytes_at c s)) c.end (records-block g s (length s) q)

  -- so is a STATE
  pub file-state : {e : ℕ} {c : Cursor} → head_of g s ≡ Ok (State e c) → file_in g s ≡ after (state e (bytes_at c s)) (file_in g (drop c.end s))
  file-state {e} {c} q = more-step (state e (bytes_at c s)) c.end (records-state g s (length s) q)

  -- a COMMIT is the last, and the rest is left
  pub file-commit : {w : Bool} {e p b : ℕ} {c : Cursor} → head_of g s ≡ Ok (Commit w e p b c) → file_in g s ≡ file_of (commit e p b ∷ []) (closed (drop c.end s))
  file-commit q = one-step _ (records-commit g s (length s) q)

  -- cut short, there is no record
  pub file-short : {n : ℕ} → head_of g s ≡ Err (Short n) → file_in g s ≡ file_of [] (short n)
  file-short q = one-step _ (records-short g s (length s) q)

  -- refused, there is none either
  pub file-refused : {n : ℕ} → head_of g s ≡ Err (Refused n) → file_in g s ≡ file_of [] (refused n)
  file-refused q = one-step _ (records-refused g s (length s) q)

  -- all records before the COMMIT alike
  pub file-before : Before (message_of (head_of g s) s) → file_in g s ≡ after (message_of (head_of g s) s) (file_in g (drop (used_of (head_of g s)) s))
  file-before = go (head_of g s) refl
    where
      go : (r : Result Record Unread) → head_of g s ≡ r → Before (message_of r s) → file_in g s ≡ after (message_of r s) (file_in g (drop (used_of r) s))
      go (Ok (Page w e p c)) q i = file-page q
      go (Ok (Block e n c)) q i = file-block q
      go (Ok (State e c)) q i = file-state q
      go (Ok (Commit w e p b c)) q i = absurd i
      go (Ok (Ack e c)) q i = absurd i
      go (Err (Short n)) q i = absurd i
      go (Err (Refused n)) q i = absurd i

-- ---- induction over the records: what is shown for each, from the same of the rest, holds of all bytes
pub file-induction : (g : FileSettings) → unit_ok g.u ≡ true → (P : List ℕ → File → Type 0)
    → ((s : List ℕ) (x : Message) (n : ℕ) → Before x → Reads g s x n → P (drop n s) (file_in g (drop n s)) → P s (after x (file_in g (drop n s))))
    → ((s : List ℕ) (e p b n : ℕ) → Reads g s (commit e p b) n → P s (file_of (commit e p b ∷ []) (closed (drop n s))))
    → ((s : List ℕ) (n : ℕ) → head_of g s ≡ Err (Short n) → P s (file_of [] (short n)))
    → ((s : List ℕ) (n : ℕ) → head_of g s ≡ Err (Refused n) → P s (file_of [] (refused n)))
    → (s : List ℕ) → P s (file_in g s)
file-induction g v P more last cut refuse s = go (length s) s (omega arith)
  where
    at : (s : List ℕ) → ((t : List ℕ) → length t < length s → P t (file_in g t)) → P s (file_in g s)
    at s below =
        read_step g s (P s (file_in g s))
        (λ x n i r step.
        subst (P s) (sym (more-step g s v x n (step (length s)))) (more s x n i r (below (drop n s) (simp length-drop (omega arith)))))
        (λ e p b n r step. subst (P s) (sym (one-step g s v _ (step (length s)))) (last s e p b n r))
        (λ n q step. subst (P s) (sym (one-step g s v _ (step (length s)))) (cut s n q))
        (λ n q step. subst (P s) (sym (one-step g s v _ (step (length s)))) (refuse s n q))

    go : (most : ℕ) (s : List ℕ) → length s ≤ most → P s (file_in g s)
    go zero s l = at s (λ t k. absurd (omega arith))
    go (suc most) s l = at s (λ t k. go most t (omega arith))
