-- The bytes of the records of a file: what is read, written again, is the file up to its COMMIT, and what is written is
-- read back. Assumes nothing.
use Rattle.std.specs.Prelude.{Result}
use Prim.Native.Nat.{ℕ, ◌≤◌}
use mathlib.Core.Path.{◌≡◌, refl, sym, ap, ap₂, ◌∙◌, subst}
use mathlib.Core.Bool.{Bool, true}
use mathlib.Core.List.{List, [], ◌∷◌, ◌++◌, append_assoc, append-nil}
use native.Mathlib.Omega.{arith}
use lib.ListN.{length, take, drop, length-append, take-append-drop}
use lib.Seq.{drop_at}
use Rattle.records.specs.declared.Reader.TheVariants.{Standby}
use Rattle.records.specs.declared.Record.{Record}
use Rattle.records.specs.declared.Unread.{Unread}
use Rattle.records.specs.Kind.{unit_ok, is_wide}
use Rattle.records.specs.Read.{read_record, used_of}
use Rattle.records.specs.Message.{Message, page, block, state, commit, ack, message_kind, encode, encode_all, read_as}
use Rattle.records.proofs.KindLaws.{for-test, record-ge}
use Rattle.records.proofs.MessageLaws.{read-message, length-message, used-message, message-bytes}
use Rattle.runs.proofs.Effects.{All, Before, Readable}
use Rattle.checkpoints.specs.declared.FileSettings.{FileSettings}
use Rattle.checkpoints.specs.File.{File, closed, short, refused, file_of, after, file_in}
use Rattle.checkpoints.specs.Claims.{AreBytes}
use Rattle.checkpoints.proofs.ByteLaws.{message_of, read-encode, bytes_drop}
use Rattle.checkpoints.proofs.FileLaws.{Reads, file-commit, file-before, file-induction}

-- cut short is not closed, and so anything follows
short-not-closed : {A : Type 0} (n : ℕ) (rest : List ℕ) → short n ≡ closed rest → A
short-not-closed n rest q = let z : ◌≡◌ {A = ℕ} 0 1 = cc in absurd (omega arith)

-- nor is refused
refused-not-closed : {A : Type 0} (n : ℕ) (rest : List ℕ) → refused n ≡ closed rest → A
refused-not-closed n rest q = let z : ◌≡◌ {A = ℕ} 0 1 = cc in absurd (omega arith)

-- ---- one record
-- what is read is a record of the standby's width, and written again it is the bytes read
pub reads-again : (g : FileSettings) (s : List ℕ) (x : Message) (n : ℕ) → AreBytes s → Reads g s x n
    → (encode (is_wide g.m) x ≡ take n s) × Readable g.u (is_wide g.m) x
reads-again g s x n h r =
    let a = read-encode g.u (is_wide g.m) s h r.found in
    (ap (encode (is_wide g.m)) (sym r.message) ∙ a.0 ∙ ap (λ (k : ℕ). take k s) r.used, subst (Readable g.u (is_wide g.m)) r.message a.1)

-- ---- all records that are read
-- each is one that a standby of this width reads back
pub file-readable : (g : FileSettings) (s : List ℕ) → unit_ok g.u ≡ true → AreBytes s → All (Readable g.u (is_wide g.m)) (file_in g s).messages
file-readable g s v =
    file-induction g v (λ (t : List ℕ) (f : File). AreBytes t → All (Readable g.u (is_wide g.m)) f.messages)
    (λ t x n i r rest h. ((reads-again g t x n h r).1, rest (bytes_drop n t h)))
    (λ t e p b n r h. ((reads-again g t (commit e p b) n h r).1, tt))
    (λ t n q h. tt)
    (λ t n q h. tt)
    s

-- up to a COMMIT, written again they are the bytes read, and the rest is what the COMMIT leaves
pub file-encoded : (g : FileSettings) (s rest : List ℕ) → unit_ok g.u ≡ true → AreBytes s → (file_in g s).ending ≡ closed rest
    → encode_all (is_wide g.m) (file_in g s).messages ++ rest ≡ s
file-encoded g s rest v =
    let wide = is_wide g.m in
    file-induction g v (λ (t : List ℕ) (f : File). AreBytes t → f.ending ≡ closed rest → encode_all wide f.messages ++ rest ≡ t)
    (λ t x n i r below h q.
    append_assoc (encode wide x) (encode_all wide (file_in g (drop n t)).messages) rest
    ∙ ap₂ (λ (a b : List ℕ). a ++ b) (reads-again g t x n h r).0 (below (bytes_drop n t h) q)
    ∙ take-append-drop n t)
    last
    (λ t n q h z. short-not-closed n rest z)
    (λ t n q h z. refused-not-closed n rest z)
    s
  where
    last : (t : List ℕ) (e p b n : ℕ) → Reads g t (commit e p b) n → AreBytes t → closed (drop n t) ≡ closed rest
        → (encode (is_wide g.m) (commit e p b) ++ []) ++ rest ≡ t
    last t e p b n r h q =
        let same : drop n t ≡ rest = cc in
        rw (append-nil, ← same, (reads-again g t (commit e p b) n h r).0) (take-append-drop n t)

-- ---- the COMMIT is the last of them
-- these records are some before a COMMIT, then the COMMIT
pub record ClosedBy (ms : List Message) : Type 0 where
  pub before : List Message
  pub epoch : ℕ
  pub pages : ℕ
  pub blocks : ℕ
  pub are : ms ≡ before ++ (commit epoch pages blocks ∷ [])
  pub befores : All Before before

-- a file that is closed ends with a COMMIT, and none is before it
pub file-closed : (g : FileSettings) (s rest : List ℕ) → unit_ok g.u ≡ true → (file_in g s).ending ≡ closed rest → ClosedBy (file_in g s).messages
file-closed g s rest v =
    file-induction g v (λ (t : List ℕ) (f : File). f.ending ≡ closed rest → ClosedBy f.messages)
    (λ t x n i r below q.
    let c = below q in
    record { before = x ∷ c.before; epoch = c.epoch; pages = c.pages; blocks = c.blocks; are = ap (λ (l : List Message). x ∷ l) c.are; befores = (i, c.befores) })
    (λ t e p b n r q. record { before = []; epoch = e; pages = p; blocks = b; are = refl; befores = tt })
    (λ t n q z. short-not-closed n rest z)
    (λ t n q z. refused-not-closed n rest z)
    s

-- ---- what is written is read back
-- a message is what is read from its bytes, whatever follows
pub message-read : (u : ℕ) (wide : Bool) → unit_ok u ≡ true → (m : Message) → Readable u wide m → (rest : List ℕ)
    → message_of (read_record (Standby wide) u (encode wide m ++ rest)) (encode wide m ++ rest) ≡ m
message-read u wide v m f rest =
    ap (λ (r : Result Record Unread). message_of r (encode wide m ++ rest)) (read-message (Standby wide) u v wide m f.0 f.1 rest) ∙ same m f
  where
    same : (m : Message) → Readable u wide m → message_of (read_as u wide m) (encode wide m ++ rest) ≡ m
    same (page e p bs) f = ap (page e p) (message-bytes u wide (page e p bs) f.0 rest)
    same (block e n bs) f = ap (block e n) (message-bytes u wide (block e n bs) f.0 rest)
    same (state e bs) f = ap (state e) (message-bytes u wide (state e bs) f.0 rest)
    same (commit e p b) f = refl
    same (ack e) f = refl

-- and what follows is what is behind them
pub message-rest : (u : ℕ) (wide : Bool) → unit_ok u ≡ true → (m : Message) → Readable u wide m → (rest : List ℕ)
    → drop (used_of (read_record (Standby wide) u (encode wide m ++ rest))) (encode wide m ++ rest) ≡ rest
message-rest u wide v m f rest =
    let used : used_of (read_record (Standby wide) u (encode wide m ++ rest)) ≡ length (encode wide m)
    = ap used_of (read-message (Standby wide) u v wide m f.0 f.1 rest) ∙ used-message u wide m f.0 in
    drop_at (encode wide m) rest _ (sym used)

-- a message has 8 bytes or more
pub encode-least : (u : ℕ) (wide : Bool) (m : Message) → Readable u wide m → 8 ≤ length (encode wide m)
encode-least u wide m f =
    let kind = message_kind wide m in
    omega (arith, length-message u wide m f.0, record-ge u kind (for-test (Standby wide) kind f.1))

-- so it is not empty
encode-some : (u : ℕ) (wide : Bool) (m : Message) → Readable u wide m → (rest : List ℕ) → encode wide m ++ rest ≡ [] → ⊥
encode-some u wide m f rest q = omega (arith, encode-least u wide m f, simp length-append at (ap length q))

-- messages are known by their bytes
pub encode_injective : (u : ℕ) (wide : Bool) → unit_ok u ≡ true → (xs ys : List Message) → All (Readable u wide) xs → All (Readable u wide) ys
    → encode_all wide xs ≡ encode_all wide ys → xs ≡ ys
encode_injective u wide v [] [] f h q = refl
encode_injective u wide v [] (y ∷ ys) f h q = absurd (encode-some u wide y h.0 (encode_all wide ys) (sym q))
encode_injective u wide v (x ∷ xs) [] f h q = absurd (encode-some u wide x f.0 (encode_all wide xs) q)
encode_injective u wide v (x ∷ xs) (y ∷ ys) f h q =
    let head : x ≡ y
    = sym (message-read u wide v x f.0 (encode_all wide xs))
    ∙ ap (λ (t : List ℕ). message_of (read_record (Standby wide) u t) t) q
    ∙ message-read u wide v y h.0 (encode_all wide ys) in
    let rest : encode_all wide xs ≡ encode_all wide ys
    = sym (message-rest u wide v x f.0 (encode_all wide xs))
    ∙ ap (λ (t : List ℕ). drop (used_of (read_record (Standby wide) u t)) t) q
    ∙ message-rest u wide v y h.0 (encode_all wide ys) in
    ap₂ (λ (m : Message) (ms : List Message). m ∷ ms) head (encode_injective u wide v xs ys f.1 h.1 rest)

-- ---- a file of these bytes
module _ (g : FileSettings) (v : unit_ok g.u ≡ true) where
  -- a record before the COMMIT is read, then what follows it
  pub file-message : (x : Message) (rest : List ℕ) → Before x → Readable g.u (is_wide g.m) x → file_in g (encode (is_wide g.m) x ++ rest) ≡ after x (file_in g rest)
  file-message x rest i f =
      let wide = is_wide g.m in
      let message = message-read g.u wide v x f rest in
      file-before g (encode wide x ++ rest) v (subst Before (sym message) i)
      ∙ ap₂ (λ (m : Message) (t : List ℕ). after m (file_in g t)) message (message-rest g.u wide v x f rest)

  -- a COMMIT is the last that is read
  pub file-end : (e p b : ℕ) (rest : List ℕ) → Readable g.u (is_wide g.m) (commit e p b)
      → file_in g (encode (is_wide g.m) (commit e p b) ++ rest) ≡ file_of (commit e p b ∷ []) (closed rest)
  file-end e p b rest f =
      let wide = is_wide g.m in
      let m = commit e p b in
      file-commit g (encode wide m ++ rest) v (read-message (Standby wide) g.u v wide m f.0 f.1 rest)
      ∙ ap (λ (t : List ℕ). file_of (m ∷ []) (closed t)) (drop_at (encode wide m) rest _ (length-message g.u wide m f.0))

  -- so records up to a COMMIT are read back, and the rest stays
  pub file-of : (xs : List Message) (e p b : ℕ) (rest : List ℕ) → All Before xs → All (Readable g.u (is_wide g.m)) (xs ++ (commit e p b ∷ []))
      → file_in g (encode_all (is_wide g.m) (xs ++ (commit e p b ∷ [])) ++ rest) ≡ file_of (xs ++ (commit e p b ∷ [])) (closed rest)
  file-of [] e p b rest i f = rw append-nil (file-end e p b rest f.0)
  file-of (x ∷ xs) e p b rest i f =
      let wide = is_wide g.m in
      let behind = encode_all wide (xs ++ (commit e p b ∷ [])) in
      rw (append_assoc (encode wide x) behind rest) (file-message x (behind ++ rest) i.0 f.0 ∙ ap (after x) (file-of xs e p b rest i.1 f.1))
