-- What the records of a checkpoint carry: the pages and blocks that they name, with the last bytes of each, and the
-- processor state (document 02, Job 14). Assumes nothing.
use Rattle.std.specs.Prelude.{ℕ, ◌≡◌, Bool, true, false, cond, ◌||◌, List, [], ◌∷◌, eqb}
use Rattle.records.specs.Message.{Message, page, block, state, commit, ack, bytes_of}

-- a PAGE of page p, a BLOCK of block n, a STATE
abbrev pub is_page : ℕ → Message → Bool
is_page p (page e q bs) = eqb q p
is_page p (block e n bs) = false
is_page p (state e bs) = false
is_page p (commit e q b) = false
is_page p (ack e) = false

abbrev pub is_block : ℕ → Message → Bool
is_block n (page e p bs) = false
is_block n (block e k bs) = eqb k n
is_block n (state e bs) = false
is_block n (commit e p b) = false
is_block n (ack e) = false

abbrev pub is_state : Message → Bool
is_state (page e p bs) = false
is_state (block e n bs) = false
is_state (state e bs) = true
is_state (commit e p b) = false
is_state (ack e) = false

-- one of the records passes a test
unfoldable pub named : (Message → Bool) → List Message → Bool
named f [] = false
named f (x ∷ xs) = f x || named f xs

-- the bytes of the last that does, and `bs` where none does
unfoldable pub last_of : (Message → Bool) → (bs : List ℕ) → List Message → List ℕ
last_of f bs [] = bs
last_of f bs (x ∷ xs) = last_of f (cond (f x) (bytes_of x) bs) xs

-- "they name the same pages and blocks with the same last bytes and carry the same processor state"
pub record SameContent (xs ys : List Message) : Type 0 where
  pub pages : (p : ℕ) → named (is_page p) xs ≡ named (is_page p) ys
  pub page_bytes : (p : ℕ) → last_of (is_page p) [] xs ≡ last_of (is_page p) [] ys
  pub blocks : (n : ℕ) → named (is_block n) xs ≡ named (is_block n) ys
  pub block_bytes : (n : ℕ) → last_of (is_block n) [] xs ≡ last_of (is_block n) [] ys
  pub processor : last_of is_state [] xs ≡ last_of is_state [] ys
