-- What records do to a checkpoint's images, and the epochs closed after a checkpoint. Assumes nothing.
use Prim.Native.Nat.{ℕ, suc}
use mathlib.Core.Path.{◌≡◌, refl, ap}
use mathlib.Core.Bool.{Bool, true}
use mathlib.Core.List.{List, [], ◌∷◌, ◌++◌}
use lib.ListN.{length}
use Rattle.lists.specs.Page.{with_page}
use Rattle.records.specs.declared.Reader.{Reader}
use Rattle.records.specs.declared.Reader.TheVariants as reader
use Rattle.records.specs.Kind.{is_for}
use Rattle.records.specs.Message.{Message, message_kind, Fits}
use Rattle.records.specs.Message as message
use Rattle.runs.specs.Plain.{Sent, Checkpoint}

-- ---- one record, and a list of them: the fold
abbrev pub effect : ℕ → Checkpoint → Message → Checkpoint
effect u c (message.page e p bs) = record { memory = with_page u c.memory p bs; disk = c.disk; processor = c.processor; packets = c.packets }
effect u c (message.block e n bs) = record { memory = c.memory; disk = with_page u c.disk n bs; processor = c.processor; packets = c.packets }
effect u c (message.state e bs) = record { memory = c.memory; disk = c.disk; processor = bs; packets = c.packets }
effect u c (message.commit e p b) = c
effect u c (message.ack e) = c

abbrev pub effects : ℕ → Checkpoint → List Message → Checkpoint
effects u c [] = c
effects u c (m ∷ ms) = effects u (effect u c m) ms

pub effects-append : (u : ℕ) (c : Checkpoint) (xs ys : List Message) → effects u c (xs ++ ys) ≡ effects u (effects u c xs) ys
effects-append u c [] ys = refl
effects-append u c (m ∷ xs) ys = effects-append u (effect u c m) xs ys

-- ---- a closed epoch: its records before the COMMIT, the COMMIT's numbers, and the packets accepted up to it
pub record Epoch : Type 0 where
  pub records : List Message
  pub number : ℕ
  pub pages : ℕ
  pub blocks : ℕ
  pub packets : List Sent

-- the checkpoint at its end
abbrev pub closed : ℕ → Checkpoint → Epoch → Checkpoint
closed u c x =
    let i = effects u c x.records in
    record { memory = i.memory; disk = i.disk; processor = i.processor; packets = x.packets }

-- the checkpoints after c, one at the end of each epoch, and the last of all
abbrev pub checkpoints_after : ℕ → Checkpoint → List Epoch → List Checkpoint
checkpoints_after u c [] = []
checkpoints_after u c (x ∷ xs) = closed u c x ∷ checkpoints_after u (closed u c x) xs

abbrev pub last_after : ℕ → Checkpoint → List Epoch → Checkpoint
last_after u c [] = c
last_after u c (x ∷ xs) = last_after u (closed u c x) xs

pub checkpoints-more : (u : ℕ) (c : Checkpoint) (xs : List Epoch) (x : Epoch)
    → checkpoints_after u c (xs ++ (x ∷ [])) ≡ checkpoints_after u c xs ++ (closed u (last_after u c xs) x ∷ [])
checkpoints-more u c [] x = refl
checkpoints-more u c (y ∷ xs) x = ap (λ (l : List Checkpoint). closed u c y ∷ l) (checkpoints-more u (closed u c y) xs x)

pub last_more : (u : ℕ) (c : Checkpoint) (xs : List Epoch) (x : Epoch) → last_after u c (xs ++ (x ∷ [])) ≡ closed u (last_after u c xs) x
last_more u c [] x = refl
last_more u c (y ∷ xs) x = last_more u (closed u c y) xs x

pub length-checkpoints : (u : ℕ) (c : Checkpoint) (xs : List Epoch) → length (checkpoints_after u c xs) ≡ length xs
length-checkpoints u c [] = refl
length-checkpoints u c (y ∷ xs) = ap suc (length-checkpoints u (closed u c y) xs)

-- ---- the records sent: of the closed epochs, each with its COMMIT, and of the open one
abbrev pub sent : List Epoch → List Message → List Message
sent [] open' = open'
sent (x ∷ xs) open' = x.records ++ (message.commit x.number x.pages x.blocks ∷ sent xs open')

-- ---- what holds of every record of a list
abbrev pub All : (Message → Type 0) → List Message → Type 0
All P [] = Unit {0}
All P (m ∷ ms) = P m × All P ms

pub all_append : (P : Message → Type 0) (xs ys : List Message) → All P xs → All P ys → All P (xs ++ ys)
all_append P [] ys f g = g
all_append P (m ∷ xs) ys f g = (f.0, all_append P xs ys f.1 g)

-- a record before the COMMIT: a PAGE, a BLOCK or a STATE
abbrev pub Before : Message → Type 0
Before (message.page e p bs) = Unit {0}
Before (message.block e n bs) = Unit {0}
Before (message.state e bs) = Unit {0}
Before (message.commit e p b) = ⊥
Before (message.ack e) = ⊥

abbrev pub AllBefore : List Epoch → Type 0
AllBefore [] = Unit {0}
AllBefore (x ∷ xs) = All Before x.records × AllBefore xs

-- a record that a reader reads back from its bytes
abbrev pub ReadableBy : Reader → ℕ → (wide : Bool) → Message → Type 0
ReadableBy reader u wide m = Fits u wide m × (is_for reader (message_kind wide m) ≡ true)

-- a standby of the same width
abbrev pub Readable : ℕ → (wide : Bool) → Message → Type 0
Readable u wide m = ReadableBy (reader.Standby wide) u wide m
