-- What the standby counts of the records that it is given, and lists of records of which each is the one asked for. Assumes nothing.
use Prim.Native.Nat.{ℕ, ◌+◌, ◌≤◌, ◌<◌}
use mathlib.Core.Path.{◌≡◌, sym, subst}
use mathlib.Core.Bool.{Bool, true, false}
use mathlib.Core.List.{List, [], ◌∷◌, ◌++◌}
use lib.ListN.{length}
use Rattle.lists.specs.Select.{is_in}
use Rattle.lists.proofs.SelectLaws.{with_number}
use Rattle.records.specs.Message.{Message}
use Rattle.records.specs.Message as message
use Rattle.settings.specs.declared.Settings.{Settings}
use Rattle.staging.specs.Slot.{fresh_numbers}
use Rattle.rules.specs.declared.Standby.{Standby}
use Rattle.rules.specs.Blocks.{block_allowed}

-- the epoch asked for, and of it the different blocks that came, in the order of their first BLOCKs, the BLOCKs, the
-- pages, the least page that may come next, and whether STATE came
pub record Counts : Type 0 where
  pub epoch : ℕ
  pub numbers : List ℕ
  pub records : ℕ
  pub pages : ℕ
  pub next : ℕ
  pub seen : Bool

abbrev pub counts_of : Standby → Counts
counts_of s = record { epoch = s.received + 1; numbers = fresh_numbers s.slots; records = s.records; pages = s.pages; next = s.next; seen = s.seen }

-- these blocks of an epoch came, with so many BLOCKs, and nothing else of it
abbrev pub blocks_only : ℕ → List ℕ → ℕ → Counts
blocks_only epoch numbers records = record { epoch = epoch; numbers = numbers; records = records; pages = 0; next = 0; seen = false }

-- everything that is asked of a record but a free slot and room for the ACK
abbrev pub Asked : Settings → Counts → Message → Type 0
Asked g c (message.page e p bs) = (p < g.m) × (e ≡ c.epoch) × (c.next ≤ p) × (c.seen ≡ false)
Asked g c (message.block e n bs) = (n < g.d) × (e ≡ c.epoch) × (c.next ≡ 0) × (c.seen ≡ false) × (block_allowed (is_in n c.numbers) g.b (length c.numbers) c.records ≡ true)
Asked g c (message.state e bs) = (e ≡ c.epoch) × (c.seen ≡ false)
Asked g c (message.commit e p b) = (e ≡ c.epoch) × (c.seen ≡ true) × (p ≡ c.pages) × (b ≡ c.records)
Asked g c (message.ack e) = ⊥

abbrev pub counted : Counts → Message → Counts
counted c (message.page e p bs) = record { epoch = c.epoch; numbers = c.numbers; records = c.records; pages = c.pages + 1; next = p + 1; seen = c.seen }
counted c (message.block e n bs) = record { epoch = c.epoch; numbers = with_number n c.numbers; records = c.records + 1; pages = c.pages; next = c.next; seen = c.seen }
counted c (message.state e bs) = record { epoch = c.epoch; numbers = c.numbers; records = c.records; pages = c.pages; next = c.next; seen = true }
counted c (message.commit e p b) = blocks_only (e + 1) [] 0
counted c (message.ack e) = c

-- the records lead from these counts to those, each as it is asked
abbrev pub Walk : Settings → Counts → List Message → Counts → Type 0
Walk g c [] d = c ≡ d
Walk g c (m ∷ ms) d = Asked g c m × Walk g (counted c m) ms d

pub walk-append : (g : Settings) (c : Counts) (xs : List Message) (d : Counts) (ys : List Message) (e : Counts) → Walk g c xs d → Walk g d ys e → Walk g c (xs ++ ys) e
walk-append g c [] d ys e f h = subst (λ (x : Counts). Walk g x ys e) (sym f) h
walk-append g c (m ∷ xs) d ys e f h = (f.0, walk-append g (counted c m) xs d ys e f.1 h)
