-- A record that is asked for is refused for a reply without room or for slots that are all staged, and for nothing else. Assumes nothing.
use Prim.Native.Nat.{ℕ, ◌+◌, ◌≤◌, ◌<◌}
use mathlib.Core.Path.{◌≡◌, refl, ap, ◌∙◌}
use mathlib.Core.Bool.{Bool, true, false, cond, ◌||◌, not}
use mathlib.Core.List.{List, [], ◌∷◌}
use native.Mathlib.Omega.{arith}
use lib.Dec.{leb, ltb, eqb}
use lib.ListN.{length}
use borrow.Author.Tests.{ltb-true, ltb-false, lt-ltb, eq-eqb}
use Rattle.lists.specs.Refusal.{test, refusal}
use Rattle.lists.proofs.TestLaws.{agree}
use Rattle.records.specs.Kind.{BLOCK, ACK, is_commit, body_length, record_length}
use Rattle.records.proofs.KindLaws.{page-no-commit, commit-is-commit, page-no-block, commit-no-block}
use Rattle.records.specs.Number.{no_room, slots_full}
use Rattle.records.specs.Message.{Message, message_kind, read_as}
use Rattle.records.specs.Message as message
use Rattle.settings.specs.declared.Settings.{Settings}
use Rattle.settings.specs.declared.StandbySettings.{StandbySettings}
use Rattle.settings.specs.Range.{of_standby}
use Rattle.staging.specs.declared.Slots.{Slots}
use Rattle.staging.specs.Slot.{fresh_numbers, is_staged}
use Rattle.rules.specs.declared.Standby.{Standby}
use Rattle.rules.specs.Blocks.{block_allowed}
use Rattle.rules.specs.Judge.{free_for, block_refusal, commit_refusal, record_refusal}
use Rattle.rules.proofs.BlocksLaws.{BlockRoom, block_room, block-allowed}
use Rattle.rules.proofs.JudgeLaws.{page-accepts, state-accepts}
use Rattle.runs.proofs.Walk.{counts_of, Asked}

-- the number of a whole record of a kind, which names a block where it is a BLOCK: the last two tests of `read_number`
abbrev pub kind_number : Settings → Slots → ℕ → ℕ → ℕ → ℕ
kind_number g k reply kind block =
    refusal (test no_room (not (is_commit kind) || leb (record_length g.u ACK) reply) ∷ test slots_full (not (eqb kind BLOCK) || is_staged k block || ltb k.staged g.s) ∷ [])

-- the block that a record names
abbrev pub Names : Message → ℕ → Type 0
Names (message.page e p bs) block = Unit {0}
Names (message.block e n bs) block = block ≡ n
Names (message.state e bs) block = Unit {0}
Names (message.commit e p b) block = Unit {0}
Names (message.ack e) block = Unit {0}

module _ (g : Settings) (s : Standby) (same : s.settings ≡ of_standby g) (few : s.pages ≤ s.next) (count : length (fresh_numbers s.slots) ≡ s.blocks) where
  slot-test : ltb 0 (free_for s) ≡ ltb s.slots.staged g.s
  slot-test =
      let k = ap (λ (x : StandbySettings). x.s) same in
      agree _ _
      (λ (z : ltb 0 (free_for s) ≡ true). lt-ltb s.slots.staged g.s (let h = ltb-true 0 (free_for s) z in omega arith))
      (λ (z : ltb s.slots.staged g.s ≡ true). lt-ltb 0 (free_for s) (let h = ltb-true s.slots.staged g.s z in omega arith))

  -- a block that is asked for may come
  asked-room : (e n : ℕ) (bs : List ℕ) → Asked g (counts_of s) (message.block e n bs) → BlockRoom (is_staged s.slots n) g.b s.blocks s.records
  asked-room e n bs a =
      let r = block_room (is_staged s.slots n) g.b (length (fresh_numbers s.slots)) s.records a.4 in
      record { records-low = r.records-low; blocks-low = λ z. omega (arith, r.blocks-low z) }

  block-number : (e n : ℕ) (bs : List ℕ) → Asked g (counts_of s) (message.block e n bs) → block_refusal s (free_for s) e n ≡ cond (is_staged s.slots n || ltb s.slots.staged g.s) 0 slots_full
  unfolding block_refusal
  block-number e n bs a =
      let d = ap (λ (x : StandbySettings). x.d) same in
      let b = ap (λ (x : StandbySettings). x.b) same in
      let allowed : block_allowed (is_staged s.slots n) s.settings.b s.blocks s.records ≡ true
      = ap (λ (m : ℕ). block_allowed (is_staged s.slots n) m s.blocks s.records) b ∙ block-allowed (is_staged s.slots n) g.b s.blocks s.records (asked-room e n bs a) in
      rw (lt-ltb n s.settings.d (omega (arith, a.0)), eq-eqb e (s.received + 1) a.1, eq-eqb s.next 0 a.2, eq-eqb s.pages 0 (omega (arith, a.2)), a.3, allowed)
      (ap (λ (t : Bool). cond (is_staged s.slots n || t) 0 slots_full) slot-test)

  commit-number : (reply e p b : ℕ) → Asked g (counts_of s) (message.commit e p b) → commit_refusal s reply e p b ≡ cond (leb (record_length g.u ACK) reply) 0 no_room
  unfolding commit_refusal record_length body_length
  commit-number reply e p b a = rw (eq-eqb e (s.received + 1) a.0, a.1, eq-eqb p s.pages a.2, eq-eqb b s.records a.3)

  pub asked-number : (reply : ℕ) (wide : Bool) (x : Message) (block : ℕ) → Names x block → Asked g (counts_of s) x
      → record_refusal s reply (read_as s.settings.u wide x) ≡ kind_number g s.slots reply (message_kind wide x) block
  asked-number reply wide (message.page e p bs) block z a =
      let m = ap (λ (x : StandbySettings). x.m) same in
      rw (page-no-commit wide, page-no-block wide)
      (page-accepts s e p (record { page-low = omega (arith, a.0); epoch-next = a.1; rising = a.2; not-below = omega (arith, a.2); before-state = a.3 }))
  asked-number reply wide (message.block e n bs) block z a = rw z (block-number e n bs a)
  asked-number reply wide (message.state e bs) block z a = state-accepts s e (record { epoch-next = a.0; first = a.1 })
  asked-number reply wide (message.commit e p b) block z a = rw (commit-is-commit wide, commit-no-block wide) (commit-number reply e p b a)
  asked-number reply wide (message.ack e) block z a = absurd a

  -- 17: a BLOCK that the epoch does not have, so that it has fewer than B
  pub asked-full : (reply : ℕ) (wide : Bool) (x : Message) (block : ℕ) → Names x block → Asked g (counts_of s) x → kind_number g s.slots reply (message_kind wide x) block ≡ slots_full
      → (g.s ≤ s.slots.staged) × (s.blocks < g.b)
  asked-full reply wide (message.page e p bs) block n a z = let none : 0 ≡ slots_full = rw (page-no-commit wide, page-no-block wide) at z in absurd (omega arith)
  asked-full reply wide (message.block e n bs) block q a z =
      let t = slot (is_staged s.slots n) (ltb s.slots.staged g.s) (rw q at z) in
      (ltb-false s.slots.staged g.s t.1, (asked-room e n bs a).blocks-low t.0)
    where
      slot : (f t : Bool) → cond (f || t) 0 slots_full ≡ slots_full → (f ≡ false) × (t ≡ false)
      slot true t z = absurd (omega arith)
      slot false true z = absurd (omega arith)
      slot false false z = (refl, refl)
  asked-full reply wide (message.state e bs) block n a z = absurd (omega arith)
  asked-full reply wide (message.commit e p b) block n a z = absurd (room (leb (record_length g.u ACK) reply) (rw (commit-is-commit wide, commit-no-block wide) at z))
    where
      room : (t : Bool) → cond t 0 no_room ≡ slots_full → ⊥
      room true z = omega arith
      room false z = omega arith
  asked-full reply wide (message.ack e) block n a z = absurd a
