-- Laws of the staged blocks as a list: what each change of the slots does to it. Assumes nothing.
use mathlib.Core.Path.{◌≡◌, refl, sym, ap, ◌∙◌}
use mathlib.Core.List.{List, [], ◌∷◌, ◌++◌}
use Prim.Native.Nat.{ℕ, zero, suc, ◌+◌, ◌-◌, ◌*◌, ◌≤◌}
use native.Mathlib.Nat.{suc-mul, zero-mul, mul-le-mul_right, add-mul, add_comm}
use native.Mathlib.Numerals.{add-one}
use native.Mathlib.Omega.{arith}
use lib.ListN.{length, take, drop, length-drop}
use lib.Seq.{take-take, take_all, take-append-le, drop-drop, length-take-le}
use Rattle.lists.specs.Part.{part}
use Rattle.lists.specs.Page.{page, with_page}
use Rattle.lists.proofs.PartLaws.{drop-take, take_put, drop-put, length_removed, take-removed}
use Rattle.lists.proofs.PageLaws.{page-with-same}
use Rattle.settings.specs.Range.{most_slots}
use Rattle.staging.specs.declared.Slots.{Slots}
use Rattle.staging.specs.Slot.{slot_for, with_block, with_block_bytes, all_due, only_due, flushed, flushed_bytes}
use Rattle.staging.specs.Fits.{StageFits}
use Rattle.staging.specs.SlotList.{staged_from, slot_list, due_list}
use Rattle.staging.proofs.SlotLaws.{numbers-rest}
use Rattle.staging.proofs.BlockLaws.{slot-not-due, slot-high, due-same, numbers-with-block}

module _ (u : ℕ) where
  -- ---- blocks with these numbers, whose bytes stand in s
  pub length-staged : (ns s : List ℕ) → length (staged_from u ns s) ≡ length ns
  unfolding staged_from
  length-staged [] s = refl
  length-staged (n ∷ ns) s = ap suc (length-staged ns (drop u s))

  pub staged-append : (a b s : List ℕ) → staged_from u (a ++ b) s ≡ staged_from u a s ++ staged_from u b (drop (length a * u) s)
  unfolding staged_from
  staged-append [] b s = rw zero-mul
  staged-append (n ∷ a) b s =
      let e : drop (length a * u) (drop u s) ≡ drop (suc (length a) * u) s = drop-drop (length a * u) u s ∙ rw (suc-mul, add_comm u (length a * u)) in
      rw (staged-append a b (drop u s), e)

  pub take-staged : (c : ℕ) (ns s : List ℕ) → take c (staged_from u ns s) ≡ staged_from u (take c ns) s
  unfolding staged_from
  take-staged zero ns s = refl
  take-staged (suc c) [] s = refl
  take-staged (suc c) (n ∷ ns) s = rw (take-staged c ns (drop u s))

  pub drop-staged : (c : ℕ) (ns s : List ℕ) → drop c (staged_from u ns s) ≡ staged_from u (drop c ns) (drop (c * u) s)
  unfolding staged_from
  drop-staged zero ns s = rw zero-mul
  drop-staged (suc c) [] s = refl
  drop-staged (suc c) (n ∷ ns) s =
      let e : drop (c * u) (drop u s) ≡ drop (suc c * u) s = drop-drop (c * u) u s ∙ rw (suc-mul, add_comm u (c * u)) in
      drop-staged c ns (drop u s) ∙ rw e

  -- only the bytes of these blocks count
  pub staged-same : (ns s t : List ℕ) → take (length ns * u) s ≡ take (length ns * u) t → staged_from u ns s ≡ staged_from u ns t
  unfolding staged_from
  staged-same [] s t e = refl
  staged-same (n ∷ ns) s t e =
      let m : suc (length ns) * u ≡ length ns * u + u = suc-mul (length ns) u in
      let le : u ≤ suc (length ns) * u = omega arith in
      let o : suc (length ns) * u - u ≡ length ns * u = omega arith in
      let first : take u s ≡ take u t = sym (take-take u (suc (length ns) * u) s le) ∙ ap (take u) e ∙ take-take u (suc (length ns) * u) t le in
      let rest : take (length ns * u) (drop u s) ≡ take (length ns * u) (drop u t) =
      rw o at (sym (drop-take u (suc (length ns) * u) s) ∙ ap (drop u) e ∙ drop-take u (suc (length ns) * u) t) in
      rw (first, staged-same ns (drop u s) (drop u t) rest)

  -- one block and its bytes put at place i, which may be behind all
  pub staged-put : (ns s : List ℕ) (i n : ℕ) (block : List ℕ) → i ≤ length ns → length block ≡ u → i * u + u ≤ length s
      → staged_from u (take i ns ++ (n ∷ drop (i + 1) ns)) (with_page u s i block)
      ≡ take i (staged_from u ns s) ++ (record { number = n; bytes = block } ∷ drop (i + 1) (staged_from u ns s))
  unfolding staged_from with_page page part
  staged-put ns s i n block h size room =
      let t = with_page u s i block in
      let m : length (take i ns) ≡ i = length-take-le i ns h in
      let before : take (i * u) t ≡ take (i * u) s = take_put s (i * u) block (omega arith) in
      let front : staged_from u (take i ns) t ≡ take i (staged_from u ns s) = staged-same (take i ns) t s (rw m before) ∙ sym (take-staged i ns s) in
      let there : take u (drop (i * u) t) ≡ block = page-with-same u i s block size room in
      let next : (i + 1) * u ≡ i * u + length block = ap (λ (j : ℕ). j * u) (add-one i) ∙ suc-mul i u ∙ omega arith in
      let rest : drop u (drop (i * u) t) ≡ drop ((i + 1) * u) s = drop-drop u (i * u) t ∙ ap (λ (j : ℕ). drop (i * u + j) t) (sym size) ∙ drop-put s (i * u) block (omega arith) ∙ rw next in
      let behind : staged_from u (drop (i + 1) ns) (drop u (drop (i * u) t)) ≡ drop (i + 1) (staged_from u ns s) = ap (staged_from u (drop (i + 1) ns)) rest ∙ sym (drop-staged (i + 1) ns s) in
      rw (staged-append (take i ns) (n ∷ drop (i + 1) ns) t, m, front, there, behind)

  -- ---- the list of the slots
  module _ (k : Slots) (slots : List ℕ) where
    pub slot-count : k.staged ≤ length k.numbers → length (slot_list u k slots) ≡ k.staged
    unfolding slot_list
    slot-count h = length-staged (take k.staged k.numbers) slots ∙ length-take-le k.staged k.numbers h

    -- "makes the epoch's staged blocks due"
    pub list-all-due : slot_list u (all_due k) slots ≡ slot_list u k slots
    unfolding slot_list all_due
    list-all-due = refl

    pub due-all-due : k.staged ≤ length k.numbers → due_list u (all_due k) slots ≡ slot_list u k slots
    unfolding due_list all_due
    due-all-due h = ap (take k.staged) list-all-due ∙ take_all k.staged (slot_list u k slots) (omega (arith, slot-count h))

    -- "staged pages and blocks not yet due are dropped"
    pub list-only-due : k.due ≤ k.staged → slot_list u (only_due k) slots ≡ due_list u k slots
    unfolding slot_list due_list only_due
    list-only-due h =
        sym
        (take-staged k.due (take k.staged k.numbers) slots ∙ ap (λ (ns : List ℕ). staged_from u ns slots) (take-take k.due k.staged k.numbers h))

    pub due-only-due : k.due ≤ k.staged → due_list u (only_due k) slots ≡ due_list u k slots
    unfolding due_list only_due
    due-only-due h = ap (take k.due) (list-only-due h) ∙ take-take k.due k.due (slot_list u k slots) (omega arith)

    -- ---- the first of them
    pub take-slot-list : (c : ℕ) → c ≤ k.staged → take c (slot_list u k slots) ≡ staged_from u (take c k.numbers) slots
    unfolding slot_list
    take-slot-list c h = take-staged c (take k.staged k.numbers) slots ∙ ap (λ (ns : List ℕ). staged_from u ns slots) (take-take c k.staged k.numbers h)

    pub take-due-list : (c : ℕ) → c ≤ k.due → take c (due_list u k slots) ≡ take c (slot_list u k slots)
    unfolding due_list
    take-due-list c h = take-take c k.due (slot_list u k slots) h

    -- ---- a block staged: it stands at its slot, and all others stay
    module _ (n : ℕ) (block : List ℕ) (array : length k.numbers ≡ most_slots) (fits : StageFits k n) (size : length block ≡ u) (room : slot_for k n * u + u ≤ length slots) where
      pub list-with-block : slot_list u (with_block k n) (with_block_bytes u k n slots block)
          ≡ take (slot_for k n) (slot_list u k slots) ++ (record { number = n; bytes = block } ∷ drop (slot_for k n + 1) (slot_list u k slots))
      unfolding slot_list with_block_bytes
      list-with-block =
          let ns = take k.staged k.numbers in
          let m : length ns ≡ k.staged = length-take-le k.staged k.numbers (omega (arith, fits.few)) in
          let high = slot-high k n array fits.due_high fits.few in
          rw (numbers-with-block k n array fits.due_high fits.few fits.slot_low) (staged-put ns slots (slot_for k n) n block (omega arith) size room)

      -- due slots stay
      pub due-with-block : due_list u (with_block k n) (with_block_bytes u k n slots block) ≡ due_list u k slots
      unfolding due_list
      due-with-block =
          let l = slot_list u k slots in
          let low = slot-not-due k n in
          let c = slot-count (omega (arith, fits.few)) in
          let high = slot-high k n array fits.due_high fits.few in
          ap (λ (i : ℕ). take i (slot_list u (with_block k n) (with_block_bytes u k n slots block))) (due-same k n)
          ∙ ap (take k.due) list-with-block
          ∙ take-append-le k.due (take (slot_for k n) l) _ (omega (arith, length-take-le (slot_for k n) l (omega arith)))
          ∙ take-take k.due (slot_for k n) l low

    -- ---- a flush: the first of them are gone
    module _ (array : length k.numbers ≡ most_slots) (count : ℕ) (h : count ≤ k.staged) (few : k.staged ≤ most_slots) (room : k.staged * u ≤ length slots) where
      rest-bytes : (k.staged - count) * u ≡ k.staged * u - count * u
      rest-bytes =
          let e : k.staged - count + count ≡ k.staged = omega arith in
          let m = add-mul (k.staged - count) count u in
          let t : (k.staged - count + count) * u ≡ k.staged * u = rw e in
          omega arith

      -- "What .. flush leaves waiting moves to the front of its buffer in order"
      pub bytes-front : take ((k.staged - count) * u) (flushed_bytes u k count slots) ≡ drop (count * u) (take (k.staged * u) slots)
      unfolding flushed_bytes
      bytes-front = rw rest-bytes (take-removed (count * u) (k.staged * u) slots (mul-le-mul_right u h) room)

      pub length-bytes : length (flushed_bytes u k count slots) ≡ length slots
      unfolding flushed_bytes
      length-bytes = length_removed 0 (count * u) (k.staged * u) slots (omega (arith, mul-le-mul_right u h)) room

      pub list-flushed : slot_list u (flushed k count) (flushed_bytes u k count slots) ≡ drop count (slot_list u k slots)
      unfolding slot_list
      list-flushed =
          let ns = take k.staged k.numbers in
          let m : length (drop count ns) ≡ k.staged - count = length-drop count ns ∙ ap (λ (i : ℕ). i - count) (length-take-le k.staged k.numbers (omega arith)) in
          rw (numbers-rest k array count h few, drop-staged count ns slots)
          (staged-same (drop count ns) (flushed_bytes u k count slots) (drop (count * u) slots)
          (rw m (bytes-front ∙ rw (drop-take (count * u) (k.staged * u) slots, rest-bytes))))

      pub due-flushed : due_list u (flushed k count) (flushed_bytes u k count slots) ≡ drop count (due_list u k slots)
      unfolding due_list flushed
      due-flushed = ap (take (k.due - count)) list-flushed ∙ sym (drop-take count k.due (slot_list u k slots))
