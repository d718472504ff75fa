-- What holds as a file is gone through: of what is kept, by the records so far; at the start, and with one record more.
-- Assumes nothing.
use Rattle.std.specs.Prelude.{Result, Ok, Err}
use mathlib.Core.Path.{◌≡◌, refl, sym, ap, ◌∙◌, subst}
use mathlib.Core.Bool.{true, false, false≢true}
use mathlib.Core.Logic.{⊎_elim}
use mathlib.Core.List.{List, [], ◌∷◌, ◌++◌, append_assoc}
use Prim.Native.Nat.{ℕ, ◌+◌, ◌-◌, ◌≤◌, ◌<◌}
use native.Mathlib.Omega.{arith}
use lib.Dec.{ltb, eqb}
use lib.ListN.{length, take, drop, get_or, set, length-set, length-drop}
use lib.Seq.{drop-drop}
use borrow.Author.Tests.{eq-eqb, ne_eqb}
use Rattle.lists.specs.Part.{part}
use Rattle.lists.specs.Select.{is_in}
use Rattle.lists.proofs.TestLaws.{by-test, eq-or-ne, cond-true, cond-false}
use Rattle.lists.proofs.SelectLaws.{in-none}
use Rattle.records.specs.declared.Cursor.{Cursor}
use Rattle.records.specs.declared.Record.{Record}
use Rattle.records.specs.declared.Unread.{Unread}
use Rattle.records.specs.declared.Record.TheVariants.{Page, Block, State, Commit, Ack}
use Rattle.records.specs.declared.Unread.TheVariants.{Short, Refused}
use Rattle.records.specs.Kind.{unit_ok, is_wide}
use Rattle.records.specs.Read.{used_of}
use Rattle.records.specs.Message.{Message, page, block, state, bytes_of}
use Rattle.records.proofs.ReadLaws.{is_found, read-facts}
use Rattle.rules.specs.Read.{bytes_at}
use Rattle.rules.specs.Blocks.{blocks_with}
use Rattle.runs.proofs.Effects.{All, Before, all_append}
use Rattle.checkpoints.specs.declared.FileSettings.{FileSettings}
use Rattle.checkpoints.specs.declared.Counts.{Counts}
use Rattle.checkpoints.specs.Content.{is_block, last_of}
use Rattle.checkpoints.specs.Judge.{Known, none_known, message_refusal, known_with, refusal_from}
use Rattle.checkpoints.specs.File.{File, file_of, after, file_reader, file_in}
use Rattle.checkpoints.specs.Scan.{known_of, counts_with, numbers_with, places_with, slot_in, goes_on, Scanning, scanned_with, scanning}
use Rattle.checkpoints.proofs.ByteLaws.{message_of, used-range}
use Rattle.checkpoints.proofs.FileLaws.{head_of, file-before}
use Rattle.checkpoints.proofs.KnownLaws.{known_after, known-append, cons-refusal, nil-refusal, append-refusal}
use Rattle.checkpoints.proofs.ContentLaws.{last-append}
use Rattle.checkpoints.proofs.PlaceLaws.{slot-tells, beside-stored, beside-other, counted-before}
use Rattle.checkpoints.proofs.ScanMeaning.{goes_before, block_room, known-with}

-- records in front of those of a file
abbrev pub joined : List Message → File → File
joined done f = file_of (done ++ f.messages) f.ending

-- at a position of the file stand these bytes, of which there are u
abbrev pub HasAt : (u : ℕ) → (file : List ℕ) → (place : ℕ) → (bytes : List ℕ) → Type 0
HasAt u file place bytes = (part place u file ≡ bytes) × (place + u ≤ length file)

-- so they do at the same position, said otherwise
has-at : (u : ℕ) (file : List ℕ) (p q : ℕ) (a b : List ℕ) → p ≡ q → a ≡ b → HasAt u file q b → HasAt u file p a
has-at u file p q a b e f h = (ap (λ (j : ℕ). part j u file) e ∙ h.0 ∙ sym f, omega (arith, e, h.1))

-- where the array has block n, the position beside it is that of its last bytes
abbrev pub LastAt : (u : ℕ) → (file : List ℕ) → (blocks : ℕ) → (numbers places : List ℕ) → List Message → ℕ → Type 0
LastAt u file blocks numbers places done n =
    is_in n (take blocks numbers) ≡ true → HasAt u file (get_or places (slot_in blocks numbers n) 0) (last_of (is_block n) [] done)

-- the records `done` are behind, none of them refused, and this is kept of them
pub record ReadTo (g : FileSettings) (file : List ℕ) (t : Scanning) (done : List Message) : Type 0 where
  pub inside : t.at ≤ length file
  pub known : known_of t.counts t.numbers ≡ known_after none_known done
  pub numbers : length t.numbers ≡ 64
  pub places : length t.places ≡ 64
  pub few : t.counts.blocks ≤ g.b
  pub accepted : refusal_from g none_known done ≡ 0
  pub before : All Before done
  pub records : file_in g file ≡ joined done (file_in g (drop t.at file))
  pub last : (n : ℕ) → LastAt g.u file t.counts.blocks t.numbers t.places done n

-- ---- at the start
pub read-start : (g : FileSettings) (file numbers places : List ℕ) → length numbers ≡ 64 → length places ≡ 64 → ReadTo g file (scanning numbers places) []
read-start g file numbers places n p =
    record {
      inside = omega arith;
      known = refl;
      numbers = n;
      places = p;
      few = omega arith;
      accepted = nil-refusal g none_known;
      before = tt;
      records = refl;
      last = λ m h. absurd (false≢true (sym (in-none m) ∙ h));
    }

-- ---- the last bytes of a block, with one record more
-- the bytes at a cursor are a part of the file
part-behind : (at from n : ℕ) (l : List ℕ) → part from n (drop at l) ≡ part (at + from) n l
unfolding part
part-behind at from n l = ap (take n) (drop-drop from at l)

-- where it is no BLOCK of the block, they stay
pub last-stays : (n : ℕ) (done : List Message) (x : Message) → is_block n x ≡ false → last_of (is_block n) [] (done ++ (x ∷ [])) ≡ last_of (is_block n) [] done
unfolding last_of
last-stays n done x h = last-append (is_block n) [] done (x ∷ []) ∙ cond-false (is_block n x) (bytes_of x) (last_of (is_block n) [] done) h

-- where it is one, they are its own
last-new : (n e : ℕ) (done : List Message) (bs : List ℕ) → last_of (is_block n) [] (done ++ (block e n bs ∷ [])) ≡ bs
unfolding last_of
last-new n e done bs = last-append (is_block n) [] done (block e n bs ∷ []) ∙ cond-true (eqb n n) bs (last_of (is_block n) [] done) (eq-eqb n n refl)

-- ---- with one record more
module _ (g : FileSettings) (unit : unit_ok g.u ≡ true) (b-high : g.b ≤ 64) (file : List ℕ) (t : Scanning) (done : List Message) (i : ReadTo g file t done) where
  -- the bytes that are not read yet, and the counts
  abbrev rest : List ℕ
  rest = drop t.at file

  abbrev k : Counts
  k = t.counts

  -- the array has the blocks counted
  fits : k.blocks ≤ length t.numbers
  fits = omega (arith, i.few, i.numbers)

  -- the arrays keep their lengths
  length-numbers : (r : Result Record Unread) → length (numbers_with k.blocks t.numbers r) ≡ 64
  length-numbers (Ok (Block e n c)) = length-set t.numbers (slot_in k.blocks t.numbers n) n ∙ i.numbers
  length-numbers (Ok (Page w e p c)) = i.numbers
  length-numbers (Ok (State e c)) = i.numbers
  length-numbers (Ok (Commit w e p b c)) = i.numbers
  length-numbers (Ok (Ack e c)) = i.numbers
  length-numbers (Err (Short n)) = i.numbers
  length-numbers (Err (Refused n)) = i.numbers

  length-places : (r : Result Record Unread) → length (places_with k.blocks t.numbers t.places t.at r) ≡ 64
  length-places (Ok (Block e n c)) = length-set t.places (slot_in k.blocks t.numbers n) (t.at + c.start) ∙ i.places
  length-places (Ok (Page w e p c)) = i.places
  length-places (Ok (State e c)) = i.places
  length-places (Ok (Commit w e p b c)) = i.places
  length-places (Ok (Ack e c)) = i.places
  length-places (Err (Short n)) = i.places
  length-places (Err (Refused n)) = i.places

  -- ---- a BLOCK that is not refused
  module _ (e n : ℕ) (c : Cursor) (q : head_of g rest ≡ Ok (Block e n c)) (z : message_refusal g (known_of k t.numbers) (block e n (bytes_at c rest)) ≡ 0) where
    -- another block has room
    room : is_in n (take k.blocks t.numbers) ≡ false → k.blocks < g.b
    room = block_room g k t.numbers fits e n (bytes_at c rest) z

    -- where it goes, how many blocks are counted then, and its bytes
    abbrev slot : ℕ
    slot = slot_in k.blocks t.numbers n

    abbrev counted : ℕ
    counted = blocks_with (ltb slot k.blocks) k.blocks

    abbrev bytes : List ℕ
    bytes = bytes_at c rest

    -- at most B blocks are counted
    block-few : counted ≤ g.b
    block-few =
        let tells = slot-tells k.blocks t.numbers n fits in
        ⊎_elim
        (λ (w : ltb slot k.blocks ≡ true). omega (arith, cond-true (ltb slot k.blocks) k.blocks (k.blocks + 1) w, i.few))
        (λ (w : ltb slot k.blocks ≡ false). omega (arith, cond-false (ltb slot k.blocks) k.blocks (k.blocks + 1) w, room (sym tells ∙ w)))
        (by-test (ltb slot k.blocks))

    -- its bytes stand in the file
    block-own : HasAt g.u file (t.at + c.start) bytes
    block-own =
        let f = rw q at (read-facts (file_reader g) g.u rest) in
        let n : c.end - c.start ≡ g.u = omega (arith, f.span) in (
          sym (ap (λ (j : ℕ). part c.start j rest) n ∙ part-behind t.at c.start g.u file),
          omega (arith, f.span, f.inside, length-drop t.at file, i.inside),
        )

    -- the last bytes of each block are where the array says
    block_last : (m : ℕ) → LastAt g.u file counted (set t.numbers slot n) (set t.places slot (t.at + c.start)) (done ++ (block e n bytes ∷ [])) m
    block_last m h =
        let more : is_in n (take k.blocks t.numbers) ≡ false → k.blocks < length t.numbers = λ w. omega (arith, room w, i.numbers) in
        let same : length t.places ≡ length t.numbers = i.places ∙ sym i.numbers in
        let stored = set t.numbers slot n in
        let beside = set t.places slot (t.at + c.start) in
        let now = done ++ (block e n bytes ∷ []) in
        ⊎_elim
        (λ (w : m ≡ n).
        has-at g.u file (get_or beside (slot_in counted stored m) 0) (t.at + c.start) (last_of (is_block m) [] now) bytes
        (ap (λ (j : ℕ). get_or beside (slot_in counted stored j) 0) w ∙ beside-stored k.blocks t.numbers t.places n (t.at + c.start) fits more same)
        (ap (λ (j : ℕ). last_of (is_block j) [] now) w ∙ last-new n e done bytes)
        block-own)
        (λ (ne : m ≡ n → ⊥).
        let there = counted-before k.blocks t.numbers t.places n (t.at + c.start) fits more same m ne h in
        has-at g.u file (get_or beside (slot_in counted stored m) 0) (get_or t.places (slot_in k.blocks t.numbers m) 0) (last_of (is_block m) [] now) (last_of (is_block m) [] done)
        (beside-other k.blocks t.numbers t.places n (t.at + c.start) fits more same m ne there)
        (last-stays m done (block e n bytes) (ne_eqb n m (λ w. ne (sym w))))
        (i.last m there))
        (eq-or-ne m n)

  -- a PAGE or a STATE leaves the last bytes
  other_last : (x : Message) → ((m : ℕ) → is_block m x ≡ false) → (m : ℕ) → LastAt g.u file k.blocks t.numbers t.places (done ++ (x ∷ [])) m
  other_last x h m there =
      let l = i.last m there in
      (l.0 ∙ sym (last-stays m done x (h m)), l.1)

  -- ---- a PAGE, a BLOCK or a STATE that is not refused: what it leaves of the blocks
  abbrev Kept : Result Record Unread → Type 0
  Kept r =
      ((counts_with k t.numbers r).blocks ≤ g.b)
      × ((m : ℕ) → LastAt g.u file (counts_with k t.numbers r).blocks (numbers_with k.blocks t.numbers r) (places_with k.blocks t.numbers t.places t.at r) (done ++ (message_of r rest ∷ [])) m)

  -- which holds by its kind
  kept_more : (r : Result Record Unread) → head_of g rest ≡ r → goes_on r ≡ true → message_refusal g (known_of k t.numbers) (message_of r rest) ≡ 0 → Kept r
  kept_more (Ok (Page w e p c)) q h z = (i.few, other_last (page e p (bytes_at c rest)) (λ m. refl))
  kept_more (Ok (Block e n c)) q h z = (block-few e n c q z, block_last e n c q z)
  kept_more (Ok (State e c)) q h z = (i.few, other_last (state e (bytes_at c rest)) (λ m. refl))
  kept_more (Ok (Commit w e p b c)) q h z = absurd (false≢true h)
  kept_more (Ok (Ack e c)) q h z = absurd (false≢true h)
  kept_more (Err (Short n)) q h z = absurd (false≢true h)
  kept_more (Err (Refused n)) q h z = absurd (false≢true h)

  -- it holds with one record more
  pub read_more : (r : Result Record Unread) → head_of g rest ≡ r → goes_on r ≡ true → message_refusal g (known_of k t.numbers) (message_of r rest) ≡ 0
      → ReadTo g file (scanned_with t r) (done ++ (message_of r rest ∷ []))
  unfolding scanned_with
  read_more r q h z =
      let x = message_of r rest in
      let f = goes_before rest r h in
      let o = kept_more r q h z in
      let range = used-range g.u (is_wide g.m) rest (ap is_found q ∙ f.0) in
      let used : used_of (head_of g rest) ≡ used_of r = ap used_of q in
      let step : file_in g rest ≡ after x (file_in g (drop (t.at + used_of r) file)) =
      (rw q at (file-before g rest unit)) f.1 ∙ ap (λ (l : List ℕ). after x (file_in g l)) (drop-drop (used_of r) t.at file) in
      let behind = file_in g (drop (t.at + used_of r) file) in
      record {
        inside = omega (arith, range.1, used, length-drop t.at file, i.inside);
        known = known-with g k t.numbers rest r h fits (omega (arith, i.numbers)) z
            ∙ ap (λ (n : Known). known_with n x) i.known
            ∙ sym (known-append none_known done (x ∷ []));
        numbers = length-numbers r;
        places = length-places r;
        few = o.0;
        accepted = append-refusal g none_known done (x ∷ []) i.accepted
            (cons-refusal g (known_after none_known done) x [] (subst (λ (n : Known). message_refusal g n x ≡ 0) i.known z) (nil-refusal g (known_with (known_after none_known done) x)));
        before = all_append Before done (x ∷ []) i.before (f.1, tt);
        records = i.records
            ∙ ap (joined done) step
            ∙ ap (λ (l : List Message). file_of l behind.ending) (sym (append_assoc done (x ∷ []) behind.messages));
        last = o.1;
      }
