-- Laws of the records in turn: what stops the reading, and the loop that prints them. Assumes nothing.
use Rattle.std.specs.Prelude.{Result, Ok, Err}
use Prim.Native.Nat.{ℕ, suc, ◌+◌, ◌*◌, ◌-◌, ◌≤◌, ◌<◌}
use mathlib.Core.Path.{◌≡◌, refl, sym, ap, ◌∙◌, subst}
use mathlib.Core.Logic.{⊎_elim}
use mathlib.Core.Bool.{Bool, true, false, cond, false≢true}
use mathlib.Core.List.{List, [], ◌++◌, append_assoc}
use native.Mathlib.Omega.{arith}
use lib.ListN.{length, take, drop, length-drop}
use lib.Seq.{take_all, drop-drop}
use borrow.Author.Tests.{eq-eqb, ne_eqb}
use Rattle.lists.specs.Part.{PutDone}
use Rattle.lists.proofs.PartLaws.{put-done-none, put-done-more, put-done-length}
use Rattle.lists.proofs.TestLaws.{lt-or-ge}
use Rattle.text.specs.Line.{is_empty}
use Rattle.records.specs.declared.Reader.{Reader}
use Rattle.records.specs.declared.Reader.TheVariants.{Test}
use Rattle.records.specs.declared.Record.{Record}
use Rattle.records.specs.declared.Record.TheVariants.{Page, Block, State, Commit, Ack}
use Rattle.records.specs.declared.Unread.{Unread}
use Rattle.records.specs.declared.Unread.TheVariants.{Short, Refused}
use Rattle.records.specs.Cases.{on_found}
use Rattle.records.specs.Kind.{unit_ok, header_length}
use Rattle.records.specs.Read.{read_record, used_of}
use Rattle.records.proofs.ReadLaws.{is_found, on-found, found-cases, read-no-header, read-within}
use Rattle.plates.specs.Words.{record_line, end_line, short_line, refused_line}
use Rattle.plates.specs.Plate.{plates_from, plates_of}
use Rattle.plates.proofs.BoundLaws.{used-least}

-- the bytes from a place on, as they are lent
pub lent-rest : (place : ℕ) (s : List ℕ) → take (length s - place) (drop place s) ≡ drop place s
lent-rest place s = let e = length-drop place s in take_all (length s - place) (drop place s) (omega arith)

-- ---- what stops the reading
module _ (m u at : ℕ) (s : List ℕ) where
  pub stop-end : length s ≡ 0 → plates_from (suc m) u at s ≡ end_line at
  unfolding plates_from
  stop-end h = rw (eq-eqb (length s) 0 h)

  module _ (h : length s ≡ 0 → ⊥) where
    pub stop-short : (n : ℕ) → read_record Test u s ≡ Err (Short n) → plates_from (suc m) u at s ≡ short_line at s n
    unfolding plates_from
    stop-short n e = rw (ne_eqb (length s) 0 h, e)

    pub stop-refused : (n : ℕ) → read_record Test u s ≡ Err (Refused n) → plates_from (suc m) u at s ≡ refused_line at s n
    unfolding plates_from
    stop-refused n e = rw (ne_eqb (length s) 0 h, e)

  -- a record is found: its line, and what is printed behind it
  pub from_found : is_found (read_record Test u s) ≡ true
      → let r = read_record Test u s in plates_from (suc m) u at s ≡ record_line at r ++ plates_from m u (at + used_of r) (drop (used_of r) s)
  unfolding plates_from
  from_found f =
      let r = read_record Test u s in
      let l = used-least Test u s f in
      let w = read-within Test u s in
      rw (ne_eqb (length s) 0 (λ z. omega arith))
      (on-found (record_line at r ++ plates_from m u (at + used_of r) (drop (used_of r) s)) (λ n. short_line at s n) (λ n. refused_line at s n) r f)

-- only a record whose header is there is refused
pub refused-header : (reader : Reader) (u : ℕ) (s : List ℕ) (n : ℕ) → unit_ok u ≡ true → read_record reader u s ≡ Err (Refused n) → header_length ≤ length s
refused-header reader u s n v e =
    ⊎_elim (λ h. absurd (false≢true (ap is_refused (sym (read-no-header reader u s v h) ∙ e)))) (λ h. h) (lt-or-ge (length s) header_length)
  where
    is_refused : Result Record Unread → Bool
    is_refused r = on_found r false (λ n. false) (λ n. true)

-- a record uses some bytes where it is found, and none else
pub found-used : (r : Result Record Unread) → (used_of r ≡ 0 → ⊥) → is_found r ≡ true
found-used = found-cases (λ r. (used_of r ≡ 0 → ⊥) → is_found r ≡ true) (λ r f z. f) (λ n z. absurd (z refl)) (λ n z. absurd (z refl))

pub used-none : (reader : Reader) (u : ℕ) (s : List ℕ) → used_of (read_record reader u s) ≡ 0 → is_found (read_record reader u s) ≡ true → ⊥
used-none reader u s z f = let l = used-least reader u s f in omega arith

-- so that none is found where none are used
pub found_none : (reader : Reader) (u : ℕ) (s : List ℕ) (r : Result Record Unread) → r ≡ read_record reader u s → used_of (read_record reader u s) ≡ 0 → is_found r ≡ true → ⊥
found_none reader u s r e z f = used-none reader u s z (ap is_found (sym e) ∙ f)

-- a record that was read is found
pub ok-found : (r : Record) → is_found (Ok r) ≡ true
ok-found (Page w e p c) = refl
ok-found (Block e n c) = refl
ok-found (State e c) = refl
ok-found (Commit w e p b c) = refl
ok-found (Ack e c) = refl

-- what stops the reading does so whatever the bound
pub stop-any : (m n u at : ℕ) (s : List ℕ) → used_of (read_record Test u s) ≡ 0 → plates_from (suc m) u at s ≡ plates_from (suc n) u at s
unfolding plates_from
stop-any m n u at s z = ap (λ (l : List ℕ). cond (is_empty s) (end_line at) l) (same (read_record Test u s) (used-none Test u s z))
  where
    from : ℕ → Result Record Unread → List ℕ
    from most r = on_found r (record_line at r ++ plates_from most u (at + used_of r) (drop (used_of r) s)) (λ n. short_line at s n) (λ n. refused_line at s n)

    same : (r : Result Record Unread) → (is_found r ≡ true → ⊥) → from m r ≡ from n r
    same = found-cases (λ r. (is_found r ≡ true → ⊥) → from m r ≡ from n r) (λ r f no. absurd (no f)) (λ n no. refl) (λ n no. refl)

-- ---- the loop: what is printed so far, in front of what the bytes from place on give, is what all of them give. A
-- record of at least 8 bytes has a line of at most 176, which is 22 for each byte
pub record Turned (u : ℕ) (bytes out₀ : List ℕ) (at : ℕ) (out : List ℕ) (next place used : ℕ) : Type 0 where
  pub printed : List ℕ
  pub most : ℕ
  pub enough : length bytes < place + most
  pub inside : place ≤ length bytes
  pub done : PutDone printed out₀ at out next
  pub low : next ≤ at + 22 * place
  pub rest : plates_of u bytes ≡ printed ++ plates_from most u place (drop place bytes)
  pub uses : used ≡ used_of (read_record Test u (drop place bytes))

pub turned-first : (u : ℕ) (bytes out : List ℕ) (at used : ℕ) → used ≡ used_of (read_record Test u bytes) → Turned u bytes out at out at 0 used
unfolding plates_of
turned-first u bytes out at used e =
    record { printed = []; most = length bytes + 1; enough = omega arith; inside = omega arith; done = put-done-none out at; low = omega arith; rest = refl; uses = e }

module _ {u : ℕ} {bytes out₀ : List ℕ} {at : ℕ} {out : List ℕ} {next place used : ℕ} (t : Turned u bytes out₀ at out next place used) where
  abbrev here : List ℕ
  here = drop place bytes

  -- where there is a record, it ends within the bytes
  pub turned-within : place + used ≤ length bytes
  turned-within =
      let i = t.inside in
      let e = t.uses in
      let w = read-within Test u here in
      let l = length-drop place bytes in
      omega arith

  -- one is left to read
  more_left : t.most ≡ suc (t.most - 1)
  more_left = let i = t.inside in let e = t.enough in omega arith

  module _ (short : length bytes ≤ 32768) (room : at + 721072 ≤ length out₀) where
    printed-room : at + length t.printed ≤ length out₀
    printed-room = let i = t.inside in let l = t.low in let p = t.done.position in omega arith

    pub turned-length : length out ≡ length out₀
    turned-length = put-done-length t.printed out₀ out at next printed-room t.done

    -- there is room for one line more
    pub turned-room : next + 176 ≤ length out
    turned-room = let i = t.inside in let l = t.low in let e = turned-length in omega arith

    pub turned-again : (r : Result Record Unread) (out' : List ℕ) (next' used' : ℕ) → (used ≡ 0 → ⊥) → r ≡ read_record Test u here
        → PutDone (record_line place r) out next out' next' → next' ≤ next + 176 → used' ≡ used_of (read_record Test u (drop (place + used) bytes))
        → Turned u bytes out₀ at out' next' (place + used) used'
    turned-again r out' next' used' some e put low' uses' =
        let x = read_record Test u here in
        let q : used ≡ used_of x = t.uses in
        let f : is_found x ≡ true = found-used x (λ z. some (q ∙ z)) in
        let least : 8 ≤ used_of x = used-least Test u here f in
        let enough = t.enough in
        let low = t.low in
        record {
          printed = t.printed ++ record_line place r;
          most = t.most - 1;
          enough = omega arith;
          inside = turned-within;
          done = put-done-more t.printed (record_line place r) out₀ out out' at next next' printed-room t.done put;
          low = omega arith;
          rest =
              t.rest
              ∙ ap (λ (m : ℕ). t.printed ++ plates_from m u place here) more_left
              ∙ ap (λ (l : List ℕ). t.printed ++ l) (from_found (t.most - 1) u place here f)
              ∙ sym (append_assoc t.printed (record_line place x) (plates_from (t.most - 1) u (place + used_of x) (drop (used_of x) here)))
              ∙ ap (λ (y : Result Record Unread). t.printed ++ record_line place y ++ plates_from (t.most - 1) u (place + used_of x) (drop (used_of x) here)) (sym e)
              ∙ ap (λ (k : ℕ). t.printed ++ record_line place r ++ plates_from (t.most - 1) u (place + k) (drop k here)) (sym q)
              ∙ ap (λ (l : List ℕ). t.printed ++ record_line place r ++ plates_from (t.most - 1) u (place + used) l) (drop-drop used place bytes);
          uses = uses';
        }

    pub turned-ends : (out' : List ℕ) (r : ℕ) → used ≡ 0 → PutDone (plates_from 1 u place here) out next out' r → r ≤ next + 176
        → PutDone (plates_of u bytes) out₀ at out' r × (r ≤ at + 721072)
    turned-ends out' r z put low' =
        let last : plates_of u bytes ≡ t.printed ++ plates_from 1 u place here =
        t.rest
        ∙ ap (λ (m : ℕ). t.printed ++ plates_from m u place here) more_left
        ∙ ap (λ (l : List ℕ). t.printed ++ l) (stop-any (t.most - 1) 0 u place here (sym t.uses ∙ z)) in
        let i = t.inside in
        let l = t.low in
        let d = put-done-more t.printed (plates_from 1 u place here) out₀ out out' at next r printed-room t.done put in
        (subst (λ (l : List ℕ). PutDone l out₀ at out' r) (sym last) d, omega arith)
