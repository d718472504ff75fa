-- Laws of printing: what each function of printing.rt puts, and puts one behind the other. Assumes nothing.
use Prim.Native.Nat.{ℕ, ◌+◌, ◌-◌, ◌≤◌, max}
use mathlib.Core.Path.{◌≡◌, subst}
use mathlib.Core.List.{List, ◌++◌}
use native.Mathlib.Omega.{arith}
use lib.ListN.{length, replicate, length-replicate}
use Rattle.lists.specs.Part.{PutDone}
use Rattle.lists.proofs.PartLaws.{put-done-more, put-done-length}
use Rattle.text.specs.Line.{space}
use Rattle.text.specs.Column.{left, right}

-- ---- puts one behind the other

-- bs is put at at, and is of at most this many bytes, wherever there is room for these
pub record Put (most : ℕ) (bs s : List ℕ) (at : ℕ) (t : List ℕ) (r : ℕ) : Type 0 where
  pub in-room : at + most ≤ length s → PutDone bs s at t r × (r ≤ at + most)

-- a byte, or a text whose length is known
pub put-text : {bs s t : List ℕ} {at r : ℕ} → PutDone bs s at t r → Put (length bs) bs s at t r
put-text d = record { in-room = λ h. (d, omega (arith, d.position)) }

-- a number, or what else is of at most so many bytes
pub put-within : {most : ℕ} {bs s t : List ℕ} {at r : ℕ} → PutDone bs s at t r → r ≤ at + most → Put most bs s at t r
put-within d k = record { in-room = λ h. (d, k) }

-- one behind the other
pub put_then : {m n : ℕ} {a b s t u : List ℕ} {at x r : ℕ} → Put m a s at t x → Put n b t x u r → Put (m + n) (a ++ b) s at u r
put_then {m} {n} {a} {b} {s} {t} {u} {at} {x} {r} p q =
    record {
      in-room = λ h.
          let d = p.in-room (omega arith) in
          let e : x ≡ at + length a = d.0.position in
          let k : x ≤ at + m = d.1 in
          let l : length t ≡ length s = put-done-length a s t at x (omega arith) d.0 in
          let f = q.in-room (omega arith) in
          let g : r ≤ x + n = f.1 in
          (put-done-more a b s t u at x r (omega arith) d.0 f.0, omega arith);
    }

-- where there is room for them all
pub put-end : {most : ℕ} {bs s t : List ℕ} {at r : ℕ} → Put most bs s at t r → at + most ≤ length s → PutDone bs s at t r × (r ≤ at + most)
put-end p h = p.in-room h

-- ---- columns

-- what was put and then padded stands at the left of its column
pub put-left : {most : ℕ} (width : ℕ) {bs s t u : List ℕ} {at x r : ℕ} → Put most bs s at t x → PutDone (replicate (width - (x - at)) space) t x u r
    → Put (max most width) (left width bs) s at u r
put-left {most} width {bs} {s} {t} {u} {at} {x} {r} p q =
    record {
      in-room = λ h.
          let d = p.in-room (omega arith) in
          let e : x ≡ at + length bs = d.0.position in
          let k : x ≤ at + most = d.1 in
          let n : x - at ≡ length bs = omega arith in
          let f : PutDone (replicate (width - length bs) space) t x u r = subst (λ (m : ℕ). PutDone (replicate (width - m) space) t x u r) n q in
          let g : r ≡ x + length (replicate (width - length bs) space) = f.position in
          let l : length (replicate (width - length bs) space) ≡ width - length bs = length-replicate (width - length bs) space in
          (put-done-more bs (replicate (width - length bs) space) s t u at x r (omega arith) d.0 f, omega arith);
    }

-- the digits behind the spaces that fill a column
pub right-put : (bs s t u : List ℕ) (width gap at a r : ℕ) → gap ≡ width - length bs → at + gap ≤ length s → PutDone (replicate gap space) s at t a → PutDone bs t a u r → PutDone (right width bs) s at u r
right-put bs s t u width gap at a r q room d f =
    let m : length (replicate gap space) ≡ gap = length-replicate gap space in
    subst (λ (i : ℕ). PutDone (replicate i space ++ bs) s at u r) q (put-done-more (replicate gap space) bs s t u at a r (omega arith) d f)
