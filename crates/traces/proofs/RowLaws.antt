-- Laws of rows: what is put where there is room for more, what a site's types give, and one column more.
-- Assumes nothing.
use Prim.Native.Nat.{ℕ, ◌+◌, ◌≤◌, ◌<◌, ◌^◌}
use mathlib.Core.Path.{◌≡◌, sym, ap, ◌∙◌}
use mathlib.Core.List.{List, [], ◌∷◌, ◌++◌, append_assoc, append-nil}
use native.Mathlib.Omega.{arith}
use lib.ListN.{length}
use mir.Val.{Val}
use denote.Laws.{Is}
use denote.Struct.Declared.{row}
use Rattle.lists.specs.Part.{PutDone}
use Rattle.text.specs.Decimal.{decimal}
use Rattle.text.specs.Column.{right}
use Rattle.text.proofs.PrintLaws.{Put}
use Rattle.script.specs.declared.Site.{Site}
use Rattle.script.specs.contracts.Site.{the_type}
use Rattle.traces.specs.Row.{in_columns}

-- where there is room for more than it needs
pub put_in : {most more : ℕ} {bs s t : List ℕ} {at r : ℕ} → Put most bs s at t r → most ≤ more → at + more ≤ length s → PutDone bs s at t r × (r ≤ at + more)
put_in p k h = let d = p.in-room (omega arith) in (d.0, omega (arith, d.1))

-- ---- the lengths of the memories and the disks, which their types give
pub record HeadLengths (s : Site) : Type 0 where
  pub primary-memory : 256 ≡ length s.primary.memory
  pub primary-disk : 256 ≡ length s.primary.disk
  pub standby-memory : 256 ≡ length s.standby.memory
  pub standby-disk : 256 ≡ length s.standby.disk

pub head-lengths : (s : Site) (vs : List Val) → Is (row the_type) s vs → HeadLengths s
head-lengths s vs g =
    let p = g.1.1.0.1.1.1 in
    let b = g.1.1.1.0.1.1.1 in
    record {
      primary-memory = sym p.0.1.0.1;
      primary-disk = sym p.1.0.1.0.1;
      standby-memory = sym b.0.1.0.1;
      standby-disk = sym b.1.0.1.0.1;
    }

-- the primary's epochs are of 4 bytes
pub epoch-low : (s : Site) (vs : List Val) → Is (row the_type) s vs → s.primary.state.epoch < 2 ^ 32
epoch-low s vs g = g.1.1.0.1.1.0.1.1.1.1.0.1

pub acknowledged-low : (s : Site) (vs : List Val) → Is (row the_type) s vs → s.primary.state.acknowledged < 2 ^ 32
acknowledged-low s vs g = g.1.1.0.1.1.0.1.1.1.1.1.0.1

-- ---- one column more
pub columns-more : (cs : List (ℕ × ℕ)) (c : ℕ × ℕ) → in_columns (cs ++ (c ∷ [])) ≡ in_columns cs ++ right c.0 (decimal c.1)
unfolding in_columns
columns-more [] c = append-nil (right c.0 (decimal c.1))
columns-more (x ∷ cs) c =
    ap (λ (s : List ℕ). right x.0 (decimal x.1) ++ s) (columns-more cs c) ∙ sym (append_assoc (right x.0 (decimal x.1)) (in_columns cs) (right c.0 (decimal c.1)))
