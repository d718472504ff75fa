-- Laws of the ticks that are kept for the packets held. Assumes nothing.
use Prim.Native.Nat.{ℕ, ◌+◌, ◌-◌, ◌≤◌, ◌<◌, max}
use mathlib.Core.Path.{◌≡◌, sym, ap, ◌∙◌}
use mathlib.Core.List.{List}
use native.Mathlib.Omega.{arith}
use native.Mathlib.Numerals.{add-one}
use lib.ListN.{length, take, drop, get_or}
use lib.Seq.{take-take, drop-cons}
use Rattle.std.proofs.lemmas.List.{drop_all}
use Rattle.lists.proofs.PartLaws.{drop-take}
use Rattle.trials.specs.Trial.{longest_to}

-- ---- of the first n, without the first of them
pub taken-first : (sent next : List ℕ) (n : ℕ) → n ≤ 64 → take 63 next ≡ drop 1 sent → take (n - 1) next ≡ drop 1 (take n sent)
taken-first sent next n h e =
    sym (take-take (n - 1) 63 next (omega arith)) ∙ ap (take (n - 1)) e ∙ sym (drop-take 1 n sent)

-- ---- the next of them, and none left
module _ (last most : ℕ) (sent : List ℕ) (i : ℕ) where
  pub longest-next : i < length sent → longest_to last most (drop i sent) ≡ longest_to last (max most (last - get_or sent i 0)) (drop (i + 1) sent)
  unfolding longest_to
  longest-next h = rw (add-one i, drop-cons sent i 0 h)

  pub longest-none : length sent ≤ i → longest_to last most (drop i sent) ≡ most
  unfolding longest_to
  longest-none h = rw (drop_all i sent h)
