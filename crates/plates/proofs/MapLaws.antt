-- What a mapped error was. Assumes nothing.
use mathlib.Core.Path.{◌≡◌, refl}
use Rattle.std.specs.Prelude.{Result, Ok, Err}
use Rattle.std.specs.Result.{MatchResult, IsErrAnd}

module _ {T E D : Type 0} (P : E → D → Type 0) where
  pub mapped-ok : (self : Result T E) (r : Result T D) → MatchResult self (λ x. r ≡ Ok x) (λ e. IsErrAnd r (P e)) → (x : T) → r ≡ Ok x → Ok x ≡ self
  mapped-ok (Ok y) r m x e = cc
  mapped-ok (Err y) r m x e = absurd (rw e at m)

  pub mapped-err : (self : Result T E) (r : Result T D) → MatchResult self (λ x. r ≡ Ok x) (λ e. IsErrAnd r (P e)) → (d : D) → r ≡ Err d → (e : E) × (Err e ≡ self) × P e d
  mapped-err (Ok y) r m d e = absurd (cc)
  mapped-err (Err y) r m d e = (y, refl, rw e at m)
