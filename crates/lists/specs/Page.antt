-- Pages of u bytes, and what a rising loop over pages gathers. Assumes nothing.
use Rattle.std.specs.Prelude.{ℕ, zero, suc, ◌*◌, List, [], ◌++◌}
use Rattle.lists.specs.Part.{part, put}

module _ {A : Type 0} where
  -- page p (or block p) of an image of pages of u bytes
  unfoldable pub page : ℕ → List A → ℕ → List A
  page u l p = part (p * u) u l

  -- the image with bs as its page p
  unfoldable pub with_page : ℕ → List A → ℕ → List A → List A
  with_page u l p bs = put l (p * u) bs

  -- what f gives at 0, 1, .., n - 1, one after the other
  unfoldable pub gather : (ℕ → List A) → ℕ → List A
  gather f zero = []
  gather f (suc n) = gather f n ++ f n
