-- The sum of an image, whole and page by page in an order (document 02, Job 11). Assumes nothing.
use Rattle.std.specs.Prelude.{ℕ, zero, suc, ◌+◌, ◌*◌, ◌%◌, Bool, true, ◌&&◌, List, [], ◌∷◌, eqb, length}
use Rattle.lists.specs.Page.{page, gather}
use Rattle.lists.specs.Select.{times_in}

-- "added modulo 4,294,967,296"
abbrev pub modulus : ℕ
modulus = 4294967296

-- "each byte × (its address + 1)", of bytes that stand from address a on
unfoldable pub weighted : ℕ → List ℕ → ℕ
weighted a [] = 0
weighted a (b ∷ bs) = b * (a + 1) + weighted (a + 1) bs

-- "An image's sum": addresses count from 0 over the whole image
abbrev pub image_sum : List ℕ → ℕ
image_sum image = weighted 0 image % modulus

-- the part of page p, of pages of u bytes, in it
abbrev pub page_sum : ℕ → List ℕ → ℕ → ℕ
page_sum u image p = weighted (p * u) (page u image p) % modulus

-- the pages that an order names, added one after the other
unfoldable pub sum_over : ℕ → List ℕ → List ℕ → ℕ
sum_over u image [] = 0
sum_over u image (p ∷ order) = (page_sum u image p + sum_over u image order) % modulus

-- "rising order": 0, 1, .., m - 1
abbrev pub rising : ℕ → List ℕ
rising m = gather (λ (p : ℕ). p ∷ []) m

-- every page below m is in the order once
abbrev pub each_once : ℕ → List ℕ → Bool
each_once zero order = true
each_once (suc m) order = each_once m order && eqb (times_in m order) 1

-- "naming each page once": that, and as many entries as pages, so that nothing else is in it
unfoldable pub names_each : ℕ → List ℕ → Bool
names_each m order = eqb (length order) m && each_once m order
