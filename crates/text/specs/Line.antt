-- Lines and words of a text of bytes. Assumes nothing.
use Rattle.std.specs.Prelude.{ℕ, Bool, cond, List, [], ◌∷◌, eqb, length, get_or}

abbrev pub is_empty : List ℕ → Bool
is_empty l = eqb (length l) 0

-- b in front of the first part
abbrev pub with_first : ℕ → List (List ℕ) → List (List ℕ)
with_first b [] = (b ∷ []) ∷ []
with_first b (p ∷ ps) = (b ∷ p) ∷ ps

-- the parts between the separators: always one more than there are of these
unfoldable pub split : ℕ → List ℕ → List (List ℕ)
split separator [] = [] ∷ []
split separator (b ∷ bs) = cond (eqb b separator) ([] ∷ split separator bs) (with_first b (split separator bs))

-- without a last part that is empty
abbrev pub drop_empty_last : List (List ℕ) → List (List ℕ)
drop_empty_last [] = []
drop_empty_last ([] ∷ []) = []
drop_empty_last ([] ∷ (q ∷ ps)) = [] ∷ drop_empty_last (q ∷ ps)
drop_empty_last ((b ∷ bs) ∷ ps) = (b ∷ bs) ∷ drop_empty_last ps

abbrev pub newline : ℕ
newline = 10

abbrev pub space : ℕ
space = 32

-- the bytes before the first separator, and before the first newline
unfoldable pub first_part : ℕ → List ℕ → List ℕ
first_part separator [] = []
first_part separator (b ∷ bs) = cond (eqb b separator) [] (b ∷ first_part separator bs)

abbrev pub first_line : List ℕ → List ℕ
first_line s = first_part newline s

-- "one command a line"; the last line may lack its newline
abbrev pub lines_of : List ℕ → List (List ℕ)
lines_of text = drop_empty_last (split newline text)

-- the words of a line, parted by single spaces
abbrev pub words_of : List ℕ → List (List ℕ)
words_of line = split space line

abbrev pub word : List (List ℕ) → ℕ → List ℕ
word ws i = get_or ws i []
