-- The dirty pages of a checkpoint as messages, for statements about whole streams. Assumes nothing.
use Rattle.std.specs.Prelude.{ℕ, Bool, cond, List, [], ◌∷◌}
use Rattle.lists.specs.Page.{page, gather}
use Rattle.records.specs.Message.{Message, Fits}
use Rattle.records.specs.Message as message
use Rattle.marks.specs.Mark.{marked}

-- the PAGE of page p where it is dirty, else none
unfoldable pub dirty_message : List ℕ → List ℕ → ℕ → ℕ → ℕ → List Message
dirty_message memory dirty u epoch p = cond (marked dirty p) (message.page epoch p (page u memory p) ∷ []) []

-- "every dirty page", in rising order
unfoldable pub dirty_messages : List ℕ → List ℕ → ℕ → ℕ → ℕ → List Message
dirty_messages memory dirty u epoch m = gather (dirty_message memory dirty u epoch) m

-- every message of a list fits its fields
abbrev pub AllFit : ℕ → (wide : Bool) → List Message → Type 0
AllFit u wide [] = Unit {0}
AllFit u wide (x ∷ xs) = Fits u wide x × AllFit u wide xs
