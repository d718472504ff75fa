-- The normal form of a checkpoint: "blocks, then pages, each once with its last bytes, rising, then STATE and COMMIT
-- with new counts" (document 02, Job 14). Assumes nothing.
use Rattle.std.specs.Prelude.{ℕ, Bool, cond, List, [], ◌∷◌, ◌++◌, length}
use Rattle.lists.specs.Page.{gather}
use Rattle.records.specs.Message.{Message, page, block, state, commit}
use Rattle.checkpoints.specs.Content.{is_page, is_block, is_state, named, last_of}

-- where a record passes the test, one with the last bytes of those that do
abbrev pub once : (Message → Bool) → (List ℕ → Message) → List Message → List Message
once f make ms = cond (named f ms) (make (last_of f [] ms) ∷ []) []

-- those of the block numbers below d, and of the page numbers below m, each at its place: so they rise
unfoldable pub normal_blocks : (e d : ℕ) → List Message → List Message
normal_blocks e d ms = gather (λ n. once (is_block n) (block e n) ms) d

unfoldable pub normal_pages : (e m : ℕ) → List Message → List Message
normal_pages e m ms = gather (λ p. once (is_page p) (page e p) ms) m

-- the records of the normal form, all with epoch e
unfoldable pub normal_of : (e d m : ℕ) → List Message → List Message
normal_of e d m ms =
    let blocks = normal_blocks e d ms in
    let pages = normal_pages e m ms in
    blocks ++ (pages ++ (state e (last_of is_state [] ms) ∷ commit e (length pages) (length blocks) ∷ []))
