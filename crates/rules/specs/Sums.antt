-- Sums of memory at both ends (document 02, Job 11). Assumes nothing.
use Rattle.rules.specs.declared.Reply.{Reply}
use Rattle.std.specs.Prelude.{ℕ, ◌&&◌, List, [], ◌∷◌, eqb, length}
use Rattle.lists.specs.Refusal.{Test, test, refusal}
use Rattle.records.specs.Number.{out_of_range}
use Rattle.sums.specs.Sum.{sum_over, rising, names_each}
use Rattle.rules.specs.declared.Primary.{Primary}
use Rattle.rules.specs.declared.Standby.{Standby}
use Rattle.rules.specs.PrimaryState.{primary_ok, memory_length}
use Rattle.rules.specs.StandbyState.{standby_ok, memory_length as standby_memory_length}
use Rattle.rules.specs.Reply.{reply_of}

-- ---- the primary's: 1
abbrev pub primary_sum_tests : Primary → ℕ → List Test
primary_sum_tests p memory = test out_of_range (primary_ok p && eqb memory (memory_length p)) ∷ []

unfoldable pub primary_sum_refusal : Primary → ℕ → ℕ
primary_sum_refusal p memory = refusal (primary_sum_tests p memory)

-- "The primary adds pages in rising order"
unfoldable pub primary_sum_reply : Primary → List ℕ → Reply Primary
primary_sum_reply p memory = reply_of (primary_sum_refusal p (length memory)) p p (sum_over p.settings.u memory (rising p.settings.m))

-- ---- the standby's: 1, and "an order not naming each page once gives 1": it is judged by its entries
abbrev pub standby_sum_tests : Standby → ℕ → List ℕ → List Test
standby_sum_tests s memory order =
    test out_of_range (standby_ok s && eqb memory (standby_memory_length s) && names_each s.settings.m order) ∷ []

unfoldable pub standby_sum_refusal : Standby → ℕ → List ℕ → ℕ
standby_sum_refusal s memory order = refusal (standby_sum_tests s memory order)

-- "the standby in the order it visited them"
unfoldable pub standby_sum_reply : Standby → List ℕ → List ℕ → Reply Standby
standby_sum_reply s memory order = reply_of (standby_sum_refusal s (length memory) order) s s (sum_over s.settings.u memory order)
