-- How long a destination needs to be for a normal form (document 02, Job 14). Assumes nothing.
use Rattle.std.specs.Prelude.{ℕ, ◌≤◌, List, length}
use Rattle.settings.specs.Range.{least_stream}
use Rattle.checkpoints.specs.declared.FileSettings.{FileSettings}
use Rattle.checkpoints.specs.Claims.{Accepted, normal_of_file}

-- a normal form is no longer than its file, and no longer than the least L of these settings: a destination as long as
-- either of them holds it, so that for such a destination an accepted file is never refused with 30
abbrev pub RoomEnough : Type 0
RoomEnough =
    (g : FileSettings) (file : List ℕ) → Accepted g file
    → (length (normal_of_file g file) ≤ length file) × (length (normal_of_file g file) ≤ least_stream g.u g.m g.b)
