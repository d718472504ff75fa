-- The primary's tick. Assumes nothing.
use Rattle.rules.specs.declared.Reply.{Reply}
use Rattle.std.specs.Prelude.{ℕ, ◌+◌, Bool, true, false, cond, List, [], ◌∷◌, ltb}
use Rattle.lists.specs.Refusal.{Test, test, refusal}
use Rattle.records.specs.Number.{out_of_range}
use Rattle.detector.specs.declared.Detector.{Detector}
use Rattle.detector.specs.Tick.{ticked, expired}
use Rattle.rules.specs.declared.Primary.{Primary}
use Rattle.rules.specs.PrimaryState.{primary_ok, with_detector_alone_waiting}
use Rattle.rules.specs.Reply.{reply_of}

-- 1
abbrev pub primary_tick_tests : Primary → List Test
primary_tick_tests p = test out_of_range (primary_ok p) ∷ []

unfoldable pub primary_tick_refusal : Primary → ℕ
primary_tick_refusal p = refusal (primary_tick_tests p)

-- "a closed epoch is unacknowledged"
abbrev pub outstanding : Primary → Bool
outstanding p = ltb (p.acknowledged + 1) p.epoch

-- "At T the primary is alone: the waiting stream is dropped"
abbrev pub alone_at : Primary → Detector → Primary
alone_at p d = cond (expired d) (with_detector_alone_waiting p d true 0) (with_detector_alone_waiting p d false p.waiting)

-- "Once alone, a tick changes nothing"
unfoldable pub primary_tick_state : Primary → Primary
primary_tick_state p = cond p.alone p (alone_at p (ticked p.detector (outstanding p)))

unfoldable pub primary_tick_reply : Primary → Reply Primary
primary_tick_reply p = reply_of (primary_tick_refusal p) p (primary_tick_state p) 0
