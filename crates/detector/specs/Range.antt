-- The range of a detector (document 01, number 1). Assumes nothing.
use Rattle.std.specs.Prelude.{Bool, ◌&&◌, not, leb}
use Rattle.settings.specs.Range.{patience_ok}
use Rattle.detector.specs.declared.Detector.{Detector}
use Rattle.detector.specs.Tick.{expired}

-- T's range, "a tick count over T, or at T while still protected or receiving"
unfoldable pub detector_ok : Detector → Bool → Bool
detector_ok d watching = patience_ok d.patience && leb d.count d.patience && not (watching && expired d)
