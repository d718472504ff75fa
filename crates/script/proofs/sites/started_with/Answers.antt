-- `script::sites::started_with` meets its contract. Assumes nothing.
use mathlib.Core.Path.{ap, ◌∙◌}
use Rattle.rules.specs.declared.Started.{Started}
use Rattle.rules.specs.Start.{started}
use Rattle.script.specs.Pair.{settings_with, processor_of, zero_buffers}
use Rattle.script.specs.Site.{world_of}
use Rattle.script.proofs.SiteLaws.{start-world}
use Rattle.script.proofs.sites.started_with.Goals as goal

pub returns : goal.returns
unfolding started
returns c =
    let s = c in
    let g = s.settings_with in
    let k = s.start-r.ensures in
    let made = rw g.ensures at k.value in
    let t = settings_with s.args.t in
    record {
      site_value = ap world_of c.opened.ensures ∙ start-world t (processor_of 0) (zero_buffers t) _ _ _ _ _ _ _
          (made, (rw g.ensures at k.dirty_after, (rw g.ensures at k.standby_memory_after, (rw g.ensures at k.standby_disk_after, (rw g.ensures at k.staged_marks_after, rw g.ensures at k.area_after)))));
      number_value = ap (λ (r : Started). r.number) made;
    }
