-- The lengths of the eleven buffers that start is lent. Assumes nothing.
use Rattle.std.specs.Prelude.{ℕ, List}
use Rattle.rules.specs.declared.StartLent.{StartLent}
use Rattle.rules.specs.World.{start_lent}

abbrev pub start_lens : (memory disk dirty held stream standby_memory standby_disk staged_pages staged_marks staged_blocks area : List ℕ) → StartLent
start_lens memory disk dirty held stream standby_memory standby_disk staged_pages staged_marks staged_blocks area =
    start_lent
    (record {
      memory = memory;
      disk = disk;
      dirty = dirty;
      held = held;
      stream = stream;
      standby_memory = standby_memory;
      standby_disk = standby_disk;
      staged_pages = staged_pages;
      staged_marks = staged_marks;
      staged_blocks = staged_blocks;
      area = area;
    })
