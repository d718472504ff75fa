-- `pages::write_dirty` meets its contract. The loop's invariant: the records of the pages so far are written.
use mathlib.Core.Path.{◌≡◌}
use mathlib.Core.List.{◌++◌}
use Rattle.lists.specs.Part.{PutDone}
use Rattle.marks.specs.Next.{marked_pages}
use Rattle.pages.proofs.DirtyLaws.{records_of}
use Rattle.pages.proofs.write_dirty.Given as goal

abbrev pub invariant-loop-page : goal.invariant-loop-page
invariant-loop-page l = (marked_pages l.dirty l.m ≡ l.yielded ++ l.page-iterator) × PutDone (records_of l.memory l.wide l.u l.epoch l.yielded) l.initial.out 0 l.out l.at
