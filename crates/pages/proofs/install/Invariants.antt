-- `pages::install` meets its contract. The loop's invariant: the pages so far are copied.
use mathlib.Core.Path.{◌≡◌}
use mathlib.Core.List.{◌++◌}
use Rattle.marks.specs.Next.{marked_pages}
use Rattle.pages.proofs.InstallLaws.{copied}
use Rattle.pages.proofs.install.Given as goal

abbrev pub invariant-loop-page : goal.invariant-loop-page
invariant-loop-page l = (marked_pages l.marks l.m ≡ l.yielded ++ l.page-iterator) × (l.memory ≡ copied l.staged l.u l.initial.memory l.yielded)
