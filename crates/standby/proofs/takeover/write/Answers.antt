use native.Mathlib.Omega.{arith}
use mathlib.Core.Path.{◌≡◌, refl}
use mathlib.Core.Bool.{Bool, true}
use Prim.Native.Nat.{ℕ, ◌+◌, ◌*◌, ◌≤◌}
use lib.Dec.{eqb}
use borrow.Author.Tests.{eqb-true, ltb-true}
use Rattle.lists.specs.Refusal.{refusal}
use Rattle.lists.proofs.TestLaws.{both, accepted}
use Rattle.lists.proofs.PageLaws.{page-end}
use Rattle.records.proofs.RefusalLaws.{number-passed}
use Rattle.rules.specs.declared.Standby.{Standby}
use Rattle.rules.specs.StandbyState.{standby_ok}
use Rattle.rules.specs.Takeover.{active_write_tests}
use Rattle.standby.proofs.takeover.write.Goals as goal

-- an accepted write lies inside its image
inside : (s : Standby) (lent units unit offset n : ℕ) (sized : Bool) → (sized ≡ true → offset + n ≤ s.settings.u) → refusal (active_write_tests s lent units unit sized) ≡ 0 → unit * s.settings.u + offset + n ≤ lent
inside s lent units unit offset n sized h e =
    let t = accepted (active_write_tests s lent units unit sized) refl e in
    let k = both (standby_ok s) (eqb lent (units * s.settings.u)) t.0 in
    omega (arith, eqb-true lent (units * s.settings.u) k.1, page-end unit units s.settings.u (ltb-true unit units t.1.1.0), h t.1.1.1.0)

pub write-requires : goal.write-requires
write-requires c =
    let a = c.args in
    inside a.s _ a.units _ _ _ a.sized c.requires.bytes_bound (number-passed _ _ c.check_write.ensures c.in_default.is)
