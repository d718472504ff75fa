-- An accepted tick of the standby keeps the invariant. Assumes nothing.
use Prim.Native.Nat.{ℕ}
use mathlib.Core.Path.{◌≡◌, refl, sym, ap, ◌∙◌, subst}
use mathlib.Core.Bool.{Bool, true, false, cond, true≢false, false≢true}
use mathlib.Core.List.{List}
use borrow.Author.Tests.{eq-eqb}
use Rattle.settings.specs.declared.Settings.{Settings}
use Rattle.marks.specs.Mark.{cleared}
use Rattle.marks.proofs.MarkLaws.{length-cleared}
use Rattle.staging.specs.SlotList.{store_all}
use Rattle.staging.proofs.ListLaws.{due-only-due}
use Rattle.detector.specs.Tick.{expired, ticked}
use Rattle.detector.proofs.TickLaws.{ticked-patience}
use Rattle.rules.specs.declared.Mode.TheVariants.{TakingOver}
use Rattle.rules.specs.declared.Standby.{Standby}
use Rattle.rules.specs.StandbyState.{is_receiving, is_active, with_detector, with_mode}
use Rattle.rules.specs.Reached.{StandbyReached}
use Rattle.rules.specs.Takeover.{dropped, takes_over, standby_tick_state, standby_tick_reply, standby_tick_marks}
use Rattle.rules.specs.World as call
use Rattle.rules.specs.Step.{at_standby, step}
use Rattle.rules.proofs.TakeoverLaws.{tick-rests, tick-counts, tick-takes-over, ticked-reached}
use Rattle.runs.specs.Plain.{plain_accepted, plain_step}
use Rattle.runs.specs.Run.{Both, steps, run_call}
use Rattle.runs.proofs.Invariant.{Inv}
use Rattle.runs.proofs.ModeLaws.{receiving-not-active}
use Rattle.runs.proofs.KeptLaws.{slots-fit, standby-inv}
use Rattle.runs.proofs.Frame.{Accepted, KeepsAccepted}

-- the pair with this state and these marks at the standby
abbrev pub after : Standby → List ℕ → Both → Both
after s marks b =
    let e = b.world.standby in
    record {
      world = at_standby b.world (record { state = s; memory = e.memory; disk = e.disk; staged_pages = e.staged_pages; staged_marks = marks; staged_blocks = e.staged_blocks; area = e.area });
      plain = b.plain;
    }

pub after_is : (u : ℕ) (b : Both) → Accepted b call.standby_tick
    → run_call steps u b call.standby_tick
    ≡ after (standby_tick_state b.world.standby.state)
    (cond (takes_over b.world.standby.state) (cleared b.world.standby.staged_marks b.world.standby.state.settings.m) b.world.standby.staged_marks) b
unfolding step standby_tick_reply standby_tick_marks plain_step plain_accepted
after_is u b e = rw (eq-eqb _ _ e)

-- ---- the state, by what the tick finds
abbrev counted : Standby → Standby
counted s = with_detector s (ticked s.detector true)

module _ (g : Settings) (b : Both) (i : Inv g b) where
  -- a tick that only counts
  counted-inv : is_receiving b.world.standby.state.mode ≡ true → expired (ticked b.world.standby.state.detector true) ≡ false
      → Inv g (after (counted b.world.standby.state) b.world.standby.staged_marks b)
  counted-inv on f =
      let e = b.world.standby in
      let k = i.holds.standby_kept in
      let t = i.holds.taker in
      let s = e.state in
      let p = ticked-patience s.detector true in
      standby-inv g b i (after (counted s) e.staged_marks b).world.standby b.plain.activated b.plain.standby_memory b.plain.standby_disk
      (record {
        received_is = t.received_is;
        mode_is = t.mode_is;
        processor_is = t.processor_is;
        memory_is = t.memory_is;
        disk_is = t.disk_is;
        staged_memory = t.staged_memory;
        staged_disk = t.staged_disk;
        staged_processor = t.staged_processor;
        active_memory = t.active_memory;
        active_disk = t.active_disk;
        settled = t.settled;
        area_is = t.area_is;
      })
      (record {
        settings = k.settings;
        patience = p ∙ k.patience;
        reached = subst StandbyReached (tick-counts s on f).0 (ticked-reached s k.reached);
        memory = k.memory;
        disk = k.disk;
        staged_pages = k.staged_pages;
        staged_marks = k.staged_marks;
        staged_blocks = k.staged_blocks;
        area = k.area;
      })

  -- the tick at which the standby takes over
  dropped-inv : is_receiving b.world.standby.state.mode ≡ true → expired (ticked b.world.standby.state.detector true) ≡ true
      → Inv g (after (with_mode (dropped (counted b.world.standby.state)) TakingOver) (cleared b.world.standby.staged_marks b.world.standby.state.settings.m) b)
  dropped-inv on f =
      let e = b.world.standby in
      let k = i.holds.standby_kept in
      let t = i.holds.taker in
      let s = e.state in
      let p = ticked-patience s.detector true in
      let none : is_active s.mode ≡ false = receiving-not-active s.mode on in
      let due = (slots-fit g e k).due_high in
      standby-inv g b i (after (with_mode (dropped (counted s)) TakingOver) (cleared e.staged_marks s.settings.m) b).world.standby b.plain.activated b.plain.standby_memory b.plain.standby_disk
      (record {
        received_is = t.received_is;
        mode_is = sym none ∙ t.mode_is;
        processor_is = t.processor_is;
        memory_is = t.memory_is;
        disk_is = λ z. ap (store_all g.u e.disk) (due-only-due g.u s.slots e.staged_blocks due) ∙ t.disk_is z;
        staged_memory = λ z. absurd (false≢true z);
        staged_disk = λ z. absurd (false≢true z);
        staged_processor = λ z. absurd (false≢true z);
        active_memory = t.active_memory;
        active_disk = t.active_disk;
        settled = λ z. absurd (true≢false (sym z ∙ sym t.mode_is ∙ none));
        area_is = t.area_is;
      })
      (record {
        settings = k.settings;
        patience = p ∙ k.patience;
        reached = subst StandbyReached (tick-takes-over s on f).0 (ticked-reached s k.reached);
        memory = k.memory;
        disk = k.disk;
        staged_pages = k.staged_pages;
        staged_marks = length-cleared e.staged_marks s.settings.m ∙ k.staged_marks;
        staged_blocks = k.staged_blocks;
        area = k.area;
      })

  -- ---- the state and the marks, by what the tick finds
  abbrev marks_after : Bool → List ℕ
  marks_after full = cond full (cleared b.world.standby.staged_marks b.world.standby.state.settings.m) b.world.standby.staged_marks

  abbrev Kept : Standby → Bool → Type 0
  Kept s full = Inv g (after s (marks_after full) b)

  by_state : (s : Standby) (full : Bool) → (standby_tick_state b.world.standby.state ≡ s) × (takes_over b.world.standby.state ≡ full) → Kept s full
      → Kept (standby_tick_state b.world.standby.state) (takes_over b.world.standby.state)
  by_state s full is k = subst (Kept (standby_tick_state b.world.standby.state)) (sym is.1) (subst (λ (x : Standby). Kept x full) (sym is.0) k)

  by : (on full : Bool) → is_receiving b.world.standby.state.mode ≡ on → expired (ticked b.world.standby.state.detector true) ≡ full
      → Kept (standby_tick_state b.world.standby.state) (takes_over b.world.standby.state)
  by false full x y = let s = b.world.standby.state in by_state s false (tick-rests s x) i
  by true false x y = let s = b.world.standby.state in by_state (counted s) false (tick-counts s x y) (counted-inv x y)
  by true true x y = let s = b.world.standby.state in by_state (with_mode (dropped (counted s)) TakingOver) true (tick-takes-over s x y) (dropped-inv x y)

pub standby-tick-keeps : (g : Settings) → KeepsAccepted g call.standby_tick
standby-tick-keeps g b i e =
    subst (Inv g) (sym (after_is g.u b e)) (by g b i (is_receiving b.world.standby.state.mode) (expired (ticked b.world.standby.state.detector true)) refl refl)
