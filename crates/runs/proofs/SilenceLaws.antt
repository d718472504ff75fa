-- What one call does to the standby's count of the silence and to its mode, from any world. Assumes nothing.
use Prim.Native.Nat.{ℕ, ◌+◌, ◌≤◌, ◌<◌}
use mathlib.Core.Path.{◌≡◌, refl, sym, ap, ◌∙◌, subst}
use mathlib.Core.Bool.{Bool, true, false, cond, false≢true}
use mathlib.Core.List.{List}
use native.Mathlib.Omega.{arith}
use lib.ListN.{length}
use borrow.Author.Tests.{leb-true, leb-false, lt-leb}
use Rattle.lists.proofs.TestLaws.{not-both}
use Rattle.detector.specs.declared.Detector.{Detector}
use Rattle.detector.specs.Tick.{expired, ticked}
use Rattle.detector.proofs.TickLaws.{ticked-counts}
use Rattle.rules.specs.declared.Mode.TheVariants.{Active}
use Rattle.rules.specs.declared.Standby.{Standby}
use Rattle.rules.specs.declared.ReadLent.{ReadLent}
use Rattle.rules.specs.StandbyState.{is_receiving, is_taking_over, with_mode}
use Rattle.rules.specs.Reply.{number_of}
use Rattle.rules.specs.Read.{read_reply}
use Rattle.rules.specs.Flush.{flush_refusal, flush_reply}
use Rattle.rules.specs.Takeover.{standby_tick_refusal, standby_tick_state, standby_tick_reply, activation_refusal, activation_reply, active_memory_write_refusal, active_memory_write_reply, active_disk_write_refusal, active_disk_write_reply}
use Rattle.rules.specs.World.{World, Call}
use Rattle.rules.specs.World as call
use Rattle.rules.specs.Step.{step}
use Rattle.rules.proofs.ReplyLaws.{pick-cases}
use Rattle.rules.proofs.ReadLaws.{read-mode, record-resets, read-receives}
use Rattle.rules.proofs.TakeoverLaws.{tick-rests, tick-counts, tick-takes-over, activation-accepted}
use Rattle.runs.specs.Silence.{ends_silence, adds_tick, silence_after}
use Rattle.runs.proofs.ModeLaws.{taking-not-receiving}
use Rattle.runs.proofs.SumSteps.{standby-sum-world}
use Rattle.runs.proofs.Refused.{refused-world}

-- a standby of patience t that, if it receives, has counted n ticks of silence, fewer than t
pub record Silent (t n : ℕ) (s : Standby) : Type 0 where
  pub patience : s.detector.patience ≡ t
  pub count : is_receiving s.mode ≡ true → (s.detector.count ≡ n) × (n < t)

-- what a call makes of it, after which there are m ticks
pub record Goes (t : ℕ) (s : Standby) (m : ℕ) (next : Standby) : Type 0 where
  pub silent : Silent t m next
  pub takes : is_receiving s.mode ≡ true → is_receiving next.mode ≡ false → t ≤ m
  pub stays : is_receiving s.mode ≡ false → is_receiving next.mode ≡ false

module _ (t n : ℕ) (s : Standby) (h : Silent t n s) where
  -- one that leaves the detector and the mode
  goes_kept : (next : Standby) → next.detector ≡ s.detector → next.mode ≡ s.mode → Goes t s n next
  goes_kept next d m =
      let same = ap is_receiving m in
      record {
        silent = record {
          patience = ap (λ (x : Detector). x.patience) d ∙ h.patience;
          count = λ on. let q = h.count (sym same ∙ on) in (ap (λ (x : Detector). x.count) d ∙ q.0, q.1);
        };
        takes = λ on off. absurd (not-both _ on (sym same ∙ off));
        stays = λ off. same ∙ off;
      }

  goes_same : Goes t s n s
  goes_same = goes_kept s refl refl

  -- an accepted record
  read_goes : (l : ReadLent) (bytes : List ℕ) → number_of (read_reply s l bytes).answer ≡ 0 → Goes t s 0 (read_reply s l bytes).state
  read_goes l bytes e =
      let d = record-resets s l bytes e in
      let on = read-receives s l bytes e in
      let same = ap is_receiving (read-mode s l bytes) in
      record {
        silent = record { patience = ap (λ (x : Detector). x.patience) d ∙ h.patience; count = λ _. (ap (λ (x : Detector). x.count) d, omega (arith, (h.count on).1)) };
        takes = λ _ off. absurd (not-both _ on (sym same ∙ off));
        stays = λ off. absurd (not-both _ on off);
      }

  -- a tick
  tick_goes : Goes t s (n + 1) (standby_tick_state s)
  tick_goes = go (is_receiving s.mode) (expired (ticked s.detector true)) refl refl
    where
      counted : is_receiving s.mode ≡ true → ((ticked s.detector true).patience ≡ t) × ((ticked s.detector true).count ≡ n + 1)
      counted on =
          let q = h.count on in
          let d = ticked-counts s.detector (lt-leb s.detector.patience s.detector.count (omega (arith, q.0, q.1, h.patience))) in
          (ap (λ (x : Detector). x.patience) d ∙ h.patience, ap (λ (x : Detector). x.count) d ∙ ap (λ (k : ℕ). k + 1) q.0)

      go : (a b : Bool) → is_receiving s.mode ≡ a → expired (ticked s.detector true) ≡ b → Goes t s (n + 1) (standby_tick_state s)
      go false b off x =
          subst (Goes t s (n + 1)) (sym (tick-rests s off).0)
          (record { silent = record { patience = h.patience; count = λ on. absurd (not-both _ on off) }; takes = λ on _. absurd (not-both _ on off); stays = λ z. z })
      go true false on x =
          let c = counted on in
          let below : (ticked s.detector true).count < (ticked s.detector true).patience = leb-false _ _ x in
          subst (Goes t s (n + 1)) (sym (tick-counts s on x).0)
          (record {
            silent = record { patience = c.0; count = λ _. (c.1, omega (arith, below, c.0, c.1)) };
            takes = λ _ off. absurd (not-both _ on off);
            stays = λ off. absurd (not-both _ on off);
          })
      go true true on x =
          let c = counted on in
          let over : (ticked s.detector true).patience ≤ (ticked s.detector true).count = leb-true _ _ x in
          subst (Goes t s (n + 1)) (sym (tick-takes-over s on x).0)
          (record {
            silent = record { patience = c.0; count = λ z. absurd (false≢true z) };
            takes = λ _ _. omega (arith, over, c.0, c.1);
            stays = λ _. refl;
          })

  -- an activation
  active-goes : is_taking_over s.mode ≡ true → Goes t s n (with_mode s Active)
  active-goes taking =
      record {
        silent = record { patience = h.patience; count = λ z. absurd (false≢true z) };
        takes = λ on _. absurd (not-both _ on (taking-not-receiving s.mode taking));
        stays = λ _. refl;
      }

module _ (t n : ℕ) (w : World) (h : Silent t n w.standby.state) where
  abbrev state : Standby
  state = w.standby.state

  same : Goes t state n state
  same = goes_same t n state h

  accepted-goes : (c : Call) → (step w c).outcome.number ≡ 0 → Goes t state (cond (ends_silence c) 0 (cond (adds_tick c) (n + 1) n)) (step w c).next.standby.state
  unfolding step flush_reply standby_tick_reply activation_reply active_memory_write_reply active_disk_write_reply
  accepted-goes (call.memory_write page offset bytes) e = same
  accepted-goes (call.disk_write block bytes) e = same
  accepted-goes (call.packet port bytes) e = same
  accepted-goes (call.checkpoint processor) e = same
  accepted-goes (call.drain k destination) e = same
  accepted-goes (call.ack k) e = same
  accepted-goes (call.take port destination) e = same
  accepted-goes call.primary_tick e = same
  accepted-goes call.primary_sum e = same
  accepted-goes (call.read k reply) e = read_goes t n state h _ _ e
  accepted-goes (call.flush k) e =
      let s = w.standby in
      pick-cases (Goes t state n) (flush_refusal state (length s.staged_blocks) (length s.disk)) _ state (λ _. goes_kept t n state h _ refl refl) (λ _. same)
  accepted-goes call.standby_tick e =
      pick-cases (Goes t state (n + 1)) (standby_tick_refusal state (length w.standby.staged_marks)) _ state (λ _. tick_goes t n state h) (λ ne. absurd (ne e))
  accepted-goes call.activation e =
      let area = length w.standby.area in
      pick-cases (Goes t state n) (activation_refusal state area) _ state (λ _. active-goes t n state h (activation-accepted state area e).taking_over) (λ _. same)
  accepted-goes (call.active_memory_write page offset bytes) e =
      pick-cases (Goes t state n) (active_memory_write_refusal state (length w.standby.memory) page offset (length bytes)) state state (λ _. same) (λ _. same)
  accepted-goes (call.active_disk_write block bytes) e =
      pick-cases (Goes t state n) (active_disk_write_refusal state (length w.standby.disk) block (length bytes)) state state (λ _. same) (λ _. same)
  accepted-goes (call.standby_sum order) e = subst (λ (x : World). Goes t state n x.standby.state) (sym (standby-sum-world w order)) same

  -- any call, a refused one too
  pub step-goes : (c : Call) → Goes t w.standby.state (silence_after n c (step w c).outcome) (step w c).next.standby.state
  step-goes c =
      pick-cases (λ (m : ℕ). Goes t state m (step w c).next.standby.state) (step w c).outcome.number _ n (accepted-goes c)
      (λ ne. subst (λ (x : World). Goes t state n x.standby.state) (sym (refused-world w c ne)) same)
