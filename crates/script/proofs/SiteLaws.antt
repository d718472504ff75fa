-- Laws of a site: the lengths of its arrays; that flush, tick and activation keep the last received epoch, on which the
-- unread ACKs depend; and the site that start makes. Assumes nothing.
use mathlib.Core.Path.{◌≡◌, refl, sym}
use mathlib.Core.Bool.{Bool, true, false, cond}
use mathlib.Core.List.{List}
use Prim.Native.Nat.{ℕ, ◌<◌, ◌^◌}
use lib.Dec.{eqb}
use lib.ListN.{length}
use mir.Val.{Val}
use denote.Laws.{Is}
use denote.Struct.Declared.{row}
use Rattle.lists.specs.Refusal.{pick}
use Rattle.settings.specs.declared.Settings.{Settings}
use Rattle.detector.specs.Tick.{expired, ticked}
use Rattle.rules.specs.declared.Standby.{Standby}
use Rattle.rules.specs.StandbyState.{is_receiving}
use Rattle.rules.specs.declared.StartLent.{StartLent}
use Rattle.rules.specs.declared.Started.{Started}
use Rattle.rules.specs.Start.{start_refusal, opened_standby, no_standby, started, start_copy, start_marks, start_area}
use Rattle.rules.specs.World.{Processor, Buffers, start_lent, start_world}
use Rattle.rules.specs.Flush.{flush_refusal, flush_reply}
use Rattle.rules.specs.Takeover.{standby_tick_refusal, standby_tick_state, standby_tick_reply, activation_refusal, activation_reply}
use Rattle.rules.proofs.TakeoverLaws.{tick-rests, tick-counts, tick-takes-over}
use Rattle.script.specs.declared.Site.{Site}
use Rattle.script.specs.Site.{acks_from, acks_between, world_of}
use Rattle.script.specs.contracts.Site.{the_type}

-- ---- the lengths of the arrays, which their types give, as lending one as a slice asks them; those that `search` does not reach
pub record Lengths (s : Site) : Type 0 where
  pub held : 256 ≡ length s.primary.held
  pub stream : 1024 ≡ length s.primary.stream
  pub marks : 1 ≡ length s.standby.marks
  pub blocks : 256 ≡ length s.standby.blocks
  pub area : 8 ≡ length s.standby.area
  pub link : 2048 ≡ length s.link

-- of a parameter s, where c is the function's start: `lengths c.args.s _ c.good.0`
pub lengths : (s : Site) (vs : List Val) → Is (row the_type) s vs → Lengths s
lengths s vs g =
    let p = g.1.1.0.1.1.1.1.1.1 in
    let b = g.1.1.1.0.1.1.1.1.1.1 in
    record {
      held = sym p.0.1.0.1;
      stream = sym p.1.0.1.0.1;
      marks = sym b.0.1.0.1;
      blocks = sym b.1.0.1.0.1;
      area = sym b.1.1.0.1.0.1;
      link = sym g.1.1.1.1.0.1.0.1;
    }

-- the last received epoch is of 4 bytes
pub received-low : (s : Site) (vs : List Val) → Is (row the_type) s vs → s.standby.state.received < 2 ^ 32
received-low s vs g = g.1.1.1.0.1.1.0.1.1.1.1.1.0.1

-- ---- calls of the standby that keep the last received epoch
pick-received : (number : ℕ) (new old : Standby) → new.received ≡ old.received → (pick number new old).received ≡ old.received
pick-received number new old e = go (eqb number 0)
  where
    go : (b : Bool) → (cond b new old).received ≡ old.received
    go true = e
    go false = refl

pub flush-received : (s : Standby) (slots disk n : ℕ) → (flush_reply s slots disk n).state.received ≡ s.received
unfolding flush_reply
flush-received s slots disk n = pick-received (flush_refusal s slots disk) _ s refl

tick-state-received : (s : Standby) → (standby_tick_state s).received ≡ s.received
tick-state-received s = go (is_receiving s.mode) (expired (ticked s.detector true)) refl refl
  where
    go : (a b : Bool) → is_receiving s.mode ≡ a → expired (ticked s.detector true) ≡ b → (standby_tick_state s).received ≡ s.received
    go false b e x = rw (tick-rests s e).0
    go true false e x = rw (tick-counts s e x).0
    go true true e x = rw (tick-takes-over s e x).0

pub tick-received : (s : Standby) (marks : ℕ) → (standby_tick_reply s marks).state.received ≡ s.received
unfolding standby_tick_reply
tick-received s marks = pick-received (standby_tick_refusal s marks) (standby_tick_state s) s (tick-state-received s)

pub activation-received : (s : Standby) (area : ℕ) → (activation_reply s area).state.received ≡ s.received
unfolding activation_reply
activation-received s area = pick-received (activation_refusal s area) _ s refl

pub ruleset received = (flush-received, tick-received, activation-received)

-- ---- start, accepted or refused
pub start-received : (g : Settings) (l : StartLent) (processor : List ℕ) → (started g l processor).standby.received ≡ 0
unfolding started
start-received g l processor = go (eqb (start_refusal g l) 0)
  where
    go : (b : Bool) → (cond b (opened_standby g processor) no_standby).received ≡ 0
    go true = refl
    go false = refl

-- the site that is made of what start gave: no bytes on the link, and no ACK unread
module _ (g : Settings) (processor : Processor) (b : Buffers) where
  pub start-world : (r : Started) (dirty memory disk marks area link : List ℕ)
      → (r ≡ started g (start_lent b) processor.bytes)
      × ((dirty ≡ start_marks g (start_lent b) b.dirty)
      × ((memory ≡ start_copy g (start_lent b) b.memory b.standby_memory)
      × ((disk ≡ start_copy g (start_lent b) b.disk b.standby_disk)
      × ((marks ≡ start_marks g (start_lent b) b.staged_marks)
      × (area ≡ start_area g (start_lent b) b.area)))))
      → world_of
      (record {
        primary = record { state = r.primary; memory = b.memory; disk = b.disk; dirty = dirty; held = b.held; stream = b.stream };
        standby = record { state = r.standby; memory = memory; disk = disk; pages = b.staged_pages; marks = marks; blocks = b.staged_blocks; area = area };
        link = link;
        linked = 0;
        unread = 1;
      })
      ≡ start_world g processor b
  unfolding world_of start_world acks_between acks_from
  start-world r dirty memory disk marks area link m =
      rw (m.0, m.1.0, m.1.1.0, m.1.1.1.0, m.1.1.1.1.0, m.1.1.1.1.1, start-received g (start_lent b) processor.bytes)
