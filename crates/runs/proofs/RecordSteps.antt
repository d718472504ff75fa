-- The two calls that read a record, as functions of the record judged. Assumes nothing.
use Rattle.std.specs.Prelude.{Result}
use Prim.Native.Nat.{ℕ}
use mathlib.Core.Path.{◌≡◌, refl}
use mathlib.Core.List.{List, [], ◌++◌}
use lib.ListN.{take, drop}
use Rattle.records.specs.declared.Record.{Record}
use Rattle.records.specs.declared.Unread.{Unread}
use Rattle.rules.specs.Reply.{number_of, value_of, used_of, answer_of}
use Rattle.rules.specs.Stream.{ack_reply, ack_judged, ack_state}
use Rattle.rules.specs.Judge.{judged}
use Rattle.rules.specs.Read.{read_lent, read_reply, read_state, memory_after, staged_pages_after, staged_marks_after, staged_blocks_after, reply_after, read_memory, read_staged_pages, read_staged_marks, read_staged_blocks, read_reply_bytes}
use Rattle.rules.specs.World.{World}
use Rattle.rules.specs.World as call
use Rattle.rules.specs.Step.{Stepped, outcome, ack_written, step}

module _ (w : World) where
  -- ---- ACK
  abbrev pub ack_seen : ℕ → Result Record Unread
  ack_seen n = ack_judged w.primary.state (take n w.acks)

  abbrev pub ack_by : Result Record Unread → Stepped
  ack_by r =
      let p = w.primary in
      record {
        next = record {
          primary = record { state = ack_state p.state r; memory = p.memory; disk = p.disk; dirty = p.dirty; held = p.held; stream = p.stream };
          standby = w.standby;
          link = w.link;
          acks = drop (used_of (answer_of r)) w.acks;
        };
        outcome = outcome (number_of (answer_of r)) (value_of (answer_of r));
        handed = [];
      }

  pub ack-step : (n : ℕ) → step w (call.ack n) ≡ ack_by (ack_seen n)
  unfolding step ack_reply
  ack-step n = refl

  -- ---- read
  abbrev pub read_seen : ℕ → List ℕ → Result Record Unread
  read_seen n reply =
      let s = w.standby in
      judged s.state (read_lent s.memory s.staged_pages s.staged_marks s.staged_blocks reply) (take n w.link)

  abbrev pub read_by : List ℕ → List ℕ → Result Record Unread → Stepped
  read_by bytes reply r =
      let s = w.standby in
      record {
        next = record {
          primary = w.primary;
          standby = record {
            state = read_state s.state bytes r;
            memory = memory_after s.state s.memory s.staged_pages s.staged_marks r;
            disk = s.disk;
            staged_pages = staged_pages_after s.state bytes s.staged_pages r;
            staged_marks = staged_marks_after s.state s.staged_marks r;
            staged_blocks = staged_blocks_after s.state bytes s.staged_blocks r;
            area = s.area;
          };
          link = drop (used_of (answer_of r)) w.link;
          acks = w.acks ++ ack_written (record { state = read_state s.state bytes r; answer = answer_of r }) (reply_after reply r);
        };
        outcome = outcome (number_of (answer_of r)) (value_of (answer_of r));
        handed = [];
      }

  pub read_step : (n : ℕ) (reply : List ℕ) → step w (call.read n reply) ≡ read_by (take n w.link) reply (read_seen n reply)
  unfolding step read_reply read_memory read_staged_pages read_staged_marks read_staged_blocks read_reply_bytes
  read_step n reply = refl
