-- The second invariant, beside `Inv`: each record under way is the one that the standby asks for, up to what the primary has sent; the ACKs under way lead
-- from the acknowledged epoch to the received one. Assumes nothing.
use Prim.Native.Nat.{ℕ, ◌+◌, ◌<◌}
use mathlib.Core.Path.{◌≡◌, sym, ◌∙◌, subst}
use mathlib.Core.Bool.{Bool, true, false, false≢true}
use mathlib.Core.List.{List, [], ◌∷◌, ◌++◌}
use lib.ListN.{take}
use Rattle.records.specs.Kind.{is_wide}
use Rattle.records.specs.Message.{Message, encode_all}
use Rattle.settings.specs.declared.Settings.{Settings}
use Rattle.rules.specs.declared.Standby.{Standby}
use Rattle.rules.specs.PrimaryState.{written_numbers}
use Rattle.rules.specs.StandbyState.{is_receiving}
use Rattle.rules.specs.World.{PrimaryEnd, World, Call}
use Rattle.rules.specs.Step.{step}
use Rattle.runs.specs.Run.{Both}
use Rattle.runs.proofs.Effects.{All, all_append, Readable}
use Rattle.runs.proofs.Invariant.{ack_bytes, Inv}
use Rattle.runs.proofs.LinkLaws.{bytes-moved, bytes-append}
use Rattle.runs.proofs.Frame.{Accepted}
use Rattle.runs.proofs.Walk.{Counts, counts_of, blocks_only, Walk, walk-append}

-- ---- what it speaks of: `out` is the bytes waiting
pub record Sender : Type 0 where
  pub out : List ℕ
  pub alone : Bool
  pub epoch : ℕ
  -- the open epoch's different blocks, and its BLOCKs
  pub numbers : List ℕ
  pub records : ℕ
  pub acknowledged : ℕ

pub record Receiver : Type 0 where
  pub receiving : Bool
  pub counts : Counts

pub record View : Type 0 where
  pub sender : Sender
  pub receiver : Receiver
  pub link : List ℕ
  pub acks : List ℕ

abbrev pub sender_of : PrimaryEnd → Sender
sender_of p = record { out = take p.state.waiting p.stream; alone = p.state.alone; epoch = p.state.epoch; numbers = written_numbers p.state; records = p.state.records; acknowledged = p.state.acknowledged }

abbrev pub receiver_of : Standby → Receiver
receiver_of s = record { receiving = is_receiving s.mode; counts = counts_of s }

abbrev pub view_of : World → View
view_of w = record { sender = sender_of w.primary; receiver = receiver_of w.standby.state; link = w.link; acks = w.acks }

-- ---- the ACKs under way: their epochs rise from the acknowledged one to the one before that which is asked for
abbrev pub Leads : ℕ → ℕ → List ℕ → Type 0
Leads a asked [] = a + 1 ≡ asked
Leads a asked (e ∷ es) = (a < e) × Leads e asked es

pub record Trail (acks : List ℕ) (acknowledged asked : ℕ) : Type 0 where
  pub epochs : List ℕ
  pub are : acks ≡ ack_bytes epochs
  pub leads : Leads acknowledged asked epochs

-- ---- the records in flight, sent and not yet accepted, and the bytes of them that were dropped
pub record InFlight (u : ℕ) (wide : Bool) (link out : List ℕ) (alone : Bool) : Type 0 where
  pub records : List Message
  pub lost : List ℕ
  pub bytes : link ++ (out ++ lost) ≡ encode_all wide records
  pub lossless : alone ≡ false → lost ≡ []
  pub readable : All (Readable u wide) records

-- ---- the invariant
pub record Pending (g : Settings) (v : View) : Type 0 where
  pub flight : InFlight g.u (is_wide g.m) v.link v.sender.out v.sender.alone
  pub walk : v.receiver.receiving ≡ true → Walk g v.receiver.counts flight.records (blocks_only v.sender.epoch v.sender.numbers v.sender.records)
  pub trail : Trail v.acks v.sender.acknowledged v.receiver.counts.epoch

-- both invariants hold
pub record Agree (g : Settings) (b : Both) : Type 0 where
  pub inv : Inv g b
  pub pending : Pending g (view_of b.world)

-- an accepted call keeps the second
abbrev pub KeepsPending : Settings → Call → Type 0
KeepsPending g c = (b : Both) → Inv g b → Accepted b c → Pending g (view_of b.world) → Pending g (view_of (step b.world c).next)

-- ---- what calls do to it
abbrev pub with_sender : View → Sender → View
with_sender v s = record { sender = s; receiver = v.receiver; link = v.link; acks = v.acks }

abbrev pub with_receiver : View → Receiver → View
with_receiver v r = record { sender = v.sender; receiver = r; link = v.link; acks = v.acks }

-- with other bytes waiting, and another open epoch with its blocks
abbrev pub sending : Sender → List ℕ → ℕ → List ℕ → ℕ → Sender
sending s out epoch numbers records = record { out = out; alone = s.alone; epoch = epoch; numbers = numbers; records = records; acknowledged = s.acknowledged }

-- with bytes moved from the primary to the link
abbrev pub moved_to : View → List ℕ → List ℕ → View
moved_to v link out = record { sender = sending v.sender out v.sender.epoch v.sender.numbers v.sender.records; receiver = v.receiver; link = link; acks = v.acks }

module _ (g : Settings) (v : View) (p : Pending g v) where
  -- the standby no longer receives
  pub pending-stopped : (c : Counts) → c.epoch ≡ v.receiver.counts.epoch → Pending g (with_receiver v (record { receiving = false; counts = c }))
  pending-stopped c same = record { flight = p.flight; walk = λ z. absurd (false≢true z); trail = subst (Trail v.acks v.sender.acknowledged) (sym same) p.trail }

  -- the primary takes the next ACK
  pub pending-acked : (e : ℕ) (acks : List ℕ) → Trail acks e v.receiver.counts.epoch
      → Pending g (record { sender = record { out = v.sender.out; alone = v.sender.alone; epoch = v.sender.epoch; numbers = v.sender.numbers; records = v.sender.records; acknowledged = e }; receiver = v.receiver; link = v.link; acks = acks })
  pending-acked e acks t = record { flight = p.flight; walk = p.walk; trail = t }

  -- the primary is alone, and what waits is dropped
  pub pending-dropped : Pending g (with_sender v (record { out = []; alone = true; epoch = v.sender.epoch; numbers = v.sender.numbers; records = v.sender.records; acknowledged = v.sender.acknowledged }))
  pending-dropped =
      let f = p.flight in
      record {
        flight = record { records = f.records; lost = v.sender.out ++ f.lost; bytes = f.bytes; lossless = λ z. absurd (false≢true (sym z)); readable = f.readable };
        walk = p.walk;
        trail = p.trail;
      }

  pub pending-moved : (link out : List ℕ) → link ++ out ≡ v.link ++ v.sender.out → Pending g (moved_to v link out)
  pending-moved link out same =
      let f = p.flight in
      record {
        flight = record {
          records = f.records;
          lost = f.lost;
          bytes = bytes-moved v.link v.sender.out link out f.lost same ∙ f.bytes;
          lossless = f.lossless;
          readable = f.readable;
        };
        walk = p.walk;
        trail = p.trail;
      }

  -- records are appended: they lead from the primary's counts to its next ones
  pub pending-appended : (ms : List Message) (epoch : ℕ) (numbers : List ℕ) (records : ℕ) → v.sender.alone ≡ false → All (Readable g.u (is_wide g.m)) ms
      → Walk g (blocks_only v.sender.epoch v.sender.numbers v.sender.records) ms (blocks_only epoch numbers records)
      → Pending g (with_sender v (sending v.sender (v.sender.out ++ encode_all (is_wide g.m) ms) epoch numbers records))
  pending-appended ms epoch numbers records on readable more =
      let f = p.flight in
      record {
        flight = record {
          records = f.records ++ ms;
          lost = f.lost;
          bytes = bytes-append (is_wide g.m) v.link v.sender.out f.lost f.records ms (f.lossless on) f.bytes;
          lossless = f.lossless;
          readable = all_append (Readable g.u (is_wide g.m)) f.records ms f.readable readable;
        };
        walk = λ z. walk-append g v.receiver.counts f.records (blocks_only v.sender.epoch v.sender.numbers v.sender.records) ms (blocks_only epoch numbers records) (p.walk z) more;
        trail = p.trail;
      }
