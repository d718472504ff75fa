-- A read under the second invariant: its number, and that an accepted one keeps the invariant. Assumes nothing.
use Prim.Native.Nat.{ℕ, ◌+◌, ◌≤◌, ◌<◌}
use mathlib.Core.Path.{◌≡◌, refl, sym, ap, ◌∙◌, subst}
use mathlib.Core.Logic.{⊎_elim}
use mathlib.Core.Bool.{Bool, true, false, false≢true}
use mathlib.Core.List.{List, [], ◌∷◌, ◌++◌, append-nil, append_assoc}
use native.Mathlib.Omega.{arith}
use lib.ListN.{length, take, drop, length-drop}
use Rattle.lists.specs.LittleEndian.{le_bytes, le_at}
use Rattle.lists.proofs.LittleEndianLaws.{le_at-le_bytes}
use Rattle.lists.proofs.SelectLaws.{with_number}
use Rattle.lists.proofs.TestLaws.{by-test, cond-true, cond-false}
use Rattle.records.specs.declared.Reader.TheVariants as reader
use Rattle.records.specs.Kind.{BLOCK, is_wide, commit_kind, number_width, counts_end, body_length, record_length, header_length}
use Rattle.records.specs.Read.{cut_short, used_of}
use Rattle.records.specs.Number.{slots_full}
use Rattle.records.specs.Message.{Message, message_kind, encode, encode_all, read_as}
use Rattle.records.specs.Message as message
use Rattle.records.specs.Write.{unit_record, ack_record}
use Rattle.records.proofs.FramedLaws.{field_at}
use Rattle.records.proofs.KindLaws.{page-no-commit, commit-is-commit, ack-not-for, width-range, page-length, commit-length}
use Rattle.records.proofs.MessageLaws.{length-message, used-message}
use Rattle.records.proofs.WriteLaws.{ack-written}
use Rattle.settings.specs.declared.Settings.{Settings}
use Rattle.settings.specs.declared.StandbySettings.{StandbySettings}
use Rattle.staging.specs.Slot.{fresh_numbers, with_block}
use Rattle.staging.proofs.BlockLaws.{fresh-with-block, slot-fits, stage-fits, fresh-all-due}
use Rattle.rules.specs.PrimaryState.{written_numbers}
use Rattle.rules.specs.StandbyState.{is_receiving}
use Rattle.rules.specs.Judge.{record_refusal}
use Rattle.rules.specs.World.{World}
use Rattle.rules.specs.World as call
use Rattle.rules.specs.Step.{Stepped, step}
use Rattle.rules.proofs.JudgeLaws.{block-accepted}
use Rattle.runs.specs.Progress.{whole_record, without_first, block_at, read_number}
use Rattle.runs.proofs.Effects.{All, Readable}
use Rattle.runs.proofs.Invariant.{StandbyKept}
use Rattle.runs.proofs.KeptLaws.{standby-settings, standby-unit, slots-few, slots-ok, fresh-count}
use Rattle.runs.proofs.RecordSteps.{read_by, read_step}
use Rattle.runs.proofs.Reading.{whole-first}
use Rattle.runs.proofs.ReadStep.{Next, ReadFound, short, next, size_is, next-inside, read_off, read_found}
use Rattle.runs.proofs.ReadCommit.{acks-more}
use Rattle.runs.proofs.Walk.{Counts, counts_of, blocks_only, Asked, counted, Walk}
use Rattle.runs.proofs.AskedLaws.{kind_number, Names, asked-number, asked-full}
use Rattle.runs.proofs.Pending.{View, view_of, Leads, Trail, Pending, KeepsPending}

-- ---- the view after a record: a COMMIT writes an ACK
abbrev written : Message → List ℕ
written (message.page e p bs) = []
written (message.block e n bs) = []
written (message.state e bs) = []
written (message.commit e p b) = ack_record e
written (message.ack e) = []

-- with these counts, so many bytes used and these ACKs more
abbrev used : View → Counts → ℕ → List ℕ → View
used v c n acks = record { sender = v.sender; receiver = record { receiving = v.receiver.receiving; counts = c }; link = drop n v.link; acks = v.acks ++ acks }

abbrev taken : Bool → View → Message → View
taken wide v x = used v (counted v.receiver.counts x) (length (encode wide x)) (written x)

module _ (w : World) (bytes reply : List ℕ) where
  abbrev unit : ℕ
  unit = w.standby.state.settings.u

  abbrev wide : Bool
  wide = is_wide w.standby.state.settings.m

  -- the bytes used are the record's own
  used-own : (c : Counts) (acks : List ℕ) (x : Message) → message.Fits unit wide x → used (view_of w) c (used_of (read_as unit wide x)) acks ≡ used (view_of w) c (length (encode wide x)) acks
  used-own c acks x f = ap (λ (n : ℕ). used (view_of w) c n acks) (used-message unit wide x f)

  -- the slots after a BLOCK have its epoch's blocks with this one
  abbrev Counted : Message → Type 0
  Counted (message.page e p bs) = Unit {0}
  Counted (message.block e n bs) = fresh_numbers (with_block w.standby.state.slots n) ≡ with_number n (fresh_numbers w.standby.state.slots)
  Counted (message.state e bs) = Unit {0}
  Counted (message.commit e p b) = Unit {0}
  Counted (message.ack e) = Unit {0}

  taken-view : (x : Message) → Readable unit wide x → Counted x → view_of (read_by w bytes reply (read_as unit wide x)).next ≡ taken wide (view_of w) x
  taken-view (message.page e p bs) f z = rw (page-no-commit wide) (used-own _ [] (message.page e p bs) f.0)
  taken-view (message.block e n bs) f z =
      let s = w.standby.state in
      let x = message.block e n bs in
      used-own _ [] x f.0
      ∙ ap (λ (ns : List ℕ). used (view_of w) (record { epoch = s.received + 1; numbers = ns; records = s.records + 1; pages = s.pages; next = s.next; seen = s.seen }) (length (encode wide x)) []) z
  taken-view (message.state e bs) f z = used-own _ [] (message.state e bs) f.0
  taken-view (message.commit e p b) f z =
      let x = message.commit e p b in
      rw (commit-is-commit wide, fresh-all-due w.standby.state.slots) (ap (used (view_of w) (blocks_only (e + 1) [] 0) (used_of (read_as unit wide x))) (ack-written unit e reply) ∙ used-own (blocks_only (e + 1) [] 0) (ack_record e) x f.0)
  taken-view (message.ack e) f z = absurd (false≢true (sym (ack-not-for wide) ∙ f.1))

-- ---- the ACKs with one more, of the epoch asked for
leads-more : (a e asked : ℕ) (es : List ℕ) → e ≡ asked → Leads a asked es → Leads a (e + 1) (es ++ (e ∷ []))
leads-more a e asked [] same h = (omega arith, refl)
leads-more a e asked (x ∷ es) same h = (h.0, leads-more x e asked es same h.1)

-- or none
trail-none : (acks : List ℕ) (a asked : ℕ) → Trail acks a asked → Trail (acks ++ []) a asked
trail-none acks a asked t = rw append-nil t

trail-taken : (g : Settings) (acks : List ℕ) (a : ℕ) (c : Counts) (x : Message) → Asked g c x → Trail acks a c.epoch → Trail (acks ++ written x) a (counted c x).epoch
trail-taken g acks a c (message.page e p bs) f t = trail-none acks a c.epoch t
trail-taken g acks a c (message.block e n bs) f t = trail-none acks a c.epoch t
trail-taken g acks a c (message.state e bs) f t = trail-none acks a c.epoch t
trail-taken g acks a c (message.commit e p b) f t =
    record {
      epochs = t.epochs ++ (e ∷ []);
      are = ap (λ (l : List ℕ). l ++ ack_record e) t.are ∙ sym (acks-more t.epochs e);
      leads = leads-more a e c.epoch t.epochs f.0 t.leads;
    }
trail-taken g acks a c (message.ack e) f t = absurd f

-- no record is shorter than a COMMIT
pub least-bytes : (u : ℕ) (wide : Bool) (x : Message) → 64 ≤ u → Readable u wide x → record_length u (commit_kind wide) ≤ length (encode wide x)
unfolding record_length body_length
least-bytes u wide x h f = go x f (width-range wide) (commit-length u wide) (length-message u wide x f.0)
  where
    go : (x : Message) → Readable u wide x → (2 ≤ number_width wide) × (number_width wide ≤ 4) → record_length u (commit_kind wide) ≡ counts_end wide
        → length (encode wide x) ≡ record_length u (message_kind wide x) → record_length u (commit_kind wide) ≤ length (encode wide x)
    go (message.page e p bs) f r c l = omega (arith, l, page-length u wide)
    go (message.block e n bs) f r c l = omega arith
    go (message.state e bs) f r c l = omega arith
    go (message.commit e p b) f r c l = omega arith
    go (message.ack e) f r c l = absurd (false≢true (sym (ack-not-for wide) ∙ f.1))

-- ---- the block that a BLOCK at the head of some bytes names
names-first : (u : ℕ) (wide : Bool) (x : Message) (bytes : List ℕ) → bytes ≡ encode wide x ++ drop (length (encode wide x)) bytes → message.Fits u wide x → Names x (block_at bytes)
unfolding unit_record
names-first u wide (message.page e p bs) bytes is f = tt
names-first u wide (message.block e n bs) bytes is f =
    let rest = drop (length (encode wide (message.block e n bs))) bytes in
    ap block_at is ∙ field_at 2 BLOCK e (le_bytes 2 n ++ bs) rest 0 ∙ ap (λ (l : List ℕ). le_at 2 l 0) (append_assoc (le_bytes 2 n) bs rest) ∙ le_at-le_bytes 2 n (bs ++ rest) f.1
names-first u wide (message.state e bs) bytes is f = tt
names-first u wide (message.commit e p b) bytes is f = tt
names-first u wide (message.ack e) bytes is f = tt

-- ---- an accepted BLOCK has a slot
counted-accepted : (g : Settings) (w : World) (k : StandbyKept g w.standby) (bytes reply : List ℕ) (x : Message)
    → record_refusal w.standby.state (length reply) (read_as w.standby.state.settings.u (is_wide w.standby.state.settings.m) x) ≡ 0 → Counted w bytes reply x
counted-accepted g w k bytes reply (message.page e p bs) z = tt
counted-accepted g w k bytes reply (message.block e n bs) z =
    let s = w.standby in
    let f = block-accepted s.state e n z in
    let array = k.reached.range.numbers in
    let ok = slots-ok g s k in
    let few = slots-few g s k in
    let size = ap (λ (y : StandbySettings). y.s) k.settings in
    let low = slot-fits s.state.slots n g.s g.d array few ok (λ y. omega (arith, f.slot-free y)) in
    let fits = stage-fits s.state.slots n g.s g.d array few ok low in
    fresh-with-block s.state.slots n array fits.due_high fits.few fits.slot_low
counted-accepted g w k bytes reply (message.state e bs) z = tt
counted-accepted g w k bytes reply (message.commit e p b) z = tt
counted-accepted g w k bytes reply (message.ack e) z = tt

-- ---- a standby that receives
module _ (g : Settings) (w : World) (k : StandbyKept g w.standby) (p : Pending g (view_of w)) (on : is_receiving w.standby.state.mode ≡ true) (n : ℕ) (reply : List ℕ) where
  abbrev rest : List ℕ
  rest = take w.primary.state.waiting w.primary.stream ++ p.flight.lost

  found : ReadFound g w k n reply p.flight.records rest
  found = read_found g w k n reply on p.flight.records rest p.flight.readable p.flight.bytes

  -- the state's width, which is start's
  abbrev wide' : Bool
  wide' = is_wide w.standby.state.settings.m

  same-wide : wide' ≡ is_wide g.m
  same-wide = ap (λ (x : StandbySettings). is_wide x.m) k.settings

  walk : (x : Message) (xs : List Message) → p.flight.records ≡ x ∷ xs → Walk g (counts_of w.standby.state) (x ∷ xs) (blocks_only w.primary.state.epoch (written_numbers w.primary.state) w.primary.state.records)
  walk x xs first = rw first at (p.walk on)

  -- a whole record's number is by its kind, and of a BLOCK by its block
  whole-number : (x : Message) → whole_record (take n w.link) ≡ true → le_at 2 (take n w.link) 2 ≡ message_kind wide' x
      → read_number g w n reply ≡ kind_number g w.standby.state.slots (length reply) (message_kind wide' x) (block_at (take n w.link))
  whole-number x whole kind =
      cond-true (whole_record (take n w.link)) _ cut_short whole
      ∙ ap (λ (k : ℕ). kind_number g w.standby.state.slots (length reply) k (block_at (take n w.link))) kind

  short-number : whole_record (take n w.link) ≡ false → read_number g w n reply ≡ cut_short
  short-number s = cond-false (whole_record (take n w.link)) _ cut_short s

  -- the number of what is judged
  names-it : (x : Message) (xs : List Message) → Next wide' p.flight.records w.link rest (take n w.link) x xs → Names x (block_at (take n w.link))
  names-it x xs f =
      let readable : All (Readable g.u (is_wide g.m)) (x ∷ xs) = rw f.first at p.flight.readable in
      names-first w.standby.state.settings.u wide' x (take n w.link) f.begins (subst (λ (y : StandbySettings). Readable y.u (is_wide y.m) x) (sym k.settings) readable.0).0

  refused_as : (x : Message) (xs : List Message) → Next wide' p.flight.records w.link rest (take n w.link) x xs
      → record_refusal w.standby.state (length reply) (read_as w.standby.state.settings.u wide' x) ≡ kind_number g w.standby.state.slots (length reply) (message_kind wide' x) (block_at (take n w.link))
  refused_as x xs f =
      asked-number g w.standby.state k.settings k.reached.pages_below (fresh-count g w.standby k) (length reply) wide' x (block_at (take n w.link)) (names-it x xs f) (walk x xs f.first).0

  number_by : ReadFound g w k n reply p.flight.records rest → (step w (call.read n reply)).outcome.number ≡ read_number g w n reply
  number_by (short s z) = z ∙ sym (short-number s)
  number_by (next x xs f z seen) = z ∙ refused_as x xs f ∙ sym (whole-number x f.whole f.kind)

  pub read_number_lem : (step w (call.read n reply)).outcome.number ≡ read_number g w n reply
  read_number_lem = number_by found

  -- 17
  full_by : ReadFound g w k n reply p.flight.records rest → read_number g w n reply ≡ slots_full → (g.s ≤ w.standby.state.slots.staged) × (w.standby.state.blocks < g.b)
  full_by (short s z) e = absurd (omega (arith, short-number s))
  full_by (next x xs f z seen) e =
      asked-full g w.standby.state k.settings k.reached.pages_below (fresh-count g w.standby k) (length reply) wide' x (block_at (take n w.link)) (names-it x xs f) (walk x xs f.first).0 (sym (whole-number x f.whole f.kind) ∙ e)

  pub read-full : read_number g w n reply ≡ slots_full → (g.s ≤ w.standby.state.slots.staged) × (w.standby.state.blocks < g.b)
  read-full e = full_by found e

  -- an accepted one keeps the invariant, and leaves the link without its first record, which is no shorter than a COMMIT
  abbrev pub Kept : View → Type 0
  Kept v = Pending g v × (length v.link + record_length g.u (commit_kind (is_wide g.m)) ≤ length w.link) × (v.link ≡ without_first w.link)

  pending-taken : (x : Message) (xs : List Message) → p.flight.records ≡ x ∷ xs → length (encode (is_wide g.m) x) ≤ length w.link → drop (length (encode (is_wide g.m) x)) w.link ++ rest ≡ encode_all (is_wide g.m) xs → Kept (taken (is_wide g.m) (view_of w) x)
  pending-taken x xs first inside behind =
      let readable : All (Readable g.u (is_wide g.m)) (x ∷ xs) = rw first at p.flight.readable in
      let asked = walk x xs first in
      let begins = whole-first w.link rest (encode (is_wide g.m) x) (encode_all (is_wide g.m) xs) (p.flight.bytes ∙ ap (encode_all (is_wide g.m)) first) inside in
      let size : header_length + le_at 2 w.link 0 ≡ length (encode (is_wide g.m) x)
      = ap (λ (l : List ℕ). header_length + le_at 2 l 0) begins ∙ size_is (reader.Standby (is_wide g.m)) g.u (is_wide g.m) (standby-unit g w.standby k) x (drop (length (encode (is_wide g.m) x)) w.link) readable.0 in (
        record {
          flight = record { records = xs; lost = p.flight.lost; bytes = behind; lossless = p.flight.lossless; readable = readable.1 };
          walk = λ z. asked.1;
          trail = trail-taken g w.acks w.primary.state.acknowledged (counts_of w.standby.state) x asked.0 p.trail;
        },
        simp length-drop (omega (arith, least-bytes g.u (is_wide g.m) x (standby-settings g w.standby k).shared.u-low readable.0)),
        ap (λ (m : ℕ). drop m w.link) (sym size),
      )

  accepted-by : (step w (call.read n reply)).outcome.number ≡ 0 → ReadFound g w k n reply p.flight.records rest → Kept (view_of (step w (call.read n reply)).next)
  accepted-by e (short s z) = absurd (omega arith)
  accepted-by e (next x xs f z seen) =
      let readable : All (Readable g.u (is_wide g.m)) (x ∷ xs) = rw f.first at p.flight.readable in
      let fits : Readable w.standby.state.settings.u wide' x = subst (λ (y : StandbySettings). Readable y.u (is_wide y.m) x) (sym k.settings) readable.0 in
      let n' : Next (is_wide g.m) p.flight.records w.link rest (take n w.link) x xs = subst (λ (v : Bool). Next v p.flight.records w.link rest (take n w.link) x xs) same-wide f in
      subst Kept
      (sym (ap (λ (t : Stepped). view_of t.next) (read_step w n reply ∙ ap (read_by w (take n w.link) reply) (seen e)) ∙ taken-view w (take n w.link) reply x fits (counted-accepted g w k (take n w.link) reply x (sym z ∙ e)) ∙ ap (λ (v : Bool). taken v (view_of w) x) same-wide))
      (pending-taken x xs f.first (next-inside (is_wide g.m) p.flight.records w.link rest n x xs n') n'.behind)

  pub read_kept : (step w (call.read n reply)).outcome.number ≡ 0 → Kept (view_of (step w (call.read n reply)).next)
  read_kept e = accepted-by e found

pub read-pending : (g : Settings) (n : ℕ) (reply : List ℕ) → KeepsPending g (call.read n reply)
read-pending g n reply b i e p =
    let k = i.holds.standby_kept in
    ⊎_elim
    (λ (on : is_receiving b.world.standby.state.mode ≡ true). (read_kept g b.world k p on n reply e).0)
    (λ (off : is_receiving b.world.standby.state.mode ≡ false). absurd (omega (arith, read_off g b.world k n reply off)))
    (by-test (is_receiving b.world.standby.state.mode))
