-- The two calls that read a record, on the records under way: cut short, or the next of them with the number that its tests give. Assumes nothing.
use Rattle.std.specs.Prelude.{Result, Err}
use Prim.Native.Nat.{ℕ, ◌+◌, ◌≤◌}
use mathlib.Core.Path.{◌≡◌, refl, sym, ap, ◌∙◌, subst}
use mathlib.Core.Bool.{Bool, true, false}
use mathlib.Core.List.{List, [], ◌∷◌, ◌++◌, map, append-nil}
use native.Mathlib.Omega.{arith}
use lib.ListN.{length, take, drop, length-append, length-take}
use Rattle.lists.specs.LittleEndian.{le_at}
use Rattle.records.specs.declared.Record.{Record}
use Rattle.records.specs.declared.Unread.{Unread}
use Rattle.records.specs.declared.Unread.TheVariants.{Short}
use Rattle.records.specs.declared.Reader.{Reader}
use Rattle.records.specs.declared.Reader.TheVariants as reader
use Rattle.records.specs.Kind.{unit_ok, is_wide, body_length, record_length, header_length}
use Rattle.records.specs.Number.{wrong_mode}
use Rattle.records.specs.Read.{read_record, kind_of, cut_short}
use Rattle.records.specs.Read as records
use Rattle.records.specs.Message.{Message, message_kind, encode, encode_all, read_as}
use Rattle.records.specs.Message as message
use Rattle.records.proofs.MessageLaws.{length-message, read-message, whole-message}
use Rattle.settings.specs.declared.Settings.{Settings}
use Rattle.settings.specs.declared.StandbySettings.{StandbySettings}
use Rattle.settings.proofs.RangeLaws.{shared-unit}
use Rattle.rules.specs.declared.ReadLent.{ReadLent}
use Rattle.rules.specs.StandbyState.{is_receiving}
use Rattle.rules.specs.PrimaryState.{protected}
use Rattle.rules.specs.Reply.{answer_of, number_of, unless_refused}
use Rattle.rules.specs.Stream.{ack_refusal}
use Rattle.rules.specs.Judge.{read_lent_ok, record_refusal}
use Rattle.rules.specs.Read.{read_lent}
use Rattle.rules.specs.Reached.{PrimaryReached}
use Rattle.rules.specs.World.{World}
use Rattle.rules.specs.World as call
use Rattle.rules.specs.Step.{Stepped, step}
use Rattle.rules.proofs.ReplyLaws.{unless-accepted, unless-cases}
use Rattle.rules.proofs.StreamLaws.{ack-mode, ack-number}
use Rattle.rules.proofs.JudgeLaws.{read-lent-of, judged-mode, judged-number}
use Rattle.rules.proofs.PrimaryFacts.{primary-facts}
use Rattle.runs.specs.Progress.{whole_record}
use Rattle.runs.proofs.Effects.{All, ReadableBy, Readable}
use Rattle.runs.proofs.Invariant.{ack_bytes, StandbyKept}
use Rattle.runs.proofs.KeptLaws.{standby-u, standby-unit, lent-memory, lent-pages, lent-marks, lent-blocks}
use Rattle.runs.proofs.RecordSteps.{ack_seen, ack-step, read_seen, read_step}
use Rattle.runs.proofs.WholeRecords.{tells}
use Rattle.runs.proofs.Reading.{Reading, none, one, read_next}

-- ---- what is judged

-- a message that is read back
read_back : (u : ℕ) (wide : Bool) (x : Message) → (records.number_of (read_as u wide x) ≡ 0) × (number_of (answer_of (read_as u wide x)) ≡ 0) × (kind_of (read_as u wide x) ≡ message_kind wide x)
read_back u wide (message.page e p bs) = (refl, refl, refl)
read_back u wide (message.block e n bs) = (refl, refl, refl)
read_back u wide (message.state e bs) = (refl, refl, refl)
read_back u wide (message.commit e p b) = (refl, refl, refl)
read_back u wide (message.ack e) = (refl, refl, refl)

-- with its refusal: that is the number
message-number : (u : ℕ) (wide : Bool) (m : ℕ) (x : Message) → number_of (answer_of (unless_refused m (read_as u wide x))) ≡ m
message-number u wide m x = unless-cases m (read_as u wide x) (λ (r : Result Record Unread). number_of (answer_of r) ≡ m) (λ e. (read_back u wide x).1 ∙ sym e) (λ e. refl)

-- the next record is x, whole at the head of the bytes given; behind it come xs
pub record Next (wide : Bool) (pending : List Message) (unread rest bytes : List ℕ) (x : Message) (xs : List Message) : Type 0 where
  pub first : pending ≡ x ∷ xs
  pub whole : whole_record bytes ≡ true
  pub kind : le_at 2 bytes 2 ≡ message_kind wide x
  pub begins : bytes ≡ encode wide x ++ drop (length (encode wide x)) bytes
  pub behind : drop (length (encode wide x)) unread ++ rest ≡ encode_all wide xs

-- the call is cut short, or its number is the next record's, and where that is 0 the record judged, `seen`, is this one
pub data Found (u : ℕ) (wide : Bool) (refuse : Result Record Unread → ℕ) (pending : List Message) (unread rest bytes : List ℕ) (number : ℕ) (seen : Result Record Unread) : Type 0 where
  short : whole_record bytes ≡ false → number ≡ cut_short → Found u wide refuse pending unread rest bytes number seen
  next : (x : Message) (xs : List Message) → Next wide pending unread rest bytes x xs → number ≡ refuse (read_as u wide x) → (number ≡ 0 → seen ≡ read_as u wide x) → Found u wide refuse pending unread rest bytes number seen

module _ (reader : Reader) (u : ℕ) (wide : Bool) (refuse : Result Record Unread → ℕ) (pending : List Message) (unread rest bytes : List ℕ) (number : ℕ) (seen : Result Record Unread) (is : number ≡ number_of (answer_of seen))
    (judged : (r : Result Record Unread) → read_record reader u bytes ≡ r → seen ≡ unless_refused (refuse r) r) (passes : (n : ℕ) → refuse (Err (Short n)) ≡ 0) where
  found-by : Reading reader u wide pending unread rest bytes → Found u wide refuse pending unread rest bytes number seen
  found-by (none n z) =
      short ((tells reader u bytes).short (ap records.number_of z)) (is ∙ ap (λ (r : Result Record Unread). number_of (answer_of r)) (judged (Err (Short n)) z ∙ unless-accepted (refuse (Err (Short n))) (Err (Short n)) (passes n)))
  found-by (one x xs q z begins behind) =
      let r = read_as u wide x in
      let back = read_back u wide x in
      let t = (tells reader u bytes).found (ap records.number_of z ∙ back.0) in
      let m : number ≡ refuse r = is ∙ ap (λ (y : Result Record Unread). number_of (answer_of y)) (judged r z) ∙ message-number u wide (refuse r) x in
      next x xs (record { first = q; whole = t.0; kind = t.1 ∙ ap kind_of z ∙ back.2; begins = begins; behind = behind }) m (λ e. judged r z ∙ unless-accepted (refuse r) r (sym m ∙ e))

-- bytes that begin with a record that is readable, enough of them
pub whole-given : (reader : Reader) (u : ℕ) (wide : Bool) → unit_ok u ≡ true → (n : ℕ) (x : Message) (rest : List ℕ) → ReadableBy reader u wide x → length (encode wide x) ≤ n → whole_record (take n (encode wide x ++ rest)) ≡ true
whole-given reader u wide ok n x rest f long =
    ((tells reader u (take n (encode wide x ++ rest))).found (ap records.number_of (whole-message reader u ok wide x f.0 f.1 n rest long) ∙ (read_back u wide x).0)).0

-- the record that bytes begin with is as long as it says
pub size_is : (reader : Reader) (u : ℕ) (wide : Bool) → unit_ok u ≡ true → (x : Message) (rest : List ℕ) → ReadableBy reader u wide x → header_length + le_at 2 (encode wide x ++ rest) 0 ≡ length (encode wide x)
unfolding record_length
size_is reader u wide ok x rest f =
    let z = read-message reader u ok wide x f.0 f.1 rest in
    let back = read_back u wide x in
    let t = (tells reader u (encode wide x ++ rest)).found (ap records.number_of z ∙ back.0) in
    ap (λ (n : ℕ). header_length + n) (t.2 ∙ ap (body_length u) (t.1 ∙ ap kind_of z ∙ back.2)) ∙ sym (length-message u wide x f.0)

-- the next record lies in what is unread
pub next-inside : (wide : Bool) (pending : List Message) (unread rest : List ℕ) (n : ℕ) (x : Message) (xs : List Message) → Next wide pending unread rest (take n unread) x xs → length (encode wide x) ≤ length unread
next-inside wide pending unread rest n x xs f = omega (arith, ap length f.begins, length-append (encode wide x) (drop (length (encode wide x)) (take n unread)), length-take n unread)

-- ---- read
module _ (g : Settings) (w : World) (k : StandbyKept g w.standby) (n : ℕ) (reply : List ℕ) where
  abbrev read_lengths : ReadLent
  read_lengths = let s = w.standby in read_lent s.memory s.staged_pages s.staged_marks s.staged_blocks reply

  read-number-is : (step w (call.read n reply)).outcome.number ≡ number_of (answer_of (read_seen w n reply))
  read-number-is = ap (λ (x : Stepped). x.outcome.number) (read_step w n reply)

  -- "Lent lengths are exact"
  lent : read_lent_ok w.standby.state read_lengths ≡ true
  lent =
      let e = w.standby in
      read-lent-of e.state read_lengths (record { memory-is = lent-memory g e k; pages-is = lent-pages g e k; marks-is = lent-marks g e k; blocks_is = lent-blocks g e k })

  pub read_off : is_receiving w.standby.state.mode ≡ false → (step w (call.read n reply)).outcome.number ≡ wrong_mode
  read_off off = read-number-is ∙ ap (λ (r : Result Record Unread). number_of (answer_of r)) (judged-mode w.standby.state read_lengths (take n w.link) k.reached.range.in_range lent off)

  -- a read of the records under way, of which `rest` is not yet on the link
  abbrev pub ReadFound : List Message → List ℕ → Type 0
  ReadFound pending rest =
      let s = w.standby.state in
      Found s.settings.u (is_wide s.settings.m) (record_refusal s (length reply)) pending w.link rest (take n w.link) (step w (call.read n reply)).outcome.number (read_seen w n reply)

  pub read_found : is_receiving w.standby.state.mode ≡ true → (pending : List Message) (rest : List ℕ) → All (Readable g.u (is_wide g.m)) pending → w.link ++ rest ≡ encode_all (is_wide g.m) pending → ReadFound pending rest
  read_found on pending rest readable bytes =
      let s = w.standby.state in
      let u = s.settings.u in
      let wide = is_wide s.settings.m in
      let same = k.settings in
      found-by (reader.Standby wide) u wide (record_refusal s (length reply)) pending w.link rest (take n w.link) (step w (call.read n reply)).outcome.number (read_seen w n reply) read-number-is
      (λ r z. judged-number s read_lengths (take n w.link) k.reached.range.in_range lent on r (sym z) (record_refusal s (length reply) r) refl)
      (λ m. refl)
      (read_next (reader.Standby wide) u wide (subst (λ (v : ℕ). unit_ok v ≡ true) (sym (standby-u g w.standby k)) (standby-unit g w.standby k)) rest n pending w.link
      (subst (λ (x : StandbySettings). All (Readable x.u (is_wide x.m)) pending) (sym same) readable)
      (bytes ∙ ap (λ (x : StandbySettings). encode_all (is_wide x.m) pending) (sym same)))

-- ---- ACK: the records under way are ACKs, of these epochs
pub data AckFound (w : World) (n : ℕ) (epochs : List ℕ) : Type 0 where
  short : whole_record (take n w.acks) ≡ false → (step w (call.ack n)).outcome.number ≡ cut_short → AckFound w n epochs
  next : (e : ℕ) (es : List ℕ) → epochs ≡ e ∷ es → whole_record (take n w.acks) ≡ true → drop (length (encode false (message.ack e))) w.acks ≡ ack_bytes es
      → (step w (call.ack n)).outcome.number ≡ ack_refusal w.primary.state (read_as w.primary.state.settings.u false (message.ack e))
      → ((step w (call.ack n)).outcome.number ≡ 0 → ack_seen w n ≡ read_as w.primary.state.settings.u false (message.ack e)) → AckFound w n epochs

module _ (w : World) (k : PrimaryReached w.primary.state) (n : ℕ) where
  ack-number-is : (step w (call.ack n)).outcome.number ≡ number_of (answer_of (ack_seen w n))
  ack-number-is = ap (λ (x : Stepped). x.outcome.number) (ack-step w n)

  pub ack-off : protected w.primary.state ≡ false → (step w (call.ack n)).outcome.number ≡ wrong_mode
  ack-off off = ack-number-is ∙ ap (λ (r : Result Record Unread). number_of (answer_of r)) (ack-mode w.primary.state (take n w.acks) k.range.in_range off)

  ack-by : (epochs : List ℕ)
      → Found w.primary.state.settings.u false (ack_refusal w.primary.state) (map message.ack epochs) w.acks [] (take n w.acks) (step w (call.ack n)).outcome.number (ack_seen w n)
      → AckFound w n epochs
  ack-by epochs (short s z) = short s z
  ack-by [] (next x xs f z seen) = let q = f.first in let a : ◌≡◌ {A = ℕ} 0 1 = cc in absurd (omega arith)
  ack-by (e ∷ es) (next x xs f z seen) =
      let p = w.primary.state in
      let u = p.settings.u in
      let q = f.first in
      let x-is : x ≡ message.ack e = cc in
      let xs-is : xs ≡ map message.ack es = cc in
      next e es refl f.whole
      (ap (λ (m : Message). drop (length (encode false m)) w.acks) (sym x-is) ∙ sym (append-nil _) ∙ f.behind ∙ ap (encode_all false) xs-is)
      (z ∙ ap (λ (m : Message). ack_refusal p (read_as u false m)) x-is)
      (λ a. seen a ∙ ap (read_as u false) x-is)

  pub ack-found : protected w.primary.state ≡ true → (epochs : List ℕ) → All (ReadableBy reader.Primary w.primary.state.settings.u false) (map message.ack epochs)
      → w.acks ≡ ack_bytes epochs → AckFound w n epochs
  ack-found on epochs readable bytes =
      let p = w.primary.state in
      let u = p.settings.u in
      let ms = map message.ack epochs in
      ack-by epochs
      (found-by reader.Primary u false (ack_refusal p) ms w.acks [] (take n w.acks) (step w (call.ack n)).outcome.number (ack_seen w n) ack-number-is
      (λ r z. ack-number p (take n w.acks) k.range.in_range on r (sym z) (ack_refusal p r) refl)
      (λ m. refl)
      (read_next reader.Primary u false (shared-unit (primary-facts p k.range.in_range).settings.shared) [] n ms w.acks readable (append-nil w.acks ∙ bytes)))
