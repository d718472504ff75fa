-- A checkpoint that a standby accepts record by record, as the file of its bytes: its records are not refused, it is
-- whole, and the standby then has what they do. Assumes nothing.
use Rattle.std.specs.Prelude.{Result, Ok, Err}
use Prim.Native.Nat.{ℕ, ◌+◌, ◌≤◌}
use mathlib.Core.Path.{◌≡◌, refl, sym, ap, ◌∙◌, subst}
use mathlib.Core.Bool.{true}
use mathlib.Core.List.{List, [], ◌∷◌, ◌++◌, append-nil}
use native.Mathlib.Omega.{arith}
use lib.ListN.{length, take, drop, length-append}
use lib.Seq.{append_snoc, take_at}
use Rattle.records.specs.declared.Record.{Record}
use Rattle.records.specs.declared.Unread.{Unread}
use Rattle.records.specs.declared.Record.TheVariants.{Page, Block, State, Commit, Ack}
use Rattle.records.specs.declared.Unread.TheVariants.{Short, Refused}
use Rattle.records.specs.Kind.{unit_ok, is_wide}
use Rattle.records.specs.Read.{used_of}
use Rattle.records.specs.Message.{Message, commit, encode_all}
use Rattle.settings.specs.declared.StandbySettings.{StandbySettings}
use Rattle.rules.specs.World.{StandbyEnd, World, Call}
use Rattle.rules.specs.World as call
use Rattle.rules.specs.Step.{Stepped, step}
use Rattle.runs.specs.Plain.{Checkpoint}
use Rattle.runs.proofs.Effects.{All, Before, Readable}
use Rattle.checkpoints.specs.declared.FileSettings.{FileSettings}
use Rattle.checkpoints.specs.File.{closed, File, file_of, after, file_in}
use Rattle.checkpoints.specs.Judge.{Known, known_with, refusal_from, epoch_of}
use Rattle.checkpoints.specs.Claims.{AreBytes}
use Rattle.checkpoints.specs.Received.{made, ReadOrFlush, AllReadOrFlush}
use Rattle.checkpoints.proofs.ByteLaws.{message_of}
use Rattle.checkpoints.proofs.FileLaws.{head_of, file-before, file-commit}
use Rattle.checkpoints.proofs.FileBytes.{file-readable, file-encoded, file-closed, file-of}
use Rattle.checkpoints.proofs.NormalBytesLaws.{bytes_take}
use Rattle.checkpoints.proofs.KnownLaws.{cons-refusal, nil-refusal, epoch-cons}
use Rattle.checkpoints.proofs.Standing.{file_settings, Standing, Taken}
use Rattle.checkpoints.proofs.StandingRead.{ReadDone}
use Rattle.checkpoints.proofs.ReceivedCalls.{call-cases, made-grows, read_at, flush-at}

-- what is received of a file, known k and `ms` before it, is one whole checkpoint of epoch r + 1 with `rest` after
-- it, and e has accepted it
pub record WholeFile (x : StandbySettings) (base : Checkpoint) (r : ℕ) (k : Known) (ms : List Message) (f : File) (rest : List ℕ) (e : StandbyEnd) : Type 0 where
  pub records : refusal_from (file_settings x) k f.messages ≡ 0
  pub ending : f.ending ≡ closed rest
  pub epoch : epoch_of f.messages ≡ r + 1
  pub taken : Taken x base r (ms ++ f.messages) e

-- ---- one read, of the link s, that leads to t
module _ (x : StandbySettings) (unit : unit_ok x.u ≡ true) (base : Checkpoint) (r : ℕ) (end : World) (k : Known) (ms : List Message) (s : List ℕ) (t : Stepped) where
  abbrev g : FileSettings
  g = file_settings x

  -- with its record in front
  whole-next : (q : Result Record Unread) → head_of (file_settings x) s ≡ q → Before (message_of q s) → ReadDone x base r k ms s t q
      → WholeFile x base r (known_with k (message_of q s)) (ms ++ (message_of q s ∷ [])) (file_in (file_settings x) t.next.link) end.link end.standby → WholeFile x base r k ms (file_in (file_settings x) s) end.link end.standby
  whole-next q is b d f =
      let y = message_of q s in
      let rest = file_in g t.next.link in
      let next : file_in g s ≡ after y rest =
      subst (λ (p : Result Record Unread). Before (message_of p s) → file_in g s ≡ after (message_of p s) (file_in g (drop (used_of p) s))) is (file-before g s unit) b
      ∙ ap (λ (l : List ℕ). after y (file_in g l)) (sym d.link) in
      subst (λ (l : File). WholeFile x base r k ms l end.link end.standby) (sym next)
      (record {
        records = cons-refusal g k y rest.messages d.accepted f.records;
        ending = f.ending;
        epoch = epoch-cons y rest.messages ∙ d.epoch;
        taken = subst (λ (l : List Message). Taken x base r l end.standby) (append_snoc ms y rest.messages) f.taken;
      })

  -- one that is not the last is of a record that ends no checkpoint
  middle : ((j : Known) (l : List Message) → Standing x base r j l t.next.standby → WholeFile x base r j l (file_in (file_settings x) t.next.link) end.link end.standby)
      → t.next.standby.state.received ≤ r → (q : Result Record Unread) → head_of (file_settings x) s ≡ q → ReadDone x base r k ms s t q → WholeFile x base r k ms (file_in (file_settings x) s) end.link end.standby
  middle more low (Ok (Page v n p c)) is d = whole-next (Ok (Page v n p c)) is tt d (more _ _ d.after)
  middle more low (Ok (Block n m c)) is d = whole-next (Ok (Block n m c)) is tt d (more _ _ d.after)
  middle more low (Ok (State n c)) is d = whole-next (Ok (State n c)) is tt d (more _ _ d.after)
  middle more low (Ok (Commit v n p b c)) is d = absurd (omega (arith, d.after.received))
  middle more low (Ok (Ack n c)) is d = absurd d.after
  middle more low (Err (Short n)) is d = absurd d.after
  middle more low (Err (Refused n)) is d = absurd d.after

  -- the last is of a COMMIT
  last : t.next ≡ end → t.next.standby.state.received ≡ r + 1 → (q : Result Record Unread) → head_of (file_settings x) s ≡ q → ReadDone x base r k ms s t q → WholeFile x base r k ms (file_in (file_settings x) s) end.link end.standby
  last same one (Ok (Page v n p c)) is d = absurd (omega (arith, d.after.received))
  last same one (Ok (Block n m c)) is d = absurd (omega (arith, d.after.received))
  last same one (Ok (State n c)) is d = absurd (omega (arith, d.after.received))
  last same one (Ok (Commit v n p b c)) is d =
      subst (λ (l : File). WholeFile x base r k ms l end.link end.standby) (sym (file-commit g s unit is))
      (record {
        records = cons-refusal g k (commit n p b) [] d.accepted (nil-refusal g k);
        ending = ap closed (sym d.link ∙ ap (λ (v : World). v.link) same);
        epoch = epoch-cons (commit n p b) [] ∙ d.epoch;
        taken = subst (λ (v : World). Taken x base r (ms ++ (commit n p b ∷ [])) v.standby) same d.after;
      })
  last same one (Ok (Ack n c)) is d = absurd d.after
  last same one (Err (Short n)) is d = absurd d.after
  last same one (Err (Refused n)) is d = absurd d.after

-- ---- all calls
module _ (x : StandbySettings) (unit : unit_ok x.u ≡ true) (base : Checkpoint) (r : ℕ) (n : ℕ) (reply : List ℕ) where
  abbrev ending : List Call
  ending = call.read n reply ∷ []

  -- what is asked of the calls cs before the last, from the world w on
  pub record Receiving (cs : List Call) (w : World) (k : Known) (ms : List Message) : Type 0 where
    pub standing : Standing x base r k ms w.standby
    pub calls : AllReadOrFlush w (cs ++ (call.read n reply ∷ []))
    pub before : (made w cs).standby.state.received ≡ r
    pub received : (made w (cs ++ (call.read n reply ∷ []))).standby.state.received ≡ r + 1

  -- with the rest of the calls left, from t on
  following : (c : Call) (cs : List Call) (w : World) (k j : Known) (ms l : List Message) → Receiving (c ∷ cs) w k ms → Standing x base r j l (step w c).next.standby
      → Receiving cs (step w c).next j l
  following c cs w k j ms l f h = record { standing = h; calls = f.calls.1; before = f.before; received = f.received }

  abbrev Received : List Call → World → Type 0
  Received cs w =
      let end = made w (cs ++ (call.read n reply ∷ [])) in
      (k : Known) (ms : List Message) → Receiving cs w k ms → WholeFile x base r k ms (file_in (file_settings x) w.link) end.link end.standby

  -- one before the last
  one_more : (cs : List Call) → ((w : World) → Received cs w) → (w : World) (c : Call) → ReadOrFlush w c → Received (c ∷ cs) w
  one_more cs more w = call-cases w (λ (c : Call). Received (c ∷ cs) w) reads flushes
    where
      reads : (i : ℕ) (answer : List ℕ) → ReadOrFlush w (call.read i answer) → Received (call.read i answer ∷ cs) w
      reads i answer a k ms f =
          let c = call.read i answer in
          let t = step w c in
          middle x unit base r (made t.next (cs ++ ending)) k ms w.link t (λ j l h. more t.next j l (following c cs w k j ms l f h))
          (omega (arith, made-grows cs ending t.next f.calls.1, f.before)) _ refl (read_at x base r k ms w f.standing i answer a)

      flushes : (i : ℕ) → Received (call.flush i ∷ cs) w
      flushes i k ms f =
          let c = call.flush i in
          let h = flush-at x base r k ms w f.standing i in
          subst (λ (s : List ℕ). WholeFile x base r k ms (file_in (file_settings x) s) (made (step w c).next (cs ++ ending)).link (made (step w c).next (cs ++ ending)).standby) h.1
          (more (step w c).next k ms (following c cs w k k ms ms f h.0))

  -- the law of all of them
  pub received-whole : (cs : List Call) (w : World) → Received cs w
  received-whole [] w k ms f =
      last x unit base r (made w ending) k ms w.link (step w (call.read n reply)) refl f.received _ refl (read_at x base r k ms w f.standing n reply f.calls.0)
  received-whole (c ∷ cs) w k ms f = one_more cs (received-whole cs) w c f.calls.0 k ms f

-- ---- the bytes up to the COMMIT
-- the same bytes behind both: the same in front
same-front : (a b rest : List ℕ) → a ++ rest ≡ b ++ rest → a ≡ b
same-front a b rest q =
    let same : length b ≡ length a = omega (arith, ap length q, length-append a rest, length-append b rest) in
    sym (take_at a rest (length a) refl) ∙ ap (take (length a)) q ∙ take_at b rest (length a) same

-- as a file of their own they have the same records
pub file-front : (g : FileSettings) (s file rest : List ℕ) → unit_ok g.u ≡ true → AreBytes s → (file_in g s).ending ≡ closed rest → file ++ rest ≡ s
    → file_in g file ≡ file_of (file_in g s).messages (closed [])
file-front g s file rest v h q is =
    let wide = is_wide g.m in
    let ms = (file_in g s).messages in
    let c = file-closed g s rest v q in
    let ends = c.before ++ (commit c.epoch c.pages c.blocks ∷ []) in
    let same : file ≡ encode_all wide ms = same-front file (encode_all wide ms) rest (is ∙ sym (file-encoded g s rest v h q)) in
    ap (file_in g) (same ∙ ap (encode_all wide) c.are ∙ sym (append-nil (encode_all wide ends)))
    ∙ file-of g v c.before c.epoch c.pages c.blocks [] c.befores (subst (All (Readable g.u wide)) c.are (file-readable g s v h))
    ∙ ap (λ (l : List Message). file_of l (closed [])) (sym c.are)

-- and are bytes
pub front_bytes : (file rest s : List ℕ) → file ++ rest ≡ s → AreBytes s → AreBytes file
front_bytes file rest s is h =
    subst AreBytes (ap (take (length file)) (sym is) ∙ take_at file rest (length file) refl) (bytes_take (length file) s h)
