-- An accepted read keeps the invariant. Assumes nothing.
use Rattle.std.specs.Prelude.{Result}
use Prim.Native.Nat.{ℕ}
use mathlib.Core.Path.{◌≡◌, sym, ap, ap₂, ◌∙◌, subst}
use mathlib.Core.Logic.{⊎_elim}
use mathlib.Core.Bool.{Bool, true, false, false≢true}
use mathlib.Core.List.{List, [], ◌∷◌, ◌++◌, append-nil}
use native.Mathlib.Omega.{arith}
use lib.ListN.{length, take, drop}
use Rattle.lists.proofs.TestLaws.{by-test}
use Rattle.records.specs.declared.Record.{Record}
use Rattle.records.specs.declared.Unread.{Unread}
use Rattle.records.specs.Kind.{is_wide}
use Rattle.records.specs.Read.{used_of, cursor_of}
use Rattle.records.proofs.KindLaws.{page-no-commit, commit-is-commit, ack-not-for}
use Rattle.records.specs.Write.{ack_record}
use Rattle.records.specs.Message.{Message, encode, encode_all, read_as}
use Rattle.records.specs.Message as message
use Rattle.records.proofs.MessageLaws.{used-message, bytes_of, message-bytes}
use Rattle.records.proofs.WriteLaws.{ack-written}
use Rattle.settings.specs.declared.Settings.{Settings}
use Rattle.settings.specs.declared.StandbySettings.{StandbySettings}
use Rattle.settings.specs.Range.{of_standby}
use Rattle.rules.specs.declared.Standby.{Standby}
use Rattle.rules.specs.StandbyState.{is_receiving}
use Rattle.rules.specs.Judge.{record_refusal}
use Rattle.rules.specs.Read.{bytes_at}
use Rattle.rules.specs.World.{StandbyEnd}
use Rattle.rules.specs.World as call
use Rattle.rules.specs.Step.{Stepped}
use Rattle.rules.proofs.JudgeLaws.{page-accepted, block-accepted, commit-accepted}
use Rattle.runs.specs.Plain.{plain_accepted, plain_step}
use Rattle.runs.specs.Run.{Both, steps, run_call}
use Rattle.runs.proofs.Effects.{All, Readable}
use Rattle.runs.proofs.Invariant.{Inv}
use Rattle.runs.proofs.RecordSteps.{read_seen, read_by, read_step}
use Rattle.runs.proofs.ReadStep.{ReadFound, short, next, read_off, read_found}
use Rattle.runs.proofs.ReadStaged.{staged_after, page_end, block_end, state_end, page-inv, block-inv, state-inv}
use Rattle.runs.proofs.ReadCommit.{commit_after, commit-inv}
use Rattle.runs.proofs.Frame.{Accepted, KeepsAccepted}

module _ (g : Settings) (b : Both) (i : Inv g b) (n : ℕ) (reply : List ℕ) where
  abbrev u : ℕ
  u = b.world.standby.state.settings.u

  abbrev wide : Bool
  wide = is_wide b.world.standby.state.settings.m

  -- the bytes that it is given begin with this record
  abbrev Begins : Message → Type 0
  Begins x = take n b.world.link ≡ encode wide x ++ drop (length (encode wide x)) (take n b.world.link)

  abbrev both_by : Result Record Unread → Both
  both_by r =
      record { world = (read_by b.world (take n b.world.link) reply r).next; plain = plain_step g.u (call.read n reply) (read_by b.world (take n b.world.link) reply r).outcome b.plain }

  run_is : run_call steps g.u b (call.read n reply) ≡ both_by (read_seen b.world n reply)
  run_is = ap (λ (s : Stepped). record { world = s.next; plain = plain_step g.u (call.read n reply) s.outcome b.plain }) (read_step b.world n reply)

  -- ---- the pair, by the record that was judged: its field is the message's bytes, and its length is used
  module _ (x : Message) (fits : message.Fits b.world.standby.state.settings.u (is_wide b.world.standby.state.settings.m) x) (whole : Begins x) where
    field : bytes_at (cursor_of (read_as u wide x)) (take n b.world.link) ≡ bytes_of x
    field =
        ap (bytes_at (cursor_of (read_as u wide x))) whole ∙ message-bytes u wide x fits (drop (length (encode wide x)) (take n b.world.link))

  -- with no ACK written
  abbrev unacked : StandbyEnd → ℕ → List ℕ → Both
  unacked e used acks =
      record { world = record { primary = b.world.primary; standby = e; link = drop used b.world.link; acks = acks }; plain = b.plain }

  staged-is : (end : List ℕ → StandbyEnd) (x : Message) → message.Fits u wide x → Begins x
      → unacked (end (bytes_at (cursor_of (read_as u wide x)) (take n b.world.link))) (used_of (read_as u wide x)) (b.world.acks ++ []) ≡ staged_after b (end (bytes_of x)) (length (encode wide x))
  staged-is end x fits whole =
      ap₂ (λ (l : List ℕ) (used : ℕ). unacked (end l) used (b.world.acks ++ [])) (field x fits whole) (used-message u wide x fits)
      ∙ ap (unacked (end (bytes_of x)) (length (encode wide x))) (append-nil b.world.acks)

  page-is : (e p : ℕ) (bs : List ℕ) → message.Fits u wide (message.page e p bs) → Begins (message.page e p bs)
      → both_by (read_as u wide (message.page e p bs)) ≡ staged_after b (page_end g b i u p bs) (length (encode wide (message.page e p bs)))
  unfolding plain_step plain_accepted
  page-is e p bs fits whole = rw (page-no-commit wide) (staged-is (page_end g b i u p) (message.page e p bs) fits whole)

  block-is : (e m : ℕ) (bs : List ℕ) → message.Fits u wide (message.block e m bs) → Begins (message.block e m bs)
      → both_by (read_as u wide (message.block e m bs)) ≡ staged_after b (block_end g b i u m bs) (length (encode wide (message.block e m bs)))
  unfolding plain_step plain_accepted
  block-is e m bs fits whole = staged-is (block_end g b i u m) (message.block e m bs) fits whole

  state-is : (e : ℕ) (bs : List ℕ) → message.Fits u wide (message.state e bs) → Begins (message.state e bs)
      → both_by (read_as u wide (message.state e bs)) ≡ staged_after b (state_end g b i bs) (length (encode wide (message.state e bs)))
  unfolding plain_step plain_accepted
  state-is e bs fits whole = staged-is (state_end g b i) (message.state e bs) fits whole

  commit-is : (e p m : ℕ) → message.Fits u wide (message.commit e p m)
      → both_by (read_as u wide (message.commit e p m)) ≡ commit_after b e b.world.standby.state.settings (length (encode wide (message.commit e p m))) (ack_record e)
  unfolding plain_step plain_accepted
  commit-is e p m fits =
      let x = message.commit e p m in
      rw (commit-is-commit wide) (ap₂ (commit_after b e b.world.standby.state.settings) (used-message u wide x fits) (ack-written u e reply))

  -- the state's settings are start's
  same : b.world.standby.state.settings ≡ of_standby g
  same = i.holds.standby_kept.settings

  same-wide : is_wide b.world.standby.state.settings.m ≡ is_wide g.m
  same-wide = ap (λ (y : StandbySettings). is_wide y.m) same

  fits-state : (x : Message) → message.Fits g.u (is_wide g.m) x → message.Fits u wide x
  fits-state x f = subst (λ (y : StandbySettings). message.Fits y.u (is_wide y.m) x) (sym same) f

  staged-same : (end : ℕ → StandbyEnd) (x : Message) → staged_after b (end u) (length (encode wide x)) ≡ staged_after b (end g.u) (length (encode (is_wide g.m) x))
  staged-same end x = ap (λ (y : StandbySettings). staged_after b (end y.u) (length (encode (is_wide y.m) x))) same

  -- ---- the record read is accepted
  module _ (on : is_receiving b.world.standby.state.mode ≡ true) where
    abbrev state : Standby
    state = b.world.standby.state

    by-message : (x : Message) (xs : List Message) → i.ghost.pending ≡ x ∷ xs → Readable g.u (is_wide g.m) x → Begins x
        → drop (length (encode (is_wide g.m) x)) b.world.link ++ (take b.world.primary.state.waiting b.world.primary.stream ++ i.ghost.lost) ≡ encode_all (is_wide g.m) xs
        → record_refusal b.world.standby.state (length reply) (read_as u wide x) ≡ 0 → Inv g (both_by (read_as u wide x))
    by-message (message.page e p bs) xs first f whole rest z =
        let x = message.page e p bs in
        subst (Inv g) (sym (page-is e p bs (fits-state x f.0) whole ∙ staged-same (λ (v : ℕ). page_end g b i v p bs) x))
        (page-inv g b i e p bs xs (record { first = first; behind = rest; before = tt; fits = f.0; receives = on }) (page-accepted state e p z))
    by-message (message.block e m bs) xs first f whole rest z =
        let x = message.block e m bs in
        subst (Inv g) (sym (block-is e m bs (fits-state x f.0) whole ∙ staged-same (λ (v : ℕ). block_end g b i v m bs) x))
        (block-inv g b i e m bs xs (record { first = first; behind = rest; before = tt; fits = f.0; receives = on }) (block-accepted state e m z))
    by-message (message.state e bs) xs first f whole rest z =
        let x = message.state e bs in
        subst (Inv g) (sym (state-is e bs (fits-state x f.0) whole ∙ staged-same (λ (v : ℕ). state_end g b i bs) x))
        (state-inv g b i e bs xs (record { first = first; behind = rest; before = tt; fits = f.0; receives = on }))
    by-message (message.commit e p m) xs first f whole rest z =
        let x = message.commit e p m in
        let t = commit-accepted state (length reply) e p m z in
        subst (Inv g) (sym (commit-is e p m (fits-state x f.0) ∙ ap (λ (y : StandbySettings). commit_after b e y (length (encode (is_wide y.m) x)) (ack_record e)) same))
        (commit-inv g b e p m xs on t.after-state t.epoch-next i first rest)
    by-message (message.ack e) xs first f whole rest z = absurd (false≢true (sym (ack-not-for (is_wide g.m)) ∙ f.1))

    -- ---- an accepted read is of the next record
    by-found : Accepted b (call.read n reply) → ReadFound g b.world i.holds.standby_kept n reply i.ghost.pending (take b.world.primary.state.waiting b.world.primary.stream ++ i.ghost.lost)
        → Inv g (both_by (read_seen b.world n reply))
    by-found accepted (short s z) = absurd (omega arith)
    by-found accepted (next x xs f z seen) =
        let w = is_wide g.m in
        let readable : All (Readable g.u w) (x ∷ xs) = subst (All (Readable g.u w)) f.first i.holds.link.readable in
        subst (λ (y : Result Record Unread). Inv g (both_by y)) (sym (seen accepted))
        (by-message x xs f.first readable.0 f.begins (subst (λ (v : Bool). drop (length (encode v x)) b.world.link ++ (take b.world.primary.state.waiting b.world.primary.stream ++ i.ghost.lost) ≡ encode_all v xs) same-wide f.behind) (sym z ∙ accepted))

pub read_keeps : (g : Settings) (n : ℕ) (reply : List ℕ) → KeepsAccepted g (call.read n reply)
read_keeps g n reply b i e =
    let s = b.world.standby.state in
    let k = i.holds.standby_kept in
    let l = i.holds.link in
    subst (Inv g) (sym (run_is g b i n reply))
    (⊎_elim
    (λ (on : is_receiving s.mode ≡ true). by-found g b i n reply on e (read_found g b.world k n reply on i.ghost.pending _ l.readable l.bytes))
    (λ (off : is_receiving s.mode ≡ false). absurd (omega (arith, read_off g b.world k n reply off)))
    (by-test (is_receiving s.mode)))
