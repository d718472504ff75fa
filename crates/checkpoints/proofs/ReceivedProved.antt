-- Whatever a standby accepts record by record is accepted as a file, and it accepts the normal form in the file's
-- place. Assumes nothing.
use Prim.Native.Nat.{ℕ, ◌+◌, ◌≤◌}
use mathlib.Core.Path.{◌≡◌, refl, sym, ap, ◌∙◌, subst}
use mathlib.Core.List.{List, [], ◌∷◌, ◌++◌}
use native.Mathlib.Omega.{arith}
use lib.ListN.{length, replicate}
use Rattle.records.specs.Kind.{ACK, is_wide, record_length}
use Rattle.records.specs.Message.{Message, state, commit, encode_all}
use Rattle.settings.specs.declared.StandbySettings.{StandbySettings}
use Rattle.settings.proofs.RangeLaws.{SharedFacts, shared-unit, shared_of}
use Rattle.staging.specs.SlotList.{Staged}
use Rattle.rules.specs.World.{World, Call}
use Rattle.rules.specs.World as call
use Rattle.rules.specs.Step.{step}
use Rattle.rules.proofs.StandbyFacts.{standby-facts}
use Rattle.runs.proofs.Effects.{All, Readable}
use Rattle.checkpoints.specs.declared.FileSettings.{FileSettings}
use Rattle.checkpoints.specs.Content.{is_block, SameContent}
use Rattle.checkpoints.specs.Normal.{normal_of}
use Rattle.checkpoints.specs.Judge.{none_known, refusal_from, epoch_of}
use Rattle.checkpoints.specs.File.{File, file_in}
use Rattle.checkpoints.specs.Saving.{normal_bytes}
use Rattle.checkpoints.specs.Claims.{Accepted, normal_of_file}
use Rattle.checkpoints.specs.Received.{made, AllReadOrFlush, Receives, AcceptedAll, SameReceived, with_link, normal_calls, NormalRestores}
use Rattle.checkpoints.proofs.KnownLaws.{message_epoch}
use Rattle.checkpoints.proofs.ShapeLaws.{block_messages, page_messages, checkpoint_of, Shape}
use Rattle.checkpoints.proofs.NormalLaws.{normal_staged}
use Rattle.checkpoints.proofs.NormalShapeLaws.{normal-form, normal-content, normal-accepted, normal_front, normal-before, normal-ends}
use Rattle.checkpoints.proofs.ClaimsProved.{accepted-shape, accepted-readable}
use Rattle.checkpoints.proofs.Standing.{file_settings, base_of, awaits-settings, awaits-standing}
use Rattle.checkpoints.proofs.ReceivedCalls.{read-room, made-last, flush-at}
use Rattle.checkpoints.proofs.ReceivedFile.{WholeFile, received-whole, file-front, front_bytes}
use Rattle.checkpoints.proofs.ReceivedTakes.{Ready, all-taken}
use Rattle.checkpoints.proofs.SameReceived.{same_received, flush-due}

-- ---- the file that a standby received
module _ (g : FileSettings) (w : World) (file : List ℕ) (cs : List Call) (n : ℕ) (reply : List ℕ) (f : Receives g w file cs n reply) where
  abbrev own : StandbySettings
  own = w.standby.state.settings

  abbrev end : World
  end = made w (cs ++ (call.read n reply ∷ []))

  -- the settings are in their ranges
  own-ranges : SharedFacts own.u own.m own.d own.b
  own-ranges = (standby-facts w.standby.state f.awaits.range.in_range).settings.shared

  -- the link begins with one whole checkpoint, and the standby then has what its records do
  received-link : WholeFile own (base_of w.standby) w.standby.state.received none_known [] (file_in (file_settings own) w.link) end.link end.standby
  received-link =
      received-whole own (shared-unit own-ranges) (base_of w.standby) w.standby.state.received n reply cs w none_known []
      (record { standing = awaits-standing g w.standby f.awaits; calls = f.calls; before = f.before; received = f.received })

  -- which is the file
  pub received-file : WholeFile w.standby.state.settings (base_of w.standby) w.standby.state.received none_known [] (file_in (file_settings w.standby.state.settings) file) []
      (made w (cs ++ (call.read n reply ∷ []))).standby
  received-file =
      let h = received-link in
      subst (λ (t : File). WholeFile own (base_of w.standby) w.standby.state.received none_known [] t [] end.standby)
      (sym (file-front (file_settings own) w.link file end.link (shared-unit own-ranges) f.bytes h.ending f.file_is))
      (record { records = h.records; ending = refl; epoch = h.epoch; taken = h.taken })

  -- so it is accepted
  received-accepted : Accepted (file_settings own) file
  received-accepted =
      record {
        bytes = front_bytes file end.link w.link f.file_is f.bytes;
        settings = shared_of _ _ _ _ own-ranges;
        records = received-file.records;
        whole = received-file.ending;
      }

-- whatever a standby accepts record by record is accepted as a file
pub accepted-all-proved : AcceptedAll
accepted-all-proved g w file cs n reply f = subst (λ (h : FileSettings). Accepted h file) (sym (awaits-settings g w.standby f.awaits)) (received-accepted g w file cs n reply f)

-- two facts of all records
all_both : (P Q : Message → Type 0) (xs : List Message) → All P xs → All Q xs → All (λ (y : Message). P y × Q y) xs
all_both P Q [] f h = tt
all_both P Q (y ∷ xs) f h = ((f.0, h.0), all_both P Q xs f.1 h.1)

-- the records of a checkpoint have one epoch
checkpoint-epochs : (e : ℕ) (bs ps : List Staged) (x : List ℕ) (p b : ℕ) → All (λ (y : Message). message_epoch y ≡ e) (block_messages e bs ++ (page_messages e ps ++ (state e x ∷ commit e p b ∷ [])))
checkpoint-epochs e [] [] x p b = (refl, (refl, tt))
checkpoint-epochs e [] (q ∷ ps) x p b = (refl, checkpoint-epochs e [] ps x p b)
checkpoint-epochs e (c ∷ bs) ps x p b = (refl, checkpoint-epochs e bs ps x p b)

-- ---- the normal form of what was received, at the settings of the standby itself
module _ (w : World) (file : List ℕ) (cs : List Call) (n : ℕ) (reply : List ℕ) (f : Receives (file_settings w.standby.state.settings) w file cs n reply) where
  abbrev x : StandbySettings
  x = w.standby.state.settings

  abbrev g : FileSettings
  g = file_settings w.standby.state.settings

  abbrev ms : List Message
  ms = (file_in (file_settings w.standby.state.settings) file).messages

  abbrev normal : List Message
  normal = normal_of (epoch_of ms) x.d x.m ms

  abbrev v : World
  v = with_link w (normal_of_file (file_settings w.standby.state.settings) file)

  abbrev flushed_world : World
  flushed_world = (step v (call.flush w.standby.state.slots.due)).next

  abbrev whole : WholeFile w.standby.state.settings (base_of w.standby) w.standby.state.received none_known [] (file_in (file_settings w.standby.state.settings) file) [] (made w (cs ++ (call.read n reply ∷ []))).standby
  whole = received-file g w file cs n reply f

  abbrev accepted : Accepted (file_settings w.standby.state.settings) file
  accepted = received-accepted g w file cs n reply f

  abbrev shape : Shape (file_settings w.standby.state.settings) (file_in (file_settings w.standby.state.settings) file).messages
  shape = accepted-shape g file accepted

  -- the bytes of its records
  link-is : normal_of_file g file ≡ encode_all (is_wide x.m) normal
  unfolding normal_bytes
  link-is = refl

  -- they have the epoch that the standby asks for
  epochs : All (λ (y : Message). message_epoch y ≡ w.standby.state.received + 1) normal
  epochs =
      subst (λ (l : List Message). All (λ (y : Message). message_epoch y ≡ w.standby.state.received + 1) l) (sym (normal-form g ms shape))
      (subst (λ (e : ℕ). All (λ (y : Message). message_epoch y ≡ e) (checkpoint_of (epoch_of ms) (normal_staged is_block x.d ms) shape.ps shape.x)) whole.epoch
      (checkpoint-epochs (epoch_of ms) (normal_staged is_block x.d ms) shape.ps shape.x _ _))

  -- the normal form, with its COMMIT apart
  abbrev ends : List Message
  ends = normal_front g ms shape ++ (commit (epoch_of ms) (length shape.ps) (length (normal_staged is_block x.d ms)) ∷ [])

  -- the reply has room for an ACK, since its COMMIT was accepted
  room : record_length x.u ACK ≤ length reply
  room =
      let raised : (made w (cs ++ (call.read n reply ∷ []))).standby.state.received ≡ (made w cs).standby.state.received + 1 = omega (arith, f.before, f.received) in
      read-room (made w cs) n reply (subst (λ (t : World). t.standby.state.received ≡ (made w cs).standby.state.received + 1) (made-last cs (call.read n reply) w) raised) x.u

  -- with all due flushed, the standby is ready for them
  ready : Ready x (base_of w.standby) w.standby.state.received (length (normal_of_file g file)) reply room flushed_world none_known [] ends
  ready =
      let h = flush-at x (base_of w.standby) w.standby.state.received none_known [] v (awaits-standing g w.standby f.awaits) w.standby.state.slots.due in
      let is = normal-ends g ms shape in
      record {
        standing = h.0;
        free = flush-due g v f.awaits;
        link = h.1 ∙ link-is ∙ ap (encode_all (is_wide x.m)) is;
        enough = omega (arith, ap length h.1);
        fit = subst (λ (l : List Message). All (λ (y : Message). Readable x.u (is_wide x.m) y × (message_epoch y ≡ w.standby.state.received + 1)) l) is
            (all_both (Readable x.u (is_wide x.m)) (λ (y : Message). message_epoch y ≡ w.standby.state.received + 1) normal (accepted-readable g file accepted) epochs);
        records = ap (refusal_from g none_known) (sym is) ∙ normal-accepted g ms shape;
      }

  -- it accepts them all, and has the same
  restored : AllReadOrFlush v (normal_calls g w file reply) × ((made v (normal_calls g w file reply)).link ≡ []) × SameReceived (made v (normal_calls g w file reply)).standby (made w (cs ++ (call.read n reply ∷ []))).standby
  restored =
      let N = length (normal_of_file g file) in
      let r = w.standby.state.received in
      let t = all-taken x (base_of w.standby) r N reply room (normal_front g ms shape) _ _ _ flushed_world none_known [] (normal-before g ms shape) ready in
      subst (λ (l : List Message).
      AllReadOrFlush v (call.flush w.standby.state.slots.due ∷ replicate (length l) (call.read N reply))
      × ((made flushed_world (replicate (length l) (call.read N reply))).link ≡ [])
      × SameReceived (made flushed_world (replicate (length l) (call.read N reply))).standby (made w (cs ++ (call.read n reply ∷ []))).standby)
      (sym (normal-ends g ms shape)) (
        (tt, t.0),
        t.1,
        same_received g w.standby f.awaits ends ms _ _ (subst (λ (l : List Message). SameContent l ms) (normal-ends g ms shape) (normal-content g ms shape)) t.2 whole.taken,
      )

-- the normal form is accepted in the file's place
pub normal-restores-proved : NormalRestores
normal-restores-proved g w file cs n reply f =
    subst
    (λ (h : FileSettings).
    Receives h w file cs n reply
    → let v = with_link w (normal_of_file h file) in
    AllReadOrFlush v (normal_calls h w file reply) × ((made v (normal_calls h w file reply)).link ≡ []) × SameReceived (made v (normal_calls h w file reply)).standby (made w (cs ++ (call.read n reply ∷ []))).standby)
    (sym (awaits-settings g w.standby f.awaits)) (restored w file cs n reply) f
