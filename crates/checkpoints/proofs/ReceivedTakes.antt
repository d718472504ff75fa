-- A standby with no block due accepts records that are not refused, one read each, up to their COMMIT. Assumes nothing.
use Prim.Native.Nat.{ℕ, ◌+◌, ◌≤◌}
use mathlib.Core.Path.{◌≡◌, sym, ap, ◌∙◌, subst}
use mathlib.Core.Bool.{Bool}
use mathlib.Core.List.{List, [], ◌∷◌, ◌++◌}
use native.Mathlib.Omega.{arith}
use lib.ListN.{length, replicate, length-append}
use lib.Seq.{append_snoc}
use Rattle.records.specs.Kind.{ACK, is_wide, record_length}
use Rattle.records.specs.Message.{Message, page, block, state, commit, ack, encode, encode_all}
use Rattle.settings.specs.declared.StandbySettings.{StandbySettings}
use Rattle.rules.specs.World.{World, Call}
use Rattle.rules.specs.World as call
use Rattle.rules.specs.Step.{step}
use Rattle.runs.specs.Plain.{Checkpoint}
use Rattle.runs.proofs.Effects.{All, Before, Readable}
use Rattle.checkpoints.specs.Judge.{Known, known_with, message_refusal, refusal_from}
use Rattle.checkpoints.specs.Received.{made, AllReadOrFlush}
use Rattle.checkpoints.proofs.KnownLaws.{refusal-cons, message_epoch}
use Rattle.checkpoints.proofs.Standing.{file_settings, Standing, Taken}
use Rattle.checkpoints.proofs.StandingRead.{After}
use Rattle.checkpoints.proofs.StandingTakes.{Takes, read-takes}

module _ (x : StandbySettings) (base : Checkpoint) (r n : ℕ) (reply : List ℕ) (room : record_length x.u ACK ≤ length reply) where
  abbrev wide : Bool
  wide = is_wide x.m

  abbrev reads : List Message → List Call
  reads ys = replicate (length ys) (call.read n reply)

  -- what is asked of the world w, and of the records ys to come
  pub record Ready (w : World) (k : Known) (ms ys : List Message) : Type 0 where
    pub standing : Standing x base r k ms w.standby
    pub free : w.standby.state.slots.due ≡ 0
    pub link : w.link ≡ encode_all (is_wide x.m) ys
    pub enough : length w.link ≤ n
    pub fit : All (λ (y : Message). Readable x.u (is_wide x.m) y × (message_epoch y ≡ r + 1)) ys
    pub records : refusal_from (file_settings x) k ys ≡ 0

  -- the first of them is accepted
  first_taken : (w : World) (k : Known) (ms : List Message) (y : Message) (ys : List Message) → Ready w k ms (y ∷ ys)
      → Takes x base r k ms (encode_all (is_wide x.m) ys) (step w (call.read n reply)) y
  first_taken w k ms y ys f =
      let same = f.standing.settings in
      let back = sym same in
      subst (λ (v : StandbySettings). Takes v base r k ms (encode_all wide ys) (step w (call.read n reply)) y) same
      (read-takes base r k ms w (subst (λ (v : StandbySettings). Standing v base r k ms w.standby) back f.standing) f.free n reply
      (subst (λ (v : StandbySettings). record_length v.u ACK ≤ length reply) back room) y (encode_all wide ys)
      (subst (λ (v : StandbySettings). Readable v.u (is_wide v.m) y) back f.fit.0.0)
      (f.link ∙ ap (λ (v : StandbySettings). encode (is_wide v.m) y ++ encode_all wide ys) back) f.enough f.fit.0.1
      (subst (λ (v : StandbySettings). message_refusal (file_settings v) k y ≡ 0) back (refusal-cons (file_settings x) k y ys f.records).0))

  -- where one that ends no checkpoint is accepted, the rest can be
  rest-ready : (w : World) (k : Known) (ms : List Message) (y : Message) (ys : List Message) → Ready w k ms (y ∷ ys) → Before y
      → Ready (step w (call.read n reply)).next (known_with k y) (ms ++ (y ∷ [])) ys
  rest-ready w k ms y ys f b =
      let t = first_taken w k ms y ys f in
      record {
        standing = before y b t.after;
        free = t.free b;
        link = t.link;
        enough = omega (arith, ap length t.link, f.enough, ap length f.link, length-append (encode wide y) (encode_all wide ys));
        fit = f.fit.1;
        records = (refusal-cons (file_settings x) k y ys f.records).1;
      }
    where
      before : (y : Message) → Before y → After x base r k ms (step w (call.read n reply)).next.standby y → Standing x base r (known_with k y) (ms ++ (y ∷ [])) (step w (call.read n reply)).next.standby
      before (page e p bs) b a = a
      before (block e m bs) b a = a
      before (state e bs) b a = a
      before (commit e p m) b a = absurd b
      before (ack e) b a = absurd b

  -- all of them
  pub all-taken : (xs : List Message) (a p b : ℕ) (w : World) (k : Known) (ms : List Message) → All Before xs → Ready w k ms (xs ++ (commit a p b ∷ []))
      → AllReadOrFlush w (replicate (length (xs ++ (commit a p b ∷ []))) (call.read n reply))
      × ((made w (replicate (length (xs ++ (commit a p b ∷ []))) (call.read n reply))).link ≡ [])
      × Taken x base r (ms ++ (xs ++ (commit a p b ∷ []))) (made w (replicate (length (xs ++ (commit a p b ∷ []))) (call.read n reply))).standby
  all-taken [] a p b w k ms before f =
      let t = first_taken w k ms (commit a p b) [] f in
      ((t.number, tt), t.link, t.after)
  all-taken (y ∷ xs) a p b w k ms before f =
      let ys = xs ++ (commit a p b ∷ []) in
      let t = first_taken w k ms y ys f in
      let next = (step w (call.read n reply)).next in
      let more = all-taken xs a p b next (known_with k y) (ms ++ (y ∷ [])) before.1 (rest-ready w k ms y ys f before.0) in
      ((t.number, more.0), more.1, subst (λ (l : List Message). Taken x base r l (made next (reads ys)).standby) (append_snoc ms y ys) more.2)
