-- The Packets group of a port and of all ports: one packet more, the oldest gone, one checkpoint more. Assumes nothing.
use Prim.Native.Nat.{ℕ, ◌+◌, ◌≤◌, ◌<◌}
use mathlib.Core.Path.{◌≡◌, sym, ap, ◌∙◌, subst}
use mathlib.Core.Logic.{⊎_elim}
use mathlib.Core.List.{List, [], ◌∷◌, ◌++◌, map-append}
use native.Mathlib.Nat.{add-zero}
use native.Mathlib.Omega.{arith}
use lib.ListN.{length, drop, get_or, length-append, get_or-append}
use lib.Seq.{drop-append-le, drop-drop, get_or-drop, get_or-append_seam}
use borrow.Author.Tests.{eq-eqb, ne_eqb}
use Rattle.lists.proofs.TestLaws.{lt-or-ge, eq-or-ne}
use Rattle.lists.specs.Select.{times_in}
use Rattle.lists.proofs.SelectLaws.{selected-more, selected-same, times_more, times-same}
use Rattle.queue.specs.HeldList.{Held, is_held_of, held_of}
use Rattle.runs.specs.Plain.{Sent, Checkpoint, of_port, no_checkpoint}
use Rattle.runs.proofs.FirstLaws.{FirstOf, first-all, first_more, first-length, first-same}
use Rattle.runs.proofs.Invariant.{saved_in, Released, Unreleased, bytes_of, Packets, PortPackets}
use Rattle.runs.proofs.SentLaws.{of-port-more, of-port-same}

-- ---- one packet more, with the open epoch
released-more : (port n : ℕ) (checkpoints : List Checkpoint) (held : List Held) (h : Held) → h.epoch ≡ length checkpoints → Released port n checkpoints held
    → Released port n checkpoints (held ++ (h ∷ []))
released-more port n checkpoints [] h e r = (λ j a b. absurd (omega arith), tt)
released-more port n checkpoints (x ∷ xs) h e r = (r.0, released-more port (n + 1) checkpoints xs h e r.1)

unreleased-more : (port n : ℕ) (checkpoints : List Checkpoint) (held : List Held) (h : Held) → h.epoch ≡ length checkpoints
    → ((j : ℕ) → j < length checkpoints → saved_in port (get_or checkpoints j no_checkpoint) ≤ n + length held) → Unreleased port n checkpoints held
    → Unreleased port n checkpoints (held ++ (h ∷ []))
unreleased-more port n checkpoints [] h e f r = (omega arith, λ j a b. absurd (omega (arith, f j a)), tt)
unreleased-more port n checkpoints (x ∷ xs) h e f r = (r.0, r.1, unreleased-more port (n + 1) checkpoints xs h e (λ j a. omega (arith, f j a)) r.2)

module _ (port : ℕ) (held : List Held) (accepted : List (List ℕ)) (taken : ℕ) (checkpoints : List Checkpoint) where
  pub packets-more : (h : Held) → h.epoch ≡ length checkpoints → Packets port held accepted taken checkpoints
      → Packets port (held ++ (h ∷ [])) (accepted ++ (h.bytes ∷ [])) taken checkpoints
  packets-more h e k =
      let x = h.bytes in
      record {
        queued = map-append bytes_of held (h ∷ []) ∙ ap (λ (l : List (List ℕ)). l ++ (x ∷ [])) k.queued ∙ sym (drop-append-le taken accepted (x ∷ []) (omega (arith, k.sum)));
        sum = simp length-append (omega (arith, k.sum));
        released = released-more port taken checkpoints held h e k.released;
        unreleased = unreleased-more port taken checkpoints held h e (λ j l. omega (arith, k.sum, first-length (of_port port (get_or checkpoints j no_checkpoint).packets) accepted (k.first j l))) k.unreleased;
        first = λ j l. first_more (of_port port (get_or checkpoints j no_checkpoint).packets) accepted (x ∷ []) (k.first j l);
      }

  -- ---- the oldest is gone
  pub packets-less : (h : Held) → Packets port (h ∷ held) accepted taken checkpoints → Packets port held accepted (taken + 1) checkpoints
  packets-less h k =
      record {
        queued = ap (drop 1) k.queued ∙ drop-drop 1 taken accepted;
        sum = omega (arith, k.sum);
        released = k.released.1;
        unreleased = k.unreleased.2;
        first = k.first;
      }

  -- it is the next of those accepted
  module _ (h : Held) (k : Packets port (h ∷ held) accepted taken checkpoints) where
    pub oldest-queued : taken < length accepted
    oldest-queued = omega (arith, k.sum)

    pub oldest-is : h.bytes ≡ get_or accepted taken []
    oldest-is = ap (λ (l : List (List ℕ)). get_or l 0 []) k.queued ∙ get_or-drop taken accepted 0 [] ∙ ap (λ (n : ℕ). get_or accepted n []) (add-zero taken)

    -- and, from its epoch on, one of each checkpoint's
    module _ (j : ℕ) (from : h.epoch ≤ j) (l : j < length checkpoints) where
      pub oldest-below : taken < saved_in port (get_or checkpoints j no_checkpoint)
      oldest-below = k.released.0 j from l

      pub oldest-saved : h.bytes ≡ get_or (of_port port (get_or checkpoints j no_checkpoint).packets) taken []
      oldest-saved = oldest-is ∙ sym (first-same taken (of_port port (get_or checkpoints j no_checkpoint).packets) accepted (k.first j l) oldest-below [])

-- ---- the same of all ports: a call for one port changes that port's group alone
module _ (held : List Held) (accepted : List Sent) (taken : List ℕ) (checkpoints : List Checkpoint) (k : (port : ℕ) → PortPackets held accepted taken checkpoints port) where
  pub packets-sent : (h : Held) → h.epoch ≡ length checkpoints
      → (port : ℕ) → PortPackets (held ++ (h ∷ [])) (accepted ++ (record { port = h.port; bytes = h.bytes } ∷ [])) taken checkpoints port
  packets-sent h e port =
      let s : Sent = record { port = h.port; bytes = h.bytes } in
      ⊎_elim
      (λ (is : h.port ≡ port).
      rw (selected-more (is_held_of port) held h (eq-eqb _ _ is), of-port-more port accepted s is)
      (packets-more port (held_of port held) (of_port port accepted) (times_in port taken) checkpoints h e (k port)))
      (λ (ne : h.port ≡ port → ⊥). rw (selected-same (is_held_of port) held h (ne_eqb _ _ ne), of-port-same port accepted s ne) (k port))
      (eq-or-ne h.port port)

  pub packets-taken : (left : ℕ) (h : Held) (rest : List Held) → held_of left held ≡ h ∷ held_of left rest
      → ((other : ℕ) → (other ≡ left → ⊥) → held_of other rest ≡ held_of other held)
      → (port : ℕ) → PortPackets rest accepted (left ∷ taken) checkpoints port
  packets-taken left h rest first others port =
      ⊎_elim
      (λ (is : left ≡ port).
      rw (times_more port left taken is)
      (packets-less port (held_of port rest) (of_port port accepted) (times_in port taken) checkpoints h
      (subst (λ (l : List Held). Packets port l (of_port port accepted) (times_in port taken) checkpoints) (rw is at first) (k port))))
      (λ (ne : left ≡ port → ⊥). rw (times-same port left taken ne, others port (λ x. ne (sym x))) (k port))
      (eq-or-ne left port)

-- ---- one checkpoint more, with all packets accepted so far
module _ (checkpoints : List Checkpoint) (c : Checkpoint) where
  pub checkpoint-cases : (P : Checkpoint → Type 0) (j : ℕ) → j < length (checkpoints ++ (c ∷ [])) → (j < length checkpoints → P (get_or checkpoints j no_checkpoint)) → P c
      → P (get_or (checkpoints ++ (c ∷ [])) j no_checkpoint)
  checkpoint-cases P j l old new =
      ⊎_elim
      (λ a. rw (get_or-append checkpoints (c ∷ []) no_checkpoint j a) (old a))
      (λ a. let e : j ≡ length checkpoints = omega (arith, length-append checkpoints (c ∷ [])) in rw e (rw (get_or-append_seam checkpoints c [] no_checkpoint) new))
      (lt-or-ge j (length checkpoints))

  released-checkpoint : (port n : ℕ) (held : List Held) → n + length held ≤ saved_in port c → Released port n checkpoints held → Released port n (checkpoints ++ (c ∷ [])) held
  released-checkpoint port n [] f r = tt
  released-checkpoint port n (x ∷ xs) f r =
      (λ j a b. checkpoint-cases (λ (z : Checkpoint). n < saved_in port z) j b (λ l. r.0 j a l) (omega arith), released-checkpoint port (n + 1) xs (omega arith) r.1)

  unreleased-checkpoint : (port n : ℕ) (held : List Held) → Unreleased port n checkpoints held → Unreleased port n (checkpoints ++ (c ∷ [])) held
  unreleased-checkpoint port n [] r = tt
  unreleased-checkpoint port n (x ∷ xs) r = (
    omega (arith, length-append checkpoints (c ∷ []), r.0),
    λ j b m.
        ⊎_elim
        (λ (a : j < length checkpoints). r.1 j a (subst (λ (z : Checkpoint). n < saved_in port z) (get_or-append checkpoints (c ∷ []) no_checkpoint j a) m))
        (λ (a : length checkpoints ≤ j). omega (arith, r.0))
        (lt-or-ge j (length checkpoints)),
    unreleased-checkpoint port (n + 1) xs r.2,
  )

  pub packets-checkpoint : (port : ℕ) (held : List Held) (accepted : List (List ℕ)) (taken : ℕ) → of_port port c.packets ≡ accepted → Packets port held accepted taken checkpoints
      → Packets port held accepted taken (checkpoints ++ (c ∷ []))
  packets-checkpoint port held accepted taken e k =
      record {
        queued = k.queued;
        sum = k.sum;
        released = released-checkpoint port taken held (omega (arith, k.sum, ap length e)) k.released;
        unreleased = unreleased-checkpoint port taken held k.unreleased;
        first = λ j l. checkpoint-cases (λ (z : Checkpoint). FirstOf (of_port port z.packets) accepted) j l (k.first j) (first-all (of_port port c.packets) accepted e);
      }
