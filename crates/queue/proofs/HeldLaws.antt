-- Laws of the queue as a list of what it holds: one packet more is appended, one that is taken leaves, a port's oldest
-- is the first of its packets, and the packets of other ports stay. Assumes nothing.
use mathlib.Core.Path.{◌≡◌, refl, sym, ap, ap₂, ◌∙◌}
use mathlib.Core.Bool.{true, false}
use mathlib.Core.List.{List, [], ◌∷◌, ◌++◌}
use Prim.Native.Nat.{ℕ, zero, suc, ◌+◌, ◌-◌, ◌≤◌, ◌<◌}
use native.Mathlib.Nat.{zero-add}
use native.Mathlib.Omega.{arith}
use lib.ListN.{length, take, drop, get_or}
use lib.Seq.{take-take, drop-drop, length-take-le}
use borrow.Author.Tests.{eqb-true, ne_eqb}
use Rattle.lists.specs.Part.{part, put, removed}
use Rattle.lists.specs.Select.{place_of, without}
use Rattle.lists.proofs.PartLaws.{drop-take, length_part, length-put, length_removed, take_put, take-put-front, part-put, part-removed}
use Rattle.lists.proofs.SelectLaws.{place-passes, place-some, selected-first, selected-without}
use Rattle.settings.specs.Range.{most_packets}
use Rattle.queue.specs.declared.Packet.{Packet}
use Rattle.queue.specs.declared.Queue.{Queue}
use Rattle.queue.specs.Held.{no_packet, empty_queue, held_packets, packet_at, is_of_port, oldest_at, sum_lengths, queue_ok, bytes_before, has_space, added, added_bytes, packet_bytes, without_packet, without_packet_bytes}
use Rattle.queue.specs.HeldList.{Held, held_from, held_list, is_held_of, held_of}
use Rattle.queue.proofs.QueueLaws.{queue-tests, space-facts, held_more, below-held, held_at, before-it, held-without, packet-within}

-- ---- packets whose bytes stand in a list
held-from-more : (ps : List Packet) (p : Packet) (s : List ℕ)
    → held_from (ps ++ (p ∷ [])) s ≡ held_from ps s ++ (record { epoch = p.epoch; port = p.port; bytes = part (sum_lengths ps) p.length s } ∷ [])
unfolding held_from sum_lengths part
held-from-more [] p s = refl
held-from-more (x ∷ xs) p s =
    let h : Held = record { epoch = x.epoch; port = x.port; bytes = take x.length s } in
    ap (λ (l : List Held). h ∷ l) (held-from-more xs p (drop x.length s) ∙ rw (drop-drop (sum_lengths xs) x.length s))

-- no other byte matters
held-from-same : (ps : List Packet) (s t : List ℕ) → take (sum_lengths ps) s ≡ take (sum_lengths ps) t → held_from ps s ≡ held_from ps t
unfolding held_from sum_lengths
held-from-same [] s t e = refl
held-from-same (p ∷ ps) s t e =
    let n = p.length in
    let m = sum_lengths ps in
    let b : take n s ≡ take n t = sym (take-take n (n + m) s (omega arith)) ∙ ap (take n) e ∙ take-take n (n + m) t (omega arith) in
    let o : n + m - n ≡ m = omega arith in
    let r : take m (drop n s) ≡ take m (drop n t) = rw o at (sym (drop-take n (n + m) s) ∙ ap (drop n) e ∙ drop-take n (n + m) t) in
    ap₂ (λ (bs : List ℕ) (l : List Held). record { epoch = p.epoch; port = p.port; bytes = bs } ∷ l) b (held-from-same ps (drop n s) (drop n t) r)

-- each of them
held-from-length : (ps : List Packet) (s : List ℕ) → length (held_from ps s) ≡ length ps
unfolding held_from
held-from-length [] s = refl
held-from-length (p ∷ ps) s = ap suc (held-from-length ps (drop p.length s))

held-from-at : (i : ℕ) (ps : List Packet) (s : List ℕ) (z : Held) (y : Packet) → i < length ps
    → get_or (held_from ps s) i z ≡ record { epoch = (get_or ps i y).epoch; port = (get_or ps i y).port; bytes = part (sum_lengths (take i ps)) (get_or ps i y).length s }
unfolding held_from sum_lengths part
held-from-at i [] s z y h = absurd (omega arith)
held-from-at zero (p ∷ ps) s z y h = refl
held-from-at (suc i) (p ∷ ps) s z y h = held-from-at i ps (drop p.length s) z y (omega arith) ∙ rw (drop-drop (sum_lengths (take i ps)) p.length s)

-- one of them gone, with its bytes: in t those behind it stand in their place
held-from-without : (i : ℕ) (ps : List Packet) (s t : List ℕ) (y : Packet) (m : ℕ) → i < length ps
    → let b = sum_lengths (take i ps) in
    let n = (get_or ps i y).length in
    sum_lengths ps ≤ b + n + m → take b t ≡ take b s → take m (drop b t) ≡ take m (drop (b + n) s) → held_from (without i ps) t ≡ without i (held_from ps s)
unfolding held_from sum_lengths without
held-from-without i [] s t y m h most front behind = absurd (omega arith)
held-from-without zero (p ∷ ps) s t y m h most front behind =
    let w : sum_lengths ps ≤ m = omega arith in
    let z : 0 + p.length ≡ p.length = zero-add p.length in
    held-from-same ps t (drop p.length s)
    (sym (take-take (sum_lengths ps) m t w) ∙ ap (take (sum_lengths ps)) (rw z at behind) ∙ take-take (sum_lengths ps) m (drop p.length s) w)
held-from-without (suc i) (p ∷ ps) s t y m h most front behind =
    let d = p.length in
    let b = sum_lengths (take i ps) in
    let n = (get_or ps i y).length in
    let head : take d t ≡ take d s = sym (take-take d (d + b) t (omega arith)) ∙ ap (take d) front ∙ take-take d (d + b) s (omega arith) in
    let o : d + b - d ≡ b = omega arith in
    let front' : take b (drop d t) ≡ take b (drop d s) = rw o at (sym (drop-take d (d + b) t) ∙ ap (drop d) front ∙ drop-take d (d + b) s) in
    let v : d + (b + n) ≡ d + b + n = omega arith in
    let behind' : take m (drop b (drop d t)) ≡ take m (drop (b + n) (drop d s)) = rw (drop-drop b d t, drop-drop (b + n) d s, v) behind in
    ap₂ (λ (bs : List ℕ) (l : List Held). record { epoch = p.epoch; port = p.port; bytes = bs } ∷ l) head
    (held-from-without i ps (drop d s) (drop d t) y m (omega arith) (omega arith) front' behind')

-- a port's oldest is at the same place
held-from-place : (port : ℕ) (ps : List Packet) (s : List ℕ) → place_of (is_held_of port) (held_from ps s) ≡ place_of (is_of_port port) ps
unfolding held_from place_of
held-from-place port [] s = refl
held-from-place port (p ∷ ps) s = rw (held-from-place port ps (drop p.length s))

-- ---- the queue
pub held-empty : (held : List ℕ) → held_list empty_queue held ≡ []
unfolding held_list held_from
held-empty held = refl

module _ (k : Queue) (array : length k.packets ≡ most_packets) (epoch q : ℕ) (ok : queue_ok k epoch q ≡ true) (held : List ℕ) (size : length held ≡ q) where
  -- ---- one packet more
  module _ (port : ℕ) (packet : List ℕ) (space : has_space k q (length packet) ≡ true) where
    pub length-added-bytes : length (added_bytes k held packet) ≡ length held
    unfolding added_bytes
    length-added-bytes = let s = space-facts k q (length packet) space in length-put held k.bytes packet (omega arith)

    pub held-added : held_list (added k epoch port (length packet)) (added_bytes k held packet) ≡ held_list k held ++ (record { epoch = epoch; port = port; bytes = packet } ∷ [])
    unfolding held_list added_bytes
    held-added =
        let s = space-facts k q (length packet) space in
        let b : k.bytes ≤ length held = omega arith in
        let e = (queue-tests k epoch q ok).sum_is in
        let p : Packet = record { epoch = epoch; length = length packet; port = port } in
        let after = put held k.bytes packet in
        ap (λ (ps : List Packet). held_from ps after) (held_more k array epoch port (length packet) s.0)
        ∙ held-from-more (held_packets k) p after
        ∙ ap₂ (λ (l : List Held) (bs : List ℕ). l ++ (record { epoch = epoch; port = port; bytes = bs } ∷ []))
        (held-from-same (held_packets k) after held (rw e (take_put held k.bytes packet b)))
        (rw e (part-put held k.bytes packet b))

  -- ---- the i-th
  module _ (i : ℕ) (some : i < k.count) where
    pub length-packet-bytes : length (packet_bytes k i held) ≡ (packet_at k i).length
    unfolding packet_bytes
    length-packet-bytes =
        length_part (bytes_before k i) (packet_at k i).length held (omega (arith, packet-within k array epoch q ok i some, (queue-tests k epoch q ok).bytes_high))

    -- what stands at the head of the destination
    pub handed_out : (destination : List ℕ) → take (packet_at k i).length (put destination 0 (packet_bytes k i held)) ≡ packet_bytes k i held
    handed_out destination = take-put-front destination (packet_bytes k i held) (packet_at k i).length length-packet-bytes

    pub length-without-bytes : length (without_packet_bytes k i held) ≡ length held
    unfolding without_packet_bytes
    length-without-bytes =
        length_removed (bytes_before k i) (packet_at k i).length k.bytes held (packet-within k array epoch q ok i some) (omega (arith, (queue-tests k epoch q ok).bytes_high))

    -- the list without its i-th
    pub held-list-without : held_list (without_packet k i) (without_packet_bytes k i held) ≡ without i (held_list k held)
    unfolding held_list without_packet_bytes removed part
    held-list-without =
        let t = queue-tests k epoch q ok in
        let b = bytes_before k i in
        let n = (packet_at k i).length in
        let w = packet-within k array epoch q ok i some in
        let fits : k.bytes ≤ length held = omega (arith, t.bytes_high) in
        let z = held_at k array epoch q ok i some in
        let before = before-it k array epoch q ok i some in
        ap (λ (ps : List Packet). held_from ps (removed b n k.bytes held)) (held-without k array epoch q ok i some)
        ∙ held-from-without i (held_packets k) held (removed b n k.bytes held) no_packet (k.bytes - (b + n)) (below-held k array epoch q ok i some)
        (rw (z, before) (omega (arith, t.sum_is)))
        (rw before (take_put held b (part (b + n) (k.bytes - (b + n)) held) (omega arith)))
        (rw (z, before) (part-removed b n k.bytes held w fits))

    pub held-list-at : (z : Held) → get_or (held_list k held) i z ≡ record { epoch = (packet_at k i).epoch; port = (packet_at k i).port; bytes = packet_bytes k i held }
    unfolding held_list packet_bytes
    held-list-at z =
        rw (sym (before-it k array epoch q ok i some), sym (held_at k array epoch q ok i some))
        (held-from-at i (held_packets k) held z no_packet (below-held k array epoch q ok i some))

  -- ---- a port's oldest

  -- where one of its packets is held, it has an oldest
  pub port-some : (port : ℕ) → 0 < length (held_of port (held_list k held)) → oldest_at k port < k.count
  unfolding held_list
  port-some port h =
      let ps = held_packets k in
      let t = queue-tests k epoch q ok in
      omega (arith, place-some (is_held_of port) (held_list k held) h, held-from-place port ps held, held-from-length ps held, length-take-le k.count k.packets (omega (arith, t.count-high)))

  module _ (port : ℕ) (some : oldest_at k port < k.count) where
    abbrev i : ℕ
    i = oldest_at k port

    abbrev first : Held
    first = record { epoch = (packet_at k i).epoch; port = (packet_at k i).port; bytes = packet_bytes k i held }

    abbrev rest : List Held
    rest = held_list (without_packet k i) (without_packet_bytes k i held)

    place : place_of (is_held_of port) (held_list k held) ≡ i
    unfolding held_list
    place = held-from-place port (held_packets k) held

    below : i < length (held_list k held)
    unfolding held_list
    below = rw (held-from-length (held_packets k) held) (below-held k array epoch q ok i some)

    pub oldest-port : (packet_at k (oldest_at k port)).port ≡ port
    oldest-port =
        eqb-true _ _ (rw (held_at k array epoch q ok i some) at (place-passes (is_of_port port) (held_packets k) no_packet (below-held k array epoch q ok i some)))

    -- it is the first of the port's packets
    pub oldest-first : held_of port (held_list k held) ≡ first ∷ held_of port rest
    oldest-first =
        let l = held_list k held in
        selected-first (is_held_of port) l first (rw place below)
        ∙ rw (place, held-list-at i some first, held-list-without i some)

    -- the packets of another port stay
    pub others-stay : (other : ℕ) → (other ≡ port → ⊥) → held_of other rest ≡ held_of other (held_list k held)
    others-stay other ne =
        let l = held_list k held in
        let e : is_held_of other (get_or l i first) ≡ false = rw (held-list-at i some first) (ne_eqb _ _ (λ x. ne (sym x ∙ oldest-port))) in
        ap (held_of other) (held-list-without i some) ∙ selected-without (is_held_of other) i l first below e
