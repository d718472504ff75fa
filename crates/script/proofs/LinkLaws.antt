-- Laws of the link: bytes drained behind those in it, a record drained into the whole of it, and what a read leaves of it and of the unread ACKs. Assumes nothing.
use Rattle.rules.specs.declared.Reply.{Reply}
use Rattle.rules.specs.declared.ReadReply.{ReadReply}
use Rattle.std.specs.Prelude.{Result, Ok, Err}
use Prim.Native.Nat.{ℕ, ◌+◌, ◌-◌, ◌≤◌, ◌<◌, min}
use mathlib.Core.Path.{◌≡◌, refl, sym, ap, ap₂, ◌∙◌}
use mathlib.Core.Logic.{⊎_elim}
use mathlib.Core.Bool.{true, false, cond}
use mathlib.Core.List.{List, ◌++◌, append-nil}
use native.Mathlib.Nat.{le_refl}
use native.Mathlib.Omega.{arith}
use lib.Dec.{eqb}
use lib.ListN.{length, take, drop, replicate, length-take, length-replicate}
use lib.Seq.{length-take-le, take_all, take-length}
use borrow.Author.Tests.{eq-eqb, ne_eqb}
use borrow.Rule.Slice.PartMut.{put_mid, mid_of, mid_len}
use Rattle.lists.specs.Part.{part, put, removed}
use Rattle.lists.proofs.PartLaws.{length_part, part-zero, part-back-front, put-none, put_whole, take-put-front, take-put-end, take-removed}
use Rattle.lists.proofs.TestLaws.{and-false, eq-or-ne, lt-or-ge, cond-true, pick-refused}
use Rattle.records.specs.declared.Record.{Record}
use Rattle.records.specs.declared.Unread.{Unread}
use Rattle.records.specs.declared.Record.TheVariants.{Page, Block, State, Commit, Ack}
use Rattle.records.specs.declared.Unread.TheVariants.{Short, Refused}
use Rattle.records.specs.Kind.{ACK, body_length, record_length}
use Rattle.records.specs.Write.{ack_record}
use Rattle.records.proofs.KindLaws.{page-no-commit, commit-is-commit}
use Rattle.records.proofs.ReadLaws.{read-within}
use Rattle.records.proofs.FrameLaws.{length-epoch}
use Rattle.records.proofs.WriteLaws.{ack-written}
use Rattle.rules.specs.declared.Primary.{Primary}
use Rattle.rules.specs.declared.Standby.{Standby}
use Rattle.rules.specs.declared.ReadLent.{ReadLent}
use Rattle.rules.specs.Reply.{answer_of, number_of, value_of, used_of}
use Rattle.rules.specs.Stream.{drain_refusal, drain_count, drain_reply, drain_stream, drain_destination, ack_reply}
use Rattle.rules.specs.Judge.{reader_of, judged}
use Rattle.rules.specs.Read.{read_state, reply_after, read_reply, read_memory, read_staged_pages, read_staged_marks, read_staged_blocks, read_reply_bytes}
use Rattle.rules.specs.World as call
use Rattle.rules.specs.Step.{step, outcome, ack_written}
use Rattle.rules.proofs.StreamLaws.{drain-accepted}
use Rattle.rules.proofs.PrimaryFacts.{primary-facts}
use Rattle.rules.proofs.ReplyLaws.{reply-refused, answers}
use Rattle.rules.proofs.JudgeLaws.{JudgedFacts, judged-cases, judged-facts}
use Rattle.script.specs.declared.StandbyBox.{StandbyBox}
use Rattle.script.specs.declared.Site.{Site}
use Rattle.script.specs.declared.StandbyRead.{StandbyRead}
use Rattle.text.specs.Line.{is_empty}
use Rattle.script.specs.Pair.{first_record_length, drained, done, link_bytes, link_room, drained_bytes, ack_bytes}
use Rattle.script.specs.Site.{primary_of, standby_of, acks_between, world_of, done_of, is_commit, box_lent, standby_read}
use Rattle.script.proofs.AckLaws.{take-between, acks-next, ack-used, acks-used}

-- ---- what a drain moves, and that all of it reaches the destination, whatever that held

-- no more waits than the stream has
waits : (p : Primary) (stream : ℕ) → drain_refusal p stream ≡ 0 → p.waiting ≤ stream
waits p stream z = let f = drain-accepted p stream z in omega (arith, (primary-facts p f.ok).waiting, f.stream-is)

module _ (p : Primary) (stream : List ℕ) (n room : ℕ) where
  abbrev moves : ℕ
  moves = (drain_reply p (length stream) n room).value

  -- no more leaves than the stream has, or fits the destination
  moves-low : (moves ≤ length stream) × (moves ≤ room)
  unfolding drain_reply
  moves-low =
      ⊎_elim
      (λ (z : drain_refusal p (length stream) ≡ 0). let h = waits p (length stream) z in rw z (omega arith, omega arith))
      (λ (z : drain_refusal p (length stream) ≡ 0 → ⊥). rw (pick-refused (drain_refusal p (length stream)) (drain_count p n room) 0 z) (omega arith, omega arith))
      (eq-or-ne (drain_refusal p (length stream)) 0)

  pub drain-within : moves ≤ room
  drain-within = moves-low.1

  pub length-drained : length (take moves stream) ≡ moves
  length-drained = length-take-le moves stream moves-low.0

  pub drain-puts : (destination : List ℕ) → length destination ≡ room → drain_destination p stream n destination ≡ put destination 0 (take moves stream)
  unfolding drain_reply drain_destination
  drain-puts destination e =
      ⊎_elim
      (λ (z : drain_refusal p (length stream) ≡ 0). rw (z, e))
      (λ (z : drain_refusal p (length stream) ≡ 0 → ⊥).
      pick-refused _ _ _ z
      ∙ sym (put-none destination 0)
      ∙ ap (λ (k : ℕ). put destination 0 (take k stream)) (sym (pick-refused (drain_refusal p (length stream)) (drain_count p n room) 0 z)))
      (eq-or-ne (drain_refusal p (length stream)) 0)

  -- what reaches the link
  pub drain-gives : (destination : List ℕ) → length destination ≡ room → take moves (drain_destination p stream n destination) ≡ take moves stream
  drain-gives destination e = ap (take moves) (drain-puts destination e) ∙ take-put-front destination (take moves stream) moves length-drained

-- ---- a drain into what lies behind the first k bytes of a link
module _ (p : Primary) (stream link : List ℕ) (n k : ℕ) (h : k ≤ length link) where
  abbrev behind : List ℕ
  behind = mid_of k (length link - k) link

  length-behind : length behind ≡ length link - k
  length-behind = mid_len k (length link) link (le_refl (length link))

  pub drain-behind : (r : Reply Primary) (left after : List ℕ)
      → (r ≡ drain_reply p (length stream) n (length behind))
      × ((left ≡ drain_stream p stream n (length behind))
      × (after ≡ drain_destination p stream n behind))
      → (r ≡ drain_reply p (length stream) n (length link - k))
      × ((left ≡ drain_stream p stream n (length link - k))
      × (put_mid k (length link - k) link after ≡ put link k (take r.value stream)))
  drain-behind r left after e =
      let a : r ≡ drain_reply p (length stream) n (length link - k) = e.0 ∙ ap (drain_reply p (length stream) n) length-behind in
      let b : left ≡ drain_stream p stream n (length link - k) = e.1.0 ∙ ap (drain_stream p stream n) length-behind in
      let c : after ≡ put behind 0 (take r.value stream)
      = e.1.1 ∙ drain-puts p stream n (length link - k) behind length-behind ∙ ap (λ (x : Reply Primary). put behind 0 (take x.value stream)) (sym a) in
      (a, (b, part-back-front link k after (take r.value stream) h c))

-- ---- a drain into a destination at least as long as the stream is a drain into one of n bytes
module _ (p : Primary) (stream : List ℕ) (n : ℕ) where
  count_same : (room : ℕ) → length stream ≤ room → drain_refusal p (length stream) ≡ 0 → drain_count p n room ≡ drain_count p n n
  count_same room h z = omega (arith, waits p (length stream) z)

  module _ (room : ℕ) (h : length stream ≤ room) where
    pub drain-reply-same : drain_reply p (length stream) n room ≡ drain_reply p (length stream) n n
    unfolding drain_reply
    drain-reply-same =
        ⊎_elim
        (λ (z : drain_refusal p (length stream) ≡ 0). rw (count_same room h z))
        (λ (z : drain_refusal p (length stream) ≡ 0 → ⊥). reply-refused _ _ _ _ z ∙ sym (reply-refused _ _ _ _ z))
        (eq-or-ne (drain_refusal p (length stream)) 0)

    pub drain-stream-same : drain_stream p stream n room ≡ drain_stream p stream n n
    unfolding drain_stream
    drain-stream-same =
        ⊎_elim
        (λ (z : drain_refusal p (length stream) ≡ 0). rw (count_same room h z))
        (λ (z : drain_refusal p (length stream) ≡ 0 → ⊥). pick-refused _ _ _ z ∙ sym (pick-refused _ _ _ z))
        (eq-or-ne (drain_refusal p (length stream)) 0)

  pub drained-same : (d e : List ℕ) → length stream ≤ length d → length e ≡ n
      → take (drain_reply p (length stream) n (length d)).value (drain_destination p stream n d) ≡ take (drain_reply p (length stream) n (length e)).value (drain_destination p stream n e)
  drained-same d e h k =
      let same : drain_reply p (length stream) n (length d) ≡ drain_reply p (length stream) n (length e)
      = drain-reply-same (length d) h ∙ ap (drain_reply p (length stream) n) (sym k) in
      drain-gives p stream n (length d) d refl
      ∙ ap (λ (r : Reply Primary). take r.value stream) same
      ∙ sym (drain-gives p stream n (length e) e refl)

-- ---- the bytes in the link
module _ (s : Site) (long : length s.link ≡ 2048) where
  pub length-link : length (world_of s).link ≡ min s.linked link_bytes
  unfolding world_of
  length-link = length-take s.linked s.link ∙ ap (min s.linked) long

  pub empty-link : s.linked ≡ 0 → is_empty (world_of s).link ≡ true
  unfolding world_of
  empty-link z = eq-eqb (length (take s.linked s.link)) 0 (omega (arith, length-link))

  pub full-link : (s.linked ≡ 0 → ⊥) → is_empty (world_of s).link ≡ false
  unfolding world_of
  full-link z = ne_eqb (length (take s.linked s.link)) 0 (λ e. z (omega (arith, length-link)))

  -- a record drained into all of it
  pub drain-record : s.linked ≡ 0 → length s.primary.stream ≡ 1024 → drained_bytes (first_record_length (world_of s)) (world_of s) ≡ drained (world_of s)
  unfolding world_of step
  drain-record z l =
      let p = s.primary in
      let n = first_record_length (world_of s) in
      let d : List ℕ = replicate (link_room (world_of s)) 0 in
      let e : List ℕ = replicate n 0 in
      let k : length e ≡ n = length-replicate n 0 in
      let h : length p.stream ≤ length d = omega (arith, length-link, length-replicate {A = ℕ} (link_room (world_of s)) 0) in
      let a : drain_reply p.state (length p.stream) n (length d) ≡ drain_reply p.state (length p.stream) n (length e)
      = drain-reply-same p.state p.stream n (length d) h ∙ ap (drain_reply p.state (length p.stream) n) (sym k) in
      let b : drain_stream p.state p.stream n (length d) ≡ drain_stream p.state p.stream n (length e)
      = drain-stream-same p.state p.stream n (length d) h ∙ ap (drain_stream p.state p.stream n) (sym k) in
      let g : take (drain_reply p.state (length p.stream) n (length d)).value (drain_destination p.state p.stream n d)
      ≡ take (drain_reply p.state (length p.stream) n (length e)).value (drain_destination p.state p.stream n e)
      = drained-same p.state p.stream n d e h k in
      let same : (step (world_of s) (call.drain n d)).next ≡ (step (world_of s) (call.drain n e)).next
      = λ i. record {
        primary = record { state = (a i).state; memory = p.memory; disk = p.disk; dirty = p.dirty; held = p.held; stream = b i };
        standby = standby_of s.standby;
        link = take s.linked s.link ++ g i;
        acks = acks_between s.unread s.standby.state.received;
      } in
      same ∙ sym (cond-true _ _ _ (empty-link z))

-- ---- a read

-- the epoch of the first unread ACK after it
abbrev unread_after : ℕ → ReadReply Standby → ℕ
unread_after unread r = cond (is_commit r.answer) (min unread r.state.received) unread

module _ (s : Standby) (l : ReadLent) (bytes : List ℕ) where
  -- it uses bytes that are there
  pub used-inside : used_of (read_reply s l bytes).answer ≤ length bytes
  unfolding read_reply
  used-inside =
      judged-cases s l bytes (λ r. used_of (answer_of r) ≤ length bytes) (λ n h. omega arith)
      (λ ready z. rw (answers _).used_is (read-within (reader_of s) s.settings.u bytes))

  abbrev read_by : Result Record Unread → ReadReply Standby
  read_by r = record { state = read_state s bytes r; answer = answer_of r }

  -- a reply buffer of an ACK's bytes: after an accepted COMMIT it is the ACK of the epoch that is then the last received
  pub reply-is : (reply : List ℕ) → length reply ≡ 8
      → read_reply_bytes s l bytes reply ≡ cond (is_commit (read_reply s l bytes).answer) (ack_record (read_reply s l bytes).state.received) reply
  unfolding read_reply read_reply_bytes
  reply-is reply long = go (judged s l bytes) (judged-facts s l bytes)
    where
      go : (r : Result Record Unread) → JudgedFacts s l bytes r → reply_after reply r ≡ cond (is_commit (answer_of r)) (ack_record (read_state s bytes r).received) reply
      go (Ok (Page w e p c)) f = rw (page-no-commit w)
      go (Ok (Block e n c)) f = refl
      go (Ok (State e c)) f = refl
      go (Ok (Commit w e p b c)) f = rw (commit-is-commit w) (put_whole reply (ack_record e) (length-epoch ACK e ∙ sym long))
      go (Ok (Ack e c)) f = absurd f
      go (Err (Short n)) f = refl
      go (Err (Refused n)) f = rw (and-false (eqb n 0))

  abbrev AcksAfter : ℕ → List ℕ → Result Record Unread → Type 0
  AcksAfter unread reply r = acks_between (unread_after unread (read_by r)) (read_state s bytes r).received ≡ acks_between unread s.received ++ ack_written (read_by r) (reply_after reply r)

  -- an accepted COMMIT adds the ACK of the next epoch; nothing else adds one
  pub acks-after : (unread : ℕ) (reply : List ℕ)
      → acks_between (unread_after unread (read_reply s l bytes)) (read_reply s l bytes).state.received
      ≡ acks_between unread s.received ++ ack_written (read_reply s l bytes) (read_reply_bytes s l bytes reply)
  unfolding read_reply read_reply_bytes
  acks-after unread reply = go (judged s l bytes) (judged-facts s l bytes)
    where
      go : (r : Result Record Unread) → JudgedFacts s l bytes r → AcksAfter unread reply r
      go (Ok (Page w e p c)) f = rw (page-no-commit w) (sym (append-nil _))
      go (Ok (Block e n c)) f = sym (append-nil _)
      go (Ok (State e c)) f = sym (append-nil _)
      go (Ok (Commit w e p b c)) f = rw (commit-is-commit w, ack-written s.settings.u e reply, f.tests.epoch-next) (acks-next unread s.received)
      go (Ok (Ack e c)) f = absurd f
      go (Err (Short n)) f = sym (append-nil _)
      go (Err (Refused n)) f = rw (and-false (eqb n 0)) (sym (append-nil _))

-- ---- a read at the standby's box
module _ (b : StandbyBox) (bytes : List ℕ) (r : ReadReply Standby) (answer-is : r ≡ read_reply b.state (box_lent b) bytes) where
  pub box_read : (memory pages marks blocks reply : List ℕ)
      → memory ≡ read_memory b.state (box_lent b) bytes b.memory b.pages b.marks
      → pages ≡ read_staged_pages b.state (box_lent b) bytes b.pages
      → marks ≡ read_staged_marks b.state (box_lent b) bytes b.marks
      → blocks ≡ read_staged_blocks b.state (box_lent b) bytes b.blocks
      → reply ≡ read_reply_bytes b.state (box_lent b) bytes (replicate ack_bytes 0)
      → record {
        standby = record { state = r.state; memory = memory; disk = b.disk; pages = pages; marks = marks; blocks = blocks; area = b.area };
        answer = r.answer;
        reply = reply;
      } ≡ standby_read b bytes
  unfolding standby_read
  box_read memory pages marks blocks reply em ep ek eb er =
      λ i. record {
        standby = record { state = (answer-is i).state; memory = em i; disk = b.disk; pages = ep i; marks = ek i; blocks = eb i; area = b.area };
        answer = (answer-is i).answer;
        reply = er i;
      }

  pub box-reply : (reply : List ℕ) → reply ≡ read_reply_bytes b.state (box_lent b) bytes (replicate ack_bytes 0)
      → reply ≡ cond (is_commit r.answer) (ack_record r.state.received) (replicate ack_bytes 0)
  unfolding record_length body_length
  box-reply reply e =
      e
      ∙ reply-is b.state (box_lent b) bytes (replicate ack_bytes 0) (length-replicate {A = ℕ} ack_bytes 0)
      ∙ ap (λ (x : ReadReply Standby). cond (is_commit x.answer) (ack_record x.state.received) (replicate ack_bytes 0)) (sym answer-is)

-- ---- the first k bytes of the link: all that is in it
module _ (s : Site) (long : length s.link ≡ 2048) (k : ℕ) (count : k ≡ min s.linked link_bytes) where
  inside : k ≤ length s.link
  inside = omega arith

  take_link : take k s.link ≡ take s.linked s.link
  take_link =
      ⊎_elim
      (λ (h : s.linked < 2048). let e : k ≡ s.linked = omega arith in ap (λ (n : ℕ). take n s.link) e)
      (λ (h : 2048 ≤ s.linked). take_all k s.link (omega arith) ∙ sym (take_all s.linked s.link (omega arith)))
      (lt-or-ge s.linked 2048)

  -- ---- a drain behind them
  module _ (n : ℕ) (r : Reply Primary) (reply-of : r ≡ drain_reply s.primary.state (length s.primary.stream) n (length s.link - k)) where
    -- it fits what is free
    pub drain-fits : k + r.value ≤ 2048
    drain-fits =
        let h = drain-within s.primary.state s.primary.stream n (length s.link - k) in
        let e : r.value ≡ (drain_reply s.primary.state (length s.primary.stream) n (length s.link - k)).value = ap (λ (x : Reply Primary). x.value) reply-of in
        omega (arith, inside)

    pub drain-bytes : (stream link : List ℕ)
        → stream ≡ drain_stream s.primary.state s.primary.stream n (length s.link - k)
        → link ≡ put s.link k (take r.value s.primary.stream)
        → world_of (record {
          primary = record { state = r.state; memory = s.primary.memory; disk = s.primary.disk; dirty = s.primary.dirty; held = s.primary.held; stream = stream };
          standby = s.standby;
          link = link;
          linked = k + r.value;
          unread = s.unread;
        }) ≡ drained_bytes n (world_of s)
    unfolding world_of step
    drain-bytes stream link es el =
        let p = s.primary in
        let d : List ℕ = replicate (link_room (world_of s)) 0 in
        let e : length s.link - k ≡ length d = omega (arith, length-link s long, length-replicate {A = ℕ} (link_room (world_of s)) 0) in
        let a : r ≡ drain_reply p.state (length p.stream) n (length d) = reply-of ∙ ap (drain_reply p.state (length p.stream) n) e in
        let b : stream ≡ drain_stream p.state p.stream n (length d) = es ∙ ap (drain_stream p.state p.stream n) e in
        let v : length (take r.value p.stream) ≡ r.value
        = ap (λ (x : Reply Primary). length (take x.value p.stream)) a
        ∙ length-drained p.state p.stream n (length d)
        ∙ ap (λ (x : Reply Primary). x.value) (sym a) in
        let g : take (k + r.value) link ≡ take s.linked s.link ++ take (drain_reply p.state (length p.stream) n (length d)).value (drain_destination p.state p.stream n d)
        = ap₂ (λ (m : ℕ) (l : List ℕ). take (k + m) l) (sym v) el
        ∙ take-put-end s.link k (take r.value p.stream) inside
        ∙ ap₂ (λ (x y : List ℕ). x ++ y) take_link
        (ap (λ (x : Reply Primary). take x.value p.stream) a ∙ sym (drain-gives p.state p.stream n (length d) d refl)) in
        λ i. record {
          primary = record { state = (a i).state; memory = p.memory; disk = p.disk; dirty = p.dirty; held = p.held; stream = b i };
          standby = standby_of s.standby;
          link = g i;
          acks = acks_between s.unread s.standby.state.received;
        }

  -- ---- a read of them
  module _ (bytes : List ℕ) (given_is : bytes ≡ part 0 k s.link) (d : StandbyRead) (read_is : d ≡ standby_read s.standby bytes) (used : ℕ) (used_is : used ≡ used_of d.answer) where
    pub used_low : used ≤ k
    unfolding standby_read
    used_low =
        let n : length bytes ≡ k = ap length given_is ∙ length_part 0 k s.link (omega (arith, inside)) in
        let h : used_of (standby_read s.standby bytes).answer ≤ length bytes = used-inside s.standby.state (box_lent s.standby) bytes in
        let e : used_of d.answer ≡ used_of (standby_read s.standby bytes).answer = ap (λ (x : StandbyRead). used_of x.answer) read_is in
        omega arith

    abbrev seen : List ℕ
    seen = take (length (take s.linked s.link)) (take s.linked s.link)

    seen-is : bytes ≡ seen
    seen-is = given_is ∙ part-zero k s.link ∙ take_link ∙ sym (take-length (take s.linked s.link))

    pub read_done : (link : List ℕ) (unread : ℕ) → link ≡ removed 0 used k s.link → unread ≡ cond (is_commit d.answer) (min s.unread d.standby.state.received) s.unread
        → done_of (record {
          site = record { primary = s.primary; standby = d.standby; link = link; linked = k - used; unread = unread };
          number = number_of d.answer;
          value = value_of d.answer;
          last = false;
        }) ≡ done (step (world_of s) (call.read (length (world_of s).link) (replicate ack_bytes 0)))
    unfolding world_of step standby_read
    read_done link unread el eu =
        let b = s.standby in
        let a : d ≡ standby_read b seen = read_is ∙ ap (standby_read b) seen-is in
        let l : take (k - used) link ≡ drop (used_of (standby_read b seen).answer) (take s.linked s.link)
        = ap (take (k - used)) el
        ∙ take-removed used k s.link used_low inside
        ∙ ap₂ (λ (n : ℕ) (x : List ℕ). drop n x) (used_is ∙ ap (λ (x : StandbyRead). used_of x.answer) a) take_link in
        let g : acks_between unread d.standby.state.received
        ≡ acks_between s.unread b.state.received ++ ack_written (read_reply b.state (box_lent b) seen) (read_reply_bytes b.state (box_lent b) seen (replicate ack_bytes 0))
        = ap (λ (n : ℕ). acks_between n d.standby.state.received) eu
        ∙ ap (λ (x : StandbyRead). acks_between (cond (is_commit x.answer) (min s.unread x.standby.state.received) s.unread) x.standby.state.received) a
        ∙ acks-after b.state (box_lent b) seen s.unread (replicate ack_bytes 0) in
        λ i. record {
          next = record { primary = primary_of s.primary; standby = standby_of (a i).standby; link = l i; acks = g i };
          outcome = outcome (number_of (a i).answer) (value_of (a i).answer);
          last = false;
        }

-- ---- an ACK: the first unread one
pub ack-done : (s : Site) (r : ReadReply Primary) (unread : ℕ) → s.unread ≤ s.standby.state.received
    → r ≡ ack_reply s.primary.state (ack_record s.unread)
    → unread ≡ cond (eqb (used_of r.answer) 0) s.unread (s.unread + 1)
    → done_of (record {
      site = record {
        primary = record { state = r.state; memory = s.primary.memory; disk = s.primary.disk; dirty = s.primary.dirty; held = s.primary.held; stream = s.primary.stream };
        standby = s.standby;
        link = s.link;
        linked = s.linked;
        unread = unread;
      };
      number = number_of r.answer;
      value = value_of r.answer;
      last = false;
    }) ≡ done (step (world_of s) (call.ack ack_bytes))
unfolding world_of step record_length body_length
ack-done s r unread h er eu =
    let p = s.primary in
    let acks = acks_between s.unread s.standby.state.received in
    let R = ack_reply p.state (take 8 acks) in
    let a : r ≡ R = er ∙ ap (ack_reply p.state) (sym (take-between s.unread s.standby.state.received h)) in
    let g : acks_between unread s.standby.state.received ≡ drop (used_of R.answer) acks
    = ap (λ (n : ℕ). acks_between n s.standby.state.received) (eu ∙ ap (λ (x : ReadReply Primary). cond (eqb (used_of x.answer) 0) s.unread (s.unread + 1)) a)
    ∙ acks-used s.unread s.standby.state.received (used_of R.answer) h (ack-used p.state (take 8 acks)) in
    λ i. record {
      next = record {
        primary = record { state = (a i).state; memory = p.memory; disk = p.disk; dirty = p.dirty; held = p.held; stream = p.stream };
        standby = standby_of s.standby;
        link = take s.linked s.link;
        acks = g i;
      };
      outcome = outcome (number_of (a i).answer) (value_of (a i).answer);
      last = false;
    }
