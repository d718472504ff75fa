-- What leaves the primary on the link, and what comes back: drain and ACK. Assumes nothing.
use Rattle.rules.specs.declared.Reply.{Reply}
use Rattle.rules.specs.declared.ReadReply.{ReadReply}
use Rattle.std.specs.Prelude.{ℕ, ◌-◌, min, cond, ◌&&◌, List, [], ◌∷◌, ltb, eqb, length, take, Result, Err}
use Rattle.lists.specs.Refusal.{Test, test, refusal, pick}
use Rattle.lists.specs.Part.{put, removed}
use Rattle.records.specs.declared.Record.{Record}
use Rattle.records.specs.declared.Unread.{Unread}
use Rattle.records.specs.declared.Unread.TheVariants.{Refused}
use Rattle.records.specs.declared.Reader.TheVariants as reader
use Rattle.records.specs.Cases.{on_ack}
use Rattle.records.specs.Read.{read_record, other_refusal}
use Rattle.records.specs.Number.{out_of_range, wrong_mode, bad_ack}
use Rattle.detector.specs.Tick.{reset}
use Rattle.rules.specs.declared.Primary.{Primary}
use Rattle.rules.specs.PrimaryState.{primary_ok, protected, with_waiting, with_acknowledged_detector}
use Rattle.rules.specs.Reply.{reply_of, unless_refused, answer_of}

-- ---- drain: 1
abbrev pub drain_tests : Primary → ℕ → List Test
drain_tests p stream = test out_of_range (primary_ok p && eqb stream p.settings.l) ∷ []

unfoldable pub drain_refusal : Primary → ℕ → ℕ
drain_refusal p stream = refusal (drain_tests p stream)

-- "the first min(n, waiting, destination length) bytes"
abbrev pub drain_count : Primary → ℕ → ℕ → ℕ
drain_count p n destination = min n (min p.waiting destination)

unfoldable pub drain_reply : Primary → ℕ → ℕ → ℕ → Reply Primary
drain_reply p stream n destination =
    let count = drain_count p n destination in
    reply_of (drain_refusal p stream) p (with_waiting p (p.waiting - count)) count

unfoldable pub drain_stream : Primary → List ℕ → ℕ → ℕ → List ℕ
drain_stream p stream n destination = pick (drain_refusal p (length stream)) (removed 0 (drain_count p n destination) p.waiting stream) stream

unfoldable pub drain_destination : Primary → List ℕ → ℕ → List ℕ → List ℕ
drain_destination p stream n destination =
    pick (drain_refusal p (length stream)) (put destination 0 (take (drain_count p n (length destination)) stream)) destination

-- ---- ACK: 1 13 header 6 7 body 11

-- above the acknowledged epoch and below the open one; else 11
abbrev pub ack_tests : Primary → ℕ → List Test
ack_tests p epoch = test bad_ack (ltb p.acknowledged epoch && ltb epoch p.epoch) ∷ []

abbrev pub ack_refusal : Primary → Result Record Unread → ℕ
ack_refusal p r = on_ack r (λ e c. refusal (ack_tests p e)) (other_refusal r)

-- the record at the head of the bytes where it is accepted, else cut short or the number
unfoldable pub ack_judged : Primary → List ℕ → Result Record Unread
ack_judged p bytes =
    let r = read_record reader.Primary p.settings.u bytes in
    cond (primary_ok p)
    (cond (protected p) (unless_refused (ack_refusal p r) r) (Err (Refused wrong_mode)))
    (Err (Refused out_of_range))

-- "acknowledges all epochs up to e"; "the count returns to 0 at each accepted ACK"
abbrev pub ack_state : Primary → Result Record Unread → Primary
ack_state p r = on_ack r (λ e c. with_acknowledged_detector p e (reset p.detector)) p

unfoldable pub ack_reply : Primary → List ℕ → ReadReply Primary
ack_reply p bytes = record { state = ack_state p (ack_judged p bytes); answer = answer_of (ack_judged p bytes) }
