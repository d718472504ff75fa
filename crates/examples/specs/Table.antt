-- The worked examples E1 to E10 of document 01, as one table about the definitions. Assumes nothing.
use Rattle.records.specs.declared.Unread.TheVariants.{Refused}
use Rattle.rules.specs.Reply.{accepted}
use Rattle.std.specs.Prelude.{ℕ, ◌≡◌, true, false, List, [], ◌∷◌, ◌++◌, length, Err}
use Rattle.records.specs.declared.Unread.TheVariants as unread
use Rattle.records.specs.Write.{block_record, commit_record, ack_record, activation_record}
use Rattle.settings.specs.declared.Settings.{Settings}
use Rattle.rules.specs.declared.Mode.TheVariants.{Receiving, Active}
use Rattle.rules.specs.declared.Primary.{Primary}
use Rattle.rules.specs.declared.Standby.{Standby}
use Rattle.rules.specs.declared.ReadLent.{ReadLent}
use Rattle.rules.specs.PrimaryState.{primary_ok, disk_length as primary_disk_length}
use Rattle.rules.specs.StandbyState.{standby_ok, disk_length}
use Rattle.rules.specs.PrimaryWrites.{disk_write_reply}
use Rattle.rules.specs.Stream.{ack_reply}
use Rattle.rules.specs.Judge.{read_lent_ok, judged}
use Rattle.rules.specs.Takeover.{active_disk_write_refusal}
use Rattle.rules.specs.Start.{start_lent_ok}
use Rattle.rules.specs.World.{Processor, Buffers, start_lent, start_number, start_world, packet, checkpoint}
use Rattle.rules.specs.Step.{step, outcome}
use Rattle.script.specs.Pair.{pair_settings, pair_start}
use Rattle.script.specs.Output.{output_of}
use Rattle.examples.specs.Text.{bytes}

-- the settings of `pair` with L 65,536 and another U
abbrev pub with_unit : ℕ → Settings
with_unit u =
    let g = pair_settings in
    record { u = u; m = g.m; d = g.d; b = g.b; s = g.s; q = g.q; l = 65536; t = g.t }

-- the settings of `pair` with Q 32,768
abbrev pub with_queue : Settings
with_queue =
    let g = pair_settings in
    record { u = g.u; m = g.m; d = g.d; b = g.b; s = g.s; q = 32768; l = g.l; t = g.t }

-- buffers of the lengths that settings ask, with any content
abbrev pub Exact : Settings → Buffers → Type 0
Exact g b = start_lent_ok g (start_lent b) ≡ true

-- E10: wherever a block comes to, for every number and every content
pub record NoBlocks : Type 0 where
  -- written at any primary in range, under protection or alone
  pub primary : (p : Primary) (block n : ℕ) → p.settings.d ≡ 0 → primary_ok p ≡ true →
      disk_write_reply p (primary_disk_length p) p.settings.l block n ≡ record { state = p; number = 2; value = 0 }
  -- written at any active standby in range
  pub active : (s : Standby) (block n : ℕ) → s.settings.d ≡ 0 → standby_ok s ≡ true → s.mode ≡ Active →
      active_disk_write_refusal s (disk_length s) block n ≡ 2
  -- read as a whole BLOCK, with any bytes behind it, at any standby in range that is receiving
  pub received : (s : Standby) (l : ReadLent) (epoch block : ℕ) (content rest : List ℕ) →
      s.settings.d ≡ 0 → standby_ok s ≡ true → read_lent_ok s l ≡ true → s.mode ≡ Receiving → length content ≡ s.settings.u →
      judged s l (block_record epoch block content ++ rest) ≡ Err (unread.Refused 2)

pub record Examples : Type 0 where
  -- "prints, whole"
  pub E1 : output_of (bytes "w 1 7\ns 10\nc 5\nt\nm\nm\nm\na\nt\nk\n") ≡ bytes "w 0 1\ns 0 1\nc 0 1\nt 18 0\nm 0 1\nm 0 3\nm 0 4\na 0 1\nt 0 10\nk 0 1\n"
  -- "the same cut after two `m`: `k 0 0`"
  pub E2 : output_of (bytes "w 1 7\ns 10\nc 5\nt\nm\nm\nk\n") ≡ bytes "w 0 1\ns 0 1\nc 0 1\nt 18 0\nm 0 1\nm 0 3\nk 0 0\n"
  -- "ACK 1"
  pub E3 : ack_record 1 ≡ 0x04 ∷ 0x00 ∷ 0x05 ∷ 0x00 ∷ 0x01 ∷ 0x00 ∷ 0x00 ∷ 0x00 ∷ []
  -- "COMMIT epoch 2, 3 pages, 1 block"
  pub E4 : commit_record false 2 3 1 ≡ 0x08 ∷ 0x00 ∷ 0x04 ∷ 0x00 ∷ 0x02 ∷ 0x00 ∷ 0x00 ∷ 0x00 ∷ 0x03 ∷ 0x00 ∷ 0x01 ∷ 0x00 ∷ []
  -- "activation at 0"
  pub E5 : activation_record 0 ≡ 0x04 ∷ 0x00 ∷ 0x06 ∷ 0x00 ∷ 0x00 ∷ 0x00 ∷ 0x00 ∷ 0x00 ∷ []
  -- "with L 65,536, U 4,096 starts, 4,160 gives 1", the second whatever is lent
  pub E6 : (b : Buffers) → (Exact (with_unit 4096) b → start_number (with_unit 4096) b ≡ 0) × (start_number (with_unit 4160) b ≡ 1)
  -- "with Q 32,768, packet 1,514 is held, 1,515 gives 4"
  pub E7 : (c : Processor) (b : Buffers) (content : List ℕ) → Exact with_queue b →
      (start_number with_queue b ≡ 0)
      × (length content ≡ 1514 → (step (start_world with_queue c b) (packet 0 content)).outcome ≡ outcome 0 1)
      × (length content ≡ 1515 → (step (start_world with_queue c b) (packet 0 content)).outcome ≡ outcome 4 0)
  -- "`d` to a third block in an epoch gives 14"
  pub E8 : output_of (bytes "d 0 1\nd 1 1\nd 2 1\n") ≡ bytes "d 0 1\nd 0 1\nd 14 0\n"
  -- "ACK 1 twice: 11", after the start of `pair` and a checkpoint
  pub E9 : (c : Processor) →
      let closed = (step pair_start (checkpoint c)).next.primary.state in
      let first = ack_reply closed (ack_record 1) in
      (first.answer ≡ accepted 1 8) × ((ack_reply first.state (ack_record 1)).answer ≡ Err (Refused 11))
  -- "D 0: every block gives 2"
  pub E10 : NoBlocks
