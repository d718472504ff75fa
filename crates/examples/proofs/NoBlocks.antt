-- E10: with D 0 every block gives 2. Assumes nothing.
use Rattle.std.specs.Prelude.{Ok}
use Prim.Native.Nat.{ℕ, ◌+◌}
use mathlib.Core.Path.{◌≡◌, refl, sym}
use mathlib.Core.Bool.{Bool, true, false}
use mathlib.Core.List.{List, ◌++◌}
use native.Mathlib.Omega.{arith}
use lib.Dec.{ltb}
use lib.ListN.{length, length-append}
use borrow.Author.Tests.{eq-eqb, le-ltb}
use Rattle.lists.specs.LittleEndian.{le_bytes, le_at}
use Rattle.lists.proofs.LittleEndianLaws.{length-le_bytes}
use Rattle.records.specs.declared.Record.TheVariants.{Block}
use Rattle.records.specs.declared.Reader.TheVariants as reader
use Rattle.records.specs.Kind.{unit_ok, BLOCK, is_wide, body_length, record_length}
use Rattle.records.specs.Read.{cursor, fields_of, read_record}
use Rattle.records.specs.Write.{unit_record, block_record}
use Rattle.records.proofs.KindLaws.{for-block}
use Rattle.records.proofs.FramedLaws.{frame-read}
use Rattle.settings.proofs.RangeLaws.{shared-unit}
use Rattle.rules.specs.declared.Standby.{Standby}
use Rattle.rules.specs.PrimaryState.{disk_length as primary_disk_length}
use Rattle.rules.specs.StandbyState.{is_receiving, disk_length}
use Rattle.rules.specs.PrimaryWrites.{disk_write_refusal, disk_write_reply}
use Rattle.rules.specs.Judge.{block_refusal}
use Rattle.rules.specs.Takeover.{active_disk_write_refusal}
use Rattle.rules.proofs.StandbyFacts.{standby-facts}
use Rattle.rules.proofs.JudgeLaws.{judged-number}
use Rattle.examples.specs.Table.{NoBlocks}

-- no number is below 0
below-zero : (n d : ℕ) → d ≡ 0 → ltb n d ≡ false
below-zero n d e = le-ltb n d (omega arith)

abbrev whole : ℕ → ℕ → List ℕ → List ℕ → List ℕ
whole epoch block content rest = block_record epoch block content ++ rest

-- a whole BLOCK, with any bytes behind it, is read as one, whatever its numbers
read-block : (wide : Bool) (u epoch block : ℕ) (content rest : List ℕ) → unit_ok u ≡ true → length content ≡ u →
    let s = whole epoch block content rest in
    read_record (reader.Standby wide) u s ≡ Ok (Block (le_at 4 s 4) (le_at 2 s 8) (cursor 10 (record_length u BLOCK)))
unfolding unit_record fields_of body_length
read-block wide u epoch block content rest ok size =
    let body = le_bytes 4 epoch ++ (le_bytes 2 block ++ content) in
    let n : u + 6 ≡ length body = simp (length-append, length-le_bytes) (omega arith) in
    frame-read (reader.Standby wide) u BLOCK body (record { unit = ok; for-reader = for-block wide; size = n }) rest

-- and refused, whatever it holds
refused : (s : Standby) (free epoch block : ℕ) → s.settings.d ≡ 0 → block_refusal s free epoch block ≡ 2
unfolding block_refusal
refused s free epoch block e = rw (below-zero block s.settings.d e)

pub no_blocks : NoBlocks
unfolding disk_write_refusal disk_write_reply active_disk_write_refusal
no_blocks =
    record {
      primary = λ p block n e ok.
          rw (ok, eq-eqb (primary_disk_length p) (primary_disk_length p) refl, eq-eqb p.settings.l p.settings.l refl, below-zero block p.settings.d e);
      active = λ s block n e ok active.
          rw (ok, eq-eqb (disk_length s) (disk_length s) refl, active, below-zero block s.settings.d e);
      received = λ s l epoch block content rest e ok exact mode size.
          let m : is_receiving s.mode ≡ true = rw mode in
          let r = read-block (is_wide s.settings.m) s.settings.u epoch block content rest (shared-unit (standby-facts s ok).settings.shared) size in
          judged-number s l (whole epoch block content rest) ok exact m _ (sym r) 2 (sym (refused s _ _ _ e));
    }
