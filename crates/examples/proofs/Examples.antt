-- The proof of the table of examples. Assumes nothing.
use Prim.Native.Nat.{ℕ}
use mathlib.Core.Path.{◌≡◌, refl}
use mathlib.Core.List.{List}
use lib.ListN.{length}
use Rattle.settings.specs.declared.Settings.{Settings}
use Rattle.rules.specs.Packets.{packet_reply}
use Rattle.rules.specs.Start.{opened_primary}
use Rattle.rules.specs.World.{Processor, Buffers, start_number, start_world, packet}
use Rattle.rules.specs.Step.{step, outcome}
use Rattle.examples.specs.Table.{with_unit, with_queue, Examples}
use Rattle.examples.proofs.Definitions.{definitions}
use Rattle.examples.proofs.StartLaws.{opened, lent, starts}
use Rattle.examples.proofs.NoBlocks.{no_blocks}

-- a packet after an accepted start, by its length
packet-of : (g : Settings) (c : Processor) (b : Buffers) (content : List ℕ) (n : ℕ) → start_number g b ≡ 0 → length content ≡ n →
    let r = packet_reply (opened_primary g) g.q 0 n in
    (step (start_world g c b) (packet 0 content)).outcome ≡ outcome r.number r.value
unfolding step start_world
packet-of g c b content n h e = rw (opened g b h c, (lent g b h).held-is, e)

pub examples : Examples
unfolding definitions
examples =
    record {
      E1 = refl;
      E2 = refl;
      E3 = refl;
      E4 = refl;
      E5 = refl;
      E6 = λ b. (starts (with_unit 4096) b refl, refl);
      E7 = λ c b content h. let n = starts with_queue b refl h in (n, packet-of with_queue c b content 1514 n, packet-of with_queue c b content 1515 n);
      E8 = refl;
      E9 = λ c. (refl, refl);
      E10 = no_blocks;
    }
