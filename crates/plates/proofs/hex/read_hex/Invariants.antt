-- `plates::hex::read_hex` meets its contract. The loop's invariant: the bytes read so far, in front of what the rest of
-- the line gives, are what the whole gives.
use Rattle.plates.proofs.HexLaws.{ReadInv}
use Rattle.plates.proofs.hex.read_hex.Given as goal

abbrev pub invariant-loop-i : goal.invariant-loop-i
invariant-loop-i l = ReadInv l.line l.from l.bytes l.count l.half l.i-counter
