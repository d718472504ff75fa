-- The lengths of written records. Assumes nothing.
use mathlib.Core.Path.{◌≡◌}
use mathlib.Core.Bool.{Bool}
use mathlib.Core.List.{List, ◌++◌, append_assoc}
use Prim.Native.Nat.{ℕ, ◌+◌}
use native.Mathlib.Omega.{arith}
use lib.ListN.{length, length-append}
use Rattle.lists.specs.LittleEndian.{le_bytes}
use Rattle.lists.proofs.LittleEndianLaws.{length-le_bytes}
use Rattle.records.specs.Kind.{counts_end}
use Rattle.records.specs.Write.{frame, unit_record, state_record, commit_record, epoch_record}

pub length-frame : (kind : ℕ) (body : List ℕ) → length (frame kind body) ≡ 4 + length body
unfolding frame
length-frame kind body = simp (length-append, length-le_bytes) (omega arith)

pub length-unit : (kind width epoch number : ℕ) (bytes : List ℕ) → length (unit_record kind width epoch number bytes) ≡ length bytes + (8 + width)
unfolding unit_record
length-unit kind width epoch number bytes = simp (length-frame, length-append, length-le_bytes) (omega arith)

pub length-state : (epoch : ℕ) (bytes : List ℕ) → length (state_record epoch bytes) ≡ length bytes + 8
unfolding state_record
length-state epoch bytes = simp (length-frame, length-append, length-le_bytes) (omega arith)

pub length-commit : (wide : Bool) (epoch pages blocks : ℕ) → length (commit_record wide epoch pages blocks) ≡ counts_end wide
unfolding commit_record
length-commit wide epoch pages blocks = simp (length-frame, length-append, length-le_bytes) (omega arith)

pub length-epoch : (kind epoch : ℕ) → length (epoch_record kind epoch) ≡ 8
unfolding epoch_record
length-epoch kind epoch = simp (length-frame, length-le_bytes)

-- the head of length, kind and epoch with what follows is a frame
pub head-frame : (n kind epoch : ℕ) (rest : List ℕ) → n ≡ length rest + 4 → le_bytes 2 n ++ le_bytes 2 kind ++ le_bytes 4 epoch ++ rest ≡ frame kind (le_bytes 4 epoch ++ rest)
unfolding frame
head-frame n kind epoch rest h =
    let q : length (le_bytes 4 epoch ++ rest) ≡ n = simp (length-append, length-le_bytes) (omega arith) in
    rw q (simp append_assoc)
