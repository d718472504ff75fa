use mathlib.Core.Path.{sym}
use native.Mathlib.Omega.{arith}
use Rattle.plates.proofs.HexLaws.{digit-decimal, digit-lower, digit-upper, digit-none}
use Rattle.plates.proofs.hex.digit_of.Goals as goal

pub returns-in-48-to-57-clause-value : goal.returns-in-48-to-57-clause-value
returns-in-48-to-57-clause-value c = sym (digit-decimal _ (omega arith) (omega arith))

pub returns-in-65-to-70-clause-value : goal.returns-in-65-to-70-clause-value
returns-in-65-to-70-clause-value c = let e = digit-upper c.args.c (omega arith) (omega arith) in omega arith

pub returns-in-97-to-102-clause-value : goal.returns-in-97-to-102-clause-value
returns-in-97-to-102-clause-value c = let e = digit-lower c.args.c (omega arith) (omega arith) in omega arith

pub returns-in_default-clause-value : goal.returns-in_default-clause-value
returns-in_default-clause-value c = sym (digit-none _ (λ h. omega arith) (λ h. omega arith) (λ h. omega arith))

pub returns-in_default-2-clause-value : goal.returns-in_default-2-clause-value
returns-in_default-2-clause-value c = sym (digit-none _ (λ h. omega arith) (λ h. omega arith) (λ h. omega arith))

pub returns-in_default-3-clause-value : goal.returns-in_default-3-clause-value
returns-in_default-3-clause-value c = sym (digit-none _ (λ h. omega arith) (λ h. omega arith) (λ h. omega arith))

pub returns-in_default-4-clause-value : goal.returns-in_default-4-clause-value
returns-in_default-4-clause-value c = sym (digit-none _ (λ h. omega arith) (λ h. omega arith) (λ h. omega arith))
