-- The replies of all calls: a refused call leaves the state and every lent buffer as before, and "Every refusal's value
-- is 0". In the refusals and replies of the calls, what is lent stands for its length; in the definitions of buffers,
-- and in the replies of the sums, whose value is made of them, for its bytes. Assumes nothing.
use Rattle.std.specs.Prelude.{ℕ, ◌≡◌, Bool, cond, ◌&&◌, eqb, Result, Ok, Err}
use Rattle.lists.specs.Refusal.{pick}
use Rattle.records.specs.Kind.{is_commit}
use Rattle.records.specs.Read.{cut_short, number_of as number, value_of as value, used_of as used, missing_of as missing}
use Rattle.records.specs.declared.Record.{Record}
use Rattle.records.specs.declared.Unread.{Unread}
use Rattle.records.specs.declared.Unread.TheVariants.{Short, Refused}
use Rattle.rules.specs.declared.Reply.{Reply}
use Rattle.rules.specs.declared.Accepted.{Accepted}

-- a call with this refusal: the new state and the value where it is accepted
abbrev pub reply_of : {S : Type 0} → ℕ → S → S → ℕ → Reply S
reply_of number old new value = record { state = pick number new old; number = number; value = pick number value 0 }

-- a record was read, with this value, and uses so many bytes
abbrev pub accepted : (value used : ℕ) → Result Accepted Unread
accepted value used = Ok (record { value = value; used = used })

-- the number, the value, the bytes used and, where it is cut short, the bytes missing of an answer
abbrev pub number_of : Result Accepted Unread → ℕ
number_of (Ok a) = 0
number_of (Err (Short missing)) = cut_short
number_of (Err (Refused number)) = number

abbrev pub value_of : Result Accepted Unread → ℕ
value_of (Ok a) = a.value
value_of (Err u) = 0

abbrev pub used_of : Result Accepted Unread → ℕ
used_of (Ok a) = a.used
used_of (Err u) = 0

abbrev pub missing_of : Result Accepted Unread → ℕ
missing_of (Ok a) = 0
missing_of (Err (Short missing)) = missing
missing_of (Err (Refused number)) = 0

-- a COMMIT was accepted, by the number and the value of a read
abbrev pub commit_accepted : (number value : ℕ) → Bool
commit_accepted number value = eqb number 0 && is_commit value

-- ---- calls that read a record: judged is the record where it is accepted, else cut short or the refusal

-- a record with its own refusal: itself where that is 0
abbrev pub unless_refused : ℕ → Result Record Unread → Result Record Unread
unless_refused number r = cond (eqb number 0) r (Err (Refused number))

-- what a call answers, by the record that it judged: an accepted one with its value and the bytes that it uses; what is
-- cut short or refused is handed on
abbrev pub answer_of : Result Record Unread → Result Accepted Unread
answer_of (Ok r) = accepted (value (Ok r)) (used (Ok r))
answer_of (Err u) = Err u

-- an answer says of the record that was judged this paper's number, its value, the bytes that it uses and those missing
pub record Answered (r : Result Record Unread) (a : Result Accepted Unread) : Type 0 where
  pub number_is : number_of a ≡ number r
  pub value_is : value_of a ≡ value r
  pub used_is : used_of a ≡ used r
  pub missing_is : missing_of a ≡ missing r
