-- The program `pair` as one that answers line by line (text/specs/Feed.antt): by what is kept of a line, and up to `k`. Assumes nothing.
use mathlib.Core.Path.{◌≡◌, refl, ap, ap₂}
use mathlib.Core.Bool.{Bool, true, false, cond, ◌&&◌, ◌||◌}
use mathlib.Core.List.{List, [], ◌∷◌}
use Prim.Native.Nat.{ℕ}
use lib.Dec.{eqb}
use lib.ListN.{length, replicate}
use Rattle.text.specs.Line.{is_empty}
use Rattle.text.specs.Feed.{KeptRight, any_last}
use Rattle.text.proofs.KeptLaws.{empty-line}
use Rattle.records.specs.Number.{nothing_free}
use Rattle.rules.specs.World.{World}
use Rattle.rules.specs.World as call
use Rattle.rules.specs.Step.{step}
use Rattle.script.specs.declared.Command.{Command}
use Rattle.script.specs.declared.Command.TheVariants.{Write, Disk, Send, Close, Move, Acknowledge, Take, Flush, Takeover, Other}
use Rattle.script.specs.Command.{command_of, letter_of, letter_k}
use Rattle.script.specs.Pair.{Done, done, refused, drained, ack_bytes, perform, move_done, acknowledge_done, takeover_done}
use Rattle.script.specs.Output.{command_answer, pair_program, any_takeover}
use Rattle.script.proofs.CommandLaws.{command-of-line}

-- what is kept of a line gives the answer to the line, and tells the empty one
pub kept-right : KeptRight pair_program
kept-right = record { answers = λ w line. ap (command_answer w) (command-of-line line); empty = empty-line }

-- ---- the last line is `k`
last_done : (b : Bool) (x y : Done) → x.last ≡ false → y.last ≡ false → (cond b x y).last ≡ false
last_done true x y e f = e
last_done false x y e f = f

pub last_is : (w : World) (c : Command) → (perform w c).last ≡ eqb (letter_of c) letter_k
unfolding perform move_done acknowledge_done takeover_done
last_is w (Write p v) = refl
last_is w (Disk b v) = refl
last_is w (Send n) = refl
last_is w (Close v) = refl
last_is w Move =
    last_done (is_empty w.link && eqb w.primary.state.waiting 0) (refused w nothing_free) (done (step (drained w) (call.read (length (drained w).link) (replicate ack_bytes 0)))) refl refl
last_is w Acknowledge = last_done (is_empty w.acks) (refused w nothing_free) (done (step w (call.ack ack_bytes))) refl refl
last_is w Take = refl
last_is w Flush = refl
last_is w Takeover = refl
last_is w Other = refl

pub any-last-is : (lines : List (List ℕ)) (w : World) → any_last pair_program w lines ≡ any_takeover lines
unfolding any_last any_takeover
any-last-is [] w = refl
any-last-is (line ∷ lines) w = ap₂ ◌||◌ (last_is w (command_of line)) (any-last-is lines (perform w (command_of line)).next)
