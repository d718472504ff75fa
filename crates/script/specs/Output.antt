-- What `pair` prints for its input. Assumes nothing.
use Rattle.std.specs.Prelude.{ℕ, Bool, false, ◌||◌, List, [], ◌∷◌, ◌++◌, eqb}
use Rattle.text.specs.declared.Line.{Line}
use Rattle.text.specs.Line.{space, newline}
use Rattle.text.specs.Decimal.{decimal}
use Rattle.text.specs.Kept.{no_line, line_with, is_empty_line}
use Rattle.text.specs.Feed.{Answered, Program, output}
use Rattle.rules.specs.World.{World}
use Rattle.rules.specs.Step.{Outcome}
use Rattle.script.specs.declared.Command.{Command}
use Rattle.script.specs.Command.{command_of, command_of_line, letter_of, letter_k}
use Rattle.script.specs.Pair.{perform, pair_start}

-- "letter, number (0 accepted), value"
unfoldable pub printed : ℕ → Outcome → List ℕ
printed letter o = letter ∷ space ∷ (decimal o.number ++ (space ∷ (decimal o.value ++ (newline ∷ []))))

-- a command's answer: the world after it, its line of output, and whether it is the last
abbrev pub command_answer : World → Command → Answered World
command_answer w c =
    let d = perform w c in
    record { next = d.next; printed = printed (letter_of c) d.outcome; last = d.last }

-- the program: it answers each line's command, up to the end or to `k`, and prints nothing at the end of its input
abbrev pub pair_program : Program World Line
pair_program =
    record {
      start = pair_start;
      answer = λ w line. command_answer w (command_of line);
      no_line = no_line;
      line_with = line_with;
      is_empty_line = is_empty_line;
      answer_kept = λ w l. command_answer w (command_of_line l);
      finish = λ w. [];
    }

unfoldable pub output_of : List ℕ → List ℕ
output_of input = output pair_program input

-- whether one of the lines is `k`
unfoldable pub any_takeover : List (List ℕ) → Bool
any_takeover [] = false
any_takeover (line ∷ lines) = eqb (letter_of (command_of line)) letter_k || any_takeover lines
