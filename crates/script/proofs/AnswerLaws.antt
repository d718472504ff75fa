-- A line's answer is its command's, performed and printed. Assumes nothing.
use Prim.Native.Nat.{ℕ, ◌+◌, ◌≤◌}
use mathlib.Core.Path.{◌≡◌, ap, ◌∙◌}
use mathlib.Core.List.{List}
use native.Mathlib.Omega.{arith}
use lib.ListN.{length, take}
use Rattle.lists.specs.Part.{PutDone}
use Rattle.lists.proofs.PartLaws.{put-done-length}
use Rattle.text.specs.declared.Line.{Line}
use Rattle.rules.specs.World.{World}
use Rattle.rules.specs.Step.{outcome}
use Rattle.script.specs.declared.Command.{Command}
use Rattle.script.specs.declared.Performed.{Performed}
use Rattle.script.specs.Command.{command_of_line, letter_of}
use Rattle.script.specs.Pair.{Done, perform}
use Rattle.text.specs.Feed.{Answered}
use Rattle.text.proofs.RunLaws.{taken-put}
use Rattle.script.specs.Output.{printed, pair_program}
use Rattle.script.specs.Site.{world_of, done_of}

module _ (w : World) (l : Line) (p : Performed) (command : Command) (letter n : ℕ) (before bytes : List ℕ)
    (is : command ≡ command_of_line l) (says : letter ≡ letter_of command) (does : done_of p ≡ perform w command)
    (put-it : PutDone (printed letter (outcome p.number p.value)) before 0 bytes n) (end : n ≤ 0 + 44) (room : length before ≡ 44) where
  abbrev a : Answered World
  a = pair_program.answer_kept w l

  done-is : done_of p ≡ perform w (command_of_line l)
  done-is = does ∙ ap (perform w) is

  text-is : printed letter (outcome p.number p.value) ≡ a.printed
  text-is =
      let o : outcome p.number p.value ≡ (perform w (command_of_line l)).outcome = ap (λ (d : Done). d.outcome) done-is in
      let k : letter ≡ letter_of (command_of_line l) = says ∙ ap letter_of is in
      λ i. printed (k i) (o i)

  bytes-are : take n bytes ≡ a.printed
  bytes-are = taken-put (printed letter (outcome p.number p.value)) before bytes n put-it ∙ text-is

  room-is : length bytes ≡ 44
  room-is =
      let n-is : n ≡ 0 + length (printed letter (outcome p.number p.value)) = put-it.position in
      put-done-length _ _ _ _ _ (omega arith) put-it ∙ room

  pub answer-is : (world_of p.site ≡ a.next) × ((p.last ≡ a.last) × ((take n bytes ≡ a.printed) × (n ≤ 44) × (length bytes ≡ 44)))
  answer-is = (ap (λ (d : Done). d.next) done-is, (ap (λ (d : Done). d.last) done-is, (bytes-are, end, room-is)))
