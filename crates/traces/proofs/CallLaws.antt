-- The calls of a command make of both ends what the command does. Assumes nothing.
use Prim.Native.Nat.{ℕ, suc, ◌<◌}
use mathlib.Core.Path.{◌≡◌, refl, sym, ap}
use mathlib.Core.Bool.{Bool, true, false, cond, not, ◌&&◌, true≢false}
use mathlib.Core.List.{List, [], ◌∷◌, ◌++◌, append_assoc}
use native.Mathlib.Numerals.{add-one}
use lib.Dec.{ltb, eqb}
use lib.ListN.{length, get_or, take, drop, replicate}
use lib.Seq.{split_at}
use borrow.Author.Tests.{ltb-true, eqb-true}
use Rattle.lists.specs.Part.{put}
use Rattle.text.specs.Line.{is_empty}
use Rattle.records.specs.Number.{out_of_range, nothing_free}
use Rattle.rules.specs.World.{World, Call}
use Rattle.rules.specs.World as call
use Rattle.rules.specs.Step.{step, outcome}
use Rattle.script.specs.declared.Command.{Command}
use Rattle.script.specs.declared.Command.TheVariants as command
use Rattle.script.specs.Pair.{Done, done, refused, pair_settings, first_record_length, drained, ack_bytes, perform, move_done, acknowledge_done, takeover_done}
use Rattle.runs.specs.Run.{Both, steps, run}
use Rattle.traces.specs.declared.TraceCommand.TheVariants.{Pair, Set, Tick}
use Rattle.traces.specs.Command.{with_link, set_done, traced, is_damage}
use Rattle.traces.specs.Runs.{pair_calls, set_calls, EveryCommand}

-- ---- a command is its calls
abbrev after : Both → List Call → World
after b calls = (run steps pair_settings.u b calls).world

module _ (b : Both) where
  abbrev w : World
  w = b.world

  abbrev drain : Call
  drain = call.drain (first_record_length w) (replicate (first_record_length w) 0)

  abbrev linked : Bool → World
  linked empty = cond empty (step w drain).next w

  abbrev read : Bool → Call
  read empty = call.read (length (linked empty).link) (replicate ack_bytes 0)

  -- by whether the link is empty, and whether nothing waits
  moved : (empty none : Bool)
      → (cond (empty && none) (refused w nothing_free) (done (step (linked empty) (read empty)))).next
      ≡ after b (cond (empty && none) [] (cond empty (drain ∷ []) [] ++ (read empty ∷ [])))
  moved true true = refl
  moved true false = refl
  moved false none = refl

  acknowledged : (empty : Bool) → (cond empty (refused w nothing_free) (done (step w (call.ack ack_bytes)))).next ≡ after b (cond empty [] (call.ack ack_bytes ∷ []))
  acknowledged true = refl
  acknowledged false = refl

  performed : (c : Command) → (perform w c).next ≡ after b (pair_calls w c)
  unfolding perform move_done acknowledge_done takeover_done
  performed (command.Write p v) = refl
  performed (command.Disk d v) = refl
  performed (command.Send n) = refl
  performed (command.Close v) = refl
  performed command.Move = moved (is_empty w.link) (eqb w.primary.state.waiting 0)
  performed command.Acknowledge = acknowledged (is_empty w.acks)
  performed command.Take = refl
  performed command.Flush = refl
  performed command.Takeover = refl
  performed command.Other = refl

-- ---- a byte put where it was
pub put-get_d : {A : Type 0} (l : List A) (i : ℕ) (z v : A) → i < length l → get_or l i z ≡ v → put l i (v ∷ []) ≡ l
unfolding put
put-get_d l i z v h e = rw (sym e, add-one i, append_assoc (take i l) (get_or l i z ∷ []) (drop (suc i) l)) (sym (split_at l i z h))

not-not : (b : Bool) → not b ≡ false → b ≡ true
not-not true e = refl
not-not false e = absurd (true≢false e)

module _ (b : Both) (i v : ℕ) where
  -- by whether the link is empty, whether nothing waits, and whether there is a byte i
  abbrev set_in : Bool → Bool → Bool → Done
  set_in empty none inside =
      let w' = linked b empty in
      cond (empty && none) (refused b.world nothing_free)
      (cond inside
      (record { next = with_link w' (put w'.link i (v ∷ [])); outcome = outcome 0 (get_or w'.link i 0); last = false })
      (refused b.world out_of_range))

  abbrev SetIs : Bool → Bool → Bool → Type 0
  SetIs empty none inside =
      is_damage (Set i v) (set_in empty none inside) ≡ false
      → (set_in empty none inside).next ≡ after b (cond (empty && none) [] (cond inside (cond empty (drain b ∷ []) []) []))

  -- the byte that was there is put in its place
  kept : (w : World) → ltb i (length w.link) ≡ true → not (eqb (get_or w.link i 0) v) ≡ false → with_link w (put w.link i (v ∷ [])) ≡ w
  kept w h e = ap (with_link w) (put-get_d w.link i 0 v (ltb-true i (length w.link) h) (eqb-true (get_or w.link i 0) v (not-not _ e)))

  set_is : (empty none inside : Bool) → ltb i (length (linked b empty).link) ≡ inside → SetIs empty none inside
  set_is true true inside h e = refl
  set_is true false true h e = kept (linked b true) h e
  set_is true false false h e = refl
  set_is false none true h e = kept b.world h e
  set_is false none false h e = refl

  set-done : is_damage (Set i v) (set_done b.world i v) ≡ false → (set_done b.world i v).next ≡ after b (set_calls b.world i)
  unfolding set_done
  set-done e = set_is (is_empty b.world.link) (eqb b.world.primary.state.waiting 0) (ltb i (length (drained b.world).link)) refl e

pub every-command : EveryCommand
unfolding traced
every-command b (Pair c) e = performed b c
every-command b (Set i v) e = set-done b i v e
every-command b Tick e = refl
