-- The command of what is kept of a line is the command of the line; and a byte set on the link. Assumes nothing.
use mathlib.Core.Path.{◌≡◌, refl, sym, ap, ◌∙◌}
use mathlib.Core.Bool.{false, cond}
use mathlib.Core.List.{List, [], ◌∷◌}
use Prim.Native.Nat.{ℕ, ◌<◌}
use native.Mathlib.Omega.{arith}
use lib.Dec.{ltb}
use lib.ListN.{length, take, get_or, set}
use lib.Seq.{take-set-lt, get_or-take}
use Rattle.lists.specs.Part.{put}
use Rattle.records.specs.Number.{out_of_range}
use Rattle.rules.specs.World.{World}
use Rattle.rules.specs.Step.{outcome}
use Rattle.lists.proofs.ArrayLaws.{set-put}
use Rattle.text.specs.Line.{words_of}
use Rattle.text.specs.Kept.{no_line, line_with_all}
use Rattle.text.proofs.KeptLaws.{kept_of, kept_line}
use Rattle.script.specs.declared.Site.{Site}
use Rattle.script.specs.Command.{command_of, command_of_line}
use Rattle.script.specs.Pair.{Done, refused}
use Rattle.script.specs.Site.{world_of, done_of, primary_of, standby_of, acks_between}
use Rattle.script.proofs.CommandLaws.{line-test, two-test, two-value, choose, command-of-line}
use Rattle.script.proofs.LinkLaws.{length-link}
use Rattle.traces.specs.declared.TraceCommand.TheVariants.{Pair, Set, Tick}
use Rattle.traces.specs.Command.{letter_x, letter_p, trace_command_of, trace_command_of_line, with_link}

-- ---- the command of a line
trace-command-of-words : (line : List ℕ) → command_of_line (kept_of (words_of line)) ≡ command_of line → trace_command_of_line (kept_of (words_of line)) ≡ trace_command_of line
unfolding trace_command_of_line trace_command_of
trace-command-of-words line e =
    choose _ _ _ _ _ _ (two-test (words_of line) letter_x) (two-value (words_of line) Set letter_x)
    (choose _ _ Tick Tick _ _ (line-test (words_of line) letter_p 1 (omega arith)) (λ e. refl) (ap Pair e))

-- from what is kept of it
pub trace-command-of-line : (line : List ℕ) → trace_command_of_line (line_with_all no_line line) ≡ trace_command_of line
trace-command-of-line line =
    ap trace_command_of_line (kept_line line) ∙ trace-command-of-words line (ap command_of_line (sym (kept_line line)) ∙ command-of-line line)

-- ---- a byte of the link
module _ (s : Site) (long : length s.link ≡ 2048) (i : ℕ) (h : i < length (world_of s).link) where
  -- it is one of those in use
  in_use : i < s.linked
  in_use = omega (arith, length-link s long)

  pub link_at : get_or s.link i 0 ≡ get_or (world_of s).link i 0
  unfolding world_of
  link_at = sym (get_or-take s.linked s.link i 0 in_use)

  -- stored in the array
  pub link_set : (v : ℕ) → world_of (record { primary = s.primary; standby = s.standby; link = set s.link i v; linked = s.linked; unread = s.unread }) ≡ with_link (world_of s) (put (world_of s).link i (v ∷ []))
  unfolding world_of
  link_set v =
      ap (λ (l : List ℕ). record { primary = primary_of s.primary; standby = standby_of s.standby; link = l; acks = acks_between s.unread s.standby.state.received })
      (take-set-lt s.linked s.link i v in_use ∙ set-put (take s.linked s.link) i v h)

  -- what is told of it
  pub set-done : (v : ℕ)
      → done_of (record {
        site = record { primary = s.primary; standby = s.standby; link = set s.link i v; linked = s.linked; unread = s.unread };
        number = 0;
        value = get_or s.link i 0;
        last = false;
      }) ≡ record { next = with_link (world_of s) (put (world_of s).link i (v ∷ [])); outcome = outcome 0 (get_or (world_of s).link i 0); last = false }
  set-done v = λ j. record { next = link_set v j; outcome = outcome 0 (link_at j); last = false }

-- `x i v` where the link after the drain is that of w', of which w is the world before
abbrev pub set_in : (w w' : World) (i v : ℕ) → Done
set_in w w' i v =
    cond (ltb i (length w'.link))
    (record { next = with_link w' (put w'.link i (v ∷ [])); outcome = outcome 0 (get_or w'.link i 0); last = false })
    (refused w out_of_range)
