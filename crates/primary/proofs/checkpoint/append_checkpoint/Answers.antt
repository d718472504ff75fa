-- `primary::checkpoint::append_checkpoint` meets its contract. Assumes nothing.
use borrow.Author.Rules.{rules}
use Rattle.lists.specs.Part.{PutDone}
use Rattle.records.specs.Kind.{is_wide}
use Rattle.pages.specs.Dirty.{dirty_records}
use Rattle.rules.proofs.CheckpointLaws.{checkpoint-accepted}
use Rattle.primary.proofs.AppendLaws.{CheckpointFits, pages-room, counts-fit, state-room, commit-room, checkpoint-done}
use Rattle.primary.proofs.checkpoint.append_checkpoint.Goals as goal
use Rattle.primary.proofs.checkpoint.append_checkpoint.Goals.{After-append_pages-state, Start}

-- the checkpoint is accepted
fits : (c : Start) → let a = c.args in CheckpointFits a.p a.memory.now a.dirty.now a.stream.now a.processor
fits c = record { room = checkpoint-accepted _ _ _ _ _ c.requires.0; size = search rules }

-- the dirty pages are written in the width that M calls for
pages-are : (c : After-append_pages-state) →
    let a = c.args in
    PutDone (dirty_records a.memory.now a.dirty.now (is_wide a.p.settings.m) a.p.settings.u a.p.epoch a.p.settings.m) a.stream.now a.p.waiting c.append_pages-state.new.stream c.append_pages-state.result
pages-are c = rw c.is_wide-wide.ensures at c.append_pages-state.ensures

pub append_pages-state-requires : goal.append_pages-state-requires
append_pages-state-requires c = rw c.is_wide-wide.ensures (pages-room (fits (goal.at.append_pages-state-requires c).Start))

pub append_state-commit-requires : goal.append_state-commit-requires
append_state-commit-requires c = state-room (fits (goal.at.append_state-commit-requires c).Start) _ _ (pages-are (goal.at.append_state-commit-requires c).After-append_pages-state)

pub append_commit-requires : goal.append_commit-requires
append_commit-requires c =
    let start = c in
    let n = counts-fit (fits (goal.at.append_commit-requires c).Start) in
    rw c.is_wide-wide.ensures
    (rw start.requires.1 n.0, n.1, commit-room (fits (goal.at.append_commit-requires c).Start) _ _ (pages-are (goal.at.append_commit-requires c).After-append_pages-state) _ _ c.append_state-commit.ensures)

pub returns : goal.returns
returns c =
    let start = c in
    checkpoint-done (fits (goal.at.returns c).Start) _ _ (pages-are (goal.at.returns c).After-append_pages-state) _ _ c.append_state-commit.ensures _ _
    (rw (start.requires.1, c.is_wide-wide.ensures) at c.append_commit.ensures)
