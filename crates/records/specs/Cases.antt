-- The cases of a record: one kind with its own fields, and the rest once. A definition that some kinds matter to is
-- written with these; a new kind adds a case to each line here. The width of a PAGE or a COMMIT is not handed on:
-- "Every other rule treats 8 as 1 and 9 as 4" (document 02, Job 7). Assumes nothing.
use Rattle.std.specs.Prelude.{ℕ, Result, Ok, Err}
use Rattle.records.specs.declared.Cursor.{Cursor}
use Rattle.records.specs.declared.Record.{Record}
use Rattle.records.specs.declared.Unread.{Unread}
use Rattle.records.specs.declared.Record.TheVariants.{Page, Block, State, Commit, Ack}
use Rattle.records.specs.declared.Unread.TheVariants.{Short, Refused}

abbrev pub on_page {ℓ} : {A : Type ℓ} → Result Record Unread → (ℕ → ℕ → Cursor → A) → A → A
on_page (Ok (Page w e p c)) page rest = page e p c
on_page (Ok (Block e n c)) page rest = rest
on_page (Ok (State e c)) page rest = rest
on_page (Ok (Commit w e p b c)) page rest = rest
on_page (Ok (Ack e c)) page rest = rest
on_page (Err u) page rest = rest

abbrev pub on_block {ℓ} : {A : Type ℓ} → Result Record Unread → (ℕ → ℕ → Cursor → A) → A → A
on_block (Ok (Page w e p c)) block rest = rest
on_block (Ok (Block e n c)) block rest = block e n c
on_block (Ok (State e c)) block rest = rest
on_block (Ok (Commit w e p b c)) block rest = rest
on_block (Ok (Ack e c)) block rest = rest
on_block (Err u) block rest = rest

abbrev pub on_commit {ℓ} : {A : Type ℓ} → Result Record Unread → (ℕ → ℕ → ℕ → Cursor → A) → A → A
on_commit (Ok (Page w e p c)) commit rest = rest
on_commit (Ok (Block e n c)) commit rest = rest
on_commit (Ok (State e c)) commit rest = rest
on_commit (Ok (Commit w e p b c)) commit rest = commit e p b c
on_commit (Ok (Ack e c)) commit rest = rest
on_commit (Err u) commit rest = rest

abbrev pub on_ack {ℓ} : {A : Type ℓ} → Result Record Unread → (ℕ → Cursor → A) → A → A
on_ack (Ok (Page w e p c)) ack rest = rest
on_ack (Ok (Block e n c)) ack rest = rest
on_ack (Ok (State e c)) ack rest = rest
on_ack (Ok (Commit w e p b c)) ack rest = rest
on_ack (Ok (Ack e c)) ack rest = ack e c
on_ack (Err u) ack rest = rest

-- the kinds that go to the standby, PAGE, BLOCK, STATE and COMMIT in this order
abbrev pub by_kind {ℓ} : {A : Type ℓ} → Result Record Unread → (ℕ → ℕ → Cursor → A) → (ℕ → ℕ → Cursor → A) → (ℕ → Cursor → A) → (ℕ → ℕ → ℕ → Cursor → A) → A → A
by_kind (Ok (Page w e p c)) page block state commit rest = page e p c
by_kind (Ok (Block e n c)) page block state commit rest = block e n c
by_kind (Ok (State e c)) page block state commit rest = state e c
by_kind (Ok (Commit w e p b c)) page block state commit rest = commit e p b c
by_kind (Ok (Ack e c)) page block state commit rest = rest
by_kind (Err u) page block state commit rest = rest

-- a record of any kind, cut short with the bytes missing, or refused with a number
abbrev pub on_found {ℓ} : {A : Type ℓ} → Result Record Unread → A → (ℕ → A) → (ℕ → A) → A
on_found (Ok (Page w e p c)) found short refused = found
on_found (Ok (Block e n c)) found short refused = found
on_found (Ok (State e c)) found short refused = found
on_found (Ok (Commit w e p b c)) found short refused = found
on_found (Ok (Ack e c)) found short refused = found
on_found (Err (Short n)) found short refused = short n
on_found (Err (Refused n)) found short refused = refused n
