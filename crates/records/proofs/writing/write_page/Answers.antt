use Rattle.records.proofs.writing.write_page.Goals as goal

pub returns : goal.returns
returns c = rw (← c.page_kind.ensures) c.write_unit.ensures
