use Rattle.md_tool.proofs.texts.write_dump.Goals as goal

pub returns-in-Ok-clause-ends : goal.returns-in-Ok-clause-ends
returns-in-Ok-clause-ends g c = rw (c.deref.ensures.value, c.in-Ok.ensures) at c.write.ensures.ends
