use Rattle.hip_typing.proofs.tables.registers.add_register.Goals as goal

pub returns : goal.returns
returns c = record { adds = λ entries stands. rw (← c.as_slice.ensures) (c.in_ok-add.ensures.ok entries stands) }
