use Rattle.hip_typing.proofs.tables.inner_table.add_name.Goals as goal

pub returns : goal.returns
returns c = record { gains = λ before stands. rw (← c.as_slice.ensures) (c.in_ok-add.ensures.ok before stands) }
