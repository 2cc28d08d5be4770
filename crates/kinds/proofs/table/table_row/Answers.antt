use Rattle.kinds.proofs.table.table_row.Goals as goal

pub returns-in-Composite : goal.returns-in-Composite
returns-in-Composite c = rw (c.line.ensures, c.in-Composite.is)

pub returns-in-And : goal.returns-in-And
returns-in-And c = rw (c.line-in-And.ensures, c.in-And.is)

pub returns-in-Or : goal.returns-in-Or
returns-in-Or c = rw (c.line-in-Or.ensures, c.in-Or.is)

pub returns-in-Not : goal.returns-in-Not
returns-in-Not c = rw (c.line-in-Not.ensures, c.in-Not.is)

pub returns-in-Nand : goal.returns-in-Nand
returns-in-Nand c = rw (c.line-in-Nand.ensures, c.in-Nand.is)

pub returns-in-Nor : goal.returns-in-Nor
returns-in-Nor c = rw (c.line-in-Nor.ensures, c.in-Nor.is)

pub returns-in-Xor : goal.returns-in-Xor
returns-in-Xor c = rw (c.line-in-Xor.ensures, c.in-Xor.is)

pub returns-in-Switch : goal.returns-in-Switch
returns-in-Switch c = rw (c.line-in-Switch.ensures, c.in-Switch.is)

pub returns-in-Input : goal.returns-in-Input
returns-in-Input c = rw (c.line-in-Input.ensures, c.in-Input.is)

pub returns-in-Output : goal.returns-in-Output
returns-in-Output c = rw (c.line-in-Output.ensures, c.in-Output.is)

pub returns-in-Splitter : goal.returns-in-Splitter
returns-in-Splitter c = rw (c.line-in-Splitter.ensures, c.only.ensures, c.in-Splitter.is)

pub returns-in-Joiner : goal.returns-in-Joiner
returns-in-Joiner c = rw (c.line-in-Joiner.ensures, c.only-in-Joiner.ensures, c.in-Joiner.is)

pub returns-in-Clock : goal.returns-in-Clock
returns-in-Clock c = rw (c.line-in-Clock.ensures, c.in-Clock.is)

pub returns-in-Const : goal.returns-in-Const
returns-in-Const c = rw (c.line-in-Const.ensures, c.values.ensures, c.in-Const.is)

pub returns-in-Majority : goal.returns-in-Majority
returns-in-Majority c = rw (c.line-in-Majority.ensures, c.in-Majority.is)
