-- The names of the kinds, as the listing has them. docs/SPECIFICATION.md, "The lamp drawing and marked cases".
--   name_of k   the name of a kind
-- Assumes nothing.
use Rattle.std.specs.Prelude.{ℕ, List, []}
use Rattle.kinds.specs.declared.Kind.{Kind}
use Rattle.kinds.specs.declared.Kind.TheVariants.{Composite, And, Or, Not, Nand, Nor, Xor, Switch, Input, Output, Splitter, Joiner, Clock, Const, Majority}
use Rattle.text.specs.Text.{ascii}

-- The name of a kind. A composite is never listed.
abbrev pub name_of : Kind → List ℕ
name_of Composite = []
name_of And = ascii "And"
name_of Or = ascii "Or"
name_of Not = ascii "Not"
name_of Nand = ascii "Nand"
name_of Nor = ascii "Nor"
name_of Xor = ascii "Xor"
name_of Switch = ascii "Switch"
name_of Input = ascii "Input"
name_of Output = ascii "Output"
name_of Splitter = ascii "Splitter"
name_of Joiner = ascii "Joiner"
name_of Clock = ascii "Clock"
name_of Const = ascii "Const"
name_of Majority = ascii "Majority"
