-- `list_ends`: what is marked are the components that wires join to component i, and they are listed.
-- Assumes nothing.
use mathlib.Core.Path.{ap, ◌∙◌}
use mathlib.Core.List.{List}
use Prim.Native.Nat.{ℕ}
use lib.ListN.{length}
use Rattle.lists.specs.Lists.{overlay}
use Rattle.questions.proofs.EndsLaws.{marked_met}
use Rattle.questions.proofs.list_ends.Goals as goal

pub returns : goal.returns
returns c =
    let a = c.args in
    let e = c.list_marked.ensures in
    let m =
    marked_met a.wires.now c.mark_ends.new.marks 256 a.counts.wires a.near
    a.far a.i a.counts.components
    c.mark_ends.ensures in
    (e.0 ∙ ap length m, e.1 ∙ ap (λ (l : List ℕ). overlay l a.list.now) m)
