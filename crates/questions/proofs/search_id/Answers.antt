-- `search_id`: what is found among the components still to come is what is found among all.
-- Assumes nothing.
use mathlib.Core.Path.{sym, ap, ◌∙◌}
use native.Mathlib.Omega.{arith}
use Rattle.lists.specs.Lists.{first}
use Rattle.lists.proofs.ListsLaws.{first_here, first_next, first_none}
use Rattle.net.proofs.LoopsLaws.{from_start}
use Rattle.questions.specs.Questions.{index_found}
use Rattle.questions.proofs.search_id.Goals as goal
use Rattle.questions.proofs.search_id.Invariants.{has_id}

pub loop-i-init : goal.loop-i-init
loop-i-init c =
    let a = c.args in
    ap (first (has_id a.components.now a.id.0)) (from_start a.count)

pub returns-then-has_id : goal.returns-then-has_id
returns-then-has_id c =
    let a = c.args in
    let l = c.loop-i in
    ap index_found
    (first_here (has_id a.components.now a.id.0) l.i a.count _ l.invariant (omega arith)
    (sym c.has_id.ensures ∙ c.if-has_id.true))

pub loop-i-preserved : goal.loop-i-preserved
loop-i-preserved c =
    let a = c.args in
    let l = c.loop-i in
    first_next (has_id a.components.now a.id.0) l.i a.count _ l.invariant (omega arith)
    (sym c.has_id.ensures ∙ c.if-has_id.false)

pub returns : goal.returns
returns c =
    let a = c.args in
    let l = c.loop-i in
    rw c.refused_by.ensures (ap index_found (first_none (has_id a.components.now a.id.0) l.i a.count _ l.invariant (omega arith)))
