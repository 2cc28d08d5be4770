-- `append_new`: where x is there the table stays, and else x stands behind the list.
-- Assumes nothing.
use mathlib.Core.Path.{◌∙◌}
use native.Mathlib.Omega.{arith}
use lib.ListN.{take}
use Rattle.tables.proofs.NamedLaws.{has_found, append_there, append_length, append_more}
use Rattle.tables.proofs.named.append_new.Goals as goal

pub returns-then-contains : goal.returns-then-contains
returns-then-contains c =
    let a = c.args in
    append_there _ _ _ c.requires.0
    (has_found a.x (take a.count a.list.now) _ c.contains.ensures.value ∙ c.if-contains.true)

pub bounds-list-count : goal.bounds-list-count
bounds-list-count c =
    let a = c.args in
    omega (
      arith,
      append_length _ _ _ c.requires.0
          (has_found a.x (take a.count a.list.now) _ c.contains.ensures.value ∙ c.if-contains.false),
    )

pub returns : goal.returns
returns c =
    let a = c.args in
    append_more _ _ _ c.requires.0
    (has_found a.x (take a.count a.list.now) _ c.contains.ensures.value ∙ c.if-contains.false)
    (bounds-list-count c)
