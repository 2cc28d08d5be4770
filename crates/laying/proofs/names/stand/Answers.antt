-- `stand`: the index of a Const or a Clock is written; any other record gives none.
-- Assumes nothing.
use mathlib.Core.Bool.{not}
use mathlib.Core.Path.{ap}
use Rattle.laying.proofs.StandingLaws.{stand_not, stand_room, stand_laid}
use Rattle.laying.proofs.names.stand.Goals as goal

pub returns-then-not-stands : goal.returns-then-not-stands
returns-then-not-stands c =
    let a = c.args in
    stand_not _ a.stood a.drawn c.in-Some.is _ c.stands.ensures
    a.standing.now (ap not c.if-not-stands.true)

pub bounds-standing-count : goal.bounds-standing-count
bounds-standing-count c =
    stand_room _ c.args.stood c.args.drawn c.in-Some.is _
    c.stands.ensures c.args.standing.now (ap not c.if-not-stands.false) c.requires.0

pub returns : goal.returns
returns c =
    let a = c.args in
    stand_laid _ a.stood a.drawn c.in-Some.is _ c.stands.ensures
    a.standing.now (ap not c.if-not-stands.false)
