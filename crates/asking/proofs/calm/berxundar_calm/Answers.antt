-- `berxundar_calm`: too few words, or what the engine answers.
-- Assumes nothing.
use mathlib.Core.Path.{refl, ap, ◌∙◌}
use mathlib.Core.Bool.{Bool}
use mathlib.Core.List.{[], ◌∷◌}
use native.Mathlib.Omega.{arith}
use Rattle.value.specs.Value.{level}
use Rattle.kinds.specs.Given.{spoken}
use Rattle.tables.specs.Tables.{tables_of}
use Rattle.rounds.specs.Round.{calm}
use Rattle.questions.specs.Questions.{whether_gives, AsksCalm}
use Rattle.words.proofs.PlainLaws.{plain_small}
use Rattle.words.proofs.SaidLaws.{enough_found}
use Rattle.words.proofs.LaidLaws.{same_given, laid_as}
use Rattle.asking.proofs.AskingLaws.{whether_plain, ask_short, ask_made}
use Rattle.asking.proofs.calm.berxundar_calm.Goals as goal

pub returns-then-counts-found : goal.returns-then-counts-found
returns-then-counts-found c =
    ask_short _ _ _ _ _ _ c.if-counts-found.true

-- The words that are laid give what the answer gives.
pub lay-requires : goal.lay-requires
lay-requires c =
    let a = c.args in
    let r = c.is_calm in
    let e = same_given whether_gives (λ (so : Bool). level so ∷ []) (λ x. refl) (λ x. refl) r.result c.map.result c.map.ensures.cases in
    let p = whether_plain c.new-lent.result (calm c.new-lent.result) r.result r.ensures in (
      omega arith,
      ((λ words is. enough_found a.counts.now a.found.now 1 c.if-counts-found.false), rw e (plain_small (whether_gives r.result) p)),
    )

pub returns : goal.returns
returns c =
    let a = c.args in
    let m = c.counts_in in
    let r = c.is_calm in
    let k = c.lay in
    let came = tables_of a.components.now a.inputs.now a.outputs.now a.wires.now a.current.now a.following.now a.standing.now in
    let e = same_given whether_gives (λ (so : Bool). level so ∷ []) (λ x. refl) (λ x. refl) r.result c.map.result c.map.ensures.cases in
    ask_made whether_gives AsksCalm _ a.counts.now a.found.now came r.result m.result k.new.found k.result
    c.if-counts-found.false m.ensures (rw c.new-lent.ensures at r.ensures) (k.ensures.said ∙ ap spoken e) (laid_as a.found.now e k.ensures.laid)
