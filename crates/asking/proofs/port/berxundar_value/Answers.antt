-- `berxundar_value`: too few words, or what the engine answers.
-- Assumes nothing.
use mathlib.Core.Path.{refl, ap, subst, ◌∙◌}
use mathlib.Core.List.{[], ◌∷◌}
use native.Mathlib.Omega.{arith}
use Rattle.value.specs.declared.Value.{Value}
use Rattle.kinds.specs.Given.{spoken}
use Rattle.tables.specs.Tables.{tables_of}
use Rattle.questions.specs.declared.Side.{Side}
use Rattle.questions.specs.Questions.{value_gives, AsksValue}
use Rattle.words.specs.Words.{side_of}
use Rattle.words.proofs.PlainLaws.{plain_small}
use Rattle.words.proofs.SaidLaws.{enough_found}
use Rattle.words.proofs.LaidLaws.{same_given, laid_as}
use Rattle.asking.proofs.AskingLaws.{value_plain, ask_short, ask_made}
use Rattle.asking.proofs.port.berxundar_value.Goals as goal

pub returns-then-counts-found : goal.returns-then-counts-found
returns-then-counts-found c =
    ask_short _ _ _ _ _ _ c.if-counts-found.true

-- The words that are laid give what the answer gives.
pub lay-requires : goal.lay-requires
lay-requires c =
    let a = c.args in
    let r = c.value_of in
    let e = same_given value_gives (λ (v : Value). v.number ∷ v.width ∷ []) (λ x. refl) (λ x. refl) r.result c.map.result c.map.ensures.cases in
    let p = value_plain c.new-lent.result c.side_of.result a.index a.port r.result r.ensures in (
      omega arith,
      ((λ words is. enough_found a.counts.now a.found.now 2 c.if-counts-found.false), rw e (plain_small (value_gives r.result) p)),
    )

pub returns : goal.returns
returns c =
    let a = c.args in
    let m = c.counts_in in
    let r = c.value_of in
    let k = c.lay in
    let came = tables_of a.components.now a.inputs.now a.outputs.now a.wires.now a.current.now a.following.now a.standing.now in
    let e = same_given value_gives (λ (v : Value). v.number ∷ v.width ∷ []) (λ x. refl) (λ x. refl) r.result c.map.result c.map.ensures.cases in
    ask_made value_gives (λ T. AsksValue T (side_of a.side) a.index a.port) _ a.counts.now a.found.now came r.result m.result k.new.found k.result
    c.if-counts-found.false m.ensures (rw (c.new-lent.ensures, c.side_of.ensures) at r.ensures)
    (k.ensures.said ∙ ap spoken e) (laid_as a.found.now e k.ensures.laid)
