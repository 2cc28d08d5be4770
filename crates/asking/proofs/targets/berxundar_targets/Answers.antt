-- `berxundar_targets`: too few words, or what the engine answers.
-- Assumes nothing.
use mathlib.Core.Path.{refl, ap, ◌∙◌}
use mathlib.Core.List.{[], ◌∷◌}
use Prim.Native.Nat.{ℕ}
use native.Mathlib.Omega.{arith}
use Rattle.kinds.specs.Given.{spoken}
use Rattle.tables.specs.Tables.{tables_of}
use Rattle.questions.specs.Questions.{list_gives, AsksTargets}
use Rattle.words.proofs.PlainLaws.{plain_small}
use Rattle.words.proofs.SaidLaws.{enough_found}
use Rattle.words.proofs.LaidLaws.{same_given, laid_as}
use Rattle.asking.proofs.AskingLaws.{listed_plain, list_short, list_made}
use Rattle.asking.proofs.targets.berxundar_targets.Goals as goal

pub returns-then-counts-found : goal.returns-then-counts-found
returns-then-counts-found c =
    list_short _ _ _ _ _ c.if-counts-found.true

-- The words that are laid give what the answer gives.
pub lay-requires : goal.lay-requires
lay-requires c =
    let a = c.args in
    let r = c.targets_of in
    let e = same_given list_gives (λ (count : ℕ). count ∷ []) (λ x. refl) (λ x. refl) r.result c.map.result c.map.ensures.cases in
    let p = listed_plain c.new-lent.result a.index a.list.now (list_gives r.result) _ r.ensures.0 in (
      omega arith,
      ((λ words is. enough_found a.counts.now a.found.now 1 c.if-counts-found.false), rw e (plain_small (list_gives r.result) p)),
    )

pub returns : goal.returns
returns c =
    let a = c.args in
    let m = c.counts_in in
    let r = c.targets_of in
    let k = c.lay in
    let came = tables_of a.components.now a.inputs.now a.outputs.now a.wires.now a.current.now a.following.now a.standing.now in
    let e = same_given list_gives (λ (count : ℕ). count ∷ []) (λ x. refl) (λ x. refl) r.result c.map.result c.map.ensures.cases in
    list_made (λ T. AsksTargets T a.index) a.counts.now a.list.now a.found.now came r.result m.result _ k.new.found k.result
    c.if-counts-found.false m.ensures (rw c.new-lent.ensures at r.ensures) (k.ensures.said ∙ ap spoken e) (laid_as a.found.now e k.ensures.laid)
