-- `berxundar_look`: a file of no size, too few words, or what the engine answers.
-- Assumes nothing.
use mathlib.Core.Path.{refl, sym, ap, ◌∙◌}
use mathlib.Core.List.{[], ◌∷◌}
use native.Mathlib.Omega.{arith}
use Rattle.kinds.specs.Given.{spoken}
use Rattle.tables.specs.Tables.{tables_of}
use Rattle.look.specs.declared.Looked.{Looked}
use Rattle.look.specs.Look.{look_gives}
use Rattle.words.proofs.LaidLaws.{same_given, laid_as}
use Rattle.words.proofs.SaidLaws.{enough_found}
use Rattle.host.proofs.LookedLaws.{look_small, look_unsized, look_short, look_made}
use Rattle.host.proofs.looking.berxundar_look.Goals as goal

pub returns-then-not-is_sized : goal.returns-then-not-is_sized
returns-then-not-is_sized c = look_unsized _ _ _ _ _ _ _ (sym c.is_sized.ensures ∙ c.if-not-is_sized.true)

pub returns-then-counts-found : goal.returns-then-counts-found
returns-then-counts-found c =
    look_short _ _ _ _ _ _ _ (sym c.is_sized.ensures ∙ c.if-not-is_sized.false) c.if-counts-found.true

pub lay-requires : goal.lay-requires
lay-requires c =
    let a = c.args in
    let r = c.look in
    let e = same_given look_gives (λ (x : Looked). x.inputs ∷ x.outputs ∷ []) (λ x. refl) (λ x. refl) r.result c.map.result c.map.ensures.cases in (
      omega arith,
      (
        (λ words is. enough_found a.counts.now a.found.now 2 c.if-counts-found.false),
        rw e (look_small a.file.now c.new-lent.result a.path.now a.numbers.now a.widths.now (look_gives r.result) _ r.ensures.0),
      ),
    )

pub returns : goal.returns
returns c =
    let a = c.args in
    let r = c.look in
    let came = tables_of a.components.now a.inputs.now a.outputs.now a.wires.now a.current.now a.following.now a.standing.now in
    let e = same_given look_gives (λ (x : Looked). x.inputs ∷ x.outputs ∷ []) (λ x. refl) (λ x. refl) r.result c.map.result c.map.ensures.cases in
    look_made a.file.now a.path.now a.counts.now a.numbers.now a.widths.now a.found.now came
    (sym c.is_sized.ensures ∙ c.if-not-is_sized.false) c.if-counts-found.false r.result c.counts_in.result _ _ _ _
    c.counts_in.ensures (rw c.new-lent.ensures at r.ensures) (c.lay.ensures.said ∙ ap spoken e) (laid_as a.found.now e c.lay.ensures.laid)
