-- `berxundar_mend`: a file of no size, too few words, or what the engine answers.
-- Assumes nothing.
use native.Mathlib.Omega.{arith}
use mathlib.Core.Path.{refl, ap, ◌∙◌}
use mathlib.Core.List.{[], ◌∷◌}
use Rattle.kinds.specs.Given.{spoken}
use Rattle.mend.specs.declared.Mended.{Mended}
use Rattle.mend.specs.Mend.{mend_gives}
use Rattle.words.proofs.LaidLaws.{same_given, laid_as}
use Rattle.host.proofs.MendedLaws.{mend_small, mend_unsized, mend_short, mend_made}
use Rattle.host.proofs.mending.berxundar_mend.Goals as goal

pub returns-then-n : goal.returns-then-n
returns-then-n c = let a = c.args in mend_unsized a.file.now a.mended.now a.dropped.now a.found.now c.if-n.true

pub returns-then-found-lt2 : goal.returns-then-found-lt2
returns-then-found-lt2 c =
    let a = c.args in mend_short a.file.now a.mended.now a.dropped.now a.found.now c.if-n.false c.if-found-lt2.true

pub lay-requires : goal.lay-requires
lay-requires c =
    let a = c.args in
    let m = c.mend-answer in
    let e = same_given mend_gives (λ (x : Mended). x.bytes ∷ x.positions ∷ []) (λ x. refl) (λ x. refl) m.result c.map.result c.map.ensures.cases in (
      omega arith,
      (
        (λ words is. omega (arith, c.if-found-lt2.false)),
        rw e (mend_small a.file.now a.mended.now a.dropped.now (mend_gives m.result) _ m.ensures.0),
      ),
    )

pub returns : goal.returns
returns c =
    let a = c.args in
    let m = c.mend-answer in
    let l = c.lay in
    let e = same_given mend_gives (λ (x : Mended). x.bytes ∷ x.positions ∷ []) (λ x. refl) (λ x. refl) m.result c.map.result c.map.ensures.cases in
    mend_made a.file.now a.mended.now a.dropped.now a.found.now c.if-n.false (omega (arith, c.if-found-lt2.false)) m.result _ _ _ _
    m.ensures (l.ensures.said ∙ ap spoken e) (laid_as a.found.now e l.ensures.laid)
