-- `berxundar_evaluate`: no word for the bits, or what the engine answers.
-- Assumes nothing.
use native.Mathlib.Omega.{arith}
use mathlib.Core.Path.{refl, ap, ◌∙◌}
use mathlib.Core.List.{[], ◌∷◌}
use Prim.Native.Nat.{ℕ}
use Rattle.kinds.specs.Given.{spoken}
use borrow.Author.Tests.{lt-ltb, le-ltb}
use lib.ListN.{length}
use Rattle.primitive.specs.Evaluate.{evaluated_gives}
use Rattle.host.specs.Host.{fields_from, few_to_evaluate, evaluated}
use Rattle.words.proofs.PlainLaws.{plain_small}
use Rattle.words.proofs.LaidLaws.{same_given, laid_as}
use Rattle.host.proofs.NumbersLaws.{evaluate_plain}
use Rattle.host.proofs.evaluate.berxundar_evaluate.Goals as goal

pub returns-then-found-lt1 : goal.returns-then-found-lt1
returns-then-found-lt1 c = few_to_evaluate (lt-ltb (length c.args.found.now) 1 c.if-found-lt1.true) refl refl refl

pub lay-requires : goal.lay-requires
lay-requires c =
    let r = c.evaluate-answer in
    let a = c.args in
    let f = fields_from a.kind a.ins a.outs a.width a.parameter in
    let e = same_given evaluated_gives (λ (moved : ℕ). moved ∷ []) (λ x. refl) (λ x. refl) r.result c.map.result c.map.ensures.cases in
    let p = evaluate_plain f a.inputs.now a.entering.now a.outputs.now a.leaving.now (evaluated_gives r.result) _ r.ensures.0 in
    (omega arith, ((λ words is. omega arith), rw e (plain_small (evaluated_gives r.result) p)))

pub returns : goal.returns
returns c =
    let k = c.lay in
    let r = c.evaluate-answer in
    let a = c.args in
    let e = same_given evaluated_gives (λ (moved : ℕ). moved ∷ []) (λ x. refl) (λ x. refl) r.result c.map.result c.map.ensures.cases in
    evaluated r.result (le-ltb (length a.found.now) 1 c.if-found-lt1.false) r.ensures
    (k.ensures.said ∙ ap spoken e) (laid_as a.found.now e k.ensures.laid)
