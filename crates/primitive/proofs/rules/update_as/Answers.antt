-- `update_as`: each arm leaves the rule of its kind, and answers what it has changed. What a kind's ports are comes from its row of the table of kinds.
-- Assumes nothing.
use mathlib.Core.Path.{◌≡◌, refl, sym, ap, ◌∙◌}
use mathlib.Core.Bool.{Bool, true, false, not}
use mathlib.Core.List.{List, [], ◌∷◌}
use Prim.Native.Nat.{ℕ, ◌<◌}
use native.Mathlib.Omega.{arith}
use lib.ListN.{length, get_or}
use Rattle.kinds.specs.declared.Kind.{Kind}
use Rattle.kinds.specs.declared.Kind.TheVariants.{Composite, And, Or, Not, Nand, Nor, Xor, Switch, Input, Output, Splitter, Joiner, Clock, Const, Majority}
use Rattle.kinds.specs.Kinds.{number_of, row, only}
use Rattle.primitive.specs.Evaluate.{one, split, rule, outputs_after}
use Rattle.primitive.proofs.MovedLaws.{moved_none}
use Rattle.primitive.proofs.UpdateLaws.{leaves, outputs_after-rule, outputs_after-left}
use Rattle.kinds.proofs.ObeysLaws.{Inside, InRow, obeyed_row, obeyed_primitive}
use Rattle.primitive.proofs.rules.update_as.Goals as goal
use Rattle.primitive.proofs.rules.update_as.Lts as lts
use Rattle.primitive.proofs.rules.update_as.Tie as tie
use Rattle.primitive.proofs.rules.update_as.Reads as reads

abbrev Start : Type 0
Start = lts.Start tie.the-claims reads.Pre reads.Post

-- What is known of a component whose kind is K.
module _ (s : Start) (K : Kind) where
  of_kind : s.args.kind ≡ K → s.args.f.kind ≡ number_of K
  of_kind q = s.requires.0 ∙ ap number_of q

  in_row : s.args.kind ≡ K → InRow (row K s.args.f.width s.args.f.parameter) s.args.f
  in_row q = obeyed_row s.args.f K s.requires.1.obeyed (of_kind q)

  one_output : (row K s.args.f.width s.args.f.parameter).outputs ≡ only 1 → s.args.kind ≡ K
      → length s.args.outputs.now ≡ 1
  one_output r q =
      let i : Inside (only 1) s.args.f.outputs = rw r at (in_row q).outputs in
      omega (arith, i.least, i.most, s.requires.1.all_outputs)

  first_input_is : (row K s.args.f.width s.args.f.parameter).inputs ≡ only 1 → s.args.kind ≡ K
      → 0 < length s.args.inputs.now
  first_input_is r q =
      let i : Inside (only 1) s.args.f.inputs = rw r at (in_row q).inputs in
      omega (arith, i.least, s.requires.1.all_inputs)

  after : (zs : List ℕ) → s.args.kind ≡ K
      → leaves K ≡ false
      → zs ≡ rule K s.args.f.parameter s.args.inputs.now s.args.time
      → zs ≡ outputs_after s.args.f s.args.inputs.now s.args.outputs.now s.args.time
  after zs q l h = outputs_after-rule s.args.f K s.args.inputs.now s.args.outputs.now zs s.args.time (of_kind q) l h

  left : s.args.kind ≡ K
      → leaves K ≡ true → s.args.outputs.now ≡ outputs_after s.args.f s.args.inputs.now s.args.outputs.now s.args.time
  left q l = outputs_after-left s.args.f K s.args.inputs.now s.args.outputs.now s.args.outputs.now s.args.time (of_kind q) l

pub put_level-requires : goal.put_level-requires
put_level-requires c = one_output c.before.before.before.before.before.before And refl c.in-And.is

pub put_level-requires-in-Or : goal.put_level-requires-in-Or
put_level-requires-in-Or c = one_output c.before.before.before.before.before.before Or refl c.in-Or.is

pub bounds-inputs-0 : goal.bounds-inputs-0
bounds-inputs-0 c = first_input_is c.before.before.before.before.before.before Not refl c.in-Not.is

pub put-requires : goal.put-requires
put-requires c = one_output c.before.before.before.before.before.before.before Not refl c.in-Not.is

pub put_level-requires-in-Nand : goal.put_level-requires-in-Nand
put_level-requires-in-Nand c = one_output c.before.before.before.before.before.before Nand refl c.in-Nand.is

pub put_level-requires-in-Nor : goal.put_level-requires-in-Nor
put_level-requires-in-Nor c = one_output c.before.before.before.before.before.before Nor refl c.in-Nor.is

pub put_level-requires-in-Xor : goal.put_level-requires-in-Xor
put_level-requires-in-Xor c = one_output c.before.before.before.before.before.before Xor refl c.in-Xor.is

pub bounds-inputs-0-in-Input : goal.bounds-inputs-0-in-Input
bounds-inputs-0-in-Input c = first_input_is c.before.before.before.before.before.before Input refl c.in-Input.is

pub put-requires-in-Input : goal.put-requires-in-Input
put-requires-in-Input c = one_output c.before.before.before.before.before.before Input refl c.in-Input.is

pub bounds-inputs-0-in-Output : goal.bounds-inputs-0-in-Output
bounds-inputs-0-in-Output c = first_input_is c.before.before.before.before.before.before Output refl c.in-Output.is

pub put-requires-in-Output : goal.put-requires-in-Output
put-requires-in-Output c = one_output c.before.before.before.before.before.before Output refl c.in-Output.is

pub bounds-inputs-0-in-Splitter : goal.bounds-inputs-0-in-Splitter
bounds-inputs-0-in-Splitter c = first_input_is c.before.before.before.before.before Splitter refl c.in-Splitter.is

pub split-requires : goal.split-requires
split-requires c =
    let r = in_row c.before.before.before.before.before.before Splitter c.in-Splitter.is in
    omega (arith, r.outputs.most, r.parameter.most, c.requires.1.all_outputs)

pub join-requires : goal.join-requires
join-requires c =
    let r = in_row c.before.before.before.before.before Joiner c.in-Joiner.is in
    omega (arith, r.inputs.most, r.parameter.most, c.requires.1.all_inputs)

pub put-requires-in-Joiner : goal.put-requires-in-Joiner
put-requires-in-Joiner c = one_output c.before.before.before.before.before.before Joiner refl c.in-Joiner.is

pub clock_high-requires : goal.clock_high-requires
clock_high-requires c =
    let r = in_row c.before.before.before.before.before Clock c.in-Clock.is in
    (r.parameter.least, r.parameter.most)

pub put_level-requires-in-Clock : goal.put_level-requires-in-Clock
put_level-requires-in-Clock c = one_output c.before.before.before.before.before.before Clock refl c.in-Clock.is

pub most_high-requires : goal.most_high-requires
most_high-requires c =
    let r = in_row c.before.before.before.before.before Majority c.in-Majority.is in
    omega (arith, r.inputs.most, c.requires.1.all_inputs)

pub put_level-requires-in-Majority : goal.put_level-requires-in-Majority
put_level-requires-in-Majority c = one_output c.before.before.before.before.before.before Majority refl c.in-Majority.is

-- Composite: no primitive
pub returns-in-Composite : goal.returns-in-Composite
returns-in-Composite c =
    absurd (omega (arith, obeyed_primitive c.args.f c.requires.1.obeyed, of_kind c.before.before.before.before Composite c.in-Composite.is))

-- And
pub returns-in-And : goal.returns-in-And
returns-in-And c = (
  c.put_level.ensures.0,
  after c.before.before.before.before.before.before.before.before.before And _ c.in-And.is refl
      (c.put_level.ensures.1 ∙ ap (one) c.all_high.ensures),
)

-- Or
pub returns-in-Or : goal.returns-in-Or
returns-in-Or c = (
  c.put_level-in-Or.ensures.0,
  after c.before.before.before.before.before.before.before.before.before Or _ c.in-Or.is refl
      (c.put_level-in-Or.ensures.1 ∙ ap (one) c.any_high.ensures),
)

-- Not
pub returns-in-Not : goal.returns-in-Not
returns-in-Not c = (
  c.put.ensures.0,
  after c.before.before.before.before.before.before.before.before.before.before Not _ c.in-Not.is refl
      (c.put.ensures.1 ∙ ap (λ (x : ℕ). x ∷ []) c.not_gate.ensures),
)

-- Nand
pub returns-in-Nand : goal.returns-in-Nand
returns-in-Nand c = (
  c.put_level-in-Nand.ensures.0,
  after c.before.before.before.before.before.before.before.before.before Nand _ c.in-Nand.is refl
      (c.put_level-in-Nand.ensures.1 ∙ ap (λ (b : Bool). one (not b)) c.all_high-in-Nand.ensures),
)

-- Nor
pub returns-in-Nor : goal.returns-in-Nor
returns-in-Nor c = (
  c.put_level-in-Nor.ensures.0,
  after c.before.before.before.before.before.before.before.before.before Nor _ c.in-Nor.is refl
      (c.put_level-in-Nor.ensures.1 ∙ ap (λ (b : Bool). one (not b)) c.any_high-in-Nor.ensures),
)

-- Xor
pub returns-in-Xor : goal.returns-in-Xor
returns-in-Xor c = (
  c.put_level-in-Xor.ensures.0,
  after c.before.before.before.before.before.before.before.before.before Xor _ c.in-Xor.is refl
      (c.put_level-in-Xor.ensures.1 ∙ ap (one) c.odd_high.ensures),
)

-- Switch
pub returns-in-Switch : goal.returns-in-Switch
returns-in-Switch c = (sym (moved_none c.args.outputs.now), left c.before.before.before.before Switch c.in-Switch.is refl)

-- Input
pub returns-in-Input : goal.returns-in-Input
returns-in-Input c = (
  c.put-in-Input.ensures.0,
  after c.before.before.before.before.before.before.before.before.before Input _ c.in-Input.is refl
      c.put-in-Input.ensures.1,
)

-- Output
pub returns-in-Output : goal.returns-in-Output
returns-in-Output c = (
  c.put-in-Output.ensures.0,
  after c.before.before.before.before.before.before.before.before.before Output _ c.in-Output.is refl
      c.put-in-Output.ensures.1,
)

-- Splitter
pub returns-in-Splitter : goal.returns-in-Splitter
returns-in-Splitter c =
    let q = c.in-Splitter.is in
    let r = in_row c.before.before.before.before.before.before.before.before.before Splitter q in
    let m : length c.args.outputs.now ≡ c.args.f.parameter =
    omega (arith, r.outputs.least, r.outputs.most, c.requires.1.all_outputs) in
    (c.split.ensures.0, after c.before.before.before.before.before.before.before.before.before Splitter _ q refl (c.split.ensures.1 ∙ ap (split (get_or c.args.inputs.now 0 0)) m))

-- Joiner
pub returns-in-Joiner : goal.returns-in-Joiner
returns-in-Joiner c = (
  c.put-in-Joiner.ensures.0,
  after c.before.before.before.before.before.before.before.before.before Joiner _ c.in-Joiner.is refl
      (c.put-in-Joiner.ensures.1 ∙ ap (λ (x : ℕ). x ∷ []) c.join.ensures),
)

-- Clock
pub returns-in-Clock : goal.returns-in-Clock
returns-in-Clock c = (
  c.put_level-in-Clock.ensures.0,
  after c.before.before.before.before.before.before.before.before.before Clock _ c.in-Clock.is refl
      (c.put_level-in-Clock.ensures.1 ∙ ap (one) c.clock_high.ensures),
)

-- Const
pub returns-in-Const : goal.returns-in-Const
returns-in-Const c = (sym (moved_none c.args.outputs.now), left c.before.before.before.before Const c.in-Const.is refl)

-- Majority
pub returns-in-Majority : goal.returns-in-Majority
returns-in-Majority c = (
  c.put_level-in-Majority.ensures.0,
  after c.before.before.before.before.before.before.before.before.before Majority _ c.in-Majority.is refl
      (c.put_level-in-Majority.ensures.1 ∙ ap (one) c.most_high.ensures),
)
