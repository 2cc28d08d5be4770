-- What rounds and edits lean on of the kinds: how many ports some have, and what an evaluation depends on.
-- Assumes nothing.
use mathlib.Core.Path.{◌≡◌, refl, sym, ap, ◌∙◌}
use mathlib.Core.Bool.{Bool, true, false, cond, ◌&&◌, ◌||◌}
use mathlib.Core.List.{List, [], ◌∷◌}
use Prim.Native.Nat.{ℕ}
use native.Mathlib.Omega.{arith}
use borrow.Author.Tests.{eqb-true, eqb-false}
use lib.Dec.{eqb}
use Rattle.kinds.specs.declared.Kind.{Kind}
use Rattle.kinds.specs.declared.Kind.TheVariants.{Composite, And, Or, Not, Nand, Nor, Xor, Switch, Input, Output, Splitter, Joiner, Clock, Const, Majority}
use Rattle.kinds.specs.declared.table.Fields.{Fields}
use Rattle.kinds.specs.Kinds.{number_of, kind_of, is, primitive, obeys}
use Rattle.primitive.specs.Evaluate.{rule, function_of, outputs_after}
use Rattle.kinds.proofs.KindsLaws.{number_of-kind_of}
use Rattle.kinds.proofs.ObeysLaws.{obeyed_row, obeyed_kind}

-- A component is of one kind only.
pub is_other : (f : Fields) (j k : Kind) → eqb (number_of j) (number_of k) ≡ false → is j f ≡ true → is k f ≡ false
is_other f j k n e = rw (eqb-true f.kind (number_of j) e) n

-- The function of any kind but a Clock does not depend on the time.
rule_time : (k : Kind) (p : ℕ) (xs : List ℕ) (t u : ℕ) → (k ≡ Clock → ⊥) → rule k p xs t ≡ rule k p xs u
rule_time Composite p xs t u n = refl
rule_time And p xs t u n = refl
rule_time Or p xs t u n = refl
rule_time Not p xs t u n = refl
rule_time Nand p xs t u n = refl
rule_time Nor p xs t u n = refl
rule_time Xor p xs t u n = refl
rule_time Switch p xs t u n = refl
rule_time Input p xs t u n = refl
rule_time Output p xs t u n = refl
rule_time Splitter p xs t u n = refl
rule_time Joiner p xs t u n = refl
rule_time Clock p xs t u n = absurd (n refl)
rule_time Const p xs t u n = refl
rule_time Majority p xs t u n = refl

module _ (f : Fields) (o : (primitive f && obeys f) ≡ true) where
  pub clock_inputs : is Clock f ≡ true → f.inputs ≡ 0
  clock_inputs e = let r = obeyed_row f Clock o (eqb-true f.kind 12 e) in omega (arith, r.inputs.most)

  pub const_outputs : is Const f ≡ true → f.outputs ≡ 1
  const_outputs e =
      let r = obeyed_row f Const o (eqb-true f.kind 13 e) in omega (arith, r.outputs.least, r.outputs.most)

  pub switch_outputs : is Switch f ≡ true → f.outputs ≡ 1
  switch_outputs e =
      let r = obeyed_row f Switch o (eqb-true f.kind 7 e) in omega (arith, r.outputs.least, r.outputs.most)

  pub input_inputs : is Input f ≡ true → f.inputs ≡ 1
  input_inputs e =
      let r = obeyed_row f Input o (eqb-true f.kind 8 e) in omega (arith, r.inputs.least, r.inputs.most)

  -- An evaluation of any kind but a Clock does not depend on the time.
  pub outputs_after-time : (xs ys : List ℕ) (t u : ℕ) → is Clock f ≡ false
      → outputs_after f xs ys t ≡ outputs_after f xs ys u
  unfolding outputs_after function_of
  outputs_after-time xs ys t u e =
      ap (cond (is Switch f || is Const f) ys) (rule_time (kind_of f.kind) f.parameter xs t u no_clock)
    where
      no_clock : kind_of f.kind ≡ Clock → ⊥
      no_clock q =
          eqb-false f.kind (number_of Clock) e (sym (number_of-kind_of f.kind (obeyed_kind f o)) ∙ ap number_of q)

-- A second evaluation on the same inputs changes nothing.
pub outputs_after-twice : (f : Fields) (xs ys : List ℕ) (t : ℕ)
    → outputs_after f xs (outputs_after f xs ys t) t ≡ outputs_after f xs ys t
unfolding outputs_after
outputs_after-twice f xs ys t = by_test (is Switch f || is Const f)
  where
    by_test : (b : Bool) → cond b (cond b ys (function_of f xs t)) (function_of f xs t) ≡ cond b ys (function_of f xs t)
    by_test true = refl
    by_test false = refl

-- A Const leaves its output.
pub outputs_after-const : (f : Fields) (xs ys : List ℕ) (t : ℕ) → is Const f ≡ true → outputs_after f xs ys t ≡ ys
unfolding outputs_after
outputs_after-const f xs ys t e = rw (is_other f Const Switch refl e, e)

-- All but Switch and Const take their function of their inputs,
pub outputs_after-function : (f : Fields) (xs ys : List ℕ) (t : ℕ) → is Switch f ≡ false → is Const f ≡ false
    → outputs_after f xs ys t ≡ function_of f xs t
unfolding outputs_after
outputs_after-function f xs ys t s c = rw (s, c)

-- and a Const's function is its value.
pub function_of-const : (f : Fields) (xs : List ℕ) (t : ℕ) → is Const f ≡ true → function_of f xs t ≡ f.parameter ∷ []
unfolding function_of
function_of-const f xs t e = rw (eqb-true f.kind 13 e)
