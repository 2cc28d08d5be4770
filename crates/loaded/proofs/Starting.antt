-- What a component's outputs are at load: each fits, and a Const's is its value. docs/SPECIFICATION.md, "Rounds".
-- Assumes nothing.
use mathlib.Core.Path.{◌≡◌, refl, ap, ◌∙◌}
use mathlib.Core.Bool.{Bool, true, false, cond, ◌&&◌}
use mathlib.Core.List.{[], ◌∷◌}
use Prim.Native.Nat.{ℕ, zero, suc, ◌-◌, ◌^◌, ◌≤◌, min}
use native.Mathlib.Nat.{min-eq_left}
use native.Mathlib.Omega.{arith}
use borrow.Author.Tests.{eqb-true, lt-ltb}
use lib.ListN.{replicate}
use lib.Pow.{pow_pos}
use Rattle.lists.proofs.TestsLaws.{and_right}
use Rattle.value.specs.Value.{widest, below, all_fit}
use Rattle.kinds.specs.declared.Kind.TheVariants.{Const}
use Rattle.kinds.specs.declared.table.Fields.{Fields}
use Rattle.kinds.specs.Kinds.{number_of, kind_of, is, primitive, obeys, input_width, output_width}
use Rattle.primitive.specs.Evaluate.{starting}
use Rattle.kinds.proofs.KindsLaws.{kind_of-number_of}
use Rattle.kinds.proofs.ObeysLaws.{obeyed_row}
use Rattle.primitive.proofs.FitLaws.{all_below, inputs_below_lem, outputs_below}

-- 0 lies below every power, as often as it stands.
zeros_below : (w k : ℕ) → all_below w (replicate k 0) ≡ true
zeros_below w zero = refl
zeros_below w (suc k) = rw (lt-ltb 0 (2 ^ w) (pow_pos w)) (zeros_below w k)

module _ (f : Fields) (o : (primitive f && obeys f) ≡ true) where
  obeyed : obeys f ≡ true
  obeyed = and_right (primitive f) (obeys f) o

  -- Inputs that are all 0 fit.
  pub zeros_fit : (k : ℕ) → all_fit (input_width f) (replicate k 0) ≡ true
  zeros_fit k = inputs_below_lem f obeyed (replicate k 0) ∙ zeros_below (input_width f) k

  -- A Const's value lies below its power.
  const_below : is Const f ≡ true → below f.parameter (output_width f) ≡ true
  const_below e =
      let k = eqb-true f.kind (number_of Const) e in
      let r = obeyed_row f Const o k in
      let q : kind_of f.kind ≡ Const = ap kind_of k ∙ kind_of-number_of Const in
      let narrow : min f.width widest ≡ f.width = min-eq_left r.width.most in
      let most : f.parameter ≤ 2 ^ f.width - 1 = rw narrow at r.parameter.most in
      rw q (lt-ltb f.parameter (2 ^ f.width) (omega (arith, pow_pos f.width)))

  -- All starting values fit.
  pub starting_fits : all_fit (output_width f) (starting f) ≡ true
  starting_fits = outputs_below f obeyed (starting f) ∙ by_kind (is Const f) refl
    where
      by_kind : (b : Bool) → is Const f ≡ b
          → all_below (output_width f) (cond b (f.parameter ∷ []) (replicate f.outputs 0)) ≡ true
      by_kind true e = rw (const_below e)
      by_kind false e = zeros_below (output_width f) f.outputs

  -- A Const starts with its value alone.
  pub starting_const : is Const f ≡ true → starting f ≡ f.parameter ∷ []
  starting_const e = rw e
