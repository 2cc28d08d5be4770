-- An evaluation leaves as many outputs as the component has, and each fits its width. A port of a component that obeys the table of kinds has
-- 1 to `widest` bits, so a number fits it exactly where it lies below 2^width.
-- Assumes nothing.
use mathlib.Core.Path.{◌≡◌, refl, sym, ap, subst, ◌∙◌}
use mathlib.Core.Bool.{Bool, true, false, not, false≢true}
use mathlib.Core.List.{List, [], ◌∷◌, map}
use Prim.Native.Nat.{ℕ, zero, suc, ◌<◌, ◌^◌}
use native.Mathlib.Omega.{arith}
use borrow.Author.Tests.{lt-ltb}
use lib.ListN.{length, get_or}
use Rattle.lists.specs.Lists.{from, every}
use Rattle.lists.proofs.TestsLaws.{and_left, and_right}
use Rattle.value.specs.Value.{below, of_width, all_fit, bit_of, complement}
use Rattle.value.proofs.ValueLaws.{bit_of-fits, complement_fits}
use Rattle.kinds.specs.declared.Kind.{Kind}
use Rattle.kinds.specs.declared.Kind.TheVariants.{Composite, And, Or, Not, Nand, Nor, Xor, Switch, Input, Output, Splitter, Joiner, Clock, Const, Majority}
use Rattle.kinds.specs.declared.table.Fields.{Fields}
use Rattle.kinds.specs.Kinds.{number_of, kind_of, row, only, primitive, obeys, input_width, output_width}
use Rattle.primitive.specs.Evaluate.{one, clock_high, join, rule, outputs_after}
use Rattle.primitive.specs.Own.{all_high, any_high, odd_high, most_high}
use Rattle.primitive.specs.Own.{Own}
use Rattle.kinds.proofs.KindsLaws.{number_of-kind_of}
use Rattle.primitive.proofs.RulesLaws.{join_lt, split_length}
use Rattle.primitive.proofs.UpdateLaws.{leaves, outputs_after-rule, outputs_after-left}
use Rattle.kinds.proofs.ObeysLaws.{Inside, InRow, obeys_row, row_bits, obeyed_row, obeyed_primitive, obeyed_kind}

-- All numbers of a list lie below 2^w.
abbrev pub all_below : ℕ → List ℕ → Bool
all_below w xs = every (λ x. below x w) xs

-- So numbers fit the ports of a component that obeys the table exactly where they lie below 2^width.
module _ (f : Fields) (o : obeys f ≡ true) (xs : List ℕ) where
  pub inputs_below_lem : all_fit (input_width f) xs ≡ all_below (input_width f) xs
  inputs_below_lem = rw (row_bits f (kind_of f.kind) (obeys_row f o)).0

  pub outputs_below : all_fit (output_width f) xs ≡ all_below (output_width f) xs
  outputs_below = rw (row_bits f (kind_of f.kind) (obeys_row f o)).1

only_is : (a x : ℕ) → Inside (only a) x → x ≡ a
only_is a x i = omega (arith, i.least, i.most)

first_below : (w : ℕ) (xs : List ℕ) → length xs ≡ 1 → all_below w xs ≡ true → below (get_or xs 0 0) w ≡ true
first_below w [] l e = absurd (omega arith)
first_below w (x ∷ xs) l e = and_left (below x w) (all_below w xs) e

single : (w x : ℕ) → below x w ≡ true → all_below w (x ∷ []) ≡ true
single w x e = rw e

one_below : (b : Bool) → all_below 1 (one b) ≡ true
one_below true = refl
one_below false = refl

bits_below : (x q k : ℕ) → all_below 1 (map (bit_of x) (from q k)) ≡ true
bits_below x q zero = refl
bits_below x q (suc k) = rw (lt-ltb (bit_of x q) 2 (bit_of-fits x q)) (bits_below x (suc q) k)

module _ (f : Fields) (xs : List ℕ) (t : ℕ) (all : length xs ≡ f.inputs) where
  abbrev c : ℕ
  c = f.width

  abbrev p : ℕ
  p = f.parameter

  -- A primitive that does not leave its outputs has as many as its rule gives.
  rule_length : (k : Kind) → InRow (row k c p) f → leaves k ≡ false → (k ≡ Composite → ⊥) → length (rule k p xs t) ≡ f.outputs
  rule_length Composite r l n = absurd (n refl)
  rule_length And r l n = sym (only_is 1 f.outputs r.outputs)
  rule_length Or r l n = sym (only_is 1 f.outputs r.outputs)
  rule_length Not r l n = sym (only_is 1 f.outputs r.outputs)
  rule_length Nand r l n = sym (only_is 1 f.outputs r.outputs)
  rule_length Nor r l n = sym (only_is 1 f.outputs r.outputs)
  rule_length Xor r l n = sym (only_is 1 f.outputs r.outputs)
  rule_length Switch r l n = absurd (false≢true (sym l))
  rule_length Input r l n = sym (only_is 1 f.outputs r.outputs)
  rule_length Output r l n = sym (only_is 1 f.outputs r.outputs)
  rule_length Splitter r l n = split_length (get_or xs 0 0) p ∙ sym (only_is p f.outputs r.outputs)
  rule_length Joiner r l n = sym (only_is 1 f.outputs r.outputs)
  rule_length Clock r l n = sym (only_is 1 f.outputs r.outputs)
  rule_length Const r l n = absurd (false≢true (sym l))
  rule_length Majority r l n = sym (only_is 1 f.outputs r.outputs)

  -- What it gives fits, where its inputs do.
  rule_fits : (k : Kind) → InRow (row k c p) f → leaves k ≡ false → all_below (row k c p).inward xs ≡ true
      → all_below (row k c p).outward (rule k p xs t) ≡ true
  rule_fits Composite r l e = refl
  rule_fits And r l e = one_below (all_high xs)
  rule_fits Or r l e = one_below (any_high xs)
  rule_fits Not r l e =
      let b : below (get_or xs 0 0) 1 ≡ true = first_below 1 xs (all ∙ only_is 1 f.inputs r.inputs) e in
      single 1 (complement (of_width 1 (get_or xs 0 0))).number (complement_fits (of_width 1 (get_or xs 0 0)) b)
  rule_fits Nand r l e = one_below (not (all_high xs))
  rule_fits Nor r l e = one_below (not (any_high xs))
  rule_fits Xor r l e = one_below (odd_high xs)
  rule_fits Switch r l e = absurd (false≢true (sym l))
  rule_fits Input r l e = single p (get_or xs 0 0) (first_below p xs (all ∙ only_is 1 f.inputs r.inputs) e)
  rule_fits Output r l e = single p (get_or xs 0 0) (first_below p xs (all ∙ only_is 1 f.inputs r.inputs) e)
  rule_fits Splitter r l e = bits_below (get_or xs 0 0) 0 p
  rule_fits Joiner r l e =
      single p (join xs) (lt-ltb (join xs) (2 ^ p) (subst (λ (n : ℕ). join xs < 2 ^ n) (all ∙ only_is p f.inputs r.inputs) (join_lt xs)))
  rule_fits Clock r l e = one_below (clock_high p t)
  rule_fits Const r l e = absurd (false≢true (sym l))
  rule_fits Majority r l e = one_below (most_high xs)

-- The outputs of a component after an evaluation.
module _ (f : Fields) (xs ys : List ℕ) (t : ℕ) (own : Own f xs ys) where
  abbrev k : Kind
  k = kind_of f.kind

  kind_is : f.kind ≡ number_of k
  kind_is = sym (number_of-kind_of f.kind (obeyed_kind f own.obeyed))

  in_row : InRow (row k f.width f.parameter) f
  in_row = obeyed_row f k own.obeyed kind_is

  not_composite : k ≡ Composite → ⊥
  not_composite q = omega (arith, obeyed_primitive f own.obeyed, kind_is ∙ ap number_of q)

  -- Either the outputs are left, or they are what the rule of the kind gives.
  by_leaving : {A : Type 0} → (ys ≡ outputs_after f xs ys t → A)
      → (leaves k ≡ false → rule k f.parameter xs t ≡ outputs_after f xs ys t → A) → A
  by_leaving {A} left ruled = by_level (leaves k) refl
    where
      by_level : (b : Bool) → leaves k ≡ b → A
      by_level true l = left (outputs_after-left f k xs ys ys t kind_is l)
      by_level false l = ruled l (outputs_after-rule f k xs ys (rule k f.parameter xs t) t kind_is l refl)

  -- It leaves as many outputs as there were.
  pub outputs_after-length : length (outputs_after f xs ys t) ≡ f.outputs
  outputs_after-length =
      by_leaving (λ e. ap length (sym e) ∙ own.all_outputs)
      (λ l e. ap length (sym e) ∙ rule_length f xs t own.all_inputs k in_row l not_composite)

  -- They fit their widths, where inputs and old outputs do.
  pub outputs_after-fits : all_fit (input_width f) xs ≡ true → all_fit (output_width f) ys ≡ true
      → all_fit (output_width f) (outputs_after f xs ys t) ≡ true
  outputs_after-fits i o =
      by_leaving (λ e. ap (all_fit (output_width f)) (sym e) ∙ o)
      (λ l e. ap (all_fit (output_width f)) (sym e) ∙ outputs_below f obeyed (rule k f.parameter xs t)
      ∙ rule_fits f xs t own.all_inputs k in_row l (sym (inputs_below_lem f obeyed xs) ∙ i))
    where
      obeyed : obeys f ≡ true
      obeyed = and_right (primitive f) (obeys f) own.obeyed
