-- What an evaluation leaves, by a component's kind.
-- Assumes nothing.
use mathlib.Core.Path.{◌≡◌}
use mathlib.Core.Bool.{Bool, true, false, ◌||◌}
use mathlib.Core.List.{List}
use Prim.Native.Nat.{ℕ}
use lib.Dec.{eqb}
use Rattle.kinds.specs.declared.Kind.{Kind}
use Rattle.kinds.specs.declared.Kind.TheVariants.{Switch, Const}
use Rattle.kinds.specs.declared.table.Fields.{Fields}
use Rattle.kinds.specs.Kinds.{number_of}
use Rattle.primitive.specs.Evaluate.{rule, function_of, outputs_after}
use Rattle.kinds.proofs.KindsLaws.{kind_of-number_of}

-- A kind that leaves its outputs: Switch or Const.
abbrev pub leaves : Kind → Bool
leaves k = eqb (number_of k) (number_of Switch) || eqb (number_of k) (number_of Const)

-- What an evaluation of a component of kind k leaves.
module _ (f : Fields) (k : Kind) (xs ys zs : List ℕ) (t : ℕ) (e : f.kind ≡ number_of k) where
  pub outputs_after-rule : leaves k ≡ false → zs ≡ rule k f.parameter xs t → zs ≡ outputs_after f xs ys t
  unfolding outputs_after function_of
  outputs_after-rule l h = rw (e, l, kind_of-number_of k) h

  pub outputs_after-left : leaves k ≡ true → ys ≡ outputs_after f xs ys t
  unfolding outputs_after
  outputs_after-left l = rw (e, l)
