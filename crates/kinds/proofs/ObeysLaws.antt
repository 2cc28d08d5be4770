-- What a component that obeys the table of kinds has.
-- Assumes nothing.
use mathlib.Core.Path.{◌≡◌, refl, ap, ◌∙◌}
use mathlib.Core.Bool.{Bool, true, not, ◌&&◌}
use Prim.Native.Nat.{ℕ, ◌≤◌}
use native.Mathlib.Omega.{arith}
use borrow.Author.Tests.{leb-true, le-leb}
use lib.Dec.{leb}
use Rattle.std.specs.Prelude.{Ok}
use Rattle.lists.specs.Lists.{within}
use Rattle.lists.proofs.ListsLaws.{within_least, within_most}
use Rattle.lists.proofs.TestsLaws.{and_left, and_right}
use Rattle.value.specs.Value.{widest}
use Rattle.kinds.specs.declared.Kind.{Kind}
use Rattle.kinds.specs.declared.Kind.TheVariants.{Composite, And, Or, Not, Nand, Nor, Xor, Switch, Input, Output, Splitter, Joiner, Clock, Const, Majority}
use Rattle.kinds.specs.declared.table.Fields.{Fields}
use Rattle.kinds.specs.declared.table.Span.{Span}
use Rattle.kinds.specs.declared.table.Row.{Row}
use Rattle.kinds.specs.Kinds.{number_of, seen_as, for_custom, unknown, kind_of, primitive, most_ports, row, row_of, ◌to◌, spans, obeys}
use Rattle.kinds.proofs.KindsLaws.{is_kind, kind_of-number_of, seen_as-kind}

-- x lies in a span.
pub record Inside (s : Span) (x : ℕ) : Type 0 where
  pub least : s.least ≤ x
  pub most : x ≤ s.most

inside : (s : Span) (x : ℕ) → spans s x ≡ true → Inside s x
inside s x e = record { least = within_least s.least s.most x e; most = within_most s.least s.most x e }

-- A component's fields lie in the columns of a row.
pub record InRow (r : Row) (f : Fields) : Type 0 where
  pub inputs : Inside r.inputs f.inputs
  pub outputs : Inside r.outputs f.outputs
  pub width : Inside r.width f.width
  pub parameter : Inside r.parameter f.parameter

-- The columns of the table, as tests of a component.
abbrev inputs_right : Fields → Bool
inputs_right f = spans (row_of f).inputs f.inputs

abbrev outputs_right : Fields → Bool
outputs_right f = spans (row_of f).outputs f.outputs

abbrev width_right : Fields → Bool
width_right f = spans (row_of f).width f.width

abbrev parameter_right : Fields → Bool
parameter_right f = spans (row_of f).parameter f.parameter

module _ (f : Fields) (o : obeys f ≡ true) where
  abbrev to_inputs : Bool
  to_inputs = (not (for_custom f.kind) && not (unknown f.kind)) && inputs_right f

  abbrev to_width : Bool
  to_width = (to_inputs && outputs_right f) && width_right f

  pub obeys_row : InRow (row_of f) f
  unfolding obeys
  obeys_row =
      let w : to_width ≡ true = and_left to_width (parameter_right f) o in
      let u : (to_inputs && outputs_right f) ≡ true = and_left (to_inputs && outputs_right f) (width_right f) w in
      let i : to_inputs ≡ true = and_left to_inputs (outputs_right f) u in
      record {
        inputs = inside (row_of f).inputs f.inputs (and_right (not (for_custom f.kind) && not (unknown f.kind)) (inputs_right f) i);
        outputs = inside (row_of f).outputs f.outputs (and_right to_inputs (outputs_right f) u);
        width = inside (row_of f).width f.width (and_right (to_inputs && outputs_right f) (width_right f) w);
        parameter = inside (row_of f).parameter f.parameter (and_right to_width (parameter_right f) o);
      }

-- A port has so many bits.
abbrev pub Bits : ℕ → Type 0
Bits w = within 1 widest w ≡ true

bits : (w : ℕ) → Inside (1 to widest) w → Bits w
bits w i = rw (le-leb 1 w i.least, le-leb w widest i.most)

pub row_bits : (f : Fields) (k : Kind) → InRow (row k f.width f.parameter) f
    → Bits (row k f.width f.parameter).inward × Bits (row k f.width f.parameter).outward
row_bits f Composite r = (refl, refl)
row_bits f And r = (refl, refl)
row_bits f Or r = (refl, refl)
row_bits f Not r = (refl, refl)
row_bits f Nand r = (refl, refl)
row_bits f Nor r = (refl, refl)
row_bits f Xor r = (refl, refl)
row_bits f Switch r = (refl, refl)
row_bits f Input r = (bits f.parameter r.parameter, bits f.parameter r.parameter)
row_bits f Output r = (bits f.parameter r.parameter, bits f.parameter r.parameter)
row_bits f Splitter r = (bits f.parameter r.parameter, refl)
row_bits f Joiner r = (refl, bits f.parameter r.parameter)
row_bits f Clock r = (refl, refl)
row_bits f Const r = (refl, bits f.width r.width)
row_bits f Majority r = (refl, refl)

-- No component has more ports than the most.
pub row_few : (k : Kind) (f : Fields) → InRow (row k f.width f.parameter) f → (f.inputs ≤ most_ports) × (f.outputs ≤ most_ports)
row_few Composite f r = (omega (arith, r.inputs.most), omega (arith, r.outputs.most))
row_few And f r = (omega (arith, r.inputs.most), omega (arith, r.outputs.most))
row_few Or f r = (omega (arith, r.inputs.most), omega (arith, r.outputs.most))
row_few Not f r = (omega (arith, r.inputs.most), omega (arith, r.outputs.most))
row_few Nand f r = (omega (arith, r.inputs.most), omega (arith, r.outputs.most))
row_few Nor f r = (omega (arith, r.inputs.most), omega (arith, r.outputs.most))
row_few Xor f r = (omega (arith, r.inputs.most), omega (arith, r.outputs.most))
row_few Switch f r = (omega (arith, r.inputs.most), omega (arith, r.outputs.most))
row_few Input f r = (omega (arith, r.inputs.most), omega (arith, r.outputs.most))
row_few Output f r = (omega (arith, r.inputs.most), omega (arith, r.outputs.most))
row_few Splitter f r = (omega (arith, r.inputs.most), omega (arith, r.outputs.most, r.parameter.most))
row_few Joiner f r = (omega (arith, r.inputs.most, r.parameter.most), omega (arith, r.outputs.most))
row_few Clock f r = (omega (arith, r.inputs.most), omega (arith, r.outputs.most))
row_few Const f r = (omega (arith, r.inputs.most), omega (arith, r.outputs.most))
row_few Majority f r = (omega (arith, r.inputs.most), omega (arith, r.outputs.most))

-- Nor a C past the widest.
pub row_width : (k : Kind) (f : Fields) → InRow (row k f.width f.parameter) f → f.width ≤ widest
row_width Composite f r = omega (arith, r.width.most)
row_width And f r = omega (arith, r.width.most)
row_width Or f r = omega (arith, r.width.most)
row_width Not f r = omega (arith, r.width.most)
row_width Nand f r = omega (arith, r.width.most)
row_width Nor f r = omega (arith, r.width.most)
row_width Xor f r = omega (arith, r.width.most)
row_width Switch f r = omega (arith, r.width.most)
row_width Input f r = omega (arith, r.width.most)
row_width Output f r = omega (arith, r.width.most)
row_width Splitter f r = omega (arith, r.width.most)
row_width Joiner f r = omega (arith, r.width.most)
row_width Clock f r = omega (arith, r.width.most)
row_width Const f r = omega (arith, r.width.most)
row_width Majority f r = omega (arith, r.width.most)

-- A primitive of kind k that obeys the table lies in the row of k.
pub obeyed_row : (f : Fields) (k : Kind) → (primitive f && obeys f) ≡ true → f.kind ≡ number_of k
    → InRow (row k f.width f.parameter) f
obeyed_row f k o e =
    let q : kind_of f.kind ≡ k = ap kind_of e ∙ kind_of-number_of k in
    rw q at (obeys_row f (and_right (primitive f) (obeys f) o))

-- It is of a kind, and not of the composite's.
pub obeyed_primitive : (f : Fields) → (primitive f && obeys f) ≡ true → 1 ≤ f.kind
obeyed_primitive f o =
    leb-true 1 f.kind (and_left (leb 1 f.kind) (is_kind f.kind) (and_left (primitive f) (obeys f) o))

pub obeyed_kind : (f : Fields) → (primitive f && obeys f) ≡ true → is_kind f.kind ≡ true
obeyed_kind f o = and_right (leb 1 f.kind) (is_kind f.kind) (and_left (primitive f) (obeys f) o)

-- So its number is read as a kind.
pub obeyed_seen : (f : Fields) → (primitive f && obeys f) ≡ true → seen_as f.kind ≡ Ok (kind_of f.kind)
obeyed_seen f o = seen_as-kind f.kind (obeyed_kind f o)
