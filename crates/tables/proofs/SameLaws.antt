-- Tables that agree: rounds and edits leave components, wires and their counts as they were, and every table as long.
--   SameWiring T U    the component words, the wire words and the counts of these and of ports are the same
--   SameLengths T U   each table is as long in one as in the other
-- Assumes nothing.
use mathlib.Core.Path.{◌≡◌, refl, ◌∙◌}
use mathlib.Core.Bool.{true}
use mathlib.Core.List.{List, map}
use Prim.Native.Nat.{ℕ}
use lib.ListN.{length}
use Rattle.lists.specs.Lists.{from}
use Rattle.tables.specs.declared.Wire.{Wire}
use Rattle.tables.specs.Tables.{Tables, full_size, word_in, fields_at, wires_in}
use Rattle.tables.specs.Words.{wire_in}

pub record SameWiring (T U : Tables) : Type 0 where
  pub components : U.components ≡ T.components
  pub wires : U.wires ≡ T.wires
  pub component_count : U.counts.components ≡ T.counts.components
  pub input_count_lem : U.counts.inputs ≡ T.counts.inputs
  pub output_count_lem : U.counts.outputs ≡ T.counts.outputs
  pub wire_count : U.counts.wires ≡ T.counts.wires

pub record SameLengths (T U : Tables) : Type 0 where
  pub components : length U.components ≡ length T.components
  pub inputs : length U.inputs ≡ length T.inputs
  pub outputs : length U.outputs ≡ length T.outputs
  pub wires : length U.wires ≡ length T.wires
  pub current : length U.current ≡ length T.current
  pub following : length U.following ≡ length T.following
  pub standing : length U.standing ≡ length T.standing

pub same_wiring-none : (T : Tables) → SameWiring T T
same_wiring-none T =
    record {
      components = refl;
      wires = refl;
      component_count = refl;
      input_count_lem = refl;
      output_count_lem = refl;
      wire_count = refl;
    }

pub same_wiring-more : (T U W : Tables) → SameWiring T U → SameWiring U W → SameWiring T W
same_wiring-more T U W a b =
    record {
      components = b.components ∙ a.components;
      wires = b.wires ∙ a.wires;
      component_count = b.component_count ∙ a.component_count;
      input_count_lem = b.input_count_lem ∙ a.input_count_lem;
      output_count_lem = b.output_count_lem ∙ a.output_count_lem;
      wire_count = b.wire_count ∙ a.wire_count;
    }

-- k wires from their words.
abbrev wires_of : List ℕ → ℕ → List Wire
wires_of ws k =
    map (wire_in ws) (from 0 k)

-- What is read off the components and the wires is then the same too.
module _ (T U : Tables) (a : SameWiring T U) where
  pub same_wiring-word : (i k : ℕ) → word_in U.components i k ≡ word_in T.components i k
  same_wiring-word i k = rw a.components

  pub same_wiring-fields : (i : ℕ) → fields_at U i ≡ fields_at T i
  same_wiring-fields i = rw a.components

  pub same_wiring-wires : wires_in U ≡ wires_in T
  same_wiring-wires = λ j. wires_of (a.wires j) (a.wire_count j)

-- Tables as long as some of full size are of full size.
pub same_lengths-full_size : (T U : Tables) → SameLengths T U → full_size T ≡ true → full_size U ≡ true
unfolding full_size
same_lengths-full_size T U s e =
    rw (s.components, s.inputs, s.outputs, s.wires, s.current, s.following, s.standing) e
