-- What questions ask, on the lists of words that a function inside this crate is handed. `sources`
-- and `targets` are these on a net (proofs/EndsLaws, QuestionsLaws);
-- only contracts of such functions cite them.
--   comp_at w e, end_of ws k e the component at end e of a wire, and of wire k
--   meets ws m near far i j  one of m wires has component i at its end `near` and component j at its end `far`
--   met ws m near far i n    the components below n that wires join to component i so
--   marked_below marks n           the numbers below n that are marked
--   RowRight cs is os i      component i's words stand in the table and fit its fields, and its ports stand in their tables
-- Assumes nothing.
use Rattle.std.specs.Prelude.{ℕ, ◌≡◌, Bool, true, ◌&&◌, List, get_or, eqb}
use Rattle.lists.specs.Lists.{from, keep, any}
use Rattle.tables.specs.declared.Wire.{Wire}
use Rattle.tables.specs.Words.{RowInside, fields_in, wire_in, fields_fit}
use Rattle.net.specs.Parts.{InputsInside, OutputsInside}
use Rattle.questions.specs.declared.Tip.{Tip}
use Rattle.questions.specs.declared.Tip.TheVariants.{Source, Target}

-- The component at an end of a wire.
abbrev pub comp_at : Wire → Tip → ℕ
comp_at w Source = w.src.comp.0
comp_at w Target = w.dst.comp.0

-- The component at end e of wire k.
abbrev pub end_of : List ℕ → ℕ → Tip → ℕ
end_of ws k e = comp_at (wire_in ws k) e

-- One of m wires has component i at its end `near` and component j at its end `far`.
abbrev pub meets : List ℕ → ℕ → Tip → Tip → ℕ → ℕ → Bool
meets ws m near far i j = any (λ k. eqb (end_of ws k near) i && eqb (end_of ws k far) j) (from 0 m)

-- The components below n that wires join to component i so, ascending.
unfoldable pub met : List ℕ → ℕ → Tip → Tip → ℕ → ℕ → List ℕ
met ws m near far i n = keep (meets ws m near far i) (from 0 n)

-- The numbers below n that are marked, ascending.
abbrev pub marked_below : List ℕ → ℕ → List ℕ
marked_below marks n = keep (λ j. eqb (get_or marks j 0) 1) (from 0 n)

-- Component i's words stand in the table and fit its fields, and its ports stand in their tables.
pub record RowRight (cs is os : List ℕ) (i : ℕ) : Type 0 where
  pub row : RowInside cs i
  pub fit : fields_fit (fields_in cs i) ≡ true
  pub inputs_in : InputsInside cs is i
  pub outputs_in : OutputsInside cs os i
