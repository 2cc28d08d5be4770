-- The boxes of a drawing: the component that a path of ids names, whether tables match the drawing, and what is behind a component's ports.
-- docs/SPECIFICATION.md, "Looking at a box".
use Rattle.std.specs.Prelude.{ℕ, ◌-◌, ◌*◌, Bool, true, false, ◌&&◌, length, get_or, take, eqb}
use mathlib.Core.List.{List, [], ◌∷◌, foldl}
use Rattle.lists.specs.Lists.{from, keep, any, joined}
use Rattle.component.specs.declared.Record.{Record}
use Rattle.component.specs.Record.{inputs_of, outputs_of, owned_as}
use Rattle.component.specs.Drawing.{deepest}
use Rattle.flatten.specs.declared.Pin.{Pin}
use Rattle.flatten.specs.Descent.{pin, output_below, inputs_below}
use Rattle.tables.specs.Tables.{Tables, wire_words}
use Rattle.laying.specs.Laid.{primitives, primitive_words, flat_wires}
use Rattle.questions.specs.declared.Side.{Side}
use Rattle.questions.specs.declared.Side.TheVariants.{Inputs, Outputs}

-- Two lists of words are the same.
abbrev pub same : List ℕ → List ℕ → Bool
same [] [] = true
same [] (y ∷ ys) = false
same (x ∷ xs) [] = false
same (x ∷ xs) (y ∷ ys) = eqb x y && same xs ys

-- How many ports a component has on a side.
abbrev pub ports_on : Side → Record → ℕ
ports_on Inputs r = inputs_of r
ports_on Outputs r = outputs_of r

-- The last of a list; z where it has none.
abbrev pub last_of : Pin → List Pin → Pin
last_of z [] = z
last_of z (t ∷ ts) = last_of t ts

module _ (at : ℕ → Record) (n : ℕ) where
  -- The child of component c that has the id; n where there is none.
  abbrev pub child_named : ℕ → ℕ → ℕ
  child_named c id = get_or (keep (λ q. owned_as 1 c (at q) && eqb (at q).id id) (from 1 (n - 1))) 0 n

  -- "named by the path of ids below the root (empty: the root itself)". Nothing is below a primitive or below n, so that a path that misses once names n.
  abbrev pub place_of : List ℕ → ℕ
  place_of path = foldl child_named 0 path

  -- "File and tables match when the tables hold the components and wires that a load of the file gives."
  unfoldable pub matched : Tables → Bool
  matched T =
      same (take (8 * T.counts.components) T.components) (joined (primitive_words at n) (primitives at n))
      && same (take (4 * T.counts.wires) T.wires) (joined wire_words (flat_wires at n))

  -- The primitive inputs that the maps of input i of component c reach, in order; a primitive's own input is the only one.
  abbrev pub behind : ℕ → ℕ → List Pin
  behind c i = inputs_below at n deepest c i

  -- 21: nothing behind some input of the composite. A primitive's input is behind itself.
  unfoldable pub dangling : ℕ → Bool
  dangling c = any (λ i. eqb (length (behind c i)) 0) (from 0 (inputs_of (at c)))

  -- "An output shows its primitive's output. An input shows the primitive input that its maps reach last".
  abbrev pub port_shown : Side → ℕ → ℕ → Pin
  port_shown Inputs c i = last_of (pin n 0) (behind c i)
  port_shown Outputs c i = output_below at n deepest c i
