-- Links from each component to its wires, and marks of the components that a list names. Nobody has to believe anything here: only
-- contracts of functions inside our crates cite it.
--   source_in ws k                  the component that wire k leaves
--   Along n after k ks             following `after` from wire k meets exactly the wires ks, and then a number not below n
--   met_from n after f k           what following `after` from wire k meets, at most f wires
--   linked_wires ws n head after i   the wires of component i, as they are linked
--   IsLinked ws n head after ks    from its head, each component's wires are met, in the order ks of wires by their numbers
--   Follows ws n head after vs     vs are the wires of such an order; HasLinks: there is one
--   Ready b ws n head after        b says whether the n wires are linked, in stored order; if not, none is
--   IsListed marks xs              exactly the components that xs names are marked
--   ListMarked, ListCovered        a list in a table: exactly what it names is marked; all that it names is
-- Assumes nothing.
use Rattle.std.specs.Prelude.{ℕ, zero, suc, ◌≤◌, ◌<◌, ◌≡◌, Bool, true, false, cond, not, List, [], ◌∷◌, map, length, get_or, take, eqb, ltb}
use Rattle.lists.specs.Lists.{from, keep, has}
use Rattle.tables.specs.declared.Wire.{Wire}
use Rattle.tables.specs.Tables.{Tables}
use Rattle.tables.specs.Words.{wire_in}
use Rattle.rounds.specs.Steps.{ListFits}

-- The component that wire k leaves.
abbrev pub source_in : List ℕ → ℕ → ℕ
source_in ws k = (wire_in ws k).src.comp.0

-- What following `after` from wire k meets.
abbrev pub Along : ℕ → List ℕ → ℕ → List ℕ → Type 0
Along n after k [] = n ≤ k
Along n after k (x ∷ xs) = (k ≡ x) × (k < n) × Along n after (get_or after k 0) xs

-- The same as a list, of at most f wires.
abbrev pub met_from : ℕ → List ℕ → ℕ → ℕ → List ℕ
met_from n after zero k = []
met_from n after (suc f) k = cond (ltb k n) (k ∷ met_from n after f (get_or after k 0)) []

-- The wires that are met from component i's head.
abbrev pub linked_wires : List ℕ → ℕ → List ℕ → List ℕ → ℕ → List Wire
linked_wires ws n head after i = map (wire_in ws) (met_from n after n (get_or head i 0))

-- Component i's wires, by their numbers, in an order of all wires.
abbrev pub numbers_from : List ℕ → ℕ → List ℕ → List ℕ
numbers_from ws i order = keep (λ k. eqb (source_in ws k) i) order

pub record IsLinked (ws : List ℕ) (n : ℕ) (head after order : List ℕ) : Type 0 where
  pub heads : length head ≡ 256
  pub afters : length after ≡ 1024
  pub linked : (i : ℕ) → i < 256 → Along n after (get_or head i 0) (numbers_from ws i order)

pub record Follows (ws : List ℕ) (n : ℕ) (head after : List ℕ) (vs : List Wire) : Type 0 where
  pub order : List ℕ
  pub links : IsLinked ws n head after order
  pub these : vs ≡ map (wire_in ws) order

-- The wires are linked in some order.
abbrev pub HasLinks : List ℕ → ℕ → List ℕ → List ℕ → Type 0
HasLinks ws n head after = (vs : List Wire) × Follows ws n head after vs

-- In stored order, or not yet.
abbrev pub Ready : Bool → List ℕ → ℕ → List ℕ → List ℕ → Type 0
Ready true ws n head after = IsLinked ws n head after (from 0 n)
Ready false ws n head after = IsLinked ws n head after []

-- The first n wires leave components of full size.
abbrev pub SourcesFew : List ℕ → ℕ → Type 0
SourcesFew ws n = (k : ℕ) → k < n → source_in ws k < 256

pub record IsListed (marks xs : List ℕ) : Type 0 where
  pub whole : length marks ≡ 256
  pub exact : (x : ℕ) → x < 256 → eqb (get_or marks x 0) 0 ≡ not (has x xs)

-- The following list as a round makes it, n entries of the table t.
pub record ListMarked (T : Tables) (n : ℕ) (t marks : List ℕ) : Type 0 where
  pub fits : ListFits T n t
  pub marked : IsListed marks (take n t)

-- The standing list as a round leaves it: a component that is not marked is not in it.
pub record ListCovered (n : ℕ) (t marks : List ℕ) : Type 0 where
  pub count : n ≤ length t
  pub covered : (x : ℕ) → x < 256 → get_or marks x 0 ≡ 0 → has x (take n t) ≡ false
