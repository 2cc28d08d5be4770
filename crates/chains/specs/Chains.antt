-- Chains of wires, the most primitives on any, and port values. docs/SPECIFICATION.md, "When will it settle".
--   Chain There Joined k x y   a chain of k primitives from x to y; which numbers are primitives, and which two a wire joins, is handed in
--   Cycle, Most                "whose wires form no cycle" denies the one; "the most primitives on any chain of wires" is the other
--   longest T                  that number for the wires of the tables T, computed
--   Values                     a number for each port; those of tables, and tables with others
-- Assumes nothing.
use Rattle.std.specs.Prelude.{◌≡◌, ℕ, zero, suc, ◌≤◌, ◌<◌, true, cond, get_or, take, leb}
use mathlib.Core.List.{List, map, foldl}
use Rattle.tables.specs.Tables.{Tables, tables_of, indexes, joins, sources}

-- A chain of k primitives from x to y: each is joined to the next by a wire.
pub data Chain (There : ℕ → Type 0) (Joined : ℕ → ℕ → Type 0) : ℕ → ℕ → ℕ → Type 0 where
  alone : {x : ℕ} → There x → Chain There Joined 1 x x
  onward : {k x y z : ℕ} → Chain There Joined k x y → Joined y z → Chain There Joined (suc k) x z

-- The wires form a cycle: a chain over a wire or more comes back.
abbrev pub Cycle : (ℕ → Type 0) → (ℕ → ℕ → Type 0) → Type 0
Cycle There Joined = (k : ℕ) × (x : ℕ) × Chain There Joined (suc (suc k)) x x

-- "let D be the most primitives on any chain of wires"; without primitives there is no chain, and D is 0.
pub record Most (There : ℕ → Type 0) (Joined : ℕ → ℕ → Type 0) (D : ℕ) : Type 0 where
  pub bound : (k x y : ℕ) → Chain There Joined k x y → k ≤ D
  pub attained : 0 < D → (x : ℕ) × (y : ℕ) × Chain There Joined D x y

-- "port values": a number for each input and each output.
pub record Values : Type 0 where
  pub inputs : List ℕ
  pub outputs : List ℕ

-- Those of tables.
abbrev pub values_of : Tables → Values
values_of T = record { inputs = take T.counts.inputs T.inputs; outputs = take T.counts.outputs T.outputs }

-- The tables with other values at their ports.
abbrev pub with_values : Tables → Values → Tables
with_values T v = tables_of T.components v.inputs v.outputs T.wires T.current T.following T.standing T.counts

-- The larger of two, and the largest of a list.
abbrev pub larger : ℕ → ℕ → ℕ
larger a b = cond (leb a b) b a

abbrev pub maximum : List ℕ → ℕ
maximum xs = foldl larger 0 xs

module _ (T : Tables) where
  -- A component of the tables, and two that one of their wires joins.
  abbrev pub IsIndex : ℕ → Type 0
  IsIndex i = i < T.counts.components

  abbrev pub Joins : ℕ → ℕ → Type 0
  Joins i j = joins T i j ≡ true

  -- For each component the most primitives on a chain that ends there, of chains of at most k.
  abbrev pub lengths : ℕ → List ℕ
  lengths zero = map (λ i. 0) (indexes T)
  lengths (suc k) =
      let before : List ℕ = lengths k in
      map (λ i. suc (maximum (map (λ j. get_or before j 0) (sources T i)))) (indexes T)

  -- The most primitives on any chain, where the wires form no cycle: no chain is then longer than the components are many.
  unfoldable pub longest : ℕ
  longest = maximum (lengths T.counts.components)
