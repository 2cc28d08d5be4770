-- The questions: calm or not, satisfied or not, the index of an id, a port's value, a component's sources and targets.
-- docs/SPECIFICATION.md, "Numbers given back". They change no table.
use Rattle.std.specs.Prelude.{◌≡◌, ℕ, cond, ◌||◌, List, [], ◌∷◌, length, get_or, eqb, leb, ltb}
use Rattle.std.proofs.Math.Option.{Option, none, some}
use Rattle.value.specs.declared.Value.{Value}
use Rattle.lists.specs.Lists.{overlay}
use Rattle.value.specs.Value.{level, of_width}
use Rattle.kinds.specs.Kinds.{input_width, output_width}
use Rattle.kinds.specs.Given.{Given, done, declined, refused_by, giving}
use Rattle.tables.specs.Tables.{Tables, fields_at, end_at, input_place, output_place, sources, targets, index_of}
use Rattle.questions.specs.declared.Side.{Side}
use Rattle.questions.specs.declared.Side.TheVariants.{Inputs, Outputs}
use Rattle.net.specs.Net.{net_number, on_net}
use Rattle.rounds.specs.Round.{calm}
use Rattle.judging.specs.Judged.{judged_named}
use Rattle.std.specs.Prelude.{Result, Ok, Err}
use Rattle.tables.specs.declared.FlatIdx.{FlatIdx}
use Rattle.kinds.specs.declared.answers.Refusal.{Refusal}
use Rattle.std.specs.Prelude.{Bool}

-- What a question gives of any tables, where it gives g of a net: 2, 16.
abbrev pub of_net : Tables → Given → Given
of_net T g = cond (eqb (net_number T) 0) g (declined (refused_by (net_number T)))

-- What each answer gives: whether something is so.
abbrev pub whether_gives : Result Bool Refusal → Given
whether_gives (Ok b) = done (level b ∷ [])
whether_gives (Err r) = declined r

-- The promise of `is_calm`.
abbrev pub AsksCalm : Tables → Result Bool Refusal → Type 0
AsksCalm T r = whether_gives r ≡ of_net T (done (level (calm T) ∷ []))

-- The promise of `is_satisfied`.
abbrev pub AsksSatisfied : Tables → Result Bool Refusal → Type 0
AsksSatisfied T r = whether_gives r ≡ of_net T (done (level (judged_named T) ∷ []))

-- An index.
abbrev pub index_gives : Result FlatIdx Refusal → Given
index_gives (Ok i) = done (i.0 ∷ [])
index_gives (Err r) = declined r

-- An id that was searched for: its index, or 17.
abbrev pub index_found : Option ℕ → Given
index_found (some i) = done (i ∷ [])
index_found none = declined (refused_by 17)

-- The promise of `index_of`: 2, 16, 17.
abbrev pub AsksIndex : Tables → ℕ → Result FlatIdx Refusal → Type 0
AsksIndex T id r = index_gives r ≡ of_net T (index_found (index_of T id))

-- How many ports component i has on a side.
abbrev pub port_count : Tables → Side → ℕ → ℕ
port_count T Inputs i = (fields_at T i).inputs
port_count T Outputs i = (fields_at T i).outputs

-- The value of port p of component i on a side.
abbrev pub value_at : Tables → Side → ℕ → ℕ → Value
value_at T Inputs i p = of_width (input_width (fields_at T i)) (get_or T.inputs (input_place T (end_at i p)) 0)
value_at T Outputs i p = of_width (output_width (fields_at T i)) (get_or T.outputs (output_place T (end_at i p)) 0)

-- What each answer gives of a value: its number and its width.
abbrev pub value_gives : Result Value Refusal → Given
value_gives (Ok v) = done (v.number ∷ v.width ∷ [])
value_gives (Err r) = declined r

-- A port's value in a net, or 17.
unfoldable pub value_on_net : Tables → Side → ℕ → ℕ → Given
value_on_net T side i p =
    cond (leb T.counts.components i || leb (port_count T side i) p) (declined (refused_by 17))
    (value_gives (Ok (value_at T side i p)))

-- The promise of `value_of`: 2, 16, 17.
abbrev pub AsksValue : Tables → Side → ℕ → ℕ → Result Value Refusal → Type 0
AsksValue T side i p r = value_gives r ≡ of_net T (value_on_net T side i p)

-- Sources and targets into a lent list, full at 256: 2, 16, 17.
unfoldable pub list_number : Tables → ℕ → List ℕ → ℕ
list_number T i lent = cond (ltb (length lent) 256) 2 (on_net T (cond (leb T.counts.components i) 17 0))

-- What each answer gives of a list: how many stand in it.
abbrev pub list_gives : Result ℕ Refusal → Given
list_gives (Ok k) = done (k ∷ [])
list_gives (Err r) = declined r

-- The promise of a call of number k that lists xs at the front of the lent list.
abbrev pub Listing : ℕ → List ℕ → List ℕ → Result ℕ Refusal → List ℕ → Type 0
Listing k xs lent r left = (list_gives r ≡ giving k (length xs ∷ [])) × (left ≡ cond (eqb k 0) (overlay xs lent) lent)

-- The promise of `sources_of`.
abbrev pub AsksSources : Tables → ℕ → List ℕ → Result ℕ Refusal → List ℕ → Type 0
AsksSources T i lent r left = Listing (list_number T i lent) (sources T i) lent r left

-- The promise of `targets_of`.
abbrev pub AsksTargets : Tables → ℕ → List ℕ → Result ℕ Refusal → List ℕ → Type 0
AsksTargets T i lent r left = Listing (list_number T i lent) (targets T i) lent r left
