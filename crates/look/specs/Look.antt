-- Looking at a box: the port values of the component that a path of ids below the root names. docs/SPECIFICATION.md, "Looking at a box".
-- A look writes its two lent lists and nothing else.
use Rattle.std.specs.Prelude.{◌≡◌, ℕ, cond, not, ◌&&◌, ◌||◌, List, [], ◌∷◌, ◌++◌, map, length, leb, ltb}
use Rattle.lists.specs.Lists.{from, refusal, ◌if◌}
use Rattle.value.specs.declared.Value.{Value}
use Rattle.kinds.specs.Given.{Given, done, declined, Verdict, verdict_gives}
use Rattle.component.specs.declared.Record.{Record}
use Rattle.component.specs.Record.{record_at, record_count, inputs_of, outputs_of, sized}
use Rattle.flatten.specs.Descent.{flat}
use Rattle.flatten.specs.Verdict.{refused, and_then, list_by}
use Rattle.tables.specs.Tables.{Tables}
use Rattle.load.specs.Load.{load_verdict}
use Rattle.net.specs.Net.{is_net}
use Rattle.questions.specs.declared.Side.{Side}
use Rattle.questions.specs.declared.Side.TheVariants.{Inputs, Outputs}
use Rattle.questions.specs.Questions.{value_at}
use Rattle.boxes.specs.Boxes.{ports_on, place_of, matched, dangling, port_shown}
use Rattle.look.specs.declared.Looked.{Looked}
use Rattle.std.specs.Prelude.{Result, Ok, Err}
use Rattle.kinds.specs.declared.answers.Refusal.{Refusal}

module _ (at : ℕ → Record) (n : ℕ) where
  -- The values that component c shows on a side: those that the tables hold for the primitives' ports.
  abbrev pub shown_on : Tables → Side → ℕ → List Value
  shown_on T side c =
      map (λ i. value_at T side (flat at n (port_shown at n side c i).comp) (port_shown at n side c i).port) (from 0 (ports_on side (at c)))

  -- All that it shows: inputs first, then outputs.
  unfoldable pub shown : Tables → ℕ → List Value
  shown T c = shown_on T Inputs c ++ shown_on T Outputs c

  -- What is checked "after a load's own" of a look at component c: 16; 20, file and tables do not match, or no such path; 21.
  unfoldable pub look_number : Tables → ℕ → ℕ
  look_number T c = refusal ((16 if not (is_net T)) ∷ (20 if not (matched at n T) || leb n c) ∷ (21 if dangling at n c) ∷ [])

-- The component that is looked at.
abbrev pub looked_at : List ℕ → List ℕ → ℕ
looked_at file path = place_of (record_at file) (record_count file) path

-- "a load's own" verdict; 2 also where a list that is lent for numbers or for widths is shorter than 256.
abbrev pub loads_own : List ℕ → Tables → List ℕ → List ℕ → Verdict
loads_own file T ns ws = cond (sized file && (ltb (length ns) 256 || ltb (length ws) 256)) (refused 2 0) (load_verdict file T)

-- The verdict of a look, of any file at any tables, path and lists.
unfoldable pub look_verdict : List ℕ → Tables → List ℕ → List ℕ → List ℕ → Verdict
look_verdict file T path ns ws = and_then (loads_own file T ns ws) (look_number (record_at file) (record_count file) T (looked_at file path))

-- The values that it shows.
abbrev pub values_shown : List ℕ → Tables → List ℕ → List Value
values_shown file T path = shown (record_at file) (record_count file) T (looked_at file path)

-- What each answer gives: how many inputs and how many outputs are shown.
abbrev pub look_gives : Result Looked Refusal → Given
look_gives (Ok a) = done (a.inputs ∷ a.outputs ∷ [])
look_gives (Err r) = declined r

-- The promise of `look`: its answer r gives what the checks find and how many ports are shown; ns' and ws' are the two lists afterwards.
abbrev pub Looks : List ℕ → Tables → List ℕ → List ℕ → List ℕ → Result Looked Refusal → List ℕ → List ℕ → Type 0
Looks file T path ns ws r ns' ws' =
    let found = look_verdict file T path ns ws in
    let box = record_at file (looked_at file path) in
    (look_gives r ≡ verdict_gives found (inputs_of box ∷ outputs_of box ∷ []))
    × (ns' ≡ list_by found (map (λ (v : Value). v.number) (values_shown file T path)) ns)
    × (ws' ≡ list_by found (map (λ (v : Value). v.width) (values_shown file T path)) ws)
