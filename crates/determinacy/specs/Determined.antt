-- Determinacy: any two outcomes that one contract allows are equal. docs/SPECIFICATION.md, "What the contracts owe". An outcome is the answer and
-- all that was lent to be written. It is stated of the promises that the contracts cite.
use Rattle.std.specs.Prelude.{◌≡◌, ℕ, List}
use Rattle.value.specs.declared.Value.{Value}
use Rattle.value.specs.declared.Fit.{Fit}
use Rattle.kinds.specs.declared.table.Fields.{Fields}
use Rattle.primitive.specs.Evaluate.{Evaluates}
use Rattle.flatten.specs.Verdict.{Speaks}
use Rattle.meeting.specs.Meeting.{Judges, SpeaksPair}
use Rattle.tables.specs.Tables.{Tables}
use Rattle.load.specs.Load.{Loads}
use Rattle.net.specs.Net.{Checks}
use Rattle.questions.specs.declared.Side.{Side}
use Rattle.simulator.specs.Edit.{Way}
use Rattle.simulator.specs.Calls.{Rounds, Edits, Runs}
use Rattle.simulator.specs.Ordered.{RoundsOrdered}
use Rattle.look.specs.declared.Looked.{Looked}
use Rattle.look.specs.Look.{Looks}
use Rattle.mend.specs.declared.Mended.{Mended}
use Rattle.mend.specs.Mend.{Mends}
use Rattle.questions.specs.Questions.{AsksCalm, AsksSatisfied, AsksIndex, AsksValue, AsksSources, AsksTargets}
use Rattle.std.specs.Prelude.{Result}
use Rattle.tables.specs.declared.Counts.{Counts}
use Rattle.kinds.specs.declared.answers.Refusal.{Refusal}

-- Two outcomes that P allows, answer and what was written, are equal.
abbrev pub Determined : {A B : Type 0} → (A → B → Type 0) → Type 0
Determined {A} {B} P = (a a' : A) (b b' : B) → P a b → P a' b' → (a ≡ a') × (b ≡ b')

-- Two answers that P allows are equal: for what writes nothing.
abbrev pub DeterminedAnswer : {A : Type 0} → (A → Type 0) → Type 0
DeterminedAnswer {A} P = (a a' : A) → P a → P a' → a ≡ a'

-- The statements, one for each public function: those that write what they are lent, then those that only answer; the last two are for a value's
-- methods, each of which promises that its answer is a value, or a value beside whether it fits.
abbrev pub Determinacy : Type 0
Determinacy =
    ((f : Fields) (xs vs ys ws : List ℕ) (t : ℕ) → Determined (Evaluates f xs vs ys ws t))
    × ((file : List ℕ) (T : Tables) → Determined (Loads file T))
    × ((t : ℕ) (bits : List ℕ) (T : Tables) → Determined (λ (r : Result Counts Refusal) (b : Tables × List ℕ). Rounds t bits T r b.0 b.1))
    × ((t : ℕ) (order bits : List ℕ) (T : Tables) → Determined (λ (r : Result Counts Refusal) (b : Tables × List ℕ). RoundsOrdered t order bits T r b.0 b.1))
    × ((way : Way) (i v : ℕ) (T : Tables) → Determined (Edits way i v T))
    × ((t limit : ℕ) (T : Tables) → Determined (Runs t limit T))
    × ((T : Tables) (i : ℕ) (lent : List ℕ) → Determined (AsksSources T i lent))
    × ((T : Tables) (i : ℕ) (lent : List ℕ) → Determined (AsksTargets T i lent))
    × ((file : List ℕ) (T : Tables) (path ns ws : List ℕ)
    → Determined (λ (r : Result Looked Refusal) (b : List ℕ × List ℕ). Looks file T path ns ws r b.0 b.1))
    × ((file out list : List ℕ) → Determined (λ (r : Result Mended Refusal) (b : List ℕ × List ℕ). Mends file out list r b.0 b.1))
    × ((file : List ℕ) → DeterminedAnswer (Judges file))
    × ((file : List ℕ) → DeterminedAnswer (Speaks file))
    × ((file : List ℕ) → DeterminedAnswer (SpeaksPair file))
    × ((T : Tables) → DeterminedAnswer (Checks T))
    × ((T : Tables) → DeterminedAnswer (AsksCalm T))
    × ((T : Tables) → DeterminedAnswer (AsksSatisfied T))
    × ((T : Tables) (id : ℕ) → DeterminedAnswer (AsksIndex T id))
    × ((T : Tables) (side : Side) (i port : ℕ) → DeterminedAnswer (AsksValue T side i port))
    × ((v : Value) → DeterminedAnswer (λ (r : Value). r ≡ v))
    × ((f : Fit) → DeterminedAnswer (λ (r : Fit). r ≡ f))
