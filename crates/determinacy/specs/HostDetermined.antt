-- Determinacy of the calls from C: any two outcomes that one promise allows are equal, in what the call says and in everything that is lent to be
-- written. The tables after a call are those with the counts that the count words then hold. docs/SPECIFICATION.md, "What the contracts owe".
-- (`berxundar_judge` promises `Speaks`, `berxundar_judge_pair` `SpeaksPair`: they stand in specs/Determined.)
-- Assumes nothing.
use Rattle.std.specs.Prelude.{ℕ, ◌≡◌, Bool, List, []}
use Rattle.kinds.specs.declared.table.Fields.{Fields}
use Rattle.kinds.specs.Given.{Given, verdict_gives}
use Rattle.tables.specs.declared.Counts.{Counts}
use Rattle.tables.specs.Tables.{Tables}
use Rattle.load.specs.Load.{Loads}
use Rattle.net.specs.Net.{Checks}
use Rattle.questions.specs.declared.Side.{Side}
use Rattle.simulator.specs.Edit.{Way}
use Rattle.simulator.specs.Calls.{Rounds, Edits, Runs}
use Rattle.simulator.specs.Ordered.{RoundsOrdered}
use Rattle.questions.specs.Questions.{whether_gives, AsksCalm, AsksSatisfied, index_gives, AsksIndex, value_gives, AsksValue, AsksSources, AsksTargets}
use Rattle.look.specs.declared.Looked.{Looked}
use Rattle.look.specs.Look.{Looks}
use Rattle.words.specs.Words.{counts_in}
use Rattle.words.specs.Said.{CallChanges}
use Rattle.changing.specs.Changing.{CallMoves, CallRuns}
use Rattle.asking.specs.Asking.{CallAsks, CallLists}
use Rattle.host.specs.Host.{CallEvaluates, CallLooks, CallMends}
use Rattle.determinacy.specs.Determined.{Determined}
use Rattle.std.specs.Prelude.{Result}
use Rattle.kinds.specs.declared.answers.Refusal.{Refusal}

module _ (few : Bool) (ws fs : List ℕ) (lent : Counts → Tables) where
  -- A call that changes the tables by the engine's promise P.
  abbrev pub ChangesDetermined : (Tables → Result Counts Refusal → Tables → Type 0) → Type 0
  ChangesDetermined P =
      (r s : ℕ) (a b : List ℕ) (f g : Counts → Tables) → CallChanges P few ws a lent f r → CallChanges P few ws b lent g s
      → (r ≡ s) × (a ≡ b) × (f (counts_in a) ≡ g (counts_in b))

  -- A round by the promise P, which is lent the bits bs.
  abbrev pub MovesDetermined : (List ℕ → Tables → Result Counts Refusal → Tables → Type 0) → List ℕ → Type 0
  MovesDetermined P bs =
      (r s : ℕ) (a b c d : List ℕ) (f g : Counts → Tables) → CallMoves (P c) few ws a bs c lent f r → CallMoves (P d) few ws b bs d lent g s
      → (r ≡ s) × (a ≡ b) × (c ≡ d) × (f (counts_in a) ≡ g (counts_in b))

  -- A question by the promise P, with its words.
  abbrev pub AsksDetermined : {A : Type 0} → (A → Given) → (Tables → A → Type 0) → Type 0
  AsksDetermined gives P = Determined (λ (r : ℕ) (c : List ℕ). CallAsks gives P few ws fs c lent r)

  -- A question by the promise P that lays a list.
  abbrev pub ListsDetermined : (Tables → List ℕ → Result ℕ Refusal → List ℕ → Type 0) → Type 0
  ListsDetermined P =
      (ls : List ℕ) → Determined (λ (r : ℕ) (c : List ℕ × List ℕ). CallLists P few ws ls c.0 fs c.1 lent r)

  -- A look by the promise P.
  abbrev pub LooksDetermined : (Tables → List ℕ → List ℕ → Result Looked Refusal → List ℕ → List ℕ → Type 0) → Type 0
  LooksDetermined P =
      (ns wd : List ℕ) → Determined (λ (r : ℕ) (c : List ℕ × List ℕ × List ℕ). CallLooks P few ws ns c.0 wd c.1 fs c.2 lent r)

  -- Every call on tables, in the order of the header: load, round, round in an order, the two edits, run until calm, then the questions.
  abbrev pub HostDeterminacy : Type 0
  HostDeterminacy =
      ((file : List ℕ) → ChangesDetermined (Loads file))
      × ((t : ℕ) (bs : List ℕ) → MovesDetermined (λ bs' T r U. Rounds t bs T r U bs') bs)
      × ((t : ℕ) (order bs : List ℕ) → MovesDetermined (λ bs' T r U. RoundsOrdered t order bs T r U bs') bs)
      × ((way : Way) (i v : ℕ) → ChangesDetermined (Edits way i v))
      × ((t limit r s : ℕ) (a b c d : List ℕ) (f g : Counts → Tables) → CallRuns (Runs t limit) few ws a fs c lent f r
      → CallRuns (Runs t limit) few ws b fs d lent g s → (r ≡ s) × (a ≡ b) × (c ≡ d) × (f (counts_in a) ≡ g (counts_in b)))
      × AsksDetermined whether_gives AsksCalm
      × AsksDetermined whether_gives AsksSatisfied
      × ((id : ℕ) → AsksDetermined index_gives (λ T. AsksIndex T id))
      × ((side : Side) (i port : ℕ) → AsksDetermined value_gives (λ T. AsksValue T side i port))
      × ((i : ℕ) → ListsDetermined (λ T. AsksSources T i))
      × ((i : ℕ) → ListsDetermined (λ T. AsksTargets T i))
      × AsksDetermined (λ v. verdict_gives v []) Checks
      × ((f : Fields) (xs vs ys us : List ℕ) (t : ℕ)
      → Determined (λ (r : ℕ) (c : List ℕ × List ℕ). CallEvaluates f xs vs ys us t fs r c.0 c.1))
      × ((file path : List ℕ) → LooksDetermined (λ T. Looks file T path))
      × ((file out ds : List ℕ) → Determined (λ (r : ℕ) (c : List ℕ × List ℕ × List ℕ). CallMends file out c.0 ds c.1 fs c.2 r))
