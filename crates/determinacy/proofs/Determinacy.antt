-- Determinacy: any two outcomes that one contract allows are equal, answer and all that was lent to be written. What was written is an equation; the
-- answer gives what is written and the number say; and answers that give the same are the same. Assumes nothing.
use mathlib.Core.Path.{◌≡◌, sym, ap, ◌∙◌}
use mathlib.Core.List.{List, [], ◌∷◌}
use Prim.Native.Nat.{ℕ}
use lib.ListN.{length, take}
use Rattle.kinds.specs.Given.{Given, giving, verdict_gives}
use Rattle.primitive.specs.Evaluate.{moved_outputs, evaluate_number, evaluated_gives}
use Rattle.primitive.proofs.EvaluateLaws.{evaluated_gives-is}
use Rattle.meeting.proofs.MeetingLaws.{judges_judgement}
use Rattle.tables.specs.Tables.{Tables, answer_gives, Changes, sources, targets}
use Rattle.tables.proofs.AnswerLaws.{answer_gives-is, changes_determined}
use Rattle.load.specs.Load.{load_verdict}
use Rattle.net.specs.Net.{net_number}
use Rattle.simulator.specs.Calls.{round_number, edit_number, run, ran_gives}
use Rattle.simulator.specs.Ordered.{ordered_number}
use Rattle.questions.specs.Questions.{whether_gives, index_gives, value_gives, list_number, list_gives}
use Rattle.simulator.proofs.AnswersLaws.{ran_gives-is}
use Rattle.questions.proofs.AnswersLaws.{whether_gives-is, index_gives_is, value_gives-is, list_gives-is}
use Rattle.look.proofs.AnswerLaws.{look_gives-is}
use Rattle.mend.proofs.AnswerLaws.{mend_gives-is}
use Rattle.determinacy.specs.Determined.{Determinacy, Determined, DeterminedAnswer}
use Rattle.std.specs.Prelude.{Result}
use Rattle.tables.specs.declared.Counts.{Counts}
use Rattle.kinds.specs.declared.answers.Refusal.{Refusal}

-- What was written is `new`, and the answer gives what `said` says of it.
module _ {A : Type 0} (gives : A → Given) (is : (a b : A) → gives a ≡ gives b → a ≡ b) where
  pub outcome : {B : Type 0} (said : B → Given) (new : B) → Determined (λ (a : A) (b : B). (gives a ≡ said b) × (b ≡ new))
  outcome said new a a' b b' p q =
      let e = p.1 ∙ sym q.1 in
      (is a a' (p.0 ∙ ap said e ∙ sym q.0), e)

  answer : (g : Given) → DeterminedAnswer (λ (a : A). gives a ≡ g)
  answer g a a' p q = is a a' (p ∙ sym q)

equation : {A : Type 0} (x : A) → DeterminedAnswer (λ (a : A). a ≡ x)
equation x a a' p q = p ∙ sym q

-- A call of number k that leaves the tables `new` and the bits `told`.
moves : (k : ℕ) (new : Tables) (told : List ℕ)
    → Determined (λ (r : Result Counts Refusal) (b : Tables × List ℕ). Changes answer_gives (giving k) new r b.0 × (b.1 ≡ told))
moves k new told a a' b b' p q =
    let d = changes_determined answer_gives answer_gives-is (giving k) new a a' b.0 b'.0 p.0 q.0 in
    let left = d.1 in
    let moved = p.1 ∙ sym q.1 in
    (d.0, λ i. (left i, moved i))

-- For evaluating one component, a load, a round, one in an order, an edit of either way, a run until calm, and the questions, looks and mendings that write
-- lent lists; then for judging, also as the host's two calls, check 16, calm, satisfied, the index of an id, a port's value, and a value's methods.
pub determinacy : Determinacy
determinacy = (
  λ f xs vs ys ws t. outcome evaluated_gives evaluated_gives-is
      (λ zs. giving (evaluate_number f xs vs ys ws) (moved_outputs f (take f.inputs xs) (take f.outputs ys) t ∷ [])) _,
  λ file T. changes_determined answer_gives answer_gives-is (verdict_gives (load_verdict file T)) _,
  λ t bits T. moves (round_number T bits) _ _,
  λ t order bits T. moves (ordered_number T order bits) _ _,
  λ way i v T. changes_determined answer_gives answer_gives-is (giving (edit_number T i v)) _,
  λ t limit T. changes_determined ran_gives ran_gives-is
      (λ counts. giving (net_number T) ((run limit t T).rounds ∷ (run limit t T).evaluations ∷ (run limit t T).moved ∷ counts)) _,
  λ T i lent. outcome list_gives list_gives-is (λ zs. giving (list_number T i lent) (length (sources T i) ∷ [])) _,
  λ T i lent. outcome list_gives list_gives-is (λ zs. giving (list_number T i lent) (length (targets T i) ∷ [])) _,
  λ file T path ns ws a a' b b' p q.
      let n = p.1 ∙ sym q.1 in
      let w = p.2 ∙ sym q.2 in
      (look_gives-is a a' (p.0 ∙ sym q.0), λ i. (n i, w i)),
  λ file out list a a' b b' p q.
      let o = p.1 ∙ sym q.1 in
      let l = p.2 ∙ sym q.2 in
      (mend_gives-is a a' (p.0 ∙ sym q.0), λ i. (o i, l i)),
  λ file r r' p q. judges_judgement file r p ∙ sym (judges_judgement file r' q),
  λ file. equation _,
  λ file. equation _,
  λ T. equation _,
  λ T. answer whether_gives whether_gives-is _,
  λ T. answer whether_gives whether_gives-is _,
  λ T id. answer index_gives index_gives_is _,
  λ T side i port. answer value_gives value_gives-is _,
  λ v. equation _,
  λ f. equation _,
)
