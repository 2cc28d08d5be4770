-- Determinacy of the calls from C: too few words decide everything; else the engine's answer is determined, and what is said and laid is a function of it.
-- Assumes nothing.
use mathlib.Core.Path.{◌≡◌, sym, ap, ◌∙◌}
use mathlib.Core.Bool.{Bool, true, false, ◌&&◌, true≢false}
use mathlib.Core.List.{List, []}
use Prim.Native.Nat.{ℕ}
use lib.ListN.{take, drop}
use Rattle.lists.specs.Lists.{within, overlay}
use Rattle.component.specs.Record.{record_count}
use Rattle.kinds.specs.declared.table.Fields.{Fields}
use Rattle.kinds.specs.Given.{Given, Verdict, verdict_gives, spoken}
use Rattle.primitive.specs.Evaluate.{evaluated_gives}
use Rattle.tables.specs.declared.Counts.{Counts}
use Rattle.tables.specs.Tables.{Tables, answer_gives}
use Rattle.simulator.specs.declared.Ran.{Ran}
use Rattle.simulator.specs.Calls.{ran_gives, Runs}
use Rattle.questions.specs.Questions.{whether_gives, index_gives, value_gives, list_gives}
use Rattle.look.specs.declared.Looked.{Looked}
use Rattle.look.specs.Look.{look_gives}
use Rattle.words.specs.Words.{counts_in, values_in}
use Rattle.words.specs.Said.{short, CallChanges, few_counts, changed}
use Rattle.changing.specs.Changing.{CallRuns, few_to_run, ran}
use Rattle.asking.specs.Asking.{few_to_ask, asked, few_to_list, listed}
use Rattle.mend.specs.declared.Mended.{Mended}
use Rattle.mend.specs.Mend.{mend_gives}
use Rattle.host.specs.Host.{CallEvaluates, few_to_evaluate, evaluated, few_to_look, looked, CallMends, few_to_mend, mended_by}
use Rattle.determinacy.specs.Determined.{Determined, DeterminedAnswer}
use Rattle.determinacy.specs.HostDetermined.{ChangesDetermined, MovesDetermined, AsksDetermined, ListsDetermined, LooksDetermined, HostDeterminacy}
use Rattle.determinacy.proofs.Determinacy.{determinacy}
use Rattle.std.specs.Prelude.{Result}
use Rattle.kinds.specs.declared.answers.Refusal.{Refusal}

-- No call is lent both too few words and enough.
neither : {A : Type 0} (b : Bool) → b ≡ true → b ≡ false → A
neither b e f = absurd (true≢false (sym e ∙ f))

module _ (few : Bool) (ws fs : List ℕ) (lent : Counts → Tables) where
  -- The tables of two calls that both leave them, with unchanged count words.
  same_left : (a b : List ℕ) (f g : Counts → Tables) → a ≡ ws → b ≡ ws → f (counts_in ws) ≡ lent (counts_in ws)
      → g (counts_in ws) ≡ lent (counts_in ws) → f (counts_in a) ≡ g (counts_in b)
  same_left a b f g w v l m =
      ap (λ (x : List ℕ). f (counts_in x)) w ∙ l ∙ sym m ∙ sym (ap (λ (x : List ℕ). g (counts_in x)) v)

  changes : (P : Tables → Result Counts Refusal → Tables → Type 0) → ((T : Tables) → Determined (P T)) → ChangesDetermined few ws fs lent P
  changes P det r s a b f g (few_counts e n w l) (few_counts e' n' w' l') =
      (n ∙ sym n', w ∙ sym w', same_left a b f g w w' l l')
  changes P det r s a b f g (few_counts e n w l) (changed x e' p' n' w') = neither few e e'
  changes P det r s a b f g (changed x e p n w) (few_counts e' n' w' l') = neither few e' e
  changes P det r s a b f g (changed x e p n w) (changed y e' p' n' w') =
      let d = det (lent (counts_in ws)) x y (f (counts_in a)) (g (counts_in b)) p p' in (
        n ∙ ap (λ (z : Result Counts Refusal). spoken (answer_gives z)) d.0 ∙ sym n',
        w ∙ ap (λ (z : Result Counts Refusal). overlay (values_in (answer_gives z)) ws) d.0 ∙ sym w',
        d.1,
      )

  moves : (P : List ℕ → Tables → Result Counts Refusal → Tables → Type 0) (bs : List ℕ)
      → ((T : Tables) → Determined (λ (r : Result Counts Refusal) (u : Tables × List ℕ). P u.1 T r u.0)) → MovesDetermined few ws fs lent P bs
  moves P bs det r s a b c d f g p q = by_call p.0 q.0
    where
      by_call : CallChanges (P c) few ws a lent f r → CallChanges (P d) few ws b lent g s
          → (r ≡ s) × (a ≡ b) × (c ≡ d) × (f (counts_in a) ≡ g (counts_in b))
      by_call (few_counts e n w l) (few_counts e' n' w' l') =
          (n ∙ sym n', w ∙ sym w', p.1 e ∙ sym (q.1 e'), same_left a b f g w w' l l')
      by_call (few_counts e n w l) (changed x e' p' n' w') = neither few e e'
      by_call (changed x e p' n w) (few_counts e' n' w' l') = neither few e' e
      by_call (changed x e o n w) (changed y e' o' n' w') =
          let z = det (lent (counts_in ws)) x y (f (counts_in a), c) (g (counts_in b), d) o o' in
          let left = z.1 in (
            n ∙ ap (λ (v : Result Counts Refusal). spoken (answer_gives v)) z.0 ∙ sym n',
            w ∙ ap (λ (v : Result Counts Refusal). overlay (values_in (answer_gives v)) ws) z.0 ∙ sym w',
            λ i. (left i).1,
            λ i. (left i).0,
          )

  runs : (P : Tables → Result (Ran Counts) Refusal → Tables → Type 0) → ((T : Tables) → Determined (P T)) → (r s : ℕ) (a b c d : List ℕ) (f g : Counts → Tables)
      → CallRuns P few ws a fs c lent f r → CallRuns P few ws b fs d lent g s
      → (r ≡ s) × (a ≡ b) × (c ≡ d) × (f (counts_in a) ≡ g (counts_in b))
  runs P det r s a b c d f g (few_to_run e n w u l) (few_to_run e' n' w' u' l') =
      (n ∙ sym n', w ∙ sym w', u ∙ sym u', same_left a b f g w w' l l')
  runs P det r s a b c d f g (few_to_run e n w u l) (ran x e' p' n' w' u') = neither few e e'
  runs P det r s a b c d f g (ran x e p n w u) (few_to_run e' n' w' u' l') = neither few e' e
  runs P det r s a b c d f g (ran x e p n w u) (ran y e' p' n' w' u') =
      let q = det (lent (counts_in ws)) x y (f (counts_in a)) (g (counts_in b)) p p' in (
        n ∙ ap (λ (z : Result (Ran Counts) Refusal). spoken (ran_gives z)) q.0 ∙ sym n',
        w ∙ ap (λ (z : Result (Ran Counts) Refusal). overlay (drop 3 (values_in (ran_gives z))) ws) q.0 ∙ sym w',
        u ∙ ap (λ (z : Result (Ran Counts) Refusal). overlay (take 3 (values_in (ran_gives z))) fs) q.0 ∙ sym u',
        q.1,
      )

  asks : {A : Type 0} (gives : A → Given) (P : Tables → A → Type 0) → ((T : Tables) → DeterminedAnswer (P T)) → AsksDetermined few ws fs lent gives P
  asks gives P det r s c d (few_to_ask e n u) (few_to_ask e' n' u') = (n ∙ sym n', u ∙ sym u')
  asks gives P det r s c d (few_to_ask e n u) (asked x e' p' n' u') = neither few e e'
  asks gives P det r s c d (asked x e p n u) (few_to_ask e' n' u') = neither few e' e
  asks {A} gives P det r s c d (asked x e p n u) (asked y e' p' n' u') =
      let q = det (lent (counts_in ws)) x y p p' in (
        n ∙ ap (λ (z : A). spoken (gives z)) q ∙ sym n',
        u ∙ ap (λ (z : A). overlay (values_in (gives z)) fs) q ∙ sym u',
      )

  lists : (P : Tables → List ℕ → Result ℕ Refusal → List ℕ → Type 0) → ((T : Tables) (ls : List ℕ) → Determined (P T ls)) → ListsDetermined few ws fs lent P
  lists P det ls r s c d (few_to_list e n l u) (few_to_list e' n' l' u') =
      let m = l ∙ sym l' in
      let v = u ∙ sym u' in (n ∙ sym n', λ i. (m i, v i))
  lists P det ls r s c d (few_to_list e n l u) (listed x e' p' n' u') = neither few e e'
  lists P det ls r s c d (listed x e p n u) (few_to_list e' n' l' u') = neither few e' e
  lists P det ls r s c d (listed x e p n u) (listed y e' p' n' u') =
      let q = det (lent (counts_in ws)) ls x y c.0 d.0 p p' in
      let m = q.1 in
      let v = u ∙ ap (λ (z : Result ℕ Refusal). overlay (values_in (list_gives z)) fs) q.0 ∙ sym u' in (
        n ∙ ap (λ (z : Result ℕ Refusal). spoken (list_gives z)) q.0 ∙ sym n',
        λ i. (m i, v i),
      )

  looks : (P : Tables → List ℕ → List ℕ → Result Looked Refusal → List ℕ → List ℕ → Type 0)
      → ((T : Tables) (ns wd : List ℕ) → Determined (λ (a : Result Looked Refusal) (b : List ℕ × List ℕ). P T ns wd a b.0 b.1)) → LooksDetermined few ws fs lent P
  looks P det ns wd r s c d (few_to_look e n k w u) (few_to_look e' n' k' w' u') =
      let l = k ∙ sym k' in
      let m = w ∙ sym w' in
      let v = u ∙ sym u' in (n ∙ sym n', λ i. (l i, m i, v i))
  looks P det ns wd r s c d (few_to_look e n k w u) (looked x e' p' n' u') = neither few e e'
  looks P det ns wd r s c d (looked x e p n u) (few_to_look e' n' k' w' u') = neither few e' e
  looks P det ns wd r s c d (looked x e p n u) (looked y e' p' n' u') =
      let q = det (lent (counts_in ws)) ns wd x y (c.0, c.1) (d.0, d.1) p p' in
      let b = q.1 in
      let v = u ∙ ap (λ (z : Result Looked Refusal). overlay (values_in (look_gives z)) fs) q.0 ∙ sym u' in (
        n ∙ ap (λ (z : Result Looked Refusal). spoken (look_gives z)) q.0 ∙ sym n',
        λ i. ((b i).0, (b i).1, v i),
      )

  mends : (file out ds : List ℕ) → Determined (λ (r : ℕ) (c : List ℕ × List ℕ × List ℕ). CallMends file out c.0 ds c.1 fs c.2 r)
  mends file out ds r s c d (few_to_mend e n k w u) (few_to_mend e' n' k' w' u') =
      let l = k ∙ sym k' in
      let m = w ∙ sym w' in
      let v = u ∙ sym u' in (n ∙ sym n', λ i. (l i, m i, v i))
  mends file out ds r s c d (few_to_mend e n k w u) (mended_by x e' p' n' u') = neither (within 1 1024 (record_count file) && short fs 2) e e'
  mends file out ds r s c d (mended_by x e p n u) (few_to_mend e' n' k' w' u') = neither (within 1 1024 (record_count file) && short fs 2) e' e
  mends file out ds r s c d (mended_by x e p n u) (mended_by y e' p' n' u') =
      let q = determinacy.9 file out ds x y (c.0, c.1) (d.0, d.1) p p' in
      let b = q.1 in
      let v = u ∙ ap (λ (z : Result Mended Refusal). overlay (values_in (mend_gives z)) fs) q.0 ∙ sym u' in (
        n ∙ ap (λ (z : Result Mended Refusal). spoken (mend_gives z)) q.0 ∙ sym n',
        λ i. ((b i).0, (b i).1, v i),
      )

  evaluates : (f : Fields) (xs vs ys us : List ℕ) (t : ℕ)
      → Determined (λ (r : ℕ) (c : List ℕ × List ℕ). CallEvaluates f xs vs ys us t fs r c.0 c.1)
  evaluates f xs vs ys us t r s c d (few_to_evaluate e n w u) (few_to_evaluate e' n' w' u') =
      let l = w ∙ sym w' in
      let v = u ∙ sym u' in (n ∙ sym n', λ i. (l i, v i))
  evaluates f xs vs ys us t r s c d (few_to_evaluate e n w u) (evaluated x e' p' n' u') = neither (short fs 1) e e'
  evaluates f xs vs ys us t r s c d (evaluated x e p n u) (few_to_evaluate e' n' w' u') = neither (short fs 1) e' e
  evaluates f xs vs ys us t r s c d (evaluated x e p n u) (evaluated y e' p' n' u') =
      let q = determinacy.0 f xs vs ys us t x y c.0 d.0 p p' in
      let b = q.1 in
      let v = u ∙ ap (λ (z : Result ℕ Refusal). overlay (values_in (evaluated_gives z)) fs) q.0 ∙ sym u' in (
        n ∙ ap (λ (z : Result ℕ Refusal). spoken (evaluated_gives z)) q.0 ∙ sym n',
        λ i. (b i, v i),
      )

  -- Of the engine's calls: evaluate 0, load 1, round 2, round in an order 3, edit 4, run 5, sources 6, targets 7, look 8, mend 9, check 13, calm 14,
  -- satisfied 15, index 16, value 17.
  pub host_determinacy : HostDeterminacy few ws fs lent
  host_determinacy = (
    λ file. changes _ (determinacy.1 file),
    λ t bs. moves _ bs (determinacy.2 t bs),
    λ t order bs. moves _ bs (determinacy.3 t order bs),
    λ way i v. changes _ (determinacy.4 way i v),
    λ t limit. runs (Runs t limit) (determinacy.5 t limit),
    asks whether_gives _ determinacy.14,
    asks whether_gives _ determinacy.15,
    λ id. asks index_gives _ (λ T. determinacy.16 T id),
    λ side i port. asks value_gives _ (λ T. determinacy.17 T side i port),
    λ i. lists _ (λ T ls. determinacy.6 T i ls),
    λ i. lists _ (λ T ls. determinacy.7 T i ls),
    asks (λ (v : Verdict). verdict_gives v []) _ determinacy.13,
    evaluates,
    λ file path. looks _ (λ T. determinacy.8 file T path),
    mends,
  )
