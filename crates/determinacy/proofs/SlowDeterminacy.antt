-- Determinacy of the slow engine's calls, and of those from C: too few words decide everything; else the engine's answer is determined, and what is
-- said and laid is a function of it.
-- Assumes nothing.
use mathlib.Core.Path.{◌≡◌, sym, ap, ◌∙◌}
use mathlib.Core.Bool.{Bool, true, false, true≢false}
use mathlib.Core.List.{List, ◌∷◌}
use Prim.Native.Nat.{ℕ}
use lib.ListN.{take, drop}
use Rattle.lists.specs.Lists.{overlay}
use Rattle.kinds.specs.Given.{spoken, verdict_gives}
use Rattle.words.specs.Words.{values_in}
use Rattle.slow.specs.declared.SlowCounts.{SlowCounts}
use Rattle.simulator.specs.declared.Ran.{Ran}
use Rattle.slow.specs.Slow.{SlowTables, slow_words, slow_gives, slow_ran_gives, slow_load_verdict, slow_round_verdict, slow_edit_verdict, slow_run_verdict, slow_run, SlowRounds}
use Rattle.slow.proofs.AnswersLaws.{slow_gives-is, slow_ran_gives-is}
use Rattle.slowly.specs.Slowly.{slow_counts_in, few_slow, CallSlow, few_slow_counts, slow_changed, CallSlowRuns, few_to_run_slowly, ran_slowly}
use Rattle.determinacy.specs.Determined.{Determined}
use Rattle.determinacy.specs.SlowDetermined.{SlowDeterminacy, SlowChangesDetermined, SlowlyDeterminacy}
use Rattle.determinacy.proofs.Determinacy.{outcome}
use Rattle.std.specs.Prelude.{Result}
use Rattle.kinds.specs.declared.answers.Refusal.{Refusal}

-- The engine's.
pub slow_determinacy : SlowDeterminacy
slow_determinacy = (
  λ file S. outcome slow_gives slow_gives-is (λ (L : SlowTables). verdict_gives (slow_load_verdict file S) (slow_words L.counts)) _,
  λ file t bits S a a' b b' p q.
      let d = outcome slow_gives slow_gives-is (λ (L : SlowTables). verdict_gives (slow_round_verdict file S bits) (slow_words L.counts)) _
      a a' b.0 b'.0 (p.0, p.1) (q.0, q.1) in
      let left = d.1 in
      let moved = p.2 ∙ sym q.2 in
      (d.0, λ i. (left i, moved i)),
  λ file way i v S. outcome slow_gives slow_gives-is (λ (L : SlowTables). verdict_gives (slow_edit_verdict file S i v) (slow_words L.counts)) _,
  λ file t limit S.
      let made = slow_run file S t limit in
      outcome slow_ran_gives slow_ran_gives-is
      (λ (L : SlowTables). verdict_gives (slow_run_verdict file S) (made.rounds ∷ made.evaluations ∷ made.moved ∷ slow_words L.counts)) _,
)

-- No call is lent both too few words and enough.
neither : {A : Type 0} (b : Bool) → b ≡ true → b ≡ false → A
neither b e f = absurd (true≢false (sym e ∙ f))

module _ (few : Bool) (ws fs : List ℕ) (lent : SlowCounts → SlowTables) where
  -- The tables of two calls that both leave them, with unchanged count words.
  same_left : (a b : List ℕ) (f g : SlowCounts → SlowTables) → a ≡ ws → b ≡ ws → f (slow_counts_in ws) ≡ lent (slow_counts_in ws)
      → g (slow_counts_in ws) ≡ lent (slow_counts_in ws) → f (slow_counts_in a) ≡ g (slow_counts_in b)
  same_left a b f g w v l m =
      ap (λ (x : List ℕ). f (slow_counts_in x)) w ∙ l ∙ sym m ∙ sym (ap (λ (x : List ℕ). g (slow_counts_in x)) v)

  changes : (P : SlowTables → Result SlowCounts Refusal → SlowTables → Type 0) → ((S : SlowTables) → Determined (P S)) → SlowChangesDetermined few ws fs lent P
  changes P det r s a b f g (few_slow_counts e n w l) (few_slow_counts e' n' w' l') =
      (n ∙ sym n', w ∙ sym w', same_left a b f g w w' l l')
  changes P det r s a b f g (few_slow_counts e n w l) (slow_changed x e' p' n' w') = neither few e e'
  changes P det r s a b f g (slow_changed x e p n w) (few_slow_counts e' n' w' l') = neither few e' e
  changes P det r s a b f g (slow_changed x e p n w) (slow_changed y e' p' n' w') =
      let d = det (lent (slow_counts_in ws)) x y (f (slow_counts_in a)) (g (slow_counts_in b)) p p' in (
        n ∙ ap (λ (z : Result SlowCounts Refusal). spoken (slow_gives z)) d.0 ∙ sym n',
        w ∙ ap (λ (z : Result SlowCounts Refusal). overlay (values_in (slow_gives z)) ws) d.0 ∙ sym w',
        d.1,
      )

  rounds : (file bs : List ℕ) (t r s : ℕ) (a b c d : List ℕ) (f g : SlowCounts → SlowTables)
      → CallSlow (λ S x U. SlowRounds file t bs S x U c) (few_slow file ws) ws a lent f r
      → CallSlow (λ S x U. SlowRounds file t bs S x U d) (few_slow file ws) ws b lent g s
      → (few_slow file ws ≡ true → c ≡ bs) → (few_slow file ws ≡ true → d ≡ bs)
      → (r ≡ s) × (a ≡ b) × (c ≡ d) × (f (slow_counts_in a) ≡ g (slow_counts_in b))
  rounds file bs t r s a b c d f g (few_slow_counts e n w l) (few_slow_counts e' n' w' l') k k' =
      (n ∙ sym n', w ∙ sym w', k e ∙ sym (k' e'), same_left a b f g w w' l l')
  rounds file bs t r s a b c d f g (few_slow_counts e n w l) (slow_changed x e' p' n' w') k k' = neither (few_slow file ws) e e'
  rounds file bs t r s a b c d f g (slow_changed x e p n w) (few_slow_counts e' n' w' l') k k' = neither (few_slow file ws) e' e
  rounds file bs t r s a b c d f g (slow_changed x e o n w) (slow_changed y e' o' n' w') k k' =
      let z = slow_determinacy.1 file t bs (lent (slow_counts_in ws)) x y (f (slow_counts_in a), c) (g (slow_counts_in b), d) o o' in
      let left = z.1 in (
        n ∙ ap (λ (v : Result SlowCounts Refusal). spoken (slow_gives v)) z.0 ∙ sym n',
        w ∙ ap (λ (v : Result SlowCounts Refusal). overlay (values_in (slow_gives v)) ws) z.0 ∙ sym w',
        λ i. (left i).1,
        λ i. (left i).0,
      )

  runs : (P : SlowTables → Result (Ran SlowCounts) Refusal → SlowTables → Type 0) → ((S : SlowTables) → Determined (P S)) → (r s : ℕ) (a b c d : List ℕ)
      (f g : SlowCounts → SlowTables) → CallSlowRuns P few ws a fs c lent f r → CallSlowRuns P few ws b fs d lent g s
      → (r ≡ s) × (a ≡ b) × (c ≡ d) × (f (slow_counts_in a) ≡ g (slow_counts_in b))
  runs P det r s a b c d f g (few_to_run_slowly e n w u l) (few_to_run_slowly e' n' w' u' l') =
      (n ∙ sym n', w ∙ sym w', u ∙ sym u', same_left a b f g w w' l l')
  runs P det r s a b c d f g (few_to_run_slowly e n w u l) (ran_slowly x e' p' n' w' u') = neither few e e'
  runs P det r s a b c d f g (ran_slowly x e p n w u) (few_to_run_slowly e' n' w' u' l') = neither few e' e
  runs P det r s a b c d f g (ran_slowly x e p n w u) (ran_slowly y e' p' n' w' u') =
      let q = det (lent (slow_counts_in ws)) x y (f (slow_counts_in a)) (g (slow_counts_in b)) p p' in (
        n ∙ ap (λ (z : Result (Ran SlowCounts) Refusal). spoken (slow_ran_gives z)) q.0 ∙ sym n',
        w ∙ ap (λ (z : Result (Ran SlowCounts) Refusal). overlay (drop 3 (values_in (slow_ran_gives z))) ws) q.0 ∙ sym w',
        u ∙ ap (λ (z : Result (Ran SlowCounts) Refusal). overlay (take 3 (values_in (slow_ran_gives z))) fs) q.0 ∙ sym u',
        q.1,
      )

  -- Those from C.
  pub slowly_determinacy : SlowlyDeterminacy few ws fs lent
  slowly_determinacy = (
    λ file. changes _ (slow_determinacy.0 file),
    λ file bs t r s a b c d f g p q. rounds file bs t r s a b c d f g p.0 q.0 p.1 q.1,
    λ file way i v. changes _ (slow_determinacy.2 file way i v),
    λ file t limit. runs _ (slow_determinacy.3 file t limit),
  )
