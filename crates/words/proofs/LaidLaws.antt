-- An answer whose value is made words of gives what the answer gives.
-- Assumes nothing.
use mathlib.Core.Path.{◌≡◌, sym, ap, ◌∙◌}
use mathlib.Core.List.{List}
use Prim.Native.Nat.{ℕ}
use Rattle.std.specs.Prelude.{Result, Ok, Err, MatchResult, IsOkAnd}
use Rattle.kinds.specs.declared.answers.Refusal.{Refusal}
use Rattle.lists.specs.Lists.{overlay}
use Rattle.kinds.specs.Given.{Given, done, declined}
use Rattle.words.specs.Words.{words_give, values_in}

-- `gives` says what the answer gives: `words` of its value, or the refusal.
module _ {A : Type 0} (gives : Result A Refusal → Given) (words : A → List ℕ)
    (of_done : (x : A) → gives (Ok x) ≡ done (words x)) (of_refused : (r : Refusal) → gives (Err r) ≡ declined r) where
  pub same_given : (a : Result A Refusal) (m : Result (List ℕ) Refusal)
      → MatchResult a (λ x. IsOkAnd m (λ ws. ws ≡ words x)) (λ r. m ≡ Err r) → words_give m ≡ gives a
  same_given (Ok x) (Ok ws) h = ap (λ (xs : List ℕ). done xs) h ∙ sym (of_done x)
  same_given (Ok x) (Err r) h = absurd h
  same_given (Err r) m h = ap words_give h ∙ sym (of_refused r)

-- Words that are laid of one are laid of the other.
pub laid_as : {g h : Given} (fs : List ℕ) {fs' : List ℕ} → g ≡ h → fs' ≡ overlay (values_in g) fs → fs' ≡ overlay (values_in h) fs
laid_as fs e l = l ∙ ap (λ (k : Given). overlay (values_in k) fs) e
