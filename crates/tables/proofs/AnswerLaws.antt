-- Answers that give the same are the same; and what `Changes` allows is one answer and one set of tables.
-- Assumes nothing.
use mathlib.Core.Path.{◌≡◌, sym, ap, ◌∙◌}
use mathlib.Core.List.{List}
use Prim.Native.Nat.{ℕ}
use lib.ListN.{get_or}
use Rattle.kinds.specs.Given.{Given}
use Rattle.kinds.proofs.GivenLaws.{done_values, done_declined, declined_refusal}
use Rattle.tables.specs.declared.Counts.{Counts}
use Rattle.tables.specs.Tables.{Tables, count_words, answer_gives, Changes}
use Rattle.std.specs.Prelude.{Result, Ok, Err}
use Rattle.kinds.specs.declared.answers.Refusal.{Refusal}

-- The counts whose values are these.
abbrev counted : List ℕ → Counts
counted xs =
    record {
      components = get_or xs 0 0;
      inputs = get_or xs 1 0;
      outputs = get_or xs 2 0;
      wires = get_or xs 3 0;
      current = get_or xs 4 0;
      following = get_or xs 5 0;
      standing = get_or xs 6 0;
    }

pub count_words-is : (m k : Counts) → count_words m ≡ count_words k → m ≡ k
count_words-is m k e = ap counted e

pub answer_gives-is : (a b : Result Counts Refusal) → answer_gives a ≡ answer_gives b → a ≡ b
answer_gives-is (Ok m) (Ok k) e = ap Ok (count_words-is m k (done_values (count_words m) (count_words k) e))
answer_gives-is (Ok m) (Err r) e = absurd (done_declined (count_words m) r e)
answer_gives-is (Err r) (Ok m) e = absurd (done_declined (count_words m) r (sym e))
answer_gives-is (Err r) (Err s) e = ap Err (declined_refusal r s e)

-- Any two outcomes that the promise of a call allows are equal.
pub changes_determined : {A : Type 0} (gives : A → Given) → ((a b : A) → gives a ≡ gives b → a ≡ b) → (given : List ℕ → Given) (new : Tables)
    → (a a' : A) (b b' : Tables) → Changes gives given new a b → Changes gives given new a' b' → (a ≡ a') × (b ≡ b')
changes_determined gives is given new a a' b b' p q =
    let e = p.1 ∙ sym q.1 in
    (is a a' (p.0 ∙ ap (λ (T : Tables). given (count_words T.counts)) e ∙ sym q.0), e)
