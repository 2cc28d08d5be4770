-- Laws of a loop over the records of a file that makes one test T of each: the laws of ListsLaws over positions, in the
-- form in which such a loop has its facts: t says whether T holds of the record at q.
-- Not here: the laws over positions (ListsLaws).
-- Assumes nothing.
use mathlib.Core.Path.{◌≡◌, sym, ◌∙◌}
use mathlib.Core.Bool.{Bool, true, false}
use mathlib.Core.List.{List}
use Prim.Native.Nat.{ℕ, ◌+◌, ◌-◌, ◌≤◌, ◌<◌}
use lib.ListN.{get_or}
use Rattle.lists.specs.Lists.{from, keep}
use Rattle.lists.proofs.ListsLaws.{kth_here, kth_counts, kth_next, kth_none}
use Rattle.component.specs.declared.Record.{Record}
use Rattle.component.specs.Record.{record_at}

-- The test, of the record at a position.
abbrev pub tested : List ℕ → (Record → Bool) → ℕ → Bool
tested s T q = T (record_at s q)

module _ (s : List ℕ) (T : Record → Bool) (q n : ℕ) where
  -- the kth that passes: this one; this one counts; it does not; there is none
  pub scan_kth_here : (t : Bool) (k d x : ℕ) → get_or (keep (tested s T) (from q (n - q))) k d ≡ x → q < n
      → t ≡ T (record_at s q) → t ≡ true → k ≡ 0 → q ≡ x
  scan_kth_here t k d x i h f g z = kth_here (tested s T) q n k d x i h (sym f ∙ g) z

  pub scan_kth_counts : (t : Bool) (k d x : ℕ) → get_or (keep (tested s T) (from q (n - q))) k d ≡ x → q < n
      → t ≡ T (record_at s q) → t ≡ true → (k ≡ 0 → ⊥)
      → get_or (keep (tested s T) (from (q + 1) (n - (q + 1)))) (k - 1) d ≡ x
  scan_kth_counts t k d x i h f g z = kth_counts (tested s T) q n k d x i h (sym f ∙ g) z

  pub scan_kth_next : (t : Bool) (k d x : ℕ) → get_or (keep (tested s T) (from q (n - q))) k d ≡ x → q < n
      → t ≡ T (record_at s q) → t ≡ false → get_or (keep (tested s T) (from (q + 1) (n - (q + 1)))) k d ≡ x
  scan_kth_next t k d x i h f g = kth_next (tested s T) q n k d x i h (sym f ∙ g)

  pub scan_kth_none : (k d x : ℕ) → get_or (keep (tested s T) (from q (n - q))) k d ≡ x → n ≤ q → d ≡ x
  scan_kth_none k d x i h = kth_none (tested s T) q n k d x i h
