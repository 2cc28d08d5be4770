-- A mark before a search: each key that is passed sets its mark, and a key whose mark is not set is none of those passed.
-- Nobody has to believe anything here: only contracts of functions inside our crates cite it.
--   IsMarked size of mark a b marks   of a table of `size` marks, that of each j from a to below b which `of` picks is set
-- Assumes nothing.
use Rattle.std.specs.Prelude.{◌≡◌, Bool, true, List, ℕ, ◌≤◌, ◌<◌, length, get_or}

pub record IsMarked (size : ℕ) (of : ℕ → Bool) (mark : ℕ → ℕ) (a b : ℕ) (marks : List ℕ) : Type 0 where
  pub whole : length marks ≡ size
  pub marked : (j : ℕ) → a ≤ j → j < b → of j ≡ true → get_or marks (mark j) 0 ≡ 0 → ⊥
