-- Tables of targets: primitive inputs, each by the number of its component and by its port, in two words.
-- Nobody has to believe anything here: only contracts of functions that our crates share cite it.
--   target_place k        where the words of target k start
--   target_words t        the words of a target
--   target_in t k         target k of a table
--   targets_in t m        the first m targets of a table
--   Listed t k ts u m    u is the table t with the targets ts written from entry k on, and m is the entry past them
-- Assumes nothing.
use Rattle.std.specs.Prelude.{◌≡◌, ℕ, ◌+◌, ◌*◌, List, [], ◌∷◌, map, length, get_or}
use Rattle.std.proofs.lemmas.List.Edits.{sets}
use Rattle.lists.specs.Lists.{from, joined}
use Rattle.flatten.specs.declared.Pin.{Pin}
use Rattle.flatten.specs.Descent.{pin}

abbrev pub target_place : ℕ → ℕ
target_place k = 2 * k

abbrev pub target_words : Pin → List ℕ
target_words t = t.comp ∷ t.port ∷ []

abbrev pub target_in : List ℕ → ℕ → Pin
target_in t k = pin (get_or t (target_place k) 0) (get_or t (target_place k + 1) 0)

abbrev pub targets_in : List ℕ → ℕ → List Pin
targets_in t m = map (target_in t) (from 0 m)

pub record Listed (t : List ℕ) (k : ℕ) (ts : List Pin) (u : List ℕ) (m : ℕ) : Type 0 where
  pub table : u ≡ sets t (target_place k) (joined target_words ts)
  pub next : m ≡ k + length ts
