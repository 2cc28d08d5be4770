-- What a call gives back, in one shape for all calls. docs/SPECIFICATION.md, "Numbers given back". Where an answer is an enum, a definition
-- beside the enum's call says what each of its cases gives, and the promises speak of that.
--   done xs      number 0, with these values
--   declined r   a refusal's number, position and earlier record, no values
--   Verdict      accepted, or the refusal
--   verdict_gives v xs   what a verdict gives: these values where it is accepted
--   giving k xs  a call of number k: its values at 0, else refused "at position 0"
--   refusing k   a check of number k: accepted at 0, else refused "at position 0"
--   spoken g     the host's number
--   spoken_pair g the host's number with the earlier record
-- Assumes nothing.
use Rattle.std.specs.Prelude.{ℕ, ◌+◌, ◌*◌, Bool, cond, List, [], ◌∷◌, eqb}
use Rattle.std.proofs.Math.Option.{Option, none, some}
use Rattle.std.specs.Prelude.{Result, Ok, Err}
use Rattle.lists.specs.Lists.{has}
use Rattle.kinds.specs.declared.answers.Refusal.{Refusal}

-- The document's number and position, the earlier record of two that meet, and the values; a refused call has none.
pub record Given : Type 0 where
  pub number : ℕ
  pub position : ℕ
  pub earlier : ℕ
  pub values : Option (List ℕ)

-- Not refused.
abbrev pub done : List ℕ → Given
done xs = record { number = 0; position = 0; earlier = 0; values = some xs }

-- Refused.
abbrev pub declined : Refusal → Given
declined r = record { number = r.number; position = r.position; earlier = r.earlier; values = none }

-- A refusal "at position 0", which names no earlier record.
abbrev pub refused_by : ℕ → Refusal
refused_by k = record { number = k; position = 0; earlier = 0 }

-- Accepted, or refused.
abbrev pub Verdict : Type 0
Verdict = Result (Unit {0}) Refusal

-- What each verdict gives; where it is accepted, these values.
abbrev pub verdict_gives : Verdict → List ℕ → Given
verdict_gives (Ok _) xs = done xs
verdict_gives (Err r) xs = declined r

-- A check of number k: accepted at 0, else refused.
abbrev pub refusing : ℕ → Verdict
refusing k = cond (eqb k 0) (Ok tt) (Err (refused_by k))

-- A number that tells of two records that meet, and so of the earlier of them.
abbrev pub tells_of_two : ℕ → Bool
tells_of_two k = has k (13 ∷ 22 ∷ 23 ∷ [])

-- The host's number: "number times 65,536 plus position".
abbrev pub spoken : Given → ℕ
spoken g = 65536 * g.number + g.position

-- That of its second call: "number times 2^32 plus position times 65,536 plus earlier record".
abbrev pub spoken_pair : Given → ℕ
spoken_pair g = 4294967296 * g.number + 65536 * g.position + g.earlier

-- A call of number k with these values: done at 0, else refused.
abbrev pub giving : ℕ → List ℕ → Given
giving k xs = cond (eqb k 0) (done xs) (declined (refused_by k))
