-- Which two records meet: the judgement of a file's bytes, which says of two records that enter one input what they are, and names the earlier.
-- docs/SPECIFICATION.md, "Numbers given back", 13, 22 and 23.
--   met_as at q p     13, 22 or 23, by what the two are
--   judgement file   what `judge`, a load and a look answer; the verdict with 13 split
-- Assumes nothing.
use Rattle.std.specs.Prelude.{◌≡◌, ℕ, cond, ◌&&◌, List, [], eqb}
use Rattle.kinds.specs.declared.answers.Refusal.{Refusal}
use Rattle.kinds.specs.Given.{spoken_pair, Verdict, verdict_gives}
use Rattle.component.specs.declared.Record.{Record}
use Rattle.component.specs.Record.{record_at}
use Rattle.component.specs.Drawing.{earlier_of}
use Rattle.flatten.specs.Verdict.{verdict}
use Rattle.std.specs.Prelude.{Ok, Err}

module _ (at : ℕ → Record) where
  -- "13 stays for two connections", "22 connection and map, 23 two maps".
  abbrev pub met_as : ℕ → ℕ → ℕ
  met_as q p = cond (eqb (at q).form 2 && eqb (at p).form 2) 13 (cond (eqb (at q).form 3 && eqb (at p).form 3) 23 22)

  -- The refusal of the record at p, which meets an earlier one.
  abbrev pub meeting : ℕ → Refusal
  meeting p = record { number = met_as (earlier_of at p) p; position = p; earlier = earlier_of at p }

  -- The three numbers are "made in the place of 13"; any other names no earlier record.
  abbrev pub against : Verdict → Verdict
  against (Ok _) = Ok tt
  against (Err r) = Err (cond (eqb r.number 13) (meeting r.position) r)

-- What a file's bytes are judged to be; check 2 is not made.
unfoldable pub judgement : List ℕ → Verdict
judgement file = against (record_at file) (verdict file)

-- The promise of `judge`: its answer r gives what the file is judged to be.
abbrev pub Judges : List ℕ → Verdict → Type 0
Judges file r = verdict_gives r [] ≡ verdict_gives (judgement file) []

-- The promise of the host's second call.
abbrev pub SpeaksPair : List ℕ → ℕ → Type 0
SpeaksPair file r = r ≡ spoken_pair (verdict_gives (judgement file) [])
