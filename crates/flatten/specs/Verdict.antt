-- The verdict on a file's bytes. docs/SPECIFICATION.md, "Numbers given back" and the host's first call. Two records that meet are 13 here, whatever
-- they are; meeting/specs/Meeting has the judgement, which says what they are.
use Rattle.std.specs.Prelude.{◌≡◌, ℕ, Bool, cond, List, [], ◌∷◌}
use Rattle.std.proofs.Math.Option.{Option, none, some}
use Rattle.lists.specs.Lists.{from, first, overlay}
use Rattle.kinds.specs.Given.{Verdict, verdict_gives, refusing, spoken}
use Rattle.component.specs.declared.Record.{Record}
use Rattle.component.specs.Record.{record_at, record_count, sized}
use Rattle.component.specs.Drawing.{fails3, fails4, fails5, fails6, fails7, fails8, fails9, fails10, fails11, fails12, fails13, fails14}
use Rattle.flatten.specs.Descent.{fails15}
use Rattle.std.specs.Prelude.{Ok, Err}

-- The checks of a drawing, in number order: each its number, and the positions that fail it.
abbrev pub checks : (ℕ → Record) → ℕ → List (ℕ × (ℕ → Bool))
checks at n =
    (3, fails3 at) ∷ (4, fails4 at) ∷ (5, fails5 at) ∷ (6, fails6 at) ∷ (7, fails7 at) ∷ (8, fails8 at) ∷ (9, fails9 at) ∷ (10, fails10 at)
    ∷ (11, fails11 at) ∷ (12, fails12 at n) ∷ (13, fails13 at) ∷ (14, fails14 at n) ∷ (15, fails15 at n) ∷ []

-- Refused with number k at position p.
abbrev pub refused : ℕ → ℕ → Verdict
refused k p = Err (record { number = k; position = p; earlier = 0 })

-- Refused by check k at the position found, or else what the later checks say.
abbrev pub or_later : ℕ → Option ℕ → Verdict → Verdict
or_later k (some p) later = refused k p
or_later k none later = later

-- Each check over all n records in file order before the next begins; the first that fails decides.
abbrev pub judged : ℕ → List (ℕ × (ℕ → Bool)) → Verdict
judged n [] = Ok tt
judged n (k ∷ ks) = or_later k.0 (first k.1 (from 0 n)) (judged n ks)

-- The verdict on a file's bytes; check 2 is not made.
unfoldable pub verdict : List ℕ → Verdict
verdict file = cond (sized file) (judged (record_count file) (checks (record_at file) (record_count file))) (refused 1 0)

-- A load's own refusal, or else, at position 0, the call's number k.
abbrev pub and_then : Verdict → ℕ → Verdict
and_then (Err r) k = Err r
and_then (Ok _) k = refusing k

-- A lent list after a call of that verdict: xs at its front; a refusal changes none of it.
abbrev pub list_by : Verdict → List ℕ → List ℕ → List ℕ
list_by (Ok _) xs lent = overlay xs lent
list_by (Err r) xs lent = lent

-- The promise of the host's first call, which "goes on answering 13".
abbrev pub Speaks : List ℕ → ℕ → Type 0
Speaks file r = r ≡ spoken (verdict_gives (verdict file) [])
