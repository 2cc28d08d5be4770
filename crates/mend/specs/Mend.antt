-- Mending a damaged drawing: one buffer is read and another written, and a list of what was dropped. docs/SPECIFICATION.md, "Mending a drawing".
-- A mending writes its two lent tables and nothing else.
--   refused12 at n r            check 12 refuses a connection or an input map, of n records
--   kept, mended, dropped file  the positions that are kept, the bytes of those records, the positions that are dropped
--   mend_verdict                 the verdict of a mending, of any file and whatever is lent
--   Mends                       the promise of `mend`
-- Assumes nothing.
use Rattle.std.specs.Prelude.{◌≡◌, ℕ, ◌%◌, Bool, cond, not, ◌&&◌, ◌||◌, length, get_or, eqb, leb}
use mathlib.Core.List.{List, [], ◌∷◌, ◌++◌, foldl}
use Rattle.lists.specs.Lists.{within, from, keep, any, joined, has}
use Rattle.kinds.specs.Given.{Given, done, declined, Verdict, verdict_gives}
use Rattle.component.specs.declared.Record.{Record}
use Rattle.component.specs.Record.{part_at, loose_at, record_count, composite, entering, entering_as}
use Rattle.component.specs.Drawing.{is_component, missing}
use Rattle.flatten.specs.Verdict.{refused, list_by}
use Rattle.meeting.specs.Meeting.{judgement}
use Rattle.mend.specs.declared.Mended.{Mended}
use Rattle.std.specs.Prelude.{Result, Ok, Err}
use Rattle.kinds.specs.declared.answers.Refusal.{Refusal}

module _ (at : ℕ → Record) (n : ℕ) where
  -- "the file's component records", in file order, wherever they stand.
  abbrev pub components : List ℕ
  components = keep (is_component at) (from 0 n)

  -- Component o: components are "numbered from 0 in file order". Past the last there is none.
  abbrev pub component_numbered : ℕ → Record
  component_numbered o = at (get_or components o n)

  -- Check 12 refuses a connection or an input map. "An owner that is no composite among the file's component records has no children, so check 12
  -- refuses its records here."
  unfoldable pub refused12 : Record → Bool
  refused12 r = not (composite (component_numbered r.owner)) || missing component_numbered (length components) r

  -- "each connection or input map that check 12 refuses or whose input an earlier kept one has entered"
  abbrev pub drops : List ℕ → ℕ → Bool
  drops ks p = entering (at p) && (refused12 (at p) || any (λ q. entering_as (at p) (at q)) ks)

  -- One record, "in file order", behind those kept before it.
  abbrev pub sifted : List ℕ → ℕ → List ℕ
  sifted ks p = cond (drops ks p) ks (ks ++ (p ∷ []))

  -- The positions that are kept.
  unfoldable pub kept_records : List ℕ
  kept_records = foldl sifted [] (from 0 n)

-- The positions of a file that are kept. A record's kind is its byte 0 alone: check 3 comes after mending.
abbrev pub kept : List ℕ → List ℕ
kept file = kept_records (loose_at file) (record_count file)

-- "kept records stand in order with their bytes"
unfoldable pub mended : List ℕ → List ℕ
mended file = joined (part_at file) (kept file)

-- "It reports each dropped position, ascending": "a trailing part record, whose position counts as one dropped", stands last.
unfoldable pub dropped : List ℕ → List ℕ
dropped file =
    keep (λ p. not (has p (kept file))) (from 0 (record_count file)) ++ cond (eqb (length file % 24) 0) [] (record_count file ∷ [])

-- "before mending, 1 for no whole record or over 1,024, and 2 for an output buffer shorter than the input or a list shorter than 1,025"; then "the
-- result is judged as a load would", at its own positions: "1 for no record left, then checks 3 to 15".
unfoldable pub mend_verdict : List ℕ → List ℕ → List ℕ → Verdict
mend_verdict file out list =
    cond (within 1 1024 (record_count file))
    (cond (leb (length file) (length out) && leb 1025 (length list)) (judgement (mended file)) (refused 2 0)) (refused 1 0)

-- What each answer gives: how many bytes are written and how many positions are dropped.
abbrev pub mend_gives : Result Mended Refusal → Given
mend_gives (Ok a) = done (a.bytes ∷ a.positions ∷ [])
mend_gives (Err r) = declined r

-- The promise of `mend`: its answer r gives what the checks find and how much is written; out' and list' are the buffer and the list afterwards. "if still
-- refused .. nothing is written".
abbrev pub Mends : List ℕ → List ℕ → List ℕ → Result Mended Refusal → List ℕ → List ℕ → Type 0
Mends file out list r out' list' =
    let found = mend_verdict file out list in
    (mend_gives r ≡ verdict_gives found (length (mended file) ∷ length (dropped file) ∷ []))
    × (out' ≡ list_by found (mended file) out)
    × (list' ≡ list_by found (dropped file) list)
