-- `place_of`: what the ids to come name below the component found so far is the answer.
-- Assumes nothing.
use mathlib.Core.Path.{◌≡◌}
use mathlib.Core.List.{foldl}
use lib.ListN.{drop}
use Rattle.component.specs.Record.{record_at, record_count}
use Rattle.boxes.specs.Boxes.{child_named, place_of}
use Rattle.boxes.proofs.path.place_of.Given as goal

abbrev pub invariant-loop-id : goal.invariant-loop-id
invariant-loop-id l =
    foldl (child_named (record_at l.file) (record_count l.file)) l.c (drop l.id-index l.path)
    ≡ place_of (record_at l.file) (record_count l.file) l.path
