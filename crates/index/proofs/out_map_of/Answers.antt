-- `out_map_of`: a guess that the record bears out, else a search.
-- Assumes nothing.
use lib.ListN.{length}
use Prim.Native.Nat.{◌/◌}
use mathlib.Core.Path.{◌∙◌}
use Rattle.index.proofs.NumberingLaws.{out_map-nth}
use Rattle.index.proofs.out_map_of.Goals as goal

pub returns-then-is_out_map : goal.returns-then-is_out_map
returns-then-is_out_map c = c.is_out_map.ensures c.if-is_out_map.true

pub returns : goal.returns
returns c = c.nth_owned.ensures ∙ out_map-nth c.args.file.now (length c.args.file.now / 24) c.args.c c.args.i
