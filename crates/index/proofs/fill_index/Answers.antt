-- `fill_index`: the three parts, filled one after the other, and the guesses behind them are the index.
-- Assumes nothing.
use mathlib.Core.Path.{◌∙◌}
use Rattle.index.proofs.IndexLaws.{parts_size, kept_next, index_filled}
use Rattle.index.proofs.fill_index.Goals as goal

pub guess_children-requires : goal.guess_children-requires
guess_children-requires c = (
  c.requires.0,
  parts_size c.args.file.now c.args.index.now _ _ _ c.requires.0 c.requires.1 c.requires.2
      c.fill_numbers.ensures c.fill_numbers-2.ensures c.fill_ends.ensures,
)

pub guess_maps-requires : goal.guess_maps-requires
guess_maps-requires c = (
  c.requires.0,
  c.requires.1,
  c.guess_children.ensures.size ∙ parts_size c.args.file.now c.args.index.now _ _ _ c.requires.0 c.requires.1 c.requires.2
      c.fill_numbers.ensures c.fill_numbers-2.ensures c.fill_ends.ensures,
)

pub returns : goal.returns
returns c =
    index_filled c.args.file.now c.args.index.now _ _ _ c.requires.0 c.requires.1 c.requires.2
    c.fill_numbers.ensures c.fill_numbers-2.ensures c.fill_ends.ensures _
    (kept_next 2304 _ _ _ c.guess_children.ensures c.guess_maps.ensures)
