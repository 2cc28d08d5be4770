-- The tests of components, ports and wires together, of whole tables, though each looks only at the tables that it is handed: the outcome after each.
-- Assumes nothing.
use mathlib.Core.Path.{◌≡◌, sym, ap, ◌∙◌}
use mathlib.Core.Bool.{Bool, true, false, ◌&&◌}
use mathlib.Core.List.{[]}
use Rattle.tables.specs.Tables.{Tables}
use Rattle.net.specs.Net.{counts_within, kinds_obeyed, ids_distinct, ports_follow, values_fit, consts_held, wires_fit, inputs_once, is_circuit}
use Rattle.net.specs.Parts.{lent, rows_right}

module _ (T : Tables) where
  pub circuit_counts : counts_within T.counts ≡ false → false ≡ is_circuit T
  circuit_counts e = rw e

  -- The tables that the passes are handed.
  abbrev of_rows : Tables
  of_rows = lent T.components T.inputs T.outputs [] T.counts

  abbrev of_wires : Tables
  of_wires = lent T.components [] [] T.wires T.counts

  module _ (few : counts_within T.counts ≡ true) where
    circuit_is : is_circuit T ≡ ((rows_right of_rows && wires_fit of_wires) && inputs_once of_wires)
    unfolding kinds_obeyed ids_distinct ports_follow values_fit consts_held wires_fit inputs_once
    circuit_is = rw few

    pub circuit_rows : rows_right of_rows ≡ false → false ≡ is_circuit T
    circuit_rows e = sym (circuit_is ∙ ap (λ (b : Bool). (b && wires_fit of_wires) && inputs_once of_wires) e)

    pub circuit_wires : rows_right of_rows ≡ true → (wires_fit of_wires && inputs_once of_wires) ≡ is_circuit T
    circuit_wires e = sym (circuit_is ∙ ap (λ (b : Bool). (b && wires_fit of_wires) && inputs_once of_wires) e)
