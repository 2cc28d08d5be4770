-- Worked cases: the longest chain of three drawings, which words are an order, what an order changes, and that one round is too few where D is 1. Each is a
-- computation.
--   lone   a Const alone
--   fork   a Const with two Outputs behind it
-- Assumes nothing.
use mathlib.Core.Path.{◌≡◌, refl}
use Prim.Native.Nat.{ℕ}
use mathlib.Core.Bool.{true, false}
use mathlib.Core.List.{List, [], ◌∷◌, ◌++◌}
use lib.ListN.{replicate}
use Rattle.lists.specs.Lists.{append_new, strike, overlay}
use Rattle.kinds.specs.Kinds.{obeys}
use Rattle.primitive.specs.Evaluate.{function_of, outputs_after}
use Rattle.component.specs.Drawing.{deepest}
use Rattle.component.proofs.Drawings.{record_bytes, component_bytes, connection_bytes}
use Rattle.flatten.specs.Descent.{output_below, inputs_below, comes_from, goes_to}
use Rattle.flatten.specs.Verdict.{verdict}
use Rattle.meeting.specs.Meeting.{judgement}
use Rattle.tables.specs.Tables.{Tables, full_size, sources, current_list}
use Rattle.load.specs.Load.{drawing_tables, load_verdict, load_tables}
use Rattle.net.specs.Net.{counts_within, kinds_obeyed, ids_distinct, ports_follow, values_fit, consts_held, wires_fit, inputs_once, names, is_net, net_number}
use Rattle.rounds.specs.Round.{is_order, leave, evaluated, send, visit, round, calm, round_of}
use Rattle.simulator.specs.Calls.{round_tables}
use Rattle.simulator.specs.Ordered.{ordered_number, ordered_tables}
use Rattle.chains.specs.Chains.{longest}
use Rattle.demands.proofs.Lamp.{sevens, lamp_loaded}

-- The root, and in it a Const of one bit that holds 1.
abbrev lone : List ℕ
lone = component_bytes 0 0 0 0 100 0 ++ record_bytes 1 13 0 0 1 1 0 1 1

abbrev fork : List ℕ
fork = lone ++ component_bytes 9 0 1 1 2 1 ++ component_bytes 9 0 1 1 3 1 ++ connection_bytes 0 0 0 1 0 ++ connection_bytes 0 0 0 2 0

abbrev loaded : List ℕ → Tables
loaded file = load_tables file sevens

-- A table of 1,024 words that starts so, and a table of bits.
abbrev ordering : List ℕ → List ℕ
ordering l = overlay l (replicate 1024 7)

abbrev bits : List ℕ
bits = replicate 256 7

-- A Switch, the Nor and the Output; the Const and an Output; the Const.
pub case_longest : longest lamp_loaded ∷ longest (loaded fork) ∷ longest (loaded lone) ∷ [] ≡ 3 ∷ 2 ∷ 1 ∷ []
unfolding longest sources load_tables load_verdict drawing_tables judgement verdict overlay full_size deepest obeys output_below inputs_below comes_from goes_to
case_longest = refl

-- The wires reversed, words behind them ignored; a wire twice; a wire that is not there.
pub case-is_order : is_order 3 (2 ∷ 1 ∷ 0 ∷ 9 ∷ []) ∷ is_order 3 (2 ∷ 1 ∷ 2 ∷ []) ∷ is_order 3 (2 ∷ 1 ∷ 3 ∷ []) ∷ [] ≡ true ∷ false ∷ false ∷ []
unfolding is_order
case-is_order = refl

pub case_order :
    -- The components that a round leaves to the next, in stored order and reversed.
    (current_list (round_tables (loaded fork) 0) ∷ current_list (ordered_tables (loaded fork) (ordering (1 ∷ 0 ∷ [])) bits 0) ∷ []
    ≡ (0 ∷ 1 ∷ 2 ∷ []) ∷ (0 ∷ 2 ∷ 1 ∷ []) ∷ [])
    -- A wire twice is refused, and so is a table of as many words as wires.
    × (ordered_number (loaded fork) (ordering (1 ∷ 1 ∷ [])) bits ∷ ordered_number (loaded fork) (1 ∷ 0 ∷ []) bits ∷ [] ≡ 24 ∷ 2 ∷ [])
unfolding ordered_number ordered_tables is_order load_tables load_verdict drawing_tables judgement verdict overlay full_size deepest obeys output_below inputs_below comes_from goes_to round_tables net_number is_net counts_within kinds_obeyed ids_distinct ports_follow values_fit consts_held wires_fit inputs_once names round_of leave round visit evaluated send outputs_after function_of append_new strike
case_order = (refl, refl)

-- A Const alone: not calm after one round, which its longest chain would ask, but after two.
pub case_two : calm (round_tables (loaded lone) 0) ∷ calm (round_tables (round_tables (loaded lone) 0) 0) ∷ [] ≡ false ∷ true ∷ []
unfolding load_tables load_verdict drawing_tables judgement verdict overlay full_size deepest obeys output_below inputs_below comes_from goes_to round_tables net_number is_net counts_within kinds_obeyed ids_distinct ports_follow values_fit consts_held wires_fit inputs_once names round_of leave round visit evaluated send outputs_after function_of append_new strike calm
case_two = refl
