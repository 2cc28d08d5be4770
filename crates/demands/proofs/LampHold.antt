-- What the definitions make of the lamp drawing: its verdict, its wires, its lists round by round, the timing case, the same with an edit that goes
-- first, and which outputs moved. Each is a computation. Assumes nothing.
use mathlib.Core.Path.{◌≡◌, refl}
use mathlib.Core.Bool.{true, false}
use mathlib.Core.List.{[], ◌∷◌, map}
use Rattle.lists.specs.Lists.{from, append_new, strike, overlay}
use Rattle.kinds.specs.Kinds.{obeys}
use Rattle.primitive.specs.Evaluate.{function_of, outputs_after, moved_outputs}
use Rattle.component.specs.Drawing.{deepest}
use Rattle.flatten.specs.Descent.{output_below, inputs_below, comes_from, goes_to}
use Rattle.flatten.specs.Verdict.{verdict}
use Rattle.meeting.specs.Meeting.{judgement}
use Rattle.tables.specs.Tables.{full_size, end_at, wires_in, current_list, following_list, standing_list}
use Rattle.load.specs.Load.{drawing_tables, load_verdict, load_tables}
use Rattle.laying.proofs.FlatWires.{wire}
use Rattle.net.specs.Net.{counts_within, kinds_obeyed, ids_distinct, ports_follow, values_fit, consts_held, wires_fit, inputs_once, names, is_net, net_number}
use Rattle.rounds.specs.Round.{leave, evaluated, send, visit, round, calm, round_bits, round_of}
use Rattle.simulator.specs.Edit.{goes_first, stands, port_set, edited_state}
use Rattle.judging.specs.Judged.{judged_named}
use Rattle.simulator.specs.Calls.{round_tables, edit_number, edit_tables, bits_set, run_by, run}
use Rattle.component.proofs.Drawings.{lamp}
use Rattle.demands.proofs.Lamp.{lamp_loaded, lamp_set}
use Rattle.std.specs.Prelude.{Ok}

-- What the listing prints of it: the verdict, the wires, rounds until calm.
pub lamp_accepted : verdict lamp ≡ Ok tt
unfolding verdict deepest obeys output_below inputs_below comes_from goes_to
lamp_accepted = refl

pub lamp_wires : wires_in lamp_loaded ≡ wire (end_at 0 0) (end_at 2 0) ∷ wire (end_at 1 0) (end_at 2 1) ∷ wire (end_at 2 0) (end_at 3 0) ∷ []
unfolding load_tables load_verdict drawing_tables judgement verdict overlay full_size deepest obeys output_below inputs_below comes_from goes_to
lamp_wires = refl

-- The lists after the load, and the current lists that rounds 1 and 2 leave.
pub lamp_lists :
    current_list lamp_loaded ∷ following_list lamp_loaded ∷ standing_list lamp_loaded
    ∷ current_list (round_tables lamp_loaded 0) ∷ current_list (round_tables (round_tables lamp_loaded 0) 0) ∷ []
    ≡ (0 ∷ 1 ∷ 2 ∷ 3 ∷ []) ∷ [] ∷ [] ∷ (3 ∷ []) ∷ [] ∷ []
unfolding load_tables load_verdict drawing_tables judgement verdict overlay full_size deepest obeys output_below inputs_below comes_from goes_to round_tables net_number is_net counts_within kinds_obeyed ids_distinct ports_follow values_fit consts_held wires_fit inputs_once names round_of leave round visit evaluated send outputs_after function_of append_new strike
lamp_lists = refl

-- Run until calm with a limit of 16: two rounds, 4 + 1 evaluations.
pub lamp_run : net_number lamp_loaded ∷ (run 16 0 lamp_loaded).rounds ∷ (run 16 0 lamp_loaded).evaluations ∷ [] ≡ 0 ∷ 2 ∷ 5 ∷ []
unfolding load_tables load_verdict drawing_tables judgement verdict overlay full_size deepest obeys output_below inputs_below comes_from goes_to round_tables net_number is_net counts_within kinds_obeyed ids_distinct ports_follow values_fit consts_held wires_fit inputs_once names round_of leave round visit evaluated send outputs_after function_of append_new strike run_by calm
lamp_run = refl

-- Switch 0 set after round 2, the old way: the current lists of rounds 3 to 7, and of round 8.
pub lamp_timing :
    map (λ k. current_list (lamp_set stands k)) (from 0 6) ≡ [] ∷ [] ∷ (0 ∷ []) ∷ (0 ∷ 2 ∷ []) ∷ (3 ∷ []) ∷ [] ∷ []
unfolding load_tables load_verdict drawing_tables judgement verdict overlay full_size deepest obeys output_below inputs_below comes_from goes_to round_tables net_number is_net counts_within kinds_obeyed ids_distinct ports_follow values_fit consts_held wires_fit inputs_once names round_of leave round visit evaluated send outputs_after function_of append_new strike edit_tables edit_number edited_state port_set
lamp_timing = refl

-- Calm before rounds 3 to 7, and before round 8: false until round 7 has ended.
pub lamp_calm_lem : map (λ k. calm (lamp_set stands k)) (from 0 6) ≡ false ∷ false ∷ false ∷ false ∷ false ∷ true ∷ []
unfolding load_tables load_verdict drawing_tables judgement verdict overlay full_size deepest obeys output_below inputs_below comes_from goes_to round_tables net_number is_net counts_within kinds_obeyed ids_distinct ports_follow values_fit consts_held wires_fit inputs_once names round_of leave round visit evaluated send outputs_after function_of append_new strike edit_tables edit_number edited_state port_set calm
lamp_calm_lem = refl

-- Satisfied or not: not after the load; so once round 1 has ended, which leaves no calm; and before rounds 3 to 8 not until round 7 has ended.
pub lamp_judged :
    judged_named lamp_loaded ∷ judged_named (round_tables lamp_loaded 0) ∷ calm (round_tables lamp_loaded 0) ∷ map (λ k. judged_named (lamp_set stands k)) (from 0 6)
    ≡ false ∷ true ∷ false ∷ false ∷ false ∷ false ∷ false ∷ false ∷ true ∷ []
unfolding load_tables load_verdict drawing_tables judgement verdict overlay full_size deepest obeys output_below inputs_below comes_from goes_to round_tables net_number is_net counts_within kinds_obeyed ids_distinct ports_follow values_fit consts_held wires_fit inputs_once names round_of leave round visit evaluated send outputs_after function_of append_new strike edit_tables edit_number edited_state port_set calm judged_named
lamp_judged = refl

-- Run until calm from there: the five rounds, with 0 + 0 + 1 + 2 + 1 evaluations.
pub lamp_timing_run : (run 16 0 (lamp_set stands 0)).rounds ∷ (run 16 0 (lamp_set stands 0)).evaluations ∷ [] ≡ 5 ∷ 4 ∷ []
unfolding load_tables load_verdict drawing_tables judgement verdict overlay full_size deepest obeys output_below inputs_below comes_from goes_to round_tables net_number is_net counts_within kinds_obeyed ids_distinct ports_follow values_fit consts_held wires_fit inputs_once names round_of leave round visit evaluated send outputs_after function_of append_new strike edit_tables edit_number edited_state port_set run_by calm
lamp_timing_run = refl

-- Which outputs moved: in round 1 the Nor's and the Output's, in round 2 none; after the Switch is set, in rounds 3 to 7, its own bit stays 0 and those two
-- move again. A run counts two, both times.
pub lamp_moved :
    (round_bits 0 lamp_loaded ∷ round_bits 0 (round_tables lamp_loaded 0) ∷ map (λ k. round_bits 0 (lamp_set stands k)) (from 0 5)
    ≡ (0 ∷ 0 ∷ 1 ∷ 1 ∷ []) ∷ (0 ∷ []) ∷ [] ∷ [] ∷ (0 ∷ []) ∷ (0 ∷ 1 ∷ []) ∷ (1 ∷ []) ∷ [])
    × ((run 16 0 lamp_loaded).moved ∷ (run 16 0 (lamp_set stands 0)).moved ∷ [] ≡ 2 ∷ 2 ∷ [])
unfolding load_tables load_verdict drawing_tables judgement verdict overlay full_size deepest obeys output_below inputs_below comes_from goes_to round_tables net_number is_net counts_within kinds_obeyed ids_distinct ports_follow values_fit consts_held wires_fit inputs_once names round_of leave round visit evaluated send outputs_after function_of append_new strike edit_tables edit_number edited_state port_set run_by calm round_bits moved_outputs bits_set
lamp_moved = (refl, refl)

-- The same with an edit that goes first: the current lists of rounds 3 to 5, and of round 6; calm before each; a run until calm from there: rounds,
-- evaluations and how many times an output moved.
pub lamp_first :
    (map (λ k. current_list (lamp_set goes_first k)) (from 0 4) ≡ (0 ∷ []) ∷ (2 ∷ []) ∷ (3 ∷ []) ∷ [] ∷ [])
    × (map (λ k. calm (lamp_set goes_first k)) (from 0 4) ≡ false ∷ false ∷ false ∷ true ∷ [])
    × ((run 16 0 (lamp_set goes_first 0)).rounds ∷ (run 16 0 (lamp_set goes_first 0)).evaluations ∷ (run 16 0 (lamp_set goes_first 0)).moved ∷ [] ≡ 3 ∷ 3 ∷ 2 ∷ [])
unfolding load_tables load_verdict drawing_tables judgement verdict overlay full_size deepest obeys output_below inputs_below comes_from goes_to round_tables net_number is_net counts_within kinds_obeyed ids_distinct ports_follow values_fit consts_held wires_fit inputs_once names round_of leave round visit evaluated send outputs_after function_of append_new strike edit_tables edit_number edited_state port_set run_by calm round_bits moved_outputs bits_set
lamp_first = (refl, refl, refl)
