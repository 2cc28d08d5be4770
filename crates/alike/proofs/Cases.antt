-- The slow engine on the lamp drawing and on a box in a box, alone, by computing its definitions; and its refusals.
-- Assumes nothing.
use mathlib.Core.Path.{◌≡◌, refl}
use Prim.Native.Nat.{ℕ}
use mathlib.Core.Bool.{true, false}
use mathlib.Core.List.{List, [], ◌∷◌, ◌++◌, map}
use lib.ListN.{take, replicate}
use Rattle.lists.specs.Lists.{from, joined, append_new, strike, overlay}
use Rattle.kinds.specs.Given.{Given, declined, Verdict, verdict_gives}
use Rattle.kinds.specs.Kinds.{obeys}
use Rattle.primitive.specs.Evaluate.{function_of, outputs_after, moved_outputs}
use Rattle.component.specs.Record.{record_at, record_count}
use Rattle.component.specs.Drawing.{deepest}
use Rattle.component.proofs.Drawings.{component_bytes, connection_bytes, input_map_bytes, output_map_bytes, lamp, lamp_twice}
use Rattle.flatten.specs.Descent.{output_below, inputs_below, comes_from, goes_to}
use Rattle.flatten.specs.Verdict.{verdict}
use Rattle.meeting.specs.Meeting.{judgement}
use Rattle.tables.specs.Tables.{wire_words}
use Rattle.load.specs.Load.{drawing_tables}
use Rattle.net.specs.Net.{values_fit, consts_held, names}
use Rattle.rounds.specs.Round.{leave, evaluated, send, visit, round, calm}
use Rattle.simulator.specs.Edit.{goes_first, stands, port_set, edited_state}
use Rattle.simulator.specs.Calls.{bits_set, run_by}
use Rattle.slow.specs.Slow.{SlowTables, slow_tables_of, slow_full, slow_of, leaving, led_into, slow_round_of, slow_bits, slow_right, slow_number, slow_edit_number, slow_load_verdict, slow_load_tables}
use Rattle.slow.specs.Slow.{slow_round_verdict, slow_round_tables, slow_moved, slow_edit_verdict, slow_edit_tables, slow_run_verdict, slow_run_tables}
use Rattle.demands.proofs.Lamp.{sevens}
use Rattle.alike.specs.Alike.{SharedCall, rounded, edited, until_calm, Told, slow_calls_tables, slow_calls_told}
use Rattle.std.specs.Prelude.{Ok}

-- A Switch enters box 2, whose input is mapped to a Not and then, through box 3, to another Not; an Output sees what comes out of both boxes.
-- Components: 0 root; 1 Switch; 2 box; 3 box in it; 4 Not in that; 5 Not in box 2; 6 Output. The primitives 1, 4, 5 and 6 have the flat indexes 0 to 3.
abbrev nested : List ℕ
nested =
    component_bytes 0 0 0 0 100 0 ++ component_bytes 7 0 0 1 1 0 ++ component_bytes 0 0 1 1 20 0
    ++ component_bytes 0 2 1 1 30 0 ++ component_bytes 3 3 1 1 40 0 ++ component_bytes 3 2 1 1 50 0 ++ component_bytes 9 0 1 1 60 1
    ++ connection_bytes 0 0 0 1 0 ++ connection_bytes 0 1 0 2 0
    ++ input_map_bytes 2 0 1 0 ++ input_map_bytes 2 0 0 0 ++ input_map_bytes 3 0 0 0 ++ output_map_bytes 2 0 0 ++ output_map_bytes 3 0 0

-- The slow engine's tables after the load.
abbrev loaded_slow : List ℕ → SlowTables
loaded_slow file = slow_load_tables file (slow_of sevens)

-- A round, lent a table of bits whose words hold 7; and what a call tells that is not refused.
abbrev seven_bits : List ℕ
seven_bits = replicate 256 7

abbrev a_round : SharedCall
a_round = rounded 0 seven_bits

abbrev accepts : List ℕ → Told
accepts ws = record { verdict = (Ok tt); words = ws }

-- Its current list after calls from the load.
abbrev current_after : List ℕ → List SharedCall → List ℕ
current_after file cs = let S = slow_calls_tables file cs (loaded_slow file) in take S.counts.current S.current

-- Switch 0 is set, the old way, after two rounds.
abbrev timing : List SharedCall
timing = a_round ∷ a_round ∷ edited stands 0 1 ∷ a_round ∷ a_round ∷ a_round ∷ a_round ∷ a_round ∷ []

-- Tables with input numbers put at the front.
abbrev inputs_put : List ℕ → SlowTables → SlowTables
inputs_put xs S = slow_tables_of (overlay xs S.inputs) S.outputs S.current S.following S.standing S.counts

-- Numbers given back.
abbrev told : Verdict → Given
told v = verdict_gives v []

abbrev refused_as : ℕ → Given
refused_as k = declined (record { number = k; position = 0; earlier = 0 })

pub slow_wires :
    -- The wires of the Nor, whose source is worked out through an output map; of the Switch that enters a box in a box: the Not in box 2, mapped first,
    -- and then the one in box 3; of that Not, out of both boxes; and of the other, none.
    (joined wire_words (leaving (record_at lamp) (record_count lamp) 2) ≡ 2 ∷ 0 ∷ 3 ∷ 0 ∷ [])
    × (map (λ i. joined wire_words (leaving (record_at nested) (record_count nested) i)) (from 0 3)
    ≡ (0 ∷ 0 ∷ 2 ∷ 0 ∷ 0 ∷ 0 ∷ 1 ∷ 0 ∷ []) ∷ (1 ∷ 0 ∷ 3 ∷ 0 ∷ []) ∷ [] ∷ [])
    × (map (led_into (record_at nested) (record_count nested)) (from 0 4) ≡ false ∷ true ∷ true ∷ true ∷ [])
unfolding leaving led_into deepest output_below inputs_below comes_from goes_to
slow_wires = (refl, refl, refl)

pub slow_rounds :
    -- The timing case: the current lists of rounds 3 to 7, and of round 8.
    (map (λ k. current_after lamp (take k timing)) (from 3 6) ≡ [] ∷ [] ∷ (0 ∷ []) ∷ (0 ∷ 2 ∷ []) ∷ (3 ∷ []) ∷ [] ∷ [])
    -- Round 1 moves the Nor's output and the Output's; it leaves the words behind the bits.
    × (slow_calls_told lamp (a_round ∷ []) (loaded_slow lamp) ≡ accepts (overlay (0 ∷ 0 ∷ 1 ∷ 1 ∷ []) seven_bits) ∷ [])
    -- Run until calm, an edit that goes first, and again: rounds, evaluations and how many times an output changed.
    × (slow_calls_told nested (until_calm 0 16 ∷ edited goes_first 0 1 ∷ until_calm 0 16 ∷ []) (loaded_slow nested)
    ≡ accepts (2 ∷ 5 ∷ 3 ∷ []) ∷ accepts [] ∷ accepts (3 ∷ 4 ∷ 3 ∷ []) ∷ [])
unfolding slow_load_tables slow_load_verdict drawing_tables judgement verdict overlay slow_full deepest obeys output_below inputs_below comes_from goes_to slow_round_tables slow_round_verdict slow_number slow_right values_fit consts_held names slow_round_of leaving leave round visit evaluated send outputs_after function_of append_new strike slow_edit_tables slow_edit_verdict slow_edit_number led_into edited_state port_set slow_moved slow_bits moved_outputs slow_run_tables slow_run_verdict run_by calm bits_set
slow_rounds = (refl, refl, refl)

pub slow_refusals :
    -- A load's own: an empty file; two connections that enter one input.
    (told (slow_load_verdict [] (slow_of sevens)) ≡ refused_as 1)
    × (told (slow_run_verdict lamp_twice (loaded_slow lamp)) ≡ declined (record { number = 13; position = 9; earlier = 6 }))
    -- A table of bits of 255 words.
    × (told (slow_round_verdict lamp (loaded_slow lamp) (replicate 255 7)) ≡ refused_as 2)
    -- No primitive 4; the Nor is not to be set; 2 does not fit one bit.
    × (told (slow_edit_verdict lamp (loaded_slow lamp) 4 0) ≡ refused_as 17)
    × (told (slow_edit_verdict lamp (loaded_slow lamp) 2 0) ≡ refused_as 18)
    × (told (slow_edit_verdict lamp (loaded_slow lamp) 0 2) ≡ refused_as 19)
    -- No ports, since nothing was loaded; and an input of one bit that holds 2.
    × (told (slow_run_verdict lamp (slow_of sevens)) ≡ refused_as 20)
    × (told (slow_run_verdict lamp (inputs_put (2 ∷ []) (loaded_slow lamp))) ≡ refused_as 20)
unfolding slow_load_tables slow_load_verdict drawing_tables judgement verdict overlay slow_full deepest obeys output_below inputs_below comes_from goes_to slow_round_verdict slow_number slow_right values_fit consts_held names slow_edit_verdict slow_edit_number led_into slow_run_verdict
slow_refusals = (refl, refl, refl, refl, refl, refl, refl, refl)
