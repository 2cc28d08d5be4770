-- Cases, by computing the definitions: a snow depth word, and evaluations, tables and values at 63, 64 and 65 bits.
--   snow w x   a Const of w bits that is x, on an Output of w bits
-- Assumes nothing.
use mathlib.Core.Path.{◌≡◌, refl}
use mathlib.Core.Bool.{true, false}
use mathlib.Core.List.{List, [], ◌∷◌, ◌++◌, map}
use Prim.Native.Nat.{ℕ, ◌^◌, ◌-◌}
use lib.ListN.{take, replicate, set}
use Rattle.lists.specs.Lists.{append_new, strike, overlay}
use Rattle.value.specs.Value.{ones, fits, fits_in, of_width, bit, complement}
use Rattle.kinds.specs.declared.table.Fields.{Fields}
use Rattle.kinds.specs.declared.Kind.{Kind}
use Rattle.kinds.specs.declared.Kind.TheVariants.{Input, Output, Splitter, Joiner, Const}
use Rattle.kinds.specs.Kinds.{number_of, obeys}
use Rattle.primitive.specs.Evaluate.{function_of, outputs_after, fitting, evaluate_number, evaluate_outputs}
use Rattle.component.specs.Drawing.{deepest}
use Rattle.component.proofs.Drawings.{record_bytes, component_bytes, connection_bytes, lamp}
use Rattle.flatten.specs.Descent.{output_below, inputs_below, comes_from, goes_to}
use Rattle.flatten.specs.Verdict.{refused, verdict}
use Rattle.meeting.specs.Meeting.{judgement}
use Rattle.tables.specs.Tables.{Tables, tables_of, full_size}
use Rattle.load.specs.Load.{drawing_tables, load_verdict, load_tables}
use Rattle.net.specs.Net.{counts_within, kinds_obeyed, ids_distinct, ports_follow, values_fit, consts_held, wires_fit, inputs_once, names, is_net, net_number}
use Rattle.rounds.specs.Round.{leave, evaluated, send, visit, round, calm, round_of}
use Rattle.simulator.specs.Calls.{round_tables, run_by, run}
use Rattle.demands.proofs.Lamp.{sevens}
use Rattle.demands.proofs.Marked.{evaluating}
use Rattle.earlier.specs.Wider.{file_within}
use Rattle.std.specs.Prelude.{Ok}

abbrev pub snow : ℕ → ℕ → List ℕ
snow w x =
    component_bytes 0 0 0 0 100 0 ++ record_bytes 1 13 0 0 1 w 0 1 x ++ component_bytes 9 0 1 1 2 w ++ connection_bytes 0 0 0 1 0

-- A word of 48 bits, of 63 and of 64 bits is accepted, and 2^63 where 63 bits end, and 65 bits, are 9.
pub snow_judged :
    judgement (snow 48 (ones 48)) ∷ judgement (snow 63 (ones 63)) ∷ judgement (snow 63 (2 ^ 63)) ∷ judgement (snow 64 (ones 64))
    ∷ judgement (snow 65 0) ∷ []
    ≡ Ok tt ∷ (Ok tt) ∷ refused 9 1 ∷ (Ok tt) ∷ refused 9 1 ∷ []
unfolding judgement verdict deepest obeys output_below inputs_below comes_from goes_to
snow_judged = refl

-- A root with one component of 48 bits: kind, inputs, outputs.
abbrev alone : Kind → ℕ → ℕ → List ℕ
alone k i o = component_bytes 0 0 0 0 100 0 ++ component_bytes (number_of k) 0 i o 1 48

-- To a reader to whom widths end at 32, or at 63, the wider ones are 9 at the first; what is no wider it accepts, and the lamp drawing.
pub snow_earlier :
    judgement (file_within 32 (snow 32 (ones 32))) ∷ judgement (file_within 32 (snow 33 0)) ∷ judgement (file_within 32 (snow 48 5))
    ∷ judgement (file_within 48 (snow 48 5)) ∷ judgement (file_within 63 (snow 64 5)) ∷ judgement (file_within 32 lamp) ∷ []
    ≡ Ok tt ∷ refused 9 1 ∷ refused 9 1 ∷ (Ok tt) ∷ refused 9 1 ∷ (Ok tt) ∷ []
unfolding judgement verdict deepest obeys output_below inputs_below comes_from goes_to
snow_earlier = refl

-- So is each kind that may be wider.
pub alone_earlier :
    map (λ (file : List ℕ). judgement (file_within 32 file)) (alone Input 1 1 ∷ alone Output 1 1 ∷ alone Splitter 1 48 ∷ alone Joiner 48 1 ∷ [])
    ≡ refused 9 1 ∷ refused 9 1 ∷ refused 9 1 ∷ refused 9 1 ∷ []
unfolding judgement verdict deepest obeys output_below inputs_below comes_from goes_to
alone_earlier = refl

-- The tables of the drawing of 64 bits; and with another word in the components' table.
abbrev snow_loaded : Tables
snow_loaded = load_tables (snow 64 (ones 64)) sevens

abbrev with_word : ℕ → ℕ → Tables → Tables
with_word k x T =
    tables_of (set T.components k x) T.inputs T.outputs T.wires T.current T.following T.standing T.counts

-- They are a net, and 16 where the Const's width or the Output's bits are 65.
pub snow_net : net_number snow_loaded ∷ net_number (with_word 2 65 snow_loaded) ∷ net_number (with_word 11 65 snow_loaded) ∷ [] ≡ 0 ∷ 16 ∷ 16 ∷ []
unfolding load_tables load_verdict drawing_tables judgement verdict overlay full_size deepest obeys output_below inputs_below comes_from goes_to net_number is_net counts_within kinds_obeyed ids_distinct ports_follow values_fit consts_held wires_fit inputs_once names
snow_net = refl

-- It runs: two rounds, four evaluations, and the Output has 2^64 - 1.
pub snow_run :
    ((run 16 0 snow_loaded).rounds ∷ (run 16 0 snow_loaded).evaluations ∷ [])
    ∷ take 2 (round_tables (round_tables snow_loaded 0) 0).outputs ∷ []
    ≡ (2 ∷ 4 ∷ []) ∷ (ones 64 ∷ ones 64 ∷ []) ∷ []
unfolding load_tables load_verdict drawing_tables judgement verdict overlay full_size deepest obeys output_below inputs_below comes_from goes_to round_tables net_number is_net counts_within kinds_obeyed ids_distinct ports_follow values_fit consts_held wires_fit inputs_once names round_of leave round visit evaluated send outputs_after function_of append_new strike run_by calm
snow_run = refl

-- Evaluated alone: 64 bits and 63 are copied, split and joined; 65 bits are 9; a value of another width, and 2^63 in 63 bits, are 19.
pub wide_evaluated :
    evaluating Input 64 (ones 64 ∷ []) 64 1 64 0 ∷ evaluating Output 63 (ones 63 ∷ []) 63 1 63 0
    ∷ evaluating Splitter 64 (ones 64 ∷ []) 64 64 1 0 ∷ evaluating Joiner 64 (replicate 64 1) 1 1 64 0
    ∷ evaluating Input 65 (0 ∷ []) 65 1 65 0 ∷ evaluating Splitter 65 (0 ∷ []) 65 65 1 0 ∷ evaluating Joiner 65 (replicate 65 1) 1 1 65 0
    ∷ evaluating Input 64 (0 ∷ []) 63 1 64 0 ∷ evaluating Input 64 (0 ∷ []) 65 1 64 0 ∷ evaluating Output 63 ((2 ^ 63) ∷ []) 63 1 63 0 ∷ []
    ≡ (0 ∷ ones 64 ∷ []) ∷ (0 ∷ ones 63 ∷ []) ∷ (0 ∷ replicate 64 1) ∷ (0 ∷ ones 64 ∷ [])
    ∷ (9 ∷ 0 ∷ []) ∷ (9 ∷ replicate 65 0) ∷ (9 ∷ 0 ∷ []) ∷ (19 ∷ 0 ∷ []) ∷ (19 ∷ 0 ∷ []) ∷ (19 ∷ 0 ∷ []) ∷ []
unfolding evaluate_number evaluate_outputs outputs_after function_of fitting obeys
wide_evaluated = refl

-- A Const of width w and value x.
abbrev const_of : ℕ → ℕ → Fields
const_of w x = record { kind = number_of Const; inputs = 0; outputs = 1; width = w; parameter = x }

pub wide_consts :
    map (λ w. obeys (const_of w (ones w))) (63 ∷ 64 ∷ 65 ∷ []) ++ obeys (const_of 63 (2 ^ 63)) ∷ []
    ≡ true ∷ true ∷ false ∷ false ∷ []
unfolding obeys
wide_consts = refl

-- Values: the last bit of 64, the complement of 0 and of all ones; 2^64 - 1 fits 64 bits and no others.
pub wide_values :
    bit (of_width 64 (2 ^ 63)) 63 ∷ complement (of_width 64 0) ∷ complement (of_width 64 (ones 64)) ∷ complement (of_width 63 1) ∷ []
    ≡ of_width 1 1 ∷ of_width 64 (ones 64) ∷ of_width 64 0 ∷ of_width 63 (2 ^ 63 - 2) ∷ []
wide_values = refl

pub wide_fits :
    map (λ w. fits (of_width w (ones 64))) (63 ∷ 64 ∷ 65 ∷ []) ++ fits_in 64 (of_width 63 0) ∷ []
    ≡ false ∷ true ∷ false ∷ false ∷ []
wide_fits = refl
