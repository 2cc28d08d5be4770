-- Looks at the lamp drawing and at a box in a box: what each gives back, and the first three words of the lent lists, which hold 7 before it.
-- One proof of them all, by computing the definitions. Assumes nothing.
use mathlib.Core.Path.{◌≡◌, refl}
use Prim.Native.Nat.{ℕ}
use mathlib.Core.List.{List, [], ◌∷◌, map}
use lib.ListN.{take, replicate}
use Rattle.lists.specs.Lists.{append_new, strike, overlay}
use Rattle.value.specs.declared.Value.{Value}
use Rattle.kinds.specs.Given.{Given, done, declined, verdict_gives}
use Rattle.kinds.specs.Kinds.{obeys}
use Rattle.primitive.specs.Evaluate.{function_of, outputs_after}
use Rattle.component.specs.Record.{record_at, inputs_of, outputs_of}
use Rattle.component.specs.Drawing.{deepest}
use Rattle.component.proofs.Drawings.{lamp, lamp_twice}
use Rattle.flatten.specs.Descent.{output_below, inputs_below, comes_from, goes_to}
use Rattle.flatten.specs.Verdict.{verdict, list_by}
use Rattle.meeting.specs.Meeting.{judgement}
use Rattle.tables.specs.Tables.{Tables, full_size}
use Rattle.load.specs.Load.{drawing_tables, load_verdict, load_tables}
use Rattle.net.specs.Net.{counts_within, kinds_obeyed, ids_distinct, ports_follow, values_fit, consts_held, wires_fit, inputs_once, names, is_net, net_number}
use Rattle.rounds.specs.Round.{leave, evaluated, send, visit, round, round_of}
use Rattle.simulator.specs.Edit.{stands, port_set, edited_state}
use Rattle.simulator.specs.Calls.{round_tables, edit_number, edit_tables}
use Rattle.boxes.specs.Boxes.{matched, dangling}
use Rattle.look.specs.Look.{shown, look_number, look_verdict, looked_at, values_shown}
use Rattle.demands.proofs.Lamp.{lamp_loaded, lamp_set}
use Rattle.looked.proofs.Boxes.{boxed, boxed_once, with_inputs}

-- What is seen of a look: what it gives back, and the first words of the lists of numbers and of widths after it.
pub record Seen : Type 0 where
  pub given : Given
  pub numbers : List ℕ
  pub widths : List ℕ

-- A look with lists of a and of b words.
abbrev looking_by : ℕ → ℕ → List ℕ → Tables → List ℕ → Seen
looking_by a b file T path =
    let ns : List ℕ = replicate a 7 in
    let ws : List ℕ = replicate b 7 in
    let found = look_verdict file T path ns ws in
    let box = record_at file (looked_at file path) in
    record {
      given = verdict_gives found (inputs_of box ∷ outputs_of box ∷ []);
      numbers = take 3 (list_by found (map (λ (v : Value). v.number) (values_shown file T path)) ns);
      widths = take 3 (list_by found (map (λ (v : Value). v.width) (values_shown file T path)) ws);
    }

abbrev looking : List ℕ → Tables → List ℕ → Seen
looking = looking_by 256 256

-- The lamp drawing after two rounds: calm.
abbrev lamp_calm : Tables
lamp_calm = round_tables (round_tables lamp_loaded 0) 0

-- What is wanted: so many inputs and outputs, with these words; or a refusal, which leaves the lists.
abbrev ports : ℕ → ℕ → List ℕ → List ℕ → Seen
ports i o ns ws = record { given = done (i ∷ o ∷ []); numbers = ns; widths = ws }

abbrev refused_against : ℕ → ℕ → ℕ → Seen
refused_against k p q =
    record { given = declined (record { number = k; position = p; earlier = q }); numbers = 7 ∷ 7 ∷ 7 ∷ []; widths = 7 ∷ 7 ∷ 7 ∷ [] }

abbrev refused_as : ℕ → ℕ → Seen
refused_as k p = refused_against k p 0

-- What each look shows, or the number and position of its refusal.
pub looks_hold :
    -- The root of the lamp drawing has no ports.
    (looking lamp lamp_loaded [] ≡ ports 0 0 (7 ∷ 7 ∷ 7 ∷ []) (7 ∷ 7 ∷ 7 ∷ []))
    -- When calm, the box shows the Nor's inputs and its output, and so does the Nor itself.
    × (looking lamp lamp_calm (3 ∷ []) ≡ ports 2 1 (0 ∷ 0 ∷ 1 ∷ []) (1 ∷ 1 ∷ 1 ∷ []))
    × (looking lamp lamp_calm (3 ∷ 4 ∷ []) ≡ ports 2 1 (0 ∷ 0 ∷ 1 ∷ []) (1 ∷ 1 ∷ 1 ∷ []))
    -- A Switch has an output alone.
    × (looking lamp lamp_loaded (1 ∷ []) ≡ ports 0 1 (0 ∷ 7 ∷ 7 ∷ []) (1 ∷ 7 ∷ 7 ∷ []))
    -- Switch 0 is set, and that has come through.
    × (looking lamp (lamp_set stands 5) (3 ∷ []) ≡ ports 2 1 (1 ∷ 0 ∷ 0 ∷ []) (1 ∷ 1 ∷ 1 ∷ []))
    -- No child of the root; below a primitive; the root's own id.
    × (looking lamp lamp_loaded (4 ∷ []) ≡ refused_as 20 0)
    × (looking lamp lamp_loaded (3 ∷ 4 ∷ 9 ∷ []) ≡ refused_as 20 0)
    × (looking lamp lamp_loaded (100 ∷ []) ≡ refused_as 20 0)
    -- Input 0 of the box reaches the Or and then the Not, whose input alone holds 1: the last is shown, and not the first.
    × (looking boxed (with_inputs boxed (1 ∷ 0 ∷ 0 ∷ [])) (20 ∷ []) ≡ ports 2 1 (1 ∷ 0 ∷ 0 ∷ []) (1 ∷ 1 ∷ 1 ∷ []))
    -- Without a map of input 1 the box is refused, and the box in it is not.
    × (looking boxed_once (with_inputs boxed_once (1 ∷ 0 ∷ 0 ∷ [])) (20 ∷ []) ≡ refused_as 21 0)
    × (looking boxed_once (with_inputs boxed_once (1 ∷ 0 ∷ 0 ∷ [])) (20 ∷ 30 ∷ []) ≡ ports 1 1 (1 ∷ 0 ∷ 7 ∷ []) (1 ∷ 1 ∷ 7 ∷ []))
    -- Tables of another drawing, also where the box would be refused with 21.
    × (looking boxed lamp_loaded (20 ∷ []) ≡ refused_as 20 0)
    × (looking boxed_once lamp_loaded (20 ∷ []) ≡ refused_as 20 0)
    -- A file that a load refuses.
    × (looking lamp_twice lamp_loaded (3 ∷ []) ≡ refused_against 13 9 6)
    -- A list of 255 words, either one; also with a file that a load refuses.
    × (looking_by 255 256 lamp lamp_loaded (3 ∷ []) ≡ refused_as 2 0)
    × (looking_by 256 255 lamp_twice lamp_loaded (3 ∷ []) ≡ refused_as 2 0)
    -- An input of one bit that holds 2: no net, also where there is no such path.
    × (looking lamp (with_inputs lamp (2 ∷ [])) (4 ∷ []) ≡ refused_as 16 0)
    -- An empty file, also with short lists.
    × (looking [] lamp_loaded [] ≡ refused_as 1 0)
    × (looking_by 255 255 [] lamp_loaded [] ≡ refused_as 1 0)
unfolding load_tables load_verdict drawing_tables judgement verdict overlay full_size deepest obeys output_below inputs_below comes_from goes_to round_tables net_number is_net counts_within kinds_obeyed ids_distinct ports_follow values_fit consts_held wires_fit inputs_once names round_of leave round visit evaluated send outputs_after function_of append_new strike edit_tables edit_number edited_state port_set matched dangling shown look_number look_verdict
looks_hold = (refl, refl, refl, refl, refl, refl, refl, refl, refl, refl, refl, refl, refl, refl, refl, refl, refl, refl, refl)
