-- What a screen does every morning: the lamp drawing, loaded and run until calm at time 0, is satisfied. By `calm_satisfied`, whose hypotheses
-- it meets: the drawing is accepted, a round has run, and the state is calm. Assumes nothing.
use mathlib.Core.Path.{◌≡◌, refl, subst}
use mathlib.Core.Bool.{Bool, true, false, cond}
use mathlib.Core.List.{List, [], ◌∷◌}
use Prim.Native.Nat.{ℕ, zero, suc, ◌<◌}
use native.Mathlib.Omega.{arith}
use borrow.Author.Tests.{eq-eqb, ltb-true}
use lib.ListN.{get_or}
use lib.Dec.{ltb}
use Rattle.lists.specs.Lists.{every, append_new, strike, overlay}
use Rattle.lists.proofs.TestsLaws.{and_left, and_right}
use Rattle.kinds.specs.Kinds.{obeys}
use Rattle.primitive.specs.Evaluate.{function_of, outputs_after}
use Rattle.component.specs.Record.{IsBytes, record_at, record_count}
use Rattle.component.specs.Drawing.{deepest}
use Rattle.flatten.specs.Descent.{output_below, inputs_below, comes_from, goes_to}
use Rattle.flatten.specs.Verdict.{verdict}
use Rattle.meeting.specs.Meeting.{judgement}
use Rattle.tables.specs.Tables.{Tables, full_size}
use Rattle.load.specs.Load.{drawing_tables, load_verdict, load_tables}
use Rattle.net.specs.Net.{counts_within, kinds_obeyed, ids_distinct, ports_follow, values_fit, consts_held, wires_fit, inputs_once, names, is_net, net_number}
use Rattle.rounds.specs.Round.{leave, evaluated, send, visit, round, calm, round_of}
use Rattle.simulator.specs.Calls.{round_tables, run_by, run, run_tables}
use Rattle.component.proofs.Drawings.{lamp}
use Rattle.demands.proofs.Lamp.{sevens, lamp_loaded}
use Rattle.demands.specs.Reached.{Reached, until_calm, called}
use Rattle.demands.specs.Reached as reached
use Rattle.demands.specs.Demand.{Satisfied}
use Rattle.demands.proofs.Demand3.{demand3}
use Rattle.demands.proofs.Calm.{calm_satisfied}
use Rattle.std.specs.Prelude.{Ok}

lamp_load : load_verdict lamp sevens ≡ Ok tt
unfolding load_verdict judgement verdict full_size deepest obeys output_below inputs_below comes_from goes_to
lamp_load = refl

-- The tables after the run.
abbrev pub lamp_calm : Tables
lamp_calm = run_tables lamp_loaded 0 16

lamp_reached : IsBytes lamp → Reached lamp true 0 lamp_calm
lamp_reached b =
    let l = reached.loaded sevens b lamp_load in
    let z = (demand3 lamp false 0 lamp_loaded l).0 in
    subst (λ (r : Bool). Reached lamp r (cond r 0 0) lamp_calm) (eq-eqb (net_number lamp_loaded) 0 z) (called (until_calm 0 16) l)

-- It leaves calm.
lamp_left_calm : calm lamp_calm ≡ true
unfolding load_tables load_verdict drawing_tables judgement verdict overlay full_size deepest obeys output_below inputs_below comes_from goes_to round_tables net_number is_net counts_within kinds_obeyed ids_distinct ports_follow values_fit consts_held wires_fit inputs_once names round_of leave round visit evaluated send outputs_after function_of append_new strike run_tables run_by calm
lamp_left_calm = refl

bytes_below : (xs : List ℕ) → every (λ x. ltb x 256) xs ≡ true → (i : ℕ) → get_or xs i 0 < 256
bytes_below [] e i = omega arith
bytes_below (x ∷ xs) e zero = ltb-true x 256 (and_left (ltb x 256) (every (λ y. ltb y 256) xs) e)
bytes_below (x ∷ xs) e (suc i) = bytes_below xs (and_right (ltb x 256) (every (λ y. ltb y 256) xs) e) i

pub lamp_satisfied : Satisfied (record_at lamp) (record_count lamp) lamp_calm 0
lamp_satisfied = calm_satisfied lamp 0 lamp_calm (lamp_reached (bytes_below lamp refl)) lamp_left_calm
