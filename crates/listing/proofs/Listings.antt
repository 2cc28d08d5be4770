-- What the definition makes of some files: the lamp drawing, a refused file, one that is never calm, all kinds. Each is a computation.
-- Assumes nothing.
use mathlib.Core.Path.{◌≡◌, refl}
use mathlib.Core.List.{List, ◌++◌}
use Prim.Native.Nat.{ℕ}
use Rattle.lists.specs.Lists.{append_new, strike, overlay}
use Rattle.kinds.specs.Kinds.{obeys}
use Rattle.primitive.specs.Evaluate.{function_of, outputs_after}
use Rattle.component.specs.Drawing.{deepest}
use Rattle.flatten.specs.Descent.{output_below, inputs_below, comes_from, goes_to}
use Rattle.flatten.specs.Verdict.{verdict}
use Rattle.meeting.specs.Meeting.{judgement}
use Rattle.tables.specs.Tables.{full_size}
use Rattle.load.specs.Load.{drawing_tables, load_verdict, load_tables}
use Rattle.net.specs.Net.{counts_within, kinds_obeyed, ids_distinct, ports_follow, values_fit, consts_held, wires_fit, inputs_once, names, is_net, net_number}
use Rattle.rounds.specs.Round.{leave, evaluated, send, visit, round, calm, round_of}
use Rattle.simulator.specs.Calls.{round_tables}
use Rattle.component.proofs.Drawings.{record_bytes, component_bytes, connection_bytes, lamp, lamp_twice}
use Rattle.text.specs.Text.{numeral, ascii}
use Rattle.lines.specs.Lines.{component_line, wire_line}
use Rattle.running.specs.Running.{round_lines}
use Rattle.listing.specs.Listing.{listing}

pub lamp_listing :
    listing lamp
    ≡ ascii "components 4\n0 Switch 1\n1 Switch 2\n2 Nor 4\n3 Output 5\nwires 3\n0.0 2.0\n1.0 2.1\n2.0 3.0\nround 1 next 3\nround 2 next\ncalm\n"
unfolding listing round_lines component_line wire_line numeral load_tables load_verdict drawing_tables judgement verdict overlay full_size deepest obeys output_below inputs_below comes_from goes_to round_tables net_number is_net counts_within kinds_obeyed ids_distinct ports_follow values_fit consts_held wires_fit inputs_once names round_of leave round visit evaluated send outputs_after function_of append_new strike calm
lamp_listing = refl

pub twice_listing : listing lamp_twice ≡ ascii "refused 13 at 9 against 6\n"
unfolding listing numeral load_tables load_verdict drawing_tables judgement verdict overlay full_size deepest obeys output_below inputs_below comes_from goes_to
twice_listing = refl

-- A Not whose output leads to its own input: sixteen rounds, and not calm.
abbrev ring : List ℕ
ring = component_bytes 0 0 0 0 1 0 ++ component_bytes 3 0 1 1 2 0 ++ connection_bytes 0 0 0 0 0

pub ring_listing :
    listing ring
    ≡ ascii "components 1\n0 Not 2\nwires 1\n0.0 0.0\nround 1 next 0\nround 2 next 0\nround 3 next 0\nround 4 next 0\nround 5 next 0\nround 6 next 0\nround 7 next 0\nround 8 next 0\nround 9 next 0\nround 10 next 0\nround 11 next 0\nround 12 next 0\nround 13 next 0\nround 14 next 0\nround 15 next 0\nround 16 next 0\nnot calm\n"
unfolding listing round_lines component_line wire_line numeral load_tables load_verdict drawing_tables judgement verdict overlay full_size deepest obeys output_below inputs_below comes_from goes_to round_tables net_number is_net counts_within kinds_obeyed ids_distinct ports_follow values_fit consts_held wires_fit inputs_once names round_of leave round visit evaluated send outputs_after function_of append_new strike calm
ring_listing = refl

-- A drawing of all kinds.
abbrev all_kinds : List ℕ
all_kinds =
    component_bytes 0 0 0 0 100 0 ++ component_bytes 1 0 2 1 1 0 ++ component_bytes 2 0 2 1 2 0 ++ component_bytes 3 0 1 1 3 0
    ++ component_bytes 4 0 2 1 4 0 ++ component_bytes 5 0 2 1 5 0 ++ component_bytes 6 0 2 1 6 0 ++ component_bytes 7 0 0 1 7 0
    ++ component_bytes 8 0 1 1 8 1 ++ component_bytes 9 0 1 1 9 1 ++ component_bytes 10 0 1 2 10 2 ++ component_bytes 11 0 2 1 11 2
    ++ component_bytes 12 0 0 1 12 10 ++ record_bytes 1 13 0 0 1 1 0 13 0 ++ component_bytes 15 0 3 1 15 0

pub all_kinds-listing :
    listing all_kinds
    ≡ ascii "components 14\n0 And 1\n1 Or 2\n2 Not 3\n3 Nand 4\n4 Nor 5\n5 Xor 6\n6 Switch 7\n7 Input 8\n8 Output 9\n9 Splitter 10\n10 Joiner 11\n11 Clock 12\n12 Const 13\n13 Majority 15\nwires 0\nround 1 next 11 12\nround 2 next 11\ncalm\n"
unfolding listing round_lines component_line wire_line numeral load_tables load_verdict drawing_tables judgement verdict overlay full_size deepest obeys output_below inputs_below comes_from goes_to round_tables net_number is_net counts_within kinds_obeyed ids_distinct ports_follow values_fit consts_held wires_fit inputs_once names round_of leave round visit evaluated send outputs_after function_of append_new strike calm
all_kinds-listing = refl
