-- The tables that 20 does not refuse are a net once the drawing's wires are laid beside them, so that what is known of rounds of a net is known of
-- rounds straight from the drawing: they leave such tables again.
--   SlowParts S     what 20 asks, clause by clause
--   wired S         the components of the file with the ports and lists of S, and its wires
-- Assumes nothing.
use mathlib.Core.Path.{◌≡◌, refl, sym, ap, ◌∙◌}
use Prim.Native.Nat.{ℕ, ◌*◌, ◌≤◌}
use mathlib.Core.Bool.{Bool, true, ◌&&◌}
use mathlib.Core.List.{List}
use native.Mathlib.Omega.{arith}
use borrow.Author.Tests.{leb-true, eqb-true, le-leb, eq-eqb}
use lib.ListN.{length, take, replicate, length-replicate}
use lib.Dec.{eqb, leb}
use Rattle.lists.specs.Lists.{joined, overlay}
use Rattle.lists.proofs.TestsLaws.{and_left, and_right}
use Rattle.lists.proofs.OverlayLaws.{overlay_length, joined_width}
use Rattle.component.specs.declared.Record.{Record}
use Rattle.component.specs.Record.{IsBytes, record_at, record_count}
use Rattle.component.specs.Drawing.{inputs_before, outputs_before}
use Rattle.flatten.specs.Verdict.{verdict}
use Rattle.flatten.proofs.Accepted.{Passed, accepted_passed}
use Rattle.flatten.proofs.WireTheorems.{accepted_wires_width, accepted_primitives_bound, accepted_inputs_bound, accepted_outputs_bound}
use Rattle.tables.specs.declared.Wire.{Wire}
use Rattle.tables.specs.Tables.{Tables, tables_of, counts_of, full_size, wire_words}
use Rattle.tables.proofs.SizesLaws.{full_size-complete}
use Rattle.laying.specs.Laid.{primitives, flat_wires}
use Rattle.laying.proofs.FlatWires.{flat_wires-bound}
use Rattle.load.specs.Load.{drawing_tables}
use Rattle.loaded.proofs.Drawn.{IsDrawn, loaded_drawn, drawn_kept}
use Rattle.loaded.proofs.DrawnNet.{drawn-kinds_obeyed, drawn-ids_distinct, drawn-ports_follow, drawn-wires_fit, drawn-inputs_once}
use Rattle.loaded.proofs.Bytes.{record_at-id}
use Rattle.net.specs.Net.{values_fit, consts_held, names, net_number}
use Rattle.net.proofs.ClausesLaws.{counts_within-sound, counts_within-complete}
use Rattle.net.proofs.NetLaws.{net_number-0, net_number-net, net_number-sizes, is_net-complete}
use Rattle.rounds.specs.Round.{state_of, leave, wires_from, evaluated, send, visit, round, round_of}
use Rattle.simulator.specs.Calls.{round_tables}
use Rattle.simulator.proofs.Kept.{round_tables-done, round_tables-net}
use Rattle.slow.specs.Slow.{SlowTables, slow_full, slow_of, drawn, slow_round_of, slow_right, drawn_words}
use Rattle.slow.proofs.Handed.{leaving_stored}
use Rattle.slow.proofs.DrawingLaws.{blank, words_long}
use Rattle.slow.proofs.PreparingLaws.{SlowSizes, slow_full-sound}
use Rattle.std.specs.Prelude.{Ok}

-- What 20 asks.
pub record SlowParts (at : ℕ → Record) (n : ℕ) (S : SlowTables) : Type 0 where
  pub inputs : S.counts.inputs ≡ inputs_before at n
  pub outputs : S.counts.outputs ≡ outputs_before at n
  pub current : S.counts.current ≤ 256
  pub following : S.counts.following ≤ 256
  pub standing : S.counts.standing ≤ 256
  pub values : values_fit (drawn at n S) ≡ true
  pub consts : consts_held (drawn at n S) ≡ true
  pub names_current : names (drawn at n S) (take S.counts.current S.current) ≡ true
  pub names_following : names (drawn at n S) (take S.counts.following S.following) ≡ true
  pub names_standing : names (drawn at n S) (take S.counts.standing S.standing) ≡ true

module _ (at : ℕ → Record) (n : ℕ) (S : SlowTables) where
  abbrev i : Bool
  i = eqb S.counts.inputs (inputs_before at n)

  abbrev o : Bool
  o = eqb S.counts.outputs (outputs_before at n)

  abbrev c : Bool
  c = leb S.counts.current 256

  abbrev f : Bool
  f = leb S.counts.following 256

  abbrev d : Bool
  d = leb S.counts.standing 256

  abbrev v : Bool
  v = values_fit (drawn at n S)

  abbrev k : Bool
  k = consts_held (drawn at n S)

  abbrev nc : Bool
  nc = names (drawn at n S) (take S.counts.current S.current)

  abbrev nf : Bool
  nf = names (drawn at n S) (take S.counts.following S.following)

  abbrev ns : Bool
  ns = names (drawn at n S) (take S.counts.standing S.standing)

  pub right_sound : slow_right at n S ≡ true → SlowParts at n S
  unfolding slow_right
  right_sound e =
      let counts = i && o && c && f && d in
      let lists = nc && nf && ns in
      let three = and_left (counts && v && k) lists e in
      let last = and_right (counts && v && k) lists e in
      let two = and_left (counts && v) k three in
      let five = and_left counts v two in
      let four = and_left (i && o && c && f) d five in
      let thirds = and_left (i && o && c) f four in
      let seconds = and_left (i && o) c thirds in
      record {
        inputs = eqb-true _ _ (and_left i o seconds);
        outputs = eqb-true _ _ (and_right i o seconds);
        current = leb-true _ 256 (and_right (i && o) c thirds);
        following = leb-true _ 256 (and_right (i && o && c) f four);
        standing = leb-true _ 256 (and_right (i && o && c && f) d five);
        values = and_right counts v two;
        consts = and_right (counts && v) k three;
        names_current = and_left nc nf (and_left (nc && nf) ns last);
        names_following = and_right nc nf (and_left (nc && nf) ns last);
        names_standing = and_right (nc && nf) ns last;
      }

  pub right_complete : SlowParts at n S → slow_right at n S ≡ true
  unfolding slow_right
  right_complete p =
      rw (
        eq-eqb _ _ p.inputs,
        eq-eqb _ _ p.outputs,
        le-leb _ 256 p.current,
        le-leb _ 256 p.following,
        le-leb _ 256 p.standing,
        p.values,
        p.consts,
        p.names_current,
        p.names_following,
        p.names_standing,
      )

pub slow_full-complete : (S : SlowTables) → SlowSizes S → slow_full S ≡ true
unfolding slow_full
slow_full-complete S z =
    rw (
      le-leb 1024 _ z.inputs,
      le-leb 1024 _ z.outputs,
      le-leb 256 _ z.current,
      le-leb 256 _ z.following,
      le-leb 256 _ z.standing,
    )

-- An accepted file of bytes.
module _ (file : List ℕ) (bytes : IsBytes file) (accepted : verdict file ≡ Ok tt) where
  abbrev at : ℕ → Record
  at = record_at file

  abbrev n : ℕ
  n = record_count file

  passed : Passed at n
  passed = accepted_passed file accepted

  few : length (primitives at n) ≤ 256
  few = accepted_primitives_bound file accepted

  abbrev wire_table : List ℕ
  wire_table = overlay (joined wire_words (flat_wires at n)) (replicate 4096 0)

  abbrev pub wired : SlowTables → Tables
  wired S =
      tables_of (drawn_words at n) S.inputs S.outputs wire_table S.current S.following S.standing
      (counts_of (length (primitives at n)) S.counts.inputs S.counts.outputs (length (flat_wires at n)) S.counts.current
      S.counts.following S.counts.standing)

  wires_long : length wire_table ≡ 4096
  wires_long =
      let long : length (joined wire_words (flat_wires at n)) ≡ 4 * length (flat_wires at n) = joined_width wire_words 4 (λ w. refl) (flat_wires at n) in
      overlay_length (joined wire_words (flat_wires at n)) (replicate 4096 0)
      (omega (arith, long, flat_wires-bound at n passed, length-replicate {A = ℕ} 4096 0))
      ∙ length-replicate {A = ℕ} 4096 0

  -- Full size, and a net.
  module _ (S : SlowTables) (full : slow_full S ≡ true) (right : slow_right at n S ≡ true) where
    wired_full : full_size (wired S) ≡ true
    wired_full =
        let z = slow_full-sound S full in
        full_size-complete (wired S)
        (record {
          components = omega (arith, words_long file passed few);
          inputs = z.inputs;
          outputs = z.outputs;
          wires = omega (arith, wires_long);
          current = z.current;
          following = z.following;
          standing = z.standing;
        })

    parts : SlowParts at n S
    parts = right_sound at n S right

    pub is_drawn : IsDrawn at n (wired S)
    unfolding drawing_tables
    is_drawn =
        drawn_kept at n (drawing_tables at n blank) (wired S)
        (record {
          components = refl;
          wires = refl;
          component_count = refl;
          input_count_lem = parts.inputs;
          output_count_lem = parts.outputs;
          wire_count = refl;
        })
        (loaded_drawn at n passed blank)

    pub right_net : net_number (wired S) ≡ 0
    unfolding values_fit consts_held names
    right_net =
        sym (net_number-0 (wired S) wired_full
        (is_net-complete (wired S)
        (record {
          counts =
              counts_within-complete (wired S).counts
              (record {
                components = few;
                inputs = omega (arith, parts.inputs, accepted_inputs_bound file accepted);
                outputs = omega (arith, parts.outputs, accepted_outputs_bound file accepted);
                wires = flat_wires-bound at n passed;
                current = parts.current;
                following = parts.following;
                standing = parts.standing;
              });
          kinds = drawn-kinds_obeyed at n passed (wired S) is_drawn;
          ids = drawn-ids_distinct at n passed (wired S) is_drawn (λ c e. record_at-id file bytes c);
          ports = drawn-ports_follow at n passed (wired S) is_drawn;
          values = parts.values;
          consts = parts.consts;
          wires = drawn-wires_fit at n passed (wired S) is_drawn (accepted_wires_width file accepted);
          once = drawn-inputs_once at n passed (wired S) is_drawn;
          current = parts.names_current;
          following = parts.names_following;
          standing = parts.names_standing;
        })))

    -- A round of that net is the round straight from the drawing.
    round_wired : (t : ℕ) → round_tables (wired S) t ≡ wired (slow_of (slow_round_of at n t (drawn at n S)))
    unfolding round_of slow_round_of leave round visit evaluated send
    round_wired t =
        round_tables-done (wired S) t right_net
        ∙ ap (λ (ws : List Wire). leave (wired S) (round (wired S) (wires_from ws) t (state_of (wired S)))) is_drawn.wires
        ∙ (λ j. leave (wired S) (round (wired S) (λ i. sym (leaving_stored at n i) j) t (state_of (wired S))))

    -- So a round leaves tables that 20 does not refuse.
    module _ (t : ℕ) where
      abbrev left : SlowTables
      left = slow_of (slow_round_of at n t (drawn at n S))

      still_net : net_number (wired left) ≡ 0
      still_net = ap net_number (sym (round_wired t)) ∙ round_tables-net (wired S) t right_net

      pub still_full : slow_full left ≡ true
      still_full =
          let z = net_number-sizes (wired left) still_net in
          slow_full-complete left
          (record { inputs = z.inputs; outputs = z.outputs; current = z.current; following = z.following; standing = z.standing })

      counts_kept : (left.counts.inputs ≡ S.counts.inputs) × (left.counts.outputs ≡ S.counts.outputs)
      unfolding slow_round_of leave
      counts_kept = (refl, refl)

      pub still_right : slow_right at n left ≡ true
      unfolding values_fit consts_held names
      still_right =
          let net = net_number-net (wired left) still_net in
          let w = counts_within-sound (wired left).counts net.counts in
          right_complete at n left
          (record {
            inputs = counts_kept.0 ∙ parts.inputs;
            outputs = counts_kept.1 ∙ parts.outputs;
            current = w.current;
            following = w.following;
            standing = w.standing;
            values = net.values;
            consts = net.consts;
            names_current = net.current;
            names_following = net.following;
            names_standing = net.standing;
          })
