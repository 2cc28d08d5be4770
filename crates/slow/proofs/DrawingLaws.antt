-- What an accepted file gives the steps of a round: its components can be evaluated, and along its wires can be sent.
-- Assumes nothing.
use mathlib.Core.Path.{◌≡◌, refl, sym, ap, ◌∙◌, subst}
use Prim.Native.Nat.{ℕ, ◌*◌, ◌≤◌, ◌<◌}
use mathlib.Core.Bool.{true}
use mathlib.Core.List.{List, []}
use native.Mathlib.Omega.{arith}
use lib.Dec.{eqb}
use lib.ListN.{length, replicate, length-replicate}
use Rattle.lists.specs.Lists.{joined, overlay}
use Rattle.lists.proofs.MembersLaws.{In, keep_sound}
use Rattle.lists.proofs.OverlayLaws.{overlay_length, joined_width}
use Rattle.component.specs.declared.Record.{Record}
use Rattle.component.specs.Record.{record_at, record_count}
use Rattle.component.specs.Drawing.{inputs_before, outputs_before}
use Rattle.flatten.specs.Verdict.{verdict}
use Rattle.flatten.proofs.Accepted.{Passed, accepted_passed}
use Rattle.flatten.proofs.WireTheorems.{accepted_wires_width, accepted_primitives_bound, accepted_inputs_bound, accepted_outputs_bound}
use Rattle.tables.specs.declared.Wire.{Wire}
use Rattle.tables.specs.Tables.{Tables, tables_of, counts_of, wire_words, wires_in}
use Rattle.tables.specs.Words.{no_counts, uncounted}
use Rattle.laying.specs.Laid.{primitives, primitive_words, flat_wires}
use Rattle.load.specs.Load.{drawing_tables}
use Rattle.loaded.proofs.Drawn.{IsDrawn, loaded_drawn, drawn_kept}
use Rattle.loaded.proofs.DrawnNet.{drawn-kinds_obeyed, drawn-ports_follow, drawn-wires_fit}
use Rattle.net.specs.Net.{kinds_obeyed, ports_follow, wires_fit}
use Rattle.net.proofs.ClausesLaws.{kinds_obeyed-at, ports_follow-inputs, ports_follow-outputs}
use Rattle.net.proofs.NetLaws.{is_output-comp, is_output-port, is_input-comp, is_input-port, wires_fit-source, wires_fit-target}
use Rattle.rounds.specs.Steps.{bare, CanEvaluate, CanReach}
use Rattle.slow.specs.Slow.{leaving, drawn_words}
use Rattle.slow.specs.Sending.{Drawing}
use Rattle.slow.proofs.Handed.{leaving_stored}
use Rattle.std.specs.Prelude.{Ok}

-- No word of any table.
abbrev pub blank : Tables
blank = tables_of (replicate 2048 0) [] [] (replicate 4096 0) [] [] [] no_counts

-- The words of the components of an accepted file fill no more than a table of full size.
pub words_long : (file : List ℕ) → Passed (record_at file) (record_count file)
    → length (primitives (record_at file) (record_count file)) ≤ 256
    → length (drawn_words (record_at file) (record_count file)) ≡ 2048
words_long file d few =
    let at = record_at file in
    let n = record_count file in
    let long : length (joined (primitive_words at n) (primitives at n)) ≡ 8 * length (primitives at n) =
    joined_width (primitive_words at n) 8 (λ x. refl) (primitives at n) in
    overlay_length (joined (primitive_words at n) (primitives at n)) (replicate 2048 0)
    (omega (arith, long, few, length-replicate {A = ℕ} 2048 0))
    ∙ length-replicate {A = ℕ} 2048 0

-- An accepted file, the words of its components, and tables of ports of full size.
module _ (file cs is os : List ℕ) (accepted : verdict file ≡ Ok tt) (words : cs ≡ drawn_words (record_at file) (record_count file))
    (ins : 1024 ≤ length is) (outs : 1024 ≤ length os) where
  abbrev at : ℕ → Record
  at = record_at file

  abbrev n : ℕ
  n = record_count file

  passed : Passed at n
  passed = accepted_passed file accepted

  -- The components of the file with all its wires.
  abbrev U : Tables
  U =
      tables_of cs is os (overlay (joined wire_words (flat_wires at n)) (replicate 4096 0)) [] [] []
      (counts_of (length (primitives at n)) (inputs_before at n) (outputs_before at n) (length (flat_wires at n)) 0 0 0)

  is_drawn : IsDrawn at n U
  unfolding drawing_tables
  is_drawn =
      drawn_kept at n (drawing_tables at n blank) U
      (record {
        components = words;
        wires = refl;
        component_count = refl;
        input_count_lem = refl;
        output_count_lem = refl;
        wire_count = refl;
      })
      (loaded_drawn at n passed blank)

  kinds : kinds_obeyed U ≡ true
  kinds = drawn-kinds_obeyed at n passed U is_drawn

  ports : ports_follow U ≡ true
  ports = drawn-ports_follow at n passed U is_drawn

  few : length (primitives at n) ≤ 256
  few = accepted_primitives_bound file accepted

  rows : 8 * 256 ≤ length cs
  rows = omega (arith, ap (λ (l : List ℕ). length l) (words), words_long file passed few)

  -- Each component can be evaluated.
  pub words_evaluate : (i : ℕ) → i < length (primitives at n) → CanEvaluate (uncounted cs []) is os i
  words_evaluate i h =
      record {
        few = omega (arith, few, h);
        row = omega (arith, rows, few, h);
        obeyed = kinds_obeyed-at U kinds i h;
        inputs_in = omega (arith, ports_follow-inputs U ports i h, accepted_inputs_bound file accepted, ins);
        outputs_in = omega (arith, ports_follow-outputs U ports i h, accepted_outputs_bound file accepted, outs);
      }

  fit : wires_fit U ≡ true
  fit = drawn-wires_fit at n passed U is_drawn (accepted_wires_width file accepted)

  -- Along each wire of the drawing can be sent.
  words_reach : (w : Wire) → In w (flat_wires at n) → CanReach (bare cs) is os w
  words_reach w b =
      let c : In w (wires_in U) = subst (λ (ws : List Wire). In w ws) (sym is_drawn.wires) b in
      let s = wires_fit-source U fit w c in
      let t = wires_fit-target U fit w c in
      let u = is_output-comp U w.src s in
      let v = is_input-comp U w.dst t in
      record {
        few = omega arith;
        rows = rows;
        leaves = omega (arith, u, few);
        named = omega (arith, v, few);
        source = omega (
          arith,
          is_output-port U w.src s,
          ports_follow-outputs U ports w.src.comp.0 u,
          accepted_outputs_bound file accepted,
          outs,
        );
        target = omega (
          arith,
          is_input-port U w.dst t,
          ports_follow-inputs U ports w.dst.comp.0 v,
          accepted_inputs_bound file accepted,
          ins,
        );
      }

  pub leaving_wires : (i : ℕ) (w : Wire) → In w (leaving at n i) → CanReach (bare cs) is os w
  leaving_wires i w b =
      words_reach w
      (keep_sound (λ (v : Wire). eqb v.src.comp.0 i) w (flat_wires at n)
      (subst (λ (ws : List Wire). In w ws) (leaving_stored at n i) b)).1

module _ (file index fs cs is os : List ℕ) (d : Drawing file index fs cs is os) where
  pub drawing_evaluates : (i : ℕ) → i < length (primitives (record_at file) (record_count file)) → CanEvaluate (uncounted cs []) is os i
  drawing_evaluates = words_evaluate file cs is os d.ready.accepted d.words d.inputs d.outputs

  pub leaving_reach : (i : ℕ) (w : Wire) → In w (leaving (record_at file) (record_count file) i) → CanReach (bare cs) is os w
  leaving_reach = leaving_wires file cs is os d.ready.accepted d.words d.inputs d.outputs
