-- Where 16 stood, 20: of tables with the components and wires of a load of the file, what 20 asks of ports and lists is what being a net asks of them.
-- The counts of ports are the file's where ports follow each other up to them.
-- Assumes nothing.
use mathlib.Core.Path.{◌≡◌, refl, sym, ◌∙◌}
use Prim.Native.Nat.{ℕ}
use mathlib.Core.Bool.{true}
use mathlib.Core.List.{List}
use native.Mathlib.Omega.{arith}
use Rattle.lists.proofs.TestsLaws.{tests_equal}
use Rattle.component.specs.declared.Record.{Record}
use Rattle.component.specs.Record.{record_at, record_count}
use Rattle.tables.specs.Tables.{Tables, full_size, current_list, following_list, standing_list}
use Rattle.tables.proofs.SizesLaws.{full_size-sound, full_size-complete}
use Rattle.net.specs.Net.{kinds_obeyed, ids_distinct, ports_follow, wires_fit, inputs_once, is_net}
use Rattle.net.proofs.ClausesLaws.{counts_within-sound, counts_within-complete, ports_follow-input_count, ports_follow-output_count}
use Rattle.net.proofs.NetLaws.{Net, is_net-sound, is_net-complete}
use Rattle.demands.proofs.Called.{Origin}
use Rattle.slow.specs.Slow.{SlowTables, slow_full, slow_of, slow_right}
use Rattle.slow.proofs.PreparingLaws.{slow_full-sound}
use Rattle.slow.proofs.WiredLaws.{right_sound, right_complete}
use Rattle.alike.specs.Alike.{beside}
use Rattle.alike.proofs.Drawn.{origin_on, is_drawn, names_drawn, values_drawn, consts_drawn}

-- A net is not given 20.
pub net_right : (file : List ℕ) (T : Tables) → Origin file T → Net T → slow_right (record_at file) (record_count file) (slow_of T) ≡ true
unfolding slow_right
net_right file T o N =
    let d = is_drawn file T o in
    let c = counts_within-sound T.counts N.counts in
    right_complete (record_at file) (record_count file) (slow_of T)
    (record {
      inputs = d.input_count_lem;
      outputs = d.output_count_lem;
      current = c.current;
      following = c.following;
      standing = c.standing;
      values = values_drawn file T o ∙ N.values;
      consts = consts_drawn file T o ∙ N.consts;
      names_current = names_drawn file T o (current_list T) ∙ N.current;
      names_following = names_drawn file T o (following_list T) ∙ N.following;
      names_standing = names_drawn file T o (standing_list T) ∙ N.standing;
    })

-- Any ports and lists S, beside the components and wires of a net T.
module _ (file : List ℕ) (T : Tables) (o : Origin file T) (N : Net T) (S : SlowTables) where
  abbrev at : ℕ → Record
  at = record_at file

  abbrev n : ℕ
  n = record_count file

  abbrev U : Tables
  U = beside S T

  -- Where the ports are as many as the net's, the tables come from the same load.
  beside_origin : S.counts.inputs ≡ T.counts.inputs → S.counts.outputs ≡ T.counts.outputs → Origin file U
  beside_origin e f =
      origin_on file T U o
      (record { components = refl; wires = refl; component_count = refl; input_count_lem = e; output_count_lem = f; wire_count = refl })

  -- What is not given 20 is a net: values, Consts and lists are asked for by both, all else T has.
  right_net : slow_right at n S ≡ true → Net U
  unfolding kinds_obeyed ids_distinct ports_follow wires_fit inputs_once
  right_net r =
      let p = right_sound at n S r in
      let d = is_drawn file T o in
      let w = counts_within-sound T.counts N.counts in
      let e = p.inputs ∙ sym d.input_count_lem in
      let f = p.outputs ∙ sym d.output_count_lem in
      let q = beside_origin e f in
      record {
        counts = counts_within-complete U.counts
            (record {
              components = w.components;
              inputs = omega (arith, e, w.inputs);
              outputs = omega (arith, f, w.outputs);
              wires = w.wires;
              current = p.current;
              following = p.following;
              standing = p.standing;
            });
        kinds = N.kinds;
        ids = N.ids;
        ports = rw (e, f) N.ports;
        values = sym (values_drawn file U q) ∙ p.values;
        consts = sym (consts_drawn file U q) ∙ p.consts;
        wires = N.wires;
        once = N.once;
        current = sym (names_drawn file U q (current_list U)) ∙ p.names_current;
        following = sym (names_drawn file U q (following_list U)) ∙ p.names_following;
        standing = sym (names_drawn file U q (standing_list U)) ∙ p.names_standing;
      }

  -- The ports of a net are as many as its components have.
  pub net_origin : is_net U ≡ true → Origin file U
  net_origin e =
      let M = is_net-sound U e in
      beside_origin (ports_follow-input_count U M.ports ∙ sym (ports_follow-input_count T N.ports))
      (ports_follow-output_count U M.ports ∙ sym (ports_follow-output_count T N.ports))

  pub right-is_net : slow_right at n S ≡ is_net U
  right-is_net =
      tests_equal (slow_right at n S) (is_net U) (λ r. is_net-complete U (right_net r)) (λ e. net_right file U (net_origin e) (is_net-sound U e))

  -- All seven tables are of full size where the five are.
  pub beside-full_size : full_size T ≡ true → slow_full S ≡ true → full_size U ≡ true
  beside-full_size e f =
      let t = full_size-sound T e in
      let s = slow_full-sound S f in
      full_size-complete U
      (record {
        components = t.components;
        inputs = s.inputs;
        outputs = s.outputs;
        wires = t.wires;
        current = s.current;
        following = s.following;
        standing = s.standing;
      })
