-- Tables with a state left in them: the state is found there again, and where it is one that the net may have, the
-- tables are a net of full size, clause by clause.
-- Assumes nothing.
use mathlib.Core.Path.{◌≡◌, refl, ap, ◌∙◌}
use mathlib.Core.Bool.{Bool, true, false, not, ◌&&◌, ◌||◌}
use mathlib.Core.List.{List}
use Prim.Native.Nat.{ℕ, ◌≤◌, ◌<◌}
use native.Mathlib.Omega.{arith}
use borrow.Author.Tests.{eq-eqb}
use lib.ListN.{length, get_or}
use lib.Dec.{eqb}
use Rattle.lists.proofs.MembersLaws.{every_complete, from0_sound}
use Rattle.lists.proofs.NamesLaws.{Names, names_sound, names_complete, names_length}
use Rattle.lists.proofs.OverlayLaws.{overlay_length, overlay_front}
use Rattle.value.specs.Value.{all_fit}
use Rattle.kinds.specs.declared.Kind.TheVariants.{Const}
use Rattle.kinds.specs.Kinds.{is, input_width, output_width}
use Rattle.tables.specs.Tables.{Tables, full_size, fields_at, first_input, first_output, inputs_at, outputs_at, indexes, current_list, following_list, standing_list}
use Rattle.tables.proofs.SizesLaws.{Full, full_size-sound, full_size-complete}
use Rattle.tables.proofs.SameLaws.{SameWiring, SameLengths}
use Rattle.net.specs.Net.{counts_within, kinds_obeyed, ids_distinct, ports_follow, values_fit, consts_held, wires_fit, inputs_once, names, is_net, net_number}
use Rattle.net.proofs.ClausesLaws.{Within, counts_within-sound, counts_within-complete}
use Rattle.net.proofs.NetLaws.{Net, is_net-sound, is_net-complete, net_number-full, net_number-is_net, values_fit-inputs, values_fit-outputs, consts_held-at}
use Rattle.rounds.specs.Round.{State, state_of, leave}
use Rattle.rounds.proofs.Ports.{numbers_fit_at, numbers_fit}
use Rattle.rounds.proofs.Sound.{Sound, is_net-wiring}
use Rattle.rounds.proofs.Held.{Held}

-- The state that was left is the state that is found.
pub state_of-leave : (T : Tables) (s : State) → state_of (leave T s) ≡ s
unfolding leave
state_of-leave T s =
    λ i. record {
      inputs = s.inputs;
      outputs = s.outputs;
      current = overlay_front s.current T.current i;
      following = overlay_front s.following T.following i;
      standing = overlay_front s.standing T.standing i;
    }

-- What a state that is left never touches, and the clauses that speak of nothing else.
module _ (T : Tables) (s : State) where
  pub leave_wiring : SameWiring T (leave T s)
  unfolding leave
  leave_wiring =
      record {
        components = refl;
        wires = refl;
        component_count = refl;
        input_count_lem = refl;
        output_count_lem = refl;
        wire_count = refl;
      }

  pub kinds_obeyed-kept : kinds_obeyed (leave T s) ≡ kinds_obeyed T
  unfolding leave kinds_obeyed
  kinds_obeyed-kept = refl

  pub ids_distinct-kept : ids_distinct (leave T s) ≡ ids_distinct T
  unfolding leave ids_distinct
  ids_distinct-kept = refl

  pub ports_follow-kept : ports_follow (leave T s) ≡ ports_follow T
  unfolding leave ports_follow
  ports_follow-kept = refl

  pub wires_fit-kept : wires_fit (leave T s) ≡ wires_fit T
  unfolding leave wires_fit
  wires_fit-kept = refl

  pub inputs_once-kept : inputs_once (leave T s) ≡ inputs_once T
  unfolding leave inputs_once
  inputs_once-kept = refl

-- The state of a net is one that a net may have.
module _ (T : Tables) (full : full_size T ≡ true) (net : is_net T ≡ true) where
  abbrev n : ℕ
  n = T.counts.components

  clauses : Net T
  clauses = is_net-sound T net

  sound : Sound T
  sound = is_net-wiring T full net

  -- In a table of inputs, those of component i fit; in one of outputs, its outputs do.
  abbrev inputs_fit : List ℕ → ℕ → Bool
  inputs_fit l i = all_fit (input_width (fields_at T i)) (inputs_at T l i)

  abbrev outputs_fit : List ℕ → ℕ → Bool
  outputs_fit l i = all_fit (output_width (fields_at T i)) (outputs_at T l i)

  -- In a table of outputs, the first of component i holds its parameter.
  abbrev holds : List ℕ → ℕ → Bool
  holds l i = eqb (get_or l (first_output T i) 0) (fields_at T i).parameter

  pub is_net-held : Held T (state_of T)
  unfolding names
  is_net-held =
      record {
        inputs_length = refl;
        outputs_length = refl;
        inputs_fit = λ i h. numbers_fit_at T.inputs (first_input T i) (fields_at T i).inputs (sound.inputs_in i h)
            (input_width (fields_at T i)) (values_fit-inputs T clauses.values i h);
        outputs_fit = λ i h. numbers_fit_at T.outputs (first_output T i) (fields_at T i).outputs
            (sound.outputs_in i h)
            (output_width (fields_at T i)) (values_fit-outputs T clauses.values i h);
        consts = consts_held-at T clauses.consts;
        current = names_sound n (current_list T) clauses.current;
        following = names_sound n (following_list T) clauses.following;
        standing = names_sound n (standing_list T) clauses.standing;
      }

  -- Tables in which a state that the net may have is left.
  module _ (s : State) (a : Held T s) where
    sizes : Full T
    sizes = full_size-sound T full

    few : Within T.counts
    few = counts_within-sound T.counts clauses.counts

    short : (xs : List ℕ) → Names n xs → length xs ≤ 256
    short xs b = omega (arith, names_length n xs b, few.components)

    -- No table changes its length.
    pub leave_lengths : SameLengths T (leave T s)
    unfolding leave
    leave_lengths =
        record {
          components = refl;
          inputs = a.inputs_length;
          outputs = a.outputs_length;
          wires = refl;
          current = overlay_length s.current T.current
              (omega (arith, short s.current a.current, sizes.current));
          following = overlay_length s.following T.following
              (omega (arith, short s.following a.following, sizes.following));
          standing = overlay_length s.standing T.standing
              (omega (arith, short s.standing a.standing, sizes.standing));
        }

    -- They have full size, and each clause of "the tables are a net" holds of them.
    pub full_size-kept : full_size (leave T s) ≡ true
    full_size-kept =
        let l = leave_lengths in
        full_size-complete (leave T s)
        (record {
          components = omega (arith, sizes.components, l.components);
          inputs = omega (arith, sizes.inputs, l.inputs);
          outputs = omega (arith, sizes.outputs, l.outputs);
          wires = omega (arith, sizes.wires, l.wires);
          current = omega (arith, sizes.current, l.current);
          following = omega (arith, sizes.following, l.following);
          standing = omega (arith, sizes.standing, l.standing);
        })

    pub counts_within-kept : counts_within (leave T s).counts ≡ true
    unfolding leave
    counts_within-kept =
        counts_within-complete (leave T s).counts
        (record {
          components = few.components;
          inputs = few.inputs;
          outputs = few.outputs;
          wires = few.wires;
          current = short s.current a.current;
          following = short s.following a.following;
          standing = short s.standing a.standing;
        })

    pub values_fit-kept : values_fit (leave T s) ≡ true
    unfolding leave values_fit
    values_fit-kept =
        every_complete (λ i. inputs_fit s.inputs i && outputs_fit s.outputs i) (indexes T)
        (λ i m. each i (from0_sound n i m))
      where
        each : (i : ℕ) → i < n → (inputs_fit s.inputs i && outputs_fit s.outputs i) ≡ true
        each i h =
            let p : inputs_fit s.inputs i ≡ true
            = numbers_fit s.inputs (first_input T i) (fields_at T i).inputs
            (omega (arith, a.inputs_length, sound.inputs_in i h)) (input_width (fields_at T i)) (a.inputs_fit i h) in
            let q : outputs_fit s.outputs i ≡ true
            = numbers_fit s.outputs (first_output T i) (fields_at T i).outputs
            (omega (arith, a.outputs_length, sound.outputs_in i h)) (output_width (fields_at T i))
            (a.outputs_fit i h) in
            rw (p, q)

    pub consts_held-kept : consts_held (leave T s) ≡ true
    unfolding leave consts_held
    consts_held-kept =
        every_complete (λ i. not (is Const (fields_at T i)) || holds s.outputs i) (indexes T)
        (λ i m. each i (from0_sound n i m) (is Const (fields_at T i)) refl)
      where
        each : (i : ℕ) → i < n → (b : Bool) → is Const (fields_at T i) ≡ b
            → (not b || holds s.outputs i) ≡ true
        each i h false e = refl
        each i h true e = eq-eqb (get_or s.outputs (first_output T i) 0) (fields_at T i).parameter (a.consts i h e)

    named : (xs : List ℕ) → Names n xs → (ys : List ℕ) → ys ≡ xs → names (leave T s) ys ≡ true
    unfolding leave names
    named xs b ys e = rw e (names_complete n xs b)

    pub current_kept : names (leave T s) (current_list (leave T s)) ≡ true
    current_kept = named s.current a.current (current_list (leave T s))
        (ap (λ (u : State). u.current) (state_of-leave T s))

    pub following_kept : names (leave T s) (following_list (leave T s)) ≡ true
    following_kept = named s.following a.following (following_list (leave T s))
        (ap (λ (u : State). u.following) (state_of-leave T s))

    pub standing_kept : names (leave T s) (standing_list (leave T s)) ≡ true
    standing_kept = named s.standing a.standing (standing_list (leave T s))
        (ap (λ (u : State). u.standing) (state_of-leave T s))

    -- All clauses together: the tables are a net.
    pub is_net-kept : is_net (leave T s) ≡ true
    is_net-kept =
        is_net-complete (leave T s)
        (record {
          counts = counts_within-kept;
          kinds = kinds_obeyed-kept T s ∙ clauses.kinds;
          ids = ids_distinct-kept T s ∙ clauses.ids;
          ports = ports_follow-kept T s ∙ clauses.ports;
          values = values_fit-kept;
          consts = consts_held-kept;
          wires = wires_fit-kept T s ∙ clauses.wires;
          once = inputs_once-kept T s ∙ clauses.once;
          current = current_kept;
          following = following_kept;
          standing = standing_kept;
        })

-- The state of tables whose number is 0.
pub net_held : (T : Tables) → net_number T ≡ 0 → Held T (state_of T)
net_held T z = is_net-held T (net_number-full T z) (net_number-is_net T z)
