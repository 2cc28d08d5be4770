-- Tables with the components and wires of a load of a file, and what the file itself gives with their ports and lists: below their count the components
-- are the same, so values, Consts and edits are; the wires handed in are the stored ones; and of a net the rounds, their bits and calm are the same.
-- Assumes nothing.
use mathlib.Core.Path.{◌≡◌, refl, sym, ap, ◌∙◌}
use Prim.Native.Nat.{ℕ, ◌+◌, ◌*◌, ◌<◌}
use native.Mathlib.Omega.{arith}
use mathlib.Core.Bool.{Bool, true, false, ◌&&◌}
use mathlib.Core.List.{List}
use borrow.Author.Tests.{leb-false}
use lib.ListN.{length, replicate}
use lib.Dec.{eqb, leb, ltb}
use Rattle.lists.specs.Lists.{every, any, joined, distinct, overlay, refusal}
use Rattle.lists.proofs.MembersLaws.{In, keep_sound}
use Rattle.lists.proofs.OverlayLaws.{overlay_at, joined_width}
use Rattle.component.specs.declared.Record.{Record}
use Rattle.component.specs.Record.{record_at, record_count, sized}
use Rattle.flatten.specs.Verdict.{verdict}
use Rattle.flatten.proofs.Accepted.{accepted_sized}
use Rattle.meeting.specs.Meeting.{judgement}
use Rattle.meeting.proofs.MeetingLaws.{accepted_judgement}
use Rattle.kinds.specs.declared.table.Fields.{Fields}
use Rattle.tables.specs.declared.Wire.{Wire}
use Rattle.tables.specs.Tables.{Tables, word_in, fields_at, full_size, wires_in, current_list, following_list, standing_list}
use Rattle.tables.proofs.SizesLaws.{full_size-sound}
use Rattle.tables.proofs.SameLaws.{SameWiring, same_wiring-more}
use Rattle.laying.specs.Laid.{primitives, primitive_words}
use Rattle.load.specs.Load.{drawing_tables, load_tables}
use Rattle.load.proofs.LoadLaws.{load_passed}
use Rattle.loaded.proofs.LoadNet.{load_loaded}
use Rattle.loaded.proofs.Drawn.{IsDrawn}
use Rattle.loaded.proofs.LoadTheorems.{accepted_drawn}
use Rattle.net.specs.Net.{values_fit, consts_held, names, net_number}
use Rattle.net.proofs.NetLaws.{Net, names_existing, net_number-full, net_number-net}
use Rattle.rounds.specs.Round.{State, state_of, wires_from, moved_by, round, calm, round_bits, only_clocks}
use Rattle.rounds.proofs.Sound.{net_sound}
use Rattle.simulator.specs.Edit.{Way, edited_state}
use Rattle.simulator.specs.Calls.{driven, edit_checks}
use Rattle.demands.proofs.Called.{Origin}
use Rattle.slow.specs.Slow.{slow_full, slow_of, drawn, leaving, led_into, slow_bits}
use Rattle.slow.proofs.Handed.{leaving_stored, led_into-stored}
use Rattle.slow.proofs.WiredLaws.{slow_full-complete}
use Rattle.alike.proofs.SameRound.{SameWords, fields_same, round_same, moved_by-same, edited_same, only_clocks-same, every_fit, every_held}
use Rattle.std.specs.Prelude.{Ok}

-- The five tables are of full size where all seven are.
pub slow_full-five : (T : Tables) → full_size T ≡ true → slow_full (slow_of T) ≡ true
slow_full-five T e =
    let f = full_size-sound T e in
    slow_full-complete (slow_of T)
    (record { inputs = f.inputs; outputs = f.outputs; current = f.current; following = f.following; standing = f.standing })

-- A call leaves tables that come from the same load.
pub origin_on : (file : List ℕ) (T U : Tables) → Origin file T → SameWiring T U → Origin file U
origin_on file T U o s =
    record {
      lent = o.lent;
      bytes = o.bytes;
      accepted = o.accepted;
      wiring = same_wiring-more (load_tables file o.lent) T U o.wiring s;
    }

module _ (file : List ℕ) (T : Tables) (o : Origin file T) where
  abbrev at : ℕ → Record
  at = record_at file

  abbrev n : ℕ
  n = record_count file

  -- How many components the tables have, and what the file gives.
  abbrev m : ℕ
  m = T.counts.components

  abbrev D : Tables
  D = drawn at n (slow_of T)

  abbrev W : List ℕ
  W = joined (primitive_words at n) (primitives at n)

  judged : verdict file ≡ Ok tt
  judged = (load_passed file o.lent o.accepted).judged

  -- A load's own checks pass.
  pub origin_sized : sized file ≡ true
  origin_sized = accepted_sized file judged

  pub origin_judged : judgement file ≡ Ok tt
  origin_judged = accepted_judgement file judged

  pub is_drawn : IsDrawn at n T
  is_drawn = accepted_drawn file o.lent o.accepted T o.wiring

  count : m ≡ length (primitives at n)
  count = is_drawn.component_count

  laid : T.components ≡ overlay W o.lent.components
  unfolding drawing_tables
  laid = o.wiring.components ∙ ap (λ (U : Tables). U.components) (load_loaded file o.lent o.accepted)

  -- The words of a component below the count are the file's, whatever they are laid over.
  same_words : SameWords T D m
  same_words i k h l =
      let there : 8 * i + k < length W = omega (arith, joined_width (primitive_words at n) 8 (λ x. refl) (primitives at n), count) in
      ap (λ (cs : List ℕ). word_in cs i k) laid ∙ overlay_at W o.lent.components (8 * i + k) 0 there
      ∙ sym (overlay_at W (replicate 2048 0) (8 * i + k) 0 there)

  -- The wires handed in.
  pub leaving_wires : leaving at n ≡ wires_from (wires_in T)
  leaving_wires = (λ j i. leaving_stored at n i j) ∙ ap wires_from (sym is_drawn.wires)

  pub led_into-driven : (i : ℕ) → led_into at n i ≡ driven T i
  led_into-driven i = led_into-stored at n i ∙ ap (any (λ (w : Wire). eqb w.dst.comp.0 i)) (sym is_drawn.wires)

  -- What an edit checks after 20 it checks after 16.
  pub edit_checks-same : (i v : ℕ)
      → refusal (edit_checks (length (primitives at n)) (fields_at D i) (led_into at n i) i v) ≡ refusal (edit_checks m (fields_at T i) (driven T i) i v)
  edit_checks-same i v =
      (λ j. refusal (edit_checks (sym count j) (fields_at D i) (led_into-driven i j) i v)) ∙ by_index (leb m i) refl
    where
      by_index : (b : Bool) → leb m i ≡ b
          → refusal (edit_checks m (fields_at D i) (driven T i) i v) ≡ refusal (edit_checks m (fields_at T i) (driven T i) i v)
      by_index true e = rw e
      by_index false e = ap (λ (f : Fields). refusal (edit_checks m f (driven T i) i v)) (sym (fields_same T D m same_words i (leb-false m i e)))

  pub edited_state-same : (way : Way) (i v : ℕ) (s : State) → i < m → edited_state D way i v s ≡ edited_state T way i v s
  edited_state-same way i v s h = sym (edited_same T D m same_words i h way v s)

  -- What 16 and 20 both ask.
  pub names_drawn : (l : List ℕ) → names D l ≡ names T l
  unfolding names
  names_drawn l = λ j. every (λ i. ltb i (sym count j)) l && distinct l

  pub values_drawn : values_fit D ≡ values_fit T
  unfolding values_fit
  values_drawn = rw (← count) (sym (every_fit T D m same_words T.inputs T.outputs))

  pub consts_drawn : consts_held D ≡ consts_held T
  unfolding consts_held
  consts_drawn = rw (← count) (sym (every_held T D m same_words T.outputs))

  -- The tables are a net.
  module _ (z : net_number T ≡ 0) where
    N : Net T
    N = net_number-net T z

    ends : (i : ℕ) (w : Wire) → In w (wires_from (wires_in T) i) → (w.src.comp.0 < m) × (w.dst.comp.0 < m)
    ends i w u =
        let v = (keep_sound (λ (w : Wire). eqb w.src.comp.0 i) w (wires_in T) u).1 in
        ((net_sound T z).source w v, (net_sound T z).target w v)

    pub full : slow_full (slow_of T) ≡ true
    full = slow_full-five T (net_number-full T z)

    pub round_drawn : (t : ℕ) → round D (leaving at n) t (state_of D) ≡ round T (wires_from (wires_in T)) t (state_of T)
    round_drawn t =
        ap (λ (l : ℕ → List Wire). round D l t (state_of T)) leaving_wires
        ∙ sym (round_same T D m same_words (wires_from (wires_in T)) ends t (state_of T) (names_existing T (current_list T) N.current))

    pub bits_drawn : (t : ℕ) → slow_bits at n t D ≡ round_bits t T
    unfolding slow_bits round_bits
    bits_drawn t =
        ap (λ (l : ℕ → List Wire). moved_by D l t (state_of T) (current_list T)) leaving_wires
        ∙ sym (moved_by-same T D m same_words (wires_from (wires_in T)) ends t (current_list T) (names_existing T (current_list T) N.current) (state_of T))

    pub calm_drawn : calm D ≡ calm T
    unfolding calm
    calm_drawn =
        let clocks : (l : List ℕ) → names T l ≡ true → only_clocks D l ≡ only_clocks T l =
        λ l e. sym (only_clocks-same T D m same_words l (names_existing T l e)) in
        λ j.
        clocks (current_list T) N.current j && clocks (following_list T) N.following j && clocks (standing_list T) N.standing j
