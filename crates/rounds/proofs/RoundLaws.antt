-- A whole round, from what a net gives to the tables that it leaves.
-- Assumes nothing.
use mathlib.Core.Path.{◌≡◌, refl, sym, ap, ◌∙◌}
use mathlib.Core.Bool.{true}
use mathlib.Core.List.{List, [], foldl}
use Prim.Native.Nat.{ℕ, zero, suc, ◌≤◌, ◌<◌}
use native.Mathlib.Omega.{arith}
use lib.ListN.{length, get_or, take}
use lib.Seq.{length-take-le}
use Rattle.lists.specs.Lists.{overlay}
use Rattle.lists.proofs.MembersLaws.{In}
use Rattle.lists.proofs.NamesLaws.{names_sound}
use Rattle.tables.specs.declared.Wire.{Wire}
use Rattle.tables.specs.declared.Counts.{Counts}
use Rattle.tables.specs.Tables.{Tables, tables_of, wire_at, wires_in, current_list, following_list, standing_list}
use Rattle.tables.specs.Words.{RowsInside, WiresInside}
use Rattle.tables.proofs.NamedLaws.{overlay_list}
use Rattle.net.specs.Net.{names, net_number}
use Rattle.net.proofs.NetLaws.{names_entry, net_number-net, net_number-sizes}
use Rattle.rounds.specs.declared.Sizes.{Sizes}
use Rattle.rounds.specs.Round.{State, state_of, leave, wires_from, turn, evaluated, send, visit, moved_by, round, calm, round_bits, round_of}
use Rattle.rounds.specs.Links.{linked_wires, Follows, SourcesFew}
use Rattle.rounds.specs.Steps.{wiring, bare, state_at, CanRun, ListFits, ListInside}
use Rattle.rounds.proofs.Sound.{net_sound, net_within, current_in, following_in, standing_in, wire_in_lem, output_room, input_room}
use Rattle.rounds.proofs.StepsLaws.{names_wider, visits_current, visits_alike}
use Rattle.rounds.proofs.MovedLaws.{moved_alike}
use Rattle.rounds.proofs.LinksLaws.{linked_follows}

-- A list copied to another table.
pub copy_list : (n : ℕ) (l t t' : List ℕ) → n ≤ length l → t' ≡ overlay (take n l) t → take n t' ≡ take n l
copy_list n l t t' h e = rw e (overlay_list (take n l) t n (sym (length-take-le n l h)))

-- What a net gives.
module _ (T : Tables) (z : net_number T ≡ 0) where
  -- The words of its components and of its wires stand in the tables.
  pub net_rows : RowsInside T.components T.counts.components
  net_rows = omega (arith, (net_within T z).components, (net_number-sizes T z).components)

  pub net_wires : WiresInside T.wires T.counts.wires
  net_wires = omega (arith, (net_within T z).wires, (net_number-sizes T z).wires)

  pub net_runs : CanRun (wiring T.components T.wires T.counts) T.inputs T.outputs
  net_runs =
      let g = net_sound T z in
      record {
        few = g.few;
        few_wires = (net_within T z).wires;
        rows = net_rows;
        wires_in_lem = net_wires;
        obeyed = g.obeyed;
        inputs_in = g.inputs_in;
        outputs_in = g.outputs_in;
        source = λ k h. output_room T g (wire_at T k) (wire_in_lem T k h);
        target = λ k h. input_room T g (wire_at T k) (wire_in_lem T k h);
        leaves = λ k h. g.source (wire_at T k) (wire_in_lem T k h);
        named = λ k h. g.target (wire_at T k) (wire_in_lem T k h);
      }

  -- Wires leave components of full size.
  pub net_sources : SourcesFew T.wires T.counts.wires
  net_sources k h = let g = net_sound T z in omega (arith, g.source (wire_at T k) (wire_in_lem T k h), g.few)

  -- Its three lists name components.
  pub net_fits : ListFits (bare T.components) T.counts.current T.current
      × ListFits (bare T.components) T.counts.following T.following
      × ListFits (bare T.components) T.counts.standing T.standing
  net_fits = (
    fits T.counts.current T.current (net_number-sizes T z).current (current_in T z) (net_number-net T z).current,
    fits T.counts.following T.following (net_number-sizes T z).following (following_in T z) (net_number-net T z).following,
    fits T.counts.standing T.standing (net_number-sizes T z).standing (standing_in T z) (net_number-net T z).standing,
  )
    where
      fits : (n : ℕ) (t : List ℕ) → 256 ≤ length t → n ≤ length t → names T (take n t) ≡ true → ListFits (bare T.components) n t
      fits n t w l e =
          record { whole = w; count = l; named = names_wider T (bare T.components) (take n t) (net_within T z).components e }

  -- Its current list's entries are components of it.
  pub net_visited : (j : ℕ) → j < T.counts.current → get_or T.current j 0 < T.counts.components
  net_visited = names_entry T T.counts.current T.current (current_in T z) (net_number-net T z).current

  -- The words of the components that the three lists name stand in the table.
  pub net_listed : ListInside T.components T.counts.current T.current
      × ListInside T.components T.counts.following T.following
      × ListInside T.components T.counts.standing T.standing
  net_listed = (
    inside T.counts.current T.current (current_in T z) (net_number-net T z).current,
    inside T.counts.following T.following (following_in T z) (net_number-net T z).following,
    inside T.counts.standing T.standing (standing_in T z) (net_number-net T z).standing,
  )
    where
      inside : (n : ℕ) (t : List ℕ) → n ≤ length t → names T (take n t) ≡ true → ListInside T.components n t
      inside n t l e = (l, λ j h. omega (arith, net_rows, names_entry T n t l e j h))

-- The three copies at the end.
pub round_ended : (cur fol std next left cur' fol' std' : List ℕ) (m : Counts) (n : Sizes) → n.following ≤ length next
    → n.standing ≤ length left → cur' ≡ overlay (take n.following next) cur
    → fol' ≡ overlay (take n.standing left) fol
    → std' ≡ overlay (take n.standing left) std
    → tables_of [] [] [] [] cur' fol' std' (record {
      components = m.components;
      inputs = m.inputs;
      outputs = m.outputs;
      wires = m.wires;
      current = n.following;
      following = n.standing;
      standing = n.standing;
    }) ≡ leave (tables_of [] [] [] [] cur fol std m) (turn (state_at [] [] (take n.following next)
    (take n.standing left)))
unfolding leave
round_ended cur fol std next left cur' fol' std' m n h k ec ef es =
    let a : length (take n.following next) ≡ n.following = length-take-le n.following next h in
    let b : length (take n.standing left) ≡ n.standing = length-take-le n.standing left k in
    rw (ec, ef, es, a, b)

-- The whole round: both lists copied out, every component of the current list visited, and the three copies at the end.
module _ (T : Tables) (t : ℕ) (leaving : ℕ → List Wire) where
  abbrev W : Tables
  W = bare T.components

  round_visits : (s : State)
      → s ≡ foldl (visit W leaving t) (state_at T.inputs T.outputs (following_list T) (standing_list T))
      (current_list T)
      → leave T (round T leaving t (state_of T)) ≡ leave T (turn s)
  unfolding round visit evaluated send
  round_visits s e =
      ap (λ (u : State). leave T (turn u))
      (visits_current T leaving t (current_list T)
      (state_at T.inputs T.outputs (following_list T) (standing_list T)) (current_list T))
      ∙ ap (λ (u : State). leave T (turn u)) (sym e)

  pub round_made : (nx lf ins outs nx' lf' cur fol std : List ℕ) (n : Sizes) (r : Counts)
      → take T.counts.following nx ≡ following_list T → take T.counts.standing lf ≡ standing_list T
      → state_at ins outs (take n.following nx') (take n.standing lf')
      ≡ foldl (visit W leaving t)
      (state_at T.inputs T.outputs (take T.counts.following nx) (take T.counts.standing lf))
      (current_list T)
      → tables_of [] [] [] [] cur fol std r
      ≡ leave (tables_of [] [] [] [] T.current T.following T.standing T.counts)
      (turn (state_at [] [] (take n.following nx') (take n.standing lf')))
      → tables_of T.components ins outs T.wires cur fol std r ≡ leave T (round T leaving t (state_of T))
  unfolding leave
  round_made nx lf ins outs nx' lf' cur fol std n r ef es v e =
      let c : cur ≡ overlay (take n.following nx') T.current = ap (λ (u : Tables). u.current) e in
      let f : fol ≡ overlay (take n.standing lf') T.following = ap (λ (u : Tables). u.following) e in
      let d : std ≡ overlay (take n.standing lf') T.standing = ap (λ (u : Tables). u.standing) e in
      let m = ap (λ (u : Tables). u.counts) e in
      let s = state_at ins outs (take n.following nx') (take n.standing lf') in
      let l : tables_of T.components ins outs T.wires cur fol std r ≡ leave T (turn s) = rw (c, f, d, m) in
      l ∙ sym (round_visits s (v ∙ rw (ef, es)))

-- A round, and its bits, are as the wires of the components that are visited.
module _ (T : Tables) (ws vs : ℕ → List Wire) (t : ℕ) (h : (x : ℕ) → In x (current_list T) → ws x ≡ vs x) where
  pub round_alike : (U : Tables) → U ≡ leave T (round T ws t (state_of T)) → U ≡ leave T (round T vs t (state_of T))
  unfolding round
  round_alike U e = e ∙ ap (λ (u : State). leave T (turn u)) (visits_alike T ws vs t (state_of T) (current_list T) h)

  pub bits_alike : (ms ns : List ℕ) → ns ≡ overlay (moved_by T ws t (state_of T) (current_list T)) ms
      → ns ≡ overlay (moved_by T vs t (state_of T) (current_list T)) ms
  bits_alike ms ns e = e ∙ ap (λ (l : List ℕ). overlay l ms) (moved_alike T ws vs t (state_of T) (current_list T) h)

-- A net's wires, as they are linked, are those of the order for each component that its current list names.
pub net_leaving : (T : Tables) (head after : List ℕ) (vs : List Wire) → net_number T ≡ 0
    → (0 < T.counts.current → Follows T.wires T.counts.wires head after vs)
    → (x : ℕ) → In x (current_list T) → linked_wires T.wires T.counts.wires head after x ≡ wires_from vs x
unfolding names
net_leaving T head after vs z f x b =
    let few = (net_within T z).components in
    linked_follows T.wires T.counts.wires head after vs (f (in_some T.counts.current T.current b)) x
    (omega (arith, few, (names_sound T.counts.components (current_list T) (net_number-net T z).current).exist x b))
  where
    in_some : (n : ℕ) (l : List ℕ) → In x (take n l) → 0 < n
    in_some zero l m = absurd m
    in_some (suc n) l m = omega arith

-- In stored order, which leaves the count of wires.
pub round_bits_lem : (T : Tables) (t : ℕ) (ms ms' : List ℕ) → ms' ≡ overlay (moved_by T (wires_from (wires_in T)) t (state_of T) (current_list T)) ms
    → ms' ≡ overlay (round_bits t T) ms
unfolding round_bits
round_bits_lem T t ms ms' e = e

module _ (T U : Tables) (t : ℕ) where
  pub round_stored : U ≡ leave T (round T (wires_from (wires_in T)) t (state_of T)) → U ≡ round_of t T
  unfolding round_of
  round_stored e = e

  pub round_wires : U ≡ round_of t T → U.counts.wires ≡ T.counts.wires
  unfolding round_of leave
  round_wires e = ap (λ (u : Tables). u.counts.wires) e

-- Calm is read off the components and the three lists.
pub calm_lists : (T : Tables)
    → calm (tables_of T.components [] [] [] T.current T.following T.standing T.counts) ≡ calm T
unfolding calm
calm_lists T = refl
