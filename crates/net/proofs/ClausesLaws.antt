-- What the clauses of a net say, one by one.
-- Assumes nothing.
use mathlib.Core.Path.{◌≡◌, refl, sym, ap}
use mathlib.Core.Bool.{Bool, true, false, ◌&&◌, true≢false}
use mathlib.Core.List.{List, [], ◌∷◌, map}
use Prim.Native.Nat.{ℕ, ◌+◌, ◌≤◌, ◌<◌}
use native.Mathlib.Omega.{arith}
use borrow.Author.Tests.{leb-true, le-leb, eqb-true}
use lib.Dec.{leb, ltb, eqb}
use Rattle.lists.specs.Lists.{from, every, distinct}
use Rattle.lists.proofs.ListsLaws.{every_from}
use Rattle.lists.proofs.TestsLaws.{and_left, and_right}
use Rattle.kinds.specs.Kinds.{primitive, obeys, input_width, output_width}
use Rattle.tables.specs.declared.Wire.{Wire}
use Rattle.tables.specs.declared.Counts.{Counts}
use Rattle.tables.specs.Tables.{Tables, fields_at, first_input, first_output, input_place, wire_at}
use Rattle.tables.specs.Words.{fields_fit, wire_in}
use Rattle.tables.proofs.RowsLaws.{obeyed_fit}
use Rattle.tables.proofs.PartsLaws.{AllTrue, parts_sound}
use Rattle.net.specs.Net.{counts_within, kinds_obeyed, ports_follow, wires_fit, inputs_once}
use Rattle.net.specs.Parts.{lent, place_in, obeyed_at, follow_at}
use Rattle.net.proofs.LoopsLaws.{every_map, map_map, total_room}
use Rattle.net.specs.Net.{input_sum, output_sum, wire_fits}

-- "counts are within these limits"
pub record Within (m : Counts) : Type 0 where
  pub components : m.components ≤ 256
  pub inputs : m.inputs ≤ 1024
  pub outputs : m.outputs ≤ 1024
  pub wires : m.wires ≤ 1024
  pub current : m.current ≤ 256
  pub following : m.following ≤ 256
  pub standing : m.standing ≤ 256

pub counts_within-sound : (m : Counts) → counts_within m ≡ true → Within m
unfolding counts_within
counts_within-sound m e =
    let p =
    parts_sound (leb m.components 256)
    (leb m.inputs 1024 ∷ leb m.outputs 1024 ∷ leb m.wires 1024 ∷ leb m.current 256 ∷ leb m.following 256
    ∷ leb m.standing 256 ∷ []) e in
    record {
      components = leb-true _ _ p.0;
      inputs = leb-true _ _ p.1.0;
      outputs = leb-true _ _ p.1.1.0;
      wires = leb-true _ _ p.1.1.1.0;
      current = leb-true _ _ p.1.1.1.1.0;
      following = leb-true _ _ p.1.1.1.1.1.0;
      standing = leb-true _ _ p.1.1.1.1.1.1.0;
    }

pub counts_within-complete : (m : Counts) → Within m → counts_within m ≡ true
unfolding counts_within
counts_within-complete m z =
    rw (
      le-leb m.components 256 z.components,
      le-leb m.inputs 1024 z.inputs,
      le-leb m.outputs 1024 z.outputs,
      le-leb m.wires 1024 z.wires,
      le-leb m.current 256 z.current,
      le-leb m.following 256 z.following,
      le-leb m.standing 256 z.standing,
    )

-- "components are of kinds 1 to 13 or 15, obey the table of kinds"
module _ (T : Tables) (e : kinds_obeyed T ≡ true) (i : ℕ) (h : i < T.counts.components) where
  pub kinds_obeyed-at : (primitive (fields_at T i) && obeys (fields_at T i)) ≡ true
  unfolding kinds_obeyed
  kinds_obeyed-at = every_from (obeyed_at T.components) T.counts.components e i h

  -- So its words fit the fields of a component.
  pub kinds_obeyed-fit : fields_fit (fields_at T i) ≡ true
  kinds_obeyed-fit = obeyed_fit (fields_at T i) kinds_obeyed-at

-- "ports follow each other without gaps": where the ports of component i start, and that they end within the counts.
module _ (T : Tables) (e : ports_follow T ≡ true) where
  abbrev cs : List ℕ
  cs = T.components

  abbrev n : ℕ
  n = T.counts.components

  follow_parts : AllTrue (every (follow_at cs) (from 0 n) ∷ eqb T.counts.inputs (input_sum T n)
      ∷ eqb T.counts.outputs (output_sum T n) ∷ [])
  unfolding ports_follow
  follow_parts =
      parts_sound (every (follow_at cs) (from 0 n))
      (eqb T.counts.inputs (input_sum T n) ∷ eqb T.counts.outputs (output_sum T n) ∷ []) e

  pub ports_follow-input_count : T.counts.inputs ≡ input_sum T n
  ports_follow-input_count = eqb-true T.counts.inputs (input_sum T n) follow_parts.1.0

  pub ports_follow-output_count : T.counts.outputs ≡ output_sum T n
  ports_follow-output_count = eqb-true T.counts.outputs (output_sum T n) follow_parts.1.1.0

  module _ (i : ℕ) (h : i < n) where
    pub ports_follow-first_input : first_input T i ≡ input_sum T i
    ports_follow-first_input =
        eqb-true (first_input T i) (input_sum T i)
        (and_left (eqb (first_input T i) (input_sum T i)) (eqb (first_output T i) (output_sum T i))
        (every_from (follow_at cs) n follow_parts.0 i h))

    pub ports_follow-first_output : first_output T i ≡ output_sum T i
    ports_follow-first_output =
        eqb-true (first_output T i) (output_sum T i)
        (and_right (eqb (first_input T i) (input_sum T i)) (eqb (first_output T i) (output_sum T i))
        (every_from (follow_at cs) n follow_parts.0 i h))

    pub ports_follow-inputs : first_input T i + (fields_at T i).inputs ≤ T.counts.inputs
    ports_follow-inputs =
        omega (arith, ports_follow-first_input, ports_follow-input_count, total_room (λ j. (fields_at T j).inputs) i n h)

    pub ports_follow-outputs : first_output T i + (fields_at T i).outputs ≤ T.counts.outputs
    ports_follow-outputs =
        omega (arith, ports_follow-first_output, ports_follow-output_count, total_room (λ j. (fields_at T j).outputs) i n h)

  -- The ports of an earlier component end where those of a later one start, or before.
  module _ (i j : ℕ) (l : i < j) (h : j < n) where
    pub ports_follow-inputs_apart : first_input T i + (fields_at T i).inputs ≤ first_input T j
    ports_follow-inputs_apart =
        omega (
          arith,
          ports_follow-first_input i (omega arith),
          ports_follow-first_input j h,
          total_room (λ k. (fields_at T k).inputs) i j l,
        )

    pub ports_follow-outputs_apart : first_output T i + (fields_at T i).outputs ≤ first_output T j
    ports_follow-outputs_apart =
        omega (
          arith,
          ports_follow-first_output i (omega arith),
          ports_follow-first_output j h,
          total_room (λ k. (fields_at T k).outputs) i j l,
        )

-- "wires have ends that exist and equal widths": where a component of a wire does not exist, and where both do.
module _ (T : Tables) (w : Wire) where
  abbrev ends : Bool
  ends = ltb w.src.comp.0 T.counts.components && ltb w.dst.comp.0 T.counts.components

  abbrev source_port : Bool
  source_port = ltb w.src.port (fields_at T w.src.comp.0).outputs

  abbrev target_port : Bool
  target_port = ltb w.dst.port (fields_at T w.dst.comp.0).inputs

  abbrev widths : Bool
  widths = eqb (output_width (fields_at T w.src.comp.0)) (input_width (fields_at T w.dst.comp.0))

  pub wire_fits-none : ends ≡ false → false ≡ wire_fits T w
  wire_fits-none e =
      none (ltb w.src.comp.0 T.counts.components) (ltb w.dst.comp.0 T.counts.components)
      source_port target_port widths e
    where
      none : (a b x y z : Bool) → (a && b) ≡ false → false ≡ ((a && x) && (b && y) && z)
      none true true x y z e = absurd (true≢false e)
      none true false true y z e = refl
      none true false false y z e = refl
      none false b x y z e = refl

  pub wire_fits-both : ends ≡ true → (source_port && target_port && widths) ≡ wire_fits T w
  wire_fits-both e =
      let a = and_left (ltb w.src.comp.0 T.counts.components) (ltb w.dst.comp.0 T.counts.components) e in
      let b = and_right (ltb w.src.comp.0 T.counts.components) (ltb w.dst.comp.0 T.counts.components) e in
      rw (a, b)

module _ (cs ws : List ℕ) (m : Counts) where
  abbrev T : Tables
  T = lent cs [] [] ws m

  -- All wires, by their places in the table.
  pub wires_fit-every : every (λ k. wire_fits (lent cs [] [] [] m) (wire_in ws k)) (from 0 m.wires) ≡ wires_fit T
  unfolding wires_fit
  wires_fit-every = every_map (wire_fits T) (wire_at T) (from 0 m.wires)

  -- "no input has two wires"
  pub inputs_once-places : distinct (map (place_in cs ws) (from 0 m.wires)) ≡ inputs_once T
  unfolding inputs_once
  inputs_once-places = ap distinct (map_map (λ (w : Wire). input_place T w.dst) (wire_at T) (from 0 m.wires))

-- Two tests together: where one fails, and where none does.
pub left_fails : (a b : Bool) → false ≡ a → false ≡ (a && b)
left_fails true b e = absurd (true≢false (sym e))
left_fails false b e = refl

pub right_fails : (a b : Bool) → false ≡ b → false ≡ (a && b)
right_fails true b e = e
right_fails false b e = refl

pub none_fails : (a b : Bool) → true ≡ a → true ≡ b → true ≡ (a && b)
none_fails true b e f = f
none_fails false b e f = absurd (true≢false e)
