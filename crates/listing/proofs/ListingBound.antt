-- No listing is longer than 65,536 bytes: the program's buffer holds any.
-- Assumes nothing.
use mathlib.Core.Path.{◌≡◌, refl, subst}
use mathlib.Core.Logic.{inl, inr}
use mathlib.Core.Bool.{Bool, true, false, cond}
use mathlib.Core.List.{List, [], ◌∷◌, ◌++◌}
use Prim.Native.Nat.{ℕ, zero, suc, ◌+◌, ◌*◌, ◌/◌, ◌%◌, ◌^◌, ◌≤◌, ◌<◌}
use native.Mathlib.Nat.{pow-suc, div-lt_iff_lt-mul, mul-suc}
use native.Mathlib.Omega.{arith}
use borrow.Author.Tests.{ltb-false}
use lib.ListN.{length, length-append}
use lib.Dec.{ltb}
use Rattle.lists.specs.Lists.{from, joined}
use Rattle.lists.proofs.ListsLaws.{every_from}
use Rattle.lists.proofs.TestsLaws.{and_left}
use Rattle.lists.proofs.MembersLaws.{In}
use Rattle.value.specs.Value.{below}
use Rattle.value.proofs.ValueLaws.{below_lt}
use Rattle.kinds.specs.declared.Kind.{Kind}
use Rattle.kinds.specs.declared.Kind.TheVariants.{Composite, And, Or, Not, Nand, Nor, Xor, Switch, Input, Output, Splitter, Joiner, Clock, Const, Majority}
use Rattle.kinds.specs.declared.answers.Refusal.{Refusal}
use Rattle.kinds.specs.Given.{tells_of_two, Verdict}
use Rattle.kinds.specs.Kinds.{kind_of}
use Rattle.component.specs.Record.{IsBytes}
use Rattle.tables.specs.declared.Wire.{Wire}
use Rattle.tables.specs.Tables.{Tables, id_at, fields_at, wire_at, current_list}
use Rattle.load.specs.Load.{load_tables, load_verdict}
use Rattle.net.specs.Net.{ids_distinct, net_number}
use Rattle.net.proofs.ClausesLaws.{ports_follow-inputs, ports_follow-outputs}
use Rattle.net.proofs.NetLaws.{net_number-net, names_existing, names_length}
use Rattle.rounds.specs.Round.{calm}
use Rattle.simulator.specs.Calls.{round_tables}
use Rattle.simulator.proofs.Kept.{round_tables-net}
use Rattle.rounds.proofs.Sound.{net_sound, net_within, wire_in_lem}
use Rattle.text.specs.Text.{place_after, numeral_of, numeral, spaced, ascii}
use Rattle.names.specs.Names.{name_of}
use Rattle.lines.specs.Lines.{component_line, wire_line, components_text, wires_text, round_line, against_text}
use Rattle.running.specs.Running.{ending, round_lines}
use Rattle.listing.specs.Listing.{fresh, listed_text, listing}
use Rattle.listing.proofs.LoadedLaws.{loaded_number}
use Rattle.std.specs.Prelude.{Ok, Err}

-- A number below 10^k has at most k digits; none has more than 20.
numeral_of-few : (most k n : ℕ) → n < 10 ^ suc k → length (numeral_of most n) ≤ suc k
numeral_of-few zero k n h = omega arith
numeral_of-few (suc most) k n h = by_test (λ j l. numeral_of-few most j (n / 10) l) (ltb n 10) refl
  where
    by_size : ((j : ℕ) → n / 10 < 10 ^ suc j → length (numeral_of most (n / 10)) ≤ suc j) → (j : ℕ) → n < 10 ^ suc j → 10 ≤ n
        → length (numeral_of most (n / 10) ++ ((48 + n % 10) ∷ [])) ≤ suc j
    by_size fewer zero small big = absurd (omega arith)
    by_size fewer (suc j) small big =
        let less : n / 10 < 10 ^ suc j =
        (div-lt_iff_lt-mul {k = 10} (omega arith)).1 (subst (λ (m : ℕ). n < m) (pow-suc 10 (suc j)) small) in
        let few = fewer j less in
        simp length-append (omega arith)

    by_test : ((j : ℕ) → n / 10 < 10 ^ suc j → length (numeral_of most (n / 10)) ≤ suc j) → (b : Bool) → ltb n 10 ≡ b
        → length (cond b ((48 + n) ∷ []) (numeral_of most (n / 10) ++ ((48 + n % 10) ∷ []))) ≤ suc k
    by_test fewer true e = omega arith
    by_test fewer false e = by_size fewer k h (ltb-false n 10 e)

numeral_few : (k n : ℕ) → n < 10 ^ suc k → length (numeral n) ≤ suc k
unfolding numeral
numeral_few k n h = numeral_of-few 20 k n h

numeral_of-most : (most n : ℕ) → length (numeral_of most n) ≤ most
numeral_of-most zero n = omega arith
numeral_of-most (suc most) n = by_test (numeral_of-most most (n / 10)) (ltb n 10)
  where
    by_test : length (numeral_of most (n / 10)) ≤ most → (b : Bool)
        → length (cond b ((48 + n) ∷ []) (numeral_of most (n / 10) ++ ((48 + n % 10) ∷ []))) ≤ suc most
    by_test few true = omega arith
    by_test few false = simp length-append (omega arith)

numeral_most : (n : ℕ) → length (numeral n) ≤ 20
unfolding numeral
numeral_most n = numeral_of-most 20 n

-- A name has at most 8 letters.
name_few : (k : Kind) → length (name_of k) ≤ 8
name_few Composite = omega arith
name_few And = omega arith
name_few Or = omega arith
name_few Not = omega arith
name_few Nand = omega arith
name_few Nor = omega arith
name_few Xor = omega arith
name_few Switch = omega arith
name_few Input = omega arith
name_few Output = omega arith
name_few Splitter = omega arith
name_few Joiner = omega arith
name_few Clock = omega arith
name_few Const = omega arith
name_few Majority = omega arith

-- The lines.
component_few : (i k d : ℕ) → i < 1000 → d < 2 ^ 32 → length (component_line i k d) ≤ 24
unfolding component_line
component_few i k d h l =
    let a = numeral_few 2 i h in
    let b = name_few (kind_of k) in
    let e = numeral_few 9 d (omega arith) in
    simp length-append (omega arith)

wire_few : (w : Wire) → w.src.comp.0 < 10000 → w.src.port < 10000 → w.dst.comp.0 < 10000 → w.dst.port < 10000
    → length (wire_line w) ≤ 20
unfolding wire_line
wire_few w p q r s =
    let a = numeral_few 3 w.src.comp.0 p in
    let b = numeral_few 3 w.src.port q in
    let d = numeral_few 3 w.dst.comp.0 r in
    let e = numeral_few 3 w.dst.port s in
    simp length-append (omega arith)

spaced_few : (xs : List ℕ) → ((x : ℕ) → In x xs → x < 1000) → length (spaced xs) ≤ 4 * length xs
spaced_few [] h = omega arith
spaced_few (x ∷ xs) h =
    let a = numeral_few 2 x (h x (inl refl)) in
    let b = spaced_few xs (λ y l. h y (inr l)) in
    simp length-append (omega arith)

joined_few : (f : ℕ → List ℕ) (w k q : ℕ) → ((i : ℕ) → i < q + k → length (f i) ≤ w) → length (joined f (from q k)) ≤ w * k
joined_few f w zero q h = omega arith
joined_few f w (suc k) q h =
    let a = h q (omega arith) in
    let b = joined_few f w k (suc q) (λ i l. h i (omega arith)) in
    simp (length-append, mul-suc) (omega arith)

-- The parts of the listing of a net.
module _ (T : Tables) (z : net_number T ≡ 0) where
  id_few : (i : ℕ) → i < T.counts.components → id_at T i < 2 ^ 32
  unfolding ids_distinct
  id_few i h =
      below_lt (id_at T i) 32
      (every_from (λ j. below (id_at T j) 32) T.counts.components
      (and_left _ _ (net_number-net T z).ids) i h)

  components_few : length (components_text T) ≤ 6200
  components_few =
      let n = (net_within T z).components in
      let a = numeral_few 2 T.counts.components (omega arith) in
      let b =
      joined_few (λ i. component_line i (fields_at T i).kind (id_at T i)) 24 T.counts.components 0
      (λ i h. component_few i (fields_at T i).kind (id_at T i) (omega arith) (id_few i (omega arith))) in
      simp length-append (omega arith)

  wire_at_few : (k : ℕ) → k < T.counts.wires → length (wire_line (wire_at T k)) ≤ 20
  wire_at_few k h =
      let s = net_sound T z in
      let w = net_within T z in
      let p = (net_number-net T z).ports in
      let i = wire_in_lem T k h in
      let x = wire_at T k in
      let from-here = s.source x i in
      let to-there = s.target x i in
      let port-here = s.source_port x i in
      let port_there = s.target_port x i in
      let outs = ports_follow-outputs T p x.src.comp.0 from-here in
      let ins = ports_follow-inputs T p x.dst.comp.0 to-there in
      wire_few x (omega (arith, w.components)) (omega (arith, w.outputs)) (omega (arith, w.components))
      (omega (arith, w.inputs))

  wires_few : length (wires_text T) ≤ 20500
  wires_few =
      let n = (net_within T z).wires in
      let a = numeral_few 3 T.counts.wires (omega arith) in
      let b = joined_few (λ k. wire_line (wire_at T k)) 20 T.counts.wires 0 (λ k h. wire_at_few k (omega arith)) in
      simp length-append (omega arith)

  round_few : (r : ℕ) → r < 100 → length (round_line r (current_list T)) ≤ 1038
  round_few r h =
      let n = (net_within T z).components in
      let l = (net_number-net T z).current in
      let a = numeral_few 1 r h in
      let b = spaced_few (current_list T) (λ x i. omega (arith, names_existing T (current_list T) l x i)) in
      let d = names_length T (current_list T) l in
      simp length-append (omega arith)

rounds_few : (k r : ℕ) (T : Tables) → net_number T ≡ 0 → r + k ≤ 17 → length (round_lines k r T) ≤ 1038 * k + 9
unfolding round_lines
rounds_few zero r T z h = omega arith
rounds_few (suc k) r T z h =
    let U = round_tables T 0 in
    let net : net_number U ≡ 0 = round_tables-net T 0 z in
    let a = round_few U net r (omega arith) in
    let b = rounds_few k (suc r) U net (omega arith) in
    one_more (round_line r (current_list U)) (cond (calm U) (ending true) (round_lines k (suc r) U)) a (by_calm (calm U) (round_lines k (suc r) U) b)
  where
    one_more : (xs ys : List ℕ) → length xs ≤ 1038 → length ys ≤ 1038 * k + 9 → length (xs ++ ys) ≤ 1038 * suc k + 9
    one_more xs ys l m = simp length-append (omega arith)

    by_calm : (b : Bool) (xs : List ℕ) → length xs ≤ 1038 * k + 9 → length (cond b (ending true) xs) ≤ 1038 * k + 9
    by_calm true xs l = omega arith
    by_calm false xs l = l

against_few : (x : Refusal) → length (against_text x) ≤ 9 + length (numeral x.earlier)
against_few x = by_number (tells_of_two x.number)
  where
    by_number : (b : Bool) → length (cond b (ascii " against " ++ numeral x.earlier) []) ≤ 9 + length (numeral x.earlier)
    by_number true = simp length-append (omega arith)
    by_number false = omega arith

-- Every listing.
pub listing_few : (file : List ℕ) → IsBytes file → length (listing file) ≤ 65536
unfolding listing
listing_few file bytes = by_verdict (load_verdict file fresh) refl
  where
    all : (xs ys zs : List ℕ) → length xs ≤ 6200 → length ys ≤ 20500 → length zs ≤ 1038 * 16 + 9 → length (xs ++ ys ++ zs) ≤ 65536
    all xs ys zs a b d = simp length-append (omega arith)

    by_verdict : (v : Verdict) → load_verdict file fresh ≡ v → length (listed_text v (load_tables file fresh)) ≤ 65536
    by_verdict (Ok _) e =
        let z = loaded_number file bytes e in
        let T = load_tables file fresh in
        all (components_text T) (wires_text T) (round_lines 16 1 T)
        (components_few T z) (wires_few T z) (rounds_few 16 1 T z (omega arith))
    by_verdict (Err x) e =
        let a = numeral_most x.number in
        let b = numeral_most x.position in
        let d = against_few x in
        let f = numeral_most x.earlier in
        simp length-append (omega arith)

-- So a buffer of that size holds all of it: nothing is left out.
pub listing_whole : (file t : List ℕ) → IsBytes file → 65536 ≤ length t → place_after t 0 (length (listing file)) ≡ length (listing file)
listing_whole file t bytes room = let few = listing_few file bytes in omega arith
