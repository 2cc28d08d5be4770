-- The answers to the questions, by the number of their checks: refused, or what the net says. And what the net gives
-- the functions that find it.
-- Not here: laws of the ends of wires (EndsLaws).
-- Assumes nothing.
use mathlib.Core.Path.{◌≡◌, refl, sym, ap, ◌∙◌}
use mathlib.Core.Bool.{Bool, true, false, cond, ◌||◌}
use mathlib.Core.List.{List, [], ◌∷◌}
use Prim.Native.Nat.{ℕ, ◌+◌, ◌≤◌, ◌<◌}
use native.Mathlib.Omega.{arith}
use borrow.Author.Tests.{ne_eqb, le-leb, lt-leb, leb-false, lt-ltb, le-ltb, ltb-false}
use lib.ListN.{length, get_or}
use lib.Dec.{eqb, leb, ltb}
use Rattle.lists.specs.Lists.{first, overlay}
use Rattle.lists.proofs.TestsLaws.{or_right}
use Rattle.value.specs.declared.Value.{Value}
use Rattle.value.specs.Value.{level, of_width}
use Rattle.kinds.specs.declared.table.Fields.{Fields}
use Rattle.kinds.specs.Kinds.{input_width, output_width}
use Rattle.kinds.specs.Given.{Given, Verdict, done, declined, refused_by, refusing}
use Rattle.kinds.proofs.GivenLaws.{refusing_err}
use Rattle.tables.specs.Tables.{Tables, fields_at, id_at, first_input, first_output, indexes, wire_at, index_of}
use Rattle.tables.specs.Words.{no_counts, uncounted}
use Rattle.net.specs.Net.{net_number, on_net, Checks}
use Rattle.net.specs.Parts.{lent}
use Rattle.net.proofs.ClausesLaws.{kinds_obeyed-fit}
use Rattle.net.proofs.NetLaws.{net_number-net}
use Rattle.questions.specs.declared.Side.{Side}
use Rattle.questions.specs.declared.Side.TheVariants.{Inputs, Outputs}
use Rattle.questions.specs.Questions.{of_net, whether_gives, index_gives, index_found, AsksIndex, port_count, value_at, value_gives, value_on_net, AsksValue}
use Rattle.questions.specs.Questions.{list_number, Listing, AsksSources, AsksTargets}
use Rattle.questions.specs.declared.Tip.{Tip}
use Rattle.questions.specs.declared.Tip.TheVariants.{Source, Target}
use Rattle.questions.specs.Asked.{end_of, met, RowRight}
use Rattle.rounds.proofs.Sound.{net_sound, wire_in_lem}
use Rattle.rounds.proofs.RoundLaws.{net_rows}
use Rattle.net.proofs.NetLaws.{number_refused, number_net, number_passed}
use Rattle.questions.proofs.EndsLaws.{sources_met, targets_met}
use Rattle.std.specs.Prelude.{Result, Ok, Err}
use Rattle.tables.specs.declared.FlatIdx.{FlatIdx}
use Rattle.kinds.specs.declared.answers.Refusal.{Refusal}

-- What a net gives: a component's row, and the ends of its wires.
module _ (T : Tables) (z : net_number T ≡ 0) where
  pub net_row : (i : ℕ) → i < T.counts.components → RowRight T.components T.inputs T.outputs i
  net_row i h =
      record {
        row = omega (arith, net_rows T z, h);
        fit = kinds_obeyed-fit T (net_number-net T z).kinds i h;
        inputs_in = (net_sound T z).inputs_in i h;
        outputs_in = (net_sound T z).outputs_in i h;
      }

  pub net_end : (e : Tip) (k : ℕ) → k < T.counts.wires → end_of T.wires k e < 256
  net_end Source k h = omega (arith, (net_sound T z).source (wire_at T k) (wire_in_lem T k h), (net_sound T z).few)
  net_end Target k h = omega (arith, (net_sound T z).target (wire_at T k) (wire_in_lem T k h), (net_sound T z).few)

-- A question that the check of the net refuses, and one of a net.
of_refused : (T : Tables) (g : Given) (v : Verdict) (r : Refusal) → Checks T v → v ≡ Err r → declined r ≡ of_net T g
of_refused T g v r e f =
    let p = refusing_err (net_number T) v r e f in
    rw (p.1, ne_eqb (net_number T) 0 p.0)

of_net_lem : (T : Tables) (g : Given) → net_number T ≡ 0 → g ≡ of_net T g
of_net_lem T g z = rw z

-- Whether a net has the property b: calm, satisfied.
module _ (T : Tables) (b : Bool) where
  pub whether_refused : (v : Verdict) (r : Refusal) → Checks T v → v ≡ Err r → whether_gives (Err r) ≡ of_net T (done (level b ∷ []))
  whether_refused = of_refused T (done (level b ∷ []))

  pub whether_is : (x : Bool) → net_number T ≡ 0 → x ≡ b → whether_gives (Ok x) ≡ of_net T (done (level b ∷ []))
  whether_is x z e = ap (λ (y : Bool). done (level y ∷ [])) e ∙ of_net_lem T (done (level b ∷ [])) z

-- The index of an id.
pub index_refused : (T : Tables) (id : ℕ) (v : Verdict) (r : Refusal) → Checks T v → v ≡ Err r → AsksIndex T id (Err r)
index_refused T id = of_refused T (index_found (index_of T id))

pub index_found_lem : (T : Tables) (id : ℕ) (r : Result FlatIdx Refusal) → net_number T ≡ 0
    → index_gives r ≡ index_found (first (λ i. eqb (id_at T i) id) (indexes T))
    → AsksIndex T id r
unfolding index_of
index_found_lem T id r z e = e ∙ of_net_lem T (index_found (index_of T id)) z

-- A port's value.
module _ (T : Tables) (side : Side) (i p : ℕ) where
  pub value_refused : (v : Verdict) (r : Refusal) → Checks T v → v ≡ Err r → AsksValue T side i p (Err r)
  value_refused = of_refused T (value_on_net T side i p)

  lent_value : (side : Side)
      → value_on_net (lent T.components T.inputs T.outputs [] T.counts) side i p ≡ value_on_net T side i p
  unfolding value_on_net
  lent_value Inputs = refl
  lent_value Outputs = refl

  pub value_there : (r : Result Value Refusal) → net_number T ≡ 0
      → value_gives r ≡ value_on_net (lent T.components T.inputs T.outputs [] T.counts) side i p
      → AsksValue T side i p r
  value_there r z e = e ∙ lent_value side ∙ of_net_lem T (value_on_net T side i p) z

-- The same inside the tables that are looked at. What the side says: how many ports there are, where they stand, and a port's value.
module _ (T : Tables) (side : Side) (i : ℕ) where
  -- The words of the components say how many ports there are.
  pub count_words_lem : port_count (uncounted T.components []) side i ≡ port_count T side i
  count_words_lem = by_side side
    where
      by_side : (x : Side) → port_count (uncounted T.components []) x i ≡ port_count T x i
      by_side Inputs = refl
      by_side Outputs = refl

  pub count_input : side ≡ Inputs → (fields_at T i).inputs ≡ port_count T side i
  count_input e = ap (λ (x : Side). port_count T x i) (sym e)

  pub count_output : side ≡ Outputs → (fields_at T i).outputs ≡ port_count T side i
  count_output e = ap (λ (x : Side). port_count T x i) (sym e)

  module _ (p : ℕ) (f : Fields) (x w : ℕ) (e : f ≡ fields_at T i) where
    pub value_input : side ≡ Inputs → x ≡ get_or T.inputs (first_input T i + p) 0 → w ≡ input_width f → of_width w x ≡ value_at T side i p
    value_input k n u =
        (λ j. of_width (u j) (n j)) ∙ ap (λ (g : Fields). of_width (input_width g) (get_or T.inputs (first_input T i + p) 0)) e
        ∙ ap (λ (y : Side). value_at T y i p) (sym k)

    pub value_output : side ≡ Outputs → x ≡ get_or T.outputs (first_output T i + p) 0 → w ≡ output_width f → of_width w x ≡ value_at T side i p
    value_output k n u =
        (λ j. of_width (u j) (n j)) ∙ ap (λ (g : Fields). of_width (output_width g) (get_or T.outputs (first_output T i + p) 0)) e
        ∙ ap (λ (y : Side). value_at T y i p) (sym k)

-- No such port, and one that is there.
module _ (T : Tables) (side : Side) (i p m : ℕ) (w : m ≡ port_count (uncounted T.components []) side i) where
  e : m ≡ port_count T side i
  e = w ∙ count_words_lem T side i

  pub value_none : (leb T.counts.components i || leb m p) ≡ true → value_gives (Err (refused_by 17)) ≡ value_on_net T side i p
  unfolding value_on_net
  value_none h = rw (← e, h)

  module _ (h : (leb T.counts.components i || leb m p) ≡ false) where
    pub value_port : p < port_count (uncounted T.components []) side i
    value_port = omega (arith, w, leb-false m p (or_right (leb T.counts.components i) _ h))

    pub value_here : (v : Value) → v ≡ value_at (lent T.components T.inputs T.outputs [] no_counts) side i p
        → value_gives (Ok v) ≡ value_on_net T side i p
    unfolding value_on_net
    value_here v u = ap (λ (x : Value). value_gives (Ok x)) (u ∙ by_side side) ∙ rw (← e, h)
      where
        by_side : (x : Side) → value_at (lent T.components T.inputs T.outputs [] no_counts) x i p ≡ value_at T x i p
        by_side Inputs = refl
        by_side Outputs = refl

-- Sources and targets: what is checked, in the order of the numbers.
module _ (T : Tables) (i : ℕ) (list : List ℕ) where
  -- What is asked of a net.
  abbrev there : ℕ
  there = cond (leb T.counts.components i) 17 0

  pub list_short : length list < 256 → 2 ≡ list_number T i list
  unfolding list_number
  list_short h = rw (lt-ltb (length list) 256 h)

  long : 256 ≤ length list → list_number T i list ≡ on_net T there
  unfolding list_number
  long h = rw (le-ltb (length list) 256 h)

  pub list_refused : 256 ≤ length list → (v : Verdict) (r : Refusal) → Checks T v → v ≡ Err r → ◌≡◌ {A = Verdict} (Err r) (refusing (list_number T i list))
  list_refused h v r e f =
      sym f ∙ e ∙ ap refusing (sym (long h ∙ number_refused T there (net_number T) refl (refusing_err (net_number T) v r e f).0))

  pub list_none : 256 ≤ length list → net_number T ≡ 0 → T.counts.components ≤ i → 17 ≡ list_number T i list
  list_none h z l = sym (long h ∙ number_net T there z ∙ rw (le-leb T.counts.components i l))

  pub list_passed : 256 ≤ length list → net_number T ≡ 0 → i < T.counts.components → 0 ≡ list_number T i list
  list_passed h z l = sym (long h ∙ number_net T there z ∙ rw (lt-leb T.counts.components i l))

  -- and what holds where nothing was refused.
  module _ (z : list_number T i list ≡ 0) where
    pub list_full : 256 ≤ length list
    unfolding list_number
    list_full = by_test (ltb (length list) 256) refl z
      where
        by_test : (b : Bool) → ltb (length list) 256 ≡ b → cond b 2 (on_net T there) ≡ 0 → 256 ≤ length list
        by_test true q e = absurd (omega arith)
        by_test false q e = ltb-false (length list) 256 q

    pub list_net : net_number T ≡ 0
    list_net = number_passed T there (sym (long list_full) ∙ z)

-- The answer and the lent list, where m is the number and xs is listed.
module _ (m : ℕ) (xs list : List ℕ) where
  pub joined_refused : (v : Verdict) (r : Refusal) → v ≡ refusing m → v ≡ Err r → Listing m xs list (Err r) list
  joined_refused v r e f =
      let p = refusing_err m v r e f in
      rw (p.1, ne_eqb m 0 p.0) (refl, refl)

  pub joined_listed : (n : ℕ) (u : List ℕ) → m ≡ 0 → (n ≡ length xs) × (u ≡ overlay xs list) → Listing m xs list (Ok n) u
  joined_listed n u z e = rw z (ap (λ (k : ℕ). done (k ∷ [])) e.0, e.1)

-- Sources and targets are what wires join.
module _ (T : Tables) (i : ℕ) (list : List ℕ) (r : Result ℕ Refusal) (u : List ℕ) where
  pub sources_joined : Listing (list_number T i list) (met T.wires T.counts.wires Target Source i T.counts.components) list r u
      → AsksSources T i list r u
  sources_joined e = rw (sources_met T i) e

  pub targets_joined : Listing (list_number T i list) (met T.wires T.counts.wires Source Target i T.counts.components) list r u
      → AsksTargets T i list r u
  targets_joined e = rw (targets_met T i) e
