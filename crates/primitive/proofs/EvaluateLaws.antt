-- Laws of evaluating a single component: the test of its values, and the answer after each check.
-- Assumes nothing.
use mathlib.Core.Path.{◌≡◌, sym, ap, ◌∙◌, refl}
use mathlib.Core.Bool.{Bool, true, false, not, ◌&&◌, ◌||◌}
use mathlib.Core.List.{List, [], ◌∷◌, ◌++◌}
use Prim.Native.Nat.{ℕ, zero, suc, ◌+◌, ◌≤◌}
use native.Mathlib.Nat.{zero-add}
use native.Mathlib.Omega.{arith}
use borrow.Author.Tests.{ltb-false, not-false, ne_eqb}
use lib.ListN.{length, get_or, take, drop}
use lib.Seq.{drop-cons, sets, sets-eq, length-take-le}
use lib.Dec.{ltb}
use Rattle.std.specs.List.{list_all, zip}
use Rattle.lists.specs.Lists.{from, every, refusal, ◌if◌}
use Rattle.lists.proofs.ListsLaws.{refusal_first, refusal_rest}
use Rattle.lists.proofs.TestsLaws.{or_left, or_right}
use Rattle.value.specs.Value.{of_width, fits_in}
use Rattle.kinds.specs.declared.table.Fields.{Fields}
use Rattle.kinds.proofs.GivenLaws.{done_values, done_declined, declined_refusal, refusing_err}
use Rattle.kinds.specs.Kinds.{for_custom, unknown, primitive, obeys, input_width, output_width}
use Rattle.primitive.specs.Evaluate.{fitting, outputs_after, evaluate_number, evaluate_outputs, evaluated_gives}
use Rattle.primitive.specs.Own.{Own}
use Rattle.kinds.specs.Given.{Verdict, giving, refusing}
use Rattle.std.specs.Prelude.{Result, Ok, Err}
use Rattle.kinds.specs.declared.answers.Refusal.{Refusal}

-- Value i fits a port of w bits.
abbrev pub fits_at : ℕ → List ℕ → List ℕ → ℕ → Bool
fits_at w ns ws i = fits_in w (of_width (get_or ws i 0) (get_or ns i 0))

-- A number and a width are a value that fits a port of w bits.
abbrev pub pair_fits : ℕ → ℕ × ℕ → Bool
pair_fits w p = fits_in w (of_width p.1 p.0)

-- Pair by pair, the next k values from i on fit exactly if each does.
fit_pairs : (w k : ℕ) (ns ws : List ℕ) (i : ℕ) → i + k ≤ length ns → i + k ≤ length ws
    → list_all (pair_fits w) (zip (take k (drop i ns)) (take k (drop i ws))) ≡ every (fits_at w ns ws) (from i k)
fit_pairs w zero ns ws i a b = refl
fit_pairs w (suc k) ns ws i a b =
    rw (drop-cons ns i 0 (omega arith), drop-cons ws i 0 (omega arith))
    (ap (λ (r : Bool). fits_at w ns ws i && r) (fit_pairs w k ns ws (suc i) (omega arith) (omega arith)))

pub fitting_pairs : (w k : ℕ) (ns ws : List ℕ) → k ≤ length ns → k ≤ length ws
    → list_all (pair_fits w) (zip (take k ns) (take k ws)) ≡ fitting w k ns ws
unfolding fitting
fitting_pairs w k ns ws a b = fit_pairs w k ns ws 0 (omega arith) (omega arith)

-- The checks in their order: fewer values than the component's ports; values that fit.
module _ (f : Fields) (xs vs ys ws : List ℕ) where
  abbrev pub lacking : Bool
  lacking = ltb (length xs) f.inputs || ltb (length vs) f.inputs || ltb (length ys) f.outputs || ltb (length ws) f.outputs

  abbrev pub both_fit : Bool
  both_fit = fitting (input_width f) f.inputs xs vs && fitting (output_width f) f.outputs ys ws

  -- The number at each return.
  pub number_7 : for_custom f.kind ≡ true → 7 ≡ evaluate_number f xs vs ys ws
  unfolding evaluate_number
  number_7 a = rw a

  module _ (a : for_custom f.kind ≡ false) where
    pub number_8 : unknown f.kind ≡ true → 8 ≡ evaluate_number f xs vs ys ws
    unfolding evaluate_number
    number_8 b = rw (a, b)

    module _ (b : unknown f.kind ≡ false) where
      pub number_9 : (primitive f && obeys f) ≡ false → 9 ≡ evaluate_number f xs vs ys ws
      unfolding evaluate_number
      number_9 d = rw (d, a, b)

      module _ (d : (primitive f && obeys f) ≡ true) where
        pub number_2 : lacking ≡ true → 2 ≡ evaluate_number f xs vs ys ws
        unfolding evaluate_number
        number_2 e = rw (d, a, b, e)

        pub number_19 : lacking ≡ false → both_fit ≡ false → 19 ≡ evaluate_number f xs vs ys ws
        unfolding evaluate_number
        number_19 e h = rw (d, a, b, e, h)

        pub number_0 : lacking ≡ false → both_fit ≡ true → 0 ≡ evaluate_number f xs vs ys ws
        unfolding evaluate_number
        number_0 e h = rw (d, a, b, e, h)

  -- There are values for all ports where none is lacking.
  module _ (e : lacking ≡ false) where
    abbrev to_outputs : Bool
    to_outputs = ltb (length xs) f.inputs || ltb (length vs) f.inputs || ltb (length ys) f.outputs

    pub there_leaving : f.outputs ≤ length ws
    there_leaving = ltb-false (length ws) f.outputs (or_right to_outputs (ltb (length ws) f.outputs) e)

    pub there_outputs : f.outputs ≤ length ys
    there_outputs =
        ltb-false (length ys) f.outputs
        (or_right (ltb (length xs) f.inputs || ltb (length vs) f.inputs) (ltb (length ys) f.outputs)
        (or_left to_outputs (ltb (length ws) f.outputs) e))

    there_inputs_both : (ltb (length xs) f.inputs || ltb (length vs) f.inputs) ≡ false
    there_inputs_both =
        or_left (ltb (length xs) f.inputs || ltb (length vs) f.inputs) (ltb (length ys) f.outputs)
        (or_left to_outputs (ltb (length ws) f.outputs) e)

    pub there_inputs : f.inputs ≤ length xs
    there_inputs = ltb-false (length xs) f.inputs (or_left (ltb (length xs) f.inputs) (ltb (length vs) f.inputs) there_inputs_both)

    pub there_entering : f.inputs ≤ length vs
    there_entering = ltb-false (length vs) f.inputs (or_right (ltb (length xs) f.inputs) (ltb (length vs) f.inputs) there_inputs_both)

  -- What the number 0 says.
  module _ (z : evaluate_number f xs vs ys ws ≡ 0) where
    checks : List (ℕ × Bool)
    checks = (9 if not (primitive f && obeys f)) ∷ (2 if lacking) ∷ (19 if not both_fit) ∷ []

    past_8 : refusal checks ≡ 0
    unfolding evaluate_number checks
    past_8 =
        refusal_rest 8 (unknown f.kind) ((9 if not (primitive f && obeys f)) ∷ (2 if lacking) ∷ (19 if not both_fit) ∷ []) (λ q. omega arith)
        (refusal_rest 7 (for_custom f.kind) ((8 if unknown f.kind) ∷ (9 if not (primitive f && obeys f)) ∷ (2 if lacking) ∷ (19 if not both_fit) ∷ []) (λ q. omega arith) z)

    pub passed_obeys : (primitive f && obeys f) ≡ true
    unfolding checks
    passed_obeys = not-false _ (refusal_first 9 (not (primitive f && obeys f)) ((2 if lacking) ∷ (19 if not both_fit) ∷ []) (λ q. omega arith) past_8)

    past_9 : refusal ((2 if lacking) ∷ (19 if not both_fit) ∷ []) ≡ 0
    unfolding checks
    past_9 = refusal_rest 9 (not (primitive f && obeys f)) ((2 if lacking) ∷ (19 if not both_fit) ∷ []) (λ q. omega arith) past_8

    pub passed_there : lacking ≡ false
    passed_there = refusal_first 2 lacking ((19 if not both_fit) ∷ []) (λ q. omega arith) past_9

    pub passed_own : Own f (take f.inputs xs) (take f.outputs ys)
    passed_own =
        record {
          obeyed = passed_obeys;
          all_inputs = length-take-le f.inputs xs (there_inputs passed_there);
          all_outputs = length-take-le f.outputs ys (there_outputs passed_there);
        }

  -- The outcome of a refusal: the outputs are as they were.
  module _ (v : Verdict) (e : v ≡ refusing (evaluate_number f xs vs ys ws)) (r : Refusal) (h : v ≡ Err r) where
    pub refused_answer : (bits : ℕ) → evaluated_gives (Err r) ≡ giving (evaluate_number f xs vs ys ws) (bits ∷ [])
    refused_answer bits =
        let p = refusing_err (evaluate_number f xs vs ys ws) v r e h in
        rw (p.1, ne_eqb (evaluate_number f xs vs ys ws) 0 p.0)

    pub refused_outputs : (t : ℕ) → ys ≡ evaluate_outputs f xs vs ys ws t
    unfolding evaluate_outputs
    refused_outputs t = rw (ne_eqb (evaluate_number f xs vs ys ws) 0 (refusing_err (evaluate_number f xs vs ys ws) v r e h).0)

  -- The outcome of an evaluation: the component's outputs are laid over the lent ones.
  module _ (z : evaluate_number f xs vs ys ws ≡ 0) where
    pub done_answer : (r bits : ℕ) → r ≡ bits → evaluated_gives (Ok r) ≡ giving (evaluate_number f xs vs ys ws) (bits ∷ [])
    done_answer r bits e = rw (z, e)

    pub done_outputs : (zs : List ℕ) (t : ℕ) → zs ≡ outputs_after f (take f.inputs xs) (take f.outputs ys) t → length zs ≡ f.outputs
        → zs ++ drop f.outputs ys ≡ evaluate_outputs f xs vs ys ws t
    unfolding evaluate_outputs
    done_outputs zs t e l = rw (z, ← e) (laid (there_outputs (passed_there z)))
      where
        laid : f.outputs ≤ length ys → zs ++ drop f.outputs ys ≡ sets ys 0 zs
        laid h = rw (← l) (sym (sets-eq zs ys 0 (omega arith) ∙ rw zero-add))

-- Answers that give the same are the same.
pub evaluated_gives-is : (a b : Result ℕ Refusal) → evaluated_gives a ≡ evaluated_gives b → a ≡ b
evaluated_gives-is (Ok a) (Ok b) e = ap (λ (xs : List ℕ). Ok (get_or xs 0 0)) (done_values (a ∷ []) (b ∷ []) e)
evaluated_gives-is (Ok a) (Err r) e = absurd (done_declined (a ∷ []) r e)
evaluated_gives-is (Err r) (Ok a) e = absurd (done_declined (a ∷ []) r (sym e))
evaluated_gives-is (Err r) (Err s) e = ap Err (declined_refusal r s e)
