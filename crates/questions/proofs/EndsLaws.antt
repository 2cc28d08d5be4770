-- Laws of the ends of wires (specs/Asked.antt): marking one wire more, listing one number more, and that sources
-- and targets are these.
-- Assumes nothing.
use mathlib.Core.Path.{◌≡◌, refl, sym, ap, ◌∙◌}
use mathlib.Core.Bool.{Bool, true, false, cond, ◌&&◌, ◌||◌, or-true, or-false, and_comm}
use mathlib.Core.List.{List, [], ◌∷◌, ◌++◌, append-nil}
use Prim.Native.Nat.{ℕ, suc, ◌+◌, ◌<◌}
use native.Mathlib.Numerals.{add-one}
use native.Mathlib.Omega.{arith}
use borrow.Author.Tests.{eqb-true, eqb-false, eq-eqb, ne_eqb}
use lib.ListN.{length, get_or, drop, set, replicate, length-append}
use lib.Seq.{drop-cons, append_snoc, get_or-set_same, get_or-set_other, set-append_seam}
use lib.Dec.{eqb}
use Rattle.lists.proofs.ListsLaws.{replicate_zero}
use Rattle.lists.specs.Lists.{from, keep, any, overlay}
use Rattle.lists.proofs.MembersLaws.{any_append, any_map, from_last, keep_cong, any_cong}
use Rattle.lists.proofs.ListsLaws.{keep_append}
use Rattle.tables.specs.declared.Wire.{Wire}
use Rattle.tables.specs.Tables.{Tables, wire_at, joins, sources, targets, indexes}
use Rattle.questions.specs.declared.Tip.{Tip}
use Rattle.questions.specs.declared.Tip.TheVariants.{Source, Target}
use Rattle.questions.specs.Asked.{end_of, meets, met, marked_below}

-- One number more.
any_last : (f : ℕ → Bool) (k : ℕ) → any f (from 0 (k + 1)) ≡ (any f (from 0 k) || f k)
any_last f k =
    ap (λ (n : ℕ). any f (from 0 n)) (add-one k) ∙ ap (any f) (from_last k) ∙ any_append f (from 0 k) (k ∷ [])
    ∙ ap (λ (b : Bool). any f (from 0 k) || b) (or-false (f k))

-- Marking the far end of wire k, where its near end is component i; or not.
module _ (ws old marks : List ℕ) (near far : Tip) (i k : ℕ)
    (so_far : (j : ℕ) → get_or marks j 0 ≡ cond (meets ws k near far i j) 1 (get_or old j 0)) where
  pub mark_here : (at : ℕ) → end_of ws k near ≡ i → at ≡ end_of ws k far → at < length marks → (j : ℕ)
      → get_or (set marks at 1) j 0 ≡ cond (meets ws (k + 1) near far i j) 1 (get_or old j 0)
  mark_here at n e h j = by_test (eqb (end_of ws k far) j) refl
    where
      last : meets ws (k + 1) near far i j ≡ (meets ws k near far i j || eqb (end_of ws k far) j)
      last = any_last (λ q. eqb (end_of ws q near) i && eqb (end_of ws q far) j) k ∙ rw (eq-eqb (end_of ws k near) i n)

      by_test : (b : Bool) → eqb (end_of ws k far) j ≡ b
          → get_or (set marks at 1) j 0 ≡ cond (meets ws (k + 1) near far i j) 1 (get_or old j 0)
      by_test true q =
          let z : at ≡ j = e ∙ eqb-true (end_of ws k far) j q in
          ap (λ (x : ℕ). get_or (set marks at 1) x 0) (sym z) ∙ get_or-set_same marks at 1 0 h
          ∙ rw (last, q, or-true (meets ws k near far i j))
      by_test false q =
          get_or-set_other marks at j 1 0 (λ z. eqb-false (end_of ws k far) j q (sym e ∙ sym z)) ∙ so_far j
          ∙ rw (last, q, or-false (meets ws k near far i j))

  pub mark_none : (end_of ws k near ≡ i → ⊥) → (j : ℕ)
      → get_or marks j 0 ≡ cond (meets ws (k + 1) near far i j) 1 (get_or old j 0)
  mark_none n j =
      let last : meets ws (k + 1) near far i j ≡ meets ws k near far i j =
      any_last (λ q. eqb (end_of ws q near) i && eqb (end_of ws q far) j) k
      ∙ rw (ne_eqb (end_of ws k near) i n) (or-false (meets ws k near far i j)) in
      so_far j ∙ rw last

-- The list of one number more: marked, or not.
module _ (marks : List ℕ) (j : ℕ) where
  marked_here : get_or marks j 0 ≡ 1 → marked_below marks (j + 1) ≡ marked_below marks j ++ (j ∷ [])
  marked_here e =
      ap (marked_below marks) (add-one j) ∙ ap (keep (λ q. eqb (get_or marks q 0) 1)) (from_last j)
      ∙ keep_append (λ q. eqb (get_or marks q 0) 1) (from 0 j) (j ∷ []) ∙ rw (eq-eqb (get_or marks j 0) 1 e)

  marked_none : (get_or marks j 0 ≡ 1 → ⊥) → marked_below marks (j + 1) ≡ marked_below marks j
  marked_none e =
      ap (marked_below marks) (add-one j) ∙ ap (keep (λ q. eqb (get_or marks q 0) 1)) (from_last j)
      ∙ keep_append (λ q. eqb (get_or marks q 0) 1) (from 0 j) (j ∷ [])
      ∙ rw (ne_eqb (get_or marks j 0) 1 e) (append-nil (marked_below marks j))

-- One number more at the front of a table.
overlay_snoc : (xs t : List ℕ) (x : ℕ) → length xs < length t
    → set (overlay xs t) (length xs) x ≡ overlay (xs ++ (x ∷ [])) t
unfolding overlay
overlay_snoc xs t x h =
    let n : length (xs ++ (x ∷ [])) ≡ suc (length xs) = simp length-append (add-one (length xs)) in
    let a : set (xs ++ drop (length xs) t) (length xs) x ≡ xs ++ x ∷ drop (suc (length xs)) t =
    rw (drop-cons t (length xs) 0 h) (set-append_seam xs (get_or t (length xs) 0) (drop (suc (length xs)) t) x) in
    rw n (a ∙ sym (append_snoc xs x (drop (suc (length xs)) t)))

-- So, where the list so far stands at the front of the table:
module _ (marks t u : List ℕ) (listed j : ℕ) (count : listed ≡ length (marked_below marks j))
    (so_far : u ≡ overlay (marked_below marks j) t) where
  pub list_here : listed < length t → get_or marks j 0 ≡ 1
      → (listed + 1 ≡ length (marked_below marks (j + 1))) × (set u listed j ≡ overlay (marked_below marks (j + 1)) t)
  list_here h e =
      let n : length (marked_below marks (j + 1)) ≡ length (marked_below marks j) + 1 =
      ap length (marked_here marks j e) ∙ simp length-append in
      let l : length (marked_below marks j) < length t = omega arith in
      (omega arith, rw (so_far, count, marked_here marks j e) (overlay_snoc (marked_below marks j) t j l))

  pub list_none : (get_or marks j 0 ≡ 1 → ⊥)
      → (listed ≡ length (marked_below marks (j + 1))) × (u ≡ overlay (marked_below marks (j + 1)) t)
  list_none e = rw (marked_none marks j e) (count, so_far)

-- Nothing is marked at first.
-- So what is marked in the end are the components that wires join.
pub marked_met : (ws marks : List ℕ) (size m : ℕ) (near far : Tip) (i n : ℕ)
    → ((j : ℕ) → get_or marks j 0 ≡ cond (meets ws m near far i j) 1 (get_or (replicate size 0) j 0))
    → marked_below marks n ≡ met ws m near far i n
unfolding met
marked_met ws marks size m near far i n e =
    keep_cong (λ j. eqb (get_or marks j 0) 1) (meets ws m near far i) (from 0 n) (λ j h. each j)
  where
    by_test : (b : Bool) → eqb (cond b 1 0) 1 ≡ b
    by_test true = refl
    by_test false = refl

    each : (j : ℕ) → eqb (get_or marks j 0) 1 ≡ meets ws m near far i j
    each j =
        ap (λ (x : ℕ). eqb x 1) (e j ∙ ap (cond (meets ws m near far i j) 1) (replicate_zero size j))
        ∙ by_test (meets ws m near far i j)

-- Sources, targets and whether a component is driven.
-- Wires join component i to component j: i is their source, and j their target.
joins_meets : (T : Tables) (i j : ℕ) → joins T i j ≡ meets T.wires T.counts.wires Source Target i j
joins_meets T i j =
    any_map (λ (w : Wire). eqb w.src.comp.0 i && eqb w.dst.comp.0 j) (wire_at T) (from 0 T.counts.wires)

-- The same from the other end.
meets_back : (ws : List ℕ) (m : ℕ) (near far : Tip) (i j : ℕ) → meets ws m near far i j ≡ meets ws m far near j i
meets_back ws m near far i j =
    any_cong _ _ (from 0 m) (λ k h. and_comm (eqb (end_of ws k near) i) (eqb (end_of ws k far) j))

pub sources_met : (T : Tables) (i : ℕ) → sources T i ≡ met T.wires T.counts.wires Target Source i T.counts.components
unfolding sources met
sources_met T i =
    keep_cong (λ j. joins T j i) (meets T.wires T.counts.wires Target Source i) (indexes T)
    (λ j h. joins_meets T j i ∙ meets_back T.wires T.counts.wires Source Target j i)

pub targets_met : (T : Tables) (i : ℕ) → targets T i ≡ met T.wires T.counts.wires Source Target i T.counts.components
unfolding targets met
targets_met T i =
    keep_cong (λ j. joins T i j) (meets T.wires T.counts.wires Source Target i) (indexes T) (λ j h. joins_meets T i j)
