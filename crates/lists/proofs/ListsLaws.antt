-- Laws of the words of specs/Lists.antt: loops over positions against `from`, by what they look
-- for: whether one passes, the first that passes, the kth that passes, how many pass, the sum over those that pass; and
-- `every`.
-- Not here: tests of two parts (TestsLaws); laws of length, get_or, take, drop and _++_ (lib.ListN, lib.Seq).
-- Assumes nothing.
use mathlib.Core.Path.{◌≡◌, refl, sym, ap, ◌∙◌}
use mathlib.Core.Bool.{Bool, true, false, cond, not, ◌||◌}
use mathlib.Core.List.{List, [], ◌∷◌, ◌++◌, append-nil}
use mathlib.Core.Option.{Option, none, some}
use Prim.Native.Nat.{ℕ, zero, suc, ◌+◌, ◌-◌, ◌≤◌, ◌<◌}
use native.Mathlib.Numerals.{add-one}
use native.Mathlib.Decide.{dec_lt}
use native.Mathlib.Omega.{arith}
use borrow.Author.Tests.{eq-eqb, ne_eqb, leb-true}
use lib.Dec.{eqb, leb}
use lib.ListN.{length, get_or, replicate, length-replicate, get_or-replicate, get_or-eq_default}
use Rattle.lists.proofs.TestsLaws.{and_left, and_right}
use Rattle.lists.specs.Lists.{within, from, keep, every, any, joined, first, refusal, ◌if◌}

-- A number given back is 0 exactly if no test holds.
pub refusal_first : (k : ℕ) (b : Bool) (cs : List (ℕ × Bool)) → (k ≡ 0 → ⊥) → refusal ((k if b) ∷ cs) ≡ 0 → b ≡ false
refusal_first k true cs h e = absurd (h e)
refusal_first k false cs h e = refl

pub refusal_rest : (k : ℕ) (b : Bool) (cs : List (ℕ × Bool)) → (k ≡ 0 → ⊥) → refusal ((k if b) ∷ cs) ≡ 0 → refusal cs ≡ 0
refusal_rest k true cs h e = absurd (h e)
refusal_rest k false cs h e = e

pub within_least : (a b x : ℕ) → within a b x ≡ true → a ≤ x
within_least a b x e = leb-true a x (and_left (leb a x) (leb x b) e)

pub within_most : (a b x : ℕ) → within a b x ≡ true → x ≤ b
within_most a b x e = leb-true x b (and_right (leb a x) (leb x b) e)

-- A loop `while q < n` over positions: one step of what is still to come, and its end.
pub from_step : (q n : ℕ) → q < n → from q (n - q) ≡ q ∷ from (q + 1) (n - (q + 1))
from_step q n h =
    let e : n - q ≡ suc (n - (q + 1)) = omega arith in
    ap (λ (k : ℕ). from q k) e ∙ ap (λ (j : ℕ). q ∷ from j (n - (q + 1))) (sym (add-one q))

pub from_end : (q n : ℕ) → n ≤ q → from q (n - q) ≡ []
from_end q n h =
    let e : n - q ≡ 0 = omega arith in
    ap (λ (k : ℕ). from q k) e

-- A search for one that does not pass.
module _ (f : ℕ → Bool) (q n : ℕ) (x : Bool) where
  pub every_fails : q < n → f q ≡ false → every f (from q (n - q)) ≡ x → false ≡ x
  every_fails h e inv =
      let z : every f (from q (n - q)) ≡ false = rw (from_step q n h, e) in
      sym z ∙ inv

  pub every_next : q < n → f q ≡ true → every f (from q (n - q)) ≡ x → every f (from (q + 1) (n - (q + 1))) ≡ x
  every_next h e inv =
      let z : every f (from q (n - q)) ≡ every f (from (q + 1) (n - (q + 1))) = rw (from_step q n h, e) in
      sym z ∙ inv

  pub every_end : n ≤ q → every f (from q (n - q)) ≡ x → true ≡ x
  every_end h inv = ap (every f) (sym (from_end q n h)) ∙ inv

-- Such a loop against a definition over `from`, in the form "what the definition says of the positions still to come is
-- the answer": position q decides it, or leaves it to the later ones; or there are no later ones.
module _ (f : ℕ → Bool) (q n : ℕ) where
  -- whether one passes
  pub any_here : (x : Bool) → any f (from q (n - q)) ≡ x → q < n → f q ≡ true → true ≡ x
  any_here x e h t =
      let z : any f (from q (n - q)) ≡ true = rw (from_step q n h, t) in
      sym z ∙ e

  pub any_next : (x : Bool) → any f (from q (n - q)) ≡ x → q < n → f q ≡ false → any f (from (q + 1) (n - (q + 1))) ≡ x
  any_next x e h t =
      let z : any f (from q (n - q)) ≡ any f (from (q + 1) (n - (q + 1))) = rw (from_step q n h, t) in
      sym z ∙ e

  pub any_none : (x : Bool) → any f (from q (n - q)) ≡ x → n ≤ q → false ≡ x
  any_none x e h = ap (any f) (sym (from_end q n h)) ∙ e

  -- the first that passes
  pub first_here : (x : Option ℕ) → first f (from q (n - q)) ≡ x → q < n → f q ≡ true → some q ≡ x
  first_here x e h t =
      let z : first f (from q (n - q)) ≡ some q = rw (from_step q n h, t) in
      sym z ∙ e

  pub first_next : (x : Option ℕ) → first f (from q (n - q)) ≡ x → q < n → f q ≡ false
      → first f (from (q + 1) (n - (q + 1))) ≡ x
  first_next x e h t =
      let z : first f (from q (n - q)) ≡ first f (from (q + 1) (n - (q + 1))) = rw (from_step q n h, t) in
      sym z ∙ e

  pub first_none : (x : Option ℕ) → first f (from q (n - q)) ≡ x → n ≤ q → none ≡ x
  first_none x e h = ap (first f) (sym (from_end q n h)) ∙ e

  -- those that pass
  pub keep_here : q < n → f q ≡ true → keep f (from q (n - q)) ≡ q ∷ keep f (from (q + 1) (n - (q + 1)))
  keep_here h t = rw (from_step q n h, t)

  pub keep_next : q < n → f q ≡ false → keep f (from q (n - q)) ≡ keep f (from (q + 1) (n - (q + 1)))
  keep_next h t = rw (from_step q n h, t)

  pub keep_none : n ≤ q → keep f (from q (n - q)) ≡ []
  keep_none h = ap (keep f) (from_end q n h)

  -- the kth that passes: it is the one sought; it counts; it does not pass; there is none, and d stands for it
  pub kth_here : (k d x : ℕ) → get_or (keep f (from q (n - q))) k d ≡ x → q < n → f q ≡ true → k ≡ 0 → q ≡ x
  kth_here k d x e h t z =
      ap (λ (j : ℕ). get_or (q ∷ keep f (from (q + 1) (n - (q + 1)))) j d) (sym z)
      ∙ ap (λ (l : List ℕ). get_or l k d) (sym (keep_here h t)) ∙ e

  pub kth_counts : (k d x : ℕ) → get_or (keep f (from q (n - q))) k d ≡ x → q < n → f q ≡ true → (k ≡ 0 → ⊥)
      → get_or (keep f (from (q + 1) (n - (q + 1)))) (k - 1) d ≡ x
  kth_counts k d x e h t z =
      let j : k ≡ suc (k - 1) = omega arith in
      sym (ap (λ (m : ℕ). get_or (q ∷ keep f (from (q + 1) (n - (q + 1)))) m d) j)
      ∙ ap (λ (l : List ℕ). get_or l k d) (sym (keep_here h t)) ∙ e

  pub kth_next : (k d x : ℕ) → get_or (keep f (from q (n - q))) k d ≡ x → q < n → f q ≡ false
      → get_or (keep f (from (q + 1) (n - (q + 1)))) k d ≡ x
  kth_next k d x e h t = ap (λ (l : List ℕ). get_or l k d) (sym (keep_next h t)) ∙ e

  pub kth_none : (k d x : ℕ) → get_or (keep f (from q (n - q))) k d ≡ x → n ≤ q → d ≡ x
  kth_none k d x e h = ap (λ (l : List ℕ). get_or l k d) (sym (keep_none h)) ∙ e

-- What each position gives, one after the other: one position; positions that give nothing, as those outside a range.
module _ {B : Type 0} (f : ℕ → List B) where
  pub joined_step : (q n : ℕ) → q < n → joined f (from q (n - q)) ≡ f q ++ joined f (from (q + 1) (n - (q + 1)))
  joined_step q n h = rw (from_step q n h)

-- A loop that builds as it goes, against what the positions passed so far say: one position more.
pub from_snoc : (a q : ℕ) → a ≤ q → from a (q + 1 - a) ≡ from a (q - a) ++ (q ∷ [])
from_snoc a q h =
    let e : q + 1 - a ≡ suc (q - a) = omega arith in
    let d : a + (q - a) ≡ q = omega arith in
    ap (from a) e ∙ by_count (q - a) a ∙ ap (λ (p : ℕ). from a (q - a) ++ (p ∷ [])) d
  where
    by_count : (k a : ℕ) → from a (suc k) ≡ from a k ++ ((a + k) ∷ [])
    by_count zero a = let e : a ≡ a + 0 = omega arith in ap (λ (p : ℕ). p ∷ []) e
    by_count (suc k) a =
        let e : suc a + k ≡ a + suc k = omega arith in
        ap (λ (l : List ℕ). a ∷ l) (by_count k (suc a) ∙ ap (λ (p : ℕ). from (suc a) k ++ (p ∷ [])) e)

pub keep_append : {A : Type 0} (f : A → Bool) (xs ys : List A) → keep f (xs ++ ys) ≡ keep f xs ++ keep f ys
keep_append f [] ys = refl
keep_append {A} f (x ∷ xs) ys = by_test (f x) (keep_append f xs ys)
  where
    by_test : (b : Bool) → keep f (xs ++ ys) ≡ keep f xs ++ keep f ys
        → cond b (x ∷ keep f (xs ++ ys)) (keep f (xs ++ ys)) ≡ cond b (x ∷ keep f xs) (keep f xs) ++ keep f ys
    by_test true e = ap (λ (l : List A). x ∷ l) e
    by_test false e = e

module _ (f : ℕ → Bool) (a q : ℕ) (h : a ≤ q) where
  pub keep_snoc_here : f q ≡ true → keep f (from a (q + 1 - a)) ≡ keep f (from a (q - a)) ++ (q ∷ [])
  keep_snoc_here t = ap (keep f) (from_snoc a q h) ∙ keep_append f (from a (q - a)) (q ∷ []) ∙ rw t

  pub keep_snoc_next : f q ≡ false → keep f (from a (q + 1 - a)) ≡ keep f (from a (q - a))
  keep_snoc_next t =
      ap (keep f) (from_snoc a q h) ∙ keep_append f (from a (q - a)) (q ∷ [])
      ∙ rw t (append-nil (keep f (from a (q - a))))

  pub length_keep_le : length (keep f (from a (q - a))) ≤ q - a
  length_keep_le = by_count (q - a) a
    where
      by_test : (b : Bool) (x : ℕ) (xs : List ℕ) (k : ℕ) → length xs ≤ k → length (cond b (x ∷ xs) xs) ≤ suc k
      by_test true x xs k e = omega arith
      by_test false x xs k e = omega arith

      by_count : (k a : ℕ) → length (keep f (from a k)) ≤ k
      by_count zero a = omega arith
      by_count (suc k) a = by_test (f a) a (keep f (from (suc a) k)) k (by_count k (suc a))

-- Each of the numbers from q on passes a test that every one of them passes.
every_at : (f : ℕ → Bool) (q k i : ℕ) → every f (from q k) ≡ true → q ≤ i → i < q + k → f i ≡ true
every_at f q zero i e h l = absurd (omega arith)
every_at f q (suc k) i e h l =
    by_place (dec_lt q i)
    (λ (g : q < i). every_at f (suc q) k i (and_right (f q) (every f (from (suc q) k)) e) g (omega arith))
  where
    by_place : Dec (q < i) → (q < i → f i ≡ true) → f i ≡ true
    by_place (yes g) later = later g
    by_place (no g) later = let z : i ≡ q = omega arith in ap f z ∙ and_left (f q) (every f (from (suc q) k)) e

pub every_from : (f : ℕ → Bool) (n : ℕ) → every f (from 0 n) ≡ true → (i : ℕ) → i < n → f i ≡ true
every_from f n e i h = every_at f 0 n i e (omega arith) (omega arith)

-- A list of zeros holds 0 everywhere, past its end too.
pub replicate_zero : (n x : ℕ) → ◌≡◌ {A = ℕ} (get_or (replicate n 0) x 0) 0
replicate_zero n x = by_place (dec_lt x n)
  where
    by_place : Dec (x < n) → ◌≡◌ {A = ℕ} (get_or (replicate n 0) x 0) 0
    by_place (yes h) = get_or-replicate n x 0 0 h
    by_place (no h) = get_or-eq_default (replicate n 0) 0 (omega (arith, length-replicate {A = ℕ} n 0))

-- None is kept where none passes.
pub keep_nothing : (xs : List ℕ) → keep (λ x. false) xs ≡ []
keep_nothing [] = refl
keep_nothing (x ∷ xs) = keep_nothing xs

-- The first of q, .. that passes, or n behind them: it is n where none passes, and never past n.
pub keep_any : (f : ℕ → Bool) (q k n : ℕ) → q + k ≡ n → not (eqb (get_or (keep f (from q k)) 0 n) n) ≡ any f (from q k)
keep_any f q zero n e = rw (eq-eqb n n refl)
keep_any f q (suc k) n e = by_test (f q) (keep_any f (suc q) k n (omega arith))
  where
    by_test : (b : Bool) → not (eqb (get_or (keep f (from (suc q) k)) 0 n) n) ≡ any f (from (suc q) k)
        → not (eqb (get_or (cond b (q ∷ keep f (from (suc q) k)) (keep f (from (suc q) k))) 0 n) n) ≡ (b || any f (from (suc q) k))
    by_test true later = rw (ne_eqb q n (λ z. omega arith))
    by_test false later = later

pub keep_most : (f : ℕ → Bool) (q k n : ℕ) → q + k ≡ n → get_or (keep f (from q k)) 0 n ≤ n
keep_most f q zero n e = omega arith
keep_most f q (suc k) n e = by_test (f q) (keep_most f (suc q) k n (omega arith))
  where
    by_test : (b : Bool) → get_or (keep f (from (suc q) k)) 0 n ≤ n
        → get_or (cond b (q ∷ keep f (from (suc q) k)) (keep f (from (suc q) k))) 0 n ≤ n
    by_test true later = omega arith
    by_test false later = later
