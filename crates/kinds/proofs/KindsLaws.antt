-- Laws of the kinds: a number and a kind are each other's, and the numbers never move.
-- Assumes nothing.
use mathlib.Core.Path.{◌≡◌, refl, sym, ap, ◌∙◌}
use mathlib.Core.Bool.{Bool, true, false, not, ◌&&◌, ◌||◌, false≢true}
use mathlib.Core.List.{[], ◌∷◌, ◌++◌, map}
use Prim.Native.Nat.{ℕ, ◌<◌}
use native.Mathlib.Omega.{arith}
use borrow.Author.Tests.{eqb-true, leb-true, leb-false, not-true}
use lib.Dec.{eqb}
use lib.ListN.{length, get_or-eq_default}
use Rattle.std.specs.Prelude.{Result, Ok, Err}
use Rattle.std.specs.Result.{result_unwrap_or}
use Rattle.lists.specs.Lists.{from, every}
use Rattle.lists.proofs.ListsLaws.{every_from}
use Rattle.lists.proofs.TestsLaws.{and_left, and_right}
use Rattle.kinds.specs.Kinds.{numbered, number_of, kind_in, kind_of, kept_in, for_custom, unknown, no_kind, seen_as}
use Rattle.kinds.specs.declared.Kind.{Kind}
use Rattle.kinds.specs.declared.Kind.TheVariants.{Composite, And, Or, Not, Nand, Nor, Xor, Switch, Input, Output, Splitter, Joiner, Clock, Const, Majority}
use Rattle.kinds.specs.declared.NoKind.{NoKind}
use Rattle.kinds.specs.declared.NoKind.TheVariants.{Kept, Unknown}

-- The append rule: these fifteen kinds have these numbers, 14 is kept and 255 is none, whatever kinds there are besides.
pub number_of-fixed : map number_of
    (Composite ∷ And ∷ Or ∷ Not ∷ Nand ∷ Nor ∷ Xor ∷ Switch ∷ Input ∷ Output ∷ Splitter ∷ Joiner ∷ Clock ∷ Const ∷ Majority ∷ [])
    ≡ from 0 14 ++ (15 ∷ [])
number_of-fixed = refl

pub for_custom-fixed : for_custom 14 ≡ true
for_custom-fixed = refl

pub no_kind-fixed : unknown no_kind ≡ true
no_kind-fixed = refl

-- A kind's number is read as that kind.
pub seen_as-number_of : (k : Kind) → seen_as (number_of k) ≡ Ok k
seen_as-number_of Composite = refl
seen_as-number_of And = refl
seen_as-number_of Or = refl
seen_as-number_of Not = refl
seen_as-number_of Nand = refl
seen_as-number_of Nor = refl
seen_as-number_of Xor = refl
seen_as-number_of Switch = refl
seen_as-number_of Input = refl
seen_as-number_of Output = refl
seen_as-number_of Splitter = refl
seen_as-number_of Joiner = refl
seen_as-number_of Clock = refl
seen_as-number_of Const = refl
seen_as-number_of Majority = refl

-- A number is a kind's.
abbrev pub is_kind : ℕ → Bool
is_kind n = not (for_custom n) && not (unknown n)

-- It was read as a kind.
abbrev is_known : Result Kind NoKind → Bool
is_known (Ok k) = true
is_known (Err e) = false

known_is : (s : Result Kind NoKind) → is_known s ≡ true → s ≡ Ok (kind_in s)
known_is (Ok k) e = refl
known_is (Err r) e = absurd (false≢true e)

kept_is : (s : Result Kind NoKind) → kept_in s ≡ true → s ≡ Err Kept
kept_is (Ok k) e = absurd (false≢true e)
kept_is (Err Kept) e = refl
kept_is (Err Unknown) e = absurd (false≢true e)

-- A number that is a kind's is none that is kept, and stands in the list.
module _ (n : ℕ) (k : is_kind n ≡ true) where
  pub kind_below : n < length numbered
  kind_below = leb-false (length numbered) n (not-true (unknown n) (and_right (not (for_custom n)) (not (unknown n)) k))

  by_number : (f : ℕ → Bool) → every (λ i. for_custom i || f i) (from 0 (length numbered)) ≡ true → f n ≡ true
  by_number f e =
      let u : for_custom n ≡ false = not-true (for_custom n) (and_left (not (for_custom n)) (not (unknown n)) k) in
      rw u at (every_from (λ i. for_custom i || f i) (length numbered) e n kind_below)

  -- The number of what such a number is read as is that number again.
  pub number_of-kind_of : number_of (kind_of n) ≡ n
  number_of-kind_of = eqb-true (number_of (kind_of n)) n (by_number (λ i. eqb (number_of (kind_of i)) i) refl)

  -- It is read as its kind.
  pub seen_as-kind : seen_as n ≡ Ok (kind_of n)
  seen_as-kind = known_is (seen_as n) (by_number (λ i. is_known (seen_as i)) refl)

-- The three things that a number can be read as.
pub data Read (n : ℕ) : Type 0 where
  of_custom : for_custom n ≡ true → unknown n ≡ false → seen_as n ≡ Err Kept → Read n
  of_none : for_custom n ≡ false → unknown n ≡ true → seen_as n ≡ Err Unknown → Read n
  of_kind : for_custom n ≡ false → unknown n ≡ false → seen_as n ≡ Ok (kind_of n) → Read n

seen_as-cases : (n : ℕ) → Read n
seen_as-cases n = by_kept (for_custom n) refl
  where
    by_unknown : (b : Bool) → for_custom n ≡ false → unknown n ≡ b → Read n
    by_unknown true q u = of_none q u (get_or-eq_default numbered (Err Unknown) (leb-true (length numbered) n u))
    by_unknown false q u = of_kind q u (seen_as-kind n (rw (q, u)))

    in_list : (b : Bool) → unknown n ≡ b → seen_as n ≡ Err Kept → unknown n ≡ false
    in_list false u k = u
    in_list true u k =
        let none : seen_as n ≡ Err Unknown = get_or-eq_default numbered (Err Unknown) (leb-true (length numbered) n u) in
        absurd (let z : ◌≡◌ {A = ℕ} 0 1 = cc in omega arith)

    by_kept : (b : Bool) → for_custom n ≡ b → Read n
    by_kept true q = of_custom q (in_list (unknown n) refl (kept_is (seen_as n) q)) (kept_is (seen_as n) q)
    by_kept false q = by_unknown (unknown n) q refl

-- Whether a number is kept, and whether it is no kind, by what it is read as.
module _ (n : ℕ) (s : Result Kind NoKind) (e : s ≡ seen_as n) where
  pub kept_read : s ≡ Err Kept → (true ≡ for_custom n) × (false ≡ unknown n)
  kept_read q = by_case (seen_as-cases n)
    where
      by_case : Read n → (true ≡ for_custom n) × (false ≡ unknown n)
      by_case (of_custom a b r) = (sym a, sym b)
      by_case (of_none a b r) = absurd (let z : ◌≡◌ {A = ℕ} 0 1 = cc in omega arith)
      by_case (of_kind a b r) = absurd (let z : ◌≡◌ {A = ℕ} 0 1 = cc in omega arith)

  pub unknown_read : s ≡ Err Unknown → (false ≡ for_custom n) × (true ≡ unknown n)
  unknown_read q = by_case (seen_as-cases n)
    where
      by_case : Read n → (false ≡ for_custom n) × (true ≡ unknown n)
      by_case (of_custom a b r) = absurd (let z : ◌≡◌ {A = ℕ} 0 1 = cc in omega arith)
      by_case (of_none a b r) = (sym a, sym b)
      by_case (of_kind a b r) = absurd (let z : ◌≡◌ {A = ℕ} 0 1 = cc in omega arith)

  pub known_read : {k : Kind} → s ≡ Ok k → (false ≡ for_custom n) × (false ≡ unknown n)
  known_read q = by_case (seen_as-cases n)
    where
      by_case : Read n → (false ≡ for_custom n) × (false ≡ unknown n)
      by_case (of_custom a b r) = absurd (let z : ◌≡◌ {A = ℕ} 0 1 = cc in omega arith)
      by_case (of_none a b r) = absurd (let z : ◌≡◌ {A = ℕ} 0 1 = cc in omega arith)
      by_case (of_kind a b r) = (sym a, sym b)

-- What is read as a kind is that kind's number.
pub seen_as-known : (n : ℕ) (k : Kind) → seen_as n ≡ Ok k → n ≡ number_of k
seen_as-known n k e =
    let p = known_read n (seen_as n) refl e in
    sym (number_of-kind_of n (rw (sym p.0, sym p.1))) ∙ ap (λ (s : Result Kind NoKind). number_of (kind_in s)) e

pub kind_of-number_of : (k : Kind) → kind_of (number_of k) ≡ k
kind_of-number_of k = ap kind_in (seen_as-number_of k)

-- The kind that a number is read as.
pub seen_as-kind_of : (n : ℕ) (k : Kind) → seen_as n ≡ Ok k → kind_of n ≡ k
seen_as-kind_of n k e = ap kind_in e

-- The kind that is read, or Composite where none is, is the number's kind.
pub kind_in-unwrap : (s : Result Kind NoKind) → result_unwrap_or s Composite ≡ kind_in s
kind_in-unwrap (Ok k) = refl
kind_in-unwrap (Err e) = refl
