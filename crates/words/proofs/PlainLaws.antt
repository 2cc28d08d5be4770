-- Numbers that calls give back are at most 28; where the position is 0 what the call says fits.
--   Plain g    what a call gives: a number of at most 28, at position 0
-- Assumes nothing.
use mathlib.Core.Path.{◌≡◌, refl, sym, subst}
use mathlib.Core.Bool.{Bool, true, false, cond, not}
use mathlib.Core.List.{List, [], ◌∷◌}
use Prim.Native.Nat.{ℕ, ◌*◌, ◌≤◌, ◌<◌}
use native.Mathlib.Omega.{arith}
use lib.Dec.{eqb}
use Rattle.lists.specs.Lists.{refusal, ◌if◌}
use Rattle.kinds.specs.Given.{Given, done, declined, refused_by, giving, spoken}
use Rattle.tables.specs.Tables.{Tables, full_size}
use Rattle.net.specs.Net.{is_net, net_number, on_net}

-- What is chosen by a test is small where both choices are.
pub chosen_small : (b : Bool) (x y : ℕ) → x ≤ 28 → y ≤ 28 → cond b x y ≤ 28
chosen_small true x y h k = h
chosen_small false x y h k = k

-- The first number whose test holds.
abbrev pub small : List (ℕ × Bool) → Type 0
small [] = 0 ≤ 28
small (c ∷ cs) = (c.0 ≤ 28) × small cs

pub refusal_small : (cs : List (ℕ × Bool)) → small cs → refusal cs ≤ 28
refusal_small [] h = h
refusal_small (c ∷ cs) h = chosen_small c.1 c.0 (refusal cs) h.0 (refusal_small cs h.1)

pub net_small : (T : Tables) → net_number T ≤ 28
unfolding net_number
net_small T =
    refusal_small
    ((2 if not (full_size T)) ∷ (16 if not (is_net T)) ∷ [])
    (omega arith, (omega arith, omega arith))

-- A call that checks 2 and 16 first.
pub on_net_small : (T : Tables) (k : ℕ) → k ≤ 28 → on_net T k ≤ 28
on_net_small T k h = chosen_small (eqb (net_number T) 0) k (net_number T) h (net_small T)

-- What a call gives that has a small number, at position 0.
pub record Plain (g : Given) : Type 0 where
  pub small : g.number ≤ 28
  pub at_0 : g.position ≡ 0

-- Such a number times 65,536 fits, and is what the call says.
module _ (g : Given) (p : Plain g) where
  pub plain_fits : g.number < 65536
  plain_fits = omega (arith, p.small)

  pub plain_spoken : 65536 * g.number ≡ spoken g
  plain_spoken = omega (arith, p.at_0)

  pub plain_small : spoken g < 4294967296
  plain_small = omega (arith, p.small, p.at_0)

pub chosen_plain : (b : Bool) (x y : Given) → Plain x → Plain y → Plain (cond b x y)
chosen_plain true x y h k = h
chosen_plain false x y h k = k

pub done_plain : (xs : List ℕ) → Plain (done xs)
done_plain xs = record { small = omega arith; at_0 = refl }

pub declined_plain : (k : ℕ) → k ≤ 28 → Plain (declined (refused_by k))
declined_plain k h = record { small = h; at_0 = refl }

pub giving_plain : (k : ℕ) (xs : List ℕ) → k ≤ 28 → Plain (giving k xs)
giving_plain k xs h = chosen_plain (eqb k 0) (done xs) (declined (refused_by k)) (done_plain xs) (declined_plain k h)

-- So is whatever equals it.
pub plain_as : (g h : Given) → g ≡ h → Plain h → Plain g
plain_as g h e p = subst Plain (sym e) p
