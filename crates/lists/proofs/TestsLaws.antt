-- Tests of two parts: what && and || give of their parts.
-- Assumes nothing.
use mathlib.Core.Path.{◌≡◌, refl, sym, ◌∙◌}
use mathlib.Core.Logic.{◌⊎◌, inl, inr}
use mathlib.Core.Bool.{Bool, true, false, ◌&&◌, ◌||◌, false≢true}

pub and_left : (a b : Bool) → (a && b) ≡ true → a ≡ true
and_left true b e = refl
and_left false b e = e

pub and_right : (a b : Bool) → (a && b) ≡ true → b ≡ true
and_right true b e = e
and_right false b e = absurd (false≢true e)

pub and_both : (a b : Bool) → a ≡ true → b ≡ true → (a && b) ≡ true
and_both a b e d = rw (e, d)

pub and_right_false : (a b : Bool) → (a && b) ≡ false → a ≡ true → b ≡ false
and_right_false true b e h = e
and_right_false false b e h = absurd (false≢true h)

-- The second is asked only where the first holds, and then decides.
pub and_first : (a b c : Bool) → a ≡ false → c ≡ false → c ≡ (a && b)
and_first a b c e d = rw e d

pub and_second : (a b c : Bool) → a ≡ true → c ≡ b → c ≡ (a && b)
and_second a b c e d = rw e d

-- Of two tests neither of which holds.
pub or_left : (a b : Bool) → (a || b) ≡ false → a ≡ false
or_left true b e = e
or_left false b e = refl

pub or_right : (a b : Bool) → (a || b) ≡ false → b ≡ false
or_right true b e = absurd (false≢true (sym e))
or_right false b e = e

-- Of two tests one of which holds.
pub or_cases : (a b : Bool) → (a || b) ≡ true → (a ≡ true) ⊎ (b ≡ true)
or_cases true b e = inl refl
or_cases false b e = inr e

pub or_first : (a b : Bool) → b ≡ false → (a || b) ≡ true → a ≡ true
or_first true b h e = refl
or_first false b h e = sym h ∙ e

pub or_second : (a b : Bool) → b ≡ true → (a || b) ≡ true
or_second true b e = refl
or_second false b e = e

pub or_rest : (a b : Bool) → a ≡ false → (a || b) ≡ true → b ≡ true
or_rest true b h e = absurd (false≢true (sym h))
or_rest false b h e = e

-- One of the two holds, where the second does without the first.
pub or_hold : (a b : Bool) → (a ≡ false → b ≡ true) → (a || b) ≡ true
or_hold true b f = refl
or_hold false b f = f refl

-- Two tests of which each gives the other are equal.
pub tests_equal : (a b : Bool) → (a ≡ true → b ≡ true) → (b ≡ true → a ≡ true) → a ≡ b
tests_equal true b f h = sym (f refl)
tests_equal false true f h = h refl
tests_equal false false f h = refl
