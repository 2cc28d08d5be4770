-- A remainder by multiples of the divisor, each half the one before.
-- Assumes nothing.
use mathlib.Core.Path.{◌≡◌, ◌∙◌, sym, ap}
use Prim.Native.Nat.{ℕ, zero, suc, ◌+◌, ◌-◌, ◌*◌, ◌/◌, ◌%◌, ◌^◌, ◌≤◌, ◌<◌}
use native.Mathlib.Nat.{one-mul, mul-one, mul_assoc, pow-suc, le-mul_of_pos_right, mod-eq_of_lt, mod-mod_of_dvd, dvd-mul_left}
use native.Mathlib.Omega.{arith}
use lib.Arith.{digits_mod}
use lib.Pow.{pow_pos}
use Rattle.primitive.specs.Own.{Doubled}

-- A number that reaches the divisor, and not its double.
pub reached : (n d : ℕ) → n < 2 * d → d ≤ n → n - d ≡ n % d
reached n d h l =
    let e : n ≡ 1 * d + (n - d) = omega (arith, one-mul d) in
    sym (ap (λ (x : ℕ). x % d) e ∙ digits_mod 1 (omega arith))

-- What a multiple leaves of a number leaves of it what half the multiple does.
pub halved_mod : (n m : ℕ) → n % (2 * m) % m ≡ n % m
halved_mod n m = mod-mod_of_dvd m n (dvd-mul_left m 2)

-- The divisor itself, doubled no time.
pub once : (d : ℕ) → Doubled d d
once d = record { times = 0; multiple = sym (mul-one d) }

-- The divisor doubled once more.
pub more : {d m : ℕ} → Doubled d m → Doubled d (m * 2)
more {d} {m} h =
    record {
      times = suc h.times;
      multiple = ap (λ (x : ℕ). x * 2) h.multiple ∙ mul_assoc d (2 ^ h.times) 2 ∙ sym (ap (λ (x : ℕ). d * x) (pow-suc 2 h.times));
    }

-- And once less, where it is more than the divisor.
pub record Halved (d m : ℕ) : Type 0 where
  pub doubled : Doubled d (m / 2)
  pub twice : m ≡ 2 * (m / 2)

less : (d m k : ℕ) → m ≡ d * 2 ^ k → d < m → Halved d m
less d m zero e l = absurd (omega (arith, e ∙ mul-one d))
less d m (suc k) e l =
    let f : m ≡ d * 2 ^ k * 2 = e ∙ ap (λ (x : ℕ). d * x) (pow-suc 2 k) ∙ sym (mul_assoc d (2 ^ k) 2) in
    record {
      doubled = record { times = k; multiple = omega (arith, f) };
      twice = omega (arith, f);
    }

pub halved : {d m : ℕ} → Doubled d m → d < m → Halved d m
halved {d} {m} h l = less d m h.times h.multiple l

-- The divisor itself is the only one that is not more.
pub ended : {d m : ℕ} → Doubled d m → m ≤ d → m ≡ d
ended {d} {m} h l = omega (arith, h.multiple, le-mul_of_pos_right d (pow_pos h.times))

-- No bit is lost where a multiple is doubled.
pub shifted : (m n : ℕ) → m ≤ n / 2 → n < 2 ^ 64 → m * 2 % 2 ^ 64 ≡ m * 2
shifted m n h l = mod-eq_of_lt (omega arith)
