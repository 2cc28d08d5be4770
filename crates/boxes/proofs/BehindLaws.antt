-- What is behind an input is listed in a table of 1,024 and read back; and what a side says of a port.
-- Assumes nothing.
use mathlib.Core.Path.{◌≡◌, refl, sym, ap, ◌∙◌, subst}
use Prim.Native.Nat.{ℕ, zero, suc, ◌+◌, ◌-◌, ◌<◌, ◌≤◌}
use native.Mathlib.Omega.{arith}
use mathlib.Core.Bool.{true}
use mathlib.Core.List.{List, map}
use lib.ListN.{length}
use lib.Dec.{eqb}
use Rattle.std.specs.List.{range_with_len, list_any}
use Rattle.lists.specs.Lists.{from, any}
use Rattle.lists.proofs.MembersLaws.{length_nil}
use Rattle.lists.proofs.RangeLaws.{any_range}
use Rattle.component.specs.declared.Record.{Record}
use Rattle.component.specs.Record.{record_at, record_count, inputs_of}
use Rattle.component.specs.Drawing.{deepest}
use Rattle.flatten.specs.declared.Pin.{Pin}
use Rattle.flatten.specs.Descent.{pin, inputs_below}
use Rattle.flatten.specs.Targets.{target_place, target_in, targets_in, Listed}
use Rattle.flatten.specs.Verdict.{verdict}
use Rattle.flatten.proofs.Accepted.{accepted_passed, accepted_sized}
use Rattle.flatten.proofs.JudgementLaws.{sized_most}
use Rattle.flatten.proofs.Bound.{below_bound}
use Rattle.flatten.proofs.TargetsLaws.{listed_count, listed_length, listed_read}
use Rattle.questions.specs.declared.Side.{Side}
use Rattle.questions.specs.declared.Side.TheVariants.{Inputs, Outputs}
use Rattle.boxes.specs.Boxes.{last_of, ports_on, behind, dangling, port_shown}
use Rattle.std.specs.Prelude.{Ok}

-- The last of what stands in a table is its last entry.
last_entry : (f : ℕ → Pin) (z : Pin) (q m : ℕ) → last_of z (map f (from q (suc m))) ≡ f (q + m)
last_entry f z q zero = ap f (let e : q ≡ q + 0 = omega arith in e)
last_entry f z q (suc m) = last_entry f (f q) (suc q) m ∙ ap f (let e : suc q + m ≡ q + suc m = omega arith in e)

-- What is behind input i of component c, in a drawing that is accepted.
module _ (s : List ℕ) (accepted : verdict s ≡ Ok tt) (m c i : ℕ) (depth : m ≡ deepest) (there : i < inputs_of (record_at s c)) where
  abbrev goals : List Pin
  goals = inputs_below (record_at s) (record_count s) m c i

  is_behind : goals ≡ behind (record_at s) (record_count s) c i
  is_behind = ap (λ (j : ℕ). inputs_below (record_at s) (record_count s) j c i) depth

  pub behind_room : target_place (0 + length goals) ≤ target_place 1024
  behind_room = omega (arith, below_bound (record_at s) (record_count s) (accepted_passed s accepted) m c i there)

  -- Listed in a table of 1,024.
  module _ (t u : List ℕ) (k : ℕ) (listed : Listed t 0 goals u k) (full : length t ≡ target_place 1024) where
    pub behind_none : eqb k 0 ≡ eqb (length (behind (record_at s) (record_count s) c i)) 0
    behind_none = ap (λ (j : ℕ). eqb j 0) (listed_count t goals u k listed ∙ ap (λ (l : List Pin). length l) is_behind)

    pub behind_empty : k ≡ 0 → (z : Pin) → z ≡ last_of z (behind (record_at s) (record_count s) c i)
    behind_empty e z =
        ap (last_of z) (sym (length_nil goals (sym (listed_count t goals u k listed) ∙ e))) ∙ ap (last_of z) is_behind

    pub behind_within : (k ≡ 0 → ⊥) → target_place (k - 1 + 1) ≤ length u
    behind_within ne = omega (arith, listed_count t goals u k listed, listed_length t goals u k listed, behind_room, full)

    pub behind_last : (k ≡ 0 → ⊥) → (x z : Pin) → x ≡ target_in u (k - 1) → x ≡ last_of z (behind (record_at s) (record_count s) c i)
    behind_last ne x z e =
        let more : k ≡ suc (k - 1) = omega (arith, ne) in
        let one : 0 + (k - 1) ≡ k - 1 = omega arith in
        e ∙ ap (target_in u) (sym one) ∙ sym (last_entry (target_in u) z 0 (k - 1))
        ∙ ap (λ (j : ℕ). last_of z (targets_in u j)) (sym more)
        ∙ ap (last_of z) (listed_read t goals u k listed (omega (arith, behind_room, full)) ∙ is_behind)

-- Whether nothing is behind some input: all inputs are looked at.
pub dangling_searched : (at : ℕ → Record) (n c k : ℕ) → k ≡ inputs_of (at c)
    → list_any (λ i. eqb (length (behind at n c i)) 0) (range_with_len 0 k) ≡ dangling at n c
unfolding dangling
dangling_searched at n c k e =
    any_range (λ i. eqb (length (behind at n c i)) 0) 0 k ∙ ap (λ (j : ℕ). any (λ i. eqb (length (behind at n c i)) 0) (from 0 j)) e

-- What the side says.
pub shown_input : (at : ℕ → Record) (n c i : ℕ) (side : Side) (x : Pin) → side ≡ Inputs → x ≡ last_of (pin n 0) (behind at n c i)
    → x ≡ port_shown at n side c i
shown_input at n c i side x e h = h ∙ ap (λ (y : Side). port_shown at n y c i) (sym e)

pub shown_output : (at : ℕ → Record) (n c i : ℕ) (side : Side) (x : Pin) → side ≡ Outputs → x ≡ port_shown at n Outputs c i
    → x ≡ port_shown at n side c i
shown_output at n c i side x e h = h ∙ ap (λ (y : Side). port_shown at n y c i) (sym e)

pub shown_inputs : (r : Record) (i : ℕ) (side : Side) → side ≡ Inputs → i < ports_on side r → i < inputs_of r
shown_inputs r i side e h = subst (λ (y : Side). i < ports_on y r) e h

-- The files of an accepted drawing have at most 1,024 records.
pub accepted_most : (s : List ℕ) → verdict s ≡ Ok tt → record_count s ≤ 1024
accepted_most s a = sized_most s true (sym (accepted_sized s a)) refl
