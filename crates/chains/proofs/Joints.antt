-- Chains carried from one set of joints to another, and the joints of tables: each is one of their wires.
--   Deep T k j   a chain of k primitives of T ends at j
-- Assumes nothing.
use mathlib.Core.Path.{◌≡◌, refl, ap, ◌∙◌, subst}
use mathlib.Core.Bool.{Bool, true, ◌&&◌}
use Prim.Native.Nat.{ℕ, suc, ◌<◌}
use native.Mathlib.Omega.{arith}
use borrow.Author.Tests.{eq-eqb, eqb-true}
use lib.ListN.{get_or}
use lib.Dec.{eqb}
use Rattle.lists.specs.Lists.{any, keep}
use Rattle.lists.proofs.TestsLaws.{and_left, and_right, and_both}
use Rattle.lists.proofs.MembersLaws.{In, any_some}
use Rattle.lists.proofs.KeepLaws.{any_sound}
use Rattle.tables.specs.declared.Wire.{Wire}
use Rattle.tables.specs.Tables.{Tables, wire_at, wires_in}
use Rattle.tables.proofs.SameLaws.{SameWiring, same_wiring-wires}
use Rattle.rounds.proofs.Sound.{Sound}
use Rattle.chains.specs.Chains.{Chain, alone, onward, IsIndex, Joins}

-- What carries primitives to primitives and joints to joints carries chains to chains.
pub chain_map : {There There' : ℕ → Type 0} {Joined Joined' : ℕ → ℕ → Type 0} (f : ℕ → ℕ) → ((x : ℕ) → There x → There' (f x))
    → ((x y : ℕ) → Joined x y → Joined' (f x) (f y)) → {k x y : ℕ} → Chain There Joined k x y → Chain There' Joined' k (f x) (f y)
chain_map f there joined (alone {x = x} h) = alone (there x h)
chain_map f there joined (onward {y = y} {z = z} c e) = onward (chain_map f there joined c) (joined y z e)

-- A test that one of the wires passes.
pub wire_found : (T : Tables) (f : Wire → Bool) → any f (wires_in T) ≡ true → (w : Wire) × In w (wires_in T) × (f w ≡ true)
wire_found T f e =
    let r = any_sound f (wire_at T 0) (wires_in T) e in
    (get_or (keep f (wires_in T)) 0 (wire_at T 0), r.1, r.0)

-- A wire joins its source to its target, and what is joined, a wire joins.
pub wire_joins : (T : Tables) (w : Wire) → In w (wires_in T) → Joins T w.src.comp.0 w.dst.comp.0
wire_joins T w m =
    any_some (λ (v : Wire). eqb v.src.comp.0 w.src.comp.0 && eqb v.dst.comp.0 w.dst.comp.0) w (wires_in T)
    (and_both (eqb w.src.comp.0 w.src.comp.0) (eqb w.dst.comp.0 w.dst.comp.0)
    (eq-eqb w.src.comp.0 w.src.comp.0 refl) (eq-eqb w.dst.comp.0 w.dst.comp.0 refl)) m

pub joins_wire : (T : Tables) (i j : ℕ) → Joins T i j
    → (w : Wire) × In w (wires_in T) × (w.src.comp.0 ≡ i) × (w.dst.comp.0 ≡ j)
joins_wire T i j e =
    let r = wire_found T (λ (v : Wire). eqb v.src.comp.0 i && eqb v.dst.comp.0 j) e in
    let w = r.0 in (
      w,
      r.1,
      eqb-true w.src.comp.0 i (and_left (eqb w.src.comp.0 i) (eqb w.dst.comp.0 j) r.2),
      eqb-true w.dst.comp.0 j (and_right (eqb w.src.comp.0 i) (eqb w.dst.comp.0 j) r.2),
    )

-- Both ends are components.
module _ (T : Tables) (g : Sound T) (i j : ℕ) (e : Joins T i j) where
  pub joins_source : IsIndex T i
  joins_source = let r = joins_wire T i j e in subst (λ (x : ℕ). x < T.counts.components) r.2 (g.source r.0 r.1)

  pub joins_target : IsIndex T j
  joins_target = let r = joins_wire T i j e in subst (λ (x : ℕ). x < T.counts.components) r.3 (g.target r.0 r.1)

-- Tables with the same wires have the same chains.
pub chain_same : (T U : Tables) → SameWiring T U → {k i j : ℕ} → Chain (IsIndex T) (Joins T) k i j → Chain (IsIndex U) (Joins U) k i j
chain_same T U a =
    chain_map (λ x. x) (λ x h. omega (arith, a.component_count))
    (λ x y e. ap (any (λ (w : Wire). eqb w.src.comp.0 x && eqb w.dst.comp.0 y)) (same_wiring-wires T U a) ∙ e)

-- A chain of k primitives ends at j.
abbrev pub Deep : Tables → ℕ → ℕ → Type 0
Deep T k j = (i : ℕ) × Chain (IsIndex T) (Joins T) k i j

pub deep_one : (T : Tables) (d : ℕ) → d < T.counts.components → Deep T 1 d
deep_one T d h = (d, alone h)

pub deep_more : (T : Tables) (k i d : ℕ) → Joins T i d → Deep T k i → Deep T (suc k) d
deep_more T k i d e r = (r.0, onward r.1 e)

-- Over a wire.
pub deep_wire : (T : Tables) (k d : ℕ) (w : Wire) → In w (wires_in T) → w.dst.comp.0 ≡ d → Deep T k w.src.comp.0 → Deep T (suc k) d
deep_wire T k d w m e r =
    deep_more T k w.src.comp.0 d (subst (λ (x : ℕ). Joins T w.src.comp.0 x) e (wire_joins T w m)) r

pub deep_same : (T U : Tables) → SameWiring T U → (k d : ℕ) → Deep T k d → Deep U k d
deep_same T U a k d r = (r.0, chain_same T U a r.1)
