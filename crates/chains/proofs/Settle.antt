-- Without Clocks, and with D the most primitives on any chain of wires, all three lists are empty after max(D, 2) rounds from a load, in any order of wires.
-- The first round evaluates every component, so nothing stands after it, every Const's wires agree for good, and what it appended ends a chain of two. The
-- second is over Consts, which append nothing, and ends of chains of two; each later round is over ends of chains one longer.
-- Assumes nothing.
use mathlib.Core.Path.{◌≡◌, refl, sym, ap, ◌∙◌, subst}
use mathlib.Core.Logic.{◌⊎◌, inl, inr, ⊎_elim}
use mathlib.Core.Bool.{Bool, true, false, true≢false}
use mathlib.Core.List.{List, [], ◌∷◌, foldl}
use Prim.Native.Nat.{ℕ, suc, ◌≤◌, ◌<◌}
use native.Mathlib.Omega.{arith}
use Rattle.lists.proofs.MembersLaws.{In, from0_complete}
use Rattle.kinds.specs.declared.Kind.TheVariants.{Clock, Const}
use Rattle.kinds.specs.Kinds.{is}
use Rattle.tables.specs.declared.Wire.{Wire}
use Rattle.tables.specs.Tables.{Tables, fields_at, inputs_at, outputs_at, current_list, following_list, standing_list}
use Rattle.tables.proofs.SameLaws.{SameWiring, same_wiring-none, same_wiring-more, same_wiring-fields}
use Rattle.net.specs.Net.{net_number}
use Rattle.net.proofs.NetLaws.{net_number-full, net_number-is_net, net_number-0}
use Rattle.rounds.specs.Round.{State, state_of, leave, wires_from, visit, round, round_by}
use Rattle.rounds.proofs.Evaluation.{outputs_after-const}
use Rattle.rounds.proofs.Sound.{Sound, net_sound}
use Rattle.rounds.proofs.Held.{Held, Order, Agree, visit_held, visits_held, round_held}
use Rattle.rounds.proofs.Left.{state_of-leave, leave_wiring, net_held}
use Rattle.simulator.proofs.Kept.{round_net}
use Rattle.quiet.proofs.Invariant.{clocked, Wired}
use Rattle.quiet.proofs.Since.{Fresh}
use Rattle.chains.specs.Chains.{Chain, IsIndex, Joins}
use Rattle.chains.proofs.Joints.{Deep, deep_one, deep_more, deep_same}
use Rattle.chains.proofs.Visits.{wired_map, foldl_appends, visit_wired, visit_following, visit_quiet, visits_standing, visits_wired}

-- Component d is a Const.
abbrev constant : Tables → ℕ → Bool
constant T d = is Const (fields_at T d)

-- Between rounds: the current list is P, the two others are empty, and each Const's wires agree.
record StageAt (T : Tables) (P : ℕ → Type 0) (s : State) : Type 0 where
  held : Held T s
  current : (d : ℕ) → In d s.current → P d
  following : (d : ℕ) → In d s.following → ⊥
  standing : (d : ℕ) → In d s.standing → ⊥
  wired : Wired T (λ d. constant T d ≡ false) [] s

-- A chain of k primitives ends at d, or it is a Const.
abbrev Reached : Tables → ℕ → ℕ → Type 0
Reached T k d = Deep T k d ⊎ (constant T d ≡ true)

module _ (T : Tables) (g : Sound T) (unclocked : (i : ℕ) → i < T.counts.components → clocked T i ≡ false) (ws : List Wire)
    (o : Order T ws) (u : ℕ) where
  abbrev n : ℕ
  n = T.counts.components

  -- No Const.
  abbrev Moving : ℕ → Type 0
  Moving d = constant T d ≡ false

  -- Nothing stands that was visited.
  gone : (s : State) → Held T s → ((d : ℕ) → In d s.standing → In d s.current) → (d : ℕ)
      → In d (foldl (visit T (wires_from ws) u) s s.current).standing → ⊥
  gone s b all d m =
      let there = (visits_held T g ws o u s.current b.current.exist s b).standing.exist d m in
      let r = visits_standing T g ws o u d (unclocked d there) s.current s m in
      r.1 (all d r.0)

  -- The first round.
  first_stage : (s : State) → Held T s → ((i : ℕ) → i < n → In i s.current) → ((d : ℕ) → In d s.following → constant T d ≡ true)
      → StageAt T (Reached T 2) (round T (wires_from ws) u s)
  unfolding round
  first_stage s b all const =
      record {
        held = round_held T g ws o u s b;
        current = λ d m. ⊎_elim (λ k. inr (const d k)) (λ r. inl r) (appended d m);
        following = gone s b (λ d m. all d (b.standing.exist d m));
        standing = gone s b (λ d m. all d (b.standing.exist d m));
        wired = visits_wired T g ws o u Moving s.current b.current.exist s b (λ w m. inr (inl (inr (all w.src.comp.0 (g.source w m)))));
      }
    where
      appended : (d : ℕ) → In d (foldl (visit T (wires_from ws) u) s s.current).following → In d s.following ⊎ Deep T 2 d
      appended d =
          foldl_appends (visit T (wires_from ws) u) (Held T) d (Deep T 2 d) s.current
          (λ v x m a. let h = b.current.exist x m in (
            visit_held T g ws o u v x h a,
            λ k. ⊎_elim (λ q. inl q) (λ e. inr (deep_more T 1 x d e (deep_one T x h))) (visit_following T g ws o u x h v a d k),
          )) s b

  -- A later round.
  next_stage : (k : ℕ) (s : State) → StageAt T (Reached T k) s → StageAt T (Deep T (suc k)) (round T (wires_from ws) u s)
  unfolding round
  next_stage k s a =
      record {
        held = round_held T g ws o u s a.held;
        current = λ d m. ⊎_elim (λ q. absurd (a.following d q)) (λ r. r) (appended d m);
        following = gone s a.held (λ d m. absurd (a.standing d m));
        standing = gone s a.held (λ d m. absurd (a.standing d m));
        wired = visits_wired T g ws o u Moving s.current a.held.current.exist s a.held
            (wired_map T Moving (λ d. Moving d ⊎ In d s.current) s (λ d e. inl e) a.wired);
      }
    where
      Kept : State → Type 0
      Kept v = Held T v × Wired T Moving [] v

      -- A Const fits and its wires agree, so it appends nothing.
      const_quiet : (v : State) (x : ℕ) → x < n → Kept v → constant T x ≡ true → (visit T (wires_from ws) u v x).following ≡ v.following
      const_quiet v x h p e =
          visit_quiet T g ws o u x h v p.0
          (outputs_after-const (fields_at T x) (inputs_at T v.inputs x) (outputs_at T v.outputs x) u e)
          (λ w m q. agree w q (p.1 w m))
        where
          agree : (w : Wire) → w.src.comp.0 ≡ x → Agree T v w ⊎ (Moving w.src.comp.0 ⊎ In w []) → Agree T v w
          agree w q (inl r) = r
          agree w q (inr (inl r)) = absurd (true≢false (sym e ∙ ap (constant T) (sym q) ∙ r))
          agree w q (inr (inr r)) = absurd r

      appends : (d : ℕ) (v : State) (x : ℕ) → x < n → Kept v → Reached T k x → In d (visit T (wires_from ws) u v x).following
          → In d v.following ⊎ Deep T (suc k) d
      appends d v x h p (inl r) m = ⊎_elim (λ q. inl q) (λ e. inr (deep_more T k x d e r)) (visit_following T g ws o u x h v p.0 d m)
      appends d v x h p (inr e) m = inl (subst (λ (l : List ℕ). In d l) (const_quiet v x h p e) m)

      appended : (d : ℕ) → In d (foldl (visit T (wires_from ws) u) s s.current).following → In d s.following ⊎ Deep T (suc k) d
      appended d =
          foldl_appends (visit T (wires_from ws) u) Kept d (Deep T (suc k) d) s.current
          (λ v x m p. let h = a.held.current.exist x m in (
            (visit_held T g ws o u v x h p.0, visit_wired T g ws o u x h v p.0 Moving Moving (λ y ne q. q) p.1),
            appends d v x h p (a.current x m),
          )) s (a.held, a.wired)

-- The same of tables in which the state was left.
stage_leave : (T : Tables) (P Q : ℕ → Type 0) (s : State) → net_number (leave T s) ≡ 0 → ((d : ℕ) → P d → Q d) → StageAt T P s
    → StageAt (leave T s) Q (state_of (leave T s))
unfolding leave
stage_leave T P Q s z f a =
    record {
      held = net_held (leave T s) z;
      current = λ d m. f d (a.current d (subst (λ (x : State). In d x.current) p m));
      following = λ d m. a.following d (subst (λ (x : State). In d x.following) p m);
      standing = λ d m. a.standing d (subst (λ (x : State). In d x.standing) p m);
      wired = λ w m. subst (λ (x : State). Agree T x w ⊎ ((constant T w.src.comp.0 ≡ false) ⊎ In w [])) (sym p) (a.wired w m);
    }
  where
    p : state_of (leave T s) ≡ s
    p = state_of-leave T s

-- k rounds from T₀, each in an order of all wires, and no edit.
pub data Ran (T₀ : Tables) : ℕ → Tables → Type 0 where
  started : Ran T₀ 0 T₀
  stepped : {k : ℕ} {T : Tables} (ws : List Wire) (u : ℕ) → Order T ws → Ran T₀ k T → Ran T₀ (suc k) (round_by ws u T)

-- They leave a net, and the wiring.
pub ran_net : (T₀ : Tables) → net_number T₀ ≡ 0 → {k : ℕ} {T : Tables} → Ran T₀ k T → net_number T ≡ 0
ran_net T₀ z started = z
ran_net T₀ z (stepped {T = T} ws u o r) = round_net T ws o u (ran_net T₀ z r)

round_wiring : (T : Tables) (ws : List Wire) (u : ℕ) → SameWiring T (round_by ws u T)
round_wiring T ws u = leave_wiring T (round T (wires_from ws) u (state_of T))

pub ran_wiring : (T₀ : Tables) {k : ℕ} {T : Tables} → Ran T₀ k T → SameWiring T₀ T
ran_wiring T₀ started = same_wiring-none T₀
ran_wiring T₀ (stepped {T = T} ws u o r) = same_wiring-more T₀ T (round_by ws u T) (ran_wiring T₀ r) (round_wiring T ws u)

-- A list without members.
empty : (l : List ℕ) → ((d : ℕ) → In d l → ⊥) → l ≡ []
empty [] f = refl
empty (x ∷ l) f = absurd (f x (inl refl))

-- From a net as a load leaves it, in which only Consts stand and no Clock is.
module _ (T₀ : Tables) (fresh : Fresh T₀) (unclocked : (i : ℕ) → i < T₀.counts.components → clocked T₀ i ≡ false)
    (const : (d : ℕ) → In d (standing_list T₀) → is Const (fields_at T₀ d) ≡ true) where
  same_unclocked : {k : ℕ} {T : Tables} → Ran T₀ k T → (i : ℕ) → i < T.counts.components → clocked T i ≡ false
  same_unclocked {T = T} r i h =
      let a = ran_wiring T₀ r in
      ap (is Clock) (same_wiring-fields T₀ T a i) ∙ unclocked i (omega (arith, a.component_count))

  -- The stage of tables.
  abbrev Stage : (T : Tables) → (ℕ → Type 0) → Type 0
  Stage T P = StageAt T P (state_of T)

  -- After the first round,
  first : (ws : List Wire) (u : ℕ) → Order T₀ ws → Stage (round_by ws u T₀) (Reached (round_by ws u T₀) 2)
  unfolding leave
  first ws u o =
      stage_leave T₀ (Reached T₀ 2) (Reached (round_by ws u T₀) 2) (round T₀ (wires_from ws) u (state_of T₀)) (round_net T₀ ws o u fresh.net)
      (λ d k. ⊎_elim (λ q. inl (deep_same T₀ (round_by ws u T₀) (round_wiring T₀ ws u) 2 d q)) (λ q. inr q) k)
      (first_stage T₀ (net_sound T₀ fresh.net) unclocked ws o u (state_of T₀) (net_held T₀ fresh.net)
      (λ i h. subst (λ (l : List ℕ). In i l) (sym fresh.current) (from0_complete T₀.counts.components i h))
      (λ d m. const d (subst (λ (l : List ℕ). In d l) fresh.following m)))

  -- and after a later one.
  next : {k : ℕ} {T : Tables} (ws : List Wire) (u : ℕ) → Order T ws → Ran T₀ k T → Stage T (Reached T (suc k))
      → Stage (round_by ws u T) (Deep (round_by ws u T) (suc (suc k)))
  next {k} {T} ws u o r a =
      stage_leave T (Deep T (suc (suc k))) (Deep (round_by ws u T) (suc (suc k))) (round T (wires_from ws) u (state_of T))
      (round_net T ws o u (ran_net T₀ fresh.net r)) (deep_same T (round_by ws u T) (round_wiring T ws u) (suc (suc k)))
      (next_stage T (net_sound T (ran_net T₀ fresh.net r)) (same_unclocked r) ws o u (suc k) (state_of T) a)

  data Progress : ℕ → Tables → Type 0 where
    at_load : Progress 0 T₀
    at_round : {k : ℕ} {T : Tables} → Stage T (Reached T (suc (suc k))) → Progress (suc k) T

  progress : {k : ℕ} {T : Tables} → Ran T₀ k T → Progress k T
  progress started = at_load
  progress (stepped ws u o r) = by_progress ws u o r (progress r)
    where
      by_progress : {k : ℕ} {T : Tables} (ws : List Wire) (u : ℕ) → Order T ws → Ran T₀ k T → Progress k T → Progress (suc k) (round_by ws u T)
      by_progress ws u o r at_load = at_round (first ws u o)
      by_progress ws u o r (at_round a) =
          let b = next ws u o r a in
          at_round (record {
            held = b.held;
            current = λ d m. inl (b.current d m);
            following = b.following;
            standing = b.standing;
            wired = b.wired;
          })

  -- After two rounds or more, what the current list names ends a chain longer than the rounds run.
  ran_stage : {k : ℕ} {T : Tables} → Ran T₀ k T → 2 ≤ k → Stage T (Deep T (suc k))
  ran_stage started h = absurd (omega arith)
  ran_stage (stepped ws u o r) h = by_progress ws u o r h (progress r)
    where
      by_progress : {k : ℕ} {T : Tables} (ws : List Wire) (u : ℕ) → Order T ws → Ran T₀ k T → 2 ≤ suc k → Progress k T
          → Stage (round_by ws u T) (Deep (round_by ws u T) (suc (suc k)))
      by_progress ws u o r h at_load = absurd (omega arith)
      by_progress ws u o r h (at_round a) = next ws u o r a

  -- The lists are empty after max(D, 2) rounds, and after any more.
  pub settles : (D : ℕ) {k : ℕ} {T : Tables} → Ran T₀ k T → ((r i j : ℕ) → Chain (IsIndex T) (Joins T) r i j → r ≤ D) → D ≤ k → 2 ≤ k
      → (current_list T ≡ []) × (following_list T ≡ []) × (standing_list T ≡ [])
  settles D {k} {T} r most hD h2 =
      let a = ran_stage r h2 in (
        empty (current_list T) (λ d m. let c = a.current d m in omega (arith, most (suc k) c.0 d c.1)),
        empty (following_list T) a.following,
        empty (standing_list T) a.standing,
      )
