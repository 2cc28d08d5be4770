-- The invariant behind demand 3: what rounds and edits leave undone is named in one of the three lists.
-- docs/SPECIFICATION.md, "Rounds".
--   Fits T t s i       an evaluation of component i at time t would change nothing
--   Clocks T xs        the list xs names every Clock
--   Named s i          one of the three lists names i
--   Awaits T ran s i   so it is, and where a round has run i is no Clock
--   Inv T ran t s      between calls: whether a round has run, and the time of the last
--   Wired T X todo s   each wire agrees, or its source is X, or it is one of those still to be taken
--   Due T rest s i     within a round, i is still to be evaluated
--   Mid T t rest todo s   within a round: `rest` is left of the current list, `todo` of the component's wires
-- Within a round a Clock is due only through the rest of the current list; it is never struck from the standing list.
-- Assumes nothing.
use mathlib.Core.Path.{◌≡◌, refl, sym, ap, ◌∙◌, subst}
use mathlib.Core.Logic.{◌⊎◌, inl, inr}
use mathlib.Core.Bool.{Bool, true, false, cond, ◌&&◌}
use mathlib.Core.List.{List, [], ◌∷◌, foldl}
use Prim.Native.Nat.{ℕ, ◌+◌, ◌≤◌, ◌<◌}
use native.Mathlib.Omega.{arith}
use native.Mathlib.Decide.{ℕ_discrete}
use borrow.Author.Tests.{eq-eqb}
use lib.ListN.{length}
use lib.Seq.{get_or-set_same, get_or-set_other}
use lib.Dec.{eqb}
use Rattle.lists.specs.Lists.{strike}
use Rattle.lists.proofs.MembersLaws.{In, keep_complete}
use Rattle.lists.proofs.NamesLaws.{append_new-has, append_new-kept, strike_kept}
use Rattle.kinds.specs.declared.Kind.TheVariants.{Clock}
use Rattle.kinds.specs.Kinds.{is}
use Rattle.primitive.specs.Evaluate.{outputs_after}
use Rattle.tables.specs.declared.Wire.{Wire}
use Rattle.tables.specs.Tables.{Tables, fields_at, first_input, first_output, input_place, output_place, inputs_at, outputs_at, wires_in}
use Rattle.rounds.specs.Round.{State, wires_from, turn, evaluated, send, visit, round}
use Rattle.rounds.proofs.Ports.{Off, sets_at_ne, numbers_set, numbers_sets, numbers_sets_same}
use Rattle.rounds.proofs.Evaluation.{outputs_after-time, outputs_after-twice}
use Rattle.rounds.proofs.Sound.{output_count, outputs_end, Beside, Sound, outputs_beside, outputs_off, inputs_off, input_room, target_unclocked}
use Rattle.rounds.proofs.Held.{Held, Order, carried, Agree, written, SendCase, agrees, writes, send_case, made, send_held, made_length, evaluated_held, wires_from-in}

-- Component i is a Clock.
abbrev pub clocked : Tables → ℕ → Bool
clocked T i = is Clock (fields_at T i)

abbrev pub Fits : Tables → ℕ → State → ℕ → Type 0
Fits T t s i = made T t s i ≡ outputs_at T s.outputs i

pub data Named (s : State) (i : ℕ) : Type 0 where
  now : In i s.current → Named s i
  next : In i s.following → Named s i
  later : In i s.standing → Named s i

-- A list names every Clock.
abbrev pub Clocks : Tables → List ℕ → Type 0
Clocks T xs = (i : ℕ) → i < T.counts.components → clocked T i ≡ true → In i xs

-- Component i is named and, where a round has run, no Clock.
abbrev pub Awaits : Tables → Bool → State → ℕ → Type 0
Awaits T ran s i = ((ran && clocked T i) ≡ false) × Named s i

-- Each wire agrees or its source is named; each component fits or is named; after a round, no Clock needs its name
-- for that. All three lists name every Clock.
pub record Inv (T : Tables) (ran : Bool) (t : ℕ) (s : State) : Type 0 where
  pub wired : (w : Wire) → In w (wires_in T)
      → Agree T s w ⊎ Awaits T ran s w.src.comp.0
  pub fitted : (i : ℕ) → i < T.counts.components → Fits T t s i ⊎ Awaits T ran s i
  pub clock_current : Clocks T s.current
  pub clock_following : Clocks T s.following
  pub clock_standing : Clocks T s.standing

abbrev pub Wired : Tables → (ℕ → Type 0) → List Wire → State → Type 0
Wired T X todo s = (w : Wire) → In w (wires_in T) → Agree T s w ⊎ (X w.src.comp.0 ⊎ In w todo)

pub data Due (T : Tables) (rest : List ℕ) (s : State) (i : ℕ) : Type 0 where
  in_rest : In i rest → Due T rest s i
  in_following_lem : clocked T i ≡ false → In i s.following → Due T rest s i
  in_standing_lem : clocked T i ≡ false → In i s.standing → Due T rest s i

pub record Mid (T : Tables) (t : ℕ) (rest : List ℕ) (todo : List Wire) (s : State) : Type 0 where
  pub held : Held T s
  pub wired : Wired T (Due T rest s) todo s
  pub fitted : (i : ℕ) → i < T.counts.components → Fits T t s i ⊎ Due T rest s i
  pub clock_following : Clocks T s.following
  pub clock_standing : Clocks T s.standing

-- An evaluation of component i leaves every other name in the standing list.
pub evaluated_standing : (T : Tables) (t i d : ℕ) (s : State) → (d ≡ i → ⊥) → In d s.standing
    → In d (evaluated T t i s).standing
unfolding evaluated
evaluated_standing T t i d s ne m = by_clock (clocked T i)
  where
    by_clock : (b : Bool) → In d (cond b s.standing (strike i s.standing))
    by_clock true = m
    by_clock false = strike_kept i d s.standing ne m

module _ (T : Tables) (g : Sound T) where
  abbrev n : ℕ
  n = T.counts.components

  -- One wire: where it agrees, it is done;
  pub stay_wired : (X : ℕ → Type 0) (ws : List Wire) (s : State) (v : Wire) → Agree T s v → Wired T X (v ∷ ws) s → Wired T X ws s
  stay_wired X ws s v p a w mw = wire (a w mw)
    where
      wire : Agree T s w ⊎ (X w.src.comp.0 ⊎ In w (v ∷ ws)) → Agree T s w ⊎ (X w.src.comp.0 ⊎ In w ws)
      wire (inl q) = inl q
      wire (inr (inl q)) = inr (inl q)
      wire (inr (inr (inl e))) = inl (subst (λ (x : Wire). Agree T s x) (sym e) p)
      wire (inr (inr (inr q))) = inr (inr q)

  -- where its input is written, it then agrees.
  pub written_wired : (X Y : ℕ → Type 0) → ((d : ℕ) → X d → Y d) → (ws : List Wire) (s : State) (v : Wire) → In v (wires_in T) → Held T s
      → Wired T X (v ∷ ws) s → Wired T Y ws (written T s v)
  unfolding written
  written_wired X Y f ws s v m b a w mw = wire (ℕ_discrete (input_place T w.dst) (input_place T v.dst)) (a w mw)
    where
      room : input_place T v.dst < length s.inputs
      room = omega (arith, b.inputs_length, input_room T g v m)

      own : Agree T (written T s v) v
      own = sym (get_or-set_same s.inputs (input_place T v.dst) (carried T s v) 0 room)

      wire : Dec (input_place T w.dst ≡ input_place T v.dst) → Agree T s w ⊎ (X w.src.comp.0 ⊎ In w (v ∷ ws))
          → Agree T (written T s v) w ⊎ (Y w.src.comp.0 ⊎ In w ws)
      wire (yes e) o = inl (subst (λ (x : Wire). Agree T (written T s v) x) (sym (g.once w v mw m e)) own)
      wire (no e) (inl q) =
          inl (q ∙ sym (get_or-set_other s.inputs (input_place T v.dst) (input_place T w.dst)
          (carried T s v) 0 e))
      wire (no e) (inr (inl q)) = inr (inl (f w.src.comp.0 q))
      wire (no e) (inr (inr (inl q))) = absurd (e (ap (λ (x : Wire). input_place T x.dst) q))
      wire (no e) (inr (inr (inr q))) = inr (inr q)

  -- The same within a round.
  module _ (t : ℕ) (rest : List ℕ) (ws : List Wire) (s : State) (v : Wire) (m : In v (wires_in T))
      (a : Mid T t rest (v ∷ ws) s) where
    stay_mid : Agree T s v → Mid T t rest ws s
    stay_mid p =
        record {
          held = a.held;
          wired = stay_wired (Due T rest s) ws s v p a.wired;
          fitted = a.fitted;
          clock_following = a.clock_following;
          clock_standing = a.clock_standing;
        }

    -- Where its input is written its target is due.
    write_mid : Held T (written T s v) → Mid T t rest ws (written T s v)
    unfolding written
    write_mid b =
        record {
          held = b;
          wired = written_wired (Due T rest s) (Due T rest (written T s v)) due ws s v m a.held a.wired;
          fitted = λ i h. fit i h (ℕ_discrete i v.dst.comp.0) (a.fitted i h);
          clock_following = λ i h e. append_new-kept v.dst.comp.0 i s.following (a.clock_following i h e);
          clock_standing = a.clock_standing;
        }
      where
        due : (i : ℕ) → Due T rest s i → Due T rest (written T s v) i
        due i (in_rest q) = in_rest q
        due i (in_following_lem e q) = in_following_lem e (append_new-kept v.dst.comp.0 i s.following q)
        due i (in_standing_lem e q) = in_standing_lem e q

        target : Due T rest (written T s v) v.dst.comp.0
        target = in_following_lem (target_unclocked T g v m) (append_new-has v.dst.comp.0 s.following)

        fit : (i : ℕ) → i < n → Dec (i ≡ v.dst.comp.0) → Fits T t s i ⊎ Due T rest s i
            → Fits T t (written T s v) i ⊎ Due T rest (written T s v) i
        fit i h (yes e) o = inr (subst (λ (k : ℕ). Due T rest (written T s v) k) (sym e) target)
        fit i h (no ne) (inl q) =
            inl (ap (λ (xs : List ℕ). outputs_after (fields_at T i) xs (outputs_at T s.outputs i) t)
            (numbers_set s.inputs (first_input T i) (fields_at T i).inputs (input_place T v.dst)
            (carried T s v)
            (omega (arith, a.held.inputs_length, g.inputs_in i h)) (inputs_off T g i v h m (λ e. ne (sym e)))) ∙ q)
        fit i h (no ne) (inr q) = inr (due i q)

    pub send_mid : Mid T t rest ws (send T s v)
    send_mid = by_case (send_case T s v) (send_held T g s v m a.held)
      where
        by_case : SendCase T s v → Held T (send T s v) → Mid T t rest ws (send T s v)
        by_case (agrees p e) b = rw e (stay_mid p)
        by_case (writes p e) b = rw e (write_mid (rw e at b))

  -- The wires of one component.
  sends_mid : (t : ℕ) (rest : List ℕ) (ws : List Wire) → ((w : Wire) → In w ws → In w (wires_in T)) → (s : State)
      → Mid T t rest ws s → Mid T t rest [] (foldl (send T) s ws)
  sends_mid t rest [] f s a = a
  sends_mid t rest (w ∷ ws) f s a =
      sends_mid t rest ws (λ x m. f x (inr m)) (send T s w) (send_mid t rest ws s w (f w (inl refl)) a)

  -- An evaluation of component i: its outputs are those made, and it fits; another fits if it did.
  module _ (t i : ℕ) (h : i < T.counts.components) (s : State) (b : Held T s) where
    len : length (made T t s i) ≡ (fields_at T i).outputs
    len = made_length T g t i h s b

    room : (d : ℕ) → d < n → outputs_end T d ≤ length s.outputs
    room d q = omega (arith, b.outputs_length, g.outputs_in d q)

    own_made : outputs_at T (evaluated T t i s).outputs i ≡ made T t s i
    unfolding evaluated
    own_made = numbers_sets_same s.outputs (first_output T i) (fields_at T i).outputs (made T t s i) len (room i h)

    others_made : (d : ℕ) → d < n → (d ≡ i → ⊥)
        → outputs_at T (evaluated T t i s).outputs d ≡ outputs_at T s.outputs d
    unfolding evaluated
    others_made d q ne =
        numbers_sets s.outputs (first_output T d) (fields_at T d).outputs (first_output T i) (made T t s i) (room d q)
        (beside (outputs_beside T g i d h q ne))
      where
        beside : Beside (first_output T) (output_count T) i d
            → (first_output T i + length (made T t s i) ≤ first_output T d)
            ⊎ (outputs_end T d ≤ first_output T i)
        beside (inl u) = inl (omega (arith, len))
        beside (inr u) = inr u

    -- Another component's wire sees what it saw.
    others_agree : (w : Wire) → In w (wires_in T) → (w.src.comp.0 ≡ i → ⊥) → Agree T s w → Agree T (evaluated T t i s) w
    unfolding evaluated
    others_agree w m ne q =
        sets_at_ne (made T t s i) s.outputs (first_output T i) (output_place T w.src)
        (subst (λ (k : ℕ). Off (first_output T i) k (output_place T w.src)) (sym len) (outputs_off T g i w h m ne))
        ∙ q

    evaluated_fits : Fits T t (evaluated T t i s) i
    unfolding evaluated
    evaluated_fits =
        subst (λ (ys : List ℕ). outputs_after (fields_at T i) (inputs_at T s.inputs i) ys t ≡ ys) (sym own_made)
        (outputs_after-twice (fields_at T i) (inputs_at T s.inputs i) (outputs_at T s.outputs i) t)

    others_fit : (d : ℕ) → d < n → (d ≡ i → ⊥) → Fits T t s d → Fits T t (evaluated T t i s) d
    unfolding evaluated
    others_fit d q ne f =
        subst (λ (ys : List ℕ). outputs_after (fields_at T d) (inputs_at T s.inputs d) ys t ≡ ys)
        (sym (others_made d q ne)) f

    -- Its wires are still to be taken; another's excuse may be weakened.
    pub evaluated_wired : (X Y : ℕ → Type 0) (ws : List Wire) → Order T ws → ((d : ℕ) → (d ≡ i → ⊥) → X d → Y d)
        → Wired T X [] s → Wired T Y (wires_from ws i) (evaluated T t i s)
    evaluated_wired X Y ws o f a w m = by_source (ℕ_discrete w.src.comp.0 i) (a w m)
      where
        by_source : Dec (w.src.comp.0 ≡ i) → Agree T s w ⊎ (X w.src.comp.0 ⊎ In w [])
            → Agree T (evaluated T t i s) w ⊎ (Y w.src.comp.0 ⊎ In w (wires_from ws i))
        by_source (yes e) q =
            inr (inr (keep_complete (λ (v : Wire). eqb v.src.comp.0 i) w ws (eq-eqb w.src.comp.0 i e) (o.all w m)))
        by_source (no ne) (inl q) = inl (others_agree w m ne q)
        by_source (no ne) (inr (inl q)) = inr (inl (f w.src.comp.0 ne q))
        by_source (no ne) (inr (inr q)) = absurd q

  -- The same within a round.
  module _ (ws : List Wire) (o : Order T ws) (t i : ℕ) (rest : List ℕ) (h : i < T.counts.components) (s : State)
      (a : Mid T t (i ∷ rest) [] s) where
    clock_stands : (d : ℕ) → clocked T d ≡ true → Dec (d ≡ i) → In d s.standing → In d (evaluated T t i s).standing
    unfolding evaluated
    clock_stands d e (yes p) m =
        subst (λ (l : List ℕ). In d l)
        (sym (ap (λ (b : Bool). cond b s.standing (strike i s.standing)) (ap (clocked T) (sym p) ∙ e))) m
    clock_stands d e (no ne) m = evaluated_standing T t i d s ne m

    still_due : (d : ℕ) → (d ≡ i → ⊥) → Due T (i ∷ rest) s d → Due T rest (evaluated T t i s) d
    unfolding evaluated
    still_due d ne (in_rest (inl e)) = absurd (ne e)
    still_due d ne (in_rest (inr m)) = in_rest m
    still_due d ne (in_following_lem e m) = in_following_lem e m
    still_due d ne (in_standing_lem e m) = in_standing_lem e (evaluated_standing T t i d s ne m)

    evaluated_mid : Mid T t rest (wires_from ws i) (evaluated T t i s)
    unfolding evaluated
    evaluated_mid =
        record {
          held = evaluated_held T g t i h s a.held;
          wired = evaluated_wired t i h s a.held (Due T (i ∷ rest) s) (Due T rest (evaluated T t i s)) ws o still_due a.wired;
          fitted = λ d q. fit d q (ℕ_discrete d i) (a.fitted d q);
          clock_following = a.clock_following;
          clock_standing = λ d q e. clock_stands d e (ℕ_discrete d i) (a.clock_standing d q e);
        }
      where
        fit : (d : ℕ) → d < n → Dec (d ≡ i) → Fits T t s d ⊎ Due T (i ∷ rest) s d
            → Fits T t (evaluated T t i s) d ⊎ Due T rest (evaluated T t i s) d
        fit d q (yes e) f = inl (subst (λ (k : ℕ). Fits T t (evaluated T t i s) k) (sym e) (evaluated_fits t i h s a.held))
        fit d q (no ne) (inl f) = inl (others_fit t i h s a.held d q ne f)
        fit d q (no ne) (inr f) = inr (still_due d ne f)

  -- A round at time u, its wires in any order.
  module _ (ws : List Wire) (o : Order T ws) (u : ℕ) where
    visit_mid : (i : ℕ) (rest : List ℕ) → i < n → (s : State) → Mid T u (i ∷ rest) [] s
        → Mid T u rest [] (visit T (wires_from ws) u s i)
    unfolding visit
    visit_mid i rest h s a =
        sends_mid u rest (wires_from ws i) (wires_from-in T g ws o u i) (evaluated T u i s)
        (evaluated_mid ws o u i rest h s a)

    visits_mid : (xs : List ℕ) → ((x : ℕ) → In x xs → x < n) → (s : State) → Mid T u xs [] s
        → Mid T u [] [] (foldl (visit T (wires_from ws) u) s xs)
    visits_mid [] f s a = a
    visits_mid (x ∷ xs) f s a = visits_mid xs (λ y m. f y (inr m)) (visit T (wires_from ws) u s x)
        (visit_mid x xs (f x (inl refl)) s a)

    round_start : (ran : Bool) (t : ℕ) (s : State) → Held T s → Inv T ran t s → Mid T u s.current [] s
    round_start ran t s b a =
        record {
          held = b;
          wired = λ w m. wire w m (a.wired w m);
          fitted = λ i h. fit i h (clocked T i) refl (a.fitted i h);
          clock_following = a.clock_following;
          clock_standing = a.clock_standing;
        }
      where
        due : (i : ℕ) → i < n → (b : Bool) → clocked T i ≡ b → Named s i → Due T s.current s i
        due i h true e k = in_rest (a.clock_current i h e)
        due i h false e (now m) = in_rest m
        due i h false e (next m) = in_following_lem e m
        due i h false e (later m) = in_standing_lem e m

        wire : (w : Wire) → In w (wires_in T)
            → Agree T s w ⊎ Awaits T ran s w.src.comp.0
            → Agree T s w ⊎ (Due T s.current s w.src.comp.0 ⊎ In w [])
        wire w m (inl q) = inl q
        wire w m (inr q) = inr (inl (due w.src.comp.0 (g.source w m) (clocked T w.src.comp.0) refl q.1))

        fit : (i : ℕ) → i < n → (b : Bool) → clocked T i ≡ b
            → Fits T t s i ⊎ Awaits T ran s i → Fits T u s i ⊎ Due T s.current s i
        fit i h true e q = inr (in_rest (a.clock_current i h e))
        fit i h false e (inl q) =
            inl (outputs_after-time (fields_at T i) (g.obeyed i h) (inputs_at T s.inputs i)
            (outputs_at T s.outputs i) u t e ∙ q)
        fit i h false e (inr q) = inr (due i h false e q.1)

    round_end : (s : State) → Mid T u [] [] s → Inv T true u (turn s)
    round_end s a =
        record {
          wired = λ w m. wire w (a.wired w m);
          fitted = λ i h. fit i (a.fitted i h);
          clock_current = a.clock_following;
          clock_following = a.clock_standing;
          clock_standing = a.clock_standing;
        }
      where
        held : (i : ℕ) → Due T [] s i → (clocked T i ≡ false) × Named (turn s) i
        held i (in_rest m) = absurd m
        held i (in_following_lem e m) = (e, now m)
        held i (in_standing_lem e m) = (e, later m)

        wire : (w : Wire) → Agree T s w ⊎ (Due T [] s w.src.comp.0 ⊎ In w [])
            → Agree T s w ⊎ ((clocked T w.src.comp.0 ≡ false) × Named (turn s) w.src.comp.0)
        wire w (inl q) = inl q
        wire w (inr (inl q)) = inr (held w.src.comp.0 q)
        wire w (inr (inr q)) = absurd q

        fit : (i : ℕ) → Fits T u s i ⊎ Due T [] s i → Fits T u s i ⊎ ((clocked T i ≡ false) × Named (turn s) i)
        fit i (inl q) = inl q
        fit i (inr q) = inr (held i q)

    -- A round keeps the invariant.
    pub round_inv : (ran : Bool) (t : ℕ) (s : State) → Held T s → Inv T ran t s → Inv T true u (round T (wires_from ws) u s)
    unfolding round
    round_inv ran t s b a =
        round_end (foldl (visit T (wires_from ws) u) s s.current)
        (visits_mid s.current b.current.exist s (round_start ran t s b a))

-- The state as a load leaves it: the current list names every component, the two others every Clock.
pub start_inv : (T : Tables) (t : ℕ) (s : State) → Sound T → ((i : ℕ) → i < T.counts.components → In i s.current)
    → Clocks T s.following
    → Clocks T s.standing → Inv T false t s
start_inv T t s g all fol std =
    record {
      wired = λ w m. inr (refl, now (all w.src.comp.0 (g.source w m)));
      fitted = λ i h. inr (refl, now (all i h));
      clock_current = λ i h e. all i h;
      clock_following = fol;
      clock_standing = std;
    }
