-- An edit keeps the invariant: what it sets is the edited component's own, and the list of its way names that component.
-- Assumes nothing.
use mathlib.Core.Path.{◌≡◌, refl, sym, ap, ◌∙◌, subst}
use mathlib.Core.Logic.{◌⊎◌, inl, inr}
use mathlib.Core.Bool.{Bool, true, false, and-false}
use mathlib.Core.List.{List}
use Prim.Native.Nat.{ℕ, ◌<◌}
use native.Mathlib.Decide.{ℕ_discrete}
use lib.ListN.{set}
use Rattle.lists.proofs.MembersLaws.{In}
use Rattle.kinds.specs.declared.Kind.TheVariants.{Switch, Input, Clock}
use Rattle.kinds.specs.Kinds.{is}
use Rattle.primitive.specs.Evaluate.{outputs_after}
use Rattle.tables.specs.declared.Wire.{Wire}
use Rattle.tables.specs.Tables.{Tables, fields_at, first_input, first_output, inputs_at, outputs_at, wires_in}
use Rattle.rounds.specs.Round.{State, with_inputs, with_outputs}
use Rattle.simulator.specs.Edit.{Way, appended, port_set, edited_state}
use Rattle.simulator.specs.Calls.{driven}
use Rattle.rounds.proofs.Evaluation.{is_other}
use Rattle.rounds.proofs.Sound.{Sound}
use Rattle.rounds.proofs.Held.{Held, Agree}
use Rattle.quiet.proofs.Edited.{Editable, driven_none, switched, fed, EditCase, switch, input, edit_case, switch_others, switch_left, input_others, input_left}
use Rattle.quiet.proofs.Invariant.{clocked, Fits, Awaits, Named, now, next, later, Inv}
use Rattle.quiet.proofs.Appended.{appended_current, appended_following, appended_standing, appended_kept, appended_named, appended_agree, appended_fits}

-- An edit of component i, which is no Clock: the invariant holds of the new state where each wire that does not leave i
-- still agrees if it did, and each component but i still fits if it did.
module _ (T : Tables) (way : Way) (ran : Bool) (t i : ℕ) (unclocked : clocked T i ≡ false) (s : State) (a : Inv T ran t s)
    (xs ys : List ℕ) where
  abbrev n : ℕ
  n = T.counts.components

  -- The ports are set; then the component is appended.
  abbrev ported : State
  ported = with_inputs xs (with_outputs ys s)

  abbrev new : State
  new = appended way i ported

  appended_inv : ((w : Wire) → In w (wires_in T) → (w.src.comp.0 ≡ i → ⊥) → Agree T s w → Agree T ported w)
      → ((d : ℕ) → d < n → (d ≡ i → ⊥) → Fits T t s d → Fits T t ported d) → Inv T ran t new
  appended_inv agree fits =
      record {
        wired = λ w m. wire w m (ℕ_discrete w.src.comp.0 i) (a.wired w m);
        fitted = λ d q. fit d q (ℕ_discrete d i) (a.fitted d q);
        clock_current = λ d q e. appended_current i d ported way (a.clock_current d q e);
        clock_following = λ d q e. appended_following i d ported way (a.clock_following d q e);
        clock_standing = λ d q e. appended_standing i d ported way (a.clock_standing d q e);
      }
    where
      awaits : (d : ℕ) → Awaits T ran s d → Awaits T ran new d
      awaits d q = (q.0, appended_kept i d ported way (named d q.1))
        where
          -- The lists are as they were.
          named : (d : ℕ) → Named s d → Named ported d
          named d (now m) = now m
          named d (next m) = next m
          named d (later m) = later m

      own : (d : ℕ) → d ≡ i → Awaits T ran new d
      own d e =
          subst (λ (x : ℕ). Awaits T ran new x) (sym e) (
            rw unclocked (and-false ran),
            appended_named way i ported,
          )

      wire : (w : Wire) → In w (wires_in T) → Dec (w.src.comp.0 ≡ i) → Agree T s w ⊎ Awaits T ran s w.src.comp.0
          → Agree T new w ⊎ Awaits T ran new w.src.comp.0
      wire w m (yes e) o = inr (own w.src.comp.0 e)
      wire w m (no ne) (inl q) = inl (appended_agree T i ported way w (agree w m ne q))
      wire w m (no ne) (inr q) = inr (awaits w.src.comp.0 q)

      fit : (d : ℕ) → d < n → Dec (d ≡ i) → Fits T t s d ⊎ Awaits T ran s d → Fits T t new d ⊎ Awaits T ran new d
      fit d q (yes e) o = inr (own d e)
      fit d q (no ne) (inl f) = inl (appended_fits T i ported way t d (fits d q ne f))
      fit d q (no ne) (inr f) = inr (awaits d f)

module _ (T : Tables) (g : Sound T) (way : Way) (ran : Bool) (t i v : ℕ) (h : i < T.counts.components) (s : State) (b : Held T s)
    (a : Inv T ran t s) where
  switched_inv : is Switch (fields_at T i) ≡ true → Inv T ran t (appended way i (switched T i v s))
  unfolding switched
  switched_inv k =
      appended_inv T way ran t i (is_other (fields_at T i) Switch Clock refl k) s a s.inputs
      (set s.outputs (first_output T i) v)
      (λ w m ne q. switch_others T g i v h s b k w.src.comp.0 w.src.port (g.source w m) ne
      (g.source_port w m) ∙ q)
      (λ d q ne f. subst (λ (ys : List ℕ). outputs_after (fields_at T d) (inputs_at T s.inputs d) ys t ≡ ys)
      (sym (switch_left T g i v h s b k d q ne)) f)

  fed_inv : is Input (fields_at T i) ≡ true → driven T i ≡ false → Inv T ran t (appended way i (fed T i v s))
  unfolding fed
  fed_inv k free =
      appended_inv T way ran t i (is_other (fields_at T i) Input Clock refl k) s a (set s.inputs (first_input T i) v)
      s.outputs
      (λ w m ne q. q ∙ sym (input_others T g i v h s b k w.dst.comp.0 w.dst.port (g.target w m)
      (driven_none T i w free m) (g.target_port w m)))
      (λ d q ne f. ap (λ (xs : List ℕ). outputs_after (fields_at T d) xs (outputs_at T s.outputs d) t)
      (input_left T g i v h s b k d q ne) ∙ f)

  -- An edit that is not refused keeps the invariant.
  pub edited_inv : Editable T i v → Inv T ran t (edited_state T way i v s)
  unfolding edited_state
  edited_inv ok = by_case (edit_case T i v s ok)
    where
      by_case : EditCase T i v s → Inv T ran t (appended way i (port_set T i v s))
      by_case (switch k p e) = rw e (switched_inv k)
      by_case (input k f p e) = rw e (fed_inv k f)
