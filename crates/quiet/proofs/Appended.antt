-- What appending an edit's component to the list of its way leaves: the ports, and every name; and its component is named. Where the ways differ,
-- a law has a clause for each.
-- Assumes nothing.
use mathlib.Core.List.{List}
use Prim.Native.Nat.{ℕ, ◌<◌}
use Rattle.lists.specs.Lists.{append_new}
use Rattle.lists.proofs.MembersLaws.{In}
use Rattle.lists.proofs.NamesLaws.{Names, names_append, append_new-has, append_new-kept}
use Rattle.tables.specs.declared.Wire.{Wire}
use Rattle.tables.specs.Tables.{Tables}
use Rattle.rounds.specs.Round.{State, with_current, with_standing}
use Rattle.simulator.specs.Edit.{Way, goes_first, stands, appended}
use Rattle.rounds.proofs.Held.{Held, Agree}
use Rattle.quiet.proofs.Invariant.{Fits, Named, now, next, later}

-- No list loses a name,
module _ (i d : ℕ) (s : State) where
  pub appended_current : (way : Way) → In d s.current → In d (appended way i s).current
  appended_current goes_first m = append_new-kept i d s.current m
  appended_current stands m = m

  pub appended_following : (way : Way) → In d s.following → In d (appended way i s).following
  appended_following goes_first m = m
  appended_following stands m = m

  pub appended_standing : (way : Way) → In d s.standing → In d (appended way i s).standing
  appended_standing goes_first m = m
  appended_standing stands m = append_new-kept i d s.standing m

  pub appended_kept : (way : Way) → Named s d → Named (appended way i s) d
  appended_kept way (now m) = now (appended_current way m)
  appended_kept way (next m) = next (appended_following way m)
  appended_kept way (later m) = later (appended_standing way m)

-- and the component is named.
pub appended_named : (way : Way) (i : ℕ) (s : State) → Named (appended way i s) i
appended_named goes_first i s = now (append_new-has i s.current)
appended_named stands i s = later (append_new-has i s.standing)

-- Ports stay: wires agree and components fit as before.
module _ (T : Tables) (i : ℕ) (s : State) where
  pub appended_agree : (way : Way) (w : Wire) → Agree T s w → Agree T (appended way i s) w
  appended_agree goes_first w q = q
  appended_agree stands w q = q

  pub appended_fits : (way : Way) (t d : ℕ) → Fits T t s d → Fits T t (appended way i s) d
  appended_fits goes_first t d f = f
  appended_fits stands t d f = f

  -- Other lists in the state: what a net holds it still holds, where they name components, none twice.
  listed_held : (c d : List ℕ) → Names T.counts.components c → Names T.counts.components d → Held T s → Held T (with_current c (with_standing d s))
  listed_held c d named standing a =
      record {
        inputs_length = a.inputs_length;
        outputs_length = a.outputs_length;
        inputs_fit = a.inputs_fit;
        outputs_fit = a.outputs_fit;
        consts = a.consts;
        current = named;
        following = a.following;
        standing = standing;
      }

  pub appended_held : (way : Way) → i < T.counts.components → Held T s → Held T (appended way i s)
  appended_held goes_first h a =
      listed_held (append_new i s.current) s.standing (names_append T.counts.components i s.current h a.current) a.standing a
  appended_held stands h a =
      listed_held s.current (append_new i s.standing) a.current (names_append T.counts.components i s.standing h a.standing) a
