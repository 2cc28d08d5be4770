-- Calm, once a round has run, means that the drawing is satisfied: in calm a list names only Clocks, which is the premise of demand 3's third part.
-- Assumes nothing.
use mathlib.Core.Path.{◌≡◌, refl}
use mathlib.Core.Logic.{⊎_elim}
use mathlib.Core.Bool.{true, ◌&&◌, ◌||◌}
use mathlib.Core.List.{List}
use Prim.Native.Nat.{ℕ}
use Rattle.lists.specs.Lists.{has}
use Rattle.lists.proofs.TestsLaws.{and_left, and_right, or_cases}
use Rattle.lists.proofs.MembersLaws.{every_sound, has_sound}
use Rattle.kinds.specs.declared.Kind.TheVariants.{Clock}
use Rattle.kinds.specs.Kinds.{is}
use Rattle.tables.specs.Tables.{Tables, fields_at, current_list, following_list, standing_list, named}
use Rattle.rounds.specs.Round.{only_clocks, calm}
use Rattle.quiet.proofs.Obeyed.{unbroken_obeyed}
use Rattle.demands.proofs.Called.{reached_kept}
use Rattle.demands.proofs.Demand3.{load_fresh, satisfied}
use Rattle.demands.specs.Calm.{CalmSatisfied}

-- In calm, what a list names is a Clock.
module _ (T : Tables) (i : ℕ) where
  listed_clock : (l : List ℕ) → only_clocks T l ≡ true → has i l ≡ true → is Clock (fields_at T i) ≡ true
  listed_clock l e h = every_sound (λ j. is Clock (fields_at T j)) i l e (has_sound i l h)

  pub calm_clock : calm T ≡ true → named T i ≡ true → is Clock (fields_at T i) ≡ true
  unfolding calm
  calm_clock e m =
      let c = only_clocks T (current_list T) in
      let f = only_clocks T (following_list T) in
      let s = only_clocks T (standing_list T) in
      let two = and_left (c && f) s e in
      ⊎_elim
      (λ h. ⊎_elim (listed_clock (current_list T) (and_left c f two)) (listed_clock (following_list T) (and_right c f two))
      (or_cases (has i (current_list T)) (has i (following_list T)) h))
      (listed_clock (standing_list T) (and_right (c && f) s e))
      (or_cases (has i (current_list T) || has i (following_list T)) (has i (standing_list T)) m)

-- In every state reached from an accepted load in which a round has run, calm means that the drawing is satisfied, Clocks taken at the last
-- round's time.
pub calm_satisfied : CalmSatisfied
calm_satisfied file t T r c =
    let p = reached_kept file (load_fresh file) r in
    let o = p.0 in
    let kept = unbroken_obeyed T true t p.1.net p.1.unbroken in
    satisfied file o.lent o.accepted T o.wiring t (kept.settled refl (λ i h m. calm_clock T i c m))
