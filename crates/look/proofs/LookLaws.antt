-- The ways out of a look: a load's own refusals; 16, 20 and 21; and what is shown.
-- Assumes nothing.
use mathlib.Core.Path.{◌≡◌, refl, sym, ap, ◌∙◌}
use Prim.Native.Nat.{ℕ, ◌<◌, ◌≤◌}
use native.Mathlib.Omega.{arith}
use mathlib.Core.Bool.{Bool, true, false, cond, not, ◌&&◌, ◌||◌, false≢true}
use mathlib.Core.List.{List, [], ◌∷◌, map}
use lib.ListN.{length}
use lib.Dec.{leb, ltb}
use borrow.Author.Tests.{ne_eqb, le-leb, lt-leb, leb-false, ltb-false}
use Rattle.lists.specs.Lists.{overlay, refusal, ◌if◌}
use Rattle.value.specs.declared.Value.{Value}
use Rattle.kinds.specs.declared.answers.Refusal.{Refusal}
use Rattle.kinds.specs.Given.{refused_by, refusing, Verdict}
use Rattle.kinds.proofs.GivenLaws.{refusing_err, refusing_ok}
use Rattle.component.specs.declared.Record.{Record}
use Rattle.component.specs.Record.{record_at, record_count, inputs_of, outputs_of, sized}
use Rattle.flatten.specs.Verdict.{refused, verdict}
use Rattle.flatten.proofs.Accepted.{refused_not, accepted_sized}
use Rattle.load.specs.Load.{load_verdict}
use Rattle.load.proofs.LoadLaws.{load_passed}
use Rattle.tables.specs.Tables.{Tables, full_size}
use Rattle.net.specs.Net.{is_net, net_number, Checks}
use Rattle.net.proofs.NetLaws.{net_number-0, net_number-16, net_number-is_net, passed_net}
use Rattle.boxes.specs.Boxes.{matched, dangling}
use Rattle.look.specs.Look.{shown, look_number, loads_own, looked_at, look_verdict, Looks}
use Rattle.look.specs.Looking.{ported}
use Rattle.std.specs.Prelude.{Ok, Err}

-- A load's own verdict, b saying whether the file has a size that check 1 passes: a list is too short; or the load's.
module _ (s : List ℕ) (T : Tables) (ns wd : List ℕ) (b : Bool) (e : b ≡ sized s) where
  pub own_lists : (b && (ltb (length ns) 256 || ltb (length wd) 256)) ≡ true → (r : Refusal) → r ≡ refused_by 2 → Err r ≡ loads_own s T ns wd
  own_lists h r d = rw (← e, h, d)

  pub own_load : (b && (ltb (length ns) 256 || ltb (length wd) 256)) ≡ false → (v : Verdict) → v ≡ load_verdict s T → v ≡ loads_own s T ns wd
  own_load h v d = rw (← e, h, d)

-- What was passed where none of them refuses.
pub record OwnPassed (s : List ℕ) (T : Tables) (ns wd : List ℕ) : Type 0 where
  pub judged : verdict s ≡ Ok tt
  pub full : full_size T ≡ true
  pub numbers_long : 256 ≤ length ns
  pub widths_long : 256 ≤ length wd

pub own_passed : (s : List ℕ) (T : Tables) (ns wd : List ℕ) → loads_own s T ns wd ≡ Ok tt → OwnPassed s T ns wd
own_passed s T ns wd e = by_size (sized s) refl (ltb (length ns) 256) (ltb (length wd) 256) refl refl e
  where
    by_size : (a : Bool) → sized s ≡ a → (b c : Bool) → ltb (length ns) 256 ≡ b → ltb (length wd) 256 ≡ c
        → cond (a && (b || c)) (refused 2 0) (load_verdict s T) ≡ Ok tt → OwnPassed s T ns wd
    by_size false z b c x y u = absurd (false≢true (sym z ∙ accepted_sized s (load_passed s T u).judged))
    by_size true z true c x y u = absurd (refused_not 2 0 u)
    by_size true z false true x y u = absurd (refused_not 2 0 u)
    by_size true z false false x y u =
        let p = load_passed s T u in
        record { judged = p.judged; full = p.full; numbers_long = ltb-false (length ns) 256 x; widths_long = ltb-false (length wd) 256 y }

-- 16, 20 and 21, of tables of full size.
module _ (at : ℕ → Record) (n : ℕ) (T : Tables) (c : ℕ) (full : full_size T ≡ true) (v : Verdict) (said : Checks T v) where
  pub number_16 : (r : Refusal) → v ≡ Err r → ◌≡◌ {A = Verdict} (Err r) (refusing (look_number at n T c))
  unfolding look_number
  number_16 r f = sym f ∙ said ∙ ap refusing (by_test (is_net T) refl)
    where
      by_test : (b : Bool) → is_net T ≡ b
          → net_number T ≡ refusal ((16 if not b) ∷ (20 if not (matched at n T) || leb n c) ∷ (21 if dangling at n c) ∷ [])
      by_test true h = absurd ((refusing_err (net_number T) v r said f).0 (sym (net_number-0 T full h)))
      by_test false h = sym (net_number-16 T full h)

  module _ (passed : v ≡ Ok tt) where
    net : is_net T ≡ true
    net = net_number-is_net T (passed_net T v said passed)

    module _ (b : Bool) (match : b ≡ matched at n T) where
      pub number_20 : b ≡ false → 20 ≡ look_number at n T c
      unfolding look_number
      number_20 h = rw (net, ← match, h)

      module _ (h : b ≡ true) where
        pub number_no_path : n ≤ c → 20 ≡ look_number at n T c
        unfolding look_number
        number_no_path l = rw (net, ← match, h, le-leb n c l)

        module _ (l : c < n) (d : Bool) (u : d ≡ dangling at n c) where
          pub number_21 : d ≡ true → 21 ≡ look_number at n T c
          unfolding look_number
          number_21 v = rw (net, ← match, h, lt-leb n c l, ← u, v)

          pub number_0 : d ≡ false → 0 ≡ look_number at n T c
          unfolding look_number
          number_0 v = rw (net, ← match, h, lt-leb n c l, ← u, v)

-- What was passed where none of them refuses.
pub record NumberPassed (at : ℕ → Record) (n : ℕ) (T : Tables) (c : ℕ) : Type 0 where
  pub net : is_net T ≡ true
  pub match : matched at n T ≡ true
  pub there : c < n
  pub closed : dangling at n c ≡ false

pub number_passed : (at : ℕ → Record) (n : ℕ) (T : Tables) (c : ℕ) → look_number at n T c ≡ 0 → NumberPassed at n T c
unfolding look_number
number_passed at n T c e = by_tests (is_net T) (matched at n T) (leb n c) (dangling at n c) refl refl refl refl e
  where
    by_tests : (p q l d : Bool) → is_net T ≡ p → matched at n T ≡ q → leb n c ≡ l → dangling at n c ≡ d
        → refusal ((16 if not p) ∷ (20 if not q || l) ∷ (21 if d) ∷ []) ≡ 0 → NumberPassed at n T c
    by_tests false q l d x y w z u = absurd (omega (arith, u))
    by_tests true false l d x y w z u = absurd (omega (arith, u))
    by_tests true true true d x y w z u = absurd (omega (arith, u))
    by_tests true true false true x y w z u = absurd (omega (arith, u))
    by_tests true true false false x y w z u = record { net = x; match = y; there = leb-false n c w; closed = z }

-- The answer, v being what a load's own refusals are.
module _ (s : List ℕ) (T : Tables) (path ns wd : List ℕ) (v : Verdict) (own : v ≡ loads_own s T ns wd) where
  pub look_own : (r : Refusal) → v ≡ Err r → Looks s T path ns wd (Err r) ns wd
  unfolding look_verdict
  look_own r e = rw (sym own ∙ e) (refl, refl, refl)

  module _ (a : v ≡ Ok tt) (c : ℕ) (place : c ≡ looked_at s path) (w : Verdict)
      (said : w ≡ refusing (look_number (record_at s) (record_count s) T c)) where
    number : look_number (record_at s) (record_count s) T (looked_at s path) ≡ look_number (record_at s) (record_count s) T c
    number = ap (look_number (record_at s) (record_count s) T) (sym place)

    pub look_refused : (r : Refusal) → w ≡ Err r → Looks s T path ns wd (Err r) ns wd
    unfolding look_verdict
    look_refused r f =
        let p = refusing_err (look_number (record_at s) (record_count s) T c) w r said f in
        rw (sym own ∙ a, number, ne_eqb (look_number (record_at s) (record_count s) T c) 0 p.0, p.1) (refl, refl, refl)

    pub look_shown : w ≡ Ok tt → (ns' wd' : List ℕ)
        → ns' ≡ overlay (map (λ (x : Value). x.number) (shown (record_at s) (record_count s) (ported T.components T.inputs T.outputs) c)) ns
        → wd' ≡ overlay (map (λ (x : Value). x.width) (shown (record_at s) (record_count s) (ported T.components T.inputs T.outputs) c)) wd
        → Looks s T path ns wd (Ok (record { inputs = (inputs_of (record_at s c)); outputs = (outputs_of (record_at s c)) })) ns' wd'
    unfolding look_verdict shown
    look_shown f ns' wd' p q =
        let z = refusing_ok (look_number (record_at s) (record_count s) T c) w said f in
        rw (sym own ∙ a, number, z, ← place) (refl, p, q)
