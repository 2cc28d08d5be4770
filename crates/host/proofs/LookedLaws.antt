-- A look that is refused for its file's size, is lent too few words, or that the engine answers; and its number and position fit the answer.
-- Assumes nothing.
use mathlib.Core.Path.{◌≡◌, refl, sym, ap, ◌∙◌, subst}
use mathlib.Core.Bool.{Bool, true, false, cond, not, ◌&&◌, ◌||◌}
use mathlib.Core.List.{List, [], ◌∷◌}
use Prim.Native.Nat.{ℕ, ◌≤◌, ◌<◌}
use native.Mathlib.Omega.{arith}
use lib.ListN.{length}
use lib.Dec.{eqb, leb, ltb}
use Rattle.lists.specs.Lists.{overlay, refusal, ◌if◌}
use Rattle.kinds.specs.Given.{Given, refused_by, spoken, Verdict, verdict_gives}
use Rattle.component.specs.Record.{record_at, record_count, sized}
use Rattle.flatten.specs.Verdict.{refused, and_then}
use Rattle.tables.specs.declared.Counts.{Counts}
use Rattle.tables.specs.Tables.{Tables}
use Rattle.load.specs.Load.{load_verdict}
use Rattle.net.specs.Net.{is_net}
use Rattle.look.specs.declared.Looked.{Looked}
use Rattle.boxes.specs.Boxes.{matched, dangling}
use Rattle.look.specs.Look.{look_number, loads_own, looked_at, look_verdict, look_gives, Looks}
use Rattle.words.specs.Words.{counts_in, values_in}
use Rattle.words.specs.Said.{short}
use Rattle.words.proofs.WordsLaws.{none_laid}
use Rattle.host.specs.Host.{CallLooks, few_to_look, looked}
use Rattle.meeting.proofs.SpokenLaws.{spoken_of, cond_small, by_verdict}
use Rattle.host.proofs.NumbersLaws.{load_verdict_small}
use Rattle.std.specs.Prelude.{Result, Ok, Err}
use Rattle.kinds.specs.declared.answers.Refusal.{Refusal}

-- The numbers past a load's own.
look_number_small : (file : List ℕ) (T : Tables) (c : ℕ) → look_number (record_at file) (record_count file) T c ≤ 21
unfolding look_number
look_number_small file T c = by_tests (is_net T) (matched (record_at file) (record_count file) T) (leb (record_count file) c) (dangling (record_at file) (record_count file) c)
  where
    by_tests : (p q l d : Bool) → refusal ((16 if not p) ∷ (20 if not q || l) ∷ (21 if d) ∷ []) ≤ 21
    by_tests false q l d = omega arith
    by_tests true false l d = omega arith
    by_tests true true true d = omega arith
    by_tests true true false true = omega arith
    by_tests true true false false = omega arith

then_small : (v : Verdict) (k : ℕ) → spoken_of v < 4294967296 → k ≤ 21 → spoken_of (and_then v k) < 4294967296
then_small (Err r) k h l = h
then_small (Ok _) k h l = by_test (eqb k 0)
  where
    by_test : (b : Bool) → spoken_of (cond b (Ok tt) (Err (refused_by k))) < 4294967296
    by_test true = omega arith
    by_test false = omega (arith, l)

own_small : (file : List ℕ) (T : Tables) (ns wd : List ℕ) → spoken_of (loads_own file T ns wd) < 4294967296
own_small file T ns wd =
    cond_small (sized file && (ltb (length ns) 256 || ltb (length wd) 256)) (refused 2 0) (load_verdict file T) (omega arith) (load_verdict_small file T)

verdict_small : (file : List ℕ) (T : Tables) (path ns wd : List ℕ) → spoken_of (look_verdict file T path ns wd) < 4294967296
unfolding look_verdict
verdict_small file T path ns wd =
    then_small (loads_own file T ns wd) (look_number (record_at file) (record_count file) T (looked_at file path)) (own_small file T ns wd)
    (look_number_small file T (looked_at file path))

pub look_small : (file : List ℕ) (T : Tables) (path ns wd : List ℕ) (g : Given) (xs : List ℕ) → g ≡ verdict_gives (look_verdict file T path ns wd) xs
    → spoken g < 4294967296
look_small file T path ns wd g xs e =
    subst (λ (k : ℕ). k < 4294967296) (sym (ap spoken e ∙ by_verdict (look_verdict file T path ns wd) xs)) (verdict_small file T path ns wd)

-- The ways out.
module _ (file path ws ns wd fs : List ℕ) (lent : Counts → Tables) where
  abbrev few_looked : Bool
  few_looked = sized file && (short ws 7 || short fs 2)

  abbrev Promise : Tables → List ℕ → List ℕ → Result Looked Refusal → List ℕ → List ℕ → Type 0
  Promise T = Looks file T path

  unsized : (T : Tables) → sized file ≡ false → Looks file T path ns wd (Err (refused_by 1)) ns wd
  unfolding look_verdict load_verdict
  unsized T h = rw h (refl, refl, refl)

  pub look_unsized : sized file ≡ false → CallLooks Promise few_looked ws ns ns wd wd fs fs lent 65536
  look_unsized h = looked (Err (refused_by 1)) (rw h) (unsized (lent (counts_in ws)) h) refl (none_laid fs)

  pub look_short : sized file ≡ true → (short ws 7 || short fs 2) ≡ true → CallLooks Promise few_looked ws ns ns wd wd fs fs lent 131072
  look_short h s = few_to_look (rw (h, s)) refl refl refl refl

  pub look_made : sized file ≡ true → (short ws 7 || short fs 2) ≡ false → (a : Result Looked Refusal) (m : Counts) (ns' wd' fs' : List ℕ) (r : ℕ) → m ≡ counts_in ws
      → Looks file (lent m) path ns wd a ns' wd' → r ≡ spoken (look_gives a) → fs' ≡ overlay (values_in (look_gives a)) fs
      → CallLooks Promise few_looked ws ns ns' wd wd' fs fs' lent r
  look_made h s a m ns' wd' fs' r q p n f =
      looked a (rw (h, s)) (subst (λ (k : Counts). Looks file (lent k) path ns wd a ns' wd') q p) n f
