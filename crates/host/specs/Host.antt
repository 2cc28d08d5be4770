-- What evaluating one component, looking at a box and mending a drawing promise, called from C. docs/SPECIFICATION.md, "Rounds" (the host's call),
-- "Numbers given back", "Looking at a box" and "Mending a drawing". Each promise is the engine's own, by name. (`berxundar_judge` promises `Speaks`, `berxundar_load` `CallChanges`.)
-- Assumes nothing.
use Rattle.std.specs.Prelude.{ℕ, ◌≡◌, Bool, true, false, ◌&&◌, List}
use Rattle.lists.specs.Lists.{within, overlay}
use Rattle.kinds.specs.declared.table.Fields.{Fields}
use Rattle.kinds.specs.Given.{spoken}
use Rattle.primitive.specs.Evaluate.{evaluated_gives, Evaluates}
use Rattle.tables.specs.declared.Counts.{Counts}
use Rattle.tables.specs.Tables.{Tables}
use Rattle.look.specs.declared.Looked.{Looked}
use Rattle.look.specs.Look.{look_gives}
use Rattle.component.specs.Record.{record_count}
use Rattle.mend.specs.declared.Mended.{Mended}
use Rattle.mend.specs.Mend.{mend_gives, Mends}
use Rattle.words.specs.Words.{counts_in, values_in}
use Rattle.words.specs.Said.{short, says_short}
use Rattle.std.specs.Prelude.{Result}
use Rattle.kinds.specs.declared.answers.Refusal.{Refusal}

-- The fields that a call hands in one by one.
abbrev pub fields_from : ℕ → ℕ → ℕ → ℕ → ℕ → Fields
fields_from k i o w p = record { kind = k; inputs = i; outputs = o; width = w; parameter = p }

-- Evaluating one component: zs are the output numbers afterwards; which of them changed is laid over fs, in which a word is needed.
pub data CallEvaluates (f : Fields) (xs vs ys ws : List ℕ) (t : ℕ) (fs : List ℕ) (r : ℕ) (zs fs' : List ℕ) : Type 0 where
  few_to_evaluate : short fs 1 ≡ true → r ≡ says_short → zs ≡ ys → fs' ≡ fs → CallEvaluates f xs vs ys ws t fs r zs fs'
  evaluated : (a : Result ℕ Refusal) → short fs 1 ≡ false → Evaluates f xs vs ys ws t a zs → r ≡ spoken (evaluated_gives a)
      → fs' ≡ overlay (values_in (evaluated_gives a)) fs → CallEvaluates f xs vs ys ws t fs r zs fs'

-- A look, where P is the engine's promise, ns and ns', wd and wd' are the lists of numbers and of widths before and after: how many inputs and outputs are
-- shown is laid over fs. `lent` are the seven tables by their counts, ws the count words; `few` says that fewer words are lent than the call needs: it then
-- gives 2 and writes nothing.
pub data CallLooks (P : Tables → List ℕ → List ℕ → Result Looked Refusal → List ℕ → List ℕ → Type 0) (few : Bool) (ws ns ns' wd wd' fs fs' : List ℕ)
    (lent : Counts → Tables) (r : ℕ) : Type 0 where
  few_to_look : few ≡ true → r ≡ says_short → ns' ≡ ns → wd' ≡ wd → fs' ≡ fs → CallLooks P few ws ns ns' wd wd' fs fs' lent r
  looked : (a : Result Looked Refusal) → few ≡ false → P (lent (counts_in ws)) ns wd a ns' wd' → r ≡ spoken (look_gives a)
      → fs' ≡ overlay (values_in (look_gives a)) fs → CallLooks P few ws ns ns' wd wd' fs fs' lent r

-- A mending, where out and out', ds and ds' are the buffer and the list of dropped positions before and after: how many bytes and how many positions are
-- written is laid over fs. "1 for no whole record or over 1,024" comes before 2 for a word too few.
pub data CallMends (file out out' ds ds' fs fs' : List ℕ) (r : ℕ) : Type 0 where
  few_to_mend : (within 1 1024 (record_count file) && short fs 2) ≡ true → r ≡ says_short → out' ≡ out → ds' ≡ ds → fs' ≡ fs
      → CallMends file out out' ds ds' fs fs' r
  mended_by : (a : Result Mended Refusal) → (within 1 1024 (record_count file) && short fs 2) ≡ false → Mends file out ds a out' ds' → r ≡ spoken (mend_gives a)
      → fs' ≡ overlay (values_in (mend_gives a)) fs → CallMends file out out' ds ds' fs fs' r
