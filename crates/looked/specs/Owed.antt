-- What a look owes: which ports it shows, said on the records alone, and that tables which calls reach from a load match their file.
-- docs/SPECIFICATION.md, "Looking at a box".
--   Last at n c i t   t is the primitive input that input i of component c reaches last, with no depth
--   LookShows         what a look shows is what the drawing says, and 21 is given for an open input alone
--   LookAsLoad        where a load is refused, a look is refused alike
--   LookAccepted      a look that is not refused is at a component, and shows what its inputs reach last and its outputs come from
--   LookReached       a look at reached tables is refused for its path or with 21 alone
-- Assumes nothing.
use Rattle.std.specs.Prelude.{◌≡◌, ℕ, ◌≤◌, ◌<◌, Bool, true, false, List, [], ◌∷◌, length, leb}
use Rattle.lists.specs.Lists.{refusal, ◌if◌}
use Rattle.kinds.specs.declared.answers.Refusal.{Refusal}
use Rattle.component.specs.declared.Record.{Record}
use Rattle.component.specs.Record.{record_at, record_count, to_of, input_of, inputs_of, outputs_of, is_primitive}
use Rattle.component.specs.Drawing.{child, maps_in}
use Rattle.flatten.specs.declared.Pin.{Pin}
use Rattle.flatten.specs.Descent.{pin}
use Rattle.flatten.specs.Leads.{From, Into}
use Rattle.flatten.specs.Verdict.{verdict, and_then}
use Rattle.tables.specs.Tables.{Tables}
use Rattle.load.specs.Load.{load_verdict}
use Rattle.questions.specs.declared.Side.TheVariants.{Inputs, Outputs}
use Rattle.boxes.specs.Boxes.{matched, dangling, port_shown}
use Rattle.look.specs.Look.{looked_at, look_verdict}
use Rattle.demands.specs.Reached.{Reached}
use Rattle.std.specs.Prelude.{Ok, Err}

-- "the primitive input that its maps reach last": a primitive's own input; else what the last of the maps that reach any reaches last.
pub data Last (at : ℕ → Record) (n : ℕ) : ℕ → ℕ → Pin → Type 0 where
  ends : {c i : ℕ} {t : Pin} → is_primitive (at c) ≡ true → t ≡ pin c i → Last at n c i t
  maps : {c i : ℕ} {t : Pin} (q : ℕ) → q < n → is_primitive (at c) ≡ false → maps_in at c i q ≡ true
      → Last at n (child at n c (to_of (at q))) (input_of (at q)) t
      → ((r : ℕ) (u : Pin) → q < r → r < n → maps_in at c i r ≡ true → Into at n (child at n c (to_of (at r))) (input_of (at r)) u → ⊥)
      → Last at n c i t

module _ (at : ℕ → Record) (n : ℕ) (c : ℕ) where
  -- "An input shows the primitive input that its maps reach last".
  abbrev pub InputsShown : Type 0
  InputsShown = (i : ℕ) (t : Pin) → i < inputs_of (at c) → Last at n c i t → port_shown at n Inputs c i ≡ t

  -- "An output shows its primitive's output."
  abbrev pub OutputsShown : Type 0
  OutputsShown = (i : ℕ) (s : Pin) → i < outputs_of (at c) → From at n c i s → port_shown at n Outputs c i ≡ s

  -- "21 nothing behind some input of the composite": given where some input goes to nothing,
  abbrev pub OpenInput : Type 0
  OpenInput = dangling at n c ≡ true → (i : ℕ) × (i < inputs_of (at c)) × ((t : Pin) → Into at n c i t → ⊥)

  -- and not given where each reaches what it shows.
  abbrev pub NoOpenInput : Type 0
  NoOpenInput = dangling at n c ≡ false → (i : ℕ) → i < inputs_of (at c) → Last at n c i (port_shown at n Inputs c i)

-- All four, for each component of an accepted drawing.
abbrev pub LookShows : Type 0
LookShows =
    (file : List ℕ) → verdict file ≡ Ok tt
    → let at = record_at file in let n = record_count file in
    (c : ℕ) → (at c).form ≡ 1 → InputsShown at n c × OutputsShown at n c × OpenInput at n c × NoOpenInput at n c

-- "after a load's own": where a load of the file is refused, a look, its lists long enough, is refused alike.
abbrev pub LookAsLoad : Type 0
LookAsLoad =
    (file : List ℕ) (T : Tables) (path ns ws : List ℕ) → 256 ≤ length ns → 256 ≤ length ws
    → (r : Refusal) → load_verdict file T ≡ Err r → look_verdict file T path ns ws ≡ Err r

-- A look that is not refused, whatever the tables, is at a component of the drawing. It shows what each input reaches last and each output comes from.
abbrev pub LookAccepted : Type 0
LookAccepted =
    (file : List ℕ) (T : Tables) (path ns ws : List ℕ) → look_verdict file T path ns ws ≡ Ok tt
    → let at = record_at file in let n = record_count file in let c = looked_at file path in
    ((at c).form ≡ 1)
    × ((i : ℕ) → i < inputs_of (at c) → Last at n c i (port_shown at n Inputs c i))
    × ((i : ℕ) → i < outputs_of (at c) → From at n c i (port_shown at n Outputs c i))

-- "File and tables match when the tables hold the components and wires that a load of the file gives": those that calls reach from a load of the
-- file match it, so that a look at them, its lists long enough, is refused for "no such path" or with 21 alone, "position 0 for both".
abbrev pub LookReached : Type 0
LookReached =
    (file : List ℕ) (ran : Bool) (t : ℕ) (T : Tables) → Reached file ran t T
    → let at = record_at file in let n = record_count file in
    (matched at n T ≡ true)
    × ((path ns ws : List ℕ) → 256 ≤ length ns → 256 ≤ length ws
    → look_verdict file T path ns ws
    ≡ and_then (Ok tt) (refusal ((20 if leb n (looked_at file path)) ∷ (21 if dangling at n (looked_at file path)) ∷ [])))
