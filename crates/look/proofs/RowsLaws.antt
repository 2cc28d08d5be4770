-- Tables that are a net and match the drawing hold its primitives: the component table is what a load of the drawing makes of it.
-- Assumes nothing.
use mathlib.Core.Path.{◌≡◌, refl, sym, ap, ◌∙◌}
use Prim.Native.Nat.{ℕ, ◌*◌, ◌≤◌}
use native.Mathlib.Omega.{arith}
use mathlib.Core.Bool.{true}
use mathlib.Core.List.{List, ◌++◌}
use lib.ListN.{length, take, drop, take-append-drop}
use lib.Seq.{length-take-le}
use Rattle.lists.specs.Lists.{joined, overlay}
use Rattle.lists.proofs.TestsLaws.{and_left}
use Rattle.lists.proofs.OverlayLaws.{joined_width}
use Rattle.component.specs.declared.Record.{Record}
use Rattle.flatten.specs.Descent.{flat}
use Rattle.flatten.proofs.Accepted.{Passed}
use Rattle.flatten.proofs.Primitives.{flat_below}
use Rattle.tables.specs.Tables.{Tables}
use Rattle.tables.specs.Words.{fields_in}
use Rattle.laying.specs.Laid.{primitives, primitive_words}
use Rattle.load.specs.Load.{drawing_tables}
use Rattle.net.specs.Net.{net_number}
use Rattle.net.proofs.NetLaws.{net_number-sizes}
use Rattle.rounds.proofs.Sound.{net_within}
use Rattle.loaded.proofs.Entries.{loaded_fields}
use Rattle.questions.proofs.QuestionsLaws.{net_row}
use Rattle.boxes.specs.Boxes.{matched}
use Rattle.look.specs.Looking.{RowsHeld}
use Rattle.boxes.proofs.MatchLaws.{same_sound}

-- A table whose front is a list is that list laid over it.
front_overlay : (xs t : List ℕ) (k : ℕ) → k ≤ length t → take k t ≡ xs → t ≡ overlay xs t
unfolding overlay
front_overlay xs t k h e =
    let size : k ≡ length xs = sym (length-take-le k t h) ∙ ap (λ (l : List ℕ). length l) e in
    sym (take-append-drop k t) ∙ (λ j. e j ++ drop (size j) t)

module _ (at : ℕ → Record) (n : ℕ) (d : Passed at n) (T : Tables) (z : net_number T ≡ 0) (m : matched at n T ≡ true) where
  room : 8 * T.counts.components ≤ length T.components
  room = omega (arith, (net_within T z).components, (net_number-sizes T z).components)

  front : take (8 * T.counts.components) T.components ≡ joined (primitive_words at n) (primitives at n)
  unfolding matched
  front = same_sound _ _ (and_left _ _ m)

  count : T.counts.components ≡ length (primitives at n)
  count =
      omega (
        arith,
        length-take-le (8 * T.counts.components) T.components room,
        ap (λ (l : List ℕ). length l) front,
        joined_width (primitive_words at n) 8 (λ x. refl) (primitives at n),
      )

  laid : T.components ≡ (drawing_tables at n T).components
  unfolding drawing_tables
  laid = front_overlay (joined (primitive_words at n) (primitives at n)) T.components (8 * T.counts.components) room front

  pub rows_held : RowsHeld at n T.components T.inputs T.outputs
  rows_held =
      record {
        row = λ c p. net_row T z (flat at n c) (omega (arith, flat_below at n d c p, count));
        fields = λ c p. ap (λ (cs : List ℕ). fields_in cs (flat at n c)) laid ∙ loaded_fields at n d T c p;
      }
