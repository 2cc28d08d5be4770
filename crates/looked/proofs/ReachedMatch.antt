-- Tables that calls reach from a load match its file, so that a look at them is refused for its path or for an open input alone: `LookReached`.
-- A load lays the file's words at the front of both tables, and no call writes either.
-- Assumes nothing.
use mathlib.Core.Path.{◌≡◌, refl, sym, ap, ◌∙◌}
use Prim.Native.Nat.{ℕ, ◌*◌}
use mathlib.Core.Bool.{true}
use mathlib.Core.List.{List, [], ◌∷◌}
use borrow.Author.Tests.{eq-eqb, le-ltb}
use lib.ListN.{length, take}
use Rattle.lists.specs.Lists.{joined, overlay}
use Rattle.lists.proofs.OverlayLaws.{overlay_front, joined_width}
use Rattle.component.specs.declared.Record.{Record}
use Rattle.component.specs.Record.{record_at, record_count}
use Rattle.flatten.proofs.Accepted.{accepted_sized}
use Rattle.tables.specs.Tables.{Tables, wire_words}
use Rattle.tables.proofs.SameLaws.{SameWiring}
use Rattle.laying.specs.Laid.{primitives, primitive_words, flat_wires}
use Rattle.meeting.proofs.MeetingLaws.{accepted_judgement}
use Rattle.load.specs.Load.{drawing_tables, load_verdict, load_tables}
use Rattle.load.proofs.LoadLaws.{load_passed}
use Rattle.loaded.proofs.LoadNet.{load_loaded}
use Rattle.net.proofs.NetLaws.{net_number-full, net_number-is_net}
use Rattle.demands.proofs.Called.{reached_kept}
use Rattle.demands.proofs.Demand3.{load_fresh}
use Rattle.boxes.specs.Boxes.{same, matched}
use Rattle.look.specs.Look.{look_number, look_verdict}
use Rattle.looked.specs.Owed.{LookReached}
use Rattle.std.specs.Prelude.{Ok}

same_itself : (xs : List ℕ) → same xs xs ≡ true
same_itself [] = refl
same_itself (x ∷ xs) = rw (eq-eqb x x refl) (same_itself xs)

-- The front of a table that a list was laid over is the list.
front_same : (t xs u : List ℕ) (k : ℕ) → t ≡ overlay xs u → k ≡ length xs → same (take k t) xs ≡ true
front_same t xs u k e l =
    (λ j. same (take (l j) (e j)) xs) ∙ ap (λ (ys : List ℕ). same ys xs) (overlay_front xs u) ∙ same_itself xs

-- Tables with the components and wires that a load of the file left match the file.
module _ (file : List ℕ) (T₀ : Tables) (a : load_verdict file T₀ ≡ Ok tt) (T : Tables) (s : SameWiring (load_tables file T₀) T) where
  abbrev at : ℕ → Record
  at = record_at file

  abbrev n : ℕ
  n = record_count file

  pub kept_matched : matched at n T ≡ true
  unfolding matched drawing_tables
  kept_matched =
      let laid = load_loaded file T₀ a in
      let components = s.components ∙ ap (λ (U : Tables). U.components) laid in
      let wires = s.wires ∙ ap (λ (U : Tables). U.wires) laid in
      let component_words_lem : 8 * T.counts.components ≡ length (joined (primitive_words at n) (primitives at n)) =
      ap (λ (k : ℕ). 8 * k) (s.component_count ∙ ap (λ (U : Tables). U.counts.components) laid)
      ∙ sym (joined_width (primitive_words at n) 8 (λ x. refl) (primitives at n)) in
      let wire_words_lem : 4 * T.counts.wires ≡ length (joined wire_words (flat_wires at n)) =
      ap (λ (k : ℕ). 4 * k) (s.wire_count ∙ ap (λ (U : Tables). U.counts.wires) laid)
      ∙ sym (joined_width wire_words 4 (λ w. refl) (flat_wires at n)) in
      rw (
        front_same T.components (joined (primitive_words at n) (primitives at n)) T₀.components _ components component_words_lem,
        front_same T.wires (joined wire_words (flat_wires at n)) T₀.wires _ wires wire_words_lem,
      )

pub look_reached : LookReached
unfolding look_verdict look_number load_verdict
look_reached file ran t T r =
    let kept = reached_kept file (load_fresh file) r in
    let o = kept.0 in
    let z = kept.1.net in
    let judged = (load_passed file o.lent o.accepted).judged in
    let m = kept_matched file o.lent o.accepted T o.wiring in (
      m,
      λ path ns ws h k.
          rw (
            accepted_sized file judged,
            le-ltb (length ns) 256 h,
            le-ltb (length ws) 256 k,
            net_number-full T z,
            accepted_judgement file judged,
            net_number-is_net T z,
            m,
          ),
    )
