-- Laws of check 15, one for each way out of a function of src/widths.rt.
-- Assumes nothing.
use mathlib.Core.Path.{◌≡◌, sym, ap, ◌∙◌}
use mathlib.Core.Bool.{Bool, false, not}
use mathlib.Core.List.{List, [], ◌∷◌}
use Prim.Native.Nat.{ℕ, ◌/◌}
use Rattle.std.specs.List.{list_any, range_with_len}
use borrow.Author.Tests.{eq-eqb, ne_eqb}
use lib.Dec.{eqb}
use lib.ListN.{length}
use types.Run.{OneOf}
use denote.Enum.Declared.{tag_of}
use Rattle.lists.specs.Lists.{from, any}
use Rattle.lists.proofs.MembersLaws.{any_map}
use Rattle.lists.proofs.RangeLaws.{any_range}
use Rattle.kinds.specs.declared.table.Fields.{Fields}
use Rattle.kinds.specs.Kinds.{input_width, output_width}
use Rattle.component.specs.declared.ChildNo.{ChildNo}
use Rattle.component.specs.declared.Record.{Record}
use Rattle.component.specs.declared.Says.{Says}
use Rattle.component.specs.declared.Says.TheVariants.{Connection}
use Rattle.component.specs.declared.Reading.{Reading}
use Rattle.component.specs.declared.Reading.TheVariants.{Taken, Refused}
use Rattle.component.specs.Record.{record_at, fields_of}
use Rattle.component.specs.Reading.{form_of, apart, said}
use Rattle.component.specs.Drawing.{deepest, child}
use Rattle.component.specs.contracts.Says.{the_type}
use Rattle.component.proofs.RecordLaws.{no_connection, refused_is, taken_form}
use Rattle.flatten.specs.declared.Pin.{Pin}
use Rattle.flatten.specs.declared.Lead.{Lead}
use Rattle.flatten.specs.Descent.{output_below, comes_from, goes_to, wires_at, fails15}
use Rattle.flatten.specs.Searches.{unlike}
use Rattle.flatten.specs.Targets.{target_in, targets_in}
use Rattle.flatten.proofs.DescentLaws.{source_is, form_is}

-- The search for a target of another width.
pub differs_any : (s t : List ℕ) (w m : ℕ) (b : Bool) → b ≡ list_any (λ k. unlike (record_at s) w (target_in t k)) (range_with_len 0 m)
    → b ≡ any (unlike (record_at s) w) (targets_in t m)
differs_any s t w m b e =
    e ∙ any_range (λ k. unlike (record_at s) w (target_in t k)) 0 m ∙ sym (any_map (unlike (record_at s) w) (target_in t) (from 0 m))

-- The ends of a wire differ in width.
abbrev pub differing : (ℕ → Record) → Lead → Bool
differing at w = not (eqb (output_width (fields_of (at w.src.comp))) (input_width (fields_of (at w.dst.comp))))

module _ (s : List ℕ) where
  abbrev n : ℕ
  n = length s / 24

  -- no record; no connection
  pub fails15_refused : (p : ℕ) (r : Reading) {z : ℕ} → said r ≡ record_at s p → r ≡ Refused z → false ≡ fails15 (record_at s) n p
  fails15_refused p r e k = rw (refused_is (record_at s p) r e k)

  pub fails15_other : (p o : ℕ) (r : Reading) (x : Says) → said r ≡ record_at s p → r ≡ Taken o x → OneOf (0 ∷ 2 ∷ 3 ∷ []) (tag_of the_type x)
      → false ≡ fails15 (record_at s) n p
  fails15_other p o r x e h k =
      rw (ne_eqb (form_of (record_at s p)) 2 (λ z. no_connection x k (sym (taken_form (record_at s p) r e o x h) ∙ z)))

  -- a connection, one of whose targets ts has another width than its source, or none has
  pub fails15_connection : (p o a b : ℕ) (f t : ChildNo) → record_at s p ≡ apart o (Connection f a t b) → (j q : ℕ) (out : Pin) (v : Fields) (w : ℕ)
      (ts : List Pin) (y : Bool) → ts ≡ goes_to (record_at s) n p
      → j ≡ deepest → q ≡ child (record_at s) n o f.0 → out ≡ output_below (record_at s) n j q a
      → v ≡ fields_of (record_at s out.comp) → w ≡ output_width v → y ≡ any (unlike (record_at s) w) ts
      → y ≡ fails15 (record_at s) n p
  fails15_connection p o a b f t e j q out v w ts y read ej eq eo ev ew ey =
      let source = comes_from (record_at s) n p in
      let comes : out ≡ source = source_is s n p o a b f t e j q out ej eq eo in
      let width : w ≡ output_width (fields_of (record_at s source.comp)) =
      ew ∙ ap output_width (ev ∙ ap (λ (u : Pin). fields_of (record_at s u.comp)) comes) in
      let there : fails15 (record_at s) n p ≡ any (differing (record_at s)) (wires_at (record_at s) n p) =
      rw (eq-eqb (form_of (record_at s p)) 2 (form_is s n p o a b f t e)) in
      ey ∙ ap (λ (u : ℕ). any (unlike (record_at s) u) ts) width
      ∙ ap (any (unlike (record_at s) (output_width (fields_of (record_at s source.comp))))) read
      ∙ sym (any_map (differing (record_at s)) (λ (u : Pin). record { src = source; dst = u }) (goes_to (record_at s) n p))
      ∙ sym there
