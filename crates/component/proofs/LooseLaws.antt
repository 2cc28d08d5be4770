-- Laws of a record that is seen by its record kind alone: what it says is what its numbers say, wherever the kind has a field.
-- Assumes nothing.
use mathlib.Core.Path.{◌≡◌, refl, sym, ap, ◌∙◌}
use mathlib.Core.Bool.{Bool, true, false, cond, not, ◌&&◌, true≢false}
use mathlib.Core.List.{List}
use Prim.Native.Nat.{ℕ, ◌-◌, ◌*◌, ◌≤◌, ◌<◌}
use native.Mathlib.Omega.{arith}
use borrow.Author.Tests.{eqb-true, le-ltb}
use lib.Dec.{eqb, ltb}
use lib.ListN.{length, get_or, drop, length-drop}
use lib.Seq.{length-take-le}
use Rattle.lists.specs.Lists.{within, from}
use Rattle.lists.proofs.MembersLaws.{keep_cong}
use Rattle.kinds.specs.declared.table.Fields.{Fields}
use Rattle.component.specs.declared.Record.{Record}
use Rattle.component.specs.Record.{numbers_in, well_formed, no_record, part_at, record_count, record_at, loose_at}
use Rattle.component.specs.Record.{fields_of, composite, owned_as, entering, entering_as, from_of, output_of, to_of, input_of, port_of}
use Rattle.component.specs.Reading.{form_of, owner_of, said_by}
use Rattle.component.specs.Drawing.{child, from_there, to_there, missing}

-- It is a component, a connection, an input map, or none of the three.
data Seen (r : Record) : Type 0 where
  component : r.form ≡ 1 → Seen r
  connection : r.form ≡ 2 → Seen r
  input_map : r.form ≡ 3 → Seen r
  other : eqb r.form 1 ≡ false → eqb r.form 2 ≡ false → eqb r.form 3 ≡ false → Seen r

see : (r : Record) → Seen r
see r = by_kind (eqb r.form 1) (eqb r.form 2) (eqb r.form 3) refl refl refl
  where
    by_kind : (a b c : Bool) → eqb r.form 1 ≡ a → eqb r.form 2 ≡ b → eqb r.form 3 ≡ c → Seen r
    by_kind true b c x y z = component (eqb-true r.form 1 x)
    by_kind false true c x y z = connection (eqb-true r.form 2 y)
    by_kind false false true x y z = input_map (eqb-true r.form 3 z)
    by_kind false false false x y z = other x y z

module _ (r : Record) where
  -- Of none of the three nothing is said but that.
  other_said : eqb r.form 1 ≡ false → eqb r.form 2 ≡ false → eqb r.form 3 ≡ false
      → (eqb (form_of (said_by r)) 1 ≡ false) × (entering (said_by r) ≡ false)
  other_said x y z = by_kind (within 1 4 r.form) refl
    where
      by_kind : (b : Bool) → within 1 4 r.form ≡ b → (eqb (form_of (said_by r)) 1 ≡ false) × (entering (said_by r) ≡ false)
      by_kind true w = (rw (w, x, y, z), rw (w, x, y, z))
      by_kind false w = (rw w, rw w)

  pub said_by-fields : fields_of (said_by r) ≡ fields_of r
  said_by-fields = by_kind (see r)
    where
      by_kind : Seen r → fields_of (said_by r) ≡ fields_of r
      by_kind (component e) = rw e
      by_kind (connection e) = rw e
      by_kind (input_map e) = rw e
      by_kind (other x y z) = rw ((other_said x y z).0, x)

  pub said_by-owned : (o : ℕ) → owned_as 1 o (said_by r) ≡ owned_as 1 o r
  said_by-owned o = by_kind (see r)
    where
      by_kind : Seen r → owned_as 1 o (said_by r) ≡ owned_as 1 o r
      by_kind (component e) = rw e
      by_kind (connection e) = rw e
      by_kind (input_map e) = rw e
      by_kind (other x y z) = rw ((other_said x y z).0, x)

  pub said_by-entering : entering (said_by r) ≡ entering r
  said_by-entering = by_kind (see r)
    where
      by_kind : Seen r → entering (said_by r) ≡ entering r
      by_kind (component e) = rw e
      by_kind (connection e) = rw e
      by_kind (input_map e) = rw e
      by_kind (other x y z) = rw ((other_said x y z).1, y, z)

  -- A record that enters says what it enters, and what check 12 asks of it.
  module _ (h : entering r ≡ true) where
    pub said_by-enters : (owner_of (said_by r) ≡ owner_of r) × (to_of (said_by r) ≡ to_of r) × (input_of (said_by r) ≡ input_of r)
    said_by-enters = by_kind (see r)
      where
        by_kind : Seen r → (owner_of (said_by r) ≡ owner_of r) × (to_of (said_by r) ≡ to_of r) × (input_of (said_by r) ≡ input_of r)
        by_kind (component e) = absurd (true≢false (sym h ∙ rw e))
        by_kind (connection e) = (rw e, rw e, rw e)
        by_kind (input_map e) = (rw e, rw e, rw e)
        by_kind (other x y z) = absurd (true≢false (sym h ∙ rw (y, z)))

    pub said_by-missing : (at : ℕ → Record) (n : ℕ) → missing at n (said_by r) ≡ missing at n r
    said_by-missing at n = by_kind (see r)
      where
        by_kind : Seen r → missing at n (said_by r) ≡ missing at n r
        by_kind (component e) = absurd (true≢false (sym h ∙ rw e))
        by_kind (connection e) = rw e
        by_kind (input_map e) = rw e
        by_kind (other x y z) = absurd (true≢false (sym h ∙ rw (y, z)))

-- It enters the input that a record enters which it says.
pub said_by-entering_as : (s r : Record) → entering_as s (said_by r) ≡ entering_as s r
said_by-entering_as s r = by_test (entering r) refl
  where
    by_test : (b : Bool) → entering r ≡ b → entering_as s (said_by r) ≡ entering_as s r
    by_test true h =
        let e = said_by-enters r h in
        rw (said_by-entering r, e.0, e.1, e.2)
    by_test false h = rw (said_by-entering r, h)

-- Records that are alike: as components, and in their fields.
pub record Alike (r s : Record) : Type 0 where
  pub owned : (o : ℕ) → owned_as 1 o r ≡ owned_as 1 o s
  pub fields : fields_of r ≡ fields_of s

pub said_by-alike : (r : Record) → Alike (said_by r) r
said_by-alike r = record { owned = said_by-owned r; fields = said_by-fields r }

-- Check 12 asks the same of records that are alike.
module _ (at of : ℕ → Record) (n : ℕ) (h : (c : ℕ) → Alike (at c) (of c)) where
  child_alike : (o k : ℕ) → child at n o k ≡ child of n o k
  child_alike o k =
      ap (λ (l : List ℕ). get_or l k n)
      (keep_cong (λ q. owned_as 1 o (at q)) (λ q. owned_as 1 o (of q)) (from 1 (n - 1)) (λ q i. (h q).owned o))

  fields_alike : (o k : ℕ) → fields_of (at (child at n o k)) ≡ fields_of (of (child of n o k))
  fields_alike o k = (h (child at n o k)).fields ∙ ap (λ (c : ℕ). fields_of (of c)) (child_alike o k)

  pub missing_alike : (r : Record) → missing at n r ≡ missing of n r
  missing_alike r =
      let starts : from_there at n r ≡ from_there of n r =
      ap (λ (f : Fields). ltb (output_of r) f.outputs) (fields_alike r.owner (from_of r)) in
      let ends : to_there at n r ≡ to_there of n r = ap (λ (f : Fields). ltb (input_of r) f.inputs) (fields_alike r.owner (to_of r)) in
      let port = ap (λ (f : Fields). ltb (port_of r) f.inputs) (h r.owner).fields in
      λ j. cond (eqb r.form 2) (not (starts j && ends j))
      (cond (eqb r.form 3) (not (port j && ends j)) (eqb r.form 4 && not (starts j)))

  pub composite_alike : (o : ℕ) → composite (at o) ≡ composite (of o)
  composite_alike o = rw (h o).fields

-- A position of a whole record: its part has 24 bytes.
pub part_length : (file : List ℕ) (p : ℕ) → p < record_count file → length (part_at file p) ≡ 24
part_length file p h = length-take-le 24 (drop (24 * p) file) (omega (arith, length-drop (24 * p) file, h))

-- Behind the last record there is none.
pub loose_none : (file : List ℕ) (p : ℕ) → record_count file ≤ p → loose_at file p ≡ no_record
loose_none file p h = rw (le-ltb p (record_count file) h)

-- A record that check 3 passes stands there by its byte 0 too.
pub loose_strict : (file : List ℕ) (p : ℕ) → eqb (record_at file p).form 0 ≡ false → loose_at file p ≡ record_at file p
loose_strict file p e = by_tests (ltb p (record_count file)) (well_formed (numbers_in (part_at file p))) e
  where
    by_tests : (b c : Bool) → eqb (cond b (cond c (numbers_in (part_at file p)) no_record) no_record).form 0 ≡ false
        → cond b (numbers_in (part_at file p)) no_record ≡ cond b (cond c (numbers_in (part_at file p)) no_record) no_record
    by_tests true true u = refl
    by_tests true false u = absurd (let z : ◌≡◌ {A = ℕ} 0 1 = cc in omega arith)
    by_tests false c u = refl
