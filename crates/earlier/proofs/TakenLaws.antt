-- Laws of a reader of earlier days, whatever is newer than it. Each record is taken for what is there, but that of a newer component has another kind,
-- or another C. A file's size stays, and a file, or tables, without newer components are taken for what they are.
--   is_newer newer r          a record is that of a newer component
--   record_taken newer k c r  a record, as the reader takes it: k says what it makes of a newer component's kind, c of its C
--   Takes                    what has to be known of a reader for that
-- Assumes nothing.
use mathlib.Core.Path.{◌≡◌, refl, sym, ap, ◌∙◌}
use mathlib.Core.Bool.{Bool, true, false, cond, ◌&&◌}
use mathlib.Core.List.{List}
use Prim.Native.Nat.{ℕ, ◌+◌, ◌*◌, ◌/◌, ◌%◌, ◌<◌}
use native.Mathlib.Nat.{mod-lt}
use native.Mathlib.Omega.{arith}
use native.Mathlib.Decide.{dec_lt}
use borrow.Author.Tests.{lt-ltb, le-ltb, ltb-true, eqb-true}
use lib.ListN.{length, get_or, length-map}
use lib.Dec.{eqb, ltb}
use Rattle.lists.specs.Lists.{from}
use Rattle.lists.proofs.MembersLaws.{from_length}
use Rattle.lists.proofs.TestsLaws.{and_left}
use Rattle.lists.proofs.OverlayLaws.{map_at, map_indexes}
use Rattle.kinds.specs.declared.table.Fields.{Fields}
use Rattle.component.specs.declared.Record.{Record}
use Rattle.component.specs.Record.{numbers_in, well_formed, no_record, part_at, record_count, sized, record_at, loose_at, fields_of}
use Rattle.component.specs.Reading.{record_in}
use Rattle.component.proofs.RecordLaws.{part_at_lem}
use Rattle.component.proofs.LooseLaws.{loose_none}
use Rattle.tables.specs.Tables.{Tables, tables_of, fields_at}
use Rattle.earlier.specs.Reader.{unheard, byte_taken, file_taken, word_taken, tables_taken}

-- The nine numbers of a record, of which b says the byte at each place.
abbrev pub numbers_by : (ℕ → ℕ) → Record
numbers_by b =
    let w : ℕ → ℕ = λ i. b i + 256 * b (i + 1) in
    let v : ℕ → ℕ = λ i. w i + 65536 * w (i + 2) in
    record { form = b 0; kind = b 1; owner = w 2; a = w 4; b = w 6; c = w 8; d = w 10; id = v 12; parameter = v 16 + 4294967296 * v 20 }

-- Its 24 bytes are all that they come from.
numbers_by-cong : (b c : ℕ → ℕ) → ((i : ℕ) → i < 24 → b i ≡ c i) → numbers_by b ≡ numbers_by c
numbers_by-cong b c h j = numbers_by (λ i. h (i % 24) (mod-lt i (omega arith)) j)

-- A record is that of a newer component.
abbrev pub is_newer : (Fields → Bool) → Record → Bool
is_newer newer r = eqb r.form 1 && newer (fields_of r)

-- A record with another kind and another C where t says so.
abbrev pub taken_by : (ℕ → ℕ) → (ℕ → ℕ) → Bool → Record → Record
taken_by k c t r =
    record {
      form = r.form;
      kind = cond t (k r.kind) r.kind;
      owner = r.owner;
      a = r.a;
      b = r.b;
      c = cond t (c r.c) r.c;
      d = r.d;
      id = r.id;
      parameter = r.parameter;
    }

-- A record, as the reader takes it.
abbrev pub record_taken : (Fields → Bool) → (ℕ → ℕ) → (ℕ → ℕ) → Record → Record
record_taken newer k c r = taken_by k c (is_newer newer r) r

-- What the reader makes of a number that it leaves as it is.
abbrev pub itself : ℕ → ℕ
itself x = x

-- The records of a drawing so.
abbrev pub records_taken : (Fields → Bool) → (ℕ → ℕ) → (ℕ → ℕ) → (ℕ → Record) → ℕ → Record
records_taken newer k c at p = record_taken newer k c (at p)

-- Byte i of the 24 bytes s of a record, where t says whether it is newer.
abbrev pub place_by : (ℕ → Bool) → List ℕ → Bool → ℕ → ℕ
place_by places s t i = cond (places i && t) unheard (get_or s i 0)

-- The same byte, as the reader takes it.
abbrev pub place_taken : (ℕ → Bool) → (Fields → Bool) → List ℕ → ℕ → ℕ
place_taken places newer s i = cond (places i && eqb (numbers_in s).form 1 && newer (fields_of (numbers_in s))) unheard (get_or s i 0)

-- What the reader makes of the bytes at its places is k of the kind and c of C.
abbrev pub Takes : (ℕ → Bool) → (Fields → Bool) → (ℕ → ℕ) → (ℕ → ℕ) → Type 0
Takes places newer k c = (s : List ℕ) → numbers_by (place_taken places newer s) ≡ record_taken newer k c (numbers_in s)

-- It is well formed exactly if the record is: check 3 asks nothing of a component's kind and C.
well_formed-by : (k c : ℕ → ℕ) (r : Record) (t : Bool) → (t ≡ true → r.form ≡ 1) → well_formed (taken_by k c t r) ≡ well_formed r
well_formed-by k c r true h = rw (h refl)
well_formed-by k c r false h = refl

pub newer_form : (newer : Fields → Bool) (r : Record) → is_newer newer r ≡ true → r.form ≡ 1
newer_form newer r e = eqb-true r.form 1 (and_left (eqb r.form 1) (newer (fields_of r)) e)

module _ (places : ℕ → Bool) (newer : Fields → Bool) (file : List ℕ) where
  abbrev taken : List ℕ
  taken = file_taken places newer file

  pub taken_length : length taken ≡ length file
  taken_length = length-map (from 0 (length file)) (byte_taken places newer file) ∙ from_length 0 (length file)

  pub taken_count : record_count taken ≡ record_count file
  taken_count = rw taken_length

  pub taken_sized : sized taken ≡ sized file
  taken_sized = rw taken_length

  -- The record at any position.
  module _ (k c : ℕ → ℕ) (takes : Takes places newer k c) where
    module _ (p : ℕ) (inside : p < record_count file) where
      byte_at : (i : ℕ) → i < 24 → get_or (part_at taken p) i 0 ≡ place_taken places newer (part_at file p) i
      byte_at i h =
          let q : (24 * p + i) / 24 ≡ p = omega arith in
          let m : (24 * p + i) % 24 ≡ i = omega arith in
          part_at_lem taken p i h ∙ map_at (byte_taken places newer file) (length file) (24 * p + i) 0 (omega arith)
          ∙ rw (q, m, lt-ltb p (record_count file) inside, ← part_at_lem file p i h)

      numbers_at : numbers_in (part_at taken p) ≡ record_taken newer k c (numbers_in (part_at file p))
      numbers_at =
          numbers_by-cong (λ i. get_or (part_at taken p) i 0) (place_taken places newer (part_at file p)) byte_at ∙ takes (part_at file p)

      record_inside : record_at taken p ≡ record_taken newer k c (record_at file p)
      record_inside =
          let r = numbers_in (part_at file p) in
          let e : ltb p (record_count file) ≡ true = lt-ltb p (record_count file) inside in
          let f : ltb p (record_count taken) ≡ true = ap (ltb p) taken_count ∙ e in
          let there : record_at file p ≡ record_in r = rw e in
          let here : record_at taken p ≡ record_in (numbers_in (part_at taken p)) = rw f in
          let well = well_formed-by k c r (is_newer newer r) (newer_form newer r) in
          here ∙ ap record_in numbers_at ∙ ap (λ (b : Bool). cond b (record_taken newer k c r) no_record) well
          ∙ by_test (well_formed r) r ∙ ap (record_taken newer k c) (sym there)
        where
          by_test : (b : Bool) (r : Record) → cond b (record_taken newer k c r) no_record ≡ record_taken newer k c (cond b r no_record)
          by_test true r = refl
          by_test false r = refl

    pub record_at-taken : (p : ℕ) → record_at taken p ≡ record_taken newer k c (record_at file p)
    record_at-taken p = by_place (dec_lt p (record_count file))
      where
        by_place : Dec (p < record_count file) → record_at taken p ≡ record_taken newer k c (record_at file p)
        by_place (yes l) = record_inside p l
        by_place (no h) =
            let e : ltb p (record_count file) ≡ false = le-ltb p (record_count file) (omega arith) in
            let f : ltb p (record_count taken) ≡ false = ap (ltb p) taken_count ∙ e in
            rw (f, e)

    pub records_taken_lem : record_at taken ≡ records_taken newer k c (record_at file)
    records_taken_lem i p = record_at-taken p i

-- A test of three that the last two make false.
skipped : (a b c : Bool) (x y : ℕ) → (b && c) ≡ false → cond (a && b && c) x y ≡ y
skipped true b c x y e = rw e
skipped false b c x y e = refl

-- A file without newer components is taken for what it is,
pub file_same : (places : ℕ → Bool) (newer : Fields → Bool) (file : List ℕ)
    → ((p : ℕ) → p < record_count file → is_newer newer (loose_at file p) ≡ false) → file_taken places newer file ≡ file
file_same places newer file old = map_indexes (byte_taken places newer file) 0 file byte_same
  where
    none_newer : (p : ℕ) → Dec (p < record_count file) → is_newer newer (loose_at file p) ≡ false
    none_newer p (yes l) = old p l
    none_newer p (no h) = ap (is_newer newer) (loose_none file p (omega arith))

    byte_same : (i : ℕ) → i < length file → byte_taken places newer file i ≡ get_or file i 0
    byte_same i h =
        let r = loose_at file (i / 24) in
        skipped (places (i % 24)) (eqb r.form 1) (newer (fields_of r)) unheard (get_or file i 0)
        (none_newer (i / 24) (dec_lt (i / 24) (record_count file)))

-- and so are tables without them.
pub tables_same : (k : ℕ) (newer : Fields → Bool) (T : Tables)
    → ((i : ℕ) → i < T.counts.components → newer (fields_at T i) ≡ false) → tables_taken k newer T ≡ T
tables_same k newer T old =
    ap (λ (cs : List ℕ). tables_of cs T.inputs T.outputs T.wires T.current T.following T.standing T.counts)
    (map_indexes (word_taken k newer T) 0 T.components word_same)
  where
    none_newer : (i : ℕ) (b : Bool) → ltb i T.counts.components ≡ b → (b && newer (fields_at T i)) ≡ false
    none_newer i true e = old i (ltb-true i T.counts.components e)
    none_newer i false e = refl

    word_same : (j : ℕ) → j < length T.components → word_taken k newer T j ≡ get_or T.components j 0
    word_same j h =
        let u : Bool = ltb (j / 8) T.counts.components in
        skipped (eqb (j % 8) k) u (newer (fields_at T (j / 8))) unheard (get_or T.components j 0) (none_newer (j / 8) u refl)
