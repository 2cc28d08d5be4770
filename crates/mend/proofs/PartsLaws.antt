-- The component records of a file as a file of their own: each is what the component says by its record kind, and check 3 refuses none; so check 12
-- asks of them what it asks of the components.
-- Assumes nothing.
use mathlib.Core.Path.{◌≡◌, sym, ap, subst, ◌∙◌}
use mathlib.Core.Bool.{Bool, true, cond, not, ◌||◌}
use mathlib.Core.List.{List}
use Prim.Native.Nat.{ℕ, ◌+◌, ◌*◌, ◌≤◌, ◌<◌}
use native.Mathlib.Decide.{dec_lt}
use native.Mathlib.Omega.{arith}
use borrow.Author.Tests.{eqb-true, ne_eqb, lt-ltb, le-ltb}
use lib.ListN.{length, get_or, set, length-set, get_or-eq_default}
use lib.Seq.{get_or-set_same, get_or-set_other}
use Rattle.lists.specs.Lists.{from}
use Rattle.lists.proofs.MembersLaws.{In, in-get_or, keep_sound, keep_length, from_length, from0_sound}
use Rattle.lists.proofs.KeepLaws.{joined_room, joined_list}
use Rattle.component.specs.declared.Record.{Record}
use Rattle.component.specs.Record.{le16, numbers_in, well_formed, no_record, part_at, record_count, record_at, loose_at, composite, entering}
use Rattle.component.specs.Reading.{form_of, owner_of, bared, said_by, Readable}
use Rattle.component.specs.Drawing.{is_component, missing}
use Rattle.component.proofs.LooseLaws.{part_length, loose_none, Alike, said_by-alike, said_by-enters, said_by-missing, missing_alike, composite_alike}
use Rattle.mend.specs.Mend.{components, component_numbered, refused12}
use Rattle.mend.specs.Sifting.{plain_part, parts_of}
use Rattle.mend.proofs.CopyLaws.{plain_length}

-- The numbers of a component's record with field D at 0.
module _ (s : List ℕ) (n : length s ≡ 24) where
  byte : (i : ℕ) → (10 ≤ i → 12 ≤ i) → get_or (plain_part s) i 0 ≡ get_or s i 0
  byte i h =
      get_or-set_other (set s 10 0) 11 i 0 0 (λ e. omega (arith, e, h (omega (arith, e))))
      ∙ get_or-set_other s 10 i 0 0 (λ e. omega (arith, e, h (omega (arith, e))))

  byte_10 : get_or (plain_part s) 10 0 ≡ 0
  byte_10 =
      get_or-set_other (set s 10 0) 11 10 0 0 (λ e. omega (arith, e)) ∙ get_or-set_same s 10 0 0 (omega (arith, n))

  byte_11 : get_or (plain_part s) 11 0 ≡ 0
  byte_11 = get_or-set_same (set s 10 0) 11 0 0 (omega (arith, n, length-set s 10 0))

  half : (i : ℕ) → (9 ≤ i → 12 ≤ i) → le16 (plain_part s) i ≡ le16 s i
  half i h =
      let x = byte i (λ l. h (omega (arith, l))) in
      let y = byte (i + 1) (λ l. omega (arith, h (omega (arith, l)))) in
      λ j. x j + 256 * y j

  plain_numbers : get_or s 0 0 ≡ 1 → numbers_in (plain_part s) ≡ bared (numbers_in s)
  plain_numbers e =
      let f : get_or (plain_part s) 0 0 ≡ 1 = byte 0 (λ z. omega (arith, z)) ∙ e in
      let k = byte 1 (λ z. omega (arith, z)) in
      let o = half 2 (λ z. omega (arith, z)) in
      let a = half 4 (λ z. omega (arith, z)) in
      let b = half 6 (λ z. omega (arith, z)) in
      let c = half 8 (λ z. omega (arith, z)) in
      let d : le16 (plain_part s) 10 ≡ 0 = omega (arith, byte_10, byte_11) in
      let i12 = half 12 (λ z. omega (arith, z)) in
      let i14 = half 14 (λ z. omega (arith, z)) in
      let i16 = half 16 (λ z. omega (arith, z)) in
      let i18 = half 18 (λ z. omega (arith, z)) in
      let i20 = half 20 (λ z. omega (arith, z)) in
      let i22 = half 22 (λ z. omega (arith, z)) in
      rw e
      (λ j. record {
        form = f j;
        kind = k j;
        owner = o j;
        a = a j;
        b = b j;
        c = c j;
        d = d j;
        id = i12 j + 65536 * i14 j;
        parameter = (i16 j + 65536 * i18 j) + 4294967296 * (i20 j + 65536 * i22 j);
      })

module _ (file : List ℕ) where
  abbrev n : ℕ
  n = record_count file

  abbrev lo : ℕ → Record
  lo = loose_at file

  abbrev m : ℕ
  m = length (components lo n)

  -- A component's record is in the file, and of kind 1.
  inside : (p : ℕ) → In p (components lo n) → (p < n) × (form_of (lo p) ≡ 1)
  inside p i =
      let z = keep_sound (is_component lo) p (from 0 n) i in
      (from0_sound n p z.1, eqb-true (form_of (lo p)) 1 z.0)

  widths : (p : ℕ) → In p (components lo n) → length (plain_part (part_at file p)) ≡ 24
  widths p i = plain_length file p (inside p i).0

  parts_length : length (parts_of file) ≡ 24 * m
  unfolding parts_of
  parts_length = joined_room (λ p. plain_part (part_at file p)) 24 (components lo n) widths

  pub parts_count : record_count (parts_of file) ≡ m
  parts_count = omega (arith, parts_length)

  pub parts_few : n ≤ 1024 → record_count (parts_of file) ≤ 1024
  parts_few h = omega (arith, h, parts_count, keep_length (is_component lo) (from 0 n), from_length 0 n)

  part_is : (c : ℕ) → c < m → part_at (parts_of file) c ≡ plain_part (part_at file (get_or (components lo n) c n))
  unfolding parts_of
  part_is c h = joined_list (λ p. plain_part (part_at file p)) 24 (components lo n) widths c n h

  -- The record at c is what component c says.
  pub parts_record : (c : ℕ) → record_at (parts_of file) c ≡ said_by (component_numbered lo n c)
  parts_record c = by_place (dec_lt c m)
    where
      by_place : Dec (c < m) → record_at (parts_of file) c ≡ said_by (component_numbered lo n c)
      by_place (yes h) =
          let p = get_or (components lo n) c n in
          let z = inside p (in-get_or (components lo n) c n h) in
          let there : lo p ≡ numbers_in (part_at file p) = rw (lt-ltb p n z.0) in
          let first : get_or (part_at file p) 0 0 ≡ 1 = sym (ap form_of there) ∙ z.1 in
          let numbers : numbers_in (part_at (parts_of file) c) ≡ bared (numbers_in (part_at file p)) =
          ap numbers_in (part_is c h) ∙ plain_numbers (part_at file p) (part_length file p z.0) first in
          let well : well_formed (bared (numbers_in (part_at file p))) ≡ true = rw first in
          let said : said_by (numbers_in (part_at file p)) ≡ bared (numbers_in (part_at file p)) = rw first in
          ap (λ (b : Bool). cond b (cond (well_formed (numbers_in (part_at (parts_of file) c))) (numbers_in (part_at (parts_of file) c)) no_record) no_record)
          (lt-ltb c (record_count (parts_of file)) (omega (arith, h, parts_count)))
          ∙ ap (λ (r : Record). cond (well_formed r) r no_record) numbers
          ∙ ap (λ (b : Bool). cond b (bared (numbers_in (part_at file p))) no_record) well
          ∙ sym said ∙ ap said_by (sym there)
      by_place (no h) =
          let past : record_count (parts_of file) ≤ c = omega (arith, h, parts_count) in
          let e : component_numbered lo n c ≡ no_record =
          ap lo (get_or-eq_default (components lo n) n {n = c} (omega (arith, h))) ∙ loose_none file n (omega arith) in
          rw (le-ltb c (record_count (parts_of file)) past) (sym (ap said_by e))

  pub parts_readable : Readable (parts_of file)
  parts_readable c h =
      let below : c < m = omega (arith, h, parts_count) in
      let z = inside (get_or (components lo n) c n) (in-get_or (components lo n) c n below) in
      let e : form_of (said_by (component_numbered lo n c)) ≡ 1 = rw z.1 in
      ne_eqb (form_of (record_at (parts_of file) c)) 0 (λ u. omega (arith, u, ap form_of (parts_record c), e))

  -- Check 12, asked of them.
  pub parts_refused : (p : ℕ) → entering (lo p) ≡ true
      → (not (composite (record_at (parts_of file) (owner_of (said_by (lo p)))))
      || missing (record_at (parts_of file)) (record_count (parts_of file)) (said_by (lo p)))
      ≡ refused12 lo n (lo p)
  unfolding refused12
  parts_refused p h =
      let at = record_at (parts_of file) in
      let same : (c : ℕ) → Alike (at c) (component_numbered lo n c) =
      λ c. subst (λ (r : Record). Alike r (component_numbered lo n c)) (sym (parts_record c)) (said_by-alike (component_numbered lo n c)) in
      let o : owner_of (said_by (lo p)) ≡ owner_of (lo p) = (said_by-enters (lo p) h).0 in
      let boxed : composite (at (owner_of (said_by (lo p)))) ≡ composite (component_numbered lo n (owner_of (lo p))) =
      ap (λ (c : ℕ). composite (at c)) o ∙ composite_alike at (component_numbered lo n) (record_count (parts_of file)) same (owner_of (lo p)) in
      let gone : missing at (record_count (parts_of file)) (said_by (lo p)) ≡ missing (component_numbered lo n) m (lo p) =
      said_by-missing (lo p) h at (record_count (parts_of file))
      ∙ missing_alike at (component_numbered lo n) (record_count (parts_of file)) same (lo p)
      ∙ ap (λ (k : ℕ). missing (component_numbered lo n) k (lo p)) parts_count in
      λ j. not (boxed j) || gone j
