-- Laws of a record taken apart: what the else of a `let .. else` knows, by the variant that its pattern names, and what a pattern that fits knows.
-- Assumes nothing.
use mathlib.Core.Path.{◌≡◌, refl, sym, ap, ◌∙◌}
use mathlib.Core.Bool.{and-false, Bool, true, false, cond, not, ◌&&◌, ◌||◌}
use mathlib.Core.Logic.{◌⊎◌, inl, inr, ⊎_elim}
use mathlib.Core.List.{List, [], ◌∷◌}
use Prim.Native.Nat.{ℕ, ◌+◌, ◌-◌, ◌*◌, ◌/◌, ◌≤◌, ◌<◌}
use native.Mathlib.Omega.{arith}
use borrow.Author.Tests.{eqb-true, eqb-false, ne_eqb, lt-ltb, le-ltb, ltb-true, ltb-false, le-leb, lt-leb, not-true, not-false}
use lib.Dec.{eqb, leb, ltb}
use lib.ListN.{length, get_or, take, drop}
use lib.Seq.{get_or-take, get_or-drop}
use types.Run.{OneOf}
use denote.Enum.Declared.{tag_of}
use Rattle.lists.specs.Lists.{within}
use Rattle.lists.proofs.TestsLaws.{and_left, and_right, or_first, or_left, or_right, or_cases}
use Rattle.kinds.specs.declared.table.Fields.{Fields}
use Rattle.component.specs.Record.{le16, le32, le64, numbers_in, bare, well_formed, no_record, record_at, loose_at, fields_of}
use Rattle.component.specs.Reading.{no_fields}
use Rattle.component.specs.Reading.{record_in, bared, said_by}
use Rattle.component.specs.Reading.{owner_of, form_of, apart, form_by, said, number, StandsAs}
use Rattle.component.specs.Reading.{given, Readable}
use Rattle.component.specs.Record.{is_primitive}
use Rattle.component.specs.declared.Record.{Record}
use Rattle.kinds.specs.declared.Id.{Id}
use Rattle.component.specs.declared.ChildNo.{ChildNo}
use Rattle.component.specs.declared.Says.{Says}
use Rattle.component.specs.declared.Says.TheVariants.{Component, Connection, InputMap, OutputMap}
use Rattle.component.specs.declared.Reading.{Reading}
use Rattle.component.specs.declared.Reading.TheVariants.{Taken, Refused}
use Rattle.component.specs.declared.Component.{Component as Seen}
use Rattle.std.specs.Prelude.{Option, Some, None}
use Rattle.component.specs.contracts.Says.{the_type}

-- The record kind and the owner of a record taken apart.
pub form_apart : (o : ℕ) (x : Says) → form_of (apart o x) ≡ form_by x
form_apart o (Component i f) = refl
form_apart o (Connection a b c d) = refl
form_apart o (InputMap a c d) = refl
form_apart o (OutputMap a b) = refl

pub owner_apart : (o : ℕ) (x : Says) → owner_of (apart o x) ≡ o
owner_apart o (Component i f) = refl
owner_apart o (Connection a b c d) = refl
owner_apart o (InputMap a c d) = refl
owner_apart o (OutputMap a b) = refl

-- The record kind is the variant's tag plus 1.
pub form_by-tag : (x : Says) → form_by x ≡ tag_of the_type x + 1
form_by-tag (Component i f) = refl
form_by-tag (Connection a b c d) = refl
form_by-tag (InputMap a c d) = refl
form_by-tag (OutputMap a b) = refl

-- A tag that is one of three belongs to none but the kinds of those three.
not_among : (x : Says) (a b c k : ℕ) → OneOf (a ∷ b ∷ c ∷ []) (tag_of the_type x)
    → (k ≡ a + 1 → ⊥) → (k ≡ b + 1 → ⊥) → (k ≡ c + 1 → ⊥) → form_by x ≡ k → ⊥
not_among x a b c k h ha hb hc e = ⊎_elim (λ z. ha (kind z)) (⊎_elim (λ z. hb (kind z)) (λ z. hc (kind z))) h
  where
    kind : {t : ℕ} → tag_of the_type x ≡ t → k ≡ t + 1
    kind z = sym e ∙ form_by-tag x ∙ ap (λ (t : ℕ). t + 1) z

module _ (x : Says) where
  pub no_component : OneOf (1 ∷ 2 ∷ 3 ∷ []) (tag_of the_type x) → form_by x ≡ 1 → ⊥
  no_component h = not_among x 1 2 3 1 h (λ z. omega arith) (λ z. omega arith) (λ z. omega arith)

  pub no_connection : OneOf (0 ∷ 2 ∷ 3 ∷ []) (tag_of the_type x) → form_by x ≡ 2 → ⊥
  no_connection h = not_among x 0 2 3 2 h (λ z. omega arith) (λ z. omega arith) (λ z. omega arith)

  pub no_input_map : OneOf (0 ∷ 1 ∷ 3 ∷ []) (tag_of the_type x) → form_by x ≡ 3 → ⊥
  no_input_map h = not_among x 0 1 3 3 h (λ z. omega arith) (λ z. omega arith) (λ z. omega arith)

  pub no_output_map : OneOf (0 ∷ 1 ∷ 2 ∷ []) (tag_of the_type x) → form_by x ≡ 4 → ⊥
  no_output_map h = not_among x 0 1 2 4 h (λ z. omega arith) (λ z. omega arith) (λ z. omega arith)

-- What is no record of one form is of one of the other three.
pub but_component : (x : Says) → ((i : Id) (f : Fields) → x ≡ Component i f → ⊥) → OneOf (1 ∷ 2 ∷ 3 ∷ []) (tag_of the_type x)
but_component (Component i f) h = absurd (h i f refl)
but_component (Connection a b c d) h = inl refl
but_component (InputMap a c d) h = inr (inl refl)
but_component (OutputMap a b) h = inr (inr refl)

pub but_connection : (x : Says) → ((a : ChildNo) (b : ℕ) (c : ChildNo) (d : ℕ) → x ≡ Connection a b c d → ⊥) → OneOf (0 ∷ 2 ∷ 3 ∷ []) (tag_of the_type x)
but_connection (Component i f) h = inl refl
but_connection (Connection a b c d) h = absurd (h a b c d refl)
but_connection (InputMap a c d) h = inr (inl refl)
but_connection (OutputMap a b) h = inr (inr refl)

pub but_input_map : (x : Says) → ((a : ℕ) (c : ChildNo) (d : ℕ) → x ≡ InputMap a c d → ⊥) → OneOf (0 ∷ 1 ∷ 3 ∷ []) (tag_of the_type x)
but_input_map (Component i f) h = inl refl
but_input_map (Connection a b c d) h = inr (inl refl)
but_input_map (InputMap a c d) h = absurd (h a c d refl)
but_input_map (OutputMap a b) h = inr (inr refl)

pub but_output_map : (x : Says) → ((a : ChildNo) (b : ℕ) → x ≡ OutputMap a b → ⊥) → OneOf (0 ∷ 1 ∷ 2 ∷ []) (tag_of the_type x)
but_output_map (Component i f) h = inl refl
but_output_map (Connection a b c d) h = inr (inl refl)
but_output_map (InputMap a c d) h = inr (inr refl)
but_output_map (OutputMap a b) h = absurd (h a b refl)

-- What reading answers: a refusal; a record taken apart.
module _ (t : Record) (r : Reading) (e : said r ≡ t) where
  pub refused_is : {k : ℕ} → r ≡ Refused k → t ≡ no_record
  refused_is h = sym e ∙ ap said h

  module _ (o : ℕ) (x : Says) (h : r ≡ Taken o x) where
    pub taken_is : t ≡ apart o x
    taken_is = sym e ∙ ap said h

    pub taken_form : form_of t ≡ form_by x
    taken_form = ap form_of taken_is ∙ form_apart o x

    pub taken_owner : owner_of t ≡ o
    taken_owner = ap owner_of taken_is ∙ owner_apart o x

-- A record that is no component has no kind and no ports.
pub fields_cases : (r : Record) → (form_of r ≡ 1) ⊎ (fields_of r ≡ no_fields)
fields_cases r = by_test (eqb (form_of r) 1) refl
  where
    by_test : (b : Bool) → eqb (form_of r) 1 ≡ b → (form_of r ≡ 1) ⊎ (fields_of r ≡ no_fields)
    by_test true e = inl (eqb-true (form_of r) 1 e)
    by_test false e = inr (rw e)

-- A component that is seen, and none.
module _ (t : Record) (g : Option Seen) (e : StandsAs g t) where
  pub unseen : g ≡ None → form_of t ≡ 1 → ⊥
  unseen h = rw h at e

  pub unseen_test : g ≡ None → eqb (form_of t) 1 ≡ false
  unseen_test h = ne_eqb (form_of t) 1 (unseen h)

  pub unseen_fields : g ≡ None → fields_of t ≡ no_fields
  unseen_fields h = rw (unseen_test h)

  module _ (x : Seen) (h : g ≡ Some x) where
    pub seen_is : t ≡ apart x.owner (Component x.id x.fields)
    seen_is = rw h at e

    pub seen_fields : fields_of t ≡ x.fields
    seen_fields = ap fields_of seen_is

  pub unseen_primitive : g ≡ None → false ≡ is_primitive t
  unseen_primitive h = rw (unseen_test h)

-- Seeing one: the record is refused; it is none; it is one.
module _ (t : Record) (r : Reading) (e : said r ≡ t) where
  pub sees_refused : {k : ℕ} → r ≡ Refused k → StandsAs None t
  sees_refused h z = omega (arith, ap form_of (refused_is t r e h))

  pub sees_line : (o : ℕ) (x : Says) → r ≡ Taken o x → OneOf (1 ∷ 2 ∷ 3 ∷ []) (tag_of the_type x) → StandsAs None t
  sees_line o x h k z = no_component x k (sym (taken_form t r e o x h) ∙ z)

  pub sees_component : (o : ℕ) (x : Says) (i : Id) (f : Fields) → r ≡ Taken o x → x ≡ Component i f → StandsAs (Some (record { owner = o; id = i; fields = f })) t
  sees_component o x i f h k = taken_is t r e o x h ∙ ap (apart o) k

-- Taking a record apart, by its record kind.
module _ (r : Record) where
  pub take_component : r.form ≡ 1
      → apart r.owner (Component (record { 0 = r.id })
      (record { kind = r.kind; inputs = r.a; outputs = r.b; width = r.c; parameter = r.parameter })) ≡ bared r
  take_component e = rw e

  pub take_connection : r.form ≡ 2 → apart r.owner (Connection (record { 0 = r.a }) r.b (record { 0 = r.c }) r.d) ≡ bared r
  take_connection e = rw e

  pub take_input_map : r.form ≡ 3 → apart r.owner (InputMap r.a (record { 0 = r.c }) r.d) ≡ bared r
  take_input_map e = rw e

  pub take_output_map : (r.form ≡ 1 → ⊥) → (r.form ≡ 2 → ⊥) → (r.form ≡ 3 → ⊥)
      → apart r.owner (OutputMap (record { 0 = r.a }) r.b) ≡ bared r
  take_output_map x y z = rw (ne_eqb r.form 1 x, ne_eqb r.form 2 y, ne_eqb r.form 3 z)

-- A record that check 3 passes is what it says by its record kind.
module _ (r : Record) (w : well_formed r ≡ true) where
  well_component : r.form ≡ 1
      → apart r.owner (Component (record { 0 = r.id })
      (record { kind = r.kind; inputs = r.a; outputs = r.b; width = r.c; parameter = r.parameter })) ≡ r
  well_component e =
      let v : ((eqb r.d 0 || false) || false || false) ≡ true = rw e at w in
      let z = sym (eqb-true r.d 0 (or_first _ false refl (or_first _ false refl (or_first _ false refl v)))) in
      let y = sym e in
      λ j. record {
        form = y j;
        kind = r.kind;
        owner = r.owner;
        a = r.a;
        b = r.b;
        c = r.c;
        d = z j;
        id = r.id;
        parameter = r.parameter;
      }

  -- Byte 1, id and parameter are 0.
  line_is : (f b c d : ℕ) → r.form ≡ f → bare r ≡ true → r.b ≡ b → r.c ≡ c → r.d ≡ d
      → ◌≡◌ {A = Record} (record { form = f; kind = 0; owner = r.owner; a = r.a; b = b; c = c; d = d; id = 0; parameter = 0 }) r
  line_is f b c d ef h eb ec ed =
      let two = and_left (eqb r.kind 0 && eqb r.id 0) (eqb r.parameter 0) h in
      let ek = sym (eqb-true r.kind 0 (and_left (eqb r.kind 0) (eqb r.id 0) two)) in
      let ei = sym (eqb-true r.id 0 (and_right (eqb r.kind 0) (eqb r.id 0) two)) in
      let ep = sym (eqb-true r.parameter 0 (and_right (eqb r.kind 0 && eqb r.id 0) (eqb r.parameter 0) h)) in
      let ef' = sym ef in
      let eb' = sym eb in
      let ec' = sym ec in
      let ed' = sym ed in
      λ j. record {
        form = ef' j;
        kind = ek j;
        owner = r.owner;
        a = r.a;
        b = eb' j;
        c = ec' j;
        d = ed' j;
        id = ei j;
        parameter = ep j;
      }

  well_connection : r.form ≡ 2
      → apart r.owner (Connection (record { 0 = r.a }) r.b (record { 0 = r.c }) r.d) ≡ r
  well_connection e =
      let v : (bare r || false || false) ≡ true = rw e at w in
      line_is 2 r.b r.c r.d e (or_first _ false refl (or_first _ false refl v)) refl refl refl

  well_input_map : r.form ≡ 3 → apart r.owner (InputMap r.a (record { 0 = r.c }) r.d) ≡ r
  well_input_map e =
      let v : ((bare r && eqb r.b 0) || false) ≡ true = rw e at w in
      let u = or_first _ false refl v in
      line_is 3 0 r.c r.d e (and_left (bare r) (eqb r.b 0) u) (eqb-true r.b 0 (and_right (bare r) (eqb r.b 0) u)) refl refl

  well_output_map : (r.form ≡ 1 → ⊥) → (r.form ≡ 2 → ⊥) → (r.form ≡ 3 → ⊥)
      → apart r.owner (OutputMap (record { 0 = r.a }) r.b) ≡ r
  well_output_map x y z =
      let v : (eqb r.form 4 && bare r && eqb r.c 0 && eqb r.d 0) ≡ true =
      rw (ne_eqb r.form 1 x, ne_eqb r.form 2 y, ne_eqb r.form 3 z) at w in
      let u = and_left (eqb r.form 4 && bare r && eqb r.c 0) (eqb r.d 0) v in
      let t = and_left (eqb r.form 4 && bare r) (eqb r.c 0) u in
      line_is 4 r.b 0 0 (eqb-true r.form 4 (and_left (eqb r.form 4) (bare r) t)) (and_right (eqb r.form 4) (bare r) t) refl
      (eqb-true r.c 0 (and_right (eqb r.form 4 && bare r) (eqb r.c 0) u))
      (eqb-true r.d 0 (and_right (eqb r.form 4 && bare r && eqb r.c 0) (eqb r.d 0) v))

  pub bared_well : bared r ≡ r
  bared_well = by_kind (eqb r.form 1) (eqb r.form 2) (eqb r.form 3) refl refl refl
    where
      by_kind : (a b c : Bool) → eqb r.form 1 ≡ a → eqb r.form 2 ≡ b → eqb r.form 3 ≡ c → bared r ≡ r
      by_kind true b c x y z = rw x (well_component (eqb-true r.form 1 x))
      by_kind false true c x y z = rw (x, y) (well_connection (eqb-true r.form 2 y))
      by_kind false false true x y z = rw (x, y, z) (well_input_map (eqb-true r.form 3 z))
      by_kind false false false x y z =
          rw (x, y, z) (well_output_map (eqb-false r.form 1 x) (eqb-false r.form 2 y) (eqb-false r.form 3 z))

-- Reading: refused; taken apart.
module _ (r : Record) (b : Bool) (e : b ≡ well_formed r) where
  pub read_refused : not b ≡ true → (said (Refused 3) ≡ record_in r) × (number (Refused 3) ≡ given 3 (eqb (form_of (record_in r)) 0))
  read_refused h = (rw (← e, not-true b h), rw (← e, not-true b h))

  read_well : not b ≡ false → well_formed r ≡ true
  read_well h = sym e ∙ not-false b h

  pub read_taken : (x : Says) → not b ≡ false → apart r.owner x ≡ bared r
      → (said (Taken r.owner x) ≡ record_in r) × (number (Taken r.owner x) ≡ given 3 (eqb (form_of (record_in r)) 0))
  read_taken x h t =
      let w = read_well h in
      let k = t ∙ bared_well r w in
      let z : record_in r ≡ r = rw w in
      (k ∙ sym z, sym (ap (λ (t : Record). given 3 (eqb (form_of t) 0)) (z ∙ sym k) ∙ by_kind x))
    where
      by_kind : (x : Says) → given 3 (eqb (form_of (apart r.owner x)) 0) ≡ 0
      by_kind (Component i f) = refl
      by_kind (Connection a b c d) = refl
      by_kind (InputMap a c d) = refl
      by_kind (OutputMap a b) = refl

-- A record kind is one of 1 to 4, or none.
kind_none : (k : ℕ) → (eqb k 0 || ltb 4 k) ≡ true → within 1 4 k ≡ false
kind_none k e = by_case (or_cases (eqb k 0) (ltb 4 k) e)
  where
    by_case : (eqb k 0 ≡ true) ⊎ (ltb 4 k ≡ true) → within 1 4 k ≡ false
    by_case (inl x) = rw (eqb-true k 0 x)
    by_case (inr x) = rw (lt-leb k 4 (ltb-true 4 k x), and-false (leb 1 k))

kind_some : (k : ℕ) → (eqb k 0 || ltb 4 k) ≡ false → within 1 4 k ≡ true
kind_some k e =
    let x = eqb-false k 0 (or_left (eqb k 0) (ltb 4 k) e) in
    let y = ltb-false 4 k (or_right (eqb k 0) (ltb 4 k) e) in
    rw (le-leb 1 k (omega (arith, x)), le-leb k 4 (omega (arith, y)))

-- A position in the file, and one past its end.
module _ (s : List ℕ) (p : ℕ) where
  pub record_at-read : (x : Reading) (r : Record) → p < length s / 24 → r ≡ numbers_in (take (24 * p + 24 - 24 * p) (drop (24 * p) s))
      → said x ≡ record_in r → number x ≡ given 3 (eqb (form_of (record_in r)) 0) → (said x ≡ record_at s p) × (number x ≡ given 3 (eqb (form_of (record_at s p)) 0))
  record_at-read x r h e a b =
      let n : 24 * p + 24 - 24 * p ≡ 24 = omega arith in
      let z : record_in r ≡ record_at s p =
      ap record_in (e ∙ ap (λ (n : ℕ). numbers_in (take n (drop (24 * p) s))) n) ∙ rw (lt-ltb p (length s / 24) h) in
      (a ∙ z, b ∙ ap (λ (t : Record). given 3 (eqb (form_of t) 0)) z)

  -- of a file in which check 3 refuses no record, one passes it
  module _ (r : Record) (h : p < length s / 24) (e : r ≡ numbers_in (take (24 * p + 24 - 24 * p) (drop (24 * p) s))) where
    known_in : record_in r ≡ record_at s p
    known_in =
        let n : 24 * p + 24 - 24 * p ≡ 24 = omega arith in
        ap record_in (e ∙ ap (λ (n : ℕ). numbers_in (take n (drop (24 * p) s))) n) ∙ rw (lt-ltb p (length s / 24) h)

    known_well : Readable s → well_formed r ≡ true
    known_well k = by_test (well_formed r) refl
      where
        by_test : (b : Bool) → well_formed r ≡ b → well_formed r ≡ true
        by_test true w = w
        by_test false w =
            let z : record_at s p ≡ no_record = sym known_in ∙ rw w in
            absurd (eqb-false (form_of (record_at s p)) 0 (k p h) (ap form_of z))

    pub known_is : Readable s → record_at s p ≡ r
    known_is k = sym known_in ∙ ap (λ (b : Bool). cond b r no_record) (known_well k)

    pub known_taken : (x : Says) → Readable s → apart r.owner x ≡ bared r → said (Taken r.owner x) ≡ record_at s p
    known_taken x k a = a ∙ bared_well r (known_well k) ∙ sym (known_is k)

    -- of any file, a record kind that is none, and one that is
    loose_is : loose_at s p ≡ r
    loose_is =
        let n : 24 * p + 24 - 24 * p ≡ 24 = omega arith in
        sym (e ∙ ap (λ (n : ℕ). numbers_in (take n (drop (24 * p) s))) n ∙ rw (lt-ltb p (length s / 24) h))

    pub loose_refused : (eqb r.form 0 || ltb 4 r.form) ≡ true → said (Refused 3) ≡ said_by (loose_at s p)
    loose_refused k = rw (loose_is, kind_none r.form k)

    pub loose_taken : (x : Says) → (eqb r.form 0 || ltb 4 r.form) ≡ false → apart r.owner x ≡ bared r
        → said (Taken r.owner x) ≡ said_by (loose_at s p)
    loose_taken x k a = a ∙ rw (loose_is, kind_some r.form k)

  pub loose_past : length s / 24 ≤ p → said (Refused 3) ≡ said_by (loose_at s p)
  loose_past h = rw (le-ltb p (length s / 24) h)

  pub record_at-past : length s / 24 ≤ p → (said (Refused 3) ≡ record_at s p) × (number (Refused 3) ≡ given 3 (eqb (form_of (record_at s p)) 0))
  record_at-past h = (rw (le-ltb p (length s / 24) h), rw (le-ltb p (length s / 24) h))

-- Byte k of the 24 bytes of a record.
pub part_at_lem : (s : List ℕ) (p k : ℕ) → k < 24 → get_or (take 24 (drop (24 * p) s)) k 0 ≡ get_or s (24 * p + k) 0
part_at_lem s p k h = get_or-take 24 (drop (24 * p) s) k 0 h ∙ get_or-drop (24 * p) s k 0

-- The nine numbers, each read at its offset.
pub numbers_read : (s : List ℕ) (o a b c d i p : ℕ) → o ≡ le16 s 2 → a ≡ le16 s 4 → b ≡ le16 s 6 → c ≡ le16 s 8 → d ≡ le16 s 10
    → i ≡ le32 s 12 → p ≡ le64 s 16
    → ◌≡◌ {A = Record}
    (record { form = get_or s 0 0; kind = get_or s 1 0; owner = o; a = a; b = b; c = c; d = d; id = i; parameter = p }) (numbers_in s)
numbers_read s o a b c d i p eo ea eb ec ed ei ep = rw (eo, ea, eb, ec, ed, ei, ep)
