-- Laws of sifting: what a kept record enters; a record that is kept or dropped, by what it enters and by whether its mark is set.
-- Assumes nothing.
use mathlib.Core.Path.{◌≡◌, refl, sym, ap, ◌∙◌, subst}
use mathlib.Core.Bool.{and-false, Bool, true, false, not, ◌&&◌, ◌||◌, true≢false}
use mathlib.Core.Logic.{◌⊎◌, inl, inr}
use mathlib.Core.List.{List}
use Prim.Native.Nat.{ℕ, ◌+◌, ◌<◌}
use native.Mathlib.Decide.{dec_lt}
use native.Mathlib.Omega.{arith}
use lib.Dec.{eqb}
use lib.ListN.{length, get_or, set, length-set}
use lib.Seq.{get_or-set_same, get_or-set_other}
use Rattle.lists.specs.Lists.{from, keep, any}
use Rattle.lists.specs.Marks.{IsMarked}
use Rattle.lists.proofs.TestsLaws.{and_left, and_right, and_both}
use Rattle.lists.proofs.MembersLaws.{any_cong, from0_sound}
use Rattle.lists.proofs.KeepLaws.{any_no, any_keep}
use Rattle.lists.proofs.KeysLaws.{unmarked_none, marks_with, marks_skip}
use Rattle.component.specs.declared.Record.{Record}
use Rattle.component.specs.declared.Reading.{Reading}
use Rattle.component.specs.declared.Reading.TheVariants.{Taken, Refused}
use Rattle.component.specs.declared.Says.{Says}
use Rattle.component.specs.Record.{record_at, loose_at, record_count, composite, to_of, input_of, entering, entering_as}
use Rattle.component.specs.Reading.{owner_of, apart, said, said_by, enters}
use Rattle.component.specs.Drawing.{missing}
use Rattle.component.proofs.RecordLaws.{owner_apart}
use Rattle.component.proofs.LooseLaws.{said_by-entering, said_by-enters, said_by-entering_as}
use Rattle.component.proofs.EnteringLaws.{enters_sound}
use Rattle.checks.specs.declared.Entry.{Entry}
use Rattle.std.specs.Prelude.{Option, Some, None}
use Rattle.checks.specs.Checks.{EntryAs, place_mark}
use Rattle.checks.proofs.ChecksLaws.{entering_none, entering_is}
use Rattle.mend.specs.Mend.{refused12}
use Rattle.mend.specs.Sifting.{drops_plainly, parts_of, marked_kept, IsSifted, kept_entry, kept_mark}
use Rattle.mend.proofs.KeptLaws.{drops_same}
use Rattle.mend.proofs.PartsLaws.{parts_refused}

-- What a record enters that says so by its record kind.
enters_said : (o c d : ℕ) (r : Record) → enters o c d (said_by r) ≡ enters o c d r
enters_said o c d r =
    said_by-entering_as (record { form = 0; kind = 0; owner = o; a = 0; b = 0; c = c; d = d; id = 0; parameter = 0 }) r

-- Whether the record at q is kept and enters an input, b being whether it enters the input by its record kind.
pub kept_same : (file kept : List ℕ) (q : ℕ) (b : Bool) (y : Entry) → b ≡ enters y.owner y.to.0 y.input (said_by (loose_at file q))
    → (not (eqb (get_or kept q 0) 0) && b) ≡ (marked_kept kept q && enters y.owner y.to.0 y.input (loose_at file q))
kept_same file kept q b y e =
    ap (λ (b : Bool). marked_kept kept q && b) (e ∙ enters_said y.owner y.to.0 y.input (loose_at file q))

-- Whether check 12 refuses a record: it is none; it is taken apart.
module _ (parts : List ℕ) (r : Reading) where
  abbrev asked : Record → Bool
  asked t = not (composite (record_at parts (owner_of t))) || missing (record_at parts) (record_count parts) t

  pub refuses_none : {k : ℕ} → r ≡ Refused k → entering (said r) ≡ true → false ≡ asked (said r)
  refuses_none h e = absurd (true≢false (sym e ∙ ap (λ (x : Reading). entering (said x)) h))

  pub refuses_is : (o : ℕ) (x : Says) (a b : Bool) → r ≡ Taken o x → a ≡ composite (record_at parts o)
      → b ≡ missing (record_at parts) (record_count parts) (apart o x) → (not a || b) ≡ asked (said r)
  refuses_is o x a b h ea eb =
      let t : said r ≡ apart o x = ap said h in
      let z : owner_of (apart o x) ≡ o = owner_apart o x in
      (λ j. not (ea j) || eb j)
      ∙ ap (λ (c : ℕ). not (composite (record_at parts c)) || missing (record_at parts) (record_count parts) (apart o x)) (sym z)
      ∙ ap asked (sym t)

module _ (file : List ℕ) where
  abbrev n : ℕ
  n = record_count file

  abbrev lo : ℕ → Record
  lo = loose_at file

  abbrev stays : ℕ → Bool
  stays q = not (drops_plainly lo n q)

  -- Check 12, asked of the components in `parts`, is the definition's.
  pub refused_is : (parts : List ℕ) (p : ℕ) (r : Reading) (x : Bool) → parts ≡ parts_of file → said r ≡ said_by (lo p)
      → (entering (said r) ≡ true → x ≡ asked parts r (said r)) → entering (lo p) ≡ true → x ≡ refused12 lo n (lo p)
  refused_is parts p r x ep er h k =
      h (ap entering er ∙ said_by-entering (lo p) ∙ k)
      ∙ ap (asked parts r) er
      ∙ ap (λ (s : List ℕ). asked s r (said_by (lo p))) ep
      ∙ parts_refused file p k

  -- One more record is sifted.
  pub sifted_start : (kept : List ℕ) → length kept ≡ 1024 → IsSifted file 0 kept
  sifted_start kept s = record { size = s; marked = λ q h. absurd (omega (arith, h)) }

  pub sifted_step : (kept : List ℕ) (p x : ℕ) → IsSifted file p kept → p < 1024 → not (eqb x 0) ≡ stays p → IsSifted file (p + 1) (set kept p x)
  sifted_step kept p x s l e =
      record { size = length-set kept p x ∙ s.size; marked = λ q h. by_place q h (dec_lt q p) }
    where
      by_place : (q : ℕ) → q < p + 1 → Dec (q < p) → marked_kept (set kept p x) q ≡ stays q
      by_place q h (yes k) =
          ap (λ (y : ℕ). not (eqb y 0)) (get_or-set_other kept p q x 0 (λ z. omega (arith, z, k))) ∙ s.marked q k
      by_place q h (no k) =
          let z : p ≡ q = omega (arith, h, k) in
          subst (λ (y : ℕ). marked_kept (set kept p x) y ≡ stays y) z
          (ap (λ (y : ℕ). not (eqb y 0)) (get_or-set_same kept p x 0 (omega (arith, s.size, l))) ∙ e)

  module _ (kept marks : List ℕ) (p : ℕ) (sifted : IsSifted file p kept) (m : IsMarked 16384 (kept_entry file) (kept_mark file) 0 p marks)
      (g : Option Entry) (e : EntryAs g (said_by (lo p))) where
    abbrev MarkedTo : List ℕ → Type 0
    MarkedTo u = IsMarked 16384 (kept_entry file) (kept_mark file) 0 (p + 1) u

    -- a record that is no kept entry marks nothing
    skip : kept_entry file p ≡ false → MarkedTo marks
    skip z = marks_skip 16384 (kept_entry file) (kept_mark file) 0 p marks m z

    dropped_so : drops_plainly lo n p ≡ true → (false ≡ stays p) × MarkedTo marks
    dropped_so h =
        (sym (ap not h), skip (ap (λ (b : Bool). entering (lo p) && not b) h ∙ and-false (entering (lo p))))

    -- it enters nothing
    pub is_other : g ≡ None → (true ≡ stays p) × MarkedTo marks
    is_other h =
        let z : entering (lo p) ≡ false = sym (said_by-entering (lo p)) ∙ entering_none _ g e h in
        (sym (rw z), skip (rw z))

    module _ (v : Entry) (h : g ≡ Some v) where
      told : (entering (said_by (lo p)) ≡ true) × (owner_of (said_by (lo p)) ≡ v.owner) × (to_of (said_by (lo p)) ≡ v.to.0) × (input_of (said_by (lo p)) ≡ v.input)
      told = entering_is _ g e v h

      pub enters_here : entering (lo p) ≡ true
      enters_here = sym (said_by-entering (lo p)) ∙ told.0

      own : owner_of (lo p) ≡ v.owner
      own = sym (said_by-enters (lo p) enters_here).0 ∙ told.1

      to : to_of (lo p) ≡ v.to.0
      to = sym (said_by-enters (lo p) enters_here).1 ∙ told.2

      input : input_of (lo p) ≡ v.input
      input = sym (said_by-enters (lo p) enters_here).2 ∙ told.3

      same : (r : Record) → enters v.owner v.to.0 v.input r ≡ entering_as (lo p) r
      same r = λ j. entering r && eqb (owner_of r) (sym own j) && eqb (to_of r) (sym to j) && eqb (input_of r) (sym input j)

      abbrev before : ℕ → Bool
      before q = marked_kept kept q && enters v.owner v.to.0 v.input (lo q)

      searched : any before (from 0 p) ≡ any (λ q. entering_as (lo p) (lo q)) (keep stays (from 0 p))
      searched =
          any_cong before (λ q. stays q && entering_as (lo p) (lo q)) (from 0 p)
          (λ q i. let a = sifted.marked q (from0_sound p q i) in let b = same (lo q) in λ j. a j && b j)
          ∙ sym (any_keep (λ q. entering_as (lo p) (lo q)) stays (from 0 p))

      drops_by : drops_plainly lo n p ≡ (refused12 lo n (lo p) || any before (from 0 p))
      drops_by =
          sym (drops_same lo n p (keep stays (from 0 p)) refl)
          ∙ ap (λ (b : Bool). b && (refused12 lo n (lo p) || any (λ q. entering_as (lo p) (lo q)) (keep stays (from 0 p)))) enters_here
          ∙ ap (λ (b : Bool). refused12 lo n (lo p) || b) (sym searched)

      -- check 12 refuses it
      pub is_refused : (x : Bool) → x ≡ refused12 lo n (lo p) → x ≡ true → (false ≡ stays p) × MarkedTo marks
      is_refused x k y = dropped_so (drops_by ∙ ap (λ (b : Bool). b || any before (from 0 p)) (sym k ∙ y))

      module _ (x : Bool) (k : x ≡ refused12 lo n (lo p)) (y : x ≡ false) where
        passes : drops_plainly lo n p ≡ any before (from 0 p)
        passes = drops_by ∙ ap (λ (b : Bool). b || any before (from 0 p)) (sym k ∙ y)

        -- an earlier kept one has entered its input
        pub is_entered : (f : Bool) → f ≡ any before (from 0 p) → f ≡ true → (false ≡ stays p) × MarkedTo marks
        is_entered f w z = dropped_so (passes ∙ sym w ∙ z)

        mark_of_lem : (q : ℕ) → owner_of (lo q) ≡ v.owner → to_of (lo q) ≡ v.to.0 → input_of (lo q) ≡ v.input
            → kept_mark file q ≡ place_mark (record_at (parts_of file)) (record_count (parts_of file)) v.owner v.to.0 v.input
        mark_of_lem q a b f = λ j. place_mark (record_at (parts_of file)) (record_count (parts_of file)) (a j) (b j) (f j)

        -- its mark is not set
        unmarked : (i : ℕ) → i ≡ place_mark (record_at (parts_of file)) (record_count (parts_of file)) v.owner v.to.0 v.input → get_or marks i 0 ≡ 0
            → any before (from 0 p) ≡ false
        unmarked i w z = any_no before (from 0 p) (λ q u t. here q (from0_sound p q u) t)
          where
            here : (q : ℕ) → q < p → before q ≡ true → ⊥
            here q l t =
                let s = enters_sound (lo p) (lo q) (sym (same (lo q)) ∙ and_right (marked_kept kept q) (enters v.owner v.to.0 v.input (lo q)) t) in
                let kept_q : stays q ≡ true = sym (sifted.marked q l) ∙ and_left (marked_kept kept q) (enters v.owner v.to.0 v.input (lo q)) t in
                unmarked_none 16384 (kept_entry file) (kept_mark file) 0 p marks m i q z (omega arith) l
                (and_both (entering (lo q)) (stays q) s.enters kept_q)
                (mark_of_lem q (s.owner ∙ own) (s.to ∙ to) (s.input ∙ input) ∙ sym w)

        -- it is new
        pub is_new : (parts : List ℕ) → parts ≡ parts_of file → (i : ℕ) → i ≡ place_mark (record_at parts) (record_count parts) v.owner v.to.0 v.input → i < 16384
            → (get_or marks i 0 ≡ 0) ⊎ (false ≡ any before (from 0 p)) → (true ≡ stays p) × MarkedTo (set marks i (p + 1))
        is_new parts ep i u l way = (
          sym (ap not (passes ∙ none way)),
          marks_with 16384 (kept_entry file) (kept_mark file) 0 p marks m (p + 1) (λ z. omega (arith, z)) i l (w ∙ sym (mark_of_lem p own to input)),
        )
          where
            w : i ≡ place_mark (record_at (parts_of file)) (record_count (parts_of file)) v.owner v.to.0 v.input
            w = subst (λ (ps : List ℕ). i ≡ place_mark (record_at ps) (record_count ps) v.owner v.to.0 v.input) ep u

            none : (get_or marks i 0 ≡ 0) ⊎ (false ≡ any before (from 0 p)) → any before (from 0 p) ≡ false
            none (inl z) = unmarked i w z
            none (inr z) = sym z
