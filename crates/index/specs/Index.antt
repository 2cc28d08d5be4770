-- What the index of src/lib.rt holds.
-- Nobody has to believe anything here: each word only shortens what a definition of specs/Drawing.antt says.
--   nth_owned s n form first o k   the kth record of a kind and of owner o from `first` on; n where there is none
--   before s form first o q       how many records of a kind and of owner o stand from `first` to before q
--   numbered              one step of numbering records
--   IsClear x t u         u is as long as t, and each of its words is x
--   IsNumbered s n w form first t   a table of w words for records and 256 for owners: word q is how many of q's kind and owner stand
--                         before it, if q is of the kind; word w + o is how many owner o has
--   widen_low, widen_high   one step of filling the stretches
--   IsRange s n t         for each c of 256 composites, its input maps stand from word c to below word 256 + c
--   KeptBelow m t u       u is as long as t, and has its words below m
--   stretch_first t c, stretch_end t n c   the stretch that the index t of n records has of composite c: all of them where it has no word of c
--   out_count t c          how many output maps the index t says that composite c has
--   IsIndex s t           t is the index of the file s, of which check 3 refuses no record
-- Assumes nothing.
use Rattle.std.specs.Prelude.{◌≡◌, ℕ, ◌+◌, ◌-◌, ◌≤◌, ◌<◌, true, cond, ◌&&◌, List, eqb, ltb, length, get_or, set}
use Rattle.lists.specs.Lists.{from, keep}
use Rattle.component.specs.declared.Record.{Record}
use Rattle.component.specs.Record.{record_at, record_count, owned_as}
use Rattle.component.specs.Reading.{owner_of, form_of, Readable}
use Rattle.component.specs.Drawing.{out_maps}

abbrev pub nth_owned : List ℕ → ℕ → ℕ → ℕ → ℕ → ℕ → ℕ
nth_owned s n form first o k = get_or (keep (λ q. owned_as form o (record_at s q)) (from first (n - first))) k n

abbrev pub before : List ℕ → ℕ → ℕ → ℕ → ℕ → ℕ
before s form first o q = length (keep (λ j. owned_as form o (record_at s j)) (from first (q - first)))

-- One step: r at position q is the next record of its owner, where it is of the kind, and has a word of its own below w.
abbrev pub numbered : ℕ → ℕ → Record → ℕ → List ℕ → List ℕ
numbered w form r q t =
    let k = get_or t (w + owner_of r) 0 in
    let u = set t (w + owner_of r) (k + 1) in
    cond (eqb (form_of r) form && ltb (owner_of r) 256) (cond (ltb q w) (set u q k) u) t

pub record IsClear (x : ℕ) (t u : List ℕ) : Type 0 where
  pub size : length u ≡ length t
  pub word : (i : ℕ) → i < length u → get_or u i 0 ≡ x

pub record IsNumbered (s : List ℕ) (n w form first : ℕ) (t : List ℕ) : Type 0 where
  pub size : length t ≡ w + 256
  pub place : (q o : ℕ) → first ≤ q → q < n → q < w → o < 256 → owned_as form o (record_at s q) ≡ true → get_or t q 0 ≡ before s form first o q
  pub count : (o : ℕ) → o < 256 → get_or t (w + o) 0 ≡ before s form first o n

-- The same of the ends of a composite's stretch, in one part: r at position q widens its owner's.
abbrev pub widen_low : Record → ℕ → List ℕ → List ℕ
widen_low r q t = cond (eqb (form_of r) 3 && ltb (owner_of r) 256 && ltb q (get_or t (owner_of r) 0)) (set t (owner_of r) q) t

abbrev pub widen_high : Record → ℕ → List ℕ → List ℕ
widen_high r q t = cond (eqb (form_of r) 3 && ltb (owner_of r) 256) (set t (256 + owner_of r) (q + 1)) t

pub record IsRange (s : List ℕ) (n : ℕ) (t : List ℕ) : Type 0 where
  pub size : length t ≡ 512
  pub within : (c : ℕ) → c < 256 → get_or t (256 + c) 0 ≤ n
  pub starts : (q c : ℕ) → q < n → c < 256 → owned_as 3 c (record_at s q) ≡ true → get_or t c 0 ≤ q
  pub ends : (q c : ℕ) → q < n → c < 256 → owned_as 3 c (record_at s q) ≡ true → q < get_or t (256 + c) 0

pub record KeptBelow (m : ℕ) (t u : List ℕ) : Type 0 where
  pub size : length u ≡ length t
  pub word : (i : ℕ) → i < m → get_or u i 0 ≡ get_or t i 0

abbrev pub stretch_first : List ℕ → ℕ → ℕ
stretch_first t c = cond (ltb c 256) (get_or t (1792 + c) 0) 0

abbrev pub stretch_end : List ℕ → ℕ → ℕ → ℕ
stretch_end t n c = cond (ltb c 256) (get_or t (2048 + c) 0) n

abbrev pub out_count : List ℕ → ℕ → ℕ
out_count t c = get_or t (1536 + c) 0

pub record IsIndex (s t : List ℕ) : Type 0 where
  pub size : length t ≡ 3072
  pub readable : Readable s
  pub few : record_count s ≤ 1024
  pub children : (q o : ℕ) → 1 ≤ q → q < record_count s → q < 256 → o < 256 → owned_as 1 o (record_at s q) ≡ true → get_or t q 0 ≡ before s 1 1 o q
  pub kids : (o : ℕ) → o < 256 → get_or t (256 + o) 0 ≡ before s 1 1 o (record_count s)
  pub outs : (q c : ℕ) → q < record_count s → c < 256 → owned_as 4 c (record_at s q) ≡ true → get_or t (512 + q) 0 ≡ before s 4 0 c q
  pub counts : (c : ℕ) → c < 256 → out_count t c ≡ length (out_maps (record_at s) (record_count s) c)
  pub within : (c : ℕ) → stretch_end t (record_count s) c ≤ record_count s
  pub starts : (q c : ℕ) → q < record_count s → owned_as 3 c (record_at s q) ≡ true → stretch_first t c ≤ q
  pub ends : (q c : ℕ) → q < record_count s → owned_as 3 c (record_at s q) ≡ true → q < stretch_end t (record_count s) c
