-- The index from its parts (specs/Index.antt), and that guesses behind them leave them alone.
-- Assumes nothing.
use mathlib.Core.Path.{◌≡◌, refl, ap, ◌∙◌}
use mathlib.Core.Bool.{true}
use mathlib.Core.List.{List}
use Prim.Native.Nat.{ℕ, ◌+◌, ◌/◌, ◌≤◌, ◌<◌}
use native.Mathlib.Decide.{dec_lt}
use native.Mathlib.Omega.{arith}
use borrow.Author.Tests.{lt-ltb, le-ltb}
use lib.ListN.{length, get_or, get_or-append}
use borrow.Rule.Slice.PartMut.{post_of, put_mid}
use native.Mathlib.Nat.{sub-zero}
use lib.ListN.{set, length-set}
use lib.Seq.{get_or-set_other}
use Rattle.lists.specs.Lists.{from, keep}
use Rattle.component.specs.Record.{record_at, owned_as}
use Rattle.component.specs.Reading.{Readable}
use Rattle.component.specs.Drawing.{out_maps}
use Rattle.component.proofs.ScanLaws.{tested}
use Rattle.index.specs.Index.{before, IsNumbered, IsRange, KeptBelow, IsIndex, stretch_first, stretch_end, out_count}
use Rattle.index.proofs.WideningLaws.{put_mid-in, put_mid-before, put_mid-length}

-- A table of three parts, of a, b and e words, each put in its place: its size, and a word of each part.
module _ (a b e : ℕ) (xs cs os es : List ℕ) (h : a + b + e ≤ length xs) (hc : length cs ≡ a) (ho : length os ≡ b) (he : length es ≡ e) where
  abbrev part1 : List ℕ
  part1 = put_mid 0 a xs cs

  abbrev part2 : List ℕ
  part2 = put_mid a b part1 os

  abbrev whole : List ℕ
  whole = put_mid (a + b) e part2 es

  part1_size : length part1 ≡ length xs
  part1_size = put_mid-length 0 a xs cs (omega arith) hc

  part2_size : length part2 ≡ length xs
  part2_size = put_mid-length a b part1 os (omega (arith, part1_size)) ho ∙ part1_size

  whole_size : length whole ≡ length xs
  whole_size = put_mid-length (a + b) e part2 es (omega (arith, part2_size)) he ∙ part2_size

  word_first : (i : ℕ) → i < a → get_or whole i 0 ≡ get_or cs i 0
  word_first i l =
      put_mid-before (a + b) e part2 es i (omega (arith, part2_size)) (omega arith)
      ∙ put_mid-before a b part1 os i (omega (arith, part1_size)) l
      ∙ get_or-append cs (post_of 0 a xs) 0 i (omega arith)

  word_second : (i : ℕ) → i < b → get_or whole (a + i) 0 ≡ get_or os i 0
  word_second i l =
      put_mid-before (a + b) e part2 es (a + i) (omega (arith, part2_size)) (omega arith)
      ∙ put_mid-in a b part1 os i (omega (arith, part1_size)) (omega arith)

  word_third : (i : ℕ) → i < e → get_or whole (a + b + i) 0 ≡ get_or es i 0
  word_third i l = put_mid-in (a + b) e part2 es i (omega (arith, part2_size)) (omega arith)

-- The stretches that a table t has from word 1792 on.
module _ (s es t : List ℕ) (n : ℕ) (he : IsRange s n es) (low : (c : ℕ) → c < 512 → get_or t (1792 + c) 0 ≡ get_or es c 0) where
  high : (c : ℕ) → c < 256 → get_or t (2048 + c) 0 ≡ get_or es (256 + c) 0
  high c l =
      let z : 2048 + c ≡ 1792 + (256 + c) = omega arith in
      ap (λ (j : ℕ). get_or t j 0) z ∙ low (256 + c) (omega arith)

  stretch_within : (c : ℕ) → Dec (c < 256) → stretch_end t n c ≤ n
  stretch_within c (yes l) = rw (lt-ltb c 256 l) (omega (arith, high c l, he.within c l))
  stretch_within c (no l) = rw (le-ltb c 256 (omega arith)) (omega arith)

  stretch_starts : (q c : ℕ) → Dec (c < 256) → q < n → owned_as 3 c (record_at s q) ≡ true → stretch_first t c ≤ q
  stretch_starts q c (yes l) k o = rw (lt-ltb c 256 l) (omega (arith, low c (omega arith), he.starts q c k l o))
  stretch_starts q c (no l) k o = rw (le-ltb c 256 (omega arith)) (omega arith)

  stretch_ends : (q c : ℕ) → Dec (c < 256) → q < n → owned_as 3 c (record_at s q) ≡ true → q < stretch_end t n c
  stretch_ends q c (yes l) k o = rw (lt-ltb c 256 l) (omega (arith, high c l, he.ends q c k l o))
  stretch_ends q c (no l) k o = rw (le-ltb c 256 (omega arith)) k

-- Words below m are kept: by nothing; by a write past them; by one step after another.
pub kept_start : (m : ℕ) (t : List ℕ) → KeptBelow m t t
kept_start m t = record { size = refl; word = λ i l. refl }

pub kept_set : (m : ℕ) (t u : List ℕ) (i x : ℕ) → KeptBelow m t u → m ≤ i → KeptBelow m t (set u i x)
kept_set m t u i x h l = record {
  size = length-set u i x ∙ h.size;
  word = λ j k. get_or-set_other u i j x 0 (λ z. omega arith) ∙ h.word j k;
}

pub kept_next : (m : ℕ) (t u v : List ℕ) → KeptBelow m t u → KeptBelow m u v → KeptBelow m t v
kept_next m t u v h k = record { size = k.size ∙ h.size; word = λ i l. k.word i l ∙ h.word i l }

-- The index from its parts: the numbers of children and of output maps, the stretches, and guesses behind them.
module _ (s xs cs os es : List ℕ) (hr : Readable s) (few : length s / 24 ≤ 1024) (h : length xs ≡ 3072)
    (hc : IsNumbered s (length s / 24) 256 1 1 cs) (ho : IsNumbered s (length s / 24) 1024 4 0 os)
    (he : IsRange s (length s / 24) es) where
  pub room : 512 + 1280 + 512 ≤ length xs
  room = omega arith

  abbrev parts : List ℕ
  parts = whole 512 1280 512 xs cs os es room hc.size ho.size he.size

  pub parts_size : length parts ≡ 3072
  parts_size = whole_size 512 1280 512 xs cs os es room hc.size ho.size he.size ∙ h

  module _ (v : List ℕ) (kept : KeptBelow 2304 parts v) where
    first_word : (i : ℕ) → i < 512 → get_or v i 0 ≡ get_or cs i 0
    first_word i l = kept.word i (omega arith) ∙ word_first 512 1280 512 xs cs os es room hc.size ho.size he.size i l

    second_word : (i : ℕ) → i < 1280 → get_or v (512 + i) 0 ≡ get_or os i 0
    second_word i l = kept.word (512 + i) (omega arith) ∙ word_second 512 1280 512 xs cs os es room hc.size ho.size he.size i l

    third_word : (i : ℕ) → i < 512 → get_or v (1792 + i) 0 ≡ get_or es i 0
    third_word i l = kept.word (1792 + i) (omega arith) ∙ word_third 512 1280 512 xs cs os es room hc.size ho.size he.size i l

    index_count : (c : ℕ) → c < 256 → out_count v c ≡ length (out_maps (record_at s) (length s / 24) c)
    index_count c l =
        let z : 1536 + c ≡ 512 + (1024 + c) = omega arith in
        ap (λ (j : ℕ). get_or v j 0) z ∙ second_word (1024 + c) (omega arith) ∙ ho.count c l
        ∙ ap (λ (m : ℕ). length (keep (tested s (owned_as 4 c)) (from 0 m))) (sub-zero (length s / 24))

    index_outs : (q c : ℕ) → q < length s / 24 → c < 256 → owned_as 4 c (record_at s q) ≡ true → get_or v (512 + q) 0 ≡ before s 4 0 c q
    index_outs q c l g e = second_word q (omega arith) ∙ ho.place q c (omega arith) l (omega arith) g e

    pub index_filled : IsIndex s v
    index_filled = record {
      size = kept.size ∙ parts_size;
      readable = hr;
      few = few;
      children = λ q o a b c d e. first_word q (omega arith) ∙ hc.place q o a b c d e;
      kids = λ o l. first_word (256 + o) (omega arith) ∙ hc.count o l;
      outs = index_outs;
      counts = index_count;
      within = λ c. stretch_within s es v (length s / 24) he third_word c (dec_lt c 256);
      starts = λ q c l o. stretch_starts s es v (length s / 24) he third_word q c (dec_lt c 256) l o;
      ends = λ q c l o. stretch_ends s es v (length s / 24) he third_word q c (dec_lt c 256) l o;
    }
