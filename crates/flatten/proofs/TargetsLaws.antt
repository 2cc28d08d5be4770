-- Laws of specs/Targets.antt: nothing listed, one target, and targets behind targets; the same for each way out of `list_targets` and each
-- turn of its loop; and that the targets read are those listed.
--   Listing t k ts u m rest   ts are being listed in the table t from entry k on: with the rest from entry m on, the table u is what they make of t
-- Assumes nothing.
use mathlib.Core.Path.{◌≡◌, refl, sym, ap, ◌∙◌, subst}
use mathlib.Core.Bool.{Bool, true, false, true≢false}
use mathlib.Core.List.{List, [], ◌∷◌, ◌++◌}
use Prim.Native.Nat.{ℕ, ◌+◌, ◌-◌, ◌*◌, ◌/◌, ◌≤◌, ◌<◌}
use native.Mathlib.Nat.{add-zero}
use native.Mathlib.Decide.{dec_lt}
use native.Mathlib.Omega.{arith}
use borrow.Author.Tests.{le-ltb}
use lib.ListN.{length, get_or, length-append}
use lib.Seq.{sets, length-sets}
use Rattle.lists.specs.Lists.{from, joined, overlay}
use Rattle.lists.proofs.OverlayLaws.{sets_append, sets_overlay, joined_append, joined_width, overlay_entry, map_indexes}
use Rattle.component.specs.Record.{record_at, is_primitive}
use Rattle.flatten.specs.declared.Pin.{Pin}
use Rattle.std.specs.Prelude.{Option, Some, None}
use Rattle.flatten.specs.Descent.{pin, inputs_below}
use Rattle.flatten.specs.Searches.{entered, IsStretch}
use Rattle.flatten.specs.Targets.{target_place, target_words, target_in, targets_in, Listed}
use Rattle.flatten.proofs.DescentLaws.{given, targets_bottom, targets_ends, targets_stretch, given_to, given_nothing, joined_end}

words_length : (ts : List Pin) → length (joined target_words ts) ≡ 2 * length ts
words_length ts = joined_width target_words 2 (λ t. refl) ts

pub record Listing (t : List ℕ) (k : ℕ) (ts : List Pin) (u : List ℕ) (m : ℕ) (rest : List Pin) : Type 0 where
  pub size : length u ≡ length t
  pub table : sets u (target_place m) (joined target_words rest) ≡ sets t (target_place k) (joined target_words ts)
  pub count : m + length rest ≡ k + length ts

module _ (t : List ℕ) (k : ℕ) (ts : List Pin) where
  -- Nothing to list, and one target.
  pub listed_none : ts ≡ [] → Listed t k ts t k
  listed_none e =
      record {
        table = ap (λ (l : List Pin). sets t (target_place k) (joined target_words l)) (sym e);
        next = omega (arith, ap (λ (l : List Pin). length l) e);
      }

  pub listed_one : (x : Pin) (u : List ℕ) → ts ≡ x ∷ [] → u ≡ sets t (target_place k) (target_words x) → Listed t k ts u (k + 1)
  listed_one x u e d =
      record {
        table = d ∙ ap (λ (l : List Pin). sets t (target_place k) (joined target_words l)) (sym e);
        next = omega (arith, ap (λ (l : List Pin). length l) e);
      }

  -- All of them are to come.
  pub listing_start : (rest : List Pin) → ts ≡ rest → Listing t k ts t k rest
  listing_start rest e =
      record {
        size = refl;
        table = ap (λ (l : List Pin). sets t (target_place k) (joined target_words l)) (sym e);
        count = ap (λ (l : List Pin). k + length l) (sym e);
      }

  module _ (u : List ℕ) (m : ℕ) (rest : List Pin) (inv : Listing t k ts u m rest) where
    -- The next of them, xs: there is room for them; and once they are listed.
    module _ (xs later : List Pin) (e : rest ≡ xs ++ later) where
      pub listing_room : target_place (k + length ts) ≤ length t → target_place (m + length xs) ≤ length u
      listing_room room = omega (arith, inv.size, inv.count, ap (λ (l : List Pin). length l) e, length-append xs later)

      pub listing_next : (v : List ℕ) (w : ℕ) → Listed u m xs v w → Listing t k ts v w later
      listing_next v w h =
          let place : target_place w ≡ target_place m + length (joined target_words xs) = omega (arith, h.next, words_length xs) in
          record {
            size = ap (λ (l : List ℕ). length l) h.table ∙ length-sets u (target_place m) (joined target_words xs) ∙ inv.size;
            table =
                (λ j. sets (h.table j) (place j) (joined target_words later))
                ∙ sym (sets_append u (target_place m) (joined target_words xs) (joined target_words later))
                ∙ ap (sets u (target_place m)) (sym (joined_append target_words xs later))
                ∙ ap (λ (l : List Pin). sets u (target_place m) (joined target_words l)) (sym e) ∙ inv.table;
            count = omega (arith, h.next, inv.count, ap (λ (l : List Pin). length l) e, length-append xs later);
          }

    -- None is to come.
    pub listing_end : rest ≡ [] → Listed t k ts u m
    listing_end e =
        record {
          table = ap (λ (l : List Pin). sets u (target_place m) (joined target_words l)) (sym e) ∙ inv.table;
          next = omega (arith, inv.count, ap (λ (l : List Pin). length l) e);
        }

-- A primitive of a file of at most 1,024 records has a number of 16 bits.
pub primitive_number : (s : List ℕ) (c : ℕ) (b : Bool) → length s / 24 ≤ 1024 → b ≡ is_primitive (record_at s c) → b ≡ true → c < 65536
primitive_number s c b h e t = by_place (dec_lt c (length s / 24))
  where
    by_place : Dec (c < length s / 24) → c < 65536
    by_place (yes l) = omega arith
    by_place (no l) =
        let z : is_primitive (record_at s c) ≡ false = rw (le-ltb c (length s / 24) (omega arith)) in
        absurd (true≢false (sym t ∙ e ∙ z))

-- Listing what input i of component c of a file leads to, with depth d left: no depth; a primitive; the input maps from a to before e.
module _ (s : List ℕ) (n d c i : ℕ) (t : List ℕ) (k : ℕ) where
  abbrev goals : List Pin
  goals = inputs_below (record_at s) n d c i

  abbrev mapped : ℕ → ℕ → List Pin
  mapped q e = joined (given (record_at s) n (d - 1) c i) (from q (e - q))

  pub list_bottom : d ≡ 0 → Listed t k goals t k
  list_bottom h = listed_none t k goals (targets_bottom (record_at s) n d c i h)

  module _ (b : Bool) (h : d ≡ 0 → ⊥) (eb : b ≡ is_primitive (record_at s c)) where
    pub list_room : b ≡ true → target_place (k + length goals) ≤ length t → target_place (k + 1) ≤ length t
    list_room p room = omega (arith, ap (λ (l : List Pin). length l) (targets_ends (record_at s) n d c i h (sym eb ∙ p)))

    pub list_here : b ≡ true → (u : List ℕ) → u ≡ sets t (target_place k) (target_words (pin c i)) → Listed t k goals u (k + 1)
    list_here p u = listed_one t k goals (pin c i) u (targets_ends (record_at s) n d c i h (sym eb ∙ p))

    pub list_maps : (a e : ℕ) → b ≡ false → IsStretch (record_at s) n c a e → Listing t k goals t k (mapped a e)
    list_maps a e p z = listing_start t k goals (mapped a e) (targets_stretch (record_at s) n d c i a e h (sym eb ∙ p) z)

  -- one turn of the loop: the map at q leads on; it leads nowhere; and its end
  module _ (u : List ℕ) (m q e : ℕ) (inv : Listing t k goals u m (mapped q e)) where
    module _ (g : Option Pin) (x : Pin) (l : q < e) (eg : g ≡ Some x) (h : g ≡ entered (record_at s) n c i q) where
      on : mapped q e ≡ inputs_below (record_at s) n (d - 1) x.comp x.port ++ mapped (q + 1) e
      on = given_to (record_at s) n (d - 1) c i q e x l (sym eg ∙ h)

      pub list_to_room : target_place (k + length goals) ≤ length t → target_place (m + length (inputs_below (record_at s) n (d - 1) x.comp x.port)) ≤ length u
      list_to_room = listing_room t k goals u m (mapped q e) inv (inputs_below (record_at s) n (d - 1) x.comp x.port) (mapped (q + 1) e) on

      pub list_to : (v : List ℕ) (w : ℕ) → Listed u m (inputs_below (record_at s) n (d - 1) x.comp x.port) v w → Listing t k goals v w (mapped (q + 1) e)
      list_to = listing_next t k goals u m (mapped q e) inv (inputs_below (record_at s) n (d - 1) x.comp x.port) (mapped (q + 1) e) on

    pub list_nothing : (g : Option Pin) → q < e → g ≡ None → g ≡ entered (record_at s) n c i q → Listing t k goals u m (mapped (q + 1) e)
    list_nothing g l eg h = subst (Listing t k goals u m) (given_nothing (record_at s) n (d - 1) c i q e l (sym eg ∙ h)) inv

    pub list_end : e ≤ q → Listed t k goals u m
    list_end l = listing_end t k goals u m (mapped q e) inv (joined_end (given (record_at s) n (d - 1) c i) q e l)

-- Targets listed from entry 0 on are the targets that are read.
module _ (t : List ℕ) (ts : List Pin) (u : List ℕ) (m : ℕ) (h : Listed t 0 ts u m) where
  pub listed_count : m ≡ length ts
  listed_count = omega (arith, h.next)

  pub listed_length : length u ≡ length t
  listed_length = ap (λ (l : List ℕ). length l) h.table ∙ length-sets t 0 (joined target_words ts)

  pub listed_read : target_place (0 + length ts) ≤ length t → targets_in u m ≡ ts
  listed_read room =
      ap (λ (j : ℕ). targets_in u j) listed_count ∙ map_indexes (target_in u) (pin 0 0) ts (λ i l. at_entry i l)
    where
      laid : u ≡ overlay (joined target_words ts) t
      laid = h.table ∙ sets_overlay (joined target_words ts) t (omega (arith, words_length ts))

      word : (i j : ℕ) → i < length ts → j < 2 → get_or u (2 * i + j) 0 ≡ get_or (target_words (get_or ts i (pin 0 0))) j 0
      word i j l b =
          ap (λ (x : List ℕ). get_or x (2 * i + j) 0) laid ∙ overlay_entry target_words 2 (λ a. refl) ts t i j (pin 0 0) l b

      at_entry : (i : ℕ) → i < length ts → target_in u i ≡ get_or ts i (pin 0 0)
      at_entry i l =
          let c : get_or u (2 * i) 0 ≡ (get_or ts i (pin 0 0)).comp = rw add-zero at (word i 0 l (omega arith)) in
          let p : get_or u (2 * i + 1) 0 ≡ (get_or ts i (pin 0 0)).port = word i 1 l (omega arith) in
          λ j. pin (c j) (p j)
