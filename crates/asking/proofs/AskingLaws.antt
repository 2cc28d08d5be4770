-- A question that is lent too few words, and one that the engine answers; every number that a question gives back is at most 28, at position 0.
-- Assumes nothing.
use mathlib.Core.Path.{◌≡◌, refl, subst}
use mathlib.Core.Bool.{Bool, true, false, ◌||◌}
use mathlib.Core.List.{List, [], ◌∷◌}
use mathlib.Core.Option.{Option, none, some}
use Prim.Native.Nat.{ℕ, ◌≤◌}
use native.Mathlib.Omega.{arith}
use lib.ListN.{length}
use lib.Dec.{eqb, leb, ltb}
use Rattle.lists.specs.Lists.{overlay}
use Rattle.value.specs.Value.{level}
use Rattle.kinds.specs.Given.{Given, done, declined, refused_by, giving, spoken}
use Rattle.tables.specs.declared.Counts.{Counts}
use Rattle.tables.specs.Tables.{Tables, index_of}
use Rattle.net.specs.Net.{net_number}
use Rattle.questions.specs.declared.Side.{Side}
use Rattle.questions.specs.Questions.{of_net, whether_gives, index_gives, AsksIndex, AsksValue, index_found, port_count, value_at, value_gives, value_on_net, list_number, list_gives}
use Rattle.words.specs.Words.{counts_in, values_in}
use Rattle.words.specs.Said.{short}
use Rattle.words.proofs.PlainLaws.{chosen_small, net_small, on_net_small, Plain, chosen_plain, done_plain, declined_plain, giving_plain, plain_as}
use Rattle.asking.specs.Asking.{CallAsks, few_to_ask, asked, CallLists, few_to_list, listed}
use Rattle.std.specs.Prelude.{Result, Ok}
use Rattle.tables.specs.declared.FlatIdx.{FlatIdx}
use Rattle.kinds.specs.declared.answers.Refusal.{Refusal}
use Rattle.value.specs.declared.Value.{Value}

-- A question.
module _ {A : Type 0} (gives : A → Given) (P : Tables → A → Type 0) (few : Bool) (ws fs : List ℕ) (lent : Counts → Tables) where
  pub ask_short : few ≡ true → CallAsks gives P few ws fs fs lent 131072
  ask_short h = few_to_ask h refl refl

  pub ask_made : (a : A) (m : Counts) (fs' : List ℕ) (r : ℕ) → few ≡ false → m ≡ counts_in ws → P (lent m) a → r ≡ spoken (gives a)
      → fs' ≡ overlay (values_in (gives a)) fs
      → CallAsks gives P few ws fs fs' lent r
  ask_made a m fs' r h q p n f = asked a h (subst (λ (k : Counts). P (lent k) a) q p) n f

-- A question that lays a list.
module _ (P : Tables → List ℕ → Result ℕ Refusal → List ℕ → Type 0) (ws ls fs : List ℕ) (lent : Counts → Tables) where
  abbrev few_listed : Bool
  few_listed = short ws 7 || short fs 1

  pub list_short : few_listed ≡ true → CallLists P few_listed ws ls ls fs fs lent 131072
  list_short h = few_to_list h refl refl refl

  pub list_made : (a : Result ℕ Refusal) (m : Counts) (ls' fs' : List ℕ) (r : ℕ) → few_listed ≡ false → m ≡ counts_in ws → P (lent m) ls a ls'
      → r ≡ spoken (list_gives a) → fs' ≡ overlay (values_in (list_gives a)) fs
      → CallLists P few_listed ws ls ls' fs fs' lent r
  list_made a m ls' fs' r h q p n f = listed a h (subst (λ (k : Counts). P (lent k) ls a ls') q p) n f

-- What the questions give.
list_number_small : (T : Tables) (i : ℕ) (ls : List ℕ) → list_number T i ls ≤ 28
unfolding list_number
list_number_small T i ls =
    chosen_small (ltb (length ls) 256) 2 _ (omega arith)
    (on_net_small T _ (chosen_small (leb T.counts.components i) 17 0 (omega arith) (omega arith)))

of_net-plain : (T : Tables) (g : Given) → Plain g → Plain (of_net T g)
of_net-plain T g h = chosen_plain (eqb (net_number T) 0) g (declined (refused_by (net_number T))) h (declined_plain (net_number T) (net_small T))

found_plain : (o : Option ℕ) → Plain (index_found o)
found_plain (some i) = done_plain (i ∷ [])
found_plain none = declined_plain 17 (omega arith)

value_on_net_plain : (T : Tables) (side : Side) (i p : ℕ) → Plain (value_on_net T side i p)
unfolding value_on_net
value_on_net_plain T side i p =
    chosen_plain (leb T.counts.components i || leb (port_count T side i) p) (declined (refused_by 17))
    (value_gives (Ok (value_at T side i p))) (declined_plain 17 (omega arith)) (record { small = omega arith; at_0 = refl })

pub whether_plain : (T : Tables) (b : Bool) (r : Result Bool Refusal) → whether_gives r ≡ of_net T (done (level b ∷ [])) → Plain (whether_gives r)
whether_plain T b r e =
    plain_as (whether_gives r) (of_net T (done (level b ∷ []))) e (of_net-plain T (done (level b ∷ [])) (done_plain (level b ∷ [])))

pub index_plain : (T : Tables) (id : ℕ) (r : Result FlatIdx Refusal) → AsksIndex T id r → Plain (index_gives r)
index_plain T id r e =
    plain_as (index_gives r) (of_net T (index_found (index_of T id))) e (of_net-plain T (index_found (index_of T id)) (found_plain (index_of T id)))

pub value_plain : (T : Tables) (side : Side) (i p : ℕ) (r : Result Value Refusal) → AsksValue T side i p r → Plain (value_gives r)
value_plain T side i p r e =
    plain_as (value_gives r) (of_net T (value_on_net T side i p)) e (of_net-plain T (value_on_net T side i p) (value_on_net_plain T side i p))

pub listed_plain : (T : Tables) (i : ℕ) (ls : List ℕ) (g : Given) (xs : List ℕ) → g ≡ giving (list_number T i ls) xs → Plain g
listed_plain T i ls g xs e = plain_as g (giving (list_number T i ls) xs) e (giving_plain (list_number T i ls) xs (list_number_small T i ls))
