-- Mendings of the lamp drawing, damaged in each way: what each gives back, what stands in the buffer, and the first two words of the lent list, which hold
-- 7 before it. One proof of them all, by computing the definitions. Assumes nothing.
use mathlib.Core.Path.{◌≡◌, refl}
use Prim.Native.Nat.{ℕ, ◌*◌}
use mathlib.Core.List.{List, [], ◌∷◌, ◌++◌}
use lib.ListN.{length, take, drop, replicate}
use Rattle.lists.specs.Lists.{overlay}
use Rattle.kinds.specs.Given.{Given, done, declined, verdict_gives}
use Rattle.kinds.specs.Kinds.{obeys}
use Rattle.component.specs.Drawing.{deepest}
use Rattle.component.proofs.Drawings.{record_bytes, connection_bytes, input_map_bytes, output_map_bytes, lamp, lamp_twice}
use Rattle.flatten.specs.Descent.{output_below, inputs_below, comes_from, goes_to}
use Rattle.flatten.specs.Verdict.{verdict, list_by}
use Rattle.meeting.specs.Meeting.{judgement}
use Rattle.mend.specs.Mend.{refused12, kept_records, mended, dropped, mend_verdict}

-- What is seen of a mending: what it gives back, the first words of the list, and the buffer's first bytes: as many as the lamp drawing has.
pub record Seen : Type 0 where
  pub given : Given
  pub list : List ℕ
  pub front : List ℕ

-- A mending with a buffer of a bytes and a list of b words.
abbrev mending_by : ℕ → ℕ → List ℕ → Seen
mending_by a b file =
    let out : List ℕ = replicate a 7 in
    let list : List ℕ = replicate b 7 in
    let found = mend_verdict file out list in
    record {
      given = verdict_gives found (length (mended file) ∷ length (dropped file) ∷ []);
      list = take 2 (list_by found (dropped file) list);
      front = take 288 (list_by found (mended file) out);
    }

abbrev mending : List ℕ → Seen
mending = mending_by 400 1025

-- What is wanted: so many positions dropped, these words, and the lamp drawing; or a refusal, which leaves buffer and list.
abbrev as_lamp : ℕ → List ℕ → Seen
as_lamp k xs = record { given = done (288 ∷ k ∷ []); list = xs; front = lamp }

abbrev refused_as : ℕ → ℕ → Seen
refused_as k p =
    record { given = declined (record { number = k; position = p; earlier = 0 }); list = 7 ∷ 7 ∷ []; front = replicate 288 7 }

-- The lamp drawing with bytes put in front of record p; without record p.
abbrev lamp_with : ℕ → List ℕ → List ℕ
lamp_with p xs = take (24 * p) lamp ++ xs ++ drop (24 * p) lamp

abbrev lamp_without : ℕ → List ℕ
lamp_without p = take (24 * p) lamp ++ drop 24 (drop (24 * p) lamp)

-- What each mending gives, or the number and position of its refusal.
pub mendings_hold :
    -- The lamp drawing; with part of a record behind it.
    (mending lamp ≡ as_lamp 0 (7 ∷ 7 ∷ []))
    × (mending (lamp ++ take 7 lamp) ≡ as_lamp 1 (12 ∷ 7 ∷ []))
    -- Two connections enter one input: the earlier stays; and with part of a record behind them.
    × (mending lamp_twice ≡ as_lamp 1 (9 ∷ 7 ∷ []))
    × (mending (lamp_twice ++ take 7 lamp) ≡ as_lamp 2 (9 ∷ 13 ∷ []))
    -- Two maps do.
    × (mending (lamp_with 11 (input_map_bytes 3 1 0 0)) ≡ as_lamp 1 (11 ∷ 7 ∷ []))
    -- A connection from a child, and one from an output, that is not there: what it would enter is entered by the connection behind it, which stays.
    × (mending (lamp_with 6 (connection_bytes 0 9 0 2 0)) ≡ as_lamp 1 (6 ∷ 7 ∷ []))
    × (mending (lamp_with 6 (connection_bytes 0 0 1 2 0)) ≡ as_lamp 1 (6 ∷ 7 ∷ []))
    -- A map of an input that the box has not.
    × (mending (lamp_with 9 (input_map_bytes 3 2 0 0)) ≡ as_lamp 1 (9 ∷ 7 ∷ []))
    -- A connection in front of the root, to an input that the child has not.
    × (mending (lamp_with 0 (connection_bytes 0 0 0 0 0)) ≡ as_lamp 1 (0 ∷ 7 ∷ []))
    -- A connection that check 3 would refuse, of an owner that is no composite.
    × (mending (lamp ++ record_bytes 2 9 7 0 0 0 0 0 0) ≡ as_lamp 1 (12 ∷ 7 ∷ []))
    -- Without the Output the connection to it goes.
    × (mending (lamp_without 5)
    ≡ record { given = done (240 ∷ 1 ∷ []); list = 7 ∷ 7 ∷ []; front = take 240 (mended (lamp_without 5)) ++ replicate 48 7 })
    × (mended (lamp_without 5) ≡ take 120 lamp ++ take 48 (drop 144 lamp) ++ drop 216 lamp)
    × (dropped (lamp_without 5) ≡ 7 ∷ [])
    -- Without the Nor its maps go, and the output map is refused where it then stands.
    × (mending (lamp_without 4) ≡ refused_as 12 8)
    × (dropped (lamp_without 4) ≡ 8 ∷ 9 ∷ [])
    -- Without the box; without its output map.
    × (mending (lamp_without 3) ≡ refused_as 5 3)
    × (mending (lamp_without 11) ≡ refused_as 14 3)
    -- An output map is never dropped: one too many; one of a child that is not there; one of an owner that is none.
    × (mending (lamp ++ output_map_bytes 3 0 0) ≡ refused_as 14 3)
    × (mending (lamp ++ output_map_bytes 3 9 0) ≡ refused_as 12 12)
    × (mending (lamp ++ output_map_bytes 7 0 0) ≡ refused_as 5 12)
    -- No whole record; no record left.
    × (mending (take 7 lamp) ≡ refused_as 1 0)
    × (mending (connection_bytes 0 0 0 0 0) ≡ refused_as 1 0)
    -- One record too many, also where the buffer is too short; as many as may be.
    × (mending (replicate 24600 0) ≡ refused_as 1 0)
    × (mending (replicate 24599 0) ≡ refused_as 2 0)
    -- A buffer and a list one too short.
    × (mending_by 287 1025 lamp ≡ record { given = declined (record { number = 2; position = 0; earlier = 0 }); list = 7 ∷ 7 ∷ []; front = replicate 287 7 })
    × (mending_by 400 1024 lamp ≡ refused_as 2 0)
unfolding judgement verdict overlay deepest obeys output_below inputs_below comes_from goes_to refused12 kept_records mended dropped mend_verdict
mendings_hold = (refl, refl, refl, refl, refl, refl, refl, refl, refl, refl, refl, refl, refl, refl, refl, refl, refl, refl, refl, refl, refl, refl, refl, refl, refl, refl)
