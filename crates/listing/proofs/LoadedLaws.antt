-- What the load leaves is what the listing is of: an accepted file leaves a net, a refused one its refusal.
-- Assumes nothing.
use mathlib.Core.Path.{◌≡◌, refl, sym, ap, ◌∙◌}
use mathlib.Core.List.{List, ◌++◌}
use Prim.Native.Nat.{ℕ, ◌≤◌}
use native.Mathlib.Omega.{arith}
use lib.ListN.{length}
use lib.Seq.{length-sets}
use Rattle.kinds.specs.declared.answers.Refusal.{Refusal}
use Rattle.kinds.specs.Given.{done, declined, Verdict, verdict_gives}
use Rattle.kinds.proofs.GivenLaws.{done_declined, declined_refusal}
use Rattle.component.specs.Record.{IsBytes}
use Rattle.tables.specs.declared.Counts.{Counts}
use Rattle.tables.specs.Tables.{Tables, count_words, answer_gives, counts_after}
use Rattle.load.specs.Load.{load_verdict, load_tables, Loads}
use Rattle.net.specs.Net.{net_number}
use Rattle.net.proofs.NetLaws.{net_number-0}
use Rattle.loaded.proofs.LoadTheorems.{accepted_net, accepted-full_size}
use Rattle.simulator.proofs.CallsLaws.{counted}
use Rattle.text.specs.Text.{Puts}
use Rattle.lines.specs.Lines.{components_text, wires_text, refused_line}
use Rattle.running.specs.Running.{round_lines}
use Rattle.listing.specs.Listing.{fresh, listed_text, listing}
use Rattle.std.specs.Prelude.{Result, Ok, Err}

-- A part ends inside the buffer.
pub inside : {t bs u : List ℕ} {at m : ℕ} → Puts t at bs u m → m ≤ length u
inside {t} {bs} {u} {at} p =
    let kept : length u ≡ length t = ap length p.buffer ∙ length-sets t at bs in
    omega (arith, p.place)

-- An answer that gives counts is that of an accepted file, one that gives a refusal of a file so refused.
gives_done : (w : Verdict) (xs ys : List ℕ) → done xs ≡ verdict_gives w ys → w ≡ Ok tt
gives_done (Ok _) xs ys e = refl
gives_done (Err x) xs ys e = absurd (done_declined xs x e)

gives_declined : (w : Verdict) (x : Refusal) (ys : List ℕ) → declined x ≡ verdict_gives w ys → w ≡ Err x
gives_declined (Ok _) x ys e = absurd (done_declined ys x (sym e))
gives_declined (Err y) x ys e = ap Err (sym (declined_refusal x y e))

-- An accepted file leaves a net.
pub loaded_number : (file : List ℕ) → IsBytes file → load_verdict file fresh ≡ Ok tt → net_number (load_tables file fresh) ≡ 0
loaded_number file bytes e = sym (net_number-0 (load_tables file fresh) (accepted-full_size file fresh e) (accepted_net file fresh e bytes))

module _ (file : List ℕ) (a : Result Counts Refusal) (U : Tables) (loads : Loads file fresh a (counted U (counts_after a fresh.counts))) where
  -- A refused file.
  pub listed_refused : (x : Refusal) → a ≡ Err x → refused_line x ≡ listing file
  unfolding listing
  listed_refused x e =
      let w : load_verdict file fresh ≡ Err x =
      gives_declined (load_verdict file fresh) x (count_words (counts_after a fresh.counts)) (ap answer_gives (sym e) ∙ loads.0) in
      ap (λ (v : Verdict). listed_text v (load_tables file fresh)) (sym w)

  -- An accepted file: its tables, with the counts of the answer.
  module _ (m : Counts) (e : a ≡ Ok m) where
    accepted : load_verdict file fresh ≡ Ok tt
    accepted =
        gives_done (load_verdict file fresh) (count_words m) (count_words (counts_after a fresh.counts)) (ap answer_gives (sym e) ∙ loads.0)

    made : counted U m ≡ load_tables file fresh
    made = ap (λ (b : Result Counts Refusal). counted U (counts_after b fresh.counts)) (sym e) ∙ loads.1

    pub listed_net : IsBytes file → net_number (counted U m) ≡ 0
    listed_net bytes = ap net_number made ∙ loaded_number file bytes accepted

    pub listed_done :
        components_text (counted U m) ++ wires_text (counted U m) ++ round_lines 16 1 (counted U m) ≡ listing file
    unfolding listing
    listed_done = ap (listed_text (Ok tt)) made ∙ ap (λ (v : Verdict). listed_text v (load_tables file fresh)) (sym accepted)
