-- A load that is accepted leaves a net: check 16 passes on its tables, and check 2 as well.
-- docs/SPECIFICATION.md, "Numbers given back".
-- Assumes nothing.
use mathlib.Core.Path.{◌≡◌, ap, ◌∙◌}
use mathlib.Core.Bool.{true}
use mathlib.Core.List.{List}
use Prim.Native.Nat.{ℕ, ◌^◌, ◌<◌}
use Rattle.component.specs.declared.Record.{Record}
use Rattle.component.specs.Record.{IsBytes, record_at, record_count, is_primitive}
use Rattle.component.specs.Reading.{id_of}
use Rattle.flatten.proofs.Accepted.{Passed, accepted_passed}
use Rattle.flatten.proofs.Ends.{SameWidths}
use Rattle.flatten.proofs.WireTheorems.{accepted_wires_width}
use Rattle.tables.specs.Tables.{Tables, full_size}
use Rattle.load.specs.Load.{drawing_tables, load_verdict, load_tables}
use Rattle.load.proofs.LoadLaws.{load_passed}
use Rattle.net.specs.Net.{is_net}
use Rattle.tables.proofs.SameLaws.{same_lengths-full_size}
use Rattle.loaded.proofs.Sizes.{loaded_lengths}
use Rattle.loaded.proofs.Drawn.{loaded_drawn}
use Rattle.loaded.proofs.DrawnNet.{drawn-kinds_obeyed, drawn-ids_distinct, drawn-ports_follow, drawn-wires_fit}
use Rattle.loaded.proofs.DrawnNet.{drawn-inputs_once}
use Rattle.loaded.proofs.LoadedNet.{loaded-counts_within, loaded-values_fit, loaded-consts_held}
use Rattle.loaded.proofs.LoadedNet.{loaded_names_current, loaded_names_following, loaded_names_standing}
use Rattle.loaded.proofs.Bytes.{record_at-id}
use Rattle.std.specs.Prelude.{Ok}

-- The tables that a drawing that passes every check is loaded into are a net, if its ids have 32 bits.
pub loaded_net : (at : ℕ → Record) (n : ℕ) → Passed at n → SameWidths at n → (T : Tables)
    → ((c : ℕ) → is_primitive (at c) ≡ true → id_of (at c) < 2 ^ 32) → is_net (drawing_tables at n T) ≡ true
unfolding is_net
loaded_net at n d widths T narrow =
    let drawn = loaded_drawn at n d T in
    rw (
      loaded-counts_within at n d T,
      drawn-kinds_obeyed at n d _ drawn,
      drawn-ids_distinct at n d _ drawn narrow,
      drawn-ports_follow at n d _ drawn,
      loaded-values_fit at n d T,
      loaded-consts_held at n d T,
      drawn-wires_fit at n d _ drawn widths,
      drawn-inputs_once at n d _ drawn,
      loaded_names_current at n d T,
      loaded_names_following at n d T,
      loaded_names_standing at n d T,
    )

module _ (file : List ℕ) (T : Tables) (accepted : load_verdict file T ≡ Ok tt) where
  -- No record of the file of an accepted load fails a check.
  pub load_checked : Passed (record_at file) (record_count file)
  load_checked = accepted_passed file (load_passed file T accepted).judged

  -- An accepted load leaves what `drawing_tables` says.
  pub load_loaded : load_tables file T ≡ drawing_tables (record_at file) (record_count file) T
  unfolding load_tables
  load_loaded = rw accepted

  -- It leaves tables of full size,
  pub load-full_size : full_size (load_tables file T) ≡ true
  load-full_size =
      ap full_size load_loaded
      ∙ same_lengths-full_size T (drawing_tables (record_at file) (record_count file) T)
      (loaded_lengths (record_at file) (record_count file) load_checked T (load_passed file T accepted).full)
      (load_passed file T accepted).full

  -- and the tables are a net.
  pub load_net : IsBytes file → is_net (load_tables file T) ≡ true
  load_net bytes =
      ap (λ (U : Tables). is_net U) load_loaded
      ∙ loaded_net (record_at file) (record_count file) load_checked (accepted_wires_width file (load_passed file T accepted).judged) T
      (λ c e. record_at-id file bytes c)
