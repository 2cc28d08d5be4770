-- What the passes of src/ write, one record after the other. Nobody has to believe anything here: each word only shortens what a
-- definition of specs/Laid.antt says.
--   Written t k xs u m    u is the table t with xs written from place k on, and m is the place past them
-- Assumes nothing.
use Rattle.std.specs.Prelude.{◌≡◌, ℕ, ◌+◌, ◌<◌, Bool, cond, ◌||◌, List, [], ◌∷◌, length, get_or, eqb, Option, Some, None}
use Rattle.std.proofs.lemmas.List.Edits.{sets}
use Rattle.lists.specs.Lists.{joined}
use Rattle.kinds.specs.declared.table.Fields.{Fields}
use Rattle.kinds.specs.declared.Kind.TheVariants.{Clock, Const}
use Rattle.kinds.specs.Kinds.{is}
use Rattle.primitive.specs.Evaluate.{starting}
use Rattle.kinds.specs.declared.Id.{Id}
use Rattle.component.specs.declared.Record.{Record}
use Rattle.component.specs.Record.{record_at, record_count, fields_of, is_primitive}
use Rattle.component.specs.Reading.{id_of, form_of}
use Rattle.component.specs.Drawing.{primitives_before, inputs_before, outputs_before}
use Rattle.index.specs.Index.{IsIndex}
use Rattle.flatten.specs.declared.Pin.{Pin}
use Rattle.flatten.specs.Descent.{comes_from, goes_to, flat}
use Rattle.flatten.specs.Verdict.{verdict}
use Rattle.tables.specs.declared.End.{End}
use Rattle.tables.specs.Tables.{component_words, end_at, wire_words}
use Rattle.laying.specs.declared.names.Stood.{Stood}
use Rattle.laying.specs.declared.rows.Primitive.{Primitive}
use Rattle.laying.specs.declared.rows.Before.{Before}
use Rattle.laying.specs.Laid.{flat_pin}
use Rattle.std.specs.Prelude.{Ok}

pub record Written (t : List ℕ) (k : ℕ) (xs : List ℕ) (u : List ℕ) (m : ℕ) : Type 0 where
  pub table : u ≡ sets t k xs
  pub place : m ≡ k + length xs

abbrev pub seen_if : Bool → Record → Option Primitive
seen_if b r = cond b (Some (record { id = record { 0 = id_of r }; fields = fields_of r })) None

abbrev pub seen : Record → Option Primitive
seen r = seen_if (is_primitive r) r

abbrev pub component_by : Id → Fields → Before → List ℕ
component_by d f b = component_words d.0 f b.inputs b.outputs

abbrev pub row_by : Option Primitive → Before → List ℕ
row_by (Some x) b = component_by x.id x.fields b
row_by None b = []

abbrev pub before_by : Option Primitive → Before → Before
before_by (Some x) b =
    record { components = b.components + 1; inputs = b.inputs + x.fields.inputs; outputs = b.outputs + x.fields.outputs }
before_by None b = b

abbrev pub outputs_by : Option Primitive → List ℕ
outputs_by (Some x) = starting x.fields
outputs_by None = []

abbrev pub standing_if : Bool → ℕ → List ℕ
standing_if b i = cond b (i ∷ []) []

abbrev pub standing_by : Option Primitive → ℕ → List ℕ
standing_by (Some x) i = standing_if (is Const x.fields || is Clock x.fields) i
standing_by None i = []

abbrev pub stood_by : Option Primitive → Stood → Stood
stood_by (Some x) s =
    record { components = s.components + 1; count = cond (is Const x.fields || is Clock x.fields) (s.count + 1) s.count }
stood_by None s = s

abbrev pub starting_of : (ℕ → Record) → ℕ → List ℕ
starting_of at p = starting (fields_of (at p))

abbrev pub outputs_laid : (ℕ → Record) → ℕ → List ℕ
outputs_laid at p = outputs_by (seen (at p))

-- A port of the drawing as a table of flat indexes has it, and the words of a wire to it from the output f of the net.
abbrev pub end_by : List ℕ → Pin → End
end_by fs t = end_at (get_or fs t.comp 0) t.port

abbrev pub lead_by : List ℕ → End → Pin → List ℕ
lead_by fs f t = wire_words (record { src = f; dst = end_by fs t })

module _ (at : ℕ → Record) (n : ℕ) where
  abbrev pub before_at : ℕ → Before
  before_at p =
      record { components = length (primitives_before at p); inputs = inputs_before at p; outputs = outputs_before at p }

  abbrev pub row_at : ℕ → List ℕ
  row_at p = row_by (seen (at p)) (before_at p)

  abbrev pub standing_at : ℕ → List ℕ
  standing_at p = standing_by (seen (at p)) (flat at n p)

  pub record IsFlat (t : List ℕ) : Type 0 where
    pub size : length t ≡ 256
    pub word : (c : ℕ) → c < 256 → get_or t c 0 ≡ flat at n c

  -- The words of a wire from the output f of the net to the input t of the drawing.
  abbrev pub lead_words : End → Pin → List ℕ
  lead_words f t = wire_words (record { src = f; dst = flat_pin at n t })

  abbrev pub wires_given : ℕ → List ℕ
  wires_given p =
      cond (eqb (form_of (at p)) 2) (joined (lead_words (flat_pin at n (comes_from at n p))) (goes_to at n p)) []

pub record Ready (s index fs : List ℕ) : Type 0 where
  pub accepted : verdict s ≡ Ok tt
  pub indexed : IsIndex s index
  pub indexes : IsFlat (record_at s) (record_count s) fs
