-- What reading a record answers, and what is seen of one, as its nine numbers.
-- Nobody has to believe anything here: each word ties an enum of the code to the nine numbers of specs/Record.antt, of which the checks speak.
-- Assumes nothing.
use Rattle.std.specs.Prelude.{◌≡◌, ℕ, ◌<◌, Bool, false, cond, ◌&&◌, List, eqb, Option, Some, None}
use Rattle.lists.specs.Lists.{within}
use Rattle.kinds.specs.declared.table.Fields.{Fields}
use Rattle.kinds.specs.Kinds.{no_kind}
use Rattle.component.specs.declared.Record.{Record}
use Rattle.component.specs.declared.Says.{Says}
use Rattle.component.specs.declared.Says.TheVariants.{Component, Connection, InputMap, OutputMap}
use Rattle.component.specs.declared.Reading.{Reading}
use Rattle.component.specs.declared.Reading.TheVariants.{Taken, Refused}
use Rattle.component.specs.declared.Component.{Component as Seen}
use Rattle.component.specs.Record.{no_record, well_formed, record_at, record_count, entering, to_of, input_of}

-- Its record kind, its owner and its id, as laws speak of them.
abbrev pub form_of : Record → ℕ
form_of r = r.form

abbrev pub owner_of : Record → ℕ
owner_of r = r.owner

abbrev pub id_of : Record → ℕ
id_of r = r.id

-- The nine numbers of a record of owner o that is taken apart.
abbrev pub apart : ℕ → Says → Record
apart o (Component i f) =
    record {
      form = 1;
      kind = f.kind;
      owner = o;
      a = f.inputs;
      b = f.outputs;
      c = f.width;
      d = 0;
      id = i.0;
      parameter = f.parameter;
    }
apart o (Connection a b c d) =
    record { form = 2; kind = 0; owner = o; a = a.0; b = b; c = c.0; d = d; id = 0; parameter = 0 }
apart o (InputMap a c d) = record { form = 3; kind = 0; owner = o; a = a; b = 0; c = c.0; d = d; id = 0; parameter = 0 }
apart o (OutputMap a b) = record { form = 4; kind = 0; owner = o; a = a.0; b = b; c = 0; d = 0; id = 0; parameter = 0 }

-- What a record says by its record kind alone: the numbers that the kind leaves at 0 are left out. Of a kind past 3 it is what an output map says.
abbrev pub bared : Record → Record
bared r =
    cond (eqb r.form 1)
    (apart r.owner (Component (record { 0 = r.id })
    (record { kind = r.kind; inputs = r.a; outputs = r.b; width = r.c; parameter = r.parameter })))
    (cond (eqb r.form 2) (apart r.owner (Connection (record { 0 = r.a }) r.b (record { 0 = r.c }) r.d))
    (cond (eqb r.form 3) (apart r.owner (InputMap r.a (record { 0 = r.c }) r.d))
    (apart r.owner (OutputMap (record { 0 = r.a }) r.b))))

-- The same, and no record where the kind is none.
abbrev pub said_by : Record → Record
said_by r = cond (within 1 4 r.form) (bared r) no_record

-- Its record kind.
abbrev pub form_by : Says → ℕ
form_by (Component i f) = 1
form_by (Connection a b c d) = 2
form_by (InputMap a c d) = 3
form_by (OutputMap a b) = 4

-- What reading answers, as nine numbers.
abbrev pub said : Reading → Record
said (Taken o s) = apart o s
said (Refused k) = no_record

-- Its number; 0 where the record is taken apart.
abbrev pub number : Reading → ℕ
number (Taken o s) = 0
number (Refused k) = k

-- What is seen of a record: the component, taken apart, or that it is none.
abbrev pub StandsAs : Option Seen → Record → Type 0
StandsAs (Some x) r = r ≡ apart x.owner (Component x.id x.fields)
StandsAs None r = form_of r ≡ 1 → ⊥

-- The number of a check that fails, else 0.
abbrev pub given : ℕ → Bool → ℕ
given k b = cond b k 0

-- Nine numbers as a record, or none where check 3 refuses them.
abbrev pub record_in : Record → Record
record_in r = cond (well_formed r) r no_record

-- Check 3 refuses no record of the file.
abbrev pub Readable : List ℕ → Type 0
Readable file = (p : ℕ) → p < record_count file → eqb (record_at file p).form 0 ≡ false

-- A component of id i.
abbrev pub has_id : ℕ → Record → Bool
has_id i r = eqb r.form 1 && eqb r.id i

-- It enters input d of child c of owner o.
abbrev pub enters : ℕ → ℕ → ℕ → Record → Bool
enters o c d r = entering r && eqb r.owner o && eqb (to_of r) c && eqb (input_of r) d

-- What a record that is no component has for fields: of a number that is no kind, without ports.
abbrev pub no_fields : Fields
no_fields = record { kind = no_kind; inputs = 0; outputs = 0; width = 0; parameter = 0 }
