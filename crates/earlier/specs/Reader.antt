-- Readers of earlier days. docs/SPECIFICATION.md, "The drawing file". Some components of today are newer than such a reader: it takes numbers of theirs
-- for one that is none, and answers a file, or tables, as it takes them. So it needs no definitions of its own.
--   unheard                  a number that is no kind and no C, and stays none
--   file_taken, tables_taken   a file, and the tables of a net, as a reader takes them
--   ChecksNewer              a check that it makes fails where it fails, and at each newer component
--   LoadsAlike, RunsAlike    a file that it accepts is accepted, loads to the same tables and runs alike
--   AnswersFirst             any other file that is accepted gets a number from it, at the first component of a sort
-- Assumes nothing.
use Rattle.std.specs.Prelude.{◌≡◌, ℕ, ◌/◌, ◌%◌, Bool, cond, ◌&&◌, ◌||◌, List, map, length, get_or, eqb, ltb}
use Rattle.std.proofs.Math.Option.{some}
use Rattle.lists.specs.Lists.{from, first}
use Rattle.kinds.specs.declared.table.Fields.{Fields}
use Rattle.component.specs.declared.Record.{Record}
use Rattle.component.specs.Record.{record_at, loose_at, record_count, fields_of}
use Rattle.component.specs.Drawing.{is_component}
use Rattle.flatten.specs.Verdict.{refused}
use Rattle.meeting.specs.Meeting.{judgement}
use Rattle.tables.specs.Tables.{Tables, tables_of, fields_at}
use Rattle.load.specs.Load.{load_verdict, load_tables}
use Rattle.demands.specs.Reached.{Reached}
use Rattle.std.specs.Prelude.{Ok}

-- A number that is no kind and no C, and stays none.
abbrev pub unheard : ℕ
unheard = 255

-- Byte i of a file, as a reader takes it that does not know the components which are `newer`: at some places of their records it takes `unheard`.
abbrev pub byte_taken : (ℕ → Bool) → (Fields → Bool) → List ℕ → ℕ → ℕ
byte_taken places newer file i =
    let r = loose_at file (i / 24) in cond (places (i % 24) && eqb r.form 1 && newer (fields_of r)) unheard (get_or file i 0)

-- A file so.
abbrev pub file_taken : (ℕ → Bool) → (Fields → Bool) → List ℕ → List ℕ
file_taken places newer file = map (byte_taken places newer file) (from 0 (length file))

-- Word j of the components' table, of which each component in use has 8: word k of the newer ones it takes for `unheard`.
abbrev pub word_taken : ℕ → (Fields → Bool) → Tables → ℕ → ℕ
word_taken k newer T j =
    let i = j / 8 in
    cond (eqb (j % 8) k && ltb i T.counts.components && newer (fields_at T i)) unheard (get_or T.components j 0)

-- The tables so.
abbrev pub tables_taken : ℕ → (Fields → Bool) → Tables → Tables
tables_taken k newer T =
    tables_of (map (word_taken k newer T) (from 0 (length T.components))) T.inputs T.outputs T.wires T.current T.following
    T.standing T.counts

-- Of any file, a check that the reader makes fails at a record where it fails, and where the record is that of a newer component.
abbrev pub ChecksNewer : (List ℕ → List ℕ) → ((ℕ → Record) → ℕ → Bool) → (Fields → Bool) → Type 0
ChecksNewer taken fails newer =
    (file : List ℕ) (p : ℕ)
    → fails (record_at (taken file)) p ≡ (fails (record_at file) p || (is_component (record_at file) p && newer (fields_of (record_at file p))))

-- Every file that the reader accepts is accepted, and loads to the same tables.
abbrev pub LoadsAlike : (List ℕ → List ℕ) → Type 0
LoadsAlike taken =
    (file : List ℕ) → judgement (taken file) ≡ Ok tt
    → (judgement file ≡ Ok tt)
    × ((T : Tables) → (load_verdict file T ≡ load_verdict (taken file) T) × (load_tables file T ≡ load_tables (taken file) T))

-- It runs alike: whatever is reached from it the reader reaches, and takes for what it is, so that each further call does the same there.
abbrev pub RunsAlike : (List ℕ → List ℕ) → (Tables → Tables) → Type 0
RunsAlike taken seen =
    (file : List ℕ) (ran : Bool) (t : ℕ) (T : Tables) → judgement (taken file) ≡ Ok tt → Reached file ran t T
    → Reached (taken file) ran t T × (seen T ≡ T)

-- Any other file that is accepted gets number k from it, at its first component of a sort.
abbrev pub AnswersFirst : (List ℕ → List ℕ) → ℕ → (Fields → Bool) → Type 0
AnswersFirst taken k sort =
    (file : List ℕ) → judgement file ≡ Ok tt → (judgement (taken file) ≡ Ok tt → ⊥)
    → (p : ℕ) × (first (λ q. sort (fields_of (record_at file q))) (from 0 (record_count file)) ≡ some p)
    × (judgement (taken file) ≡ refused k p)
