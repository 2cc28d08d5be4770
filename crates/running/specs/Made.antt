-- What the functions of one round answer. Only contracts of functions of this crate cite it; nobody has to believe anything here.
-- Assumes nothing.
use Rattle.std.specs.Prelude.{◌≡◌, Bool, true}
use Rattle.tables.specs.Tables.{Tables}
use Rattle.rounds.specs.Round.{calm}
use Rattle.simulator.specs.Calls.{round_tables}
use Rattle.std.specs.Prelude.{Result, Ok, Err}
use Rattle.kinds.specs.declared.answers.Refusal.{Refusal}

-- Calm or not; a refusal, which a net never gets, ends the rounds.
abbrev pub calm_of : Result Bool Refusal → Bool
calm_of (Ok b) = b
calm_of (Err x) = true

-- What the function of one round promises: U are the tables after a round of T at time 0, and c says whether it left calm.
pub record RoundMade (T U : Tables) (c : Bool) : Type 0 where
  pub tables : U ≡ round_tables T 0
  pub calmly : c ≡ calm U
