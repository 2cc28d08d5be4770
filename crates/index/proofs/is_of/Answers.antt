-- `is_of`: in each arm the record is of the variant that the arm names.
-- Assumes nothing.
use Rattle.index.proofs.is_of.Goals as goal

pub returns-in-Component : goal.returns-in-Component
returns-in-Component c = rw c.in-Component.is

pub returns-in-Connection : goal.returns-in-Connection
returns-in-Connection c = rw c.in-Connection.is

pub returns-in-InputMap : goal.returns-in-InputMap
returns-in-InputMap c = rw c.in-InputMap.is

pub returns-in-OutputMap : goal.returns-in-OutputMap
returns-in-OutputMap c = rw c.in-OutputMap.is
