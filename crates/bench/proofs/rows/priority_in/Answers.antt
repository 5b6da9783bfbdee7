-- `rows::priority_in` meets its contract: each arm's constructor has the priority.
use Rattle.bench.proofs.rows.priority_in.Goals as goal

pub returns-in-Token : goal.returns-in-Token
returns-in-Token c = rw c.in-Token.is

pub returns-in-Information : goal.returns-in-Information
returns-in-Information c = rw c.in-Information.is
