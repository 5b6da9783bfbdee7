-- `moves::is_waiting` meets its contract: the state's number is compared.
use Rattle.std.proofs.Common.{ℕ, eqb, ap}
use Rattle.parts.proofs.moves.is_waiting.Goals as goal

pub returns : goal.returns
returns c = ap (λ (k : ℕ). eqb k 2) c.state_number.ensures
