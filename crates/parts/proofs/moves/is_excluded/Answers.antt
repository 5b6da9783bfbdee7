-- `moves::is_excluded` meets its contract: the state's number is compared.
use Rattle.std.proofs.Common.{ℕ, eqb, ap}
use Rattle.parts.proofs.moves.is_excluded.Goals as goal

pub returns : goal.returns
returns c = ap (λ (k : ℕ). eqb k 4) c.state_number.ensures
