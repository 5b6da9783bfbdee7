-- `ring::members` meets its contract.
use mathlib.Core.Path.{sym}
use lib.Seq.{take_all, length-take-le}
use native.Mathlib.Nat.{le_of_lt}
use Rattle.codec.proofs.ring.members.Goals as goal

pub slice_bounds-result-end : goal.slice_bounds-result-end
slice_bounds-result-end c = sym (length-take-le c.args.n c.args.addresses.now c.if-n-addresses.true)

pub returns-else-n-addresses : goal.returns-else-n-addresses
returns-else-n-addresses c = sym (take_all c.args.n c.args.addresses.now (le_of_lt c.if-n-addresses.false))
