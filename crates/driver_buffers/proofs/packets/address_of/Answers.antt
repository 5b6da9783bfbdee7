-- `packets::address_of` meets its contract: past the ring the address is 0.
use mathlib.Core.Path.{sym}
use lib.ListN.{get_or-eq_default}
use Rattle.driver_buffers.proofs.packets.address_of.Goals as goal

pub returns-else-i-ring : goal.returns-else-i-ring
returns-else-i-ring c = sym (get_or-eq_default c.args.ring.now 0 c.if-i-ring.false)
