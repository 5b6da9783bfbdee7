-- `reading::look_number` meets its contract: an offset that looking at a packet gives has 16 bits.
use mathlib.Core.Path.{subst, ◌∙◌}
use Prim.Native.Nat.{◌<◌}
use Rattle.packet_codec.specs.Packet.{Below}
use borrow.Author.Rules.{rules}
use Rattle.packet_codec.proofs.reading.look_number.Goals as goal

pub overflow_cast-at : goal.overflow_cast-at
overflow_cast-at c =
    let small : c.in-Bad.at < 65536 = subst (Below 65536) c.in-Bad.is c.requires in
    search (rules, small)

pub returns-in-Bad : goal.returns-in-Bad
returns-in-Bad c = c.number_of.ensures ∙ rw c.in-Bad.is
