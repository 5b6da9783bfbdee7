-- `fields::belongs` meets its contract.
use mathlib.Core.Path.{◌∙◌}
use borrow.Author.Tests.{lt-ltb, le-ltb}
use Rattle.packet_codec.specs.Packet.{belongs}
use Rattle.packet_codec.proofs.fields.belongs.Goals as goal

pub returns-then-address-lt281474976710656 : goal.returns-then-address-lt281474976710656
unfolding belongs
returns-then-address-lt281474976710656 c = c.is_member.ensures ∙ simp (lt-ltb _ _ c.if-address-lt281474976710656.true)

pub returns : goal.returns
unfolding belongs
returns c = simp (le-ltb _ _ c.if-address-lt281474976710656.false)
