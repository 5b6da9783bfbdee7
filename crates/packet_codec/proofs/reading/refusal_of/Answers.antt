-- `reading::refusal_of` meets its contract: at each return the tests that led there say which is the first that holds.
use mathlib.Core.Path.{◌∙◌}
use borrow.Author.Tests.{lt-ltb, le-ltb}
use Rattle.packet_codec.specs.Packet.{packet_of, read_packet}
use Rattle.packet_codec.proofs.Laws.Packet.{fields_number}
use Rattle.packet_codec.proofs.Laws.Looked.{looked_fits}
use Rattle.packet_codec.proofs.reading.refusal_of.Goals as goal

pub returns-then-s-lt-SHORT : goal.returns-then-s-lt-SHORT
unfolding read_packet
returns-then-s-lt-SHORT c = simp (lt-ltb _ _ c.if-s-lt-SHORT.true)

pub returns-then-s-gt-LONGEST : goal.returns-then-s-gt-LONGEST
unfolding read_packet
returns-then-s-gt-LONGEST c = simp (le-ltb _ _ c.if-s-lt-SHORT.false, lt-ltb _ _ c.if-s-gt-LONGEST.true)

pub returns-then-identifier-lt1 : goal.returns-then-identifier-lt1
unfolding read_packet
returns-then-identifier-lt1 c = simp (le-ltb _ _ c.if-s-lt-SHORT.false, le-ltb _ _ c.if-s-gt-LONGEST.false, lt-ltb _ _ c.if-identifier-lt1.true)

pub returns-then-identifier-gt3 : goal.returns-then-identifier-gt3
unfolding read_packet
returns-then-identifier-gt3 c = simp (le-ltb _ _ c.if-s-lt-SHORT.false, le-ltb _ _ c.if-s-gt-LONGEST.false, le-ltb _ _ c.if-identifier-lt1.false, lt-ltb _ _ c.if-identifier-gt3.true)

pub look_number-requires : goal.look_number-requires
look_number-requires c = let a = c.args in
    looked_fits a.ring.now a.s.now (packet_of a.s.now) _ c.look_long.ensures

pub returns-then-identifier-eq3 : goal.returns-then-identifier-eq3
returns-then-identifier-eq3 c = c.look_number.ensures ∙ fields_number _ _ _ c.if-s-lt-SHORT.false c.if-s-gt-LONGEST.false c.if-identifier-lt1.false c.if-identifier-gt3.false c.look_long.ensures

pub look_number-requires-2 : goal.look_number-requires-2
look_number-requires-2 c = let a = c.args in
    looked_fits a.ring.now a.s.now (packet_of a.s.now) _ c.look_short.ensures

pub returns : goal.returns
returns c = c.look_number-2.ensures ∙ fields_number _ _ _ c.if-s-lt-SHORT.false c.if-s-gt-LONGEST.false c.if-identifier-lt1.false c.if-identifier-gt3.false c.look_short.ensures
