-- `fields::look_pad` meets its contract: the first bad pad octet is the first that is not zero.
use mathlib.Core.Path.{◌≡◌, sym, ◌∙◌}
use Prim.Native.Nat.{◌+◌, ◌-◌}
use native.Mathlib.Omega.{arith}
use borrow.Author.Tests.{lt-ltb, le-ltb}
use Rattle.packet_codec.specs.Packet.{pad_tests}
use Rattle.packet_codec.proofs.Laws.Packet.{pad_looked}
use Rattle.packet_codec.proofs.fields.look_pad.Goals as goal

pub returns-then-from-ge-SHORT : goal.returns-then-from-ge-SHORT
unfolding pad_tests
returns-then-from-ge-SHORT c =
    let a = c.args in
    let e : 46 - a.from ≡ 0 = omega arith in
    rw e

pub returns-then-at-lt-SHORT : goal.returns-then-at-lt-SHORT
returns-then-at-lt-SHORT c =
    let a = c.args in
    let e : a.from + (46 - a.from) ≡ 46 = omega arith in
    sym (pad_looked a.s.now a.from (46 - a.from) ∙ rw (e, ← c.nonzero-at.ensures, lt-ltb _ _ c.if-at-lt-SHORT.true))

pub returns : goal.returns
returns c =
    let a = c.args in
    let e : a.from + (46 - a.from) ≡ 46 = omega arith in
    sym (pad_looked a.s.now a.from (46 - a.from) ∙ rw (e, ← c.nonzero-at.ensures, le-ltb _ _ c.if-at-lt-SHORT.false))
