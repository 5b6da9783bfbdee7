use mathlib.Core.Path.{◌≡◌, sym, ◌∙◌}
use Prim.Native.Nat.{◌<◌}
use native.Mathlib.Omega.{arith}
use Rattle.codec.specs.Octets.{zeros}
use Rattle.codec.specs.Ring.{channels_of}
use Rattle.codec.proofs.Laws.Bits.{bits_below}
use Rattle.codec.proofs.Laws.Octets.{laid_none}
use Rattle.replay.proofs.Laws.Opening.{channels_small, member_in, channels_more, channels_all}
use Rattle.replay.proofs.begin.channels_of.Goals as goal
use Rattle.replay.proofs.begin.channels_of.Goals.{In-loop-p}

pub loop-p-init : goal.loop-p-init
unfolding channels_of
loop-p-init c = (omega arith, sym (laid_none (zeros 64) 0))

-- a position of the ring
below : (c : In-loop-p) → c.loop-p.p < 64
below c =
    omega (arith, c.loop-p-test.true, c.requires.0, bits_below c.args.file.now 4 6)

pub channels_at-requires : goal.channels_at-requires
channels_at-requires c =
    (below c, member_in c.args.file.now c.loop-p.p c.args.n c.loop-p-test.true c.requires.1)

pub overflow_cast-channels : goal.overflow_cast-channels
overflow_cast-channels c = omega (arith, c.channels_at.ensures, channels_small c.args.file.now c.loop-p.p)

pub bounds-channels-p : goal.bounds-channels-p
bounds-channels-p c = below (goal.at.bounds-channels-p c).In-loop-p

pub overflow_add-p : goal.overflow_add-p
overflow_add-p c = omega arith

pub loop-p-smaller : goal.loop-p-smaller
loop-p-smaller c = omega arith

pub loop-p-preserved : goal.loop-p-preserved
loop-p-preserved c =
    let l = c.loop-p in
    let file = c.args.file.now in
    (omega (arith, c.loop-p-test.true), channels_more file l.channels l.p c.channels_at.result (below (goal.at.loop-p-preserved c).In-loop-p) c.channels_at.ensures l.invariant.1)

pub returns : goal.returns
returns c =
    let l = c.loop-p in
    let e : l.p ≡ c.args.n = omega arith in
    channels_all c.args.file.now _ l.p (e ∙ c.requires.0) l.invariant.1
