-- `channels::listens` meets its contract.
use mathlib.Core.Path.{sym, ap, ◌∙◌}
use Prim.Native.Nat.{ℕ, ◌+◌, ◌≤◌, ◌<◌}
use native.Mathlib.Omega.{arith}
use Rattle.codec.specs.Ring.{form, file_octets, count, is_open}
use Rattle.codec.proofs.Laws.Bits.{bits_below}
use Rattle.codec.proofs.Laws.Ring.{octets_grow}
use Rattle.codec.proofs.Laws.Channels.{nobody_there, no_channel, listens_there}
use Rattle.codec.proofs.channels.listens.Goals as goal
use Rattle.codec.proofs.channels.listens.Goals.{Else-n-p}

pub returns-then-n-p : goal.returns-then-n-p
returns-then-n-p c =
    sym (nobody_there c.args.file.now c.args.p c.args.channel (rw (← c.requires.0) c.if-n-p.true))

-- the position is a member's
member : (c : Else-n-p) → c.args.p < count c.args.file.now
member c = rw (← c.requires.0) c.if-n-p.false

pub returns-then-channel-gt7 : goal.returns-then-channel-gt7
returns-then-channel-gt7 c =
    sym (no_channel c.args.file.now c.args.p c.args.channel (member (goal.at.returns-then-channel-gt7 c).Else-n-p) c.if-channel-gt7.true)

pub channels_at-requires : goal.channels_at-requires
channels_at-requires c =
    let file = c.args.file.now in
    let p : c.args.p < count file = member (goal.at.channels_at-requires c).Else-n-p in
    let g : file_octets (form file) (c.args.p + 1) ≤ file_octets (form file) c.args.n = octets_grow (form file) (c.args.p + 1) c.args.n (omega (arith, p, c.requires.0)) in
    (omega (arith, p, bits_below file 4 6), omega (arith, g, c.requires.1))

pub returns : goal.returns
returns c =
    c.is_open.ensures
    ∙ ap (λ (v : ℕ). is_open v c.args.channel) c.channels_at.ensures
    ∙ sym (listens_there c.args.file.now c.args.p c.args.channel (member (goal.at.returns c).Else-n-p) c.if-channel-gt7.false)
