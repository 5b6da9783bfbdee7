-- `listening::heard_in` meets its contract.
use mathlib.Core.Path.{ap, ◌∙◌}
use Prim.Native.Nat.{ℕ}
use Rattle.codec.specs.Ring.{is_open}
use Rattle.day.proofs.Laws.Listening.{nobody_there, no_channel, open_there}
use Rattle.day.proofs.listening.heard_in.Goals as goal

pub returns-then-n-p : goal.returns-then-n-p
returns-then-n-p c = let a = c.args in nobody_there a.n a.channels a.p a.channel c.if-n-p.true

pub returns-then-channel-gt7 : goal.returns-then-channel-gt7
returns-then-channel-gt7 c = let a = c.args in no_channel a.n a.channels a.p a.channel c.if-n-p.false c.if-channel-gt7.true

pub returns : goal.returns
returns c =
    let a = c.args in
    c.is_open.ensures
    ∙ ap (λ (v : ℕ). is_open v a.channel) c.open_at.ensures
    ∙ open_there a.n a.channels a.p a.channel c.if-n-p.false c.if-channel-gt7.false
