-- `slip::put_slip` meets its contract: its writes, side by side, are one.
use mathlib.Core.Path.{◌≡◌, refl}
use Prim.Native.Nat.{◌+◌, ◌-◌}
use native.Mathlib.Omega.{arith}
use Rattle.codec.proofs.Laws.Octets.{laid_three}
use Rattle.records.specs.Layout.{master_in, channel_in}
use Rattle.records.specs.Fields.{slip_start, slip_stations, slip_message}
use Rattle.records.proofs.slip.put_slip.Goals as goal

pub put_three-requires-2 : goal.put_three-requires-2
put_three-requires-2 c = omega (arith, c.put_three.auto.out, c.put_start.auto.out, c.requires)

pub returns : goal.returns
returns c =
    let a = c.args in
    let p = a.p in
    let e : a.at + master_in + (channel_in - master_in) ≡ a.at + channel_in = omega arith in
    laid_three a.out.now _ _ _ (slip_start p) (slip_stations p) (slip_message p) a.at (a.at + master_in) (a.at + channel_in) refl e (omega (arith, c.requires)) c.put_start.ensures c.put_three.ensures c.put_three-2.ensures
