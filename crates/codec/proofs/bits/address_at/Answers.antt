-- `bits::address_at` meets its contract: at an octet's border 48 bits are the number of 6 octets.
use mathlib.Core.Path.{◌≡◌, sym, ◌∙◌}
use Prim.Native.Nat.{◌*◌, ◌/◌}
use native.Mathlib.Omega.{arith}
use Rattle.codec.specs.Octets.{Octets, number_at}
use Rattle.codec.specs.Bits.{bits}
use Rattle.codec.proofs.Laws.Bits.{bits_octets, bits_below}
use Rattle.codec.proofs.bits.address_at.Goals as goal

pub returns : goal.returns
returns c =
    let a = c.args in
    let s = a.s.now in
    let o : Octets s = λ i. omega (arith, c.type_inv.s i) in
    let e : a.at / 8 * 8 ≡ a.at = omega arith in
    let g : number_at s (a.at / 8) 6 ≡ bits s a.at 48 = sym (bits_octets s (a.at / 8) 6 o (omega arith)) ∙ rw e in
    let r : c.get.result ≡ bits s a.at 48 = c.get.ensures.0 ∙ g in
    (r, rw r (bits_below s a.at 48))
