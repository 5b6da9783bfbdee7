-- The information of a packet that was read is as long as it says. Assumes nothing.
use mathlib.Core.Path.{◌≡◌, sym, ap, ◌∙◌}
use mathlib.Core.List.{List}
use Prim.Native.Nat.{ℕ, ◌≤◌}
use native.Mathlib.Omega.{arith}
use lib.ListN.{length}
use Rattle.codec.specs.Octets.{Octets}
use Rattle.packet_codec.specs.Packet.{information_in, information_part, information_length, read_packet}
use Rattle.packet_codec.specs.declared.packet.Packet.{Packet}
use Rattle.packet_codec.specs.declared.reading.Read.TheVariants.{Good}
use Rattle.packet_codec.proofs.Laws.Packet.{fit_length}
use Rattle.packet_codec.proofs.Theorems.WriteRead.{write_after_read}

pub heard_sized : (ring packet : List ℕ) (p : Packet) → Octets packet → read_packet ring packet ≡ Good p → (n : ℕ) → n ≡ information_length p
    → (length (information_in packet n) ≡ n) × (n ≤ 1492)
heard_sized ring packet p o e n q =
    let l = fit_length ring p (length (information_part p packet)) (write_after_read ring packet p o e).fit in
    (ap (λ (k : ℕ). length (information_in packet k)) q ∙ l.0 ∙ sym q, omega (arith, q, l.1))
