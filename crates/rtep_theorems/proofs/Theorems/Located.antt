-- What `rtep_read` gives back for a packet that is refused with 12 has in its upper 16 bits the offset of the first test that holds; no
-- other number has an offset. Assumes nothing.
use mathlib.Core.Path.{sym, subst}
use mathlib.Core.List.{List}
use Prim.Native.Nat.{ℕ}
use Rattle.packet_codec.specs.BadAt.{Located}
use Rattle.packet_codec.proofs.Theorems.BadAt as packets
use Rattle.rtep.specs.Told.{ReadTold}

pub read_located : (ring packet told : List ℕ) (r : ℕ) (told' : List ℕ) → ReadTold ring packet told r told' → Located ring packet r
read_located ring packet told r told' read = subst (Located ring packet) (sym read.answer) (packets.read_located ring packet)
