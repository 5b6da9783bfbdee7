-- What is fit to write over ring positions is fit to write over a good ring's addresses, whatever its information, and its octets read
-- as its packet and that as the frame again. Assumes nothing.
use mathlib.Core.Path.{◌≡◌, refl}
use mathlib.Core.Bool.{true}
use mathlib.Core.List.{List}
use Prim.Native.Nat.{ℕ}
use lib.ListN.{length}
use Rattle.packet_codec.specs.Packet.{packet_octets, information_length}
use Rattle.packet_codec.proofs.Theorems.ReadWrite.{read_after_write}
use Rattle.parts.specs.Frames.{fit}
use Rattle.parts.specs.declared.frame.Frame.{Frame}
use Rattle.station_theorems.specs.Small.{SmallFrame}
use Rattle.station_theorems.proofs.Theorems.Awaited.{fit_is}
use Rattle.driver_buffers.specs.Packets.{packet_of}
use Rattle.wire_theorems.specs.Wire.{GoodAddresses, OnWire}
use Rattle.wire_theorems.proofs.Laws.Packets.{writable, frame_again, packet_typed, octets_sized}

pub fit_on_wire : (ring : List ℕ) → GoodAddresses ring → (f : Frame) → fit (length ring) f ≡ true → SmallFrame f → (info : List ℕ)
    → length info ≡ information_length (packet_of ring f) → OnWire ring f info (packet_octets (packet_of ring f) info)
fit_on_wire ring g f e k info l =
    let w = writable ring g f info (fit_is (length ring) f e) l in
    let r = read_after_write ring (packet_of ring f) info (packet_typed ring f k) w in
    record {
      fit = w;
      octets = refl;
      sized = octets_sized (packet_of ring f) info l;
      reads = r.packet;
      part = r.part;
      frame = frame_again ring g f (fit_is (length ring) f e);
    }
