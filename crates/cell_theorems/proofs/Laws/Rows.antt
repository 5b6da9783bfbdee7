-- A packet's row, as the codec reads it, is the bench's row of its frame. Assumes nothing.
use mathlib.Core.Path.{◌≡◌, refl, sym, ap, ◌∙◌}
use mathlib.Core.List.{List}
use Prim.Native.Nat.{ℕ}
use lib.ListN.{length}
use Rattle.codec.specs.Ring.{position}
use Rattle.packet_codec.specs.Packet.{read_packet}
use Rattle.packet_codec.specs.declared.reading.Read.TheVariants.{Good}
use Rattle.parts.specs.declared.frame.Frame.{Frame}
use Rattle.parts.specs.declared.frame.Frame.TheVariants.{Token, Transmit, Information}
use Rattle.parts.specs.Frames.{Dispatch}
use Rattle.std.specs.Prelude.{Some}
use Rattle.driver_buffers.specs.Packets.{packet_of}
use Rattle.driver_calls.specs.Calls.{ring_of}
use Rattle.bench.specs.Rows.{row_on, rows_on, row_of as bench_row}
use Rattle.bench.specs.declared.ring.Bench.{Bench}
use Rattle.cell_theorems.specs.Cell.{Cell}
use Rattle.cell_theorems.specs.AsBench.{row_read, row_of}
use Rattle.cell_theorems.proofs.Laws.Matching.{Matches, to_same, from_is, to_is}

row_is : (ring : List ℕ) (from to : ℕ) (f : Frame) → row_read from to (Good (packet_of ring f)) ≡ row_on from (Some (f, to))
unfolding packet_of row_on bench_row
row_is ring from to (Token t) = refl
row_is ring from to (Transmit t) = refl
row_is ring from to (Information i) = refl

one : (from : ℕ) (d : Dispatch) (f : Frame) (to : ℕ) → d ≡ Some (f, to) → length (row_on from d) ≡ 1
unfolding row_on
one from d f to e = ap (λ (x : Dispatch). length (row_on from x)) e

module _ {file : List ℕ} {c : Cell} {b : Bench} (m : Matches file c b) where
  pub row_same : row_of file c.wire ≡ rows_on b.wire
  row_same =
      let w = m.wire in
      let ring : List ℕ = ring_of file in
      ap (λ (p : ℕ). row_read p (position ring c.wire.to) (read_packet ring c.wire.octets)) (from_is m)
      ∙ ap (λ (p : ℕ). row_read b.wire.from p (read_packet ring c.wire.octets)) (to_is m ∙ sym (to_same m))
      ∙ ap (row_read b.wire.from w.to) w.on_wire.reads
      ∙ row_is ring b.wire.from w.to w.frame
      ∙ ap (row_on b.wire.from) (sym w.frame_is)

  pub one_row : length (rows_on b.wire) ≡ 1
  one_row = one b.wire.from b.wire.sent m.wire.frame m.wire.to m.wire.frame_is
