-- A cell beside a bench: all that is kept from step to step. Assumes nothing.
use mathlib.Core.Path.{◌≡◌, refl, sym, ap, subst, ◌∙◌}
use mathlib.Core.List.{List}
use Prim.Native.Nat.{ℕ, ◌<◌}
use native.Mathlib.Omega.{arith}
use Rattle.codec.specs.Octets.{Octets}
use Rattle.codec.specs.Ring.{read_ring, position}
use Rattle.parts.specs.declared.frame.Frame.{Frame}
use Rattle.parts.specs.Frames.{Dispatch}
use Rattle.std.specs.Prelude.{None, Some}
use Rattle.station.specs.Stations.{awaited_of}
use Rattle.driver_calls.specs.Calls.{ring_of, station_in}
use Rattle.driver_buffers.specs.Places.{carried_in}
use Rattle.wire_theorems.specs.Wire.{OnWire, Conveyed}
use Rattle.bench.specs.Ring.{station_at}
use Rattle.bench.specs.declared.ring.Wire.{Wire}
use Rattle.bench.specs.declared.ring.Bench.{Bench}
use Rattle.bench_theorems.specs.Quiet.{Quiet}
use Rattle.bench_theorems.proofs.Laws.Answers.{stands_waits}
use Rattle.cell_theorems.specs.Cell.{Transit, Cell, members, retries, address_at, left}
use Rattle.cell_theorems.specs.AsBench.{AsBench}
use Rattle.cell_theorems.proofs.Laws.Octets.{packet_octets_lem, carried_octets}
use Rattle.cell_theorems.proofs.Laws.Files.{position_is}
use Rattle.cell_theorems.proofs.Laws.Nodes.{Kept}

-- the packet on the wire is that of the bench's frame, with the information that a store had for it
pub record Carries (file store : List ℕ) (w : Transit) (v : Wire) : Type 0 where
  pub frame : Frame
  pub to : ℕ
  pub frame_is : v.sent ≡ Some (frame, to)
  pub on_wire : OnWire (ring_of file) frame (carried_in store frame) w.octets
  pub from_address : w.from ≡ address_at file v.from
  pub to_address : w.to ≡ address_at file to
  pub octets : Octets w.octets

pub record Matches (file : List ℕ) (c : Cell) (b : Bench) : Type 0 where
  pub good : (read_ring file).number ≡ 0
  pub size : b.n ≡ members file
  pub quiet : Quiet (retries file) b
  pub kept : (p : ℕ) → p < members file → Kept file (c.node p)
  pub stations : (p : ℕ) → p < members file → station_in (c.node p).rec ≡ station_at b p
  -- the store that the packet was composed of, and the packet
  pub store : List ℕ
  pub wire : Carries file store c.wire b.wire

-- the frame of a dispatch, and where it goes
abbrev pub frame_in : Frame → Dispatch → Frame
frame_in d None = d
frame_in d (Some (f, to)) = f

abbrev pub to_in : ℕ → Dispatch → ℕ
to_in d None = d
to_in d (Some (f, to)) = to

module _ {file : List ℕ} {c : Cell} {b : Bench} (m : Matches file c b) where
  pub as_bench : AsBench file c b
  as_bench =
      let w = m.wire in
      record {
        stations = m.stations;
        frame = w.frame;
        to = w.to;
        frame_is = w.frame_is;
        information = carried_in m.store w.frame;
        on_wire = w.on_wire;
        from_address = w.from_address;
        to_address = w.to_address;
      }

  -- ---- the frame on the wire is the quiet bench's, and its ends are members

  pub frame_same : m.wire.frame ≡ m.quiet.frame
  frame_same = ap (frame_in m.quiet.frame) (sym m.wire.frame_is ∙ m.quiet.on_wire)

  pub to_same : m.wire.to ≡ m.quiet.to
  to_same = ap (to_in 0) (sym m.wire.frame_is ∙ m.quiet.on_wire)

  pub from_inside : b.wire.from < members file
  from_inside = omega (arith, m.size, m.quiet.picture.sender_member)

  pub to_inside : m.quiet.to < members file
  to_inside = omega (arith, m.size, m.quiet.picture.addressee_member)

  pub to_address : c.wire.to ≡ address_at file m.quiet.to
  to_address = m.wire.to_address ∙ ap (address_at file) to_same

  pub from_is : position (ring_of file) c.wire.from ≡ b.wire.from
  from_is = ap (position (ring_of file)) m.wire.from_address ∙ position_is file m.good b.wire.from from_inside

  pub to_is : position (ring_of file) c.wire.to ≡ m.quiet.to
  to_is = ap (position (ring_of file)) to_address ∙ position_is file m.good m.quiet.to to_inside

  -- its sender awaits it
  pub sender_awaits : awaited_of (station_in (c.node b.wire.from).rec) ≡ b.wire.sent
  sender_awaits =
      ap awaited_of (m.stations b.wire.from from_inside)
      ∙ (stands_waits refl (m.quiet.picture.turns b.wire.from m.quiet.picture.sender_member)).awaited
      ∙ sym m.quiet.on_wire

-- what a call leaves that sends f
pub left_carries : (file store : List ℕ) → Octets store → (p : ℕ) (f : Frame) (to : ℕ) (out told : List ℕ) → Conveyed (ring_of file) store f to out told
    → Carries file store (left (address_at file p) out told) (record { from = p; sent = Some (f, to) })
left_carries file store o p f to out told k =
    record {
      frame = f;
      to = to;
      frame_is = refl;
      on_wire = k.on_wire;
      from_address = refl;
      to_address = k.told_address;
      octets = subst Octets (sym k.on_wire.octets) (packet_octets_lem _ (carried_in store f) (carried_octets store f o));
    }
