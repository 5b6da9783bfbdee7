-- A step of a quiet bench leaves a quiet bench. Assumes nothing.
use mathlib.Core.Path.{◌≡◌, refl, sym, ap, subst, ◌∙◌}
use Prim.Native.Nat.{ℕ, ◌<◌}
use native.Mathlib.Omega.{arith}
use lib.ListN.{length}
use Rattle.station.specs.Stations.{head}
use Rattle.sent.specs.Round.{reply}
use Rattle.station.specs.Heard.{frame_rule}
use Rattle.parts.specs.Frames.{Dispatch}
use Rattle.std.specs.Prelude.{Some}
use Rattle.bench.specs.Ring.{station_at}
use Rattle.bench.specs.Delivery.{reply_of, deliver_to, others, deliver, step_on, step}
use Rattle.bench.specs.declared.ring.Wire.{Wire}
use Rattle.bench.specs.declared.ring.Bench.{Bench}
use Rattle.bench.proofs.Laws.Delivered.{delivered_length, unheard_at, heard_at, replies_at, others_hear, sender_not}
use Rattle.bench_theorems.specs.Quiet.{Picture, Quiet}
use Rattle.bench_theorems.proofs.Laws.Answering.{view}
use Rattle.bench_theorems.proofs.Laws.Replies.{Replied}
use Rattle.bench_theorems.proofs.Laws.Answers.{reply_at, new_sent}
use Rattle.bench_theorems.proofs.Laws.Stepping.{picture_step}

module _ {limit : ℕ} (b : Bench) (q : Quiet limit b) where
  -- the step is the delivery of the frame on the wire
  pub step_delivers : step b ≡ deliver b q.frame q.to
  unfolding step step_on
  step_delivers = ap (step_on b) q.on_wire

  in_table : (p : ℕ) → p < b.n → p < length b.stations
  in_table p h = omega (arith, q.table, q.picture.most_members)

  pub stays_there : station_at (deliver b q.frame q.to) b.wire.from ≡ station_at b b.wire.from
  stays_there =
      unheard_at (others b.wire.from) b q.frame q.to b.wire.from (in_table b.wire.from q.picture.sender_member)
      (sender_not b.wire.from b.wire.from refl)

  pub hears_there : (p : ℕ) → p < b.n → (p ≡ b.wire.from → ⊥)
      → station_at (deliver b q.frame q.to) p ≡ (frame_rule (station_at b p) q.frame b.wire.from q.to).station
  hears_there p h o = heard_at (others b.wire.from) b q.frame q.to p (in_table p h) h (others_hear b.wire.from p o)

  pub replied : reply_of (others b.wire.from) b q.frame q.to ≡ (frame_rule (station_at b q.to) q.frame b.wire.from q.to).sent
  replied = replies_at (others b.wire.from) b q.frame q.to q.picture.addressee_member (others_hear b.wire.from q.to q.picture.another)

  -- the addressee's frame
  abbrev pub reply_in : Replied b.n b.wire.from q.frame q.to (head (station_at b q.to)) (reply (view b.n q.to (head (station_at b q.to))) q.frame)
  reply_in = reply_at q.picture

  -- it is on the wire
  delivered_wire : (deliver b q.frame q.to).wire ≡ record { from = q.to; sent = Some (reply_in.frame, reply_in.to) }
  unfolding deliver_to
  delivered_wire =
      ap (λ (d : Dispatch). let w : Wire = record { from = q.to; sent = d } in w)
      (replied ∙ new_sent q.picture)

  pub step_wire : (step b).wire ≡ record { from = q.to; sent = Some (reply_in.frame, reply_in.to) }
  step_wire = ap (λ (c : Bench). c.wire) step_delivers ∙ delivered_wire

  delivered_picture : Picture b.n limit (station_at (deliver b q.frame q.to)) q.to reply_in.frame reply_in.to
  delivered_picture =
      picture_step q.picture (station_at (deliver b q.frame q.to)) stays_there hears_there

  pub step_picture : Picture b.n limit (station_at (step b)) q.to reply_in.frame reply_in.to
  step_picture =
      subst (λ (c : Bench). Picture b.n limit (station_at c) q.to reply_in.frame reply_in.to) (sym step_delivers) delivered_picture

  quiet_delivered : Quiet limit (deliver b q.frame q.to)
  unfolding deliver_to
  quiet_delivered =
      record {
        table = delivered_length b.n (others b.wire.from) q.frame b.wire.from q.to 0 b.stations ∙ q.table;
        frame = reply_in.frame;
        to = reply_in.to;
        on_wire = ap (λ (w : Wire). w.sent) delivered_wire;
        picture = delivered_picture;
      }

  pub quiet_step : Quiet limit (step b)
  quiet_step = subst (Quiet limit) (sym step_delivers) quiet_delivered
