-- A bench in the midst of a run: the frame on the wire, and what waits where. A step puts the addressee's reply on the wire.
-- Assumes nothing.
use mathlib.Core.Path.{◌≡◌, refl, sym, ap, ◌∙◌}
use mathlib.Core.Bool.{Bool, true, false}
use mathlib.Core.List.{List}
use Prim.Native.Nat.{ℕ, ◌<◌}
use native.Mathlib.Omega.{arith}
use lib.Dec.{eqb}
use borrow.Author.Tests.{eqb-true, eqb-false}
use Rattle.parts.specs.Frames.{flight, flight_in, Dispatch}
use Rattle.station.specs.Stations.{head}
use Rattle.sent.specs.Round.{reply}
use Rattle.parts.specs.declared.list.Message.{Message}
use Rattle.parts.specs.declared.frame.Frame.{Frame}
use Rattle.std.specs.Prelude.{Some, None}
use Rattle.parts.proofs.Laws.Frames.{same_frame, same_to}
use Rattle.bench.specs.Ring.{station_at}
use Rattle.bench.specs.Delivery.{deliver_to, step}
use Rattle.bench.specs.declared.ring.Wire.{Wire}
use Rattle.bench.specs.declared.ring.Bench.{Bench}
use Rattle.bench_theorems.specs.Quiet.{Quiet}
use Rattle.bench_theorems.proofs.Laws.Answering.{view}
use Rattle.bench_theorems.proofs.Laws.Delivering.{step_delivers, reply_in, step_wire, quiet_step}
use Rattle.waiting.proofs.Laws.RunWaiting.{resting, waiting, top, resting_all, head_top}
use Rattle.waiting.proofs.Laws.RunStep.{others_wait, addressee_waits}

abbrev pub wire_of : ℕ → Dispatch → Wire
wire_of from d = record { from = from; sent = d }

-- a quiet ring of n with the frame f on the wire, and the messages `load p` waiting at each place p
pub record Runs (n : ℕ) (load : ℕ → List Message) (from : ℕ) (f : Frame) (to : ℕ) (b : Bench) : Type 0 where
  pub limit : ℕ
  pub quiet : Quiet limit b
  pub same_n : b.n ≡ n
  pub wire : b.wire ≡ wire_of from (Some (f, to))
  pub loads : (p : ℕ) → p < n → waiting (station_at b p) ≡ load p

step_n : {limit : ℕ} (b : Bench) → Quiet limit b → (step b).n ≡ b.n
unfolding deliver_to
step_n b q = ap (λ (c : Bench). c.n) (step_delivers b q)

module _ {n : ℕ} {load : ℕ → List Message} {from : ℕ} {f : Frame} {to : ℕ} {b : Bench} (r : Runs n load from f to b) where
  on_wire : ◌≡◌ {A = Dispatch} (Some (r.quiet.frame, r.quiet.to)) (Some (f, to))
  on_wire = sym r.quiet.on_wire ∙ ap (λ (w : Wire). w.sent) r.wire

  frame_is : r.quiet.frame ≡ f
  frame_is = same_frame on_wire

  to_is : r.quiet.to ≡ to
  to_is = same_to on_wire

  pub to_member : to < n
  to_member = omega (arith, r.quiet.picture.addressee_member, r.same_n, to_is)

  head_is : head (station_at b r.quiet.to) ≡ top (load to)
  head_is = ap (λ (p : ℕ). head (station_at b p)) to_is ∙ head_top (station_at b to) ∙ ap top (r.loads to to_member)

  -- the addressee's reply
  pub wire_step : (step b).wire ≡ wire_of to (reply (view n to (top (load to))) f)
  wire_step =
      step_wire b r.quiet
      ∙ ap (wire_of r.quiet.to) (sym (reply_in b r.quiet).sent)
      ∙ (λ i. wire_of (to_is i) (reply (view (r.same_n i) (to_is i) (head_is i)) (frame_is i)))

  -- it goes on the wire; at its sender the message that it carries waits no more
  pub runs_step : (later : ℕ → List Message) (g : Frame) (q : ℕ) → reply (view n to (top (load to))) f ≡ Some (g, q)
      → later to ≡ resting (flight_in g) (load to) → ((p : ℕ) → p < n → (p ≡ to → ⊥) → later p ≡ load p)
      → Runs n later to g q (step b)
  runs_step later g q e here there =
      record {
        limit = r.limit;
        quiet = quiet_step b r.quiet;
        same_n = step_n b r.quiet ∙ r.same_n;
        wire = now_wire;
        loads = λ p h. go p h (eqb p to) refl;
      }
    where
      now_wire : (step b).wire ≡ wire_of to (Some (g, q))
      now_wire = wire_step ∙ ap (wire_of to) e

      go : (p : ℕ) → p < n → (t : Bool) → eqb p to ≡ t → waiting (station_at (step b) p) ≡ later p
      go p h true x =
          let y : p ≡ to = eqb-true p to x in
          ap (λ (i : ℕ). waiting (station_at (step b) i)) (y ∙ sym to_is)
          ∙ addressee_waits b r.quiet
          ∙ (λ i. resting (flight (now_wire i).sent) (waiting (station_at b (to_is i))))
          ∙ ap (resting (flight_in g)) (r.loads to to_member)
          ∙ sym here
          ∙ ap later (sym y)
      go p h false x =
          let y : p ≡ to → ⊥ = eqb-false p to x in
          others_wait b r.quiet p (omega (arith, r.same_n)) (λ z. y (z ∙ to_is)) ∙ r.loads p h ∙ sym (there p h y)

  -- a reply that carries none changes nobody's
  pub runs_on : (g : Frame) (q : ℕ) → flight_in g ≡ None → reply (view n to (top (load to))) f ≡ Some (g, q) → Runs n load to g q (step b)
  runs_on g q z e = runs_step load g q e (sym (resting_all (flight_in g) z (load to))) (λ p h o. refl)
