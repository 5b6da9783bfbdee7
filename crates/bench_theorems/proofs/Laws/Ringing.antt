-- A new ring is quiet. Assumes nothing.
use mathlib.Core.Path.{◌≡◌, refl, sym, ap, subst, ◌∙◌}
use Prim.Native.Nat.{ℕ, ◌<◌, ◌≤◌}
use native.Mathlib.Omega.{arith}
use Rattle.parts.specs.Live.{after}
use Rattle.sent.specs.Round.{opening}
use Rattle.std.specs.Prelude.{None, Some}
use Rattle.station.specs.declared.station.Station.{Station}
use Rattle.bench.specs.Ring.{station_at, ring_with}
use Rattle.bench.specs.declared.ring.Wire.{Wire}
use Rattle.bench_theorems.specs.Quiet.{Member, Stands, token, no_bid, Behind, never, longest, Picture, Quiet}
use Rattle.bench_theorems.proofs.Laws.Beginning.{ring_n, ring_length, ring_at, ring_wire}
use Rattle.bench_theorems.proofs.Laws.Started.{first_frame, first_sent, begun}
use Rattle.bench_theorems.proofs.Laws.Awaiting.{Proper, awaited_proper}
use Rattle.bench_theorems.proofs.Laws.Answers.{stands_waits}

module _ (n limit : ℕ) (two : 2 ≤ n) (most : n ≤ 64) (low : 1 ≤ limit) (high : limit ≤ 15) where
  member : (p : ℕ) → p < n → Member n limit p (station_at (ring_with n limit) p)
  member p h = subst (Member n limit p) (sym (ring_at n limit two most p h)) (begun n limit two most low high p h).member

  stands : (p : ℕ) → p < n → Stands 0 0 first_frame (after n 0) p (station_at (ring_with n limit) p)
  stands p h = subst (Stands 0 0 first_frame (after n 0) p) (sym (ring_at n limit two most p h)) (begun n limit two most low high p h).stands

  unhandled : (p : ℕ) → p < n → Behind 0 (longest n 0 first_frame p) (station_at (ring_with n limit) p).turn.handled
  unhandled p h =
      subst (Behind 0 (longest n 0 first_frame p)) (sym (ap (λ (s : Station). s.turn.handled) (ring_at n limit two most p h) ∙ (begun n limit two most low high p h).handled)) never

  proper : Proper n 0 first_frame (after n 0)
  proper = awaited_proper (member 0 (omega arith)) (stands_waits refl (stands 0 (omega arith))).awaited

  first_picture : Picture n limit (station_at (ring_with n limit)) 0 first_frame (after n 0)
  first_picture =
      record {
        some_members = two;
        most_members = most;
        members = member;
        sender_member = omega arith;
        addressee_member = proper.member;
        another = proper.another;
        fits = proper.fits;
        phase = token (opening 0 0 0 None) refl refl (omega arith);
        offers = no_bid (opening 0 0 0 None) refl refl;
        before = 0;
        before_member = omega arith;
        first = λ e. refl;
        turns = stands;
        handled = unhandled;
      }

  -- the first frame on the wire is number 0, from station 0 to the next
  pub first_wire : (ring_with n limit).wire ≡ record { from = 0; sent = Some (first_frame, after n 0) }
  first_wire = ring_wire n limit two most first_frame (after n 0) (first_sent n limit two most)

  pub quiet_start : Quiet limit (ring_with n limit)
  quiet_start =
      record {
        table = ring_length n limit two most;
        frame = first_frame;
        to = after n 0;
        on_wire = ap (λ (w : Wire). w.sent) first_wire;
        picture =
            subst (λ (k : ℕ). Picture k limit (station_at (ring_with n limit)) (ring_with n limit).wire.from first_frame (after n 0)) (sym (ring_n n limit two most))
            (subst (λ (i : ℕ). Picture n limit (station_at (ring_with n limit)) i first_frame (after n 0)) (sym (ap (λ (w : Wire). w.from) first_wire)) first_picture);
      }
