-- A step of a cell is a step of the bench. Assumes nothing.
use mathlib.Core.Path.{◌≡◌, refl, sym, ap, subst, ◌∙◌}
use mathlib.Core.Bool.{Bool, true, false}
use mathlib.Core.List.{List}
use Prim.Native.Nat.{ℕ, ◌<◌}
use native.Mathlib.Omega.{arith}
use lib.Dec.{eqb}
use lib.ListN.{get_or}
use borrow.Author.Tests.{eqb-true, eqb-false}
use Rattle.parts.specs.declared.frame.Frame.{Frame}
use Rattle.station.specs.Stations.{awaited_of}
use Rattle.station.specs.Heard.{frame_rule}
use Rattle.station.specs.declared.station.Station.{Station}
use Rattle.station.specs.declared.station.Answer.{Answer}
use Rattle.driver_calls.specs.Calls.{ring_of, station_in}
use Rattle.driver_buffers.specs.Places.{carried_in}
use Rattle.wire_theorems.specs.Wire.{OnWire}
use Rattle.bench.specs.Ring.{station_at}
use Rattle.bench.specs.Delivery.{step}
use Rattle.bench.specs.Runs.{stepped, after_event}
use Rattle.bench.specs.declared.ring.Wire.{Wire}
use Rattle.bench.specs.declared.ring.Bench.{Bench}
use Rattle.bench_theorems.specs.Quiet.{Quiet}
use Rattle.bench_theorems.proofs.Laws.Answers.{Role, sends, answers, overhears, role, silent_at, answer_at, new_sent}
use Rattle.bench_theorems.proofs.Laws.Delivering.{step_delivers, stays_there, hears_there, reply_in, step_wire, quiet_step}
use Rattle.bench_theorems.proofs.Theorems.ReachedQuiet.{event_n}
use Rattle.cell_theorems.specs.Cell.{Node, Transit, Cell, members, retries, address_at, left, FrameCall, HandedOn}
use Rattle.cell_theorems.specs.AsBench.{StepDone}
use Rattle.cell_theorems.proofs.Laws.Files.{same_position}
use Rattle.cell_theorems.proofs.Laws.Nodes.{Kept, frame_number, frame_station, frame_silent, frame_conveys, frame_keeps}
use Rattle.cell_theorems.proofs.Laws.Matching.{Carries, Matches, left_carries, frame_same, from_inside, to_inside, to_address, from_is, to_is, sender_awaits}

module _ (file : List ℕ) (c c' : Cell) (b : Bench) (m : Matches file c b) (s : HandedOn file c c') where
  abbrev q : Quiet (retries file) b
  q = m.quiet

  abbrev w : Carries file m.store c.wire b.wire
  w = m.wire

  abbrev f : Frame
  f = q.frame

  abbrev from : ℕ
  from = b.wire.from

  abbrev to : ℕ
  to = q.to

  inside : (p : ℕ) → p < members file → p < b.n
  inside p h = omega (arith, m.size)

  abbrev info : List ℕ
  info = carried_in m.store q.frame

  on_wire : OnWire (ring_of file) f info c.wire.octets
  on_wire = subst (λ (g : Frame). OnWire (ring_of file) g (carried_in m.store g) c.wire.octets) (frame_same m) w.on_wire

  -- ---- who hears it

  abbrev Another : ℕ → Type 0
  Another p = address_at file p ≡ c.wire.from → ⊥

  away : (p : ℕ) → Another p → p ≡ b.wire.from → ⊥
  away p o e = o (ap (address_at file) e ∙ sym w.from_address)

  back : (p : ℕ) → p < members file → (p ≡ b.wire.from → ⊥) → Another p
  back p h o e = o (same_position file m.good p from h (from_inside m) (e ∙ w.from_address))

  heard_number : (p : ℕ) → p < members file → (p ≡ b.wire.from → ⊥) → (frame_rule (station_at b p) f from to).number ≡ 0
  heard_number p h o = go (role from to p)
    where
      go : Role b.wire.from q.to p → (frame_rule (station_at b p) q.frame b.wire.from q.to).number ≡ 0
      go (sends e) = absurd (o e)
      go (answers e x) = ap (λ (i : ℕ). (frame_rule (station_at b i) f from to).number) e ∙ (answer_at q.picture).number
      go (overhears x y) = (silent_at q.picture p (inside p h) o x).number

  module _ (p : ℕ) (h : p < members file) (o : address_at file p ≡ c.wire.from → ⊥) where
    abbrev call : FrameCall c.wire (c.node p) (c'.node p)
    call = s.calls p h o

    rule_is : frame_rule (station_in (c.node p).rec) f from to ≡ frame_rule (station_at b p) f from to
    rule_is = ap (λ (x : Station). frame_rule x f from to) (m.stations p h)

    zero : (frame_rule (station_in (c.node p).rec) f from to).number ≡ 0
    zero = ap (λ (a : Answer). a.number) rule_is ∙ heard_number p h (away p o)

    call_number : (s.calls p h o).number ≡ 0
    call_number = frame_number (m.kept p h) c.wire w.octets f info on_wire from to (from_is m) (to_is m) call ∙ zero

    call_keeps : Kept file (c'.node p)
    call_keeps = frame_keeps (m.kept p h) c.wire w.octets f info on_wire from to (from_is m) (to_is m) call

    call_station : station_in (c'.node p).rec ≡ station_at (step b) p
    call_station =
        frame_station (m.kept p h) c.wire w.octets f info on_wire from to (from_is m) (to_is m) call zero
        ∙ ap (λ (a : Answer). a.station) rule_is
        ∙ sym (hears_there b q p (inside p h) (away p o))
        ∙ ap (λ (x : Bench). station_at x p) (sym (step_delivers b q))

    call_silent : (p ≡ q.to → ⊥) → get_or (s.calls p h o).told 0 0 ≡ 0
    call_silent x =
        frame_silent (m.kept p h) c.wire w.octets f info on_wire from to (from_is m) (to_is m) call zero
        (ap (λ (a : Answer). a.sent) rule_is ∙ (silent_at q.picture p (inside p h) (away p o) x).sent)

  sender_station : (p : ℕ) (h : p < members file) → p ≡ b.wire.from → station_in (c'.node p).rec ≡ station_at (step b) p
  sender_station p h e =
      ap (λ (x : Node). station_in x.rec) (s.sender_stays p h (ap (address_at file) e ∙ sym w.from_address))
      ∙ m.stations p h
      ∙ ap (station_at b) e
      ∙ sym (stays_there b q)
      ∙ ap (λ (x : Bench). station_at x from) (sym (step_delivers b q))
      ∙ ap (station_at (step b)) (sym e)

  -- ---- what is on the wire then

  addressee_another : address_at file q.to ≡ c.wire.from → ⊥
  addressee_another = back to (to_inside m) q.picture.another

  next_wire : Carries file (c.node q.to).store c'.wire (step b).wire
  next_wire =
      let o = addressee_another in
      let k = frame_conveys (m.kept to (to_inside m)) c.wire w.octets f info on_wire from to (from_is m) (to_is m) (call to (to_inside m) o) (zero to (to_inside m) o)
      (reply_in b q).frame (reply_in b q).to (ap (λ (a : Answer). a.sent) (rule_is to (to_inside m) o) ∙ new_sent q.picture) in
      subst (λ (x : Transit). Carries file (c.node to).store x (step b).wire) (sym (s.answers to (to_inside m) o (sym (to_address m))))
      (subst (Carries file (c.node to).store (left (address_at file to) (s.calls to (to_inside m) o).out (s.calls to (to_inside m) o).told)) (sym (step_wire b q))
      (left_carries file (c.node to).store (m.kept to (to_inside m)).store_octets to (reply_in b q).frame (reply_in b q).to (s.calls to (to_inside m) o).out
      (s.calls to (to_inside m) o).told k))

  pub step_matches : Matches file c' (step b)
  unfolding after_event
  step_matches =
      record {
        good = m.good;
        size = event_n b stepped ∙ m.size;
        quiet = quiet_step b q;
        kept = λ p h. kept_at p h (eqb p from) refl;
        stations = λ p h. station_at_lem p h (eqb p from) refl;
        store = (c.node to).store;
        wire = next_wire;
      }
    where
      kept_at : (p : ℕ) → p < members file → (t : Bool) → eqb p b.wire.from ≡ t → Kept file (c'.node p)
      kept_at p h true e =
          subst (Kept file) (sym (s.sender_stays p h (ap (address_at file) (eqb-true p from e) ∙ sym w.from_address))) (m.kept p h)
      kept_at p h false e = call_keeps p h (back p h (eqb-false p from e))

      station_at_lem : (p : ℕ) → p < members file → (t : Bool) → eqb p b.wire.from ≡ t → station_in (c'.node p).rec ≡ station_at (step b) p
      station_at_lem p h true e = sender_station p h (eqb-true p from e)
      station_at_lem p h false e = call_station p h (back p h (eqb-false p from e))

  -- composed of the addressee's store
  pub step_store : step_matches.store ≡ (c.node m.quiet.to).store
  unfolding step_matches
  step_store = refl

  pub step_done : StepDone file c c' s
  step_done =
      record {
        number = call_number;
        addressee = to;
        addressee_member = to_inside m;
        addressed = sym (to_address m);
        another = addressee_another;
        silent = call_silent;
        frame = step_matches.wire.frame;
        onward = step_matches.wire.to;
        awaited =
            ap (λ (p : ℕ). awaited_of (station_in (c'.node p).rec)) (sym (ap (λ (v : Wire). v.from) (step_wire b q)))
            ∙ sender_awaits step_matches
            ∙ step_matches.wire.frame_is;
        composed =
            subst (λ (l : List ℕ). OnWire (ring_of file) step_matches.wire.frame (carried_in l step_matches.wire.frame) c'.wire.octets) step_store
            step_matches.wire.on_wire;
      }
