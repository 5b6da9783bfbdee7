-- A step while a message is on top: its own frame is composed, or it waits on and the rank is lower by the frame composed.
-- Assumes nothing.
use mathlib.Core.Path.{◌≡◌, sym, ap, subst, ◌∙◌}
use mathlib.Core.Bool.{true, false}
use Prim.Native.Nat.{ℕ, ◌+◌, ◌<◌, ◌≤◌}
use Rattle.parts.specs.Frames.{flight_in, fit, Dispatch}
use Rattle.sent.specs.Round.{information_of, reply}
use Rattle.station.specs.Stations.{head}
use Rattle.parts.specs.declared.list.Message.{Message}
use Rattle.parts.specs.declared.frame.Frame.{Frame}
use Rattle.std.specs.Prelude.{Some}
use Rattle.parts.proofs.Laws.Frames.{same_frame}
use Rattle.bench.specs.Ring.{station_at}
use Rattle.bench.specs.Delivery.{deliver_to, step}
use Rattle.bench.specs.Rows.{kind_of}
use Rattle.bench.specs.declared.ring.Wire.{Wire}
use Rattle.bench.specs.declared.ring.Bench.{Bench}
use Rattle.bench_theorems.specs.Quiet.{Quiet}
use Rattle.bench_theorems.proofs.Laws.Answering.{view}
use Rattle.bench_theorems.proofs.Laws.Delivering.{reply_in, step_delivers, step_wire, step_picture, quiet_step}
use Rattle.waiting.specs.Waiting.{Spot, Waits, OnTop, own, is_short, is_information}
use Rattle.waiting.proofs.Laws.Ahead.{Ahead, Turns, its_own, another}
use Rattle.waiting.proofs.Laws.Turning.{reply_turns}
use Rattle.waiting.proofs.Laws.TopHead.{tops}
use Rattle.waiting.proofs.Laws.Staying.{waits_step}
use Rattle.waiting.proofs.Laws.Own.{own_sent, own_not}

-- ---- what is kept along a run

-- the message m stands at the spot x of a quiet bench, and waits
pub record Holds (n : ℕ) (x : Spot) (m : Message) (b : Bench) : Type 0 where
  pub limit : ℕ
  pub quiet : Quiet limit b
  pub size : b.n ≡ n
  pub member : x.station < n
  pub place : m.place ≡ x.place
  pub waits : Waits b x.station m

-- the rank, by the frame on the wire
pub record AheadOn (n s priority : ℕ) (w : Wire) (short info : ℕ) : Type 0 where
  pub frame : Frame
  pub to : ℕ
  pub on_wire : w.sent ≡ Some (frame, to)
  pub ahead : Ahead n s priority w.from frame short info

-- ---- a step

-- its own frame is on the wire
pub record Goes (x : Spot) (m : Message) (w : Wire) : Type 0 where
  pub number : ℕ
  pub is_sent : w ≡ record { from = x.station; sent = information_of number m }
  pub is_own : own x w ≡ true

-- another frame is
pub record WaitsOn (n : ℕ) (x : Spot) (m : Message) (b : Bench) (short info : ℕ) : Type 0 where
  pub not_own : own x b.wire ≡ false
  pub holds : Holds n x m b
  pub short' : ℕ
  pub info' : ℕ
  pub rank : AheadOn n x.station m.priority b.wire short' info'
  pub fits : fit n rank.frame ≡ true
  pub fewer_short : is_short (kind_of rank.frame) + short' ≤ short
  pub fewer_information : is_information (kind_of rank.frame) + info' ≤ info

pub data Steps (n : ℕ) (x : Spot) (m : Message) (b : Bench) (short info : ℕ) : Type 0 where
  goes_now : Goes x m b.wire → Steps n x m b short info
  waits_on : WaitsOn n x m b short info → Steps n x m b short info

step_n : {limit : ℕ} (b : Bench) → Quiet limit b → (step b).n ≡ b.n
unfolding deliver_to
step_n b q = ap (λ (c : Bench). c.n) (step_delivers b q)

module _ (n : ℕ) (x : Spot) (m : Message) (b : Bench) (h : Holds n x m b) (top : OnTop x m.priority b) (short info : ℕ)
    (a : AheadOn n x.station m.priority b.wire short info)
  where
    abbrev q : Quiet h.limit b
    q = h.quiet

    inside : x.station < b.n
    inside = subst (λ (i : ℕ). x.station < i) (sym h.size) h.member

    ahead_there : Ahead b.n x.station m.priority b.wire.from q.frame short info
    ahead_there =
        subst (λ (f : Frame). Ahead b.n x.station m.priority b.wire.from f short info) (same_frame (sym a.on_wire ∙ q.on_wire))
        (subst (λ (i : ℕ). Ahead i x.station m.priority b.wire.from a.frame short info) (sym h.size) a.ahead)

    -- what the addressee composes
    composed : Turns b.n x.station m q.to short info (reply (view b.n q.to (head (station_at b q.to))) q.frame)
    composed =
        reply_turns b.n q.picture.most_members (λ (p : ℕ). head (station_at b p)) x.station m
        (tops b q x m inside h.place h.waits top) q.to q.picture.addressee_member short info
        q.picture.sender_member q.picture.phase q.picture.fits q.picture.offers ahead_there

    -- and so what is on the wire
    new_wire : (d : Dispatch) → reply (view b.n q.to (head (station_at b q.to))) q.frame ≡ d → (step b).wire ≡ record { from = q.to; sent = d }
    new_wire d e = step_wire b q ∙ ap (λ (r : Dispatch). let w : Wire = record { from = q.to; sent = r } in w) (sym (reply_in b q).sent ∙ e)

    pub next_step : Steps n x m (step b) short info
    next_step = go composed
      where
        go : Turns b.n x.station m q.to short info (reply (view b.n q.to (head (station_at b q.to))) q.frame) → Steps n x m (step b) short info
        go (its_own number e r) =
            let is : (step b).wire ≡ record { from = x.station; sent = information_of number m } =
            new_wire _ r ∙ ap (λ (p : ℕ). let w : Wire = record { from = p; sent = information_of number m } in w) e in
            goes_now (record { number = number; is_sent = is; is_own = ap (own x) is ∙ own_sent x m number h.place })
        go (another f onward r none short' info' ah less-short less-information) =
            let is : (step b).wire ≡ record { from = q.to; sent = Some (f, onward) } = new_wire _ r in
            let same : (reply_in b q).frame ≡ f = same_frame (sym (reply_in b q).sent ∙ r) in
            waits_on
            (record {
              not_own = ap (own x) is ∙ own_not x q.to f onward none;
              holds =
                  record {
                    limit = h.limit;
                    quiet = quiet_step b q;
                    size = step_n b q ∙ h.size;
                    member = h.member;
                    place = h.place;
                    waits = waits_step b q x.station inside m h.waits (λ e. ap flight_in same ∙ none e);
                  };
              short' = short';
              info' = info';
              rank =
                  record {
                    frame = f;
                    to = onward;
                    on_wire = ap (λ (w : Wire). w.sent) is;
                    ahead =
                        subst (λ (p : ℕ). Ahead n x.station m.priority p f short' info') (sym (ap (λ (w : Wire). w.from) is))
                        (subst (λ (i : ℕ). Ahead i x.station m.priority q.to f short' info') h.size ah);
                  };
              fits = subst (λ (i : ℕ). fit i f ≡ true) h.size (subst (λ (g : Frame). fit b.n g ≡ true) same (step_picture b q).fits);
              fewer_short = less-short;
              fewer_information = less-information;
            })
