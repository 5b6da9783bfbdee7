-- A queue call leaves a quiet bench, whatever its numbers. Assumes nothing.
use mathlib.Core.Path.{◌≡◌, refl, sym, ap, subst, ◌∙◌}
use mathlib.Core.Bool.{Bool, true, false}
use Prim.Native.Nat.{ℕ, ◌<◌}
use native.Mathlib.Omega.{arith}
use lib.Dec.{leb, eqb}
use lib.ListN.{length, length-set}
use lib.Seq.{get_or-set_same, get_or-set_other}
use borrow.Author.Tests.{leb-false, eqb-true, eqb-false}
use Rattle.parts.specs.Choose.{pick}
use Rattle.parts.specs.Live.{seats}
use Rattle.station.specs.Queue.{queue_rule}
use Rattle.parts.specs.declared.frame.Frame.{Frame}
use Rattle.parts.specs.declared.request.Request.{Request}
use Rattle.station.specs.declared.station.Turn.{Turn}
use Rattle.station.specs.declared.station.Station.{Station}
use Rattle.station.specs.declared.station.Answer.{Answer}
use Rattle.station_theorems.specs.Shaped.{WholeStation}
use Rattle.station_theorems.proofs.Theorems.QueueWhole.{queue_keeps_whole}
use Rattle.bench.specs.Ring.{nobody, station_at}
use Rattle.bench.specs.Calls.{with_station, queue_at, queue}
use Rattle.bench.specs.declared.ring.Bench.{Bench}
use Rattle.bench.specs.declared.calls.Queued.{Queued}
use Rattle.bench.proofs.Laws.Passing.{seats_members}
use Rattle.bench_theorems.specs.Quiet.{Stands, sender, last_sender, at_rest, head_priority, Behind, longest, Picture, Quiet}
use Rattle.bench_theorems.proofs.Laws.Awaiting.{still_offers}
use Rattle.bench_theorems.proofs.Laws.Keeping.{Keeps, keeps_all, queue_keeps}

-- ---- the picture stays

stands_still : {from before : ℕ} {f : Frame} {to p : ℕ} (s t : Station) → t.turn ≡ s.turn → Stands from before f to p s → Stands from before f to p t
stands_still s t e (sender x w a) = sender x (ap (λ (u : Turn). u.state) e ∙ w) (ap (λ (u : Turn). u.awaited) e ∙ a)
stands_still s t e (last_sender o x w g a k) = last_sender o x (ap (λ (u : Turn). u.state) e ∙ w) g (ap (λ (u : Turn). u.awaited) e ∙ a) k
stands_still s t e (at_rest o x i) = at_rest o x (ap (λ (u : Turn). u.state) e ∙ i)

-- a member that is whole and has kept its place and turn
pub record Still (s t : Station) : Type 0 where
  pub keeps : Keeps s t
  pub whole : WholeStation t

module _
    {n limit : ℕ} {at : ℕ → Station} {from : ℕ} {f : Frame} {to : ℕ} (w : Picture n limit at from f to) (later : ℕ → Station)
    (still : (p : ℕ) → p < n → Still (at p) (later p))
  where
    pub picture_still : Picture n limit later from f to
    picture_still =
        record {
          some_members = w.some_members;
          most_members = w.most_members;
          members = λ p h.
              let m = w.members p h in
              let k = (still p h).keeps in
              record {
                same_n = k.same_n ∙ m.same_n;
                same_limit = k.same_limit ∙ m.same_limit;
                own = k.same_own ∙ m.own;
                live = k.same_live ∙ m.live;
                whole = (still p h).whole;
              };
          sender_member = w.sender_member;
          addressee_member = w.addressee_member;
          another = w.another;
          fits = w.fits;
          phase = w.phase;
          offers = still_offers (λ p. head_priority (at p)) (λ p. head_priority (later p)) w.fits (λ e p h. (still p h).keeps.rises) w.offers;
          before = w.before;
          before_member = w.before_member;
          first = w.first;
          turns = λ p h. stands_still (at p) (later p) (still p h).keeps.same_turn (w.turns p h);
          handled = λ p h.
              subst (Behind _ (longest n from f p)) (sym (ap (λ (u : Turn). u.handled) (still p h).keeps.same_turn)) (w.handled p h);
        }

-- ---- the bench

module _ {limit : ℕ} (b : Bench) (q : Quiet limit b) (p : ℕ) (place : p < b.n) (s : Station) (still : Still (station_at b p) s) where
  fits_table : p < length b.stations
  fits_table = omega (arith, q.table, q.picture.most_members)

  anew : (i : ℕ) → i < b.n → Still (station_at b i) (station_at (with_station b p s) i)
  anew i h = go (eqb i p) refl
    where
      go : (t : Bool) → eqb i p ≡ t → Still (station_at b i) (station_at (with_station b p s) i)
      go true e =
          subst (λ (j : ℕ). Still (station_at b j) (station_at (with_station b p s) j)) (sym (eqb-true i p e))
          (subst (Still (station_at b p)) (sym (get_or-set_same b.stations p s nobody fits_table)) still)
      go false e =
          subst (Still (station_at b i)) (sym (get_or-set_other b.stations p i s nobody (eqb-false i p e)))
          (record { keeps = keeps_all (station_at b i); whole = (q.picture.members i h).whole })

  pub quiet_anew : Quiet limit (with_station b p s)
  quiet_anew =
      record {
        table = length-set b.stations p s ∙ q.table;
        frame = q.frame;
        to = q.to;
        on_wire = q.on_wire;
        picture = picture_still q.picture (station_at (with_station b p s)) anew;
      }

pub quiet_queue : {limit : ℕ} (b : Bench) → Quiet limit b → (from : ℕ) (r : Request) → Quiet limit (queue b from r).bench
unfolding queue pick
quiet_queue {limit} b q from r = go (leb (seats b.n) from) refl
  where
    a : Answer
    a = queue_rule (station_at b from) r

    go : (t : Bool) → leb (seats b.n) from ≡ t → Quiet limit (pick {A = Queued} t (record { bench = b; number = 15 }) (queue_at b from a)).bench
    go true e = q
    go false e =
        let inside : from < b.n = seats_members b.n from (leb-false (seats b.n) from e) in
        let whole = (q.picture.members from inside).whole in
        quiet_anew b q from inside a.station
        (record {
          keeps = queue_keeps (station_at b from) whole r;
          whole = queue_keeps_whole (station_at b from) r whole;
        })

-- the frame on the wire stays
pub queue_wire : (b : Bench) (from : ℕ) (r : Request) → (queue b from r).bench.wire ≡ b.wire
unfolding queue pick
queue_wire b from r = go (leb (seats b.n) from)
  where
    go : (t : Bool)
        → (pick {A = Queued} t (record { bench = b; number = 15 }) (queue_at b from (queue_rule (station_at b from) r))).bench.wire ≡ b.wire
    go true = refl
    go false = refl
