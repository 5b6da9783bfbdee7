-- A frame that its addressee misses: until its sender's timer runs every station stands as before the frame or as after it. Assumes nothing.
use mathlib.Core.Path.{◌≡◌, refl, sym, ap, ◌∙◌}
use mathlib.Core.Bool.{Bool, true, false, false≢true}
use Prim.Native.Nat.{ℕ, ◌<◌, ◌≤◌}
use native.Mathlib.Omega.{arith}
use lib.Dec.{ltb}
use lib.ListN.{length}
use borrow.Author.Tests.{ltb-true, ltb-false}
use Rattle.parts.specs.Frames.{number_of}
use Rattle.station.specs.Heard.{acknowledge}
use Rattle.std.specs.Prelude.{None}
use Rattle.station.specs.declared.station.Station.{Station}
use Rattle.station.specs.declared.station.Answer.{Answer}
use Rattle.bench.specs.Ring.{station_at}
use Rattle.bench.specs.Delivery.{reply_of, deliver_to}
use Rattle.bench.specs.declared.ring.Bench.{Bench}
use Rattle.bench.proofs.Laws.Delivered.{delivered_length, handed_not}
use Rattle.bench_theorems.specs.Quiet.{Quiet}
use Rattle.acknowledging.specs.Missing.{heard_but, fresh, afresh}
use Rattle.acknowledging.proofs.Laws.AfreshRuns.{afresh_at}
use Rattle.acknowledging.proofs.Laws.Calm.{Calm}
use Rattle.acknowledging.proofs.Laws.Missed.{missing_not, own_not, hearer_other, missed, missed_outside, missed_not, missed_heard, overheard}

-- what a fault-free run comes to
pub record Undisturbed (limit : ℕ) (b : Bench) : Type 0 where
  pub quiet : Quiet limit b
  pub retries : 1 ≤ limit
  pub none_retried : afresh b ≡ b
  pub calm : Calm b

module _ {limit : ℕ} (b : Bench) (u : Undisturbed limit b) where
  abbrev q : Quiet limit b
  q = u.quiet

  abbrev from : ℕ
  from = b.wire.from

  abbrev number : ℕ
  number = number_of q.frame

  pub station_fresh : (p : ℕ) → fresh (station_at b p) ≡ station_at b p
  station_fresh p = sym (afresh_at b p) ∙ ap (λ (c : Bench). station_at c p) u.none_retried

  -- ---- how a station stands

  -- as before the frame, its retry count apart, or as after it
  pub data Rests (p : ℕ) (s : Station) : Type 0 where
    as_it_was : fresh s ≡ station_at b p → Rests p s
    already : p < b.n → (p ≡ from → ⊥) → (p ≡ q.to → ⊥) → s ≡ acknowledge (station_at b p) from number → Rests p s

  -- nothing is on the wire, and the sender's timer has not run
  pub record Lull (c : Bench) : Type 0 where
    pub same_n : c.n ≡ b.n
    pub long : length c.stations ≡ length b.stations
    pub sender_same : station_at c from ≡ station_at b from
    pub each : (p : ℕ) → p < length b.stations → Rests p (station_at c p)
    pub empty : c.wire.sent ≡ None

  pub in_table : (p : ℕ) → p < b.n → p < length b.stations
  in_table p m = omega (arith, q.table, q.picture.most_members)

  -- ---- the frame is missed

  module _ (misses : ℕ → Bool) (gone : misses q.to ≡ true) where
    missed_rests : (p : ℕ) → p < length b.stations → Rests p (station_at (missed b q misses) p)
    missed_rests p m = go (heard_but misses from p) refl (ltb p b.n) refl
      where
        was : station_at (missed b q misses) p ≡ station_at b p → Rests p (station_at (missed b q misses) p)
        was e = as_it_was (ap fresh e ∙ station_fresh p)

        go : (t : Bool) → heard_but misses from p ≡ t → (u : Bool) → ltb p b.n ≡ u → Rests p (station_at (missed b q misses) p)
        go false h u e = was (missed_not b q misses p m h)
        go true h false e = was (missed_outside b q misses p m (ltb-false p b.n e))
        go true h true e =
            let i : p < b.n = ltb-true p b.n e in
            let o : p ≡ from → ⊥ = hearer_other misses from p h in
            let x : p ≡ q.to → ⊥ = λ j. false≢true (sym (missing_not misses from q.to gone) ∙ ap (heard_but misses from) (sym j) ∙ h) in
            already i o x (missed_heard b q misses p i h ∙ overheard b q misses p i o x)

    pub lull_missed : Lull (missed b q misses)
    unfolding deliver_to reply_of
    lull_missed =
        record {
          same_n = refl;
          long = delivered_length b.n (heard_but misses from) q.frame from q.to 0 b.stations;
          sender_same = missed_not b q misses from (in_table from q.picture.sender_member) (own_not misses from);
          each = missed_rests;
          empty =
              ap (λ (a : Answer). a.sent)
              (handed_not b.n (heard_but misses from) q.frame from q.to q.to (station_at b q.to) (missing_not misses from q.to gone));
        }
