-- While a missed frame waits for its sender's timer, the timers of others change nothing. Assumes nothing.
use mathlib.Core.Path.{◌≡◌, refl, sym, ap, subst, ◌∙◌}
use mathlib.Core.Bool.{Bool, true, false, not}
use Prim.Native.Nat.{ℕ, ◌<◌}
use native.Mathlib.Omega.{arith}
use lib.Dec.{ltb, eqb}
use lib.ListN.{length, length-set}
use lib.Seq.{get_or-set_same, get_or-set_other}
use borrow.Author.Tests.{ltb-true, ltb-false, eqb-true, eqb-false, ne_eqb}
use Rattle.parts.specs.Frames.{number_of, failing_of, next}
use Rattle.station.specs.Stations.{state_of, awaited_of, answered}
use Rattle.station.specs.Heard.{acknowledge, frame_rule}
use Rattle.station.specs.Timer.{once_more}
use Rattle.parts.specs.declared.moves.State.TheVariants.{Idle, Waiting}
use Rattle.std.specs.Prelude.{None, Some}
use Rattle.parts.specs.declared.frame.Frame.{Frame}
use Rattle.station.specs.declared.station.Station.{Station}
use Rattle.station.specs.declared.station.Answer.{Answer}
use Rattle.parts.proofs.Laws.Ahead.{before_not_ahead}
use Rattle.station_theorems.proofs.Laws.Landed.{not_acknowledged}
use Rattle.station_theorems.proofs.Theorems.Resent.{waiting_stops}
use Rattle.bench.specs.Ring.{nobody, station_at}
use Rattle.bench.specs.Delivery.{handed, reply_of, deliver_to}
use Rattle.bench.specs.declared.ring.Bench.{Bench}
use Rattle.bench.proofs.Laws.StandsBy.{elsewhere}
use Rattle.bench.proofs.Laws.Delivered.{delivered_length, handed_hears, handed_not, handed_outside, handed_at}
use Rattle.bench_theorems.specs.Quiet.{Stands, sender, last_sender, at_rest, Quiet}
use Rattle.bench_theorems.proofs.Laws.Listening.{rested, ahead_acknowledges, idle_stays}
use Rattle.bench_theorems.proofs.Laws.Answers.{stands_listens, stands_waits}
use Rattle.acknowledging.specs.Missing.{heard_but, miss_on, miss, timer_at, Retries, Meanwhile, nothing, timer, fresh}
use Rattle.acknowledging.specs.Heals.{Spares, SparesOn, Harmless}
use Rattle.acknowledging.proofs.Laws.Calm.{failing_in}
use Rattle.acknowledging.proofs.Laws.Alike.{waiting_idle}
use Rattle.acknowledging.proofs.Laws.Missed.{own_not, hearer_other}
use Rattle.acknowledging.proofs.Laws.Untouched.{Left, left_by, sent_again, timer_is, timer_spares}
use Rattle.acknowledging.proofs.Laws.Lull.{Undisturbed, Rests, as_it_was, already, Lull, in_table}

module _ {limit : ℕ} (b : Bench) (u : Undisturbed limit b) where
  abbrev q : Quiet limit b
  q = u.quiet

  abbrev from : ℕ
  from = b.wire.from

  abbrev number : ℕ
  number = number_of q.frame

  -- ---- who still waits

  rests_idle : (p : ℕ) (m : p < b.n) (o : p ≡ from → ⊥) (s : Station) → s ≡ acknowledge (station_at b p) from number → state_of s ≡ Idle
  rests_idle p m o s e = ap state_of e ∙ (rested (stands_listens o (q.picture.turns p m))).at_rest

  -- another station than the sender waits for the frame before
  record Waits (p : ℕ) (s : Station) : Type 0 where
    was : fresh s ≡ station_at b p
    is_last : p ≡ q.picture.before
    frame : Frame
    awaits : awaited_of s ≡ Some (frame, from)
    follows : next (number_of frame) ≡ number
    quiet : failing_of frame ≡ None

  waits_for : (p : ℕ) → p < b.n → (p ≡ from → ⊥) → (s : Station) → Rests b u p s → state_of s ≡ Waiting → Waits p s
  waits_for p m o s (already i x y e) w = absurd (waiting_idle s w (rests_idle p m o s e))
  waits_for p m o s (as_it_was e) w = go (q.picture.turns p m)
    where
      go : Stands from q.picture.before q.frame q.to p (station_at b p) → Waits p s
      go (sender i v a) = absurd (o i)
      go (at_rest x y i) = absurd (waiting_idle s w (ap state_of e ∙ i))
      go (last_sender x i v g a k) =
          record { was = e; is_last = i; frame = g; awaits = ap awaited_of e ∙ a; follows = k; quiet = sym (ap failing_in a) ∙ u.calm p m }

  -- everybody else but the sender is Idle
  idle_there : (r : ℕ) → r < b.n → (r ≡ from → ⊥) → (r ≡ q.picture.before → ⊥) → (s : Station) → Rests b u r s → state_of s ≡ Idle
  idle_there r m o x s (already i y z e) = rests_idle r m o s e
  idle_there r m o x s (as_it_was e) = go (q.picture.turns r m)
    where
      go : Stands from q.picture.before q.frame q.to r (station_at b r) → state_of s ≡ Idle
      go (sender i v a) = absurd (o i)
      go (last_sender y i v g a k) = absurd (x i)
      go (at_rest y z i) = ap state_of e ∙ i

  own_there : (r : ℕ) (m : r < b.n) (s : Station) → Rests b u r s → s.own ≡ r
  own_there r m s (as_it_was e) = ap (λ (t : Station). t.own) e ∙ (q.picture.members r m).own
  own_there r m s (already i o x e) =
      ap (λ (t : Station). t.own) e ∙ (rested (stands_listens o (q.picture.turns r m))).seat.same_own ∙ (q.picture.members r m).own

  -- ---- the timer of another

  module _ (c : Bench) (l : Lull b u c) (p : ℕ) (k : Retries from c p) (misses : ℕ → Bool) where
    m : p < b.n
    m = omega (arith, k.member, l.same_n)

    v : Waits p (station_at c p)
    v = waits_for p m k.another (station_at c p) (l.each p (in_table b u p m)) k.waits

    abbrev g : Frame
    g = v.frame

    abbrev d : Bench
    d = sent_again c p g from

    sends_again : timer_at c p ≡ d
    sends_again = timer_is c p g from k.waits v.awaits k.below_last

    -- the frame before changes nothing
    left_there : (r : ℕ) → r < b.n → (r ≡ p → ⊥) → Left (station_at c r) (frame_rule (station_at c r) g p from)
    left_there r i x = go (eqb r from) refl
      where
        s : Station
        s = station_at c r

        go : (t : Bool) → eqb r from ≡ t → Left s (frame_rule s g p from)
        go true e =
            let here : s ≡ station_at b from = ap (station_at c) (eqb-true r from e) ∙ l.sender_same in
            let a = stands_waits refl (q.picture.turns from q.picture.sender_member) in
            left_by s g p from
            (not_acknowledged s p (number_of g)
            (ahead_acknowledges s p (number_of g) q.frame q.to (ap state_of here ∙ a.waiting) (ap awaited_of here ∙ a.awaited)
            ∙ before_not_ahead number (number_of g) v.follows))
            v.quiet
            (waiting_stops s from (number_of g) (ap state_of here ∙ a.waiting))
        go false e =
            let y : r ≡ from → ⊥ = eqb-false r from e in
            let own : s.own ≡ r = own_there r i s (l.each r (in_table b u r i)) in
            left_by s g p from
            (idle_stays s p (number_of g) (idle_there r i y (λ z. x (z ∙ sym v.is_last)) s (l.each r (in_table b u r i))))
            v.quiet
            (elsewhere s from (number_of g) (ap not (ne_eqb from s.own (λ z. y (sym (z ∙ own))))))

    there : (r : ℕ) → (r ≡ p → ⊥) → station_at d r ≡ station_at c r
    there r x = get_or-set_other c.stations p r (once_more (station_at c p)) nobody x

    here : station_at d p ≡ once_more (station_at c p)
    here = get_or-set_same c.stations p (once_more (station_at c p)) nobody (omega (arith, l.long, in_table b u p m))

    abbrev heard : ℕ → Bool
    heard = heard_but misses p

    answers_left : (r : ℕ) → (r ≡ p → ⊥) → Left (station_at c r) (handed c.n heard g p from r (station_at d r))
    answers_left r x = go (ltb r c.n) refl (heard r) refl
      where
        stays : handed c.n heard g p from r (station_at d r) ≡ answered (station_at d r) 0 → Left (station_at c r) (handed c.n heard g p from r (station_at d r))
        stays e = subst (Left (station_at c r)) (sym (e ∙ ap (λ (s : Station). answered s 0) (there r x))) (record { same = refl; silent = refl; spares = record { nobody_struck = refl; none_given_up = refl } })

        go : (t : Bool) → ltb r c.n ≡ t → (u : Bool) → heard r ≡ u → Left (station_at c r) (handed c.n heard g p from r (station_at d r))
        go false e u h = stays (handed_outside c.n heard g p from r (station_at d r) (ltb-false r c.n e))
        go true e false h = stays (handed_not c.n heard g p from r (station_at d r) h)
        go true e true h =
            let i : r < c.n = ltb-true r c.n e in
            subst (Left (station_at c r))
            (sym (handed_hears c.n heard g p from r (station_at d r) i h ∙ ap (λ (s : Station). frame_rule s g p from) (there r x)))
            (left_there r (omega (arith, l.same_n)) x)

    abbrev e : Bench
    e = deliver_to heard d g from

    at_heard : (r : ℕ) → r < length b.stations → station_at e r ≡ (handed c.n heard g p from r (station_at d r)).station
    at_heard r i = handed_at heard d g from r (omega (arith, length-set c.stations p (once_more (station_at c p)), l.long))

    same_there : (r : ℕ) → r < length b.stations → (r ≡ p → ⊥) → station_at e r ≡ station_at c r
    same_there r i x = at_heard r i ∙ (answers_left r x).same

    rests_there : (r : ℕ) → r < length b.stations → Rests b u r (station_at e r)
    rests_there r i = go (eqb r p) refl
      where
        go : (t : Bool) → eqb r p ≡ t → Rests b u r (station_at e r)
        go false z = subst (Rests b u r) (sym (same_there r i (eqb-false r p z))) (l.each r i)
        go true z =
            subst (λ (j : ℕ). Rests b u j (station_at e j)) (sym (eqb-true r p z))
            (subst (Rests b u p)
            (sym (at_heard p (in_table b u p m) ∙ ap (λ (a : Answer). a.station) (handed_not c.n heard g p from p (station_at d p) (own_not misses p)) ∙ here))
            (as_it_was v.was))

    lull_heard : Lull b u e
    unfolding deliver_to reply_of
    lull_heard =
        record {
          same_n = l.same_n;
          long = delivered_length c.n heard g p from 0 d.stations ∙ length-set c.stations p (once_more (station_at c p)) ∙ l.long;
          sender_same = same_there from (in_table b u from q.picture.sender_member) (λ z. k.another (sym z)) ∙ l.sender_same;
          each = rests_there;
          empty = (answers_left from (λ z. k.another (sym z))).silent;
        }

    miss_sent : miss misses d ≡ e
    unfolding miss miss_on
    miss_sent = refl

    pub lull_timer : Lull b u (miss misses (timer_at c p))
    lull_timer = subst (Lull b u) (sym (ap (miss misses) sends_again ∙ miss_sent)) lull_heard

    spared_heard : SparesOn misses d d.wire.sent
    unfolding SparesOn
    spared_heard r i h =
        let x : r ≡ p → ⊥ = hearer_other misses p r h in
        subst (λ (s : Station). Spares (frame_rule s g p from)) (sym (there r x)) (left_there r (omega (arith, l.same_n)) x).spares

    pub harmless : Harmless misses c p
    harmless =
        record {
          timer_spares = timer_spares c p g from k.waits v.awaits k.below_last;
          spares_all = subst (λ (a : Bench). SparesOn misses a a.wire.sent) (sym sends_again) spared_heard;
        }

  -- ---- whatever happens meanwhile

  pub lull_meanwhile : (a : Bench) → Lull b u a → (c : Bench) → Meanwhile from a c → Lull b u c
  lull_meanwhile a l c nothing = l
  lull_meanwhile a l c (timer x h p k misses) = lull_timer x (lull_meanwhile a l x h) p k misses
