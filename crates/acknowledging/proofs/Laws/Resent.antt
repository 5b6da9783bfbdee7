-- The sender's timer heals a frame that its addressee missed. Assumes nothing.
use mathlib.Core.Path.{◌≡◌, refl, sym, ap, subst, ◌∙◌}
use mathlib.Core.Bool.{Bool, true, false}
use Prim.Native.Nat.{ℕ, ◌<◌, ◌≤◌}
use native.Mathlib.Omega.{arith}
use lib.Dec.{ltb, eqb}
use lib.ListN.{length, length-set, length-map}
use lib.Seq.{get_or-set_same, get_or-set_other}
use borrow.Author.Tests.{ltb-true, ltb-false, eqb-true, eqb-false}
use Rattle.parts.specs.Frames.{number_of}
use Rattle.station.specs.Stations.{state_of, awaited_of}
use Rattle.station.specs.Heard.{acknowledge, frame_rule}
use Rattle.station.specs.Timer.{once_more}
use Rattle.station.specs.declared.station.Station.{Station}
use Rattle.station.specs.declared.station.Answer.{Answer}
use Rattle.bench.specs.Ring.{nobody, station_at}
use Rattle.bench.specs.Delivery.{handed, deliver_to, others, step, step_on}
use Rattle.bench.specs.Runs.{final, frames}
use Rattle.bench.specs.declared.ring.Bench.{Bench}
use Rattle.bench.proofs.Laws.Delivered.{handed_hears, others_hear}
use Rattle.bench_theorems.specs.Quiet.{Member, Quiet}
use Rattle.bench_theorems.proofs.Laws.Listening.{idle, rested}
use Rattle.bench_theorems.proofs.Laws.Answers.{Waits as Awaiting, stands_listens, stands_waits, hears_at, silent_at}
use Rattle.bench_theorems.proofs.Laws.Delivering.{step_delivers}
use Rattle.acknowledging.specs.Missing.{timer_at, fresh, afresh}
use Rattle.acknowledging.specs.Heals.{Spares, SparesOn, no_one, ByTimer}
use Rattle.acknowledging.proofs.Laws.Afresh.{fresh_answer, fresh_acknowledge, fresh_frame}
use Rattle.acknowledging.proofs.Laws.AfreshRuns.{afresh_at, afresh_step, afresh_final, afresh_frames}
use Rattle.acknowledging.proofs.Laws.Alike.{same_delivery, hears_once}
use Rattle.acknowledging.proofs.Laws.Missed.{hearer_other, spares_at, overheard}
use Rattle.acknowledging.proofs.Laws.Untouched.{sent_again, timer_is, timer_spares}
use Rattle.acknowledging.proofs.Laws.Lull.{Undisturbed, Rests, as_it_was, already, Lull, station_fresh, in_table}

module _ {limit : ℕ} (b : Bench) (u : Undisturbed limit b) where
  abbrev q : Quiet limit b
  q = u.quiet

  abbrev from : ℕ
  from = b.wire.from

  abbrev number : ℕ
  number = number_of q.frame

  -- ---- the sender's timer

  module _ (c : Bench) (l : Lull b u c) where
    waits_here : Awaiting q.frame q.to (station_at b from)
    waits_here = stands_waits refl (q.picture.turns from q.picture.sender_member)

    abbrev resent : Bench
    resent = sent_again c from q.frame q.to

    below_last : (station_at c from).turn.retries < (station_at c from).limit
    below_last =
        let r : (station_at c from).turn.retries ≡ 0 = ap (λ (s : Station). s.turn.retries) (l.sender_same ∙ sym (station_fresh b u from)) in
        let m : (station_at c from).limit ≡ limit = ap (λ (s : Station). s.limit) l.sender_same ∙ (q.picture.members from q.picture.sender_member).same_limit in
        omega (arith, u.retries)

    resends : timer_at c from ≡ resent
    resends = timer_is c from q.frame q.to (ap state_of l.sender_same ∙ waits_here.waiting) (ap awaited_of l.sender_same ∙ waits_here.awaited) below_last

    resent_there : (p : ℕ) → (p ≡ from → ⊥) → station_at resent p ≡ station_at c p
    resent_there p x = get_or-set_other c.stations from p (once_more (station_at c from)) nobody x

    resent_here : station_at resent from ≡ once_more (station_at c from)
    resent_here = get_or-set_same c.stations from (once_more (station_at c from)) nobody (omega (arith, l.long, in_table b u from q.picture.sender_member))

    -- who was acknowledged already hears the frame again as if for the first time
    hears_again : (p : ℕ) (m : p < b.n) (o : p ≡ from → ⊥) (x : p ≡ q.to → ⊥)
        → frame_rule (acknowledge (station_at b p) from number) q.frame from q.to ≡ frame_rule (station_at b p) q.frame from q.to
    hears_again p m o x =
        let h = hears_at q.picture p m o in
        let k = stands_listens o (q.picture.turns p m) in
        hears_once k h
        (record {
          some_members = h.some_members;
          most_members = h.most_members;
          place = m;
          member = subst (Member b.n limit p) (overheard b q no_one p m o x) (silent_at q.picture p m o x).member;
          listens = idle (rested k).at_rest;
          sender = h.sender;
          addressee = h.addressee;
          apart = h.apart;
          another = h.another;
          nobody = h.nobody;
          fits = h.fits;
        })

    already_fresh : (p : ℕ) → fresh (acknowledge (station_at b p) from number) ≡ acknowledge (station_at b p) from number
    already_fresh p = sym (fresh_acknowledge (station_at b p) from number) ∙ ap (λ (s : Station). acknowledge s from number) (station_fresh b u p)

    refreshed : (p : ℕ) → p < b.n → (p ≡ from → ⊥) → frame_rule (fresh (station_at c p)) q.frame from q.to ≡ frame_rule (station_at b p) q.frame from q.to
    refreshed p m o = go (l.each p (in_table b u p m))
      where
        go : Rests b u p (station_at c p) → frame_rule (fresh (station_at c p)) q.frame from q.to ≡ frame_rule (station_at b p) q.frame from q.to
        go (as_it_was e) = ap (λ (s : Station). frame_rule s q.frame from q.to) e
        go (already i y x e) = ap (λ (s : Station). frame_rule s q.frame from q.to) (ap fresh e ∙ already_fresh p) ∙ hears_again p i y x

    outside_fresh : (p : ℕ) → p < length b.stations → b.n ≤ p → fresh (station_at c p) ≡ station_at b p
    outside_fresh p m o = go (l.each p m)
      where
        go : Rests b u p (station_at c p) → fresh (station_at c p) ≡ station_at b p
        go (as_it_was e) = e
        go (already i y x e) = absurd (omega arith)

    alike : (p : ℕ) → p < length b.stations
        → handed b.n (others from) q.frame from q.to p (station_at (afresh resent) p) ≡ handed b.n (others from) q.frame from q.to p (station_at b p)
    alike p m = ap (handed b.n (others from) q.frame from q.to p) (afresh_at resent p) ∙ go (eqb p from) refl (ltb p b.n) refl
      where
        go : (t : Bool) → eqb p from ≡ t → (v : Bool) → ltb p b.n ≡ v
            → handed b.n (others from) q.frame from q.to p (fresh (station_at resent p)) ≡ handed b.n (others from) q.frame from q.to p (station_at b p)
        go true z v i =
            let j : p ≡ from = eqb-true p from z in
            ap (handed b.n (others from) q.frame from q.to p)
            (ap (λ (r : ℕ). fresh (station_at resent r)) j ∙ ap fresh resent_here ∙ ap fresh l.sender_same ∙ station_fresh b u from ∙ ap (station_at b) (sym j))
        go false z false i =
            ap (handed b.n (others from) q.frame from q.to p)
            (ap fresh (resent_there p (eqb-false p from z)) ∙ outside_fresh p m (ltb-false p b.n i))
        go false z true i =
            let o : p ≡ from → ⊥ = eqb-false p from z in
            let j : p < b.n = ltb-true p b.n i in
            ap (λ (s : Station). handed b.n (others from) q.frame from q.to p (fresh s)) (resent_there p o)
            ∙ handed_hears b.n (others from) q.frame from q.to p (fresh (station_at c p)) j (others_hear from p o)
            ∙ refreshed p j o
            ∙ sym (handed_hears b.n (others from) q.frame from q.to p (station_at b p) j (others_hear from p o))

    step_resent : step (afresh resent) ≡ deliver_to (others from) (afresh resent) q.frame q.to
    unfolding step step_on afresh
    step_resent = refl

    healed_delivery : deliver_to (others from) (afresh resent) q.frame q.to ≡ deliver_to (others from) b q.frame q.to
    unfolding afresh
    healed_delivery =
        same_delivery (others from) q.frame q.to b (afresh resent) l.same_n refl
        (length-map resent.stations fresh ∙ length-set c.stations from (once_more (station_at c from)) ∙ l.long)
        alike (in_table b u q.to q.picture.addressee_member)

    healed_resent : afresh (step resent) ≡ step b
    healed_resent = sym (afresh_step resent) ∙ step_resent ∙ healed_delivery ∙ sym (step_delivers b q)

    healed_timer : afresh (step (timer_at c from)) ≡ step b
    healed_timer = ap (λ (a : Bench). afresh (step a)) resends ∙ healed_resent

    spared_resent : SparesOn no_one resent resent.wire.sent
    unfolding SparesOn
    spared_resent p m h =
        let o : p ≡ from → ⊥ = hearer_other no_one from p h in
        let i : p < b.n = omega (arith, l.same_n) in
        let a : frame_rule (station_at b p) q.frame from q.to ≡ fresh_answer (frame_rule (station_at c p) q.frame from q.to) =
        sym (refreshed p i o) ∙ fresh_frame (station_at c p) q.frame from q.to in
        let t = spares_at q.picture p i o in
        subst (λ (s : Station). Spares (frame_rule s q.frame from q.to)) (sym (resent_there p o))
        (record {
          nobody_struck = sym (ap (λ (x : Answer). x.struck) a) ∙ t.nobody_struck;
          none_given_up = sym (ap (λ (x : Answer). x.gone) a) ∙ t.none_given_up;
        })

    pub by_timer : ByTimer b c
    by_timer =
        record {
          timer_spares = timer_spares c from q.frame q.to (ap state_of l.sender_same ∙ waits_here.waiting) (ap awaited_of l.sender_same ∙ waits_here.awaited) below_last;
          same_frame = ap (λ (a : Bench). a.wire) resends ∙ (λ i. record { from = from; sent = sym q.on_wire i });
          healed = healed_timer;
          spares_all = subst (λ (a : Bench). SparesOn no_one a a.wire.sent) (sym resends) spared_resent;
          same_bench = λ es. sym (afresh_final (step (timer_at c from)) es) ∙ ap (λ (a : Bench). final a es) healed_timer;
          same_frames = λ es. sym (afresh_frames (step (timer_at c from)) es) ∙ ap (λ (a : Bench). frames a es) healed_timer;
        }
