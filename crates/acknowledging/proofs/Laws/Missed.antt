-- A frame that its addressee hears and others miss: the next one finds every station as if nothing had been missed. Assumes nothing.
use mathlib.Core.Path.{◌≡◌, refl, sym, ap, subst, ◌∙◌}
use mathlib.Core.Bool.{Bool, true, false, false≢true}
use Prim.Native.Nat.{ℕ, ◌<◌, ◌≤◌}
use native.Mathlib.Omega.{arith}
use lib.Dec.{ltb, eqb}
use lib.ListN.{length}
use borrow.Author.Tests.{ltb-true, ltb-false, eqb-true, eqb-false}
use Rattle.parts.specs.Choose.{pick}
use Rattle.parts.specs.Frames.{number_of, Dispatch}
use Rattle.station.specs.Heard.{acknowledge, frame_rule}
use Rattle.parts.specs.declared.frame.Frame.{Frame}
use Rattle.std.specs.Prelude.{Some}
use Rattle.station.specs.declared.station.Station.{Station}
use Rattle.station.specs.declared.station.Answer.{Answer}
use Rattle.parts.proofs.Laws.Ahead.{after_next_ahead}
use Rattle.parts.proofs.Laws.Choose.{pick_true, pick_false}
use Rattle.bench.specs.Ring.{station_at}
use Rattle.bench.specs.Delivery.{handed, deliver_to, others, deliver, step_on, step}
use Rattle.bench.specs.declared.ring.Wire.{Wire}
use Rattle.bench.specs.declared.ring.Bench.{Bench}
use Rattle.bench.proofs.Laws.Delivered.{delivered_length, handed_hears, handed_outside, handed_at, heard_at, unheard_at, replies_at, others_hear, sender_not}
use Rattle.bench_theorems.specs.Quiet.{Stands, sender, last_sender, at_rest, Picture, Quiet}
use Rattle.bench_theorems.proofs.Laws.Listening.{Listens, idle, waits, ahead_acknowledges}
use Rattle.bench_theorems.proofs.Laws.Hearing.{Hears, silent_is}
use Rattle.bench_theorems.proofs.Laws.Answers.{Role, sends, answers, overhears, role, stands_listens, hears_at, silent_at, answer_at, new_sent}
use Rattle.bench_theorems.proofs.Laws.Delivering.{step_delivers, hears_there, step_picture, step_wire, reply_in}
use Rattle.acknowledging.specs.Missing.{heard_but, miss_on, miss}
use Rattle.acknowledging.specs.Heals.{Spares, SparesOn, no_one}
use Rattle.acknowledging.proofs.Laws.Alike.{same_delivery, hears_once}

-- ---- who hears

pub missing_not : (misses : ℕ → Bool) (from p : ℕ) → misses p ≡ true → heard_but misses from p ≡ false
missing_not misses from p m = pick_true _ _ m

pub own_not : (misses : ℕ → Bool) (from : ℕ) → heard_but misses from from ≡ false
unfolding pick
own_not misses from = go (misses from)
  where
    go : (t : Bool) → pick t false (others from from) ≡ false
    go true = refl
    go false = sender_not from from refl

pub hearing : (misses : ℕ → Bool) (from p : ℕ) → misses p ≡ false → (p ≡ from → ⊥) → heard_but misses from p ≡ true
hearing misses from p m o = pick_false _ _ m ∙ others_hear from p o

pub hearer_other : (misses : ℕ → Bool) (from p : ℕ) → heard_but misses from p ≡ true → p ≡ from → ⊥
hearer_other misses from p h e = false≢true (sym (own_not misses from) ∙ ap (heard_but misses from) (sym e) ∙ h)

-- ---- a quiet picture

-- no station that hears the frame is struck or gives a message up
pub spares_at : {n limit : ℕ} {at : ℕ → Station} {from : ℕ} {f : Frame} {to : ℕ} → Picture n limit at from f to → (p : ℕ) → p < n → (p ≡ from → ⊥)
    → Spares (frame_rule (at p) f from to)
spares_at {at = at} {from} {f} {to} w p m o = go (role from to p)
  where
    go : Role from to p → Spares (frame_rule (at p) f from to)
    go (sends e) = absurd (o e)
    go (answers e x) =
        subst (λ (i : ℕ). Spares (frame_rule (at i) f from to)) (sym e)
        (record { nobody_struck = (answer_at w).nobody_struck; none_given_up = (answer_at w).none_gone })
    go (overhears x y) = record { nobody_struck = (silent_at w p m o x).nobody_struck; none_given_up = (silent_at w p m o x).none_gone }

-- ---- the frame on the wire, missed by some

module _ {limit : ℕ} (b : Bench) (q : Quiet limit b) (misses : ℕ → Bool) where
  abbrev pub missed : Bench
  missed = deliver_to (heard_but misses b.wire.from) b q.frame q.to

  pub miss_delivers : miss misses b ≡ missed
  unfolding miss miss_on
  miss_delivers = ap (miss_on misses b) q.on_wire

  in_table : (p : ℕ) → p < b.n → p < length b.stations
  in_table p m = omega (arith, q.table, q.picture.most_members)

  pub spares_missing : SparesOn misses b b.wire.sent
  unfolding SparesOn
  spares_missing =
      subst (SparesOn misses b) (sym q.on_wire)
      (λ p m h. spares_at q.picture p m (hearer_other misses b.wire.from p h))

  pub missed_outside : (p : ℕ) → p < length b.stations → b.n ≤ p → station_at missed p ≡ station_at b p
  missed_outside p m o =
      handed_at (heard_but misses b.wire.from) b q.frame q.to p m
      ∙ ap (λ (a : Answer). a.station) (handed_outside b.n (heard_but misses b.wire.from) q.frame b.wire.from q.to p (station_at b p) o)

  pub missed_not : (p : ℕ) → p < length b.stations → heard_but misses b.wire.from p ≡ false → station_at missed p ≡ station_at b p
  missed_not p m h = unheard_at (heard_but misses b.wire.from) b q.frame q.to p m h

  pub missed_heard : (p : ℕ) → p < b.n → heard_but misses b.wire.from p ≡ true
      → station_at missed p ≡ (frame_rule (station_at b p) q.frame b.wire.from q.to).station
  missed_heard p m h = heard_at (heard_but misses b.wire.from) b q.frame q.to p (in_table p m) m h

  pub overheard : (p : ℕ) (m : p < b.n) → (p ≡ b.wire.from → ⊥) → (p ≡ q.to → ⊥)
      → (frame_rule (station_at b p) q.frame b.wire.from q.to).station ≡ acknowledge (station_at b p) b.wire.from (number_of q.frame)
  overheard p m o x = ap (λ (a : Answer). a.station) (silent_is (hears_at q.picture p m o) (λ e. x (sym e)))

  -- ---- the addressee hears it

  module _ (here : misses q.to ≡ false) where
    abbrev whole : Bench
    whole = deliver b q.frame q.to

    abbrev frame' : Frame
    frame' = (reply_in b q).frame

    abbrev to' : ℕ
    to' = (reply_in b q).to

    -- how a station stands once the frame is handed round: as if nothing had been missed, or as it was while it should be acknowledged
    data Stood (p : ℕ) : Type 0 where
      as_whole : station_at missed p ≡ station_at whole p → Stood p
      as_it_was : p < b.n → (p ≡ b.wire.from → ⊥) → (p ≡ q.to → ⊥) → station_at missed p ≡ station_at b p
          → station_at whole p ≡ acknowledge (station_at b p) b.wire.from (number_of q.frame) → Stood p

    stood : (p : ℕ) → p < length b.stations → Stood p
    stood p m = go (ltb p b.n) refl (eqb p b.wire.from) refl (misses p) refl
      where
        go : (s : Bool) → ltb p b.n ≡ s → (t : Bool) → eqb p b.wire.from ≡ t → (u : Bool) → misses p ≡ u → Stood p
        go false e t d u z =
            let o : b.n ≤ p = ltb-false p b.n e in
            as_whole
            (missed_outside p m o
            ∙ sym (handed_at (others b.wire.from) b q.frame q.to p m
            ∙ ap (λ (a : Answer). a.station) (handed_outside b.n (others b.wire.from) q.frame b.wire.from q.to p (station_at b p) o)))
        go true e true d u z =
            let i : p ≡ b.wire.from = eqb-true p b.wire.from d in
            as_whole
            (missed_not p m (ap (heard_but misses b.wire.from) i ∙ own_not misses b.wire.from)
            ∙ sym (unheard_at (others b.wire.from) b q.frame q.to p m (sender_not b.wire.from p i)))
        go true e false d false z =
            let i : p < b.n = ltb-true p b.n e in
            let o : p ≡ b.wire.from → ⊥ = eqb-false p b.wire.from d in
            as_whole (missed_heard p i (hearing misses b.wire.from p z o) ∙ sym (hears_there b q p i o))
        go true e false d true z =
            let i : p < b.n = ltb-true p b.n e in
            let o : p ≡ b.wire.from → ⊥ = eqb-false p b.wire.from d in
            let x : p ≡ q.to → ⊥ = λ j. false≢true (sym here ∙ ap misses (sym j) ∙ z) in
            as_it_was i o x (missed_not p m (missing_not misses b.wire.from p z)) (hears_there b q p i o ∙ overheard p i o x)

    -- ---- the next frame

    whole_picture : Picture b.n limit (station_at whole) q.to frame' to'
    whole_picture = subst (λ (c : Bench). Picture b.n limit (station_at c) q.to frame' to') (step_delivers b q) (step_picture b q)

    -- it comes second after the frame that a station still waits for
    still_listens : {before p : ℕ} (s : Station) → (p ≡ b.wire.from → ⊥) → Stands b.wire.from before q.frame q.to p s → Listens q.to (number_of frame') s
    still_listens s o (sender e w a) = absurd (o e)
    still_listens s o (last_sender x e w g a k) =
        waits w
        (ahead_acknowledges s q.to (number_of frame') g _ w a
        ∙ after_next_ahead (number_of g) (number_of q.frame) (number_of frame') k (sym (reply_in b q).number))
    still_listens s o (at_rest x y i) = idle i

    hears_next : (p : ℕ) → p < b.n → (p ≡ b.wire.from → ⊥) → (p ≡ q.to → ⊥) → station_at whole p ≡ acknowledge (station_at b p) b.wire.from (number_of q.frame)
        → frame_rule (station_at b p) frame' q.to to' ≡ frame_rule (station_at whole p) frame' q.to to'
    hears_next p m o x e =
        let g = hears_at whole_picture p m x in
        let l = stands_listens o (q.picture.turns p m) in
        let h : Hears b.n limit p (station_at b p) frame' q.to to' =
        record {
          some_members = g.some_members;
          most_members = g.most_members;
          place = m;
          member = q.picture.members p m;
          listens = still_listens (station_at b p) o (q.picture.turns p m);
          sender = g.sender;
          addressee = g.addressee;
          apart = g.apart;
          another = g.another;
          nobody = g.nobody;
          fits = g.fits;
        } in
        sym (hears_once l h (subst (λ (s : Station). Hears b.n limit p s frame' q.to to') e g))
        ∙ ap (λ (s : Station). frame_rule s frame' q.to to') (sym e)

    answers_next : (p : ℕ) → p < b.n → (p ≡ q.to → ⊥) → frame_rule (station_at missed p) frame' q.to to' ≡ frame_rule (station_at whole p) frame' q.to to'
    answers_next p m x = go (stood p (in_table p m))
      where
        go : Stood p → frame_rule (station_at missed p) frame' q.to to' ≡ frame_rule (station_at whole p) frame' q.to to'
        go (as_whole e) = ap (λ (s : Station). frame_rule s frame' q.to to') e
        go (as_it_was i o z e d) = ap (λ (s : Station). frame_rule s frame' q.to to') e ∙ hears_next p i o z d

    handed_next : (p : ℕ) → p < length b.stations
        → handed b.n (others q.to) frame' q.to to' p (station_at missed p) ≡ handed b.n (others q.to) frame' q.to to' p (station_at whole p)
    handed_next p m = go (stood p m)
      where
        go : Stood p → handed b.n (others q.to) frame' q.to to' p (station_at missed p) ≡ handed b.n (others q.to) frame' q.to to' p (station_at whole p)
        go (as_whole e) = ap (handed b.n (others q.to) frame' q.to to' p) e
        go (as_it_was i o x e d) =
            handed_hears b.n (others q.to) frame' q.to to' p (station_at missed p) i (others_hear q.to p x)
            ∙ answers_next p i x
            ∙ sym (handed_hears b.n (others q.to) frame' q.to to' p (station_at whole p) i (others_hear q.to p x))

    missed_wire : missed.wire ≡ record { from = q.to; sent = Some (frame', to') }
    unfolding deliver_to
    missed_wire =
        ap (λ (d : Dispatch). let w : Wire = record { from = q.to; sent = d } in w)
        (replies_at (heard_but misses b.wire.from) b q.frame q.to q.picture.addressee_member (hearing misses b.wire.from q.to here q.picture.another)
        ∙ new_sent q.picture)

    pub next_at_once : missed.wire ≡ (step b).wire
    next_at_once = missed_wire ∙ sym (step_wire b q)

    delivers_next : (c : Bench) → c.wire ≡ record { from = q.to; sent = Some (frame', to') } → step c ≡ deliver_to (others q.to) c frame' to'
    unfolding step step_on
    delivers_next c e = (λ i. step_on c (e i).sent) ∙ (λ i. deliver_to (others (e i).from) c frame' to')

    healed_whole : deliver_to (others q.to) missed frame' to' ≡ deliver_to (others q.to) whole frame' to'
    unfolding deliver_to
    healed_whole =
        let long : length whole.stations ≡ length b.stations = delivered_length b.n (others b.wire.from) q.frame b.wire.from q.to 0 b.stations in
        let as_long : length missed.stations ≡ length b.stations = delivered_length b.n (heard_but misses b.wire.from) q.frame b.wire.from q.to 0 b.stations in
        same_delivery (others q.to) frame' to' whole missed refl refl (as_long ∙ sym long)
        (λ p m. handed_next p (omega arith))
        (omega (arith, in_table to' whole_picture.addressee_member))

    pub healed_missed : step missed ≡ step (step b)
    healed_missed =
        delivers_next missed missed_wire
        ∙ healed_whole
        ∙ sym (delivers_next whole (ap (λ (c : Bench). c.wire) (sym (step_delivers b q)) ∙ step_wire b q))
        ∙ ap step (sym (step_delivers b q))

    pub spares_next : SparesOn no_one missed missed.wire.sent
    unfolding SparesOn deliver_to
    spares_next =
        subst (SparesOn no_one missed) (sym (ap (λ (w : Wire). w.sent) missed_wire))
        (λ p m h.
        let x : p ≡ q.to → ⊥ = hearer_other no_one q.to p h in
        subst Spares (sym (answers_next p m x)) (spares_at whole_picture p m x))
