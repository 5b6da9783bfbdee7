-- Laws of who newly strikes at a heard frame. Assumes nothing.
use mathlib.Core.Path.{◌≡◌, refl, sym, ap, ◌∙◌}
use mathlib.Core.Bool.{Bool, true, false, not}
use Prim.Native.Nat.{ℕ}
use lib.Dec.{ltb, leb, eqb}
use borrow.Author.Tests.{lt-leb, le-leb, ltb-true, ltb-false}
use Rattle.parts.specs.Choose.{pick}
use Rattle.parts.specs.Live.{live_at}
use Rattle.parts.specs.Moves.{move_of, runs}
use Rattle.parts.specs.Frames.{number_of, flight, failing_of}
use Rattle.parts.specs.declared.frame.Frame.{Frame}
use Rattle.std.specs.Prelude.{Option, None, Some}
use Rattle.parts.specs.declared.live.Live.{Live}
use Rattle.parts.specs.declared.moves.Event.TheVariants.{Heard}
use Rattle.parts.specs.declared.moves.State.TheVariants.{Idle, Alone, Excluded}
use Rattle.parts.proofs.Laws.Choose.{pick_true, pick_false, map_or_keeps}
use Rattle.parts.specs.Live.{newly}
use Rattle.station.specs.Stations.{state_of, awaited_of, quiet, alone, answered, moved, unless}
use Rattle.station.specs.Strike.{Struck, strike, leave, nothing_gone, give_up_to, told, stopped}
use Rattle.station.specs.Heard.{checks, acknowledged, landed, acknowledge, strike_other, strike_heard, failed, nothing_more, stored, silent, handle, respond, heard, frame_rule}
use Rattle.station.specs.declared.station.Station.{Station}
use Rattle.station.specs.declared.station.Answer.{Answer}
use Rattle.bench.specs.Delivery.{handed}
use Rattle.bench.specs.Table.{hears}
use Rattle.bench.specs.declared.table.Handing.{Handing}
use Rattle.day.specs.Strikes.{heeds, is_member, strikes_by}

-- whom a station strikes newly where `w` fails
abbrev pub newly_of : Live → Option ℕ → Option ℕ
newly_of l None = None
newly_of l (Some p) = newly l p

answer_either : (b : Bool) (x y : Answer) (w : Option ℕ) → x.struck ≡ w → y.struck ≡ w → (pick b x y).struck ≡ w
unfolding pick
answer_either true x y w p q = p
answer_either false x y w p q = q

struck_either : (b : Bool) (x y : Struck) (w : Option ℕ) → x.struck ≡ w → y.struck ≡ w → (pick b x y).struck ≡ w
unfolding pick
struck_either true x y w p q = p
struck_either false x y w p q = q

live_either : (b : Bool) (x y : Station) (l : Live) → x.live ≡ l → y.live ≡ l → (pick b x y).live ≡ l
unfolding pick
live_either true x y l p q = p
live_either false x y l p q = q

-- an acknowledgement leaves the live set
acknowledged_live : (s : Station) (from k : ℕ) → (acknowledge s from k).live ≡ s.live
unfolding acknowledge landed
acknowledged_live s from k =
    live_either (acknowledged s from k) (quiet (landed s) Idle) s s.live
    (map_or_keeps (λ (t : Station). t.live ≡ s.live) (leave s) (flight (awaited_of s)) s (λ p. refl) refl)
    refl

failed_struck : (s : Station) (w : Option ℕ) → (failed s w).struck ≡ newly_of s.live w
unfolding failed strike_heard strike_other
failed_struck s None = refl
failed_struck s (Some p) =
    struck_either (eqb p s.own) (stopped (nothing_gone (strike s p)) (newly s.live p) Excluded) (strike_other s p (newly s.live p)) (newly s.live p) refl
    (struck_either (alone (strike s p)) (stopped (give_up_to (strike s p) p) (newly s.live p) Alone) (told (give_up_to (strike s p) p) (newly s.live p)) (newly s.live p) refl refl)

heard_struck : (s : Station) (f : Frame) (from to : ℕ) → (heard s f from to).struck ≡ newly_of s.live (failing_of f)
unfolding heard respond handle
heard_struck s f from to =
    let t : Station = acknowledge s from (number_of f) in
    let k : Struck = failed t (failing_of f) in
    answer_either (nothing_more k.station to (number_of f)) (silent k) (handle k (stored k.station from f) f) k.struck refl refl
    ∙ failed_struck t (failing_of f)
    ∙ ap (λ (l : Live). newly_of l (failing_of f)) (acknowledged_live s from (number_of f))

-- ---- what is handed round

-- the tests, as they stand in the two definitions
asked_alike : (a b m c : Bool) (w : Option ℕ) → pick (pick a b false) (pick m (pick c w None) None) None ≡ pick (pick (not a) false (pick b (pick m c false) false)) w None
unfolding pick
asked_alike false b m c w = refl
asked_alike true false m c w = refl
asked_alike true true false c w = refl
asked_alike true true true false w = refl
asked_alike true true true true w = refl

pub not_less : (p n : ℕ) → leb n p ≡ not (ltb p n)
not_less p n = go (ltb p n) refl
  where
    go : (b : Bool) → ltb p n ≡ b → leb n p ≡ not b
    go true e = lt-leb n p (ltb-true p n e)
    go false e = le-leb n p (ltb-false p n e)

struck_in : (b : Bool) (x y : Answer) → (pick b x y).struck ≡ pick b x.struck y.struck
unfolding pick
struck_in true x y = refl
struck_in false x y = refl

none_either : (b : Bool) → is_member (pick b None None) ≡ false
unfolding pick
none_either true = refl
none_either false = refl

member_pick : (b : Bool) (q : ℕ) → is_member (pick b (Some q) None) ≡ b
unfolding pick
member_pick true q = refl
member_pick false q = refl

module _ (s : Station) (p : ℕ) (h : Handing) where
  pub handed_struck : (handed h.n (hears h) h.frame h.from h.to p s).struck ≡ pick (heeds s p h) (newly_of s.live (failing_of h.frame)) None
  unfolding handed frame_rule moved unless heeds
  handed_struck =
      let m : Bool = eqb (move_of (state_of s) Heard) runs in
      let c : Bool = eqb (checks s h.from h.to) 0 in
      let inner : Answer = pick c (heard s h.frame h.from h.to) (answered s (checks s h.from h.to)) in
      let w : (Option ℕ) = newly_of s.live (failing_of h.frame) in
      struck_in (pick (ltb p h.n) (hears h p) false) (frame_rule s h.frame h.from h.to) (answered s 0)
      ∙ ap (λ (u : Option ℕ). pick (pick (ltb p h.n) (hears h p) false) u None)
      (struck_in m inner (answered s (move_of (state_of s) Heard))
      ∙ ap (λ (u : Option ℕ). pick m u None) (struck_in c (heard s h.frame h.from h.to) (answered s (checks s h.from h.to)) ∙ ap (λ (u : Option ℕ). pick c u None) (heard_struck s h.frame h.from h.to)))
      ∙ asked_alike (ltb p h.n) (hears h p) m c w
      ∙ ap (λ (t : Bool). pick (pick t false (pick (hears h p) (pick m c false) false)) w None) (sym (not_less p h.n))

  -- nobody fails
  pub strikes_none : failing_of h.frame ≡ None → false ≡ strikes_by s p h
  unfolding strikes_by
  strikes_none e = sym (ap is_member handed_struck ∙ ap (λ (w : Option ℕ). is_member (pick (heeds s p h) (newly_of s.live w) None)) e ∙ none_either (heeds s p h))

  -- the frame is not heeded
  pub strikes_not : heeds s p h ≡ false → false ≡ strikes_by s p h
  unfolding strikes_by
  strikes_not e = sym (ap is_member handed_struck ∙ ap is_member (pick_false _ _ e))

  -- else whoever was live
  pub strikes_live : (q : ℕ) → failing_of h.frame ≡ Some q → heeds s p h ≡ true → live_at s.live q ≡ strikes_by s p h
  unfolding strikes_by newly
  strikes_live q e t =
      sym (ap is_member handed_struck ∙ ap is_member (pick_true (newly_of s.live (failing_of h.frame)) None t) ∙ ap (λ (w : Option ℕ). is_member (newly_of s.live w)) e ∙ member_pick (live_at s.live q) q)
