-- Laws of a whole station that awaits a frame, and of what a frame offers. Assumes nothing.
use mathlib.Core.Path.{◌≡◌, refl, subst}
use mathlib.Core.Bool.{true}
use Prim.Native.Nat.{ℕ, ◌<◌, ◌≤◌}
use native.Mathlib.Omega.{arith}
use borrow.Author.Tests.{ltb-true, leb-false, eqb-false, not-true}
use Rattle.parts.specs.Frames.{fit, flight_in, Dispatch}
use Rattle.station.specs.Stations.{state_of, awaited_of}
use Rattle.wholeness.specs.Whole.{carried, awaited_good}
use Rattle.parts.specs.declared.frame.Frame.{Frame}
use Rattle.std.specs.Prelude.{None, Some}
use Rattle.station.specs.declared.station.Station.{Station}
use Rattle.parts.proofs.Laws.Tests.{held}
use Rattle.station_theorems.proofs.Laws.Sound.{whole_sound}
use Rattle.station_theorems.proofs.Laws.Sending.{passes}
use Rattle.bench_theorems.specs.Quiet.{Member, Offers, no_bid, bid, granted, sent}

-- the frame is fit, and to another member
pub record Proper (n p : ℕ) (f : Frame) (to : ℕ) : Type 0 where
  pub fits : fit n f ≡ true
  pub member : to < n
  pub another : to ≡ p → ⊥

module _ {n limit p : ℕ} {s : Station} (m : Member n limit p s) {f : Frame} {to : ℕ} (e : awaited_of s ≡ Some (f, to)) where
  good : awaited_good (state_of s) n p s.sends (Some (f, to)) ≡ true
  good =
      subst (λ (d : Dispatch). awaited_good (state_of s) n p s.sends d ≡ true) e
      (subst (λ (i : ℕ). awaited_good (state_of s) n i s.sends (awaited_of s) ≡ true) m.own
      (subst (λ (i : ℕ). awaited_good (state_of s) i s.own s.sends (awaited_of s) ≡ true) m.same_n (whole_sound s m.whole).awaited))

  pub awaited_proper : Proper n p f to
  unfolding awaited_good
  awaited_proper =
      let t = held _ good in
      record { fits = t.1.0; member = ltb-true to n t.1.1.0; another = eqb-false to p (not-true _ t.1.1.1.0) }

  -- the message of an information frame is in the send list
  pub awaited_there : carried s.sends f to ≡ true
  unfolding awaited_good
  awaited_there = (held _ good).1.1.1.1.0

-- what is offered is still there where no head has become lower
pub still_offers : {n : ℕ} {f : Frame} (heads later : ℕ → ℕ) → fit n f ≡ true → (flight_in f ≡ None → (q : ℕ) → q < n → heads q ≤ later q)
    → Offers heads f → Offers later f
still_offers heads later e w (no_bid t a b) = no_bid t a b
still_offers {n} heads later e w (bid t a b) =
    let u = passes (passes e).1 in
    bid t a (omega (arith, w refl t.named (leb-false n t.named u.0)))
still_offers {n} heads later e w (granted t a b) =
    let u = passes (passes e).1 in
    granted t a (omega (arith, w refl t.named (ltb-true t.named n u.1)))
still_offers heads later e w (sent i) = sent i
