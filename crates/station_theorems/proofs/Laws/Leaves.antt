-- What leaves the send list in a striking: the waiting messages to the struck station, and the one in flight where it is given up. Assumes
-- nothing.
use mathlib.Core.Path.{◌≡◌, refl, sym, ap, ◌∙◌}
use mathlib.Core.Bool.{Bool, true, false, not, ◌&&◌, ◌||◌, or-false}
use mathlib.Core.List.{List, [], ◌++◌, append-nil}
use Prim.Native.Nat.{ℕ, ◌≤◌}
use native.Mathlib.Omega.{arith}
use lib.Dec.{eqb}
use lib.ListN.{length}
use Rattle.parts.specs.Messages.{all, none, fits, only}
use Rattle.station.specs.Stations.{alone}
use Rattle.station.specs.Strike.{Struck, strike, nothing_gone, give_up_to, give_up_flight}
use Rattle.parts.specs.Live.{newly}
use Rattle.station.specs.Heard.{landed, strike_other, strike_heard, failed}
use Rattle.wholeness.specs.Whole.{apart}
use Rattle.parts.specs.declared.list.Message.{Message}
use Rattle.parts.specs.declared.list.Messages.{Messages}
use Rattle.std.specs.Prelude.{Option, None, Some}
use Rattle.station.specs.declared.station.Station.{Station}
use Rattle.parts.proofs.Laws.Choose.{pick_true, pick_false}
use Rattle.station_theorems.specs.Leaves.{waits_to, flying, Leaves, another_than, stops}
use Rattle.station_theorems.proofs.Laws.Only.{only_same, only_all, only_nothing, only_twice}
use Rattle.station_theorems.proofs.Laws.Leaving.{flight_leaves, to_kept, to_told, to_ready}

-- a step after it that keeps the send list
pub leaves_then : (s t u : Station) (gone : Messages) (w : Option ℕ) (flew landed : Bool) → Leaves s t gone w flew landed → u.sends ≡ t.sends
    → Leaves s u gone w flew landed
leaves_then s t u gone w flew landed k e = record { remaining = ap all e ∙ k.remaining; told = k.told }

-- nothing leaves where the send list is kept
pub leaves_none : (s t : Station) → t.sends ≡ s.sends → Leaves s t none None false false
leaves_none s t e =
    let ms : List Message = all s.sends in
    record {
      remaining = ap all e ∙ sym (only_all _ (λ m. refl) ms);
      told = sym (ap (λ (l : List Message). l ++ only (λ (m : Message). false && flying s m) ms) (only_nothing (waits_to s None) (λ m. refl) ms) ∙ only_nothing _ (λ m. refl) ms);
    }

-- ---- a striking

module _ (s : Station) (p : ℕ) where
  -- the waiting messages alone
  to_leaves : Leaves s (give_up_to (strike s p) p).station (give_up_to (strike s p) p).gone (Some p) false false
  to_leaves =
      let ms : List Message = all s.sends in
      record {
        remaining = to_kept (strike s p) p ∙ only_same _ _ (λ m. ap not (sym (or-false (waits_to s (Some p) m)))) ms;
        told =
            to_told (strike s p) p
            ∙ sym (append-nil (only (waits_to s (Some p)) ms))
            ∙ ap (λ (l : List Message). only (waits_to s (Some p)) ms ++ l) (sym (only_nothing _ (λ m. refl) ms));
      }

  module _ (a : apart [] (all s.sends) ≡ true) (h : length (all s.sends) ≤ 16) where
    -- the one in flight alone
    flight_alone : Leaves s (give_up_flight (nothing_gone (strike s p))).station (give_up_flight (nothing_gone (strike s p))).gone None true false
    flight_alone =
        let ms : List Message = all s.sends in
        let k = flight_leaves (nothing_gone (strike s p)) (record { places = a; array = refl; room = omega arith }) in
        record {
          remaining = k.kept;
          told = k.told ∙ ap (λ (l : List Message). l ++ only (flying s) ms) (sym (only_nothing (waits_to s None) (λ m. refl) ms));
        }

    -- the waiting messages, then the one in flight
    pub both_leave : Leaves s (give_up_flight (give_up_to (strike s p) p)).station (give_up_flight (give_up_to (strike s p) p)).gone (Some p) true false
    unfolding give_up_to fits
    both_leave =
        let ms : List Message = all s.sends in
        let waits : Message → Bool = waits_to s (Some p) in
        let stays : Message → Bool = λ (m : Message). not (waits m) in
        let k = flight_leaves (give_up_to (strike s p) p) (to_ready (strike s p) p a h) in
        record {
          remaining =
              k.kept
              ∙ ap (only (λ (m : Message). not (flying s m))) (to_kept (strike s p) p)
              ∙ only_twice (λ (m : Message). not (flying s m)) stays ms
              ∙ only_same _ _ (λ m. neither (waits m) (flying s m)) ms;
          told =
              k.told
              ∙ ap (λ (l : List Message). l ++ only (flying s) (all (give_up_to (strike s p) p).station.sends)) (to_told (strike s p) p)
              ∙ ap (λ (l : List Message). only waits ms ++ only (flying s) l) (to_kept (strike s p) p)
              ∙ ap (λ (l : List Message). only waits ms ++ l) (only_twice (flying s) stays ms ∙ only_same _ _ (λ m. not_both (flying s m) (eqb m.other p)) ms);
        }
      where
        neither : (b c : Bool) → (not b && not c) ≡ not (b || c)
        neither true c = refl
        neither false c = refl

        not_both : (f o : Bool) → (not (not f && o) && f) ≡ f
        not_both true o = refl
        not_both false true = refl
        not_both false false = refl

-- ---- a heard failing station

module _ (s : Station) (a : apart [] (all s.sends) ≡ true) (h : length (all s.sends) ≤ 16) where
  abbrev StruckLeaves : Struck → Option ℕ → Bool → Type 0
  StruckLeaves k w flew = Leaves s k.station k.gone w flew false

  other_leaves : (p : ℕ) (w : Option ℕ) → StruckLeaves (strike_other s p w) (Some p) (alone (strike s p))
  unfolding strike_other
  other_leaves p w = go (alone (strike s p)) refl
    where
      go : (b : Bool) → alone (strike s p) ≡ b → StruckLeaves (strike_other s p w) (Some p) b
      go true e = rw (pick_true {b = alone (strike s p)} _ _ e) (leaves_then _ _ _ _ _ _ _ (both_leave s p a h) refl)
      go false e = rw (pick_false {b = alone (strike s p)} _ _ e) (leaves_then _ _ _ _ _ _ _ (to_leaves s p) refl)

  pub failed_leaves : (w : Option ℕ) → StruckLeaves (failed s w) (another_than s.own w) (stops s w)
  unfolding failed strike_heard
  failed_leaves None = leaves_none s s refl
  failed_leaves (Some p) = go (eqb p s.own) refl
    where
      go : (b : Bool) → eqb p s.own ≡ b → StruckLeaves (failed s (Some p)) (another_than s.own (Some p)) (stops s (Some p))
      go true e =
          rw (pick_true {b = eqb p s.own} None (Some p) e, pick_true {b = eqb p s.own} true (alone (strike s p)) e, pick_true {b = eqb p s.own} _ _ e)
          (leaves_then _ _ _ _ _ _ _ (flight_alone s p a h) refl)
      go false e =
          rw (pick_false {b = eqb p s.own} None (Some p) e, pick_false {b = eqb p s.own} true (alone (strike s p)) e, pick_false {b = eqb p s.own} _ _ e)
          (other_leaves p (newly s.live p))
