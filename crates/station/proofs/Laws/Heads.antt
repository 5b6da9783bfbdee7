-- Laws of the head that is chosen before anything leaves: neither the message in flight nor those given up compete. Assumes nothing.
use mathlib.Core.Path.{◌≡◌, refl, sym, ap, ◌∙◌}
use mathlib.Core.Bool.{Bool, true, false, not, ◌&&◌}
use Prim.Native.Nat.{ℕ}
use lib.Dec.{eqb}
use borrow.Author.Tests.{eq-eqb, ne_eqb, eqb-true, eqb-false}
use Rattle.parts.specs.Choose.{pick}
use Rattle.parts.specs.Messages.{split_by, best, flies, fits}
use Rattle.parts.specs.Frames.{flight}
use Rattle.station.specs.Deeds.{landing, also_at, also_flight}
use Rattle.station.specs.Decide.{competing, rested, lands_by}
use Rattle.parts.specs.declared.list.Message.{Message}
use Rattle.parts.specs.declared.list.Messages.{Messages}
use Rattle.parts.specs.declared.list.Parts.{Parts}
use Rattle.parts.specs.declared.list.Which.TheVariants.{AnyWaiting, WaitingFor, WaitingForOthers, HasPlace}
use Rattle.std.specs.Prelude.{Option, None, Some, is_some}
use Rattle.std.specs.Option.{option_map_or}
use Rattle.station.specs.declared.station.Turn.{Turn}
use Rattle.parts.proofs.Laws.Best.{best_of_kept, best_none_gone}

-- ---- tests

turned_round : (a b : ℕ) → eqb a b ≡ eqb b a
turned_round a b = go (eqb a b) refl
  where
    go : (t : Bool) → eqb a b ≡ t → eqb a b ≡ eqb b a
    go true e = e ∙ sym (eq-eqb b a (sym (eqb-true a b e)))
    go false e = e ∙ sym (ne_eqb b a (λ h. eqb-false a b e (sym h)))

-- whom a message is for
abbrev spared : Option ℕ → Message → Bool
spared None m = true
spared (Some p) m = not (eqb m.other p)

and-true : (b : Bool) → b ≡ b && true
and-true true = refl
and-true false = refl

competes : (f : Option ℕ) (w : Option ℕ) (m : Message) → fits (competing f w) m ≡ not (flies f m) && spared w m
unfolding fits competing
competes f None m = and-true (not (flies f m))
competes f (Some p) m = refl

-- who has the place of the one in flight does not compete
landed_test : (p : ℕ) (w : Option ℕ) (m : Message) → fits (competing (Some p) w) m ≡ not (fits (HasPlace p) m) && fits (competing None w) m
unfolding fits
landed_test p w m =
    competes (Some p) w m
    ∙ ap (λ (b : Bool). not b && spared w m) (turned_round p m.place)
    ∙ ap (λ (b : Bool). not (eqb m.place p) && b) (sym (competes None w m))

-- ---- the message in flight leaves

pub landed_best : (t : Turn) (a : Bool) (w : Option ℕ) (l : Messages)
    → best (competing (flight (rested t a).awaited) w) (landing (lands_by t a) l) ≡ best (competing (flight t.awaited) w) l
unfolding rested lands_by landing pick
landed_best t false w l = refl
landed_best t true w l = go (flight t.awaited)
  where
    go : (f : Option ℕ) → best (competing None w) (option_map_or (λ (p : ℕ). (split_by (HasPlace p) l).kept) f l) ≡ best (competing f w) l
    go None = refl
    go (Some p) = best_of_kept (competing None w) (competing (Some p) w) (HasPlace p) (λ m. landed_test p w m) l

-- ---- those to p are given up

others_test : (f : Option ℕ) (p : ℕ) (m : Message) → fits (WaitingForOthers f p) m ≡ not (fits (WaitingFor f p) m) && fits (AnyWaiting f) m
unfolding fits
others_test f p m = go (not (flies f m)) (eqb m.other p)
  where
    go : (a b : Bool) → a && not b ≡ not (a && b) && a
    go true true = refl
    go true false = refl
    go false b = refl

pub others_best : (f : Option ℕ) (p : ℕ) (l : Messages) → best (AnyWaiting f) (split_by (WaitingFor f p) l).kept ≡ best (WaitingForOthers f p) l
others_best f p l = best_of_kept (AnyWaiting f) (WaitingForOthers f p) (WaitingFor f p) (λ m. others_test f p m) l

-- ---- the one in flight is given up

pub flight_best : (d : Parts) (f : Option ℕ) → best (AnyWaiting None) (also_flight d f).kept ≡ best (AnyWaiting f) d.kept
unfolding also_flight also_at competing
flight_best d None = refl
flight_best d (Some p) = go (best (HasPlace p) d.kept) refl
  where
    more : Message → Parts
    more m = record { kept = (split_by (HasPlace p) d.kept).kept; gone = Rattle.parts.specs.Messages.pushed d.gone m }

    go : (b : Option Message) → best (HasPlace p) d.kept ≡ b → best (AnyWaiting None) (option_map_or more b d).kept ≡ best (AnyWaiting (Some p)) d.kept
    go (Some m) e = best_of_kept (AnyWaiting None) (AnyWaiting (Some p)) (HasPlace p) (λ x. landed_test p None x) d.kept
    go None e = best_none_gone (AnyWaiting None) (AnyWaiting (Some p)) (HasPlace p) (λ x. landed_test p None x) d.kept (ap is_some e)
