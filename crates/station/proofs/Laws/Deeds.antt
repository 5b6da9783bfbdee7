-- Laws of what was decided and is done: each way of doing it is what the page's steps do. Assumes nothing.
use mathlib.Core.Path.{◌≡◌, refl, ap, ◌∙◌}
use mathlib.Core.Bool.{Bool, true, false, false≢true}
use Prim.Native.Nat.{ℕ, ◌+◌, ◌-◌, ◌≤◌}
use native.Mathlib.Omega.{arith}
use lib.Dec.{eqb, leb}
use Rattle.parts.specs.Choose.{pick}
use Rattle.parts.specs.Messages.{pushed, split_by, chosen_by, best}
use Rattle.parts.specs.Frames.{flight, Dispatch}
use Rattle.parts.specs.Live.{newly}
use Rattle.station.specs.Stations.{station_by, with_turn, with_sends, with_receives, with_lost, awaited_of, quiet, quiet_turn, add_up_to, alone, head}
use Rattle.station.specs.Sight.{sight}
use Rattle.station.specs.Strike.{Loss, Struck, strike, nothing_gone, give_up_to, leave, give_up_at, give_up_flight, told, stopped}
use Rattle.station.specs.Heard.{Stored, acknowledged, landed, acknowledge, strike_other, strike_heard, failed, receive}
use Rattle.station.specs.Deeds.{no_deeds, landing, also_at, also_flight, all_stay, waiters_leave, flight_leaves, leaving, live_after, struck_by, received_one, received, carried_out, verdict, untouched, spares, stores_none, turn_alone}
use Rattle.station.specs.Decide.{rested, lands_by, blow_at, blow_of, closed}
use Rattle.parts.specs.declared.moves.State.{State}
use Rattle.parts.specs.declared.moves.State.TheVariants.{Idle, Alone, Excluded}
use Rattle.parts.specs.declared.list.Message.{Message}
use Rattle.parts.specs.declared.list.Messages.{Messages}
use Rattle.parts.specs.declared.list.Parts.{Parts}
use Rattle.parts.specs.declared.list.Which.{Which}
use Rattle.parts.specs.declared.list.Which.TheVariants.{WaitingFor, HasPlace}
use Rattle.std.specs.Prelude.{Option, None, Some, is_some}
use Rattle.std.specs.Option.{option_map_or}
use Rattle.station.specs.declared.station.Turn.{Turn}
use Rattle.station.specs.declared.station.Station.{Station}
use Rattle.station.specs.declared.rules.deeds.Blow.{Blow}
use Rattle.station.specs.declared.rules.deeds.Blow.TheVariants as blow
use Rattle.station.specs.declared.rules.deeds.Verdict.{Verdict}
use Rattle.station.specs.declared.rules.deeds.Received.{Received}
use Rattle.parts.proofs.Laws.Messages.{both_parts}
use Rattle.station.proofs.Laws.Stations.{add_inside}

-- ---- messages given up: the page's steps over stations are those over lists

abbrev loss_of : Station → Parts → Loss
loss_of s d = record { station = with_sends s d.kept; gone = d.gone }

module _ (s : Station) (d : Parts) where
  given_up_at : (p : ℕ) → give_up_at (loss_of s d) p ≡ loss_of s (also_at d p)
  unfolding give_up_at also_at
  given_up_at p = go (best (HasPlace p) d.kept)
    where
      more : Message → Parts
      more m = record { kept = (split_by (HasPlace p) d.kept).kept; gone = pushed d.gone m }

      go : (b : Option Message) → option_map_or (λ (m : Message). loss_of s (more m)) b (loss_of s d) ≡ loss_of s (option_map_or more b d)
      go None = refl
      go (Some m) = refl

  given_up_flight : give_up_flight (loss_of s d) ≡ loss_of s (also_flight d (flight (awaited_of s)))
  unfolding give_up_flight also_flight
  given_up_flight = go (flight (awaited_of s))
    where
      go : (f : Option ℕ) → option_map_or (give_up_at (loss_of s d)) f (loss_of s d) ≡ loss_of s (option_map_or (also_at d) f d)
      go None = refl
      go (Some p) = given_up_at p

given_up_to : (s : Station) (p : ℕ) → give_up_to s p ≡ loss_of s (split_by (WaitingFor (flight (awaited_of s)) p) s.sends)
unfolding give_up_to
given_up_to s p = refl

-- those to p, then the one in flight
given_up_both : (s : Station) (p : ℕ)
    → give_up_flight (give_up_to s p) ≡ loss_of s (also_flight (split_by (WaitingFor (flight (awaited_of s)) p) s.sends) (flight (awaited_of s)))
given_up_both s p = ap give_up_flight (given_up_to s p) ∙ given_up_flight s (split_by (WaitingFor (flight (awaited_of s)) p) s.sends)

-- ---- a striking: the station, who is struck and what is told, by the blow

abbrev pub struck_of : Station → Blow → Turn → Parts → Struck
struck_of s b t d =
    record {
      station =
          station_by s.n s.limit s.own (live_after s.live b) d.kept s.receives t
          (record { lost = s.counts.lost; givenup = add_up_to s.counts.givenup d.gone.len });
      struck = struck_by s.live b;
      gone = d.gone;
    }

add_none : (c : ℕ) → add_up_to c 0 ≡ c
add_none c =
    let h : 0 ≤ 4294967295 - c = omega arith in
    let z : c + 0 ≡ c = omega arith in
    add_inside c 0 h ∙ z

-- the blow of a failing station
abbrev hit_by : Station → Blow → Struck
hit_by s b = struck_of s b (closed s.turn b) (leaving b (flight (awaited_of s)) s.sends)

abbrev ended : Option ℕ → State → Loss → Struck
ended w st l = record { station = quiet (told l w).station st; struck = w; gone = (told l w).gone }

module _ (s : Station) (p : ℕ) where
  hits_itself : stopped (nothing_gone (strike s p)) (newly s.live p) Excluded ≡ hit_by s (blow.Itself p)
  unfolding closed leaving live_after struck_by
  hits_itself = ap (ended (newly s.live p) Excluded) (given_up_flight (strike s p) (all_stay s.sends))

  hits_last : stopped (give_up_to (strike s p) p) (newly s.live p) Alone ≡ hit_by s (blow.Last p)
  unfolding closed leaving live_after struck_by
  hits_last = ap (ended (newly s.live p) Alone) (given_up_both (strike s p) p)

  hits_another : told (give_up_to (strike s p) p) (newly s.live p) ≡ hit_by s (blow.Another p)
  unfolding closed leaving live_after struck_by
  hits_another = ap (λ (l : Loss). told l (newly s.live p)) (given_up_to (strike s p) p)

  hits : strike_heard s p ≡ hit_by s (blow_at s.live s.n s.own p)
  unfolding strike_heard strike_other blow_at pick
  hits = go (eqb p s.own) (alone (strike s p))
    where
      go : (a b : Bool)
          → pick a (stopped (nothing_gone (strike s p)) (newly s.live p) Excluded)
          (pick b (stopped (give_up_to (strike s p) p) (newly s.live p) Alone) (told (give_up_to (strike s p) p) (newly s.live p)))
          ≡ hit_by s (pick a (blow.Itself p) (pick b (blow.Last p) (blow.Another p)))
      go true b = hits_itself
      go false true = hits_last
      go false false = hits_another

pub fails : (s : Station) (w : Option ℕ) → failed s w ≡ hit_by s (blow_of s.live s.n s.own w)
unfolding failed blow_of closed leaving live_after struck_by
fails s None = rw (add_none s.counts.givenup)
fails s (Some p) = hits s p

-- the last timer
pub strikes_out_lem : (s : Station) (to : ℕ)
    → told (give_up_flight (give_up_to (strike s to) to)) (newly s.live to)
    ≡ struck_of s (blow.Last to) s.turn (leaving (blow.Last to) (flight (awaited_of s)) s.sends)
unfolding leaving live_after struck_by
strikes_out_lem s to = ap (λ (l : Loss). told l (newly s.live to)) (given_up_both (strike s to) to)

-- ---- an acknowledgement

abbrev pub acked_by : Station → Bool → Station
acked_by s a = with_turn (with_sends s (landing (lands_by s.turn a) s.sends)) (rested s.turn a)

pub acknowledges : (s : Station) (from k : ℕ) → acknowledge s from k ≡ acked_by s (acknowledged s from k)
unfolding acknowledge landed landing lands_by rested pick
acknowledges s from k = go (acknowledged s from k)
  where
    lands : (f : Option ℕ) → quiet (option_map_or (leave s) f s) Idle
        ≡ with_turn (with_sends s (option_map_or (λ (p : ℕ). (split_by (HasPlace p) s.sends).kept) f s.sends)) (quiet_turn s.turn Idle)
    lands None = refl
    lands (Some p) = refl

    go : (a : Bool) → pick a (quiet (landed s) Idle) s ≡ acked_by s a
    go true = lands (flight (awaited_of s))
    go false = refl

-- ---- what is stored changes neither the turn nor what the station looks at

module _ (s : Station) (m : Message) where
  -- the page's step, and the one over the list and the count
  pub receives_so : (t : Turn)
      → ◌≡◌ {A = Stored}
      (record { station = with_turn (receive s m).station t; payload = (receive s m).payload })
      (record {
        station =
            station_by s.n s.limit s.own s.live s.sends
            (received_one s.receives s.counts.lost m).list
            t
            (record { lost = (received_one s.receives s.counts.lost m).lost; givenup = s.counts.givenup });
        payload = (received_one s.receives s.counts.lost m).payload;
      })
  unfolding receive received_one pick
  receives_so t = go (leb 16 s.receives.len)
    where
      by_page : Bool → Stored
      by_page b =
          pick {A = Stored} b
          (record { station = with_lost s (add_up_to s.counts.lost 1); payload = None })
          (record { station = with_receives s (pushed s.receives m); payload = Some m })

      by_list : Bool → Received
      by_list b =
          pick b
          (record { list = s.receives; lost = add_up_to s.counts.lost 1; payload = None })
          (record { list = pushed s.receives m; lost = s.counts.lost; payload = Some m })

      go : (b : Bool)
          → ◌≡◌ {A = Stored}
          (record { station = with_turn (by_page b).station t; payload = (by_page b).payload })
          (record {
            station =
                station_by s.n s.limit s.own s.live s.sends (by_list b).list t
                (record { lost = (by_list b).lost; givenup = s.counts.givenup });
            payload = (by_list b).payload;
          })
      go true = refl
      go false = refl

  pub receive_sight : sight (receive s m).station ≡ sight s
  unfolding receive pick head
  receive_sight = go (leb 16 s.receives.len)
    where
      go : (b : Bool)
          → sight
          (pick {A = Stored} b
          (record { station = with_lost s (add_up_to s.counts.lost 1); payload = None })
          (record { station = with_receives s (pushed s.receives m); payload = Some m })
          ).station
          ≡ sight s
      go true = refl
      go false = refl

-- ---- where the turn alone changes

nothing_touched : untouched no_deeds ≡ true
unfolding untouched pick
nothing_touched = refl

pub does_nothing : (s : Station) (v : Verdict) → untouched v.deeds ≡ true → turn_alone s v ≡ carried_out s v
unfolding carried_out untouched landing leaving live_after struck_by received pick
does_nothing s v = go v.deeds.lands v.deeds.blow v.deeds.stores
  where
    parts : Option ℕ → Blow → Parts
    parts a b = leaving b v.deeds.flight (option_map_or (λ (p : ℕ). (split_by (HasPlace p) s.sends).kept) a s.sends)

    kept : Option ℕ → Blow → Received → Station
    kept a b r =
        station_by s.n s.limit s.own (live_after s.live b) (parts a b).kept r.list v.turn
        (record { lost = r.lost; givenup = add_up_to s.counts.givenup (parts a b).gone.len })

    go : (a : Option ℕ) (b : Blow) (p : Option Message) → pick (is_some a) false (pick (spares b) (stores_none p) false) ≡ true
        → turn_alone s v
        ≡ record {
          station = kept a b (received s.receives s.counts.lost p);
          number = v.number;
          sent = v.sent;
          struck = struck_by s.live b;
          gone = (parts a b).gone;
          payload = (received s.receives s.counts.lost p).payload;
        }
    go (Some q) b p e = absurd (false≢true e)
    go None blow.Spares None e = rw (add_none s.counts.givenup)
    go None blow.Spares (Some m) e = absurd (false≢true e)
    go None (blow.Another q) p e = absurd (false≢true e)
    go None (blow.Last q) p e = absurd (false≢true e)
    go None (blow.Itself q) p e = absurd (false≢true e)

pub turned_alone : (s : Station) (number : ℕ) (t : Turn) (d : Dispatch) → turn_alone s (verdict number t d no_deeds) ≡ carried_out s (verdict number t d no_deeds)
turned_alone s number t d = does_nothing s (verdict number t d no_deeds) nothing_touched

-- ---- who is given up: the waiting ones, then the one in flight

pub leaves_so : (b : Blow) (f : Option ℕ) (l : Messages) → also_flight (waiters_leave b f l) (flight_leaves b f) ≡ leaving b f l
unfolding waiters_leave flight_leaves leaving also_flight pick
leaves_so blow.Spares f l = refl
leaves_so (blow.Another p) f l = refl
leaves_so (blow.Last p) f l = refl
leaves_so (blow.Itself p) f l = refl

-- one part alone
pub kept_alone : (w : Which) (l k : Messages) → k ≡ chosen_by w false l → k ≡ (split_by w l).kept
kept_alone w l k e = e ∙ ap (λ (d : Parts). d.kept) (both_parts w l (chosen_by w false l) (chosen_by w true l) refl refl)
