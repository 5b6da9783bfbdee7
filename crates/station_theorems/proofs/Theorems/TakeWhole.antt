-- Take keeps a whole station whole. Assumes nothing.
use mathlib.Core.Bool.{Bool, not}
use Prim.Native.Nat.{ℕ}
use native.Mathlib.Omega.{arith}
use Rattle.parts.specs.Messages.{all, only, fits, split_by}
use Rattle.station.specs.Take.{taking, take_rule}
use Rattle.parts.specs.declared.list.Message.{Message}
use Rattle.parts.specs.declared.list.Which.TheVariants.{HasPlace}
use Rattle.station.specs.declared.station.Station.{Station}
use Rattle.parts.proofs.Laws.Messages.{only_length}
use Rattle.station_theorems.specs.Shaped.{WholeStation}
use Rattle.station_theorems.proofs.Laws.Kept.{list_only, list_length, pack_length}
use Rattle.station_theorems.proofs.Laws.Sound.{Sound, whole_sound, whole_station, moved_sound, unless_sound}

taking_sound : (s : Station) (m : Message) → Sound s → Sound (taking s m).station
unfolding taking split_by
taking_sound s m k =
    let g : Message → Bool = λ (x : Message). not (fits (HasPlace m.place) x) in
    record {
      shaped =
          record {
            seats = k.shaped.seats;
            sends = k.shaped.sends;
            receives = pack_length (only g (all s.receives)) (omega (arith, only_length g (all s.receives), list_length s.n s.own s.receives k.receives));
          };
      ring = k.ring;
      seats = k.seats;
      company = k.company;
      sends = k.sends;
      receives = list_only s.n s.own g s.receives k.receives;
      waiters = k.waiters;
      retries = k.retries;
      awaited = k.awaited;
    }

take_sound : (s : Station) (channel room : ℕ) → Sound s → Sound (take_rule s channel room).station
unfolding take_rule
take_sound s channel room k = moved_sound s k _ _ (λ r. unless_sound s k _ _ (λ z. taking_sound s _ k))

pub take_keeps_whole : (s : Station) (channel room : ℕ) → WholeStation s → WholeStation (take_rule s channel room).station
take_keeps_whole s channel room w = whole_station _ (take_sound s channel room (whole_sound s w))
