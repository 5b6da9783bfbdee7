-- "A payload goes into the lowest free place": what the lowest free of 16 places is. Assumes nothing.
use mathlib.Core.List.{List}
use Rattle.parts.specs.declared.list.Message.{Message}
use Rattle.parts.specs.Messages.{lowest_free}
use Rattle.station_theorems.specs.FreePlace.{Lowest}
use Rattle.station_theorems.proofs.Laws.Places.{place_of, place_nobodys, lowest_free_high, lower_taken, lowest_free_free, lowest_free_room}

pub lowest_free_lem : (ms : List Message) → Lowest ms (lowest_free ms)
lowest_free_lem ms =
    record {
      at_most_sixteen = lowest_free_high ms;
      nobodys = λ h. place_nobodys ms (lowest_free ms) (lowest_free_free ms h);
      lower_somebodys = λ q h. place_of ms q (lower_taken ms q h);
      room = lowest_free_room ms;
    }
