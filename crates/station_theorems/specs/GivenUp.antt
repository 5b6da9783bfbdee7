-- The given-up count: more by exactly the messages told, up to its stop.
use Rattle.std.specs.Prelude.{◌≡◌, ℕ, ◌+◌, ◌≤◌, length}
use Rattle.parts.specs.Messages.{all}
use Rattle.station.specs.declared.station.Station.{Station}
use Rattle.station.specs.declared.station.Answer.{Answer}

-- how many messages an answer tells
abbrev pub messages_told : Answer → ℕ
messages_told a = length (all a.gone)

-- a station's count is of its field's type, 32 bits, as every station that the code holds
pub record CountsGivenUp (s : Station) (a : Answer) : Type 0 where
  pub counts_exactly : s.counts.givenup + messages_told a ≤ 4294967295 → a.station.counts.givenup ≡ s.counts.givenup + messages_told a
  pub counts_up_to : s.counts.givenup ≤ 4294967295 → 4294967295 ≤ s.counts.givenup + messages_told a → a.station.counts.givenup ≡ 4294967295
