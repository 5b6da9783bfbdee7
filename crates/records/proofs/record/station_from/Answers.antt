-- `record::station_from` meets its contract: each field is what its octets say.
use Rattle.records.proofs.Laws.Rest.{sends_rest, receives_rest}
use borrow.Author.Rules.{rules}
use Rattle.records.proofs.record.station_from.Goals as goal

pub messages_at-sends-requires : goal.messages_at-sends-requires
messages_at-sends-requires c = (search rules, sends_rest _ c.requires.2)

pub messages_at-receives-requires : goal.messages_at-receives-requires
messages_at-receives-requires c = (search rules, receives_rest _ c.requires.2)

pub returns : goal.returns
returns c = rw (c.live_from-live.ensures, c.messages_at-sends.ensures, c.messages_at-receives.ensures, c.turn_at-turn.ensures, c.counts_at-counts.ensures, c.get.ensures.0)
