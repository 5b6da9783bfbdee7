-- `record::open` meets its contract: at each return the tests that led there say whether the record is whole.
use mathlib.Core.Path.{◌≡◌, sym, ap, ◌∙◌}
use mathlib.Core.Bool.{true}
use native.Mathlib.Omega.{arith}
use borrow.Author.Rules.{rules}
use Rattle.codec.specs.Ring.{count, count_of, limit, file_octets}
use Rattle.codec.specs.declared.head.HeadBits.{HeadBits}
use Rattle.codec.proofs.Laws.Bits.{bits_below}
use Rattle.codec.proofs.Laws.Ring.{few_others}
use Rattle.records.specs.Record.{octets_good}
use Rattle.records.proofs.Laws.Load.{bad_length, bad_octets, good_rests, not_opened, opened}
use Rattle.records.proofs.record.open.Goals as goal
use Rattle.records.proofs.record.open.Goals.{After-count, After-head_of-head, Else-not-octets_good}

pub returns-then-s-ne-RECORD : goal.returns-then-s-ne-RECORD
returns-then-s-ne-RECORD c = rw c.new.ensures (not_opened _ _ (bad_length _ c.if-s-ne-RECORD.true))

pub octets-requires : goal.octets-requires
octets-requires c = few_others _ _ c.head_of-head.ensures

pub octets_good-requires : goal.octets_good-requires
octets_good-requires c =
    (c.if-s-ne-RECORD.false, (c.octets.ensures ∙ ap (λ (h : HeadBits). file_octets h.form (count_of h)) c.head_of-head.ensures, search rules))

pub returns-then-not-octets_good : goal.returns-then-not-octets_good
returns-then-not-octets_good c =
    rw c.new-then-not-octets_good.ensures (not_opened _ _ (bad_octets _ c.if-s-ne-RECORD.false (sym c.octets_good.ensures.0 ∙ c.if-not-octets_good.true)))

pub count-requires : goal.count-requires
count-requires c = few_others _ _ c.head_of-head.ensures

-- the octets are good, and the head's N and R are the record's
good : (c : Else-not-octets_good) → octets_good c.args.s.now ≡ true
good c = sym c.octets_good.ensures.0 ∙ c.if-not-octets_good.false

counted : (c : After-count) → c.count.result ≡ count c.args.s.now
counted c = c.count.ensures ∙ ap count_of c.head_of-head.ensures

limited : (c : After-head_of-head) → c.head_of-head.result.limit ≡ limit c.args.s.now
limited c = ap (λ (h : HeadBits). h.limit) c.head_of-head.ensures

pub overflow_cast-head : goal.overflow_cast-head
overflow_cast-head c = record { fits = omega (arith, limited (goal.at.overflow_cast-head c).After-head_of-head, bits_below c.args.s.now 10 4) }

pub station_from-requires : goal.station_from-requires
station_from-requires c =
    let s = c.args.s.now in
    let sized = c.if-s-ne-RECORD.false in
    (omega (arith, sized), omega (arith, counted (goal.at.station_from-requires c).After-count, bits_below s 4 6), good_rests s sized (good (goal.at.station_from-requires c).Else-not-octets_good))

pub returns : goal.returns
returns c =
    opened _ c.if-s-ne-RECORD.false (good (goal.at.returns c).Else-not-octets_good) _ _ _ c.station_from.ensures (counted (goal.at.returns c).After-count) (limited (goal.at.returns c).After-head_of-head) _ _
    (c.octets_good.ensures.1 (c.if-not-octets_good.false))
