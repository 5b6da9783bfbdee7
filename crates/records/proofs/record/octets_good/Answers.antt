-- `record::octets_good` meets its contract: at each return the tests that led there say which is the first that fails.
use mathlib.Core.Path.{◌≡◌, sym, ap, ◌∙◌}
use mathlib.Core.Bool.{false≢true}
use Prim.Native.Nat.{ℕ}
use native.Mathlib.Omega.{arith}
use borrow.Author.Tests.{eq-eqb, ne_eqb}
use lib.ListN.{take}
use lib.Seq.{length-take-le}
use Rattle.codec.specs.Octets.{laid}
use Rattle.codec.specs.Ring.{count, addresses_of, ring_refusal}
use Rattle.codec.proofs.Laws.Ring.{read_number}
use Rattle.parts.proofs.Laws.Tests.{holds, fails, last}
use Rattle.records.specs.Record.{file_of, ring_from, octets_good}
use Rattle.records.proofs.Laws.Load.{file_room}
use Rattle.records.proofs.record.octets_good.Goals as goal
use Rattle.records.proofs.record.octets_good.Goals.{After-read_into}

pub slice_bounds-read_into-end : goal.slice_bounds-read_into-end
slice_bounds-read_into-end c =
    sym (length-take-le c.args.end c.args.s.now (omega (arith, c.requires, file_room c.args.s.now)))

-- what is read is the record's ring file
number_is : (c : After-read_into) → c.read_into.result ≡ (ring_from c.args.s.now).number
number_is c =
    c.read_into.ensures.0
    ∙ ap (λ (e : ℕ). ring_refusal (take e c.args.s.now)) c.requires.1.0
    ∙ sym (read_number (file_of c.args.s.now))

pub returns-then-read_into-ne0 : goal.returns-then-read_into-ne0
unfolding octets_good
returns-then-read_into-ne0 c =
    (sym (fails _ (ne_eqb _ _ (λ z. c.if-read_into-ne0.true (number_is (goal.at.returns-then-read_into-ne0 c).After-read_into ∙ z)))), λ t. absurd (false≢true t))

pub returns-then-not-fields_good : goal.returns-then-not-fields_good
unfolding octets_good
returns-then-not-fields_good c =
    let ring = eq-eqb _ _ (sym (number_is (goal.at.returns-then-not-fields_good c).After-read_into) ∙ c.if-read_into-ne0.false) in
    (sym (holds _ ring ∙ fails _ (sym c.fields_good.ensures ∙ c.if-not-fields_good.true)), λ t. absurd (false≢true t))

pub returns : goal.returns
unfolding octets_good
returns c =
    let s = c.args.s.now in
    let l = c.args.addresses.now in
    let left = c.if-read_into-ne0.false in
    let ring = eq-eqb _ _ (sym (number_is (goal.at.returns c).After-read_into) ∙ left) in
    let fields = sym c.fields_good.ensures ∙ c.if-not-fields_good.false in (
      sym (holds _ ring ∙ (holds _ fields ∙ (last _ ∙ sym c.rests_good.ensures))),
      λ t. c.read_into.ensures.1 left ∙ ap (λ (e : ℕ). laid l 0 (addresses_of (take e s) (count (take e s)))) c.requires.1.0,
    )
