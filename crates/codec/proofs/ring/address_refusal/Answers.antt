-- `ring::address_refusal` meets its contract: each test is the definition's.
use mathlib.Core.Path.{sym, ◌∙◌}
use native.Mathlib.Nat.{le_of_lt}
use lib.Seq.{length-take-le}
use Rattle.codec.specs.Ring.{address_refusal}
use Rattle.codec.proofs.ring.address_refusal.Goals as goal

pub returns-then-bad_address : goal.returns-then-bad_address
unfolding address_refusal
returns-then-bad_address c = simp (sym c.bad_address.ensures ∙ c.if-bad_address.true)

pub slice_bounds-is_member-end : goal.slice_bounds-is_member-end
slice_bounds-is_member-end c =
    sym (length-take-le c.args.i c.args.members.now (le_of_lt c.requires))

pub returns-then-is_member : goal.returns-then-is_member
unfolding address_refusal
returns-then-is_member c = simp (sym c.bad_address.ensures ∙ c.if-bad_address.false, sym c.is_member.ensures ∙ c.if-is_member.true)

pub returns : goal.returns
unfolding address_refusal
returns c = simp (sym c.bad_address.ensures ∙ c.if-bad_address.false, sym c.is_member.ensures ∙ c.if-is_member.false)
