-- `fields::look_information` meets its contract: at each return the tests that led there say which is the first that holds.
use borrow.Author.Tests.{lt-ltb, le-ltb, eq-eqb, ne_eqb}
use Rattle.packet_codec.proofs.fields.look_information.Goals as goal

pub returns-then-p-eq0 : goal.returns-then-p-eq0
returns-then-p-eq0 c = simp (eq-eqb _ _ c.if-p-eq0.true)

pub returns-then-p-gt7 : goal.returns-then-p-gt7
returns-then-p-gt7 c = simp (ne_eqb _ _ c.if-p-eq0.false, lt-ltb _ _ c.if-p-gt7.true)

pub returns-then-p-gt-INFORMATION : goal.returns-then-p-gt-INFORMATION
returns-then-p-gt-INFORMATION c = simp (ne_eqb _ _ c.if-p-eq0.false, le-ltb _ _ c.if-p-gt7.false, lt-ltb _ _ c.if-p-gt-INFORMATION.true)

pub returns : goal.returns
returns c = simp (ne_eqb _ _ c.if-p-eq0.false, le-ltb _ _ c.if-p-gt7.false, le-ltb _ _ c.if-p-gt-INFORMATION.false)
