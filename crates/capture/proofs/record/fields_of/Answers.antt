-- `record::fields_of` meets its contract: the fields of the octets' number.
use mathlib.Core.Path.{ap, ◌∙◌}
use native.Mathlib.Omega.{arith}
use Rattle.codec.specs.Octets.{Octets}
use Rattle.capture.proofs.Laws.Fields.{unpacked, fields_number}
use Rattle.capture.proofs.record.fields_of.Goals as goal

pub returns : goal.returns
returns c =
    let r = c.args.r.now in
    let o : Octets r = λ i. omega (arith, c.type_inv.r i) in
    ap unpacked c.get-v.ensures.0 ∙ fields_number r o (omega arith)
