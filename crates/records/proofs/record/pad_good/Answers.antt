-- `record::pad_good` meets its contract.
use native.Mathlib.Omega.{arith}
use Rattle.records.proofs.Laws.Load.{file_room}
use Rattle.records.proofs.record.pad_good.Goals as goal

pub nonzero-requires : goal.nonzero-requires
nonzero-requires c = omega (arith, file_room c.args.s.now)

pub returns : goal.returns
returns c = rw (c.nonzero.ensures, c.requires.1)
