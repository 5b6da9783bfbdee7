-- `octets::copy` meets its contract: the octets go through the start of the array.
use mathlib.Core.Path.{◌≡◌, sym, ap, ◌∙◌}
use native.Mathlib.Omega.{arith}
use lib.ListN.{length, take}
use Rattle.codec.specs.Octets.{laid}
use Rattle.codec.proofs.Laws.Octets.{laid_start}
use Rattle.codec.proofs.octets.copy.Goals as goal

pub slice_bounds-copy_one_by_one-end-else-n-gt-INFORMATION : goal.slice_bounds-copy_one_by_one-end-else-n-gt-INFORMATION
slice_bounds-copy_one_by_one-end-else-n-gt-INFORMATION c = sym (ap length (laid_start _ _ c.args.src.now c.copy_one_by_one-else-n-gt-INFORMATION.ensures))

pub copy_one_by_one-requires-else-n-gt-INFORMATION-2 : goal.copy_one_by_one-requires-else-n-gt-INFORMATION-2
copy_one_by_one-requires-else-n-gt-INFORMATION-2 c =
    let n = length c.args.src.now in
    let e : length (take n c.copy_one_by_one-else-n-gt-INFORMATION.new.out) ≡ n = ap length (laid_start _ _ c.args.src.now c.copy_one_by_one-else-n-gt-INFORMATION.ensures) in
    omega (arith, e, c.requires)

pub returns-else-n-gt-INFORMATION : goal.returns-else-n-gt-INFORMATION
returns-else-n-gt-INFORMATION c =
    let a = c.args in
    c.copy_one_by_one-else-n-gt-INFORMATION-2.ensures ∙ ap (laid a.out.now a.at) (laid_start _ _ a.src.now c.copy_one_by_one-else-n-gt-INFORMATION.ensures)
