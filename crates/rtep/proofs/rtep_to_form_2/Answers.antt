-- `rtep_to_form_2` meets its contract, which is its callee's: the out array is as long as that requires.
use Rattle.rtep.proofs.rtep_to_form_2.Goals as goal

pub returns : goal.returns
returns c = c.form_told.ensures
