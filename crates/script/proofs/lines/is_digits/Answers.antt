use Rattle.std.proofs.Common.{rules, tests, ◌∙◌}
use Rattle.std.specs.Char.{is_ascii_digit}
use Rattle.std.proofs.lemmas.Iterator.{YieldsList-from_slice}
use Rattle.std.proofs.lemmas.Iterator.Search.{all_from_yields_List}
use Rattle.script.proofs.Laws.Numbers.{all_digits}
use Rattle.script.proofs.lines.is_digits.Goals as goal

pub returns : goal.returns
returns c =
    let s = c.args.word.now in
    all_from_yields_List is_ascii_digit _ _ c.all.result c.all.ensures.ran (YieldsList-from_slice s c.iter.ensures.rest) (λ x b q k. search (rules, tests))
    ∙ all_digits s
