use Rattle.std.proofs.Common.{◌∙◌, sym, arith}
use Rattle.script.proofs.Laws.Lines.{says_ring, says_step, says_neither, says_queue, says_five, says_other}
use Rattle.script.proofs.lines.line_with.Goals as goal

pub returns-in-len1 : goal.returns-in-len1
returns-in-len1 c ws e are = says_ring c.args.word.now ws c.args.numbers.now e are (omega arith) (sym c.eq.ensures ∙ c.if-eq.true)

pub returns-in-len1-2 : goal.returns-in-len1-2
returns-in-len1-2 c ws e are =
    says_step c.args.word.now ws c.args.numbers.now e are (omega arith) (sym c.eq.ensures ∙ c.if-eq.false) (sym c.eq-then-numbers-lt2.ensures ∙ c.if-eq-2.true)

pub returns-in-len5 : goal.returns-in-len5
returns-in-len5 c ws e are = says_queue c.args.word.now ws c.args.numbers.now e are (omega arith) (sym c.eq-then-numbers-lt6.ensures ∙ c.if-eq-3.true)

pub returns-in_default : goal.returns-in_default
returns-in_default c ws e are = says_other c.args.word.now ws c.args.numbers.now e are (λ n. omega arith) (λ n. omega arith)

pub returns-in_default-2 : goal.returns-in_default-2
returns-in_default-2 c ws e are =
    says_neither c.args.word.now ws c.args.numbers.now e are (omega arith) (sym c.eq.ensures ∙ c.if-eq.false) (sym c.eq-then-numbers-lt2.ensures ∙ c.if-eq-2.false)

pub returns-in_default-3 : goal.returns-in_default-3
returns-in_default-3 c ws e are = says_other c.args.word.now ws c.args.numbers.now e are (λ n. omega arith) (λ n. omega arith)

pub returns-in_default-4 : goal.returns-in_default-4
returns-in_default-4 c ws e are = says_five c.args.word.now ws c.args.numbers.now e are (omega arith) (sym c.eq-then-numbers-lt6.ensures ∙ c.if-eq-3.false)

pub returns-in_default-5 : goal.returns-in_default-5
returns-in_default-5 c ws e are = says_other c.args.word.now ws c.args.numbers.now e are (λ n. omega arith) (λ n. omega arith)
