-- The words so far are numbers, which are kept, and the others are still to come.
use Rattle.std.proofs.Common.{◌≡◌, true, List, ◌∷◌, ◌++◌, ℕ, map}
use Rattle.std.proofs.lemmas.Iterator.{YieldsList}
use Rattle.std.specs.List.{list_all}
use Rattle.script.specs.Lines.{words, is_number, value}
use Rattle.script.proofs.lines.line_of.Given as goal

abbrev pub invariant-loop-word : goal.invariant-loop-word
invariant-loop-word l =
    record {
      left : (ws : List (List ℕ)) × YieldsList (goal.iterator-loop-word).next_gives (λ w. w.now) l.word-iterator ws
          × (words l.s ≡ l.first ∷ (map (λ w. w.now) l.yielded ++ ws));
      each : list_all is_number (map (λ w. w.now) l.yielded) ≡ true;
      values : l.numbers.items ≡ map value (map (λ w. w.now) l.yielded);
    }
