use Rattle.std.proofs.Common.{◌≡◌, ℕ, length, List, [], ◌∷◌, ◌++◌, map, eqb, Some, None, refl, sym, ap, subst, ◌∙◌, append_assoc, append-nil, rules, tests}
use Rattle.std.specs.Prelude.{Option}
use Rattle.script.proofs.Laws.Numbers.{in_ok, in_err}
use Rattle.std.specs.List.{list_all}
use Rattle.std.proofs.lemmas.List.{map-append, length-map}
use Rattle.std.proofs.lemmas.Iterator.{YieldsList}
use Rattle.std.proofs.lemmas.Iterator.Splits.{YieldsList-from_slice_split}
use Rattle.bench.specs.Text.{space}
use Rattle.script.specs.Lines.{is_number, value, words, line_of_words, line_of}
use Rattle.script.proofs.Laws.Lines.{number_more, number_none, number_many}
use Rattle.script.proofs.lines.line_of.Given as given
use Rattle.script.proofs.lines.line_of.Goals as goal

-- ---- what an iterator has left

module _ {S A B : Type 0} {steps : S → Option A → S → Type 0} {v : A → B} {s : S} (t : S) where
  after_one : {ys : List B} (x : A) → YieldsList steps v s ys → steps s (Some x) t → (ws : List B) × YieldsList steps v t ws × (ys ≡ v x ∷ ws)
  after_one {ys = []} x y k = absurd (y.runs x t k)
  after_one {ys = z ∷ ys} x y k = let p = y.runs.1 x t k in (ys, record { runs = p.1 }, ap (λ u. u ∷ ys) (sym p.0))

  after_all : {ys : List B} → YieldsList steps v s ys → steps s None t → ys ≡ []
  after_all {ys = []} y k = refl
  after_all {ys = z ∷ ys} y k = absurd (y.runs.0 t k)

-- the words are the first, those so far and those to come
moved : {A : Type 0} (v : A → List ℕ) (all : List (List ℕ)) (first : List ℕ) (so : List A) (x : A) (ws us : List (List ℕ))
    → all ≡ first ∷ (map v so ++ ws) → ws ≡ v x ∷ us → all ≡ first ∷ (map v (so ++ x ∷ []) ++ us)
moved v all first so x ws us e f =
    e ∙ ap (λ l. first ∷ (map v so ++ l)) f ∙ ap (λ l. first ∷ l) (sym (append_assoc (map v so) (v x ∷ []) us))
    ∙ ap (λ l. first ∷ (l ++ us)) (sym (map-append v so (x ∷ [])))

pub loop-word-init : goal.loop-word-init
unfolding words
loop-word-init c =
    let s = c.split-words.ensures in
    let y : YieldsList (given.iterator-loop-word).next_gives (λ w. w.now) c.split-words.result (words c.args.s.now) =
    YieldsList-from_slice_split _ (λ b. eqb b space) c.args.s.now s.rest s.done s.closure (λ x b q k. search (rules, tests)) in
    let m = after_one c.next.new.self c.in_ok-first.first y c.in_ok-first.ensures.steps in
    record {
      left = (m.0, subst (λ i. YieldsList (given.iterator-loop-word).next_gives (λ w. w.now) i m.0) (sym c.into_iter-word-iterator.ensures.into_iter_gives) m.1, m.2);
      each = refl;
      values = c.new-numbers.ensures;
    }

pub returns-in_err-number_in : goal.returns-in_err-number_in
unfolding line_of
returns-in_err-number_in c =
    let i = c.loop-word.invariant in
    let done = map (λ w. w.now) c.loop-word.yielded in
    let m = after_one c.next-in-loop-word.new.self c.in-Some.word i.left.1 c.in-Some.ensures.steps in
    c.from_residual-in_err-number_in.ensures
    ∙ number_none done c.in-Some.word.now c.in_ok-first.first.now m.0 (sym c.in_err-number_in.ensures)
    ∙ ap line_of_words (sym (i.left.2 ∙ ap (λ l. c.in_ok-first.first.now ∷ (done ++ l)) m.2))

pub loop-word-preserved : goal.loop-word-preserved
loop-word-preserved c =
    let i = c.loop-word.invariant in
    let so = c.loop-word.yielded in
    let m = after_one c.next-in-loop-word.new.self c.in-Some.word i.left.1 c.in-Some.ensures.steps in
    let n = number_more (map (λ w. w.now) so) c.in-Some.word.now c.loop-word.numbers.items c.in_ok-number_in.field-0 i.each i.values (sym c.in_ok-number_in.ensures) in
    let e = map-append (λ w. w.now) so (c.in-Some.word ∷ []) in
    record {
      left = (m.0, m.1, moved (λ w. w.now) _ _ so c.in-Some.word _ _ i.left.2 m.2);
      each = ap (list_all is_number) e ∙ n.0;
      values = in_ok _ _ c.try_push.result c.in_ok-ok.field-0 c.try_push.ensures.ok c.in_ok-ok.ensures.value ∙ n.1 ∙ ap (map value) (sym e);
    }

pub returns-in_err-ok : goal.returns-in_err-ok
unfolding line_of
returns-in_err-ok c =
    let i = c.loop-word.invariant in
    let m = after_one c.next-in-loop-word.new.self c.in-Some.word i.left.1 c.in-Some.ensures.steps in
    let done = map (λ w. w.now) c.loop-word.yielded in
    let full : length c.loop-word.numbers.items ≡ 5 = (in_err _ _ c.try_push.result c.try_push.ensures.full c.in_err-ok.ensures.value).1 in
    let many : length done ≡ 5 = sym (length-map done value) ∙ ap length (sym i.values) ∙ full in
    c.from_residual-in_err-ok.ensures
    ∙ number_many done c.in-Some.word.now c.in_ok-first.first.now m.0 many
    ∙ ap line_of_words (sym (i.left.2 ∙ ap (λ l. c.in_ok-first.first.now ∷ (done ++ l)) m.2))

pub returns : goal.returns
unfolding line_of
returns c =
    let i = c.loop-word.invariant in
    let done = map (λ w. w.now) c.loop-word.yielded in
    let m = after_all c.next-in-loop-word.new.self i.left.1 c.in-None.ensures.steps in
    c.line_with.ensures done i.each (c.as_slice.ensures.value ∙ i.values)
    ∙ ap line_of_words (sym (i.left.2 ∙ ap (λ l. c.in_ok-first.first.now ∷ (done ++ l)) m ∙ ap (λ l. c.in_ok-first.first.now ∷ l) (append-nil done)))
