-- Laws of a word's number: what the library's parsing says of it. Assumes nothing.
use Rattle.std.proofs.Common.{◌≡◌, ℕ, zero, suc, ◌<◌, ◌≤◌, Bool, true, false, List, [], ◌∷◌, ◌&&◌, length, Some, None, Ok, Err, refl, sym, ap, subst, ◌∙◌, arith}
use Rattle.std.specs.Prelude.{Result, MatchResult, slice_index}
use Rattle.std.specs.Char.{is_ascii_digit}
use Rattle.std.specs.List.{list_all}
use Rattle.std.specs.Result.{OkIff, result_ok}
use Rattle.std.specs.Str.{all_ascii_digits, IsUtf8}
use Rattle.std.specs.Str.Parse.{ParsesUnsigned}
use Rattle.std.proofs.lemmas.Bool.{le-leb, leb-true, false≢true}
use Rattle.std.proofs.lemmas.Option.{none-some, same_Some}
use Rattle.std.proofs.lemmas.Str.{IsUtf8-from_ascii}
use Rattle.std.proofs.lemmas.Str.Parse.{IsNumeralModel, numerals_by_fold, tells_all_ascii_digits, parse_digits}
use Rattle.parts.proofs.Laws.Choose.{pick_true, pick_false}
use Rattle.parts.proofs.Laws.Tests.{held, hold}
use Rattle.script.specs.Lines.{value_from, value, is_number, number_in}

-- the digits and the value are the library's
numerals : IsNumeralModel (λ w. all_ascii_digits w ≡ true) value
unfolding value_from
numerals = numerals_by_fold _ tells_all_ascii_digits value_from (record { empty = λ n. refl; more = λ n c w d. refl })

pub all_digits : (w : List ℕ) → list_all is_ascii_digit w ≡ all_ascii_digits w
all_digits [] = refl
all_digits (c ∷ w) = ap (λ b. is_ascii_digit c && b) (all_digits w)

digits_ascii : (w : List ℕ) → all_ascii_digits w ≡ true → (i : ℕ) → slice_index w i < 128
digits_ascii [] d i = omega arith
digits_ascii (c ∷ w) d zero = let p = tells_all_ascii_digits.parts c w d in omega arith
digits_ascii (c ∷ w) d (suc i) = digits_ascii w (tells_all_ascii_digits.parts c w d).1 i

-- so they are a text
pub not_text : (w : List ℕ) → all_ascii_digits w ≡ true → ¬ (IsUtf8 w) → ⊥
not_text w d n = n (IsUtf8-from_ascii w (digits_ascii w d))

-- what a call promised, where `ok` has told which result it was
module _ {A E : Type 0} (P : A → Type 0) (Q : E → Type 0) where
  pub in_ok : (r : Result A E) (x : A) → MatchResult r P Q → Some x ≡ result_ok r → P x
  in_ok (Ok y) x m e = subst P (same_Some y x (sym e)) m
  in_ok (Err y) x m e = absurd (none-some x (sym e))

  pub in_err : (r : Result A E) → MatchResult r P Q → None ≡ result_ok r → (e : E) × Q e
  in_err (Ok y) m e = absurd (none-some y e)
  in_err (Err y) m e = (y, m)

module _ (w : List ℕ) where
  yes : is_number w ≡ true → Some (value w) ≡ number_in w
  unfolding number_in
  yes e = sym (pick_true _ _ e)

  no : is_number w ≡ false → None ≡ number_in w
  unfolding number_in
  no e = sym (pick_false _ _ e)

  never : (is_number w ≡ true → ⊥) → None ≡ number_in w
  never n = go (is_number w) refl
    where
      go : (b : Bool) → is_number w ≡ b → None ≡ number_in w
      go true e = absurd (n e)
      go false e = no e

  -- it has at most five digits
  pub number_short : is_number w ≡ true → length w ≤ 5
  unfolding is_number
  number_short e = leb-true (length w) 5 (held _ e).1.0

  pub too_long : 5 < length w → None ≡ number_in w
  too_long h = never (λ e. absurd (omega (arith, number_short e)))

  pub no_digits : all_ascii_digits w ≡ false → None ≡ number_in w
  unfolding is_number
  no_digits z = never (λ e. absurd (false≢true (sym z ∙ (held _ e).1.1.0)))

  -- what parsing answers
  module _ (d : all_ascii_digits w ≡ true) (l : length w ≤ 5) where
    pub parsed : {E : Type 0} (r : Result ℕ E) → ParsesUnsigned 16 10 w r → result_ok r ≡ number_in w
    unfolding is_number
    parsed r p = go r (parse_digits numerals 16 w r p d)
      where
        go : {E : Type 0} (r : Result ℕ E) → OkIff r ((0 < length w) × (value w < 65536)) (value w) → result_ok r ≡ number_in w
        go (Ok x) h =
            ap Some h.1 ∙ yes (hold _ (le-leb 1 (length w) h.0.0, (le-leb (length w) 5 l, (d, (le-leb (value w) 65535 (omega (arith, h.0.1)), tt)))))
        go (Err e) h =
            never (λ i. let t = held _ i in
            absurd (h (leb-true 1 (length w) t.0, omega (arith, leb-true (value w) 65535 t.1.1.1.0))))
