-- Laws of reading: one octet more of a line, and how far a reading comes. Assumes nothing.
use Rattle.std.proofs.Common.{◌≡◌, ℕ, suc, ◌+◌, ◌<◌, ◌≤◌, Bool, true, false, List, [], ◌∷◌, length, eqb, set, Some, None, refl, sym, ap, ◌∙◌, subst, arith}
use Rattle.std.proofs.lemmas.Bool.{lt-ltb, le-ltb, eq-eqb, ne_eqb}
use Rattle.std.proofs.lemmas.Option.{none-some, same_Some}
use Rattle.parts.specs.Choose.{pick}
use Rattle.parts.proofs.Laws.Choose.{pick_true, pick_false}
use Rattle.bench.specs.Text.{line_feed}
use Rattle.script.specs.Reading.{keep_one, fed_from}
use Rattle.script.specs.declared.reading.Held.{Held}

-- ---- one octet more

module _ (h : Held) (c : ℕ) where
  pub keep_room : h.len < 40 → ◌≡◌ {A = Held} (record { octets = set h.octets h.len c; len = h.len + 1 }) (keep_one h c)
  unfolding keep_one
  keep_room r = sym (pick_true _ _ (lt-ltb h.len 40 r))

  pub keep_full : 40 ≤ h.len → h ≡ keep_one h c
  unfolding keep_one
  keep_full r = sym (pick_false _ _ (le-ltb h.len 40 r))

-- ---- octet by octet

pub fed_none : (h : Held) (s : List ℕ) → length s ≡ 0 → fed_from h s ≡ record { held = h; rest = None }
unfolding fed_from
fed_none h [] e = refl
fed_none h (c ∷ s) e = absurd (omega arith)

module _ (h : Held) (s : List ℕ) (c : ℕ) (r : List ℕ) (e : s ≡ c ∷ r) where
  pub fed_end : c ≡ line_feed → fed_from h s ≡ record { held = h; rest = Some r }
  unfolding fed_from
  fed_end f = ap (fed_from h) e ∙ pick_true _ _ (eq-eqb c line_feed f)

  pub fed_on : (c ≡ line_feed → ⊥) → fed_from h s ≡ fed_from (keep_one h c) r
  unfolding fed_from
  fed_on n = ap (fed_from h) e ∙ pick_false _ _ (ne_eqb c line_feed n)

-- what stands behind the line feed is shorter
pub rest_shorter : (h : Held) (s r : List ℕ) → (fed_from h s).rest ≡ Some r → length r < length s
unfolding fed_from pick
rest_shorter h [] r e = absurd (none-some r e)
rest_shorter h (c ∷ s) r e = go (eqb c line_feed) (rest_shorter (keep_one h c) s r) e
  where
    go : (b : Bool) → ((fed_from (keep_one h c) s).rest ≡ Some r → length r < length s) → (pick b (record { held = h; rest = Some s }) (fed_from (keep_one h c) s)).rest ≡ Some r → length r < suc (length s)
    go true k e = subst (λ t. length t < suc (length s)) (same_Some s r e) (omega arith)
    go false k e = omega (arith, k e)
