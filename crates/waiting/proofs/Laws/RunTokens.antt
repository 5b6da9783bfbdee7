-- A token on its way: stations at which nothing higher waits pass it on as it is, however many they are. Then one replaces it, and
-- the master grants. Assumes nothing.
use mathlib.Core.Path.{◌≡◌, refl, sym, ap, subst, ◌∙◌}
use mathlib.Core.List.{List, [], ◌∷◌}
use Prim.Native.Nat.{ℕ, zero, suc, ◌+◌, ◌-◌, ◌<◌, ◌≤◌}
use native.Mathlib.Omega.{arith}
use Rattle.parts.specs.Choose.{pick}
use Rattle.parts.specs.Live.{after}
use Rattle.parts.specs.Frames.{next}
use Rattle.sent.specs.Round.{priority_of, opening, granting}
use Rattle.parts.specs.declared.list.Message.{Message}
use Rattle.std.specs.Prelude.{None, Some}
use Rattle.parts.specs.declared.frame.TokenFrame.{TokenFrame}
use Rattle.parts.specs.declared.frame.Frame.TheVariants.{Token, Transmit}
use Rattle.parts.proofs.Laws.Live.{after_inside}
use Rattle.bench.specs.Delivery.{step}
use Rattle.bench.specs.declared.ring.Bench.{Bench}
use Rattle.bench_theorems.proofs.Laws.Offset.{after_member, after_another}
use Rattle.waiting.specs.Waiting.{Spot}
use Rattle.waiting.proofs.Laws.RunWaiting.{top, top_none, top_one}
use Rattle.waiting.proofs.Laws.RunState.{Runs}
use Rattle.waiting.proofs.Laws.RunReplies.{bidding, numbered, passes_on, replaces, grants}
use Rattle.waiting.proofs.Laws.RunAhead.{token_short, transmit_short, Ahead, Below, ahead_short}

-- the priority of the best of none, and of one
pub none_priority : (ms : List Message) → ms ≡ [] → priority_of (top ms) ≡ 0
unfolding pick
none_priority ms e = ap (λ (l : List Message). priority_of (top l)) e ∙ ap priority_of top_none

one_priority : (ms : List Message) (z : Message) → ms ≡ z ∷ [] → priority_of (top ms) ≡ z.priority
unfolding pick
one_priority ms z e = ap (λ (l : List Message). priority_of (top l)) e ∙ ap priority_of (top_one z)

module _ (x : Spot) (priority : ℕ) (n : ℕ) (most : n ≤ 64) (load : ℕ → List Message) (below : Below x priority n load) where
  counted : {b : Bench} {i : ℕ} (s t : ℕ) → s ≡ t → Ahead x priority b s i → Ahead x priority b t i
  counted {b} {i} s t e a = subst (λ (k : ℕ). Ahead x priority b k i) e a

  module _
      (t : TokenFrame) (master : t.master < n) (name : t.named < n) (first last : ℕ) (inside : last < n)
      (nothing : (p : ℕ) → first < p → p ≤ last → (t.master ≡ p → ⊥) × (load p ≡ [])) {s i : ℕ}
      (rest : (j : ℕ) (c : Bench) → Runs n load last (Token (numbered t j)) (after n last) c → Ahead x priority c s i)
    where
      -- the k stations up to `last`, at none of which anything waits, pass a token on
      pub passed : (k from number : ℕ) (b : Bench) → first ≤ from → from + k ≡ last → Runs n load from (Token (numbered t number)) (after n from) b
          → Ahead x priority b (s + k) i
      passed zero from number b behind end r =
          let there : from ≡ last = omega arith in
          counted s (s + 0) (omega arith) (rest number b (subst (λ (p : ℕ). Runs n load p (Token (numbered t number)) (after n p) b) there r))
      passed (suc k) from number b behind end r =
          let on : after n from ≡ from + 1 = after_inside n from (omega arith) in
          let here = nothing (after n from) (omega arith) (omega arith) in
          counted (s + k + 1) (s + suc k) (omega arith)
          (ahead_short x priority r below (Token (numbered t (next number))) (after n (after n from))
          (passes_on n most (after n from) (top (load (after n from))) (numbered t number) master name here.0 (omega (arith, none_priority (load (after n from)) here.1)))
          (token_short (numbered t (next number)))
          (λ u. passed k (after n from) (next number) (step b) (omega arith) (omega arith) u))

  -- a round of the master m in which nothing waits at those asked but the last one, q: it replaces the token, and m grants
  module _
      (two : 2 ≤ n) (m q : ℕ) (inside : m + (n - 2) < n) (to-q : after n (m + (n - 2)) ≡ q) (to-m : after n q ≡ m)
      (nothing : (p : ℕ) → m < p → p ≤ m + (n - 2) → load p ≡ []) (z : Message) (one : load q ≡ z ∷ []) (some : 0 < z.priority)
      {s i : ℕ} (rest : (j : ℕ) (c : Bench) → Runs n load m (Transmit (granting j z.priority m q)) q c → Ahead x priority c s i)
    where
      master : m < n
      master = omega arith

      member : q < n
      member = subst (λ (p : ℕ). p < n) to-q (after_member n (m + (n - 2)) inside)

      -- the token of the round, and as q replaces it
      abbrev opened : ℕ → TokenFrame
      opened j = opening m 0 j None

      abbrev bettered : ℕ → ℕ → TokenFrame
      bettered j bid = bidding (opened j) j (record { priority = bid; named = q })

      granted : (j : ℕ) (c : Bench) → Runs n load q (Token (bettered j z.priority)) m c → Ahead x priority c (s + 1) i
      granted j c r =
          ahead_short x priority r below (Transmit (granting (next j) z.priority m q)) q
          (grants n most m (top (load m)) (bettered j z.priority) master member refl (λ e. omega arith) (λ e. after_another n q two member (to-m ∙ sym e)))
          (transmit_short (granting (next j) z.priority m q)) (rest (next j) (step c))

      replaced : (j : ℕ) (c : Bench) → Runs n load (m + (n - 2)) (Token (opened j)) (after n (m + (n - 2))) c → Ahead x priority c (s + 1 + 1) i
      replaced j c r =
          let is : priority_of (top (load q)) ≡ z.priority = one_priority (load q) z one in
          ahead_short x priority (subst (λ (p : ℕ). Runs n load (m + (n - 2)) (Token (opened j)) p c) to-q r) below (Token (bettered (next j) z.priority)) m
          (replaces n most q (top (load q)) (opened j) master master (λ e. after_another n q two member (to-m ∙ e)) (omega arith)
          ∙ (λ i. Some (Token (bettered (next j) (is i)), to-m i)))
          (token_short (bettered (next j) z.priority)) (granted (next j) (step c))

      pub round : (number : ℕ) (b : Bench) → Runs n load m (Token (opening m 0 number None)) (after n m) b → Ahead x priority b (s + n) i
      round number b r =
          counted (s + 1 + 1 + (n - 2)) (s + n) (omega arith)
          (passed (opened 0) master master m (m + (n - 2)) inside (λ p a e. (λ y. omega arith, nothing p a e)) replaced (n - 2) m number b (omega arith) refl r)
