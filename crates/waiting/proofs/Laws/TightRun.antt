-- The run that reaches the bound, from the first frame on: a round of master 0 in which the last station is granted, its information,
-- and a round of master 1 in which station 0 is granted. Assumes nothing.
use mathlib.Core.Path.{◌≡◌, refl, sym, ap, ◌∙◌}
use mathlib.Core.List.Memᴰ
use mathlib.Core.List.{List, [], ◌∷◌}
use Prim.Native.Nat.{ℕ, ◌+◌, ◌-◌, ◌≤◌}
use native.Mathlib.Omega.{arith}
use Rattle.parts.specs.Live.{after}
use Rattle.parts.specs.Frames.{next}
use Rattle.sent.specs.Round.{priority_of, opening, carrying, granting, information_of, reply}
use Rattle.parts.specs.declared.list.Message.{Message}
use Rattle.std.specs.Prelude.{None, Some}
use Rattle.parts.specs.declared.frame.TransmitFrame.{TransmitFrame}
use Rattle.parts.specs.declared.frame.Frame.TheVariants.{Token, Transmit, Information}
use Rattle.parts.proofs.Laws.Live.{after_inside, after_last}
use Rattle.bench.specs.Delivery.{step}
use Rattle.bench.specs.declared.ring.Bench.{Bench}
use Rattle.bench_theorems.proofs.Laws.Answering.{view}
use Rattle.waiting.proofs.Laws.RunWaiting.{resting, top, resting_none, resting_flies, top_one}
use Rattle.waiting.proofs.Laws.RunState.{Runs}
use Rattle.waiting.proofs.Laws.RunReplies.{sends_head, starts_round}
use Rattle.waiting.proofs.Laws.RunAhead.{token_short, longest_weighs, Ahead, Below, ahead_short, ahead_information, ahead_own}
use Rattle.waiting.proofs.Laws.RunTokens.{none_priority, round}
use Rattle.waiting.proofs.Laws.TightLoad.{its, foreign, spot, load, load_first, load_last, load_between, load_same, load_none, load_below}

-- told to send, a station with one message sends it
sends_one : (n p : ℕ) (t : TransmitFrame) (ms : List Message) (z : Message) → ms ≡ z ∷ [] → reply (view n p (top ms)) (Transmit t) ≡ information_of (next t.number) z
sends_one n p t ms z e =
    let best : top ms ≡ Some z = ap top e ∙ top_one z in
    sends_head n p (top ms) z t best

module _ (n : ℕ) (three : 3 ≤ n) (most : n ≤ 64) where
  both_below : Below spot 9 n (load n (foreign ∷ []))
  both_below =
      load_below n (foreign ∷ []) (omega arith) (λ m l. let e : m ≡ foreign = Memᴰ.eq_of_singleton l in omega (arith, ap (λ (a : Message). a.priority) e))

  alone_below : Below spot 9 n (load n [])
  alone_below = load_below n [] (omega arith) (λ m l. absurd (Memᴰ.not-nil l))

  -- granted, station 0 sends it
  goes_now : (j : ℕ) (c : Bench) → Runs n (load n []) 1 (Transmit (granting j 9 1 0)) 0 c → Ahead spot 9 c 0 0
  goes_now j c r =
      ahead_own spot 9 r alone_below (Information (carrying (next j) its)) 1 (sends_one n 0 (granting j 9 1 0) (load n [] 0) its (load_first n [])) refl refl

  -- the round of master 1
  second_round : (k : ℕ) (b : Bench) → Runs n (load n []) 1 (Token (opening 1 0 k None)) (after n 1) b → Ahead spot 9 b (0 + n) 0
  second_round =
      round spot 9 n most (load n []) alone_below (omega arith) 1 0 (omega arith) (after_last n (1 + (n - 2)) (omega arith)) (after_inside n 0 (omega arith))
      (λ p a e. load_none n p (omega arith) (λ z. omega arith)) its (load_first n []) (omega arith) goes_now

  -- station 1 starts it on the information
  starts_second : (k : ℕ) (b : Bench) → Runs n (load n []) (n - 1) (Information (carrying k foreign)) 1 b → Ahead spot 9 b (0 + n + 1) 0
  starts_second k b r =
      let none : priority_of (top (load n [] 1)) ≡ 0 = none_priority (load n [] 1) (load_none n 1 (omega arith) (λ z. omega arith)) in
      ahead_short spot 9 r alone_below (Token (opening 1 0 (next k) None)) (after n 1)
      (starts_round n 1 (top (load n [] 1)) (carrying k foreign) ∙ (λ i. Some (Token (opening 1 (none i) (next k) None), after n 1)))
      (token_short (opening 1 0 (next k) None)) (second_round (next k) (step b))

  -- granted, the last station sends the foreign one
  sends_foreign : (j : ℕ) (c : Bench) → Runs n (load n (foreign ∷ [])) 0 (Transmit (granting j 5 0 (n - 1))) (n - 1) c → Ahead spot 9 c (0 + n + 1) (0 + 1)
  sends_foreign j c r =
      let one : load n (foreign ∷ []) (n - 1) ≡ foreign ∷ [] = load_last n (foreign ∷ []) (omega arith) in
      ahead_information spot 9 r both_below (load n []) (Information (carrying (next j) foreign)) 1
      (sends_one n (n - 1) (granting j 5 0 (n - 1)) (load n (foreign ∷ []) (n - 1)) foreign one) (longest_weighs (carrying (next j) foreign) refl) (λ e. omega arith)
      (load_last n [] (omega arith) ∙ sym (ap (resting (Some 0)) one ∙ resting_flies _ foreign [] refl ∙ resting_none _))
      (λ p h o. load_same n [] (foreign ∷ []) p o) (starts_second (next j) (step c))

  -- the round of master 0
  pub whole_run : (b : Bench) → Runs n (load n (foreign ∷ [])) 0 (Token (opening 0 0 0 None)) (after n 0) b → Ahead spot 9 b (0 + n + 1 + n) (0 + 1)
  whole_run =
      round spot 9 n most (load n (foreign ∷ [])) both_below (omega arith) 0 (n - 1) (omega arith)
      (after_inside n (0 + (n - 2)) (omega arith) ∙ omega arith) (after_last n (n - 1) (omega arith))
      (λ p a e. load_between n (foreign ∷ []) p (λ z. omega arith) (λ z. omega arith)) foreign (load_last n (foreign ∷ []) (omega arith)) (omega arith) sends_foreign 0
