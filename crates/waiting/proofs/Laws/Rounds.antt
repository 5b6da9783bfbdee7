-- What a station composes that starts a round, is told to send, or grants, and how far that lowers the rank. Assumes nothing.
use mathlib.Core.Path.{◌≡◌, refl, sym, ap, subst, ◌∙◌}
use mathlib.Core.Bool.{Bool, true, false}
use Prim.Native.Nat.{ℕ, ◌+◌, ◌<◌, ◌≤◌}
use native.Mathlib.Omega.{arith}
use lib.Dec.{eqb}
use borrow.Author.Tests.{eqb-true, eqb-false}
use Rattle.std.specs.Option.{option_map_or}
use Rattle.parts.specs.Choose.{pick}
use Rattle.sent.specs.Round.{priority_of, opening, granting, start_round, information_of, send_head, grant}
use Rattle.parts.specs.declared.list.Message.{Message}
use Rattle.std.specs.Prelude.{Option, None, Some}
use Rattle.parts.specs.declared.frame.Frame.TheVariants.{Token, Transmit}
use Rattle.parts.specs.Frames.{Dispatch}
use Rattle.parts.specs.Live.{after}
use Rattle.parts.proofs.Laws.Choose.{pick_true, map_or_keeps}
use Rattle.bench_theorems.specs.Quiet.{offset}
use Rattle.bench_theorems.proofs.Laws.Offset.{offset_own, offset_same}
use Rattle.bench_theorems.proofs.Laws.FullSet.{full_live}
use Rattle.bench_theorems.proofs.Laws.Answering.{view}
use Rattle.waiting.proofs.Laws.Ahead.{Tops, named, to_ask, granted, granted_another, another's, Turns, its_own, another}

-- the message m is on top at s; the station at p, of the head h, composes a frame, of so many that may be
module _ (n : ℕ) (heads : ℕ → Option Message) (s : ℕ) (m : Message) (t : Tops n heads s m) (p : ℕ) (place : p < n) (short info number : ℕ) where
  abbrev Lowers : Dispatch → Type 0
  Lowers = Turns n s m p short info

  -- another place than the master's is yet to be asked
  not_asked : (p ≡ s → ⊥) → offset n p p < offset n p s
  not_asked o = go (eqb (offset n p s) 0) refl
    where
      go : (b : Bool) → eqb (offset n p s) 0 ≡ b → offset n p p < offset n p s
      go true e =
          absurd (o (offset_same n p place p s place t.member (offset_own n p place ∙ sym (eqb-true (offset n p s) 0 e))))
      go false e = let some : offset n p s ≡ 0 → ⊥ = eqb-false (offset n p s) 0 e in omega (arith, offset_own n p place, some)

  -- a round starts: the token names s at once, or has yet to ask it
  pub round_turns : n + 1 ≤ short → Lowers (start_round (view n p (heads p)) number None)
  unfolding start_round pick
  round_turns enough = go (eqb p s) refl
    where
      go : (b : Bool) → eqb p s ≡ b → Lowers (Some (Token (opening p (priority_of (heads p)) number None), after n p))
      go true e =
          let q : p ≡ s = eqb-true p s e in
          another (Token (opening p (priority_of (heads p)) number None)) (after n p) refl (λ x. refl) _ _
          (named _ q (ap (λ (i : ℕ). priority_of (heads i)) q ∙ ap priority_of t.own_head))
          (omega arith) (omega arith)
      go false e =
          another (Token (opening p (priority_of (heads p)) number None)) (after n p) refl (λ x. refl) _ _
          (to_ask _ (not_asked (eqb-false p s e)))
          (omega arith) (omega arith)

  -- told to send: at s it is the message's own frame, elsewhere the information frame
  pub send_turns : ((p ≡ s → ⊥) → (n + 1 ≤ short) × (1 ≤ info)) → Lowers (send_head (view n p (heads p)) number)
  unfolding send_head
  send_turns enough = go (eqb p s) refl
    where
      go : (b : Bool) → eqb p s ≡ b → Lowers (option_map_or (information_of number) (heads p) (start_round (view n p (heads p)) number None))
      go true e =
          let q : p ≡ s = eqb-true p s e in
          let h : heads p ≡ Some m = ap heads q ∙ t.own_head in
          its_own number q (ap (λ (x : Option Message). option_map_or (information_of number) x (start_round (view n p (heads p)) number None)) h)
      go false e =
          let o : p ≡ s → ⊥ = eqb-false p s e in
          let w = enough o in
          map_or_keeps Lowers _ (heads p) _
          (λ x.
          another _ _ refl (λ q. absurd (o q)) _ _
          (another's _)
          (omega arith) (omega arith))
          (round_turns w.0)

  -- a transmit token
  pub grant_turns : (priority name : ℕ) → n ≤ 64 → name < n → 1 ≤ short → ((name ≡ s → ⊥) → (n + 2 ≤ short) × (1 ≤ info))
      → Lowers (grant (view n p (heads p)) number priority name)
  unfolding grant
  grant_turns priority name most member one enough = subst Lowers (sym (pick_true _ _ (full_live n name most member))) (go (eqb name s) refl)
    where
      go : (b : Bool) → eqb name s ≡ b → Lowers (Some (Transmit (granting number priority p name), name))
      go true e =
          another (Transmit (granting number priority p name)) name refl (λ x. refl) _ _ (granted _ (eqb-true name s e)) (omega arith) (omega arith)
      go false e =
          let w = enough (eqb-false name s e) in
          another (Transmit (granting number priority p name)) name refl (λ x. refl) _ _ (granted_another _) (omega arith) (omega arith)
