-- A state, a handled number, an awaited frame: what is read of the numbers that stand for one is that one again. Assumes nothing.
use mathlib.Core.Path.{◌≡◌, refl, ap}
use mathlib.Core.Bool.{true}
use mathlib.Core.List.{List, [], ◌∷◌}
use Prim.Native.Nat.{ℕ, ◌+◌, ◌-◌, ◌<◌}
use native.Mathlib.Omega.{arith}
use borrow.Author.Tests.{eq-eqb, eqb-true, ne_eqb, le-ltb}
use lib.Dec.{eqb}
use Rattle.parts.specs.Choose.{pick}
use Rattle.parts.specs.Moves.{state_number}
use Rattle.sent.specs.Round.{bid_of, passing}
use Rattle.parts.specs.declared.moves.State.{State}
use Rattle.parts.specs.declared.moves.State.TheVariants.{Offline, Idle, Waiting, Alone, Excluded}
use Rattle.std.specs.Prelude.{Option, None, Some}
use Rattle.parts.specs.declared.frame.Frame.TheVariants.{Token, Transmit, Information}
use Rattle.parts.specs.Frames.{Dispatch}
use Rattle.records.specs.Fields.{state_from, handled_flag, handled_number, handled_from, whom_number, whom_from, slip_to, slip_of, dispatch_from, same_slip}
use Rattle.records.specs.declared.slip.Slip.{Slip}
use Rattle.parts.proofs.Laws.Tests.{held, hold}
use Rattle.record_theorems.specs.Typed.{TypedWhom, TypedDispatch, TypedHandled}
use Rattle.record_theorems.proofs.Laws.Numbers.{Field, Fit}

-- ---- the state and the handled number

pub state_back : (st : State) → state_from (state_number st) ≡ st
unfolding state_from pick
state_back Offline = refl
state_back Idle = refl
state_back Waiting = refl
state_back Alone = refl
state_back Excluded = refl

pub state_fits : (st : State) → state_number st < 256
state_fits Offline = omega arith
state_fits Idle = omega arith
state_fits Waiting = omega arith
state_fits Alone = omega arith
state_fits Excluded = omega arith

pub handled_back : (h : Option ℕ) → handled_from (handled_flag h) (handled_number h) ≡ h
unfolding handled_from pick
handled_back None = refl
handled_back (Some k) = refl

pub flag_fits : (h : Option ℕ) → handled_flag h < 256
flag_fits None = omega arith
flag_fits (Some k) = omega arith

pub handled_fits : (h : Option ℕ) → TypedHandled h → handled_number h < 65536
handled_fits None t = omega arith
handled_fits (Some k) t = t

-- ---- the awaited frame

whom_back : (w : Option ℕ) → TypedWhom w → whom_from (whom_number w) ≡ w
unfolding whom_from pick
whom_back None t = refl
whom_back (Some p) t =
    let e : p + 1 - 1 ≡ p = omega arith in
    rw (ne_eqb (p + 1) 0 (λ z. omega arith), le-ltb 256 (p + 1) (omega arith), e)

whom_fits : (w : Option ℕ) → TypedWhom w → whom_number w < 65536
whom_fits None t = omega arith
whom_fits (Some p) t = omega arith

pub dispatch_back : (d : Dispatch) → TypedDispatch d → dispatch_from (slip_of d) ≡ d
unfolding dispatch_from slip_of slip_to pick
dispatch_back None t = refl
dispatch_back (Some (Token f, to)) t =
    ap (λ (w : Option ℕ). Some (Token (passing f.number f w (bid_of f)), to)) (whom_back f.failing t.0.failing_u8)
dispatch_back (Some (Transmit f, to)) t = refl
dispatch_back (Some (Information i, to)) t = refl

abbrev pub slip_fields : Slip → List Field
slip_fields p =
    (1, p.kind)
    ∷ (1, p.to)
    ∷ (2, p.number)
    ∷ (1, p.priority)
    ∷ (1, p.master)
    ∷ (2, p.failing)
    ∷ (1, p.named)
    ∷ (1, p.channel)
    ∷ (1, p.place)
    ∷ (2, p.length)
    ∷ []

pub slip_fits : (d : Dispatch) → TypedDispatch d → Fit (slip_fields (slip_of d))
unfolding slip_of slip_to
slip_fits None t =
    (omega arith, (omega arith, (omega arith, (omega arith, (omega arith, (omega arith, (omega arith, (omega arith, (omega arith, (omega arith, tt))))))))))
slip_fits (Some (Token f, to)) t =
    (omega arith, (t.1, (t.0.number_u16, (t.0.priority_u8, (t.0.master_u8, (whom_fits f.failing t.0.failing_u8, (t.0.named_u8, (omega arith, (omega arith, (omega arith, tt))))))))))
slip_fits (Some (Transmit f, to)) t =
    (omega arith, (t.1, (t.0.number_u16, (t.0.priority_u8, (t.0.master_u8, (omega arith, (t.0.named_u8, (omega arith, (omega arith, (omega arith, tt))))))))))
slip_fits (Some (Information i, to)) t =
    (omega arith, (t.1, (t.0.number_u16, (t.0.priority_u8, (omega arith, (omega arith, (omega arith, (t.0.channel_u8, (t.0.place_u8, (t.0.length_u16, tt))))))))))

pub same_slip_lem : (p q : Slip) → same_slip p q ≡ true → p ≡ q
unfolding same_slip
same_slip_lem p q e =
    let t = held _ e in
    let kind : p.kind ≡ q.kind = eqb-true _ _ t.0 in
    let to : p.to ≡ q.to = eqb-true _ _ t.1.0 in
    let number : p.number ≡ q.number = eqb-true _ _ t.1.1.0 in
    let priority : p.priority ≡ q.priority = eqb-true _ _ t.1.1.1.0 in
    let master : p.master ≡ q.master = eqb-true _ _ t.1.1.1.1.0 in
    let failing : p.failing ≡ q.failing = eqb-true _ _ t.1.1.1.1.1.0 in
    let named : p.named ≡ q.named = eqb-true _ _ t.1.1.1.1.1.1.0 in
    let channel : p.channel ≡ q.channel = eqb-true _ _ t.1.1.1.1.1.1.1.0 in
    let place : p.place ≡ q.place = eqb-true _ _ t.1.1.1.1.1.1.1.1.0 in
    let size : p.length ≡ q.length = eqb-true _ _ t.1.1.1.1.1.1.1.1.1.0 in
    λ i.
    record {
      kind = kind i;
      to = to i;
      number = number i;
      priority = priority i;
      master = master i;
      failing = failing i;
      named = named i;
      channel = channel i;
      place = place i;
      length = size i;
    }

same : (k : ℕ) → eqb k k ≡ true
same k = eq-eqb k k refl

pub slip_same : (p : Slip) → same_slip p p ≡ true
unfolding same_slip
slip_same p =
    hold _
    (same p.kind, (same p.to, (same p.number, (same p.priority, (same p.master, (same p.failing, (same p.named, (same p.channel, (same p.place, (same p.length, tt))))))))))
