-- A turn's numbers in a record. Assumes nothing.
use mathlib.Core.Path.{◌≡◌, refl, sym, ap, ◌∙◌, subst}
use mathlib.Core.Bool.{true}
use mathlib.Core.List.{List, ◌∷◌}
use Prim.Native.Nat.{ℕ, ◌-◌, ◌<◌, ◌≤◌}
use borrow.Author.Tests.{eq-eqb, eqb-true}
use lib.ListN.{length}
use Rattle.codec.specs.Octets.{Octets, number_at}
use Rattle.parts.specs.Choose.{pick}
use Rattle.parts.specs.Moves.{state_number}
use Rattle.parts.proofs.Laws.Choose.{pick_and}
use Rattle.parts.specs.declared.moves.State.{State}
use Rattle.parts.specs.Frames.{Dispatch}
use Rattle.std.specs.Prelude.{Option}
use Rattle.station.specs.declared.station.Turn.{Turn}
use Rattle.records.specs.Layout.{own_at, state_at, retries_at, handled_at, handled_number_at, awaited_at, lost_at}
use Rattle.records.specs.Fields.{state_from, state_good, handled_flag, handled_number, handled_from, handled_good, slip_of, dispatch_from, slip_good, slip_at, turn_at, turn_good, turn_octets}
use Rattle.records.specs.declared.slip.Slip.{Slip}
use Rattle.parts.proofs.Laws.Tests.{held}
use Rattle.record_theorems.specs.Typed.{TypedTurn}
use Rattle.record_theorems.proofs.Laws.Goes.{Goes}
use Rattle.record_theorems.proofs.Laws.Numbers.{Field, octets_of, Reads, numbers_read, numbers_written}
use Rattle.parts.proofs.Laws.Tests.{hold}
use Rattle.record_theorems.proofs.Laws.Slips.{state_back, state_fits, handled_back, flag_fits, handled_fits, dispatch_back, slip_fields, slip_fits, same_slip_lem, slip_same}

abbrev pub turn_fields : ℕ → Turn → List Field
turn_fields own t =
    (1, own)
    ∷ (1, state_number t.state)
    ∷ (1, t.retries)
    ∷ (1, handled_flag t.handled)
    ∷ (2, handled_number t.handled)
    ∷ slip_fields (slip_of t.awaited)

turn_octets_lem : (own : ℕ) (t : Turn) → turn_octets own t ≡ octets_of (turn_fields own t)
turn_octets_lem own t = refl

-- ---- what reads is written

slip_reads : (s : List ℕ) → Reads s own_at (awaited_at - own_at) (slip_fields (slip_at s awaited_at))
slip_reads s = (refl, (refl, (refl, (refl, (refl, (refl, (refl, (refl, (refl, (refl, tt))))))))))

pub turn_written : (s : List ℕ) → Octets s → lost_at ≤ length s → turn_good s ≡ true → Goes s own_at (turn_octets (number_at s own_at 1) (turn_at s)) lost_at
unfolding turn_good
turn_written s o h good =
    let t = held _ good in
    let state : state_number (turn_at s).state ≡ number_at s state_at 1 = eqb-true _ _ t.0 in
    let handled = pick_and t.1.0 in
    let flag : handled_flag (turn_at s).handled ≡ number_at s handled_at 1 = eqb-true _ _ handled.0 in
    let last : handled_number (turn_at s).handled ≡ number_at s handled_number_at 2 = eqb-true _ _ handled.1 in
    let slip : slip_of (turn_at s).awaited ≡ slip_at s awaited_at = same_slip_lem _ _ t.1.1.0 in
    let reads : Reads s own_at (awaited_at - own_at) (slip_fields (slip_of (turn_at s).awaited)) = subst (λ (p : Slip). Reads s own_at (awaited_at - own_at) (slip_fields p)) (sym slip) (slip_reads s) in
    numbers_written s own_at o (turn_fields (number_at s own_at 1) (turn_at s)) lost_at refl h (refl, (sym state, (refl, (sym flag, (sym last, reads)))))

-- ---- what is written reads

pub record TurnRead (s : List ℕ) (own : ℕ) (t : Turn) : Type 0 where
  pub own_read : number_at s own_at 1 ≡ own
  pub turn_read : turn_at s ≡ t
  pub good : turn_good s ≡ true

state_good_lem : (st : State) → state_good (state_number st) ≡ true
state_good_lem st = eq-eqb _ _ (ap state_number (state_back st))

handled_good_lem : (h : Option ℕ) → handled_good (handled_flag h) (handled_number h) ≡ true
unfolding pick
handled_good_lem h = rw (eq-eqb _ _ (ap handled_flag (handled_back h))) (eq-eqb _ _ (ap handled_number (handled_back h)))

pub turn_reads : (s : List ℕ) (own : ℕ) (t : Turn) (next : ℕ) → own < 256 → TypedTurn t → Goes s own_at (turn_octets own t) next → TurnRead s own t
unfolding turn_good
turn_reads s own t next small typed p =
    let r = numbers_read s own_at (turn_fields own t) next (small, (state_fits t.state, (typed.retries_u8, (flag_fits t.handled, (handled_fits t.handled typed.handled, slip_fits t.awaited typed.awaited))))) p in
    let q = r.1.1.1.1.1 in
    let slip : slip_at s awaited_at ≡ slip_of t.awaited =
    λ i.
    record {
      kind = q.0 i;
      to = q.1.0 i;
      number = q.1.1.0 i;
      priority = q.1.1.1.0 i;
      master = q.1.1.1.1.0 i;
      failing = q.1.1.1.1.1.0 i;
      named = q.1.1.1.1.1.1.0 i;
      channel = q.1.1.1.1.1.1.1.0 i;
      place = q.1.1.1.1.1.1.1.1.0 i;
      length = q.1.1.1.1.1.1.1.1.1.0 i;
    } in
    let n : number_at s state_at 1 ≡ state_number t.state = r.1.0 in
    let flag : number_at s handled_at 1 ≡ handled_flag t.handled = r.1.1.1.0 in
    let last : number_at s handled_number_at 2 ≡ handled_number t.handled = r.1.1.1.1.0 in
    let state : state_from (number_at s state_at 1) ≡ t.state = ap state_from n ∙ state_back t.state in
    let handled : handled_from (number_at s handled_at 1) (number_at s handled_number_at 2) ≡ t.handled =
    ap (λ (k : ℕ). handled_from k (number_at s handled_number_at 2)) flag ∙ ap (handled_from (handled_flag t.handled)) last ∙ handled_back t.handled in
    let awaited : dispatch_from (slip_at s awaited_at) ≡ t.awaited = ap dispatch_from slip ∙ dispatch_back t.awaited typed.awaited in
    let retries : number_at s retries_at 1 ≡ t.retries = r.1.1.0 in
    let handled_ok : handled_good (number_at s handled_at 1) (number_at s handled_number_at 2) ≡ true =
    ap (λ (k : ℕ). handled_good k (number_at s handled_number_at 2)) flag ∙ ap (handled_good (handled_flag t.handled)) last ∙ handled_good_lem t.handled in
    let slip_ok : slip_good (slip_at s awaited_at) ≡ true =
    ap slip_good slip ∙ ap (λ (d : Dispatch). Rattle.records.specs.Fields.same_slip (slip_of d) (slip_of t.awaited)) (dispatch_back t.awaited typed.awaited) ∙ slip_same (slip_of t.awaited) in
    record {
      own_read = r.0;
      turn_read = λ i. record { state = state i; awaited = awaited i; handled = handled i; retries = retries i };
      good = hold _ (ap state_good n ∙ state_good_lem t.state, (handled_ok, (slip_ok, tt)));
    }
