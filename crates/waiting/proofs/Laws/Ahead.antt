-- The rank: how many short frames and how many information frames may still be composed before the message's own, read off the frame on
-- the wire. At most 2n+1 and 1, whatever is on the wire. Assumes nothing.
use mathlib.Core.Path.{◌≡◌}
use Prim.Native.Nat.{ℕ, ◌+◌, ◌*◌, ◌-◌, ◌<◌, ◌≤◌}
use native.Mathlib.Omega.{arith}
use Rattle.sent.specs.Round.{priority_of, information_of}
use Rattle.parts.specs.Frames.{flight_in, Dispatch}
use Rattle.parts.specs.declared.list.Message.{Message}
use Rattle.parts.specs.declared.frame.TokenFrame.{TokenFrame}
use Rattle.parts.specs.declared.frame.TransmitFrame.{TransmitFrame}
use Rattle.parts.specs.declared.frame.InformationFrame.{InformationFrame}
use Rattle.parts.specs.declared.frame.Frame.{Frame}
use Rattle.parts.specs.declared.frame.Frame.TheVariants.{Token, Transmit, Information}
use Rattle.std.specs.Prelude.{Option, None, Some}
use Rattle.bench.specs.Rows.{kind_of}
use Rattle.bench_theorems.specs.Quiet.{offset, Phase, token, transmit, information}
use Rattle.waiting.specs.Waiting.{is_short, is_information}

-- ---- a message on top

-- the message m is the head of the station s, and the head of every other station is of a strictly lower priority
pub record Tops (n : ℕ) (heads : ℕ → Option Message) (s : ℕ) (m : Message) : Type 0 where
  pub member : s < n
  pub some_priority : 1 ≤ m.priority
  pub own_head : heads s ≡ Some m
  pub lower : (p : ℕ) → p < n → (p ≡ s → ⊥) → priority_of (heads p) < m.priority

-- ---- the rank

-- a message of the given priority is on top at the station s, and the frame on the wire is from `from`
pub data Ahead (n s priority from : ℕ) : Frame → ℕ → ℕ → Type 0 where
  -- a token that names s for the message: it comes back to its master, which grants or sends
  named : (t : TokenFrame) → t.named ≡ s → t.priority ≡ priority → Ahead n s priority from (Token t) (n - offset n t.master from) 0
  -- a token that has yet to ask s
  to_ask : (t : TokenFrame) → offset n t.master from < offset n t.master s → Ahead n s priority from (Token t) (n - offset n t.master from) 0
  -- a token that asked s before the message came: another message may go first, and then a round passes
  passed_over : (t : TokenFrame) → Ahead n s priority from (Token t) (n - offset n t.master from + (n + 1)) 1
  granted : (t : TransmitFrame) → t.named ≡ s → Ahead n s priority from (Transmit t) 0 0
  granted_another : (t : TransmitFrame) → Ahead n s priority from (Transmit t) (n + 1) 1
  another's : (i : InformationFrame) → Ahead n s priority from (Information i) (n + 1) 0

-- whatever is on the wire
pub record SomeAhead (n s priority from : ℕ) (f : Frame) : Type 0 where
  pub short : ℕ
  pub information : ℕ
  pub ahead : Ahead n s priority from f short information
  pub few_short : short ≤ 2 * n + 1
  pub one_information : information ≤ 1

pub some_ahead : {n from to : ℕ} {f : Frame} (s priority : ℕ) → Phase n from to f → SomeAhead n s priority from f
some_ahead {n} {from} s priority (token t w a b) =
    record { short = n - offset n t.master from + (n + 1); information = 1; ahead = passed_over t; few_short = omega arith; one_information = omega arith }
some_ahead {n} {from} s priority (transmit t m a) =
    record { short = n + 1; information = 1; ahead = granted_another t; few_short = omega arith; one_information = omega arith }
some_ahead {n} {from} s priority (information i) =
    record { short = n + 1; information = 0; ahead = another's i; few_short = omega arith; one_information = omega arith }

-- ---- what a step makes of it

-- the station at p composes d: the message's own frame; or another, which lowers the rank by that frame
pub data Turns (n s : ℕ) (m : Message) (p short information : ℕ) (d : Dispatch) : Type 0 where
  its_own : (number : ℕ) → p ≡ s → d ≡ information_of number m → Turns n s m p short information d
  another : (f : Frame) (onward : ℕ) → d ≡ Some (f, onward) → (p ≡ s → flight_in f ≡ None) → (short' information' : ℕ)
      → Ahead n s m.priority p f short' information' → is_short (kind_of f) + short' ≤ short → is_information (kind_of f) + information' ≤ information
      → Turns n s m p short information d
