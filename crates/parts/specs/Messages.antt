-- Messages and their lists.
use Rattle.std.specs.Prelude.{◌≡◌, ℕ, zero, suc, ◌+◌, ◌-◌, ◌≤◌, Bool, true, false, not, ◌&&◌, List, [], ◌∷◌, ◌++◌, length, take, replicate, ◌==◌, nat_lt, slice_index_or, slice_set, Option, None, Some}
use Rattle.std.specs.Option.{option_map_or}
use Rattle.parts.specs.Choose.{pick}
use Rattle.parts.specs.declared.list.Message.{Message}
use Rattle.parts.specs.declared.list.Messages.{Messages}
use Rattle.parts.specs.declared.list.Top.{Top}
use Rattle.parts.specs.declared.list.Parts.{Parts}
use Rattle.parts.specs.declared.list.Which.{Which}
use Rattle.parts.specs.declared.list.Which.TheVariants.{AnyWaiting, WaitingFor, WaitingForOthers, HasPlace, OnChannel}
use Rattle.parts.specs.declared.request.Request.{Request}

-- the messages of a list, in order of acceptance
abbrev pub all : Messages → List Message
all l = take l.len l.items

abbrev pub used : Messages → ℕ
used l = pick (nat_lt l.len 16) l.len 16

abbrev pub blank : Message
blank = record { other = 0; priority = 0; channel = 0; length = 0; place = 0 }

-- the message that is asked for, with its payload at a place
abbrev pub message_for : Request → ℕ → Message
message_for q place =
    record { other = q.to; priority = q.priority; channel = q.channel; length = q.length; place = place }

-- each number of a request has room in its message
pub record Fits (q : Request) : Type 0 where
  pub to_fits : q.to ≤ 255
  pub priority_fits : q.priority ≤ 255
  pub channel_fits : q.channel ≤ 255
  pub length_fits : q.length ≤ 65535

abbrev pub none : Messages
none = record { items = replicate 16 blank; len = 0 }

-- at most 16 messages as a list: the slots behind them are blank
unfoldable pub pack : List Message → Messages
pack ms = record { items = ms ++ replicate (16 - length ms) blank; len = length ms }

-- one more joins at the end, where there is room
unfoldable pub pushed : Messages → Message → Messages
pushed l m = pick (nat_lt l.len 16) (record { items = slice_set l.items l.len m; len = l.len + 1 }) l

-- ---- which messages

-- the message in flight is the one at the flight's place
abbrev pub flies : Option ℕ → Message → Bool
flies None m = false
flies (Some p) m = p == m.place

-- a message waits unless it is in flight
unfoldable pub fits : Which → Message → Bool
fits (AnyWaiting f) m = not (flies f m)
fits (WaitingFor f p) m = not (flies f m) && m.other == p
fits (WaitingForOthers f p) m = not (flies f m) && not (m.other == p)
fits (HasPlace p) m = m.place == p
fits (OnChannel c) m = m.channel == c

unfoldable pub only : (Message → Bool) → List Message → List Message
only f [] = []
only f (m ∷ ms) = pick (f m) (m ∷ only f ms) (only f ms)

-- those that fit go, the others are kept, each part in order
unfoldable pub split_by : Which → Messages → Parts
split_by w l =
    record {
      kept = pack (only (λ (m : Message). not (fits w m)) (all l));
      gone = pack (only (fits w) (all l));
    }

-- those that fit, where `fitting`, or the others
abbrev pub among : Which → Bool → Message → Bool
among w fitting m = pick fitting (fits w m) (not (fits w m))

-- one of the two parts
unfoldable pub chosen_by : Which → Bool → Messages → Messages
chosen_by w fitting l = pack (only (among w fitting) (all l))

-- ---- the best of those that fit: the highest priority, the earliest among equals

-- a message takes the best's place if there is none yet, or if its priority is higher
unfoldable pub better_of : Which → Option Message → Message → Option Message
better_of w b m =
    pick (fits w m)
    (pick (option_map_or (λ (c : Message). nat_lt c.priority m.priority) b true) (Some m) b)
    b

unfoldable pub best_of : Which → List Message → Option Message → Option Message
best_of w [] b = b
best_of w (m ∷ ms) b = best_of w ms (better_of w b m)

unfoldable pub best : Which → Messages → Option Message
best w l = best_of w (all l) None

-- ---- the same by position

-- the message at a position of the array, or none from 16 on
abbrev pub standing : Messages → ℕ → Option Message
standing l at = pick (nat_lt at 16) (Some (slice_index_or l.items at blank)) None

abbrev pub no_top : Top
no_top = record { at = 16; priority = 0 }

abbrev pub top_at : Message → ℕ → Top
top_at m i = record { at = i; priority = m.priority }

-- the message at `i` becomes the highest if there is none yet, or if its priority is higher
unfoldable pub higher_of : Which → Top → Message → ℕ → Top
higher_of w t m i =
    pick (fits w m)
    (pick (nat_lt t.at 16)
    (pick (nat_lt t.priority m.priority) (top_at m i) t)
    (top_at m i))
    t

-- ---- places

unfoldable pub has_place : List Message → ℕ → Bool
has_place [] p = false
has_place (m ∷ ms) p = pick (m.place == p) true (has_place ms p)

-- flags, one for each place: those of the places that the messages have
unfoldable pub Marked : List Bool → List Message → Type 0
Marked flags ms = (p : ℕ) → slice_index_or flags p false ≡ has_place ms p

-- the first of the k numbers from p on that is no message's place; p + k where each is one
unfoldable pub free_from : ℕ → ℕ → List Message → ℕ
free_from zero p ms = p
free_from (suc k) p ms = pick (has_place ms p) (free_from k (suc p) ms) p

-- "a payload goes into the lowest free place" of 16
unfoldable pub lowest_free : List Message → ℕ
lowest_free ms = free_from 16 0 ms
