-- The store: 16 send places, then 16 receive places, of 1,492 octets each.
use Rattle.std.specs.Prelude.{ℕ, ◌+◌, ◌*◌, Bool, List, [], ◌∷◌, ltb, leb, eqb, length, take, drop, Option, None, Some}
use Rattle.codec.specs.Octets.{laid}
use Rattle.parts.specs.Choose.{pick, all_of}
use Rattle.records.specs.Layout.{place_length, receive_places, store_length}
use Rattle.parts.specs.declared.list.Message.{Message}
use Rattle.parts.specs.declared.frame.Frame.{Frame}
use Rattle.parts.specs.declared.frame.Frame.TheVariants.{Token, Transmit, Information}
use Rattle.parts.specs.Frames.{Dispatch}

-- n octets have room in a place of a store of so many octets; in a whole station's calls they always have
unfoldable pub fits_place : ℕ → ℕ → ℕ → Bool
fits_place store place n = all_of (eqb store store_length ∷ ltb place 32 ∷ leb n place_length ∷ [])

-- the first n octets of a place
unfoldable pub in_place : List ℕ → ℕ → ℕ → List ℕ
in_place store place n = pick (fits_place (length store) place n) (take n (drop (place * place_length) store)) []

-- a payload goes into a place; every other octet stays
unfoldable pub put_place : List ℕ → ℕ → List ℕ → List ℕ
put_place store place payload = pick (fits_place (length store) place (length payload)) (laid store (place * place_length) payload) store

-- ---- what a station's answer moves

-- a payload that joins the send list
unfoldable pub queued : List ℕ → Option Message → List ℕ → List ℕ
queued store None payload = store
queued store (Some m) payload = put_place store m.place payload

-- one that joins the receive list
unfoldable pub received : List ℕ → Option Message → List ℕ → List ℕ
received store None payload = store
received store (Some m) payload = put_place store (receive_places + m.place) payload

-- one that is taken
unfoldable pub taken : List ℕ → Option Message → List ℕ
taken store None = []
taken store (Some m) = in_place store (receive_places + m.place) m.length

-- the information of a frame that is sent, from its message's place
unfoldable pub carried_in : List ℕ → Frame → List ℕ
carried_in store (Token t) = []
carried_in store (Transmit t) = []
carried_in store (Information i) = in_place store i.place i.length

unfoldable pub information_of : List ℕ → Dispatch → List ℕ
information_of store None = []
information_of store (Some (frame, to)) = carried_in store frame
