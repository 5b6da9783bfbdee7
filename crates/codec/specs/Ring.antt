-- The ring file in its two forms, field by field, and its checks in their order.
use Rattle.std.specs.Prelude.{ℕ, zero, suc, ◌+◌, ◌-◌, ◌*◌, ◌/◌, ◌%◌, ◌^◌, ◌≡◌, Bool, true, cond, not, ◌&&◌, ◌||◌, List, [], ◌∷◌, ◌++◌, ltb, leb, eqb, length, take, get_or}
use Rattle.codec.specs.Order.{first_of}
use Rattle.codec.specs.Octets.{octets, laid, zeros}
use Rattle.codec.specs.Bits.{bits}
use Rattle.codec.specs.declared.head.HeadBits.{HeadBits}

-- ---- the head: 4, 6, 4 and 2 bits

-- 1 or 2
abbrev pub form : List ℕ → ℕ
form file = bits file 0 4

-- N − 1
abbrev pub others : List ℕ → ℕ
others file = bits file 4 6

abbrev pub limit : List ℕ → ℕ
limit file = bits file 10 4

-- two zero bits in form 1, "rule version 2 bits (1 or 2)" in form 2
abbrev pub last_bits : List ℕ → ℕ
last_bits file = bits file 14 2

abbrev pub head_bits : List ℕ → HeadBits
head_bits file = record { form = form file; others = others file; limit = limit file; last = last_bits file }

-- N
abbrev pub count_of : HeadBits → ℕ
count_of h = h.others + 1

abbrev pub count : List ℕ → ℕ
count file = count_of (head_bits file)

-- the rule version: form 1 has version 1
abbrev pub version_of : HeadBits → ℕ
version_of h = cond (eqb h.form 2) h.last 1

abbrev pub version : List ℕ → ℕ
version file = version_of (head_bits file)

-- ---- how long it is: the head, and a stride for each member

abbrev pub head_length : ℕ
head_length = 2

-- 48 bits of address, and in form 2 "8 bits of open channels"
abbrev pub stride : ℕ → ℕ
stride form = cond (eqb form 2) 7 6

-- "length 2+6N" in form 1, "2+7N" in form 2; and so where the member behind n of them begins
abbrev pub file_octets : ℕ → ℕ → ℕ
file_octets form n = head_length + stride form * n

abbrev pub member_at : List ℕ → ℕ → ℕ
member_at file i = file_octets (form file) i

-- the first n addresses of a file
unfoldable pub addresses_of : List ℕ → ℕ → List ℕ
addresses_of file zero = []
addresses_of file (suc n) = addresses_of file n ++ (bits file (member_at file n * 8) 48 ∷ [])

-- ---- open channels

-- an octet with every channel open
abbrev pub all_channels : ℕ
all_channels = 255

-- those of the member i: all in form 1
abbrev pub channels_at : List ℕ → ℕ → ℕ
channels_at file i = cond (eqb (form file) 2) (bits file (member_at file i * 8 + 48) 8) all_channels

-- of the first n members
unfoldable pub channels_of : List ℕ → ℕ → List ℕ
channels_of file zero = []
channels_of file (suc n) = channels_of file n ++ (channels_at file n ∷ [])

-- "channel 0 in the highest bit"
abbrev pub is_open : ℕ → ℕ → Bool
is_open channels channel = eqb (channels / 2 ^ (7 - channel) % 2) 1

-- ---- addresses

-- zero, or the lowest bit of its first octet is 1
unfoldable pub bad_address : ℕ → Bool
bad_address a = eqb a 0 || eqb (a / 2 ^ 40 % 2) 1

-- the ring position of an address: the number of members where none has it
unfoldable pub position : List ℕ → ℕ → ℕ
position [] a = 0
position (m ∷ ms) a = cond (eqb m a) 0 (suc (position ms a))

abbrev pub is_member : List ℕ → ℕ → Bool
is_member members a = ltb (position members a) (length members)

-- ---- the checks

abbrev pub is_form : ℕ → Bool
is_form form = eqb form 1 || eqb form 2

-- what stands at the last two bits: not zero in form 1, version 0 or 3 in form 2
abbrev pub last_bad : ℕ → ℕ → Bool
last_bad form last = cond (eqb form 2) (eqb last 0 || eqb last 3) (not (eqb last 0))

-- "27 for version 0 or 3, at the place of 3"
abbrev pub last_number : ℕ → ℕ
last_number form = cond (eqb form 2) 27 3

-- of the fields of a head, in a file of so many octets
abbrev pub field_tests : HeadBits → ℕ → List (Bool × ℕ)
field_tests h size =
    (not (is_form h.form), 2)
    ∷ (last_bad h.form h.last, last_number h.form)
    ∷ (eqb h.others 0, 4)
    ∷ (eqb h.limit 0, 5)
    ∷ (not (eqb size (file_octets h.form (count_of h))), 1)
    ∷ []

abbrev pub head_tests : List ℕ → List (Bool × ℕ)
head_tests file = (ltb (length file) head_length, 1) ∷ field_tests (head_bits file) (length file)

abbrev pub address_tests : List ℕ → ℕ → List (Bool × ℕ)
address_tests earlier a = (bad_address a, 6) ∷ (is_member earlier a, 7) ∷ []

-- those of each address in order, after the earlier ones
abbrev pub addresses_tests : List ℕ → List ℕ → List (Bool × ℕ)
addresses_tests earlier [] = []
addresses_tests earlier (a ∷ more) = address_tests earlier a ++ addresses_tests (earlier ++ (a ∷ [])) more

unfoldable pub head_refusal : List ℕ → ℕ
head_refusal file = first_of 0 (head_tests file)

-- the head's own, behind its length
unfoldable pub field_refusal : HeadBits → ℕ → ℕ
field_refusal h size = first_of 0 (field_tests h size)

unfoldable pub address_refusal : List ℕ → ℕ → ℕ
address_refusal earlier a = first_of 0 (address_tests earlier a)

unfoldable pub addresses_refusal : List ℕ → ℕ
addresses_refusal members = first_of 0 (addresses_tests [] members)

-- every check, in the page's order
unfoldable pub ring_refusal : List ℕ → ℕ
ring_refusal file = first_of 0 (head_tests file ++ addresses_tests [] (addresses_of file (count file)))

-- ---- reading

-- the form, how many members, the retry limit, the rule version, the members' addresses in ring order and then zeros, and so their open
-- channels
pub record Ring : Type 0 where
  pub form : ℕ
  pub n : ℕ
  pub limit : ℕ
  pub version : ℕ
  pub addresses : List ℕ
  pub channels : List ℕ

-- 0 and the ring, or the number of the refusal and no ring
pub record RingRead : Type 0 where
  pub number : ℕ
  pub ring : Ring

-- as the array that a ring keeps its addresses in: zeros after them
abbrev pub filled : List ℕ → List ℕ
filled members = members ++ zeros (64 - length members)

unfoldable pub ring_of : List ℕ → Ring
ring_of file =
    record {
      form = form file;
      n = count file;
      limit = limit file;
      version = version file;
      addresses = filled (addresses_of file (count file));
      channels = filled (channels_of file (count file));
    }

abbrev pub no_ring : ℕ → RingRead
no_ring number = record { number = number; ring = record { form = 0; n = 0; limit = 0; version = 0; addresses = zeros 64; channels = zeros 64 } }

unfoldable pub read_ring : List ℕ → RingRead
read_ring file = cond (eqb (ring_refusal file) 0) (record { number = 0; ring = ring_of file }) (no_ring (ring_refusal file))

-- whether the member at a position listens on a channel. Who is no member, and a channel above 7, are not the ring's to close
unfoldable pub listens : Ring → ℕ → ℕ → Bool
listens r p channel = leb r.n p || (ltb 7 channel || is_open (get_or r.channels p 0) channel)

-- ---- writing: the only file that reads as this ring

-- the last two bits
abbrev pub last_for : ℕ → ℕ → ℕ
last_for form version = cond (eqb form 2) version 0

-- the number of the head's bits
abbrev pub head_number : Ring → ℕ
head_number r = r.form * 2 ^ 12 + (r.n - 1) * 2 ^ 6 + r.limit * 2 ^ 2 + last_for r.form r.version

abbrev pub member_octets : ℕ → ℕ → ℕ → List ℕ
member_octets form address channels = octets 6 address ++ cond (eqb form 2) (octets 1 channels) []

-- each address with its open channels
unfoldable pub members_octets : ℕ → List ℕ → List ℕ → List ℕ
members_octets form [] cs = []
members_octets form (a ∷ more) [] = []
members_octets form (a ∷ more) (c ∷ cs) = member_octets form a c ++ members_octets form more cs

unfoldable pub ring_file : Ring → List ℕ
ring_file r = octets 2 (head_number r) ++ members_octets r.form (take r.n r.addresses) (take r.n r.channels)

-- ---- there and back

-- the same ring in another form
abbrev pub in_form : ℕ → Ring → Ring
in_form form r = record { form = form; n = r.n; limit = r.limit; version = r.version; addresses = r.addresses; channels = r.channels }

unfoldable pub all_open : List ℕ → Bool
all_open [] = true
all_open (c ∷ cs) = eqb c all_channels && all_open cs

-- whether form 1 can express it: "version 1 and all channels open"
unfoldable pub plain : Ring → Bool
plain r = eqb r.version 1 && all_open (take r.n r.channels)

-- "26 when form 1 can't express the file"
abbrev pub cannot : ℕ → List ℕ → Bool
cannot asked file = eqb asked 1 && not (plain (ring_of file))

-- the reader's refusals, then 26
unfoldable pub form_refusal : ℕ → List ℕ → ℕ
form_refusal asked file = first_of 0 ((not (eqb (ring_refusal file) 0), ring_refusal file) ∷ (cannot asked file, 26) ∷ [])

-- a good file in the form that is asked for
unfoldable pub formed : ℕ → List ℕ → List ℕ
formed asked file = ring_file (in_form asked (ring_of file))

-- what asking leaves in an out buffer, and the length that it tells: nothing and 0 on a refusal
pub record InForm (asked : ℕ) (file out : List ℕ) (r : ℕ) (size : ℕ) (out' : List ℕ) : Type 0 where
  pub answer : r ≡ form_refusal asked file
  pub length_is : size ≡ cond (eqb r 0) (length (formed asked file)) 0
  pub out_is : out' ≡ cond (eqb r 0) (laid out 0 (formed asked file)) out

-- what asking for another form and back gives: no refusal, the same ring, and the same octets again
pub record ThereAndBack (asked : ℕ) (file : List ℕ) : Type 0 where
  pub same_ring : read_ring (formed asked file) ≡ record { number = 0; ring = in_form asked (read_ring file).ring }
  pub back : form_refusal (form file) (formed asked file) ≡ 0
  pub same : formed (form file) (formed asked file) ≡ file

-- a good file of form 2 that form 1 cannot express: another version than 1, or a channel that a member has closed
pub record NotPlain (file : List ℕ) : Type 0 where
  pub good : ring_refusal file ≡ 0
  pub second_form : form file ≡ 2
  pub closed : version file ≡ 1 → (((p channel : ℕ) → listens (ring_of file) p channel ≡ true) → ⊥)
