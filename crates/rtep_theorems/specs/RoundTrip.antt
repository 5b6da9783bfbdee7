-- What comes back: numbers written and read, and ring files.
use Rattle.std.specs.Prelude.{◌≡◌, List, [], ◌∷◌, ℕ, length}
use Rattle.rtep_theorems.specs.Numbers.{information_of, written, limit_told, members_told}
use Rattle.codec.specs.Octets.{laid}
use Rattle.rtep_theorems.specs.Rings.{GoodRing, file_with}

pub record ReadBack (values information packet : List ℕ) (r : ℕ) (told' : List ℕ) : Type 0 where
  pub answer : r ≡ 0
  pub numbers : told' ≡ values
  pub information_is : information_of packet values ≡ information

pub record WriteBack (packet out : List ℕ) (r : ℕ) (out' sizes' : List ℕ) : Type 0 where
  pub answer : r ≡ 0
  pub octets : out' ≡ laid out 0 packet
  pub written_is : written out' sizes' ≡ packet

pub record RingBack (limit : ℕ) (members told : List ℕ) (r : ℕ) (told' : List ℕ) : Type 0 where
  pub answer : r ≡ 0
  pub numbers : told' ≡ laid told 0 (length members ∷ limit ∷ members)

-- a file's own octets again, at the start of what was lent, and their number
pub record FormBack (file out : List ℕ) (r : ℕ) (out' told' : List ℕ) : Type 0 where
  pub answer : r ≡ 0
  pub octets : out' ≡ laid out 0 file
  pub length_is : told' ≡ length file ∷ []

pub record FileBack (file told' : List ℕ) : Type 0 where
  pub good : GoodRing (limit_told told') (members_told told')
  pub again : file ≡ file_with (limit_told told') (members_told told')
