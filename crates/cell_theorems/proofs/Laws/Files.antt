-- Laws of a good ring file: N from 2 to 64, R from 1 to 15, and each member's address at one position only. Assumes nothing.
use mathlib.Core.Path.{◌≡◌, sym, ap, ◌∙◌}
use mathlib.Core.Bool.{true}
use mathlib.Core.List.{List}
use Prim.Native.Nat.{ℕ, ◌<◌, ◌≤◌}
use native.Mathlib.Omega.{arith}
use borrow.Author.Tests.{eq-eqb, lt-ltb}
use lib.ListN.{length, length-take}
use Rattle.codec.specs.Ring.{read_ring, position, is_member}
use Rattle.codec.proofs.Laws.Ring.{few_members}
use Rattle.records.specs.Layout.{record_length}
use Rattle.driver_calls.specs.Calls.{ring_of, make_number}
use Rattle.driver_calls.proofs.Laws.Calls.{length_filled}
use Rattle.driver_theorems.proofs.Laws.MadeRecords.{limits}
use Rattle.wire_theorems.proofs.Laws.Addresses.{good_addresses}
use Rattle.cell_theorems.specs.Cell.{members, retries, address_at}

module _ (file : List ℕ) (good : (read_ring file).number ≡ 0) where
  pub two : 2 ≤ members file
  two = (limits file good).low

  pub most : members file ≤ 64
  most = few_members file

  pub low : 1 ≤ retries file
  low = (limits file good).first

  pub high : retries file ≤ 15
  high = (limits file good).most

  pub ring_long : length (ring_of file) ≡ members file
  ring_long = omega (arith, length-take (members file) (read_ring file).ring.addresses, length_filled file good, few_members file)

  pub position_is : (p : ℕ) → p < members file → position (ring_of file) (address_at file p) ≡ p
  position_is p h = (good_addresses file good).own p (omega (arith, ring_long))

  pub same_position : (p q : ℕ) → p < members file → q < members file → address_at file p ≡ address_at file q → p ≡ q
  same_position p q h k e = sym (position_is p h) ∙ ap (position (ring_of file)) e ∙ position_is q k

  -- so a making for a member is done
  pub makes : (rec : List ℕ) → length rec ≡ record_length → (p : ℕ) → p < members file → make_number rec file (address_at file p) ≡ 0
  unfolding make_number
  makes rec e p h =
      let is : is_member (ring_of file) (address_at file p) ≡ true = lt-ltb (position (ring_of file) (address_at file p)) (length (ring_of file)) (omega (arith, ring_long, position_is p h)) in
      rw (eq-eqb (length rec) record_length e, eq-eqb (read_ring file).number 0 good, is)
