-- What a call leaves: its number, and at exit each buffer that it may write to.
use Rattle.std.specs.Prelude.{ℕ, ◌≡◌, List}

-- whatever a contract allows is one outcome
abbrev pub OneAnswer : {A : Type 0} → (A → Type 0) → Type 0
OneAnswer {A} allows = (first second : A) → allows first → allows second → first ≡ second

-- ring and read
pub record Telling : Type 0 where
  pub number : ℕ
  pub told : List ℕ

-- write, and a ring file in another form
pub record Writing : Type 0 where
  pub number : ℕ
  pub out : List ℕ
  pub told : List ℕ

pub record Made : Type 0 where
  pub number : ℕ
  pub rec : List ℕ

-- start and timer
pub record Sent : Type 0 where
  pub number : ℕ
  pub rec : List ℕ
  pub out : List ℕ
  pub told : List ℕ

pub record Heard : Type 0 where
  pub number : ℕ
  pub rec : List ℕ
  pub store : List ℕ
  pub out : List ℕ
  pub told : List ℕ

pub record Queued : Type 0 where
  pub number : ℕ
  pub rec : List ℕ
  pub store : List ℕ

pub record Taken : Type 0 where
  pub number : ℕ
  pub rec : List ℕ
  pub room : List ℕ
  pub told : List ℕ
