-- An input that is read whole, and what is seen of a source and a sink by who reads and writes.
use Rattle.std.specs.Prelude.{◌≡◌, ◌<◌, ℕ, Bool, List, [], length, Option, Some, None}

-- a source that tells what is left has nothing left
abbrev pub IsAtEnd : Option (List ℕ) → Type 0
IsAtEnd None = Unit {0}
IsAtEnd (Some bytes) = bytes ≡ []

-- it has more bytes than these
abbrev pub HasMore : ℕ → Option (List ℕ) → Type 0
HasMore limit left = (bytes : List ℕ) → left ≡ Some bytes → limit < length bytes

-- what is seen of a source and a sink: what is left and what was taken, their counts of faults, and that all is flushed
pub record Seen : Type 0 where
  pub left : Option (List ℕ)
  pub reads : ℕ
  pub taken : Option (List ℕ)
  pub writes : ℕ
  pub flushed : Bool

-- what is seen of a source and a sink
abbrev pub seen : Option (List ℕ) → ℕ → Option (List ℕ) → ℕ → Bool → Seen
seen left reads taken writes flushed = record { left = left; reads = reads; taken = taken; writes = writes; flushed = flushed }
