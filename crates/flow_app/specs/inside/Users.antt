-- Which rules ask for which numbers.
use Rattle.std.specs.Prelude.{◌≡◌, ◌<◌, ℕ, true, List, Some, All, length, slice_get}
use Rattle.std.specs.Global.{Vec}
use Rattle.flow_app.specs.declared.links.Inputs.{Inputs}
use Rattle.flow_app.specs.Linked.{are_below, asks, has, users_at}

-- each input that is defined has a number below this one
pub record IsInside (n : ℕ) (asked : Inputs) : Type 0 where
  pub left : (i : ℕ) → asked.left ≡ Some i → i < n
  pub right : (i : ℕ) → asked.right ≡ Some i → i < n

-- all inputs are numbers below n
abbrev pub AreInside : ℕ → List Inputs → Type 0
AreInside n inputs = All (IsInside n) inputs

-- of each number all rules that ask for it are noted, and each is below n
pub record HasUsers (n : ℕ) (inputs : List Inputs) (users : List (Vec ℕ)) : Type 0 where
  pub long : length users ≡ n
  pub within : (i : ℕ) → are_below n (users_at users i) ≡ true
  pub all : (i q : ℕ) (asked : Inputs) → slice_get inputs q ≡ Some asked → asks asked i ≡ true → has (users_at users i) q ≡ true
