-- How many there are of each key.
use Rattle.std.specs.Prelude.{ℕ, ◌≡◌, ◌+◌, ◌<◌, ◌≤◌, ◌^◌, List, sum_by, Option, Some, None, IfSome, if◌then◌else◌}
use Rattle.std.specs.Option.{unwrap_or}
use Rattle.std.specs.declared.cmp.Ordering.{Ordering}
use Rattle.std.specs.BTreeMap.{get, is_at}
use Rattle.std.specs.BTreeMap.Range.{IsLeBy, IsLtBy}
use Rattle.bag_tables.specs.declared.tallies.Tally.{Tally}

-- how many the tally has of a key
abbrev pub count_of : {K : Type 0} → (K → K → Ordering) → Tally K → K → ℕ
count_of cmp tally key = unwrap_or (get cmp tally.held key) 0

-- one where this is the key, else none
abbrev pub one_at : {K : Type 0} → (K → K → Ordering) → Option K → K → ℕ
one_at cmp None q = 0
one_at cmp (Some key) q = if is_at (cmp key) q then 1 else 0

-- a key that counts 0 takes no room
abbrev pub IsTight : {K : Type 0} → (K → K → Ordering) → Tally K → Type 0
IsTight {K} cmp tally = (q : K) → IfSome (get cmp tally.held q) (λ n. 0 < n)

-- there is one less of one key and one more of the other, where they are named
pub record IsShifted {K : Type 0} (cmp : K → K → Ordering) (old new : Tally K) (from to : Option K) : Type 0 where
  pub counts : (q : K) → count_of cmp new q + one_at cmp from q ≡ count_of cmp old q + one_at cmp to q
  pub tight : IsTight cmp new

-- every key after this one counts 0
abbrev pub IsNoneAfter : {K : Type 0} → (K → K → Ordering) → Tally K → K → Type 0
IsNoneAfter {K} cmp tally low = (q : K) → IsLtBy cmp low q → count_of cmp tally q ≡ 0

-- this is the first key after that one of which there are some, and how many
pub record IsFirstAfter {K : Type 0} (cmp : K → K → Ordering) (tally : Tally K) (low : K) (e : K × ℕ) : Type 0 where
  pub after : IsLtBy cmp low e.0
  pub count : count_of cmp tally e.0 ≡ e.1
  pub some : 0 < e.1
  pub least : (q : K) → IsLtBy cmp low q → 0 < count_of cmp tally q → IsLeBy cmp e.0 q

-- one more fits at each key
abbrev pub HasRoom : {K : Type 0} → (K → K → Ordering) → Tally K → Type 0
HasRoom {K} cmp tally = (q : K) → count_of cmp tally q + 1 < 2 ^ 64

-- one is counted at the key, if one is named
abbrev pub IsHeld : {K : Type 0} → (K → K → Ordering) → Tally K → Option K → Type 0
IsHeld {K} cmp tally key = (q : K) → one_at cmp key q ≤ count_of cmp tally q

-- the tally counts the keys of these elements
pub record IsTallyOf {K X : Type 0} (cmp : K → K → Ordering) (key_of : X → Option K) (tally : Tally K) (xs : List X) : Type 0 where
  pub counts : (q : K) → count_of cmp tally q ≡ sum_by (λ x. one_at cmp (key_of x) q) xs
  pub tight : IsTight cmp tally
