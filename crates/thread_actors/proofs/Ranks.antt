-- Which ranks wait and which are over, one after the other.
use Rattle.std.proofs.Common.{◌≡◌, ◌≢◌, ◌⊎◌, ◌<◌, ◌≤◌, ◌==◌, ◌||◌, ◌&&◌, ◌+◌, ℕ, zero, suc, Bool, true, false, not, nat_lt, List, [], ◌∷◌}
use Rattle.std.proofs.Common.{Some, length, slice_get, slice_set, inl, inr, refl, ap, sym, ◌∙◌, arith}
use Rattle.std.proofs.lemmas.Bool.{cases_eq}
use Rattle.std.proofs.lemmas.Bool.Decides.{nat_tests}
use Rattle.adlb_unit.specs.declared.configs.Config.{Config}
use Rattle.rank_mail.specs.declared.posted.Posted.{Posted}
use Rattle.server_law.specs.State.{ServerModel, is_finished}
use Rattle.thread_actors.specs.World.{rank_named}
use Rattle.thread_actors.specs.ServerJobs.{ends_rank, waits_for}
use Rattle.thread_actors.specs.inside.Serving.{IsRoll}

-- Ranks that are over, from the first of the last ones on.

pub one_past : (k low n : ℕ) (b : Bool) → low ≤ n
    → ((b || (not (nat_lt k low) && nat_lt k n)) || (n == k)) ≡ (b || (not (nat_lt k low) && nat_lt k (n + 1)))
one_past k low n true within = refl
one_past k low n false within = grind (arith, nat_tests)

pub all_past : (k low n : ℕ) (b : Bool) → k < n → (b || (not (nat_lt k low) && nat_lt k n)) ≡ (b || not (nat_lt k low))
all_past k low n b below = grind (arith, nat_tests)

-- A list in which one place is set.

there_is_set : (xs : List Bool) (n : ℕ) (v : Bool) → n < length xs → slice_get (slice_set xs n v) n ≡ Some v
there_is_set [] n v low = absurd (omega arith)
there_is_set (x ∷ xs) zero v low = refl
there_is_set (x ∷ xs) (suc n) v low = there_is_set xs n v (omega arith)

else_is_same : (xs : List Bool) (n k : ℕ) (v : Bool) → n ≢ k → slice_get (slice_set xs n v) k ≡ slice_get xs k
else_is_same [] n k v other = refl
else_is_same (x ∷ xs) zero zero v other = absurd (other refl)
else_is_same (x ∷ xs) zero (suc k) v other = refl
else_is_same (x ∷ xs) (suc n) zero v other = refl
else_is_same (x ∷ xs) (suc n) (suc k) v other = else_is_same xs n k v (λ same. other (ap suc same))

or_no : (b : Bool) → b ≡ (b || false)
or_no true = refl
or_no false = refl

-- the next one is set as it should be
pub set_next : (f : ℕ → Bool) (xs : List Bool) (n : ℕ) (v : Bool) → n < length xs → v ≡ f n
    → ((k : ℕ) → k < n → slice_get xs k ≡ Some (f k)) → (k : ℕ) → k < n + 1 → slice_get (slice_set xs n v) k ≡ Some (f k)
set_next f xs n v low is was k within = by_place (cases_eq n k)
  where
    by_place : (n ≡ k) ⊎ (n ≡ k → ⊥) → slice_get (slice_set xs n v) k ≡ Some (f k)
    by_place (inl same) =
        ap (λ j. slice_get (slice_set xs n v) j) (sym same) ∙ there_is_set xs n v low ∙ ap Some (is ∙ ap f same)
    by_place (inr other) = else_is_same xs n k v other ∙ was k (omega (arith, within, other))

-- Whether a rank waits, by the tests in their order.

pub it_waits : (v waits asks : Bool) (n k : ℕ) → v ≡ waits → waits ≡ true → v ≡ (waits || ((n == k) && asks))
it_waits v waits asks n k is here = is ∙ here ∙ ap (λ b. b || ((n == k) && asks)) (sym here)

pub it_asks : (v waits asks : Bool) (n k : ℕ) → v ≡ asks → waits ≡ false → n ≡ k → v ≡ (waits || ((n == k) && asks))
it_asks v waits asks n k is not_here same =
    let its : (n == k) ≡ true = grind (arith, nat_tests) in is ∙ (λ i. sym not_here i || (sym its i && asks))

pub it_does_not : (v waits asks : Bool) (n k : ℕ) → v ≡ (n == k) → waits ≡ false → n ≢ k → v ≡ (waits || ((n == k) && asks))
it_does_not v waits asks n k is not_here other =
    let no : (n == k) ≡ false = grind (arith, nat_tests) in is ∙ no ∙ (λ i. sym not_here i || (sym no i && asks))

-- The roll of a server, with the letter that may break it.
pub roll_is : (config : Config) (s : ServerModel) (x : Posted) (waits before over : List Bool) (n : ℕ) → config.ranks ≤ n
    → ((k : ℕ) → k < n → slice_get waits k ≡ Some (waits_for s x (rank_named k)))
    → ((k : ℕ) → k < n → slice_get before k ≡ Some (is_finished s.kept (rank_named k)))
    → ((k : ℕ) (b : Bool) → k < config.ranks → slice_get before k ≡ Some b
    → slice_get over k ≡ Some (b || ends_rank config x.from x.letter.message k))
    → IsRoll config s x waits over
roll_is config s x waits before over n done waiting finished noted = record {
  waits_are = λ k low. waiting k (omega (arith, low, done));
  over_are = λ k low.
      noted k _ low (finished k (omega (arith, low, done)))
      ∙ ap (λ b. Some (is_finished s.kept (rank_named k) || b)) (or_no (ends_rank config x.from x.letter.message k));
}
