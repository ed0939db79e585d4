-- The actors of a run and their places.
use Rattle.std.proofs.Common.{◌≡◌, ◌≤◌, ◌<◌, ◌+◌, ◌-◌, ℕ, zero, suc, true, List, [], ◌∷◌, ◌++◌, length, map, Some, slice_get, refl, sym, ap}
use Rattle.std.proofs.Common.{◌∙◌}
use Rattle.std.proofs.Common.{inl, inr, arith, lt-ltb, length-append}
use Rattle.std.proofs.lemmas.Bool.{cases_lt}
use Rattle.std.specs.List.{range_with_len}
use Rattle.adlb_unit.specs.declared.actors.Actor.{Actor}
use Rattle.adlb_unit.specs.declared.actors.Actor.TheVariants as by
use Rattle.adlb_unit.specs.declared.configs.Config.{Config}
use Rattle.adlb_unit.specs.Links.{is_within, place_of}
use Rattle.core_run.specs.World.{actors, rank_named, server_named}
use Rattle.merge_history.specs.Merging.{actors_of}

get_left : {T : Type 0} (xs ys : List T) (k : ℕ) → k < length xs → slice_get (xs ++ ys) k ≡ slice_get xs k
get_left [] ys k h = absurd (omega (arith, h))
get_left (x ∷ xs) ys zero h = refl
get_left (x ∷ xs) ys (suc k) h = get_left xs ys k (omega (arith, h))

get_right : {T : Type 0} (xs ys : List T) (k j : ℕ) → length xs + j ≡ k → slice_get (xs ++ ys) k ≡ slice_get ys j
get_right [] ys k j h = ap (slice_get ys) (omega (arith, h))
get_right (x ∷ xs) ys zero j h = absurd (omega (arith, h))
get_right (x ∷ xs) ys (suc k) j h = get_right xs ys k j (omega (arith, h))

-- the element at a place of a range under a function
of_range : {T : Type 0} (f : ℕ → T) (from n k : ℕ) (t : T) → slice_get (map f (range_with_len from n)) k ≡ Some t
    → (k < n) × (t ≡ f (from + k))
of_range f from zero k t at = absurd cc
of_range f from (suc n) zero t at = let is : t ≡ f from = cc in (omega arith, is ∙ ap f (omega arith))
of_range f from (suc n) (suc k) t at =
    let r = of_range f (from + 1) n k t at in (omega (arith, r.0), r.1 ∙ ap f (omega arith))

long_range : {T : Type 0} (f : ℕ → T) (from n : ℕ) → length (map f (range_with_len from n)) ≡ n
long_range f from zero = refl
long_range f from (suc n) = ap suc (long_range f (from + 1) n)

abbrev rank_at : ℕ → Actor
rank_at n = by.Rank (rank_named n)

abbrev server_at : ℕ → Actor
server_at n = by.Server (server_named n)

pub actors_long : (config : Config) → length (actors_of config) ≡ actors config
actors_long config =
    let ranks : List Actor = map rank_at (range_with_len 0 config.ranks) in
    let servers : List Actor = map server_at (range_with_len 0 config.servers) in
    length-append ranks servers ∙ (λ i. long_range rank_at 0 config.ranks i + long_range server_at 0 config.servers i)

-- the actor at a place is the one of that place
pub place_is : (config : Config) (k : ℕ) (a : Actor) → slice_get (actors_of config) k ≡ Some a
    → (place_of config a ≡ k) × (is_within config a ≡ true)
place_is config k a at =
    let ranks : List Actor = map rank_at (range_with_len 0 config.ranks) in
    let servers : List Actor = map server_at (range_with_len 0 config.servers) in
    let long : length ranks ≡ config.ranks = long_range rank_at 0 config.ranks in
    elim (cases_lt k (length ranks)) [
      | inl below ↦
          let r = of_range rank_at 0 config.ranks k a (sym (get_left ranks servers k below) ∙ at) in
          let is : a ≡ rank_at k = r.1 ∙ ap rank_at (omega arith) in
          rw is (refl, lt-ltb k config.ranks r.0)
      | inr above ↦
          let j : ℕ = k - config.ranks in
          let there : config.ranks + j ≡ k = omega (arith, long, above) in
          let r = of_range server_at 0 config.servers j a (sym (get_right ranks servers k j (omega (arith, long, there))) ∙ at) in
          let is : a ≡ server_at j = r.1 ∙ ap server_at (omega arith) in
          rw is (there, lt-ltb j config.servers r.0)
    ]

in_range : {T : Type 0} (f : ℕ → T) (from n k : ℕ) → k < n → slice_get (map f (range_with_len from n)) k ≡ Some (f (from + k))
in_range f from zero k h = absurd (omega (arith, h))
in_range f from (suc n) zero h = ap (λ j. Some (f j)) (omega arith)
in_range f from (suc n) (suc k) h = in_range f (from + 1) n k (omega (arith, h)) ∙ ap (λ j. Some (f j)) (omega arith)

-- the actors that are at a place
pub rank_there : (config : Config) (k : ℕ) → k < config.ranks → slice_get (actors_of config) k ≡ Some (rank_at k)
rank_there config k below =
    let ranks : List Actor = map rank_at (range_with_len 0 config.ranks) in
    let servers : List Actor = map server_at (range_with_len 0 config.servers) in
    get_left ranks servers k (omega (arith, below, long_range rank_at 0 config.ranks)) ∙ in_range rank_at 0 config.ranks k below
    ∙ ap (λ j. Some (rank_at j)) (omega arith)

pub server_there : (config : Config) (k : ℕ) → config.ranks ≤ k → k < actors config
    → slice_get (actors_of config) k ≡ Some (server_at (k - config.ranks))
server_there config k above below =
    let ranks : List Actor = map rank_at (range_with_len 0 config.ranks) in
    let servers : List Actor = map server_at (range_with_len 0 config.servers) in
    let j : ℕ = k - config.ranks in
    get_right ranks servers k j (omega (arith, above, long_range rank_at 0 config.ranks))
    ∙ in_range server_at 0 config.servers j (omega (arith, above, below))
    ∙ ap (λ i. Some (server_at i)) (omega arith)
