-- What a map does by ids.
use Rattle.std.proofs.Common.{◌≡◌, ◌==◌, ◌&&◌, ℕ, Bool, true, false, cond, Option, Some, None, refl, arith}
use Rattle.std.specs.BTreeMap.{is_at}
use Rattle.std.specs.Prelude.{is_some, if◌then◌else◌}
use Rattle.std.specs.Option.{option_or}
use Rattle.std.proofs.lemmas.Bool.Decides.{nat_tests}
use Rattle.std.proofs.lemmas.Bool.{and_parts, eqb-true}
use Rattle.bag_tables.specs.declared.places.Places.{Places}
use Rattle.bag_tables.specs.Places.{by_id, place_at}

-- two ids are one in the map's order where their parts are the same
pub at_id : (a b r n : ℕ) → is_at (by_id (a, b)) (r, n) ≡ ((a == r) && (b == n))
at_id a b r n = grind (arith, nat_tests)

-- an id that is there keeps its place
pub stays_noted : (place : ℕ) (here : Bool) (at query : Option ℕ) → is_some at ≡ true → (here ≡ true → query ≡ at)
    → query ≡ option_or query (if here then Some place else None)
stays_noted place here at (Some p) there same = refl
stays_noted place true at None there same = let e = same refl in absurd (cc)
stays_noted place false at None there same = refl

-- one that is not takes this one
pub now_noted : (place : ℕ) (here : Bool) (at query : Option ℕ) → is_some at ≡ false → (here ≡ true → query ≡ at)
    → cond here (Some place) query ≡ option_or query (if here then Some place else None)
now_noted place true at (Some p) absent same = let e = same refl in absurd (cc)
now_noted place true at None absent same = refl
now_noted place false at (Some p) absent same = refl
now_noted place false at None absent same = refl

-- the place of one id is that of the other where their parts are the same
pub same_place : (places : Places) (a b r n : ℕ) → ((a == r) && (b == n)) ≡ true → place_at places r n ≡ place_at places a b
same_place places a b r n is =
    let parts = and_parts (a == r) (b == n) is in
    rw (eqb-true a r parts.0, eqb-true b n parts.1) refl
