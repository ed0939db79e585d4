-- Where a letter between servers about a rank is under way, the rank waits at its home with that server unanswered.
use Rattle.std.proofs.Common.{◌≡◌, ◌≢◌, ◌<◌, ◌⊎◌, inl, inr, ℕ, suc, ◌==◌, Bool, true, false, ◌&&◌, List, [], ◌∷◌, length, Option, None}
use Rattle.std.proofs.Common.{Some, refl, ap, ◌∙◌, arith}
use Rattle.std.specs.Prelude.{Any}
use Rattle.std.proofs.lemmas.Bool.{and_parts, cases_eq, eqb-true, false_from_ne_true}
use Rattle.adlb_unit.specs.Links.{is_within, place_of}
use Rattle.adlb_unit.specs.declared.actors.Actor.{Actor}
use Rattle.adlb_unit.specs.declared.letters.Letter.{Letter}
use Rattle.adlb_unit.specs.declared.names.Rank.{Rank}
use Rattle.adlb_unit.specs.declared.names.Server.{Server}
use Rattle.server_components.specs.declared.waits.Waiting.{Waiting}
use Rattle.server_law.specs.Expected.{IsUnanswered}
use Rattle.server_law.specs.State.{start as new_pool}
use Rattle.core_run.specs.World.{World, link, pool_of, rank_named, server_named}
use Rattle.core_law.specs.Letters.{about, if_asked, one, remotes, remotes_letter, remotes_waits}
use Rattle.core_law.specs.Measures.{due, server_weight, weigh, weights}
use Rattle.core_law.specs.Well.{IsWell}
use Rattle.core_law.proofs.Fifo.{front_held}
use Rattle.core_law.proofs.OwedByRanks.{no_sum}
use Rattle.core_law.proofs.Sums.{one_adds}

-- Sums.

-- of a sum that is not 0 one element weighs something
some_weighs : {X : Type 0} (f : X → ℕ) (xs : List X) → 0 < weigh f xs → Any (λ x. 0 < f x) xs
some_weighs f [] some = absurd (omega arith)
some_weighs f (x ∷ xs) some = by_weight (cases_eq (f x) 0) (some_weighs f xs)
  where
    by_weight : (f x ≡ 0) ⊎ (f x ≢ 0) → (0 < weigh f xs → Any (λ y. 0 < f y) xs) → Any (λ y. 0 < f y) (x ∷ xs)
    by_weight (inl none) later = let i = later (omega arith) in (suc i.0, i.1, omega (arith, i.2), i.3, i.4)
    by_weight (inr some_here) later = (0, x, omega arith, refl, omega arith)

-- a test that counts something passes
pub one_is : (t : Bool) → 0 < one t → t ≡ true
one_is true some = refl
one_is false some = absurd (omega arith)

-- A remote letter comes to the rank's home.

never : (a b : Bool) → one (a && (false && b)) ≡ 0
never true b = refl
never false b = refl

elsewhere : (home asked : Server) (rank : Rank) (request place : ℕ) (e : Waiting) → place ≢ home.0
    → remotes_waits home asked rank request place e ≡ 0
elsewhere home asked rank request place e differs = by_asked e.asked
  where
    by_asked : (o : Option Server) → if_asked o (λ to. about home asked rank request place to.0 e.wish.rank e.wish.request) ≡ 0
    by_asked None = refl
    by_asked (Some to) =
        let no_home = false_from_ne_true (place == home.0) (λ same. differs (eqb-true place home.0 same)) in
        rw no_home (never ((e.wish.rank.0 == rank.0) && (e.wish.request == request)) (to.0 == asked.0))

all_elsewhere : (home asked : Server) (rank : Rank) (request place : ℕ) (es : List Waiting) → place ≢ home.0
    → weigh (remotes_waits home asked rank request place) es ≡ 0
all_elsewhere home asked rank request place [] differs = refl
all_elsewhere home asked rank request place (e ∷ es) differs =
    let here = elsewhere home asked rank request place e differs in
    let later = all_elsewhere home asked rank request place es differs in
    omega arith

-- the rank waits since this call, with that server unanswered
abbrev IsAsked : Server → Rank → ℕ → Waiting → Type 0
IsAsked asked rank request e = (e.wish.rank ≡ rank) × (e.wish.request ≡ request) × (e.asked ≡ Some asked)

weighs_asked : (home asked : Server) (rank : Rank) (request : ℕ) (e : Waiting) → 0 < remotes_waits home asked rank request home.0 e
    → IsAsked asked rank request e
weighs_asked home asked rank request e some = by_asked e.asked refl some
  where
    by_asked : (o : Option Server) → e.asked ≡ o
        → 0 < if_asked o (λ to. about home asked rank request home.0 to.0 e.wish.rank e.wish.request) → IsAsked asked rank request e
    by_asked None is none = absurd (omega arith)
    by_asked (Some to) is weighs =
        let call = (e.wish.rank.0 == rank.0) && (e.wish.request == request) in
        let ends = (home.0 == home.0) && (to.0 == asked.0) in
        let parts = and_parts call ends (one_is (call && ends) weighs) in
        let who = and_parts (e.wish.rank.0 == rank.0) (e.wish.request == request) parts.0 in
        let at = and_parts (home.0 == home.0) (to.0 == asked.0) parts.1 in (
          ap rank_named (eqb-true e.wish.rank.0 rank.0 who.0),
          eqb-true e.wish.request request who.1,
          is ∙ ap (λ n. Some (server_named n)) (eqb-true to.0 asked.0 at.1),
        )

-- a letter of weight 1 at the front of a link: the home has the rank with that server unanswered
pub remote_awaits : (w : World) (home asked : Server) (rank : Rank) (request : ℕ) (from to : Actor) (l : Letter) (rest : List Letter)
    → IsWell w → home.0 < w.config.servers → is_within w.config from ≡ true → is_within w.config to ≡ true
    → link w.links (place_of w.config from) (place_of w.config to) ≡ l ∷ rest → remotes_letter home asked rank request from to l.message ≡ 1
    → IsUnanswered (pool_of w home) asked rank request
unfolding due
remote_awaits w home asked rank request from to l rest well there f t front weighs =
    let m = weights (remotes home asked rank request) in
    let held = front_held m w from to l rest well.shape f t front in
    let even = (well.remote home asked rank request).same in
    let none = no_sum w.ranks in
    let inside : home.0 < length w.servers = let e = (well.shape).servers in omega arith in
    let only = one_adds (server_weight m.server_due) w.servers home.0 (new_pool w.config home) inside
    (λ i s differs. all_elsewhere home asked rank request i s.kept.parked.waiting differs) in
    let some : 0 < weigh (remotes_waits home asked rank request home.0) (pool_of w home).kept.parked.waiting = omega arith in
    let e = some_weighs (remotes_waits home asked rank request home.0) (pool_of w home).kept.parked.waiting some in
    (e.0, e.1, e.2, e.3, weighs_asked home asked rank request e.1 e.4)
