-- Sums over all links: where each letter weighs nothing, and after an act.
use Rattle.std.proofs.Common.{◌≡◌, ◌≤◌, ◌<◌, ◌⊎◌, inl, inr, ℕ, zero, suc, ◌+◌, ◌-◌, true, List, [], ◌∷◌, length, get_or, refl, subst, arith}
use Rattle.std.proofs.lemmas.Bool.{cases_lt, lt-ltb, le-ltb}
use Rattle.adlb_unit.specs.Links.{is_within, place_of}
use Rattle.adlb_unit.specs.declared.actors.Actor.{Actor}
use Rattle.adlb_unit.specs.declared.actors.Actor.TheVariants as by
use Rattle.adlb_unit.specs.declared.configs.Config.{Config}
use Rattle.adlb_unit.specs.declared.letters.Letter.{Letter}
use Rattle.adlb_unit.specs.declared.names.Server.{Server}
use Rattle.server_law.specs.Acts.{Act, does, says, takes}
use Rattle.server_law.specs.Carried.{sends}
use Rattle.core_run.specs.World.{Links, World, actors, link, pool_of, row}
use Rattle.core_law.specs.Acting.{IsAct, IsOwn, acted, taken_off}
use Rattle.core_law.specs.Measures.{Weights, actor, heard_weight, link_weight, links_weight, row_weight, said_weight, sends_weight, weigh}
use Rattle.core_law.specs.Measures.{weigh_at}
use Rattle.core_law.specs.OnLinks.{Each, OnLinks}
use Rattle.core_law.specs.Well.{IsShaped, IsSquare}
use Rattle.core_law.proofs.Acts.{sent_weight, sent_within, taken_square, taken_weight}
use Rattle.core_law.proofs.Sums.{place_actor, place_below, post_weight}

-- Places.

-- the actor of each place is one of the run, and has that place
actor_within : (config : Config) (i : ℕ) → i < actors config → is_within config (actor config i) ≡ true
actor_within config i inside = by_order (cases_lt i config.ranks)
  where
    by_order : (i < config.ranks) ⊎ (config.ranks ≤ i) → is_within config (actor config i) ≡ true
    by_order (inl low) = let is = lt-ltb i config.ranks low in rw (is, is) refl
    by_order (inr high) =
        let is = le-ltb i config.ranks high in
        let below = lt-ltb (i - config.ranks) config.servers (omega arith) in
        rw (is, below) refl

actor_place : (config : Config) (i : ℕ) → place_of config (actor config i) ≡ i
actor_place config i = by_order (cases_lt i config.ranks)
  where
    by_order : (i < config.ranks) ⊎ (config.ranks ≤ i) → place_of config (actor config i) ≡ i
    by_order (inl low) = let is = lt-ltb i config.ranks low in rw is refl
    by_order (inr high) =
        let is = le-ltb i config.ranks high in
        let back : config.ranks + (i - config.ranks) ≡ i = omega arith in
        rw is back

-- Where each letter weighs nothing, so do all.

-- where each element weighs 0 by its place, a list does
pub all_zero : {X : Type 0} (f : ℕ → X → ℕ) (xs : List X) (d : X) → ((i : ℕ) → i < length xs → f i (get_or xs i d) ≡ 0)
    → weigh_at f xs ≡ 0
all_zero f [] d none = refl
all_zero f (x ∷ xs) d none =
    let here = none zero (omega arith) in
    let later = all_zero (λ i. f (suc i)) xs d (λ i inside. none (suc i) (omega arith)) in
    omega arith

each_weighs_none : (f : Letter → ℕ) (ls : List Letter) → Each (λ l. f l ≡ 0) ls → weigh f ls ≡ 0
each_weighs_none f [] none = refl
each_weighs_none f (l ∷ ls) none = let here = none.0 in let later = each_weighs_none f ls none.1 in omega arith

-- what holds of the letters between the actors of two places
between_places : (P : Actor → Actor → Letter → Type 0) (config : Config) (links : Links) (i k : ℕ) → i < actors config → k < actors config
    → OnLinks P config links → Each (P (actor config i) (actor config k)) (link links i k)
between_places P config links i k li lk on =
    let from = actor config i in
    let to = actor config k in
    let At : ℕ → ℕ → Type 0 = λ a b. Each (P from to) (link links a b) in
    let each = on.each from to (actor_within config i li) (actor_within config k lk) in
    subst (λ (b : ℕ). At i b) (actor_place config k) (subst (λ (a : ℕ). At a (place_of config to)) (actor_place config i) each)

-- if each letter weighs 0, all links do
pub zero_from : (m : Weights) (config : Config) (links : Links) → IsSquare (actors config) links
    → OnLinks (λ from to (l : Letter). m.letter from to l.message ≡ 0) config links → links_weight config m links ≡ 0
zero_from m config links sq on =
    all_zero (row_weight config m) links []
    (λ i inside. all_zero (link_weight config m i) (row links i) []
    (λ k within. at i k (let e = sq.rows in omega arith) (let e = sq.rows in let w = sq.each i (omega arith) in omega arith)))
  where
    at : (i k : ℕ) → i < actors config → k < actors config → link_weight config m i k (link links i k) ≡ 0
    at i k li lk =
        each_weighs_none (λ l. m.letter (actor config i) (actor config k) l.message) (link links i k)
        (between_places (λ from to (l : Letter). m.letter from to l.message ≡ 0) config links i k li lk on)

-- An act.

-- what is under way after it, and what it took, weighs as much as what was under way, and what it says
pub links_next : (m : Weights) (w : World) (me : Server) (a : Act) → IsShaped w → IsAct w me a → IsOwn w me a
    → links_weight w.config m (acted w me a).links + heard_weight m.letter me (takes a)
    ≡ links_weight w.config m w.links + said_weight m.letter me (says a (pool_of w me))
links_next m w me a shape is own =
    let s = pool_of w me in
    let place = place_of w.config (by.Server me) in
    let within : is_within w.config (by.Server me) ≡ true = lt-ltb me.0 w.config.servers is.here in
    let links = taken_off w.config me w.links (takes a) in
    let square = taken_square w.config me w.links (takes a) is.here is.front shape.square in
    let took = taken_weight w.config m me w.links (takes a) is.here is.front shape.square in
    let sent = post_weight w.config m links place (sends a s) (place_below w.config (by.Server me) within)
    (sent_within w.config (does a s) (says a s) own.said) square in
    let who : sends_weight m (actor w.config place) (sends a s) ≡ sends_weight m (by.Server me) (sends a s) =
    rw (place_actor w.config (by.Server me) within) refl in
    let said = sent_weight m me (does a s) (says a s) in
    omega arith
