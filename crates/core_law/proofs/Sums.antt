-- Sums over lists and over all links, where one element is set or some letters are sent.
use Rattle.std.proofs.Common.{◌≡◌, ◌≢◌, ◌≤◌, ◌<◌, ℕ, zero, suc, ◌+◌, ◌-◌, true, false, List, [], ◌∷◌, ◌++◌, length, map, set, get_or, ap}
use Rattle.std.proofs.Common.{◌∙◌, arith, refl, inl, inr, ltb}
use Rattle.std.proofs.lemmas.List.{length-set, get_or-set_same, get_or-set_other}
use Rattle.std.proofs.lemmas.Bool.Decides.{nat_tests}
use Rattle.std.proofs.lemmas.Bool.{ltb-true, cases_eq}
use Rattle.adlb_unit.specs.Links.{is_within, place_of}
use Rattle.adlb_unit.specs.declared.actors.Actor.{Actor}
use Rattle.adlb_unit.specs.declared.actors.Actor.TheVariants as by
use Rattle.adlb_unit.specs.declared.configs.Config.{Config}
use Rattle.adlb_unit.specs.declared.letters.Letter.{Letter}
use Rattle.adlb_unit.specs.declared.letters.Sending.{Sending}
use Rattle.adlb_unit.specs.declared.messages.Message.{Message}
use Rattle.adlb_unit.specs.declared.names.Server.{Server}
use Rattle.adlb_unit.specs.Ring.{others}
use Rattle.server_law.specs.Acts.{to_others, to_server}
use Rattle.server_law.specs.State.{ServerModel}
use Rattle.core_run.specs.World.{Links, actors, link, post, put_link, row}
use Rattle.core_law.specs.Measures.{Weights, actor, link_weight, links_weight, row_weight, said_weight, sends_weight, weigh, weigh_at}
use Rattle.core_law.specs.Well.{IsSquare}

-- two lists joined weigh what both do
pub weigh-append : {X : Type 0} (f : X → ℕ) (xs ys : List X) → weigh f (xs ++ ys) ≡ weigh f xs + weigh f ys
weigh-append f [] ys = omega arith
weigh-append f (x ∷ xs) ys = let h = weigh-append f xs ys in omega arith

-- what is made of each element weighs nothing
pub weigh-map_none : {X Y : Type 0} (f : Y → ℕ) (g : X → Y) (xs : List X) → ((x : X) → f (g x) ≡ 0) → weigh f (map g xs) ≡ 0
weigh-map_none f g [] none = refl
weigh-map_none f g (x ∷ xs) none = let here = none x in let later = weigh-map_none f g xs none in omega arith

-- a message to each other server weighs nothing
pub others_none : (f : Actor → Actor → Message → ℕ) (me : Server) (s : ServerModel) (m : Message)
    → ((to : Server) → f (by.Server me) (by.Server to) m ≡ 0) → said_weight f me (to_others s m) ≡ 0
others_none f me s m none =
    weigh-map_none (λ y. f (by.Server me) y.to y.message) (λ to. to_server to m) (others s.config s.me) none

-- a sum to which one place alone adds
pub none_adds : {X : Type 0} (f : ℕ → X → ℕ) (xs : List X) → ((i : ℕ) (x : X) → f i x ≡ 0) → weigh_at f xs ≡ 0
none_adds f [] zeros = refl
none_adds f (x ∷ xs) zeros =
    let here = zeros zero x in let later = none_adds (λ i. f (suc i)) xs (λ i. zeros (suc i)) in omega arith

-- where only one element weighs anything, a list weighs as it does
pub one_adds : {X : Type 0} (f : ℕ → X → ℕ) (xs : List X) (n : ℕ) (d : X) → n < length xs → ((i : ℕ) (x : X) → i ≢ n → f i x ≡ 0)
    → weigh_at f xs ≡ f n (get_or xs n d)
one_adds f [] n d inside others = absurd (omega arith)
one_adds f (x ∷ xs) zero d inside others =
    let later = none_adds (λ i. f (suc i)) xs (λ i y. others (suc i) y (λ e. absurd (omega arith))) in omega arith
one_adds f (x ∷ xs) (suc n) d inside others =
    let here = others zero x (λ e. absurd (omega arith)) in
    let later = one_adds (λ i. f (suc i)) xs n d (omega arith) (λ i y differs. others (suc i) y (λ e. differs (omega arith))) in
    omega arith

-- what weighs less one by one weighs less in all
weigh_le : {X : Type 0} (f g : X → ℕ) → ((x : X) → f x ≤ g x) → (xs : List X) → weigh f xs ≤ weigh g xs
weigh_le f g less [] = omega arith
weigh_le f g less (x ∷ xs) = let here = less x in let later = weigh_le f g less xs in omega arith

weigh_at_le : {X : Type 0} (f g : ℕ → X → ℕ) → ((i : ℕ) (x : X) → f i x ≤ g i x) → (xs : List X) → weigh_at f xs ≤ weigh_at g xs
weigh_at_le f g less [] = omega arith
weigh_at_le f g less (x ∷ xs) =
    let here = less zero x in let later = weigh_at_le (λ i. f (suc i)) (λ i. g (suc i)) (λ i. less (suc i)) xs in omega arith

-- where each letter weighs less, all links do
pub links_le : (config : Config) (m n : Weights) (links : Links)
    → ((from to : Actor) (x : Message) → m.letter from to x ≤ n.letter from to x)
    → links_weight config m links ≤ links_weight config n links
links_le config m n links less =
    weigh_at_le (row_weight config m) (row_weight config n)
    (λ i row. weigh_at_le (link_weight config m i) (link_weight config n i)
    (λ k letters. weigh_le (λ (l : Letter). m.letter (actor config i) (actor config k) l.message)
    (λ (l : Letter). n.letter (actor config i) (actor config k) l.message)
    (λ l. less (actor config i) (actor config k) l.message) letters) row) links

-- one element is set
pub weigh_at-set : {X : Type 0} (f : ℕ → X → ℕ) (xs : List X) (i : ℕ) (y d : X) → i < length xs
    → weigh_at f (set xs i y) + f i (get_or xs i d) ≡ weigh_at f xs + f i y
weigh_at-set f [] i y d l = absurd (omega arith)
weigh_at-set f (x ∷ xs) zero y d l = omega arith
weigh_at-set f (x ∷ xs) (suc i) y d l = let h = weigh_at-set (λ k. f (suc k)) xs i y d (omega arith) in omega arith

-- the actor at an actor's place is that actor
pub place_actor : (config : Config) (a : Actor) → is_within config a ≡ true → actor config (place_of config a) ≡ a
place_actor config (by.Rank r) h = rw h
place_actor config (by.Server s) h =
    let no : ltb (config.ranks + s.0) config.ranks ≡ false = grind (arith, nat_tests) in
    let same : config.ranks + s.0 - config.ranks ≡ s.0 = omega arith in
    rw (no, same)

-- the place of an actor of the run is one of the world
pub place_below : (config : Config) (a : Actor) → is_within config a ≡ true → place_of config a < actors config
place_below config (by.Rank r) h = let l = ltb-true r.0 config.ranks h in omega arith
place_below config (by.Server s) h = let l = ltb-true s.0 config.servers h in omega arith

-- links stay square where one is set
pub square_put : (n : ℕ) (links : Links) (a b : ℕ) (x : List Letter) → a < n → b < n → IsSquare n links → IsSquare n (put_link links a b x)
square_put n links a b x la lb sq =
    record {
      rows = length-set links a (set (row links a) b x) ∙ sq.rows;
      each = λ k l. elim (cases_eq k a) [
        | inl same ↦
            let in' : a < length links = let e = sq.rows in omega arith in
            rw (same, get_or-set_same links a (set (row links a) b x) [] in', length-set (row links a) b x) (sq.each a la)
        | inr differs ↦ rw (get_or-set_other links a k (set (row links a) b x) [] differs) (sq.each k l)
      ];
    }

-- one link is set
put_weight : (config : Config) (m : Weights) (n : ℕ) (links : Links) (a b : ℕ) (x : List Letter) → a < n → b < n → IsSquare n links
    → links_weight config m (put_link links a b x) + link_weight config m a b (link links a b)
    ≡ links_weight config m links + link_weight config m a b x
put_weight config m n links a b x la lb sq =
    let rows = sq.rows in
    let wide = sq.each a la in
    let outer = weigh_at-set (row_weight config m) links a (set (row links a) b x) [] (omega arith) in
    let inner = weigh_at-set (link_weight config m a) (row links a) b x [] (omega arith) in
    omega arith

-- the actors to which letters go are of the configuration
abbrev pub AreWithin : Config → List Sending → Type 0
AreWithin config [] = Unit {0}
AreWithin config (x ∷ sends) = (is_within config x.to ≡ true) × AreWithin config sends

-- links stay square where letters go off
pub square_post : (config : Config) (links : Links) (a : ℕ) (sends : List Sending) → a < actors config → AreWithin config sends
    → IsSquare (actors config) links → IsSquare (actors config) (post config links a sends)
unfolding post
square_post config links a [] l are sq = sq
square_post config links a (x ∷ sends) l are sq =
    square_post config (put_link links a (place_of config x.to) (link links a (place_of config x.to) ++ x.letter ∷ [])) a sends l are.1
    (square_put (actors config) links a (place_of config x.to) (link links a (place_of config x.to) ++ x.letter ∷ []) l
    (place_below config x.to are.0) sq)

-- letters that are sent add their weights
pub post_weight : (config : Config) (m : Weights) (links : Links) (a : ℕ) (sends : List Sending) → a < actors config
    → AreWithin config sends → IsSquare (actors config) links
    → links_weight config m (post config links a sends) ≡ links_weight config m links + sends_weight m (actor config a) sends
unfolding post
post_weight config m links a [] l are sq = omega arith
post_weight config m links a (s ∷ sends) l are sq =
    let b = place_of config s.to in
    let x = link links a b ++ s.letter ∷ [] in
    let in' = place_below config s.to are.0 in
    let rest = post_weight config m (put_link links a b x) a sends l are.1 (square_put (actors config) links a b x l in' sq) in
    let one = put_weight config m (actors config) links a b x l in' sq in
    let f : Letter → ℕ = λ k. m.letter (actor config a) (actor config b) k.message in
    let more = weigh-append f (link links a b) (s.letter ∷ []) in
    let who = place_actor config s.to are.0 in
    let same : m.letter (actor config a) (actor config b) s.letter.message ≡ m.letter (actor config a) s.to s.letter.message = rw who in
    omega arith

-- the front letter of a link goes off
pub front_goes : (config : Config) (m : Weights) (links : Links) (from to : Actor) (l : Letter) (rest : List Letter)
    → IsSquare (actors config) links → is_within config from ≡ true → is_within config to ≡ true
    → link links (place_of config from) (place_of config to) ≡ l ∷ rest
    → links_weight config m (put_link links (place_of config from) (place_of config to) rest) + m.letter from to l.message
    ≡ links_weight config m links
front_goes config m links from to l rest sq f t front =
    let a = place_of config from in
    let b = place_of config to in
    let took = put_weight config m (actors config) links a b rest (place_below config from f) (place_below config to t) sq in
    let one : m.letter (actor config a) (actor config b) l.message ≡ m.letter from to l.message = rw
    (place_actor config from f, place_actor config to t) in
    let gone : link_weight config m a b (link links a b) ≡ m.letter (actor config a) (actor config b) l.message + link_weight config m a b
    rest =
    ap (link_weight config m a b) front in
    omega arith
