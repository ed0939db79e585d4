-- Sums of weights of letters: of two, of as many as there are numbers below one, and where each letter on a link weighs less.
use Rattle.adlb_unit.specs.Links.{is_within, place_of}
use Rattle.adlb_unit.specs.declared.actors.Actor.{Actor}
use Rattle.adlb_unit.specs.declared.configs.Config.{Config}
use Rattle.adlb_unit.specs.declared.letters.Letter.{Letter}
use Rattle.adlb_unit.specs.declared.messages.Message.{Message}
use Rattle.core_law.proofs.OnLinks.{zero_from}
use Rattle.core_law.proofs.Sums.{links_le, none_adds, one_adds, place_actor, place_below}
use Rattle.core_law.proofs.UnderWay.{weaker}
use Rattle.core_law.specs.Measures.{actor, link_weight, links_weight, row_weight, weigh, weigh_at}
use Rattle.core_law.specs.OnLinks.{OnLinks}
use Rattle.core_law.specs.Pushed.{letters_of}
use Rattle.core_law.specs.Well.{IsSquare}
use Rattle.core_progress_law.specs.Room.{sum_to}
use Rattle.core_run.specs.World.{Links, actors, link, row}
use Rattle.std.proofs.Common.{List, [], ap, arith, inl, inr, refl, suc, sym, true, zero, ℕ, ◌+◌, ◌-◌, ◌<◌, ◌∙◌, ◌∷◌, ◌≡◌, ◌≢◌, ◌≤◌, ◌⊎◌}
use Rattle.std.proofs.lemmas.Bool.{cases_eq, cases_lt, le-ltb, lt-ltb}

-- the weight of a letter by sender, receiver and message
abbrev pub Weighing : Type 0
Weighing = Actor → Actor → Message → ℕ

-- Two.

-- what two weights weigh together
abbrev pub both_weigh : Weighing → Weighing → Weighing
both_weigh f g from to m = f from to m + g from to m

weigh_both : {X : Type 0} (f g : X → ℕ) (xs : List X) → weigh (λ x. f x + g x) xs ≡ weigh f xs + weigh g xs
weigh_both f g [] = refl
weigh_both f g (x ∷ xs) = let later = weigh_both f g xs in omega arith

weigh_at_both : {X : Type 0} (f g h : ℕ → X → ℕ) → ((i : ℕ) (x : X) → h i x ≡ f i x + g i x) → (xs : List X)
    → weigh_at h xs ≡ weigh_at f xs + weigh_at g xs
weigh_at_both f g h sum [] = refl
weigh_at_both f g h sum (x ∷ xs) =
    let here = sum zero x in
    let later = weigh_at_both (λ i. f (suc i)) (λ i. g (suc i)) (λ i. h (suc i)) (λ i. sum (suc i)) xs in
    omega arith

-- two weights together
pub links_both : (config : Config) (f g : Weighing) (links : Links)
    → links_weight config (letters_of (both_weigh f g)) links ≡ links_weight config (letters_of f) links + links_weight config
    (letters_of g) links
links_both config f g links =
    weigh_at_both (row_weight config (letters_of f)) (row_weight config (letters_of g)) (row_weight config (letters_of (both_weigh f g)))
    (λ i row. weigh_at_both (link_weight config (letters_of f) i) (link_weight config (letters_of g) i)
    (link_weight config (letters_of (both_weigh f g)) i)
    (λ k letters. weigh_both (λ (l : Letter). f (actor config i) (actor config k) l.message)
    (λ (l : Letter). g (actor config i) (actor config k) l.message) letters) row) links

-- As many as there are numbers below one.

-- what as many weights weigh together as there are numbers below one
abbrev pub total : ℕ → (ℕ → Weighing) → Weighing
total zero f from to m = 0
total (suc n) f from to m = f n from to m + total n f from to m

-- one of them weighs at most as all
pub part_of_total : (n i : ℕ) (f : ℕ → Weighing) (from to : Actor) (m : Message) → i < n → f i from to m ≤ total n f from to m
part_of_total zero i f from to m low = absurd (omega arith)
part_of_total (suc n) i f from to m low = by_place (cases_eq i n) (λ l. part_of_total n i f from to m l)
  where
    by_place : (i ≡ n) ⊎ (i ≢ n) → (i < n → f i from to m ≤ total n f from to m) → f i from to m ≤ f n from to m + total n f from to m
    by_place (inl e) later = let it = ap (λ (k : ℕ). f k from to m) e in omega arith
    by_place (inr differs) later = let more = later (omega (arith, low, differs)) in omega arith

weigh_none : (f : Letter → ℕ) (ls : List Letter) → ((l : Letter) → f l ≡ 0) → weigh f ls ≡ 0
weigh_none f [] none = refl
weigh_none f (l ∷ ls) none = let here = none l in let later = weigh_none f ls none in omega arith

-- where no letter weighs, nothing does
pub links_none : (config : Config) (f : Weighing) (links : Links) → ((from to : Actor) (m : Message) → f from to m ≡ 0)
    → links_weight config (letters_of f) links ≡ 0
links_none config f links none =
    none_adds (row_weight config (letters_of f)) links
    (λ i row. none_adds (link_weight config (letters_of f) i) row
    (λ k letters. weigh_none (λ (l : Letter). f (actor config i) (actor config k) l.message) letters
    (λ l. none (actor config i) (actor config k) l.message)))

-- where each of them has a bound
pub links_total : (config : Config) (n : ℕ) (f : ℕ → Weighing) (most : ℕ → ℕ) (links : Links)
    → ((i : ℕ) → i < n → links_weight config (letters_of (f i)) links ≤ most i)
    → links_weight config (letters_of (total n f)) links ≤ sum_to n most
links_total config zero f most links few = let none = links_none config (total zero f) links (λ from to m. refl) in omega arith
links_total config (suc n) f most links few =
    let sum = links_both config (f n) (total n f) links in
    let here = few n (omega arith) in
    let later = links_total config n f most links (λ i low. few i (omega arith)) in
    omega arith

-- as many ones
pub ones : (n : ℕ) → sum_to n (λ i. 1) ≡ n
ones zero = refl
ones (suc n) = let later = ones n in omega arith

-- where one link alone weighs

actor_place : (config : Config) (i : ℕ) → place_of config (actor config i) ≡ i
actor_place config i = by_order (cases_lt i config.ranks)
  where
    by_order : (i < config.ranks) ⊎ (config.ranks ≤ i) → place_of config (actor config i) ≡ i
    by_order (inl low) = let is = lt-ltb i config.ranks low in rw is refl
    by_order (inr high) =
        let is = le-ltb i config.ranks high in
        let back : config.ranks + (i - config.ranks) ≡ i = omega arith in
        rw is back

-- its weight is that of all
pub link_alone : (config : Config) (f : Weighing) (a b : Actor) (links : Links) → IsSquare (actors config) links → is_within config a ≡ true
    → is_within config b ≡ true → ((from to : Actor) (m : Message) → (from ≢ a) ⊎ (to ≢ b) → f from to m ≡ 0)
    → links_weight config (letters_of f) links
    ≡ weigh (λ (l : Letter). f a b l.message) (link links (place_of config a) (place_of config b))
link_alone config f a b links sq within_a within_b none =
    one_adds (row_weight config (letters_of f)) links (place_of config a) []
    (let e = sq.rows in let l = place_below config a within_a in omega arith)
    (λ i row differs. none_adds (link_weight config (letters_of f) i) row
    (λ k letters. weigh_none (λ (l : Letter). f (actor config i) (actor config k) l.message) letters
    (λ l. none (actor config i) (actor config k) l.message (inl (λ e. differs (sym (actor_place config i) ∙ ap (place_of config) e))))))
    ∙ one_adds (link_weight config (letters_of f) (place_of config a)) (row links (place_of config a)) (place_of config b) []
    (let e = sq.each (place_of config a) (place_below config a within_a) in let l = place_below config b within_b in omega arith)
    (λ k letters differs. weigh_none (λ (l : Letter). f (actor config (place_of config a)) (actor config k) l.message) letters
    (λ l. none (actor config (place_of config a)) (actor config k) l.message
    (inr (λ e. differs (sym (actor_place config k) ∙ ap (place_of config) e)))))
    ∙ ap (λ (c : Actor). weigh (λ (l : Letter). f c (actor config (place_of config b)) l.message)
    (link links (place_of config a) (place_of config b)))
    (place_actor config a within_a)
    ∙ ap (λ (c : Actor). weigh (λ (l : Letter). f a c l.message) (link links (place_of config a) (place_of config b)))
    (place_actor config b within_b)

-- Where each letter weighs less.

abbrev Excess : Weighing → Weighing → Weighing
Excess f g from to m = f from to m - g from to m

-- so they weigh less together
pub links_below : (config : Config) (f g : Weighing) (links : Links) → IsSquare (actors config) links
    → OnLinks (λ from to (l : Letter). f from to l.message ≤ g from to l.message) config links
    → links_weight config (letters_of f) links ≤ links_weight config (letters_of g) links
links_below config f g links sq on =
    let none = zero_from (letters_of (Excess f g)) config links sq
    (weaker (λ from to (l : Letter). f from to l.message ≤ g from to l.message)
    (λ from to (l : Letter). f from to l.message - g from to l.message ≡ 0) config links (λ from to l less. omega (arith, less)) on) in
    let sum = links_both config g (Excess f g) links in
    let all = links_le config (letters_of f) (letters_of (both_weigh g (Excess f g))) links (λ from to m. omega arith) in
    omega arith
