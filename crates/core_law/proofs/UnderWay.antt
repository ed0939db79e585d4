-- What holds of each link, or of each letter that is under way, where letters go off and come.
use Rattle.std.proofs.Common.{◌≡◌, ◌≢◌, ◌⊎◌, inl, inr, ℕ, Bool, true, false, cond, List, [], ◌∷◌, ◌++◌, refl, sym, ap, ◌∙◌, subst, arith}
use Rattle.std.proofs.Common.{eqb}
use Rattle.std.proofs.lemmas.Bool.{cases_eq, eqb-true}
use Rattle.adlb_unit.specs.Links.{is_within, place_of}
use Rattle.adlb_unit.specs.declared.actors.Actor.{Actor}
use Rattle.adlb_unit.specs.declared.configs.Config.{Config}
use Rattle.adlb_unit.specs.declared.letters.Letter.{Letter}
use Rattle.adlb_unit.specs.declared.letters.Sending.{Sending}
use Rattle.core_run.specs.World.{Links, actors, link, post, put_link}
use Rattle.core_law.specs.OnLinks.{Each, OnLinks}
use Rattle.core_law.specs.Measures.{Weights, actor, link_weight, links_weight, weigh}
use Rattle.core_law.specs.Well.{IsSquare}
use Rattle.core_law.proofs.Sums.{AreWithin, place_actor, place_below}
use Rattle.core_law.proofs.Fifo.{letters_for, link_le, post_other, post_same, put_beside, put_elsewhere, put_there}

-- Of each element of a list.

-- what holds of each element of two lists holds of them joined
pub each_append : {X : Type 0} (P : X → Type 0) (xs ys : List X) → Each P xs → Each P ys → Each P (xs ++ ys)
each_append P [] ys a b = b
each_append P (x ∷ xs) ys a b = (a.0, each_append P xs ys a.1 b)

-- what holds of each element of joined lists holds of both
pub each_parts : {X : Type 0} (P : X → Type 0) (xs ys : List X) → Each P (xs ++ ys) → Each P xs × Each P ys
each_parts P [] ys all = (tt, all)
each_parts P (x ∷ xs) ys all = let later = each_parts P xs ys all.1 in ((all.0, later.0), later.1)

-- what follows of each element
pub each_weaker : {X : Type 0} (P Q : X → Type 0) → ((x : X) → P x → Q x) → (xs : List X) → Each P xs → Each Q xs
each_weaker P Q f [] a = tt
each_weaker P Q f (x ∷ xs) a = (f x a.0, each_weaker P Q f xs a.1)

each_both : {X : Type 0} (P Q : X → Type 0) (xs : List X) → Each P xs → Each Q xs → Each (λ x. P x × Q x) xs
each_both P Q [] a b = tt
each_both P Q (x ∷ xs) a b = ((a.0, b.0), each_both P Q xs a.1 b.1)

-- Of each link, with the actors between which it is.

-- it holds of the letters on each link
abbrev pub AllLinks : (Actor → Actor → List Letter → Type 0) → Config → Links → Type 0
AllLinks P config links =
    (from to : Actor) → is_within config from ≡ true → is_within config to ≡ true
    → P from to (link links (place_of config from) (place_of config to))

-- actors of the run are told apart by their places
pub same_actor : (config : Config) (a b : Actor) → is_within config a ≡ true → is_within config b ≡ true
    → place_of config a ≡ place_of config b → a ≡ b
same_actor config a b la lb same = sym (place_actor config a la) ∙ ap (actor config) same ∙ place_actor config b lb

-- where the front letter of one link goes off
pub taken_links : (P : Actor → Actor → List Letter → Type 0) (config : Config) (links : Links) (from to : Actor) (l : Letter)
    (rest : List Letter)
    → IsSquare (actors config) links → is_within config from ≡ true → is_within config to ≡ true
    → link links (place_of config from) (place_of config to) ≡ l ∷ rest → (P from to (l ∷ rest) → P from to rest) → AllLinks P config links
    → AllLinks P config (put_link links (place_of config from) (place_of config to) rest)
taken_links P config links from to l rest sq f t front goes all a b la lb =
    by_row a b la lb (cases_eq (place_of config a) (place_of config from))
  where
    Now : Actor → Actor → Type 0
    Now c d = P c d (link (put_link links (place_of config from) (place_of config to) rest) (place_of config c) (place_of config d))

    by_column : (b : Actor) → is_within config b ≡ true
        → (place_of config b ≡ place_of config to) ⊎ (place_of config b ≢ place_of config to) → Now from b
    by_column b lb (inl same) =
        let is : to ≡ b = sym (same_actor config b to lb t same) in
        let there = put_there (actors config) links (place_of config from) (place_of config to) rest (place_below config from f)
        (place_below config to t) sq in
        let was : P from to (l ∷ rest) = subst (P from to) front (all from to f t) in
        subst (Now from) is (subst (P from to) (sym there) (goes was))
    by_column b lb (inr differs) =
        let beside = put_beside (actors config) links (place_of config from) (place_of config to) (place_of config b) rest
        (place_below config from f) differs sq in
        subst (P from b) (sym beside) (all from b f lb)

    by_row : (a b : Actor) → is_within config a ≡ true → is_within config b ≡ true
        → (place_of config a ≡ place_of config from) ⊎ (place_of config a ≢ place_of config from) → Now a b
    by_row a b la lb (inl same) =
        let is : from ≡ a = sym (same_actor config a from la f same) in
        subst (λ (c : Actor). Now c b) is (by_column b lb (cases_eq (place_of config b) (place_of config to)))
    by_row a b la lb (inr differs) =
        subst (P a b) (sym (put_elsewhere links (place_of config from) (place_of config to) (place_of config a) (place_of config b) rest
        differs)) (all a b la lb)

-- where an actor sends letters
pub posted_links : (P Q : Actor → Actor → List Letter → Type 0) (config : Config) (links : Links) (me : Actor) (sends : List Sending)
    → IsSquare (actors config) links → is_within config me ≡ true → AreWithin config sends
    → ((to : Actor) (ls : List Letter) → is_within config to ≡ true → P me to ls
    → Q me to (ls ++ letters_for config (place_of config to) sends))
    → ((from to : Actor) (ls : List Letter) → place_of config from ≢ place_of config me → P from to ls → Q from to ls)
    → AllLinks P config links → AllLinks Q config (post config links (place_of config me) sends)
posted_links P Q config links me sends sq i are comes others all from to f t = by_row (cases_eq (place_of config from) (place_of config me))
  where
    Now : Actor → Type 0
    Now a = Q a to (link (post config links (place_of config me) sends) (place_of config a) (place_of config to))

    by_row : (place_of config from ≡ place_of config me) ⊎ (place_of config from ≢ place_of config me) → Now from
    by_row (inl same) =
        let is : me ≡ from = sym (same_actor config from me f i same) in
        let now = post_same config links (place_of config me) (place_of config to) sends (place_below config me i) are sq in
        subst Now is (subst (Q me to) (sym now) (comes to (link links (place_of config me) (place_of config to)) t (all me to i t)))
    by_row (inr differs) =
        let now = post_other config links (place_of config me) (place_of config from) (place_of config to) sends differs in
        subst (Q from to) (sym now) (others from to (link links (place_of config from) (place_of config to)) differs (all from to f t))

-- Of each letter under way.

-- what follows of each letter
pub weaker : (P Q : Actor → Actor → Letter → Type 0) (config : Config) (links : Links)
    → ((from to : Actor) (l : Letter) → P from to l → Q from to l) → OnLinks P config links → OnLinks Q config links
weaker P Q config links f on = record {
  each = λ from to h t. each_weaker (P from to) (Q from to) (f from to) (link links (place_of config from) (place_of config to))
      (on.each from to h t);
}

-- of each letter both, if each of the two
pub both : (P Q : Actor → Actor → Letter → Type 0) (config : Config) (links : Links) → OnLinks P config links → OnLinks Q config links
    → OnLinks (λ from to l. P from to l × Q from to l) config links
both P Q config links p q = record {
  each = λ from to h t. each_both (P from to) (Q from to) (link links (place_of config from) (place_of config to)) (p.each from to h t)
      (q.each from to h t);
}

-- the front letter of a link
pub at_front : (P : Actor → Actor → Letter → Type 0) (config : Config) (links : Links) (from to : Actor) (l : Letter) (rest : List Letter)
    → OnLinks P config links → is_within config from ≡ true → is_within config to ≡ true
    → link links (place_of config from) (place_of config to) ≡ l ∷ rest → P from to l
at_front P config links from to l rest on f t front = (subst (Each (P from to)) front (on.each from to f t)).0

-- where a letter goes off, the others are left
pub taken_on : (P : Actor → Actor → Letter → Type 0) (config : Config) (links : Links) (from to : Actor) (l : Letter) (rest : List Letter)
    → IsSquare (actors config) links → OnLinks P config links → is_within config from ≡ true → is_within config to ≡ true
    → link links (place_of config from) (place_of config to) ≡ l ∷ rest
    → OnLinks P config (put_link links (place_of config from) (place_of config to) rest)
taken_on P config links from to l rest sq on f t front = record {
  each = taken_links (λ a b ls. Each (P a b) ls) config links from to l rest sq f t front (λ was. was.1) (λ a b la lb. on.each a b la lb);
}

-- where letters are sent, they come to those under way
sent_to : (P : Actor → Actor → Letter → Type 0) (config : Config) (from to : Actor) (sends : List Sending) → is_within config to ≡ true
    → AreWithin config sends → Each (λ (x : Sending). P from x.to x.letter) sends
    → Each (P from to) (letters_for config (place_of config to) sends)
sent_to P config from to [] t are each = tt
sent_to P config from to (x ∷ sends) t are each =
    by_test (eqb (place_of config x.to) (place_of config to)) refl (sent_to P config from to sends t are.1 each.1)
  where
    more : List Letter
    more = letters_for config (place_of config to) sends

    by_test : (b : Bool) → eqb (place_of config x.to) (place_of config to) ≡ b → Each (P from to) more
        → Each (P from to) (cond b (x.letter ∷ more) more)
    by_test true is later =
        let same : x.to ≡ to = same_actor config x.to to are.0 t (eqb-true (place_of config x.to) (place_of config to) is) in
        (subst (λ (a : Actor). P from a x.letter) same each.0, later)
    by_test false is later = later

-- of each letter, where letters go off
pub posted_on : (P : Actor → Actor → Letter → Type 0) (config : Config) (links : Links) (me : Actor) (sends : List Sending)
    → IsSquare (actors config) links → OnLinks P config links → is_within config me ≡ true → AreWithin config sends
    → Each (λ (x : Sending). P me x.to x.letter) sends → OnLinks P config (post config links (place_of config me) sends)
posted_on P config links me sends sq on i are each = record {
  each = posted_links (λ a b ls. Each (P a b) ls) (λ a b ls. Each (P a b) ls) config links me sends sq i are
      (λ to ls t was. each_append (P me to) ls (letters_for config (place_of config to) sends) was
      (sent_to P config me to sends t are each))
      (λ from to ls differs was. was) (λ a b la lb. on.each a b la lb);
}

-- where a sum is 0, each letter weighs 0
each_zero : (f : Letter → ℕ) (ls : List Letter) → weigh f ls ≡ 0 → Each (λ l. f l ≡ 0) ls
each_zero f [] none = tt
each_zero f (l ∷ ls) none = (omega arith, each_zero f ls (omega arith))

-- if all links weigh 0, each letter does
pub zero_on : (m : Weights) (config : Config) (links : Links) → IsSquare (actors config) links → links_weight config m links ≡ 0
    → OnLinks (λ from to l. m.letter from to l.message ≡ 0) config links
zero_on m config links sq none = record { each = at }
  where
    at : (from to : Actor) → is_within config from ≡ true → is_within config to ≡ true
        → Each (λ (l : Letter). m.letter from to l.message ≡ 0) (link links (place_of config from) (place_of config to))
    at from to f t =
        let a = place_of config from in
        let b = place_of config to in
        let part = link_le m config links from to sq f t in
        let z : link_weight config m a b (link links a b) ≡ 0 = omega arith in
        let each = each_zero (λ (l : Letter). m.letter (actor config a) (actor config b) l.message) (link links a b) z in
        let P : Actor → Actor → Type 0 = λ c d. Each (λ (l : Letter). m.letter c d l.message ≡ 0) (link links a b) in
        subst (λ (c : Actor). P c to) (place_actor config from f) (subst (λ (d : Actor). P (actor config a) d) (place_actor config to t)
        each)
