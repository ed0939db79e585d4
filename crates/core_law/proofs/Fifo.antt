-- What is on each link after sendings, in order; and that what is at the front of a link is a part of the sum.
use Rattle.adlb_unit.specs.Links.{is_within, place_of}
use Rattle.adlb_unit.specs.declared.names.Server.{Server}
use Rattle.std.proofs.Common.{◌≡◌, ◌<◌, ◌≤◌, ℕ, zero, suc, ◌+◌, true, false, cond, List, [], ◌∷◌, ◌++◌, length, set, get_or, refl, sym, ap}
use Rattle.std.proofs.Common.{◌∙◌, arith, eqb, inl, inr, append_assoc}
use Rattle.std.proofs.lemmas.List.{get_or-set_same, get_or-set_other, append-nil}
use Rattle.std.proofs.lemmas.Bool.{cases_eq, eqb-true, eq-eqb, false_from_ne_true}
use Rattle.adlb_unit.specs.declared.actors.Actor.{Actor}
use Rattle.adlb_unit.specs.declared.configs.Config.{Config}
use Rattle.adlb_unit.specs.declared.letters.Letter.{Letter}
use Rattle.adlb_unit.specs.declared.letters.Sending.{Sending}
use Rattle.server_law.specs.State.{start as new_pool}
use Rattle.core_run.specs.World.{Links, World, actors, link, post, put_link, row, pool_of}
use Rattle.core_law.specs.Measures.{Weights, link_weight, links_weight, measure, row_weight, server_weight, weigh_at}
use Rattle.core_law.specs.Well.{IsShaped, IsSquare}
use Rattle.core_law.proofs.Sums.{AreWithin, front_goes, place_below, square_put}

-- the letters that go to this place
abbrev pub letters_for : Config → ℕ → List Sending → List Letter
letters_for config b [] = []
letters_for config b (x ∷ sends) = cond (eqb (place_of config x.to) b) (x.letter ∷ letters_for config b sends) (letters_for config b sends)

-- a link that was set is found
pub put_there : (n : ℕ) (links : Links) (a b : ℕ) (v : List Letter) → a < n → b < n → IsSquare n links → link (put_link links a b v) a b ≡ v
put_there n links a b v la lb sq =
    let wide : b < length (row links a) = let e = sq.each a la in omega arith in
    let in' : a < length links = let e = sq.rows in omega arith in
    ap (λ r. get_or r b []) (get_or-set_same links a (set (row links a) b v) [] in') ∙ get_or-set_same (row links a) b v [] wide

-- setting one link leaves the others from its sender
pub put_beside : (n : ℕ) (links : Links) (a b k : ℕ) (v : List Letter) → a < n → (k ≡ b → ⊥) → IsSquare n links
    → link (put_link links a b v) a k ≡ link links a k
put_beside n links a b k v la differs sq =
    let in' : a < length links = let e = sq.rows in omega arith in
    ap (λ r. get_or r k []) (get_or-set_same links a (set (row links a) b v) [] in') ∙ get_or-set_other (row links a) b k v [] differs

-- setting one link leaves those from other senders
pub put_elsewhere : (links : Links) (a b x k : ℕ) (v : List Letter) → (x ≡ a → ⊥) → link (put_link links a b v) x k ≡ link links x k
put_elsewhere links a b x k v differs = ap (λ r. get_or r k []) (get_or-set_other links a x (set (row links a) b v) [] differs)

-- letters of one actor leave the links from others
pub post_other : (config : Config) (links : Links) (a x b : ℕ) (sends : List Sending) → (x ≡ a → ⊥)
    → link (post config links a sends) x b ≡ link links x b
unfolding post
post_other config links a x b [] differs = refl
post_other config links a x b (s ∷ sends) differs =
    let v = link links a (place_of config s.to) ++ s.letter ∷ [] in
    post_other config (put_link links a (place_of config s.to) v) a x b sends differs
    ∙ put_elsewhere links a (place_of config s.to) x b v differs

-- letters that go off come last on their links
pub post_same : (config : Config) (links : Links) (a b : ℕ) (sends : List Sending) → a < actors config → AreWithin config sends
    → IsSquare (actors config) links → link (post config links a sends) a b ≡ link links a b ++ letters_for config b sends
unfolding post
post_same config links a b [] l are sq = sym (append-nil (link links a b))
post_same config links a b (s ∷ sends) l are sq =
    let n = actors config in
    let p = place_of config s.to in
    let v = link links a p ++ s.letter ∷ [] in
    let in' = place_below config s.to are.0 in
    let rest = post_same config (put_link links a p v) a b sends l are.1 (square_put n links a p v l in' sq) in
    elim (cases_eq b p) [
      | inl same ↦
          let t : eqb p b ≡ true = eq-eqb p b (sym same) in
          let there : link (put_link links a p v) a b ≡ v = rw same (put_there n links a p v l in' sq) in
          let e : link (put_link links a p v) a b ++ letters_for config b sends ≡ link links a b ++ s.letter ∷ letters_for config b sends =
          rw (there, same) (append_assoc (link links a p) (s.letter ∷ []) (letters_for config p sends)) in
          rw t (rest ∙ e)
      | inr differs ↦
          let t : eqb p b ≡ false = false_from_ne_true (eqb p b) (λ y. differs (sym (eqb-true p b y))) in
          rw t (rest ∙ ap (λ l. l ++ letters_for config b sends) (put_beside n links a p b v l differs sq))
    ]

-- a part is at most the sum
pub part_le : {X : Type 0} (f : ℕ → X → ℕ) (xs : List X) (i : ℕ) (d : X) → i < length xs → f i (get_or xs i d) ≤ weigh_at f xs
part_le f [] i d l = absurd (omega arith)
part_le f (x ∷ xs) zero d l = omega arith
part_le f (x ∷ xs) (suc i) d l = let h = part_le (λ k. f (suc k)) xs i d (omega arith) in omega arith

-- a link is a part of the sum
pub link_le : (m : Weights) (config : Config) (links : Links) (from to : Actor) → IsSquare (actors config) links
    → is_within config from ≡ true → is_within config to ≡ true
    → link_weight config m (place_of config from) (place_of config to) (link links (place_of config from) (place_of config to)) ≤
    links_weight config m links
link_le m config links from to sq f t =
    let a = place_of config from in
    let b = place_of config to in
    let la = place_below config from f in
    let lb = place_below config to t in
    let rows = sq.rows in
    let wide = sq.each a la in
    let outer = part_le (row_weight config m) links a [] (omega arith) in
    let inner = part_le (link_weight config m a) (row links a) b [] (omega arith) in
    omega arith

-- so is the letter at its front
pub front_le : (m : Weights) (config : Config) (links : Links) (from to : Actor) (l : Letter) (rest : List Letter)
    → IsSquare (actors config) links → is_within config from ≡ true → is_within config to ≡ true
    → link links (place_of config from) (place_of config to) ≡ l ∷ rest → m.letter from to l.message ≤ links_weight config m links
front_le m config links from to l rest sq f t front = let off = front_goes config m links from to l rest sq f t front in omega arith

-- the front letter of a link weighs no more than all letters
pub front_held : (m : Weights) (w : World) (from to : Actor) (l : Letter) (rest : List Letter) → IsShaped w → is_within w.config from ≡ true
    → is_within w.config to ≡ true → link w.links (place_of w.config from) (place_of w.config to) ≡ l ∷ rest
    → m.letter from to l.message ≤ measure m w
unfolding measure
front_held m w from to l rest shape f t front = let part = front_le m w.config w.links from to l rest shape.square f t front in omega arith

-- with what a server holds
pub front_beside : (m : Weights) (w : World) (from to : Actor) (l : Letter) (rest : List Letter) (server : Server) → IsShaped w
    → is_within w.config from ≡ true → is_within w.config to ≡ true
    → link w.links (place_of w.config from) (place_of w.config to) ≡ l ∷ rest → server.0 < w.config.servers
    → m.letter from to l.message + m.server server.0 (pool_of w server).kept ≤ measure m w
unfolding measure
front_beside m w from to l rest server shape f t front there =
    let part = front_le m w.config w.links from to l rest shape.square f t front in
    let held = part_le (server_weight m.server) w.servers server.0 (new_pool w.config server) (let g = shape.servers in omega arith) in
    omega arith
