-- What is known of push letters, through an act that pushes nothing, and through one that takes the one open letter of a unit.
use Rattle.std.proofs.Common.{List, None, Some, [], arith, refl, ◌+◌, ◌∷◌, ◌≡◌, ◌≤◌}
use Rattle.adlb_unit.specs.Links.{place_of}
use Rattle.adlb_unit.specs.declared.actors.Actor.TheVariants as by
use Rattle.adlb_unit.specs.declared.letters.Letter.{Letter}
use Rattle.adlb_unit.specs.declared.messages.Message.TheVariants as tells
use Rattle.adlb_unit.specs.declared.names.Server.{Server}
use Rattle.adlb_unit.specs.declared.names.UnitId.{UnitId}
use Rattle.bag_ledger.specs.Bag.{Bag}
use Rattle.bag_law.specs.Counts.{promises_named}
use Rattle.server_law.specs.Acts.{Act, Finds, Queries, Shuts, entries, says, takes}
use Rattle.server_law.specs.State.{ServerModel}
use Rattle.core_run.specs.World.{World, link, pool_of}
use Rattle.core_law.specs.Acting.{acted, taken_off}
use Rattle.core_law.specs.Found.{found_in}
use Rattle.core_law.specs.Measures.{heard_weight, links_weight, said_weight}
use Rattle.core_law.specs.OnLinks.{Each, OnLinks}
use Rattle.core_law.specs.Pushed.{IsOfPush, IsPushed, letters_of, on_way, pushes}
use Rattle.core_law.specs.Pushes.{open_letter, promised_letter, travels_letter}
use Rattle.core_law.proofs.Acts.{taken_off_on, taken_square, taken_weight}
use Rattle.core_law.proofs.OnLinks.{links_next}
use Rattle.core_law.proofs.UnpushedUnits.{AreApart, none_pushed, of_one, run_later}
use Rattle.core_law.proofs.Seats.{IsMade, letters_next}
use Rattle.core_law.proofs.Sums.{others_none}
use Rattle.core_law.proofs.UnderWay.{both, weaker, zero_on}

-- An act in the midst of all that is known of it: what it makes of the bag and of the letters.

-- the act leaves as many letters of promised room as promises, and as many units between servers as letters that bring one
pub record AreEven (w : World) (k : Server) (a : Act) (b n : Bag) : Type 0 where
  pub rooms : (id : UnitId) → heard_weight (promised_letter id) k (takes a) + promises_named id n.promises
      ≡ said_weight (promised_letter id) k (says a (pool_of w k)) + promises_named id b.promises
  pub travels : (id : UnitId) → heard_weight (travels_letter id) k (takes a) + on_way id n.units
      ≡ said_weight (travels_letter id) k (says a (pool_of w k)) + on_way id b.units

-- what the act says of pushes is so of the bag
abbrev pub SaysOfPush : Bag → Server → Act → ServerModel → Type 0
SaysOfPush n k a s = Each (λ y. IsOfPush n (by.Server k) y.to y.message) (says a s)

-- of each unit one open letter is under way at most
abbrev pub OpensOne : World → Type 0
OpensOne w = (id : UnitId) → links_weight w.config (letters_of (open_letter id)) w.links ≤ 1

-- what letters say of pushes stays so where entries are apart from them
pub pushed_next : (w : World) (k : Server) (a : Act) (b n : Bag) → IsMade w k a b n
    → OnLinks (λ from to l. AreApart (entries a (pool_of w k)) from to l.message) w.config (taken_off w.config k w.links (takes a))
    → SaysOfPush n k a (pool_of w k) → OpensOne (acted w k a) → AreEven w k a b n → IsPushed w b → IsPushed (acted w k a) n
pushed_next w k a b n m apart said opens even pushed =
    let s = pool_of w k in
    let is = m.is in
    let shape = m.shape in
    let links = taken_off w.config k w.links (takes a) in
    let left = taken_off_on (λ from to l. IsOfPush b from to l.message) w.config k w.links (takes a) is.here is.front shape.square
    pushed.letters in
    let now = weaker (λ from to l. AreApart (entries a s) from to l.message × IsOfPush b from to l.message)
    (λ from to l. IsOfPush n from to l.message) w.config links
    (λ from to l of. run_later (found_in w.config) (entries a s) b n from to l.message m.step of.0 of.1)
    (both (λ from to l. AreApart (entries a s) from to l.message) (λ from to l. IsOfPush b from to l.message) w.config links apart left) in
    record {
      opens = opens;
      letters = letters_next (IsOfPush n) w k a shape is m.own now said;
      rooms = λ id.
          let sum = links_next (letters_of (promised_letter id)) w k a shape is m.own in
          let even_now = even.rooms id in
          let before = pushed.rooms id in
          omega arith;
      travels = λ id.
          let sum = links_next (letters_of (travels_letter id)) w k a shape is m.own in
          let even_now = even.travels id in
          let before = pushed.travels id in
          omega arith;
    }

-- An act that pushes nothing, and one that takes the open letter of a unit.

-- it asks for no room: it says no more open letters of a unit than it takes
abbrev pub OpensNone : Act → Type 0
OpensNone (Queries to id n) = ⊥
OpensNone _ = Unit {0}

lowers : (id : UnitId) (a : Act) (s : ServerModel) (k : Server) → OpensNone a
    → said_weight (open_letter id) k (says a s) ≤ heard_weight (open_letter id) k (takes a)
lowers id (Queries to x n) s k none = absurd none
lowers id (Finds from t) s k none = let told = others_none (open_letter id) k s tells.Exhaust (λ to. refl) in omega arith
lowers id (Shuts from t) s k none = let told = others_none (open_letter id) k s tells.Shutdown (λ to. refl) in omega arith
lowers id _ s k none = omega arith

opens_kept : (w : World) (k : Server) (a : Act) (b n : Bag) → IsMade w k a b n → OpensNone a → IsPushed w b → OpensOne (acted w k a)
opens_kept w k a b n m none pushed id =
    let sum = links_next (letters_of (open_letter id)) w k a m.shape m.is m.own in
    let low = lowers id a (pool_of w k) k none in
    let before = pushed.opens id in
    omega arith

-- what holds of every value holds of each element
pub each_all : {X : Type 0} (P : X → Type 0) (xs : List X) → ((x : X) → P x) → Each P xs
each_all P [] f = tt
each_all P (x ∷ xs) f = (f x, each_all P xs f)

-- an act that pushes nothing and opens no push leaves what is known of pushes
pub mover_stays : (w : World) (k : Server) (a : Act) (b n : Bag) → IsMade w k a b n
    → Each (λ e. pushes e ≡ None) (entries a (pool_of w k)) → OpensNone a → SaysOfPush n k a (pool_of w k) → AreEven w k a b n
    → IsPushed w b → IsPushed (acted w k a) n
mover_stays w k a b n m none opens said even pushed =
    let es = entries a (pool_of w k) in
    let links = taken_off w.config k w.links (takes a) in
    let apart : OnLinks (λ from to l. AreApart es from to l.message) w.config links = record {
      each = λ from to f t. each_all (λ (l : Letter). AreApart es from to l.message)
          (link links (place_of w.config from) (place_of w.config to)) (λ l. none_pushed es from to l.message none);
    } in
    pushed_next w k a b n m apart said (opens_kept w k a b n m opens pushed) even pushed

-- no open letter of the unit is left, once that one is taken
pub mover_passes : (w : World) (k : Server) (a : Act) (b n : Bag) (id : UnitId) → IsMade w k a b n
    → Each (λ e. pushes e ≡ Some id) (entries a (pool_of w k)) → heard_weight (open_letter id) k (takes a) ≡ 1 → OpensNone a
    → SaysOfPush n k a (pool_of w k) → AreEven w k a b n → IsPushed w b → IsPushed (acted w k a) n
mover_passes w k a b n id m all takes_one opens said even pushed =
    let es = entries a (pool_of w k) in
    let is = m.is in
    let shape = m.shape in
    let links = taken_off w.config k w.links (takes a) in
    let square = taken_square w.config k w.links (takes a) is.here is.front shape.square in
    let took = taken_weight w.config (letters_of (open_letter id)) k w.links (takes a) is.here is.front shape.square in
    let before = pushed.opens id in
    let nothing = zero_on (letters_of (open_letter id)) w.config links square (omega arith) in
    let apart = weaker (λ from to l. open_letter id from to l.message ≡ 0) (λ from to l. AreApart es from to l.message) w.config links
    (λ from to l none. of_one es id from to l.message all none) nothing in
    pushed_next w k a b n m apart said (opens_kept w k a b n m opens pushed) even pushed
