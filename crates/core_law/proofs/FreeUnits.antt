-- A free unit of a server that pushes nothing has no open letter of a push, and no room is promised for it; so a push of it may begin.
use Rattle.std.proofs.Common.{Bool, None, Option, Some, [], ap, arith, false, get_or, inl, inr, length, refl, subst, sym, true, ℕ, ◌==◌}
use Rattle.std.proofs.Common.{◌∙◌, ◌≡◌, ◌≢◌, ◌≤◌, ◌⊎◌}
use Rattle.std.proofs.lemmas.Bool.{cases_eq, eq-eqb, eqb-true, false_from_ne_true}
use Rattle.adlb_unit.specs.Ids.{same_unit}
use Rattle.adlb_unit.specs.Links.{place_of}
use Rattle.adlb_unit.specs.declared.actors.Actor.TheVariants as by
use Rattle.adlb_unit.specs.declared.actors.Actor.{Actor}
use Rattle.adlb_unit.specs.declared.letters.Letter.{Letter}
use Rattle.adlb_unit.specs.declared.messages.Message.TheVariants as tells
use Rattle.adlb_unit.specs.declared.messages.Message.{Message}
use Rattle.adlb_unit.specs.declared.names.Server.{Server}
use Rattle.adlb_unit.specs.declared.names.UnitId.{UnitId}
use Rattle.adlb_unit.proofs.Same.{same_unit_is}
use Rattle.bag_ledger.specs.Bag.{Bag, promise_of, unit_of}
use Rattle.bag_ledger.specs.declared.states.Placed.{Placed}
use Rattle.bag_ledger.specs.declared.states.UnitPlace.TheVariants.{Free, Travelling}
use Rattle.bag_ledger.specs.declared.states.UnitPlace.{UnitPlace}
use Rattle.bag_ledger.proofs.Tests.{some_is}
use Rattle.server_components.specs.declared.standing.StandingPush.{StandingPush}
use Rattle.server_law.specs.Acts.{Queries}
use Rattle.server_law.specs.Endings.{rests}
use Rattle.server_law.specs.Moving.{IsHeldAt, is_held_at}
use Rattle.server_law.specs.State.{start as new_pool}
use Rattle.core_run.specs.World.{World, link, pool_of}
use Rattle.core_law.specs.Acting.{acted}
use Rattle.core_law.specs.Letters.{one}
use Rattle.core_law.specs.Measures.{IsBalanced, due, links_weight, measure, push_weights, server_weight, weigh_at, weight}
use Rattle.core_law.specs.OnLinks.{OnLinks}
use Rattle.core_law.specs.Pushed.{IsOfPush, IsPushed, OfPush, letters_of}
use Rattle.core_law.specs.Pushes.{of_push, open_letter, open_of, promised_letter, promised_of, push_letter, pushing}
use Rattle.core_law.specs.Well.{IsShaped}
use Rattle.core_law.proofs.OnLinks.{all_zero, links_next, zero_from}
use Rattle.core_law.proofs.Movers.{each_all, pushed_next}
use Rattle.core_law.proofs.UnpushedUnits.{AreApart, one_not}
use Rattle.core_law.proofs.OwedByRanks.{no_sum}
use Rattle.core_law.proofs.PushCounts.{not_promised}
use Rattle.core_law.proofs.Seats.{IsMade}
use Rattle.core_law.proofs.Sums.{links_le}
use Rattle.core_law.proofs.UnderWay.{both, weaker, zero_on}

-- the server pushes nothing: no letter of a push of it is under way

due_nothing : (k place : ℕ) (o : Option StandingPush) → (place ≡ k → o ≡ None) → weight (λ (p : StandingPush). one (place == k)) o ≡ 0
due_nothing k place None none = refl
due_nothing k place (Some p) none = by_place (cases_eq place k)
  where
    by_place : (place ≡ k) ⊎ (place ≢ k) → one (place == k) ≡ 0
    by_place (inl same) = let no_one = none same in absurd (cc)
    by_place (inr differs) =
        let is = false_from_ne_true (place == k) (λ e. differs (eqb-true place k e)) in rw is refl

no_push_letter : (w : World) (k : Server) → IsShaped w → (pool_of w k).kept.pushing.push ≡ None
    → IsBalanced (push_weights (pushing k)) w → OnLinks (λ from to l. push_letter k from to l.message ≡ 0) w.config w.links
unfolding measure due
no_push_letter w k shape none even =
    let m = push_weights (pushing k) in
    let here = new_pool w.config k in
    let owes : weigh_at (server_weight m.server_due) w.servers ≡ 0 = all_zero (server_weight m.server_due) w.servers here (λ i inside.
    due_nothing k.0 i (get_or w.servers i here).kept.pushing.push (λ same.
    ap (λ j. (get_or w.servers j here).kept.pushing.push) same ∙ none)) in
    let ranks = no_sum w.ranks in
    let same = even.same in
    let nothing : links_weight w.config (letters_of (push_letter k)) w.links ≡ 0 = omega arith in
    zero_on (letters_of (push_letter k)) w.config w.links shape.square nothing

-- A letter that is not of its pushes is not of an open push of the unit.

held_elsewhere : (b : Bag) (k c : Server) (x id : UnitId) (u : Placed) → unit_of b id ≡ Some u → u.place ≡ Free k → IsHeldAt b c x
    → one (c.0 == k.0) ≡ 0 → one (same_unit x id) ≡ 0
held_elsewhere b k c x id u found free is away = by_test (same_unit x id) refl
  where
    by_test : (t : Bool) → same_unit x id ≡ t → one (same_unit x id) ≡ 0
    by_test false differs = ap one differs
    by_test true same =
        let it : is.unit ≡ u = some_is (sym is.found ∙ ap (λ i. unit_of b i) (same_unit_is x id same) ∙ found) in
        let place : is.unit.place ≡ Free k = ap (λ (v : Placed). v.place) it ∙ free in
        let here : (k.0 == c.0) ≡ true = subst (λ (p : UnitPlace). is_held_at c p ≡ true) place is.held in
        let back : (c.0 == k.0) ≡ true = eq-eqb c.0 k.0 (sym (eqb-true k.0 c.0 here)) in
        let no_one = one_not (c.0 == k.0) away in
        absurd (cc)

not_open : (b : Bag) (k : Server) (id : UnitId) (u : Placed) → unit_of b id ≡ Some u → u.place ≡ Free k → (from to : Server) (m : Message)
    → of_push k from.0 to.0 m ≡ 0 → OfPush b from to m → open_of id m ≡ 0
not_open b k id u found free from to (tells.PushQuery x n) away of = held_elsewhere b k from x id u found free of.0 away
not_open b k id u found free from to (tells.PushYes x) away of = held_elsewhere b k to x id u found free of.0 away
not_open b k id u found free from to (tells.PushNo x) away of = held_elsewhere b k to x id u found free of away
not_open b k id u found free from to (tells.PushCancel x) away of = held_elsewhere b k from x id u found free of.0 away
not_open b k id u found free from to (tells.PushUnit unit) away of = by_test (same_unit unit.id id) refl
  where
    by_test : (t : Bool) → same_unit unit.id id ≡ t → one (same_unit unit.id id) ≡ 0
    by_test false differs = ap one differs
    by_test true is =
        let it : record { unit = unit; place = Travelling to } ≡ u =
        some_is (sym of ∙ ap (λ i. unit_of b i) (same_unit_is unit.id id is) ∙ found) in
        let both : Travelling to ≡ Free k = ap (λ (v : Placed). v.place) it ∙ free in
        absurd (cc)
not_open b k id u found free from to _ away of = refl

unopened : (w : World) (k : Server) (b : Bag) (id : UnitId) (u : Placed) → IsShaped w → (pool_of w k).kept.pushing.push ≡ None
    → IsBalanced (push_weights (pushing k)) w → IsPushed w b → unit_of b id ≡ Some u → u.place ≡ Free k
    → OnLinks (λ from to l. open_letter id from to l.message ≡ 0) w.config w.links
unopened w k b id u shape none even pushed found free =
    weaker (λ from to l. (push_letter k from to l.message ≡ 0) × IsOfPush b from to l.message)
    (λ from to l. open_letter id from to l.message ≡ 0) w.config w.links (λ from to l of. by_actor from to l.message of.0 of.1)
    (both (λ from to l. push_letter k from to l.message ≡ 0) (λ from to l. IsOfPush b from to l.message) w.config w.links
    (no_push_letter w k shape none even) pushed.letters)
  where
    by_actor : (from to : Actor) (m : Message) → push_letter k from to m ≡ 0 → IsOfPush b from to m → open_letter id from to m ≡ 0
    by_actor (by.Server from) (by.Server to) m p q = not_open b k id u found free from to m p q
    by_actor (by.Server from) (by.Rank to) m p q = refl
    by_actor (by.Rank from) to m p q = refl

-- No room is promised for it.

-- a letter of promised room is an open one
pub promised_opens : (id : UnitId) (from to : Actor) (m : Message) → promised_letter id from to m ≤ open_letter id from to m
promised_opens id (by.Server from) (by.Server to) m = by_message m
  where
    by_message : (x : Message) → promised_of id x ≤ open_of id x
    by_message (tells.PushYes x) = omega arith
    by_message (tells.PushUnit unit) = omega arith
    by_message (tells.PushCancel x) = omega arith
    by_message _ = omega arith
promised_opens id (by.Server from) (by.Rank to) m = omega arith
promised_opens id (by.Rank from) to m = omega arith

-- a unit without an open letter has no promise
pub unpromised : (w : World) (b : Bag) (id : UnitId) → IsPushed w b → links_weight w.config (letters_of (open_letter id)) w.links ≡ 0
    → promise_of b id ≡ None
unpromised w b id pushed none =
    let less = links_le w.config (letters_of (promised_letter id)) (letters_of (open_letter id)) w.links (promised_opens id) in
    let same = pushed.rooms id in
    not_promised b id (omega arith)

-- A push begins.

-- the query for room opens a push, and leaves what is known of the others
pub queries_pushed : (w : World) (k to : Server) (id : UnitId) (size : ℕ) (b : Bag) (u : Placed) → IsMade w k (Queries to id size) b b
    → (pool_of w k).kept.pushing.push ≡ None → IsBalanced (push_weights (pushing k)) w → unit_of b id ≡ Some u → u.place ≡ Free k
    → length u.unit.body ≡ size → IsPushed w b → IsPushed (acted w k (Queries to id size)) b
queries_pushed w k to id size b u m rests even found free long pushed =
    let a = Queries to id size in
    let shape = m.shape in
    let away = unopened w k b id u shape rests even pushed found free in
    let none = zero_from (letters_of (open_letter id)) w.config w.links shape.square away in
    let me : is_held_at k (Free k) ≡ true = eq-eqb k.0 k.0 refl in
    let held : IsHeldAt b k id = record { unit = u; found = found; held = ap (is_held_at k) free ∙ me } in
    let apart : OnLinks (λ from to l. AreApart [] from to l.message) w.config w.links = record {
      each = λ from to f t. each_all (λ (l : Letter). AreApart [] from to l.message)
          (link w.links (place_of w.config from) (place_of w.config to)) (λ l. tt);
    } in
    pushed_next w k a b b m apart ((held, record { unit = u; found = found; long = long }, unpromised w b id pushed none), tt)
    (λ x. one_open x (same_unit id x) refl none) (record { rooms = λ x. refl; travels = λ x. refl }) pushed
  where
    one_open : (x : UnitId) (t : Bool) → same_unit id x ≡ t → links_weight w.config (letters_of (open_letter id)) w.links ≡ 0
        → links_weight w.config (letters_of (open_letter x)) (acted w k (Queries to id size)).links ≤ 1
    one_open x true same none =
        let it : id ≡ x = same_unit_is id x same in
        let sum = links_next (letters_of (open_letter x)) w k (Queries to id size) m.shape m.is m.own in
        let was : links_weight w.config (letters_of (open_letter x)) w.links ≡ 0 = subst (λ (y : UnitId).
        links_weight w.config (letters_of (open_letter y)) w.links ≡ 0) it none in
        let said : one (same_unit id x) ≡ 1 = ap one same in
        omega arith
    one_open x false differs none =
        let sum = links_next (letters_of (open_letter x)) w k (Queries to id size) m.shape m.is m.own in
        let before = pushed.opens x in
        let said : one (same_unit id x) ≡ 0 = ap one differs in
        omega arith
