-- Each unit that is between servers is in one letter under way, and each promise has one letter of promised room.
use Rattle.std.proofs.Common.{Bool, List, None, Some, [], ap, arith, false, find, refl, sym, true, ◌&&◌, ◌+◌, ◌<◌, ◌∙◌, ◌∷◌, ◌≡◌, ◌≢◌, ◌≤◌}
use Rattle.std.proofs.lemmas.List.Sums.{sum_by-cons}
use Rattle.adlb_unit.specs.Ids.{same_unit}
use Rattle.adlb_unit.specs.declared.actors.Actor.TheVariants as by
use Rattle.adlb_unit.specs.declared.actors.Actor.{Actor}
use Rattle.adlb_unit.specs.declared.messages.Message.TheVariants as tells
use Rattle.adlb_unit.specs.declared.messages.Message.{Message}
use Rattle.adlb_unit.specs.declared.names.UnitId.{UnitId}
use Rattle.bag_ledger.specs.Bag.{Bag, is_travelling}
use Rattle.bag_ledger.specs.declared.states.Placed.{Placed}
use Rattle.bag_ledger.proofs.Tests.{some_is}
use Rattle.bag_law.specs.Counts.{promises_named}
use Rattle.core_run.specs.World.{World}
use Rattle.core_law.specs.Letters.{one}
use Rattle.core_law.specs.Pushed.{IsPushed, letters_of, on_way}
use Rattle.core_law.specs.Pushes.{open_letter, open_of, promised_letter, travels_letter, travels_of}
use Rattle.core_law.specs.Seats.{AreBrought}
use Rattle.core_law.proofs.FreeUnits.{promised_opens}
use Rattle.core_law.proofs.PushCounts.{not_promised}
use Rattle.core_law.proofs.Sums.{links_le}

-- what is sought counts

way_some : (id : UnitId) (units : List Placed) (u : Placed) → find (λ (v : Placed). same_unit v.unit.id id) units ≡ Some u
    → is_travelling u.place ≡ true → 0 < on_way id units
way_some id [] u found there = absurd (cc)
way_some id (v ∷ units) u found there = by_test (way_some id units u) (same_unit v.unit.id id) refl found
  where
    count : on_way id (v ∷ units) ≡ one (is_travelling v.place && same_unit v.unit.id id) + on_way id units
    count = sum_by-cons (λ (x : Placed). one (is_travelling x.place && same_unit x.unit.id id)) v units

    by_test : (find (λ (x : Placed). same_unit x.unit.id id) units ≡ Some u → is_travelling u.place ≡ true → 0 < on_way id units)
        → (t : Bool) → same_unit v.unit.id id ≡ t → find (λ (x : Placed). same_unit x.unit.id id) (v ∷ units) ≡ Some u
        → 0 < on_way id (v ∷ units)
    by_test rest true is found =
        let it : v ≡ u = some_is (rw is at found) in
        let travels : is_travelling v.place ≡ true = ap (λ (x : Placed). is_travelling x.place) it ∙ there in
        let its : one (is_travelling v.place && same_unit v.unit.id id) ≡ 1 = rw (travels, is) refl in
        omega (arith, count, its)
    by_test rest false is found =
        let later : find (λ (x : Placed). same_unit x.unit.id id) units ≡ Some u = rw is at found in
        let some = rest later there in
        omega (arith, count, some)

travels_opens : (id : UnitId) (from to : Actor) (m : Message) → travels_letter id from to m ≤ open_letter id from to m
travels_opens id (by.Server from) (by.Server to) m = by_message m
  where
    by_message : (x : Message) → travels_of id x ≤ open_of id x
    by_message (tells.PushUnit unit) = omega arith
    by_message _ = omega arith
travels_opens id (by.Server from) (by.Rank to) m = omega arith
travels_opens id (by.Rank from) to m = omega arith

-- what is known of pushes says where each unit and each promise is
pub are_brought : (w : World) (b : Bag) → IsPushed w b → AreBrought w b
are_brought w b pushed = record {
  told = pushed.letters;
  unit = λ id u to stands.
      let some = way_some id b.units u stands.0 (ap is_travelling stands.1) in
      let less = links_le w.config (letters_of (travels_letter id)) (letters_of (open_letter id)) w.links (travels_opens id) in
      let few = pushed.opens id in
      let same = pushed.travels id in
      omega arith;
  promise = λ id p there.
      let less = links_le w.config (letters_of (promised_letter id)) (letters_of (open_letter id)) w.links (promised_opens id) in
      let few = pushed.opens id in
      let same = pushed.rooms id in
      let some : promises_named id b.promises ≢ 0 = λ none.
      let no_one : Some p ≡ None = sym there ∙ not_promised b id none in absurd (cc) in
      omega arith;
}
