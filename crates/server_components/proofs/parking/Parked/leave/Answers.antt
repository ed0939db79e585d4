use Rattle.std.proofs.Common.{rules, vec_len, ◌≡◌, ◌<◌, List, Some, filter, get_or, length, not, ap, sym, subst, ◌∙◌, arith}
use Rattle.std.specs.List.{position}
use Rattle.std.proofs.lemmas.List.Quantifiers.{position-Some}
use Rattle.server_components.proofs.Places.{at_place, nobody, none_at, of_tells}
use Rattle.server_components.proofs.Sound.{gone_sound}
use Rattle.server_components.proofs.Taken.{none_out, taken_out}
use Rattle.server_components.specs.Calls.{gone}
use Rattle.server_components.specs.inside.Reserving.{parked_of}
use Rattle.server_components.specs.Parked.{IsParked, ParkedModel, is_of, with_waiting}
use Rattle.server_components.specs.declared.waits.Waiting.{Waiting}
use Rattle.server_components.proofs.parking.Parked.leave.Goals as goal

pub remove-left-requires : goal.remove-left-requires
remove-left-requires c =
    let there = sym c.place_of.ensures ∙ c.in-Some.is in
    let within = subst (λ (m : ParkedModel). c.in-Some.place < length m.parked.waiting) (sym c.self.view_is)
    (position-Some (is_of c.args.rank) c.args.self.now.parked.waiting c.in-Some.place (nobody c.args.rank) there).0 in
    let same : length c.self.inside.waiting.items ≡ vec_len c.self.inside.waiting = search rules in
    omega (arith, within, same)

-- who waited at the place is taken out
left : (c : goal.After-remove-left) → c.remove-left.new.self.items ≡ filter (λ e. not (is_of c.args.rank e)) c.self.inside.waiting.items
left c =
    let waiting = c.self.inside.waiting.items in
    let there = subst (λ (m : ParkedModel). position (is_of c.args.rank) m.parked.waiting ≡ Some c.in-Some.place) (sym c.self.view_is)
    (sym c.place_of.ensures ∙ c.in-Some.is) in
    let at = at_place (is_of c.args.rank) c.args.rank (of_tells c.args.rank) waiting c.self.invariant.sound.once c.in-Some.place
    (nobody c.args.rank) there in
    c.remove-left.ensures.items
    ∙ taken_out (is_of c.args.rank) waiting c.in-Some.place (get_or waiting c.in-Some.place (nobody c.args.rank)) at

pub invariant_of-self : goal.invariant_of-self
invariant_of-self c =
    let m = parked_of c.self.inside in
    let P : List Waiting → Type 0 = λ l. IsParked (with_waiting m l) in
    record {
      sound = subst P (sym (left c)) (gone_sound m c.args.rank c.self.invariant.sound);
      room = omega (arith, c.remove-left.ensures.capacity, c.self.invariant.room);
      wish_room = c.self.invariant.wish_room;
    }

pub returns-in-Some : goal.returns-in-Some
returns-in-Some c =
    ap (λ (l : List Waiting). with_waiting (parked_of c.self.inside) l) (left c)
    ∙ ap (λ (m : ParkedModel). gone m c.args.rank) c.self.view_is

pub returns-in_default : goal.returns-in_default
returns-in_default c =
    let m = c.args.self.now in
    let fails = none_at (is_of c.args.rank) m.parked.waiting (sym c.place_of.ensures ∙ c.in_default.is) in
    ap (λ (l : List Waiting). with_waiting m l) (none_out (is_of c.args.rank) m.parked.waiting fails)
