use Rattle.std.proofs.Common.{◌≡◌, List, filter, not, ap, sym, subst, ◌∙◌, arith, rules}
use Rattle.std.proofs.lemmas.Fn.{filter_same}
use Rattle.server_components.proofs.Sound.{forgotten_sound}
use Rattle.server_components.specs.Calls.{forgotten}
use Rattle.server_components.specs.inside.Reserving.{parked_of}
use Rattle.server_components.specs.Parked.{IsParked, ParkedModel, is_by, with_wishes}
use Rattle.server_components.specs.declared.wishes.Wish.{Wish}
use Rattle.server_components.proofs.parking.Parked.forget.Goals as goal

left : (c : goal.After-retain) → c.retain.new.self.items ≡ filter (λ w. not (is_by c.args.rank w)) c.self.inside.wishes.items
left c = filter_same _ (λ w. not (is_by c.args.rank w)) _ (λ x b f' k. search rules) _ _ c.retain.ensures.filtered

pub invariant_of-self : goal.invariant_of-self
invariant_of-self c =
    let m = parked_of c.self.inside in
    let P : List Wish → Type 0 = λ l. IsParked (with_wishes m l) in
    record {
      sound = subst P (sym (left c)) (forgotten_sound m c.args.rank c.self.invariant.sound);
      room = c.self.invariant.room;
      wish_room = omega (arith, c.retain.ensures.capacity, c.self.invariant.wish_room);
    }

pub returns : goal.returns
returns c =
    ap (λ (l : List Wish). with_wishes (parked_of c.self.inside) l) (left c)
    ∙ ap (λ (m : ParkedModel). forgotten m c.args.rank) c.self.view_is
