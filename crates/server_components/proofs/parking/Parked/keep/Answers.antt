use Rattle.std.proofs.Common.{◌≡◌, ◌++◌, ◌∷◌, [], List, filter, length, not, ap, sym, subst, ◌∙◌, arith, rules}
use Rattle.std.proofs.lemmas.Fn.{filter_same}
use Rattle.server_components.proofs.Sound.{wish_left, wished_sound}
use Rattle.server_components.specs.Calls.{wished}
use Rattle.server_components.specs.inside.Reserving.{parked_of}
use Rattle.server_components.specs.Parked.{IsAway, IsParked, ParkedModel, is_by, with_wishes}
use Rattle.server_components.specs.declared.wishes.Wish.{Wish}
use Rattle.server_components.proofs.parking.Parked.keep.Goals as goal

left : (c : goal.After-push_reserved) → c.retain.new.self.items ≡ filter (λ w. not (is_by c.args.wish.rank w)) c.self.inside.wishes.items
left c = filter_same _ (λ w. not (is_by c.args.wish.rank w)) _ (λ x b f' k. search rules) _ _ c.retain.ensures.filtered

away : (c : goal.After-push_reserved) → IsAway c.self.inside.config c.self.inside.me c.args.wish.rank
away c = subst (λ (m : ParkedModel). IsAway m.config m.me c.args.wish.rank) (sym c.self.view_is) c.requires

pub push_reserved-requires : goal.push_reserved-requires
push_reserved-requires c =
    let m = parked_of c.self.inside in
    let away = subst (λ (m : ParkedModel). IsAway m.config m.me c.args.wish.rank) (sym c.self.view_is) c.requires in
    let room = wish_left m c.args.wish away c.self.invariant.sound in
    let left : c.retain.new.self.items ≡ filter (λ w. not (is_by c.args.wish.rank w)) c.self.inside.wishes.items =
    filter_same _ (λ w. not (is_by c.args.wish.rank w)) _ (λ x b f' k. search rules) c.self.inside.wishes.items c.retain.new.self.items
    c.retain.ensures.filtered in
    let long : length c.retain.new.self.items ≡ length (filter (λ w. not (is_by c.args.wish.rank w)) c.self.inside.wishes.items) =
    ap (λ (l : List Wish). length l) left in
    omega (arith, room, long, c.retain.ensures.capacity, c.self.invariant.wish_room)

after : (c : goal.After-push_reserved)
    → c.push_reserved.new.self.items ≡ filter (λ w. not (is_by c.args.wish.rank w)) c.self.inside.wishes.items ++ c.args.wish ∷ []
after c = c.push_reserved.ensures.items ∙ ap (λ (l : List Wish). l ++ c.args.wish ∷ []) (left c)

pub invariant_of-self : goal.invariant_of-self
invariant_of-self c =
    let m = parked_of c.self.inside in
    let P : List Wish → Type 0 = λ l. IsParked (with_wishes m l) in
    record {
      sound = subst P (sym (after c)) (wished_sound m c.args.wish (away c) c.self.invariant.sound);
      room = c.self.invariant.room;
      wish_room = omega (arith, c.push_reserved.ensures.capacity, c.retain.ensures.capacity, c.self.invariant.wish_room);
    }

pub returns : goal.returns
returns c =
    ap (λ (l : List Wish). with_wishes (parked_of c.self.inside) l) (after c)
    ∙ ap (λ (m : ParkedModel). wished m c.args.wish) c.self.view_is
