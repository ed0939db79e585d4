use Rattle.std.proofs.Common.{rules, arith, vec_len, ◌≡◌, ◌<◌, length, set, Some, refl, ap, sym, subst, ◌∙◌}
use Rattle.std.specs.List.{slice_get}
use Rattle.std.proofs.lemmas.Option.{get_or_from_slice_get}
use Rattle.server_components.proofs.Sound.{next_waits, write_sound}
use Rattle.server_components.specs.Calls.{asks_next, step_of}
use Rattle.server_components.specs.inside.Reserving.{parked_of}
use Rattle.server_components.specs.Parked.{IsParked, ParkedModel, with_waiting}
use Rattle.server_components.specs.declared.waits.Waiting.{Waiting}
use Rattle.server_components.proofs.parking.Parked.ask_next.Goals as goal

pub index_mut-requires : goal.index_mut-requires
index_mut-requires c =
    let within = subst (λ (m : ParkedModel). c.args.place < length m.parked.waiting) (sym c.self.view_is) c.requires in
    let same : length c.self.inside.waiting.items ≡ vec_len c.self.inside.waiting = search rules in
    omega (arith, within, same)

-- who waits at the place
one : (c : goal.After-self-1) (e : Waiting) → slice_get c.args.self.now.parked.waiting c.args.place ≡ Some e
    → c.index_mut.result.now ≡ e
one c e here =
    let back = subst (λ (m : ParkedModel). slice_get m.parked.waiting c.args.place ≡ Some e) (sym c.self.view_is) here in
    c.index_mut.ensures.value ∙ get_or_from_slice_get c.self.inside.waiting.items c.args.place e c.index_mut.result.now back

pub invariant_of-self : goal.invariant_of-self
invariant_of-self c =
    let m = parked_of c.self.inside in
    let P : Waiting → Type 0 = λ x. IsParked (with_waiting m (set m.parked.waiting c.args.place x)) in
    let within = subst (λ (n : ParkedModel). c.args.place < length n.parked.waiting) (sym c.self.view_is) c.requires in
    record {
      sound = subst P (sym c.ask_next.ensures.asked) (write_sound m c.args.place c.index_mut.result.now asks_next c.self.invariant.sound
          within (sym c.index_mut.ensures.value) (next_waits m.config m.me) (λ x. refl));
      room = c.self.invariant.room;
      wish_room = c.self.invariant.wish_room;
    }

pub returns-clause-step : goal.returns-clause-step
returns-clause-step c e here =
    c.ask_next.ensures.step
    ∙ ap (λ (x : Waiting). step_of x.asked) (c.ask_next.ensures.asked ∙ ap (λ (x : Waiting). asks_next x) (one c e here))

pub returns-clause-asked : goal.returns-clause-asked
returns-clause-asked c e here =
    let m = parked_of c.self.inside in
    ap (λ (x : Waiting). with_waiting m (set m.parked.waiting c.args.place x))
    (c.ask_next.ensures.asked ∙ ap (λ (x : Waiting). asks_next x) (one c e here))
    ∙ ap (λ (m : ParkedModel). with_waiting m (set m.parked.waiting c.args.place (asks_next e))) c.self.view_is
