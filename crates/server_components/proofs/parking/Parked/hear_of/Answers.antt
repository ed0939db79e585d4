use Rattle.std.proofs.Common.{rules, arith, vec_len, ◌≡◌, ◌<◌, length, set, Option, Some, None, ap, sym, subst, ◌∙◌}
use Rattle.std.specs.List.{slice_get}
use Rattle.std.specs.Prelude.{if◌then◌else◌}
use Rattle.std.proofs.lemmas.Option.{get_or_from_slice_get}
use Rattle.adlb_unit.specs.declared.names.Server.{Server}
use Rattle.server_components.proofs.Sound.{heard_waits, heard_wish, write_sound}
use Rattle.server_components.specs.Calls.{hears_of}
use Rattle.server_components.specs.inside.Reserving.{parked_of}
use Rattle.server_components.specs.Parked.{IsOther, IsParked, IsWaiting, ParkedModel, is_idle, with_waiting}
use Rattle.server_components.specs.declared.waits.Waiting.{Waiting}
use Rattle.server_components.proofs.parking.Parked.hear_of.Goals as goal

pub index_mut-requires : goal.index_mut-requires
index_mut-requires c =
    let within = subst (λ (m : ParkedModel). c.args.place < length m.parked.waiting) (sym c.self.view_is) c.requires.there in
    let same : length c.self.inside.waiting.items ≡ vec_len c.self.inside.waiting = search rules in
    omega (arith, within, same)

pub hear_of-requires-clause-ring : goal.hear_of-requires-clause-ring
hear_of-requires-clause-ring c = c.self.invariant.sound.there

pub hear_of-requires-clause-settled : goal.hear_of-requires-clause-settled
hear_of-requires-clause-settled c =
    let m = parked_of c.self.inside in
    let within = subst (λ (n : ParkedModel). c.args.place < length n.parked.waiting) (sym c.self.view_is) c.requires.there in
    (subst (λ (x : Waiting). IsWaiting m.config m.me x) (sym c.index_mut.ensures.value)
    (c.self.invariant.sound.each c.args.place c.index_mut.result.now within)).settled

-- who waits at the place
one : (c : goal.After-self-1) (e : Waiting) → slice_get c.args.self.now.parked.waiting c.args.place ≡ Some e
    → c.index_mut.result.now ≡ e
one c e here =
    let back = subst (λ (m : ParkedModel). slice_get m.parked.waiting c.args.place ≡ Some e) (sym c.self.view_is) here in
    c.index_mut.ensures.value ∙ get_or_from_slice_get c.self.inside.waiting.items c.args.place e c.index_mut.result.now back

pub invariant_of-self : goal.invariant_of-self
invariant_of-self c =
    let m = parked_of c.self.inside in
    let P : Waiting → Type 0 = λ x. IsParked (with_waiting m (set m.parked.waiting c.args.place x)) in
    let within = subst (λ (n : ParkedModel). c.args.place < length n.parked.waiting) (sym c.self.view_is) c.requires.there in
    let other = subst (λ (n : ParkedModel). IsOther n.config n.me c.args.from) (sym c.self.view_is) c.requires.other in
    record {
      sound = subst P (sym c.hear_of.ensures.heard) (write_sound m c.args.place c.index_mut.result.now
          (hears_of m.config m.me c.args.from) c.self.invariant.sound within (sym c.index_mut.ensures.value)
          (heard_waits m.config m.me c.args.from c.self.invariant.sound.there other) (heard_wish m.config m.me c.args.from));
      room = c.self.invariant.room;
      wish_room = c.self.invariant.wish_room;
    }

pub returns-clause-ask : goal.returns-clause-ask
returns-clause-ask c e here =
    let answer : Waiting → Option Server = λ x. if is_idle x then Some c.args.from else None in
    c.hear_of.ensures.asked ∙ ap answer (one c e here)

pub returns-clause-heard : goal.returns-clause-heard
returns-clause-heard c e here =
    let m = parked_of c.self.inside in
    let heard : Waiting → Waiting = λ x. hears_of m.config m.me c.args.from x in
    ap (λ (x : Waiting). with_waiting m (set m.parked.waiting c.args.place x)) (c.hear_of.ensures.heard ∙ ap heard (one c e here))
    ∙ ap (λ (n : ParkedModel). with_waiting n (set n.parked.waiting c.args.place (hears_of n.config n.me c.args.from e))) c.self.view_is
