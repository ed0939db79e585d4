use Rattle.std.proofs.Common.{◌≡◌, Option, Some, sym, ap, ◌∙◌}
use Rattle.std.specs.Option.{option_map}
use Rattle.std.proofs.lemmas.List.Elements.{All-contains}
use Rattle.adlb_unit.specs.declared.names.UnitId.{UnitId}
use Rattle.adlb_unit.specs.declared.notes.UnitNote.{UnitNote}
use Rattle.work_queue.specs.Facts.{facts_of}
use Rattle.work_queue.specs.Queue.{id_of, with_pin}
use Rattle.work_queue.specs.declared.placing.Placed.{Placed}
use Rattle.server_components.proofs.Granted.{best_there}
use Rattle.server_components.specs.Grants.{note_of, pinned_to}
use Rattle.server_components.proofs.granting.grant.Goals as goal

pub returns-in-Some-clause-note : goal.returns-in-Some-clause-note
returns-in-Some-clause-note c =
    let id = c.in-Some.id in
    let q = c.args.queue.now in
    let best = best_there q c.args.rank c.args.types.now id (sym c.in-Some.ensures.fold) c.in-Some.ensures.free in
    let F : Placed → Type 0 = λ p. id_of p ≡ id → c.pin-facts.result ≡ facts_of p in
    let told = All-contains F q.units best.0 c.pin-facts.ensures.facts best.2.there best.2.has_id in
    ap (λ (n : UnitNote). Some n) (c.note.ensures best.0 told)
    ∙ sym (ap (λ (o : Option Placed). option_map (λ p. note_of c.args.me p.unit) o) best.1)

pub returns-in-Some-clause-pinned : goal.returns-in-Some-clause-pinned
returns-in-Some-clause-pinned c =
    let q = c.args.queue.now in
    let best = best_there q c.args.rank c.args.types.now c.in-Some.id (sym c.in-Some.ensures.fold) c.in-Some.ensures.free in
    c.pin-facts.ensures.pinned ∙ ap (λ (i : UnitId). with_pin q i c.args.rank) (sym best.2.has_id)
    ∙ sym (ap (λ (o : Option Placed). pinned_to c.args.rank o q) best.1)
