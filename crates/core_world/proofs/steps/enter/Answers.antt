use Rattle.std.proofs.Common.{◌++◌, ◌∷◌, ap, ◌∙◌}
use Rattle.std.specs.Vec.Iter.{drain_items}
use Rattle.core_world.proofs.Posting.{between_front}
use Rattle.core_world.proofs.steps.enter.Goals as goal

pub returns-in_err-push-clause-cut : goal.returns-in_err-push-clause-cut
returns-in_err-push-clause-cut c =
    let v = c.loop-entry.invariant in
    let all = v.1 ∙ ap (λ r. v.0 ++ r) c.in-Some.ensures.steps.0 in
    between_front c.args.ledger.now c.push.new.self c.args.entries.now.items v.0 (c.in-Some.entry ∷ drain_items c.next.new.self) all
    (c.in_err-push.ensures.kept ∙ v.2)
