use Rattle.std.proofs.Common.{◌++◌, ap, arith, ◌∙◌, sym}
use Rattle.std.specs.List.{remove}
use Rattle.std.proofs.lemmas.List.Edits.{remove-append_right}
use Rattle.work_queue.proofs.Parting.{after_some}
use Rattle.work_queue.proofs.parted.Parted.remove.Goals as goal

pub returns-else-place-ahead-clause-items : goal.returns-else-place-ahead-clause-items
returns-else-place-ahead-clause-items g c = after_some c.remove-else-place-ahead.result
    (λ taken. ap (λ l. c.self.inside.front.items ++ l) taken
    ∙ sym (remove-append_right c.self.inside.front.items c.self.inside.back.items c.len-ahead.result c.args.place (omega arith)
    (omega arith))
    ∙ ap (λ l. remove l c.args.place) (ap (λ r. r.items) c.self.view_is ∙ c.meet_near.ensures.items))
    c.remove-else-place-ahead.ensures.items
