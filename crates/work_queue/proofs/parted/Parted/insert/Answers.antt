use Rattle.std.proofs.Common.{◌++◌, ap, arith, ◌∙◌, sym}
use Rattle.std.specs.List.{insert}
use Rattle.std.proofs.lemmas.List.Edits.{insert-append_right}
use Rattle.work_queue.proofs.parted.Parted.insert.Goals as goal

pub returns-else-place-ahead-clause-items : goal.returns-else-place-ahead-clause-items
returns-else-place-ahead-clause-items g c =
    let front = c.self.inside.front.items in
    ap (λ l. front ++ l) c.put_in-else-place-ahead.ensures.items
    ∙ sym (insert-append_right front c.self.inside.back.items c.len-ahead.result c.args.place c.args.item (omega arith) (omega arith))
    ∙ ap (λ l. insert l c.args.place c.args.item) (ap (λ r. r.items) c.self.view_is ∙ c.meet_near.ensures.items)
