use Rattle.std.proofs.Common.{◌≡◌, ◌∷◌, ◌++◌, [], refl, rules}
use Rattle.job_text.proofs.SoFar.{item_added}
use Rattle.job_text.proofs.reading.Reading.with_item.Goals as goal

pub returns-clause-extends : goal.returns-clause-extends
returns-clause-extends c =
    let more : c.push.new.self.items ≡ c.in-Some.batch.items.items ++ c.in-Some-item.item ∷ [] = search rules in
    item_added c.args.self _ c.in-Some.batch (record { common = c.in-Some.batch.common; items = c.push.new.self }) c.args.item
    c.in-Some-item.item c.in-Some.is c.in-Some-item.is refl refl refl more
