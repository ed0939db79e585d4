use Rattle.std.proofs.Common.{◌||◌, ◌∙◌, ap, sym}
use Rattle.rank_client.specs.Calls.{is_fetched, is_granted}
use Rattle.rank_client.proofs.Naming.{named_more}
use Rattle.rank_client.proofs.said.Transcript.add.Goals as goal

pub invariant_of-self : goal.invariant_of-self
invariant_of-self c id =
    named_more c.self.inside.said.items c.args.said.now id _ _ _ (c.add_fetched.ensures.added id) (c.add_granted.ensures.added id)
    (c.self.invariant id)
    ∙ ap (λ l. is_granted id l || is_fetched id l) (sym c.and-self-inside.ensures)
