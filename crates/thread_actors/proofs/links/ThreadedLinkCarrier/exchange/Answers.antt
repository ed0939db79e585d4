use Rattle.thread_actors.proofs.Prelude.{RankLink, ap, link_in, link_of, subst}
use Rattle.rank_client.specs.Link.{Made}
use Rattle.thread_actors.proofs.Called.{link_can}
use Rattle.thread_actors.proofs.links.ThreadedLinkCarrier.exchange.Goals as goal

pub call-came-requires-clause-can : goal.call-came-requires-clause-can
call-came-requires-clause-can g c =
    link_can c.self.inside.wire.core c.args.self.now (ap link_in c.self.view_is) c.args.call c.requires.can c.requires.granted

pub returns-clause-made : goal.returns-clause-made
returns-clause-made g c =
    let t = c.call-came.new.self.core in
    let made = c.call-came.ensures.came.made in
    subst (λ (l : RankLink). Made (link_in l) (link_of t.config t.me t) c.args.call c.call-came.result) c.self.view_is made
