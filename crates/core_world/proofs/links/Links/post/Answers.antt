use Rattle.std.proofs.Common.{◌≡◌, ◌∷◌, ◌++◌, [], ap, sym, ◌∙◌, List}
use Rattle.std.specs.Vec.Iter.{drain_items}
use Rattle.adlb_unit.specs.Links.{place_of}
use Rattle.adlb_unit.specs.declared.letters.Sending.{Sending}
use Rattle.core_run.specs.World.{Links, link, post, put_link}
use Rattle.core_world.proofs.Posting.{post_none, post_one}
use Rattle.core_world.proofs.links.Links.post.Goals as goal

pub loop-sending-preserved : goal.loop-sending-preserved
loop-sending-preserved c =
    let config = c.args.config.now in
    let links = c.loop-sending.self in
    let rest = drain_items c.next.new.self in
    let x = c.in-Some.sending in
    let pushed : c.push.new.self
    ≡ put_link links c.args.from (place_of config x.to) (link links c.args.from (place_of config x.to) ++ x.letter ∷ []) =
    c.in_ok-push.ensures ∙ ap (λ to. put_link links c.args.from to (link links c.args.from to ++ x.letter ∷ [])) c.place_of.ensures in
    let was = c.loop-sending.invariant in
    record {
      posted = ap (λ (l : Links). post config l c.args.from rest) pushed ∙ sym (post_one config links c.args.from x rest)
          ∙ ap (λ (r : List Sending). post config links c.args.from r) (sym c.in-Some.ensures.steps.0) ∙ was.posted;
      room = c.in-Some.ensures.steps.2.2 ∙ was.room;
    }

pub returns-clause-posted : goal.returns-clause-posted
returns-clause-posted c =
    let config = c.args.config.now in
    let links = c.loop-sending.self in
    sym (post_none config links c.args.from)
    ∙ ap (λ (r : List Sending). post config links c.args.from r) (sym c.in-None.ensures.steps.0) ∙ c.loop-sending.invariant.posted
