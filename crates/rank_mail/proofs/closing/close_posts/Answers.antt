use Rattle.std.proofs.Common.{◌≡◌, ◌+◌, ◌∷◌, drop, slice_get, ap, sym, ◌∙◌, arith, add-one}
use Rattle.std.specs.Vec.Iter.{into_iter_items}
use Rattle.rank_mail.specs.inside.{closed_by, all_closed}
use Rattle.rank_mail.specs.Mailboxes.{places_of}
use Rattle.rank_mail.proofs.Lists.{get_of_drop, rest_of_drop}
use Rattle.rank_mail.proofs.Ends.{places_closed, closed_longer}
use Rattle.rank_mail.proofs.closing.close_posts.Goals as goal

pub close-requires-clause-next : goal.close-requires-clause-next
close-requires-clause-next c = λ k b at.
    let was = c.loop-post.invariant in
    let post = c.requires.posts was.0 c.in-Some.post (get_of_drop c.args.posts.items _ was.0 _ (sym was.2 ∙ c.in-Some.ensures.steps.0)) in
    was.4 k b at ∙ sym post.0

pub loop-post-preserved : goal.loop-post-preserved
loop-post-preserved c =
    let was = c.loop-post.invariant in let step = c.in-Some.ensures.steps in let posts = c.args.posts.items in
    let all = c.loop-post.all.items in
    let sent = c.in-Some.post.sent in
    let first : drop was.0 posts ≡ c.in-Some.post ∷ into_iter_items c.next.new.self = sym was.2 ∙ step.0 in
    let new : c.close.new.inboxes.items ≡ closed_by all sent = c.close.ensures in (
      was.0 + 1,
      omega (arith, was.1, step.1),
      rw add-one (rest_of_drop posts _ was.0 _ first),
      ap places_of new ∙ places_closed all sent ∙ was.3,
      (λ k b at. closed_longer all sent was.0 was.4 k b (ap (λ l. slice_get l k) (sym new) ∙ at)),
      (λ i. all_closed (new i) (into_iter_items c.next.new.self)) ∙ ap (all_closed all) (sym step.0) ∙ was.5,
    )
