use Rattle.std.proofs.Common.{map, slice_get, ap, sym, ◌∙◌}
use Rattle.rank_mail.specs.inside.{LineModel}
use Rattle.rank_mail.proofs.Ends.{line_places, line_lists, line_numbers}
use Rattle.rank_mail.proofs.posts.Post.new.Goals as goal

pub invariant_of-result : goal.invariant_of-result
invariant_of-result c =
    λ k l at. line_numbers c.args.inboxes.now.items c.args.number c.requires k l
    (ap (λ ls. slice_get ls k) (sym c.in_ok-lines.ensures.lines) ∙ at)

pub returns-clause-post : goal.returns-clause-post
returns-clause-post c =
    let bs = c.args.inboxes.now.items in let lines = c.in_ok-lines.ensures.lines in
    let places = ap (map (λ (l : LineModel). l.place)) lines ∙ line_places bs in
    let sent = ap (map (λ (l : LineModel). l.sent)) lines ∙ line_lists bs in
    λ i. record { number = c.args.number; places = places i; sent = sent i }
