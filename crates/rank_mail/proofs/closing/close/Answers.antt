use Rattle.std.proofs.Common.{◌≡◌, ℕ, List, slice_get, Some, map, ap, sym, subst, ◌∙◌}
use mathlib.Core.List.{IsPrefix}
use Rattle.rank_mail.specs.inside.{Agrees, all_closed}
use Rattle.rank_mail.specs.Mailboxes.{ClosedModel, InboxModel, got_on, sent_on}
use Rattle.rank_mail.proofs.Ends.{got_is, sent_is, prefix_is}
use Rattle.rank_mail.proofs.closing.close.Goals as goal

abbrev seen_as : List InboxModel → ClosedModel
seen_as all = record { got = map (λ b. b.got) all; sent = map (λ b. b.closed) all }

pub returns-clause-sent : goal.returns-clause-sent
returns-clause-sent c = λ from to p at within.
    ap (λ all. sent_on (seen_as all) from to) c.close_posts.ensures.all
    ∙ sent_is c.args.inboxes.items c.args.posts.items c.requires.fresh from to p at within

pub returns-clause-got : goal.returns-clause-got
returns-clause-got c = λ from to b at.
    ap (λ all. got_on (seen_as all) from to) c.close_posts.ensures.all
    ∙ got_is c.args.inboxes.items c.args.posts.items c.requires.fresh from to b at

pub returns-clause-prefix : goal.returns-clause-prefix
returns-clause-prefix c = λ from to inside within.
    let all = c.close_posts.ensures.all in
    let agree : (j : ℕ) (b : InboxModel) → slice_get (all_closed c.args.inboxes.items c.args.posts.items) j ≡ Some b → Agrees b =
    λ j b at. c.close_posts.ensures.agree j b (ap (λ l. slice_get l j) all ∙ at) in
    subst (λ (l : List InboxModel). IsPrefix (got_on (seen_as l) from to) (sent_on (seen_as l) from to)) (sym all)
    (prefix_is c.args.inboxes.items c.args.posts.items c.requires.fresh agree from to inside within)
