use Rattle.std.proofs.Common.{◌≡◌, ◌+◌, All, length, map, subst, slice_get, vec_len, inl, inr, ap, sym, ◌∙◌, rules}
use Rattle.std.proofs.lemmas.List.{length-map}
use Rattle.std.proofs.lemmas.List.Elements.{All-map}
use Rattle.rank_mail.specs.inside.{with_line}
use Rattle.rank_mail.specs.Mailboxes.{InboxModel, Place, fresh_inbox, fresh_post, places_of}
use Rattle.rank_mail.proofs.Lists.{get_snoc}
use Rattle.rank_mail.proofs.Ends.{senders_fresh, more_fresh, places_fresh}
use Rattle.rank_mail.proofs.closing.make.Goals as goal

pub new-requires : goal.new-requires
new-requires c = λ k b at.
    senders_fresh (places_of c.in_ok-inboxes.inboxes.items) c.loop-number.number k b
    (ap (λ l. slice_get l k) (sym c.loop-number.invariant.fresh) ∙ at)

pub loop-number-preserved : goal.loop-number-preserved
loop-number-preserved c =
    let was = c.loop-number.invariant in let n = c.loop-number.number in let ps = places_of c.in_ok-inboxes.inboxes.items in
    let fresh : c.new.new.inboxes.items ≡ map (fresh_inbox (n + 1)) ps =
    c.in_ok-post.ensures.inboxes ∙ ap (map with_line) was.fresh ∙ more_fresh ps n in
    let post : c.in_ok-post.post ≡ fresh_post n ps = c.in_ok-post.ensures.post ∙ ap (fresh_post n) was.places in
    let before : vec_len c.loop-number.inboxes ≡ length c.loop-number.inboxes.items = search rules in
    let after : vec_len c.new.new.inboxes ≡ length c.new.new.inboxes.items = search rules in
    let kept : length c.new.new.inboxes.items ≡ length c.loop-number.inboxes.items =
    ap length c.in_ok-post.ensures.inboxes ∙ length-map c.loop-number.inboxes.items with_line in
    let count : vec_len c.loop-number.posts ≡ length c.loop-number.posts.items = search rules in record {
      len = c.in_ok-push.ensures.len ∙ ap (λ k. k + 1) was.len;
      boxes = after ∙ kept ∙ sym before ∙ was.boxes;
      places = ap places_of fresh ∙ places_fresh ps (n + 1);
      fresh = fresh;
      posts = λ k p at.
          elim (get_snoc c.loop-number.posts.items c.in_ok-post.post k p (ap (λ l. slice_get l k) (sym c.in_ok-push.ensures.items) ∙ at)) [
            | inl old ↦ was.posts k p old
            | inr new ↦ let k_is : n ≡ k = sym was.len ∙ count ∙ sym new.0 in sym new.1 ∙ post ∙ ap (λ j. fresh_post j ps) k_is
          ];
    }

pub returns-clause-capacity : goal.returns-clause-capacity
returns-clause-capacity c =
    let P : Place → Type 0 = λ p. p.capacity ≡ c.args.capacity in
    let place : InboxModel → Place = λ b. b.place in
    subst (All P) (sym c.loop-number.invariant.places) (All-map P place c.in_ok-inboxes.inboxes.items c.in_ok-inboxes.ensures.capacity)
