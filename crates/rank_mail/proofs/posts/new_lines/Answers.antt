use Rattle.std.proofs.Common.{◌≡◌, ◌<◌, ◌++◌, ◌∷◌, [], length, map, set, get_or, vec_len, ap, sym, ◌∙◌, rules, arith, add-one}
use Rattle.rank_mail.specs.inside.{line_of, with_line}
use Rattle.rank_mail.proofs.Lists.{upto_none, upto_at, upto_next, upto_all, map_take_next, take_whole}
use Rattle.rank_mail.proofs.posts.new_lines.Goals as goal

pub loop-k-init : goal.loop-k-init
loop-k-init c =
    let full : vec_len c.args.inboxes.now ≡ length c.args.inboxes.now.items = search rules in record {
      end = c.len-k-end.ensures ∙ full;
      len = sym c.len-k-end.ensures;
      inboxes = sym (upto_none with_line c.args.inboxes.now.items);
      lines = c.new-lines.ensures.items;
    }

pub loop-k-preserved : goal.loop-k-preserved
loop-k-preserved c =
    let was = c.loop-k.invariant in let k = c.loop-k.k in let xs = c.args.inboxes.now.items in let box = c.index_mut.result.now in
    let below : k < length xs = omega (arith, was.end, c.loop-k-test.true) in
    let at : box ≡ get_or xs k box = c.index_mut.ensures.value ∙ ap (λ l. get_or l k box) was.inboxes ∙ upto_at with_line k xs box in
    record {
      end = was.end;
      len = was.len;
      inboxes = rw add-one (
          ap (set c.loop-k.inboxes.items k) c.in_ok-line.ensures.inbox
          ∙ (λ i. set (was.inboxes i) k (with_line (at i)))
          ∙ upto_next with_line k xs box below
          );
      lines = rw add-one (
          c.in_ok-push.ensures.items
          ∙ (λ i. was.lines i ++ (c.in_ok-line.ensures.line ∙ ap line_of at) i ∷ [])
          ∙ map_take_next line_of k xs box below
          );
    }

pub returns-clause-lines : goal.returns-clause-lines
returns-clause-lines c =
    let was = c.loop-k.invariant in let xs = c.args.inboxes.now.items in
    was.lines ∙ ap (map line_of) (take_whole xs c.loop-k.k (omega (arith, was.end, c.loop-k-test.false, c.loop-k.auto.k-end)))

pub returns-clause-inboxes : goal.returns-clause-inboxes
returns-clause-inboxes c =
    let was = c.loop-k.invariant in
    was.inboxes ∙ upto_all with_line c.loop-k.k c.args.inboxes.now.items (omega (arith, was.end, c.loop-k-test.false, c.loop-k.auto.k-end))
