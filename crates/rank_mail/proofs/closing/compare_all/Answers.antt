use Rattle.std.proofs.Common.{◌≡◌, length, set, get_or, slice_get, Some, vec_len, ap, sym, subst, ◌∙◌, rules, arith, below_more}
use Rattle.std.proofs.lemmas.Option.{slice_get_within, get_or_from_slice_get}
use Rattle.rank_mail.specs.inside.{Agrees}
use Rattle.rank_mail.specs.Mailboxes.{InboxModel}
use Rattle.rank_mail.proofs.Lists.{set_same}
use Rattle.rank_mail.proofs.closing.compare_all.Goals as goal

pub loop-k-preserved : goal.loop-k-preserved
loop-k-preserved c =
    let was = c.loop-k.invariant in let k = c.loop-k.k in let bs = c.args.inboxes.now.items in let box = c.index_mut.result.now in
    let here : box ≡ get_or bs k box = c.index_mut.ensures.value ∙ ap (λ l. get_or l k box) was.same in
    let next : (b : InboxModel) → slice_get bs k ≡ Some b → Agrees b =
    λ b at. subst Agrees (here ∙ get_or_from_slice_get bs k b box at) c.compare.ensures.agrees in record {
      end = was.end;
      same = ap (set c.loop-k.inboxes.items k) c.compare.ensures.same
          ∙ set_same c.loop-k.inboxes.items k box c.index_mut.ensures.value ∙ was.same;
      agree = λ j b low.
          below_more (λ j. (b : InboxModel) → slice_get bs j ≡ Some b → Agrees b) k (λ j low b. was.agree j b low) next j low b;
    }

pub returns-clause-agree : goal.returns-clause-agree
returns-clause-agree c = λ j b at.
    let was = c.loop-k.invariant in let bs = c.args.inboxes.now.items in
    let full : length bs ≡ vec_len c.loop-k.inboxes =
    let l : vec_len c.loop-k.inboxes ≡ length c.loop-k.inboxes.items = search rules in sym (l ∙ ap length was.same) in
    was.agree j b (omega (arith, slice_get_within bs j b at, full, was.end, c.loop-k-test.false)) at
