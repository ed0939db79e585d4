use Rattle.std.proofs.Common.{◌≡◌, ◌<◌, ◌∷◌, ℕ, List, length, map, take, drop, set, get_or, slice_get, Some, ap, sym, ◌∙◌, arith, add-one}
use Rattle.std.specs.Vec.Iter.{into_iter_items}
use Rattle.std.specs.Option.{option_map}
use Rattle.std.proofs.lemmas.List.{length-map}
use Rattle.std.proofs.lemmas.Option.{slice_get_within, slice_get-map}
use Rattle.adlb_unit.specs.declared.letters.Letter.{Letter}
use Rattle.rank_mail.specs.inside.{LineModel}
use Rattle.rank_mail.specs.Mailboxes.{InboxModel}
use Rattle.rank_mail.proofs.Lists.{get_of_drop, rest_of_drop, get_there, take_whole}
use Rattle.rank_mail.proofs.Ends.{front_closed, front_at, front_next, front_whole, place_at, same_length}
use Rattle.rank_mail.proofs.posts.close_lines.Goals as goal

abbrev lists : List LineModel → List (List Letter)
lists ls = map (λ x. x.sent) ls

-- the inbox at the place is as it was
was_there : (bs now : List InboxModel) (ls : List LineModel) (k : ℕ) (b : InboxModel) → b ≡ get_or now k b
    → now ≡ front_closed bs (take k (lists ls)) → k < length ls → b ≡ get_or bs k b
was_there bs now ls k b value is below =
    value ∙ ap (λ l. get_or l k b) is ∙ front_at bs (lists ls) k b (omega (arith, below, length-map ls (λ x. x.sent)))

pub close_line-requires-clause-place : goal.close_line-requires-clause-place
close_line-requires-clause-place c =
    let was = c.loop-line.invariant in let k = c.loop-line.k in let bs = c.args.inboxes.now.items in let ls = c.args.lines.items in
    let box = c.index_mut.result.now in
    let here : slice_get ls k ≡ Some c.in-Some.line = get_of_drop ls _ k _ (sym was.rest ∙ c.in-Some.ensures.steps.0) in
    let low : k < length ls = slice_get_within ls k _ here in
    let below : k < length bs = omega (arith, low, same_length bs ls c.requires.places) in
    place_at bs ls k box c.in-Some.line c.requires.places here (was_there bs _ ls k box c.index_mut.ensures.value was.inboxes low) below

pub close_line-requires-clause-next : goal.close_line-requires-clause-next
close_line-requires-clause-next c =
    let was = c.loop-line.invariant in let k = c.loop-line.k in let bs = c.args.inboxes.now.items in let ls = c.args.lines.items in
    let box = c.index_mut.result.now in
    let here : slice_get ls k ≡ Some c.in-Some.line = get_of_drop ls _ k _ (sym was.rest ∙ c.in-Some.ensures.steps.0) in
    let low : k < length ls = slice_get_within ls k _ here in
    let below : k < length bs = omega (arith, low, same_length bs ls c.requires.places) in
    let at = get_there bs k box (was_there bs _ ls k box c.index_mut.ensures.value was.inboxes low) below in
    c.requires.from k c.in-Some.line here ∙ sym (c.requires.next k box at)

pub loop-line-preserved : goal.loop-line-preserved
loop-line-preserved c =
    let was = c.loop-line.invariant in let k = c.loop-line.k in let bs = c.args.inboxes.now.items in let ls = c.args.lines.items in
    let box = c.index_mut.result.now in let step = c.in-Some.ensures.steps in
    let first : drop k ls ≡ c.in-Some.line ∷ into_iter_items c.next.new.self = sym was.rest ∙ step.0 in
    let here : slice_get ls k ≡ Some c.in-Some.line = get_of_drop ls _ k _ first in
    let sent : slice_get (lists ls) k ≡ Some c.in-Some.line.sent = slice_get-map (λ x. x.sent) ls k ∙ ap (option_map (λ x. x.sent)) here in
    let low : k < length ls = slice_get_within ls k _ here in
    let below : k < length bs = omega (arith, low, same_length bs ls c.requires.places) in
    let at : box ≡ get_or bs k box = was_there bs _ ls k box c.index_mut.ensures.value was.inboxes low in record {
      len = was.len;
      count = omega (arith, was.count, step.1);
      rest = rw add-one (rest_of_drop ls _ k _ first);
      inboxes =
          rw add-one
          ((λ i. set (was.inboxes i) k (c.close_line.ensures i)) ∙ front_next bs (lists ls) k box c.in-Some.line.sent sent at below);
    }

pub returns : goal.returns
returns c =
    let was = c.loop-line.invariant in let k = c.loop-line.k in let bs = c.args.inboxes.now.items in let ls = c.args.lines.items in
    let whole : k ≡ length (lists ls) = omega (arith, was.count, c.in-None.ensures.steps.0, length-map ls (λ x. x.sent)) in
    let long : length (lists ls) ≡ length bs = length-map ls (λ x. x.sent) ∙ same_length bs ls c.requires.places in
    was.inboxes ∙ ap (front_closed bs) (take_whole (lists ls) k whole) ∙ front_whole bs (lists ls) long
