use Rattle.std.proofs.Common.{◌≡◌, ◌+◌, map, take, drop, length, vec_len}
use Rattle.std.specs.Vec.Iter.{into_iter_items, into_iter_len}
use Rattle.rank_mail.proofs.Ends.{front_closed}
use Rattle.rank_mail.proofs.posts.close_lines.Given as goal

abbrev pub invariant-loop-line : goal.invariant-loop-line
invariant-loop-line l = record {
  len : vec_len l.inboxes ≡ length l.fn.inboxes.items;
  count : l.k + into_iter_len l.line-iterator ≡ length l.fn.lines.items;
  rest : into_iter_items l.line-iterator ≡ drop l.k l.fn.lines.items;
  inboxes : l.inboxes.items ≡ front_closed l.fn.inboxes.items (take l.k (map (λ x. x.sent) l.fn.lines.items));
}
