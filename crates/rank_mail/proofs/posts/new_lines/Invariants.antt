use Rattle.std.proofs.Common.{◌≡◌, map, take, length, vec_len}
use Rattle.rank_mail.specs.inside.{line_of, with_line}
use Rattle.rank_mail.proofs.Lists.{upto}
use Rattle.rank_mail.proofs.posts.new_lines.Given as goal

abbrev pub invariant-loop-k : goal.invariant-loop-k
invariant-loop-k l = record {
  end : l.k-end ≡ length l.fn.inboxes.items;
  len : vec_len l.inboxes ≡ l.k-end;
  inboxes : l.inboxes.items ≡ upto with_line l.k l.fn.inboxes.items;
  lines : l.lines.items ≡ map line_of (take l.k l.fn.inboxes.items);
}
