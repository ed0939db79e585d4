use Rattle.std.proofs.Common.{◌≡◌, ℕ, map, vec_len, slice_get, Some}
use Rattle.rank_mail.specs.Mailboxes.{PostModel, fresh_inbox, fresh_post, places_of}
use Rattle.rank_mail.proofs.closing.make.Given as goal

abbrev pub invariant-loop-number : goal.invariant-loop-number
invariant-loop-number l = record {
  len : vec_len l.posts ≡ l.number;
  boxes : vec_len l.inboxes ≡ l.count;
  places : places_of l.inboxes.items ≡ places_of l.initial.inboxes.items;
  fresh : l.inboxes.items ≡ map (fresh_inbox l.number) (places_of l.initial.inboxes.items);
  posts : (k : ℕ) (p : PostModel) → slice_get l.posts.items k ≡ Some p → p ≡ fresh_post k (places_of l.initial.inboxes.items);
}
