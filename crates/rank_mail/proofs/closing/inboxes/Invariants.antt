use Rattle.std.proofs.Common.{◌≡◌, All, map, vec_len}
use Rattle.rank_mail.specs.Mailboxes.{InboxModel, fresh_inbox, places_of}
use Rattle.rank_mail.proofs.closing.inboxes.Given as goal

abbrev pub invariant-loop : goal.invariant-loop
invariant-loop l = record {
  len : vec_len l.all ≡ l.counter;
  fresh : l.all.items ≡ map (fresh_inbox 0) (places_of l.all.items);
  capacity : All (λ (b : InboxModel). b.place.capacity ≡ l.capacity) l.all.items;
}
