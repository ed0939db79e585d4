use Rattle.std.proofs.Common.{◌≡◌, ◌<◌, ℕ, vec_len, slice_get, Some}
use Rattle.rank_mail.specs.inside.{Agrees}
use Rattle.rank_mail.specs.Mailboxes.{InboxModel}
use Rattle.rank_mail.proofs.closing.compare_all.Given as goal

abbrev pub invariant-loop-k : goal.invariant-loop-k
invariant-loop-k l = record {
  end : l.k-end ≡ vec_len l.inboxes;
  same : l.inboxes.items ≡ l.fn.inboxes.items;
  agree : (j : ℕ) (b : InboxModel) → j < l.k → slice_get l.fn.inboxes.items j ≡ Some b → Agrees b;
}
