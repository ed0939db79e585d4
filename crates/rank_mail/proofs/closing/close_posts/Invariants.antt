use Rattle.std.proofs.Common.{◌≡◌, ◌+◌, ℕ, length, drop, slice_get, Some}
use Rattle.std.specs.Vec.Iter.{into_iter_items, into_iter_len}
use Rattle.rank_mail.specs.inside.{all_closed}
use Rattle.rank_mail.specs.Mailboxes.{InboxModel, places_of}
use Rattle.rank_mail.proofs.closing.close_posts.Given as goal

abbrev pub invariant-loop-post : goal.invariant-loop-post
invariant-loop-post l =
    (n : ℕ)
    × (n + into_iter_len l.post-iterator ≡ length l.fn.posts.items)
    × (into_iter_items l.post-iterator ≡ drop n l.fn.posts.items)
    × (places_of l.all.items ≡ places_of l.fn.inboxes.items)
    × ((k : ℕ) (b : InboxModel) → slice_get l.all.items k ≡ Some b → length b.closed ≡ n)
    × (all_closed l.all.items (into_iter_items l.post-iterator) ≡ all_closed l.fn.inboxes.items l.fn.posts.items)
