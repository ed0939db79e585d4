use Rattle.bag_law.proofs.Dues.{made_due, none_due, not_due}
use Rattle.bag_law.proofs.Facts.{are_found, are_used, batch_is_open, fetch_is_pinned, owed_is_kept, part_counts, put_is_new}
use Rattle.bag_law.proofs.Facts.{unspent_is_kept}
use Rattle.bag_law.proofs.laws.sound_bag_laws.Goals as goal

pub returns : goal.returns
returns c = record {
  put_is_new = put_is_new;
  are_found = are_found;
  are_used = are_used;
  part_counts = part_counts;
  unspent_is_kept = unspent_is_kept;
  owed_is_kept = owed_is_kept;
  fetch_is_pinned = fetch_is_pinned;
  batch_is_open = batch_is_open;
  made_due = λ found b e l is. made_due found b e l is.batches;
  none_due = none_due;
  not_due = not_due;
}
