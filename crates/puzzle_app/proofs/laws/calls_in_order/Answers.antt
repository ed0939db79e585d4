use Rattle.puzzle_app.proofs.Calling.{goes_at, goes_within, move_asks, move_begins, move_fetches, move_last, so_front, so_on, so_open}
use Rattle.puzzle_app.proofs.Calling.{so_own, so_told}
use Rattle.puzzle_app.proofs.Adding.{move_holds}
use Rattle.puzzle_app.proofs.laws.calls_in_order.Goals as goal

pub returns : goal.returns
returns c = record {
  own = so_own;
  running = so_open;
  front = so_front;
  each = goes_at;
  reserves = move_asks;
  grants = move_holds;
  fetches = move_fetches;
  begins = move_begins;
  within = goes_within;
  going_on = so_on;
  last = move_last;
  told = so_told;
}
