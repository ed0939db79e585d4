use Rattle.puzzle_app.proofs.Adding.{came_is, puts_sum}
use Rattle.puzzle_app.proofs.laws.calls_add_up.Goals as goal

pub returns : goal.returns
returns c = record { puts = puts_sum; came = came_is }
