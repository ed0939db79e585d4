use Rattle.std.proofs.Common.{◌≡◌, ◌++◌, length, map}
use Rattle.job_units.specs.Works.{child_of}
use Rattle.puzzle_app.proofs.desk.put_children_first.Given as goal

abbrev pub invariant-boards : goal.invariant-boards
invariant-boards l = map (child_of l.puzzle) l.boards.items ++ l.waiting.items ≡
    map (child_of l.puzzle) l.fn.boards.items ++ l.fn.waiting.items

abbrev pub decreases-boards : goal.decreases-boards
decreases-boards l = length l.boards.items
