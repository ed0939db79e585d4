use Rattle.sudoku_law.proofs.Depth.{tree_is_node}
use Rattle.sudoku_law.proofs.completeness.tree_is_its_node.Goals as goal

pub returns : goal.returns
returns c = record { law = tree_is_node }
