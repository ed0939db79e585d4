use Rattle.sudoku_law.proofs.Pairwise.{pairwise_from_solution, solution_from_pairwise}
use Rattle.sudoku_law.proofs.facts.rule_by_pairs.Goals as goal

pub returns : goal.returns
returns c = record {
  law = λ m g s. (
    λ is. record { long = is.long; keeps = is.keeps; pairs = pairwise_from_solution m g s is },
    λ is. solution_from_pairwise m g s is.long is.keeps is.pairs,
  );
}
