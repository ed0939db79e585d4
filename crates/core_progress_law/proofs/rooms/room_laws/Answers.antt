use Rattle.core_progress_law.proofs.HintRoom.{few_hints_to, few_letters_to}
use Rattle.core_progress_law.proofs.Piles.{few_notices}
use Rattle.core_progress_law.proofs.Room.{few_to_rank, no_notice}
use Rattle.core_progress_law.proofs.rooms.room_laws.Goals as goal

pub returns : goal.returns
returns c = record {
  rank = few_to_rank;
  server = λ config events w server there run. few_letters_to config events w run server there;
  hints = λ config events w server there run. few_hints_to config events w run server there;
  pile = few_notices;
  notices = λ config events w server there other run. no_notice config events w run server there other;
}
