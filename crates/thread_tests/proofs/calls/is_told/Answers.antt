use Rattle.rank_client.proofs.LinkLaws.{not_begun}
use Rattle.thread_tests.proofs.calls.is_told.Goals as goal

pub are_told-told-requires : goal.are_told-told-requires
are_told-told-requires g c = not_begun _ c.requires
