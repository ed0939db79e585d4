use Rattle.thread_tests.proofs.desks.cleared.Goals as goal

pub clear-requires-clause-numbered : goal.clear-requires-clause-numbered
clear-requires-clause-numbered g c = λ k d at. (c.in_ok-all.ensures.new k d at).number_is
