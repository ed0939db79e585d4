-- Small runs of two ranks and two servers, by computation, in which the problem is done, and in which all work is found used up.
use Rattle.std.proofs.Common.{◌≡◌, true, List, [], ◌∷◌, ◌++◌, Some, None, refl}
use Rattle.std.specs.Option.{option_map}
use Rattle.adlb_unit.specs.declared.notes.End.TheVariants as ends_by
use Rattle.bag_ledger.specs.declared.entries.Answer.TheVariants as answers
use Rattle.bag_ledger.specs.declared.entries.Call.TheVariants as calls_to
use Rattle.bag_ledger.specs.declared.entries.Entry.{Entry}
use Rattle.bag_ledger.specs.declared.entries.Entry.TheVariants as enters
use Rattle.core_run.specs.declared.events.Event.{Event}
use Rattle.core_run.specs.declared.events.Event.TheVariants as occurs
use Rattle.core_run.specs.Runs.{run, transcript}
use Rattle.core_run.specs.World.{World, post, start}
use Rattle.core_law.proofs.Examples.{asked_in_vain, asks, brings, finishes, hears, illegal_from, ledger_after, rank, reserves, two_and_two}
use Rattle.core_law.proofs.Examples.{waiting_after}

-- Rank 1 waits at its home, server 1. Rank 0 says that the problem is done: its home hears it, and then server 1, which tells rank 1. The
-- call has its answer after both have heard it.
abbrev done_while_waiting : List Event
done_while_waiting =
    asked_in_vain ++ occurs.Call (rank 0) calls_to.SetDone ∷ asks 0 0 ∷ hears 0 0 ∷ asks 0 1 ∷ hears 0 1 ∷ hears 1 1 ∷ []

done_is_told : ledger_after two_and_two done_while_waiting
    ≡ Some (enters.Asked (rank 1) 0 None ∷ enters.Done (rank 0) 0 ∷ enters.Over (rank 1) 0 ends_by.NoMoreWork ∷ [])
unfolding post
done_is_told = refl

done_is_answered : option_map (λ (w : World). transcript w (rank 0)) (run (start two_and_two) done_while_waiting)
    ≡ Some (record { call = calls_to.SetDone; answer = answers.Fine } ∷ [])
unfolding post
done_is_answered = refl

-- Rank 1 waits, and then rank 0; so server 0 starts a check, while a second notice of server 1 comes. The token goes round twice, all work
-- is found used up, and each server tells its rank.
abbrev both_in_vain : List Event
both_in_vain =
    asked_in_vain ++ reserves 0 ∷ asks 0 0 ∷ brings 0 1 ∷ brings 1 0 ∷ brings 1 0 ∷ brings 0 1 ∷ brings 1 0 ∷ brings 0 1 ∷ brings 1 0
    ∷ brings 0 1 ∷ hears 0 0 ∷ hears 1 1 ∷ []

abbrev in_vain : List Entry
in_vain =
    enters.Asked (rank 1) 0 None ∷ enters.Asked (rank 0) 0 None ∷ enters.Exhausted ∷ enters.Over (rank 0) 0 ends_by.Exhausted
    ∷ enters.Over (rank 1) 0 ends_by.Exhausted ∷ []

all_is_used_up : ledger_after two_and_two both_in_vain ≡ Some in_vain
unfolding post
all_is_used_up = refl

used_up_is_legal : illegal_from two_and_two in_vain ≡ None
used_up_is_legal = refl

-- Rank 0 finishes, and the next check fails at server 1, where rank 1 runs. When that has finished too, a check shuts both servers.
abbrev then_both_finish : List Event
then_both_finish =
    both_in_vain ++ finishes 0 ∷ asks 0 0 ∷ asks 0 1 ∷ brings 0 1 ∷ brings 1 0 ∷ finishes 1 ∷ asks 1 1 ∷ asks 1 0 ∷ brings 1 0
    ∷ brings 0 1 ∷ brings 1 0 ∷ brings 0 1 ∷ brings 1 0 ∷ brings 0 1 ∷ []

both_have_ended : waiting_after two_and_two then_both_finish ≡ Some (([], true) ∷ ([], true) ∷ [])
unfolding post
both_have_ended = refl
