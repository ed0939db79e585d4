-- What becomes of those that wait at a server, and what is said then.
use Rattle.std.specs.Prelude.{ℕ, Bool, true, false, List, Option, None, Some}
use Rattle.adlb_unit.specs.declared.actors.Actor.TheVariants as by
use Rattle.adlb_unit.specs.declared.messages.Message.TheVariants as tells
use Rattle.adlb_unit.specs.declared.names.Rank.{Rank}
use Rattle.adlb_unit.specs.declared.names.Server.{Server}
use Rattle.adlb_unit.specs.declared.names.WorkType.{WorkType}
use Rattle.adlb_unit.specs.declared.names.Target.{Target}
use Rattle.adlb_unit.specs.declared.notes.End.{End}
use Rattle.adlb_unit.specs.declared.notes.End.TheVariants as ends_by
use Rattle.adlb_unit.specs.declared.notes.UnitNote.{UnitNote}
use Rattle.bag_ledger.specs.declared.entries.Entry.TheVariants as enters
use Rattle.work_queue.specs.Queue.{Queue}
use Rattle.work_queue.specs.declared.placing.Placed.{Placed}
use Rattle.server_components.specs.Calls.{after_ask, after_none, first_idle, forgotten_if, given, gone, gone_if, hinted, hints_next, reserved}
use Rattle.server_components.specs.Calls.{taker_of}
use Rattle.server_components.specs.Grants.{best_for, pinned_to}
use Rattle.server_components.specs.Parked.{Parked, ParkedModel}
use Rattle.server_components.specs.declared.steps.ReserveStep.{ReserveStep}
use Rattle.server_components.specs.declared.steps.ReserveStep.TheVariants.{Granted, Ask, Idle}
use Rattle.server_components.specs.declared.wishes.Wish.{Wish}
use Rattle.server_core.specs.inside.{parked_of}
use Rattle.server_core.specs.Out.{Out, made, with_answer, with_letter}
use Rattle.server_law.specs.Acts.{to_rank, to_server}
use Rattle.server_law.specs.Carried.{Served, counted, posted}
use Rattle.server_law.specs.State.{Kept, ServerModel}

-- the end by which calls are answered where the problem is done, or all work is used up
abbrev pub over_by : Bool → Bool → Option End
over_by true exhausted = Some ends_by.NoMoreWork
over_by false true = Some ends_by.Exhausted
over_by false false = None

-- the end that calls are told, if they are over
abbrev pub over : Kept → Option End
over k = over_by k.done k.exhausted

-- a wish of its parts
abbrev pub wish_of : Rank → ℕ → Option (List WorkType) → Wish
wish_of rank request types = record { rank = rank; request = request; types = types }

-- Who waits.

-- the server with this queue and these that wait
abbrev pub with_parked : ServerModel → Queue → Parked → ServerModel
with_parked s queue parked = record s { kept = record s.kept { queue = queue; parked = parked } }

-- the unit, if there is one, is pinned to the rank, and these wait
abbrev pub pinning : ServerModel → Rank → Option Placed → ParkedModel → ServerModel
pinning s rank o m = with_parked s (pinned_to rank o s.kept.queue) m.parked

-- a rank seeks a unit, and waits without one
abbrev pub sought : ServerModel → Wish → ServerModel
sought s wish =
    let best = best_for s.kept.queue wish.rank wish.types in
    pinning s wish.rank best (reserved (parked_of s) wish best)

-- a rank waits no longer
abbrev pub released : ServerModel → Rank → ServerModel
released s rank = with_parked s s.kept.queue (gone (parked_of s) rank).parked

-- a rank that waits for such a unit is looked at again, since the server that was asked for it had none
abbrev pub looked : ServerModel → Rank → Option (List WorkType) → ServerModel
looked s rank types =
    let best = best_for s.kept.queue rank types in
    pinning s rank best (after_none (parked_of s) rank best)

-- another server hints that it has a unit for the rank
abbrev pub heard : ServerModel → Rank → ℕ → Server → ServerModel
heard s rank request from = with_parked s s.kept.queue (hinted (parked_of s) rank request from).parked

-- the unit that another home is offered for its rank: none where the problem is done
abbrev pub offered_by : Bool → Option Placed → Option Placed
offered_by true best = None
offered_by false best = best

-- the unit that a wish gets here, if it does
abbrev pub offered : Kept → Wish → Option Placed
offered k wish = offered_by k.done (best_for k.queue wish.rank wish.types)

-- the server after it was asked for the wish
abbrev pub asked : ServerModel → Wish → ServerModel
asked s wish = pinning s wish.rank (offered s.kept wish) (after_ask (parked_of s) wish (offered s.kept wish))

-- the free unit goes to the idle rank that takes it, if one does
abbrev pub taken : ServerModel → Placed → ServerModel
taken s p =
    let who = taker_of p.unit (parked_of s) in
    with_parked s (given who p s.kept.queue) (gone_if (parked_of s) who).parked

-- the next wish that such a unit takes off is taken off
abbrev pub unwished_next : WorkType → Target → ServerModel → ServerModel
unwished_next kind target s = with_parked s s.kept.queue (forgotten_if (parked_of s) (hints_next kind target s.kept.parked.wishes)).parked

-- the first idle rank waits no longer
abbrev pub unidle_first : ServerModel → ServerModel
unidle_first s = with_parked s s.kept.queue (gone_if (parked_of s) (first_idle (parked_of s))).parked

-- What is told.

-- the rank is told that its call has ended
abbrev pub told_end : Rank → ℕ → End → Out → ServerModel → Served
told_end rank request end out s =
    made (counted s (by.Rank rank)) (with_answer out (posted s (to_rank rank (tells.Ended request end))) (enters.Over rank request end))

-- of the unit that it gets
abbrev pub told_note : Rank → ℕ → UnitNote → Out → ServerModel → Served
told_note rank request note out s =
    made (counted s (by.Rank rank))
    (with_answer out (posted s (to_rank rank (tells.Grant request note))) (enters.Granted s.me rank request note.id))

-- a server is asked for the rank
abbrev pub told_ask : Server → Rank → ℕ → Option (List WorkType) → Out → ServerModel → Served
told_ask to rank request types out s =
    made (counted s (by.Server to)) (with_letter out (posted s (to_server to (tells.Ask rank request types))))

-- what a rank that seeks a unit has come to
abbrev pub told_step : ReserveStep → Rank → ℕ → Option (List WorkType) → Out → ServerModel → Served
told_step (Granted note) rank request types out s = told_note rank request note out s
told_step (Ask to) rank request types out s = told_ask to rank request types out s
told_step Idle rank request types out s = made s out

-- the home of a rank is answered
abbrev pub told_home : Option UnitNote → Server → Wish → Out → ServerModel → Served
told_home None home wish out s =
    made (counted s (by.Server home)) (with_letter out (posted s (to_server home (tells.AskNone wish.rank wish.request))))
told_home (Some note) home wish out s =
    made (counted s (by.Server home))
    (with_answer out (posted s (to_server home (tells.AskGrant wish.rank wish.request note)))
    (enters.Granted s.me wish.rank wish.request note.id))
