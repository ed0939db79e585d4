-- Names that many proofs cite.
pub use Rattle.actor_desk.specs.Desks.{DeskModel, IsEntered, IsNew, Tallies, received, with_room}
pub use Rattle.adlb_unit.specs.Limits.{InLimit, InRanks, InServers, stamp_limit}
pub use Rattle.adlb_unit.specs.declared.configs.Config.{Config}
pub use Rattle.adlb_unit.specs.declared.letters.Letter.{Letter}
pub use Rattle.adlb_unit.specs.declared.messages.Message.{Message}
pub use Rattle.adlb_unit.specs.declared.names.Rank.{Rank}
pub use Rattle.adlb_unit.specs.declared.names.Server.{Server}
pub use Rattle.adlb_unit.specs.declared.notes.Trouble.{Trouble}
pub use Rattle.bag_ledger.specs.declared.entries.Call.{Call}
pub use Rattle.bag_ledger.specs.declared.entries.Call.TheVariants.{Finish}
pub use Rattle.rank_client.proofs.LinkLaws.{batch_fell, batch_moved, can_call, made_again, made_answered, made_failed, not_begun}
pub use Rattle.rank_client.proofs.StepsTell.{steps_tell}
pub use Rattle.rank_client.specs.Calls.{Repeats, has_finished, is_open, plus}
pub use Rattle.rank_client.specs.inside.{gives}
pub use Rattle.rank_client.specs.Link.{Can, HasGrant, LinkModel}
pub use Rattle.rank_client.specs.Remembered.{pending_call}
pub use Rattle.rank_client.specs.Says.{Says, Tells, Waits}
pub use Rattle.rank_client.specs.State.{ClientModel, start}
pub use Rattle.rank_client.specs.Step.{Made, begin, call_stamp, call_trouble, first_trouble, hear, late, letter_stamp, letter_trouble, made}
pub use Rattle.rank_client.specs.Step.{post, ticked, told_trouble}
pub use Rattle.std.proofs.Common.{Bool, Err, List, None, Ok, Option, Result, Some, [], ap, arith, cond, false, length, lt-ltb, not, refl}
pub use Rattle.std.proofs.Common.{rules, subst, sym, true, ℕ, ◌&&◌, ◌*◌, ◌++◌, ◌+◌, ◌<◌, ◌||◌, ◌∙◌, ◌∷◌, ◌≡◌, ◌≤◌}
pub use Rattle.std.specs.Option.{option_map}
pub use Rattle.std.specs.Prelude.{IfErr, IfOk, IfSome, IsSome, OnOk, is_none, nat_lt}
pub use Rattle.thread_actors.specs.Faults.{IsLate, IsLateFault, told}
pub use Rattle.thread_actors.specs.RankJobs.{IsCutShort, IsRankRun, IsUnexpected, was_told}
pub use Rattle.thread_actors.specs.Run.{RankLink, link_in, link_of}
pub use Rattle.thread_actors.specs.inside.Wires.{CanBegin, HasCome, HasFailed, IsCut, IsDone, IsRecorded}
pub use Rattle.thread_actors.specs.inside.Wires.{IsUpTo, Knows, MeetsLimit, MovesOn, Rests, event_of}
