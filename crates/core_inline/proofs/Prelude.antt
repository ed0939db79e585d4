-- Names that many proofs cite.
pub use Rattle.adlb_unit.specs.Limits.{InLimit, InRanks, InServers, Refuses, stamp_limit}
pub use Rattle.adlb_unit.specs.declared.actors.Actor.{Actor}
pub use Rattle.adlb_unit.specs.declared.configs.Config.{Config}
pub use Rattle.adlb_unit.specs.declared.letters.Letter.{Letter}
pub use Rattle.adlb_unit.specs.declared.messages.Message.{Message}
pub use Rattle.adlb_unit.specs.declared.names.CommonRef.{CommonRef}
pub use Rattle.adlb_unit.specs.declared.names.Server.{Server}
pub use Rattle.adlb_unit.specs.declared.notes.Trouble.{Trouble}
pub use Rattle.adlb_unit.specs.declared.notes.Trouble.TheVariants.{Memory, TooLong}
pub use Rattle.bag_ledger.proofs.Tests.{same_number, some_is}
pub use Rattle.bag_ledger.specs.Bag.{Bag, rank_at, settled, start, unit_of}
pub use Rattle.bag_ledger.specs.Runs.{IsRun, IsRunWhere, call_of, calls, calls_from, says}
pub use Rattle.bag_ledger.specs.declared.entries.Answer.{Answer}
pub use Rattle.bag_ledger.specs.declared.entries.Call.{Call}
pub use Rattle.bag_ledger.specs.declared.entries.Entry.{Entry}
pub use Rattle.bag_ledger.specs.declared.entries.Said.{Said}
pub use Rattle.bag_ledger.specs.declared.states.RankState.{RankState}
pub use Rattle.core_world.proofs.Tokens.{at_most}
pub use Rattle.core_inline.specs.Inline.{IsEnd, IsInline, IsOpen, IsStart, IsTold, Run, batch_of, finish_answer, link_of, seat_by, zeroth}
pub use Rattle.core_inline.specs.Left.{IsLeft, left_at, left_with}
pub use Rattle.core_inline.specs.inside.Fields.{IsInside, run_of}
pub use Rattle.core_inline.specs.inside.Pairs.{IsAnswered, IsFailed, IsIdle, IsLone, IsReady, IsTrue, IsUnderWay, asked, by_rank, by_server}
pub use Rattle.core_inline.specs.inside.Pairs.{first_server, is_ended, rank_in, server_in, told, with_call}
pub use Rattle.core_law.proofs.EveryRun.{client_at, every_run_well, pool_at}
pub use Rattle.core_law.specs.Letters.{call_waits, is_request, misfit, one, remote_letter}
pub use Rattle.core_run.specs.World.{Links, World, after_rank, after_server, client_of, handle, happens, has_ended, link, pool_of, row}
pub use Rattle.core_run.specs.World.{taken}
pub use Rattle.core_run.specs.declared.events.Event.{Event}
pub use Rattle.core_world.proofs.Reached.{front_goes, mapped, mapped_if, mapped_unless, next_reached, sent_before, start_reached}
pub use Rattle.core_world.specs.Applied.{IsEnabled, Stops, event_answer, event_stamp, front_answer, front_stamp}
pub use Rattle.core_world.specs.Seen.{Seen, new_world}
pub use Rattle.rank_client.proofs.StepsTell.{steps_tell}
pub use Rattle.rank_client.proofs.Transcripts.{finished_more, none_finished}
pub use Rattle.rank_client.specs.Answers.{CanCall, IsAnswerTo, answered, answers_done, troubled}
pub use Rattle.rank_client.specs.Calls.{Pends, Repeats, has_finished, is_finish, is_open, plus}
pub use Rattle.rank_client.specs.Link.{Can, HasGrant}
pub use Rattle.rank_client.specs.Remembered.{Remembers, pending_call}
pub use Rattle.rank_client.specs.Rules.{ClientResponse, answer_call, is_free, is_idle, looked, own_came, part_refused, refused, told_done}
pub use Rattle.rank_client.specs.Says.{HasAnswer, Says, Waits}
pub use Rattle.rank_client.specs.State.{ClientModel}
pub use Rattle.rank_client.specs.Step.{Made, begin, hear, letter_stamp, made, ticked}
pub use Rattle.rank_client.specs.declared.pendings.Pending.{Pending}
pub use Rattle.server_core.specs.Left.{left_of, left_unit}
pub use Rattle.server_core.specs.declared.states.LeftUnit.{LeftUnit}
pub use Rattle.server_law.proofs.Found.{some_there}
pub use Rattle.server_law.specs.State.{ServerModel, is_finished}
pub use Rattle.std.proofs.Common.{All, Bool, Err, IfOk, List, None, Ok, Option, Result, Some, [], ap, append-nil, append_assoc, arith, cond}
pub use Rattle.std.proofs.Common.{drop, false, inl, inr, is_some, length, length-append, map, nat_lt, not, refl, subst, suc, sym, take}
pub use Rattle.std.proofs.Common.{true, zero, ℕ, ◌&&◌, ◌*◌, ◌++◌, ◌+◌, ◌<◌, ◌==◌, ◌^◌, ◌||◌, ◌∙◌, ◌∷◌, ◌≡◌, ◌≢◌, ◌≤◌, ◌⊎◌}
pub use Rattle.std.proofs.Math.Seq.{drop-append_seam, take-append_seam}
pub use Rattle.std.proofs.lemmas.Bool.{and_parts, eq-eqb, false_from_ne_true, ltb-true}
pub use Rattle.std.proofs.lemmas.List.{append_cancel_left, get_or-map, length-map, length_push, nil_from_length, take_all}
pub use Rattle.std.proofs.lemmas.Result.{err_from_is_err_and}
pub use Rattle.std.specs.List.{AllPairs, list_all}
pub use Rattle.std.specs.Option.{option_map}
pub use Rattle.std.specs.Prelude.{IsSome, find, is_none, option_and_then, slice_index_or}
