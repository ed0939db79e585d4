-- Words and lemmas that answers take.
pub use Rattle.std.proofs.Common.{◌&&◌, ◌*◌, ◌+◌, ◌-◌, ◌<◌, ◌==◌, ◌↔◌, ◌∙◌, ◌∷◌, ◌≡◌, ◌≤◌, ◌⊎◌, All, Bool, Err, IsTrue, List, None, Ok}
pub use Rattle.std.proofs.Common.{Option, Result, Some, [], ap, arith, cond, false, find, length, map, max, not, refl, rules, subst, sym}
pub use Rattle.std.proofs.Common.{take, true, ℕ}
pub use Rattle.std.proofs.lemmas.Bool.{not-false, not_from_true}
pub use Rattle.std.proofs.lemmas.List.Elements.{All-contains, All-weaker}
pub use Rattle.std.specs.Option.{option_map}
pub use Rattle.std.specs.Prelude.{is_some}
pub use Rattle.std.specs.Result.{OnOk, is_err, is_ok}
pub use Rattle.std.specs.Vec.{vec_len}
pub use Rattle.adlb_unit.specs.Ring.{behind, others}
pub use Rattle.adlb_unit.specs.declared.configs.Config.{Config}
pub use Rattle.adlb_unit.specs.declared.names.Rank.{Rank}
pub use Rattle.adlb_unit.specs.declared.names.UnitId.{UnitId}
pub use Rattle.adlb_unit.specs.declared.notes.UnitNote.{UnitNote}
pub use Rattle.work_queue.proofs.Conditions.{no_unit}
pub use Rattle.work_queue.specs.Facts.{facts_of}
pub use Rattle.work_queue.specs.Fits.{first_fit}
pub use Rattle.work_queue.specs.Queue.{Exceeds, HasFree, Queue, id_of}
pub use Rattle.work_queue.specs.declared.placing.Placed.{Placed}
pub use Rattle.work_queue.specs.declared.placing.UnitFacts.{UnitFacts}
pub use Rattle.server_components.specs.Pushes.{PushModel, asks_room, has_sent, is_push_as}
pub use Rattle.server_components.specs.Store.{closed, fetched}
pub use Rattle.exhaust_ring.specs.Expected.{HasComeBack, IsRunning, IsToTest, is_running}
pub use Rattle.exhaust_ring.specs.Ring.{RingModel}
pub use Rattle.exhaust_ring.specs.Tests.{first_failing}
pub use Rattle.exhaust_ring.specs.Visits.{Outcome, verdict_of, visited1, visited2}
pub use Rattle.server_components.specs.Calls.{after_none, asking, asks_next, first_idle, given, gone_if, granted, hints_next, is_idle_since}
pub use Rattle.server_components.specs.Calls.{step_for, taker_of}
pub use Rattle.server_components.specs.Grants.{best_for, with_grant}
pub use Rattle.server_components.specs.Parked.{IsParked, ParkedModel, entry_of}
pub use Rattle.server_components.specs.declared.waits.Waiting.{Waiting}
pub use Rattle.server_law.proofs.Expected.{expected_have_steps, rule_awaited}
pub use Rattle.server_law.proofs.Found.{free_is, free_there, none_free, some_there}
pub use Rattle.server_law.proofs.Settling.{settles_none}
pub use Rattle.server_law.proofs.Tests.{free_says, runs_at_home_says, runs_says}
pub use Rattle.server_law.specs.Acts.{Act, Ends_push, Hears_failed, Hears_shutdown, Notes_finish, Stops_push, Wants, askers, batch_of}
pub use Rattle.server_law.specs.Acts.{check_alone, to_others, to_server}
pub use Rattle.server_law.specs.Carried.{counted, posted}
pub use Rattle.server_law.specs.Checks.{marks, tests}
pub use Rattle.server_law.specs.Endings.{is_quiet, tells_all}
pub use Rattle.server_law.specs.Finding.{is_free_as}
pub use Rattle.server_law.specs.Hints.{hint_all}
pub use Rattle.server_law.specs.Presses.{presses}
pub use Rattle.server_law.specs.Pushes.{ack_at, no_at}
pub use Rattle.server_law.specs.Puts.{settles}
pub use Rattle.server_law.specs.State.{ServerModel, ring_at, runs}
pub use Rattle.server_law.specs.Step.{acts, at_event, next_stamp, rule, ticked}
pub use Rattle.server_core.proofs.Answering.{Answered, answered, pending_of, told_passed}
pub use Rattle.server_core.proofs.Arriving.{arrives_goes, settled_config}
pub use Rattle.server_core.proofs.Asked.{asked_goes}
pub use Rattle.server_core.proofs.Askers.{askers_parked, in_front, ring_seen}
pub use Rattle.server_core.proofs.Asking.{waits_by, wants_nothing}
pub use Rattle.server_core.proofs.Checking.{again_goes, back_goes, comes_again, comes_back, comes_first, comes_last, entered_room}
pub use Rattle.server_core.proofs.Checking.{exhaust_goes, exhausted_goes, first_goes, heard_goes, judged_check, judges_go, last_goes}
pub use Rattle.server_core.proofs.Checking.{marked_check, marks_go, number, said_one, stays_room, step_fits, step_room, tests_go}
pub use Rattle.server_core.proofs.Checking.{tests_second, token_says, told_from, told_next}
pub use Rattle.server_core.proofs.Going.{asked_room, close_goes, ends_goes, fetch_goes, goes_nowhere, handled_goes, heard_room, looked_room}
pub use Rattle.server_core.proofs.Going.{made_as, released_room, room_as, room_less, rule_apart, serve_rule, server_awaited, serves}
pub use Rattle.server_core.proofs.Going.{sought_room}
pub use Rattle.server_core.proofs.Hearing.{hears}
pub use Rattle.server_core.proofs.Hinting.{hint_told, no_more}
pub use Rattle.server_core.proofs.Keeping.{change_inside, keep_inside, keeps_now, refuses_now}
pub use Rattle.server_core.proofs.LeftUnits.{left_more}
pub use Rattle.server_core.proofs.Parts.{close_told, open_told, share_told}
pub use Rattle.server_core.proofs.Pushing.{cancels_goes, moved, moved_inside, promises_goes, puts_goes, refuses_goes, room_moved}
pub use Rattle.server_core.proofs.Pushing.{sends_goes, withdraws_goes}
pub use Rattle.server_core.proofs.Quiet.{going_unquiet, quiet_tells, rest_all, rest_from, rest_next, rest_none, rests_quiet}
pub use Rattle.server_core.proofs.Reserving.{new_here, reserves}
pub use Rattle.server_core.proofs.Seats.{idle_if, idle_told, none_tells, pending_there, unanswered_else, unanswered_none, unanswered_then}
pub use Rattle.server_core.proofs.Seats.{waits_told}
pub use Rattle.server_core.proofs.Settled.{none_takes, one_takes, told_free, told_unfree}
pub use Rattle.server_core.proofs.Sounds.{ask_stays, closes, counts_within, forgotten_if_stays, given_pins, gone_if_stays, gone_stays}
pub use Rattle.server_core.proofs.Sounds.{grants_inside, hinted_stays, none_stays, parked_at, parked_inside, parked_is, queue_inside}
pub use Rattle.server_core.proofs.Sounds.{reserved_stays, same_pins, same_stays, seat_at, seen, visited_inside}
pub use Rattle.server_core.proofs.Starting.{check_is, started_inside}
pub use Rattle.server_core.proofs.Telling.{end_told, nobody_idle}
pub use Rattle.server_core.proofs.Unknown.{has_none, has_room, promised, unpromised}
pub use Rattle.server_core.proofs.Young.{stays_young}
pub use Rattle.server_core.specs.Checks.{said, stepped, verdict, with_check}
pub use Rattle.server_core.specs.inside.{parked_of, state_of}
pub use Rattle.server_core.specs.Left.{left_unit}
pub use Rattle.server_core.specs.Out.{HasRoom, Out, event_letters, going_on, made, with_answer, with_entry}
pub use Rattle.server_core.specs.Quiet.{all_rest}
pub use Rattle.server_core.specs.Waits.{heard, looked, sought, told_ask, told_end, told_home, told_note, told_step, wish_of}
