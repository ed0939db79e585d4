-- Ledgers that differ in one entry from a legal one, and where each is illegal first.
use Rattle.std.proofs.Common.{◌≡◌, pos, ◌∷◌, [], Some, None, refl, set}
use Rattle.std.specs.Prelude.{insert, remove}
use Rattle.adlb_unit.specs.declared.names.Target.TheVariants.{Only}
use Rattle.adlb_unit.specs.declared.notes.End.TheVariants as ends_by
use Rattle.bag_ledger.specs.declared.entries.Entry.TheVariants.{Putting, Refused, Accepted, Freed, Asked, Tried, Granted, Looked, Fetching}
use Rattle.bag_ledger.specs.declared.entries.Entry.TheVariants.{CommonFetched, Promised, Withdrawn, Counted, Over, Finished}
use Rattle.bag_ledger.specs.Bag.{empty}
use Rattle.bag_ledger.specs.Runs.{first_illegal}
use Rattle.bag_ledger.proofs.Examples.{rank, server, kind, unit, batch, bytes, put, full_servers, got_elsewhere, pushed, tries}
use Rattle.bag_ledger.proofs.Examples.{granted_once, batch_of_two, cancelled_push}
use Rattle.bag_ledger.proofs.Worked.{roomy}

target_of_another_rank : first_illegal (roomy 2 2) 0
    (set got_elsewhere 1 (Putting (rank 0) 0 (kind 1) (pos 0) (Only (rank 0)) None [])) ≡ Some 3
target_of_another_rank = refl

unwanted_type : first_illegal (roomy 2 2) 0 (set got_elsewhere 0 (Asked (rank 1) 0 (Some (kind 2 ∷ [])))) ≡ Some 3
unwanted_type = refl

granted_at_another_server : first_illegal (roomy 2 2) 0 (set got_elsewhere 3 (Granted (server 1) (rank 1) 0 (unit 0 0))) ≡ Some 3
granted_at_another_server = refl

granted_in_another_call : first_illegal (roomy 2 2) 0 (set got_elsewhere 3 (Granted (server 0) (rank 1) 1 (unit 0 0))) ≡ Some 3
granted_in_another_call = refl

rejected_with_a_refusal_missing : first_illegal (empty 1 3 64) 0 (remove full_servers 8) ≡ Some 9
rejected_with_a_refusal_missing = refl

refused_twice_by_one : first_illegal (empty 1 3 64) 0 (set full_servers 8 (Refused (server 0) (unit 0 3) 56)) ≡ Some 8
refused_twice_by_one = refl

refused_with_a_wrong_charge : first_illegal (empty 1 3 64) 0 (set full_servers 8 (Refused (server 1) (unit 0 3) 57)) ≡ Some 8
refused_with_a_wrong_charge = refl

refused_though_it_fits : first_illegal (empty 1 3 64) 0 (set full_servers 6 (put 0 3 (bytes 8))) ≡ Some 7
refused_though_it_fits = refl

accepted_over_the_limit : first_illegal (empty 1 3 64) 0 (set full_servers 7 (Accepted (server 0) (unit 0 3))) ≡ Some 7
accepted_over_the_limit = refl

no_current_with_a_look_missing : first_illegal (roomy 2 2) 0 (remove got_elsewhere 5) ≡ Some 6
no_current_with_a_look_missing = refl

looked_past_a_fit : first_illegal (roomy 2 2) 0 (remove got_elsewhere 3) ≡ Some 4
looked_past_a_fit = refl

no_such_server : first_illegal (roomy 2 2) 0 (set got_elsewhere 5 (Looked (server 2) (rank 0) 1)) ≡ Some 5
no_such_server = refl

no_such_rank : first_illegal (roomy 2 2) 0 (set got_elsewhere 4 (Tried (rank 2) 0 None)) ≡ Some 4
no_such_rank = refl

skipped_call_number : first_illegal (roomy 2 2) 0 (set got_elsewhere 4 (Tried (rank 0) 2 None)) ≡ Some 4
skipped_call_number = refl

freed_too_early : first_illegal (roomy 1 1) 0 (insert batch_of_two 15 (Freed (server 0) (batch 0 0))) ≡ Some 15
freed_too_early = refl

asked_while_a_part_is_due : first_illegal (roomy 1 1) 0 (set batch_of_two 20 (Asked (rank 0) 9 None)) ≡ Some 20
asked_while_a_part_is_due = refl

common_bytes_first : first_illegal (roomy 1 1) 0 (remove batch_of_two 13) ≡ Some 13
common_bytes_first = refl

common_bytes_elsewhere : first_illegal (roomy 1 2) 0 (set batch_of_two 14 (CommonFetched (server 1) (rank 0) (batch 0 0))) ≡ Some 14
common_bytes_elsewhere = refl

counted_with_a_wrong_top : first_illegal (roomy 1 1) 0
    (set batch_of_two 7 (Counted (server 0) (rank 0) 3 (record { free = 2; top = Some (pos 1); at_top = 2 }))) ≡ Some 7
counted_with_a_wrong_top = refl

finished_within_a_batch : first_illegal (roomy 1 1) 0 (set batch_of_two 8 (Finished (rank 0) 4)) ≡ Some 8
finished_within_a_batch = refl

exhausted_with_a_fit : first_illegal (empty 2 2 64) 0 (set pushed 0 (Asked (rank 0) 0 (Some (kind 1 ∷ [])))) ≡ Some 7
exhausted_with_a_fit = refl

exhausted_while_a_rank_runs : first_illegal (empty 2 2 64) 0 (remove pushed 3) ≡ Some 6
exhausted_while_a_rank_runs = refl

over_before_exhausted : first_illegal (empty 2 2 64) 0 (remove pushed 7) ≡ Some 7
over_before_exhausted = refl

over_by_the_other_end : first_illegal (roomy 1 3) 0 (set tries 7 (Over (rank 0) 2 ends_by.Exhausted)) ≡ Some 7
over_by_the_other_end = refl

fetching_by_another_rank : first_illegal (empty 2 1 64) 0 (set granted_once 4 (Fetching (rank 1) 0 (unit 0 0))) ≡ Some 4
fetching_by_another_rank = refl

promised_where_it_stands : first_illegal (roomy 2 2) 0 (set pushed 4 (Promised (server 1) (unit 1 0) 60)) ≡ Some 4
promised_where_it_stands = refl

left_without_a_promise : first_illegal (empty 2 2 64) 0 (remove pushed 4) ≡ Some 4
left_without_a_promise = refl

withdrawn_while_travelling : first_illegal (empty 2 2 64) 0 (set pushed 6 (Withdrawn (server 0) (unit 1 0))) ≡ Some 6
withdrawn_while_travelling = refl

promise_taken_back_still_counted : first_illegal (empty 2 2 64) 0 (set cancelled_push 7 (Refused (server 1) (unit 1 0) 60)) ≡ Some 7
promise_taken_back_still_counted = refl

pinned_unit_not_counted : first_illegal (empty 2 2 64) 0 (set cancelled_push 8 (Refused (server 0) (unit 1 0) 0)) ≡ Some 8
pinned_unit_not_counted = refl
