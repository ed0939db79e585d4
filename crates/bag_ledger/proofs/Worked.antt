-- The small ledgers, computed: which are legal, and what the ranks say in them.
use Rattle.std.proofs.Common.{◌≡◌, ℕ, pos, List, ◌∷◌, [], Some, None, refl, ◌++◌}
use Rattle.std.specs.Prelude.{insert, remove}
use Rattle.adlb_unit.specs.declared.names.Target.TheVariants.{Any}
use Rattle.adlb_unit.specs.declared.notes.End.TheVariants as ends_by
use Rattle.bag_ledger.specs.declared.entries.Entry.TheVariants.{Closing, Granted, Exhausted}
use Rattle.bag_ledger.specs.declared.entries.Call.{Call}
use Rattle.bag_ledger.specs.declared.entries.Call.TheVariants as calls_to
use Rattle.bag_ledger.specs.declared.entries.Answer.{Answer}
use Rattle.bag_ledger.specs.declared.entries.Answer.TheVariants as answers
use Rattle.bag_ledger.specs.declared.entries.Said.{Said}
use Rattle.bag_ledger.specs.Bag.{Bag, empty}
use Rattle.bag_ledger.specs.Runs.{first_illegal, calls_from}
use Rattle.bag_ledger.proofs.Examples.{rank, server, kind, unit, batch, bytes, two_free, full_servers, got_elsewhere, pushed, tries}
use Rattle.bag_ledger.proofs.Examples.{granted_once, batch_of_two, done_called, cancelled_push, refused_batch, empty_batch, full_at_first}
use Rattle.bag_ledger.proofs.Examples.{several_priorities, worked_alone}

-- ranks and servers with so much room that the limit does not matter
abbrev pub roomy : ℕ → ℕ → Bag
roomy ranks servers = empty ranks servers 67108864

full_servers_legal : first_illegal (empty 1 3 64) 0 full_servers ≡ None
full_servers_legal = refl

got_elsewhere_legal : first_illegal (roomy 2 2) 0 got_elsewhere ≡ None
got_elsewhere_legal = refl

pushed_legal : first_illegal (empty 2 2 64) 0 pushed ≡ None
pushed_legal = refl

tries_legal : first_illegal (roomy 1 3) 0 tries ≡ None
tries_legal = refl

granted_once_legal : first_illegal (empty 2 1 64) 0 granted_once ≡ None
granted_once_legal = refl

granted_twice_illegal : first_illegal (empty 2 1 64) 0 (granted_once ++ Granted (server 0) (rank 1) 0 (unit 0 0) ∷ []) ≡ Some 5
granted_twice_illegal = refl

batch_of_two_legal : first_illegal (roomy 1 1) 0 batch_of_two ≡ None
batch_of_two_legal = refl

done_called_legal : first_illegal (roomy 2 2) 0 done_called ≡ None
done_called_legal = refl

cancelled_push_legal : first_illegal (empty 2 2 64) 0 cancelled_push ≡ None
cancelled_push_legal = refl

-- Exhausted one entry earlier: a unit travels
exhausted_while_travelling : first_illegal (empty 2 2 64) 0 (insert (remove pushed 7) 6 Exhausted) ≡ Some 6
exhausted_while_travelling = refl

-- two entries earlier: a promise stands
exhausted_while_promised : first_illegal (empty 2 2 64) 0 (insert (remove pushed 7) 5 Exhausted) ≡ Some 5
exhausted_while_promised = refl

-- right after the second Asked nothing is left to do; so the later one is not the first
exhausted_before_the_push : first_illegal (empty 2 2 64) 0 (insert pushed 4 Exhausted) ≡ Some 8
exhausted_before_the_push = refl

abbrev says : Call → Answer → Said
says call answer = record { call = call; answer = answer }

-- a reserve of any type that was granted the unit, of one byte, of the batch
abbrev got : ℕ → ℕ → Said
got r call =
    says (calls_to.Reserve None)
    (answers.Granted (record {
      id = unit r call;
      kind = kind 1;
      prio = pos 0;
      answer = None;
      server = server 0;
      common = Some (record { batch = batch 0 0; server = server 0; length = 2 });
      length = 1;
    }))

abbrev puts : List ℕ → Answer → Said
puts body answer = says (calls_to.Put (kind 1) (pos 0) Any None body) answer

calls_of_a_batch : calls_from (roomy 1 1) batch_of_two (rank 0) ≡
    says (calls_to.BeginBatch (120 ∷ 121 ∷ [])) answers.Fine ∷ puts (97 ∷ []) answers.Fine ∷ puts (98 ∷ []) answers.Fine
    ∷ says (calls_to.Count (kind 1)) (answers.Info two_free) ∷ says calls_to.EndBatch answers.Fine ∷ got 0 1
    ∷ says (calls_to.Fetch (unit 0 1)) (answers.Body (120 ∷ 121 ∷ 97 ∷ [])) ∷ got 0 2
    ∷ says (calls_to.Fetch (unit 0 2)) (answers.Body (120 ∷ 121 ∷ 98 ∷ [])) ∷ []
calls_of_a_batch = refl

calls_of_a_put_and_a_try : calls_from (roomy 2 2) got_elsewhere (rank 0) ≡
    puts (104 ∷ 101 ∷ 108 ∷ 108 ∷ 111 ∷ []) answers.Fine ∷ says (calls_to.Try None) answers.NoCurrent ∷ []
calls_of_a_put_and_a_try = refl

calls_of_a_grant_elsewhere : calls_from (roomy 2 2) got_elsewhere (rank 1) ≡
    says (calls_to.Reserve None)
    (answers.Granted (record { id = unit 0 0; kind = kind 1; prio = pos 0; answer = None; server = server 0; common = None; length = 5 }))
    ∷ []
calls_of_a_grant_elsewhere = refl

calls_after_done : calls_from (roomy 1 3) tries (rank 0) ≡
    says (calls_to.Try None) answers.NoCurrent ∷ says calls_to.SetDone answers.Fine
    ∷ says (calls_to.Try None) (answers.Ended ends_by.NoMoreWork) ∷ puts [] (answers.Ended ends_by.NoMoreWork) ∷ []
calls_after_done = refl

refused_batch_legal : first_illegal (empty 1 2 64) 0 refused_batch ≡ None
refused_batch_legal = refl

-- a batch that was rejected is not going on
rejected_then_closing : first_illegal (empty 1 2 64) 0 (refused_batch ++ Closing (rank 0) 1 ∷ []) ≡ Some 4
rejected_then_closing = refl

empty_batch_legal : first_illegal (roomy 1 1) 0 empty_batch ≡ None
empty_batch_legal = refl

-- nothing comes between Closed and Freed of an empty batch
empty_batch_unfreed : first_illegal (roomy 1 1) 0 (remove empty_batch 4) ≡ Some 4
empty_batch_unfreed = refl

full_at_first_legal : first_illegal (empty 1 2 64) 0 full_at_first ≡ None
full_at_first_legal = refl

several_priorities_legal : first_illegal (roomy 1 1) 0 several_priorities ≡ None
several_priorities_legal = refl

worked_alone_legal : first_illegal (roomy 1 1) 0 worked_alone ≡ None
worked_alone_legal = refl

calls_of_a_rejected_batch : calls_from (empty 1 2 64) refused_batch (rank 0) ≡ says (calls_to.BeginBatch (bytes 65)) answers.Rejected ∷ []
calls_of_a_rejected_batch = refl

calls_of_a_rejected_put : calls_from (empty 1 3 64) full_servers (rank 0) ≡
    puts (bytes 56) answers.Fine ∷ puts (bytes 56) answers.Fine ∷ puts (bytes 56) answers.Fine ∷ puts (bytes 9) answers.Rejected ∷ []
calls_of_a_rejected_put = refl

calls_of_an_empty_batch : calls_from (roomy 1 1) empty_batch (rank 0) ≡
    says (calls_to.BeginBatch (120 ∷ 121 ∷ [])) answers.Fine ∷ says calls_to.EndBatch answers.Fine ∷ []
calls_of_an_empty_batch = refl

calls_of_a_put_at_the_next : calls_from (empty 1 2 64) full_at_first (rank 0) ≡ puts (bytes 56) answers.Fine
    ∷ puts (bytes 9) answers.Fine ∷ []
calls_of_a_put_at_the_next = refl

calls_of_a_fetch_and_a_finish : calls_from (roomy 1 1) worked_alone (rank 0) ≡
    puts (97 ∷ 98 ∷ []) answers.Fine
    ∷ says (calls_to.Reserve None)
    (answers.Granted (record { id = unit 0 0; kind = kind 1; prio = pos 0; answer = None; server = server 0; common = None; length = 2 }))
    ∷ says (calls_to.Fetch (unit 0 0)) (answers.Body (97 ∷ 98 ∷ [])) ∷ says calls_to.Finish answers.Fine ∷ []
calls_of_a_fetch_and_a_finish = refl
