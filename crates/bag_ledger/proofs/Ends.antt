-- Counts and ends: where their entries are legal, as tests.
use Rattle.std.proofs.Common.{ℕ, ◌%◌, not, Some, refl, ap, ◌∙◌}
use Rattle.std.specs.Prelude.{is_none}
use Rattle.std.proofs.lemmas.Bool.{and_parts, and_from, eqb-true, eq-eqb, not-true, not_from_false}
use Rattle.adlb_unit.specs.declared.names.Rank.{Rank}
use Rattle.adlb_unit.specs.declared.names.Server.{Server}
use Rattle.adlb_unit.specs.declared.names.WorkType.{WorkType}
use Rattle.adlb_unit.specs.declared.notes.Info.{Info}
use Rattle.adlb_unit.specs.declared.notes.End.{End}
use Rattle.bag_ledger.specs.declared.entries.Entry.TheVariants.{Counting, Counted, Done, Exhausted, Over, Finished}
use Rattle.bag_ledger.specs.declared.states.Status.TheVariants as does
use Rattle.bag_ledger.specs.Bag.{Bag, info_of, settled}
use Rattle.bag_ledger.specs.Step.{anything}
use Rattle.bag_ledger.proofs.Tests.{IsTest, has_is, four, same_number, none_is, counting_is, same_info_is, same_info_from, begins_is}
use Rattle.bag_ledger.proofs.Tests.{begins_from, server_is, server_from}

-- the test of Counting says where it is legal
pub counting_test : (b : Bag) (rank : Rank) (call : ℕ) (kind : WorkType) → IsTest b (Counting rank call kind)
counting_test b rank call kind =
    (λ e. let s = begins_is b rank call anything e in (s.0, s.1), λ s. begins_from b rank call anything s.0 s.1 refl)

-- the test of Counted says where it is legal
pub counted_test : (b : Bag) (server : Server) (rank : Rank) (call : ℕ) (info : Info) → IsTest b (Counted server rank call info)
counted_test b server rank call info = (
  λ e. let s = has_is _ _ e in
      let c = has_is _ _ s.2 in
      let t = four _ _ _ _ c.2 in
      let status = counting_is s.0.status c.0 c.1 ∙ ap (λ (n : ℕ). does.Counting n c.0.1) (eqb-true c.0.0 call t.0) in (
        s.0,
        c.0.1,
        s.1,
        status,
        (server_is b server t.1, eqb-true server.0 (rank.0 % b.servers) t.2),
        same_info_is info (info_of b server c.0.1) t.3,
      ),
  λ s. rw (
    s.2,
    s.3,
    same_number call,
    server_from b server s.4.0,
    eq-eqb server.0 (rank.0 % b.servers) s.4.1,
  ) (same_info_from info (info_of b server s.1) s.5),
)

-- the test of Done says where it is legal
pub done_test : (b : Bag) (rank : Rank) (call : ℕ) → IsTest b (Done rank call)
done_test b rank call = (λ e. let s = begins_is b rank call anything e in (s.0, s.1), λ s. begins_from b rank call anything s.0 s.1 refl)

-- the test of Exhausted says where it is legal
pub exhausted_test : (b : Bag) → IsTest b Exhausted
exhausted_test b = (
  λ e. let t = and_parts (settled b) (not b.exhausted) e in (t.0, not-true b.exhausted t.1),
  λ s. and_from (settled b) (not b.exhausted) s.0 (not_from_false b.exhausted s.1),
)

-- the test of Over says where it is legal
pub over_test : (b : Bag) (rank : Rank) (call : ℕ) (end : End) → IsTest b (Over rank call end)
over_test b rank call end = (
  λ e. let t = and_parts _ _ e in
      let s = has_is _ _ t.0 in
      let c = has_is _ _ s.2 in
      (s.0, s.1, c.1 ∙ ap (λ (n : ℕ). Some n) (eqb-true c.0 call c.2), t.1),
  λ s. rw (s.1, s.2, same_number call) s.3,
)

-- the test of Finished says where it is legal
pub finished_test : (b : Bag) (rank : Rank) (call : ℕ) → IsTest b (Finished rank call)
finished_test b rank call = (
  λ e. let s = begins_is b rank call (λ r. is_none r.batch) e in (s.0, s.1, none_is s.0.batch s.2),
  λ s. begins_from b rank call (λ r. is_none r.batch) s.0 s.1 (rw s.2 refl),
)
