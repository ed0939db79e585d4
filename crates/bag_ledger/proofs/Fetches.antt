-- Fetches: where their entries are legal, as tests.
use Rattle.std.proofs.Common.{ℕ, Bool, true, false, refl, ap, ◌∙◌}
use Rattle.std.proofs.lemmas.Bool.{and_parts, not-true}
use Rattle.adlb_unit.specs.declared.names.Rank.{Rank}
use Rattle.adlb_unit.specs.declared.names.Server.{Server}
use Rattle.adlb_unit.specs.declared.names.UnitId.{UnitId}
use Rattle.adlb_unit.specs.declared.names.BatchId.{BatchId}
use Rattle.adlb_unit.proofs.Same.{same_unit_from, same_unit_is}
use Rattle.bag_ledger.specs.declared.entries.Entry.TheVariants.{Fetching, Fetched, CommonFetched}
use Rattle.bag_ledger.specs.declared.states.Status.TheVariants as does
use Rattle.bag_ledger.specs.Bag.{Bag}
use Rattle.bag_ledger.specs.Step.{anything}
use Rattle.bag_ledger.proofs.Tests.{IsTest, has_is, three, same_number, pinned_is, pinned_to_is, fetching_is, is_of_is, is_of_from}
use Rattle.bag_ledger.proofs.Tests.{begins_is, begins_from, server_is, server_from, keeps_is, keeps_from}

-- the test of Fetching says where it is legal
pub fetching_test : (b : Bag) (rank : Rank) (call : ℕ) (id : UnitId) → IsTest b (Fetching rank call id)
fetching_test b rank call id = (
  λ e. let t = and_parts _ _ e in
      let s = begins_is b rank call anything t.0 in
      let u = has_is _ _ t.1 in
      let p = pinned_to_is rank u.0.place u.2 in
      (s.0, u.0, p.0, s.1, (u.1, p.1)),
  λ s. rw (begins_from b rank call anything s.0 s.3 refl, s.4.0, s.4.1) (same_number rank.0),
)

-- the test of Fetched says where it is legal
pub fetched_test : (b : Bag) (server : Server) (rank : Rank) (id : UnitId) → IsTest b (Fetched server rank id)
fetched_test b server rank id = (
  λ e. let t = three _ _ _ e in
      let s = has_is _ _ t.0 in
      let f = has_is _ _ s.2 in
      let v = and_parts _ _ f.2 in
      let call = fetching_is s.0.status f.0 f.1 in
      let u = has_is _ _ t.2 in
      let own = ap (λ (came : Bool). does.Fetching call.0 f.0.0 came) (not-true f.0.1 v.1) in
      let status = call.1 ∙ own ∙ ap (λ (i : UnitId). does.Fetching call.0 i false) (same_unit_is f.0.0 id v.0) in
      (s.0, call.0, u.0, s.1, status, server_is b server t.1, (u.1, pinned_is server rank u.0.place u.2)),
  λ s. rw (s.3, s.4, same_unit_from id id refl, server_from b server s.5, s.6.0, s.6.1, same_number server.0) (same_number rank.0),
)

-- the test of CommonFetched says where it is legal
pub common_fetched_test : (b : Bag) (server : Server) (rank : Rank) (batch : BatchId) → IsTest b (CommonFetched server rank batch)
common_fetched_test b server rank batch = (
  λ e. let t = and_parts _ _ e in
      let s = has_is _ _ t.0 in
      let f = has_is _ _ s.2 in
      let v = and_parts _ _ f.2 in
      let u = has_is _ _ v.1 in
      let common = is_of_is batch u.0.unit.common u.2 in
      let call = fetching_is s.0.status f.0 f.1 in
      let status = call.1 ∙ ap (λ (came : Bool). does.Fetching call.0 f.0.0 came) v.0 in
      let p = keeps_is b server batch (λ p. true) t.1 in
      (s.0, call.0, f.0.0, u.0, common.0, p.0, s.1, status, u.1, common.1, common.2, p.1),
  λ s. rw (s.6, s.7, s.8, is_of_from batch s.3.unit.common s.4 s.9 s.10) (keeps_from b server batch (λ p. true) s.5 s.11 refl),
)
