-- Pushes: where their entries are legal, as tests.
use Rattle.std.proofs.Common.{ℕ, ◌+◌, length}
use Rattle.std.proofs.lemmas.Bool.{and_parts, eqb-true, eq-eqb, leb-true, le-leb, not-true}
use Rattle.adlb_unit.specs.declared.names.Server.{Server}
use Rattle.adlb_unit.specs.declared.names.UnitId.{UnitId}
use Rattle.bag_ledger.specs.declared.entries.Entry.TheVariants.{Promised, Left, Arrived, Withdrawn}
use Rattle.bag_ledger.specs.Bag.{Bag, charge, promise_of}
use Rattle.bag_ledger.proofs.Tests.{IsTest, has_is, three, four, same_number, same_server_is, same_server_from, none_is, free_is}
use Rattle.bag_ledger.proofs.Tests.{travelling_is, server_is, server_from}

-- the test of Promised says where it is legal
pub promised_test : (b : Bag) (server : Server) (id : UnitId) (n : ℕ) → IsTest b (Promised server id n)
promised_test b server id n = (
  λ e. let u = has_is _ _ e in
      let t = three _ _ _ u.2 in
      let v = four _ _ _ _ t.0 in (
        u.0,
        u.1,
        eqb-true (length u.0.unit.body) n v.0,
        server_is b server v.1,
        not-true _ v.2,
        not-true _ v.3,
        none_is (promise_of b id) t.1,
        leb-true (charge b server + n) b.limit t.2,
      ),
  λ s. rw (s.1, eq-eqb (length s.0.unit.body) n s.2, server_from b server s.3, s.4, s.5, s.6) (le-leb (charge b server + n) b.limit s.7),
)

-- the test of Left says where it is legal
pub left_test : (b : Bag) (server to : Server) (id : UnitId) → IsTest b (Left server to id)
left_test b server to id = (
  λ e. let t = four _ _ _ _ e in
      let u = has_is _ _ t.0 in
      let p = has_is _ _ t.3 in
      (u.0, p.0, (u.1, free_is server u.0.place u.2), server_is b server t.1, server_is b to t.2, p.1, same_server_is p.0.server to p.2),
  λ s. rw (s.2.0, s.2.1, same_number server.0, server_from b server s.3, server_from b to s.4, s.5) (same_server_from s.1.server to s.6),
)

-- the test of Arrived says where it is legal
pub arrived_test : (b : Bag) (server : Server) (id : UnitId) → IsTest b (Arrived server id)
arrived_test b server id = (
  λ e. let t = and_parts _ _ e in
      let u = has_is _ _ t.0 in
      (u.0, (u.1, travelling_is server u.0.place u.2), server_is b server t.1),
  λ s. rw (s.1.0, s.1.1, same_number server.0) (server_from b server s.2),
)

-- the test of Withdrawn says where it is legal
pub withdrawn_test : (b : Bag) (server : Server) (id : UnitId) → IsTest b (Withdrawn server id)
withdrawn_test b server id = (
  λ e. let t = three _ _ _ e in
      let u = has_is _ _ t.0 in
      let p = has_is _ _ t.2 in
      (u.0, p.0, u.1, not-true _ u.2, server_is b server t.1, p.1, same_server_is p.0.server server p.2),
  λ s. rw (s.2, s.3, server_from b server s.4, s.5) (same_server_from s.1.server server s.6),
)
