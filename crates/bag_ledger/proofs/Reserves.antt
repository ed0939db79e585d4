-- Reserves and tries: where their entries are legal, as tests.
use Rattle.std.proofs.Common.{ℕ, List, Option, Some, refl, ap, ◌∙◌}
use Rattle.std.proofs.lemmas.Bool.{and_parts, eqb-true, not-true}
use Rattle.adlb_unit.specs.declared.names.Rank.{Rank}
use Rattle.adlb_unit.specs.declared.names.Server.{Server}
use Rattle.adlb_unit.specs.declared.names.WorkType.{WorkType}
use Rattle.adlb_unit.specs.declared.names.UnitId.{UnitId}
use Rattle.bag_ledger.specs.declared.entries.Entry.TheVariants.{Asked, Tried, Granted, Looked, NoCurrent}
use Rattle.bag_ledger.specs.declared.states.Status.TheVariants as does
use Rattle.bag_ledger.specs.Bag.{Bag}
use Rattle.bag_ledger.specs.Step.{anything}
use Rattle.bag_ledger.proofs.Tests.{IsTest, has_is, three, same_number, free_is, trying_is, begins_is, begins_from, server_is, server_from}

-- the test of Asked says where it is legal
pub asked_test : (b : Bag) (rank : Rank) (call : ℕ) (types : Option (List WorkType)) → IsTest b (Asked rank call types)
asked_test b rank call types =
    (λ e. let s = begins_is b rank call anything e in (s.0, s.1), λ s. begins_from b rank call anything s.0 s.1 refl)

-- the test of Tried says where it is legal
pub tried_test : (b : Bag) (rank : Rank) (call : ℕ) (types : Option (List WorkType)) → IsTest b (Tried rank call types)
tried_test b rank call types =
    (λ e. let s = begins_is b rank call anything e in (s.0, s.1), λ s. begins_from b rank call anything s.0 s.1 refl)

-- the test of Granted says where it is legal
pub granted_test : (b : Bag) (server : Server) (rank : Rank) (call : ℕ) (id : UnitId) → IsTest b (Granted server rank call id)
granted_test b server rank call id = (
  λ e. let s = has_is _ _ e in
      let w = has_is _ _ s.2 in
      let t = three _ _ _ w.2 in
      let u = has_is _ _ t.2 in
      let v = and_parts _ _ u.2 in (
        s.0,
        w.0.1,
        u.0,
        s.1,
        w.1 ∙ ap (λ (n : ℕ). Some (n, w.0.1)) (eqb-true w.0.0 call t.0),
        server_is b server t.1,
        (u.1, free_is server u.0.place v.0),
        v.1,
      ),
  λ s. rw (s.3, s.4, same_number call, server_from b server s.5, s.6.0, s.6.1, same_number server.0) s.7,
)

-- the test of Looked says where it is legal
pub looked_test : (b : Bag) (server : Server) (rank : Rank) (call : ℕ) → IsTest b (Looked server rank call)
looked_test b server rank call = (
  λ e. let s = has_is _ _ e in
      let w = has_is _ _ s.2 in
      let t = three _ _ _ w.2 in (
        s.0,
        w.0.1,
        s.1,
        trying_is s.0.status w.0 w.1 ∙ ap (λ (n : ℕ). does.Trying n w.0.1) (eqb-true w.0.0 call t.0),
        server_is b server t.1,
        not-true _ t.2,
      ),
  λ s. rw (s.2, s.3, same_number call, server_from b server s.4, s.5) refl,
)

-- the test of NoCurrent says where it is legal
pub no_current_test : (b : Bag) (rank : Rank) (call : ℕ) → IsTest b (NoCurrent rank call)
no_current_test b rank call = (
  λ e. let s = has_is _ _ e in
      let w = has_is _ _ s.2 in
      let t = and_parts _ _ w.2 in
      (s.0, w.0.1, s.1, trying_is s.0.status w.0 w.1 ∙ ap (λ (n : ℕ). does.Trying n w.0.1) (eqb-true w.0.0 call t.0), t.1),
  λ s. rw (s.2, s.3, same_number call) s.4,
)
