-- Batches: where their entries are legal, as tests.
use Rattle.std.proofs.Common.{ℕ, ◌+◌, true, not, List, length, refl, ap, ◌∙◌}
use Rattle.std.specs.Prelude.{is_none}
use Rattle.std.proofs.lemmas.Bool.{and_parts, eqb-true, leb-true, le-leb, not-true}
use Rattle.adlb_unit.specs.declared.names.Rank.{Rank}
use Rattle.adlb_unit.specs.declared.names.Server.{Server}
use Rattle.adlb_unit.specs.declared.names.BatchId.{BatchId}
use Rattle.bag_ledger.specs.declared.entries.Entry.TheVariants.{Keeping, Kept, Closing, Closed, Freed}
use Rattle.bag_ledger.specs.declared.states.Status.TheVariants as does
use Rattle.bag_ledger.specs.Bag.{Bag, charge, is_due}
use Rattle.bag_ledger.proofs.Tests.{IsTest, has_is, four, same_number, none_is, some_there, keeping_is, closing_is, is_of_is, is_of_from}
use Rattle.bag_ledger.proofs.Tests.{begins_is, begins_from, server_is, server_from, keeps_is, keeps_from}

-- the test of Keeping says where it is legal
pub keeping_test : (b : Bag) (rank : Rank) (call : ℕ) (common : List ℕ) → IsTest b (Keeping rank call common)
keeping_test b rank call common = (
  λ e. let s = begins_is b rank call (λ r. is_none r.batch) e in (s.0, s.1, none_is s.0.batch s.2),
  λ s. begins_from b rank call (λ r. is_none r.batch) s.0 s.1 (rw s.2 refl),
)

-- the test of Kept says where it is legal
pub kept_test : (b : Bag) (server : Server) (batch : BatchId) → IsTest b (Kept server batch)
kept_test b server batch = (
  λ e. let s = has_is _ _ e in
      let k = has_is _ _ s.2 in
      let t = four _ _ _ _ k.2 in
      let status = keeping_is s.0.status k.0 k.1 ∙ ap (λ (n : ℕ). does.Keeping n k.0.1) (eqb-true k.0.0 batch.number t.0) in
      (s.0, k.0.1, s.1, status, server_is b server t.1, not-true _ t.2, leb-true (charge b server + length k.0.1) b.limit t.3),
  λ s. rw (s.2, s.3, same_number batch.number, server_from b server s.4, s.5, le-leb (charge b server + length s.1) b.limit s.6) refl,
)

-- the test of Closing says where it is legal
pub closing_test : (b : Bag) (rank : Rank) (call : ℕ) → IsTest b (Closing rank call)
closing_test b rank call = (
  λ e. let s = begins_is b rank call (λ r. not (is_none r.batch)) e in
      let c = some_there s.0.batch s.2 in
      (s.0, c.0, s.1, c.1),
  λ s. begins_from b rank call (λ r. not (is_none r.batch)) s.0 s.2 (rw s.3 refl),
)

-- the test of Closed says where it is legal
pub closed_test : (b : Bag) (server : Server) (batch : BatchId) → IsTest b (Closed server batch)
closed_test b server batch = (
  λ e. let t = and_parts _ _ e in
      let s = has_is _ _ t.0 in
      let u = and_parts _ _ s.2 in
      let call = closing_is s.0.status u.0 in
      let common = is_of_is batch s.0.batch u.1 in
      let p = keeps_is b server batch (λ p. true) t.1 in
      (s.0, call.0, common.0, p.0, s.1, call.1, common.1, common.2, p.1),
  λ s. rw (s.4, s.5, is_of_from batch s.0.batch s.2 s.6 s.7) (keeps_from b server batch (λ p. true) s.3 s.8 refl),
)

-- the test of Freed says where it is legal
pub freed_test : (b : Bag) (server : Server) (batch : BatchId) → IsTest b (Freed server batch)
freed_test b server batch = (λ e. keeps_is b server batch is_due e, λ s. keeps_from b server batch is_due s.0 s.1 s.2)
