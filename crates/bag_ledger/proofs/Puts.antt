-- Puts: where their entries are legal, as tests.
use Rattle.std.proofs.Common.{ℕ, ◌+◌, ℤ, List, length, Option, Some, refl, ap, ◌∙◌}
use Rattle.std.proofs.lemmas.Bool.{and_parts, eqb-true, eq-eqb, ltb-true, lt-ltb, leb-true, le-leb, not-true}
use Rattle.adlb_unit.specs.declared.names.Rank.{Rank}
use Rattle.adlb_unit.specs.declared.names.Server.{Server}
use Rattle.adlb_unit.specs.declared.names.WorkType.{WorkType}
use Rattle.adlb_unit.specs.declared.names.Target.{Target}
use Rattle.adlb_unit.specs.declared.names.UnitId.{UnitId}
use Rattle.adlb_unit.proofs.Same.{same_unit_from, same_unit_is}
use Rattle.bag_ledger.specs.declared.entries.Entry.TheVariants.{Putting, Refused, Accepted, Rejected}
use Rattle.bag_ledger.specs.Bag.{Bag, charge}
use Rattle.bag_ledger.specs.Step.{anything}
use Rattle.bag_ledger.proofs.Tests.{IsTest, has_is, four, same_number, putting_is, begins_is, begins_from, server_is, server_from}

-- the test of Putting says where it is legal
pub putting_test : (b : Bag) (rank : Rank) (call : ℕ) (kind : WorkType) (prio : ℤ) (target : Target) (answer : Option Rank) (body : List ℕ)
    → IsTest b (Putting rank call kind prio target answer body)
putting_test b rank call kind prio target answer body =
    (λ e. let s = begins_is b rank call anything e in (s.0, s.1), λ s. begins_from b rank call anything s.0 s.1 refl)

-- the test of Refused says where it is legal
pub refused_test : (b : Bag) (server : Server) (id : UnitId) (used : ℕ) → IsTest b (Refused server id used)
refused_test b server id used = (
  λ e. let s = has_is _ _ e in
      let o = has_is _ _ s.2 in
      let t = and_parts _ _ o.2 in
      let u = four _ _ _ _ t.0 in (
        s.0,
        o.0.1,
        s.1,
        o.1 ∙ ap (λ (n : ℕ). Some (n, o.0.1)) (eqb-true o.0.0 id.number u.0),
        server_is b server u.1,
        not-true _ u.2,
        eqb-true used (charge b server) u.3,
        ltb-true b.limit (used + o.0.1) t.1,
      ),
  λ s. rw (
    s.2,
    s.3,
    same_number id.number,
    server_from b server s.4,
    s.5,
    eq-eqb used (charge b server) s.6,
    lt-ltb b.limit (used + s.1) s.7,
  ) refl,
)

-- the test of Accepted says where it is legal
pub accepted_test : (b : Bag) (server : Server) (id : UnitId) → IsTest b (Accepted server id)
accepted_test b server id = (
  λ e. let s = has_is _ _ e in
      let u = has_is _ _ s.2 in
      let t = four _ _ _ _ u.2 in (
        s.0,
        u.0,
        s.1,
        putting_is s.0.status u.0 u.1,
        same_unit_is u.0.id id t.0,
        server_is b server t.1,
        not-true _ t.2,
        leb-true (charge b server + length u.0.body) b.limit t.3,
      ),
  λ s. rw (
    s.2,
    s.3,
    same_unit_from s.1.id id s.4,
    server_from b server s.5,
    s.6,
    le-leb (charge b server + length s.1.body) b.limit s.7,
  ) refl,
)

-- the test of Rejected says where it is legal
pub rejected_test : (b : Bag) (rank : Rank) (call : ℕ) → IsTest b (Rejected rank call)
rejected_test b rank call = (
  λ e. let s = has_is _ _ e in
      let o = has_is _ _ s.2 in
      let t = and_parts _ _ o.2 in
      (s.0, o.0.1, s.1, o.1 ∙ ap (λ (n : ℕ). Some (n, o.0.1)) (eqb-true o.0.0 call t.0), t.1),
  λ s. rw (s.2, s.3, same_number call, s.4) refl,
)
