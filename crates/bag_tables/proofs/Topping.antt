-- The highest priority, by the order of the keys.
use Rattle.std.proofs.Common.{◌≡◌, ℕ, ℤ, zero, suc, false, Option, Some, None, refl, arith}
use Rattle.std.specs.Ordering.{nat_cmp, ordering_then, is_gt}
use Rattle.std.specs.declared.cmp.Ordering.{Ordering}
use Rattle.std.specs.declared.cmp.Ordering.TheVariants.{Less, Equal}
use Rattle.std.specs.declared.cmp.Reverse.{Reverse}
use Rattle.std.specs.BTreeMap.Range.{IsLtBy}
use Rattle.std.proofs.lemmas.Cmp.{nat_cmp_total, tied_itself}
use Rattle.std.proofs.lemmas.Bool.Decides.{nat_tests}
use Rattle.adlb_unit.specs.declared.names.Server.{Server}
use Rattle.adlb_unit.specs.declared.names.WorkType.{WorkType}
use Rattle.bag_tables.specs.declared.counts.FreeCounts.{FreeCounts}
use Rattle.bag_tables.specs.Keys.{by_prio}
use Rattle.bag_tables.specs.Tallies.{IsFirstAfter, IsNoneAfter}
use Rattle.bag_tables.specs.Counted.{HasNoTop, IsTop, prio_count}

tied : (n : ℕ) → nat_cmp n n ≡ Equal
tied n = tied_itself nat_cmp_total n

-- each priority comes after none
after_none : (s k : ℕ) (prio : ℤ) → IsLtBy by_prio (s, k, None) (s, k, Some (record { 0 = prio }))
after_none s k prio = rw (tied s, tied k) refl

-- what comes after the one and not after the other has the parts that are the same in both
same_parts : (s k a o : ℕ) (x y : Ordering) → ordering_then (ordering_then (nat_cmp s a) (nat_cmp k o)) x ≡ Less
    → is_gt (ordering_then (ordering_then (nat_cmp a s) (nat_cmp o k)) y) ≡ false → (a ≡ s) × (o ≡ k)
same_parts s k a o x y after upto = (grind (arith, nat_tests), grind (arith, nat_tests))

-- if no key comes after a server and type, they have no highest priority
pub none_after : (free : FreeCounts) (server : Server) (kind : WorkType) → IsNoneAfter by_prio free.prios (server.0, kind.0, None)
    → HasNoTop free server kind
none_after free server kind none = λ prio. none (server.0, kind.0, Some (record { 0 = prio })) (after_none server.0 kind.0 prio)

-- if the next key is of another server or type, they have no highest priority
pub none_here : (free : FreeCounts) (server : Server) (kind : WorkType) (a o : ℕ) (t : Option (Reverse ℤ)) (n : ℕ)
    → IsFirstAfter by_prio free.prios (server.0, kind.0, None) ((a, o, t), n) → (a ≡ server.0 → o ≡ kind.0 → ⊥) → HasNoTop free server kind
none_here free server kind a o t n first apart = λ prio.
    by_count prio (prio_count free server kind prio) refl
  where
    by_count : (prio : ℤ) (m : ℕ) → prio_count free server kind prio ≡ m → prio_count free server kind prio ≡ 0
    by_count prio zero is = is
    by_count prio (suc m) is =
        let least = first.least (server.0, kind.0, Some (record { 0 = prio })) (after_none server.0 kind.0 prio) (omega (arith, is)) in
        let same = same_parts server.0 kind.0 a o _ _ first.after least in
        absurd (apart same.0 same.1)

-- if the next key is of the server and type, it has their highest priority
pub top_here : (free : FreeCounts) (server : Server) (kind : WorkType) (a o : ℕ) (top : ℤ) (n : ℕ)
    → IsFirstAfter by_prio free.prios (server.0, kind.0, None) ((a, o, Some (record { 0 = top })), n) → a ≡ server.0 → o ≡ kind.0
    → IsTop free server kind (top, n)
top_here free server kind a o top n first at of = record {
  count = rw (at, of) at first.count;
  some = first.some;
  highest = λ prio some.
      let least = first.least (server.0, kind.0, Some (record { 0 = prio })) (after_none server.0 kind.0 prio) some in
      rw (at, of, tied server.0, tied kind.0) at least;
}
