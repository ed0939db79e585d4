-- The bytes of the parts that are kept, all together, and what is said of a part.
use Rattle.std.proofs.Common.{◌≡◌, ◌≤◌, ◌<◌, ◌+◌, ◌↔◌, ◌∙◌, ℕ, Bool, true, false, cond, not, [], ◌∷◌, length, Option, None, Some, IsTrue}
use Rattle.std.proofs.Common.{refl, sym, ap, subst, arith}
use Rattle.std.specs.Prelude.{if◌then◌else◌, nat_le, nat_lt}
use Rattle.std.specs.BTreeMap.{insert_entry}
use Rattle.std.specs.Option.{option_map}
use Rattle.std.specs.Ordering.{match_ordering}
use Rattle.std.specs.declared.cmp.Ordering.{Ordering}
use Rattle.std.specs.declared.cmp.Ordering.TheVariants.{Less, Equal, Greater}
use Rattle.std.proofs.lemmas.Bool.{le-leb, leb-true, lt-ltb, ltb-true}
use Rattle.std.proofs.lemmas.List.Sums.{sum_by-cons}
use Rattle.adlb_unit.specs.Ids.{same_batch}
use Rattle.adlb_unit.specs.declared.names.BatchId.{BatchId}
use Rattle.bag_ledger.proofs.Tests.{some_is}
use Rattle.work_queue.specs.Queue.{Queue, without_common}
use Rattle.server_components.specs.Store.{CanClose, CanFetch, Keeps, Store, by_batch, changed, counts, frees, part_in, released, size_of}
use Rattle.server_components.specs.Store.{with_turned, without}
use Rattle.server_components.specs.declared.parts.Part.{Part}
use Rattle.server_core.specs.inside.{bytes_in, bytes_of}

-- the first part, and the others
first_and_others : (e : BatchId × Part) (store : Store) → bytes_in (e ∷ store) ≡ length e.1.bytes + bytes_in store
first_and_others e store = sum_by-cons bytes_of e store

-- a part that is kept has no more
pub part_within : (store : Store) (batch : BatchId) (p : Part) → part_in store batch ≡ Some p → length p.bytes ≤ bytes_in store
part_within [] batch p is = absurd (cc)
part_within (e ∷ store) batch p is =
    let few = by_same (same_batch batch e.0) is (part_within store batch p) in
    omega (arith, few, first_and_others e store)
  where
    by_same : (t : Bool) → cond t (Some e.1) (part_in store batch) ≡ Some p
        → (part_in store batch ≡ Some p → length p.bytes ≤ bytes_in store) → length p.bytes ≤ length e.1.bytes + bytes_in store
    by_same true here later = let it = ap (λ (q : Part). length q.bytes) (some_is here) in omega (arith, it)
    by_same false more later = let rest = later more in omega (arith, rest)

-- one more part
pub kept_within : (store : Store) (batch : BatchId) (p : Part)
    → bytes_in (insert_entry by_batch store batch p) ≤ bytes_in store + length p.bytes
kept_within [] batch p = let one = first_and_others (batch, p) [] in omega (arith, one)
kept_within (e ∷ store) batch p = by_order (by_batch batch e.0) (kept_within store batch p)
  where
    by_order : (o : Ordering) → bytes_in (insert_entry by_batch store batch p) ≤ bytes_in store + length p.bytes
        → bytes_in (match_ordering o ((batch, p) ∷ e ∷ store) ((e.0, p) ∷ store) (e ∷ insert_entry by_batch store batch p))
        ≤ bytes_in (e ∷ store) + length p.bytes
    by_order Less rest =
        let new = first_and_others (batch, p) (e ∷ store) in
        let all : bytes_in ((batch, p) ∷ e ∷ store) ≤ bytes_in (e ∷ store) + length p.bytes = omega (arith, new) in
        all
    by_order Equal rest =
        let new = first_and_others (e.0, p) store in
        let all : bytes_in ((e.0, p) ∷ store) ≤ bytes_in (e ∷ store) + length p.bytes = omega (arith, new, first_and_others e store) in
        all
    by_order Greater rest =
        let new = first_and_others e (insert_entry by_batch store batch p) in
        let all : bytes_in (e ∷ insert_entry by_batch store batch p) ≤ bytes_in (e ∷ store) + length p.bytes =
        omega (arith, new, rest, first_and_others e store) in
        all

-- one part less
left_within : (store : Store) (batch : BatchId) → bytes_in (without store batch) + size_of (part_in store batch) ≤ bytes_in store
left_within [] batch = omega arith
left_within (e ∷ store) batch = by_same (same_batch batch e.0) (left_within store batch)
  where
    by_same : (t : Bool) → bytes_in (without store batch) + size_of (part_in store batch) ≤ bytes_in store
        → bytes_in (cond (not t) (e ∷ without store batch) (without store batch)) + size_of (cond t (Some e.1) (part_in store batch))
        ≤ bytes_in (e ∷ store)
    by_same true rest =
        let all : bytes_in (without store batch) + length e.1.bytes ≤ bytes_in (e ∷ store) =
        omega (arith, rest, first_and_others e store) in
        all
    by_same false rest =
        let others = first_and_others e (without store batch) in
        let all : bytes_in (e ∷ without store batch) + size_of (part_in store batch) ≤ bytes_in (e ∷ store) =
        omega (arith, rest, others, first_and_others e store) in
        all

-- one part is turned to another of as many bytes
turned_same : (f : Part → Part) → ((p : Part) → (f p).bytes ≡ p.bytes) → (store : Store) (batch : BatchId)
    → bytes_in (with_turned store batch f) ≡ bytes_in store
turned_same f keeps [] batch = refl
turned_same f keeps (e ∷ store) batch = by_same (same_batch batch e.0) (turned_same f keeps store batch)
  where
    by_same : (t : Bool) → bytes_in (with_turned store batch f) ≡ bytes_in store
        → bytes_in (cond t (e.0, f e.1) e ∷ with_turned store batch f) ≡ bytes_in (e ∷ store)
    by_same true rest =
        let same = ap (λ l. length l) (keeps e.1) in
        let now = first_and_others (e.0, f e.1) (with_turned store batch f) in
        let all : bytes_in ((e.0, f e.1) ∷ with_turned store batch f) ≡ bytes_in (e ∷ store) =
        omega (arith, same, now, rest, first_and_others e store) in
        all
    by_same false rest =
        let now = first_and_others e (with_turned store batch f) in
        let all : bytes_in (e ∷ with_turned store batch f) ≡ bytes_in (e ∷ store) = omega (arith, now, rest, first_and_others e store) in
        all

-- where they are charged, they are after a change
pub changed_within : (f : Part → Part) → ((p : Part) → (f p).bytes ≡ p.bytes) → (store : Store) (batch : BatchId) (q : Queue)
    → bytes_in store ≤ q.common → bytes_in (changed f store batch) ≤ (released f store batch q).common
changed_within f keeps store batch q charged = by_due (frees f store batch)
  where
    by_due : (t : Bool)
        → bytes_in (if t then without store batch else with_turned store batch f)
        ≤ (if t then without_common q (size_of (part_in store batch)) else q).common
    by_due true = let left = left_within store batch in omega (arith, left, charged)
    by_due false = rw (turned_same f keeps store batch) charged

-- What is said of a part is so of the one that is there.

told_there : (store : Store) (batch : BatchId) (n : ℕ) (a : Option ℕ) → option_map counts (part_in store batch) ≡ Some (n, a)
    → (p : Part) × (part_in store batch ≡ Some p) × (p.fetches ≡ n) × (p.accepted ≡ a)
told_there store batch n a = by_part (part_in store batch)
  where
    by_part : (o : Option Part) → option_map counts o ≡ Some (n, a) → (p : Part) × (o ≡ Some p) × (p.fetches ≡ n) × (p.accepted ≡ a)
    by_part None told = absurd (cc)
    by_part (Some p) told =
        let is = some_is told in
        (p, refl, ap (λ (t : ℕ × Option ℕ). t.0) is, ap (λ (t : ℕ × Option ℕ). t.1) is)

module _ (store : Store) (batch : BatchId) (common : ℕ) (charged : bytes_in store ≤ common) (n : ℕ) where
  keeps_that : (p : Part) → part_in store batch ≡ Some p → {P : Part → Type 0} → P p → Keeps store batch common P
  keeps_that p here holds =
      let few = part_within store batch p here in
      record { part = p; here = here; charged = omega (arith, few, charged); holds = holds }

  -- a part that is open can be closed if it has been fetched at most as often as units were accepted
  pub close_told : (accepted : ℕ) → option_map counts (part_in store batch) ≡ Some (n, None)
      → IsTrue (nat_le n accepted) ↔ Keeps store batch common (CanClose accepted)
  close_told accepted told =
      let p = told_there store batch n None told in (
        λ is. keeps_that p.0 p.1 (p.3, subst (λ k. k ≤ accepted) (sym p.2) (leb-true n accepted is)),
        λ (has : Keeps store batch common (CanClose accepted)).
            let same = some_is (sym has.here ∙ p.1) in
            let few = subst (λ (q : Part). q.fetches ≤ accepted) same has.holds.1 in
            le-leb n accepted (subst (λ k. k ≤ accepted) p.2 few),
      )

  -- a closed part can be fetched if its fetches are fewer than its units
  pub share_told : (accepted : ℕ) → option_map counts (part_in store batch) ≡ Some (n, Some accepted)
      → IsTrue (nat_lt n accepted) ↔ Keeps store batch common CanFetch
  share_told accepted told =
      let p = told_there store batch n (Some accepted) told in (
        λ is. keeps_that p.0 p.1 (λ m e.
            let same : accepted ≡ m = some_is (sym p.3 ∙ e) in
            subst (λ k. p.0.fetches < k) same (subst (λ k. k < accepted) (sym p.2) (ltb-true n accepted is))),
        λ (has : Keeps store batch common CanFetch).
            let same = some_is (sym has.here ∙ p.1) in
            let few = subst CanFetch same has.holds accepted p.3 in
            lt-ltb n accepted (subst (λ k. k < accepted) p.2 few),
      )

  -- a part that is open can be fetched
  pub open_told : option_map counts (part_in store batch) ≡ Some (n, None) → IsTrue true ↔ Keeps store batch common CanFetch
  open_told told =
      let p = told_there store batch n None told in
      (λ is. keeps_that p.0 p.1 (λ m e. let no = sym p.3 ∙ e in absurd (cc)), λ has. refl)
