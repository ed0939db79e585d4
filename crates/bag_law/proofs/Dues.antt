-- Which entries make a part due: only the end of a batch, and common bytes that come, make one.
use Rattle.std.proofs.Common.{◌≡◌, ◌+◌, ◌≤◌, ◌==◌, ◌&&◌, ◌||◌, not, Bool, true, false, List, [], ◌∷◌, sum_by, Option, Some, None, refl, sym}
use Rattle.std.proofs.Common.{ap, ◌∙◌, arith}
use Rattle.std.specs.List.{list_any}
use Rattle.std.proofs.lemmas.List.Sums.{sum_by-cons, sum_by_push}
use Rattle.adlb_unit.specs.declared.names.Server.{Server}
use Rattle.adlb_unit.specs.declared.names.UnitId.{UnitId}
use Rattle.adlb_unit.specs.declared.names.CommonRef.{CommonRef}
use Rattle.adlb_unit.specs.Ids.{same_batch}
use Rattle.bag_ledger.specs.declared.entries.Entry.{Entry}
use Rattle.bag_ledger.specs.declared.entries.Entry.TheVariants.{Accepted, Kept, Closed, Freed, CommonFetched}
use Rattle.bag_ledger.specs.Bag.{Bag, has_due, is_due}
use Rattle.bag_ledger.specs.Steps.{LegalWhere, after, new_part}
use Rattle.bag_ledger.proofs.Lookups.{sum_changed}
use Rattle.bag_law.specs.Counts.{dues, frees, may_make_due, one}
use Rattle.bag_law.specs.Sound.{BatchesAreOpen}
use Rattle.bag_law.proofs.Batches.{put_is_open}
use Rattle.bag_law.proofs.Turn.{one_le}
use Rattle.bag_law.proofs.Plain.{IsAccepted, accepted_is, kept_is, shared_parts}

freed_done : (c : Bool) (n : Bool) → ((c && not true) && n) ≡ false
freed_done true n = refl
freed_done false n = refl

accepted_dues : (b n : Bag) (server : Server) (id : UnitId) → IsAccepted b n server id → BatchesAreOpen b.ranks b.parts
    → dues n.parts ≤ dues b.parts
accepted_dues b n server id a parts = rw a.parts (by_common a.u.common refl)
  where
    by_common : (o : Option CommonRef) → a.u.common ≡ o → dues (shared_parts o b.parts) ≤ dues b.parts
    by_common None e = omega arith
    by_common (Some c) e =
        let p = put_is_open b.ranks b.parts id.rank.0 a.r a.u c a.there a.puts e parts in
        let s =
        sum_changed (λ p. one (is_due p)) (λ p. record p { accepted = p.accepted + 1 })
        (λ q. same_batch q.batch c.batch) b.parts p.0 p.1 in
        let none : one (is_due (record p.0 { accepted = p.0.accepted + 1 })) ≡ 0 = rw p.2 refl in
        omega arith

-- only the end of a batch and common bytes that come make a part due, one at most
pub made_due : (found : Bag → Bool) (b : Bag) (e : Entry) → LegalWhere found b e → BatchesAreOpen b.ranks b.parts
    → dues (after b e).parts + frees e ≤ dues b.parts + may_make_due e
made_due found b (Accepted server id) l parts = let a = accepted_dues b _ server id (accepted_is b server id l) parts in omega arith
made_due found b (Kept server batch) l parts =
    let push = sum_by_push (λ p. one (is_due p)) b.parts (new_part server batch l.1) in
    rw (kept_is b server batch l) (omega arith)
made_due found b (Closed server batch) l parts =
    let s = sum_changed (λ p. one (is_due p)) (λ p. record p { closed = true }) (λ q. same_batch q.batch batch) b.parts l.3 l.8.1 in
    let most = one_le (is_due (record l.3 { closed = true })) in
    omega arith
made_due found b (Freed server batch) l parts =
    let s = sum_changed (λ p. one (is_due p)) (λ p. record p { freed = true }) (λ q. same_batch q.batch batch) b.parts l.0 l.1.1 in
    let was : one (is_due l.0) ≡ 1 = ap one l.2 in
    let now : one (is_due (record l.0 { freed = true })) ≡ 0 = ap one (freed_done l.0.closed (l.0.fetched == l.0.accepted)) in
    omega arith
made_due found b (CommonFetched server rank batch) l parts =
    let s =
    sum_changed (λ p. one (is_due p)) (λ p. record p { fetched = p.fetched + 1 }) (λ q. same_batch q.batch batch) b.parts l.5 l.11.1 in
    let most = one_le (is_due (record l.5 { fetched = l.5.fetched + 1 })) in
    omega arith
made_due found b _ l parts = omega arith

any_counts : {X : Type 0} (test : X → Bool) (xs : List X) → list_any test xs ≡ false → sum_by (λ x. one (test x)) xs ≡ 0
any_counts test [] e = refl
any_counts test (y ∷ ys) e = by_test (any_counts test ys) (test y) refl
  where
    by_test : (list_any test ys ≡ false → sum_by (λ x. one (test x)) ys ≡ 0) → (t : Bool) → test y ≡ t
        → sum_by (λ x. one (test x)) (y ∷ ys) ≡ 0
    by_test rest true is = let not : (true || list_any test ys) ≡ false = rw is at e in absurd (cc)
    by_test rest false is =
        let later : list_any test ys ≡ false = rw is at e in
        let r = rest later in rw (sum_by-cons (λ x. one (test x)) y ys, is) (omega arith)

counts_any : {X : Type 0} (test : X → Bool) (xs : List X) → sum_by (λ x. one (test x)) xs ≡ 0 → list_any test xs ≡ false
counts_any test [] e = refl
counts_any test (y ∷ ys) e = by_test (counts_any test ys) (test y) refl
  where
    all : one (test y) + sum_by (λ x. one (test x)) ys ≡ 0
    all = sym (sum_by-cons (λ x. one (test x)) y ys) ∙ e

    by_test : (sum_by (λ x. one (test x)) ys ≡ 0 → list_any test ys ≡ false) → (t : Bool) → test y ≡ t → list_any test (y ∷ ys) ≡ false
    by_test rest true is = let more : 1 + sum_by (λ x. one (test x)) ys ≡ 0 = rw is at all in absurd (omega arith)
    by_test rest false is = let less : 0 + sum_by (λ x. one (test x)) ys ≡ 0 = rw is at all in rw is (rest (omega arith))

-- where no part is due they count to none, and the other way round
pub none_due : (b : Bag) → has_due b ≡ false → dues b.parts ≡ 0
none_due b e = any_counts is_due b.parts e

-- where no part counts as due, there is no due part
pub not_due : (b : Bag) → dues b.parts ≡ 0 → has_due b ≡ false
not_due b e = counts_any is_due b.parts e
