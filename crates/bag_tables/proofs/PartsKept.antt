-- Common parts that are kept stay so.
use Rattle.std.proofs.Common.{◌≡◌, ◌∙◌, sym, ◌==◌, ◌&&◌, ℕ, ◌+◌, ◌<◌, ◌≤◌, ◌^◌, Bool, true, false, cond, List, [], ◌∷◌, ◌++◌, length}
use Rattle.std.proofs.Common.{slice_index_or, Some, None, refl, ap, arith, count_by}
use Rattle.std.specs.Prelude.{if◌then◌else◌, position, nat_lt}
use Rattle.std.specs.List.{list_any}
use Rattle.std.specs.Option.{option_or}
use Rattle.std.proofs.lemmas.Bool.Decides.{nat_tests}
use Rattle.std.proofs.lemmas.List.Sums.{sum_by_push, sum_by-cons}
use Rattle.adlb_unit.specs.Ids.{same_batch}
use Rattle.adlb_unit.specs.declared.names.BatchId.{BatchId}
use Rattle.bag_ledger.specs.declared.states.Part.{Part}
use Rattle.bag_ledger.specs.Bag.{is_due}
use Rattle.bag_ledger.specs.Steps.{change_at}
use Rattle.bag_tables.specs.declared.changes.PartChange.{PartChange}
use Rattle.bag_tables.specs.declared.changes.PartChange.TheVariants.{Closed, Freed, Accepted, Fetched}
use Rattle.bag_tables.specs.declared.places.Places.{Places}
use Rattle.bag_tables.specs.declared.charges.Charges.{Charges}
use Rattle.bag_tables.specs.Changes.{part_changed}
use Rattle.bag_tables.specs.Places.{place_at}
use Rattle.bag_tables.specs.Charges.{IsSummed, charged_at, bytes_at}
use Rattle.bag_tables.specs.Keeping.{PartsAreKept, kept_at, part_weight, part_size}
use Rattle.bag_tables.proofs.Placing.{position_push, position_changed}
use Rattle.bag_tables.proofs.Summing.{summed_push, summed_change, summed_holds, summed_fits, sum_changed_at, bytes_low}

-- what a part weighs on a server is its bytes where it is kept
pub weight_is : (k : ℕ) (p : Part) → part_weight k p ≡ bytes_at (kept_at p) k (length p.common)
weight_is k p = by_test p.freed refl (p.server.0 == k) refl
  where
    by_test : (freed : Bool) → p.freed ≡ freed → (here : Bool) → (p.server.0 == k) ≡ here
        → part_weight k p ≡ bytes_at (kept_at p) k (length p.common)
    by_test true is true there = rw (is, there) refl
    by_test true is false there = rw (is, there) refl
    by_test false is true there = rw (is, there) refl
    by_test false is false there = rw (is, there) refl

-- a part weighs at most its bytes
pub weight_low : (k : ℕ) (p : Part) → part_weight k p ≤ part_size p
weight_low k p = omega (arith, weight_is k p, bytes_low (kept_at p) k (length p.common))

size_stays : (change : PartChange) (p : Part) → part_size (part_changed change p) ≡ part_size p
size_stays Closed p = refl
size_stays Freed p = refl
size_stays Accepted p = refl
size_stays Fetched p = refl

batch_stays : (change : PartChange) (batch : BatchId) (p : Part) → same_batch (part_changed change p).batch batch ≡ same_batch p.batch batch
batch_stays Closed batch p = refl
batch_stays Freed batch p = refl
batch_stays Accepted batch p = refl
batch_stays Fetched batch p = refl

-- parts are kept over places that find the same
pub parts_same : (places again : Places) (charges : Charges) (due : ℕ) (parts : List Part) → PartsAreKept places charges due parts
    → ((r n : ℕ) → place_at again r n ≡ place_at places r n) → PartsAreKept again charges due parts
parts_same places again charges due parts kept same_place =
    record { placed = λ batch. same_place batch.rank.0 batch.number ∙ kept.placed batch; charged = kept.charged; counted = kept.counted }

-- parts are kept with one part more
pub parts_added : (places noted : Places) (charges raised : Charges) (due more : ℕ) (parts : List Part) (part : Part) (at n : ℕ)
    → PartsAreKept places charges due parts → at ≡ length parts → n ≡ length part.common → n < 2 ^ 64
    → ((r m : ℕ) → place_at noted r m ≡ option_or (place_at places r m)
    (if (part.batch.rank.0 == r) && (part.batch.number == m) then Some at else None))
    → ((k : ℕ) → k < 8 → charged_at raised k + bytes_at None k n ≡ charged_at charges k + bytes_at (kept_at part) k n)
    → more + (if false then 1 else 0) ≡ due + (if is_due part then 1 else 0) → PartsAreKept noted raised more (parts ++ part ∷ [])
parts_added places noted charges raised due more parts part at n kept last long short notes raises counts = record {
  placed =
      λ batch. notes batch.rank.0 batch.number
      ∙ rw (kept.placed batch, last) (sym (position_push (λ p. same_batch p.batch batch) parts part));
  charged = summed_push part_weight part_size charges raised parts part kept.charged (rw (← long) short)
      (λ k within. rw (weight_is k part, ← long) (let e = raises k within in omega (arith, e)));
  counted = omega (arith, counts, kept.counted, sum_by_push (λ p. cond (is_due p) 1 0) parts part);
}

-- a charge has room for `n` bytes more
pub charge_fits : (charges : Charges) (parts : List Part) (n : ℕ) → IsSummed part_weight part_size charges parts → length parts < 2 ^ 64
    → n < 2 ^ 64 → (k : ℕ) → k < 8 → charged_at charges k + n < 2 ^ 128
charge_fits charges parts n is few short = summed_fits part_weight part_size charges parts n is weight_low few short

-- the server that keeps a part is charged at least its bytes
pub charge_holds : (charges : Charges) (parts : List Part) (at : ℕ) (p : Part) (n : ℕ) → IsSummed part_weight part_size charges parts
    → at < length parts → slice_index_or parts at p ≡ p → n ≡ length p.common → (k : ℕ) → k < 8
    → bytes_at (kept_at p) k n ≤ charged_at charges k
charge_holds charges parts at p n is inside here long k within =
    let held = rw here at (summed_holds part_weight part_size charges parts at p is inside k within) in
    rw (long, ← weight_is k p) held

-- charges are sums of parts after one of them changes
pub charge_changed : (charges shifted : Charges) (parts : List Part) (at : ℕ) (p : Part) (change : PartChange) (n : ℕ)
    → IsSummed part_weight part_size charges parts → at < length parts → slice_index_or parts at p ≡ p → n ≡ length p.common
    → ((k : ℕ) → k < 8 → charged_at shifted k + bytes_at (kept_at p) k n ≡ charged_at charges k + bytes_at (kept_at (part_changed change p))
    k n) → IsSummed part_weight part_size shifted (change_at (part_changed change) at parts)
charge_changed charges shifted parts at p change n is inside here long shifts =
    summed_change part_weight part_size (part_changed change) charges shifted parts at p is inside
    (omega (arith, size_stays change (slice_index_or parts at p)))
    (λ k within. rw here (omega (
      arith,
      shifts k within,
      weight_is k p,
      weight_is k (part_changed change p),
      ap (bytes_at (kept_at p) k) long,
      ap (bytes_at (kept_at (part_changed change p)) k) (long ∙ sym (size_stays change p)),
    )))

-- the count of parts that are due after one of them changes
pub due_changed : (due more : ℕ) (parts : List Part) (at : ℕ) (p : Part) (change : PartChange) → due ≡ count_by is_due parts
    → at < length parts → slice_index_or parts at p ≡ p → more + (if is_due p then 1 else 0)
    ≡ due + (if is_due (part_changed change p) then 1 else 0) → more ≡ count_by is_due (change_at (part_changed change) at parts)
due_changed due more parts at p change counted inside here counts =
    let f : Part → ℕ = λ q. cond (is_due q) 1 0 in
    let sums = rw here at (sum_changed_at f (part_changed change) parts at p inside) in
    omega (arith, counts, counted, sums)

-- parts are kept after one of them changes
pub parts_changed : (places : Places) (charges : Charges) (due : ℕ) (parts new : List Part) (at : ℕ) (change : PartChange)
    → ((batch : BatchId) → place_at places batch.rank.0 batch.number ≡ position (λ p. same_batch p.batch batch) parts)
    → new ≡ change_at (part_changed change) at parts → IsSummed part_weight part_size charges new → due ≡ count_by is_due new
    → PartsAreKept places charges due new
parts_changed places charges due parts new at change placed changed charged counted = record {
  placed =
      λ batch. rw changed
      (placed batch ∙ sym (position_changed (λ p. same_batch p.batch batch) (part_changed change) (batch_stays change batch) at parts));
  charged = charged;
  counted = counted;
}

-- some part is due where more than none are
pub due_some : (parts : List Part) → nat_lt 0 (count_by is_due parts) ≡ list_any is_due parts
due_some [] = refl
due_some (p ∷ ps) = by_test (due_some ps) (is_due p) refl (sum_by-cons (λ q. cond (is_due q) 1 0) p ps)
  where
    positive : (n : ℕ) → 0 < n → nat_lt 0 n ≡ true
    positive n some = grind (arith, nat_tests)

    by_test : nat_lt 0 (count_by is_due ps) ≡ list_any is_due ps → (b : Bool) → is_due p ≡ b
        → count_by is_due (p ∷ ps) ≡ cond {A = ℕ} (is_due p) 1 0 + count_by is_due ps
        → nat_lt 0 (count_by is_due (p ∷ ps)) ≡ list_any is_due (p ∷ ps)
    by_test rest true is count =
        let one : cond {A = ℕ} (is_due p) 1 0 ≡ 1 = rw is refl in
        let some : list_any is_due (p ∷ ps) ≡ true = rw is refl in
        positive (count_by is_due (p ∷ ps)) (omega (arith, count, one)) ∙ sym some
    by_test rest false is count =
        let none : cond {A = ℕ} (is_due p) 1 0 ≡ 0 = rw is refl in
        let same : count_by is_due (p ∷ ps) ≡ count_by is_due ps = omega (arith, count, none) in
        let later : list_any is_due (p ∷ ps) ≡ list_any is_due ps = rw is refl in
        ap (nat_lt 0) same ∙ rest ∙ sym later
