-- What a map in order makes of its entries is what the definitions say.
use Rattle.std.proofs.Common.{◌≡◌, ◌∙◌, Bool, true, false, cond, not, List, [], ◌∷◌, Some, None, All, ap, sym, refl}
use Rattle.std.specs.BTreeMap.{is_at}
use Rattle.std.specs.List.Sorted.{IsStrictlySortedBy}
use Rattle.std.specs.Map.{keys_of, remove_entry, set_value}
use Rattle.std.specs.declared.cmp.Ordering.TheVariants.{Less}
use Rattle.std.proofs.lemmas.List.Elements.{All-head, All-tail, All-weaker}
use Rattle.std.proofs.lemmas.Map.Keys.{sorted_tail}
use Rattle.std.proofs.lemmas.Map.Views.{All-after_first}
use Rattle.adlb_unit.specs.Ids.{same_batch}
use Rattle.adlb_unit.specs.declared.names.BatchId.{BatchId}
use Rattle.adlb_unit.proofs.Same.{same_batch_is}
use Rattle.server_components.proofs.Ids.{at_batch, less_apart}
use Rattle.server_components.specs.Store.{Store, by_batch, part_in, with_turned, without}
use Rattle.server_components.specs.declared.parts.Part.{Part}

abbrev IsApart : BatchId → BatchId → Type 0
IsApart batch b = same_batch batch b ≡ false

-- after a batch in order comes no other of the same id
later_apart : (batch k : BatchId) (ks : List BatchId) → IsStrictlySortedBy by_batch (k ∷ ks) → same_batch batch k ≡ true
    → All (IsApart batch) ks
later_apart batch k ks sorted is =
    All-weaker (λ q. by_batch k q ≡ Less) (IsApart batch) (λ q less. ap (λ x. same_batch x q) (same_batch_is batch k is)
    ∙ less_apart k q less) ks
    (All-after_first by_batch k ks sorted)

kept_apart : (batch : BatchId) (store : Store) → All (IsApart batch) (keys_of store) → without store batch ≡ store
kept_apart batch [] apart = refl
kept_apart batch (e ∷ store) apart =
    let here : same_batch batch e.0 ≡ false = All-head (IsApart batch) e.0 (keys_of store) apart in
    rw here (ap (λ l. e ∷ l) (kept_apart batch store (All-tail (IsApart batch) e.0 (keys_of store) apart)))

same_apart : (f : Part → Part) (batch : BatchId) (store : Store) → All (IsApart batch) (keys_of store) → with_turned store batch f ≡ store
same_apart f batch [] apart = refl
same_apart f batch (e ∷ store) apart =
    let here : same_batch batch e.0 ≡ false = All-head (IsApart batch) e.0 (keys_of store) apart in
    rw here (ap (λ l. e ∷ l) (same_apart f batch store (All-tail (IsApart batch) e.0 (keys_of store) apart)))

-- the part of the batch is taken out
pub removed_is : (batch : BatchId) (store : Store) → IsStrictlySortedBy by_batch (keys_of store)
    → remove_entry (is_at (by_batch batch)) store ≡ without store batch
removed_is batch [] sorted = refl
removed_is batch (e ∷ store) sorted = rw (at_batch batch e.0)
    (by_same (same_batch batch e.0) refl (removed_is batch store (sorted_tail by_batch e.0 (keys_of store) sorted)))
  where
    by_same : (t : Bool) → same_batch batch e.0 ≡ t → remove_entry (is_at (by_batch batch)) store ≡ without store batch
        → cond t store (e ∷ remove_entry (is_at (by_batch batch)) store) ≡ cond (not t) (e ∷ without store batch) (without store batch)
    by_same true is later = sym (kept_apart batch store (later_apart batch e.0 (keys_of store) sorted is))
    by_same false is later = ap (λ l. e ∷ l) later

-- the part of the batch is written
pub written_is : (f : Part → Part) (batch : BatchId) (store : Store) (p : Part) → IsStrictlySortedBy by_batch (keys_of store)
    → part_in store batch ≡ Some p
    → set_value (is_at (by_batch batch)) store (f p) ≡ with_turned store batch f
written_is f batch [] p sorted found = refl
written_is f batch (e ∷ store) p sorted found = rw (at_batch batch e.0)
    (by_same (same_batch batch e.0) refl found (written_is f batch store p (sorted_tail by_batch e.0 (keys_of store) sorted)))
  where
    by_same : (t : Bool) → same_batch batch e.0 ≡ t → cond t (Some e.1) (part_in store batch) ≡ Some p
        → (part_in store batch ≡ Some p → set_value (is_at (by_batch batch)) store (f p) ≡ with_turned store batch f)
        → cond t ((e.0, f p) ∷ store) (e ∷ set_value (is_at (by_batch batch)) store (f p))
        ≡ cond t (e.0, f e.1) e ∷ with_turned store batch f
    by_same true is here later =
        let it : e.1 ≡ p = cc in
        rw (same_apart f batch store (later_apart batch e.0 (keys_of store) sorted is), it) refl
    by_same false is more later = ap (λ l. e ∷ l) (later more)

-- there is nothing to write
pub absent_is : (f : Part → Part) (batch : BatchId) (store : Store) → part_in store batch ≡ None → with_turned store batch f ≡ store
absent_is f batch [] absent = refl
absent_is f batch (e ∷ store) absent = by_same (same_batch batch e.0) absent (absent_is f batch store)
  where
    by_same : (t : Bool) → cond t (Some e.1) (part_in store batch) ≡ None
        → (part_in store batch ≡ None → with_turned store batch f ≡ store) → cond t (e.0, f e.1) e ∷ with_turned store batch f ≡ e ∷ store
    by_same true none later = absurd (cc)
    by_same false none later = ap (λ l. e ∷ l) (later none)
