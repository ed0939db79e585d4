-- No part that is kept is due.
use Rattle.std.proofs.Common.{◌≡◌, ◌∙◌, ℕ, Bool, true, false, cond, List, Option, Some, None, refl, sym, subst, option_and_then}
use Rattle.std.specs.Prelude.{IsFalse}
use Rattle.std.proofs.lemmas.Option.{none-some, same_Some}
use Rattle.adlb_unit.specs.Ids.{same_batch}
use Rattle.adlb_unit.specs.declared.names.BatchId.{BatchId}
use Rattle.server_components.proofs.Lookups.{in_changed, in_inserted}
use Rattle.server_components.specs.Store.{HasNoneDue, Store, changed, fresh, is_due, kept, part_in, with_fresh}
use Rattle.server_components.specs.declared.parts.Part.{Part}

abbrev IsNotDue : Part → Type 0
IsNotDue p = IsFalse (is_due p)

-- no part is due with a fresh one
pub fresh_due : (store : Store) (batch : BatchId) (bytes : List ℕ) → HasNoneDue store → HasNoneDue (with_fresh store batch bytes)
fresh_due store batch bytes none b p found = by_same (same_batch b batch) (sym (in_inserted store batch b (fresh bytes)) ∙ found)
  where
    by_same : (t : Bool) → cond t (Some (fresh bytes)) (part_in store b) ≡ Some p → IsNotDue p
    by_same true e = subst IsNotDue (same_Some (fresh bytes) p e) refl
    by_same false e = none b p e

-- no part is due after a change of one, since a part that is due goes
pub changed_due : (f : Part → Part) (store : Store) (batch : BatchId) → HasNoneDue store → HasNoneDue (changed f store batch)
changed_due f store batch none b p found = by_same (same_batch b batch) (sym (in_changed f store batch b) ∙ found)
  where
    by_part : (was : Option Part) → option_and_then (λ q. kept (f q)) was ≡ Some p → IsNotDue p
    by_part None e = absurd (none-some p e)
    by_part (Some q) e = by_due (is_due (f q)) refl e
      where
        by_due : (t : Bool) → is_due (f q) ≡ t → cond t None (Some (f q)) ≡ Some p → IsNotDue p
        by_due true is same = absurd (none-some p same)
        by_due false is same = subst IsNotDue (same_Some (f q) p same) is

    by_same : (t : Bool) → cond t (option_and_then (λ q. kept (f q)) (part_in store batch)) (part_in store b) ≡ Some p → IsNotDue p
    by_same true e = by_part (part_in store batch) e
    by_same false e = none b p e
