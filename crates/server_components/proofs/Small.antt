-- No part grows beyond what a common part may have.
use Rattle.std.proofs.Common.{◌≡◌, ◌≤◌, ◌∙◌, Bool, true, false, cond, Option, Some, None, ap, refl, sym, subst, length}
use Rattle.std.specs.BTreeMap.{insert_entry}
use Rattle.std.specs.Option.{option_map}
use Rattle.std.specs.Prelude.{Result, OnOk, OnErr, Ok, Err}
use Rattle.std.proofs.lemmas.Option.{none-some, same_Some}
use Rattle.adlb_unit.specs.Ids.{same_batch}
use Rattle.adlb_unit.specs.Limits.{body_limit}
use Rattle.adlb_unit.specs.declared.names.BatchId.{BatchId}
use Rattle.adlb_unit.proofs.Same.{same_batch_is}
use Rattle.server_components.proofs.Lookups.{in_inserted, in_without, turned_apart, turned_here}
use Rattle.server_components.specs.inside.Storing.{IsSmall}
use Rattle.server_components.specs.Store.{Store, by_batch, part_in, with_turned, without}
use Rattle.server_components.specs.declared.parts.Part.{Part}

-- the part is small
abbrev IsLow : Part → Type 0
IsLow p = length p.bytes ≤ body_limit

-- parts are small with one more that is
pub small_inserted : (store : Store) (batch : BatchId) (q : Part) → IsSmall store → length q.bytes ≤ body_limit
    → IsSmall (insert_entry by_batch store batch q)
small_inserted store batch q small low b p found = by_same (same_batch b batch) (sym (in_inserted store batch b q) ∙ found)
  where
    by_same : (t : Bool) → cond t (Some q) (part_in store b) ≡ Some p → IsLow p
    by_same true e = subst IsLow (same_Some q p e) low
    by_same false e = small b p e

-- parts are small without one
pub small_without : (store : Store) (batch : BatchId) → IsSmall store → IsSmall (without store batch)
small_without store batch small b p found = by_same (same_batch b batch) (sym (in_without store batch b) ∙ found)
  where
    by_same : (t : Bool) → cond t None (part_in store b) ≡ Some p → IsLow p
    by_same true e = absurd (none-some p e)
    by_same false e = small b p e

-- parts are small after a change that keeps a part small
pub small_turned : (f : Part → Part) → ((p : Part) → IsLow p → IsLow (f p)) → (store : Store) (batch : BatchId) → IsSmall store
    → IsSmall (with_turned store batch f)
small_turned f keeps store batch small b p found = by_same (same_batch b batch) refl
  where
    by_part : (was : Option Part) → part_in store batch ≡ was → option_map f was ≡ Some p → IsLow p
    by_part None is e = absurd (none-some p e)
    by_part (Some q) is e = subst IsLow (same_Some (f q) p e) (keeps q (small batch q is))

    by_same : (t : Bool) → same_batch b batch ≡ t → IsLow p
    by_same true is = by_part (part_in store batch) refl (sym (turned_here f store batch)
        ∙ ap (part_in (with_turned store batch f)) (sym (same_batch_is b batch is)) ∙ found)
    by_same false is = small b p (sym (turned_apart f store batch b is) ∙ found)

-- whichever way a call went
pub either_way : {T E : Type 0} {A B G : Type 0} (r : Result T E) → OnOk r A → OnErr r B → (A → G) → (B → G) → G
either_way (Ok x) ok err f g = f ok
either_way (Err e) ok err f g = g err

-- two facts of a success and two of a failure, joined to one conclusion
pub either_way_of_two : {T E : Type 0} {A B C D G : Type 0} (r : Result T E) → OnOk r A → OnOk r B → OnErr r C → OnErr r D → (A → B → G)
    → (C → D → G) → G
either_way_of_two (Ok x) a b c d f g = f a b
either_way_of_two (Err e) a b c d f g = g c d
