-- What is found in a store after a call.
use Rattle.std.proofs.Common.{◌≡◌, ◌∙◌, Bool, true, false, cond, not, [], ◌∷◌, Option, Some, None, ap, refl, option_and_then}
use Rattle.std.specs.BTreeMap.{insert_entry, is_at}
use Rattle.std.specs.Map.{lookup}
use Rattle.std.specs.Ordering.{match_ordering}
use Rattle.std.specs.Option.{option_map}
use Rattle.std.specs.declared.cmp.Ordering.{Ordering}
use Rattle.std.specs.declared.cmp.Ordering.TheVariants.{Less, Equal, Greater}
use Rattle.adlb_unit.specs.Ids.{same_batch}
use Rattle.adlb_unit.specs.declared.names.BatchId.{BatchId}
use Rattle.adlb_unit.proofs.Same.{same_batch_is}
use Rattle.server_components.proofs.Ids.{at_batch, equal_same, greater_apart, not_both, same_alike, same_itself}
use Rattle.server_components.specs.Store.{Store, by_batch, changed, due_by, is_due, kept, part_in, with_turned, without}
use Rattle.server_components.specs.declared.parts.Part.{Part}

-- Choices by tests.

twice : {X : Type 0} (t : Bool) (x y z : X) → cond t y z ≡ cond t y (cond t x z)
twice true x y z = refl
twice false x y z = refl

swapped : {X : Type 0} (s t : Bool) (x y z : X) → (s ≡ true → t ≡ true → ⊥) → cond s x (cond t y z) ≡ cond t y (cond s x z)
swapped true true x y z apart = absurd (apart refl refl)
swapped true false x y z apart = refl
swapped false t x y z apart = refl

either : {X : Type 0} (t : Bool) (x : X) → x ≡ cond t x x
either true x = refl
either false x = refl

-- a look-up by the order finds the part of the batch
pub by_order_is : (store : Store) (batch : BatchId) → lookup (is_at (by_batch batch)) store ≡ part_in store batch
by_order_is [] batch = refl
by_order_is (e ∷ store) batch = rw (at_batch batch e.0, by_order_is store batch) refl

-- a part is kept
pub in_inserted : (store : Store) (batch b : BatchId) (p : Part)
    → part_in (insert_entry by_batch store batch p) b ≡ cond (same_batch b batch) (Some p) (part_in store b)
in_inserted [] batch b p = refl
in_inserted (e ∷ store) batch b p = by_order (by_batch batch e.0) refl (in_inserted store batch b p)
  where
    by_order : (o : Ordering) → by_batch batch e.0 ≡ o
        → part_in (insert_entry by_batch store batch p) b ≡ cond (same_batch b batch) (Some p) (part_in store b)
        → part_in (match_ordering o ((batch, p) ∷ e ∷ store) ((e.0, p) ∷ store) (e ∷ insert_entry by_batch store batch p)) b
        ≡ cond (same_batch b batch) (Some p) (cond (same_batch b e.0) (Some e.1) (part_in store b))
    by_order Less is later = refl
    by_order Equal is later = rw (same_alike batch e.0 b (equal_same batch e.0 is))
        (twice (same_batch b batch) (Some e.1) (Some p) (part_in store b))
    by_order Greater is later =
        rw later
        (swapped (same_batch b e.0) (same_batch b batch) (Some e.1) (Some p) (part_in store b)
        (not_both batch e.0 b (greater_apart batch e.0 is)))

-- a part is gone
pub in_without : (store : Store) (batch b : BatchId) → part_in (without store batch) b ≡ cond (same_batch b batch) None (part_in store b)
in_without [] batch b = either (same_batch b batch) None
in_without (e ∷ store) batch b = by_same (same_batch batch e.0) refl (in_without store batch b)
  where
    by_same : (t : Bool) → same_batch batch e.0 ≡ t → part_in (without store batch) b ≡ cond (same_batch b batch) None (part_in store b)
        → part_in (cond (not t) (e ∷ without store batch) (without store batch)) b
        ≡ cond (same_batch b batch) None (cond (same_batch b e.0) (Some e.1) (part_in store b))
    by_same true is later =
        rw (same_alike batch e.0 b is) (later ∙ twice (same_batch b batch) (Some e.1) None (part_in store b))
    by_same false is later =
        rw later
        (swapped (same_batch b e.0) (same_batch b batch) (Some e.1) None (part_in store b) (not_both batch e.0 b is))

-- a part is turned
pub turned_here : (f : Part → Part) (store : Store) (batch : BatchId)
    → part_in (with_turned store batch f) batch ≡ option_map f (part_in store batch)
turned_here f [] batch = refl
turned_here f (e ∷ store) batch = by_same (same_batch batch e.0) refl (turned_here f store batch)
  where
    by_same : (t : Bool) → same_batch batch e.0 ≡ t → part_in (with_turned store batch f) batch ≡ option_map f (part_in store batch)
        → part_in (cond t (e.0, f e.1) e ∷ with_turned store batch f) batch ≡ option_map f (cond t (Some e.1) (part_in store batch))
    by_same true is later = rw is refl
    by_same false is later = rw is later

-- a change of one part leaves the others
pub turned_apart : (f : Part → Part) (store : Store) (batch b : BatchId) → same_batch b batch ≡ false
    → part_in (with_turned store batch f) b ≡ part_in store b
turned_apart f [] batch b apart = refl
turned_apart f (e ∷ store) batch b apart = by_same (same_batch batch e.0) refl (turned_apart f store batch b apart)
  where
    by_same : (t : Bool) → same_batch batch e.0 ≡ t → part_in (with_turned store batch f) b ≡ part_in store b
        → part_in (cond t (e.0, f e.1) e ∷ with_turned store batch f) b ≡ cond (same_batch b e.0) (Some e.1) (part_in store b)
    by_same true is later = let here : same_batch b e.0 ≡ false = same_alike batch e.0 b is ∙ apart in rw here later
    by_same false is later = ap (cond (same_batch b e.0) (Some e.1)) later

-- a part is changed, and freed if it is then due
pub changed_here : (f : Part → Part) (store : Store) (batch : BatchId)
    → part_in (changed f store batch) batch ≡ option_and_then (λ p. kept (f p)) (part_in store batch)
changed_here f store batch = by_part (part_in store batch) (in_without store batch batch ∙ rw (same_itself batch) refl)
    (turned_here f store batch)
  where
    by_part : (found : Option Part) → part_in (without store batch) batch ≡ None
        → part_in (with_turned store batch f) batch ≡ option_map f found
        → part_in (cond (due_by f found) (without store batch) (with_turned store batch f)) batch
        ≡ option_and_then (λ p. kept (f p)) found
    by_part None gone there = there
    by_part (Some p) gone there = by_due (is_due (f p))
      where
        by_due : (t : Bool) → part_in (cond t (without store batch) (with_turned store batch f)) batch ≡ cond t None (Some (f p))
        by_due true = gone
        by_due false = there

-- the part of a batch after a change of one: that one changed and kept, every other as before
pub in_changed : (f : Part → Part) (store : Store) (batch b : BatchId)
    → part_in (changed f store batch) b ≡ cond (same_batch b batch) (option_and_then (λ p. kept (f p)) (part_in store batch))
    (part_in store b)
in_changed f store batch b = by_same (same_batch b batch) refl
  where
    by_due : (t : Bool) → same_batch b batch ≡ false → part_in (cond t (without store batch) (with_turned store batch f)) b
        ≡ part_in store b
    by_due true apart = in_without store batch b ∙ rw apart refl
    by_due false apart = turned_apart f store batch b apart

    by_same : (t : Bool) → same_batch b batch ≡ t
        → part_in (changed f store batch) b ≡ cond t (option_and_then (λ p. kept (f p)) (part_in store batch)) (part_in store b)
    by_same true is = ap (part_in (changed f store batch)) (same_batch_is b batch is) ∙ changed_here f store batch
    by_same false is = by_due (due_by f (part_in store batch)) is
