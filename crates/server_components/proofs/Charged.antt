-- The bytes of a part stay among those that are charged.
use Rattle.std.proofs.Common.{◌≡◌, ◌≤◌, ◌+◌, ◌∙◌, ℕ, Bool, true, false, List, Option, Some, None, refl, length, arith, option_and_then}
use Rattle.std.specs.Prelude.{if◌then◌else◌}
use Rattle.adlb_unit.specs.declared.names.BatchId.{BatchId}
use Rattle.work_queue.specs.Queue.{Queue, without_common}
use Rattle.server_components.proofs.Ids.{same_itself}
use Rattle.server_components.proofs.Lookups.{changed_here, in_inserted}
use Rattle.server_components.specs.Store.{Store, changed, due_by, fresh, is_due, kept, part_in, released, size_of, with_fresh}
use Rattle.server_components.specs.declared.parts.Part.{Part}

-- the bytes of a part that is kept are charged
pub fresh_charged : (store : Store) (batch : BatchId) (bytes : List ℕ) (common : ℕ)
    → size_of (part_in (with_fresh store batch bytes) batch) ≤ common + length bytes
fresh_charged store batch bytes common =
    let found : part_in (with_fresh store batch bytes) batch ≡ Some (fresh bytes) = in_inserted store batch batch (fresh bytes)
    ∙ rw (same_itself batch) refl in
    rw found (omega arith)

-- and stay so until they are given back
pub changed_charged : (f : Part → Part) → ((p : Part) → (f p).bytes ≡ p.bytes) → (store : Store) (batch : BatchId) (q : Queue)
    → size_of (part_in store batch) ≤ q.common → size_of (part_in (changed f store batch) batch) ≤ (released f store batch q).common
changed_charged f keeps store batch q charged = rw (changed_here f store batch) (by_part (part_in store batch) charged)
  where
    by_part : (found : Option Part) → size_of found ≤ q.common
        → size_of (option_and_then (λ p. kept (f p)) found) ≤ (if due_by f found then without_common q (size_of found) else q).common
    by_part None low = low
    by_part (Some p) low = by_due (is_due (f p))
      where
        by_due : (t : Bool) → size_of (if t then None else Some (f p)) ≤ (if t then without_common q (length p.bytes) else q).common
        by_due true = omega arith
        by_due false = rw (keeps p) low
