-- A part of three bytes, worked by hand: batch 5 of rank 0 beside batch 7 of rank 1, at a queue of which 10 bytes are common bytes.
use Rattle.std.proofs.Common.{◌≡◌, ℕ, true, false, List, [], ◌∷◌, Some, None, refl}
use Rattle.adlb_unit.specs.declared.names.BatchId.{BatchId}
use Rattle.work_queue.specs.Queue.{Queue}
use Rattle.server_components.specs.Store.{Store, changed, closed, fetched, frees, fresh, part_in, released, with_fresh}

abbrev batch : ℕ → ℕ → BatchId
batch rank number = record { rank = record { 0 = rank }; number = number }

abbrev xyz : List ℕ
xyz = 120 ∷ 121 ∷ 122 ∷ []

-- both batches have a part; that of batch 5 was fetched so often
abbrev both : Store
both = with_fresh (with_fresh [] (batch 1 7) (97 ∷ [])) (batch 0 5) xyz

abbrev fetched_once : Store
fetched_once = changed fetched both (batch 0 5)

-- the queue, with this number of common bytes
abbrev queue : ℕ → Queue
queue common = record { units = []; promises = []; common = common; arrivals = 0; limit = 64 }

-- batch 7 alone has a part
abbrev alone : Store
alone = (batch 1 7, fresh (97 ∷ [])) ∷ []

-- parts are in the order of their batches
in_order : both ≡ (batch 0 5, fresh xyz) ∷ alone
in_order = refl

-- a part of an open batch is kept, whatever was fetched
stays_while_open : fetched_once ≡ (batch 0 5, record { bytes = xyz; fetches = 1; accepted = None }) ∷ alone
stays_while_open = refl

-- closed after as many units were accepted as it was fetched: it is freed at once
freed_at_close : (frees (closed 1) fetched_once (batch 0 5) ≡ true) × (changed (closed 1) fetched_once (batch 0 5) ≡ alone)
    × (released (closed 1) fetched_once (batch 0 5) (queue 10) ≡ queue 7)
freed_at_close = (refl, refl, refl)

-- none was accepted: it is freed at once too
freed_unused : (frees (closed 0) both (batch 0 5) ≡ true) × (changed (closed 0) both (batch 0 5) ≡ alone)
freed_unused = (refl, refl)

-- two were accepted: it is kept, with its bytes charged
kept_at_close : (frees (closed 2) fetched_once (batch 0 5) ≡ false) × (released (closed 2) fetched_once (batch 0 5) (queue 10) ≡ queue 10)
    × (part_in (changed (closed 2) fetched_once (batch 0 5)) (batch 0 5) ≡ Some (record { bytes = xyz; fetches = 1; accepted = Some 2 }))
kept_at_close = (refl, refl, refl)

-- and is freed by the second fetch
freed_at_last_fetch : (frees fetched (changed (closed 2) fetched_once (batch 0 5)) (batch 0 5) ≡ true)
    × (changed fetched (changed (closed 2) fetched_once (batch 0 5)) (batch 0 5) ≡ alone)
    × (released fetched (changed (closed 2) fetched_once (batch 0 5)) (batch 0 5) (queue 10) ≡ queue 7)
freed_at_last_fetch = (refl, refl, refl)
