-- The rules of batches: a common part is kept, closed and fetched.
use Rattle.std.specs.Prelude.{ℕ, ◌==◌, nat_le, nat_lt, Bool, true, false, ◌&&◌, List, [], length, Option, None, Some, is_none}
use Rattle.std.specs.Prelude.{if◌then◌else◌}
use Rattle.adlb_unit.specs.Limits.{body_limit}
use Rattle.adlb_unit.specs.declared.names.BatchId.{BatchId}
use Rattle.adlb_unit.specs.declared.names.Rank.{Rank}
use Rattle.adlb_unit.specs.declared.notes.End.TheVariants as ends_by
use Rattle.server_components.specs.Store.{part_in}
use Rattle.server_components.specs.declared.parts.Part.{Part}
use Rattle.server_law.specs.Acts.{Act, Closes, Ends_keep, Fetches_part, Keeps, Refuses_part, batch_of}
use Rattle.server_law.specs.Finding.{exceeds}
use Rattle.server_law.specs.Plan.{Plan, plan}
use Rattle.server_law.specs.State.{Kept, ServerModel}

-- A batch begins.

-- nothing is kept of the batch, and its common part is no longer than it may be
abbrev pub expects_keep : ServerModel → Rank → ℕ → List ℕ → Bool
expects_keep s from request common = is_none (part_in s.kept.parts (batch_of from request)) && nat_le (length common) body_limit

-- where the problem is done; where there is no room; else
abbrev pub keep : Bool → Bool → Rank → ℕ → List ℕ → Act
keep true over from request common = Ends_keep from request common ends_by.NoMoreWork
keep false true from request common = Refuses_part from request common
keep false false from request common = Keeps from request common

-- as the server is
abbrev pub keep_now : Kept → Rank → ℕ → List ℕ → Act
keep_now k from request common = keep k.done (exceeds k.queue (length common)) from request common

-- KeepCommon: the part is kept, refused, or the call is ended
abbrev pub keep_rule : ServerModel → Rank → ℕ → List ℕ → Option Plan
keep_rule s from request common = if expects_keep s from request common then plan (keep_now s.kept from request common) [] else None

-- What is kept.

-- the part, where it is there and passes
abbrev pub part_if : (Part → Bool) → Option Part → Option Part
part_if test None = None
part_if test (Some p) = if test p then Some p else None

-- fewer fetches than units that were accepted, if that is known
abbrev pub is_fewer : ℕ → Option ℕ → Bool
is_fewer fetches None = true
is_fewer fetches (Some accepted) = nat_lt fetches accepted

-- the batch is the sender's and open, it was fetched at most so often, and the part is charged
abbrev pub can_close : Rank → BatchId → ℕ → ℕ → Part → Bool
can_close from batch accepted common p =
    (batch.rank.0 == from.0) && is_none p.accepted && nat_le p.fetches accepted && nat_le (length p.bytes) common

-- it was fetched fewer times than units were accepted, if the batch is closed, and the part is charged
abbrev pub can_fetch : ℕ → Part → Bool
can_fetch common p = is_fewer p.fetches p.accepted && nat_le (length p.bytes) common

-- A batch ends.

-- the batch of the part is closed
abbrev pub close : ℕ → BatchId → ℕ → Option Part → Option Plan
close request batch accepted None = None
close request batch accepted (Some p) = plan (Closes request batch accepted p) []

-- the rule of the end of a batch
abbrev pub close_rule : ServerModel → Rank → ℕ → BatchId → ℕ → Option Plan
close_rule s from request batch accepted =
    close request batch accepted (part_if (can_close from batch accepted s.kept.queue.common) (part_in s.kept.parts batch))

-- A common part is fetched.

-- the part's bytes go to the rank
abbrev pub share : Rank → ℕ → BatchId → Option Part → Option Plan
share from request batch None = None
share from request batch (Some p) = plan (Fetches_part from request batch p) []

-- the rule of the fetch of a common part
abbrev pub share_rule : ServerModel → Rank → ℕ → BatchId → Option Plan
share_rule s from request batch = share from request batch (part_if (can_fetch s.kept.queue.common) (part_in s.kept.parts batch))
