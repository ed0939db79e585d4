use Rattle.std.proofs.Common.{◌≡◌, ◌≤◌, ◌-◌, ℕ, [], length}
use Rattle.flow_app.specs.Linked.{users_at}
use Rattle.flow_app.proofs.links.no_users.Given as goal

abbrev pub invariant-lists : goal.invariant-lists
invariant-lists l = record { few : length l.users.items ≤ l.count; none : (i : ℕ) → users_at l.users.items i ≡ [] }

abbrev pub decreases-lists : goal.decreases-lists
decreases-lists l = l.count - length l.users.items
