use Rattle.std.proofs.Common.{◌≢◌, ℕ, ◌<◌, get_or}
use Rattle.work_queue.specs.Queue.{Promise}
use Rattle.work_queue.proofs.rooms.Rooms.length_of.Given as goal

abbrev pub invariant-loop-room : goal.invariant-loop-room
invariant-loop-room l = (k : ℕ) (d : Promise) → k < l.room-index → (get_or l.self k d).id ≢ l.id
