-- The fields of a promise of room.
use Rattle.work_queue.specs.Queue.{Promise}
use Rattle.work_queue.specs.declared.rooms.Room.TheInside.{Inside}

-- what contracts see of the fields
abbrev pub promise_of : Inside → Promise
promise_of w = record { id = w.id; length = w.length }
