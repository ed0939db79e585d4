-- That no free unit lies for a rank that waits.
use Rattle.std.specs.Prelude.{◌≡◌, All, Any, None}
use Rattle.work_queue.specs.Best.{IsOffered}
use Rattle.work_queue.specs.Queue.{Queue}
use Rattle.server_components.specs.Parked.{ParkedModel}
use Rattle.server_components.specs.declared.waits.Waiting.{Waiting}
use Rattle.server_components.specs.declared.wishes.Wish.{Wish}

-- no free unit of the queue is permitted to what is wished
abbrev pub HasNoneFor : Queue → Wish → Type 0
HasNoneFor q w = ¬ Any (IsOffered w.rank w.types) q.units

-- none is to a rank that waits here and is idle
abbrev pub NoneFits : Queue → ParkedModel → Type 0
NoneFits q m = All (λ (e : Waiting). e.asked ≡ None → HasNoneFor q e.wish) m.parked.waiting

-- none is to a rank that waits elsewhere and has a wish here
abbrev pub NoneWished : Queue → ParkedModel → Type 0
NoneWished q m = All (HasNoneFor q) m.parked.wishes
