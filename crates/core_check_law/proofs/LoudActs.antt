-- Acts that may change what is free or who waits, and where a server has changed since its mark.
use Rattle.std.proofs.Common.{◌≡◌, ◌<◌, ◌⊎◌, Bool, true, false}
use Rattle.adlb_unit.specs.declared.names.Server.{Server}
use Rattle.server_law.specs.Acts.{Act, Checks_alone, Fails, Finds, Finds_alone, Gives_up, Hears_failed, Hears_shutdown, Marks, Notes_own}
use Rattle.server_law.specs.Acts.{Notices, Passes, Shuts, Shuts_alone, Starts, Wants}
use Rattle.server_law.specs.State.{ServerModel}
use Rattle.core_run.specs.World.{World, pool_of}
use Rattle.core_law.specs.Acting.{IsAct}

-- Acts of the ring, and all others. Each other act is of an event whose letter raises the activity, but for the ends that are told
-- where exhaustion is found.

-- the act may change what is free or who waits
abbrev pub is_loud : Act → Bool
is_loud Notices = false
is_loud Notes_own = false
is_loud (Wants from) = false
is_loud Starts = false
is_loud (Marks from t) = false
is_loud (Passes from t) = false
is_loud (Fails from t why) = false
is_loud (Gives_up from t) = false
is_loud (Hears_failed from t why) = false
is_loud (Finds from t) = false
is_loud (Shuts from t) = false
is_loud (Hears_shutdown from) = false
is_loud Finds_alone = false
is_loud Shuts_alone = false
is_loud Checks_alone = false
is_loud _ = true

-- the server has changed since its mark, or it is server 0 and no check runs
abbrev pub IsStirred : ServerModel → Type 0
IsStirred s = (s.kept.ring.mark < s.activity) ⊎ ((s.me.0 ≡ 0) × (s.kept.ring.runs ≡ false))

-- an act, and where it may change what is free or who waits, the server is stirred
pub record IsStep (w : World) (k : Server) (a : Act) : Type 0 where
  pub act : IsAct w k a
  pub stirred : is_loud a ≡ true → IsStirred (pool_of w k)
