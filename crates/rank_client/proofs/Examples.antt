-- Where a put goes first, where a try goes, and where that the problem is done, by computation.
use Rattle.std.proofs.Common.{◌≡◌, ℕ, pos, List, [], ◌∷◌, Option, Some, None, refl, replicate, map, arith}
use Rattle.std.specs.Option.{option_map}
use Rattle.adlb_unit.specs.declared.actors.Actor.{Actor}
use Rattle.adlb_unit.specs.declared.actors.Actor.TheVariants as by
use Rattle.adlb_unit.specs.declared.configs.Config.{Config}
use Rattle.adlb_unit.specs.declared.letters.Sending.{Sending}
use Rattle.adlb_unit.specs.declared.messages.Message.TheVariants as tells
use Rattle.adlb_unit.specs.declared.names.Rank.{Rank}
use Rattle.adlb_unit.specs.declared.names.Target.{Target}
use Rattle.adlb_unit.specs.declared.names.Target.TheVariants as targets
use Rattle.adlb_unit.specs.declared.notes.End.TheVariants as ends_by
use Rattle.bag_ledger.specs.declared.entries.Call.TheVariants as calls_to
use Rattle.rank_client.specs.declared.pendings.Pending.TheVariants as waits_for
use Rattle.rank_client.specs.State.{start}
use Rattle.rank_client.specs.Step.{Made, begin, hear}

-- five ranks and three servers
config : Config
config = record {
  ranks = 5;
  servers = 3;
  limit = 64;
  ranks_within = (omega arith, omega arith);
  servers_within = (omega arith, omega arith);
  limit_within = (omega arith, omega arith);
}

rank : ℕ → Rank
rank number = record { 0 = number }

-- the server that rank 2, which has put once, asks first
asked : Target → Option (List Actor)
asked target =
    option_map (λ (x : Made). map (λ (y : Sending). y.to) x.sends)
    (begin (record (start config (rank 2)) { puts = 1 }) (calls_to.Put (record { 0 = 2 }) (pos 0) target None (replicate 4 7)))

server : ℕ → Option (List Actor)
server number = Some (by.Server (record { 0 = number }) ∷ [])

any_goes_round : asked targets.Any ≡ server 0
unfolding config rank asked server
any_goes_round = refl

only_goes_home : asked (targets.Only (rank 4)) ≡ server 1
unfolding config rank asked server
only_goes_home = refl

soft_goes_home : asked (targets.Soft (rank 4)) ≡ server 1
unfolding config rank asked server
soft_goes_home = refl

only_of_the_run : asked (targets.Only (rank 5)) ≡ None
unfolding config rank asked server
only_of_the_run = refl

soft_of_the_run : asked (targets.Soft (rank 5)) ≡ None
unfolding config rank asked server
soft_of_the_run = refl

-- A try of this rank begins at its home, which is server 2, and goes round from there.

tries : Option (List Actor)
tries = option_map (λ (x : Made). map (λ (y : Sending). y.to) x.sends) (begin (start config (rank 2)) (calls_to.Try None))

tried_at_home : tries ≡ server 2
unfolding config rank tries server
tried_at_home = refl

-- the server that is asked next, where this one has looked, as the last of n + 1
looks_next : ℕ → ℕ → Option (List Actor)
looks_next tried from =
    option_map (λ (x : Made). map (λ (y : Sending). y.to) x.sends)
    (hear (record (start config (rank 2)) { pending = waits_for.Try 0 None tried }) (record { 0 = from })
    (record { stamp = 1; place = 0; message = tells.Nothing 0 }))

looks_behind_home : looks_next 0 2 ≡ server 0
unfolding config rank looks_next server
looks_behind_home = refl

looks_behind_that : looks_next 1 0 ≡ server 1
unfolding config rank looks_next server
looks_behind_that = refl

-- and where each has looked none is
looks_nowhere : looks_next 2 1 ≡ Some []
unfolding config rank looks_next
looks_nowhere = refl

-- a server that was not asked is not heard
looks_elsewhere : looks_next 1 2 ≡ None
unfolding config rank looks_next
looks_elsewhere = refl

-- That the problem is done goes the same way, also after an end was told.

told_first : Option (List Actor)
told_first =
    option_map (λ (x : Made). map (λ (y : Sending). y.to) x.sends)
    (begin (record (start config (rank 2)) { end = Some ends_by.Exhausted }) calls_to.SetDone)

told_at_home : told_first ≡ server 2
unfolding config rank told_first server
told_at_home = refl

-- the server that is told next, where this one has heard it, as the last of n + 1
tells_next : ℕ → ℕ → Option (List Actor)
tells_next tried from =
    option_map (λ (x : Made). map (λ (y : Sending). y.to) x.sends)
    (hear (record (start config (rank 2)) { pending = waits_for.SetDone 0 tried }) (record { 0 = from })
    (record { stamp = 1; place = 0; message = tells.DoneHeard 0 }))

told_behind_home : tells_next 0 2 ≡ server 0
unfolding config rank tells_next server
told_behind_home = refl

-- and where each has heard it none is
told_nowhere : tells_next 2 1 ≡ Some []
unfolding config rank tells_next
told_nowhere = refl
