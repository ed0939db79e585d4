-- Where a rank waits nowhere: no letter of its call is under way, and it is idle nowhere; so no server was asked for it.
use Rattle.std.proofs.Common.{◌≡◌, ◌<◌, ◌≤◌, ℕ, true, List, [], ◌∷◌, Option, Some, None, refl, arith}
use Rattle.adlb_unit.specs.Links.{is_within, place_of}
use Rattle.adlb_unit.specs.declared.actors.Actor.{Actor}
use Rattle.adlb_unit.specs.declared.actors.Actor.TheVariants as by
use Rattle.adlb_unit.specs.declared.letters.Letter.{Letter}
use Rattle.adlb_unit.specs.declared.messages.Message.{Message}
use Rattle.adlb_unit.specs.declared.names.Rank.{Rank}
use Rattle.adlb_unit.specs.declared.names.Server.{Server}
use Rattle.server_components.specs.declared.waits.Waiting.{Waiting}
use Rattle.server_law.specs.State.{start as new_pool}
use Rattle.core_run.specs.World.{Links, World, link, pool_of, taken}
use Rattle.core_law.specs.OnLinks.{Each}
use Rattle.core_law.specs.Letters.{any_remote, any_remote_letter, any_remote_waits, call_letter, call_waits, one_letter}
use Rattle.core_law.specs.Measures.{due, measure, server_weight, weigh, weights}
use Rattle.core_law.specs.Well.{IsWell}
use Rattle.core_law.proofs.Fifo.{part_le}
use Rattle.core_law.proofs.OwedByRanks.{no_sum, none_wait}
use Rattle.core_law.proofs.RankSteps.{IsNotOf, one_is}
use Rattle.core_law.proofs.Steps.{taken_weight}
use Rattle.core_law.proofs.Sums.{links_le}

-- a letter between servers is one of the rank's call
pub remote_le : (me : Rank) (from to : Actor) (s : Message) → any_remote_letter me from to s ≤ call_letter me from to s
remote_le me (by.Server from) (by.Server to) s = omega arith
remote_le me (by.Server from) (by.Rank to) s = omega arith
remote_le me (by.Rank from) to s = omega arith

-- Who waits is of another rank.

not_of : (me : Rank) (place : ℕ) (e : Waiting) → call_waits me place e ≡ 0 → any_remote_waits me place e ≡ 0 → IsNotOf me e
not_of me place e idle asked of = by_asked e.asked refl
  where
    by_asked : (o : Option Server) → e.asked ≡ o → ⊥
    by_asked None is =
        let one = one_is e.wish.rank me of in let weighs : call_waits me place e ≡ 1 = rw is one in absurd (omega arith)
    by_asked (Some to) is =
        let one = one_is e.wish.rank me of in let weighs : any_remote_waits me place e ≡ 1 = rw is one in absurd (omega arith)

each_not : (me : Rank) (place : ℕ) (es : List Waiting) → weigh (call_waits me place) es ≡ 0 → weigh (any_remote_waits me place) es ≡ 0
    → Each (IsNotOf me) es
each_not me place [] idle asked = tt
each_not me place (e ∷ es) idle asked =
    (not_of me place e (omega arith) (omega arith), each_not me place es (omega arith) (omega arith))

-- nothing stands for its call, with these links, from which no letter between servers is missing
pub waits_nowhere : (w : World) (links : Links) (me : Rank) → IsWell w → measure (weights (one_letter me)) (record w { links = links }) ≡ 0
    → measure (weights (any_remote me)) (record w { links = links }) ≡ measure (weights (any_remote me)) w → (t : Server)
    → t.0 < w.config.servers → Each (IsNotOf me) (pool_of w t).kept.parked.waiting
unfolding measure due
waits_nowhere w links me well none same t there =
    let one = weights (one_letter me) in
    let any = weights (any_remote me) in
    let shape = well.shape in
    let servers = shape.servers in
    let even = (well.any me).same in
    let fewer = links_le w.config any one links (remote_le me) in
    let nobody = none_wait w.servers in
    let owes = no_sum w.ranks in
    let idle = part_le (server_weight one.server) w.servers t.0 (new_pool w.config t) (omega arith) in
    let asked = part_le (server_weight any.server_due) w.servers t.0 (new_pool w.config t) (omega arith) in
    each_not me t.0 (pool_of w t).kept.parked.waiting (omega arith) (omega arith)

-- so where all that stands for its call is the front letter of a link, or nothing does, and that letter is not between servers
pub waits_nowhere_beside : (w : World) (me : Rank) (from to : Actor) (l : Letter) (rest : List Letter) → IsWell w
    → is_within w.config from ≡ true → is_within w.config to ≡ true
    → link w.links (place_of w.config from) (place_of w.config to) ≡ l ∷ rest
    → measure (weights (one_letter me)) w ≡ call_letter me from to l.message → any_remote_letter me from to l.message ≡ 0 → (t : Server)
    → t.0 < w.config.servers → Each (IsNotOf me) (pool_of w t).kept.parked.waiting
waits_nowhere_beside w me from to l rest well f t front all apart at there =
    let one = taken_weight (weights (one_letter me)) w from to l rest well.shape f t front in
    let any = taken_weight (weights (any_remote me)) w from to l rest well.shape f t front in
    waits_nowhere w (taken w from to rest) me well (omega arith) (omega arith) at there
