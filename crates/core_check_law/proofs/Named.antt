-- The ranks that wait at a server are named once.
use Rattle.std.proofs.Common.{◌≡◌, ◌≢◌, ◌≤◌, ◌<◌, ℕ, ◌+◌, zero, suc, ◌==◌, not, List, [], ◌∷◌, ◌++◌, map, Option, None, Some, refl, sym}
use Rattle.std.proofs.Common.{arith}
use Rattle.std.specs.Prelude.{All, AllPairs}
use Rattle.std.proofs.lemmas.Bool.{eq-eqb}
use Rattle.std.proofs.lemmas.List.Kept.{AllPairs-cons}
use Rattle.adlb_unit.specs.declared.configs.Config.{Config}
use Rattle.adlb_unit.specs.declared.names.Rank.{Rank}
use Rattle.adlb_unit.specs.declared.names.Server.{Server}
use Rattle.exhaust_ring.specs.Expected.{AreNamed}
use Rattle.exhaust_ring.specs.Ring.{Asker}
use Rattle.rank_client.specs.Rules.{is_idle}
use Rattle.server_components.specs.Calls.{wants}
use Rattle.server_components.specs.declared.waits.Waiting.{Waiting}
use Rattle.server_law.specs.Acts.{askers}
use Rattle.server_law.specs.State.{start as new_pool}
use Rattle.core_run.specs.World.{World, client_of, pool_of}
use Rattle.core_law.specs.Letters.{any_remote, any_remote_waits, call_waits, one, one_letter}
use Rattle.core_law.specs.Measures.{due, measure, server_weight, weigh, weights}
use Rattle.core_law.specs.OnLinks.{Each}
use Rattle.core_law.specs.Own.{IsEntry}
use Rattle.core_law.specs.Well.{IsWell}
use Rattle.core_law.proofs.Fifo.{part_le}
use Rattle.core_law.proofs.NotWaiting.{remote_le}
use Rattle.core_law.proofs.OwedByRanks.{letters_are, no_sum, none_wait}
use Rattle.core_law.proofs.Sums.{links_le}
use Rattle.core_law.proofs.UnderWay.{each_append, each_weaker}
use Rattle.core_check_law.specs.Turn.{AreApart}
use Rattle.core_check_law.proofs.Homes.{each_of_all}
use Rattle.core_check_law.proofs.Tokens.{at_most}

abbrev waits_as : Rank → Waiting → ℕ
waits_as rank e = one (e.wish.rank.0 == rank.0)

-- one that waits is idle, or a server was asked for it
waits_so : (rank : Rank) (place : ℕ) (es : List Waiting)
    → weigh (waits_as rank) es ≡ weigh (call_waits rank place) es + weigh (any_remote_waits rank place) es
waits_so rank place [] = refl
waits_so rank place (e ∷ es) = let later = waits_so rank place es in let here = by_asked e.asked refl in omega arith
  where
    by_asked : (o : Option Server) → e.asked ≡ o → waits_as rank e ≡ call_waits rank place e + any_remote_waits rank place e
    by_asked None is = rw is (omega arith)
    by_asked (Some t) is = rw is (omega arith)

-- each rank of the run waits at a server at most once
few_wait : (w : World) (k : Server) (rank : Rank) → IsWell w → k.0 < w.config.servers → rank.0 < w.config.ranks
    → weigh (waits_as rank) (pool_of w k).kept.parked.waiting ≤ 1
unfolding measure due
few_wait w k rank well here inside =
    let one_of = weights (one_letter rank) in
    let any = weights (any_remote rank) in
    let shape = well.shape in
    let servers = shape.servers in
    let ranks = shape.ranks in
    let pending = letters_are w rank (omega arith) (well.one rank) in
    let few = at_most (not (is_idle (client_of w rank).pending)) in
    let even = (well.any rank).same in
    let fewer = links_le w.config any one_of w.links (remote_le rank) in
    let nobody = none_wait w.servers in
    let owes = no_sum w.ranks in
    let idle = part_le (server_weight one_of.server) w.servers k.0 (new_pool w.config k) (omega arith) in
    let asked = part_le (server_weight any.server_due) w.servers k.0 (new_pool w.config k) (omega arith) in
    let so = waits_so rank k.0 (pool_of w k).kept.parked.waiting in
    omega arith

-- Ranks that are named once.

others_apart : (rank : Rank) (es : List Waiting) → weigh (waits_as rank) es ≡ 0 → Each (λ (b : Asker). rank.0 ≢ b.0.0) (map wants es)
others_apart rank [] none = tt
others_apart rank (e ∷ es) none = (
  λ same. let is = eq-eqb e.wish.rank.0 rank.0 (sym same) in let weighs : waits_as rank e ≡ 1 = rw is refl in absurd (omega arith),
  others_apart rank es (omega arith),
)

waiting_apart : (ranks : ℕ) (es : List Waiting) → Each (λ (e : Waiting). e.wish.rank.0 < ranks) es
    → ((rank : Rank) → rank.0 < ranks → weigh (waits_as rank) es ≤ 1) → AreApart (map wants es)
waiting_apart ranks [] inside few = tt
waiting_apart ranks (e ∷ es) inside few =
    let rank = e.wish.rank in
    let here = few rank inside.0 in
    let own : waits_as rank e ≡ 1 = rw (eq-eqb rank.0 rank.0 refl) refl in (
      others_apart rank es (omega arith),
      waiting_apart ranks es inside.1 (λ r low. let all = few r low in omega arith),
    )

waiting_inside : (ranks : ℕ) (es : List Waiting) → Each (λ (e : Waiting). e.wish.rank.0 < ranks) es
    → Each (λ (a : Asker). a.0.0 < ranks) (map wants es)
waiting_inside ranks [] inside = tt
waiting_inside ranks (e ∷ es) inside = (inside.0, waiting_inside ranks es inside.1)

-- those that wait at a server
entries_inside : (w : World) (k : Server) → IsWell w → k.0 < w.config.servers
    → Each (λ (e : Waiting). e.wish.rank.0 < w.config.ranks) (pool_of w k).kept.parked.waiting
entries_inside w k well here =
    let es = (pool_of w k).kept.parked.waiting in
    each_weaker (IsEntry w.config k) (λ (e : Waiting). e.wish.rank.0 < w.config.ranks) (λ e is. is.within) es
    (each_of_all (IsEntry w.config k) es (well.own.servers k here).waiting)

-- those who wait at a server are ranks of the run
pub askers_inside : (w : World) (k : Server) → IsWell w → k.0 < w.config.servers
    → Each (λ (a : Asker). a.0.0 < w.config.ranks) (askers (pool_of w k).kept)
askers_inside w k well here = waiting_inside w.config.ranks (pool_of w k).kept.parked.waiting (entries_inside w k well here)

-- those who wait at a server are named once
pub askers_apart : (w : World) (k : Server) → IsWell w → k.0 < w.config.servers → AreApart (askers (pool_of w k).kept)
askers_apart w k well here =
    waiting_apart w.config.ranks (pool_of w k).kept.parked.waiting (entries_inside w k well here)
    (λ rank inside. few_wait w k rank well here inside)

-- two lists of which no rank is on both
pub apart_joined : (xs ys : List Asker) → AreApart xs → AreApart ys → Each (λ (a : Asker). Each (λ (b : Asker). a.0.0 ≢ b.0.0) ys) xs
    → AreApart (xs ++ ys)
apart_joined [] ys first then differ = then
apart_joined (a ∷ xs) ys first then differ =
    (each_append (λ (b : Asker). a.0.0 ≢ b.0.0) xs ys first.0 differ.0, apart_joined xs ys first.1 then differ.1)

-- as the ring has it

-- what holds of each element holds of all
pub all_of_each : {X : Type 0} (P : X → Type 0) (xs : List X) → Each P xs → All P xs
all_of_each P [] each i d inside = absurd (omega arith)
all_of_each P (x ∷ xs) each zero d inside = each.0
all_of_each P (x ∷ xs) each (suc i) d inside = all_of_each P xs each.1 i d (omega arith)

-- a list of ranks of the run, each once, names them once
pub are_named : (config : Config) (asked : List Asker) → Each (λ (a : Asker). a.0.0 < config.ranks) asked → AreApart asked
    → AreNamed config asked
are_named config asked inside apart = record {
  inside = all_of_each (λ (a : Asker). a.0.0 < config.ranks) asked inside;
  once = pairs asked apart;
}
  where
    pairs : (asked : List Asker) → AreApart asked → AllPairs (λ (a b : Asker). a.0.0 ≢ b.0.0) asked
    pairs [] apart = λ i j d less inside. absurd (omega arith)
    pairs (a ∷ asked) apart =
        AllPairs-cons (λ (a b : Asker). a.0.0 ≢ b.0.0) a asked (all_of_each (λ (b : Asker). a.0.0 ≢ b.0.0) asked apart.0)
        (pairs asked apart.1)
