-- What fits a rank that waits elsewhere is foreseen, where each other server keeps its wish.
use Rattle.adlb_unit.specs.declared.configs.Config.{Config}
use Rattle.adlb_unit.specs.declared.names.Server.{Server}
use Rattle.core_check_law.proofs.Legal.{every_run_told}
use Rattle.core_check_law.proofs.Lists.{each_has}
use Rattle.core_check_law.specs.Settling.{Has}
use Rattle.core_law.proofs.EveryRun.{run_config}
use Rattle.core_law.specs.Measures.{measure}
use Rattle.core_wish_law.proofs.Agreed.{every_run_agreed}
use Rattle.core_wish_law.proofs.AskedOut.{IsOut, Out, serve_out}
use Rattle.core_wish_law.proofs.Covering.{covered_is, every_run_covered}
use Rattle.core_wish_law.proofs.Having.{any_at}
use Rattle.core_wish_law.proofs.Pools.{IsKept, every_pool_keeps}
use Rattle.core_wish_law.proofs.Wished.{IsClean, serve_clean}
use Rattle.core_wish_law.specs.News.{AreForeseen, IsAgreed, IsCovered, news}
use Rattle.core_run.specs.Runs.{Runs}
use Rattle.core_run.specs.World.{World, pool_of, start}
use Rattle.core_run.specs.declared.events.Event.{Event}
use Rattle.server_components.specs.Rest.{HasNoneFor}
use Rattle.server_law.proofs.Calm.{start_is_calm}
use Rattle.server_law.proofs.Once.{events_keep_once}
use Rattle.server_law.specs.Calm.{WaitOnce}
use Rattle.std.proofs.Common.{Bool, List, ap, arith, false, inl, inr, refl, subst, sym, true, ◌<◌, ◌∙◌, ◌≡◌, ◌≢◌, ◌⊎◌}
use Rattle.std.proofs.lemmas.Bool.{cases_eq}
use Rattle.work_queue.proofs.Offers.{offered_is}
use Rattle.work_queue.specs.Best.{IsOffered}

clean_kept : IsKept (λ s. IsClean s.kept)
clean_kept = record { begins = λ config me going. tt; serves = serve_clean }

out_kept : IsKept (λ s. WaitOnce s × IsOut s)
out_kept = record {
  begins = λ config me. ((start_is_calm config me).0, tt);
  serves = λ s from letter x is both. (events_keep_once s from letter x both.0 is, serve_out s from letter x is both.0 both.1);
}

-- so a unit that fits a rank elsewhere is foreseen
pub foreseen : (config : Config) (events : List Event) (w : World) → Runs (start config) events w → IsCovered w → IsAgreed w → AreForeseen w
foreseen config events w run covered agreed h t e p low there differs waits idle at offers = by_news (cases_eq (measure news w) 0)
  where
    same : w.config ≡ config
    same = run_config (start config) w events run

    by_done : measure news w ≡ 0 → (b : Bool) → (pool_of w t).kept.done ≡ b → ⊥
    by_done none true is =
        let known = agreed h t low there none is in
        let low_config : h.0 < config.servers = let s = ap (λ (c : Config). c.servers) same in omega arith in
        let told = every_run_told config events w h e low_config run waits idle in
        let no : false ≡ true = sym told ∙ known in
        absurd (cc)
    by_done none false is = by_cover (covered h t e low there differs waits idle none)
      where
        by_cover : Has (pool_of w t).kept.parked.wishes e.wish ⊎ Has e.to_ask t → ⊥
        by_cover (inl wished) =
            let clean = every_pool_keeps (λ s. IsClean s.kept) clean_kept config events w run t there is in
            let nothing = each_has (HasNoneFor (pool_of w t).kept.queue) (pool_of w t).kept.parked.wishes e.wish clean wished in
            nothing (any_at (IsOffered e.wish.rank e.wish.types) (pool_of w t).kept.queue.units p at
            (offered_is e.wish.rank e.wish.types p offers))
        by_cover (inr to_ask) =
            let out = (every_pool_keeps (λ s. WaitOnce s × IsOut s) out_kept config events w run h low).1 in
            let left = each_has Out (pool_of w h).kept.parked.waiting e out waits idle in
            subst (λ (l : List Server). Has l t) left to_ask

    by_news : (measure news w ≡ 0) ⊎ (measure news w ≢ 0) → 0 < measure news w
    by_news (inr some) = omega (arith, some)
    by_news (inl none) = absurd (by_done none (pool_of w t).kept.done refl)

-- in every run of several servers a wish is kept, or its server is still to be asked
pub always_covered : (config : Config) (events : List Event) (w : World) → 1 < config.servers → Runs (start config) events w → IsCovered w
always_covered config events w several run = covered_is w (every_run_covered config several events w run)

-- in every run of several servers what fits is foreseen
pub always_foreseen : (config : Config) (events : List Event) (w : World) → 1 < config.servers → Runs (start config) events w
    → AreForeseen w
always_foreseen config events w several run =
    foreseen config events w run (always_covered config events w several run) (every_run_agreed config events w run)
