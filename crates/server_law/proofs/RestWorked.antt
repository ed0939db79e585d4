-- A run of one rank and one server in which the bag comes to rest: the rank asks, and waits.
use Rattle.std.proofs.Common.{◌≡◌, inr, ℕ, false, zero, suc, [], ◌∷◌, Some, None, refl, arith}
use Rattle.adlb_unit.specs.declared.configs.Config.{Config}
use Rattle.adlb_unit.specs.declared.names.Rank.{Rank}
use Rattle.adlb_unit.specs.declared.names.Server.{Server}
use Rattle.bag_ledger.specs.Bag.{Bag, has_due, rank_at, settled, start as empty_bag}
use Rattle.bag_ledger.specs.Runs.{IsRun}
use Rattle.bag_ledger.specs.Steps.{after}
use Rattle.bag_ledger.specs.declared.entries.Entry.{Entry}
use Rattle.bag_ledger.specs.declared.entries.Entry.TheVariants as enters
use Rattle.bag_ledger.specs.declared.states.RankState.{RankState}
use Rattle.server_law.specs.Acts.{Finds_alone, Parks}
use Rattle.server_law.specs.Agreement.{ServerAgrees}
use Rattle.server_law.specs.Carried.{done}
use Rattle.server_law.specs.Rest.{RestsAt, WaitsFor}
use Rattle.server_components.specs.declared.wishes.Wish.{Wish}
use Rattle.server_law.specs.State.{ServerModel, idle, start}
use Rattle.server_law.proofs.OneServer.{one_has_all}
use Rattle.server_law.proofs.OwnEntries.{acts_are_legal}
use Rattle.server_law.proofs.Resting.{rest_is_settled}

abbrev config : Config
config = record {
  ranks = 1;
  servers = 1;
  limit = 64;
  ranks_within = (omega arith, omega arith);
  servers_within = (omega arith, omega arith);
  limit_within = (omega arith, omega arith);
}

abbrev rank : Rank
rank = record { 0 = 0 }

abbrev server : Server
server = record { 0 = 0 }

abbrev wish : Wish
wish = record { rank = rank; request = 0; types = None }

abbrev asks : Entry
asks = enters.Asked rank 0 None

abbrev asked : Bag
asked = after (empty_bag config) asks

abbrev waits : ServerModel
waits = done (Parks wish) (start config server)

run : IsRun (empty_bag config) (asks ∷ []) asked
run = (asked, (refl, (_, (refl, refl, refl)), refl), refl)

-- the bag rests
rests : RestsAt asked waits
rests = record {
  agrees = record {
    servers = refl;
    within = omega arith;
    limit = refl;
    units = record { each = λ id. refl; distinct = λ i j d below within same. absurd (omega arith); weighs = λ f. refl };
    promises = λ id. refl;
    room = refl;
    single = λ i j d below within same. absurd (omega arith);
    parts = λ batch. refl;
    common = refl;
    done = λ is. absurd (cc);
    exhausted = λ is. absurd (cc);
    found = λ zeroth is. absurd (cc);
  };
  all = one_has_all config (asks ∷ []) asked server refl refl run;
  unpromised = refl;
  ranks = λ r s at. inr (waiting r.0 s at);
  asks = (wish, (_, refl, refl));
  unfit = refl;
}
  where
    waiting : (n : ℕ) (s : RankState) → rank_at asked (record { 0 = n }) ≡ Some s → WaitsFor (idle wish [] ∷ []) (record { 0 = n }) s
    waiting zero s at = (0, idle wish [], omega arith, refl, (refl, cc))
    waiting (suc n) s at = absurd (cc)

-- so all work may be found used up
is_found : (next : Bag) × IsRun asked (enters.Exhausted ∷ []) next × ServerAgrees next (done Finds_alone waits) × (has_due next ≡ false)
is_found =
    acts_are_legal settled asked waits Finds_alone rests.agrees refl refl
    (record { alone = refl; quiet = refl; new = refl; first = idle wish []; behind = []; waits = refl; unfit = refl })
    (rest_is_settled asked waits rests)
