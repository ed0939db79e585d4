-- Units that are free are at servers of the run, and there are as many ranks in the bag as in the run.
use Rattle.std.proofs.Common.{◌≡◌, ◌<◌, ℕ, Bool, true, false, cond, List, [], ◌∷◌, refl, sym, subst}
use Rattle.adlb_unit.specs.Ids.{same_unit}
use Rattle.adlb_unit.specs.declared.configs.Config.{Config}
use Rattle.bag_ledger.specs.Bag.{Bag, settled, start as empty_bag}
use Rattle.bag_ledger.specs.Runs.{IsRun}
use Rattle.bag_ledger.specs.Steps.{Legal, after, change_first}
use Rattle.bag_ledger.specs.declared.entries.Entry.{Entry}
use Rattle.bag_ledger.specs.declared.entries.Entry.TheVariants as enters
use Rattle.bag_ledger.specs.declared.states.Placed.{Placed}
use Rattle.bag_ledger.specs.declared.states.UnitPlace.{UnitPlace}
use Rattle.bag_ledger.specs.declared.states.UnitPlace.TheVariants.{Free, Pinned, Spent, Travelling}
use Rattle.bag_ledger.proofs.Fixed.{run_servers}
use Rattle.bag_law.proofs.Plain.{accepted_is, kept_is}
use Rattle.core_law.specs.OnLinks.{Each}
use Rattle.core_law.proofs.UnderWay.{each_append}

-- a unit that is free is at a server of the run
abbrev pub IsFreeIn : ℕ → UnitPlace → Type 0
IsFreeIn servers (Free t) = t.0 < servers
IsFreeIn servers _ = Unit {0}

-- so it is of each unit
abbrev pub AreIn : ℕ → List Placed → Type 0
AreIn servers units = Each (λ (u : Placed). IsFreeIn servers u.place) units

moved_in : (servers : ℕ) (place : UnitPlace) (test : Placed → Bool) (units : List Placed) → IsFreeIn servers place → AreIn servers units
    → AreIn servers (change_first (λ u. record u { place = place }) test units)
moved_in servers place test [] here all = tt
moved_in servers place test (u ∷ units) here all = by_test (test u) (moved_in servers place test units here all.1)
  where
    by_test : (t : Bool) → AreIn servers (change_first (λ v. record v { place = place }) test units)
        → AreIn servers (cond t (record u { place = place } ∷ units) (u ∷ change_first (λ v. record v { place = place }) test units))
    by_test true later = (here, all.1)
    by_test false later = (all.0, later)

entry_in : (b : Bag) (e : Entry) → Legal b e → AreIn b.servers b.units → AreIn b.servers (after b e).units
entry_in b (enters.Accepted server id) l all =
    let n = accepted_is b server id l in
    let u : Placed = record { unit = n.u; place = Free server } in
    subst (AreIn b.servers) (sym n.units) (each_append (λ (v : Placed). IsFreeIn b.servers v.place) b.units (u ∷ []) all (l.5, tt))
entry_in b (enters.Kept server batch) l all = rw (kept_is b server batch l) all
entry_in b (enters.Granted server rank call id) l all =
    moved_in b.servers (Pinned server rank) (λ u. same_unit u.unit.id id) b.units tt all
entry_in b (enters.Fetched server rank id) l all = moved_in b.servers Spent (λ u. same_unit u.unit.id id) b.units tt all
entry_in b (enters.Left server to id) l all = moved_in b.servers (Travelling to) (λ u. same_unit u.unit.id id) b.units tt all
entry_in b (enters.Arrived server id) l all = moved_in b.servers (Free server) (λ u. same_unit u.unit.id id) b.units l.2 all
entry_in b _ l all = all

run_in : (b last : Bag) (es : List Entry) → IsRun b es last → AreIn b.servers b.units → AreIn b.servers last.units
run_in b last [] run all = subst (λ (x : Bag). AreIn b.servers x.units) run all
run_in b last (e ∷ es) run all =
    let n = run.0 in
    let here : AreIn b.servers n.units = subst (λ (x : Bag). AreIn b.servers x.units) (sym run.1.2) (entry_in b e run.1.1 all) in
    let same : n.servers ≡ b.servers = run_servers settled b n (e ∷ []) (n, run.1, refl) in
    subst (λ m. AreIn m last.units) same (run_in n last es run.2 (subst (λ m. AreIn m n.units) (sym same) here))

-- after each legal run free units are at servers of the run
pub free_in : (config : Config) (ledger : List Entry) (b : Bag) → IsRun (empty_bag config) ledger b → AreIn config.servers b.units
free_in config ledger b run = run_in (empty_bag config) b ledger run tt
