-- How many calls all ranks of a run of flow programs have begun.
use Rattle.std.proofs.Common.{◌≡◌, ◌==◌, ◌<◌, ◌≤◌, ◌+◌, ◌*◌, ℕ, zero, suc, Bool, false, cond, List, [], ◌∷◌, length, Option, Some}
use Rattle.std.proofs.Common.{None, sym, ap, ◌∙◌, subst, arith, append-nil, sum_by}
use Rattle.std.specs.Prelude.{is_some}
use Rattle.std.proofs.lemmas.Bool.{ne_eqb}
use Rattle.std.proofs.lemmas.List.{length-append}
use Rattle.adlb_unit.specs.declared.configs.Config.{Config}
use Rattle.adlb_unit.specs.declared.names.Rank.{Rank}
use Rattle.adlb_unit.specs.declared.notes.UnitNote.{UnitNote}
use Rattle.bag_ledger.specs.declared.entries.Call.{Call}
use Rattle.bag_ledger.specs.declared.entries.Entry.{Entry}
use Rattle.bag_ledger.specs.declared.entries.Said.{Said}
use Rattle.bag_ledger.specs.Bag.{Bag, start}
use Rattle.bag_ledger.specs.Runs.{IsRun, calls}
use Rattle.balance_law.specs.Balanced.{over_ranks}
use Rattle.balance_law.specs.Orderly.{finish}
use Rattle.balance_law.specs.Parcels.{got, sent}
use Rattle.cover_law.specs.Begun.{all_begun, pending_of}
use Rattle.cover_law.specs.Grants.{AreOfGrants, FetchGrants}
use Rattle.cover_law.proofs.Begun.{at_most_one, few_begun}
use Rattle.flow_law.specs.declared.Definition.{Definition}
use Rattle.work_law.proofs.Flow.{got_finish, sent_finish}
use Rattle.flow_run_law.specs.Desk.{at_start}
use Rattle.flow_run_law.specs.Run.{flow_of}
use Rattle.flow_run_law.specs.Units.{AreForms, Forms}
use Rattle.flow_bound_law.specs.Most.{most_calls, rule_count}
use Rattle.flow_bound_law.specs.UnderWay.{AreUnderWay, HasCome, hears, leaves, works}
use Rattle.flow_bound_law.proofs.Rules.{all_left}
use Rattle.flow_bound_law.proofs.Spending.{goes_grants, left_of, next_grants, next_spends, none_grants, rank_spends, worth}

-- Finish fetches nothing
finish_grants : (held : Option UnitNote) → AreOfGrants held (finish ∷ [])
unfolding AreOfGrants
finish_grants None = (tt, tt)
finish_grants (Some note) = (tt, tt)

-- One rank.

module _ (ranks : ℕ) (F : Forms) (forms : AreForms ranks F) (flow : Option (List Definition)) (said : List Said) (pending : Option Call)
  where
    come_grants : HasCome F flow said pending → AreOfGrants None said
    come_grants (works desk goes) =
        subst (λ l. AreOfGrants None l) (append-nil said)
        (goes_grants ranks F forms flow forms.aimed at_start said [] desk goes (none_grants desk.held))
    come_grants (hears own s answer desk goes same none) =
        subst (λ l. AreOfGrants None l) (sym same) (next_grants ranks F forms flow forms.aimed own s answer desk goes)
    come_grants (leaves own desk goes same none) =
        subst (λ l. AreOfGrants None l) (sym same)
        (goes_grants ranks F forms flow forms.aimed at_start own (finish ∷ []) desk goes (finish_grants desk.held))

    -- it has begun as many calls as the rules that it may put and what it got are worth, and two more
    come_spends : HasCome F flow said pending →
        (length said + cond (is_some pending) 1 0) + sum_by (worth F) (sent None said)
        ≤ 8 * left_of flow [] + sum_by (worth F) (got None said) + 2
    come_spends (works desk goes) =
        omega (arith, rank_spends ranks F forms flow forms.aimed said desk goes, at_most_one pending)
    come_spends (hears own s answer desk goes same none) =
        let most = next_spends ranks F forms flow forms.aimed own s answer desk goes in
        let long = ap length same ∙ length-append own (s ∷ []) in
        let one : Option Call → ℕ = λ o. cond (is_some o) 1 0 in
        let no_call = ap one none in
        let sends = ap (λ l. sum_by (worth F) (sent None l)) same in
        let gets = ap (λ l. sum_by (worth F) (got None l)) same in
        omega (arith, most, long, no_call, sends, gets)
    come_spends (leaves own desk goes same none) =
        let most = rank_spends ranks F forms flow forms.aimed own desk goes in
        let long = ap length same ∙ length-append own (finish ∷ []) in
        let one : Option Call → ℕ = λ o. cond (is_some o) 1 0 in
        let no_call = ap one none in
        let sends = ap (sum_by (worth F)) (ap (sent None) same ∙ sent_finish None own) in
        let gets = ap (sum_by (worth F)) (ap (got None) same ∙ got_finish None own) in
        omega (arith, most, long, no_call, sends, gets)

-- All ranks.

-- rank 0 may put the rules, and no other may put any
firsts : (flow : List Definition) (n : ℕ) → over_ranks n (λ rank. 8 * left_of (flow_of flow rank) []) ≤ 8 * rule_count flow
firsts flow zero = omega arith
firsts flow (suc zero) = omega (arith, all_left 0 flow)
firsts flow (suc (suc n)) =
    let its : Bool → ℕ = λ has. 8 * left_of (cond has (Some flow) None) [] in
    let none : its (suc n == 0) ≡ its false = ap its (ne_eqb (suc n) 0 (λ e. omega arith)) in
    omega (arith, none, firsts flow (suc n))

-- in a legal run of flow programs, finished or not, all ranks have begun so many calls at most
pub few_calls : (F : Forms) (config : Config) (ledger : List Entry) (last : Bag) (flow : List Definition) → AreForms config.ranks F
    → IsRun (start config) ledger last → AreUnderWay F config ledger last flow → all_begun config ledger last ≤ most_calls config.ranks flow
few_calls F config ledger last flow forms run under_way =
    let fetch : FetchGrants config ledger = λ rank below.
    come_grants config.ranks F forms (flow_of flow rank) (calls config ledger rank) (pending_of last rank) (under_way rank below) in
    let few =
    few_begun config ledger last (worth F) (λ rank. 8 * left_of (flow_of flow rank) []) run fetch
    (λ rank below. come_spends config.ranks F forms (flow_of flow rank) (calls config ledger rank) (pending_of last rank)
    (under_way rank below)) in
    omega (arith, few, firsts flow config.ranks)

-- a rank of a run, which has this number of ranks and this flow, or none
abbrev pub IsRankUnderWay : (ℕ → Forms) → Config → List Entry → Bag → ℕ → List Definition → Rank → Type 0
IsRankUnderWay forms config ledger last ranks flow rank =
    (n : ℕ) × (its : Option (List Definition)) × (n ≡ ranks) × (its ≡ flow_of flow rank)
    × HasCome (forms n) its (calls config ledger rank) (pending_of last rank)

-- the ranks have begun no more calls than there can be
pub begun_most : (forms : ℕ → Forms) → ((n : ℕ) → 0 < n → AreForms n (forms n)) → (config : Config) (ledger : List Entry) (last : Bag)
    (flow : List Definition) (ranks many : ℕ) → config.ranks ≡ ranks → IsRun (start config) ledger last
    → ((rank : Rank) → rank.0 < ranks → IsRankUnderWay forms config ledger last ranks flow rank) → many ≤ all_begun config ledger last
    → many ≤ most_calls ranks flow
begun_most forms are config ledger last flow ranks many same legal each enough =
    let some = config.ranks_within.0 in
    let its = subst (λ n. AreForms n (forms ranks)) (sym same) (are ranks (omega (arith, some, same))) in
    let under_way : AreUnderWay (forms ranks) config ledger last flow = λ rank below.
    of_its rank (each rank (omega (arith, below, same))) in
    let few = few_calls (forms ranks) config ledger last flow its legal under_way in
    omega (arith, few, enough, ap (λ n. most_calls n flow) same)
  where
    of_its : (rank : Rank) → IsRankUnderWay forms config ledger last ranks flow rank
        → HasCome (forms ranks) (flow_of flow rank) (calls config ledger rank) (pending_of last rank)
    of_its rank is =
        subst (λ n. HasCome (forms n) (flow_of flow rank) (calls config ledger rank) (pending_of last rank)) is.2
        (subst (λ f. HasCome (forms is.0) f (calls config ledger rank) (pending_of last rank)) is.3 is.4)
