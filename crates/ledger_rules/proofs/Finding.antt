-- The rule that is found is broken, and where none is found the entry is a step; and what the stop of a ledger says.
use Rattle.std.proofs.Common.{◌≡◌, ◌∙◌, ℕ, zero, suc, ◌+◌, Bool, true, false, ◌&&◌, not, cond, List, [], ◌∷◌, take, Option, Some, None}
use Rattle.std.proofs.Common.{refl, ap, sym, subst, arith}
use Rattle.std.specs.Prelude.{slice_get, if◌then◌else◌}
use Rattle.std.specs.Option.{option_map}
use Rattle.std.specs.List.{list_all}
use Rattle.bag_ledger.specs.declared.entries.Entry.{Entry}
use Rattle.adlb_unit.specs.declared.configs.Config.{Config}
use Rattle.bag_ledger.specs.Bag.{Bag, start}
use Rattle.bag_ledger.specs.Step.{legal, step}
use Rattle.bag_ledger.specs.Steps.{after, in_turn}
use Rattle.bag_ledger.specs.Runs.{IsFirstIllegal, IsLegal, IsRun, first_illegal}
use Rattle.bag_ledger.proofs.Legal.{found_is, none_found, run_from}
use Rattle.ledger_checker.proofs.Places.{stops_there}
use Rattle.ledger_checker.specs.declared.checking.Stop.{Stop}
use Rattle.ledger_rules.specs.declared.complaints.Complaint.{Complaint}
use Rattle.ledger_rules.specs.Complaints.{IsComplaint}
use Rattle.bag_ledger.proofs.Bridge.{is_row}
use Rattle.bag_ledger.proofs.Tests.{some_is}
use Rattle.ledger_checker.specs.Stops.{first_stop, stop_or}
use Rattle.ledger_rules.specs.declared.rules.Rule.{Rule}
use Rattle.ledger_rules.specs.Table.{broken, meets, rules_of}
use Rattle.ledger_rules.proofs.Obeyed.{obeyed}

-- no rule is broken exactly if all are met
all_met : (b : Bag) (rules : List Rule) → broken b rules ≡ None → list_all (meets b) rules ≡ true
all_met b [] none = refl
all_met b (r ∷ rs) none = by_test (λ rest. all_met b rs rest) (meets b r) refl none
  where
    by_test : (broken b rs ≡ None → list_all (meets b) rs ≡ true) → (t : Bool) → meets b r ≡ t → cond (not t) (Some r) (broken b rs) ≡ None
        → list_all (meets b) (r ∷ rs) ≡ true
    by_test rest true is none = rw is (rest none)
    by_test rest false is none = absurd (cc)

none_broken : (b : Bag) (rules : List Rule) → list_all (meets b) rules ≡ true → broken b rules ≡ None
none_broken b [] all = refl
none_broken b (r ∷ rs) all = by_test (λ rest. none_broken b rs rest) (meets b r) refl all
  where
    by_test : (list_all (meets b) rs ≡ true → broken b rs ≡ None) → (t : Bool) → meets b r ≡ t → (t && list_all (meets b) rs) ≡ true
        → broken b (r ∷ rs) ≡ None
    by_test rest true is all = rw is (rest all)
    by_test rest false is all = absurd (cc)

-- an entry under no rule that is broken is a step, and a step is under none
pub step_from : (b : Bag) (e : Entry) → broken b (rules_of e) ≡ None → step b e ≡ Some (after b e)
step_from b e none = rw (obeyed b e ∙ all_met b (rules_of e) none) refl

-- an entry that is no step breaks one of its rules
pub broken_from : (b : Bag) (e : Entry) → step b e ≡ None → broken b (rules_of e) ≡ None → ⊥
broken_from b e stops none = let goes = step_from b e none in cc

-- an entry that is a step breaks no rule
pub none_from : (b next : Bag) (e : Entry) → step b e ≡ Some next → broken b (rules_of e) ≡ None
none_from b next e goes = by_test (in_turn b e && legal b e) refl goes
  where
    by_test : (t : Bool) → (in_turn b e && legal b e) ≡ t → (if t then Some (after b e) else None) ≡ Some next
        → broken b (rules_of e) ≡ None
    by_test true is goes = none_broken b (rules_of e) (sym (obeyed b e) ∙ is)
    by_test false is goes = absurd (cc)

-- what the stop says
pub stop_is : (b : Bag) (from place : ℕ) (e : Entry) (before : Bag) (es : List Entry) → first_stop b from es ≡ Some (place, e, before)
    → (k : ℕ) × (place ≡ from + k) × IsRun b (take k es) before × (slice_get es k ≡ Some e) × (step before e ≡ None)
stop_is b from place e before [] found = absurd (cc)
stop_is b from place e before (x ∷ es) found = by_step (λ next. stop_is next (from + 1) place e before es) (step b x) refl found
  where
    by_step : ((next : Bag) → first_stop next (from + 1) es ≡ Some (place, e, before) → (k : ℕ) × (place ≡ (from + 1) + k)
        × IsRun next (take k es) before × (slice_get es k ≡ Some e) × (step before e ≡ None)) → (o : Option Bag) → step b x ≡ o
        → stop_or (λ next. first_stop next (from + 1) es) from x b o ≡ Some (place, e, before)
        → (k : ℕ) × (place ≡ from + k) × IsRun b (take k (x ∷ es)) before × (slice_get (x ∷ es) k ≡ Some e) × (step before e ≡ None)
    by_step rest None is here =
        let same : (from, x, b) ≡ (place, e, before) = some_is {X = ℕ × Entry × Bag} here in
        let at : from ≡ place = ap (λ (s : ℕ × Entry × Bag). s.0) same in
        let entry : x ≡ e = ap (λ (s : ℕ × Entry × Bag). s.1) same in
        let bag : b ≡ before = ap (λ (s : ℕ × Entry × Bag). s.2) same in (
          zero,
          omega (arith, at),
          bag,
          ap Some entry,
          subst (λ (b : Bag). step b e ≡ None) bag (subst (λ (x : Entry). step b x ≡ None) entry is),
        )
    by_step rest (Some next) is later =
        let s = rest next later in
        (suc s.0, omega (arith, s.1), (next, is_row b next x is, s.2), s.3, s.4)

module _ (config : Config) (ledger : List Entry) (b last : Bag) (starts : b ≡ start config) (found : Option Stop)
    (told : option_map (λ (s : Stop). (s.place, s.entry, last)) found ≡ first_stop b 0 ledger) where
  illegal_is : option_map (λ (s : ℕ × Entry × Bag). s.0) (first_stop b 0 ledger) ≡ first_illegal (start config) 0 ledger
  illegal_is = stops_there b 0 ledger ∙ ap (λ (x : Bag). first_illegal x 0 ledger) starts

  -- without a stop the ledger is a legal run
  pub none_is_legal : found ≡ None → IsLegal config ledger
  none_is_legal none =
      let at : first_stop b 0 ledger ≡ None = sym told ∙ ap (option_map (λ (s : Stop). (s.place, s.entry, last))) none in
      run_from (start config) 0 ledger (sym illegal_is ∙ ap (option_map (λ (s : ℕ × Entry × Bag). s.0)) at)

  module _ (stop : Stop) (some : found ≡ Some stop) where
    stops_at : first_stop b 0 ledger ≡ Some (stop.place, stop.entry, last)
    stops_at = sym told ∙ ap (option_map (λ (s : Stop). (s.place, s.entry, last))) some

    illegal_at : first_illegal (start config) 0 ledger ≡ Some stop.place
    illegal_at = sym illegal_is ∙ ap (option_map (λ (s : ℕ × Entry × Bag). s.0)) stops_at

    -- a stop is at no place of a legal run
    pub some_is_illegal : IsLegal config ledger → ⊥
    some_is_illegal run = let none = none_found (start config) run.0 0 ledger run.1 in let at = illegal_at in cc

    -- and it is the first illegal entry
    pub least_stop : (place : ℕ) → place ≡ stop.place → IsFirstIllegal (start config) ledger place
    least_stop place is =
        let first = found_is (start config) 0 stop.place ledger illegal_at in
        let same : first.0 ≡ place = omega (arith, first.1, is) in
        subst (λ (k : ℕ). IsFirstIllegal (start config) ledger k) same first.2

    -- what is complained of there
    pub complained : (c : Complaint) → c.place ≡ stop.place → c.entry ≡ stop.entry → broken last (rules_of stop.entry) ≡ Some c.rule
        → IsComplaint config ledger c
    complained c place entry breaks =
        let s = stop_is b 0 stop.place stop.entry last ledger stops_at in
        let at : s.0 ≡ c.place = omega (arith, s.1, place) in
        record {
          before = last;
          steps = subst (λ (k : ℕ). IsRun (start config) (take k ledger) last) at
              (subst (λ (x : Bag). IsRun x (take s.0 ledger) last) starts s.2);
          here = subst (λ (k : ℕ). slice_get ledger k ≡ Some c.entry) at (s.3 ∙ ap Some (sym entry));
          breaks = ap (λ (e : Entry). broken last (rules_of e)) entry ∙ breaks;
        }
