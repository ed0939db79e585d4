-- How ledger and programs are joined, over the laws of a run of flow programs.
use Rattle.std.proofs.Common.{◌≡◌, ◌<◌, ℕ, zero, suc, true, List, [], ◌∷◌, ◌++◌, length, get_or, All, Contains, Option, Some, None, refl}
use Rattle.std.proofs.Common.{sym}
use Rattle.std.proofs.Common.{ap, ◌∙◌, subst, arith}
use Rattle.std.specs.List.{slice_get}
use Rattle.std.proofs.lemmas.List.Elements.{All-nil, All-cons, All-contains, Contains-append_cases}
use Rattle.std.proofs.lemmas.Option.{slice_get_within}
use Rattle.std.proofs.Common.{inl, inr}
use Rattle.adlb_unit.specs.declared.configs.Config.{Config}
use Rattle.adlb_unit.specs.declared.names.Rank.{Rank}
use Rattle.bag_ledger.specs.declared.entries.Entry.{Entry}
use Rattle.bag_ledger.specs.declared.states.UnitPlace.TheVariants.{Spent}
use Rattle.bag_ledger.specs.Bag.{Bag, start}
use Rattle.bag_ledger.specs.Runs.{IsRun}
use Rattle.balance_law.specs.Balanced.{AreOrderly, IsBalanced}
use Rattle.balance_law.proofs.Whole.{balanced}
use Rattle.flow_law.specs.Flows.{HasValue, Name}
use Rattle.flow_law.specs.declared.Definition.{Definition}
use Rattle.flow_law.specs.declared.Definition.TheVariants as defines
use Rattle.flow_law.specs.declared.Op.{Op}
use Rattle.flow_app.specs.Finishing as finishing
use Rattle.flow_app.specs.declared.finishing.FlowOutcome.{FlowOutcome}
use Rattle.flow_run_law.specs.Desk.{Desk, Goes, at_start}
use Rattle.flow_run_law.specs.Puts.{IsFlowRun, IsItsValue, IsRightDesk}
use Rattle.flow_run_law.specs.Run.{IsFlowRank, flow_of}
use Rattle.flow_run_law.specs.Units.{Forms, IsGoodAnswer}
use Rattle.flow_run_law.proofs.Laws.{are_orderly, right}
use Rattle.flow_units.specs.Bodies.{forms}
use Rattle.flow_units.proofs.Backs.{are_forms}
use Rattle.flow_work.specs.Follows.{IsOwn}
use Rattle.values_law.specs.Joined.{IsFlowsRun, IsRankRun}

none_there : {X : Type 0} (x : X) → Contains [] x → ⊥
none_there x there = omega (arith, there.1)

-- what holds of each element holds of all
all_of : {X : Type 0} (P : X → Type 0) (xs : List X) → ((x : X) → Contains xs x → P x) → All P xs
all_of P [] each = All-nil P
all_of P (x ∷ xs) each =
    All-cons P x xs (each x (0, omega arith, refl))
    (all_of P xs (λ y there. each y (suc there.0, omega (arith, there.1), there.2)))

-- and so does what holds at each place
all_at : {X : Type 0} (P : X → Type 0) (xs : List X) → ((k : ℕ) (x : X) → slice_get xs k ≡ Some x → P x) → All P xs
all_at P [] each = All-nil P
all_at P (x ∷ xs) each = All-cons P x xs (each 0 x refl) (all_at P xs (λ k y at. each (suc k) y at))

-- the value of a rule
its_value : (flow : List Definition) (x : ℕ × ℕ) → IsItsValue flow x → finishing.IsItsValue flow x
its_value flow x good name op left right at =
    let e : Some (defines.Rule good.name good.op good.left good.right) ≡ Some (defines.Rule name op left right) = sym good.is ∙ at in
    let same : good.name ≡ name = cc in
    subst (λ n. HasValue flow n x.1) same good.of

-- the values of rules that a rank brings are stored
own_stored : (flow : Option (List Definition)) (stored own : List (ℕ × ℕ)) → IsOwn flow stored own → (x : ℕ × ℕ) → Contains own x →
    Contains stored x
own_stored None stored own none x there = absurd (none_there x (subst (λ l. Contains l x) none there))
own_stored (Some flow) stored own is x there = is.each x there

module _ (config : Config) (ledger : List Entry) (flow : List Definition) (outcomes : List FlowOutcome)
    (run : IsFlowsRun config ledger flow outcomes) where
  abbrev rank_is : (rank : Rank) → IsRankRun config ledger flow outcomes rank → IsFlowRank (forms config.ranks) config ledger flow rank
  rank_is rank r = record {
    said = r.said;
    last = r.follows.last;
    calls_are = r.calls_are;
    goes = subst (λ (n : ℕ). Goes (forms n) (flow_of flow rank) at_start r.said r.follows.last) r.ranks_are
        (subst (λ (o : Option (List Definition)). Goes (forms r.program.ranks) o at_start r.said r.follows.last) r.flow_is r.follows.goes);
    over = r.follows.over;
  }

  -- the run as the law of flows has it
  abbrev pub flow_run : IsFlowRun (forms config.ranks) config ledger flow
  flow_run rank below = rank_is rank (run.each rank below)

  module _ (some : 0 < config.ranks) where
    orderly : AreOrderly config ledger
    orderly = are_orderly (forms config.ranks) config ledger some (are_forms config.ranks some) flow flow_run

    module _ (last : Bag) (legal : IsRun (start config) ledger last) where
      conserves : IsBalanced config ledger last
      conserves = balanced config ledger last some legal orderly

      -- at the end of a run over flows each unit is spent
      pub all_spent : All (λ u. u.place ≡ Spent) last.units
      all_spent = conserves.spent

      -- at the end of a run over flows each part is closed and freed
      pub all_freed : All (λ p. (p.closed ≡ true) × (p.freed ≡ true)) last.parts
      all_freed = conserves.freed

      -- what the rank has at its end are the values of their rules
      desk_right : (rank : Rank) (below : rank.0 < config.ranks) → IsRightDesk flow (run.each rank below).follows.last
      desk_right rank below =
          right (forms config.ranks) config ledger some (are_forms config.ranks some) flow flow_run last legal rank below

      -- and so is what it brings
      brought_right : (rank : Rank) (below : rank.0 < config.ranks) → (x : ℕ × ℕ) →
          Contains (run.each rank below).outcome.values.items x → finishing.IsItsValue flow x
      brought_right rank below x there =
          let r = run.each rank below in
          let f = r.follows in
          let desk = desk_right rank below in
          its_value flow x (elim (Contains-append_cases f.own f.last.kept x (subst (λ l. Contains l x) f.brings there)) [
            | inl own ↦
                All-contains (IsItsValue flow) f.last.stored x desk.stored
                (own_stored r.program.flow f.last.stored f.own f.stored x own)
            | inr kept ↦ All-contains (IsItsValue flow) f.last.kept x desk.kept kept
          ])

      outcome_right : (k : ℕ) (o : FlowOutcome) → slice_get outcomes k ≡ Some o → All (finishing.IsItsValue flow) o.values.items
      outcome_right k o at =
          let rank : Rank = record { 0 = k } in
          let within = slice_get_within outcomes k o at in
          let below : k < config.ranks = omega (arith, within, run.all) in
          let e : Some (run.each rank below).outcome ≡ Some o = sym (run.each rank below).there ∙ at in
          let same : (run.each rank below).outcome ≡ o = cc in
          all_of (finishing.IsItsValue flow) o.values.items
          (λ x there. brought_right rank below x (subst (λ (p : FlowOutcome). Contains p.values.items x) (sym same) there))

      -- all that the ranks bring are values of the flow
      pub values_right : finishing.AreValues flow outcomes
      values_right = all_at (λ (o : FlowOutcome). All (finishing.IsItsValue flow) o.values.items) outcomes outcome_right
