-- The laws of a run of flow programs, from what the other files show of ranks and calls.
use Rattle.std.proofs.Common.{◌≡◌, ◌<◌, ◌≤◌, inl, inr, ℕ, true, List, [], ◌∷◌, ◌++◌, All, Contains, count_by, Option, Some, None, refl, sym}
use Rattle.std.proofs.Common.{ap, ◌∙◌, subst, arith, append_assoc}
use Rattle.std.proofs.lemmas.List.Elements.{All-nil, All-cons, All-head, All-tail}
use Rattle.std.proofs.lemmas.List.Sums.{sum_by-append}
use Rattle.adlb_unit.specs.declared.configs.Config.{Config}
use Rattle.adlb_unit.specs.declared.names.Rank.{Rank}
use Rattle.bag_ledger.specs.declared.entries.Answer.{Answer}
use Rattle.bag_ledger.specs.declared.entries.Call.TheVariants as calls_to
use Rattle.bag_ledger.specs.declared.entries.Entry.{Entry}
use Rattle.bag_ledger.specs.declared.entries.Said.{Said}
use Rattle.bag_ledger.specs.Bag.{Bag, start}
use Rattle.bag_ledger.specs.Runs.{IsRun, calls}
use Rattle.balance_law.specs.Balanced.{AreOrderly, IsEndedWell}
use Rattle.balance_law.specs.Orderly.{IsOrderly, finish}
use Rattle.balance_law.specs.Parcels.{got}
use Rattle.balance_law.proofs.Causes.{got-append, held_after}
use Rattle.balance_law.proofs.Whole.{balanced}
use Rattle.flow_law.specs.Flows.{AreDistinct, HasValue, Name}
use Rattle.flow_law.specs.declared.Definition.{Definition}
use Rattle.flow_law.specs.declared.Op.{Op}
use Rattle.work_law.specs.Work.{IsWork, put_of}
use Rattle.work_law.specs.Books.{said_of}
use Rattle.work_law.proofs.Flow.{reads}
use Rattle.work_law.proofs.Pieces.{one_if}
use Rattle.flow_run_law.specs.Units.{AreForms, FlowUnit, Forms, HasTypes, IsGood, IsGoodRule, IsRule, Rule, flows, untargeted}
use Rattle.flow_run_law.specs.Desk.{Desk, Goes, Moves, at_start}
use Rattle.flow_run_law.specs.Puts.{AreTaken, IsFlowRun, IsOfKnown, IsOnce, IsRejectedAnswer, IsRightDesk, rules_in, rules_of}
use Rattle.flow_run_law.specs.Run.{flow_of}
use Rattle.flow_run_law.proofs.Complete.{each_is_put}
use Rattle.flow_run_law.proofs.Good.{IsGoodPair, all_right, is_unit, ready_good}
use Rattle.flow_run_law.proofs.Known.{inputs_known, put_ready}
use Rattle.flow_run_law.proofs.Once.{all_noted}
use Rattle.flow_run_law.proofs.Order.{flow_orderly}
use Rattle.flow_run_law.proofs.Told.{ends_right, got_right, within}

-- forms that are read back make work, whatever its targets
is_work : (ranks : ℕ) (F : Forms) → AreForms ranks F → IsWork (flows (untargeted F))
is_work ranks F forms = record {
  read_back = forms.read_back;
  plain = λ common unit. All-nil (λ (made : FlowUnit). (its : List ℕ) → (flows (untargeted F)).over made its ≡ []);
  aimed = λ any unit some. tt;
}

-- Lists that end in one more.

front_of : (P : Said → Type 0) (xs : List Said) (y : Said) → All P (xs ++ y ∷ []) → All P xs
front_of P [] y all = All-nil P
front_of P (x ∷ xs) y all = All-cons P x xs (All-head P x (xs ++ y ∷ []) all) (front_of P xs y (All-tail P x (xs ++ y ∷ []) all))

no_end : (ys : List Said) (y : Said) → [] ≡ ys ++ y ∷ [] → ⊥
no_end [] y e = cc
no_end (z ∷ ys) y e = cc

last_same : (xs : List Said) (x : Said) (ys : List Said) (y : Said) → xs ++ x ∷ [] ≡ ys ++ y ∷ [] → x ≡ y
last_same [] x [] y e = cc
last_same [] x (z ∷ ys) y e = absurd (no_end ys y (let t : [] ≡ ys ++ y ∷ [] = cc in t))
last_same (w ∷ xs) x [] y e = absurd (no_end xs x (let t : xs ++ x ∷ [] ≡ [] = cc in sym t))
last_same (w ∷ xs) x (z ∷ ys) y e = last_same xs x ys y (let t : xs ++ x ∷ [] ≡ ys ++ y ∷ [] = cc in t)

-- the rules that are put before the finish are all
rules_end : (F : Forms) (xs : List Said) → rules_in F (xs ++ finish ∷ []) ≡ rules_in F xs
unfolding rules_in
rules_end F [] = refl
rules_end F (s ∷ xs) = ap (λ l. rules_of F s.call ++ l) (rules_end F xs)

-- a call among others, with the desks before and after it
record IsSplit (F : Forms) (flow : Option (List Definition)) (d : Desk) (front : List Said) (s : Said) : Type 0 where
  mid : Desk
  next : Desk
  before : Goes F flow d front mid
  moves : Moves F flow mid s next

split_at : (F : Forms) (flow : Option (List Definition)) (d : Desk) (front : List Said) (s : Said) (back : List Said) (last : Desk) →
    Goes F flow d (front ++ s ∷ back) last → IsSplit F flow d front s
split_at F flow d [] s back last goes = record { mid = d; next = goes.0; before = refl; moves = goes.1 }
split_at F flow d (t ∷ front) s back last goes =
    let r = split_at F flow goes.0 front s back last goes.2 in
    record { mid = r.mid; next = r.next; before = (goes.0, goes.1, r.before); moves = r.moves }

module _ (F : Forms) (config : Config) (ledger : List Entry) (some : 0 < config.ranks) (forms : AreForms config.ranks F)
    (flow : List Definition)
    (each : IsFlowRun F config ledger flow)
  where
    is : IsWork (flows (untargeted F))
    is = is_work config.ranks F forms

    -- the ranks of a run over flows are orderly
    pub are_orderly : AreOrderly config ledger
    are_orderly rank below =
        let w = each rank below in
        subst (λ l. IsOrderly config.ranks None None l) (sym w.calls_are)
        (flow_orderly F is (flow_of flow rank) config.ranks at_start w.said w.last forms.aimed refl refl w.over w.goes)

    module _ (last : Bag) (legal : IsRun (start config) ledger last) where
      well : (rank : Rank) (below : rank.0 < config.ranks) → All (λ (s : Said). IsEndedWell s.call s.answer) (each rank below).said
      well rank below =
          let all = (balanced config ledger last some legal are_orderly).ended rank below in
          front_of (λ (s : Said). IsEndedWell s.call s.answer) (each rank below).said finish
          (subst (All (λ (s : Said). IsEndedWell s.call s.answer)) (each rank below).calls_are all)

      -- the store of each rank holds right values at the end
      pub right : (rank : Rank) (below : rank.0 < config.ranks) → IsRightDesk flow (each rank below).last
      right rank below = ends_right F is config ledger last some forms.aimed legal flow each rank below

      -- rank 0 puts each rule once at most
      pub once : IsOnce (rules_in F (calls config ledger (record { 0 = 0 })))
      once =
          let w = each (record { 0 = 0 }) some in
          let noted = all_noted F is (Some flow) at_start w.said w.last (well (record { 0 = 0 }) some) w.goes in
          let put : w.last.put ≡ rules_in F (calls config ledger (record { 0 = 0 })) =
          noted.put ∙ sym (ap (rules_in F) w.calls_are ∙ rules_end F w.said) in
          subst IsOnce put (noted.once (λ i. omega arith))

      -- rank 0 puts a rule only after it knows the values of its inputs
      pub known : (front : List Said) (s : Said) (back : List Said) (i : ℕ) (op : Op) (a b : ℕ) (x : Answer) →
          F.fits (Rule i op a b) ≡ true →
          s ≡ said_of (put_of (flows F) (Rule i op a b)) x → calls config ledger (record { 0 = 0 }) ≡ front ++ s ∷ back →
          IsOfKnown F flow front i
      known front s back i op a b x fits put split =
          let w = each (record { 0 = 0 }) some in
          let all : w.said ++ finish ∷ [] ≡ (front ++ s ∷ []) ++ back = sym w.calls_are ∙ split ∙ sym (append_assoc front (s ∷ []) back) in
          elim (within (front ++ s ∷ []) back w.said finish all) [
            | inl part ↦
                let there : w.said ≡ front ++ s ∷ part.more = part.is ∙ append_assoc front (s ∷ []) part.more in
                inputs_known F is flow front s part.more w.last i op a b x fits put
                (subst (λ l. Goes F (Some flow) at_start l w.last) there w.goes)
            | inr whole ↦
                absurd (
                let same : s ≡ finish = last_same front s w.said finish whole in
                let e : put_of (flows F) (Rule i op a b) ≡ calls_to.Finish = ap (λ (t : Said). t.call) (sym put ∙ same) in
                cc
                )
          ]

      start_right : IsRightDesk flow at_start
      start_right = record {
        stored = All-nil (IsGoodPair flow);
        owed = All-nil (IsGoodPair flow);
        kept = All-nil (IsGoodPair flow);
      }

      its_flow : (g : List Definition) → Some flow ≡ Some g → g ≡ flow
      its_flow g e = cc

      -- what rank 0 got in a front of its calls is right
      front_right : (front back : List Said) → calls config ledger (record { 0 = 0 }) ≡ front ++ back → (u : FlowUnit) →
          1 ≤ count_by (reads (flows (untargeted F)) is (is_unit u)) (got None front) → IsGood flow u
      front_right front back split u counts =
          let all : got None (calls config ledger (record { 0 = 0 })) ≡ got None front ++ got (held_after None front) back =
          ap (got None) split ∙ got-append None front back in
          let sums =
          sum_by-append (one_if (reads (flows (untargeted F)) is (is_unit u))) (got None front) (got (held_after None front) back) in
          let more : count_by (reads (flows (untargeted F)) is (is_unit u)) (got None (calls config ledger (record { 0 = 0 })))
          ≡ count_by (reads (flows (untargeted F)) is (is_unit u)) (got None front ++ got (held_after None front) back) =
          ap (count_by (reads (flows (untargeted F)) is (is_unit u))) all in
          got_right F is config ledger last some forms.aimed legal flow each (record { 0 = 0 }) some u (omega (arith, counts, sums, more))

      -- rank 0 puts each rule with the values that its inputs have in the flow
      pub values : (front : List Said) (s : Said) (back : List Said) (i : ℕ) (op : Op) (a b : ℕ) (x : Answer) →
          F.fits (Rule i op a b) ≡ true →
          s ≡ said_of (put_of (flows F) (Rule i op a b)) x → calls config ledger (record { 0 = 0 }) ≡ front ++ s ∷ back →
          IsGoodRule flow i op a b
      values front s back i op a b x fits put split =
          let w = each (record { 0 = 0 }) some in
          let all : w.said ++ finish ∷ [] ≡ (front ++ s ∷ []) ++ back = sym w.calls_are ∙ split ∙ sym (append_assoc front (s ∷ []) back) in
          elim (within (front ++ s ∷ []) back w.said finish all) [
            | inl part ↦
                let there : w.said ≡ front ++ s ∷ part.more = part.is ∙ append_assoc front (s ∷ []) part.more in
                let r = split_at F (Some flow) at_start front s part.more w.last (subst (λ l. Goes F (Some flow) at_start l w.last) there
                w.goes) in
                let desk = all_right F is flow (Some flow) its_flow at_start front r.mid start_right (front_right front (s ∷ back) split)
                r.before in
                ready_good flow r.mid.stored i op a b desk.right.stored (put_ready F is flow r.mid s r.next i op a b x fits put r.moves)
            | inr whole ↦
                absurd (
                let same : s ≡ finish = last_same front s w.said finish whole in
                let e : put_of (flows F) (Rule i op a b) ≡ calls_to.Finish = ap (λ (t : Said). t.call) (sym put ∙ same) in
                cc
                )
          ]

      -- if no put of an answer is rejected on another rank, rank 0 puts each rule that has a value
      pub complete : HasTypes F → AreDistinct flow → AreTaken F config ledger →
          (i : ℕ) (name : Name) (op : Op) (left right : Name) (v : ℕ) →
          IsRule flow i name op left right → HasValue flow name v → Contains (rules_in F (calls config ledger (record { 0 = 0 }))) i
      complete types distinct taken i name op left right v rule has =
          let w = each (record { 0 = 0 }) some in
          let noted = all_noted F is (Some flow) at_start w.said w.last (well (record { 0 = 0 }) some) w.goes in
          let put : w.last.put ≡ rules_in F (calls config ledger (record { 0 = 0 })) =
          noted.put ∙ sym (ap (rules_in F) w.calls_are ∙ rules_end F w.said) in
          let never : (rank : Rank) (below : rank.0 < config.ranks) → (rank.0 ≡ 0 → ⊥) →
          All (λ (s : Said). IsRejectedAnswer F s → ⊥) (each rank below).said =
          λ rank below other. front_of (λ (s : Said). IsRejectedAnswer F s → ⊥) (each rank below).said finish
          (subst (All (λ (s : Said). IsRejectedAnswer F s → ⊥)) (each rank below).calls_are (taken rank below other)) in
          subst (λ l. Contains l i) put
          (each_is_put F is types config ledger last some forms.aimed legal flow distinct each never i name op left right v rule has)
