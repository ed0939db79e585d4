-- In a run of flow programs, all values that are put and got are right.
use Rattle.std.proofs.Common.{◌≡◌, ◌<◌, ◌≤◌, ◌+◌, ◌==◌, ℕ, zero, suc, Bool, true, false, cond, List, [], ◌∷◌, ◌++◌, count_by, Option, Some}
use Rattle.std.proofs.Common.{None, refl, sym, ap, ◌∙◌, subst, arith, inl, inr, ◌⊎◌, append-nil, append_assoc}
use Rattle.std.proofs.lemmas.Bool.{cases_lt}
use Rattle.std.proofs.lemmas.List.Elements.{All-nil}
use Rattle.std.proofs.lemmas.List.Sums.{sum_by-append}
use Rattle.adlb_unit.specs.declared.configs.Config.{Config}
use Rattle.adlb_unit.specs.declared.names.Rank.{Rank}
use Rattle.adlb_unit.specs.declared.notes.UnitNote.{UnitNote}
use Rattle.bag_ledger.specs.declared.entries.Answer.{Answer}
use Rattle.bag_ledger.specs.declared.entries.Answer.TheVariants as answers
use Rattle.bag_ledger.specs.declared.entries.Call.{Call}
use Rattle.bag_ledger.specs.declared.entries.Call.TheVariants as calls_to
use Rattle.bag_ledger.specs.declared.entries.Entry.{Entry}
use Rattle.bag_ledger.specs.declared.entries.Said.{Said}
use Rattle.bag_ledger.specs.Bag.{Bag, start}
use Rattle.bag_ledger.specs.Steps.{after}
use Rattle.bag_ledger.specs.Runs.{IsRun, calls, calls_from, said_by, says}
use Rattle.balance_law.specs.Balanced.{AreOrderly, over_ranks}
use Rattle.balance_law.specs.Orderly.{IsOrderly, finish}
use Rattle.balance_law.specs.Parcels.{Parcel, got, parcel_got, parcel_sent, sent}
use Rattle.balance_law.proofs.Causes.{batch_behind, caused, got-append, held_after, sent-append}
use Rattle.flow_law.specs.declared.Definition.{Definition}
use Rattle.work_law.specs.Work.{IsWork}
use Rattle.work_law.proofs.Flow.{got_finish, reads, sent_finish}
use Rattle.work_law.proofs.Pieces.{one_if}
use Rattle.flow_run_law.specs.Units.{FlowUnit, Forms, IsGood, flows, untargeted, AimsAt}
use Rattle.flow_run_law.specs.Desk.{Desk, Goes, at_start}
use Rattle.flow_run_law.specs.Puts.{IsRightDesk}
use Rattle.flow_run_law.specs.Run.{IsFlowRank, flow_of}
use Rattle.flow_run_law.proofs.Good.{IsGoodPair, all_right, is_unit}
use Rattle.flow_run_law.proofs.Order.{flow_orderly}

-- Fronts.

unfoldable bag_after : Bag → List Entry → Bag
bag_after b [] = b
bag_after b (e ∷ es) = bag_after (after b e) es

calls_split : (b : Bag) (front back : List Entry) (rank : Rank) →
    calls_from b (front ++ back) rank ≡ calls_from b front rank ++ calls_from (bag_after b front) back rank
unfolding bag_after
calls_split b [] back rank = refl
calls_split b (e ∷ front) back rank =
    ap (λ l. said_by rank (says b e) ++ l) (calls_split (after b e) front back rank)
    ∙ sym (append_assoc (said_by rank (says b e)) (calls_from (after b e) front rank) (calls_from (bag_after (after b e) front) back rank))

calls_more : (b : Bag) (front : List Entry) (e : Entry) (rank : Rank) →
    calls_from b (front ++ e ∷ []) rank ≡ calls_from b front rank ++ said_by rank (says (bag_after b front) e)
calls_more b front e rank =
    calls_split b front (e ∷ []) rank ∙ ap (λ l. calls_from b front rank ++ l) (append-nil (said_by rank (says (bag_after b front) e)))

-- the front of a list that ends in one more is a front of what comes before, or all
pub record IsWithin {X : Type 0} (xs said : List X) (y : X) : Type 0 where
  pub more : List X
  pub is : said ≡ xs ++ more

-- a front of a longer list ends within the shorter or just after it
pub within : {X : Type 0} (xs more said : List X) (y : X) → said ++ y ∷ [] ≡ xs ++ more → IsWithin xs said y ⊎ (xs ≡ said ++ y ∷ [])
within [] more said y e = inl (record { more = said; is = refl })
within {X} (x ∷ xs) more [] y e =
    let h : y ≡ x = cc in
    let t : [] ≡ xs ++ more = cc in
    inr (none xs more t h)
  where
    none : (xs more : List X) → [] ≡ xs ++ more → y ≡ x → x ∷ xs ≡ y ∷ []
    none [] more t h = ap (λ z. z ∷ []) (sym h)
    none (z ∷ xs) more t h = absurd (cc)
within (x ∷ xs) more (s ∷ said) y e =
    let h : s ≡ x = cc in
    let t : said ++ y ∷ [] ≡ xs ++ more = cc in
    elim (within xs more said y t) [
      | inl w ↦ inl (record { more = w.more; is = ap (λ z. z ∷ said) h ∙ ap (λ l. x ∷ l) w.is })
      | inr all ↦ inr (ap (λ l. x ∷ l) all ∙ ap (λ z. z ∷ (said ++ y ∷ [])) (sym h))
    ]

-- Sums over ranks.

-- a sum over ranks is at least 1 if one rank's is
pub over_one : (n : ℕ) (f : Rank → ℕ) (rank : Rank) → rank.0 < n → 1 ≤ f rank → 1 ≤ over_ranks n f
over_one zero f rank below some = absurd (omega arith)
over_one (suc n) f rank below some = elim (cases_lt rank.0 n) [
  | inl less ↦ let h = over_one n f rank less some in omega (arith, h)
  | inr past ↦
      let e : rank.0 ≡ n = omega arith in
      let same : f rank ≡ f (record { 0 = n }) = ap (λ k. f (record { 0 = k })) e in
      omega (arith, same, some)
]

-- a rank whose number is at least 1
pub record Found (n : ℕ) (f : Rank → ℕ) : Type 0 where
  pub rank : Rank
  pub below : rank.0 < n
  pub some : 1 ≤ f rank

-- a sum over ranks of at least 1 has such a rank
pub over_found : (n : ℕ) (f : Rank → ℕ) → 1 ≤ over_ranks n f → Found n f
over_found zero f some = absurd (omega arith)
over_found (suc n) f some = elim (cases_lt 0 (f (record { 0 = n }))) [
  | inl here ↦ record { rank = record { 0 = n }; below = omega arith; some = omega (arith, here) }
  | inr none ↦ let r = over_found n f (omega (arith, none, some)) in record { rank = r.rank; below = omega (arith, r.below); some = r.some }
]

-- a call that gets a unit sends none
fetches_send : (test : Parcel → Bool) (held : Option UnitNote) (batch : Option (List ℕ)) (call : Call) (answer : Answer) →
    1 ≤ count_by test (parcel_got held call answer) → parcel_sent batch call answer ≡ []
fetches_send test (Some note) batch (calls_to.Fetch id) (answers.Body body) some = refl
fetches_send test held batch call answer some = absurd (omega arith)

got_one : (test : Parcel → Bool) (xs : List Said) (s : Said) →
    count_by test (got None (xs ++ s ∷ [])) ≡ count_by test (got None xs) + count_by test (parcel_got (held_after None xs) s.call s.answer)
unfolding got
got_one test xs s =
    ap (count_by test) (got-append None xs (s ∷ []))
    ∙ ap (λ l. count_by test (got None xs ++ l)) (append-nil (parcel_got (held_after None xs) s.call s.answer))
    ∙ sum_by-append (one_if test) (got None xs) (parcel_got (held_after None xs) s.call s.answer)

-- what one call that sends nothing adds
sent_same : (test : Parcel → Bool) (ys : List Said) (q : Rank) (by : Rank) (s : Said) →
    ((batch : Option (List ℕ)) → parcel_sent batch s.call s.answer ≡ []) →
    count_by test (sent None (ys ++ said_by q (Some (by, s)))) ≡ count_by test (sent None ys)
unfolding sent
sent_same test ys q by s none = at (by.0 == q.0)
  where
    at : (b : Bool) → count_by test (sent None (ys ++ cond b (s ∷ []) [])) ≡ count_by test (sent None ys)
    at true =
        ap (count_by test) (sent-append None ys (s ∷ []))
        ∙ ap (λ l. count_by test (sent None ys ++ (l ++ []))) (none (batch_behind None ys))
        ∙ ap (count_by test) (append-nil (sent None ys))
    at false = ap (λ l. count_by test (sent None l)) (append-nil ys)

-- a rank said one thing more: if it got a right unit there, some rank had sent it before
new_said : (F : Forms) (is : IsWork (flows (untargeted F))) (config : Config) (f : List Definition) (u : FlowUnit)
    (front : List Entry) (e : Entry)
    (rank : Rank) →
    rank.0 < config.ranks → (by : Rank) (s : Said) (held : Option UnitNote) →
    ((r : Rank) → r.0 < config.ranks → (v : FlowUnit)
    → 1 ≤ count_by (reads (flows (untargeted F)) is (is_unit v)) (got None (calls config front r)) →
    IsGood f v) →
    (n : ℕ) → 1 ≤ n →
    n ≡ count_by (reads (flows (untargeted F)) is (is_unit u)) (got None (calls config front rank))
    + count_by (reads (flows (untargeted F)) is (is_unit u))
    (parcel_got held s.call s.answer) →
    ((q : Rank) → count_by (reads (flows (untargeted F)) is (is_unit u)) (sent None (calls config (front ++ e ∷ []) q))
    ≡ count_by (reads (flows (untargeted F)) is (is_unit u)) (sent None (calls config front q ++ said_by q (Some (by, s))))) →
    over_ranks config.ranks (λ r. count_by (reads (flows (untargeted F)) is (is_unit u)) (got None (calls config (front ++ e ∷ []) r)))
    ≤ over_ranks config.ranks (λ r. count_by (reads (flows (untargeted F)) is (is_unit u)) (sent None (calls config (front ++ e ∷ []) r))) →
    ((q : Rank) → q.0 < config.ranks → (v : FlowUnit)
    → 1 ≤ count_by (reads (flows (untargeted F)) is (is_unit v)) (sent None (calls config front q)) →
    IsGood f v) →
    n ≡ count_by (reads (flows (untargeted F)) is (is_unit u)) (got None (calls config (front ++ e ∷ []) rank)) → IsGood f u
new_said F is config f u front e rank below by s held right n counts split sends causes puts its =
    elim (cases_lt 0 (count_by (reads (flows (untargeted F)) is (is_unit u)) (got None (calls config front rank)))) [
      | inl before ↦ right rank below u (omega (arith, before))
      | inr none ↦
          let fetch = fetches_send (reads (flows (untargeted F)) is (is_unit u)) held in
          let here : 1 ≤ count_by (reads (flows (untargeted F)) is (is_unit u)) (parcel_got held s.call s.answer) = omega (
            arith,
            none,
            split,
            counts,
          ) in
          let nothing : (batch : Option (List ℕ)) → parcel_sent batch s.call s.answer ≡ [] = λ batch. fetch batch s.call s.answer here in
          let got_some = over_one config.ranks (λ r. count_by (reads (flows (untargeted F)) is (is_unit u))
          (got None (calls config (front ++ e ∷ []) r))) rank below
          (omega (arith, counts, its)) in
          let q = over_found config.ranks
          (λ r. count_by (reads (flows (untargeted F)) is (is_unit u)) (sent None (calls config (front ++ e ∷ []) r)))
          (omega (arith, got_some, causes)) in
          let same = sent_same (reads (flows (untargeted F)) is (is_unit u)) (calls config front q.rank) q.rank by s nothing in
          let at_q = sends q.rank in
          let more = q.some in
          puts q.rank q.below u (omega (arith, same, at_q, more))
    ]

-- The law.

module _ (F : Forms) (is : IsWork (flows (untargeted F))) (config : Config) (ledger : List Entry) (last : Bag) (some : 0 < config.ranks)
    (aims : AimsAt F config.ranks)
    (legal : IsRun (start config) ledger last) (f : List Definition)
    (each : (rank : Rank) → rank.0 < config.ranks → IsFlowRank F config ledger f rank)
  where
    abbrev R : FlowUnit → Parcel → Bool
    R u = reads (flows (untargeted F)) is (is_unit u)

    its_flow : (rank : Rank) (g : List Definition) → flow_of f rank ≡ Some g → g ≡ f
    its_flow rank g e = at (rank.0 == 0) e
      where
        at : (b : Bool) → cond b (Some f) None ≡ Some g → g ≡ f
        at true h = cc
        at false h = absurd (cc)

    -- the ranks of the run are orderly
    pub orderly : AreOrderly config ledger
    orderly rank below =
        let w = each rank below in
        subst (λ l. IsOrderly config.ranks None None l) (sym w.calls_are)
        (flow_orderly F is (flow_of f rank) config.ranks at_start w.said w.last aims refl refl w.over w.goes)

    start_right : IsRightDesk f at_start
    start_right = record {
      stored = All-nil (IsGoodPair f);
      owed = All-nil (IsGoodPair f);
      kept = All-nil (IsGoodPair f);
    }

    -- all that the ranks got in this front is right
    abbrev pub GotRight : List Entry → Type 0
    GotRight front = (rank : Rank) → rank.0 < config.ranks → (u : FlowUnit) →
        1 ≤ count_by (reads (flows (untargeted F)) is (is_unit u)) (got None (calls config front rank)) →
        IsGood f u

    goes_front : (flow : Option (List Definition)) (d : Desk) (xs more : List Said) (z : Desk) → Goes F flow d (xs ++ more) z →
        (mid : Desk) × Goes F flow d xs mid
    goes_front flow d [] more z goes = (d, refl)
    goes_front flow d (s ∷ xs) more z goes =
        let r = goes_front flow goes.0 xs more z goes.2 in (r.0, (goes.0, goes.1, r.1))

    -- then so is all that they put in it
    pub puts_right : (front back : List Entry) → ledger ≡ front ++ back → GotRight front → (rank : Rank) → rank.0 < config.ranks →
        (u : FlowUnit) →
        1 ≤ count_by (R u) (sent None (calls config front rank)) → IsGood f u
    puts_right front back split right rank below u counts =
        let w = each rank below in
        let xs : List Said = calls config front rank in
        let more : List Said = calls_from (bag_after (start config) front) back rank in
        let all : w.said ++ finish ∷ [] ≡ xs ++ more =
        sym w.calls_are ∙ ap (λ l. calls config l rank) split ∙ calls_split (start config) front back rank in
        elim (within xs more w.said finish all) [
          | inl part ↦
              let goes = goes_front (flow_of f rank) at_start xs part.more w.last
              (subst (λ l. Goes F (flow_of f rank) at_start l w.last) part.is w.goes) in
              (all_right F is f (flow_of f rank) (its_flow rank) at_start xs goes.0 start_right (right rank below) goes.1).puts u counts
          | inr whole ↦
              let g : (v : FlowUnit) → 1 ≤ count_by (R v) (got None w.said) → IsGood f v = λ v c.
              let e : count_by (R v) (got None xs) ≡ count_by (R v) (got None w.said) =
              ap (λ l. count_by (R v) (got None l)) whole ∙ ap (count_by (R v)) (got_finish None w.said) in
              right rank below v (omega (arith, c, e)) in
              let e : count_by (R u) (sent None xs) ≡ count_by (R u) (sent None w.said) =
              ap (λ l. count_by (R u) (sent None l)) whole ∙ ap (count_by (R u)) (sent_finish None w.said) in
              (all_right F is f (flow_of f rank) (its_flow rank) at_start w.said w.last start_right g w.goes).puts u
              (omega (arith, counts, e))
        ]

    -- one entry more
    step_right : (front : List Entry) (e : Entry) (back : List Entry) → ledger ≡ front ++ e ∷ back → GotRight front →
        GotRight (front ++ e ∷ [])
    step_right front e back split right rank below u counts =
        by_says (says (bag_after (start config) front) e) refl
      where
        b : Bag
        b = bag_after (start config) front

        longer : (by : Rank) → calls config (front ++ e ∷ []) by ≡ calls config front by ++ said_by by
            (says (bag_after (start config) front) e)
        longer by = calls_more (start config) front e by

        split_one : ledger ≡ (front ++ e ∷ []) ++ back
        split_one = split ∙ sym (append_assoc front (e ∷ []) back)

        causes : over_ranks config.ranks
            (λ r. count_by (reads (flows (untargeted F)) is (is_unit u)) (got None (calls config (front ++ e ∷ []) r)))
            ≤ over_ranks config.ranks
            (λ r. count_by (reads (flows (untargeted F)) is (is_unit u)) (sent None (calls config (front ++ e ∷ []) r)))
        causes =
            caused config (front ++ e ∷ []) back last some (subst (λ l. IsRun (start config) l last) split_one legal)
            (subst (λ l. AreOrderly config l) split_one orderly) (reads (flows (untargeted F)) is (is_unit u))

        same_calls : (l : List Said) → calls config (front ++ e ∷ []) rank ≡ calls config front rank ++ l → l ≡ [] → IsGood f u
        same_calls l m none =
            let n : calls config (front ++ e ∷ []) rank ≡ calls config front rank = m ∙ ap (λ k. calls config front rank ++ k) none ∙
            append-nil (calls config front rank) in
            let c : count_by (reads (flows (untargeted F)) is (is_unit u)) (got None (calls config (front ++ e ∷ []) rank))
            ≡ count_by (reads (flows (untargeted F)) is (is_unit u)) (got None (calls config front rank)) = ap (λ k. count_by
            (reads (flows (untargeted F)) is (is_unit u)) (got None k)) n in
            right rank below u (omega (arith, counts, c))

        by_says : (o : Option (Rank × Said)) → o ≡ says (bag_after (start config) front) e → IsGood f u
        by_says None eq = same_calls (said_by rank (says (bag_after (start config) front) e)) (longer rank) (ap (said_by rank) (sym eq))
        by_says (Some (by, s)) eq = by_rank (by.0 == rank.0) refl
          where
            by_rank : (t : Bool) → t ≡ (by.0 == rank.0) → IsGood f u
            by_rank false t = same_calls (said_by rank (says (bag_after (start config) front) e)) (longer rank)
                (ap (said_by rank) (sym eq) ∙ ap (λ z. cond z (s ∷ []) []) (sym t))
            by_rank true t =
                let l : said_by rank (says (bag_after (start config) front) e) ≡ s ∷ [] =
                ap (said_by rank) (sym eq) ∙ ap (λ z. cond z (s ∷ []) []) (sym t) in
                let n : calls config (front ++ e ∷ []) rank ≡ calls config front rank ++ s ∷ [] = longer rank ∙
                ap (λ k. calls config front rank ++ k) l in
                new_said F is config f u front e rank below by s (held_after None (calls config front rank)) right
                (count_by (reads (flows (untargeted F)) is (is_unit u)) (got None (calls config (front ++ e ∷ []) rank))) counts
                (ap (λ k. count_by (reads (flows (untargeted F)) is (is_unit u)) (got None k)) n
                ∙ got_one (reads (flows (untargeted F)) is (is_unit u))
                (calls config front rank) s)
                (λ q. ap (λ k. count_by (reads (flows (untargeted F)) is (is_unit u)) (sent None k))
                (longer q ∙ ap (λ o. calls config front q ++ said_by q o) (sym eq)))
                causes (puts_right front (e ∷ back) split right) refl

    all_steps : (front back : List Entry) → ledger ≡ front ++ back → GotRight front → GotRight ledger
    all_steps front [] split right = subst GotRight (sym (split ∙ append-nil front)) right
    all_steps front (e ∷ back) split right =
        all_steps (front ++ e ∷ []) back (split ∙ sym (append_assoc front (e ∷ []) back)) (step_right front e back split right)

    -- all that is got is right
    pub got_right : GotRight ledger
    unfolding got
    got_right = all_steps [] ledger refl (λ rank below u none. absurd (omega arith))

    -- and so is all that is put, and what each rank has at its end
    pub sent_right : (rank : Rank) → rank.0 < config.ranks → (u : FlowUnit) →
        1 ≤ count_by (reads (flows (untargeted F)) is (is_unit u)) (sent None (calls config ledger rank)) → IsGood f u
    sent_right = puts_right ledger [] (sym (append-nil ledger)) got_right

    -- each rank's desk holds right values at the end
    pub ends_right : (rank : Rank) (below : rank.0 < config.ranks) → IsRightDesk f (each rank below).last
    ends_right rank below =
        let w = each rank below in
        let g : (v : FlowUnit) → 1 ≤ count_by (reads (flows (untargeted F)) is (is_unit v)) (got None w.said) → IsGood f v = λ v c.
        let e : count_by (reads (flows (untargeted F)) is (is_unit v)) (got None (calls config ledger rank))
        ≡ count_by (reads (flows (untargeted F)) is (is_unit v))
        (got None w.said) =
        ap (λ l. count_by (reads (flows (untargeted F)) is (is_unit v)) (got None l)) w.calls_are
        ∙ ap (count_by (reads (flows (untargeted F)) is (is_unit v)))
        (got_finish None w.said) in
        got_right rank below v (omega (arith, c, e)) in
        (all_right F is f (flow_of f rank) (its_flow rank) at_start w.said w.last start_right g w.goes).right
