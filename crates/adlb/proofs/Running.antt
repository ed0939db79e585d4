-- The programs of a run that is reported are workers that have worked.
use Rattle.std.proofs.Common.{◌≡◌, ◌<◌, ◌≤◌, ◌^◌, ℕ, zero, suc, All, List, [], ◌∷◌, None, Some, length, map, option_map, refl, ◌∙◌, sym, ap}
use Rattle.std.proofs.Common.{subst, arith, sum_by}
use Rattle.std.specs.Prelude.{slice_get}
use Rattle.std.proofs.lemmas.List.{length-map}
use Rattle.std.proofs.lemmas.List.Elements.{All-head, All-tail}
use Rattle.std.proofs.lemmas.List.Sums.{sum_by-cons}
use Rattle.std.proofs.lemmas.Option.{slice_get-map, slice_get_within}
use Rattle.adlb_unit.specs.declared.configs.Config.{Config}
use Rattle.adlb_unit.specs.declared.names.Rank.{Rank}
use Rattle.bag_ledger.specs.declared.entries.Entry.{Entry}
use Rattle.bag_ledger.specs.declared.entries.Said.{Said}
use Rattle.bag_ledger.specs.Bag.{Bag, start}
use Rattle.bag_ledger.specs.Runs.{IsRun}
use Rattle.adlb_threads.specs.Reports.{Reported}
use Rattle.adlb.specs.Worked.{AllHaveWorked, HasWorked, begins}
use Rattle.adlb.specs.Runs.{IsRunOfEach}

-- an element of a list of which all are so
pub there : {X : Type 0} (P : X → Type 0) (xs : List X) (k : ℕ) → k < length xs → All P xs → (x : X) × (slice_get xs k ≡ Some x) × P x
there P [] k less all = absurd (omega arith)
there P (x ∷ xs) zero less all = (x, refl, All-head P x xs all)
there P (x ∷ xs) (suc k) less all = there P xs k (omega arith) (All-tail P x xs all)

sum_map : {G : Type 0} (f : G → ℕ) (xs : List G) → sum_by (λ n. n) (map f xs) ≡ sum_by f xs
sum_map f [] = refl
sum_map f (x ∷ xs) = omega (arith, sum_map f xs, sum_by-cons (λ (n : ℕ). n) (f x) (map f xs), sum_by-cons f x xs)

module _ {X G : Type 0} (follows : X → Rank → List Said → G → Type 0) (ranks : ℕ) (program : X) (r : Reported G)
    (each : IsRunOfEach follows program ranks r) (w : List ℕ → List ℕ → ℕ) (whole : ℕ) (sees : G → ℕ)
    (worked : (rank : Rank) (said : List Said) (got : G) → follows program rank said got
    → HasWorked w (begins whole rank) ranks None said (sees got))
  where
    pub all_have : AllHaveWorked w whole each.config r.ledger (map sees r.outcomes)
    all_have rank less =
        let is = there (λ (p : X). p ≡ program) each.programs rank.0 (omega (arith, each.long, each.ranks_are)) each.all in
        let one = each.run.each rank is.0 is.1 in
        let got : slice_get (map sees r.outcomes) rank.0 ≡ Some (sees one.0) =
        slice_get-map sees r.outcomes rank.0 ∙ ap (λ o. option_map sees o) one.1 in
        let had = worked rank one.2.0 one.0 (subst (λ (p : X). follows p rank one.2.0 one.0) is.2 one.2.1) in (
          sees one.0,
          got,
          (one.2.0, subst (λ (n : ℕ). HasWorked w (begins whole rank) n None one.2.0 (sees one.0)) (sym each.ranks_are) had, one.2.2),
        )

    pub few_of : (k : ℕ) (got : G) → slice_get r.outcomes k ≡ Some got → sees got ≤ 2 ^ 112
    few_of k got at =
        let rank : Rank = record { 0 = k } in
        let within : k < length r.outcomes = slice_get_within r.outcomes k got at in
        let is = all_have rank (omega (arith, within, each.run.outcomes)) in
        let mapped : slice_get (map sees r.outcomes) k ≡ Some (sees got) =
        slice_get-map sees r.outcomes k ∙ ap (λ o. option_map sees o) at in
        let same : Some is.0 ≡ Some (sees got) = sym is.1 ∙ mapped in
        let few : is.0 ≤ 2 ^ 112 = is.2.1.few in
        let equal : is.0 ≡ sees got = cc in
        omega (arith, few, equal)

    pub whole_of : ((w : List ℕ → List ℕ → ℕ) (whole : ℕ) (config : Config) (ledger : List Entry) (last : Bag) (outcomes : List ℕ) →
        0 < config.ranks → IsRun (start config) ledger last → length outcomes ≡ config.ranks →
        AllHaveWorked w whole config ledger outcomes → sum_by (λ n. n) outcomes ≡ whole) → sum_by sees r.outcomes ≡ whole
    whole_of law =
        sym (sum_map sees r.outcomes)
        ∙ law w whole each.config r.ledger each.run.last (map sees r.outcomes) (omega (arith, each.config.ranks_within)) each.run.legal
        (length-map r.outcomes sees ∙ each.run.outcomes) all_have
