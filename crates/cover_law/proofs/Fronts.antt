-- A front of a legal run, after which a rank has heard a front of its calls.
use Rattle.std.proofs.Common.{◌≡◌, ◌==◌, Bool, true, false, List, [], ◌∷◌, ◌++◌, Option, Some, None, refl, ap, ◌∙◌, subst, ◌⊎◌, inl, inr}
use Rattle.std.specs.Bool.{if◌then◌else◌}
use Rattle.adlb_unit.specs.declared.names.Rank.{Rank}
use Rattle.bag_ledger.specs.declared.entries.Entry.{Entry}
use Rattle.bag_ledger.specs.declared.entries.Said.{Said}
use Rattle.bag_ledger.specs.Bag.{Bag}
use Rattle.bag_ledger.specs.Runs.{IsRun, calls_from, said_by, says}
use Rattle.bag_ledger.specs.Steps.{Steps, after}

-- an entry ends no call of the rank, or its first one
ends_first : (rank : Rank) (o : Option (Rank × Said)) (s : Said) (later rest : List Said) → said_by rank o ++ later ≡ s ∷ rest
    → ((said_by rank o ≡ []) × (later ≡ s ∷ rest)) ⊎ ((said_by rank o ≡ s ∷ []) × (later ≡ rest))
ends_first rank None s later rest is = inl (refl, is)
ends_first rank (Some (by, t)) s later rest is = by_test (by.0 == rank.0) is
  where
    by_test : (own : Bool) → (if own then t ∷ [] else []) ++ later ≡ s ∷ rest
        → (((if own then t ∷ [] else []) ≡ []) × (later ≡ s ∷ rest)) ⊎ (((if own then t ∷ [] else []) ≡ s ∷ []) × (later ≡ rest))
    by_test true same = inr (let first : t ≡ s = cc in ap (λ x. x ∷ []) first, cc)
    by_test false same = inl (refl, same)

-- these entries, from this bag, are a run in which the rank heard these calls
pub record HasFront (b : Bag) (rank : Rank) (said : List Said) : Type 0 where
  pub front : List Entry
  pub middle : Bag
  pub run : IsRun b front middle
  pub calls_are : calls_from b front rank ≡ said

-- each front of the calls of a rank was heard in a front of the run
pub front_at : (b last : Bag) (ledger : List Entry) (rank : Rank) (said more : List Said) → IsRun b ledger last
    → calls_from b ledger rank ≡ said ++ more → HasFront b rank said
front_at b last ledger rank [] more run is = record { front = []; middle = b; run = refl; calls_are = refl }
front_at b last [] rank (s ∷ said) more run is = absurd (cc)
front_at b last (e ∷ es) rank (s ∷ said) more run is =
    elim (ends_first rank (says b e) s (calls_from (after b e) es rank) (said ++ more) is) [
      | inl later ↦
          let f = front_at (after b e) last es rank (s ∷ said) more rest later.1 in
          record {
            front = e ∷ f.front;
            middle = f.middle;
            run = (after b e, steps, f.run);
            calls_are = ap (λ l. l ++ calls_from (after b e) f.front rank) later.0 ∙ f.calls_are;
          }
      | inr now ↦
          let f = front_at (after b e) last es rank said more rest now.1 in
          record {
            front = e ∷ f.front;
            middle = f.middle;
            run = (after b e, steps, f.run);
            calls_are = ap (λ l. l ++ calls_from (after b e) f.front rank) now.0 ∙ ap (λ l. s ∷ l) f.calls_are;
          }
    ]
  where
    steps : Steps b e (after b e)
    steps = subst (λ m. Steps b e m) run.1.2 run.1

    rest : IsRun (after b e) es last
    rest = subst (λ (m : Bag). IsRun m es last) run.1.2 run.2
