-- What one entry of a rank makes of its state in the bag, and what it says of it.
use Rattle.std.proofs.Common.{◌≡◌, ℕ, zero, suc, List, [], ◌∷◌, ◌++◌, Some, None, Bool, true, false, refl, sym, ap, ◌∙◌, append-nil, ◌==◌}
use Rattle.std.specs.Prelude.{slice_get, IsTrue, IsFalse, ◌||◌, not}
use Rattle.std.proofs.lemmas.Bool.{and_parts, eq-eqb, eqb-true}
use Rattle.adlb_unit.specs.Ids.{same_unit}
use Rattle.adlb_unit.specs.declared.names.Rank.{Rank}
use Rattle.adlb_unit.specs.declared.names.UnitId.{UnitId}
use Rattle.bag_ledger.specs.declared.entries.Entry.{Entry}
use Rattle.bag_ledger.specs.declared.entries.Said.{Said}
use Rattle.bag_ledger.specs.declared.states.RankState.{RankState}
use Rattle.bag_ledger.specs.Bag.{Bag, rank_at, has_due}
use Rattle.bag_ledger.specs.Runs.{calls_from, said_by, says}
use Rattle.bag_ledger.specs.Steps.{LegalWhere, StepsWhere, after, change_at, is_freeing, with_rank}

-- `Some` of two values is equal only if the values are
pub some_is : {X : Type 0} {x y : X} → Some x ≡ Some y → x ≡ y
some_is e = cc

-- ids of units that pass the test are equal
pub same_unit_is : (a b : UnitId) → same_unit a b ≡ true → a ≡ b
same_unit_is a b e =
    let s = and_parts (a.rank.0 == b.rank.0) (a.number == b.number) e in
    let ranks : a.rank.0 ≡ b.rank.0 = eqb-true a.rank.0 b.rank.0 s.0 in
    let numbers : a.number ≡ b.number = eqb-true a.number b.number s.1 in
    rw (← ranks, ← numbers) refl

-- an element that is changed is found changed
pub changed_at : {X : Type 0} (f : X → X) (xs : List X) (n : ℕ) (x : X) → slice_get xs n ≡ Some x
    → slice_get (change_at f n xs) n ≡ Some (f x)
changed_at f [] n x e = absurd (cc)
changed_at f (y ∷ xs) zero x e = let is : y ≡ x = some_is e in ap (λ z. Some (f z)) is
changed_at f (y ∷ xs) (suc n) x e = changed_at f xs n x e

-- a rank that is changed is found changed
pub rank_changed : (b : Bag) (rank : Rank) (f : RankState → RankState) (r : RankState) → rank_at b rank ≡ Some r
    → rank_at (with_rank rank f b) rank ≡ Some (f r)
rank_changed b rank f r e = changed_at f b.ranks rank.0 r e

-- What is asked where exhaustion is found concerns no entry of a rank.

same_number : (n : ℕ) → (n == n) ≡ true
same_number n = eq-eqb n n refl

said_once : (rank : Rank) (s : Said) → said_by rank (Some (rank, s)) ≡ s ∷ []
said_once rank s = rw (same_number rank.0) refl

module _ (found : Bag → Bool) where
  -- where no part is due a legal entry is a step
  pub step_of : (b : Bag) (e : Entry) → IsFalse (has_due b) → LegalWhere found b e → StepsWhere found b e (after b e)
  step_of b e none legal = (at (is_freeing e), legal, refl)
    where
      at : (t : Bool) → IsTrue (t || not (has_due b))
      at true = refl
      at false = rw none refl

  calls_more : (b next : Bag) (e : Entry) (es : List Entry) (rank : Rank) → StepsWhere found b e next
      → calls_from b (e ∷ es) rank ≡ said_by rank (says b e) ++ calls_from next es rank
  calls_more b next e es rank s = ap (λ n. said_by rank (says b e) ++ calls_from n es rank) (sym s.2)

  -- one entry that ends no call
  pub silent : (b next : Bag) (e : Entry) (rank : Rank) → StepsWhere found b e next → says b e ≡ None → calls_from b (e ∷ []) rank ≡ []
  silent b next e rank s none = calls_more b next e [] rank s ∙ ap (λ o. said_by rank o ++ []) none

  -- one entry that ends a call of the rank
  pub saying : (b next : Bag) (e : Entry) (rank : Rank) (said : Said) → StepsWhere found b e next → says b e ≡ Some (rank, said)
      → calls_from b (e ∷ []) rank ≡ said ∷ []
  saying b next e rank said s is =
      calls_more b next e [] rank s ∙ ap (λ o. said_by rank o ++ []) is ∙ append-nil (said_by rank (Some (rank, said)))
      ∙ said_once rank said

  -- an entry that ends no call, and one that ends a call of the rank
  pub then_saying : (b next last : Bag) (e f : Entry) (rank : Rank) (said : Said) → StepsWhere found b e next → StepsWhere found next f last
      → says b e ≡ None → says next f ≡ Some (rank, said) → calls_from b (e ∷ f ∷ []) rank ≡ said ∷ []
  then_saying b next last e f rank said s t none is =
      calls_more b next e (f ∷ []) rank s ∙ ap (λ o. said_by rank o ++ calls_from next (f ∷ []) rank) none
      ∙ saying next last f rank said t is
