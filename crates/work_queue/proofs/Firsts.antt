-- The best of a list comes first among the units that are offered.
use Rattle.std.proofs.Common.{◌≡◌, ◌<◌, ℕ, List, [], ◌∷◌, Option, Some, None, Any, fold, refl, sym, ap, ◌∙◌, subst}
use Rattle.adlb_unit.specs.declared.names.Rank.{Rank}
use Rattle.adlb_unit.specs.declared.names.WorkType.{WorkType}
use Rattle.adlb_unit.specs.Permit.{class_for}
use Rattle.work_queue.proofs.Leading.{Found, IsOrder, IsPick, Leads, found_all, none_may, some_may}
use Rattle.work_queue.proofs.Offers.{is_offered, offered_is, passes_all, passes_is, passes_one, stays_first}
use Rattle.work_queue.specs.Best.{IsBest, IsOffered, Precedes, beats, best_from, offered, pick, rating}
use Rattle.work_queue.specs.declared.placing.Placed.{Placed}
use Rattle.work_queue.specs.declared.rating.Rated.{Rated}

best_is_fold : (rank : Rank) (types : Option (List WorkType)) (found : Option Rated) (units : List Placed)
    → best_from rank types found units ≡ fold (pick rank types) found units
best_is_fold rank types found [] = refl
best_is_fold rank types found (p ∷ units) = best_is_fold rank types (pick rank types found p) units

module _ (rank : Rank) (types : Option (List WorkType)) where
  abbrev class : Placed → ℕ
  class p = class_for rank p.unit.target

  by_rating : IsOrder (rating rank) beats (Precedes rank)
  by_rating = record {
    stays = λ i j u y before test. stays_first (class u) (class y) u.unit.prio y.unit.prio (i < j) before test;
    passes =
        λ i j u y before test. passes_one (class u) (class y) u.unit.prio y.unit.prio (j < i)
        (passes_is (class u) (class y) u.unit.prio y.unit.prio test);
    passes_all =
        λ i j k u y q before test first. passes_all (class u) (class y) (class q) u.unit.prio y.unit.prio q.unit.prio (i < k) (j < k)
        (passes_is (class u) (class y) u.unit.prio y.unit.prio test) first;
  }

  picks : IsPick (offered rank types) (rating rank) beats (pick rank types)
  picks = record { at_none = λ p. refl; at_some = λ r p. refl }

  leads_is_best : (units : List Placed) (r : Rated) → Leads (offered rank types) (rating rank) beats (Precedes rank) (pick rank types)
      by_rating picks units r → IsBest rank types units r.id
  leads_is_best units r leads = record {
    place = leads.place;
    unit = leads.unit;
    here = leads.here;
    has_id = ap (λ x. x.id) leads.rated;
    is_offered = offered_is rank types leads.unit leads.is;
    is_first = λ other q at differs may. leads.is_first other q at differs (is_offered rank types q may);
  }

  found_so : (units : List Placed) (found : Option Rated) → found ≡ best_from rank types None units
      → Found (offered rank types) (rating rank) beats (Precedes rank) (pick rank types) by_rating picks units found
  found_so units found same =
      let F : Option Rated → Type 0 =
      λ o. Found (offered rank types) (rating rank) beats (Precedes rank) (pick rank types) by_rating picks units o in
      subst F (sym (same ∙ best_is_fold rank types None units))
      (found_all (offered rank types) (rating rank) beats (Precedes rank) (pick rank types) by_rating picks units)

  -- the fold gives the best
  pub best_is : (units : List Placed) (r : Rated) → Some r ≡ best_from rank types None units → IsBest rank types units r.id
  best_is units r same = leads_is_best units r (found_so units (Some r) same)

  -- if the walk ends with a best, some unit is offered
  pub some_offered : (units : List Placed) (r : Rated) → Some r ≡ best_from rank types None units → Any (IsOffered rank types) units
  some_offered units r same =
      let some = some_may (offered rank types) (rating rank) beats (Precedes rank) (pick rank types) by_rating picks units r
      (found_so units (Some r) same) in
      (some.0, some.1, some.2, some.3, offered_is rank types some.1 some.4)

  -- if the walk ends with no best, no unit of the list is offered
  pub none_offered : (units : List Placed) → None ≡ best_from rank types None units → Any (IsOffered rank types) units → ⊥
  none_offered units same some = none_may (offered rank types) (rating rank) beats (Precedes rank) (pick rank types) by_rating picks units
      (found_so units None same) (some.0, some.1, some.2, some.3, is_offered rank types some.1 some.4)
