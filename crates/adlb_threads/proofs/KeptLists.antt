-- What the desks kept is what is kept of their journals.
use Rattle.std.proofs.Common.{◌≡◌, ◌≤◌, ℕ, zero, suc, List, [], ◌∷◌, length, map, take, refl, ap, sym, ◌∙◌, arith}
use Rattle.std.specs.List.{zip}
use Rattle.adlb_unit.specs.declared.actors.Actor.{Actor}
use Rattle.adlb_unit.specs.declared.configs.Config.{Config}
use Rattle.actor_desk.specs.Desks.{DeskModel}
use Rattle.thread_actors.specs.World.{actors}
use Rattle.merge_history.specs.Events.{OfActor}
use Rattle.merge_history.specs.Kept.{kept_of}
use Rattle.merge_history.specs.Merging.{actors_of}
use Rattle.packed_ledger.specs.declared.stamped.Stamped.{Stamped}
use Rattle.adlb_threads.specs.inside.{AreClear, journals_at, of_events}
use Rattle.adlb_threads.proofs.Journals.{actors_long}

pub map_take : {A B : Type 0} (f : A → B) (n : ℕ) (xs : List A) → map f (take n xs) ≡ take n (map f xs)
map_take f zero xs = refl
map_take f (suc n) [] = refl
map_take f (suc n) (x ∷ xs) = ap (λ l. f x ∷ l) (map_take f n xs)

of_journals : (whose : List Actor) (desks : List DeskModel) → length whose ≤ length desks
    → take (length whose) (map (λ (d : DeskModel). kept_of d.events) desks)
    ≡ map (λ (j : OfActor). kept_of j.events) (map of_events (zip whose (map (λ (d : DeskModel). d.events) desks)))
of_journals [] desks long = refl
of_journals (a ∷ whose) [] long = absurd (omega (arith, long))
of_journals (a ∷ whose) (d ∷ desks) long = ap (λ l. kept_of d.events ∷ l) (of_journals whose desks (omega (arith, long)))

module _ (config : Config) (desks : List DeskModel) (clear : AreClear config desks) (all : List (List Stamped))
    (are : all ≡ map (λ (d : DeskModel). kept_of d.events) desks) where
  pub lists_are : take (actors config) all ≡ map (λ (j : OfActor). kept_of j.events) (journals_at config desks)
  lists_are =
      ap (take (actors config)) are ∙ ap (λ n. take n (map (λ (d : DeskModel). kept_of d.events) desks)) (sym (actors_long config))
      ∙ of_journals (actors_of config) desks (omega (arith, actors_long config, clear.all))
