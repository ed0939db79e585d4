-- Events of several actors in one order.
use Rattle.std.specs.Prelude.{◌≡◌, ℕ, ◌<◌, ◌⊎◌, ◌==◌, List, [], ◌∷◌, cond}
use Rattle.std.specs.List.{AllByRecursion as Each}

-- what belongs to one actor, in order
abbrev pub of_actor : {X : Type 0} → ℕ → List (ℕ × X) → List X
of_actor a [] = []
of_actor a (x ∷ xs) = cond (x.0 == a) (x.1 ∷ of_actor a xs) (of_actor a xs)

module _ {E : Type 0} (stamp : E → ℕ) where
  -- the stamps rise
  abbrev pub Rises : List E → Type 0
  Rises [] = Unit {0}
  Rises (e ∷ es) = Each (λ d. stamp e < stamp d) es × Rises es

  -- by stamp, and among equal stamps by actor
  abbrev pub IsBefore : ℕ × E → ℕ × E → Type 0
  IsBefore x y = (stamp x.1 < stamp y.1) ⊎ ((stamp x.1 ≡ stamp y.1) × (x.0 < y.0))

  -- each event is before all later ones
  abbrev pub IsInOrder : List (ℕ × E) → Type 0
  IsInOrder [] = Unit {0}
  IsInOrder (x ∷ xs) = Each (IsBefore x) xs × IsInOrder xs

  -- the journals of the actors below n in one list, by stamp and then by actor: each actor's events in it are its journal
  pub record IsMerged (n : ℕ) (journal : ℕ → List E) (events : List (ℕ × E)) : Type 0 where
    pub within : Each (λ x. x.0 < n) events
    pub each : (a : ℕ) → a < n → of_actor a events ≡ journal a
    pub in_order : IsInOrder events
