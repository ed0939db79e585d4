-- Facts of letters, list by list.
use Rattle.std.specs.Prelude.{◌≡◌, true, List, [], ◌∷◌}
use Rattle.adlb_unit.specs.Links.{is_within, place_of}
use Rattle.adlb_unit.specs.declared.actors.Actor.{Actor}
use Rattle.adlb_unit.specs.declared.configs.Config.{Config}
use Rattle.adlb_unit.specs.declared.letters.Letter.{Letter}
use Rattle.core_run.specs.World.{Links, link}

-- each element of the list has the property
abbrev pub Each : {X : Type 0} → (X → Type 0) → List X → Type 0
Each P [] = Unit {0}
Each P (x ∷ xs) = P x × Each P xs

-- of each letter under way, with the actors between which it is
pub record OnLinks (P : Actor → Actor → Letter → Type 0) (config : Config) (links : Links) : Type 0 where
  pub each : (from to : Actor) → is_within config from ≡ true → is_within config to ≡ true
      → Each (P from to) (link links (place_of config from) (place_of config to))
