-- Runs of a world.
use Rattle.std.specs.Prelude.{◌≡◌, ◌<◌, ℕ, List, [], ◌∷◌, ◌++◌}
use Rattle.journal_law.specs.Journals.{sent, got}
use Rattle.journal_law.specs.Machines.{Machine, World}

module _ {S L E W : Type 0} (m : Machine S L E) (world : World S L E W) where
  -- these events, one after another, lead from one world to another
  abbrev pub Runs : W → List (ℕ × E) → W → Type 0
  Runs w [] v = w ≡ v
  Runs w (x ∷ xs) v = (next : W) × world.Happens w x.0 x.1 next × Runs next xs v

  -- at the start each actor is in its first state and no letter is under way
  pub record IsStart (w : W) : Type 0 where
    pub good : world.IsGood w
    pub state : (a : ℕ) → a < m.actors → world.state w a ≡ m.start a
    pub link : (from to : ℕ) → from < m.actors → to < m.actors → world.link w from to ≡ []

  -- The events are a run from this world, after which each actor is in its final state. Of each link those letters are then under way that
  -- were sent and not got.
  pub record HasRun (w : W) (events : List (ℕ × E)) (journal : ℕ → List E) (final : ℕ → S) : Type 0 where
    pub last : W
    pub runs : Runs w events last
    pub good : world.IsGood last
    pub state : (a : ℕ) → a < m.actors → world.state last a ≡ final a
    pub link : (from to : ℕ) → from < m.actors → to < m.actors
        → sent m to (journal from) ≡ got m from (journal to) ++ world.link last from to
