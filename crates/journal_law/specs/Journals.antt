-- Journals: each actor's own run, and when they compose.
use Rattle.std.specs.Prelude.{◌≡◌, ℕ, ◌<◌, List, [], ◌∷◌, ◌++◌, option_to_list}
use Rattle.std.specs.List.{AllByRecursion as Each}
use mathlib.Core.List.{IsPrefix}
use Rattle.journal_law.specs.Orders.{of_actor, Rises}
use Rattle.journal_law.specs.Machines.{Machine}

module _ {S L E : Type 0} (m : Machine S L E) where
  -- the letters that these events sent to one actor, and those that they got of one
  abbrev pub sent : ℕ → List E → List L
  sent to [] = []
  sent to (e ∷ es) = of_actor to (m.sends e) ++ sent to es

  -- what a journal got from an actor
  abbrev pub got : ℕ → List E → List L
  got from [] = []
  got from (e ∷ es) = of_actor from (option_to_list (m.cause e)) ++ got from es

  -- these events, one after another, lead the actor from one state to another
  abbrev pub Walks : ℕ → S → List E → S → Type 0
  Walks a s [] t = s ≡ t
  Walks a s (e ∷ es) t = (next : S) × m.Steps a s e next × Walks a next es t

  -- what is sent bears the event's stamp, and what is got a lower one
  pub record IsStamped (e : E) : Type 0 where
    pub bears : Each (λ x. m.letter_stamp x.1 ≡ m.stamp e) (m.sends e)
    pub above : Each (λ x. m.letter_stamp x.1 < m.stamp e) (option_to_list (m.cause e))

  -- a journal is its actor's own run, from its start to this state, with rising stamps
  pub record IsOwnRun (a : ℕ) (journal : List E) (final : S) : Type 0 where
    pub walks : Walks a (m.start a) journal final
    pub rises : Rises m.stamp journal
    pub stamped : Each IsStamped journal

  -- each journal is its actor's own run, and what was got on a link is a prefix of what was sent there
  pub record Compose (journal : ℕ → List E) (final : ℕ → S) : Type 0 where
    pub own : (a : ℕ) → a < m.actors → IsOwnRun a (journal a) (final a)
    pub links : (from to : ℕ) → from < m.actors → to < m.actors → IsPrefix (got from (journal to)) (sent to (journal from))
