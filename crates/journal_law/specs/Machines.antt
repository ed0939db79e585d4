-- Actors that send letters, whatever their protocol, and a world of them.
use Rattle.std.specs.Prelude.{◌≡◌, ◌<◌, ℕ, ◌==◌, List, [], ◌++◌, Option, cond, option_to_list}
use Rattle.journal_law.specs.Orders.{of_actor}

-- what a protocol says of its actors and their events
pub record Machine (State Letter Event : Type 0) : Type 1 where
  -- the actors are the numbers below this one
  pub actors : ℕ
  pub stamp : Event → ℕ
  -- the letter that an event got, and of whom; a call has none
  pub cause : Event → Option (ℕ × Letter)
  -- what an event sent, in order, and to whom
  pub sends : Event → List (ℕ × Letter)
  -- the stamp that a letter bears
  pub letter_stamp : Letter → ℕ
  pub start : ℕ → State
  -- the actor may do this event in this state, and is in that state then
  pub Steps : ℕ → State → Event → State → Type 0

module _ {S L E : Type 0} (m : Machine S L E) where
  -- the letters that an event of actor a takes off the link from one actor to another, and those that it adds
  abbrev pub taken : ℕ → E → ℕ → ℕ → List L
  taken a e from to = cond (a == to) (of_actor from (option_to_list (m.cause e))) []

  -- what an event adds to a link
  abbrev pub added : ℕ → E → ℕ → ℕ → List L
  added a e from to = cond (a == from) (of_actor to (m.sends e)) []

  -- each letter that the event takes is at the front of its link
  abbrev pub AreInFront : ℕ → E → (ℕ → ℕ → List L) → Type 0
  AreInFront a e link = (from to : ℕ) → from < m.actors → to < m.actors → (rest : List L) × (link from to ≡ taken a e from to ++ rest)

  -- one event in a world: the actor steps, the others stay, the front letter is taken off, and the sends are appended
  pub record IsEvent (a : ℕ) (e : E) (state : ℕ → S) (link : ℕ → ℕ → List L) (state' : ℕ → S) (link' : ℕ → ℕ → List L) : Type 0 where
    pub steps : m.Steps a (state a) e (state' a)
    pub others : (b : ℕ) → (b ≡ a → ⊥) → state' b ≡ state b
    pub links : (from to : ℕ) → from < m.actors → to < m.actors
        → (rest : List L) × (link from to ≡ taken a e from to ++ rest) × (link' from to ≡ rest ++ added a e from to)

-- a kind of world: what it holds, and what it calls one event
pub record World (State Letter Event W : Type 0) : Type 1 where
  pub state : W → ℕ → State
  pub link : W → ℕ → ℕ → List Letter
  pub IsGood : W → Type 0
  pub Happens : W → ℕ → Event → W → Type 0

-- an event that may happen has a next world
abbrev pub GoesOn : {S L E W : Type 0} → Machine S L E → World S L E W → Type 0
GoesOn {S} {L} {E} {W} m world =
    (w : W) (a : ℕ) (e : E) (t : S) → a < m.actors → world.IsGood w → m.Steps a (world.state w a) e t → AreInFront m a e (world.link w)
    → (v : W) × world.Happens w a e v × world.IsGood v × IsEvent m a e (world.state w) (world.link w) (world.state v) (world.link v)
    × (world.state v a ≡ t)
