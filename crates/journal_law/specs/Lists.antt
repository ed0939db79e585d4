-- A world of lists: one state for each actor, and one list of letters for each link.
use Rattle.std.specs.Prelude.{◌≡◌, ℕ, ◌<◌, List, [], ◌∷◌, ◌++◌, length, drop, slice_index_or, slice_set, Option, Some, None, option_to_list}
use Rattle.std.specs.List.{AllByRecursion as Each}
use Rattle.journal_law.specs.Machines.{Machine, World, AreInFront}

-- the states of actors, and the letters of links
pub record Lists (S L : Type 0) : Type 0 where
  pub states : List S
  -- by sender, and then by receiver
  pub links : List (List (List L))

module _ {L : Type 0} where
  -- the letters of a link
  abbrev pub link_of : List (List (List L)) → ℕ → ℕ → List L
  link_of links from to = slice_index_or (slice_index_or links from []) to []

  -- the links with one replaced
  abbrev pub set_link : List (List (List L)) → ℕ → ℕ → List L → List (List (List L))
  set_link links from to letters = slice_set links from (slice_set (slice_index_or links from []) to letters)

  -- the front letter of the link from this actor to a is taken off
  abbrev pub take_front : ℕ → Option (ℕ × L) → List (List (List L)) → List (List (List L))
  take_front a None links = links
  take_front a (Some x) links = set_link links x.0 a (drop 1 (link_of links x.0 a))

  -- actor a sends these letters
  abbrev pub send_all : ℕ → List (ℕ × L) → List (List (List L)) → List (List (List L))
  send_all a [] links = links
  send_all a (x ∷ xs) links = send_all a xs (set_link links a x.0 (link_of links a x.0 ++ x.1 ∷ []))

-- there are n actors, with a link from each to each
pub record IsShaped {S L : Type 0} (n : ℕ) (w : Lists S L) : Type 0 where
  pub states : length w.states ≡ n
  pub links : length w.links ≡ n
  pub rows : (a : ℕ) → a < n → length (slice_index_or w.links a []) ≡ n

module _ {S L E : Type 0} (m : Machine S L E) (first : S) where
  -- the state of an actor
  abbrev pub state_of : Lists S L → ℕ → S
  state_of w a = slice_index_or w.states a first

  -- the world after an event that leaves its actor in state t
  abbrev pub after : Lists S L → ℕ → E → S → Lists S L
  after w a e t = record { states = slice_set w.states a t; links = send_all a (m.sends e) (take_front a (m.cause e) w.links) }

  -- the actor may do the event, and the letter that it got is the front of its link
  pub record Happens (w : Lists S L) (a : ℕ) (e : E) (v : Lists S L) : Type 0 where
    pub among : a < m.actors
    pub steps : m.Steps a (state_of w a) e (state_of v a)
    pub fronts : AreInFront m a e (link_of w.links)
    pub is : v ≡ after w a e (state_of v a)

  -- such a world; the state `first` is read where there is no actor
  abbrev pub lists : World S L E (Lists S L)
  lists = record {
    state = state_of;
    link = λ w. link_of w.links;
    IsGood = IsShaped m.actors;
    Happens = Happens;
  }

  -- what is got is of one of the actors
  abbrev pub GotOfActors : Type 0
  GotOfActors = (a : ℕ) (s : S) (e : E) (t : S) → m.Steps a s e t → Each (λ x. x.0 < m.actors) (option_to_list (m.cause e))
