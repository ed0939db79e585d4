-- What a step comes to if a unit was granted, and if none was.
use Rattle.std.proofs.Common.{◌≡◌, ℕ, Option, None, Some, List, [], ◌∷◌, get_or, refl, ap, sym, ◌∙◌}
use Rattle.std.specs.Prelude.{slice_get}
use Rattle.std.specs.List.{position}
use Rattle.std.specs.Option.{option_map}
use Rattle.std.proofs.lemmas.Option.{get_or_from_slice_get}
use Rattle.adlb_unit.specs.declared.names.Rank.{Rank}
use Rattle.adlb_unit.specs.declared.names.Server.{Server}
use Rattle.adlb_unit.specs.declared.notes.UnitNote.{UnitNote}
use Rattle.work_queue.specs.Queue.{Queue}
use Rattle.work_queue.specs.declared.placing.Placed.{Placed}
use Rattle.server_components.specs.Calls.{after_none, gone, step_for, step_of}
use Rattle.server_components.specs.Grants.{best_for, note_of}
use Rattle.server_components.specs.Parked.{ParkedModel, entry_of, is_of}
use Rattle.server_components.specs.declared.waits.Waiting.{Waiting}
use Rattle.server_components.proofs.Places.{found_at}
use Rattle.server_components.specs.declared.steps.ReserveStep.TheVariants as comes_to

some_same : {X : Type 0} (x y : X) → Some x ≡ Some y → x ≡ y
some_same x y same = cc (same)

-- if a unit is granted, the step is the grant
pub some_step : (me : Server) (o : Option Placed) (servers : List Server) (note : UnitNote)
    → Some note ≡ option_map (λ p. note_of me p.unit) o
    → comes_to.Granted note ≡ step_for me o servers
some_step me None servers note is = absurd (cc (is))
some_step me (Some p) servers note is = ap (λ n. comes_to.Granted n) (some_same note (note_of me p.unit) is)

-- if a unit is granted, the rank waits no longer
pub some_gone : (me : Server) (m : ParkedModel) (rank : Rank) (o : Option Placed) (note : UnitNote)
    → Some note ≡ option_map (λ p. note_of me p.unit) o → gone m rank ≡ after_none m rank o
some_gone me m rank None note is = absurd (cc (is))
some_gone me m rank (Some p) note is = refl

-- if no note is made, no unit was granted
pub none_granted : (me : Server) (o : Option Placed) → None ≡ option_map (λ p. note_of me p.unit) o → o ≡ None
none_granted me None is = refl
none_granted me (Some p) is = absurd (cc (is))

-- The rank that was found at a place is the one that is named.

-- the entry that is read is the rank's
pub one_now : (m : ParkedModel) (rank : Rank) (n : ℕ) (read e : Waiting) → position (is_of rank) m.parked.waiting ≡ Some n
    → slice_get m.parked.waiting n ≡ Some read → entry_of m rank ≡ Some e → read ≡ e
one_now m rank n read e there is found =
    sym (get_or_from_slice_get m.parked.waiting n read read is)
    ∙ some_same (get_or m.parked.waiting n read) e (sym (found_at (is_of rank) m.parked.waiting n read there) ∙ found)

-- so what was granted is what is said of it
pub note_now : (i m : ParkedModel) → i ≡ m → (q : Queue) (rank : Rank) (read e : Waiting) → read ≡ e → (given : Option UnitNote)
    → given ≡ option_map (λ p. note_of i.me p.unit) (best_for q rank read.wish.types)
    → given ≡ option_map (λ p. note_of m.me p.unit) (best_for q rank e.wish.types)
note_now i m view q rank read e same given is =
    is ∙ ap (λ (x : ParkedModel). option_map (λ (p : Placed). note_of x.me p.unit) (best_for q rank read.wish.types)) view
    ∙ ap (λ (x : Waiting). option_map (λ (p : Placed). note_of m.me p.unit) (best_for q rank x.wish.types)) same

-- the entry that is read at its place is the rank's
pub read_one : (m : ParkedModel) (rank : Rank) (n : ℕ) (e : Waiting) → position (is_of rank) m.parked.waiting ≡ Some n
    → entry_of m rank ≡ Some e
    → get_or m.parked.waiting n e ≡ e
read_one m rank n e there found =
    some_same (get_or m.parked.waiting n e) e (sym (found_at (is_of rank) m.parked.waiting n e there) ∙ found)

-- What is asked comes first among those to be asked; the rank is idle if none is left.

-- a step that asks a server asks the first
pub asks_first : (o : Option Server) (s : Server) → step_of o ≡ comes_to.Ask s → o ≡ Some s
asks_first None s is = absurd (cc (is))
asks_first (Some t) s is = let same : t ≡ s = cc (is) in ap (λ (u : Server). Some u) same

-- a step that asks nobody has no server to ask
pub idle_none : (o : Option Server) → step_of o ≡ comes_to.Idle → o ≡ None
idle_none None is = refl
idle_none (Some t) is = absurd (cc (is))

-- a list without a first server is empty
pub none_first : (servers : List Server) → slice_get servers 0 ≡ None → servers ≡ []
none_first [] is = refl
none_first (s ∷ servers) is = absurd (cc (is))

-- without servers to ask nobody is asked
pub first_of_none : (servers : List Server) → servers ≡ [] → step_of (slice_get servers 0) ≡ comes_to.Idle
first_of_none servers none = rw none refl
