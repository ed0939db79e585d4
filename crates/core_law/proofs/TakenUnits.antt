-- What the bag says of the units that a rank has taken, and of those that its notes name.
use Rattle.std.proofs.Common.{◌≡◌, ◌⊎◌, inl, inr, Bool, true, false, ◌||◌, List, [], ◌∷◌, ◌++◌, get_or, Option, Some, refl, sym, ap, ◌∙◌}
use Rattle.std.proofs.Common.{subst, find}
use Rattle.std.specs.Prelude.{All, Contains}
use Rattle.std.proofs.lemmas.List.Elements.{All-contains, All-head, All-tail, All-weaker}
use Rattle.adlb_unit.specs.declared.names.Rank.{Rank}
use Rattle.adlb_unit.specs.declared.names.UnitId.{UnitId}
use Rattle.adlb_unit.specs.declared.notes.UnitNote.{UnitNote}
use Rattle.adlb_unit.specs.Ids.{same_unit}
use Rattle.adlb_unit.proofs.Same.{same_unit_is}
use Rattle.bag_ledger.specs.declared.entries.Answer.{Answer}
use Rattle.bag_ledger.specs.declared.entries.Answer.TheVariants as answers
use Rattle.bag_ledger.specs.declared.entries.Call.{Call}
use Rattle.bag_ledger.specs.declared.entries.Call.TheVariants as calls_to
use Rattle.bag_ledger.specs.declared.entries.Said.{Said}
use Rattle.bag_ledger.specs.declared.states.Placed.{Placed}
use Rattle.bag_ledger.specs.declared.states.UnitPlace.{UnitPlace}
use Rattle.bag_ledger.specs.declared.states.UnitPlace.TheVariants.{Pinned, Spent}
use Rattle.bag_ledger.specs.Bag.{Bag, is_free, unit_of}
use Rattle.bag_ledger.specs.Runs.{note_of}
use Rattle.bag_ledger.specs.Steps.{moved}
use Rattle.bag_ledger.proofs.Lookups.{find_before}
use Rattle.bag_ledger.proofs.Moves.{moved_keeps}
use Rattle.bag_law.specs.Calls.{IsTrueAnswer, IsTrueCall, IsTrueSaid}
use Rattle.core_law.specs.Lawful.{IsFact}
use Rattle.rank_client.specs.Calls.{fetches, grants, is_fetched, is_granted}

-- the unit was accepted, and is not free
abbrev pub IsGone : Bag → UnitId → Type 0
IsGone b id = (u : Placed) × (unit_of b id ≡ Some u) × (is_free u.place ≡ false)

-- The bag changes.

-- what notes say depends on the units alone
pub facts_same : (b c : Bag) (notes : List UnitNote) → c.units ≡ b.units → All (IsFact b) notes → All (IsFact c) notes
facts_same b c notes same all =
    let find_in : UnitId → List Placed → Option Placed = λ id units. find (λ (u : Placed). same_unit u.unit.id id) units in
    All-weaker (IsFact b) (IsFact c) (λ note f. (f.0, ap (find_in note.id) same ∙ f.1, f.2)) notes all

-- what notes say stays so where a unit comes
pub facts_added : (b : Bag) (u : Placed) (notes : List UnitNote) → All (IsFact b) notes
    → All (IsFact (record b { units = b.units ++ u ∷ [] })) notes
facts_added b u notes all =
    All-weaker (IsFact b) (IsFact (record b { units = b.units ++ u ∷ [] }))
    (λ note f. (f.0, find_before (λ (v : Placed). same_unit v.unit.id note.id) b.units (u ∷ []) f.0 f.1, f.2)) notes all

fact_moved : (b : Bag) (id : UnitId) (place : UnitPlace) (note : UnitNote) → IsFact b note → IsFact (moved id place b) note
fact_moved b id place note fact =
    let v = moved_keeps b id note.id place fact.0 fact.1 in
    (v.0, v.1, fact.2 ∙ ap (note_of note.server) (sym v.2))

-- what notes say stays so where a unit moves
pub facts_moved : (b : Bag) (id : UnitId) (place : UnitPlace) (notes : List UnitNote) → All (IsFact b) notes
    → All (IsFact (moved id place b)) notes
facts_moved b id place notes all = All-weaker (IsFact b) (IsFact (moved id place b)) (fact_moved b id place) notes all

-- the rank holds no other notes
pub facts_of : (b : Bag) (notes held : List UnitNote) → All (Contains notes) held → All (IsFact b) notes → All (IsFact b) held
facts_of b notes held there all = λ i d within. All-contains (IsFact b) notes (get_or held i d) all (there i d within)

-- What a rank was told is true of the bag, so a unit that it was granted or has fetched is not free.

-- a unit of this id was granted or fetched
abbrev pub is_taken : UnitId → List Said → Bool
is_taken id said = is_granted id said || is_fetched id said

told_gone : (b : Bag) (rank : Rank) (id : UnitId) (answer : Answer) → IsTrueAnswer b rank answer → grants id answer ≡ true → IsGone b id
told_gone b rank id (answers.Granted note) is e = subst (λ (i : UnitId). IsGone b i) (same_unit_is note.id id e) (is.0, is.1, by_place is.3)
  where
    by_place : (is.0.place ≡ Pinned note.server rank) ⊎ (is.0.place ≡ Spent) → is_free is.0.place ≡ false
    by_place (inl at) = rw at refl
    by_place (inr at) = rw at refl
told_gone b rank id _ is e = absurd (cc)

got_gone : (b : Bag) (id : UnitId) (call : Call) → IsTrueCall b call → fetches id call ≡ true → IsGone b id
got_gone b id (calls_to.Fetch fetched) is e = subst (λ (i : UnitId). IsGone b i) (same_unit_is fetched id e) (is.0, is.1, rw is.2 refl)
got_gone b id _ is e = absurd (cc)

parted : (g f a c : Bool) → ((g || a) || (f || c)) ≡ true → (g ≡ true) ⊎ ((f ≡ true) ⊎ ((a || c) ≡ true))
parted true f a c e = inl refl
parted false true a c e = inr (inl refl)
parted false false a c e = inr (inr e)

-- a unit that a rank has taken is spent
pub taken_gone : (b : Bag) (rank : Rank) (id : UnitId) (said : List Said) → All (IsTrueSaid b rank) said → is_taken id said ≡ true
    → IsGone b id
unfolding is_granted is_fetched
taken_gone b rank id [] all e = absurd (cc)
taken_gone b rank id (s ∷ said) all e =
    by_part (taken_gone b rank id said (All-tail (IsTrueSaid b rank) s said all))
    (parted (grants id s.answer) (fetches id s.call) (is_granted id said) (is_fetched id said) e)
  where
    by_part : (is_taken id said ≡ true → IsGone b id)
        → (grants id s.answer ≡ true) ⊎ ((fetches id s.call ≡ true) ⊎ (is_taken id said ≡ true)) → IsGone b id
    by_part before (inl granted) = told_gone b rank id s.answer (All-head (IsTrueSaid b rank) s said all).0 granted
    by_part before (inr (inl fetched)) = got_gone b id s.call (All-head (IsTrueSaid b rank) s said all).1 fetched
    by_part before (inr (inr earlier)) = before earlier
