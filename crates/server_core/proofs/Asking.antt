-- A rank that waits, and what follows for it: whether another server is asked.
use Rattle.std.proofs.Common.{◌≡◌, Bool, true, false, List, [], ◌∷◌, ◌++◌, find, Option, None, Some, refl, sym, ap, ◌∙◌}
use Rattle.std.specs.Prelude.{is_some}
use Rattle.std.specs.List.{list_any}
use Rattle.std.specs.Option.{option_map}
use Rattle.std.proofs.lemmas.Bool.{eq-eqb}
use Rattle.adlb_unit.specs.declared.names.Rank.{Rank}
use Rattle.adlb_unit.specs.declared.names.Server.{Server}
use Rattle.adlb_unit.specs.declared.notes.End.{End}
use Rattle.bag_ledger.proofs.Tests.{some_is}
use Rattle.work_queue.specs.declared.placing.Placed.{Placed}
use Rattle.work_queue.proofs.Searched.{find_none}
use Rattle.server_components.specs.Parked.{entry_of, is_of}
use Rattle.server_components.specs.declared.waits.Waiting.{Waiting}
use Rattle.server_components.specs.declared.wishes.Wish.{Wish}
use Rattle.server_law.specs.Acts.{Around, Tells}
use Rattle.server_law.specs.Finding.{place_in}
use Rattle.server_law.specs.State.{ServerModel, is_waiting}
use Rattle.server_law.specs.Waits.{ask_at, ask_next, asks_on, look_again}
use Rattle.server_law.proofs.Places.{found_there, nothing_there}
use Rattle.server_law.proofs.Tests.{found_any}
use Rattle.server_core.specs.inside.{parked_of}
use Rattle.server_core.specs.Waits.{over_by, with_parked}
use Rattle.server_core.proofs.Alone.{NonePasses, find_there}

-- none passes where the test of the list fails
pub none_pass : (test : Waiting → Bool) (waiting : List Waiting) → list_any test waiting ≡ false → NonePasses test waiting
none_pass test waiting fails = find_none test waiting (by_found (find test waiting) (found_any test waiting ∙ fails))
  where
    by_found : (o : Option Waiting) → is_some o ≡ false → o ≡ None
    by_found None none = refl
    by_found (Some e) none = absurd (cc)

-- of a rank that does not wait nobody is asked
pub asks_gone : (rank : Rank) (s : ServerModel) → NonePasses (is_of rank) s.kept.parked.waiting → asks_on rank s ≡ []
asks_gone rank s none = ap ask_at (nothing_there (is_of rank) s.kept.parked.waiting none)

-- the server at which these wait
abbrev pub at_waiting : ServerModel → List Waiting → ServerModel
at_waiting s waiting = with_parked s s.kept.queue (record { waiting = waiting; wishes = s.kept.parked.wishes })

-- one rank among those that wait
module _ (before : List Waiting) (e : Waiting) (behind : List Waiting) (none : NonePasses (is_of e.wish.rank) before) where
  own : is_of e.wish.rank e ≡ true
  own = eq-eqb e.wish.rank.0 e.wish.rank.0 refl

  -- asking for the rank that waits is asking for its entry
  pub asks_here : (s : ServerModel) → s.kept.parked.waiting ≡ before ++ e ∷ behind
      → asks_on e.wish.rank s ≡ ask_next (record { before = before; behind = behind }) e.wish e.asked e.to_ask
  asks_here s stands =
      ap (λ l. ask_at (place_in (is_of e.wish.rank) l)) stands ∙ ap ask_at (found_there (is_of e.wish.rank) before e behind none own)

  -- the entry of the rank that waits is found
  pub waits_here : (s : ServerModel) → s.kept.parked.waiting ≡ before ++ e ∷ behind → entry_of (parked_of s) e.wish.rank ≡ Some e
  waits_here s stands = ap (find (is_of e.wish.rank)) stands ∙ find_there (is_of e.wish.rank) before e behind none own

-- a rank of which something is told waits
pub waits_by : (s : ServerModel) (rank : Rank) (e : Waiting) → entry_of (parked_of s) rank ≡ Some e → is_waiting s.kept rank ≡ true
waits_by s rank e found = sym (found_any (is_of rank) s.kept.parked.waiting) ∙ ap (λ (o : Option Waiting). is_some o) found

-- a rank that waits has an entry
pub wants_nothing : {X : Type 0} (f : Waiting → X) (s : ServerModel) (rank : Rank) → None ≡ option_map f (entry_of (parked_of s) rank)
    → is_waiting s.kept rank ≡ true → ⊥
wants_nothing f s rank none waits =
    by_found (entry_of (parked_of s) rank) none (found_any (is_of rank) s.kept.parked.waiting ∙ waits)
  where
    by_found : (o : Option Waiting) → None ≡ option_map f o → is_some o ≡ true → ⊥
    by_found None none some = absurd (cc)
    by_found (Some e) none some = absurd (cc)

-- What is looked at again, where calls are over, and where they are not.

module _ (best : Option Placed) (at : Around) (wish : Wish) (rest : List Server) where
  -- a second look where calls are over tells the rank its end
  pub looks_over : (done exhausted : Bool) (end : End) → over_by done exhausted ≡ Some end
      → look_again done exhausted best at wish rest ≡ Tells at wish rest end ∷ []
  looks_over true exhausted end is = ap (λ e. Tells at wish rest e ∷ []) (some_is is)
  looks_over false true end is = ap (λ e. Tells at wish rest e ∷ []) (some_is is)
  looks_over false false end is = absurd (cc)

  -- a second look where calls go on is one in a server at which they do
  pub looks_on : (done exhausted : Bool) → over_by done exhausted ≡ None
      → look_again done exhausted best at wish rest ≡ look_again false false best at wish rest
  looks_on true exhausted is = absurd (cc)
  looks_on false true is = absurd (cc)
  looks_on false false is = refl
