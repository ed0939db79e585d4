-- The calls of a rank, kind by kind.
use Rattle.std.proofs.Common.{◌≡◌, ℕ, true, false, List, [], ◌∷◌, ◌++◌, Option, Some, None, refl, sym, subst, All}
use Rattle.std.proofs.lemmas.List.Elements.{All-head, All-tail}
use Rattle.adlb_unit.specs.declared.notes.End as told_end
use Rattle.adlb_unit.specs.declared.notes.UnitNote.{UnitNote}
use Rattle.bag_ledger.specs.declared.entries.Answer.TheVariants.{Fine, Rejected, Ended, Granted, Body}
use Rattle.bag_ledger.specs.declared.entries.Call.TheVariants as calls_to
use Rattle.bag_ledger.specs.declared.entries.Said.{Said}
use Rattle.balance_law.specs.Balanced.{IsEndedWell}
use Rattle.work_law.specs.Work.{Arrival, Work, arrival, common_bytes, fetched_unit, put_of}
use Rattle.work_law.specs.Books.{Books, Goes, Moves, Task, Put, Begin, End, accepted, rejected, stopped, begun, refused, stopped_before}
use Rattle.work_law.specs.Books.{closed, closed_behind, granted, told, fetched, bytes_on, brought, going, holding, in_batch, put_all}
use Rattle.work_law.specs.Books.{received, said_of, shut, without_batch}

-- this holds of each kind of call
pub record OfEach {Made : Type 0} (W : Work Made) (P : Books Made → Said → Books Made → Type 0) : Type 0 where
  pub at_accepted : (unit : Made) (rest : List (Task Made)) (on : Option (List ℕ)) (came : List (Arrival Made)) → W.fits unit ≡ true →
      P (going (Put unit ∷ rest) on came) (said_of (put_of W unit) Fine) (going rest on came)
  pub at_rejected : (unit : Made) (rest : List (Task Made)) (on : Option (List ℕ)) (came : List (Arrival Made)) →
      P (going (Put unit ∷ rest) on came) (said_of (put_of W unit) Rejected) (received W (arrival W (bytes_on on) unit) rest on came)
  pub at_stopped : (unit : Made) (rest : List (Task Made)) (on : Option (List ℕ)) (came : List (Arrival Made)) (end : told_end.End) →
      P (going (Put unit ∷ rest) on came) (said_of (put_of W unit) (Ended end)) (shut (Put unit ∷ rest) on came)
  pub at_begun : (common : List ℕ) (units : List Made) (rest : List (Task Made)) (came : List (Arrival Made)) →
      P (going (Begin common units ∷ rest) None came) (said_of (calls_to.BeginBatch common) Fine) (in_batch common units rest came)
  pub at_refused : (common : List ℕ) (units : List Made) (rest : List (Task Made)) (came : List (Arrival Made)) →
      P (going (Begin common units ∷ rest) None came) (said_of (calls_to.BeginBatch common) Rejected)
      (without_batch W common units rest came)
  pub at_stopped_before : (common : List ℕ) (units : List Made) (rest : List (Task Made)) (came : List (Arrival Made))
      (end : told_end.End) →
      P (going (Begin common units ∷ rest) None came) (said_of (calls_to.BeginBatch common) (Ended end))
      (shut (put_all units ++ rest) None came)
  pub at_closed : (common : List ℕ) (rest : List (Task Made)) (came : List (Arrival Made)) →
      P (going (End ∷ rest) (Some common) came) (said_of calls_to.EndBatch Fine) (going rest None came)
  pub at_closed_behind : (common : List ℕ) (rest : List (Task Made)) (came : List (Arrival Made)) →
      P (shut rest (Some common) came) (said_of calls_to.EndBatch Fine) (shut rest None came)
  pub at_granted : (came : List (Arrival Made)) (note : UnitNote) →
      P (going [] None came) (said_of (calls_to.Reserve None) (Granted note)) (holding note came)
  pub at_told : (came : List (Arrival Made)) (end : told_end.End) →
      P (going [] None came) (said_of (calls_to.Reserve None) (Ended end)) (shut [] None came)
  pub at_fetched : (came : List (Arrival Made)) (note : UnitNote) (bytes : List ℕ) →
      P (holding note came) (said_of (calls_to.Fetch note.id) (Body bytes))
      (brought W (common_bytes note.length bytes) (fetched_unit W note bytes) came)

moved : {Made : Type 0} (P : Books Made → Said → Books Made → Type 0) {b b' : Books Made} {s s' : Said} {n n' : Books Made}
    → b ≡ b' → s ≡ s' →
    n ≡ n' → P b' s' n' → P b s n
moved P {b} {b'} {s} {s'} {n} {n'} e f g h =
    subst (λ x. P x s n) (sym e) (subst (λ x. P b' x n) (sym f) (subst (λ x. P b' s' x) (sym g) h))

-- so it holds of a call
pub by_kind : {Made : Type 0} (W : Work Made) (P : Books Made → Said → Books Made → Type 0) → OfEach W P → (b : Books Made) (s : Said)
    (next : Books Made) → Moves W b s next → P b s next
by_kind W P each b s next (accepted unit rest on came is e f g) = moved P e f g (each.at_accepted unit rest on came is)
by_kind W P each b s next (rejected unit rest on came e f g) = moved P e f g (each.at_rejected unit rest on came)
by_kind W P each b s next (stopped unit rest on came end e f g) = moved P e f g (each.at_stopped unit rest on came end)
by_kind W P each b s next (begun common units rest came e f g) = moved P e f g (each.at_begun common units rest came)
by_kind W P each b s next (refused common units rest came e f g) = moved P e f g (each.at_refused common units rest came)
by_kind W P each b s next (stopped_before common units rest came end e f g) =
    moved P e f g (each.at_stopped_before common units rest came end)
by_kind W P each b s next (closed common rest came e f g) = moved P e f g (each.at_closed common rest came)
by_kind W P each b s next (closed_behind common rest came e f g) = moved P e f g (each.at_closed_behind common rest came)
by_kind W P each b s next (granted came note e f g) = moved P e f g (each.at_granted came note)
by_kind W P each b s next (told came end e f g) = moved P e f g (each.at_told came end)
by_kind W P each b s next (fetched came note bytes e f g) = moved P e f g (each.at_fetched came note bytes)

-- what a fetch brings
pub record IsOn {Made : Type 0} (next : Books Made) : Type 0 where
  pub lives : next.ended ≡ false
  pub holds : next.held ≡ None
  pub stays : next.on ≡ None

-- a unit that is brought leaves the program going on
pub brought_on : {Made : Type 0} (W : Work Made) (common : List ℕ) (o : Option Made) (came : List (Arrival Made))
    → IsOn (brought W common o came)
brought_on W common None came = record { lives = refl; holds = refl; stays = refl }
brought_on W common (Some unit) came = record { lives = refl; holds = refl; stays = refl }

-- A rank all of whose ends are told well was told one at a reserve, so nothing is left for it to do.

abbrev LeavesNone : {Made : Type 0} → Books Made → Type 0
LeavesNone b = b.ended ≡ true → b.tasks ≡ []

none_left_each : {Made : Type 0} (W : Work Made) →
    OfEach W (λ b s next. IsEndedWell s.call s.answer → LeavesNone b → LeavesNone next)
none_left_each W = record {
  at_accepted = λ unit rest on came is well none over. absurd (cc);
  at_rejected = λ unit rest on came well none over. absurd (cc);
  at_stopped = λ unit rest on came end well none over. absurd well;
  at_begun = λ common units rest came well none over. absurd (cc);
  at_refused = λ common units rest came well none over. absurd (cc);
  at_stopped_before = λ common units rest came end well none over. absurd well;
  at_closed = λ common rest came well none over. absurd (cc);
  at_closed_behind = λ common rest came well none over. none refl;
  at_granted = λ came note well none over. absurd (cc);
  at_told = λ came end well none over. refl;
  at_fetched = λ came note bytes well none over.
      absurd (let lives = (brought_on W (common_bytes note.length bytes) (fetched_unit W note bytes) came).lives in cc);
}

none_left_at : {Made : Type 0} (W : Work Made) (b : Books Made) (said : List Said) (last : Books Made) →
    All (λ (s : Said). IsEndedWell s.call s.answer) said → Goes W b said last → LeavesNone b → LeavesNone last
none_left_at W b [] last well goes none = subst LeavesNone goes none
none_left_at W b (s ∷ said) last well goes none =
    none_left_at W goes.0 said last (All-tail (λ (t : Said). IsEndedWell t.call t.answer) s said well) goes.2
    (by_kind W (λ b s next. IsEndedWell s.call s.answer → LeavesNone b → LeavesNone next) (none_left_each W) b s goes.0 goes.1
    (All-head (λ (t : Said). IsEndedWell t.call t.answer) s said well) none)

-- a program whose calls all ended well has no task left
pub none_left : {Made : Type 0} (W : Work Made) (first : List (Task Made)) (said : List Said) (left : List (Task Made))
    (came : List (Arrival Made)) → All (λ (s : Said). IsEndedWell s.call s.answer) said
    → Goes W (going first None []) said (shut left None came) →
    left ≡ []
none_left W first said left came well goes =
    none_left_at W (going first None []) said (shut left None came) well goes (λ over. absurd (cc)) refl
