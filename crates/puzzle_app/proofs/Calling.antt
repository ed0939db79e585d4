-- What the relation of the calls says of a transcript.
use Rattle.std.proofs.Common.{◌≡◌, ℕ, ◌==◌, ◌||◌, Bool, true, false, List, [], ◌∷◌, ◌++◌, Option, Some, None, is_some, refl, sym, ap, ◌∙◌}
use Rattle.std.proofs.Common.{subst, All, inl, inr, ◌⊎◌}
use Rattle.std.proofs.lemmas.List.Elements.{All-nil, All-cons}
use Rattle.std.proofs.lemmas.List.Folds.{list_any-append}
use Rattle.adlb_unit.specs.declared.names.WorkType.{WorkType}
use Rattle.adlb_unit.specs.declared.notes.End as told_end
use Rattle.adlb_unit.specs.declared.notes.UnitNote.{UnitNote}
use Rattle.bag_ledger.specs.declared.entries.Answer.{Answer}
use Rattle.bag_ledger.specs.declared.entries.Answer.TheVariants.{Fine, Rejected, Ended, Granted, Body}
use Rattle.bag_ledger.specs.declared.entries.Call.{Call}
use Rattle.bag_ledger.specs.declared.entries.Call.TheVariants as calls_to
use Rattle.bag_ledger.specs.declared.entries.Call.TheVariants.{Reserve, Fetch, BeginBatch, EndBatch}
use Rattle.bag_ledger.specs.declared.entries.Said.{Said}
use Rattle.job_units.specs.declared.jobs.Job.{Job}
use Rattle.job_units.specs.declared.units.Made.{Made}
use Rattle.job_units.specs.declared.units.Made.TheVariants as made
use Rattle.job_units.specs.Forms.{IsUnit}
use Rattle.job_units.specs.Puts.{kind_of, put_of}
use Rattle.job_units.specs.Reading.{common_bytes, fetched as unit_fetched}
use Rattle.rank_client.specs.Calls.{end_of, end_told, goes_on, has_finished, is_finish, is_open, open_after}
use Rattle.puzzle_app.specs.Arrivals.{Arrival, arrival, bytes_on}
use Rattle.puzzle_app.specs.Books.{Books, Goes, Moves, accepted, rejected, stopped, begun, refused as refused_by, stopped_before, closed}
use Rattle.puzzle_app.specs.Working.{in_batch}
use Rattle.puzzle_app.specs.Books.{closed_behind, granted, told, fetched, going, holding, shut, received, brought, without_batch}
use Rattle.puzzle_app.specs.Books.{said_of}
use Rattle.puzzle_app.specs.Follows.{IsSoFar, start_of}
use Rattle.puzzle_app.specs.Tasks.{Task, Put, Begin, End, as_units, put_all}
use Rattle.puzzle_app.specs.Transcripts.{is_own, is_within}
use Rattle.puzzle_app.specs.declared.program.PuzzleProgram.{PuzzleProgram}
use Rattle.puzzle_app.proofs.Fetching.{fetched_is}

moved : (P : Books → Said → Books → Type 0) {b b' : Books} {s s' : Said} {n n' : Books} → b ≡ b' → s ≡ s' → n ≡ n' → P b' s' n' → P b s n
moved P {b} {b'} {s} {s'} {n} {n'} e f g h =
    subst (λ x. P x s n) (sym e) (subst (λ x. P b' x n) (sym f) (subst (λ x. P b' s' x) (sym g) h))

-- what holds of each kind of call holds of a call
pub record OfEach (grain : ℕ) (P : Books → Said → Books → Type 0) : Type 0 where
  pub at_accepted : (x : Made) (rest : List Task) (on : Option (List ℕ)) (came : List Arrival) → IsUnit x →
      P (going (Put x ∷ rest) on came) (said_of (put_of x) Fine) (going rest on came)
  pub at_rejected : (x : Made) (rest : List Task) (on : Option (List ℕ)) (came : List Arrival) →
      P (going (Put x ∷ rest) on came) (said_of (put_of x) Rejected) (received grain (arrival (bytes_on on) x) rest on came)
  pub at_stopped : (x : Made) (rest : List Task) (on : Option (List ℕ)) (came : List Arrival) (end : told_end.End) →
      P (going (Put x ∷ rest) on came) (said_of (put_of x) (Ended end)) (shut rest on came)
  pub at_begun : (common : List ℕ) (jobs : List Job) (rest : List Task) (came : List Arrival) →
      P (going (Begin common jobs ∷ rest) None came) (said_of (BeginBatch common) Fine) (in_batch common jobs rest came)
  pub at_refused : (common : List ℕ) (jobs : List Job) (rest : List Task) (came : List Arrival) →
      P (going (Begin common jobs ∷ rest) None came) (said_of (BeginBatch common) Rejected) (without_batch grain common jobs rest came)
  pub at_stopped_before : (common : List ℕ) (jobs : List Job) (rest : List Task) (came : List Arrival) (end : told_end.End) →
      P (going (Begin common jobs ∷ rest) None came) (said_of (BeginBatch common) (Ended end))
      (shut (put_all (as_units jobs) ++ rest) None came)
  pub at_closed : (common : List ℕ) (rest : List Task) (came : List Arrival) →
      P (going (End ∷ rest) (Some common) came) (said_of EndBatch Fine) (going rest None came)
  pub at_closed_behind : (common : List ℕ) (rest : List Task) (came : List Arrival) →
      P (shut rest (Some common) came) (said_of EndBatch Fine) (shut rest None came)
  pub at_granted : (came : List Arrival) (note : UnitNote) →
      P (going [] None came) (said_of (Reserve None) (Granted note)) (holding note came)
  pub at_told : (came : List Arrival) (end : told_end.End) →
      P (going [] None came) (said_of (Reserve None) (Ended end)) (shut [] None came)
  pub at_fetched : (came : List Arrival) (note : UnitNote) (bytes : List ℕ) →
      P (holding note came) (said_of (Fetch note.id) (Body bytes))
      (brought grain (common_bytes note.length bytes) (unit_fetched note bytes) came)

-- what holds of each kind of move holds of every move
pub of_move : (grain : ℕ) (P : Books → Said → Books → Type 0) → OfEach grain P → (b : Books) (s : Said) (next : Books) →
    Moves grain b s next → P b s next
of_move grain P each b s next (accepted x rest on came fits e f g) = moved P e f g (each.at_accepted x rest on came fits)
of_move grain P each b s next (rejected x rest on came fits e f g) = moved P e f g (each.at_rejected x rest on came)
of_move grain P each b s next (stopped x rest on came end fits e f g) = moved P e f g (each.at_stopped x rest on came end)
of_move grain P each b s next (begun common jobs rest came e f g) = moved P e f g (each.at_begun common jobs rest came)
of_move grain P each b s next (refused_by common jobs rest came e f g) = moved P e f g (each.at_refused common jobs rest came)
of_move grain P each b s next (stopped_before common jobs rest came end e f g) = moved P e f g
    (each.at_stopped_before common jobs rest came end)
of_move grain P each b s next (closed common rest came e f g) = moved P e f g (each.at_closed common rest came)
of_move grain P each b s next (closed_behind common rest came e f g) = moved P e f g (each.at_closed_behind common rest came)
of_move grain P each b s next (granted came note e f g) = moved P e f g (each.at_granted came note)
of_move grain P each b s next (told came end e f g) = moved P e f g (each.at_told came end)
of_move grain P each b s next (fetched came note bytes unit is e f g) =
    moved P e f (g ∙ ap (λ u. brought grain (common_bytes note.length bytes) u came) (fetched_is note bytes unit is))
    (each.at_fetched came note bytes)

-- How the calls go on.

own_put : (x : Made) → is_own (put_of x) ≡ true
own_put (made.Board b) = refl
own_put (made.Solution s) = refl
own_put (made.Job j) = refl
own_put (made.Answer a) = refl

abbrev IsOwn : Books → Said → Books → Type 0
IsOwn b s next = is_own s.call ≡ true

each_own : (grain : ℕ) → OfEach grain IsOwn
each_own grain = record {
  at_accepted = λ x rest on came fits. own_put x;
  at_rejected = λ x rest on came. own_put x;
  at_stopped = λ x rest on came end. own_put x;
  at_begun = λ common jobs rest came. refl;
  at_refused = λ common jobs rest came. refl;
  at_stopped_before = λ common jobs rest came end. refl;
  at_closed = λ common rest came. refl;
  at_closed_behind = λ common rest came. refl;
  at_granted = λ came note. refl;
  at_told = λ came end. refl;
  at_fetched = λ came note bytes. refl;
}

goes_own : (grain : ℕ) (b : Books) (said : List Said) (last : Books) → Goes grain b said last →
    All (λ (s : Said). is_own s.call ≡ true) said
goes_own grain b [] last goes = let P : Said → Type 0 = λ s. is_own s.call ≡ true in All-nil P
goes_own grain b (s ∷ said) last goes =
    let P : Said → Type 0 = λ s. is_own s.call ≡ true in
    All-cons P s said (of_move grain IsOwn (each_own grain) b s goes.0 goes.1) (goes_own grain goes.0 said last goes.2)

-- all calls so far are the program's own
pub so_own : (p : PuzzleProgram) (said : List Said) → IsSoFar p said → All (λ (s : Said). is_own s.call ≡ true) said
so_own p said is = goes_own p.settings.grain (start_of p) said is.last is.goes

-- its own calls are not Finish
own_open : (call : Call) → is_own call ≡ true → is_finish call ≡ false
own_open (calls_to.Put kind prio target answer body) own = refl
own_open (calls_to.Reserve types) own = refl
own_open (calls_to.Fetch id) own = refl
own_open (calls_to.BeginBatch common) own = refl
own_open calls_to.EndBatch own = refl
own_open calls_to.Finish own = absurd (cc)
own_open _ own = absurd (cc)

neither : (a b : Bool) → a ≡ false → b ≡ false → ((a || false) || b) ≡ false
neither a b ea eb = ap (λ x. (x || false) || b) ea ∙ eb

goes_open : (grain : ℕ) (b : Books) (said : List Said) (last : Books) → Goes grain b said last → has_finished said ≡ false
unfolding has_finished
goes_open grain b [] last goes = refl
goes_open grain b (s ∷ said) last goes =
    list_any-append (λ (t : Said). is_finish t.call) (s ∷ []) said
    ∙ neither (is_finish s.call) (has_finished said) (own_open s.call (of_move grain IsOwn (each_own grain) b s goes.0 goes.1))
    (goes_open grain goes.0 said last goes.2)

-- no rank finishes while its program runs
pub so_open : (p : PuzzleProgram) (said : List Said) → IsSoFar p said → has_finished said ≡ false
so_open p said is = goes_open p.settings.grain (start_of p) said is.last is.goes

-- the calls before and after a call
pub goes_split : (grain : ℕ) (b : Books) (said more : List Said) (last : Books) → Goes grain b (said ++ more) last →
    (mid : Books) × Goes grain b said mid × Goes grain mid more last
goes_split grain b [] more last goes = (b, refl, goes)
goes_split grain b (s ∷ said) more last goes =
    let later = goes_split grain goes.0 said more last goes.2 in (later.0, (goes.0, goes.1, later.1), later.2)

-- the front of a transcript is a transcript so far
pub so_front : (p : PuzzleProgram) (said more : List Said) → IsSoFar p (said ++ more) → IsSoFar p said
so_front p said more is =
    let split = goes_split p.settings.grain (start_of p) said more is.last is.goes in record { last = split.0; goes = split.1 }

-- a call at its books
pub goes_at : (grain : ℕ) (b : Books) (said : List Said) (s : Said) (more : List Said) (last : Books) →
    Goes grain b (said ++ s ∷ more) last →
    (mid : Books) × (next : Books) × Goes grain b said mid × Moves grain mid s next × Goes grain next more last
goes_at grain b said s more last goes =
    let split = goes_split grain b said (s ∷ more) last goes in (split.0, split.2.0, split.1, split.2.1, split.2.2)

not_reserve : (x : Made) (types : Option (List WorkType)) → put_of x ≡ Reserve types → ⊥
not_reserve (made.Board b) types e = cc
not_reserve (made.Solution s) types e = cc
not_reserve (made.Job j) types e = cc
not_reserve (made.Answer a) types e = cc

abbrev IsAsking : Books → Said → Books → Type 0
IsAsking b s next = (types : Option (List WorkType)) → s.call ≡ Reserve types →
    (types ≡ None) × (b.tasks ≡ []) × (b.on ≡ None) × (b.held ≡ None)

each_asks : (grain : ℕ) → OfEach grain IsAsking
each_asks grain = record {
  at_accepted = λ x rest on came fits types e. absurd (not_reserve x types e);
  at_rejected = λ x rest on came types e. absurd (not_reserve x types e);
  at_stopped = λ x rest on came end types e. absurd (not_reserve x types e);
  at_begun = λ common jobs rest came types e. absurd (cc);
  at_refused = λ common jobs rest came types e. absurd (cc);
  at_stopped_before = λ common jobs rest came end types e. absurd (cc);
  at_closed = λ common rest came types e. absurd (cc);
  at_closed_behind = λ common rest came types e. absurd (cc);
  at_granted = λ came note types e. let same : None ≡ types = cc in (sym same, refl, refl, refl);
  at_told = λ came end types e. let same : None ≡ types = cc in (sym same, refl, refl, refl);
  at_fetched = λ came note bytes types e. absurd (cc);
}

-- a rank reserves any type, and only if it has no task, no batch and no unit
pub move_asks : (grain : ℕ) (b next : Books) (s : Said) (types : Option (List WorkType)) → Moves grain b s next → s.call ≡ Reserve types →
    (types ≡ None) × (b.tasks ≡ []) × (b.on ≡ None) × (b.held ≡ None)
move_asks grain b next s types move = of_move grain IsAsking (each_asks grain) b s next move types

abbrev IsFetching : Books → Said → Books → Type 0
IsFetching b s next = (note : UnitNote) → b.held ≡ Some note → s.call ≡ Fetch note.id

each_fetches : (grain : ℕ) → OfEach grain IsFetching
each_fetches grain = record {
  at_accepted = λ x rest on came fits note e. absurd (cc);
  at_rejected = λ x rest on came note e. absurd (cc);
  at_stopped = λ x rest on came end note e. absurd (cc);
  at_begun = λ common jobs rest came note e. absurd (cc);
  at_refused = λ common jobs rest came note e. absurd (cc);
  at_stopped_before = λ common jobs rest came end note e. absurd (cc);
  at_closed = λ common rest came note e. absurd (cc);
  at_closed_behind = λ common rest came note e. absurd (cc);
  at_granted = λ came n note e. absurd (cc);
  at_told = λ came end note e. absurd (cc);
  at_fetched = λ came n bytes note e. let same : n ≡ note = cc in ap (λ (m : UnitNote). Fetch m.id) same;
}

-- a rank that holds a unit fetches it
pub move_fetches : (grain : ℕ) (b next : Books) (s : Said) (note : UnitNote) → Moves grain b s next → b.held ≡ Some note →
    s.call ≡ Fetch note.id
move_fetches grain b next s note move = of_move grain IsFetching (each_fetches grain) b s next move note

-- A batch that goes on.

not_begin : (x : Made) (common : List ℕ) → put_of x ≡ BeginBatch common → ⊥
not_begin (made.Board b) common e = cc
not_begin (made.Solution s) common e = cc
not_begin (made.Job j) common e = cc
not_begin (made.Answer a) common e = cc

abbrev Begins : Books → Said → Books → Type 0
Begins b s next = (common : List ℕ) → s.call ≡ BeginBatch common →
    (jobs : List Job) × (rest : List Task) × (b.tasks ≡ Begin common jobs ∷ rest) × (b.on ≡ None)

begins_at : (common : List ℕ) (jobs : List Job) (rest : List Task) (other : List ℕ) → BeginBatch common ≡ BeginBatch other →
    Begin common jobs ∷ rest ≡ Begin other jobs ∷ rest
begins_at common jobs rest other e = let same : common ≡ other = cc in ap (λ c. Begin c jobs ∷ rest) same

each_begins : (grain : ℕ) → OfEach grain Begins
each_begins grain = record {
  at_accepted = λ x rest on came fits common e. absurd (not_begin x common e);
  at_rejected = λ x rest on came common e. absurd (not_begin x common e);
  at_stopped = λ x rest on came end common e. absurd (not_begin x common e);
  at_begun = λ common jobs rest came other e. (jobs, rest, begins_at common jobs rest other e, refl);
  at_refused = λ common jobs rest came other e. (jobs, rest, begins_at common jobs rest other e, refl);
  at_stopped_before = λ common jobs rest came end other e. (jobs, rest, begins_at common jobs rest other e, refl);
  at_closed = λ common rest came other e. absurd (cc);
  at_closed_behind = λ common rest came other e. absurd (cc);
  at_granted = λ came note other e. absurd (cc);
  at_told = λ came end other e. absurd (cc);
  at_fetched = λ came note bytes other e. absurd (cc);
}

-- a batch is begun only as the next task, and outside another
pub move_begins : (grain : ℕ) (b next : Books) (s : Said) (common : List ℕ) → Moves grain b s next → s.call ≡ BeginBatch common →
    (jobs : List Job) × (rest : List Task) × (b.tasks ≡ Begin common jobs ∷ rest) × (b.on ≡ None)
move_begins grain b next s common move = of_move grain Begins (each_begins grain) b s next move common

-- a job or an answer
abbrev is_short : Made → Bool
is_short x = (kind_of x == 2) || (kind_of x == 3)

-- jobs and answers are put up to the end of the batch
abbrev UpToEnd : List Task → Type 0
UpToEnd [] = ⊥
UpToEnd (Put x ∷ tasks) = (is_short x ≡ true) × UpToEnd tasks
UpToEnd (Begin common jobs ∷ tasks) = ⊥
UpToEnd (End ∷ tasks) = Unit {0}

abbrev Inside : Option (List ℕ) → List Task → Type 0
Inside None tasks = Unit {0}
Inside (Some common) tasks = UpToEnd tasks

inside_jobs : (jobs : List Job) (rest : List Task) → UpToEnd (put_all (as_units jobs) ++ End ∷ rest)
inside_jobs [] rest = tt
inside_jobs (j ∷ jobs) rest = (refl, inside_jobs jobs rest)

inside_put : (x : Made) (rest : List Task) (on : Option (List ℕ)) → Inside on (Put x ∷ rest) → Inside on rest
inside_put x rest None is = tt
inside_put x rest (Some common) is = is.1

inside_received : (grain : ℕ) (x : Made) (rest : List Task) (on : Option (List ℕ)) (came : List Arrival) → Inside on (Put x ∷ rest) →
    Inside on (received grain (arrival (bytes_on on) x) rest on came).tasks
inside_received grain x rest None came is = tt
inside_received grain (made.Board b) rest (Some common) came is = absurd (let e : false ≡ true = is.0 in cc)
inside_received grain (made.Solution s) rest (Some common) came is = absurd (let e : false ≡ true = is.0 in cc)
inside_received grain (made.Job j) rest (Some common) came is = (refl, is.1)
inside_received grain (made.Answer a) rest (Some common) came is = is.1

inside_brought : (grain : ℕ) (common : List ℕ) (o : Option Made) (came : List Arrival) →
    Inside (brought grain common o came).on (brought grain common o came).tasks
inside_brought grain common None came = tt
inside_brought grain common (Some x) came = tt

abbrev StaysInside : Books → Said → Books → Type 0
StaysInside b s next = Inside b.on b.tasks → Inside next.on next.tasks

each_inside : (grain : ℕ) → OfEach grain StaysInside
each_inside grain = record {
  at_accepted = λ x rest on came fits is. inside_put x rest on is;
  at_rejected = λ x rest on came is. inside_received grain x rest on came is;
  at_stopped = λ x rest on came end is. inside_put x rest on is;
  at_begun = λ common jobs rest came is. inside_jobs jobs rest;
  at_refused = λ common jobs rest came is. tt;
  at_stopped_before = λ common jobs rest came end is. tt;
  at_closed = λ common rest came is. tt;
  at_closed_behind = λ common rest came is. tt;
  at_granted = λ came note is. tt;
  at_told = λ came end is. tt;
  at_fetched = λ came note bytes is. inside_brought grain (common_bytes note.length bytes) (unit_fetched note bytes) came;
}

goes_inside : (grain : ℕ) (b : Books) (said : List Said) (last : Books) → Goes grain b said last → Inside b.on b.tasks →
    Inside last.on last.tasks
goes_inside grain b [] last same is = subst (λ (x : Books). Inside x.on x.tasks) same is
goes_inside grain b (s ∷ said) last goes is =
    goes_inside grain goes.0 said last goes.2 (of_move grain StaysInside (each_inside grain) b s goes.0 goes.1 is)

short_within : (x : Made) → is_short x ≡ true → is_within (put_of x) ≡ true
short_within (made.Board b) e = absurd (let f : false ≡ true = e in cc)
short_within (made.Solution s) e = absurd (let f : false ≡ true = e in cc)
short_within (made.Job j) e = refl
short_within (made.Answer a) e = refl

put_within : (x : Made) (rest : List Task) (on : Option (List ℕ)) (common : List ℕ) → Inside on (Put x ∷ rest) → on ≡ Some common →
    is_within (put_of x) ≡ true
put_within x rest None common is e = absurd (cc)
put_within x rest (Some c) common is e = short_within x is.0

abbrev IsWithin : Books → Said → Books → Type 0
IsWithin b s next = Inside b.on b.tasks → (common : List ℕ) → b.on ≡ Some common → is_within s.call ≡ true

each_within : (grain : ℕ) → OfEach grain IsWithin
each_within grain = record {
  at_accepted = λ x rest on came fits is common e. put_within x rest on common is e;
  at_rejected = λ x rest on came is common e. put_within x rest on common is e;
  at_stopped = λ x rest on came end is common e. put_within x rest on common is e;
  at_begun = λ common jobs rest came is other e. absurd (cc);
  at_refused = λ common jobs rest came is other e. absurd (cc);
  at_stopped_before = λ common jobs rest came end is other e. absurd (cc);
  at_closed = λ common rest came is other e. refl;
  at_closed_behind = λ common rest came is other e. refl;
  at_granted = λ came note is other e. absurd (cc);
  at_told = λ came end is other e. absurd (cc);
  at_fetched = λ came note bytes is other e. absurd (cc);
}

-- a call inside a batch is one that may be made there
pub goes_within : (p : PuzzleProgram) (said : List Said) (mid next : Books) (s : Said) (common : List ℕ) →
    Goes p.settings.grain (start_of p) said mid →
    Moves p.settings.grain mid s next → mid.on ≡ Some common → is_within s.call ≡ true
goes_within p said mid next s common goes move =
    of_move p.settings.grain IsWithin (each_within p.settings.grain) mid s next move
    (goes_inside p.settings.grain (start_of p) said mid goes tt) common

stays_on : (x : Made) (answer : Answer) (on : Bool) → goes_on (put_of x) answer on ≡ on
stays_on (made.Board b) answer on = refl
stays_on (made.Solution s) answer on = refl
stays_on (made.Job j) answer on = refl
stays_on (made.Answer a) answer on = refl

brought_on : (grain : ℕ) (common : List ℕ) (o : Option Made) (came : List Arrival) → (brought grain common o came).on ≡ None
brought_on grain common None came = refl
brought_on grain common (Some x) came = refl

abbrev TellsOn : Books → Said → Books → Type 0
TellsOn b s next = goes_on s.call s.answer (is_some b.on) ≡ is_some next.on

each_on : (grain : ℕ) → OfEach grain TellsOn
each_on grain = record {
  at_accepted = λ x rest on came fits. stays_on x Fine (is_some on);
  at_rejected = λ x rest on came. stays_on x Rejected (is_some on);
  at_stopped = λ x rest on came end. stays_on x (Ended end) (is_some on);
  at_begun = λ common jobs rest came. refl;
  at_refused = λ common jobs rest came. refl;
  at_stopped_before = λ common jobs rest came end. refl;
  at_closed = λ common rest came. refl;
  at_closed_behind = λ common rest came. refl;
  at_granted = λ came note. refl;
  at_told = λ came end. refl;
  at_fetched = λ came note bytes. sym (ap (λ o. is_some o)
      (brought_on grain (common_bytes note.length bytes) (unit_fetched note bytes) came));
}

goes_on_on : (grain : ℕ) (b : Books) (said : List Said) (last : Books) → Goes grain b said last →
    open_after (is_some b.on) said ≡ is_some last.on
unfolding open_after
goes_on_on grain b [] last same = ap (λ (x : Books). is_some x.on) same
goes_on_on grain b (s ∷ said) last goes =
    ap (λ on. open_after on said) (of_move grain TellsOn (each_on grain) b s goes.0 goes.1) ∙ goes_on_on grain goes.0 said last goes.2

-- a transcript is open exactly if the books have a call that goes on
pub so_on : (p : PuzzleProgram) (said : List Said) (last : Books) → Goes p.settings.grain (start_of p) said last →
    is_open said ≡ is_some last.on
so_on p said last goes = goes_on_on p.settings.grain (start_of p) said last goes

-- An end.

abbrev IsLast : Books → Said → Books → Type 0
IsLast b s next = b.ended ≡ true → (s.call ≡ EndBatch) × (is_some b.on ≡ true) × (next.ended ≡ true)

each_last : (grain : ℕ) → OfEach grain IsLast
each_last grain = record {
  at_accepted = λ x rest on came fits e. absurd (cc);
  at_rejected = λ x rest on came e. absurd (cc);
  at_stopped = λ x rest on came end e. absurd (cc);
  at_begun = λ common jobs rest came e. absurd (cc);
  at_refused = λ common jobs rest came e. absurd (cc);
  at_stopped_before = λ common jobs rest came end e. absurd (cc);
  at_closed = λ common rest came e. absurd (cc);
  at_closed_behind = λ common rest came e. (refl, refl, refl);
  at_granted = λ came note e. absurd (cc);
  at_told = λ came end e. absurd (cc);
  at_fetched = λ came note bytes e. absurd (cc);
}

-- a rank that was told an end makes no call but the end of its batch
pub move_last : (grain : ℕ) (b next : Books) (s : Said) → Moves grain b s next → b.ended ≡ true →
    (s.call ≡ EndBatch) × (is_some b.on ≡ true) × (next.ended ≡ true)
move_last grain b next s move = of_move grain IsLast (each_last grain) b s next move

-- a call tells an end exactly when the books are shut by it
abbrev Tells : Books → Said → Books → Type 0
Tells b s next = ((next.ended ≡ b.ended) × ((later : Option told_end.End) → end_of s.answer later ≡ later))
    ⊎ ((b.ended ≡ false) × (next.ended ≡ true) × ((later : Option told_end.End) → is_some (end_of s.answer later) ≡ true))

brought_lives : (grain : ℕ) (common : List ℕ) (o : Option Made) (came : List Arrival) → (brought grain common o came).ended ≡ false
brought_lives grain common None came = refl
brought_lives grain common (Some x) came = refl

each_tells : (grain : ℕ) → OfEach grain Tells
each_tells grain = record {
  at_accepted = λ x rest on came fits. inl (refl, λ later. refl);
  at_rejected = λ x rest on came. inl (refl, λ later. refl);
  at_stopped = λ x rest on came end. inr (refl, refl, λ later. refl);
  at_begun = λ common jobs rest came. inl (refl, λ later. refl);
  at_refused = λ common jobs rest came. inl (refl, λ later. refl);
  at_stopped_before = λ common jobs rest came end. inr (refl, refl, λ later. refl);
  at_closed = λ common rest came. inl (refl, λ later. refl);
  at_closed_behind = λ common rest came. inl (refl, λ later. refl);
  at_granted = λ came note. inl (refl, λ later. refl);
  at_told = λ came end. inr (refl, refl, λ later. refl);
  at_fetched = λ came note bytes. inl (brought_lives grain (common_bytes note.length bytes) (unit_fetched note bytes) came, λ later. refl);
}

stays_shut : (grain : ℕ) (b : Books) (said : List Said) (last : Books) → Goes grain b said last → b.ended ≡ true → last.ended ≡ true
stays_shut grain b [] last same is = ap (λ (x : Books). x.ended) (sym same) ∙ is
stays_shut grain b (s ∷ said) last goes is = stays_shut grain goes.0 said last goes.2 (move_last grain b goes.0 s goes.1 is).2

goes_told : (grain : ℕ) (b : Books) (said : List Said) (last : Books) → Goes grain b said last →
    (is_some (end_told said) || b.ended) ≡ last.ended
unfolding end_told
goes_told grain b [] last same = ap (λ (x : Books). x.ended) same
goes_told grain b (s ∷ said) last goes = elim (of_move grain Tells (each_tells grain) b s goes.0 goes.1) [
  | inl same ↦
      ap (λ (o : Option told_end.End). is_some o || b.ended) (same.1 (end_told said)) ∙ ap (λ e. is_some (end_told said) || e) (sym same.0)
      ∙ goes_told grain goes.0 said last goes.2
  | inr here ↦
      ap (λ e. e || b.ended) (here.2 (end_told said)) ∙ sym (stays_shut grain goes.0 said last goes.2 here.1)
]

or_false : (a : Bool) → a ≡ (a || false)
or_false true = refl
or_false false = refl

-- the transcript tells an end exactly if the books say so
pub so_told : (p : PuzzleProgram) (said : List Said) (last : Books) → Goes p.settings.grain (start_of p) said last →
    is_some (end_told said) ≡ last.ended
so_told p said last goes = or_false (is_some (end_told said)) ∙ goes_told p.settings.grain (start_of p) said last goes
