-- How many calls a rank makes. Each unit that waits to be put has what its put, its reserve, its fetch and all that is made of it cost.
-- Each batch that waits has what its beginning and its end cost. What is sent carries its part to whoever gets it.
use Rattle.std.proofs.Common.{◌≡◌, ◌≤◌, ◌+◌, ◌*◌, ℕ, Bool, true, false, cond, ◌||◌, List, [], ◌∷◌, ◌++◌, map, length, Option, Some, None}
use Rattle.std.proofs.Common.{refl, sym, ap, ◌∙◌, arith, sum_by}
use Rattle.std.specs.Prelude.{ℤ, is_some}
use Rattle.std.specs.List.{flat_map}
use Rattle.std.proofs.lemmas.List.{map-append}
use Rattle.std.proofs.lemmas.List.Sums.{sum_by-append, sum_by-cons}
use Rattle.adlb_unit.specs.declared.names.Rank.{Rank}
use Rattle.adlb_unit.specs.declared.names.Target.{Target}
use Rattle.adlb_unit.specs.declared.names.WorkType.{WorkType}
use Rattle.adlb_unit.specs.declared.notes.End as told_end
use Rattle.adlb_unit.specs.declared.notes.UnitNote.{UnitNote}
use Rattle.bag_ledger.specs.declared.entries.Answer.{Answer}
use Rattle.bag_ledger.specs.declared.entries.Answer.TheVariants as answers
use Rattle.bag_ledger.specs.declared.entries.Call.TheVariants as calls_to
use Rattle.bag_ledger.specs.declared.entries.Said.{Said}
use Rattle.bag_ledger.specs.Bodies.{bytes_of}
use Rattle.balance_law.specs.Parcels.{Parcel, batch_after, got, granted_note, parcel_got, parcel_read, parcel_sent, sent}
use Rattle.job_units.specs.Forms.{IsUnit}
use Rattle.job_units.specs.Puts.{put_of}
use Rattle.job_units.specs.Reading.{common_bytes, fetched as unit_fetched, own_bytes, unit_of}
use Rattle.job_units.specs.declared.jobs.Job.{Job}
use Rattle.job_units.specs.declared.units.Made.{Made}
use Rattle.job_units.proofs.FetchedUnits.{common_before, put_back}
use Rattle.puzzle_app.specs.Arrivals.{Arrival, arrival, bytes_on, makes}
use Rattle.puzzle_app.specs.Books.{Books, Goes, brought, over_bytes}
use Rattle.puzzle_app.specs.Tasks.{Task, Put, Begin, End, as_units, put_all}
use Rattle.puzzle_app.proofs.Calling.{OfEach, of_move}
use Rattle.puzzle_law.proofs.Pieces.{pieces, waits}
use Rattle.spending_law.proofs.Waiting.{batch_waits, brought_on, bytes_together, end_waits, makes_pieces, none_waits, of_put, parts_of_body}
use Rattle.spending_law.proofs.Waiting.{put_begins_none, waits-put_all}

-- the batches that wait to be begun
unfoldable pub begins : List Task → ℕ
begins [] = 0
begins (Begin common jobs ∷ tasks) = 1 + begins tasks
begins (task ∷ tasks) = begins tasks

begins_none : (units : List Made) (tasks : List Task) → begins (put_all units ++ tasks) ≡ begins tasks
unfolding begins
begins_none [] tasks = refl
begins_none (unit ∷ units) tasks = begins_none units tasks

-- a number if the test passes, and 0 otherwise
abbrev pub if_so : Bool → ℕ → ℕ
if_so true n = n
if_so false n = 0

-- a reserve that brought nothing yet, or an end
unfoldable pub owed : Books → ℕ
owed b = if_so (b.ended || is_some b.held) 1

-- at most one
pub owes_one : (b : Books) → owed b ≤ 1
unfolding owed
owes_one b = by_test (b.ended || is_some b.held)
  where
    by_test : (t : Bool) → if_so t 1 ≤ 1
    by_test true = omega arith
    by_test false = omega arith

-- the unit that is held, and the batch that is going on
abbrev pub Keeps : Books → Said → Books → Type 0
Keeps b s next = (next.held ≡ granted_note s.answer) × (batch_after b.on s.call s.answer ≡ next.on)

-- a call leaves the unit that its answer grants, and its batch
pub keeps : (grain : ℕ) → OfEach grain Keeps
keeps grain = record {
  at_accepted = λ unit rest on came fits. (refl, put_begins_none unit on answers.Fine);
  at_rejected = λ unit rest on came. (refl, put_begins_none unit on answers.Rejected);
  at_stopped = λ unit rest on came end. (refl, put_begins_none unit on (answers.Ended end));
  at_begun = λ common jobs rest came. (refl, refl);
  at_refused = λ common jobs rest came. (refl, refl);
  at_stopped_before = λ common jobs rest came end. (refl, refl);
  at_closed = λ common rest came. (refl, refl);
  at_closed_behind = λ common rest came. (refl, refl);
  at_granted = λ came note. (refl, refl);
  at_told = λ came end. (refl, refl);
  at_fetched = λ came note bytes.
      let on = brought_on grain (common_bytes note.length bytes) (unit_fetched note bytes) came in (on.holds, sym on.stays);
}

-- each unit weighs at least its put, a reserve, a fetch, and all that is made of it
module _ (grain : ℕ) (v : Arrival → ℕ) (each : (a : Arrival) → 3 + sum_by v (pieces (makes grain a)) ≤ v a) where
  unfoldable pub made : Arrival → ℕ
  made a = sum_by v (pieces (makes grain a))

  -- what is read of a parcel
  worth_read : List ℕ → Option Made → ℕ
  worth_read common None = 0
  worth_read common (Some unit) = made (arrival common unit)

  worth_bytes : WorkType → Option Rank → ℕ → List ℕ → ℕ
  worth_bytes kind answer long bytes = worth_read (common_bytes long bytes) (unit_of kind.0 answer (own_bytes long bytes))

  -- it brings the reserve and the fetch besides
  pub worth : Parcel → ℕ
  worth p = 2 + worth_bytes p.kind p.answer p.long (bytes_of p.common p.own)

  -- what a rank's books have left
  unfoldable pub credit : Books → ℕ
  credit b = cond b.ended 0 (sum_by v (waits b.on b.tasks) + 2 * begins b.tasks) + if_so (is_some b.on) 1

  -- a call
  abbrev Spends : Books → Said → Books → Type 0
  Spends b s next =
      1 + sum_by worth (parcel_sent b.on s.call s.answer) + credit next + owed b
      ≤ credit b + sum_by worth (parcel_got b.held s.call s.answer) + owed next

  sent_worth : (unit : Made) (on : Option (List ℕ)) → IsUnit unit →
      (kind : WorkType) (prio : ℤ) (target : Target) (answer : Option Rank) (body : List ℕ) →
      put_of unit ≡ calls_to.Put kind prio target answer body →
      sum_by worth (parcel_sent on (calls_to.Put kind prio target answer body) answers.Fine) ≡ 2 + made (arrival (bytes_on on) unit)
  unfolding worth worth_bytes worth_read
  sent_worth unit on fits kind prio target answer body put =
      let long : ℕ = length body in
      let parcel : Parcel = record { kind = kind; prio = prio; answer = answer; common = on; long = long; own = body } in
      let together : worth_bytes kind answer long (bytes_of on body) ≡ worth_bytes kind answer long (bytes_on on ++ body) =
      ap (worth_bytes kind answer long) (bytes_together on body) in
      let common : worth_bytes kind answer long (bytes_on on ++ body)
      ≡ worth_read (bytes_on on) (unit_of kind.0 answer (own_bytes long (bytes_on on ++ body))) =
      ap (λ c. worth_read c (unit_of kind.0 answer (own_bytes long (bytes_on on ++ body)))) (common_before (bytes_on on) body long refl) in
      let back : worth_read (bytes_on on) (unit_of kind.0 answer (own_bytes long (bytes_on on ++ body)))
      ≡ worth_read (bytes_on on) (Some unit) =
      ap (worth_read (bytes_on on)) (put_back unit kind prio target answer body (bytes_on on) long fits put refl) in
      omega (arith, sum_by-cons worth parcel [], together, common, back)

  pub put_worth : (unit : Made) (on : Option (List ℕ)) → IsUnit unit →
      sum_by worth (parcel_sent on (put_of unit) answers.Fine) ≡ 2 + made (arrival (bytes_on on) unit)
  put_worth unit on fits =
      of_put (λ call. put_of unit ≡ call → sum_by worth (parcel_sent on call answers.Fine) ≡ 2 + made (arrival (bytes_on on) unit))
      (sent_worth unit on fits) unit refl

  put_sends : (unit : Made) (on : Option (List ℕ)) (answer : Answer) → sum_by worth (parcel_got None (put_of unit) answer) ≡ 0
  put_sends unit on answer =
      of_put (λ call. sum_by worth (parcel_got None call answer) ≡ 0) (λ kind prio target rank body. refl) unit

  rejected_sends : (unit : Made) (on : Option (List ℕ)) → sum_by worth (parcel_sent on (put_of unit) answers.Rejected) ≡ 0
  rejected_sends unit on =
      of_put (λ call. sum_by worth (parcel_sent on call answers.Rejected) ≡ 0) (λ kind prio target rank body. refl) unit

  stopped_sends : (unit : Made) (on : Option (List ℕ)) (end : told_end.End)
      → sum_by worth (parcel_sent on (put_of unit) (answers.Ended end)) ≡ 0
  stopped_sends unit on end =
      of_put (λ call. sum_by worth (parcel_sent on call (answers.Ended end)) ≡ 0) (λ kind prio target rank body. refl) unit

  -- a unit that waits is put
  pub put_weighs : (on : Option (List ℕ)) (unit : Made) (rest : List Task)
      → sum_by v (waits on (Put unit ∷ rest)) ≡ v (arrival (bytes_on on) unit) + sum_by v (waits on rest)
  unfolding waits
  put_weighs on unit rest = sum_by-cons v (arrival (bytes_on on) unit) (waits on rest)

  -- what is made of a unit waits
  made_weighs : (on : Option (List ℕ)) (a : Arrival) (rest : List Task)
      → sum_by v (waits on (put_all (makes grain a) ++ rest)) ≡ made a + sum_by v (waits on rest)
  unfolding made
  made_weighs on a rest =
      let put = waits-put_all on (makes grain a) rest ∙ ap (λ l. l ++ waits on rest) (makes_pieces grain (bytes_on on) a.common a.unit) in
      let sum = ap (sum_by v) put in
      omega (arith, sum, sum_by-append v (pieces (makes grain a)) (waits on rest))

  got_worth : (note : UnitNote) (bytes : List ℕ)
      → sum_by worth (parcel_got (Some note) (calls_to.Fetch note.id) (answers.Body bytes))
      ≡ 2 + worth_read (common_bytes note.length bytes) (unit_fetched note bytes)
  unfolding worth worth_bytes
  got_worth note bytes =
      let same = ap (worth_bytes note.kind note.answer note.length) (parts_of_body note.common bytes) in
      omega (arith, sum_by-cons worth (parcel_read note bytes) [], same)

  brings : (common : List ℕ) (o : Option Made) (came : List Arrival) → credit (brought grain common o came) ≤ worth_read common o
  unfolding credit begins worth_read
  brings common None came = let none = ap (sum_by v) (none_waits None) in omega (arith, none)
  brings common (Some unit) came =
      let a : Arrival = arrival common unit in
      let none = ap (sum_by v) (none_waits None) in
      let all = made_weighs None a [] in
      let few = begins_none (makes grain a) [] in
      omega (arith, none, all, few)

  all_make : (came : List Arrival) → sum_by v (pieces (flat_map (makes grain) came)) ≤ sum_by v came
  all_make [] = omega arith
  all_make (a ∷ came) =
      let split : pieces (makes grain a ++ flat_map (makes grain) came) ≡ pieces (makes grain a) ++ pieces (flat_map (makes grain) came) =
      map-append (arrival []) (makes grain a) (flat_map (makes grain) came) in
      let sum = ap (sum_by v) split in
      omega (
        arith,
        sum,
        sum_by-append v (pieces (makes grain a)) (pieces (flat_map (makes grain) came)),
        sum_by-cons v a came,
        each a,
        all_make came,
      )

  -- the jobs of a batch that no server takes
  jobs_make : (common : List ℕ) (jobs : List Job) (rest : List Task)
      → sum_by v (waits None (put_all (flat_map (makes grain) (over_bytes common jobs)) ++ rest))
      ≤ sum_by v (map (arrival common) (as_units jobs)) + sum_by v (waits None rest)
  jobs_make common jobs rest =
      let units : List Made = flat_map (makes grain) (over_bytes common jobs) in
      let put = ap (sum_by v) (waits-put_all None units rest) in
      omega (arith, put, sum_by-append v (pieces units) (waits None rest), all_make (over_bytes common jobs))

  spends : OfEach grain Spends
  unfolding credit owed begins made
  spends = record {
    at_accepted = λ unit rest on came fits.
        omega (arith, put_worth unit on fits, put_sends unit on answers.Fine, put_weighs on unit rest, each (arrival (bytes_on on) unit));
    at_rejected = λ unit rest on came.
        let a : Arrival = arrival (bytes_on on) unit in
        omega (
          arith,
          rejected_sends unit on,
          put_sends unit on answers.Rejected,
          put_weighs on unit rest,
          made_weighs on a rest,
          begins_none (makes grain a) rest,
          each a,
        );
    at_stopped = λ unit rest on came end.
        omega (
          arith,
          stopped_sends unit on end,
          put_sends unit on (answers.Ended end),
          put_weighs on unit rest,
          each (arrival (bytes_on on) unit),
        );
    at_begun = λ common jobs rest came.
        let put = ap (sum_by v) (waits-put_all (Some common) (as_units jobs) (End ∷ rest)) in
        let wait = ap (sum_by v) (batch_waits common jobs rest) in
        let same = ap (sum_by v) (end_waits (Some common) rest) in
        omega (
          arith,
          put,
          wait,
          same,
          sum_by-append v (map (arrival common) (as_units jobs)) (waits (Some common) (End ∷ rest)),
          sum_by-append v (map (arrival common) (as_units jobs)) (waits None rest),
          begins_none (as_units jobs) (End ∷ rest),
        );
    at_refused = λ common jobs rest came.
        let wait = ap (sum_by v) (batch_waits common jobs rest) in
        omega (
          arith,
          wait,
          sum_by-append v (map (arrival common) (as_units jobs)) (waits None rest),
          jobs_make common jobs rest,
          begins_none (flat_map (makes grain) (over_bytes common jobs)) rest,
        );
    at_stopped_before = λ common jobs rest came end. omega arith;
    at_closed = λ common rest came. let same = ap (sum_by v) (end_waits (Some common) rest) in omega (arith, same);
    at_closed_behind = λ common rest came. omega arith;
    at_granted = λ came note. let none = ap (sum_by v) (none_waits None) in omega (arith, none);
    at_told = λ came end. let none = ap (sum_by v) (none_waits None) in omega (arith, none);
    at_fetched = λ came note bytes.
        let all = brings (common_bytes note.length bytes) (unit_fetched note bytes) came in
        omega (arith, got_worth note bytes, all);
  }

  -- all calls
  pub all_spend : (b : Books) (said : List Said) (last : Books) → Goes grain b said last
      → length said + sum_by worth (sent b.on said) + credit last + owed b ≤ credit b + sum_by worth (got b.held said) + owed last
  unfolding sent got
  all_spend b [] last is =
      let c = ap credit is in let o = ap owed is in omega (arith, c, o)
  all_spend b (s ∷ said) last goes =
      let here = of_move grain Spends spends b s goes.0 goes.1 in
      let later = all_spend goes.0 said last goes.2 in
      let kept = of_move grain Keeps (keeps grain) b s goes.0 goes.1 in
      let held : sum_by worth (got (goes.0).held said) ≡ sum_by worth (got (granted_note s.answer) said) =
      ap (λ h. sum_by worth (got h said)) kept.0 in
      let batch : sum_by worth (sent (batch_after b.on s.call s.answer) said) ≡ sum_by worth (sent (goes.0).on said) =
      ap (λ o. sum_by worth (sent o said)) kept.1 in
      omega (
        arith,
        here,
        later,
        held,
        batch,
        sum_by-append worth (parcel_sent b.on s.call s.answer) (sent (batch_after b.on s.call s.answer) said),
        sum_by-append worth (parcel_got b.held s.call s.answer) (got (granted_note s.answer) said),
      )
