-- What comes to a rank with its calls, and what they put.
use Rattle.std.proofs.Common.{◌≡◌, ℕ, ◌+◌, Bool, cond, List, [], ◌∷◌, ◌++◌, map, Option, Some, None, refl, sym, ap, ◌∙◌, subst, arith}
use Rattle.std.proofs.Common.{append_assoc, append-nil, IsPermutation, count_by}
use Rattle.std.specs.List.{flat_map}
use Rattle.std.proofs.lemmas.List.{map-append}
use Rattle.std.proofs.lemmas.List.Concat.{flat_map-append}
use Rattle.std.proofs.lemmas.List.Sorted.{IsPermutation-map}
use Rattle.std.proofs.lemmas.List.Sums.{sum_by-append}
use Rattle.adlb_unit.specs.declared.notes.End as told_end
use Rattle.adlb_unit.specs.declared.notes.UnitNote.{UnitNote}
use Rattle.bag_ledger.specs.declared.entries.Answer.{Answer}
use Rattle.bag_ledger.specs.declared.entries.Answer.TheVariants.{Fine, Rejected, Ended, Granted, Body}
use Rattle.bag_ledger.specs.declared.entries.Call.{Call}
use Rattle.bag_ledger.specs.declared.entries.Call.TheVariants.{Reserve, Fetch, BeginBatch, EndBatch}
use Rattle.bag_ledger.specs.declared.entries.Said.{Said}
use Rattle.job_units.specs.declared.jobs.Job.{Job}
use Rattle.job_units.specs.declared.units.Made.{Made}
use Rattle.job_units.specs.declared.units.Made.TheVariants as made
use Rattle.job_units.specs.Puts.{put_of}
use Rattle.job_units.specs.Reading.{common_bytes, fetched as unit_fetched}
use Rattle.puzzle_app.specs.Arrivals.{Arrival, arrival, bytes_on, makes}
use Rattle.puzzle_app.specs.Books.{Books, Goes, Moves, going, holding, shut, received, brought, without_batch, over_bytes}
use Rattle.puzzle_app.specs.Working.{in_batch, all_made, tasks_of}
use Rattle.puzzle_app.specs.Books.{said_of}
use Rattle.puzzle_app.specs.Follows.{start_of}
use Rattle.puzzle_app.specs.Tasks.{Task, Put, Begin, End, all_units, as_units, put_all}
use Rattle.puzzle_app.specs.Transcripts.{all_come, all_refused, batches_after, batches_in, calls_of, came_calls, comes, note_of, put_call}
use Rattle.puzzle_app.specs.Transcripts.{puts, refused, units_in}
use Rattle.puzzle_app.specs.declared.program.PuzzleProgram.{PuzzleProgram}
use Rattle.puzzle_app.proofs.Counting.{units_by_counts}
use Rattle.puzzle_app.proofs.Calling.{OfEach, of_move}

-- The batches that are still to be begun.

-- tasks that put units have no batch
pub no_batches : (units : List Made) (tasks : List Task) → batches_in (put_all units ++ tasks) ≡ batches_in tasks
unfolding batches_in
no_batches [] tasks = refl
no_batches (x ∷ units) tasks = no_batches units tasks

batches_at_end : (tasks : List Task) → batches_in (End ∷ tasks) ≡ batches_in tasks
unfolding batches_in
batches_at_end tasks = refl

batches_at_put : (x : Made) (tasks : List Task) → batches_in (Put x ∷ tasks) ≡ batches_in tasks
unfolding batches_in
batches_at_put x tasks = refl

batches_at_begin : (common : List ℕ) (jobs : List Job) (tasks : List Task) →
    batches_in (Begin common jobs ∷ tasks) ≡ jobs ∷ batches_in tasks
unfolding batches_in
batches_at_begin common jobs tasks = refl

after_put : (x : Made) (batches : List (List Job)) → batches_after (put_of x) batches ≡ batches
after_put (made.Board b) batches = refl
after_put (made.Solution s) batches = refl
after_put (made.Job j) batches = refl
after_put (made.Answer a) batches = refl

after_begin : (common : List ℕ) (jobs : List Job) (batches : List (List Job)) → batches_after (BeginBatch common) (jobs ∷ batches) ≡ batches
after_begin common jobs batches = refl

-- What comes to the rank.

refused_put : (x : Made) (batches : List (List Job)) (answer : Answer) → refused batches (put_of x) answer ≡ []
refused_put (made.Board b) [] answer = refl
refused_put (made.Solution s) [] answer = refl
refused_put (made.Job j) [] answer = refl
refused_put (made.Answer a) [] answer = refl
refused_put (made.Board b) (jobs ∷ batches) answer = refl
refused_put (made.Solution s) (jobs ∷ batches) answer = refl
refused_put (made.Job j) (jobs ∷ batches) answer = refl
refused_put (made.Answer a) (jobs ∷ batches) answer = refl

comes_accepted : (x : Made) (batches : List (List Job)) → comes None batches (put_of x) Fine ≡ []
comes_accepted (made.Board b) batches = ap calls_of (refused_put (made.Board b) batches Fine)
comes_accepted (made.Solution s) batches = ap calls_of (refused_put (made.Solution s) batches Fine)
comes_accepted (made.Job j) batches = ap calls_of (refused_put (made.Job j) batches Fine)
comes_accepted (made.Answer a) batches = ap calls_of (refused_put (made.Answer a) batches Fine)

comes_stopped : (x : Made) (batches : List (List Job)) (end : told_end.End) → comes None batches (put_of x) (Ended end) ≡ []
comes_stopped (made.Board b) batches end = ap calls_of (refused_put (made.Board b) batches (Ended end))
comes_stopped (made.Solution s) batches end = ap calls_of (refused_put (made.Solution s) batches (Ended end))
comes_stopped (made.Job j) batches end = ap calls_of (refused_put (made.Job j) batches (Ended end))
comes_stopped (made.Answer a) batches end = ap calls_of (refused_put (made.Answer a) batches (Ended end))

comes_rejected : (x : Made) (batches : List (List Job)) → comes None batches (put_of x) Rejected ≡ put_of x ∷ []
comes_rejected (made.Board b) batches = refl
comes_rejected (made.Solution s) batches = refl
comes_rejected (made.Job j) batches = refl
comes_rejected (made.Answer a) batches = refl

refused_end : (batches : List (List Job)) → refused batches EndBatch Fine ≡ []
refused_end [] = refl
refused_end (jobs ∷ batches) = refl

refused_reserve : (note : UnitNote) (batches : List (List Job)) → refused batches (Reserve None) (Granted note) ≡ []
refused_reserve note [] = refl
refused_reserve note (jobs ∷ batches) = refl

refused_told : (end : told_end.End) (batches : List (List Job)) → refused batches (Reserve None) (Ended end) ≡ []
refused_told end [] = refl
refused_told end (jobs ∷ batches) = refl

refused_fetch : (note : UnitNote) (batches : List (List Job)) (bytes : List ℕ) → refused batches (Fetch note.id) (Body bytes) ≡ []
refused_fetch note [] bytes = refl
refused_fetch note (jobs ∷ batches) bytes = refl

came_more : (came : List Arrival) (common : List ℕ) (x : Made) →
    came_calls (came ++ arrival common x ∷ []) ≡ came_calls came ++ put_of x ∷ []
came_more came common x =
    map-append (λ (a : Arrival). put_of a.unit) came (arrival common x ∷ [])

came_over : (common : List ℕ) (jobs : List Job) → came_calls (over_bytes common jobs) ≡ calls_of (as_units jobs)
came_over common [] = refl
came_over common (j ∷ jobs) = ap (λ cs. put_of (made.Job j) ∷ cs) (came_over common jobs)

came_all : (came : List Arrival) (common : List ℕ) (jobs : List Job) →
    came_calls (came ++ over_bytes common jobs) ≡ came_calls came ++ calls_of (as_units jobs)
came_all came common jobs =
    map-append (λ (a : Arrival). put_of a.unit) came (over_bytes common jobs) ∙ ap (λ cs. came_calls came ++ cs) (came_over common jobs)

none_more : (xs ys : List Call) → ys ≡ [] → xs ≡ xs ++ ys
none_more xs ys e = sym (ap (λ z. xs ++ z) e ∙ append-nil xs)

-- what one call brings: what came, what is held, and the batches that are left
pub record Came (b : Books) (s : Said) (next : Books) : Type 0 where
  pub came : came_calls next.came ≡ came_calls b.came ++ comes b.held (batches_in b.tasks) s.call s.answer
  pub holds : next.held ≡ note_of s.answer
  pub batches : batches_in next.tasks ≡ batches_after s.call (batches_in b.tasks)

put_batches : (x : Made) (rest : List Task) → batches_in rest ≡ batches_after (put_of x) (batches_in (Put x ∷ rest))
put_batches x rest = sym (after_put x (batches_in (Put x ∷ rest)) ∙ batches_at_put x rest)

begin_batches : (common : List ℕ) (jobs : List Job) (rest next : List Task) → batches_in next ≡ batches_in rest →
    batches_in next ≡ batches_after (BeginBatch common) (batches_in (Begin common jobs ∷ rest))
begin_batches common jobs rest next e = e ∙ sym (ap (batches_after (BeginBatch common)) (batches_at_begin common jobs rest))

-- a beginning of a batch, by what comes with this answer
comes_begin : (common : List ℕ) (jobs : List Job) (rest : List Task) (answer : Answer) (cs : List Call) →
    comes None (jobs ∷ batches_in rest) (BeginBatch common) answer ≡ cs →
    comes None (batches_in (Begin common jobs ∷ rest)) (BeginBatch common) answer ≡ cs
comes_begin common jobs rest answer cs e = ap (λ bs. comes None bs (BeginBatch common) answer) (batches_at_begin common jobs rest) ∙ e

came_brought : (grain : ℕ) (common : List ℕ) (o : Option Made) (came : List Arrival) →
    (came_calls (brought grain common o came).came ≡ came_calls came ++ calls_of (units_in o))
    × ((brought grain common o came).held ≡ None)
    × (batches_in (brought grain common o came).tasks ≡ batches_in [])
came_brought grain common None came = (none_more (came_calls came) [] refl, refl, refl)
came_brought grain common (Some x) came = (came_more came common x, refl, no_batches (makes grain (arrival common x)) [])

each_came : (grain : ℕ) → OfEach grain Came
each_came grain = record {
  at_accepted = λ x rest on came fits. record {
    came = none_more (came_calls came) _ (comes_accepted x (batches_in (Put x ∷ rest)));
    holds = refl;
    batches = put_batches x rest;
  };
  at_rejected = λ x rest on came. record {
    came = came_more came (bytes_on on) x ∙ ap (λ cs. came_calls came ++ cs) (sym (comes_rejected x (batches_in (Put x ∷ rest))));
    holds = refl;
    batches = no_batches (makes grain (arrival (bytes_on on) x)) rest ∙ put_batches x rest;
  };
  at_stopped = λ x rest on came end. record {
    came = none_more (came_calls came) _ (comes_stopped x (batches_in (Put x ∷ rest)) end);
    holds = refl;
    batches = put_batches x rest;
  };
  at_begun = λ common jobs rest came. record {
    came = none_more (came_calls came) _ (comes_begin common jobs rest Fine [] refl);
    holds = refl;
    batches = begin_batches common jobs rest (put_all (as_units jobs) ++ End ∷ rest)
        (no_batches (as_units jobs) (End ∷ rest) ∙ batches_at_end rest);
  };
  at_refused = λ common jobs rest came. record {
    came = came_all came common jobs ∙ ap (λ cs. came_calls came ++ cs)
        (sym (comes_begin common jobs rest Rejected (calls_of (as_units jobs)) refl));
    holds = refl;
    batches = begin_batches common jobs rest (put_all (flat_map (makes grain) (over_bytes common jobs)) ++ rest)
        (no_batches (flat_map (makes grain) (over_bytes common jobs)) rest);
  };
  at_stopped_before = λ common jobs rest came end. record {
    came = none_more (came_calls came) _ (comes_begin common jobs rest (Ended end) [] refl);
    holds = refl;
    batches = begin_batches common jobs rest (put_all (as_units jobs) ++ rest) (no_batches (as_units jobs) rest);
  };
  at_closed = λ common rest came. record {
    came = none_more (came_calls came) _ (ap calls_of (refused_end (batches_in (End ∷ rest))));
    holds = refl;
    batches = sym (batches_at_end rest);
  };
  at_closed_behind = λ common rest came. record {
    came = none_more (came_calls came) _ (ap calls_of (refused_end (batches_in rest)));
    holds = refl;
    batches = refl;
  };
  at_granted = λ came note. record {
    came = none_more (came_calls came) _
        (ap calls_of (refused_reserve note (batches_in [])));
    holds = refl;
    batches = refl;
  };
  at_told = λ came end. record {
    came = none_more (came_calls came) _
        (ap calls_of (refused_told end (batches_in [])));
    holds = refl;
    batches = refl;
  };
  at_fetched = λ came note bytes. let is = came_brought grain (common_bytes note.length bytes) (unit_fetched note bytes) came in
      record { came = is.0; holds = is.1; batches = is.2 };
}

-- what came in all
all_came : (grain : ℕ) (b : Books) (said : List Said) (last : Books) → Goes grain b said last →
    came_calls last.came ≡ came_calls b.came ++ all_come b.held (batches_in b.tasks) said
unfolding all_come
all_came grain b [] last same = ap (λ (x : Books). came_calls x.came) (sym same) ∙ sym (append-nil (came_calls b.came))
all_came grain b (s ∷ said) last goes =
    let is : Came b s goes.0 = of_move grain Came (each_came grain) b s goes.0 goes.1 in
    let here : List Call = comes b.held (batches_in b.tasks) s.call s.answer in
    let rest : List Call = all_come (note_of s.answer) (batches_after s.call (batches_in b.tasks)) said in
    all_came grain goes.0 said last goes.2
    ∙ ap (λ h. came_calls goes.0.came ++ all_come h (batches_in goes.0.tasks) said) is.holds
    ∙ ap (λ bs. came_calls goes.0.came ++ all_come (note_of s.answer) bs said) is.batches
    ∙ ap (λ x. x ++ rest) is.came
    ∙ append_assoc (came_calls b.came) here rest

-- what came by the calls is what the books say came
pub came_is : (p : PuzzleProgram) (said : List Said) (last : Books) → Goes p.settings.grain (start_of p) said last →
    all_come None (batches_in (tasks_of p)) said ≡ came_calls last.came
came_is p said last goes = sym (all_came p.settings.grain (start_of p) said last goes)

-- What is put.

put_units : (units : List Made) (tasks : List Task) → all_units (put_all units ++ tasks) ≡ units ++ all_units tasks
put_units [] tasks = refl
put_units (x ∷ units) tasks = ap (λ us. x ∷ us) (put_units units tasks)

-- what comes with a call, and the units that it puts. What is made then is among the units that are put or to be put, or no server
-- takes its batch
pub record Adds (grain : ℕ) (b : Books) (s : Said) (next : Books) : Type 0 where
  pub extra : List Arrival
  pub came : next.came ≡ b.came ++ extra
  pub sent : List Made
  pub is : put_call s.call ≡ map put_of sent
  pub all : (q : Made → Bool) → count_by q (all_units b.tasks) + count_by q (flat_map (makes grain) extra)
      ≡ count_by q sent + count_by q (all_units next.tasks) + count_by q (refused (batches_in b.tasks) s.call s.answer)

put_call_is : (x : Made) → put_call (put_of x) ≡ map put_of (x ∷ [])
put_call_is (made.Board b) = refl
put_call_is (made.Solution s) = refl
put_call_is (made.Job j) = refl
put_call_is (made.Answer a) = refl

-- nothing is refused in this call
none_refused : (q : Made → Bool) (us : List Made) → us ≡ [] → count_by q us ≡ 0
none_refused q us e = ap (count_by q) e

both : (q : Made → Bool) (xs ys : List Made) → count_by q (xs ++ ys) ≡ count_by q xs + count_by q ys
both q xs ys = sum_by-append (λ x. cond (q x) 1 0) xs ys

adds_put : (grain : ℕ) (x : Made) (rest : List Task) (on : Option (List ℕ)) (came : List Arrival) (answer : Answer) (next : Books) →
    next.came ≡ came → next.tasks ≡ rest → Adds grain (going (Put x ∷ rest) on came) (said_of (put_of x) answer) next
adds_put grain x rest on came answer next e f = record {
  extra = [];
  came = e ∙ sym (append-nil came);
  sent = x ∷ [];
  is = put_call_is x;
  all = λ q.
      let none = none_refused q _ (refused_put x (batches_in (Put x ∷ rest)) answer) in
      let same : count_by q (all_units next.tasks) ≡ count_by q (all_units rest) = ap (λ ts. count_by q (all_units ts)) f in
      omega (arith, both q (x ∷ []) (all_units rest), none, same);
}

adds_rejected : (grain : ℕ) (x : Made) (rest : List Task) (on : Option (List ℕ)) (came : List Arrival) →
    Adds grain (going (Put x ∷ rest) on came) (said_of (put_of x) Rejected) (received grain (arrival (bytes_on on) x) rest on came)
adds_rejected grain x rest on came = record {
  extra = arrival (bytes_on on) x ∷ [];
  came = refl;
  sent = x ∷ [];
  is = put_call_is x;
  all = λ q.
      let none = none_refused q _ (refused_put x (batches_in (Put x ∷ rest)) Rejected) in
      let new : List Made = makes grain (arrival (bytes_on on) x) in
      let same : count_by q (all_units (put_all new ++ rest)) ≡ count_by q (new ++ all_units rest) = ap (count_by q) (put_units new rest) in
      let one : count_by q (flat_map (makes grain) (arrival (bytes_on on) x ∷ [])) ≡ count_by q new = ap (count_by q) (append-nil new) in
      omega (arith, both q (x ∷ []) (all_units rest), none, same, both q new (all_units rest), one);
}

-- a batch that is begun or left
adds_jobs : (grain : ℕ) (common : List ℕ) (jobs : List Job) (rest : List Task) (came : List Arrival) (answer : Answer) (next : Books) →
    next.came ≡ came → all_units next.tasks ≡ as_units jobs ++ all_units rest →
    refused (jobs ∷ batches_in rest) (BeginBatch common) answer ≡ [] →
    Adds grain (going (Begin common jobs ∷ rest) None came) (said_of (BeginBatch common) answer) next
adds_jobs grain common jobs rest came answer next e f g = record {
  extra = [];
  came = e ∙ sym (append-nil came);
  sent = [];
  is = refl;
  all = λ q.
      let none = none_refused q (refused (batches_in (Begin common jobs ∷ rest)) (BeginBatch common) answer)
      (ap (λ bs. refused bs (BeginBatch common) answer) (batches_at_begin common jobs rest) ∙ g) in
      let same : count_by q (all_units next.tasks) ≡ count_by q (as_units jobs ++ all_units rest) = ap (count_by q) f in
      omega (arith, none, same, both q (as_units jobs) (all_units rest));
}

adds_refused : (grain : ℕ) (common : List ℕ) (jobs : List Job) (rest : List Task) (came : List Arrival) →
    Adds grain (going (Begin common jobs ∷ rest) None came) (said_of (BeginBatch common) Rejected)
    (without_batch grain common jobs rest came)
adds_refused grain common jobs rest came = record {
  extra = over_bytes common jobs;
  came = refl;
  sent = [];
  is = refl;
  all = λ q.
      let new : List Made = flat_map (makes grain) (over_bytes common jobs) in
      let own : count_by q (refused (batches_in (Begin common jobs ∷ rest)) (BeginBatch common) Rejected) ≡ count_by q (as_units jobs) =
      ap (λ bs. count_by q (refused bs (BeginBatch common) Rejected)) (batches_at_begin common jobs rest) in
      let same : count_by q (all_units (put_all new ++ rest)) ≡ count_by q (new ++ all_units rest) = ap (count_by q) (put_units new rest) in
      omega (arith, own, same, both q (as_units jobs) (all_units rest), both q new (all_units rest));
}

adds_none : (grain : ℕ) (b : Books) (s : Said) (next : Books) → next.came ≡ b.came → put_call s.call ≡ [] →
    all_units next.tasks ≡ all_units b.tasks →
    refused (batches_in b.tasks) s.call s.answer ≡ [] → Adds grain b s next
adds_none grain b s next e f g h = record {
  extra = [];
  came = e ∙ sym (append-nil b.came);
  sent = [];
  is = f;
  all = λ q.
      let none = none_refused q _ h in
      let same : count_by q (all_units next.tasks) ≡ count_by q (all_units b.tasks) = ap (count_by q) g in
      omega (arith, none, same);
}

adds_brought : (grain : ℕ) (common : List ℕ) (o : Option Made) (came : List Arrival) (note : UnitNote) (bytes : List ℕ) →
    Adds grain (holding note came) (said_of (Fetch note.id) (Body bytes)) (brought grain common o came)
adds_brought grain common None came note bytes =
    adds_none grain (holding note came) (said_of (Fetch note.id) (Body bytes)) (going [] None came) refl refl refl
    (refused_fetch note (batches_in []) bytes)
adds_brought grain common (Some x) came note bytes = record {
  extra = arrival common x ∷ [];
  came = refl;
  sent = [];
  is = refl;
  all = λ q.
      let none = none_refused q _ (refused_fetch note (batches_in []) bytes) in
      let new : List Made = makes grain (arrival common x) in
      let same : count_by q (all_units (put_all new ++ [])) ≡ count_by q new = ap (count_by q) (put_units new [] ∙ append-nil new) in
      let one : count_by q (flat_map (makes grain) (arrival common x ∷ [])) ≡ count_by q new = ap (count_by q) (append-nil new) in
      omega (arith, none, same, one);
}

each_adds : (grain : ℕ) → OfEach grain (Adds grain)
each_adds grain = record {
  at_accepted = λ x rest on came fits. adds_put grain x rest on came Fine (going rest on came) refl refl;
  at_rejected = adds_rejected grain;
  at_stopped = λ x rest on came end. adds_put grain x rest on came (Ended end) (shut rest on came) refl refl;
  at_begun = λ common jobs rest came. adds_jobs grain common jobs rest came Fine (in_batch common jobs rest came) refl
      (put_units (as_units jobs) (End ∷ rest)) refl;
  at_refused = adds_refused grain;
  at_stopped_before = λ common jobs rest came end. adds_jobs grain common jobs rest came (Ended end)
      (shut (put_all (as_units jobs) ++ rest) None came) refl
      (put_units (as_units jobs) rest) refl;
  at_closed = λ common rest came. adds_none grain (going (End ∷ rest) (Some common) came) (said_of EndBatch Fine)
      (going rest None came) refl refl refl
      (refused_end (batches_in (End ∷ rest)));
  at_closed_behind = λ common rest came. adds_none grain (shut rest (Some common) came) (said_of EndBatch Fine)
      (shut rest None came) refl refl refl
      (refused_end (batches_in rest));
  at_granted = λ came note. adds_none grain (going [] None came) (said_of (Reserve None) (Granted note)) (holding note came) refl refl refl
      (refused_reserve note (batches_in []));
  at_told = λ came end. adds_none grain (going [] None came) (said_of (Reserve None) (Ended end)) (shut [] None came) refl refl refl
      (refused_told end (batches_in []));
  at_fetched = λ came note bytes. adds_brought grain (common_bytes note.length bytes) (unit_fetched note bytes) came note bytes;
}

-- what comes with calls, and the units that they put
pub record Sums (grain : ℕ) (b : Books) (said : List Said) (last : Books) : Type 0 where
  pub extra : List Arrival
  pub came : last.came ≡ b.came ++ extra
  pub sent : List Made
  pub is : puts said ≡ map put_of sent
  pub all : (q : Made → Bool) → count_by q (all_units b.tasks) + count_by q (flat_map (makes grain) extra)
      ≡ count_by q sent + count_by q (all_units last.tasks) + count_by q (all_refused (batches_in b.tasks) said)

sums : (grain : ℕ) (b : Books) (said : List Said) (last : Books) → Goes grain b said last → Sums grain b said last
unfolding puts all_refused
sums grain b [] last same = record {
  extra = [];
  came = ap (λ (x : Books). x.came) (sym same) ∙ sym (append-nil b.came);
  sent = [];
  is = refl;
  all = λ q. let e : count_by q (all_units b.tasks) ≡
      count_by q (all_units last.tasks) = ap (λ (x : Books). count_by q (all_units x.tasks)) same in omega (arith, e);
}
sums grain b (s ∷ said) last goes =
    let here : Adds grain b s goes.0 = of_move grain (Adds grain) (each_adds grain) b s goes.0 goes.1 in
    let came : Came b s goes.0 = of_move grain Came (each_came grain) b s goes.0 goes.1 in
    let later : Sums grain goes.0 said last = sums grain goes.0 said last goes.2 in
    record {
      extra = here.extra ++ later.extra;
      came = later.came ∙ ap (λ w. w ++ later.extra) here.came ∙ append_assoc b.came here.extra later.extra;
      sent = here.sent ++ later.sent;
      is = ap (λ cs. cs ++ puts said) here.is ∙ ap (λ cs. map put_of here.sent ++ cs) later.is
          ∙ sym (map-append put_of here.sent later.sent);
      all = λ q.
          let made_all : count_by q (flat_map (makes grain) (here.extra ++ later.extra)) ≡
          count_by q (flat_map (makes grain) here.extra ++ flat_map (makes grain) later.extra) =
          ap (count_by q) (flat_map-append (makes grain) here.extra later.extra) in
          let R : List (List Job) → List Made = λ bs. all_refused bs said in
          let batches : count_by q (R (batches_in goes.0.tasks)) ≡
          count_by q (R (batches_after s.call (batches_in b.tasks))) = ap (λ bs. count_by q (R bs)) came.batches in
          omega (
            arith,
            here.all q,
            later.all q,
            made_all,
            batches,
            both q (flat_map (makes grain) here.extra) (flat_map (makes grain) later.extra),
            both q here.sent later.sent,
            both q (refused (batches_in b.tasks) s.call s.answer) (R (batches_after s.call (batches_in b.tasks))),
          );
    }

-- what the work makes is what was put, is still to be put, or is in refused batches
pub puts_sum : (p : PuzzleProgram) (said : List Said) (last : Books) → Goes p.settings.grain (start_of p) said last →
    IsPermutation (map put_of (all_made p last.came))
    (puts said ++ map put_of (all_units last.tasks ++ all_refused (batches_in (tasks_of p)) said))
puts_sum p said last goes =
    let is : Sums p.settings.grain (start_of p) said last = sums p.settings.grain (start_of p) said last goes in
    let first : List Made = all_units (tasks_of p) in
    let more : List Made = flat_map (makes p.settings.grain) is.extra in
    let left : List Made = all_units last.tasks in
    let back : List Made = all_refused (batches_in (tasks_of p)) said in
    let order : IsPermutation (first ++ more) (is.sent ++ (left ++ back)) = units_by_counts (first ++ more) (is.sent ++ (left ++ back))
    (λ q. omega (arith, is.all q, both q first more, both q is.sent (left ++ back), both q left back)) in
    let calls : IsPermutation (map put_of (first ++ more)) (map put_of (is.sent ++ (left ++ back))) =
    IsPermutation-map put_of (first ++ more) (is.sent ++ (left ++ back)) order in
    let split : map put_of (is.sent ++ (left ++ back)) ≡ puts said ++ map put_of (left ++ back) =
    map-append put_of is.sent (left ++ back) ∙ ap (λ cs. cs ++ map put_of (left ++ back)) (sym is.is) in
    subst (λ w. IsPermutation (map put_of (all_made p w)) (puts said ++ map put_of (left ++ back))) (sym is.came)
    (subst (λ l. IsPermutation (map put_of (first ++ more)) l) split calls)

-- after a call the rank holds the unit of its answer, if it is a grant
pub move_holds : (grain : ℕ) (b next : Books) (s : Said) → Moves grain b s next → next.held ≡ note_of s.answer
move_holds grain b next s move = let came : Came b s next = of_move grain Came (each_came grain) b s next move in came.holds
