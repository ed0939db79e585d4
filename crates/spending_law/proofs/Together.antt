-- How many calls all ranks together have begun.
use Rattle.std.proofs.Common.{◌≡◌, ◌<◌, ◌≤◌, ◌+◌, ◌*◌, ◌==◌, ℕ, zero, suc, Bool, false, cond, List, [], ◌∷◌, ◌++◌, length}
use Rattle.std.proofs.Common.{Option, Some, None, is_some, refl, sym, ap, ◌∙◌, subst, arith, sum_by, append-nil, ◌⊎◌, inl, inr}
use Rattle.std.proofs.lemmas.Bool.{ne_eqb}
use Rattle.std.proofs.lemmas.List.{length-append}
use Rattle.std.proofs.lemmas.List.Sums.{sum_by-append}
use Rattle.adlb_unit.specs.declared.configs.Config.{Config}
use Rattle.adlb_unit.specs.declared.names.Rank.{Rank}
use Rattle.adlb_unit.specs.declared.notes.UnitNote.{UnitNote}
use Rattle.bag_ledger.specs.declared.entries.Answer.{Answer}
use Rattle.bag_ledger.specs.declared.entries.Answer.TheVariants as answers
use Rattle.bag_ledger.specs.declared.entries.Call.{Call}
use Rattle.bag_ledger.specs.declared.entries.Call.TheVariants as calls_to
use Rattle.bag_ledger.specs.declared.entries.Entry.{Entry}
use Rattle.bag_ledger.specs.declared.entries.Said.{Said}
use Rattle.bag_ledger.specs.Bag.{Bag, start}
use Rattle.bag_ledger.specs.Runs.{IsRun, calls}
use Rattle.balance_law.specs.Balanced.{over_ranks}
use Rattle.balance_law.specs.Orderly.{finish}
use Rattle.balance_law.specs.Parcels.{Parcel, batch_after, got, granted_note, parcel_got, parcel_sent, sent}
use Rattle.balance_law.proofs.Causes.{batch_behind, got-append, held_after, sent-append}
use Rattle.cover_law.specs.Begun.{all_begun, begun_by, pending_of}
use Rattle.cover_law.specs.Grants.{AreOfGrants, FetchGrants, IsOfGrant}
use Rattle.cover_law.proofs.Begun.{at_most_one, few_begun}
use Rattle.job_text.specs.declared.jobs.Job.{Job}
use Rattle.job_units.specs.Forms.{IsUnit}
use Rattle.job_units.specs.Puts.{put_of}
use Rattle.job_units.specs.declared.units.Made.{Made}
use Rattle.puzzle_app.specs.Arrivals.{Arrival, arrival, bytes_on}
use Rattle.puzzle_app.specs.Books.{Books, Goes, Moves, going, said_of}
use Rattle.puzzle_app.specs.Books as moves
use Rattle.puzzle_app.specs.Follows.{IsSoFar, IsUnderWay, start_of}
use Rattle.puzzle_app.specs.Working.{tasks_of}
use Rattle.puzzle_app.specs.Tasks.{Put, Task, tasks}
use Rattle.puzzle_app.specs.declared.outcomes.Settings.{Settings}
use Rattle.puzzle_app.specs.declared.program.PuzzleProgram.{PuzzleProgram}
use Rattle.puzzle_app.proofs.Calling.{OfEach, of_move, so_on}
use Rattle.puzzle_app.proofs.UnderWay.{way_so}
use Rattle.puzzle_law.specs.Joined.{jobs_of}
use Rattle.rank_client.specs.Calls.{is_open}
use Rattle.puzzle_law.proofs.Pieces.{waits}
use Rattle.spending_law.specs.Most.{batches, most_calls, units_made}
use Rattle.spending_law.specs.UnderWay.{AreUnderWay, HasCome, IsLeaving, IsRankUnderWay, both, closes, finishes, hears, leaves, works}
use Rattle.spending_law.proofs.Spending.{Keeps, all_spend, begins, credit, if_so, keeps, made, owed, owes_one, put_weighs, put_worth, worth}
use Rattle.spending_law.proofs.Waiting.{of_put}
use Rattle.spending_law.proofs.Worths.{batches_begun, tasks_worth, worth_law, worth_of}

-- Ranks that run their programs fetch what they were granted.

abbrev OfGrant : Books → Said → Books → Type 0
OfGrant b s next = IsOfGrant b.held s.call

put_free : (unit : Made) → IsOfGrant None (put_of unit)
put_free unit = of_put (IsOfGrant None) (λ kind prio target answer body. tt) unit

of_grants : (grain : ℕ) → OfEach grain OfGrant
of_grants grain = record {
  at_accepted = λ unit rest on came fits. put_free unit;
  at_rejected = λ unit rest on came. put_free unit;
  at_stopped = λ unit rest on came end. put_free unit;
  at_begun = λ common jobs rest came. tt;
  at_refused = λ common jobs rest came. tt;
  at_stopped_before = λ common jobs rest came end. tt;
  at_closed = λ common rest came. tt;
  at_closed_behind = λ common rest came. tt;
  at_granted = λ came note. tt;
  at_told = λ came end. tt;
  at_fetched = λ came note bytes. refl;
}

none_grants : (held : Option UnitNote) → AreOfGrants held []
unfolding AreOfGrants
none_grants held = tt

one_grants : (held : Option UnitNote) (s : Said) → IsOfGrant held s.call → AreOfGrants held (s ∷ [])
unfolding AreOfGrants
one_grants held s is = (is, none_grants (granted_note s.answer))

-- The calls of a rank that leaves send and get nothing.

-- a call that ends a batch or is the last
abbrev IsLate : Call → Type 0
IsLate call = (call ≡ calls_to.EndBatch) ⊎ (call ≡ calls_to.Finish)

-- such a call fetches nothing, sends nothing and gets nothing
record IsVain (s : Said) : Type 0 where
  free : (held : Option UnitNote) → IsOfGrant held s.call
  sends : (batch : Option (List ℕ)) → parcel_sent batch s.call s.answer ≡ []
  gets : (held : Option UnitNote) → parcel_got held s.call s.answer ≡ []

late_vain : (s : Said) → IsLate s.call → IsVain s
late_vain s (inl is) = record {
  free = λ held. rw is (free held);
  sends = λ batch. rw is refl;
  gets = λ held. rw is (gets held);
}
  where
    free : (held : Option UnitNote) → IsOfGrant held calls_to.EndBatch
    free None = tt
    free (Some note) = tt

    gets : (held : Option UnitNote) → parcel_got held calls_to.EndBatch s.answer ≡ []
    gets None = refl
    gets (Some note) = refl
late_vain s (inr is) = record {
  free = λ held. rw is (free held);
  sends = λ batch. rw is refl;
  gets = λ held. rw is (gets held);
}
  where
    free : (held : Option UnitNote) → IsOfGrant held calls_to.Finish
    free None = tt
    free (Some note) = tt

    gets : (held : Option UnitNote) → parcel_got held calls_to.Finish s.answer ≡ []
    gets None = refl
    gets (Some note) = refl

-- nor do such calls
record AreVain (late : List Said) : Type 0 where
  free : (held : Option UnitNote) → AreOfGrants held late
  sends : (batch : Option (List ℕ)) → sent batch late ≡ []
  gets : (held : Option UnitNote) → got held late ≡ []

no_calls : AreVain []
unfolding AreOfGrants sent got
no_calls = record { free = λ held. tt; sends = λ batch. refl; gets = λ held. refl }

more_vain : (s : Said) (late : List Said) → IsVain s → AreVain late → AreVain (s ∷ late)
unfolding AreOfGrants sent got
more_vain s late vain others = record {
  free = λ held. (vain.free held, others.free (granted_note s.answer));
  sends = λ batch.
      ap (λ l. l ++ sent (batch_after batch s.call s.answer) late) (vain.sends batch)
      ∙ others.sends (batch_after batch s.call s.answer);
  gets = λ held. ap (λ l. l ++ got (granted_note s.answer) late) (vain.gets held) ∙ others.gets (granted_note s.answer);
}

-- after others they send and get nothing
same_sent : (own late : List Said) → AreVain late → sent None (own ++ late) ≡ sent None own
same_sent own late vain =
    sent-append None own late ∙ ap (λ l. sent None own ++ l) (vain.sends (batch_behind None own)) ∙ append-nil (sent None own)

same_got : (own late : List Said) → AreVain late → got None (own ++ late) ≡ got None own
same_got own late vain =
    got-append None own late ∙ ap (λ l. got None own ++ l) (vain.gets (held_after None own)) ∙ append-nil (got None own)

-- and there is one at most, or two where a batch goes on
record AreLast (on : Bool) (late : List Said) : Type 0 where
  vain : AreVain late
  few : length late ≤ 1 + if_so on 1

leaving_is : (on : Bool) (late : List Said) → IsLeaving on late → AreLast on late
leaving_is on late (closes s on_is is same) =
    rw (same, on_is) (record { vain = more_vain s [] (late_vain s (inl is)) no_calls; few = omega arith })
leaving_is on late (finishes s is same) =
    rw same (record { vain = more_vain s [] (late_vain s (inr is)) no_calls; few = omega arith })
leaving_is on late (both s t on_is is last same) =
    rw (same, on_is) (record {
      vain = more_vain s (t ∷ []) (late_vain s (inl is)) (more_vain t [] (late_vain t (inr last)) no_calls);
      few = omega arith;
    })

goes_grants : (grain : ℕ) (b : Books) (said more : List Said) (last : Books) → Goes grain b said last → AreOfGrants last.held more
    → AreOfGrants b.held (said ++ more)
unfolding AreOfGrants
goes_grants grain b [] more last goes later = subst (λ (x : Books). AreOfGrants x.held more) (sym goes) later
goes_grants grain b (s ∷ said) more last goes later =
    let kept = of_move grain Keeps (keeps grain) b s goes.0 goes.1 in (
      of_move grain OfGrant (of_grants grain) b s goes.0 goes.1,
      subst (λ h. AreOfGrants h (said ++ more)) kept.0 (goes_grants grain goes.0 said more last goes.2 later),
    )

-- the calls before the last, and that
goes_then : (grain : ℕ) (b : Books) (own : List Said) (s : Said) (last : Books) → Goes grain b (own ++ s ∷ []) last
    → (mid : Books) × Goes grain b own mid × Moves grain mid s last
goes_then grain b [] s last goes = (b, refl, subst (λ (x : Books). Moves grain b s x) goes.2 goes.1)
goes_then grain b (t ∷ own) s last goes =
    let later = goes_then grain goes.0 own s last goes.2 in (later.0, (goes.0, goes.1, later.1), later.2)

rank_grants : (config : Config) (ledger : List Entry) (last : Bag) (settings : Settings) (jobs : List Job) (rank : Rank)
    → IsRankUnderWay config ledger last settings jobs rank → AreOfGrants None (calls config ledger rank)
rank_grants config ledger last settings jobs rank is = by_way (calls config ledger rank) is.stands
  where
    by_way : (said : List Said) → HasCome is.program said (pending_of last rank) → AreOfGrants None said
    by_way said (works so) =
        subst (λ l. AreOfGrants None l) (append-nil said)
        (goes_grants is.program.settings.grain (start_of is.program) said [] so.last so.goes (none_grants so.last.held))
    by_way said (hears own s way same none) =
        let grain = is.program.settings.grain in
        let so = way.1 in
        let then = goes_then grain (start_of is.program) own (said_of s.call way.0) so.last so.goes in
        let next : IsOfGrant then.0.held s.call =
        of_move grain OfGrant (of_grants grain) then.0 (said_of s.call way.0) so.last then.2 in
        subst (λ l. AreOfGrants None l) (sym same)
        (goes_grants grain (start_of is.program) own (s ∷ []) then.0 then.1 (one_grants then.0.held s next))
    by_way said (leaves own late so leaving same none) =
        subst (λ l. AreOfGrants None l) (sym same)
        (goes_grants is.program.settings.grain (start_of is.program) own late so.last so.goes
        ((leaving_is (is_open own) late leaving).vain.free so.last.held))

-- One rank.

-- what the tasks of the rank are worth
abbrev first_credit : ℕ → ℕ → List Job → Rank → ℕ
first_credit budget grain jobs rank =
    sum_by (worth_of grain) (waits None (tasks budget (jobs_of jobs rank))) + 2 * begins (tasks budget (jobs_of jobs rank))

-- a batch that goes on has its end to come
batch_credit : (grain : ℕ) (b : Books) → if_so (is_some b.on) 1 ≤ credit grain (worth_of grain) (worth_law grain) b
unfolding credit
batch_credit grain b = omega arith

-- at the start a rank has its tasks, and owes nothing
start_credit : (grain : ℕ) (first : List Task)
    → (credit grain (worth_of grain) (worth_law grain) (going first None [])
    ≡ sum_by (worth_of grain) (waits None first) + 2 * begins first)
    × (owed (going first None []) ≡ 0)
unfolding credit owed
start_credit grain first = (omega arith, refl)

-- what parcels are worth
abbrev value : ℕ → Parcel → ℕ
value grain = worth grain (worth_of grain) (worth_law grain)

-- the calls of a program up to these books, with what was sent by them and what the books have left, are as many as its tasks and what it
-- got are worth, and what is owed
goes_spends : (p : PuzzleProgram) (grain : ℕ) (first : List Task) (said : List Said) → p.settings.grain ≡ grain → tasks_of p ≡ first
    → (last : Books) → Goes p.settings.grain (start_of p) said last
    → length said + sum_by (value grain) (sent None said) + credit grain (worth_of grain) (worth_law grain) last
    ≤ sum_by (worth_of grain) (waits None first) + 2 * begins first + sum_by (value grain) (got None said) + owed last
goes_spends p grain first said same its last its_goes =
    let goes : Goes grain (going first None []) said last =
    subst (λ g. Goes g (going first None []) said last) same
    (subst (λ f. Goes p.settings.grain (going f None []) said last) its its_goes) in
    let spends = all_spend grain (worth_of grain) (worth_law grain) (going first None []) said last goes in
    let start = start_credit grain first in
    omega (arith, spends, start.0, start.1)

-- the calls of a program so far, with what was sent by them, are as many as its tasks and what it got are worth, and one more
so_far_spends : (p : PuzzleProgram) (grain : ℕ) (first : List Task) (said : List Said) → p.settings.grain ≡ grain → tasks_of p ≡ first
    → IsSoFar p said
    → length said + sum_by (value grain) (sent None said) + if_so (is_open said) 1
    ≤ sum_by (worth_of grain) (waits None first) + 2 * begins first + sum_by (value grain) (got None said) + 1
so_far_spends p grain first said same its so =
    let spends = goes_spends p grain first said same its so.last so.goes in
    let on : if_so (is_open said) 1 ≡ if_so (is_some so.last.on) 1 = ap (λ t. if_so t 1) (so_on p said so.last so.goes) in
    omega (arith, spends, owes_one so.last, on, batch_credit grain so.last)

-- The call that such a rank begins next, whatever its answer.

-- the batch that goes on
goes_batch : (grain : ℕ) (b : Books) (said : List Said) (last : Books) → Goes grain b said last → batch_behind b.on said ≡ last.on
unfolding batch_behind
goes_batch grain b [] last goes = ap (λ (x : Books). x.on) goes
goes_batch grain b (s ∷ said) last goes =
    ap (λ o. batch_behind o said) (of_move grain Keeps (keeps grain) b s goes.0 goes.1).1 ∙ goes_batch grain goes.0 said last goes.2

-- it costs what the books have left, and two more, whatever is answered
abbrev CanPay : ℕ → Books → Call → Type 0
CanPay grain b call = (a : Answer) → 1 + sum_by (value grain) (parcel_sent b.on call a) + owed b
    ≤ credit grain (worth_of grain) (worth_law grain) b + 2

-- a put brings nothing but its unit, and that if it is accepted
put_pays : (grain : ℕ) (unit : Made) (rest : List Task) (on : Option (List ℕ)) (came : List Arrival) → IsUnit unit
    → CanPay grain (going (Put unit ∷ rest) on came) (put_of unit)
unfolding credit owed made
put_pays grain unit rest on came fits answers.Fine =
    omega (
      arith,
      put_worth grain (worth_of grain) (worth_law grain) unit on fits,
      put_weighs grain (worth_of grain) (worth_law grain) on unit rest,
      worth_law grain (arrival (bytes_on on) unit),
    )
put_pays grain unit rest on came fits a =
    let none : sum_by (value grain) (parcel_sent on (put_of unit) a) ≡ 0 =
    of_put (λ call. sum_by (value grain) (parcel_sent on call a) ≡ 0) (λ kind prio target rank body. refl) unit in
    omega (arith, none)

-- other calls send nothing
other_pays : (grain : ℕ) (b : Books) (call : Call) → ((a : Answer) → parcel_sent b.on call a ≡ []) → CanPay grain b call
other_pays grain b call none a = omega (arith, ap (sum_by (value grain)) (none a), owes_one b)

of_its : (grain : ℕ) (b : Books) (s : Said) (x : Books) (call : Call) → b ≡ x → s.call ≡ call → CanPay grain x call
    → CanPay grain b s.call
of_its grain b s x call e f pays = subst (λ (y : Books). CanPay grain y s.call) (sym e) (subst (λ c. CanPay grain x c) (sym f) pays)

sends_none : (grain : ℕ) (b : Books) (s : Said) (call : Call) → s.call ≡ call → ((a : Answer) → parcel_sent b.on call a ≡ [])
    → CanPay grain b s.call
sends_none grain b s call f none = subst (λ c. CanPay grain b c) (sym f) (other_pays grain b call none)

move_pays : (grain : ℕ) (b : Books) (s : Said) (next : Books) → Moves grain b s next → CanPay grain b s.call
move_pays grain b s next (moves.accepted unit rest on came fits e f g) =
    of_its grain b s _ (put_of unit) e (ap (λ (t : Said). t.call) f) (put_pays grain unit rest on came fits)
move_pays grain b s next (moves.rejected unit rest on came fits e f g) =
    of_its grain b s _ (put_of unit) e (ap (λ (t : Said). t.call) f) (put_pays grain unit rest on came fits)
move_pays grain b s next (moves.stopped unit rest on came end fits e f g) =
    of_its grain b s _ (put_of unit) e (ap (λ (t : Said). t.call) f) (put_pays grain unit rest on came fits)
move_pays grain b s next (moves.begun common jobs rest came e f g) = sends_none grain b s _ (ap (λ (t : Said). t.call) f) (λ a. refl)
move_pays grain b s next (moves.refused common jobs rest came e f g) = sends_none grain b s _ (ap (λ (t : Said). t.call) f) (λ a. refl)
move_pays grain b s next (moves.stopped_before common jobs rest came end e f g) =
    sends_none grain b s _ (ap (λ (t : Said). t.call) f) (λ a. refl)
move_pays grain b s next (moves.closed common rest came e f g) = sends_none grain b s _ (ap (λ (t : Said). t.call) f) (λ a. refl)
move_pays grain b s next (moves.closed_behind common rest came e f g) =
    sends_none grain b s _ (ap (λ (t : Said). t.call) f) (λ a. refl)
move_pays grain b s next (moves.granted came note e f g) = sends_none grain b s _ (ap (λ (t : Said). t.call) f) (λ a. refl)
move_pays grain b s next (moves.told came end e f g) = sends_none grain b s _ (ap (λ (t : Said). t.call) f) (λ a. refl)
move_pays grain b s next (moves.fetched came note bytes unit is e f g) =
    sends_none grain b s _ (ap (λ (t : Said). t.call) f) (λ a. refl)

-- the calls of a program so far and the next one, which has its answer, are as many as its tasks and what it got are worth, and two more
next_spends : (p : PuzzleProgram) (grain : ℕ) (first : List Task) (own : List Said) (s : Said) (answer : Answer) → p.settings.grain ≡ grain
    → tasks_of p ≡ first → IsSoFar p (own ++ said_of s.call answer ∷ [])
    → length own + 1 + sum_by (value grain) (sent None (own ++ s ∷ []))
    ≤ sum_by (worth_of grain) (waits None first) + 2 * begins first + sum_by (value grain) (got None (own ++ s ∷ [])) + 2
unfolding sent
next_spends p grain first own s answer same its so =
    let then = goes_then p.settings.grain (start_of p) own (said_of s.call answer) so.last so.goes in
    let spends = goes_spends p grain first own same its then.0 then.1 in
    let pays = move_pays grain then.0 (said_of s.call answer) so.last
    (subst (λ g. Moves g then.0 (said_of s.call answer) so.last) same then.2)
    s.answer in
    let on = goes_batch p.settings.grain (start_of p) own then.0 then.1 in
    let sends = ap (sum_by (value grain)) (sent-append None own (s ∷ [])) in
    let its_batch = ap (λ o. sum_by (value grain) (parcel_sent o s.call s.answer)) on in
    let gets = ap (sum_by (value grain)) (got-append None own (s ∷ [])) in
    omega (
      arith,
      spends,
      pays,
      sends,
      its_batch,
      gets,
      sum_by-append (value grain) (sent None own) (sent (batch_behind None own) (s ∷ [])),
      sum_by-append (value grain) (parcel_sent (batch_behind None own) s.call s.answer)
          (sent (batch_after (batch_behind None own) s.call s.answer) []),
      sum_by-append (value grain) (got None own) (got (held_after None own) (s ∷ [])),
    )

tasks_are : (p : PuzzleProgram) (settings : Settings) (jobs : Option (List Job)) → p.settings ≡ settings → p.jobs ≡ jobs
    → tasks_of p ≡ tasks settings.budget jobs
tasks_are p settings jobs e f = ap (λ (s : Settings). tasks s.budget p.jobs) e ∙ ap (tasks settings.budget) f

module _ (config : Config) (ledger : List Entry) (last : Bag) (settings : Settings) (jobs : List Job) where
  -- one rank has begun as many calls as its tasks and what it got are worth, and two more
  rank_spends : (rank : Rank) → IsRankUnderWay config ledger last settings jobs rank
      → begun_by config ledger last rank + sum_by (value settings.grain) (sent None (calls config ledger rank))
      ≤ first_credit settings.budget settings.grain jobs rank + sum_by (value settings.grain) (got None (calls config ledger rank)) + 2
  rank_spends rank is = by_way (calls config ledger rank) is.stands
    where
      first : List Task
      first = tasks settings.budget (jobs_of jobs rank)

      grain : is.program.settings.grain ≡ settings.grain
      grain = ap (λ (s : Settings). s.grain) is.settings_are

      its : tasks_of is.program ≡ tasks settings.budget (jobs_of jobs rank)
      its = tasks_are is.program settings (jobs_of jobs rank) is.settings_are is.jobs_are

      by_way : (said : List Said) → HasCome is.program said (pending_of last rank)
          → (length said + cond (is_some (pending_of last rank)) 1 0) + sum_by (value settings.grain) (sent None said)
          ≤ first_credit settings.budget settings.grain jobs rank + sum_by (value settings.grain) (got None said) + 2
      by_way said (works so) =
          let most = so_far_spends is.program settings.grain (tasks settings.budget (jobs_of jobs rank)) said grain its so in
          omega (arith, most, at_most_one (pending_of last rank))
      by_way said (hears own s way same none) =
          let most = next_spends is.program settings.grain (tasks settings.budget (jobs_of jobs rank)) own s way.0 grain its way.1 in
          let long = ap length same ∙ length-append own (s ∷ []) in
          let one : Option Call → ℕ = λ o. cond (is_some o) 1 0 in
          let pending = ap one none in
          let sends = ap (λ l. sum_by (value settings.grain) (sent None l)) same in
          let gets = ap (λ l. sum_by (value settings.grain) (got None l)) same in
          omega (arith, most, long, pending, sends, gets)
      by_way said (leaves own late so leaving same none) =
          let its_last = leaving_is (is_open own) late leaving in
          let most = so_far_spends is.program settings.grain (tasks settings.budget (jobs_of jobs rank)) own grain its so in
          let long = ap length same ∙ length-append own late in
          let one : Option Call → ℕ = λ o. cond (is_some o) 1 0 in
          let pending = ap one none in
          let sends = ap (sum_by (value settings.grain)) (ap (sent None) same ∙ same_sent own late its_last.vain) in
          let gets = ap (sum_by (value settings.grain)) (ap (got None) same ∙ same_got own late its_last.vain) in
          omega (arith, most, long, pending, sends, gets, its_last.few)

-- All ranks.

-- rank 0 has the tasks of the jobs, and no other has any
firsts : (budget grain : ℕ) (jobs : List Job) (n : ℕ)
    → over_ranks n (first_credit budget grain jobs) ≤ 3 * units_made budget grain jobs + 2 * batches jobs
unfolding waits begins
firsts budget grain jobs zero = omega arith
firsts budget grain jobs (suc zero) = omega (arith, tasks_worth budget grain jobs, batches_begun budget 1 1 jobs)
firsts budget grain jobs (suc (suc n)) =
    let other : (suc n == 0) ≡ false = ne_eqb (suc n) 0 (λ e. omega arith) in
    let its : Bool → ℕ =
    λ has_jobs. sum_by (worth_of grain) (waits None (tasks budget (cond has_jobs (Some jobs) None)))
    + 2 * begins (tasks budget (cond has_jobs (Some jobs) None)) in
    let none : first_credit budget grain jobs (record { 0 = suc n }) ≡ its false = ap its other in
    omega (arith, none, firsts budget grain jobs (suc n))

-- the bound on the calls that all ranks have begun in a legal run of puzzle programs, finished or not
pub few_calls : (config : Config) (ledger : List Entry) (last : Bag) (settings : Settings) (jobs : List Job)
    → IsRun (start config) ledger last → AreUnderWay config ledger last settings jobs
    → all_begun config ledger last ≤ most_calls settings.budget settings.grain config.ranks jobs
few_calls config ledger last settings jobs run under_way =
    let fetch : FetchGrants config ledger =
    λ rank below. rank_grants config ledger last settings jobs rank (under_way rank below) in
    let few =
    few_begun config ledger last (value settings.grain) (first_credit settings.budget settings.grain jobs) run fetch
    (λ rank below. rank_spends config ledger last settings jobs rank (under_way rank below)) in
    omega (arith, few, firsts settings.budget settings.grain jobs config.ranks)

-- What is known of how far each rank has come may be said by its program's calls so far.

-- a rank that has heard of these calls works
pub at_work : (p : PuzzleProgram) (told : List Said) (pending begun : Option Call) → IsUnderWay p told begun → HasCome p told pending
at_work p told pending begun so = works (way_so p told begun so)

-- one that finishes after these leaves
pub at_end : (p : PuzzleProgram) (told : List Said) (pending : Option Call) (own : List Said) (begun : Option Call) → IsUnderWay p own begun
    → told ≡ own ++ finish ∷ [] → pending ≡ None → HasCome p told pending
at_end p told pending own begun so same none = leaves own (finish ∷ []) (way_so p own begun so) (finishes finish refl refl) same none

-- the ranks have begun no more calls than there can be
pub begun_most : (config : Config) (ledger : List Entry) (last : Bag) (settings : Settings) (jobs : List Job) (ranks many : ℕ)
    → config.ranks ≡ ranks → IsRun (start config) ledger last
    → ((rank : Rank) → rank.0 < ranks → IsRankUnderWay config ledger last settings jobs rank) → many ≤ all_begun config ledger last
    → many ≤ most_calls settings.budget settings.grain ranks jobs
begun_most config ledger last settings jobs ranks many same legal each enough =
    let few = few_calls config ledger last settings jobs legal (λ rank below. each rank (omega (arith, below, same))) in
    omega (arith, few, enough, ap (λ n. most_calls settings.budget settings.grain n jobs) same)
