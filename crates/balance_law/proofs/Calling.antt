-- Where an orderly rank stands while a run goes on, and what an entry makes of it.
use Rattle.std.proofs.Common.{◌≡◌, ℕ, ◌⊎◌, inl, inr, Bool, true, false, List, [], ◌∷◌, Option, Some, None, refl, sym, ap, ◌∙◌, arith}
use Rattle.adlb_unit.specs.declared.names.Rank.{Rank}
use Rattle.adlb_unit.specs.declared.names.Server.{Server}
use Rattle.adlb_unit.specs.declared.names.UnitId.{UnitId}
use Rattle.adlb_unit.specs.declared.names.WorkType.{WorkType}
use Rattle.adlb_unit.specs.declared.notes.End.{End}
use Rattle.adlb_unit.specs.declared.notes.End.TheVariants as ends_by
use Rattle.adlb_unit.specs.declared.notes.UnitNote.{UnitNote}
use Rattle.adlb_unit.specs.declared.units.Unit.{Unit}
use Rattle.adlb_unit.specs.Ids.{same_unit}
use Rattle.bag_ledger.specs.declared.entries.Entry.{Entry}
use Rattle.bag_ledger.specs.declared.entries.Call.{Call}
use Rattle.bag_ledger.specs.declared.entries.Call.TheVariants as calls_to
use Rattle.bag_ledger.specs.declared.entries.Answer.{Answer}
use Rattle.bag_ledger.specs.declared.entries.Answer.TheVariants as answers
use Rattle.bag_ledger.specs.declared.entries.Said.{Said}
use Rattle.bag_ledger.specs.declared.states.RankState.{RankState}
use Rattle.bag_ledger.specs.declared.states.Placed.{Placed}
use Rattle.bag_ledger.specs.declared.states.UnitPlace.TheVariants.{Free, Pinned, Spent}
use Rattle.bag_ledger.specs.declared.states.Status.{Status}
use Rattle.bag_ledger.specs.declared.states.Status.TheVariants as does
use Rattle.bag_ledger.specs.Bag.{Bag, settled, unit_of, is_asking}
use Rattle.bag_ledger.specs.Steps.{Is, Legal, after, has_cause}
use Rattle.bag_ledger.specs.Runs.{says, call_of}
use Rattle.bag_ledger.proofs.Tests.{some_is}
use Rattle.bag_ledger.proofs.Lookups.{sum_filtered}
use Rattle.bag_law.specs.Sound.{IsSoundBag}
use Rattle.bag_law.proofs.Facts.{put_is_new}
use Rattle.bag_law.proofs.Sound.{step_keeps_sound}
use Rattle.balance_law.specs.Balanced.{IsEndedWell}
use Rattle.balance_law.specs.Orderly.{IsNext, IsOrderly, Goes, end_batch, finish, last_calls}
use Rattle.balance_law.specs.Parcels.{batch_after, granted_note}
use Rattle.balance_law.proofs.Paths.{IsPath, of_rank, along}
use Rattle.balance_law.proofs.Commons.{batch_kept, batch_told, bytes_are, bytes_in}
use Rattle.balance_law.proofs.Deeds.{BatchGoes, Comes, Deed, IsComing, IsIdle, accepted, awaits, begins, calls_done, end_after, fetched}
use Rattle.balance_law.proofs.Deeds.{finishes, granted, hears, waits}
use Rattle.balance_law.proofs.Seen.{IsAway, of_none, of_mine, first_said}
use Rattle.balance_law.proofs.Shifts.{is_loose, lies, standing, pinned_stays, spent_stays}
use Rattle.balance_law.proofs.Tallies.{Hand, Holds, IsAnswering, IsHeld, IsTally, IsNotEnd, call_adds, close_adds, coming_held, ended_well}
use Rattle.balance_law.proofs.Tallies.{finish_adds, hand_after, next_done, next_fetch, next_finish, tally_coming, tally_none}

-- the rank has finished
abbrev pub is_finished : Status → Bool
is_finished does.Finished = true
is_finished status = false

-- one each
abbrev pub each : Unit → ℕ
each u = 1

-- the rank was told no end: what it still says is orderly, it holds its note, and asks once exhaustion was found
pub record IsUntold (n : ℕ) (b : Bag) (rank : Rank) (r : RankState) (h : Hand) (said : List Said) : Type 0 where
  pub no_end : r.end ≡ None
  pub unfinished : is_finished r.status ≡ false
  pub orderly : IsOrderly n h.held h.batch said
  pub holds : Holds b rank h.held h.owed
  pub asks : b.exhausted ≡ true → is_asking r.status ≡ true

-- the rank has its last calls to make, ends its batch, or has finished
pub data Leaves (r : RankState) (batch : Option (List ℕ)) (said : List Said) : Type 0 where
  runs : r.status ≡ does.Running → said ≡ last_calls batch → Leaves r batch said
  closes : call_of r.status ≡ Some calls_to.EndBatch → said ≡ end_batch ∷ finish ∷ [] → Leaves r batch said
  gone : r.status ≡ does.Finished → r.batch ≡ None → Leaves r batch said

-- the rank was told that all work is used up, and leaves
pub record IsTold (b : Bag) (r : RankState) (h : Hand) (said : List Said) : Type 0 where
  pub told : r.end ≡ Some ends_by.Exhausted
  pub marked : b.exhausted ≡ true
  pub nothing : h.held ≡ None
  pub owes : h.owed ≡ []
  pub leaves : Leaves r h.batch said

-- where an orderly rank stands: it was told no end yet, or it was
abbrev pub IsCalling : ℕ → Bag → Rank → RankState → Hand → List Said → Type 0
IsCalling n b rank r h said = IsUntold n b rank r h said ⊎ IsTold b r h said

-- after the entry, where no exhaustion is found by it
pub record IsEntered (n : ℕ) (b last : Bag) (e : Entry) (es : List Entry) : Type 0 where
  pub legal : Legal b e
  pub path : IsPath (after b e) es last
  pub same : (after b e).exhausted ≡ b.exhausted
  pub sound : IsSoundBag b
  pub settled : b.exhausted ≡ true → standing is_loose each b ≡ 0
  pub undone : b.done ≡ false

-- what the rank has in hand after the entry
abbrev pub hand_then : Bag → Entry → Rank → Hand → Hand
hand_then b e rank h = hand_after h (of_rank rank (says b e)) (of_rank rank (fetched b e))

-- the rank stands as it should, and what it said is counted
pub record IsKept (n : ℕ) (b last : Bag) (e : Entry) (es : List Entry) (rank : Rank) (now : RankState) (h : Hand) : Type 0 where
  pub calling : IsCalling n (after b e) rank now (hand_then b e rank h) (along says (after b e) es rank)
  pub batch : (hand_then b e rank h).batch ≡ bytes_in last now.batch
  pub tally :
      IsTally last h (of_rank rank (says b e)) (of_rank rank (accepted b e)) (of_rank rank (granted b e)) (of_rank rank (fetched b e))

-- Words of the order.

-- the next call of an orderly rank, and how it goes on after the answer
pub orderly_next : (n : ℕ) (held : Option UnitNote) (batch : Option (List ℕ)) (s : Said) (said : List Said)
    → IsOrderly n held batch (s ∷ said)
    → IsNext n held batch s.call × Goes s.answer batch said (IsOrderly n (granted_note s.answer) (batch_after batch s.call s.answer) said)
unfolding IsOrderly
orderly_next n held batch s said is = is

-- an orderly rank's calls do not end before Finish
pub orderly_none : (n : ℕ) (held : Option UnitNote) (batch : Option (List ℕ)) → IsOrderly n held batch [] → ⊥
unfolding IsOrderly
orderly_none n held batch is = is

-- the call that is pending is the next in order
pub pending_next : (n : ℕ) (b last : Bag) (es : List Entry) (rank : Rank) (r : RankState) (h : Hand) (call : Call) → IsPath b es last
    → Is b rank r → call_of r.status ≡ Some call → IsOrderly n h.held h.batch (along says b es rank) → IsNext n h.held h.batch call
pending_next n b last es rank r h call path there pends orderly = by_said (along says b es rank) refl
  where
    by_said : (said : List Said) → along says b es rank ≡ said → IsNext n h.held h.batch call
    by_said [] is = absurd (orderly_none n h.held h.batch (rw is at orderly))
    by_said (s ∷ said) is =
        let first : s.call ≡ call = first_said b last es path rank r call there pends s said is in
        let next = (orderly_next n h.held h.batch s said (rw is at orderly)).0 in
        rw first at next

pending_unfinished : (status : Status) (call : Call) → call_of status ≡ Some call → is_finished status ≡ false
pending_unfinished does.Finished call is = absurd (cc)
pending_unfinished _ call is = refl

never_finish : (status : Status) → call_of status ≡ Some calls_to.Finish → ⊥
never_finish (does.Putting u) is = absurd (cc)
never_finish (does.Keeping call common) is = absurd (cc)
never_finish (does.Closing call) is = absurd (cc)
never_finish (does.Asking call types) is = absurd (cc)
never_finish (does.Trying call types) is = absurd (cc)
never_finish (does.Fetching call id own) is = absurd (cc)
never_finish (does.Counting call kind) is = absurd (cc)
never_finish _ is = absurd (cc)

-- the call of a rank that asks is a reserve
pub asking_call : (status : Status) (call : Call) → is_asking status ≡ true → call_of status ≡ Some call
    → (types : Option (List WorkType)) × (call ≡ calls_to.Reserve types)
asking_call (does.Asking k types) call asks is = (types, sym (some_is is))
asking_call _ call asks is = absurd (cc)

-- a free unit stands
free_stands : (b : Bag) (id : UnitId) (u : Placed) (server : Server) → unit_of b id ≡ Some u → u.place ≡ Free server
    → standing is_loose each b ≡ 0 → ⊥
free_stands b id u server found free none =
    let h = sum_filtered (lies is_loose each) (λ u. same_unit u.unit.id id) b.units u found in
    let here : lies is_loose each u ≡ 1 = rw free refl in
    absurd (omega (arith, h, here, none))

-- Nothing is said.

held_kept : (b : Bag) (e : Entry) (rank : Rank) (note : UnitNote) (owed : List Unit) → Legal b e → of_rank rank (fetched b e) ≡ []
    → IsHeld b rank note owed → IsHeld (after b e) rank note owed
held_kept b e rank note owed l none held = by_place held.stands
  where
    stays : unit_of (after b e) note.id ≡ Some held.placed → IsHeld (after b e) rank note owed
    stays found = record { placed = held.placed; there = found; told = held.told; stands = held.stands }

    by_case : (unit_of (after b e) note.id ≡ Some held.placed) ⊎ ((u : Unit) × (fetched b e ≡ Some (rank, u)))
        → IsHeld (after b e) rank note owed
    by_case (inl found) = stays found
    by_case (inr given) = let some = of_mine rank (fetched b e) given.0 given.1 in absurd (cc)

    by_place : ((held.placed.place ≡ Pinned note.server rank) × (owed ≡ []))
        ⊎ ((held.placed.place ≡ Spent) × (owed ≡ held.placed.unit ∷ [])) → IsHeld (after b e) rank note owed
    by_place (inl pinned) = by_case (pinned_stays b e note.id held.placed note.server rank l held.there pinned.0)
    by_place (inr spent) = stays (spent_stays b e note.id held.placed l held.there spent.0)

holds_kept : (b : Bag) (e : Entry) (rank : Rank) (held : Option UnitNote) (owed : List Unit) → Legal b e → of_rank rank (fetched b e) ≡ []
    → Holds b rank held owed → Holds (after b e) rank held owed
holds_kept b e rank None owed l none holds = holds
holds_kept b e rank (Some note) owed l none holds = held_kept b e rank note owed l none holds

silent_kept : (n : ℕ) (b last : Bag) (e : Entry) (es : List Entry) (rank : Rank) (now : RankState) (h : Hand)
    → of_rank rank (says b e) ≡ [] → of_rank rank (accepted b e) ≡ [] → of_rank rank (granted b e) ≡ [] → of_rank rank (fetched b e) ≡ []
    → IsCalling n (after b e) rank now h (along says (after b e) es rank) → h.batch ≡ bytes_in last now.batch
    → IsKept n b last e es rank now h
silent_kept n b last e es rank now h said taken pinned given calling batch = record {
  calling = rw (said, given) calling;
  batch = rw (said, given) batch;
  tally = rw (said, taken, pinned, given) (tally_none last h);
}

idle_kept : (n : ℕ) (b last : Bag) (e : Entry) (es : List Entry) (rank : Rank) (now : RankState) (h : Hand) → says b e ≡ None → IsIdle b e
    → IsCalling n (after b e) rank now h (along says (after b e) es rank) → h.batch ≡ bytes_in last now.batch
    → IsKept n b last e es rank now h
idle_kept n b last e es rank now h silent idle calling batch =
    silent_kept n b last e es rank now h (of_none rank (says b e) silent) (of_none rank (accepted b e) idle.0)
    (of_none rank (granted b e) idle.1) (of_none rank (fetched b e) idle.2) calling batch

-- an entry that passes a rank by leaves where it is
pub away_kept : (n : ℕ) (b last : Bag) (e : Entry) (es : List Entry) (rank : Rank) (r : RankState) (h : Hand) → IsEntered n b last e es
    → IsAway b e rank → h.batch ≡ bytes_in last r.batch → IsCalling n b rank r h (along says b (e ∷ es) rank)
    → IsKept n b last e es rank r h
away_kept n b last e es rank r h entered away batch calling =
    silent_kept n b last e es rank r h away.1 away.2 away.3 away.4 (by_case calling) batch
  where
    by_case : IsCalling n b rank r h (along says b (e ∷ es) rank) → IsCalling n (after b e) rank r h (along says (after b e) es rank)
    by_case (inl u) = inl (record {
      no_end = u.no_end;
      unfinished = u.unfinished;
      orderly = rw away.1 at u.orderly;
      holds = holds_kept b e rank h.held h.owed entered.legal away.4 u.holds;
      asks = λ ex. u.asks (sym entered.same ∙ ex);
    })
    by_case (inr t) =
        inr (record { told = t.told; marked = entered.same ∙ t.marked; nothing = t.nothing; owes = t.owes; leaves = rw away.1 at t.leaves })

-- An answer.

-- what the rank has in hand after its call is answered
abbrev answered_hand : Hand → Call → Answer → Hand
answered_hand h call answer = record { held = granted_note answer; batch = batch_after h.batch call answer; owed = [] }

-- the rank goes on: it was told no end and granted nothing, and exhaustion was not found, for it did not ask
goes_on : (n : ℕ) (b last : Bag) (e : Entry) (es : List Entry) (rank : Rank) (was now : RankState) (h : Hand) (call : Call)
    (answer : Answer) (rest : List Said) → IsEntered n b last e es → now.end ≡ None → (b.exhausted ≡ true → is_asking was.status ≡ true)
    → now.status ≡ does.Running → is_asking was.status ≡ false → granted_note answer ≡ None → IsNotEnd answer
    → IsOrderly n (granted_note answer) (batch_after h.batch call answer) rest
    → IsCalling n (after b e) rank now (answered_hand h call answer) rest × IsEndedWell call answer
goes_on n b last e es rank was now h call answer rest entered no_end asks running silent none not orderly = (
  inl (record {
    no_end = no_end;
    unfinished = rw running refl;
    orderly = orderly;
    holds = rw none refl;
    asks = λ ex. let yes = asks (sym entered.same ∙ ex) in absurd (cc);
  }),
  ended_well call answer not,
)

answered_next : (n : ℕ) (b last : Bag) (e : Entry) (es : List Entry) (rank : Rank) (was now : RankState) (h : Hand) (call : Call)
    (answer : Answer) (rest : List Said) → IsEntered n b last e es
    → was.end ≡ None → (b.exhausted ≡ true → is_asking was.status ≡ true) → call_of was.status ≡ Some call → now.status ≡ does.Running
    → now.end ≡ end_after answer was.end → Comes b e rank was.status call answer
    → Goes answer h.batch rest (IsOrderly n (granted_note answer) (batch_after h.batch call answer) rest)
    → IsCalling n (after b e) rank now (answered_hand h call answer) rest × IsEndedWell call answer
answered_next n b last e es rank was now h call (answers.Ended end) rest entered no_end asks pends running ends c goes = by_end end c.2 ends
  where
    by_end : (end : End) → has_cause b end ≡ true → now.end ≡ Some end
        → IsCalling n (after b e) rank now (answered_hand h call (answers.Ended end)) rest × IsEndedWell call (answers.Ended end)
    by_end ends_by.NoMoreWork cause ends = let undone = entered.undone in absurd (cc)
    by_end ends_by.Exhausted cause ends =
        let a = asking_call was.status call (asks cause) pends in
        let well : IsEndedWell call (answers.Ended ends_by.Exhausted) = rw a.1 refl in
        let batch = batch_kept h.batch call (answers.Ended ends_by.Exhausted) tt in (
          inr (record {
            told = ends;
            marked = entered.same ∙ cause;
            nothing = refl;
            owes = refl;
            leaves = runs running (goes ∙ ap last_calls (sym batch));
          }),
          well,
        )
answered_next n b last e es rank was now h call (answers.Granted note) rest entered no_end asks pends running ends c goes = (
  inl (record {
    no_end = ends ∙ no_end;
    unfinished = rw running refl;
    orderly = goes;
    holds = record {
      placed = record c.placed { place = Pinned note.server rank };
      there = c.pinned;
      told = c.told;
      stands = inl (refl, refl);
    };
    asks = λ ex. absurd (free_stands b note.id c.placed note.server c.there c.free (entered.settled (sym entered.same ∙ ex)));
  }),
  ended_well call (answers.Granted note) tt,
)
answered_next n b last e es rank was now h call (answers.Body body) rest entered no_end asks pends running ends c goes =
    goes_on n b last e es rank was now h call (answers.Body body) rest entered (ends ∙ no_end) asks running c.1 refl tt goes
answered_next n b last e es rank was now h call answers.Fine rest entered no_end asks pends running ends c goes =
    goes_on n b last e es rank was now h call answers.Fine rest entered (ends ∙ no_end) asks running c.4 refl tt goes
answered_next n b last e es rank was now h call answers.Rejected rest entered no_end asks pends running ends c goes =
    goes_on n b last e es rank was now h call answers.Rejected rest entered (ends ∙ no_end) asks running c.2 refl tt goes
answered_next n b last e es rank was now h call answers.NoCurrent rest entered no_end asks pends running ends c goes =
    goes_on n b last e es rank was now h call answers.NoCurrent rest entered (ends ∙ no_end) asks running c.2 refl tt goes
answered_next n b last e es rank was now h call (answers.Info info) rest entered no_end asks pends running ends c goes =
    goes_on n b last e es rank was now h call (answers.Info info) rest entered (ends ∙ no_end) asks running c.2 refl tt goes

-- the batch as it is told then
answered_batch : (n : ℕ) (b last : Bag) (e : Entry) (es : List Entry) (was now : RankState) (h : Hand) (call : Call) (answer : Answer)
    → IsEntered n b last e es → BatchGoes (after b e) call answer was.batch now.batch → h.batch ≡ bytes_in last was.batch
    → batch_after h.batch call answer ≡ bytes_in last now.batch
answered_batch n b last e es was now h call answer entered goes batch =
    batch_told (after b e) last es entered.path
    (step_keeps_sound settled b e entered.legal entered.sound) h.batch call answer was.batch now.batch goes batch

-- what holds of the rank whose call is answered
answering : (n : ℕ) (b last : Bag) (e : Entry) (es : List Entry) (rank : Rank) (was : RankState) (h : Hand) (call : Call)
    → IsEntered n b last e es → Is b rank was → call_of was.status ≡ Some call → h.batch ≡ bytes_in last was.batch
    → IsAnswering b last rank was h call
answering n b last e es rank was h call entered there pends batch = record {
  sound = entered.sound;
  there = there;
  pends = pends;
  shares = λ u puts. batch ∙ ap (bytes_in last) (sym (put_is_new b entered.sound rank was u there puts).2);
  stay = λ c p found. bytes_are b last (e ∷ es) (entered.legal, entered.path) c p found;
}

-- A rank that was told no end has its turn.

-- the own bytes come of a unit with a common part
coming_turn : (n : ℕ) (b last : Bag) (e : Entry) (es : List Entry) (rank : Rank) (was now : RankState) (h : Hand) (id : UnitId)
    (unit : Placed)
    → IsEntered n b last e es → Is b rank was → h.batch ≡ bytes_in last was.batch
    → IsUntold n b rank was h (along says b (e ∷ es) rank) → says b e ≡ None → IsComing b e rank was now id unit
    → call_of now.status ≡ call_of was.status → accepted b e ≡ None → granted b e ≡ None → fetched b e ≡ Some (rank, unit.unit)
    → IsKept n b last e es rank now h
coming_turn n b last e es rank was now h id unit entered there batch u silent c status accepts grants gives = record {
  calling = rw (none, given) (inl (record {
    no_end = c.end ∙ u.no_end;
    unfinished = pending_unfinished now.status (calls_to.Fetch id) (status ∙ c.calls);
    orderly = rw none at u.orderly;
    holds = rw f.1 held.1;
    asks =
        λ ex. let a = asking_call was.status (calls_to.Fetch id) (u.asks (sym entered.same ∙ ex)) c.calls in let differ = a.1 in absurd
        (cc);
  }));
  batch = rw (none, given) (batch ∙ ap (bytes_in last) (sym c.batch));
  tally =
      rw (none, of_none rank (accepted b e) accepts, of_none rank (granted b e) grants, given)
      (tally_coming last h f.0 unit.unit f.1 held.0);
}
  where
    none : of_rank rank (says b e) ≡ []
    none = of_none rank (says b e) silent

    given : of_rank rank (fetched b e) ≡ unit.unit ∷ []
    given = of_mine rank (fetched b e) unit.unit gives

    f : (note : UnitNote) × (h.held ≡ Some note) × (id ≡ note.id)
    f =
        next_fetch n h.held h.batch id
        (pending_next n b last (e ∷ es) rank was h (calls_to.Fetch id) (entered.legal, entered.path) there c.calls u.orderly)

    held : (h.owed ≡ []) × IsHeld (after b e) rank f.0 (unit.unit ∷ [])
    held = coming_held b e rank was now f.0 h.owed id unit (rw f.1 at u.holds) f.2 c

untold_turn : (n : ℕ) (b last : Bag) (e : Entry) (es : List Entry) (rank : Rank) (was now : RankState) (h : Hand) → IsEntered n b last e es
    → Is b rank was → h.batch ≡ bytes_in last was.batch → IsUntold n b rank was h (along says b (e ∷ es) rank) → Deed b e rank was now
    → IsKept n b last e es rank now h
untold_turn n b last e es rank was now h entered there batch u (waits silent idle status end same) =
    let none = of_none rank (says b e) silent in
    idle_kept n b last e es rank now h silent idle (inl (record {
      no_end = end ∙ u.no_end;
      unfinished = rw status u.unfinished;
      orderly = rw none at u.orderly;
      holds = holds_kept b e rank h.held h.owed entered.legal (of_none rank (fetched b e) idle.2) u.holds;
      asks = λ ex. rw status (u.asks (sym entered.same ∙ ex));
    })) (batch ∙ ap (bytes_in last) (sym same))
untold_turn n b last e es rank was now h entered there batch u (begins call silent idle running pends end same) =
    let none = of_none rank (says b e) silent in
    idle_kept n b last e es rank now h silent idle (inl (record {
      no_end = end ∙ u.no_end;
      unfinished = pending_unfinished now.status call pends;
      orderly = rw none at u.orderly;
      holds = holds_kept b e rank h.held h.owed entered.legal (of_none rank (fetched b e) idle.2) u.holds;
      asks = λ ex. let asking : false ≡ true = rw running at (u.asks (sym entered.same ∙ ex)) in absurd (cc);
    })) (batch ∙ ap (bytes_in last) (sym same))
untold_turn n b last e es rank was now h entered there batch u (hears call answer heard pends running end goes comes) =
    let s : Said = record { call = call; answer = answer } in
    let mine = of_mine rank (says b e) s heard in
    let o = orderly_next n h.held h.batch s (along says (after b e) es rank) (rw mine at u.orderly) in
    let a =
    answered_next n b last e es rank was now h call answer
    (along says (after b e) es rank) entered u.no_end u.asks pends running end comes o.1 in
    record {
      calling = rw mine a.0;
      batch = rw mine (answered_batch n b last e es was now h call answer entered goes batch);
      tally =
          rw mine (call_adds n last b e rank was h call answer
          (answering n b last e es rank was h call entered there pends batch) u.holds o.0 comes a.1);
    }
untold_turn n b last e es rank was now h entered there batch u (awaits id unit common silent coming shared status accepts grants gives) =
    coming_turn n b last e es rank was now h id unit entered there batch u silent coming status accepts grants gives
untold_turn n b last e es rank was now h entered there batch u (calls_done heard idle running) =
    let mine = of_mine rank (says b e) (record { call = calls_to.SetDone; answer = answers.Fine }) heard in
    let o =
    orderly_next n h.held h.batch (record { call = calls_to.SetDone; answer = answers.Fine }) (along says (after b e) es rank)
    (rw mine at u.orderly) in
    absurd (next_done n h.held h.batch o.0)
untold_turn n b last e es rank was now h entered there batch u (finishes heard idle running done end none) =
    let mine = of_mine rank (says b e) finish heard in
    let o = orderly_next n h.held h.batch finish (along says (after b e) es rank) (rw mine at u.orderly) in
    absurd (next_finish n h.held h.batch o.0)

-- A rank that was told the end leaves.

-- a rank that runs, or has finished, has no call pending
idle_pends : (status : Status) (call : Call) → status ≡ does.Running → call_of status ≡ Some call → ⊥
idle_pends status call running pends = let none : None ≡ Some call = rw running at pends in absurd (cc)

done_pends : (status : Status) (call : Call) → status ≡ does.Finished → call_of status ≡ Some call → ⊥
done_pends status call done pends = let none : None ≡ Some call = rw done at pends in absurd (cc)

done_runs : (status : Status) → status ≡ does.Finished → status ≡ does.Running → ⊥
done_runs status done running = absurd (cc)

-- calling the problem done is not among the last calls
pub done_is_other : (batch : Option (List ℕ)) (said : List Said)
    → record { call = calls_to.SetDone; answer = answers.Fine } ∷ said ≡ last_calls batch → ⊥
done_is_other None said is =
    let one : record { call = calls_to.SetDone; answer = answers.Fine } ≡ finish = cc in
    let call : calls_to.SetDone ≡ calls_to.Finish = ap (λ (s : Said). s.call) one in
    absurd (cc)
done_is_other (Some common) said is =
    let one : record { call = calls_to.SetDone; answer = answers.Fine } ≡ end_batch = cc in
    let call : calls_to.SetDone ≡ calls_to.EndBatch = ap (λ (s : Said). s.call) one in
    absurd (cc)

-- a rank that leaves does not call the problem done
pub leaves_never_done : (r : RankState) (batch : Option (List ℕ)) (said : List Said) → r.status ≡ does.Running
    → Leaves r batch (record { call = calls_to.SetDone; answer = answers.Fine } ∷ said) → ⊥
leaves_never_done r batch said running (runs at rest) = done_is_other batch said rest
leaves_never_done r batch said running (closes pends rest) = idle_pends r.status calls_to.EndBatch running pends
leaves_never_done r batch said running (gone done none) = done_runs r.status done running

leaves_as : (was now : RankState) (batch : Option (List ℕ)) (said : List Said) → now.status ≡ was.status → now.batch ≡ was.batch
    → Leaves was batch said → Leaves now batch said
leaves_as was now batch said status same (runs at rest) = runs (status ∙ at) rest
leaves_as was now batch said status same (closes pends rest) = closes (ap call_of status ∙ pends) rest
leaves_as was now batch said status same (gone done none) = gone (status ∙ done) (same ∙ none)

-- the call that begins ends the batch
leaves_begins : (now : RankState) (call : Call) (batch : Option (List ℕ)) (said : List Said) → call_of now.status ≡ Some call
    → ((s : Said) (rest : List Said) → said ≡ s ∷ rest → s.call ≡ call) → said ≡ last_calls batch → Leaves now batch said
leaves_begins now call None said pends first is =
    let same : calls_to.Finish ≡ call = first finish [] is in
    absurd (never_finish now.status (rw same pends))
leaves_begins now call (Some common) said pends first is =
    let same : calls_to.EndBatch ≡ call = first end_batch (finish ∷ []) is in
    closes (rw same pends) is

-- an answer to the end of the batch, with what was to stand there
pub record IsClosing (call : Call) (answer : Answer) (rest : List Said) : Type 0 where
  pub call_is : call ≡ calls_to.EndBatch
  pub answer_is : answer ≡ answers.Fine
  pub rest_is : rest ≡ finish ∷ []

closing_is : (call : Call) (answer : Answer) (rest : List Said) → record { call = call; answer = answer } ∷ rest ≡ end_batch ∷ finish ∷ []
    → IsClosing call answer rest
closing_is call answer rest is =
    let one : record { call = call; answer = answer } ≡ end_batch = cc in
    let others : rest ≡ finish ∷ [] = cc in
    record { call_is = ap (λ (s : Said). s.call) one; answer_is = ap (λ (s : Said). s.answer) one; rest_is = others }

-- the end of its batch is answered
closed_turn : (n : ℕ) (b last : Bag) (e : Entry) (es : List Entry) (rank : Rank) (was now : RankState) (h : Hand) → IsEntered n b last e es
    → h.batch ≡ bytes_in last was.batch → IsTold b was h (along says b (e ∷ es) rank)
    → says b e ≡ Some (rank, end_batch) → call_of was.status ≡ Some calls_to.EndBatch → now.status ≡ does.Running → now.end ≡ was.end
    → BatchGoes (after b e) calls_to.EndBatch answers.Fine was.batch now.batch → Comes b e rank was.status calls_to.EndBatch answers.Fine
    → along says (after b e) es rank ≡ finish ∷ [] → IsKept n b last e es rank now h
closed_turn n b last e es rank was now h entered batch t heard pends running end goes comes rest =
    let mine = of_mine rank (says b e) end_batch heard in
    record {
      calling =
          rw mine (inr (record {
            told = end ∙ t.told;
            marked = entered.same ∙ t.marked;
            nothing = refl;
            owes = refl;
            leaves = runs running rest;
          }));
      batch = rw mine (answered_batch n b last e es was now h calls_to.EndBatch answers.Fine entered goes batch);
      tally = rw mine (close_adds last b e rank was.status h t.nothing t.owes pends comes);
    }

told_turn : (n : ℕ) (b last : Bag) (e : Entry) (es : List Entry) (rank : Rank) (was now : RankState) (h : Hand) → IsEntered n b last e es
    → Is (after b e) rank now → h.batch ≡ bytes_in last was.batch → IsTold b was h (along says b (e ∷ es) rank) → Deed b e rank was now
    → IsKept n b last e es rank now h
told_turn n b last e es rank was now h entered here batch t (waits silent idle status end same) =
    let none = of_none rank (says b e) silent in
    idle_kept n b last e es rank now h silent idle (inr (record {
      told = end ∙ t.told;
      marked = entered.same ∙ t.marked;
      nothing = t.nothing;
      owes = t.owes;
      leaves = leaves_as was now h.batch (along says (after b e) es rank) status same (rw none at t.leaves);
    })) (batch ∙ ap (bytes_in last) (sym same))
told_turn n b last e es rank was now h entered here batch t (begins call silent idle running pends end same) =
    idle_kept n b last e es rank now h silent idle (inr (record {
      told = end ∙ t.told;
      marked = entered.same ∙ t.marked;
      nothing = t.nothing;
      owes = t.owes;
      leaves = by_leaves (rw (of_none rank (says b e) silent) at t.leaves);
    })) (batch ∙ ap (bytes_in last) (sym same))
  where
    by_leaves : Leaves was h.batch (along says (after b e) es rank) → Leaves now h.batch (along says (after b e) es rank)
    by_leaves (runs at rest) =
        leaves_begins now call h.batch (along says (after b e) es rank) pends
        (λ s later is. first_said (after b e) last es entered.path rank now call here pends s later is) rest
    by_leaves (closes closing rest) = absurd (idle_pends was.status calls_to.EndBatch running closing)
    by_leaves (gone done none) = absurd (done_runs was.status done running)
told_turn n b last e es rank was now h entered here batch t (hears call answer heard pends running end goes comes) = by_leaves t.leaves
  where
    mine : of_rank rank (says b e) ≡ record { call = call; answer = answer } ∷ []
    mine = of_mine rank (says b e) (record { call = call; answer = answer }) heard

    by_call : (call : Call) (answer : Answer) → call ≡ calls_to.EndBatch → answer ≡ answers.Fine
        → says b e ≡ Some (rank, record { call = call; answer = answer }) → now.end ≡ end_after answer was.end
        → BatchGoes (after b e) call answer was.batch now.batch → Comes b e rank was.status call answer
        → call_of was.status ≡ Some call → along says (after b e) es rank ≡ finish ∷ [] → IsKept n b last e es rank now h
    by_call calls_to.EndBatch answers.Fine is fine heard end goes comes pends rest =
        closed_turn n b last e es rank was now h entered batch t heard pends running end goes comes rest
    by_call calls_to.EndBatch (answers.Ended x) is fine heard end goes comes pends rest = absurd (cc)
    by_call calls_to.EndBatch _ is fine heard end goes comes pends rest = absurd (cc)
    by_call _ answer is fine heard end goes comes pends rest = absurd (cc)

    by_leaves : Leaves was h.batch (along says b (e ∷ es) rank) → IsKept n b last e es rank now h
    by_leaves (runs at rest) = absurd (idle_pends was.status call at pends)
    by_leaves (closes closing rest) =
        let c = closing_is call answer (along says (after b e) es rank) (rw mine at rest) in
        by_call call answer c.call_is c.answer_is heard end goes comes pends c.rest_is
    by_leaves (gone done none) = absurd (done_pends was.status call done pends)
told_turn n b last e es rank was now h entered here batch t
    (awaits id unit common silent coming shared status accepts grants gives) = absurd (by_leaves t.leaves)
  where
    by_leaves : Leaves was h.batch (along says b (e ∷ es) rank) → ⊥
    by_leaves (runs at rest) = idle_pends was.status (calls_to.Fetch id) at coming.calls
    by_leaves (closes closing rest) =
        let differ : Some (calls_to.Fetch id) ≡ Some calls_to.EndBatch = sym coming.calls ∙ closing in absurd (cc)
    by_leaves (gone done none) = done_pends was.status (calls_to.Fetch id) done coming.calls
told_turn n b last e es rank was now h entered here batch t (calls_done heard idle running) =
    let mine = of_mine rank (says b e) (record { call = calls_to.SetDone; answer = answers.Fine }) heard in
    absurd (leaves_never_done was h.batch (along says (after b e) es rank) running (rw mine at t.leaves))
told_turn n b last e es rank was now h entered here batch t (finishes heard idle running done end none) =
    let mine = of_mine rank (says b e) finish heard in
    record {
      calling =
          rw mine (inr (record {
            told = end ∙ t.told;
            marked = entered.same ∙ t.marked;
            nothing = refl;
            owes = refl;
            leaves = gone done none.1;
          }));
      batch = rw mine (batch ∙ ap (bytes_in last) (sym none.0));
      tally = rw mine (finish_adds last b e rank h t.nothing t.owes idle);
    }

-- an entry that is a rank's turn leads to where it is next
pub turn_kept : (n : ℕ) (b last : Bag) (e : Entry) (es : List Entry) (rank : Rank) (was now : RankState) (h : Hand)
    → IsEntered n b last e es → Is b rank was → Is (after b e) rank now → h.batch ≡ bytes_in last was.batch
    → IsCalling n b rank was h (along says b (e ∷ es) rank) → Deed b e rank was now → IsKept n b last e es rank now h
turn_kept n b last e es rank was now h entered there here batch (inl u) deed =
    untold_turn n b last e es rank was now h entered there batch u deed
turn_kept n b last e es rank was now h entered there here batch (inr t) deed =
    told_turn n b last e es rank was now h entered here batch t deed
