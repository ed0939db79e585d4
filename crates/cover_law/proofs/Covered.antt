-- What all ranks got was sent, in every legal run of ranks that fetch what they were granted.
use Rattle.std.proofs.Common.{◌≡◌, ℕ, zero, suc, ◌+◌, ◌<◌, ◌≤◌, ◌⊎◌, inl, inr, List, [], ◌∷◌, ◌++◌, map, Option, Some, None}
use Rattle.std.proofs.Common.{refl, sym, ap, ◌∙◌, subst, arith}
use Rattle.std.specs.Prelude.{sum_by}
use Rattle.std.proofs.lemmas.List.Sums.{sum_by-append}
use Rattle.adlb_unit.specs.declared.configs.Config.{Config}
use Rattle.adlb_unit.specs.declared.names.Rank.{Rank}
use Rattle.adlb_unit.specs.declared.names.UnitId.{UnitId}
use Rattle.adlb_unit.specs.declared.notes.UnitNote.{UnitNote}
use Rattle.adlb_unit.specs.declared.units.Unit.{Unit}
use Rattle.bag_ledger.specs.declared.entries.Answer.{Answer}
use Rattle.bag_ledger.specs.declared.entries.Answer.TheVariants as answers
use Rattle.bag_ledger.specs.declared.entries.Call.{Call}
use Rattle.bag_ledger.specs.declared.entries.Call.TheVariants as calls_to
use Rattle.bag_ledger.specs.declared.entries.Entry.{Entry}
use Rattle.bag_ledger.specs.declared.entries.Said.{Said}
use Rattle.bag_ledger.specs.declared.states.Placed.{Placed}
use Rattle.bag_ledger.specs.declared.states.RankState.{RankState}
use Rattle.bag_ledger.specs.declared.states.Status.{Status}
use Rattle.bag_ledger.specs.declared.states.Status.TheVariants as does
use Rattle.bag_ledger.specs.declared.states.UnitPlace.TheVariants.{Pinned}
use Rattle.bag_ledger.specs.Bag.{Bag, settled, start}
use Rattle.bag_ledger.specs.Steps.{Is, after}
use Rattle.bag_ledger.specs.Runs.{IsRun, call_of, calls, says}
use Rattle.bag_ledger.proofs.Tests.{same_number, some_is}
use Rattle.bag_ledger.proofs.Turns.{fresh_at}
use Rattle.bag_law.specs.Sound.{IsSoundBag}
use Rattle.bag_law.proofs.Facts.{put_is_new}
use Rattle.bag_law.proofs.Sound.{start_is_sound, step_keeps_sound}
use Rattle.balance_law.specs.Balanced.{over_ranks}
use Rattle.balance_law.specs.Orderly.{finish}
use Rattle.balance_law.specs.Parcels.{Parcel, batch_after, got, granted_note, parcel_got, parcel_sent, sent}
use Rattle.balance_law.proofs.Commons.{batch_told, bytes_are, bytes_in, parcel_of}
use Rattle.balance_law.proofs.Deeds.{Comes, Deed, IsComing, IsNotFine, accepted, awaits}
use Rattle.balance_law.proofs.Deeds.{begins, calls_done, fetched, finishes, hears, put_by, waits}
use Rattle.balance_law.proofs.Going.{there_is}
use Rattle.balance_law.proofs.Paths.{IsPath, along, calls_along, of_rank, over_same, path_of}
use Rattle.balance_law.proofs.Seen.{IsAway, IsTurn, first_said, of_mine, of_none, seen}
use Rattle.balance_law.proofs.Tallies.{Hand, IsAnswering, IsHeld, call_adds, coming_held, ended_well}
use Rattle.balance_law.proofs.Whole.{empty, left_balance, start_long, sum_mapped}
use Rattle.cover_law.specs.Grants.{AreOfGrants, FetchGrants, IsCovered, IsOfGrant}
use Rattle.cover_law.proofs.Holding.{Keeps, keeps_on}

-- The words of the order, opened.

grants_one : (held : Option UnitNote) (s : Said) (said : List Said) → AreOfGrants held (s ∷ said)
    → IsOfGrant held s.call × AreOfGrants (granted_note s.answer) said
unfolding AreOfGrants
grants_one held s said is = is

sent_one : (f : Parcel → ℕ) (batch : Option (List ℕ)) (s : Said) (said : List Said)
    → sum_by f (sent batch (s ∷ said))
    ≡ sum_by f (parcel_sent batch s.call s.answer) + sum_by f (sent (batch_after batch s.call s.answer) said)
unfolding sent
sent_one f batch s said = sum_by-append f (parcel_sent batch s.call s.answer) (sent (batch_after batch s.call s.answer) said)

got_one : (f : Parcel → ℕ) (held : Option UnitNote) (s : Said) (said : List Said)
    → sum_by f (got held (s ∷ said)) ≡ sum_by f (parcel_got held s.call s.answer) + sum_by f (got (granted_note s.answer) said)
unfolding got
got_one f held s said = sum_by-append f (parcel_got held s.call s.answer) (got (granted_note s.answer) said)

nothing_sent : (batch : Option (List ℕ)) → sent batch [] ≡ []
unfolding sent
nothing_sent batch = refl

nothing_got : (held : Option UnitNote) → got held [] ≡ []
unfolding got
nothing_got held = refl

-- an answer other than Fine says that nothing was put
sends_none : (batch : Option (List ℕ)) (call : Call) (answer : Answer) → IsNotFine answer → parcel_sent batch call answer ≡ []
sends_none batch (calls_to.Put kind prio target to body) answers.Fine not = absurd not
sends_none batch call answer not = refl

-- an answer without a body brings nothing
gets_none : (held : Option UnitNote) (call : Call) (answer : Answer) → ((body : List ℕ) → answer ≡ answers.Body body → ⊥)
    → parcel_got held call answer ≡ []
gets_none (Some note) (calls_to.Fetch id) (answers.Body body) not = absurd (not body refl)
gets_none held call answer not = refl

never_done : (held : Option UnitNote) → IsOfGrant held calls_to.SetDone → ⊥
never_done None is = is
never_done (Some note) is = is

-- One answered call.

-- what is in hand after it
abbrev answered : Hand → Call → Answer → Hand
answered h call answer = record { held = granted_note answer; batch = batch_after h.batch call answer; owed = [] }

-- what is sent by it is the unit that is accepted
sends : (last b : Bag) (e : Entry) (rank : Rank) (status : Status) (batch : Option (List ℕ)) (call : Call) (answer : Answer)
    → call_of status ≡ Some call → ((u : Unit) → status ≡ does.Putting u → batch ≡ bytes_in last u.common)
    → Comes b e rank status call answer → parcel_sent batch call answer ≡ map (parcel_of last) (of_rank rank (accepted b e))
sends last b e rank status batch call answers.Fine pends shares c = rw c.0 (fine status pends shares)
  where
    fine : (status : Status) → call_of status ≡ Some call → ((u : Unit) → status ≡ does.Putting u → batch ≡ bytes_in last u.common)
        → parcel_sent batch call answers.Fine ≡ map (parcel_of last) (of_rank rank (put_by rank status))
    fine (does.Putting u) is shares =
        let c : calls_to.Put u.kind u.prio u.target u.answer u.body ≡ call = some_is is in
        rw (← c, same_number rank.0, shares u refl) refl
    fine (does.Keeping k common) is shares = let c : calls_to.BeginBatch common ≡ call = some_is is in rw (← c) refl
    fine (does.Closing k) is shares = let c : calls_to.EndBatch ≡ call = some_is is in rw (← c) refl
    fine (does.Asking k types) is shares = let c : calls_to.Reserve types ≡ call = some_is is in rw (← c) refl
    fine (does.Trying k types) is shares = let c : calls_to.Try types ≡ call = some_is is in rw (← c) refl
    fine (does.Fetching k id came) is shares = let c : calls_to.Fetch id ≡ call = some_is is in rw (← c) refl
    fine (does.Counting k kind) is shares = let c : calls_to.Count kind ≡ call = some_is is in rw (← c) refl
    fine _ is shares = absurd (cc)
sends last b e rank status batch call (answers.Granted note) pends shares c =
    rw (of_none rank (accepted b e) c.accepts) (sends_none batch call (answers.Granted note) tt)
sends last b e rank status batch call (answers.Body body) pends shares c =
    rw (of_none rank (accepted b e) c.0.accepts) (sends_none batch call (answers.Body body) tt)
sends last b e rank status batch call answer pends shares c =
    rw (of_none rank (accepted b e) c.0.0) (sends_none batch call answer tt)

-- What holds of a rank, and what it sends and gets from then on.

-- before these entries the rank has this in hand. What it holds is known if it says something more
record IsStanding (b last : Bag) (rank : Rank) (r : RankState) (h : Hand) (said : List Said) : Type 0 where
  batch : h.batch ≡ bytes_in last r.batch
  grants : AreOfGrants h.held said
  keeps : (s : Said) (rest : List Said) → said ≡ s ∷ rest → Keeps b rank h.held h.owed

-- what it sends in these entries is what they accept of it, and what it gets weighs at most what it is owed and what they give it
record IsMeasured (f : Parcel → ℕ) (b last : Bag) (es : List Entry) (rank : Rank) (h : Hand) : Type 0 where
  sends : sum_by f (sent h.batch (along says b es rank)) ≡ sum_by (λ u. f (parcel_of last u)) (along accepted b es rank)
  gets : sum_by f (got h.held (along says b es rank)) ≤ sum_by (λ u. f (parcel_of last u)) (h.owed ++ along fetched b es rank)

module _ (f : Parcel → ℕ) (b last : Bag) (e : Entry) (es : List Entry) (path : IsPath b (e ∷ es) last) (sound : IsSoundBag b)
    (rank : Rank)
  where
    abbrev g : Unit → ℕ
    g u = f (parcel_of last u)

    abbrev rest : List Said
    rest = along says (after b e) es rank

    -- what holds of the rank after the entry
    abbrev Next : RankState → Hand → Type 0
    Next now h = IsStanding (after b e) last rank now h rest

    -- nothing is said by the entry, and nothing of it is the rank's
    silent : (r now : RankState) (h : Hand) → of_rank rank (says b e) ≡ [] → of_rank rank (accepted b e) ≡ []
        → of_rank rank (fetched b e) ≡ [] → now.batch ≡ r.batch → IsStanding b last rank r h (along says b (e ∷ es) rank)
        → (Next now h → IsMeasured f (after b e) last es rank h) → IsMeasured f b last (e ∷ es) rank h
    silent r now h said taken given same stands later =
        let m = later (record {
          batch = stands.batch ∙ ap (bytes_in last) (sym same);
          grants = rw said at stands.grants;
          keeps = λ s more is. keeps_on b e rank h.held h.owed path.0 given (stands.keeps s more (rw said is));
        }) in
        record { sends = rw (said, taken) m.sends; gets = rw (said, given) m.gets }

    -- an entry that says one thing of the rank
    spoken : (h : Hand) (s : Said) (taken given : List Unit) → of_rank rank (says b e) ≡ s ∷ [] → of_rank rank (accepted b e) ≡ taken
        → of_rank rank (fetched b e) ≡ given → parcel_sent h.batch s.call s.answer ≡ map (parcel_of last) taken
        → sum_by f (parcel_got h.held s.call s.answer) ≤ sum_by g (h.owed ++ given)
        → IsMeasured f (after b e) last es rank (answered h s.call s.answer)
        → IsMeasured f b last (e ∷ es) rank h
    spoken h s taken given said accepts gives puts takes m = record {
      sends = rw (said, accepts) (
          let sent = sent_one f h.batch s rest in
          let its = ap (sum_by f) puts ∙ sum_mapped f (parcel_of last) taken in
          omega (arith, sent, its, m.sends, sum_by-append g taken (along accepted (after b e) es rank))
          );
      gets = rw (said, gives) (
          let gets = got_one f h.held s rest in
          omega (
            arith,
            gets,
            takes,
            m.gets,
            sum_by-append g h.owed given,
            sum_by-append g given (along fetched (after b e) es rank),
            sum_by-append g h.owed (given ++ along fetched (after b e) es rank),
          )
          );
    }

    -- the call of a rank is answered
    answering : (r : RankState) (h : Hand) (call : Call) → Is b rank r → call_of r.status ≡ Some call → h.batch ≡ bytes_in last r.batch
        → IsAnswering b last rank r h call
    answering r h call there pends batch = record {
      sound = sound;
      there = there;
      pends = pends;
      shares = λ u puts. batch ∙ ap (bytes_in last) (sym (put_is_new b sound rank r u there puts).2);
      stay = λ c p found. bytes_are b last (e ∷ es) path c p found;
    }

    -- what is got by an answer is the unit that is given, or was before
    takes : (r : RankState) (h : Hand) (call : Call) (answer : Answer) → Is b rank r → call_of r.status ≡ Some call
        → h.batch ≡ bytes_in last r.batch → IsOfGrant h.held call → Keeps b rank h.held h.owed → Comes b e rank r.status call answer
        → sum_by f (parcel_got h.held call answer) ≤ sum_by g (h.owed ++ of_rank rank (fetched b e))
    takes r h call (answers.Body body) there pends batch grants keeps c = by_held h.held refl
      where
        s : Said
        s = record { call = call; answer = answers.Body body }

        by_held : (held : Option UnitNote) → h.held ≡ held
            → sum_by f (parcel_got h.held call (answers.Body body)) ≤ sum_by g (h.owed ++ of_rank rank (fetched b e))
        by_held None is = rw is (omega arith)
        by_held (Some note) is =
            let of_note : IsOfGrant (Some note) (calls_to.Fetch c.0.id) = rw (is, c.0.calls) at grants in
            let k : IsHeld b rank note h.owed = rw is at keeps in
            let t =
            call_adds 0 last b e rank r h call (answers.Body body) (answering r h call there pends batch) (rw is k)
            (rw (is, c.0.calls) of_note) c (ended_well call (answers.Body body) tt) in
            let one : got h.held (s ∷ []) ≡ map (parcel_of last) (h.owed ++ (of_rank rank (fetched b e) ++ [])) =
            t.gets [] [] (nothing_got None) in
            let all = ap (sum_by f) one ∙ sum_mapped f (parcel_of last) (h.owed ++ (of_rank rank (fetched b e) ++ [])) in
            omega (
              arith,
              all,
              got_one f h.held s [],
              sum_by-append g h.owed (of_rank rank (fetched b e) ++ []),
              sum_by-append g (of_rank rank (fetched b e)) [],
              sum_by-append g h.owed (of_rank rank (fetched b e)),
            )
    takes r h call answer there pends batch grants keeps c =
        rw (gets_none h.held call answer (λ body is. absurd (cc))) (omega arith)

    -- a unit that is granted is held
    granted_keeps : (r : RankState) (call : Call) (answer : Answer) → Comes b e rank r.status call answer
        → Keeps (after b e) rank (granted_note answer) []
    granted_keeps r call (answers.Granted note) c = record {
      placed = record c.placed { place = Pinned note.server rank };
      there = c.pinned;
      told = c.told;
      stands = inl (refl, refl);
    }
    granted_keeps r call answer c = tt

    -- own bytes that come are those of the unit that is held
    came : (r now : RankState) (h : Hand) (id : UnitId) (u : Placed) → Is b rank r → Is (after b e) rank now → IsComing b e rank r now id u
        → call_of now.status ≡ call_of r.status → AreOfGrants h.held rest → Keeps b rank h.held h.owed → (s : Said) (more : List Said)
        → rest ≡ s ∷ more → Keeps (after b e) rank h.held (u.unit ∷ [])
    came r now h id u there here coming status grants keeps s more is = by_held h.held grants keeps
      where
        fetch : s.call ≡ calls_to.Fetch id
        fetch = first_said (after b e) last es path.1 rank now (calls_to.Fetch id) here (status ∙ coming.calls) s more is

        by_held : (held : Option UnitNote) → AreOfGrants held rest → Keeps b rank held h.owed → Keeps (after b e) rank held (u.unit ∷ [])
        by_held None grants keeps = tt
        by_held (Some note) grants keeps =
            let order = (grants_one (Some note) s more (rw is at grants)).0 in
            let same : id ≡ note.id = rw fetch at order in
            (coming_held b e rank r now note h.owed id u keeps same coming).1

    -- by what the rank does in the entry
    turned : (r now : RankState) (h : Hand) → Is b rank r → Is (after b e) rank now → Deed b e rank r now
        → IsStanding b last rank r h (along says b (e ∷ es) rank)
        → ((k : Hand) → Next now k → IsMeasured f (after b e) last es rank k) → IsMeasured f b last (e ∷ es) rank h
    turned r now h there here (waits says_none idle status end same) stands later =
        silent r now h (of_none rank (says b e) says_none) (of_none rank (accepted b e) idle.0) (of_none rank (fetched b e) idle.2) same
        stands (later h)
    turned r now h there here (begins call says_none idle runs pends end same) stands later =
        silent r now h (of_none rank (says b e) says_none) (of_none rank (accepted b e) idle.0) (of_none rank (fetched b e) idle.2) same
        stands (later h)
    turned r now h there here (hears call answer heard pends runs end goes comes) stands later =
        let s : Said = record { call = call; answer = answer } in
        let mine = of_mine rank (says b e) s heard in
        let order = grants_one h.held s rest (rw mine at stands.grants) in
        let keeps = stands.keeps s rest (rw mine refl) in
        let a = answering r h call there pends stands.batch in
        spoken h s (of_rank rank (accepted b e)) (of_rank rank (fetched b e)) mine refl refl
        (sends last b e rank r.status h.batch call answer pends a.shares comes)
        (takes r h call answer there pends stands.batch order.0 keeps comes)
        (later (answered h call answer) (record {
          batch = batch_told (after b e) last es path.1 (step_keeps_sound settled b e path.0 sound) h.batch call answer r.batch
              now.batch goes stands.batch;
          grants = order.1;
          keeps = λ t more is. granted_keeps r call answer comes;
        }))
    turned r now h there here (awaits id u common says_none coming shared status accepts grants gives) stands later =
        let none = of_none rank (says b e) says_none in
        let given = of_mine rank (fetched b e) u.unit gives in
        let k : Hand = record { held = h.held; batch = h.batch; owed = u.unit ∷ [] } in
        let m = later k (record {
          batch = stands.batch ∙ ap (bytes_in last) (sym coming.batch);
          grants = rw none at stands.grants;
          keeps = λ s more is. came r now h id u there here coming status (rw none at stands.grants)
              (stands.keeps s more (rw none is)) s more is;
        }) in
        record {
          sends = rw (none, of_none rank (accepted b e) accepts) m.sends;
          gets = rw (none, given) (
              let gets = m.gets in
              omega (
                arith,
                gets,
                sum_by-append g h.owed (u.unit ∷ along fetched (after b e) es rank),
              )
              );
        }
    turned r now h there here (calls_done heard idle runs) stands later =
        let s : Said = record { call = calls_to.SetDone; answer = answers.Fine } in
        let mine = of_mine rank (says b e) s heard in
        absurd (never_done h.held (grants_one h.held s rest (rw mine at stands.grants)).0)
    turned r now h there here (finishes heard idle runs done end none) stands later =
        let mine = of_mine rank (says b e) finish heard in
        let order = grants_one h.held finish rest (rw mine at stands.grants) in
        spoken h finish [] [] mine (of_none rank (accepted b e) idle.0) (of_none rank (fetched b e) idle.2) refl
        (rw (gets_none h.held calls_to.Finish answers.Fine (λ body is. absurd (cc))) (omega arith))
        (later (record { held = None; batch = h.batch; owed = [] }) (record {
          batch = stands.batch ∙ ap (bytes_in last) (sym none.0);
          grants = order.1;
          keeps = λ t more is. tt;
        }))

-- A rank along the entries, and all ranks.

measured : (f : Parcel → ℕ) (b last : Bag) (es : List Entry) → IsPath b es last → IsSoundBag b → (rank : Rank) (r : RankState) (h : Hand)
    → Is b rank r → IsStanding b last rank r h (along says b es rank) → IsMeasured f b last es rank h
measured f b last [] path sound rank r h there stands = record {
  sends = ap (sum_by f) (nothing_sent h.batch);
  gets = let none = ap (sum_by f) (nothing_got h.held) in omega (arith, none);
}
measured f b last (e ∷ es) path sound rank r h there stands =
    by_case (seen b e path.0 rank)
    (λ now k here next. measured f (after b e) last es path.1 (step_keeps_sound settled b e path.0 sound) rank now k here next)
  where
    by_case : IsAway b e rank ⊎ IsTurn b e rank
        → ((now : RankState) (k : Hand) → Is (after b e) rank now → IsStanding (after b e) last rank now k (along says (after b e) es rank)
        → IsMeasured f (after b e) last es rank k)
        → IsMeasured f b last (e ∷ es) rank h
    by_case (inl away) later =
        silent f b last e es path sound rank r r h away.1 away.2 away.4 refl stands (later r h (away.0 ∙ there))
    by_case (inr t) later =
        let one : t.was ≡ r = some_is (sym t.there ∙ there) in
        turned f b last e es path sound rank t.was t.now h t.there t.here t.deed
        (subst (λ (x : RankState). IsStanding b last rank x h (along says b (e ∷ es) rank)) (sym one) stands)
        (λ k next. later t.now k t.here next)

over_up_to : (n : ℕ) (f g : Rank → ℕ) → ((rank : Rank) → rank.0 < n → f rank ≤ g rank) → over_ranks n f ≤ over_ranks n g
over_up_to zero f g le = omega arith
over_up_to (suc n) f g le =
    omega (arith, over_up_to n f g (λ rank below. le rank (omega arith)), le (record { 0 = n }) (omega arith))

-- in a legal run of ranks that fetch what they were granted, what was got was sent
pub covered : (config : Config) (ledger : List Entry) (last : Bag) → IsRun (start config) ledger last → FetchGrants config ledger
    → IsCovered config ledger
covered config ledger last run fetch f =
    let path = path_of (start config) last ledger run in
    let long = start_long config in
    let g : Unit → ℕ = λ u. f (parcel_of last u) in
    let each : (rank : Rank) → rank.0 < config.ranks → IsMeasured f (start config) last ledger rank empty = λ rank below.
    let r = there_is (start config).ranks rank.0 (omega (arith, long)) in
    measured f (start config) last ledger path (start_is_sound config) rank r.0 empty r.1 (record {
      batch = rw (fresh_at config.ranks rank.0 r.0 r.1) refl;
      grants = rw (← calls_along (start config) ledger rank) (fetch rank below);
      keeps = λ s more is. tt;
    }) in
    let gets = over_up_to config.ranks (λ rank. sum_by f (got None (calls config ledger rank)))
    (λ rank. sum_by g (along fetched (start config) ledger rank))
    (λ rank below. rw (calls_along (start config) ledger rank) (each rank below).gets) in
    let sends = over_same config.ranks (λ rank. sum_by f (sent None (calls config ledger rank)))
    (λ rank. sum_by g (along accepted (start config) ledger rank))
    (λ rank below. rw (calls_along (start config) ledger rank) (each rank below).sends) in
    let balance = left_balance g config.ranks (start config) last ledger long path in
    omega (arith, gets, sends, balance)
