-- Once it is over no work is brought, wanted or moved.
use Rattle.std.proofs.Common.{◌≡◌, ◌<◌, ◌⊎◌, inl, inr, ℕ, Bool, true, false, ◌||◌, List, [], ◌∷◌, ◌++◌, length, find, Option, None, Some}
use Rattle.std.proofs.Common.{refl, sym, ap, ◌∙◌, subst, arith}
use Rattle.std.specs.List.{list_any}
use Rattle.std.specs.Prelude.{option_map}
use Rattle.std.proofs.lemmas.Bool.{or_right}
use Rattle.std.proofs.lemmas.List.{length-replicate}
use Rattle.std.proofs.lemmas.Option.{slice_get_within}
use Rattle.adlb_unit.specs.Ids.{same_unit}
use Rattle.adlb_unit.specs.declared.configs.Config.{Config}
use Rattle.adlb_unit.specs.declared.messages.Message.{Message}
use Rattle.adlb_unit.specs.declared.messages.Message.TheVariants as tells
use Rattle.adlb_unit.specs.declared.names.CommonRef.{CommonRef}
use Rattle.adlb_unit.specs.declared.names.Rank.{Rank}
use Rattle.adlb_unit.specs.declared.names.Server.{Server}
use Rattle.adlb_unit.specs.declared.names.UnitId.{UnitId}
use Rattle.adlb_unit.specs.declared.names.WorkType.{WorkType}
use Rattle.adlb_unit.specs.declared.notes.End.{End}
use Rattle.adlb_unit.specs.declared.notes.UnitNote.{UnitNote}
use Rattle.bag_ledger.specs.Bag.{Bag, is_travelling, offer, open_call, promise_of, rank_at, settled, start as empty_bag, wish}
use Rattle.bag_ledger.specs.Runs.{IsRun, IsRunWhere}
use Rattle.bag_ledger.specs.Steps.{LegalWhere, after}
use Rattle.bag_ledger.specs.declared.entries.Entry.{Entry}
use Rattle.bag_ledger.specs.declared.entries.Entry.TheVariants as enters
use Rattle.bag_ledger.specs.declared.states.Placed.{Placed}
use Rattle.bag_ledger.specs.declared.states.Promise.{Promise}
use Rattle.bag_ledger.specs.declared.states.RankState.{RankState}
use Rattle.bag_ledger.specs.declared.states.Status.{Status}
use Rattle.bag_ledger.specs.declared.states.Status.TheVariants as is_at
use Rattle.bag_ledger.proofs.Tests.{some_is}
use Rattle.bag_law.proofs.Plain.{accepted_is, kept_is}
use Rattle.rank_client.specs.Agreement.{in_call, own_fetched, rank_of}
use Rattle.rank_client.specs.State.{ClientModel}
use Rattle.rank_client.specs.declared.pendings.Pending.{Pending}
use Rattle.rank_client.specs.declared.pendings.Pending.TheVariants as waits_for
use Rattle.core_law.proofs.UnpushedUnits.{still_exhausted}
use Rattle.core_law.proofs.Resting.{ranks_stay}
use Rattle.core_law.proofs.UnderWay.{each_append, each_parts}
use Rattle.core_check_law.specs.After.{AllOver, AreIdle, IsOver, IsTold, is_work}
use Rattle.core_check_law.proofs.ToldRanks.{is_open}
use Rattle.core_check_law.proofs.Runs.{is_finding}
use Rattle.core_check_law.proofs.StaysOver.{grant_stirs, is_coming, over_stays, settled_over}

-- A rank that was told an end has no call pending that brings or wants something.

-- if the rank was told an end, no call of it is open to servers
abbrev pub IsClosed : RankState → Type 0
IsClosed x = IsTold x → open_call x.status ≡ None

-- of each rank
abbrev pub AllClosed : Bag → Type 0
AllClosed b = (rank : Rank) (x : RankState) → rank_at b rank ≡ Some x → IsClosed x

abbrev ClosesIn : ClientModel → Pending → Type 0
ClosesIn c p = (end : End) → c.end ≡ Some end → is_open p ≡ false

no_more : {X : Type 0} (c : ClientModel) (p : Pending) → ClosesIn c p → is_open p ≡ true → (end : End) → c.end ≡ Some end → X
no_more c p modest opens end told = let closed = modest end told in let both : true ≡ false = sym opens ∙ closed in absurd (cc)

fetch_closed : (c : ClientModel) (request : ℕ) (note : UnitNote) (o : Option CommonRef) → IsClosed (own_fetched c request note o)
fetch_closed c request note None told = refl
fetch_closed c request note (Some common) told = refl

call_closed : (c : ClientModel) (p : Pending) (coming : Option Message) → ClosesIn c p → IsClosed (in_call c p coming)
call_closed c waits_for.Nothing coming modest told = refl
call_closed c (waits_for.Put unit first tried) None modest told = no_more c (waits_for.Put unit first tried) modest refl told.0 told.1
call_closed c (waits_for.Put unit first tried) (Some (tells.Full to charge)) modest told =
    no_more c (waits_for.Put unit first tried) modest refl told.0 told.1
call_closed c (waits_for.Put unit first tried) (Some (tells.Ended to end)) modest told = refl
call_closed c (waits_for.Put unit first tried) (Some _) modest told = refl
call_closed c (waits_for.Reserve request types) None modest told = no_more c (waits_for.Reserve request types) modest refl told.0 told.1
call_closed c (waits_for.Reserve request types) (Some (tells.Ended to end)) modest told = refl
call_closed c (waits_for.Reserve request types) (Some _) modest told = refl
call_closed c (waits_for.Try request types tried) None modest told = no_more c (waits_for.Try request types tried) modest refl told.0 told.1
call_closed c (waits_for.Try request types tried) (Some (tells.Nothing to)) modest told =
    no_more c (waits_for.Try request types tried) modest refl told.0 told.1
call_closed c (waits_for.Try request types tried) (Some (tells.Ended to end)) modest told = refl
call_closed c (waits_for.Try request types tried) (Some _) modest told = refl
call_closed c (waits_for.Fetch request note) None modest told = refl
call_closed c (waits_for.Fetch request note) (Some m) modest told = fetch_closed c request note note.common told
call_closed c (waits_for.Common request note common own) None modest told = refl
call_closed c (waits_for.Common request note common own) (Some m) modest told = refl
call_closed c (waits_for.Keep request common first tried) None modest told =
    no_more c (waits_for.Keep request common first tried) modest refl told.0 told.1
call_closed c (waits_for.Keep request common first tried) (Some (tells.Full to charge)) modest told =
    no_more c (waits_for.Keep request common first tried) modest refl told.0 told.1
call_closed c (waits_for.Keep request common first tried) (Some (tells.Ended to end)) modest told = refl
call_closed c (waits_for.Keep request common first tried) (Some _) modest told = refl
call_closed c (waits_for.Close request batch) None modest told = refl
call_closed c (waits_for.Close request batch) (Some m) modest told = refl
call_closed c (waits_for.Count request kind) None modest told = refl
call_closed c (waits_for.Count request kind) (Some m) modest told = refl
call_closed c (waits_for.SetDone request tried) coming modest told = refl

-- so it is of a rank whose client closes in its call
pub client_closed : (c : ClientModel) (finished : Bool) (coming : Option Message) → ClosesIn c c.pending
    → IsClosed (rank_of c finished coming)
client_closed c true coming modest told = refl
client_closed c false coming modest told = call_closed c c.pending coming modest told

-- a rank of the bag is in the run
pub rank_inside : (found : Bag → Bool) (config : Config) (es : List Entry) (b : Bag) (rank : Rank) (x : RankState)
    → IsRunWhere found (empty_bag config) es b → rank_at b rank ≡ Some x → rank.0 < config.ranks
rank_inside found config es b rank x run here =
    let low = slice_get_within b.ranks rank.0 x here in
    let count = ranks_stay found (empty_bag config) b es run in
    let all : length (empty_bag config).ranks ≡ config.ranks = length-replicate config.ranks _ in
    omega arith

-- No work.

wish_open : (s : Status) (p : ℕ × Option (List WorkType)) → wish s ≡ Some p → open_call s ≡ None → ⊥
wish_open (is_at.Asking call types) p wants closed = absurd (cc)
wish_open (is_at.Trying call types) p wants closed = absurd (cc)
wish_open _ p wants closed = absurd (cc)

offer_open : (s : Status) (p : ℕ × ℕ) → offer s ≡ Some p → (open_call s ≡ Some p.0) × (wish s ≡ None)
offer_open (is_at.Putting unit) p e = (ap (λ (o : Option (ℕ × ℕ)). option_map (λ q. q.0) o) e, refl)
offer_open (is_at.Keeping call common) p e = (ap (λ (o : Option (ℕ × ℕ)). option_map (λ q. q.0) o) e, refl)
offer_open _ p e = absurd (cc)

-- it brings something: so it has neither finished nor asks, and was told no end
brings_none : (b : Bag) (rank : Rank) (x : RankState) (call : ℕ) → IsOver b rank x → IsClosed x → open_call x.status ≡ Some call
    → wish x.status ≡ None → ⊥
brings_none b rank x call (inl e) closed opens other =
    let none : open_call is_at.Finished ≡ Some call = ap open_call (sym e) ∙ opens in absurd (cc)
brings_none b rank x call (inr (inl vain)) closed opens other =
    let some : wish (is_at.Asking vain.0 vain.1) ≡ None = ap wish (sym vain.2) ∙ other in absurd (cc)
brings_none b rank x call (inr (inr told)) closed opens other =
    let none : Some call ≡ None = sym opens ∙ closed told in absurd (cc)

-- it looks
tries_none : (b : Bag) (rank : Rank) (x : RankState) (call : ℕ) (types : Option (List WorkType)) → IsOver b rank x → IsClosed x
    → x.status ≡ is_at.Trying call types → ⊥
tries_none b rank x call types (inl e) closed tries =
    let bad : is_at.Finished ≡ is_at.Trying call types = sym e ∙ tries in absurd (cc)
tries_none b rank x call types (inr (inl vain)) closed tries =
    let bad : is_at.Asking vain.0 vain.1 ≡ is_at.Trying call types = sym vain.2 ∙ tries in absurd (cc)
tries_none b rank x call types (inr (inr told)) closed tries =
    let bad : Some call ≡ None = sym (ap open_call tries) ∙ closed told in absurd (cc)

-- no put is accepted
pub accepts_none : (found : Bag → Bool) (b : Bag) (server : Server) (id : UnitId) → LegalWhere found b (enters.Accepted server id)
    → AllOver b → AllClosed b → ⊥
accepts_none found b server id l over closed =
    brings_none b id.rank l.0 (l.1).id.number (over id.rank l.0 l.2) (closed id.rank l.0 l.2) (ap open_call l.3) (ap wish l.3)

-- nothing is promised, and nothing is between servers
abbrev pub IsUnmoved : Bag → Type 0
IsUnmoved b = (b.promises ≡ []) × (list_any (λ (u : Placed). is_travelling u.place) b.units ≡ false)

unpromised : (b : Bag) (id : UnitId) (p : Promise) → b.promises ≡ [] → promise_of b id ≡ Some p → ⊥
unpromised b id p none found =
    let bad : None ≡ Some p = ap (find (λ (q : Promise). same_unit q.id id)) (sym none) ∙ found in absurd (cc)

found_any : {X : Type 0} (test pick : X → Bool) (xs : List X) (x : X) → find pick xs ≡ Some x → test x ≡ true → list_any test xs ≡ true
found_any test pick [] x found is = absurd (cc)
found_any test pick (y ∷ xs) x found is = by_pick (pick y) refl (λ later. found_any test pick xs x later is)
  where
    by_pick : (t : Bool) → pick y ≡ t → (find pick xs ≡ Some x → list_any test xs ≡ true) → list_any test (y ∷ xs) ≡ true
    by_pick true at later = let it : y ≡ x = some_is (rw at at found) in rw (it, is) refl
    by_pick false at later = or_right (test y) (list_any test xs) (later (rw at at found))

-- the entry promises room
abbrev pub is_promise : Entry → Bool
is_promise (enters.Promised server id length) = true
is_promise _ = false

-- where all is over and nothing moves, no entry but a promise is of work
pub no_work : (found : Bag → Bool) (b : Bag) (e : Entry) → LegalWhere found b e → AllOver b → AllClosed b → IsUnmoved b
    → is_promise e ≡ false → is_work e ≡ false
no_work found b (enters.Refused server id used) l over closed still other =
    let o = offer_open (l.0).status (id.number, l.1) l.3 in
    absurd (brings_none b id.rank l.0 id.number (over id.rank l.0 l.2) (closed id.rank l.0 l.2) o.0 o.1)
no_work found b (enters.Accepted server id) l over closed still other = absurd (accepts_none found b server id l over closed)
no_work found b (enters.Kept server batch) l over closed still other =
    absurd (brings_none b batch.rank l.0 batch.number (over batch.rank l.0 l.2) (closed batch.rank l.0 l.2) (ap open_call l.3)
    (ap wish l.3))
no_work found b (enters.Granted server rank call id) l over closed still other = absurd (by_over (over rank l.0 l.3))
  where
    by_over : IsOver b rank l.0 → ⊥
    by_over (inl e) =
        grant_stirs b rank l.0 call l.1 l.2 server l.4 (λ (u : Placed). same_unit u.unit.id id) l.6.0 l.6.1 l.7 (inl e)
    by_over (inr (inl vain)) =
        grant_stirs b rank l.0 call l.1 l.2 server l.4 (λ (u : Placed). same_unit u.unit.id id) l.6.0 l.6.1 l.7 (inr vain)
    by_over (inr (inr told)) = wish_open (l.0).status (call, l.1) l.4 (closed rank l.0 l.3 told)
no_work found b (enters.Looked server rank call) l over closed still other =
    absurd (tries_none b rank l.0 call l.1 (over rank l.0 l.2) (closed rank l.0 l.2) l.3)
no_work found b (enters.Promised server id length) l over closed still other = absurd (cc)
no_work found b (enters.Left server to id) l over closed still other = absurd (unpromised b id l.1 still.0 l.5)
no_work found b (enters.Arrived server id) l over closed still other =
    let away : is_travelling (l.0).place ≡ true = ap is_travelling l.1.1 in
    let some = found_any (λ (u : Placed). is_travelling u.place) (λ (u : Placed). same_unit u.unit.id id) b.units l.0 l.1.0 away in
    let bad : true ≡ false = sym some ∙ still.1 in
    absurd (cc)
no_work found b (enters.Withdrawn server id) l over closed still other = absurd (unpromised b id l.1 still.0 l.5)
no_work found b _ l over closed still other = refl

-- Along a run.

-- an entry that is not of work brings no unit
pub idle_stays : (e : Entry) → is_work e ≡ false → is_coming e ≡ false
idle_stays (enters.Accepted server id) idle = absurd (cc)
idle_stays _ idle = refl

exhausted_same : (found : Bag → Bool) (b : Bag) (e : Entry) → LegalWhere found b e → is_finding e ≡ false
    → (after b e).exhausted ≡ b.exhausted
exhausted_same found b (enters.Accepted server id) l other = (accepted_is b server id l).exhausted
exhausted_same found b (enters.Kept server batch) l other = ap (λ (x : Bag). x.exhausted) (kept_is b server batch l)
exhausted_same found b enters.Exhausted l other = absurd (cc)
exhausted_same found b _ l other = refl

-- once it is found that all work is used up, it is over
abbrev pub IsX : Bag → Type 0
IsX b = b.exhausted ≡ true → AllOver b

-- once exhaustion was found, all is over after each step, too
pub x_step : (b : Bag) (e : Entry) → LegalWhere settled b e → (b.exhausted ≡ true → is_coming e ≡ false) → IsX b → IsX (after b e)
x_step b e l old x now = by_flag b.exhausted refl
  where
    by_entry : (e : Entry) (t : Bool) → LegalWhere settled b e → b.exhausted ≡ false → is_finding e ≡ t → (after b e).exhausted ≡ true
        → AllOver (after b e)
    by_entry enters.Exhausted t l off is now = over_stays settled b enters.Exhausted l refl (settled_over b l.0)
    by_entry e true l off is now = absurd (cc)
    by_entry e false l off is now =
        let same : false ≡ true = sym off ∙ sym (exhausted_same settled b e l is) ∙ now in absurd (cc)

    by_flag : (t : Bool) → b.exhausted ≡ t → AllOver (after b e)
    by_flag true is = over_stays settled b e l (old is) (x is)
    by_flag false is = by_entry e (is_finding e) l is refl now

-- and after each run of steps
pub x_run : (es : List Entry) (b n : Bag) → IsRun b es n → AreIdle es → IsX b → IsX n
x_run [] b n run idle x = subst IsX run x
x_run (e ∷ es) b n run idle x =
    let next : IsX run.0 = subst IsX (sym run.1.2) (x_step b e run.1.1 (λ found. idle_stays e idle.0) x) in
    x_run es run.0 n run.2 idle.1 next

-- Of the ledger.

-- no entry after that one is of work
abbrev pub IdleBehind : Entry → List Entry → Type 0 → Type 0
IdleBehind enters.Exhausted es rest = AreIdle es
IdleBehind _ es rest = rest

-- after exhaustion was found the ledger has no work
abbrev pub IdleAfter : List Entry → Type 0
IdleAfter [] = Unit {0}
IdleAfter (e ∷ es) = IdleBehind e es (IdleAfter es)

-- exhaustion that is not entered was found before
pub found_run : (found : Bag → Bool) (es : List Entry) (b n : Bag) → IsRunWhere found b es n
    → (b.exhausted ≡ true) ⊎ (list_any is_finding es ≡ true)
    → n.exhausted ≡ true
found_run found [] b n run (inl was) = ap (λ (x : Bag). x.exhausted) (sym run) ∙ was
found_run found [] b n run (inr any) = absurd (cc)
found_run found (e ∷ es) b n run (inl was) =
    found_run found es run.0 n run.2 (inl (ap (λ (x : Bag). x.exhausted) run.1.2 ∙ still_exhausted b e was))
found_run found (e ∷ es) b n run (inr any) = found_run found es run.0 n run.2 (by_entry e any run.1.2)
  where
    by_entry : (e : Entry) → (is_finding e || list_any is_finding es) ≡ true → run.0 ≡ after b e
        → ((run.0).exhausted ≡ true) ⊎ (list_any is_finding es ≡ true)
    by_entry enters.Exhausted any is = inl (ap (λ (x : Bag). x.exhausted) is)
    by_entry _ any is = inr any

first_idle : (e : Entry) (es : List Entry) → AreIdle es → IdleAfter es → IdleBehind e es (IdleAfter es)
first_idle enters.Exhausted es idle rest = idle
first_idle _ es idle rest = rest

-- a ledger without work has no work after exhaustion was found
pub idle_after : (es : List Entry) → AreIdle es → IdleAfter es
idle_after [] idle = tt
idle_after (e ∷ es) idle = first_idle e es idle.1 (idle_after es idle.1)

-- a ledger with no work after its first entry
pub begun_idle : (e : Entry) (es : List Entry) → AreIdle es → IdleAfter (e ∷ es)
begun_idle e es idle = first_idle e es idle (idle_after es idle)

-- a ledger that grows by no work has none after exhaustion was found
pub idle_grows : (ledger es : List Entry) → IdleAfter ledger → (list_any is_finding ledger ≡ true → AreIdle es) → IdleAfter es
    → IdleAfter (ledger ++ es)
idle_grows [] es was idle new = new
idle_grows (e ∷ ledger) es was idle new = by_entry e was idle (λ rest later. idle_grows ledger es rest later new)
  where
    by_entry : (e : Entry) → IdleBehind e ledger (IdleAfter ledger) → ((is_finding e || list_any is_finding ledger) ≡ true → AreIdle es)
        → (IdleAfter ledger → (list_any is_finding ledger ≡ true → AreIdle es) → IdleAfter (ledger ++ es))
        → IdleBehind e (ledger ++ es) (IdleAfter (ledger ++ es))
    by_entry enters.Exhausted was idle rest = each_append (λ (x : Entry). is_work x ≡ false) ledger es was (idle refl)
    by_entry _ was idle rest = rest was idle

-- what follows the entry
pub idle_behind : (before behind : List Entry) → IdleAfter (before ++ enters.Exhausted ∷ behind) → AreIdle behind
idle_behind [] behind all = all
idle_behind (e ∷ before) behind all = by_entry e all (idle_behind before behind)
  where
    by_entry : (e : Entry) → IdleBehind e (before ++ enters.Exhausted ∷ behind) (IdleAfter (before ++ enters.Exhausted ∷ behind))
        → (IdleAfter (before ++ enters.Exhausted ∷ behind) → AreIdle behind) → AreIdle behind
    by_entry enters.Exhausted idle later =
        (each_parts (λ (x : Entry). is_work x ≡ false) before (enters.Exhausted ∷ behind) idle).1.1
    by_entry _ idle later = later idle
