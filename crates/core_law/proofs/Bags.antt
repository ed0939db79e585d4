-- What the entries of acts leave of the bag: the facts of notes stay, and so does each other server's agreement.
use Rattle.std.proofs.Common.{◌≡◌, ◌≢◌, ◌<◌, Bool, true, false, cond, List, [], ◌∷◌, ◌++◌, Some, refl, sym, ap, ◌∙◌, subst, arith}
use Rattle.std.specs.Prelude.{All}
use Rattle.adlb_unit.specs.declared.names.Server.{Server}
use Rattle.adlb_unit.specs.declared.notes.UnitNote.{UnitNote}
use Rattle.bag_ledger.specs.Bag.{Bag}
use Rattle.bag_ledger.specs.Runs.{IsRunWhere}
use Rattle.bag_ledger.specs.Steps.{StepsWhere, moved}
use Rattle.bag_ledger.specs.declared.entries.Entry.{Entry}
use Rattle.bag_ledger.specs.declared.entries.Entry.TheVariants as enters
use Rattle.bag_ledger.specs.declared.states.UnitPlace.TheVariants.{Pinned, Spent, Free, Travelling}
use Rattle.bag_ledger.proofs.Tests.{some_is}
use Rattle.bag_law.proofs.Plain.{accepted_is, kept_is, lodged}
use Rattle.bag_law.specs.Sound.{IsSoundBag}
use Rattle.adlb_unit.specs.declared.names.BatchId.{BatchId}
use Rattle.server_components.specs.Store.{closed, fetched, is_due}
use Rattle.server_components.specs.declared.parts.Part.{Part}
use Rattle.server_law.specs.Acts.{Act, Accepts, Answers, Asks_on, Closes, Declines, Drops_hint, Checks_alone, Fails, Fetches, Fetches_part}
use Rattle.server_law.specs.Acts.{Finds, Finds_alone, Gives, Gives_up, Grants, Grants_try, Hears_done, Hears_exhaust, Hears_failed}
use Rattle.server_law.specs.Acts.{Hears_shutdown, Hints, Is_hinted, Keeps, Marks, Notes_finish, Notes_own, Notices, Parks, Passes}
use Rattle.server_law.specs.Acts.{Passes_on, Shuts, Shuts_alone, Starts, Wakes, Wants, entries, frees, Queries, Promises, Refuses_push}
use Rattle.server_law.specs.Acts.{Sends_unit, Cancels, Stops_push, Ends_push, Arrives, Acks, Withdraws}
use Rattle.server_law.specs.Agreement.{ServerAgrees}
use Rattle.server_law.specs.Legal.{ServersStay, keeper}
use Rattle.server_law.specs.State.{ServerModel}
use Rattle.server_law.specs.Sure.{Sure}
use Rattle.core_law.specs.Lawful.{IsFact}
use Rattle.core_law.specs.OnLinks.{Each}
use Rattle.core_law.proofs.RankSteps.{sound_after}
use Rattle.core_law.proofs.TakenUnits.{facts_added, facts_moved, facts_same}

-- the entries that acts make
abbrev pub is_of_act : Entry → Bool
is_of_act (enters.Refused server id used) = true
is_of_act (enters.Accepted server id) = true
is_of_act (enters.Granted server rank call id) = true
is_of_act (enters.Looked server rank call) = true
is_of_act (enters.Fetched server rank id) = true
is_of_act (enters.Kept server batch) = true
is_of_act (enters.Closed server batch) = true
is_of_act (enters.CommonFetched server rank batch) = true
is_of_act (enters.Freed server batch) = true
is_of_act (enters.Promised server id length) = true
is_of_act (enters.Left server to id) = true
is_of_act (enters.Arrived server id) = true
is_of_act (enters.Withdrawn server id) = true
is_of_act (enters.Counted server rank call info) = true
is_of_act enters.Exhausted = true
is_of_act (enters.Over rank call end) = true
is_of_act _ = false

-- entries as acts make them
abbrev pub AreOfActs : List Entry → Type 0
AreOfActs es = Each (λ e. is_of_act e ≡ true) es

frees_of_act : (k : Server) (batch : BatchId) (part : Part) → AreOfActs (frees k batch part)
frees_of_act k batch part = by_due (is_due part)
  where
    by_due : (t : Bool) → AreOfActs (cond t (enters.Freed k batch ∷ []) [])
    by_due true = (refl, tt)
    by_due false = tt

-- the entries of an act are such
pub of_act : (a : Act) (s : ServerModel) → AreOfActs (entries a s)
of_act (Parks wish) s = tt
of_act (Notes_finish rank) s = tt
of_act (Hears_done rank request) s = tt
of_act Notices s = tt
of_act Notes_own s = tt
of_act (Wants from) s = tt
of_act Starts s = tt
of_act (Marks from t) s = tt
of_act (Passes from t) s = tt
of_act (Fails from t why) s = tt
of_act (Gives_up from t) s = tt
of_act (Hears_failed from t why) s = tt
of_act (Shuts from t) s = tt
of_act (Hears_exhaust from) s = tt
of_act (Hears_shutdown from) s = tt
of_act Shuts_alone s = tt
of_act Checks_alone s = tt
of_act (Asks_on at wish to rest) s = tt
of_act (Passes_on at wish from rest note) s = tt
of_act (Wakes at wish from rest) s = tt
of_act (Is_hinted at e from) s = tt
of_act (Drops_hint from rank request) s = tt
of_act (Declines from wish) s = tt
of_act (Hints wish) s = tt
of_act (Queries to id size) s = tt
of_act (Refuses_push from id size) s = tt
of_act (Cancels to id size) s = tt
of_act (Stops_push to id size) s = tt
of_act (Ends_push to id size) s = tt
of_act (Acks to id) s = tt
of_act (Closes request batch accepted part) s = (refl, frees_of_act s.me batch (closed accepted part))
of_act (Fetches_part rank request batch part) s = (refl, frees_of_act s.me batch (fetched part))
of_act _ s = (refl, tt)

frees_kept : (k other : Server) (batch : BatchId) (part : Part) → k ≢ other → Each (λ e. keeper e ≢ Some other) (frees k batch part)
frees_kept k other batch part differs = by_due (is_due part)
  where
    by_due : (t : Bool) → Each (λ e. keeper e ≢ Some other) (cond t (enters.Freed k batch ∷ []) [])
    by_due true = ((λ is. differs (some_is is)), tt)
    by_due false = tt

-- its keeper is the server that acts, if there is one
pub not_kept : (a : Act) (s : ServerModel) (other : Server) → Sure a s → s.me.0 < s.config.servers → s.me ≢ other
    → Each (λ e. keeper e ≢ Some other) (entries a s)
not_kept (Accepts unit) s other sure within differs = ((λ is. differs (some_is is)), tt)
not_kept (Grants wish unit) s other sure within differs = ((λ is. differs (some_is is)), tt)
not_kept (Grants_try wish unit) s other sure within differs = ((λ is. differs (some_is is)), tt)
not_kept (Fetches rank request id unit) s other sure within differs = ((λ is. differs (some_is is)), tt)
not_kept (Gives at wish rest unit) s other sure within differs = ((λ is. differs (some_is is)), tt)
not_kept (Answers from wish unit) s other sure within differs = ((λ is. differs (some_is is)), tt)
not_kept (Finds from t) s other sure within differs =
    let me : record { 0 = 0 } ≡ s.me = ap (λ n. record { 0 = n }) (sym sure.0.running.zeroth) in
    ((λ is. differs (sym me ∙ some_is is)), tt)
not_kept Finds_alone s other sure within differs =
    let alone = sure.alone in
    let zeroth : s.me.0 ≡ 0 = omega arith in
    let me : record { 0 = 0 } ≡ s.me = ap (λ n. record { 0 = n }) (sym zeroth) in
    ((λ is. differs (sym me ∙ some_is is)), tt)
not_kept (Keeps rank request common) s other sure within differs = ((λ is. differs (some_is is)), tt)
not_kept (Closes request batch accepted part) s other sure within differs =
    ((λ is. differs (some_is is)), frees_kept s.me other batch (closed accepted part) differs)
not_kept (Fetches_part rank request batch part) s other sure within differs =
    ((λ is. differs (some_is is)), frees_kept s.me other batch (fetched part) differs)
not_kept (Parks wish) s other sure within differs = tt
not_kept (Notes_finish rank) s other sure within differs = tt
not_kept (Hears_done rank request) s other sure within differs = tt
not_kept Notices s other sure within differs = tt
not_kept Notes_own s other sure within differs = tt
not_kept (Wants from) s other sure within differs = tt
not_kept Starts s other sure within differs = tt
not_kept (Marks from t) s other sure within differs = tt
not_kept (Passes from t) s other sure within differs = tt
not_kept (Fails from t why) s other sure within differs = tt
not_kept (Gives_up from t) s other sure within differs = tt
not_kept (Hears_failed from t why) s other sure within differs = tt
not_kept (Shuts from t) s other sure within differs = tt
not_kept (Hears_exhaust from) s other sure within differs = tt
not_kept (Hears_shutdown from) s other sure within differs = tt
not_kept Shuts_alone s other sure within differs = tt
not_kept Checks_alone s other sure within differs = tt
not_kept (Asks_on at wish to rest) s other sure within differs = tt
not_kept (Passes_on at wish from rest note) s other sure within differs = tt
not_kept (Wakes at wish from rest) s other sure within differs = tt
not_kept (Is_hinted at e from) s other sure within differs = tt
not_kept (Drops_hint from rank request) s other sure within differs = tt
not_kept (Declines from wish) s other sure within differs = tt
not_kept (Hints wish) s other sure within differs = tt
not_kept (Queries to id size) s other sure within differs = tt
not_kept (Refuses_push from id size) s other sure within differs = tt
not_kept (Cancels to id size) s other sure within differs = tt
not_kept (Stops_push to id size) s other sure within differs = tt
not_kept (Ends_push to id size) s other sure within differs = tt
not_kept (Acks to id) s other sure within differs = tt
not_kept (Promises from id size) s other sure within differs = ((λ is. differs (some_is is)), tt)
not_kept (Sends_unit to size unit) s other sure within differs = ((λ is. differs (some_is is)), tt)
not_kept (Arrives from unit) s other sure within differs = ((λ is. differs (some_is is)), tt)
not_kept (Withdraws from id) s other sure within differs = ((λ is. differs (some_is is)), tt)
not_kept _ s other sure within differs = ((λ is. absurd (cc)), tt)

-- One entry.

facts_after : (found : Bag → Bool) (b n : Bag) (e : Entry) (notes : List UnitNote) → is_of_act e ≡ true → StepsWhere found b e n
    → All (IsFact b) notes → All (IsFact n) notes
facts_after found b n (enters.Refused server id used) notes is step facts = facts_same b n notes (ap (λ (x : Bag). x.units) step.2) facts
facts_after found b n (enters.Accepted server id) notes is step facts =
    let a = accepted_is b server id step.1 in
    let u = lodged server a.u in
    let more = facts_added b u notes facts in
    facts_same (record b { units = b.units ++ u ∷ [] }) n notes (ap (λ (x : Bag). x.units) step.2 ∙ a.units) more
facts_after found b n (enters.Granted server rank call id) notes is step facts =
    let pinned = Pinned server rank in
    facts_same (moved id pinned b) n notes (ap (λ (x : Bag). x.units) step.2) (facts_moved b id pinned notes facts)
facts_after found b n (enters.Looked server rank call) notes is step facts = facts_same b n notes (ap (λ (x : Bag). x.units) step.2) facts
facts_after found b n (enters.Fetched server rank id) notes is step facts =
    facts_same (moved id Spent b) n notes (ap (λ (x : Bag). x.units) step.2) (facts_moved b id Spent notes facts)
facts_after found b n (enters.Kept server batch) notes is step facts =
    facts_same b n notes (ap (λ (x : Bag). x.units) (step.2 ∙ kept_is b server batch step.1)) facts
facts_after found b n (enters.Closed server batch) notes is step facts = facts_same b n notes (ap (λ (x : Bag). x.units) step.2) facts
facts_after found b n (enters.CommonFetched server rank batch) notes is step facts =
    facts_same b n notes (ap (λ (x : Bag). x.units) step.2) facts
facts_after found b n (enters.Freed server batch) notes is step facts = facts_same b n notes (ap (λ (x : Bag). x.units) step.2) facts
facts_after found b n (enters.Counted server rank call info) notes is step facts =
    facts_same b n notes (ap (λ (x : Bag). x.units) step.2) facts
facts_after found b n enters.Exhausted notes is step facts = facts_same b n notes (ap (λ (x : Bag). x.units) step.2) facts
facts_after found b n (enters.Over rank call end) notes is step facts = facts_same b n notes (ap (λ (x : Bag). x.units) step.2) facts
facts_after found b n (enters.Promised server id length) notes is step facts = facts_same b n notes (ap (λ (x : Bag). x.units) step.2) facts
facts_after found b n (enters.Left server to id) notes is step facts =
    let on_way = Travelling to in
    facts_same (moved id on_way b) n notes (ap (λ (x : Bag). x.units) step.2) (facts_moved b id on_way notes facts)
facts_after found b n (enters.Arrived server id) notes is step facts =
    let free = Free server in
    facts_same (moved id free b) n notes (ap (λ (x : Bag). x.units) step.2) (facts_moved b id free notes facts)
facts_after found b n (enters.Withdrawn server id) notes is step facts = facts_same b n notes (ap (λ (x : Bag). x.units) step.2) facts
facts_after found b n _ notes is step facts = absurd (cc)

-- All entries of an act.

-- such entries leave what notes say
pub run_facts : (found : Bag → Bool) (es : List Entry) (b n : Bag) (notes : List UnitNote) → AreOfActs es → IsRunWhere found b es n
    → All (IsFact b) notes → All (IsFact n) notes
run_facts found [] b n notes are run facts = subst (λ (x : Bag). All (IsFact x) notes) run facts
run_facts found (e ∷ es) b n notes are run facts =
    run_facts found es run.0 n notes are.1 run.2 (facts_after found b run.0 e notes are.0 run.1 facts)

-- entries that are not a server's leave its agreement with the bag
pub run_servers : ServersStay → (found : Bag → Bool) (es : List Entry) (b n : Bag) (t : ServerModel) → Each (λ e. keeper e ≢ Some t.me) es
    → IsSoundBag b → IsRunWhere found b es n → ServerAgrees b t → ServerAgrees n t
run_servers stay found [] b n t others sound run agrees = subst (λ (x : Bag). ServerAgrees x t) run agrees
run_servers stay found (e ∷ es) b n t others sound run agrees =
    run_servers stay found es run.0 n t others.1 (sound_after found b run.0 e sound run.1) run.2
    (stay found b run.0 e t sound run.1 others.0 agrees)
