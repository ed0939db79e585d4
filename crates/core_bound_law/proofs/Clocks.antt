-- A step of an actor leaves it as failed, or not, as it was, and its clock is the stamp of the event.
use Rattle.std.proofs.Common.{◌≡◌, ◌+◌, ◌^◌, ℕ, Bool, true, false, ◌&&◌, cond, List, [], ◌∷◌, ◌++◌, Option, Some, None, refl, ◌∙◌, subst}
use Rattle.std.specs.Prelude.{nat_lt, not}
use Rattle.std.specs.Option.{option_map}
use Rattle.adlb_unit.specs.Links.{is_within}
use Rattle.adlb_unit.specs.declared.actors.Actor.{Actor}
use Rattle.adlb_unit.specs.declared.letters.Letter.{Letter}
use Rattle.adlb_unit.specs.declared.messages.Message.{Message}
use Rattle.adlb_unit.specs.declared.messages.Message.TheVariants as tells
use Rattle.adlb_unit.specs.declared.names.CommonRef.{CommonRef}
use Rattle.adlb_unit.specs.declared.names.Server.{Server}
use Rattle.adlb_unit.specs.declared.names.UnitId.{UnitId}
use Rattle.adlb_unit.specs.declared.names.WorkType.{WorkType}
use Rattle.adlb_unit.specs.declared.notes.End.{End}
use Rattle.adlb_unit.specs.declared.notes.UnitNote.{UnitNote}
use Rattle.adlb_unit.specs.declared.units.Unit.{Unit}
use Rattle.bag_ledger.specs.declared.entries.Call.{Call}
use Rattle.bag_ledger.specs.declared.entries.Call.TheVariants as calls_to
use Rattle.rank_client.specs.declared.pendings.Pending.{Pending}
use Rattle.rank_client.specs.declared.pendings.Pending.TheVariants as waits_for
use Rattle.rank_client.specs.Rules as rank_rules
use Rattle.rank_client.specs.State.{ClientModel}
use Rattle.rank_client.specs.Step as rank_step
use Rattle.server_law.specs.Acts.{Act, ServerSaying, does, says}
use Rattle.server_law.specs.Carried.{Served, all_counted, carried, counted, done}
use Rattle.server_law.specs.State.{ServerModel}
use Rattle.server_law.specs.Step.{acts, at_event, next_stamp, serve}

-- A rank.

abbrev RankStays : ClientModel → ClientModel → Type 0
RankStays s t = (t.trouble ≡ s.trouble) × (t.clock ≡ s.clock)

-- the step, if there is one, leaves the trouble and the clock
abbrev Leaves : ClientModel → Option rank_rules.ClientResponse → Type 0
Leaves s None = Prim.Unit {0}
Leaves s (Some x) = RankStays s x.state

leaves_if : (s : ClientModel) (b : Bool) (x : rank_rules.ClientResponse) → RankStays s x.state → Leaves s (cond b (Some x) None)
leaves_if s true x kept = kept
leaves_if s false x kept = tt

put_leaves : (s : ClientModel) (unit : Unit) (end : Option End) → RankStays s (rank_rules.put s unit end).state
put_leaves s unit None = (refl, refl)
put_leaves s unit (Some end) = (refl, refl)

reserve_leaves : (s : ClientModel) (types : Option (List WorkType)) (end : Option End) → RankStays s (rank_rules.reserve s types end).state
reserve_leaves s types None = (refl, refl)
reserve_leaves s types (Some end) = (refl, refl)

look_leaves : (s : ClientModel) (types : Option (List WorkType)) (end : Option End) → RankStays s (rank_rules.look s types end).state
look_leaves s types None = (refl, refl)
look_leaves s types (Some end) = (refl, refl)

fetch_leaves : (s : ClientModel) (id : UnitId) (note : Option UnitNote) → Leaves s (rank_rules.fetch s id note)
fetch_leaves s id None = tt
fetch_leaves s id (Some note) = (refl, refl)

keep_leaves : (s : ClientModel) (common : List ℕ) (end : Option End) → RankStays s (rank_rules.keep s common end).state
keep_leaves s common None = (refl, refl)
keep_leaves s common (Some end) = (refl, refl)

close_leaves : (s : ClientModel) (batch : Option CommonRef) → Leaves s (rank_rules.close s batch)
close_leaves s None = tt
close_leaves s (Some batch) = (refl, refl)

call_leaves : (s : ClientModel) (call : Call) → Leaves s (rank_rules.open_call s call)
call_leaves s (calls_to.Put kind prio target answer body) =
    leaves_if s _ (rank_rules.put s (rank_rules.unit_put s kind prio target answer body) s.end)
    (put_leaves s (rank_rules.unit_put s kind prio target answer body) s.end)
call_leaves s (calls_to.Reserve types) = reserve_leaves s types s.end
call_leaves s (calls_to.Try types) = look_leaves s types s.end
call_leaves s (calls_to.Fetch id) = fetch_leaves s id (rank_rules.held s id)
call_leaves s (calls_to.BeginBatch common) = leaves_if s _ (rank_rules.keep s common s.end) (keep_leaves s common s.end)
call_leaves s calls_to.EndBatch = close_leaves s s.batch
call_leaves s (calls_to.Count kind) = (refl, refl)
call_leaves s calls_to.SetDone = (refl, refl)
call_leaves s calls_to.Finish = leaves_if s _ (rank_rules.finish s) (refl, refl)

refused_leaves : (s : ClientModel) (unit : Unit) (first : Server) (tried : ℕ) (more : Bool)
    → RankStays s (rank_rules.refused s unit first tried more).state
refused_leaves s unit first tried true = (refl, refl)
refused_leaves s unit first tried false = (refl, refl)

hear_put_leaves : (s : ClientModel) (unit : Unit) (first : Server) (tried : ℕ) (from : Server) (message : Message)
    → Leaves s (rank_rules.hear_put s unit first tried from message)
hear_put_leaves s unit first tried from (tells.Accepted to) = leaves_if s _ _ (refl, refl)
hear_put_leaves s unit first tried from (tells.Full to charge) =
    leaves_if s _ (rank_rules.refused s unit first tried (nat_lt (tried + 1) s.config.servers))
    (refused_leaves s unit first tried (nat_lt (tried + 1) s.config.servers))
hear_put_leaves s unit first tried from (tells.Ended to end) = leaves_if s _ _ (refl, refl)
hear_put_leaves s unit first tried from _ = tt

hear_reserve_leaves : (s : ClientModel) (request : ℕ) (types : Option (List WorkType)) (from : Server) (message : Message)
    → Leaves s (rank_rules.hear_reserve s request types from message)
hear_reserve_leaves s request types from (tells.Grant to note) = leaves_if s _ _ (refl, refl)
hear_reserve_leaves s request types from (tells.Ended to end) = leaves_if s _ _ (refl, refl)
hear_reserve_leaves s request types from _ = tt

looked_leaves : (s : ClientModel) (request : ℕ) (types : Option (List WorkType)) (tried : ℕ) (more : Bool)
    → RankStays s (rank_rules.looked s request types tried more).state
looked_leaves s request types tried true = (refl, refl)
looked_leaves s request types tried false = (refl, refl)

hear_look_leaves : (s : ClientModel) (request : ℕ) (types : Option (List WorkType)) (tried : ℕ) (from : Server) (message : Message)
    → Leaves s (rank_rules.hear_look s request types tried from message)
hear_look_leaves s request types tried from (tells.Grant to note) = leaves_if s _ _ (refl, refl)
hear_look_leaves s request types tried from (tells.Nothing to) =
    leaves_if s _ (rank_rules.looked s request types tried (nat_lt (tried + 1) s.config.servers))
    (looked_leaves s request types tried (nat_lt (tried + 1) s.config.servers))
hear_look_leaves s request types tried from (tells.Ended to end) = leaves_if s _ _ (refl, refl)
hear_look_leaves s request types tried from _ = tt

own_leaves : (s : ClientModel) (request : ℕ) (note : UnitNote) (own : List ℕ) (common : Option CommonRef)
    → RankStays s (rank_rules.own_came s request note own common).state
own_leaves s request note own None = (refl, refl)
own_leaves s request note own (Some common) = (refl, refl)

hear_fetch_leaves : (s : ClientModel) (request : ℕ) (note : UnitNote) (from : Server) (message : Message)
    → Leaves s (rank_rules.hear_fetch s request note from message)
hear_fetch_leaves s request note from (tells.Bytes to body) =
    leaves_if s _ (rank_rules.own_came s request note body note.common) (own_leaves s request note body note.common)
hear_fetch_leaves s request note from _ = tt

hear_common_leaves : (s : ClientModel) (request : ℕ) (note : UnitNote) (common : CommonRef) (own : List ℕ) (from : Server)
    (message : Message)
    → Leaves s (rank_rules.hear_common s request note common own from message)
hear_common_leaves s request note common own from (tells.Bytes to body) = leaves_if s _ _ (refl, refl)
hear_common_leaves s request note common own from _ = tt

part_leaves : (s : ClientModel) (request : ℕ) (common : List ℕ) (first : Server) (tried : ℕ) (more : Bool)
    → RankStays s (rank_rules.part_refused s request common first tried more).state
part_leaves s request common first tried true = (refl, refl)
part_leaves s request common first tried false = (refl, refl)

hear_keep_leaves : (s : ClientModel) (request : ℕ) (common : List ℕ) (first : Server) (tried : ℕ) (from : Server) (message : Message)
    → Leaves s (rank_rules.hear_keep s request common first tried from message)
hear_keep_leaves s request common first tried from (tells.Accepted to) = leaves_if s _ _ (refl, refl)
hear_keep_leaves s request common first tried from (tells.Full to charge) =
    leaves_if s _ (rank_rules.part_refused s request common first tried (nat_lt (tried + 1) s.config.servers))
    (part_leaves s request common first tried (nat_lt (tried + 1) s.config.servers))
hear_keep_leaves s request common first tried from (tells.Ended to end) = leaves_if s _ _ (refl, refl)
hear_keep_leaves s request common first tried from _ = tt

hear_close_leaves : (s : ClientModel) (request : ℕ) (batch : CommonRef) (from : Server) (message : Message)
    → Leaves s (rank_rules.hear_close s request batch from message)
hear_close_leaves s request batch from (tells.Closed to) = leaves_if s _ _ (refl, refl)
hear_close_leaves s request batch from _ = tt

hear_count_leaves : (s : ClientModel) (request : ℕ) (kind : WorkType) (from : Server) (message : Message)
    → Leaves s (rank_rules.hear_count s request kind from message)
hear_count_leaves s request kind from (tells.Counted to info) = leaves_if s _ _ (refl, refl)
hear_count_leaves s request kind from _ = tt

told_done_leaves : (s : ClientModel) (request tried : ℕ) (more : Bool) → RankStays s (rank_rules.told_done s request tried more).state
told_done_leaves s request tried true = (refl, refl)
told_done_leaves s request tried false = (refl, refl)

hear_done_leaves : (s : ClientModel) (request tried : ℕ) (from : Server) (message : Message)
    → Leaves s (rank_rules.hear_done s request tried from message)
hear_done_leaves s request tried from (tells.DoneHeard to) =
    leaves_if s _ (rank_rules.told_done s request tried (nat_lt (tried + 1) s.config.servers))
    (told_done_leaves s request tried (nat_lt (tried + 1) s.config.servers))
hear_done_leaves s request tried from _ = tt

answer_leaves : (s : ClientModel) (pending : Pending) (from : Server) (message : Message)
    → Leaves s (rank_rules.answer_call s pending from message)
answer_leaves s waits_for.Nothing from message = tt
answer_leaves s (waits_for.Put unit first tried) from message = hear_put_leaves s unit first tried from message
answer_leaves s (waits_for.Reserve request types) from message = hear_reserve_leaves s request types from message
answer_leaves s (waits_for.Try request types tried) from message = hear_look_leaves s request types tried from message
answer_leaves s (waits_for.Fetch request note) from message = hear_fetch_leaves s request note from message
answer_leaves s (waits_for.Common request note common own) from message = hear_common_leaves s request note common own from message
answer_leaves s (waits_for.Keep request common first tried) from message = hear_keep_leaves s request common first tried from message
answer_leaves s (waits_for.Close request batch) from message = hear_close_leaves s request batch from message
answer_leaves s (waits_for.Count request kind) from message = hear_count_leaves s request kind from message
answer_leaves s (waits_for.SetDone request tried) from message = hear_done_leaves s request tried from message

-- letters leave it
post_leaves : (x : rank_step.Made) (says : List rank_rules.ClientSaying) → RankStays x.state (rank_step.post x says).state
post_leaves x [] = (refl, refl)
post_leaves x (y ∷ says) =
    post_leaves (record x { state = rank_step.counted x.state y.to; sends = x.sends ++ rank_step.posted x.state y ∷ [] }) says

made_leaves : (s : ClientModel) (o : Option rank_rules.ClientResponse) (x : rank_step.Made) → Leaves s o
    → option_map rank_step.made o ≡ Some x → RankStays s x.state
made_leaves s None x kept is = absurd (cc)
made_leaves s (Some r) x kept is =
    let same : rank_step.made r ≡ x = cc in
    let posted = post_leaves (record { state = r.state; sends = []; entries = r.entries; answer = r.answer }) r.says in
    subst (λ (m : rank_step.Made). RankStays s m.state) same (posted.0 ∙ kept.0, posted.1 ∙ kept.1)

where_true : {X : Type 0} (b : Bool) (o : Option X) (x : X) → cond b o None ≡ Some x → o ≡ Some x
where_true true o x is = is
where_true false o x is = absurd (cc)

-- a call that a rank begins leaves its trouble, and its clock is the stamp of the event
pub begin_leaves : (s : ClientModel) (call : Call) (x : rank_step.Made) → rank_step.begin s call ≡ Some x
    → (x.state.trouble ≡ s.trouble) × (x.state.clock ≡ rank_step.call_stamp s)
begin_leaves s call x is =
    let t : ClientModel = rank_step.ticked s (rank_step.call_stamp s) in
    made_leaves t (rank_rules.open_call t call) x (call_leaves t call) (where_true (rank_rules.is_free s) _ x is)

-- an answer that a rank hears leaves its trouble, and its clock is the stamp of the event
pub hear_leaves : (s : ClientModel) (from : Server) (letter : Letter) (x : rank_step.Made) → rank_step.hear s from letter ≡ Some x
    → (x.state.trouble ≡ s.trouble) × (x.state.clock ≡ rank_step.letter_stamp s letter)
hear_leaves s from letter x is =
    let t : ClientModel = rank_step.ticked s (rank_step.letter_stamp s letter) in
    made_leaves t (rank_rules.answer_call t s.pending from letter.message) x (answer_leaves t s.pending from letter.message)
    (where_true (not s.finished && nat_lt letter.stamp (2 ^ 48)) _ x is)

-- A server.

abbrev ServerStays : ServerModel → ServerModel → Type 0
ServerStays s t = (t.trouble ≡ s.trouble) × (t.clock ≡ s.clock)

counted_leaves : (s : ServerModel) (says : List ServerSaying) → ServerStays s (all_counted s says)
counted_leaves s [] = (refl, refl)
counted_leaves s (y ∷ says) = counted_leaves (counted s y.to) says

carried_leaves : (acts : List Act) (s : ServerModel) → ServerStays s (carried acts s).state
carried_leaves [] s = (refl, refl)
carried_leaves (a ∷ more) s =
    let first = counted_leaves (does a s) (says a s) in
    let then = carried_leaves more (done a s) in
    (then.0 ∙ first.0, then.1 ∙ first.1)

by_acts : (o : Option (List Act)) (s : ServerModel) (x : Served) → option_map (λ list. carried list s) o ≡ Some x → ServerStays s x.state
by_acts None s x is = absurd (cc)
by_acts (Some list) s x is =
    let same : carried list s ≡ x = cc in
    subst (λ (m : Served). ServerStays s m.state) same (carried_leaves list s)

-- an event of a server leaves its trouble, and its clock is the stamp of the event
pub serve_stays : (s : ServerModel) (from : Actor) (letter : Letter) (x : Served) → serve s from letter ≡ Some x
    → (x.state.trouble ≡ s.trouble) × (x.state.clock ≡ next_stamp s letter)
serve_stays s from letter x is =
    let t : ServerModel = at_event s letter in
    by_acts (acts t from letter.message) t x (where_true (is_within s.config from && nat_lt letter.stamp (2 ^ 48)) _ x is)
