-- What is so of a server where it carries out an act: what its rule has found.
use Rattle.std.specs.Prelude.{◌≡◌, ◌≢◌, ◌⊎◌, Bool, true, false, List, [], ◌∷◌, ◌++◌, length, Any, find, Option, None, Some}
use Rattle.std.specs.List.{list_any}
use Rattle.adlb_unit.specs.declared.actors.Actor.{Actor}
use Rattle.adlb_unit.specs.declared.messages.Message.{Message}
use Rattle.adlb_unit.specs.declared.messages.Why.{Why}
use Rattle.adlb_unit.specs.declared.messages.Why.TheVariants.{Busy}
use Rattle.adlb_unit.specs.declared.names.Server.{Server}
use Rattle.adlb_unit.specs.declared.notes.End.{End}
use Rattle.adlb_unit.specs.declared.notes.End.TheVariants as ends_by
use Rattle.adlb_unit.specs.declared.tokens.Token.{Token}
use Rattle.adlb_unit.specs.declared.units.Unit.{Unit as Work}
use Rattle.exhaust_ring.specs.Expected.{HasComeBack, IsBefore, IsRunning, IsToJudge, IsToMark, IsToTest}
use Rattle.exhaust_ring.specs.Ring.{MayStart}
use Rattle.exhaust_ring.specs.Tests.{first_failing, passes}
use Rattle.work_queue.specs.declared.placing.Placed.{Placed}
use Rattle.server_components.specs.declared.waits.Waiting.{Waiting}
use Rattle.server_components.specs.declared.wishes.Wish.{Wish}
use Rattle.server_law.specs.Acts.{Accepts, Acks, Act, Answers, Around, Arrives, Asks_on, Cancels, Closes, Checks_alone, Counts, Declines}
use Rattle.server_law.specs.Acts.{Drops_hint, Ends_keep, Ends_push, Ends_put, Ends_reserve, Ends_try, Fails, Fetches, Fetches_part, Finds}
use Rattle.server_law.specs.Acts.{Finds_alone, Gives, Gives_up, Grants, Grants_try, Hears_done, Hears_exhaust, Hears_failed, Hears_shutdown}
use Rattle.server_law.specs.Acts.{Hints, Is_hinted, Keeps, Looks, Marks, Notes_finish, Notes_own, Notices, Parks, Passes, Passes_on}
use Rattle.server_law.specs.Acts.{Promises, Queries, Refuses, Refuses_part, Refuses_push, Sends_unit, Shuts, Shuts_alone, Starts}
use Rattle.server_law.specs.Acts.{Stops_push, Tells, Wakes, Wants, Withdraws, around, fit_among, goes, takes}
use Rattle.server_components.specs.Store.{part_in}
use Rattle.server_law.specs.Asks.{expects_ask}
use Rattle.server_law.specs.Batches.{can_close, can_fetch, expects_keep}
use Rattle.server_law.specs.Carried.{done}
use Rattle.server_law.specs.Endings.{fits, is_quiet}
use Rattle.server_law.specs.Finding.{best_for, exceeds, has_promise, is_free_as, is_pinned_as, permits}
use Rattle.server_components.specs.Pushes.{asks_room, has_sent, query_of}
use Rattle.server_law.specs.Pushes.{expects_query, expects_unit}
use Rattle.server_law.specs.Puts.{expects_put, is_over}
use Rattle.server_law.specs.State.{Kept, ServerModel, debt, ring_at, runs, runs_at_home}
use Rattle.server_law.specs.Step.{acts}

-- who goes waits where the act says
abbrev pub Sits : Option Around → List Waiting → List Waiting → Type 0
Sits None waiting gone = gone ≡ []
Sits (Some at) waiting gone = waiting ≡ at.before ++ (gone ++ at.behind)

-- the rank that the act is about waits where the act says
abbrev pub SitsIn : Act → ServerModel → Type 0
SitsIn a s = Sits (around a) s.kept.parked.waiting (goes a)

-- the server knows the cause of the end
abbrev pub HasCause : Kept → End → Type 0
HasCause k ends_by.NoMoreWork = k.done ≡ true
HasCause k ends_by.Exhausted = k.exhausted ≡ true

-- the unit is what was found
abbrev pub IsFound : Option Placed → Work → Type 0
IsFound found unit = (p : Placed) × (found ≡ Some p) × (p.unit ≡ unit)

-- the unit is free here and permitted to the rank: it has just become free
abbrev pub IsFreeFor : Kept → Work → Wish → Type 0
IsFreeFor k unit wish = IsFound (find (is_free_as unit.id) k.queue.units) unit × (permits unit wish ≡ true)

-- all ranks of the only server wait or have finished, one of them waits, and no free unit is permitted to one that does
pub record IsExhausted (s : ServerModel) : Type 0 where
  pub alone : s.config.servers ≡ 1
  pub quiet : is_quiet s ≡ true
  pub new : s.kept.exhausted ≡ false
  pub first : Waiting
  pub behind : List Waiting
  pub waits : s.kept.parked.waiting ≡ first ∷ behind
  pub unfit : list_any (fits s.kept) s.kept.parked.waiting ≡ false

-- the token has come from the server before this one, which is another
pub record IsRound (s : ServerModel) (from : Server) : Type 0 where
  pub before : IsBefore (ring_at s) from
  pub other : from ≢ s.me

-- each of the tests of a token
abbrev pub passes_here : ServerModel → Token → Bool
passes_here s t = passes (is_quiet s) s.kept.ring.mark s.activity (fit_among s.kept t.asked)

-- the first test that fails is this one: in the first wave the only test is that the server is quiet
abbrev pub IsFailing : ServerModel → Token → Why → Type 0
IsFailing s t why =
    (IsToMark (ring_at s) t × (is_quiet s ≡ false) × (why ≡ Busy))
    ⊎ (IsToTest (ring_at s) t × (first_failing (is_quiet s) s.kept.ring.mark s.activity (fit_among s.kept t.asked) ≡ Some why))

-- what was found before the act
abbrev pub Sure : Act → ServerModel → Type 0
Sure (Accepts unit) s = (expects_put s unit.id.rank unit ≡ true) × (s.kept.done ≡ false) × (is_over s.kept.queue unit ≡ false)
Sure (Refuses unit) s = (expects_put s unit.id.rank unit ≡ true) × (s.kept.done ≡ false) × (is_over s.kept.queue unit ≡ true)
Sure (Ends_put unit end) s = (expects_put s unit.id.rank unit ≡ true) × HasCause s.kept end
Sure (Grants wish unit) s = (runs_at_home s wish.rank ≡ true) × IsFound (best_for s.kept wish) unit
Sure (Ends_reserve wish end) s = (runs_at_home s wish.rank ≡ true) × HasCause s.kept end
Sure (Parks wish) s = (runs_at_home s wish.rank ≡ true) × (best_for s.kept wish ≡ None)
Sure (Grants_try wish unit) s = IsFound (best_for s.kept wish) unit
Sure (Ends_try wish end) s = HasCause s.kept end
Sure (Looks wish) s = best_for s.kept wish ≡ None
Sure (Fetches rank request id unit) s = IsFound (find (is_pinned_as id rank) s.kept.queue.units) unit
Sure (Counts rank request kind) s = runs_at_home s rank ≡ true
Sure (Notes_finish rank) s = runs s.kept rank ≡ true
Sure (Gives at wish rest unit) s = IsFreeFor s.kept unit wish ⊎ IsFound (best_for s.kept wish) unit
Sure (Tells at wish rest end) s = HasCause s.kept end
Sure (Keeps rank request common) s =
    (expects_keep s rank request common ≡ true) × (s.kept.done ≡ false) × (exceeds s.kept.queue (length common) ≡ false)
Sure (Refuses_part rank request common) s =
    (expects_keep s rank request common ≡ true) × (s.kept.done ≡ false) × (exceeds s.kept.queue (length common) ≡ true)
Sure (Ends_keep rank request common end) s = (expects_keep s rank request common ≡ true) × HasCause s.kept end
Sure (Closes request batch accepted part) s =
    (part_in s.kept.parts batch ≡ Some part) × (can_close batch.rank batch accepted s.kept.queue.common part ≡ true)
Sure (Fetches_part rank request batch part) s = (part_in s.kept.parts batch ≡ Some part) × (can_fetch s.kept.queue.common part ≡ true)
Sure (Asks_on at wish to rest) s = Unit {0}
Sure (Passes_on at wish from rest note) s = Unit {0}
Sure (Wakes at wish from rest) s = Unit {0}
Sure (Is_hinted at e from) s = Unit {0}
Sure (Drops_hint from rank request) s = Unit {0}
Sure (Answers from wish unit) s = (expects_ask s from wish.rank ≡ true) × IsFound (best_for s.kept wish) unit
Sure (Declines from wish) s = (expects_ask s from wish.rank ≡ true) × (s.kept.done ≡ false → best_for s.kept wish ≡ None)
Sure (Hints wish) s = (unit : Work) × IsFreeFor s.kept unit wish
Sure (Queries to id length) s = query_of s.config s.me s.kept.pushing s.kept.queue ≡ Some (record { to = to; id = id; length = length })
Sure (Promises from id length) s = (expects_query s.kept id ≡ true) × (exceeds s.kept.queue length ≡ false)
Sure (Refuses_push from id length) s = expects_query s.kept id ≡ true
Sure (Sends_unit to length unit) s =
    (s.kept.pushing.push ≡ Some (asks_room to unit.id length)) × IsFound (find (is_free_as unit.id) s.kept.queue.units) unit
Sure (Cancels to id length) s = s.kept.pushing.push ≡ Some (asks_room to id length)
Sure (Stops_push to id length) s = s.kept.pushing.push ≡ Some (asks_room to id length)
Sure (Ends_push to id length) s = s.kept.pushing.push ≡ Some (has_sent to id length)
Sure (Arrives from unit) s = expects_unit s.kept unit ≡ true
Sure (Acks to id) s = s.kept.owed ≡ Some (debt to id)
Sure (Withdraws from id) s = has_promise id s.kept.queue.promises ≡ true
Sure (Hears_done rank request) s = Unit {0}
Sure Notices s = (s.me.0 ≢ 0) × (is_quiet s ≡ true)
Sure Notes_own s = (s.me.0 ≡ 0) × (is_quiet s ≡ true)
Sure (Wants from) s = s.me.0 ≡ 0
Sure Starts s = MayStart (ring_at s) (is_quiet s) × (s.config.servers ≢ 1)
Sure (Marks from t) s = IsRound s from × IsToMark (ring_at s) t × (is_quiet s ≡ true)
Sure (Passes from t) s = IsRound s from × (HasComeBack (ring_at s) t ⊎ IsToTest (ring_at s) t) × (passes_here s t ≡ true)
Sure (Fails from t why) s = IsRound s from × IsFailing s t why
Sure (Gives_up from t) s = IsRunning (ring_at s) t
Sure (Hears_failed from t why) s = IsRunning (ring_at s) t
Sure (Finds from t) s = IsToJudge (ring_at s) t × (t.asked ≢ []) × (s.kept.exhausted ≡ false)
Sure (Shuts from t) s = IsToJudge (ring_at s) t × (t.asked ≡ [])
Sure (Hears_exhaust from) s = from.0 ≡ 0
Sure (Hears_shutdown from) s = from.0 ≡ 0
Sure Finds_alone s = IsExhausted s
Sure Shuts_alone s = (s.config.servers ≡ 1) × (is_quiet s ≡ true) × (s.kept.parked.waiting ≡ [])
Sure Checks_alone s = s.config.servers ≡ 1

-- acts of which each is sure where it is carried out
abbrev pub AreSure : List Act → ServerModel → Type 0
AreSure [] s = Unit {0}
AreSure (a ∷ more) s = SitsIn a s × Sure a s × AreSure more (done a s)

-- acts of which none takes a letter
abbrev pub TakeNone : List Act → Type 0
TakeNone [] = Unit {0}
TakeNone (a ∷ more) = (takes a ≡ []) × TakeNone more

-- if the act is a hint, it is of one of these wishes
abbrev pub IsHintOf : List Wish → Act → Type 0
IsHintOf wishes (Hints wish) = Any (λ (w : Wish). w ≡ wish) wishes
IsHintOf wishes _ = Unit {0}

-- acts of which each is
abbrev pub AreHintsOf : List Wish → List Act → Type 0
AreHintsOf wishes [] = Unit {0}
AreHintsOf wishes (a ∷ more) = IsHintOf wishes a × AreHintsOf wishes more

-- acts by which a letter is handled: the first takes it, the others follow, and each is sure; hints are of wishes that were kept before
pub record HandledBy (from : Actor) (message : Message) (list : List Act) (s : ServerModel) : Type 0 where
  pub first : Act
  pub more : List Act
  pub are : list ≡ first ∷ more
  pub takes : takes first ≡ record { from = from; message = message } ∷ []
  pub follow : TakeNone more
  pub sure : AreSure (first ∷ more) s
  pub hints : AreHintsOf s.kept.parked.wishes (first ∷ more)

-- the law: a letter is handled by the acts of its rule
abbrev pub ActsHandle : Type 0
ActsHandle = (s : ServerModel) (from : Actor) (message : Message) (list : List Act) → acts s from message ≡ Some list
    → HandledBy from message list s
