-- Letters of pushes, with the push of a server and the acknowledgement that it owes, through each act of a server and each step of a rank.
-- Also to whom a push goes.
use Rattle.std.proofs.Common.{◌≡◌, ◌<◌, ℕ, zero, suc, ◌+◌, ◌-◌, ◌%◌, Bool, true, false, cond, not, ◌&&◌, length, map, Option, None, Some}
use Rattle.std.proofs.Common.{refl, sym, ap, subst, arith}
use Rattle.std.specs.Prelude.{is_none, nat_lt}
use Rattle.std.specs.List.{list_any, range_with_len}
use Rattle.std.specs.Option.{option_map}
use Rattle.std.proofs.lemmas.Bool.{and_parts, ltb-true}
use Rattle.std.proofs.lemmas.Nat.{mod_below}
use Rattle.adlb_unit.specs.Ring.{behind, others}
use Rattle.adlb_unit.specs.declared.configs.Config.{Config}
use Rattle.adlb_unit.specs.declared.messages.Message.TheVariants as tells
use Rattle.adlb_unit.specs.declared.names.Server.{Server}
use Rattle.adlb_unit.specs.declared.names.UnitId.{UnitId}
use Rattle.bag_ledger.proofs.Tests.{some_is}
use Rattle.server_components.specs.Pushes.{IsOther, Pushing, is_pressed, may_push, next_to, query_of, query_to}
use Rattle.server_components.specs.declared.pushing.PushQuery.{PushQuery}
use Rattle.work_queue.specs.Push.{first_to_push_of}
use Rattle.work_queue.specs.Queue.{Queue}
use Rattle.server_law.specs.Acts.{Act, Acks, Arrives, Cancels, Ends_push, Finds, Queries, Sends_unit, Shuts, Stops_push, debts, turned}
use Rattle.server_law.specs.Acts.{turns}
use Rattle.server_law.specs.Finding.{has_unit}
use Rattle.server_law.specs.Pushes.{is_room_for}
use Rattle.server_law.specs.State.{ServerModel}
use Rattle.server_law.specs.Sure.{Sure}
use Rattle.core_law.specs.Measures.{ActKeeps, IsEvenPush, PushBalance, afterwards, before, push_weights, weight}
use Rattle.core_law.specs.OnLinks.{Each}
use Rattle.core_law.specs.Pushes.{push_as, push_letter, pushing, pushing_to}
use Rattle.core_law.proofs.Balances.{weighs_none}
use Rattle.core_law.proofs.Kept.{IsLaw}
use Rattle.core_law.proofs.Sums.{others_none}

-- To whom a push goes.

-- what holds of each element of a mapped range holds at its places
pub each_at : {X : Type 0} (P : X → Type 0) (f : ℕ → X) (from n i : ℕ) → Each P (map f (range_with_len from n)) → i < n → P (f (i + from))
each_at P f from zero i each few = absurd (omega arith)
each_at P f from (suc n) zero each few = let e : from ≡ 0 + from = omega arith in subst (λ (k : ℕ). P (f k)) e each.0
each_at P f from (suc n) (suc i) each few =
    let e : i + (from + 1) ≡ suc i + from = omega arith in
    subst (λ (k : ℕ). P (f k)) e (each_at P f (from + 1) n i each.1 (omega arith))

-- the server that is next in turn is another
pub next_other : (config : Config) (me : Server) (pushes : ℕ) → me.0 < config.servers → 1 < config.servers
    → Each (IsOther config me) (others config me) → IsOther config me (next_to config me pushes)
next_other config me pushes here some others_are =
    let turn = mod_below pushes (config.servers - 1) (omega arith) in
    each_at (IsOther config me) (behind config me) 1 (config.servers - 1) (pushes % (config.servers - 1)) others_are turn

-- it is asked where no push stands
pub record Begins_push (config : Config) (me : Server) (p : Pushing) (q : PushQuery) : Type 0 where
  pub some : 1 < config.servers
  pub rests : p.push ≡ None
  pub to : q.to ≡ next_to config me p.pushes

none_is : {X : Type 0} (o : Option X) → is_none o ≡ true → o ≡ None
none_is None is = refl
none_is (Some x) is = absurd (cc)

-- a push goes to another server of the run
pub begins_push : (config : Config) (me : Server) (p : Pushing) (queue : Queue) (q : PushQuery) → query_of config me p queue ≡ Some q
    → Begins_push config me p q
begins_push config me p queue q is = by_test (may_push config p queue) refl is
  where
    by_unit : may_push config p queue ≡ true → (o : Option (UnitId × ℕ)) → option_map (query_to config me p) o ≡ Some q
        → Begins_push config me p q
    by_unit may None is = absurd (cc)
    by_unit may (Some unit) is =
        let parts = and_parts (nat_lt 1 config.servers) (is_none p.push && is_pressed config queue) may in
        let more = and_parts (is_none p.push) (is_pressed config queue) parts.1 in
        record {
          some = ltb-true 1 config.servers parts.0;
          rests = none_is p.push more.0;
          to = ap (λ (x : PushQuery). x.to) (sym (some_is is));
        }

    by_test : (t : Bool) → may_push config p queue ≡ t
        → cond t (option_map (query_to config me p) (first_to_push_of queue.units)) None ≡ Some q → Begins_push config me p q
    by_test true may is = by_unit may (first_to_push_of queue.units) is
    by_test false may is = absurd (cc)

-- A server.

-- each act takes and says as many letters of a push as it changes the push and the acknowledgement
pub pushing_even : (a : Server) (act : Act) (s : ServerModel) → IsEvenPush (pushing a) act s
pushing_even a (Finds from t) s = let none = others_none (push_letter a) s.me s tells.Exhaust (λ to. refl) in omega arith
pushing_even a (Shuts from t) s = let none = others_none (push_letter a) s.me s tells.Shutdown (λ to. refl) in omega arith
pushing_even a _ s = omega arith

-- so it is by server, unit and what was sent
pub pushing_to_even : (a t : Server) (id : UnitId) (sent : Bool) (act : Act) (s : ServerModel) → IsEvenPush (pushing_to a t id sent) act s
pushing_to_even a t id sent (Finds from token) s =
    let none = others_none (push_as a t id sent) s.me s tells.Exhaust (λ to. refl) in omega arith
pushing_to_even a t id sent (Shuts from token) s =
    let none = others_none (push_as a t id sent) s.me s tells.Shutdown (λ to. refl) in omega arith
pushing_to_even a t id sent _ s = omega arith

-- what stands is what the act says
abbrev Stands : {X : Type 0} → Option (Option X × Option X) → Option X → Type 0
Stands None x = Unit {0}
Stands (Some change) x = x ≡ change.0

turns_stand : (a : Act) (s : ServerModel) → Sure a s → Stands (turns a) s.kept.pushing.push
turns_stand (Queries to id length) s sure =
    (begins_push s.config s.me s.kept.pushing s.kept.queue (record { to = to; id = id; length = length }) sure).rests
turns_stand (Sends_unit to length unit) s sure = sure.0
turns_stand (Cancels to id length) s sure = sure
turns_stand (Stops_push to id length) s sure = sure
turns_stand (Ends_push to id length) s sure = sure
turns_stand _ s sure = tt

debts_stand : (a : Act) (s : ServerModel) → Sure a s → Stands (debts a) s.kept.owed
debts_stand (Arrives from unit) s sure =
    let room = list_any (is_room_for unit.id (length unit.body)) s.kept.queue.promises in
    let parts = and_parts (not (has_unit unit.id s.kept.queue.units)) (room && is_none s.kept.owed) sure in
    none_is s.kept.owed (and_parts room (is_none s.kept.owed) parts.1).1
debts_stand (Acks to id) s sure = sure
debts_stand _ s sure = tt

changed_weight : {X : Type 0} (f : X → ℕ) (o : Option (Option X × Option X)) (x : Option X) → Stands o x
    → weight f (turned o x) + weight f (before o) ≡ weight f x + weight f (afterwards o)
changed_weight f None x is = refl
changed_weight f (Some change) x is = let same = ap (weight f) is in omega arith

-- an act that is even keeps the balance of pushes
pub even_push_keeps : (b : PushBalance) (a : Act) (s : ServerModel) → Sure a s → IsEvenPush b a s → ActKeeps (push_weights b) a s
even_push_keeps b a s sure even =
    let pushed = changed_weight (b.due s.me.0) (turns a) s.kept.pushing.push (turns_stand a s sure) in
    let owed = changed_weight (b.owed s.me.0) (debts a) s.kept.owed (debts_stand a s sure) in
    omega arith

-- A rank: it neither hears nor sends such a letter.

-- the balance of a server's push is a law of runs
pub pushing_law : (config : Config) (a : Server) → IsLaw config (push_weights (pushing a))
pushing_law config a = record {
  heard = λ me s from m x h after. let none = weighs_none x.sends in omega arith;
  begun = λ me s x b after. let none = weighs_none x.sends in omega arith;
}

-- and by server, unit and what was sent
pub pushing_to_law : (config : Config) (a t : Server) (id : UnitId) (sent : Bool) → IsLaw config (push_weights (pushing_to a t id sent))
pushing_to_law config a t id sent = record {
  heard = λ me s from m x h after. let none = weighs_none x.sends in omega arith;
  begun = λ me s x b after. let none = weighs_none x.sends in omega arith;
}
