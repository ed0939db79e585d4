-- A step of a rank: a letter that it hears pays for what it sends, and a call that it begins brings 5109.
use Rattle.std.proofs.Common.{◌≡◌, ◌≤◌, ◌<◌, ℕ, zero, suc, ◌+◌, ◌*◌, ◌-◌, ◌==◌, Bool, true, false, not, ◌&&◌, List, [], map, length, Option}
use Rattle.std.proofs.Common.{None, Some, refl, ap, ◌∙◌, arith}
use Rattle.std.specs.Prelude.{nat_lt, nat_le, is_none}
use Rattle.std.specs.List.{range_with_len}
use Rattle.std.proofs.lemmas.Bool.{ltb-true, lt-ltb}
use Rattle.adlb_unit.specs.Limits.{body_limit, stamp_limit}
use Rattle.adlb_unit.specs.Links.{is_within}
use Rattle.adlb_unit.specs.Targets.{home, in_ranks}
use Rattle.adlb_unit.specs.declared.actors.Actor.{Actor}
use Rattle.adlb_unit.specs.declared.actors.Actor.TheVariants as by
use Rattle.adlb_unit.specs.declared.letters.Letter.{Letter}
use Rattle.adlb_unit.specs.declared.messages.Message.{Message}
use Rattle.adlb_unit.specs.declared.messages.Message.TheVariants as tells
use Rattle.adlb_unit.specs.declared.names.CommonRef.{CommonRef}
use Rattle.adlb_unit.specs.declared.names.Rank.{Rank}
use Rattle.adlb_unit.specs.declared.names.Server.{Server}
use Rattle.adlb_unit.specs.declared.names.UnitId.{UnitId}
use Rattle.adlb_unit.specs.declared.names.WorkType.{WorkType}
use Rattle.adlb_unit.specs.declared.notes.End.{End}
use Rattle.adlb_unit.specs.declared.notes.UnitNote.{UnitNote}
use Rattle.adlb_unit.specs.declared.units.Unit.{Unit}
use Rattle.bag_ledger.specs.declared.entries.Call.{Call}
use Rattle.bag_ledger.specs.declared.entries.Call.TheVariants as calls_to
use Rattle.rank_client.specs.declared.pendings.Pending.{Pending}
use Rattle.rank_client.specs.declared.pendings.Pending.TheVariants as waits_for
use Rattle.rank_client.specs.Rules.{ClientResponse, ClientSaying, answer_call, asked, close, expects_note, farewell, fetch, finish}
use Rattle.rank_client.specs.Rules.{hear_close, hear_common, hear_count, hear_done, hear_fetch, hear_keep, hear_look, hear_put}
use Rattle.rank_client.specs.Rules.{hear_reserve, held, is_for, is_free, keep, look, looked, looks_at, open_call, own_came, part_refused}
use Rattle.rank_client.specs.Rules.{put, refused, reserve, told_done, unit_put}
use Rattle.rank_client.specs.State.{ClientModel}
use Rattle.rank_client.specs.Step.{Made, begin, call_stamp, hear, letter_stamp, made, ticked}
use Rattle.core_run.specs.World.{World, after_rank, client_of, taken}
use Rattle.core_law.specs.Measures.{actor, sends_weight, weigh}
use Rattle.core_law.specs.Well.{IsShaped, IsWell}
use Rattle.core_law.proofs.EveryRun.{answer_within, call_within}
use Rattle.core_law.proofs.Posts.{lettered, requests_sends, requests_state, requests_weight}
use Rattle.core_law.proofs.StepResults.{OnSome, if_some, mapped_some, on_some}
use Rattle.core_law.proofs.Steps.{Begins, Hears, taken_shaped}
use Rattle.core_law.proofs.Sums.{AreWithin, front_goes, place_actor, place_below, post_weight, weigh_at-set}
use Rattle.rank_client.specs.State.{start as new_client}
use Rattle.core_bound_law.specs.Credits.{credit, letter_credit, letters_credit, pending_credit}

-- what the rule's letters cost, and what is left for those that follow
abbrev pub response_cost : Actor → ClientResponse → ℕ
response_cost me z = weigh (λ (y : ClientSaying). letter_credit me y.message) z.says + pending_credit z.state.pending

-- A letter.

module _ (s : ClientModel) (me from : Actor) (at : Server) where
  abbrev Pays : Pending → Message → Option ClientResponse → Type 0
  Pays p m o = OnSome o (λ z. response_cost me z + 1 ≤ letter_credit from m + pending_credit p)

  tried_once : (tried : ℕ) → nat_lt (tried + 1) s.config.servers ≡ true → (7 - (tried + 1)) * 26 + 26 ≤ (7 - tried) * 26
  tried_once tried more =
      let few = ltb-true (tried + 1) s.config.servers more in let top = s.config.servers_within.1 in omega arith

  refused_pays : (unit : Unit) (first : Server) (tried to charge : ℕ) (t : Bool) → nat_lt (tried + 1) s.config.servers ≡ t
      → response_cost me (refused s unit first tried t) + 1 ≤ letter_credit from (tells.Full to charge) + pending_credit
      (waits_for.Put unit first tried)
  refused_pays unit first tried to charge true more = let step = tried_once tried more in omega arith
  refused_pays unit first tried to charge false more = omega arith

  put_pays : (unit : Unit) (first : Server) (tried : ℕ) (m : Message)
      → Pays (waits_for.Put unit first tried) m (hear_put s unit first tried at m)
  put_pays unit first tried (tells.Accepted to) = if_some _ (is_for unit.id.number (asked s first tried) at to) _ (λ is. omega arith)
  put_pays unit first tried (tells.Full to charge) =
      if_some _ (is_for unit.id.number (asked s first tried) at to) _
      (λ is. refused_pays unit first tried to charge (nat_lt (tried + 1) s.config.servers) refl)
  put_pays unit first tried (tells.Ended to end) = if_some _ (is_for unit.id.number (asked s first tried) at to) _ (λ is. omega arith)
  put_pays unit first tried _ = tt

  reserve_pays : (request : ℕ) (types : Option (List WorkType)) (m : Message)
      → Pays (waits_for.Reserve request types) m (hear_reserve s request types at m)
  reserve_pays request types (tells.Grant to note) =
      if_some _ (is_for request (home s.config s.me) at to && expects_note s note) _ (λ is. omega arith)
  reserve_pays request types (tells.Ended to end) = if_some _ (is_for request (home s.config s.me) at to) _ (λ is. omega arith)
  reserve_pays request types _ = tt

  looked_pays : (request : ℕ) (types : Option (List WorkType)) (tried to : ℕ) (t : Bool) → nat_lt (tried + 1) s.config.servers ≡ t
      → response_cost me (looked s request types tried t) + 1 ≤ letter_credit from (tells.Nothing to) + pending_credit
      (waits_for.Try request types tried)
  looked_pays request types tried to true more = let step = tried_once tried more in omega arith
  looked_pays request types tried to false more = omega arith

  look_pays : (request : ℕ) (types : Option (List WorkType)) (tried : ℕ) (m : Message)
      → Pays (waits_for.Try request types tried) m (hear_look s request types tried at m)
  look_pays request types tried (tells.Grant to note) =
      if_some _ (is_for request (looks_at s tried) at to && expects_note s note) _ (λ is. omega arith)
  look_pays request types tried (tells.Nothing to) =
      if_some _ (is_for request (looks_at s tried) at to) _
      (λ is. looked_pays request types tried to (nat_lt (tried + 1) s.config.servers) refl)
  look_pays request types tried (tells.Ended to end) = if_some _ (is_for request (looks_at s tried) at to) _ (λ is. omega arith)
  look_pays request types tried _ = tt

  own_pays : (request to : ℕ) (note : UnitNote) (body : List ℕ) (o : Option CommonRef)
      → response_cost me (own_came s request note body o) + 1 ≤ letter_credit from (tells.Bytes to body) + pending_credit
      (waits_for.Fetch request note)
  own_pays request to note body None = omega arith
  own_pays request to note body (Some common) = omega arith

  fetch_pays : (request : ℕ) (note : UnitNote) (m : Message) → Pays (waits_for.Fetch request note) m (hear_fetch s request note at m)
  fetch_pays request note (tells.Bytes to body) =
      if_some _ (is_for request note.server at to && (length body == note.length)) _ (λ is. own_pays request to note body note.common)
  fetch_pays request note _ = tt

  common_pays : (request : ℕ) (note : UnitNote) (common : CommonRef) (own : List ℕ) (m : Message)
      → Pays (waits_for.Common request note common own) m (hear_common s request note common own at m)
  common_pays request note common own (tells.Bytes to body) =
      if_some _ (is_for request common.server at to && (length body == common.length)) _ (λ is. omega arith)
  common_pays request note common own _ = tt

  part_pays : (request : ℕ) (common : List ℕ) (first : Server) (tried to charge : ℕ) (t : Bool) → nat_lt (tried + 1) s.config.servers ≡ t
      → response_cost me (part_refused s request common first tried t) + 1
      ≤ letter_credit from (tells.Full to charge) + pending_credit (waits_for.Keep request common first tried)
  part_pays request common first tried to charge true more = let step = tried_once tried more in omega arith
  part_pays request common first tried to charge false more = omega arith

  keep_pays : (request : ℕ) (common : List ℕ) (first : Server) (tried : ℕ) (m : Message)
      → Pays (waits_for.Keep request common first tried) m (hear_keep s request common first tried at m)
  keep_pays request common first tried (tells.Accepted to) = if_some _ (is_for request (asked s first tried) at to) _ (λ is. omega arith)
  keep_pays request common first tried (tells.Full to charge) =
      if_some _ (is_for request (asked s first tried) at to) _
      (λ is. part_pays request common first tried to charge (nat_lt (tried + 1) s.config.servers) refl)
  keep_pays request common first tried (tells.Ended to end) = if_some _ (is_for request (asked s first tried) at to) _ (λ is. omega arith)
  keep_pays request common first tried _ = tt

  close_pays : (request : ℕ) (batch : CommonRef) (m : Message) → Pays (waits_for.Close request batch) m (hear_close s request batch at m)
  close_pays request batch (tells.Closed to) = if_some _ (is_for request batch.server at to) _ (λ is. omega arith)
  close_pays request batch _ = tt

  count_pays : (request : ℕ) (kind : WorkType) (m : Message) → Pays (waits_for.Count request kind) m (hear_count s request kind at m)
  count_pays request kind (tells.Counted to info) = if_some _ (is_for request (home s.config s.me) at to) _ (λ is. omega arith)
  count_pays request kind _ = tt

  told_pays : (request tried to : ℕ) (t : Bool) → nat_lt (tried + 1) s.config.servers ≡ t
      → response_cost me (told_done s request tried t) + 1 ≤ letter_credit from (tells.DoneHeard to) + pending_credit
      (waits_for.SetDone request tried)
  told_pays request tried to true more = let step = tried_once tried more in omega arith
  told_pays request tried to false more = omega arith

  done_pays : (request tried : ℕ) (m : Message) → Pays (waits_for.SetDone request tried) m (hear_done s request tried at m)
  done_pays request tried (tells.DoneHeard to) =
      if_some _ (is_for request (looks_at s tried) at to) _ (λ is. told_pays request tried to (nat_lt (tried + 1) s.config.servers) refl)
  done_pays request tried _ = tt

  call_pays : (p : Pending) (m : Message) → Pays p m (answer_call s p at m)
  call_pays waits_for.Nothing m = tt
  call_pays (waits_for.Put unit first tried) m = put_pays unit first tried m
  call_pays (waits_for.Reserve request types) m = reserve_pays request types m
  call_pays (waits_for.Try request types tried) m = look_pays request types tried m
  call_pays (waits_for.Fetch request note) m = fetch_pays request note m
  call_pays (waits_for.Common request note common own_bytes) m = common_pays request note common own_bytes m
  call_pays (waits_for.Keep request common first tried) m = keep_pays request common first tried m
  call_pays (waits_for.Close request batch) m = close_pays request batch m
  call_pays (waits_for.Count request kind) m = count_pays request kind m
  call_pays (waits_for.SetDone request tried) m = done_pays request tried m

-- A call.

module _ (s : ClientModel) (me : Actor) where
  abbrev Costs : Option ClientResponse → Type 0
  Costs o = OnSome o (λ z. response_cost me z + 1 ≤ 5109)

  put_costs : (unit : Unit) (end : Option End) → response_cost me (put s unit end) + 1 ≤ 5109
  put_costs unit None = omega arith
  put_costs unit (Some end) = omega arith

  reserve_costs : (types : Option (List WorkType)) (end : Option End) → response_cost me (reserve s types end) + 1 ≤ 5109
  reserve_costs types None = omega arith
  reserve_costs types (Some end) = omega arith

  look_costs : (types : Option (List WorkType)) (end : Option End) → response_cost me (look s types end) + 1 ≤ 5109
  look_costs types None = omega arith
  look_costs types (Some end) = omega arith

  keep_costs : (common : List ℕ) (end : Option End) → response_cost me (keep s common end) + 1 ≤ 5109
  keep_costs common None = omega arith
  keep_costs common (Some end) = omega arith

  fetch_costs : (id : UnitId) (o : Option UnitNote) → Costs (fetch s id o)
  fetch_costs id None = tt
  fetch_costs id (Some note) = omega arith

  close_costs : (o : Option CommonRef) → Costs (close s o)
  close_costs None = tt
  close_costs (Some batch) = omega arith

  farewell_costs : (from n : ℕ) → weigh (λ (y : ClientSaying). letter_credit me y.message) (map farewell (range_with_len from n)) ≡ n * 25
  farewell_costs from zero = omega arith
  farewell_costs from (suc n) = let later = farewell_costs (from + 1) n in omega arith

  finish_costs : response_cost me (finish s) + 1 ≤ 5109
  finish_costs = let all = farewell_costs 0 s.config.servers in let top = s.config.servers_within.1 in omega arith

  open_costs : (call : Call) → Costs (open_call s call)
  open_costs (calls_to.Put kind prio target answer body) =
      if_some _ (nat_le (length body) body_limit && in_ranks s.config target) _
      (λ is. put_costs (unit_put s kind prio target answer body) s.end)
  open_costs (calls_to.Reserve types) = reserve_costs types s.end
  open_costs (calls_to.Try types) = look_costs types s.end
  open_costs (calls_to.Fetch id) = fetch_costs id (held s id)
  open_costs (calls_to.BeginBatch common) =
      if_some _ (is_none s.batch && nat_le (length common) body_limit) _ (λ is. keep_costs common s.end)
  open_costs calls_to.EndBatch = close_costs s.batch
  open_costs (calls_to.Count kind) = omega arith
  open_costs calls_to.SetDone = omega arith
  open_costs calls_to.Finish = if_some _ (is_none s.batch) _ (λ is. finish_costs)

-- A step.

-- what the letters of a rank's step have to pay with
abbrev pub made_cost : Rank → Made → ℕ
made_cost me x = sends_weight letters_credit (by.Rank me) x.sends + pending_credit x.state.pending

made_costs : (me : Rank) (z : ClientResponse) → made_cost me (made z) ≡ response_cost (by.Rank me) z
made_costs me z =
    let x : Made = record { state = z.state; sends = []; entries = z.entries; answer = z.answer } in
    let sends : (made z).sends ≡ lettered z.state z.says = requests_sends z.says x in
    let weight = ap (λ l. sends_weight letters_credit (by.Rank me) l) sends
    ∙ requests_weight (λ to m. letter_credit (by.Rank me) m) z.state z.says in
    let state = ap (λ (t : ClientModel). pending_credit t.pending) (requests_state z.says x) in
    omega arith

hear_pays : (s : ClientModel) (me : Rank) (from : Server) (letter : Letter) (x : Made) → hear s from letter ≡ Some x
    → made_cost me x + 1 ≤ letter_credit (by.Server from) letter.message + pending_credit s.pending
hear_pays s me from letter x is =
    on_some (λ y. made_cost me y + 1 ≤ letter_credit (by.Server from) letter.message + pending_credit s.pending) (hear s from letter) x
    (if_some _ (not s.finished && nat_lt letter.stamp stamp_limit) _
    (λ t. mapped_some (λ y. made_cost me y + 1 ≤ letter_credit (by.Server from) letter.message + pending_credit s.pending) made
    (answer_call (ticked s (letter_stamp s letter)) s.pending from letter.message)
    (each (answer_call (ticked s (letter_stamp s letter)) s.pending from letter.message)
    (call_pays (ticked s (letter_stamp s letter)) (by.Rank me) (by.Server from) from s.pending letter.message)))) is
  where
    each : (o : Option ClientResponse)
        → OnSome o (λ z. response_cost (by.Rank me) z + 1 ≤ letter_credit (by.Server from) letter.message + pending_credit s.pending)
        → OnSome o (λ z. made_cost me (made z) + 1 ≤ letter_credit (by.Server from) letter.message + pending_credit s.pending)
    each None h = tt
    each (Some z) h = let same = made_costs me z in omega arith

begin_pays : (s : ClientModel) (me : Rank) (call : Call) (x : Made) → begin s call ≡ Some x → made_cost me x + 1 ≤ 5109
begin_pays s me call x is =
    on_some (λ y. made_cost me y + 1 ≤ 5109) (begin s call) x
    (if_some _ (is_free s) _
    (λ t. mapped_some (λ y. made_cost me y + 1 ≤ 5109) made (open_call (ticked s (call_stamp s)) call)
    (each (open_call (ticked s (call_stamp s)) call) (open_costs (ticked s (call_stamp s)) (by.Rank me) call)))) is
  where
    each : (o : Option ClientResponse) → OnSome o (λ z. response_cost (by.Rank me) z + 1 ≤ 5109)
        → OnSome o (λ z. made_cost me (made z) + 1 ≤ 5109)
    each None h = tt
    each (Some z) h = let same = made_costs me z in omega arith

-- In a world.

rank_credit : (w : World) (me : Rank) (x : Made) → IsShaped w → me.0 < w.config.ranks → AreWithin w.config x.sends
    → credit (after_rank w me w.links x) + pending_credit (client_of w me).pending ≡ credit w + made_cost me x
unfolding credit
rank_credit w me x shape here within =
    let there = place_below w.config (by.Rank me) (lt-ltb me.0 w.config.ranks here) in
    let sent = post_weight w.config letters_credit w.links me.0 x.sends there within shape.square in
    let i : actor w.config me.0 ≡ by.Rank me = place_actor w.config (by.Rank me) (lt-ltb me.0 w.config.ranks here) in
    let out : sends_weight letters_credit (actor w.config me.0) x.sends ≡ sends_weight letters_credit (by.Rank me) x.sends = rw i refl in
    let state = weigh_at-set (λ i (s : ClientModel). pending_credit s.pending) w.ranks me.0 x.state (new_client w.config me)
    (let g = shape.ranks in omega arith) in
    omega arith

-- a call brings so much
pub call_credit : (w next : World) (me : Rank) (call : Call) (x : Made) → IsWell w → Begins w me call x next
    → credit next + 1 ≤ credit w + 5109
call_credit w next me call x well does =
    let within = call_within w next me call x well.own does in
    let step = rank_credit w me x well.shape does.here within in
    let pays = begin_pays (client_of w me) me call x does.does in
    let is = ap credit does.is in
    omega arith

-- a letter pays for its event
pub answer_credit : (w next : World) (from : Server) (me : Rank) (letter : Letter) (rest : List Letter) (x : Made) → IsWell w
    → Hears w from me letter rest x next → credit next + 1 ≤ credit w
unfolding credit
answer_credit w next from me letter rest x well does =
    let f : is_within w.config (by.Server from) ≡ true = lt-ltb from.0 w.config.servers does.there in
    let t : is_within w.config (by.Rank me) ≡ true = lt-ltb me.0 w.config.ranks does.here in
    let within = answer_within w next from me letter rest x well.own does in
    let shape = taken_shaped w (by.Server from) (by.Rank me) rest well.shape f t in
    let off = front_goes w.config letters_credit w.links (by.Server from) (by.Rank me) letter rest (well.shape).square f t does.front in
    let step = rank_credit (record w { links = taken w (by.Server from) (by.Rank me) rest }) me x shape does.here within in
    let pays = hear_pays (client_of w me) me from letter x does.does in
    let is = ap credit does.is in
    omega arith
