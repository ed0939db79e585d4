-- Each letter that is under way is expected.
use Rattle.std.proofs.Common.{◌≡◌, ◌≢◌, ◌<◌, ◌≤◌, inl, inr, ℕ, ◌==◌, Bool, true, false, ◌&&◌, not, cond, List, [], ◌∷◌, ◌++◌, length}
use Rattle.std.proofs.Common.{Option, Some, None, refl, sym, ap, ◌∙◌, subst, arith}
use Rattle.std.specs.Prelude.{All, IsSome, nat_lt, option_and_then}
use Rattle.std.specs.Option.{option_map}
use Rattle.std.proofs.lemmas.Bool.{and_from, and_parts, eq-eqb, eqb-true, false_from_ne_true, lt-ltb, ltb-true, or_cases}
use Rattle.std.proofs.lemmas.List.Elements.{All-contains, Contains-push}
use Rattle.adlb_unit.specs.Ids.{same_batch}
use Rattle.adlb_unit.specs.Limits.{stamp_limit}
use Rattle.adlb_unit.specs.Links.{is_within, place_of}
use Rattle.adlb_unit.specs.Targets.{Aims, home, home_of}
use Rattle.adlb_unit.specs.declared.actors.Actor.{Actor}
use Rattle.adlb_unit.specs.declared.actors.Actor.TheVariants as by
use Rattle.adlb_unit.specs.declared.configs.Config.{Config}
use Rattle.adlb_unit.specs.declared.letters.Letter.{Letter}
use Rattle.adlb_unit.specs.declared.messages.Message.{Message}
use Rattle.adlb_unit.specs.declared.messages.Message.TheVariants as tells
use Rattle.adlb_unit.specs.declared.names.Rank.{Rank}
use Rattle.adlb_unit.specs.declared.names.Server.{Server}
use Rattle.adlb_unit.specs.declared.names.UnitId.{UnitId}
use Rattle.adlb_unit.specs.declared.notes.UnitNote.{UnitNote}
use Rattle.adlb_unit.specs.declared.units.Unit.{Unit}
use Rattle.bag_ledger.specs.Bag.{Bag, part_charge, part_of, promise_of, rank_at, unit_of}
use Rattle.bag_ledger.specs.Words.{IsTracked}
use Rattle.bag_ledger.specs.declared.states.Placed.{Placed as Lodged}
use Rattle.bag_ledger.specs.declared.states.Promise.{Promise as Room}
use Rattle.bag_ledger.specs.declared.states.UnitPlace.TheVariants.{Pinned}
use Rattle.bag_law.specs.Sound.{IsSoundBag, IsKept}
use Rattle.bag_law.proofs.Facts.{batch_is_open, owed_is_kept, part_counts, put_is_new}
use Rattle.bag_law.proofs.Turn.{sum_found}
use Rattle.bag_ledger.proofs.Tests.{some_is}
use Rattle.bag_ledger.specs.declared.states.Part.{Part}
use Rattle.adlb_unit.specs.declared.names.BatchId.{BatchId}
use Rattle.adlb_unit.specs.declared.names.CommonRef.{CommonRef}
use Rattle.server_components.specs.Store.{CanClose, CanFetch, Keeps, part_in}
use Rattle.server_law.specs.Acts.{batch_of}
use Rattle.server_law.proofs.Elsewhere.{begun_is_new}
use Rattle.bag_law.proofs.Sound.{run_is_sound}
use Rattle.rank_client.specs.declared.pendings.Pending.{Pending}
use Rattle.rank_client.specs.declared.pendings.Pending.TheVariants as waits_for
use Rattle.rank_client.specs.Agreement.{ClientAgrees, IsHeld, holds, in_call, HasAccepted}
use Rattle.rank_client.specs.Expected.{IsAwaited}
use Rattle.rank_client.specs.Rules.{is_idle}
use Rattle.rank_client.specs.State.{ClientModel}
use Rattle.rank_client.specs.Step.{hear}
use Rattle.server_law.specs.Agreement.{ServerAgrees, room_at, slot_of, part_at, part_seen}
use Rattle.server_law.specs.Expected.{IsNew, IsUnanswered, Runs as RunsHere, IsAwaited as IsAwaitedHere, IsAwaitedFrom}
use Rattle.server_components.specs.Grants.{unit_with}
use Rattle.server_law.specs.State.{ServerModel, is_finished, is_home}
use Rattle.server_law.specs.Step.{serve}
use Rattle.rank_client.proofs.Expected.{expected_are_heard}
use Rattle.server_law.proofs.Expected.{expected_have_steps}
use Rattle.server_law.proofs.Tests.{in_ranks_says}
use Rattle.work_queue.specs.Queue.{HasPinned, Promise, id_of}
use Rattle.work_queue.specs.declared.placing.Placed.{Placed}
use Rattle.work_queue.proofs.Named.{find_listed, find_nothing}
use Rattle.core_run.specs.declared.events.Event.{Event}
use Rattle.core_run.specs.Runs.{NoneIsStuck, Runs, is_of_check, is_over}
use Rattle.core_run.specs.World.{World, after_rank, after_server, client_of, handle, has_ended, link, pool_of, rank_named, start, taken}
use Rattle.core_law.specs.Found.{found_in}
use Rattle.core_law.specs.Lawful.{IsAsked, IsFact, IsLawful, OfCall}
use Rattle.core_law.specs.Letters.{about, call_letter, finish_handled, finish_letter, finishes, fits_between, fits_link, is_finish}
use Rattle.core_law.specs.Letters.{is_request, one, one_letter, remotes_letter}
use Rattle.core_law.specs.Measures.{measure, weights}
use Rattle.core_law.specs.Own.{IsOffer, NoneOwes}
use Rattle.core_law.specs.Pushed.{IsOfPush, OfPush}
use Rattle.core_law.specs.Well.{IsWell}
use Rattle.core_law.proofs.Coming.{Waits, waits_of}
use Rattle.core_law.proofs.Debts.{every_run_paid}
use Rattle.core_law.proofs.EveryRun.{every_run_well}
use Rattle.core_law.proofs.Fifo.{front_beside}
use Rattle.core_law.proofs.Lawful.{every_run_lawful}
use Rattle.core_law.proofs.NotWaiting.{waits_nowhere_beside}
use Rattle.core_law.proofs.OwedByRanks.{all_fit, finishes_are, letters_are}
use Rattle.core_law.proofs.OwnStates.{all_each, front_fits}
use Rattle.core_law.proofs.PushRows.{IsOfPushes, push_awaited}
use Rattle.core_law.proofs.RankShapes.{asked_busy}
use Rattle.core_law.proofs.RankSteps.{IsNotOf}
use Rattle.core_law.proofs.Remote.{remote_awaits}
use Rattle.core_law.proofs.UnderWay.{at_front}

-- What a request finds at its server.

-- a promise is of a unit
not_promised : (b : Bag) (id : UnitId) → IsTracked b → unit_of b id ≡ None → promise_of b id ≡ None
not_promised b id tracked fresh = by_promise (promise_of b id) refl
  where
    by_promise : (o : Option Room) → promise_of b id ≡ o → o ≡ None
    by_promise None is = refl
    by_promise (Some p) is = let of = tracked.measured id p is in let found : None ≡ Some of.0 = sym fresh ∙ of.1 in absurd (cc)

-- no unit of its id, and no promise
put_awaited : (c : ClientModel) (unit : Unit) (first : Server) (tried : ℕ) (b : Bag) (s : ServerModel) → IsSoundBag b → ServerAgrees b s
    → rank_at b c.me ≡ Some (in_call c (waits_for.Put unit first tried) None) → IsOffer c unit → s.config ≡ c.config → IsNew s c.me unit
put_awaited c unit first tried b s sound a at offer same =
    let fresh : unit_of b unit.id ≡ None = (put_is_new b sound c.me (in_call c (waits_for.Put unit first tried) None) unit at refl).1 in
    let unpromised = not_promised b unit.id sound.tracked fresh in
    record {
      sender = offer.rank;
      new = find_nothing id_of s.kept.queue.units unit.id (a.units.each unit.id ∙ ap (λ o. option_and_then (slot_of s.me) o) fresh);
      unpromised =
          find_nothing (λ (p : Promise). p.id) s.kept.queue.promises unit.id
          (a.promises unit.id ∙ ap (λ o. option_and_then (room_at s.me) o) unpromised);
      size = offer.size;
      target = subst (λ (k : Config). Aims unit.target k.ranks) (sym same) ((in_ranks_says c.config unit.target).0 offer.target);
    }

pinned_here : (me : Server) (rank : Rank) (work : Unit)
    → slot_of me (record { unit = work; place = Pinned me rank }) ≡ Some (record { unit = work; pin = Some rank })
pinned_here me rank work =
    let at : Bool → Option Placed =
    λ t. option_map (λ (pin : Option Rank). record { unit = work; pin = pin }) (cond t (Some (Some rank)) None) in
    ap at (eq-eqb me.0 me.0 refl)

-- the unit that is fetched
fetch_awaited : (rank : Rank) (note : UnitNote) (b : Bag) (s : ServerModel) → IsHeld b rank note → ServerAgrees b s → s.me ≡ note.server
    → HasPinned note.id rank s.kept.queue.units
fetch_awaited rank note b s held a at =
    let u : Lodged = held.0 in
    let place : u.place ≡ Pinned s.me rank = held.1.1 ∙ ap (λ k. Pinned k rank) (sym at) in
    let slot : slot_of s.me u ≡ Some (record { unit = u.unit; pin = Some rank }) =
    ap (λ k. slot_of s.me (record { unit = u.unit; place = k })) place ∙ pinned_here s.me rank u.unit in
    let p : Placed = record { unit = u.unit; pin = Some rank } in
    let there : unit_with note.id s.kept.queue.units ≡ Some p =
    a.units.each note.id ∙ ap (λ o. option_and_then (slot_of s.me) o) held.1.0 ∙ slot in
    let found = find_listed id_of s.kept.queue.units p note.id there in
    (found.0.0, p, found.0.1, found.0.2, (found.1, refl))

-- What a server finds of a batch.

-- the part that the server keeps
part_here : (b : Bag) (s : ServerModel) (batch : BatchId) (p : Part) → ServerAgrees b s → part_of b batch ≡ Some p → p.server ≡ s.me
    → p.freed ≡ false → part_in s.kept.parts batch ≡ Some (part_seen p)
part_here b s batch p a there at unfreed =
    a.parts batch ∙ ap (λ o. option_and_then (part_at s.me) o) there ∙ rw (at, unfreed, eq-eqb s.me.0 s.me.0 refl) refl

part_charged : (b : Bag) (s : ServerModel) (batch : BatchId) (p : Part) → ServerAgrees b s → part_of b batch ≡ Some p → p.server ≡ s.me
    → p.freed ≡ false → length p.common ≤ s.kept.queue.common
part_charged b s batch p a there at unfreed =
    let one = sum_found (part_charge s.me) (λ (q : Part). same_batch q.batch batch) b.parts p there in
    let charge : part_charge s.me p ≡ length p.common = rw (at, unfreed, eq-eqb s.me.0 s.me.0 refl) refl in
    let all = a.common in
    omega arith

-- a closed part of which common bytes are owed can be fetched
can_fetch : (p : Part) → p.fetched < p.accepted → CanFetch (part_seen p)
can_fetch p few = by_closed p.closed
  where
    by_closed : (t : Bool) → (n : ℕ) → cond t (Some p.accepted) None ≡ Some n → p.fetched < n
    by_closed true n is = subst (λ m. p.fetched < m) (some_is is) few
    by_closed false n is = absurd (cc)

common_awaited : (c : ClientModel) (request : ℕ) (note : UnitNote) (common : CommonRef) (own : List ℕ) (b : Bag) (s : ServerModel)
    → Waits c (waits_for.Common request note common own) b → IsSoundBag b → ServerAgrees b s → s.me ≡ common.server
    → Keeps s.kept.parts common.batch s.kept.queue.common CanFetch
common_awaited c request note common own b s w sound a at =
    let owed = owed_is_kept b sound c.me (in_call c (waits_for.Common request note common own) None) request note.id w.rank refl in
    let one : owed.0 ≡ w.owed.0 = some_is (sym owed.2 ∙ w.owed.1) in
    let same : owed.1 ≡ common = some_is (sym owed.4 ∙ ap (λ (u : Lodged). u.unit.common) one ∙ w.owed.2) in
    let kept : IsKept b common = subst (IsKept b) same owed.5 in
    let here : kept.0.server ≡ s.me = kept.2 ∙ sym at in
    record {
      part = part_seen kept.0;
      here = part_here b s common.batch kept.0 a kept.1 here kept.4;
      charged = part_charged b s common.batch kept.0 a kept.1 here kept.4;
      holds = can_fetch kept.0 kept.5;
    }

close_awaited : (c : ClientModel) (request : ℕ) (batch : CommonRef) (b : Bag) (s : ServerModel) → Waits c (waits_for.Close request batch) b
    → IsSoundBag b → ServerAgrees b s → s.me ≡ batch.server
    → (batch.batch.rank ≡ c.me) × Keeps s.kept.parts batch.batch s.kept.queue.common (CanClose c.accepted)
close_awaited c request batch b s w sound a at =
    let open_part = batch_is_open b sound c.me (in_call c (waits_for.Close request batch) None) batch w.rank w.call.1 in
    let p = open_part.1.0 in
    let there = open_part.1.1 in
    let here : p.server ≡ s.me = open_part.1.4 ∙ sym at in
    let has = subst (λ (o : Option CommonRef). HasAccepted b o c.accepted) w.call.1 w.accepted in
    let one : has.0 ≡ p = some_is (sym has.1 ∙ there) in
    let count : p.accepted ≡ c.accepted = ap (λ (x : Part). x.accepted) (sym one) ∙ has.2 in
    let counts = part_counts b sound batch.batch p there in
    let closed_not : p.closed ≡ false = open_part.1.2 in (
      ap rank_named open_part.0,
      record {
        part = part_seen p;
        here = part_here b s batch.batch p a there here open_part.1.3;
        charged = part_charged b s batch.batch p a there here open_part.1.3;
        holds = (rw closed_not refl, omega arith);
      },
    )

-- its home is here
at_home : (c : ClientModel) (s : ServerModel) → s.config ≡ c.config → s.me ≡ home c.config c.me → home_of s.config.servers c.me ≡ s.me.0
at_home c s same asked = ap (λ (k : Config). home_of k.servers c.me) same ∙ ap (λ (k : Server). k.0) (sym asked)

-- and that the rank runs there
request_awaited : (c : ClientModel) (p : Pending) (b : Bag) (s : ServerModel) (m : Message) → Waits c p b → IsSoundBag b → ServerAgrees b s
    → s.config ≡ c.config → IsAsked c p s.me m → RunsHere s c.me → IsAwaitedHere s c.me m
request_awaited c waits_for.Nothing b s m w sound a same asked runs = absurd asked
request_awaited c (waits_for.Put unit first tried) b s m w sound a same asked runs =
    subst (IsAwaitedHere s c.me) (sym asked.0) (put_awaited c unit first tried b s sound a w.rank w.call.0 same)
request_awaited c (waits_for.Reserve request types) b s m w sound a same asked runs =
    subst (IsAwaitedHere s c.me) (sym asked.0) (at_home c s same asked.1, runs)
request_awaited c (waits_for.Try request types tried) b s m w sound a same asked runs = subst (IsAwaitedHere s c.me) (sym asked.0) tt
request_awaited c (waits_for.Fetch request note) b s m w sound a same asked runs =
    let held = All-contains (IsHeld b c.me) (c.handles ++ note ∷ []) note w.held (Contains-push c.handles note) in
    subst (IsAwaitedHere s c.me) (sym asked.0) (fetch_awaited c.me note b s held a asked.1)
request_awaited c (waits_for.Common request note common own) b s m w sound a same asked runs =
    subst (IsAwaitedHere s c.me) (sym asked.0) (common_awaited c request note common own b s w sound a asked.1)
request_awaited c (waits_for.Keep request common first tried) b s m w sound a same asked runs =
    let new =
    begun_is_new b sound (batch_of c.me request) (in_call c (waits_for.Keep request common first tried) None) common w.rank refl in
    let none : part_in s.kept.parts (batch_of c.me request) ≡ None =
    a.parts (batch_of c.me request) ∙ ap (λ o. option_and_then (part_at s.me) o) new in
    subst (IsAwaitedHere s c.me) (sym asked.0) (none, w.call.2)
request_awaited c (waits_for.Close request batch) b s m w sound a same asked runs =
    subst (IsAwaitedHere s c.me) (sym asked.0) (close_awaited c request batch b s w sound a asked.1)
request_awaited c (waits_for.Count request kind) b s m w sound a same asked runs =
    subst (IsAwaitedHere s c.me) (sym asked.0) (at_home c s same asked.1, runs)
request_awaited c (waits_for.SetDone request tried) b s m w sound a same asked runs = subst (IsAwaitedHere s c.me) (sym asked.0) tt

-- A rank whose request or Finish letter is under way runs at the server.

flag_off : (t : Bool) → one t ≤ 0 → t ≡ false
flag_off true few = absurd (omega arith)
flag_off false few = refl

at_most_one : (t : Bool) → one t ≤ 1
at_most_one true = omega arith
at_most_one false = omega arith

finish_is : (m : Message) → is_finish m ≡ true → m ≡ tells.Finish
finish_is tells.Finish e = refl
finish_is _ e = absurd (cc)

-- the letter is of a kind that goes there
pub fits : (w : World) (from to : Actor) (letter : Letter) (rest : List Letter) → IsWell w → is_within w.config from ≡ true
    → is_within w.config to ≡ true
    → link w.links (place_of w.config from) (place_of w.config to) ≡ letter ∷ rest → fits_link w.config from to letter.message ≡ true
fits w from to letter rest well f t front =
    front_fits w.config w.links from to letter rest (all_fit w well.shape well.kind) f t front

-- an option that is not empty has a value
pub some_of : {X : Type 0} (o : Option X) → IsSome o → (x : X) × (o ≡ Some x)
some_of None some = absurd (cc)
some_of (Some x) some = (x, refl)

never : (t : Bool) → t ≡ true → t ≡ false → ⊥
never t on off = cc (on, off)

-- a letter of a rank that neither waits there nor has finished there, awaited where the rank runs
from_runner : (w : World) (from : Rank) (me : Server) (letter : Letter) (rest : List Letter) → IsWell w → from.0 < w.config.ranks
    → me.0 < w.config.servers → letter.stamp < stamp_limit
    → link w.links (place_of w.config (by.Rank from)) (place_of w.config (by.Server me)) ≡ letter ∷ rest
    → measure (weights (one_letter from)) w ≡ call_letter from (by.Rank from) (by.Server me) letter.message
    → has_ended (pool_of w me) ≡ false → is_finished (pool_of w me).kept from ≡ false
    → (RunsHere (pool_of w me) from → IsAwaitedHere (pool_of w me) from letter.message)
    → (next : World) × (handle w (by.Rank from) (by.Server me) (letter ∷ rest) ≡ Some next)
from_runner w from me letter rest well inside here small front all going fresh awaited =
    let s = pool_of w me in
    let pool = well.own.servers me here in
    let rank = lt-ltb from.0 w.config.ranks inside in
    let server = lt-ltb me.0 w.config.servers here in
    let alone = all_each (IsNotOf from) s.kept.parked.waiting
    (waits_nowhere_beside w from (by.Rank from) (by.Server me) letter rest well rank server front all refl me here) in
    let ranks : from.0 < s.config.ranks = let e = ap (λ (k : Config). k.ranks) pool.config in omega arith in
    let runs : RunsHere s from = record { waits_not = alone; finished_not = fresh } in
    let x = some_of (serve s (by.Rank from) letter) ((expected_have_steps s (by.Rank from) letter).1 (ranks, small, awaited runs)) in
    let f = after_server w me (taken w (by.Rank from) (by.Server me) rest) in
    (f x.0, ap (λ k. cond k None (option_map f (serve s (by.Rank from) letter))) going ∙ ap (option_map f) x.1)

to_server : (w : World) (b : Bag) (from : Rank) (me : Server) (letter : Letter) (rest : List Letter) → IsWell w
    → IsLawful w b
    → from.0 < w.config.ranks → me.0 < w.config.servers → letter.stamp < stamp_limit → has_ended (pool_of w me) ≡ false
    → link w.links (place_of w.config (by.Rank from)) (place_of w.config (by.Server me)) ≡ letter ∷ rest
    → (next : World) × (handle w (by.Rank from) (by.Server me) (letter ∷ rest) ≡ Some next)
to_server w b from me letter rest well l inside here small still front =
    let s = pool_of w me in
    let c = client_of w from in
    let m = letter.message in
    let pool = well.own.servers me here in
    let own = well.own.ranks from inside in
    let its = l.seats from inside in
    let seat = its.1 in
    let rank : is_within w.config (by.Rank from) ≡ true = lt-ltb from.0 w.config.ranks inside in
    let server : is_within w.config (by.Server me) ≡ true = lt-ltb me.0 w.config.servers here in
    let there : from.0 < length w.ranks = let e = (well.shape).ranks in omega arith in
    let calls = letters_are w from there (well.one from) in
    let ends = finishes_are w from me there (well.finish from me here) in
    let end = front_beside (finishes from me) w (by.Rank from) (by.Server me) letter rest me well.shape rank server front here in
    let handled : finish_handled from me me.0 s.kept ≡ one (is_finished s.kept from) = rw (eq-eqb me.0 me.0 refl) refl in
    elim (or_cases (is_request m) (is_finish m) (fits w (by.Rank from) (by.Server me) letter rest well rank server front)) [
      | inl request ↦
          let of_call =
          at_front (OfCall c its.0) w.config w.links (by.Rank from) (by.Server me) letter rest seat.letters rank server front in
          let sent = of_call (sym seat.named) request in
          let busy = asked_busy c c.pending me m sent.1 in
          let going : c.finished ≡ false =
          false_from_ne_true c.finished (λ done. never (is_idle c.pending) (ap is_idle (own.rests done)) busy) in
          let all : one (not (is_idle c.pending)) ≡ 1 = rw busy refl in
          let weight : call_letter from (by.Rank from) (by.Server me) m ≡ 1 = rw (request, eq-eqb from.0 from.0 refl) refl in
          let stands : ClientAgrees c None b = subst (λ (o : Option Message). ClientAgrees c o b) sent.0 seat.stands in
          let facts = subst (λ (o : Option Message). All (IsFact b) (holds c o)) sent.0 seat.facts in
          let waits = waits_of c c.pending b refl going stands facts own.call in
          let sound = run_is_sound (found_in w.config) w.config w.ledger b l.run in
          let asked : IsAsked c c.pending s.me m = subst (λ (k : Server). IsAsked c c.pending k m) (sym pool.me) sent.1 in
          let agrees = l.pools me here in
          let same = pool.config ∙ sym own.config in
          let done : one c.finished ≡ 0 = ap one going in
          from_runner w from me letter rest well inside here small front (omega arith) still
          (flag_off (is_finished s.kept from) (omega arith))
          (subst (λ (r : Rank). RunsHere s r → IsAwaitedHere s r m) seat.named
          (request_awaited c c.pending b s m waits sound agrees same asked))
      | inr leaves ↦
          let is = finish_is m leaves in
          let weight : finish_letter from me (by.Rank from) (by.Server me) m ≡ 1 =
          rw (is, eq-eqb from.0 from.0 refl, eq-eqb me.0 me.0 refl) refl in
          let few = at_most_one c.finished in
          let gone : c.finished ≡ true = flag_on c.finished (omega arith) in
          let none : one (not (is_idle c.pending)) ≡ 0 = ap (λ p. one (not (is_idle p))) (own.rests gone) in
          let weighs_no_call : call_letter from (by.Rank from) (by.Server me) m ≡ 0 =
          ap (λ (x : Message). call_letter from (by.Rank from) (by.Server me) x) is in
          from_runner w from me letter rest well inside here small front (omega arith) still
          (flag_off (is_finished s.kept from) (omega arith))
          (λ runs. subst (IsAwaitedHere s from) (sym is) runs)
    ]
  where
    flag_on : (t : Bool) → 1 ≤ one t → t ≡ true
    flag_on true h = refl
    flag_on false h = absurd (omega arith)

-- An answer.

awaited_busy : (c : ClientModel) (p : Pending) (from : Server) (m : Message) → IsAwaited c p from m → is_idle p ≡ false
awaited_busy c waits_for.Nothing from m is = absurd is
awaited_busy c (waits_for.Put unit first tried) from m is = refl
awaited_busy c (waits_for.Reserve request types) from m is = refl
awaited_busy c (waits_for.Try request types tried) from m is = refl
awaited_busy c (waits_for.Fetch request note) from m is = refl
awaited_busy c (waits_for.Common request note common own) from m is = refl
awaited_busy c (waits_for.Keep request common first tried) from m is = refl
awaited_busy c (waits_for.Close request batch) from m is = refl
awaited_busy c (waits_for.Count request kind) from m is = refl
awaited_busy c (waits_for.SetDone request tried) from m is = refl

to_rank : (w : World) (b : Bag) (from : Server) (me : Rank) (letter : Letter) (rest : List Letter) → IsWell w
    → IsLawful w b
    → from.0 < w.config.servers → me.0 < w.config.ranks → letter.stamp < stamp_limit
    → link w.links (place_of w.config (by.Server from)) (place_of w.config (by.Rank me)) ≡ letter ∷ rest
    → (next : World) × (handle w (by.Server from) (by.Rank me) (letter ∷ rest) ≡ Some next)
to_rank w b from me letter rest well l there here small front =
    let c = client_of w me in
    let own = well.own.ranks me here in
    let its = l.seats me here in
    let rank : is_within w.config (by.Rank me) ≡ true = lt-ltb me.0 w.config.ranks here in
    let server : is_within w.config (by.Server from) ≡ true = lt-ltb from.0 w.config.servers there in
    let of_call = at_front (OfCall c its.0) w.config w.links (by.Server from) (by.Rank me) letter rest its.1.letters server rank front in
    let awaited = (of_call (sym its.1.named)).1 in
    let busy = awaited_busy c c.pending from letter.message awaited in
    let going : c.finished ≡ false = false_from_ne_true c.finished (λ done. never (is_idle c.pending) (ap is_idle (own.rests done)) busy) in
    let x =
    some_of (hear c from letter) ((expected_are_heard c from letter).1 (record { going = going; stamp = small; awaited = awaited })) in
    let f = after_rank w me (taken w (by.Server from) (by.Rank me) rest) in
    (f x.0, ap (option_map f) x.1)

-- A letter between servers.

-- numbers that are told apart
pub apart_is : (a b : ℕ) → not (a == b) ≡ true → a ≢ b
apart_is a b apart same = let e = eq-eqb a b same in absurd (cc)

-- the home asks. An answer comes where the rank waits with the sender unanswered. A hint comes to the home. A letter of a push comes
-- where that push stands, or as the bag has its unit. A notice comes to server 0, and a verdict from it
between_awaited : (w : World) (b : Bag) (from me : Server) (letter : Letter) (rest : List Letter) (m : Message) → IsWell w → IsLawful w b
    → NoneOwes w → from.0 < w.config.servers → me.0 < w.config.servers → from ≢ (pool_of w me).me
    → link w.links (place_of w.config (by.Server from)) (place_of w.config (by.Server me)) ≡ letter ∷ rest → letter.message ≡ m
    → is_of_check m ≡ false → fits_between w.config from me m ≡ true → IsAwaitedFrom (pool_of w me) from m
between_awaited w b from me letter rest m well l paid there here differs front says plain fits = by_message m says plain fits
  where
    s : ServerModel
    s = pool_of w me

    -- the two tests say what they are meant to, as the server knows the run
    home_says : (rank : Rank) (at : Server) → (nat_lt rank.0 w.config.ranks && is_home w.config at rank) ≡ true
        → (rank.0 < s.config.ranks) × (home_of s.config.servers rank ≡ at.0)
    home_says rank at is =
        let parts = and_parts (nat_lt rank.0 w.config.ranks) (is_home w.config at rank) is in
        let P : Config → Type 0 = λ k. (rank.0 < k.ranks) × (home_of k.servers rank ≡ at.0) in
        subst P (sym (well.own.servers me here).config)
        (ltb-true rank.0 w.config.ranks parts.0, eqb-true (home_of w.config.servers rank) at.0 parts.1)

    -- an answer about this rank in this call
    unanswered : (rank : Rank) (request : ℕ) → remotes_letter me from rank request (by.Server from) (by.Server me) letter.message ≡ 1
        → IsUnanswered s from rank request
    unanswered rank request weighs =
        remote_awaits w me from rank request (by.Server from) (by.Server me) letter rest well here (lt-ltb from.0 w.config.servers there)
        (lt-ltb me.0 w.config.servers here) front weighs

    weighs_one : (rank : Rank) (request : ℕ) → about me from rank request me.0 from.0 rank request ≡ 1
    weighs_one rank request =
        rw (eq-eqb rank.0 rank.0 refl, eq-eqb request request refl, eq-eqb me.0 me.0 refl, eq-eqb from.0 from.0 refl) refl

    pushed : (x : Message) → letter.message ≡ x → IsOfPushes x → IsAwaitedFrom s from x
    pushed x is of =
        let sound = run_is_sound (found_in w.config) w.config w.ledger b l.run in
        let bag : OfPush b from me letter.message =
        at_front (λ a t (y : Letter). IsOfPush b a t y.message) w.config w.links (by.Server from) (by.Server me) letter rest
        (l.pushed).letters (lt-ltb from.0 w.config.servers there) (lt-ltb me.0 w.config.servers here) front in
        push_awaited w b from me letter rest x well sound.tracked (l.pools me here) (paid me here) there here differs front is
        (subst (OfPush b from me) is bag) of

    by_message : (x : Message) → letter.message ≡ x → is_of_check x ≡ false → fits_between w.config from me x ≡ true
        → IsAwaitedFrom s from x
    by_message (tells.Ask rank request types) is plain fits = home_says rank from fits
    by_message (tells.AskGrant rank request note) is plain fits =
        unanswered rank request (ap (remotes_letter me from rank request (by.Server from) (by.Server me)) is ∙ weighs_one rank request)
    by_message (tells.AskNone rank request) is plain fits =
        unanswered rank request (ap (remotes_letter me from rank request (by.Server from) (by.Server me)) is ∙ weighs_one rank request)
    by_message (tells.Hint rank request) is plain fits =
        let at = home_says rank me fits in (at.0, at.1 ∙ ap (λ (k : Server). k.0) (sym (well.own.servers me here).me))
    by_message (tells.PushQuery id n) is plain fits = pushed (tells.PushQuery id n) is tt
    by_message (tells.PushYes id) is plain fits = pushed (tells.PushYes id) is tt
    by_message (tells.PushNo id) is plain fits = pushed (tells.PushNo id) is tt
    by_message (tells.PushUnit unit) is plain fits = pushed (tells.PushUnit unit) is tt
    by_message (tells.PushCancel id) is plain fits = pushed (tells.PushCancel id) is tt
    by_message (tells.PushAck id) is plain fits = pushed (tells.PushAck id) is tt
    by_message tells.Notice is plain fits = ap (λ (k : Server). k.0) (well.own.servers me here).me ∙ eqb-true me.0 0 fits
    by_message tells.Exhaust is plain fits = eqb-true from.0 0 fits
    by_message tells.Shutdown is plain fits = eqb-true from.0 0 fits
    by_message (tells.Token t) is plain fits = absurd (cc plain)
    by_message (tells.Failed t why) is plain fits = absurd (cc plain)
    by_message _ is plain fits = absurd (cc)

between : (w : World) (b : Bag) (from me : Server) (letter : Letter) (rest : List Letter) → IsWell w → IsLawful w b → NoneOwes w
    → from.0 < w.config.servers → me.0 < w.config.servers → letter.stamp < stamp_limit → has_ended (pool_of w me) ≡ false
    → is_of_check letter.message ≡ false
    → link w.links (place_of w.config (by.Server from)) (place_of w.config (by.Server me)) ≡ letter ∷ rest
    → (next : World) × (handle w (by.Server from) (by.Server me) (letter ∷ rest) ≡ Some next)
between w b from me letter rest well l paid there here small going plain front =
    let s = pool_of w me in
    let pool = well.own.servers me here in
    let f = lt-ltb from.0 w.config.servers there in
    let t = lt-ltb me.0 w.config.servers here in
    let kind = and_parts (not (from.0 == me.0)) (fits_between w.config from me letter.message)
    (fits w (by.Server from) (by.Server me) letter rest well f t front) in
    let apart = apart_is from.0 me.0 kind.0 in
    let of_run : from.0 < s.config.servers = let e = ap (λ (k : Config). k.servers) pool.config in omega arith in
    let other : from ≢ s.me = λ same. apart (ap (λ (k : Server). k.0) (same ∙ pool.me)) in
    let awaited = between_awaited w b from me letter rest letter.message well l paid there here other front refl plain kind.1 in
    let x = some_of (serve s (by.Server from) letter)
    ((expected_have_steps s (by.Server from) letter).1 (of_run, other, small, awaited)) in
    let f = after_server w me (taken w (by.Server from) (by.Server me) rest) in
    (f x.0, ap (λ k. cond k None (option_map f (serve s (by.Server from) letter))) going ∙ ap (option_map f) x.1)

-- Any letter.

handled_here : (w : World) (b : Bag) (from to : Actor) (letter : Letter) (rest : List Letter)
    → IsWell w → IsLawful w b → NoneOwes w
    → is_within w.config from ≡ true → is_within w.config to ≡ true → letter.stamp < stamp_limit → is_over w to ≡ false
    → is_of_check letter.message ≡ false
    → link w.links (place_of w.config from) (place_of w.config to) ≡ letter ∷ rest
    → (next : World) × (handle w from to (letter ∷ rest) ≡ Some next)
handled_here w b (by.Rank from) (by.Rank to) letter rest well l paid f t small going plain front =
    let kind : false ≡ true = fits w (by.Rank from) (by.Rank to) letter rest well f t front in absurd (cc)
handled_here w b (by.Server from) (by.Server to) letter rest well l paid f t small going plain front =
    between w b from to letter rest well l paid (ltb-true from.0 w.config.servers f) (ltb-true to.0 w.config.servers t) small
    going plain front
handled_here w b (by.Rank from) (by.Server to) letter rest well l paid f t small going plain front =
    to_server w b from to letter rest well l (ltb-true from.0 w.config.ranks f) (ltb-true to.0 w.config.servers t) small going front
handled_here w b (by.Server from) (by.Rank to) letter rest well l paid f t small going plain front =
    to_rank w b from to letter rest well l (ltb-true from.0 w.config.servers f) (ltb-true to.0 w.config.ranks t) small front

-- in every run the front letter of each list is expected, but for tokens
pub none_is_stuck : (config : Config) (events : List Event) (w : World)
    → Runs (start config) events w
    → NoneIsStuck w
none_is_stuck config events w run from to letter rest f t front going plain small =
    let l = every_run_lawful config events w run in
    let well = every_run_well config events w run in
    let letters = link w.links (place_of w.config from) (place_of w.config to) in
    let here = handled_here w l.0 from to letter rest well l.1 (every_run_paid config events w run) f t small going plain front in
    (here.0, ap (λ k. cond k (handle w from to letters) None) (and_from _ _ f t) ∙ ap (handle w from to) front ∙ here.1)
