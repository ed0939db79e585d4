-- What the entries of a server make of the rank whose batch begins or ends, or that fetches common bytes.
use Rattle.std.proofs.Common.{◌≡◌, inl, inr, ◌+◌, ℕ, Bool, true, false, cond, List, [], ◌∷◌, ◌++◌, length, Option, Some, None, refl, sym}
use Rattle.std.proofs.Common.{ap, ◌∙◌, find, append-nil}
use Rattle.std.specs.Prelude.{option_and_then}
use Rattle.adlb_unit.specs.Ids.{same_batch, same_unit}
use Rattle.bag_ledger.specs.declared.states.Placed.{Placed}
use Rattle.adlb_unit.specs.declared.messages.Message.{Message}
use Rattle.adlb_unit.specs.declared.messages.Message.TheVariants as tells
use Rattle.adlb_unit.specs.declared.names.BatchId.{BatchId}
use Rattle.adlb_unit.specs.declared.names.CommonRef.{CommonRef}
use Rattle.adlb_unit.specs.declared.names.Server.{Server}
use Rattle.adlb_unit.specs.declared.notes.UnitNote.{UnitNote}
use Rattle.adlb_unit.proofs.Same.{same_batch_from}
use Rattle.bag_ledger.specs.declared.entries.Answer.TheVariants as answers
use Rattle.bag_ledger.specs.declared.entries.Call.TheVariants as calls_to
use Rattle.bag_ledger.specs.declared.entries.Entry.{Entry}
use Rattle.bag_ledger.specs.declared.entries.Entry.TheVariants as enters
use Rattle.bag_ledger.specs.declared.entries.Said.{Said}
use Rattle.bag_ledger.specs.declared.states.Part.{Part as Lot}
use Rattle.bag_ledger.specs.declared.states.RankState.{RankState}
use Rattle.bag_ledger.specs.declared.states.Status.TheVariants as does
use Rattle.bag_ledger.specs.Bag.{Bag, keeping as kept_call, part_of, rank_at}
use Rattle.bag_ledger.specs.Runs.{IsRun, IsRunWhere, says}
use Rattle.bag_ledger.specs.Steps.{after, declined_by, ended, kept, new_part, with_part, with_rank}
use Rattle.bag_law.proofs.Turn.{PartIs, found_new, part_is}
use Rattle.server_components.specs.Store.{is_due}
use Rattle.server_components.specs.declared.parts.Part.{Part}
use Rattle.rank_client.specs.declared.pendings.Pending.{Pending}
use Rattle.rank_client.specs.declared.pendings.Pending.TheVariants as waits_for
use Rattle.rank_client.specs.Agreement.{HasAccepted, IsOwedIn, in_call, keeping as rank_keeping, running}
use Rattle.rank_client.specs.Rules.{asked, begun_batch}
use Rattle.rank_client.specs.State.{ClientModel}
use Rattle.server_law.specs.Acts.{batch_of, frees, unit_of as unit_named}
use Rattle.core_law.proofs.Coming.{Comes, Waits, accepted_same, no_call, one_call, rank_changed, ring_next, single}
use Rattle.core_law.proofs.TakenUnits.{facts_same}

-- A part is freed after the entry, if it is due then.

-- the counts of a rank's batch, where a part is changed and its count is not
accepted_turned : (b : Bag) (batch : BatchId) (g : Lot → Lot) → ((p : Lot) → (g p).batch ≡ p.batch)
    → ((p : Lot) → (g p).accepted ≡ p.accepted)
    → (o : Option CommonRef) (n : ℕ) → HasAccepted b o n → HasAccepted (with_part batch g b) o n
accepted_turned b batch g same counts None n has = tt
accepted_turned b batch g same counts (Some c) n has = by_is (part_is g same batch c.batch b.parts has.0 has.1)
  where
    by_is : PartIs g batch c.batch b.parts has.0 → HasAccepted (with_part batch g b) (Some c) n
    by_is w = (
      w.0,
      w.1,
      elim w.2 [ inl is ↦ ap (λ (x : Lot). x.accepted) is ∙ has.2 | inr is ↦ ap (λ (x : Lot). x.accepted) is.1 ∙ counts has.0 ∙ has.2 ],
    )

owed_same : (b n : Bag) (p : Pending) (coming : Option Message) → n.units ≡ b.units → n.done ≡ b.done → IsOwedIn b p coming
    → IsOwedIn n p coming
owed_same b n (waits_for.Fetch request note) (Some (tells.Bytes to own)) same alike is = λ common shares. let o = is common shares in
    (o.0, ap (λ units. find (λ (u : Placed). same_unit u.unit.id note.id) units) same ∙ o.1, o.2, o.3)
owed_same b n (waits_for.Common request note common own) coming same alike is =
    (is.0, ap (λ units. find (λ (u : Placed). same_unit u.unit.id note.id) units) same ∙ is.1, is.2, is.3)
owed_same b n (waits_for.Fetch request note) None same alike is = tt
owed_same b n (waits_for.Fetch request note) (Some _) same alike is = tt
owed_same b n waits_for.Nothing coming same alike is = tt
owed_same b n (waits_for.Put unit first tried) coming same alike is = tt
owed_same b n (waits_for.Reserve request types) coming same alike is = tt
owed_same b n (waits_for.Try request types tried) coming same alike is = tt
owed_same b n (waits_for.Keep request common first tried) coming same alike is = tt
owed_same b n (waits_for.Close request batch) coming same alike is = tt
owed_same b n (waits_for.Count request kind) coming same alike is = tt
owed_same b n (waits_for.SetDone request tried) coming same alike is = alike ∙ is

-- the same where the part is freed
freed_comes : (c : ClientModel) (p : Pending) (a : Message) (b : Bag) (e : Entry) (me : Server) (batch : BatchId)
    → Comes c p a b (after b e) (e ∷ []) → Comes c p a b (after (after b e) (enters.Freed me batch)) (e ∷ enters.Freed me batch ∷ [])
freed_comes c p a b e me batch k =
    let n = after b e in
    let d = after n (enters.Freed me batch) in
    record {
      rank = k.rank;
      servers = k.servers;
      caused = k.caused;
      held = k.held;
      said = k.said;
      facts = facts_same n d _ refl k.facts;
      owed = owed_same n d p (Some a) refl refl k.owed;
      accepted = accepted_turned n batch (λ q. record q { freed = true }) (λ q. refl) (λ q. refl) _ _ k.accepted;
    }

-- an entry, and after it the freeing of a part that is due
pub with_frees : (found : Bag → Bool) (c : ClientModel) (p : Pending) (a : Message) (b next : Bag) (e : Entry) (me : Server)
    (batch : BatchId) (part : Part)
    → ((n : Bag) → IsRunWhere found b (e ∷ []) n → Comes c p a b n (e ∷ [])) → IsRunWhere found b (e ∷ frees me batch part) next
    → Comes c p a b next (e ∷ frees me batch part)
with_frees found c p a b next e me batch part comes run = by_due (is_due part) run
  where
    by_due : (t : Bool) → IsRunWhere found b (e ∷ cond t (enters.Freed me batch ∷ []) []) next
        → Comes c p a b next (e ∷ cond t (enters.Freed me batch ∷ []) [])
    by_due true run =
        let first : Comes c p a b (after b e) (e ∷ []) = comes (after b e) (after b e, (run.1.0, run.1.1, refl), refl) in
        let last : next ≡ after (after b e) (enters.Freed me batch) =
        sym run.2.2 ∙ run.2.1.2 ∙ ap (λ x. after x (enters.Freed me batch)) run.1.2 in
        rw last (freed_comes c p a b e me batch first)
    by_due false run = comes next run

-- A batch begins.

-- the beginning of a batch whose part is kept
pub kept_comes : (c : ClientModel) (request : ℕ) (common : List ℕ) (first : Server) (tried : ℕ) (me : Server) (b next : Bag)
    → Waits c (waits_for.Keep request common first tried) b → me ≡ asked c first tried → part_of b (batch_of c.me request) ≡ None
    → IsRun b (enters.Kept me (batch_of c.me request) ∷ []) next
    → Comes c (waits_for.Keep request common first tried) (tells.Accepted request) b next (enters.Kept me (batch_of c.me request) ∷ [])
kept_comes c request common first tried me b next w is new run =
    let batch = batch_of c.me request in
    let e = enters.Kept me batch in
    let s = single b next e run in
    let lot = new_part me batch common in
    let more : Bag = record b { parts = b.parts ++ lot ∷ [] } in
    let begins : RankState → RankState =
    λ r. ended (record r { batch = Some (record { batch = batch; server = me; length = length common }) }) in
    let d : Bag = with_rank c.me begins more in
    let brought : option_and_then (λ (r : RankState). kept_call r.status) (rank_at b c.me) ≡ Some (request, common) = rw w.rank refl in
    let now : next ≡ d = s.1 ∙ ap (λ o. kept me batch o b) brought in
    let said_so : Said = record { call = calls_to.BeginBatch common; answer = answers.Fine } in
    let told : says b e ≡ Some (c.me, said_so) = rw w.rank refl in
    rw now (record {
      rank = rank_changed more c.me begins (rank_keeping c request common first tried) w.rank
          ∙ ap (λ k. Some (record (running c) { batch = Some (begun_batch c request common k) })) is;
      servers = w.servers;
      caused = w.caused;
      held = w.held;
      said = ap (λ l. c.transcript ++ l) (sym (one_call b e c.me said_so told));
      owed = tt;
      accepted = (lot, found_new (λ (q : Lot). same_batch q.batch batch) b.parts lot new (same_batch_from batch batch refl), refl);
      facts = facts_same b d (c.handles ++ []) refl w.facts;
    })

-- the beginning of a batch whose part is refused
pub part_refused_comes : (c : ClientModel) (request : ℕ) (common : List ℕ) (first : Server) (tried : ℕ) (me : Server)
    (b next : Bag) (used : ℕ)
    → Waits c (waits_for.Keep request common first tried) b → me ≡ asked c first tried
    → IsRun b (enters.Refused me (unit_named c.me request) used ∷ []) next
    → Comes c (waits_for.Keep request common first tried) (tells.Full request used) b next
    (enters.Refused me (unit_named c.me request) used ∷ [])
part_refused_comes c request common first tried me b next used w is run =
    let e = enters.Refused me (unit_named c.me request) used in
    let s = single b next e run in
    let d : Bag = with_rank c.me (declined_by me) b in
    let none : says b e ≡ None = refl in
    rw (s.1) (record {
      rank = rank_changed b c.me (declined_by me) (rank_keeping c request common first tried) w.rank
          ∙ ap (λ l. Some (record (running c) { status = does.Keeping request common; declined = l }))
          (ring_next c.config first tried me is);
      servers = w.servers;
      caused = w.caused;
      held = w.held;
      said = sym (append-nil c.transcript) ∙ ap (λ l. c.transcript ++ l) (sym (no_call b e c.me none));
      owed = tt;
      accepted = accepted_same b d c.batch c.accepted refl w.accepted;
      facts = facts_same b d (c.handles ++ []) refl w.facts;
    })

-- It ends.

-- the end of a batch
pub closed_comes : (c : ClientModel) (request : ℕ) (common : CommonRef) (batch : BatchId) (me : Server) (b next : Bag)
    → Waits c (waits_for.Close request common) b → batch.rank ≡ c.me → IsRun b (enters.Closed me batch ∷ []) next
    → Comes c (waits_for.Close request common) (tells.Closed request) b next (enters.Closed me batch ∷ [])
closed_comes c request common batch me b next w own run =
    let e = enters.Closed me batch in
    let s = single b next e run in
    let g : Lot → Lot = λ p. record p { closed = true } in
    let ends : RankState → RankState = λ r. ended (record r { batch = None }) in
    let d : Bag = with_rank c.me ends (with_part batch g b) in
    let now : next ≡ d = s.1 ∙ ap (λ r. with_rank r ends (with_part batch g b)) own in
    let at : rank_at b batch.rank ≡ Some (in_call c (waits_for.Close request common) None) = ap (rank_at b) own ∙ w.rank in
    let said_so : Said = record { call = calls_to.EndBatch; answer = answers.Fine } in
    let told : says b e ≡ Some (c.me, said_so) = rw at (ap (λ r. Some (r, said_so)) own) in
    rw now (record {
      rank = rank_changed (with_part batch g b) c.me ends (in_call c (waits_for.Close request common) None) w.rank;
      servers = w.servers;
      caused = w.caused;
      held = w.held;
      said = ap (λ l. c.transcript ++ l) (sym (one_call b e c.me said_so told));
      owed = tt;
      accepted = tt;
      facts = facts_same b d (c.handles ++ []) refl w.facts;
    })

-- Common bytes come.

-- the common bytes of a fetch
pub common_comes : (c : ClientModel) (request : ℕ) (note : UnitNote) (common : CommonRef) (own : List ℕ) (batch : BatchId)
    (lot : Lot) (me : Server)
    (b next : Bag)
    → Waits c (waits_for.Common request note common own) b → part_of b batch ≡ Some lot
    → IsRun b (enters.CommonFetched me c.me batch ∷ []) next
    → Comes c (waits_for.Common request note common own) (tells.Bytes request lot.common) b next (enters.CommonFetched me c.me batch ∷ [])
common_comes c request note common own batch lot me b next w there run =
    let e = enters.CommonFetched me c.me batch in
    let s = single b next e run in
    let g : Lot → Lot = λ p. record p { fetched = p.fetched + 1 } in
    let d : Bag = with_rank c.me ended (with_part batch g b) in
    let said_so : Said = record { call = calls_to.Fetch note.id; answer = answers.Body (lot.common ++ own) } in
    let told : says b e ≡ Some (c.me, said_so) = rw (w.rank, there, w.owed.1, w.owed.3) (rw w.rank refl) in
    rw (s.1) (record {
      rank = rank_changed (with_part batch g b) c.me ended (in_call c (waits_for.Common request note common own) None) w.rank;
      servers = w.servers;
      caused = w.caused;
      held = w.held;
      said = ap (λ l. c.transcript ++ l) (sym (one_call b e c.me said_so told));
      owed = w.owed;
      accepted = accepted_turned b batch g (λ q. refl) (λ q. refl) c.batch c.accepted w.accepted;
      facts = facts_same b d (c.handles ++ []) refl w.facts;
    })
