-- What a step does with a call.
use Rattle.std.proofs.Common.{◌≡◌, ℕ, ◌+◌, ◌^◌, List, [], ◌∷◌, ◌++◌, length, Option, Some, None, Bool, true, false, ◌&&◌, not, refl, ap}
use Rattle.std.proofs.Common.{sym, ◌∙◌, append-nil, subst, find, filter, ℤ}
use Rattle.std.specs.Prelude.{if◌then◌else◌, IsFalse, All, is_none, nat_le}
use Rattle.std.specs.Option.{option_map}
use Rattle.std.proofs.lemmas.Bool.{and_parts, not-true}
use Rattle.std.proofs.lemmas.List.Elements.{All-push, All-filter, All-same, All-head, All-tail}
use Rattle.adlb_unit.specs.Targets.{in_ranks}
use Rattle.adlb_unit.specs.Ids.{same_unit}
use Rattle.adlb_unit.specs.declared.names.Rank.{Rank}
use Rattle.adlb_unit.specs.declared.names.Server.{Server}
use Rattle.adlb_unit.specs.declared.names.Target.{Target}
use Rattle.adlb_unit.specs.declared.names.UnitId.{UnitId}
use Rattle.adlb_unit.specs.declared.names.WorkType.{WorkType}
use Rattle.adlb_unit.specs.declared.notes.End.{End}
use Rattle.adlb_unit.specs.declared.notes.End.TheVariants as ends_by
use Rattle.adlb_unit.specs.declared.notes.UnitNote.{UnitNote}
use Rattle.bag_ledger.specs.declared.entries.Answer.TheVariants as answers
use Rattle.bag_ledger.specs.declared.entries.Call.{Call}
use Rattle.bag_ledger.specs.declared.entries.Call.TheVariants as calls_to
use Rattle.bag_ledger.specs.declared.entries.Entry.{Entry}
use Rattle.bag_ledger.specs.declared.entries.Entry.TheVariants as enters
use Rattle.bag_ledger.specs.declared.entries.Said.{Said}
use Rattle.bag_ledger.specs.declared.states.RankState.{RankState}
use Rattle.bag_ledger.specs.declared.states.Status.{Status}
use Rattle.bag_ledger.specs.declared.states.Status.TheVariants as does
use Rattle.bag_ledger.specs.declared.states.UnitPlace.TheVariants.{Pinned}
use Rattle.bag_ledger.specs.Bag.{Bag, has_due, rank_at}
use Rattle.bag_ledger.specs.Bag as bag
use Rattle.bag_ledger.specs.Runs.{IsRunWhere, calls_from, says}
use Rattle.bag_ledger.specs.Runs as runs
use Rattle.bag_ledger.specs.Steps.{LegalWhere, Stands, StepsWhere, after, begun, ended, with_rank}
use Rattle.rank_client.specs.declared.pendings.Pending.{Pending}
use Rattle.rank_client.specs.declared.pendings.Pending.TheVariants as waits_for
use Rattle.rank_client.specs.Agreement.{ClientAgrees, Follows, HasAccepted, IsCaused, IsHeld, running, said}
use Rattle.adlb_unit.specs.declared.names.CommonRef.{CommonRef}
use Rattle.rank_client.specs.Rules.{ClientResponse, ClientSaying, close, closing, count, entry_of, fetch, fetched, finish, held, is_free}
use Rattle.rank_client.specs.Rules.{is_idle, keep, look, open_call, over, put, reserve, set_done, unit_put}
use Rattle.rank_client.specs.State.{ClientModel}
use Rattle.rank_client.specs.Step.{Made, begin, call_stamp, counted, made, post, ticked}
use Rattle.rank_client.proofs.Entries.{rank_changed, same_unit_is, saying, silent, some_is, step_of, then_saying}

-- What is sent does not matter here.

-- an answer without letters
abbrev pub bare : ClientResponse → Made
bare z = record { state = z.state; sends = []; entries = z.entries; answer = z.answer }

post_agrees : (says : List ClientSaying) (x : Made) (b : Bag) → ClientAgrees x.state None b → ClientAgrees (post x says).state None b
post_agrees [] x b a = a
post_agrees (y ∷ says) x b a =
    post_agrees says _ b
    (record { rank = a.rank; servers = a.servers; caused = a.caused; held = a.held; owed = a.owed; accepted = a.accepted })

post_entries : (says : List ClientSaying) (x : Made) → (post x says).entries ≡ x.entries
post_entries [] x = refl
post_entries (y ∷ says) x = post_entries says _

counted_said : (s : ClientModel) (to : Server) (p : Pending) → said (counted s to) p None ≡ said s p None
counted_said s to waits_for.Nothing = refl
counted_said s to _ = refl

-- the transcript, with the pending call where the ledger has its answer
abbrev said_now : ClientModel → List Said
said_now s = said s s.pending None

post_said : (says : List ClientSaying) (x : Made) → said_now (post x says).state ≡ said_now x.state
post_said [] x = refl
post_said (y ∷ says) x = post_said says _ ∙ counted_said x.state y.to x.state.pending

-- A rank that runs.

-- what the bag has of a rank that is in no call
pub record IsFree (s : ClientModel) (b : Bag) : Type 0 where
  pub rank : rank_at b s.me ≡ Some (running s)
  pub servers : b.servers ≡ s.config.servers
  pub caused : IsCaused b s.end
  pub held : All (IsHeld b s.me) s.handles
  pub accepted : HasAccepted b s.batch s.accepted
  pub none : IsFalse (has_due b)
  pub going : s.finished ≡ false

-- a client that passes the test waits for nothing
pub idle_is : (p : Pending) → is_idle p ≡ true → p ≡ waits_for.Nothing
idle_is waits_for.Nothing e = refl
idle_is _ e = absurd (cc)

-- a rank that is free runs in the bag
pub free_of : (s : ClientModel) (b : Bag) → is_free s ≡ true → ClientAgrees s None b → IsFalse (has_due b) → IsFree s b
free_of s b free a none =
    let tests = and_parts (is_idle s.pending) (not s.finished) free in
    let nothing : s.pending ≡ waits_for.Nothing = idle_is s.pending tests.0 in
    let going : s.finished ≡ false = not-true s.finished tests.1 in
    record {
      rank = rw (going, nothing) at a.rank;
      servers = a.servers;
      caused = rw (going, nothing) at a.caused;
      held = All-same (IsHeld b s.me) s.handles _ (sym (append-nil s.handles)) (rw nothing at a.held);
      accepted = rw (going, nothing) at a.accepted;
      none = none;
      going = going;
    }

-- after a call that has ended
pub free_agrees : (s : ClientModel) (b : Bag) → s.pending ≡ waits_for.Nothing → s.finished ≡ false → rank_at b s.me ≡ Some (running s)
    → b.servers ≡ s.config.servers → IsCaused b s.end → All (IsHeld b s.me) s.handles → HasAccepted b s.batch s.accepted
    → ClientAgrees s None b
free_agrees s b nothing going rank servers caused held accepted = record {
  rank = rw (going, nothing) rank;
  servers = servers;
  caused = rw (going, nothing) caused;
  held = rw nothing (All-same (IsHeld b s.me) _ s.handles (append-nil s.handles) held);
  owed = rw nothing tt;
  accepted = rw (going, nothing) accepted;
}

-- the note that is found is that of the unit, and is among the notes
pub found_is : (P : UnitNote → Type 0) (id : UnitId) (notes : List UnitNote) (note : UnitNote)
    → find (λ n. same_unit n.id id) notes ≡ Some note → All P notes → (note.id ≡ id) × P note
found_is P id [] note e all = absurd (cc)
found_is P id (n ∷ notes) note e all = by_test (found_is P id notes note) (same_unit n.id id) refl e
  where
    by_test : (find (λ n. same_unit n.id id) notes ≡ Some note → All P notes → (note.id ≡ id) × P note) → (t : Bool) → same_unit n.id id ≡ t
        → find (λ n. same_unit n.id id) (n ∷ notes) ≡ Some note → (note.id ≡ id) × P note
    by_test rest true is found =
        let here : n ≡ note = some_is (rw is at found) in
        rw (← here) (same_unit_is n.id id is, All-head P n notes all)
    by_test rest false is found = rest (rw is at found) (All-tail P n notes all)

none_is : {X : Type 0} (o : Option X) → is_none o ≡ true → o ≡ None
none_is None e = refl
none_is (Some x) e = absurd (cc)

module _ (found : Bag → Bool) where
  -- What the law says of a step before which the ledger has this of the rank.
  abbrev pub Holds : List Said → Rank → Bag → Made → Type 0
  Holds before me b x =
      (next : Bag) × IsRunWhere found b x.entries next × ClientAgrees x.state None next
      × (said_now x.state ≡ before ++ calls_from b x.entries me)

  -- of a rule's response; nothing of a call that is not ready, or of a letter that is not expected
  abbrev pub LawOf : List Said → Rank → Bag → Option ClientResponse → Type 0
  LawOf before me b None = Prim.Unit {0}
  LawOf before me b (Some z) = Holds before me b (bare z)

  -- of a rule with a test
  pub if_told : (before : List Said) (me : Rank) (b : Bag) (t : Bool) (z : ClientResponse) → Holds before me b (bare z)
      → LawOf before me b (if t then Some z else None)
  if_told before me b true z law = law
  if_told before me b false z law = tt

  -- the law holds of what is made of an answer
  pub law_of_made : (before : List Said) (me : Rank) (b : Bag) (o : Option ClientResponse) (x : Made) → LawOf before me b o
      → option_map made o ≡ Some x → Holds before me b x
  law_of_made before me b None x law is = absurd (cc)
  law_of_made before me b (Some z) x law is =
      let sent : Holds before me b (made z) = (
        law.0,
        rw (post_entries z.says (bare z)) law.1,
        post_agrees z.says (bare z) law.0 law.2,
        rw (post_said z.says (bare z), post_entries z.says (bare z)) law.3,
      ) in
      subst (λ y. Holds before me b y) (some_is is) sent

  -- A call to which an end was told before.
  over_follows : (s : ClientModel) (b : Bag) (entry : Entry) (call : Call) (end : End) (f : RankState → RankState) (status : Status) →
      IsFree s b → s.end ≡ Some end → StepsWhere found b entry (with_rank s.me f b) → says b entry ≡ None
      → f (running s) ≡ record (running s) { status = status; next = s.next + 1 } → bag.open_call status ≡ Some s.next
      → runs.call_of status ≡ Some call
      → Holds s.transcript s.me b (bare (over s entry call end))
  over_follows s b entry call end f status free told step quiet begins opens calls =
      let middle : Bag = with_rank s.me f b in
      let now : rank_at middle s.me ≡ Some (record (running s) { status = status; next = s.next + 1 }) =
      rank_changed b s.me f (running s) free.rank ∙ ap Some begins in
      let over : Entry = enters.Over s.me s.next end in
      let cause : IsCaused b (Some end) = rw told at free.caused in
      let last : Bag = after middle over in
      let stops : StepsWhere found middle over last = step_of found middle over free.none (
        record (running s) { status = status; next = s.next + 1 },
        now,
        opens,
        cause,
      ) in
      let told_so : says middle over ≡ Some (s.me, record { call = call; answer = answers.Ended end }) = rw (now, calls) refl in
      let runs : rank_at last s.me ≡ Some (record (running s) { next = s.next + 1; end = Some end }) =
      rank_changed middle s.me (λ r. ended (record r { end = Some end }))
      (record (running s) { status = status; next = s.next + 1 }) now in (
        last,
        (middle, step, (last, stops, refl)),
        free_agrees _ last refl free.going (rw told runs) free.servers free.caused free.held free.accepted,
        ap (λ said. s.transcript ++ said)
            (sym (then_saying found b middle last entry over s.me (record {
              call = call;
              answer = answers.Ended end;
            }) step stops quiet told_so)),
      )

  -- A call that goes to a server.
  waits_follows : (s : ClientModel) (b : Bag) (entry : Entry) (f : RankState → RankState) (x : Made) →
      IsFree s b → StepsWhere found b entry (with_rank s.me f b) → says b entry ≡ None → x.entries ≡ entry ∷ []
      → said_now x.state ≡ s.transcript
      → ClientAgrees x.state None (with_rank s.me f b) → Holds s.transcript s.me b x
  waits_follows s b entry f x free step quiet entries transcript agrees = (
    with_rank s.me f b,
    rw entries (with_rank s.me f b, step, refl),
    agrees,
    transcript
        ∙ sym (ap (λ said. s.transcript ++ said) (ap (λ es. calls_from b es s.me) entries
        ∙ silent found b (with_rank s.me f b) entry s.me step quiet) ∙ append-nil s.transcript),
  )

  -- what Putting makes of the rank
  abbrev puts : ClientModel → WorkType → ℤ → Target → Option Rank → List ℕ → RankState → RankState
  puts s kind prio target answer body r =
      begun (does.Putting (record {
        id = record { rank = s.me; number = s.next };
        kind = kind;
        prio = prio;
        target = target;
        answer = answer;
        common = r.batch;
        body = body;
      })) r

  putting_steps : (s : ClientModel) (b : Bag) (kind : WorkType) (prio : ℤ) (target : Target) (answer : Option Rank)
      (body : List ℕ) → IsFree s b
      → StepsWhere found b (entry_of (unit_put s kind prio target answer body)) (with_rank s.me (puts s kind prio target answer body) b)
  putting_steps s b kind prio target answer body free =
      let legal : LegalWhere found b (entry_of (unit_put s kind prio target answer body)) = (running s, (free.rank, refl, refl)) in
      step_of found b (entry_of (unit_put s kind prio target answer body)) free.none legal

  put_follows : (s : ClientModel) (b : Bag) (kind : WorkType) (prio : ℤ) (target : Target) (answer : Option Rank) (body : List ℕ)
      (end : Option End) → IsFree s b → s.end ≡ end
      → Holds s.transcript s.me b (bare (put s (unit_put s kind prio target answer body) end))
  put_follows s b kind prio target answer body (Some end) free told =
      over_follows (record s { puts = s.puts + 1 }) b (entry_of (unit_put s kind prio target answer body))
      (calls_to.Put kind prio target answer body) end (puts s kind prio target answer body)
      (does.Putting (unit_put s kind prio target answer body))
      (record {
        rank = free.rank;
        servers = free.servers;
        caused = free.caused;
        held = free.held;
        accepted = free.accepted;
        none = free.none;
        going = free.going;
      })
      told (putting_steps s b kind prio target answer body free) refl refl refl refl
  put_follows s b kind prio target answer body None free told =
      waits_follows s b (entry_of (unit_put s kind prio target answer body)) (puts s kind prio target answer body)
      (bare (put s (unit_put s kind prio target answer body) None)) free
      (putting_steps s b kind prio target answer body free) refl refl refl
      (record {
        rank = rw free.going (rank_changed b s.me (puts s kind prio target answer body) (running s) free.rank);
        servers = free.servers;
        caused = rw free.going free.caused;
        held = All-same (IsHeld b s.me) _ s.handles (append-nil s.handles) free.held;
        owed = tt;
        accepted = rw free.going free.accepted;
      })

  asking_steps : (s : ClientModel) (b : Bag) (types : Option (List WorkType)) → IsFree s b
      → StepsWhere found b (enters.Asked s.me s.next types) (with_rank s.me (begun (does.Asking s.next types)) b)
  asking_steps s b types free =
      let legal : LegalWhere found b (enters.Asked s.me s.next types) = (running s, (free.rank, refl, refl)) in
      step_of found b (enters.Asked s.me s.next types) free.none legal

  reserve_follows : (s : ClientModel) (b : Bag) (types : Option (List WorkType)) (end : Option End) → IsFree s b → s.end ≡ end
      → Holds s.transcript s.me b (bare (reserve s types end))
  reserve_follows s b types (Some end) free told =
      over_follows s b (enters.Asked s.me s.next types) (calls_to.Reserve types) end (begun (does.Asking s.next types))
      (does.Asking s.next types) free
      told (asking_steps s b types free) refl refl refl refl
  reserve_follows s b types None free told =
      waits_follows s b (enters.Asked s.me s.next types) (begun (does.Asking s.next types)) (bare (reserve s types None)) free
      (asking_steps s b types free) refl refl refl
      (record {
        rank = rw free.going (rank_changed b s.me (begun (does.Asking s.next types)) (running s) free.rank);
        servers = free.servers;
        caused = rw free.going free.caused;
        held = All-same (IsHeld b s.me) _ s.handles (append-nil s.handles) free.held;
        owed = tt;
        accepted = rw free.going free.accepted;
      })

  -- Try.

  look_follows : (s : ClientModel) (b : Bag) (types : Option (List WorkType)) (end : Option End) → IsFree s b → s.end ≡ end
      → Holds s.transcript s.me b (bare (look s types end))
  look_follows s b types end free told = by_end end told
    where
      entry : Entry
      entry = enters.Tried s.me s.next types

      tries : RankState → RankState
      tries = begun (does.Trying s.next types)

      legal : LegalWhere found b entry
      legal = (running s, (free.rank, refl, refl))

      step : StepsWhere found b entry (with_rank s.me tries b)
      step = step_of found b entry free.none legal

      by_end : (o : Option End) → s.end ≡ o → Holds s.transcript s.me b (bare (look s types o))
      by_end (Some e) is = over_follows s b entry (calls_to.Try types) e tries (does.Trying s.next types) free is step refl refl refl refl
      by_end None is =
          waits_follows s b entry tries (bare (look s types None)) free step refl refl refl
          (record {
            rank = rw free.going (rank_changed b s.me tries (running s) free.rank);
            servers = free.servers;
            caused = rw free.going free.caused;
            held = All-same (IsHeld b s.me) _ s.handles (append-nil s.handles) free.held;
            owed = tt;
            accepted = rw free.going free.accepted;
          })

  fetch_follows : (s : ClientModel) (b : Bag) (id : UnitId) (note : Option UnitNote) → IsFree s b → held s id ≡ note
      → LawOf s.transcript s.me b (fetch s id note)
  fetch_follows s b id None free is = tt
  fetch_follows s b id (Some note) free is =
      let it = found_is (IsHeld b s.me) id s.handles note is free.held in
      let there : Stands b id it.1.0 (Pinned note.server s.me) =
      subst (λ (i : UnitId). Stands b i it.1.0 (Pinned note.server s.me)) it.0 it.1.1 in
      let legal : LegalWhere found b (enters.Fetching s.me s.next id) = (running s, it.1.0, note.server, (free.rank, refl, refl), there) in
      waits_follows s b (enters.Fetching s.me s.next id) (begun (does.Fetching s.next id false)) (bare (fetched s id note)) free
      (step_of found b (enters.Fetching s.me s.next id) free.none legal) refl refl refl
      (record {
        rank = rw (free.going, it.0) (rank_changed b s.me (begun (does.Fetching s.next id false)) (running s) free.rank);
        servers = free.servers;
        caused = rw free.going free.caused;
        held = All-push (IsHeld b s.me) (filter (λ n. not (same_unit n.id id)) s.handles) note
            (All-filter (λ n. not (same_unit n.id id)) (IsHeld b s.me) s.handles free.held) it.1;
        owed = tt;
        accepted = rw free.going free.accepted;
      })

  finish_follows : (s : ClientModel) (b : Bag) → IsFree s b → s.batch ≡ None → Holds s.transcript s.me b (bare (finish s))
  finish_follows s b free alone =
      let legal : LegalWhere found b (enters.Finished s.me s.next) = (running s, (free.rank, refl, refl), alone) in
      let step : StepsWhere found b (enters.Finished s.me s.next) (with_rank s.me (begun does.Finished) b) =
      step_of found b (enters.Finished s.me s.next) free.none legal in (
        with_rank s.me (begun does.Finished) b,
        (with_rank s.me (begun does.Finished) b, step, refl),
        record {
          rank = rank_changed b s.me (begun does.Finished) (running s) free.rank;
          servers = free.servers;
          caused = free.caused;
          held = All-same (IsHeld b s.me) _ s.handles (append-nil s.handles) free.held;
          owed = tt;
          accepted = free.accepted;
        },
        ap (λ said. s.transcript ++ said)
            (sym (saying found b _ (enters.Finished s.me s.next) s.me (record {
              call = calls_to.Finish;
              answer = answers.Fine;
            }) step refl)),
      )

  -- Batches.

  keeping_steps : (s : ClientModel) (b : Bag) (common : List ℕ) → IsFree s b → s.batch ≡ None
      → StepsWhere found b (enters.Keeping s.me s.next common) (with_rank s.me (begun (does.Keeping s.next common)) b)
  keeping_steps s b common free alone =
      let legal : LegalWhere found b (enters.Keeping s.me s.next common) = (running s, (free.rank, refl, refl), alone) in
      step_of found b (enters.Keeping s.me s.next common) free.none legal

  keep_follows : (s : ClientModel) (b : Bag) (common : List ℕ) (end : Option End) → IsFree s b → s.batch ≡ None → s.end ≡ end
      → Holds s.transcript s.me b (bare (keep s common end))
  keep_follows s b common (Some end) free alone told =
      over_follows (record s { puts = s.puts + 1 }) b (enters.Keeping s.me s.next common) (calls_to.BeginBatch common) end
      (begun (does.Keeping s.next common)) (does.Keeping s.next common)
      (record {
        rank = free.rank;
        servers = free.servers;
        caused = free.caused;
        held = free.held;
        accepted = free.accepted;
        none = free.none;
        going = free.going;
      })
      told (keeping_steps s b common free alone) refl refl refl refl
  keep_follows s b common None free alone told =
      waits_follows s b (enters.Keeping s.me s.next common) (begun (does.Keeping s.next common)) (bare (keep s common None)) free
      (keeping_steps s b common free alone) refl refl refl
      (record {
        rank = rw free.going (rank_changed b s.me (begun (does.Keeping s.next common)) (running s) free.rank);
        servers = free.servers;
        caused = rw free.going free.caused;
        held = All-same (IsHeld b s.me) _ s.handles (append-nil s.handles) free.held;
        owed = tt;
        accepted = rw free.going free.accepted;
      })

  close_follows : (s : ClientModel) (b : Bag) (batch : Option CommonRef) → IsFree s b → s.batch ≡ batch
      → LawOf s.transcript s.me b (close s batch)
  close_follows s b None free is = tt
  close_follows s b (Some batch) free is =
      let legal : LegalWhere found b (enters.Closing s.me s.next) = (running s, batch, (free.rank, refl, refl), is) in
      waits_follows s b (enters.Closing s.me s.next) (begun (does.Closing s.next)) (bare (closing s batch)) free
      (step_of found b (enters.Closing s.me s.next) free.none legal) refl refl refl
      (record {
        rank = rw free.going (rank_changed b s.me (begun (does.Closing s.next)) (running s) free.rank);
        servers = free.servers;
        caused = rw free.going free.caused;
        held = All-same (IsHeld b s.me) _ s.handles (append-nil s.handles) free.held;
        owed = tt;
        accepted = rw free.going free.accepted;
      })

  -- The problem is done: the ledger has the call and its answer.

  done_follows : (s : ClientModel) (b : Bag) → IsFree s b → Holds s.transcript s.me b (bare (set_done s))
  done_follows s b free =
      let entry : Entry = enters.Done s.me s.next in
      let answer : Said = record { call = calls_to.SetDone; answer = answers.Fine } in
      let next : Bag = after b entry in
      let legal : LegalWhere found b entry = (running s, (free.rank, refl, refl)) in
      let step : StepsWhere found b entry next = step_of found b entry free.none legal in (
        next,
        (next, step, refl),
        record {
          rank = rw free.going (rank_changed b s.me (begun does.Running) (running s) free.rank);
          servers = free.servers;
          caused = rw free.going (still_caused s.end free.caused);
          held = All-same (IsHeld b s.me) _ s.handles (append-nil s.handles) free.held;
          owed = refl;
          accepted = rw free.going free.accepted;
        },
        ap (λ said. s.transcript ++ said) (sym (saying found b next entry s.me answer step refl)),
      )
    where
      still_caused : (o : Option End) → IsCaused b o → IsCaused (after b (enters.Done s.me s.next)) o
      still_caused None is = tt
      still_caused (Some ends_by.NoMoreWork) is = refl
      still_caused (Some ends_by.Exhausted) is = is

  -- Counts.

  count_follows : (s : ClientModel) (b : Bag) (kind : WorkType) → IsFree s b → Holds s.transcript s.me b (bare (count s kind))
  count_follows s b kind free =
      let entry : Entry = enters.Counting s.me s.next kind in
      let legal : LegalWhere found b entry = (running s, (free.rank, refl, refl)) in
      waits_follows s b entry (begun (does.Counting s.next kind)) (bare (count s kind)) free (step_of found b entry free.none legal)
      refl refl refl
      (record {
        rank = rw free.going (rank_changed b s.me (begun (does.Counting s.next kind)) (running s) free.rank);
        servers = free.servers;
        caused = rw free.going free.caused;
        held = All-same (IsHeld b s.me) _ s.handles (append-nil s.handles) free.held;
        owed = tt;
        accepted = rw free.going free.accepted;
      })

  opens : (s : ClientModel) (b : Bag) (call : Call) → IsFree s b → LawOf s.transcript s.me b (open_call s call)
  opens s b (calls_to.Put kind prio target answer body) free =
      if_told _ _ b (nat_le (length body) (2 ^ 20) && in_ranks s.config target) _
      (put_follows s b kind prio target answer body s.end free refl)
  opens s b (calls_to.Reserve types) free = reserve_follows s b types s.end free refl
  opens s b (calls_to.Try types) free = look_follows s b types s.end free refl
  opens s b (calls_to.Fetch id) free = fetch_follows s b id (held s id) free refl
  opens s b (calls_to.BeginBatch common) free = by_test (is_none s.batch && nat_le (length common) (2 ^ 20)) refl
    where
      by_test : (t : Bool) → (is_none s.batch && nat_le (length common) (2 ^ 20)) ≡ t
          → LawOf s.transcript s.me b (if t then Some (keep s common s.end) else None)
      by_test true is =
          keep_follows s b common s.end free (none_is s.batch (and_parts (is_none s.batch) (nat_le (length common) (2 ^ 20)) is).0) refl
      by_test false is = tt
  opens s b calls_to.EndBatch free = close_follows s b s.batch free refl
  opens s b calls_to.SetDone free = done_follows s b free
  opens s b (calls_to.Count kind) free = count_follows s b kind free
  opens s b calls_to.Finish free = by_test (is_none s.batch) refl
    where
      by_test : (t : Bool) → is_none s.batch ≡ t → LawOf s.transcript s.me b (if t then Some (finish s) else None)
      by_test true alone = finish_follows s b free (none_is s.batch alone)
      by_test false alone = tt

  -- the law of a call
  pub begins : (s : ClientModel) (call : Call) (x : Made) (b : Bag) → begin s call ≡ Some x → ClientAgrees s None b → IsFalse (has_due b)
      → Follows found s None b x
  begins s call x b is a none = by_test (is_free s) refl is
    where
      by_test : (t : Bool) → is_free s ≡ t → (if t then option_map made (open_call (ticked s (call_stamp s)) call) else None) ≡ Some x
          → Follows found s None b x
      by_test true free made_is =
          let now = free_of s b free a none in
          let nothing : s.pending ≡ waits_for.Nothing = idle_is s.pending (and_parts (is_idle s.pending) (not s.finished) free).0 in
          subst (λ (before : List Said). Holds before s.me b x) (sym (ap (λ p. said s p None) nothing))
          (law_of_made s.transcript s.me b (open_call (ticked s (call_stamp s)) call) x
          (opens (ticked s (call_stamp s)) b call (record {
            rank = now.rank;
            servers = now.servers;
            caused = now.caused;
            held = now.held;
            accepted = now.accepted;
            none = now.none;
            going = now.going;
          })) made_is)
      by_test false free made_is = absurd (cc)
