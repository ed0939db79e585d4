-- The rank begins a call: what it makes of the client, and that the client is ready for it.
use Rattle.std.proofs.Common.{◌≡◌, ℕ, ◌+◌, ◌≤◌, ◌&&◌, not, cond, Bool, true, false, List, [], ◌∷◌, ◌++◌, append-nil, length, Option, None}
use Rattle.std.proofs.Common.{Some}
use Rattle.std.proofs.Common.{is_none, is_some, refl, sym, ap, ◌∙◌, subst, arith}
use Rattle.std.specs.Prelude.{IsSome}
use Rattle.std.specs.Option.{option_map}
use Rattle.std.proofs.lemmas.Bool.{and_from, and_parts, le-leb, lt-ltb, not-true, not_from_false}
use Rattle.adlb_unit.specs.declared.configs.Config.{Config}
use Rattle.adlb_unit.specs.declared.names.CommonRef.{CommonRef}
use Rattle.adlb_unit.specs.declared.names.Target.{Target}
use Rattle.adlb_unit.specs.declared.names.Target.TheVariants.{Any, Only, Soft}
use Rattle.adlb_unit.specs.declared.names.UnitId.{UnitId}
use Rattle.adlb_unit.specs.declared.names.WorkType.{WorkType}
use Rattle.adlb_unit.specs.declared.notes.End.{End}
use Rattle.adlb_unit.specs.declared.notes.UnitNote.{UnitNote}
use Rattle.adlb_unit.specs.declared.units.Unit.{Unit}
use Rattle.adlb_unit.specs.Limits.{body_limit}
use Rattle.adlb_unit.specs.Targets.{Aims, in_ranks}
use Rattle.bag_ledger.specs.declared.entries.Answer.TheVariants as answers
use Rattle.bag_ledger.specs.declared.entries.Call.{Call}
use Rattle.bag_ledger.specs.declared.entries.Call.TheVariants as calls_to
use Rattle.rank_client.specs.declared.pendings.Pending.{Pending}
use Rattle.rank_client.specs.declared.pendings.Pending.TheVariants as waits_for
use Rattle.rank_client.specs.Answers.{CanCall, IsAnswer, answers_call, heeds_end}
use Rattle.rank_client.specs.Calls.{fetches, goes_on, is_fetched, is_finish, is_granted, is_open, plus}
use Rattle.rank_client.specs.Granted.{AreGranted, IsGrantedFirst}
use Rattle.rank_client.specs.Remembered.{AreHeld, IsFitting, IsTaken, Remembers, fetched_by, note_with, pending_call}
use Rattle.rank_client.specs.Rules.{ClientResponse, answered, call_of, close, count, fetch, finish, held, is_free, is_idle, keep, open_call}
use Rattle.rank_client.specs.Rules.{look, put, reserve, set_done, unit_put, waiting}
use Rattle.rank_client.specs.Says.{Tells}
use Rattle.rank_client.specs.State.{ClientModel}
use Rattle.rank_client.specs.Step.{Made, begin, call_stamp, made, ticked}
use Rattle.rank_client.proofs.OpenBatches.{not_some, some_of}
use Rattle.rank_client.proofs.Begins.{found_is, idle_is}
use Rattle.rank_client.proofs.Entries.{some_is}
use Rattle.rank_client.proofs.Granted.{if_is, map_is, open_keeps}
use Rattle.rank_client.proofs.Notes.{held_same, held_taken, others, taken}
use Rattle.rank_client.proofs.Telling.{ends_tells, first_none, made_tells, waits_tells}
use Rattle.rank_client.proofs.Transcripts.{first_end}

-- What a call makes of the client.

module _ (s : ClientModel) (r : Remembers s) (idle : s.pending ≡ waits_for.Nothing) (going : s.finished ≡ false) where
  abbrev t : ClientModel
  t = ticked s (call_stamp s)

  later : s.clock + 1 ≤ call_stamp s
  later = omega arith

  held_now : AreHeld s.transcript s.handles
  held_now = subst (AreHeld s.transcript) (ap (λ p. s.handles ++ fetched_by p) idle ∙ append-nil s.handles) r.held

  held_waiting : AreHeld s.transcript (s.handles ++ [])
  held_waiting = subst (AreHeld s.transcript) (sym (append-nil s.handles)) held_now

  abbrev Goes : Call → ClientResponse → Type 0
  Goes call z = IsGrantedFirst z.state → Tells s (call_stamp s) call z.answer z.state

  -- it is answered at once by the end that was told
  over_tells : (call : Call) (puts : ℕ) (end : End) → s.end ≡ Some end → is_finish call ≡ false
      → answers_call call (answers.Ended end) ≡ true
      → IsAnswer s.transcript call (answers.Ended end) → ((on : Bool) → on ≡ goes_on call (answers.Ended end) on)
      → ((id : UnitId) → fetches id call ≡ false)
      → AreGranted (plus s.transcript call (Some (answers.Ended end))) s.handles waits_for.Nothing
      → Tells s (call_stamp s) call (Some (answers.Ended end))
      (answered (waiting (record t { puts = puts }) waits_for.Nothing) call (answers.Ended end))
  over_tells call puts end told other kind known on none first =
      ends_tells s r going (call_stamp s) later call (s.next + 1) puts s.accepted s.end s.batch s.handles s.finished (answers.Ended end)
      (going ∙ sym other) (told ∙ sym (ap (λ o. first_end o (Some end)) told)) (on (is_some s.batch))
      (held_same s.transcript s.handles call (answers.Ended end) held_now (λ note is. absurd (cc)) none)
      (record { kind = kind; known = known; again = λ heeds. rw (r.told ∙ told) refl }) first

  -- it goes to a server
  asks_tells : (call : Call) (puts : ℕ) (p : Pending) → pending_call p ≡ Some call → fetched_by p ≡ []
      → AreGranted s.transcript s.handles p → IsFitting s.transcript s.handles p → (heeds_end call ≡ true → s.end ≡ None)
      → Tells s (call_stamp s) call None (waiting (record t { puts = puts }) p)
  asks_tells call puts p pending none first fits untold =
      waits_tells s r going (call_stamp s) later call p (s.next + 1) puts s.handles pending
      (subst (λ l. AreHeld s.transcript (s.handles ++ l)) (sym none) held_waiting) first fits untold

  put_tells : (unit : Unit) (end : Option End) → s.end ≡ end → Goes (call_of unit) (put t unit end)
  put_tells unit (Some end) told first =
      over_tells (call_of unit) (s.puts + 1) end told refl refl tt (λ on. refl) (λ id. refl) first
  put_tells unit None untold first = asks_tells (call_of unit) (s.puts + 1) _ refl refl first tt (λ heeds. untold)

  reserve_tells : (types : Option (List WorkType)) (end : Option End) → s.end ≡ end → Goes (calls_to.Reserve types) (reserve t types end)
  reserve_tells types (Some end) told first =
      over_tells (calls_to.Reserve types) s.puts end told refl refl tt (λ on. refl) (λ id. refl) first
  reserve_tells types None untold first = asks_tells (calls_to.Reserve types) s.puts _ refl refl first tt (λ heeds. untold)

  look_tells : (types : Option (List WorkType)) (end : Option End) → s.end ≡ end → Goes (calls_to.Try types) (look t types end)
  look_tells types (Some end) told first = over_tells (calls_to.Try types) s.puts end told refl refl tt (λ on. refl) (λ id. refl) first
  look_tells types None untold first = asks_tells (calls_to.Try types) s.puts _ refl refl first tt (λ heeds. untold)

  keep_tells : (common : List ℕ) (end : Option End) → s.end ≡ end → Goes (calls_to.BeginBatch common) (keep t common end)
  keep_tells common (Some end) told first =
      over_tells (calls_to.BeginBatch common) (s.puts + 1) end told refl refl tt (λ on. refl) (λ id. refl) first
  keep_tells common None untold first = asks_tells (calls_to.BeginBatch common) (s.puts + 1) _ refl refl first tt (λ heeds. untold)

  close_tells : (batch : Option CommonRef) (z : ClientResponse) → close t batch ≡ Some z → Goes calls_to.EndBatch z
  close_tells None z is = absurd (cc)
  close_tells (Some batch) z is =
      subst (Goes calls_to.EndBatch) (some_is is)
      (λ first. asks_tells calls_to.EndBatch s.puts (waits_for.Close s.next batch) refl refl first tt (λ heeds. absurd (cc)))

  fetch_tells : (id : UnitId) (found : Option UnitNote) (z : ClientResponse) → held t id ≡ found → fetch t id found ≡ Some z
      → Goes (calls_to.Fetch id) z
  fetch_tells id None z there is = absurd (cc)
  fetch_tells id (Some note) z there is =
      subst (Goes (calls_to.Fetch id)) (some_is is) (λ first. by_id id same there first)
    where
      same : note.id ≡ id
      same = (found_is (λ n. is_granted n.id s.transcript ≡ true) id s.handles note there r.first.held).0

      by_id : (i : UnitId) → note.id ≡ i → note_with i s.handles ≡ Some note
          → AreGranted s.transcript (others i s.handles) (waits_for.Fetch s.next note)
          → Tells s (call_stamp s) (calls_to.Fetch i) None
          (waiting (record t { handles = others i s.handles }) (waits_for.Fetch s.next note))
      by_id i is found first =
          let here : note_with note.id s.handles ≡ Some note = ap (λ j. note_with j s.handles) is ∙ found in
          let others_are : others note.id s.handles ≡ others i s.handles = ap (λ j. others j s.handles) is in
          waits_tells s r going (call_stamp s) later (calls_to.Fetch i) (waits_for.Fetch s.next note) (s.next + 1) s.puts
          (others i s.handles)
          (ap (λ j. Some (calls_to.Fetch j)) is)
          (subst (λ l. AreHeld s.transcript (l ++ note ∷ [])) others_are (held_taken s.transcript s.handles note held_now here))
          first
          (subst (λ l. IsTaken s.transcript l note) others_are (taken s.transcript s.handles note held_now here))
          (λ heeds. absurd (cc))

  count_tells : (kind : WorkType) → Goes (calls_to.Count kind) (count t kind)
  count_tells kind first =
      asks_tells (calls_to.Count kind) s.puts (waits_for.Count s.next kind) refl refl first tt (λ heeds. absurd (cc))

  done_tells : Goes calls_to.SetDone (set_done t)
  done_tells first =
      asks_tells calls_to.SetDone s.puts (waits_for.SetDone s.next 0) refl refl first tt (λ heeds. absurd (cc))

  finish_tells : Goes calls_to.Finish (finish t)
  finish_tells first =
      ends_tells s r going (call_stamp s) later calls_to.Finish (s.next + 1) s.puts s.accepted s.end s.batch s.handles true
      answers.Fine refl
      (first_none s.end) refl
      (held_same s.transcript s.handles calls_to.Finish answers.Fine held_now (λ note is. absurd (cc)) (λ id. refl))
      (record { kind = refl; known = tt; again = λ heeds. absurd (cc) }) first

  open_tells : (call : Call) (z : ClientResponse) → open_call t call ≡ Some z → Goes call z
  open_tells (calls_to.Put kind prio target answer body) z is =
      subst (Goes (calls_to.Put kind prio target answer body)) (if_is _ _ z is)
      (put_tells (unit_put t kind prio target answer body) s.end refl)
  open_tells (calls_to.Reserve types) z is = subst (Goes (calls_to.Reserve types)) (some_is is) (reserve_tells types s.end refl)
  open_tells (calls_to.Try types) z is = subst (Goes (calls_to.Try types)) (some_is is) (look_tells types s.end refl)
  open_tells (calls_to.Fetch id) z is = fetch_tells id (held t id) z refl is
  open_tells (calls_to.BeginBatch common) z is =
      subst (Goes (calls_to.BeginBatch common)) (if_is _ _ z is) (keep_tells common s.end refl)
  open_tells calls_to.EndBatch z is = close_tells s.batch z is
  open_tells (calls_to.Count kind) z is = subst (Goes (calls_to.Count kind)) (some_is is) (count_tells kind)
  open_tells calls_to.Finish z is = subst (Goes calls_to.Finish) (if_is _ _ z is) finish_tells
  open_tells calls_to.SetDone z is = subst (Goes calls_to.SetDone) (some_is is) done_tells

pub call_tells : (s : ClientModel) (call : Call) (x : Made) → begin s call ≡ Some x → Remembers s
    → Tells s (call_stamp s) call x.answer x.state
call_tells s call x is r = by_free (is_free s) refl is
  where
    by_free : (free : Bool) → is_free s ≡ free → cond free (option_map made (open_call (ticked s (call_stamp s)) call)) None ≡ Some x
        → Tells s (call_stamp s) call x.answer x.state
    by_free false none gave = absurd (cc)
    by_free true free gave =
        let parts = and_parts (is_idle s.pending) (not s.finished) free in
        let y = map_is made (open_call (ticked s (call_stamp s)) call) x gave in
        subst (λ (m : Made). Tells s (call_stamp s) call m.answer m.state) y.2
        (made_tells s (call_stamp s) call y.0
        (open_tells s r (idle_is s.pending parts.0) (not-true s.finished parts.1) call y.0 y.1
        (open_keeps (ticked s (call_stamp s)) call y.0 y.1 r.first)))

-- The client is ready for each call that its rank can make.

aims_in : (config : Config) (target : Target) → Aims target config.ranks → in_ranks config target ≡ true
aims_in config Any aims = refl
aims_in config (Only rank) aims = lt-ltb rank.0 config.ranks aims
aims_in config (Soft rank) aims = lt-ltb rank.0 config.ranks aims

some_made : (o : Option ClientResponse) → IsSome o → IsSome (option_map made o)
some_made None is = absurd (cc)
some_made (Some z) is = refl

some_when : {X : Type 0} (b : Bool) (x : X) → b ≡ true → IsSome (cond b (Some x) None)
some_when true x is = refl
some_when false x is = absurd (cc)

module _ (s : ClientModel) (r : Remembers s) (idle : s.pending ≡ waits_for.Nothing) (going : s.finished ≡ false) where
  abbrev later_s : ClientModel
  later_s = ticked s (call_stamp s)

  closed_is : is_open s.transcript ≡ false → is_none s.batch ≡ true
  closed_is closed = ap is_none (not_some s.batch (r.opened ∙ closed))

  opens : (call : Call) → CanCall s.config.ranks s.config.servers s.transcript call → IsSome (open_call later_s call)
  opens (calls_to.Put kind prio target answer body) can =
      some_when _ _ (and_from _ _ (le-leb (length body) body_limit can.0) (aims_in s.config target can.1))
  opens (calls_to.Reserve types) can = refl
  opens (calls_to.Try types) can = refl
  opens (calls_to.Fetch id) can =
      let note : UnitNote = can.0 in
      let unfetched : is_fetched note.id s.transcript ≡ false = ap (λ i. is_fetched i s.transcript) can.2 ∙ can.3 in
      let found : held later_s id ≡ Some note =
      ap (λ i. note_with i s.handles) (sym can.2) ∙ (held_now s r idle going note).1 (can.1, unfetched) in
      subst (λ (o : Option UnitNote). IsSome (fetch later_s id o)) (sym found) refl
  opens (calls_to.BeginBatch common) can =
      some_when _ _ (and_from _ _ (closed_is can.1) (le-leb (length common) body_limit can.0))
  opens calls_to.EndBatch can =
      let batch = some_of s.batch (r.opened ∙ can) in
      subst (λ (o : Option CommonRef). IsSome (close later_s o)) (sym batch.1) refl
  opens (calls_to.Count kind) can = refl
  opens calls_to.Finish can = some_when _ _ (closed_is can)
  opens calls_to.SetDone can = refl

  pub is_ready : (call : Call) → CanCall s.config.ranks s.config.servers s.transcript call → IsSome (begin s call)
  is_ready call can =
      let free : (is_idle s.pending && not s.finished) ≡ true = and_from _ _ (ap is_idle idle) (not_from_false s.finished going) in
      subst (λ (b : Bool). IsSome (cond b (option_map made (open_call later_s call)) None)) (sym free)
      (some_made (open_call later_s call) (opens call can))
