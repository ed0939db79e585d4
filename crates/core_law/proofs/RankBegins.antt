-- What a rank does where it begins a call.
use Rattle.core_law.proofs.Notes.{notes_same}
use Rattle.rank_client.proofs.Begins.{found_is}
use Rattle.rank_client.specs.Agreement.{holds}
use Rattle.std.proofs.Common.{◌≡◌, ◌≤◌, ◌<◌, ℕ, zero, suc, ◌+◌, ◌^◌, ◌%◌, Bool, true, false, ◌&&◌, not, List, [], length, map, filter}
use Rattle.std.proofs.Common.{Option, Some, None, refl, sym, ap, ◌∙◌, subst, arith, ℤ}
use Rattle.std.specs.Prelude.{All, is_none, nat_le, Contains}
use Rattle.std.specs.List.{range_with_len}
use Rattle.std.proofs.lemmas.Bool.{and_parts, leb-true, not-true}
use Rattle.std.proofs.lemmas.List.Elements.{All-filter, All-push, All-weaker, filter_passes, All-contains_itself}
use Rattle.std.proofs.lemmas.Nat.{mod_below}
use Rattle.std.proofs.Math.Nat.{mod-eq_of_lt}
use Rattle.adlb_unit.specs.Targets.{in_ranks, home}
use Rattle.adlb_unit.specs.Ids.{same_unit}
use Rattle.adlb_unit.specs.declared.actors.Actor.{Actor}
use Rattle.adlb_unit.specs.declared.actors.Actor.TheVariants as by
use Rattle.adlb_unit.specs.declared.configs.Config.{Config}
use Rattle.adlb_unit.specs.declared.letters.Sending.{Sending}
use Rattle.adlb_unit.specs.declared.messages.Message.{Message}
use Rattle.adlb_unit.specs.declared.messages.Message.TheVariants as tells
use Rattle.adlb_unit.specs.declared.names.CommonRef.{CommonRef}
use Rattle.adlb_unit.specs.declared.names.Rank.{Rank}
use Rattle.adlb_unit.specs.declared.names.Server.{Server}
use Rattle.adlb_unit.specs.declared.names.Target.{Target}
use Rattle.adlb_unit.specs.declared.names.Target.TheVariants.{Any, Only, Soft}
use Rattle.adlb_unit.specs.declared.names.UnitId.{UnitId}
use Rattle.adlb_unit.specs.declared.names.WorkType.{WorkType}
use Rattle.adlb_unit.specs.declared.notes.End.{End}
use Rattle.adlb_unit.specs.declared.notes.UnitNote.{UnitNote}
use Rattle.bag_ledger.specs.declared.entries.Call.{Call}
use Rattle.bag_ledger.specs.declared.entries.Call.TheVariants as calls_to
use Rattle.bag_ledger.specs.declared.entries.Entry.{Entry}
use Rattle.rank_client.specs.declared.pendings.Pending.{Pending}
use Rattle.rank_client.specs.declared.pendings.Pending.TheVariants as waits_for
use Rattle.rank_client.specs.Rules.{ClientResponse, ClientSaying, asked, asks, close, count, farewell, fetch, finish, first_server, held}
use Rattle.rank_client.specs.Rules.{is_free, is_idle, keep, look, looks_at, open_call, over, put, reserve, set_done, unit_put}
use Rattle.rank_client.specs.State.{ClientModel}
use Rattle.adlb_unit.specs.Ring.{behind}
use Rattle.rank_client.specs.Step.{Made, begin, call_stamp, made, ticked}
use Rattle.core_law.specs.Lawful.{IsAsked}
use Rattle.core_law.specs.OnLinks.{Each}
use Rattle.core_law.specs.Measures.{weigh}
use Rattle.core_law.specs.Own.{IsAt, IsCall, IsClient, IsNote}
use Rattle.core_run.specs.World.{server_named}
use Rattle.core_law.proofs.StepResults.{OnSome, if_some, mapped_some}
use Rattle.core_law.proofs.Posts.{lettered, requests_each, requests_entries, requests_sends, requests_state, requests_weight}
use Rattle.core_law.proofs.UnderWay.{each_weaker}
use Rattle.core_law.proofs.RankShapes.{Began, ChangesRank, IsFarewell, It_asks, It_leaves, It_rests, asked_busy, asked_number}
use Rattle.core_law.proofs.RankShapes.{asked_request}

idle_is : (p : Pending) → is_idle p ≡ true → p ≡ waits_for.Nothing
idle_is waits_for.Nothing e = refl
idle_is (waits_for.Put unit first tried) e = absurd (cc)
idle_is (waits_for.Reserve request types) e = absurd (cc)
idle_is (waits_for.Try request types tried) e = absurd (cc)
idle_is (waits_for.Fetch request note) e = absurd (cc)
idle_is (waits_for.Common request note common own) e = absurd (cc)
idle_is (waits_for.Keep request common first tried) e = absurd (cc)
idle_is (waits_for.Close request batch) e = absurd (cc)
idle_is (waits_for.Count request kind) e = absurd (cc)
idle_is (waits_for.SetDone request tried) e = absurd (cc)

none_is : {X : Type 0} (o : Option X) → is_none o ≡ true → o ≡ None
none_is None e = refl
none_is (Some x) e = absurd (cc)

first_within : (s : ClientModel) (target : Target) → (first_server s target).0 < s.config.servers
first_within s Any = let some : 0 < s.config.servers = s.config.servers_within.0 in mod_below _ s.config.servers some
first_within s (Only rank) = let some : 0 < s.config.servers = s.config.servers_within.0 in mod_below rank.0 s.config.servers some
first_within s (Soft rank) = let some : 0 < s.config.servers = s.config.servers_within.0 in mod_below rank.0 s.config.servers some

first_is : (s : ClientModel) (target : Target) → first_server s target ≡ behind s.config (first_server s target) 0
first_is s target =
    let n = s.config.servers in
    let f = first_server s target in
    let same : f.0 + 0 ≡ f.0 = omega arith in
    let whole : (f.0 + 0) % n ≡ f.0 = ap (λ k. k % n) same ∙ mod-eq_of_lt (first_within s target) in
    ap server_named (sym whole)

farewells : (n from servers : ℕ) → from + n ≤ servers → (P : Actor → Message → Type 0)
    → ((to : Server) → to.0 < servers → P (by.Server to) tells.Finish)
    → Each (λ (y : ClientSaying). P (by.Server y.to) y.message) (map farewell (range_with_len from n))
farewells zero from servers within P each = tt
farewells (suc n) from servers within P each =
    (each (server_named from) (omega arith), farewells n (from + 1) servers (omega arith) P each)

-- a message of Finish to a server of the run
abbrev Leaves : Config → Actor → Message → Type 0
Leaves run a m = (to : Server) × (a ≡ by.Server to) × (to.0 < run.servers) × (m ≡ tells.Finish)

-- A rank that waits for nothing and has not finished, in an event of this stamp.
module _ (run : Config) (me : Rank) (s : ClientModel) (own : IsClient run me s) (stamp : ℕ) (later : s.clock < stamp)
    (free : s.pending ≡ waits_for.Nothing) (going : s.finished ≡ false) where
  abbrev now : ClientModel
  now = ticked s stamp

  -- it begins nothing, or what a step says
  abbrev Opens : Option ClientResponse → Type 0
  Opens o = OnSome o (λ z. Began run me s (made z))

  -- the call is answered at once
  over_opens : (puts : ℕ) (e : Entry) (call : Call) (end : End) → ChangesRank s.me e
      → Began run me s (made (over (record now { puts = puts }) e call end))
  over_opens puts e call end changes = record {
    free = free;
    going = going;
    config = own.config;
    next = refl;
    own = record { config = own.config; me = own.me; call = tt; rests = λ is. refl; batch = own.batch; notes = own.notes };
    entries = (changes, ((refl, λ b. (_, _, refl, λ is. is)), tt));
    notes = notes_same s.handles;
    made = record { rule = over (record now { puts = puts }) e call end; is = refl; sent = refl; later = later };
    after = It_rests (record { pending = refl; finished = going; sends = refl });
  }

  -- or a server is asked
  abbrev asking : ℕ → List UnitNote → Entry → Server → Message → Pending → Made
  asking puts handles e to m p = made (asks (record now { puts = puts; handles = handles }) e to m p)

  asks_opens : (puts : ℕ) (handles : List UnitNote) (e : Entry) (to : Server) (m : Message) (p : Pending) → ChangesRank s.me e
      → IsAsked (asking puts handles e to m p).state p to m → IsCall (asking puts handles e to m p).state p → to.0 < s.config.servers
      → All (IsNote s.config) handles → All (Contains s.handles) (holds (asking puts handles e to m p).state None)
      → Began run me s (asking puts handles e to m p)
  asks_opens puts handles e to m p changes asked call within held notes = record {
    free = free;
    going = going;
    config = own.config;
    next = refl;
    own = record { config = own.config; me = own.me; call = call; rests = λ is. absurd (cc (is, going)); batch = own.batch; notes = held };
    entries = (changes, tt);
    notes = notes;
    made = record { rule = asks (record now { puts = puts; handles = handles }) e to m p; is = refl; sent = refl; later = later };
    after = It_asks (record {
      to = to;
      letter = _;
      asked = asked;
      request = asked_request (asking puts handles e to m p).state p to m asked;
      number = asked_number (asking puts handles e to m p).state p to m call asked;
      busy = asked_busy (asking puts handles e to m p).state p to m asked;
      within = within;
      finished = going;
      sends = refl;
    });
  }

  put_opens : (kind : WorkType) (prio : ℤ) (target : Target) (answer : Option Rank) (body : List ℕ) (end : Option End)
      → length body ≤ 2 ^ 20 → in_ranks s.config target ≡ true
      → Began run me s (made (put now (unit_put now kind prio target answer body) end))
  put_opens kind prio target answer body (Some end) size aim = over_opens (s.puts + 1) _ _ end (refl, λ b. (_, _, refl, λ is. is))
  put_opens kind prio target answer body None size aim =
      asks_opens (s.puts + 1) s.handles _ (first_server s target) _ _ (refl, λ b. (_, _, refl, λ is. is)) (refl, first_is s target)
      (record { rank = refl; call = refl; batch = refl; size = size; target = aim }, s.config.servers_within.0)
      (first_within s target) own.notes (notes_same s.handles)

  reserve_opens : (types : Option (List WorkType)) (end : Option End) → Began run me s (made (reserve now types end))
  reserve_opens types (Some end) = over_opens s.puts _ _ end (refl, λ b. (_, _, refl, λ is. is))
  reserve_opens types None =
      let some : 0 < s.config.servers = s.config.servers_within.0 in
      asks_opens s.puts s.handles _ (home s.config s.me) _ _ (refl, λ b. (_, _, refl, λ is. is)) (refl, refl) refl
      (mod_below s.me.0 s.config.servers some) own.notes (notes_same s.handles)

  look_opens : (types : Option (List WorkType)) (end : Option End) → Began run me s (made (look now types end))
  look_opens types (Some end) = over_opens s.puts _ _ end (refl, λ b. (_, _, refl, λ is. is))
  look_opens types None =
      let some : 0 < s.config.servers = s.config.servers_within.0 in
      asks_opens s.puts s.handles _ (looks_at s 0) _ _ (refl, λ b. (_, _, refl, λ is. is)) (refl, refl) (refl, some)
      (mod_below ((home s.config s.me).0 + 0) s.config.servers some) own.notes (notes_same s.handles)

  fetch_opens : (id : UnitId) (o : Option UnitNote) → held s id ≡ o → Opens (fetch now id o)
  fetch_opens id None is = tt
  fetch_opens id (Some note) is =
      let others : UnitNote → Bool = λ n. not (same_unit n.id id) in
      let found = found_is (IsNote s.config) id s.handles note is own.notes in
      let left = All-weaker (λ (n : UnitNote). others n ≡ true) (λ (n : UnitNote). same_unit n.id note.id ≡ false)
      (λ n e. rw found.0 (not-true (same_unit n.id id) e)) (filter others s.handles) (filter_passes others s.handles) in
      let all = All-contains_itself s.handles in
      let kept = All-push (Contains s.handles) (filter others s.handles) note (All-filter others (Contains s.handles) s.handles all)
      (found_is (Contains s.handles) id s.handles note is all).1 in
      asks_opens s.puts (filter others s.handles) _ note.server _ _ (refl, λ b. (_, _, refl, λ is. is))
      (ap (λ i. tells.Fetch s.next i) (sym found.0), refl)
      (refl, found.1, left) found.1.there (All-filter others (IsNote s.config) s.handles own.notes) kept

  keep_opens : (common : List ℕ) (end : Option End) → s.batch ≡ None → length common ≤ 2 ^ 20
      → Began run me s (made (keep now common end))
  keep_opens common (Some end) alone size = over_opens (s.puts + 1) _ _ end (refl, λ b. (_, _, refl, λ is. is))
  keep_opens common None alone size =
      asks_opens (s.puts + 1) s.handles _ (first_server s Any) _ _ (refl, λ b. (_, _, refl, λ is. is)) (refl, first_is s Any)
      (refl, alone, size, s.config.servers_within.0) (first_within s Any) own.notes (notes_same s.handles)

  close_opens : (o : Option CommonRef) → s.batch ≡ o → Opens (close now o)
  close_opens None is = tt
  close_opens (Some batch) is =
      let there : batch.server.0 < s.config.servers = subst (IsAt s.config) is own.batch in
      asks_opens s.puts s.handles _ batch.server _ _ (refl, λ b. (_, _, refl, λ is. is)) (refl, refl) (refl, is) there own.notes
      (notes_same s.handles)

  count_opens : (kind : WorkType) → Began run me s (made (count now kind))
  count_opens kind =
      let some : 0 < s.config.servers = s.config.servers_within.0 in
      asks_opens s.puts s.handles _ (home s.config s.me) _ _ (refl, λ b. (_, _, refl, λ is. is)) (refl, refl) refl
      (mod_below s.me.0 s.config.servers some) own.notes (notes_same s.handles)

  done_opens : Began run me s (made (set_done now))
  done_opens =
      let some : 0 < s.config.servers = s.config.servers_within.0 in
      asks_opens s.puts s.handles _ (looks_at s 0) _ _ (refl, λ b. (_, _, refl, λ is. refl)) (refl, refl) (refl, some)
      (mod_below ((home s.config s.me).0 + 0) s.config.servers some) own.notes (notes_same s.handles)

  finish_opens : Began run me s (made (finish now))
  finish_opens =
      let z = finish now in
      let x : Made = record { state = z.state; sends = []; entries = z.entries; answer = z.answer } in
      let state = requests_state z.says x in
      let sends : (made z).sends ≡ lettered z.state z.says = requests_sends z.says x in
      let all = requests_each (Leaves s.config) z.state z.says
      (farewells s.config.servers 0 s.config.servers (omega arith) (Leaves s.config) (λ to within. (to, refl, within, refl))) in
      let each = each_weaker (λ (y : Sending). Leaves s.config y.to y.letter.message) (IsFarewell s.config)
      (λ y l. record { to = l.0; is = l.1; within = l.2; message = l.3 }) (lettered z.state z.says) all in
      record {
        free = free;
        going = going;
        config = own.config;
        next = ap (λ (t : ClientModel). t.next) state;
        entries = rw (requests_entries z.says x) ((refl, λ b. (_, _, refl, λ is. is)), tt);
        notes = rw state (notes_same s.handles);
        own = rw state (record { config = own.config; me = own.me; call = tt; rests = λ is. refl; batch = own.batch; notes = own.notes });
        made = record { rule = z; is = refl; sent = refl; later = later };
        after = It_leaves (record {
          pending = ap (λ (t : ClientModel). t.pending) state;
          finished = ap (λ (t : ClientModel). t.finished) state;
          weight = λ f. ap (weigh (λ (y : Sending). f y.to y.letter.message)) sends ∙ requests_weight f z.state z.says;
          each = subst (Each (IsFarewell s.config)) (sym sends) each;
        });
      }

  call_opens : (call : Call) → Opens (open_call now call)
  call_opens (calls_to.Put kind prio target answer body) =
      if_some (λ z. Began run me s (made z)) (nat_le (length body) (2 ^ 20) && in_ranks s.config target) _
      (λ is. let parts = and_parts (nat_le (length body) (2 ^ 20)) (in_ranks s.config target) is in
      put_opens kind prio target answer body s.end (leb-true (length body) (2 ^ 20) parts.0) parts.1)
  call_opens (calls_to.Reserve types) = reserve_opens types s.end
  call_opens (calls_to.Try types) = look_opens types s.end
  call_opens (calls_to.Fetch id) = fetch_opens id (held s id) refl
  call_opens (calls_to.BeginBatch common) =
      if_some (λ z. Began run me s (made z)) (is_none s.batch && nat_le (length common) (2 ^ 20)) _
      (λ is. let parts = and_parts (is_none s.batch) (nat_le (length common) (2 ^ 20)) is in
      keep_opens common s.end (none_is s.batch parts.0) (leb-true (length common) (2 ^ 20) parts.1))
  call_opens calls_to.EndBatch = close_opens s.batch refl
  call_opens (calls_to.Count kind) = count_opens kind
  call_opens calls_to.Finish = if_some (λ z. Began run me s (made z)) (is_none s.batch) _ (λ is. finish_opens)
  call_opens calls_to.SetDone = done_opens

-- the beginning of a call changes a client as its rule says
pub begins : (run : Config) (me : Rank) (s : ClientModel) (call : Call) → IsClient run me s → OnSome (begin s call) (Began run me s)
begins run me s call own =
    if_some (Began run me s) (is_free s) _
    (λ is. let tests = and_parts (is_idle s.pending) (not s.finished) is in
    mapped_some (Began run me s) made (open_call (ticked s (call_stamp s)) call)
    (call_opens run me s own (s.clock + 1) (omega arith) (idle_is s.pending tests.0) (not-true s.finished tests.1) call))
