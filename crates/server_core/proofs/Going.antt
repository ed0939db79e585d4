-- Acts after acts, with what was sent and entered before.
use Rattle.std.proofs.Common.{◌≡◌, ◌≤◌, ◌+◌, ◌==◌, ℕ, Bool, true, false, not, cond, ◌&&◌, List, [], ◌∷◌, ◌++◌, All, append-nil, filter}
use Rattle.std.proofs.Common.{find, length, Option, None, Some, IsSome, refl, sym, ap, ◌∙◌, subst, arith, length-append}
use Rattle.std.specs.Prelude.{nat_lt}
use Rattle.std.specs.Option.{option_map}
use Rattle.std.proofs.lemmas.List.{length-map}
use Rattle.std.proofs.lemmas.List.Elements.{All-contains}
use Rattle.std.proofs.lemmas.List.Filters.{length-filter_both}
use Rattle.adlb_unit.specs.Limits.{stamp_limit}
use Rattle.adlb_unit.specs.Links.{is_within}
use Rattle.adlb_unit.specs.Ring.{others}
use Rattle.adlb_unit.specs.declared.actors.Actor.{Actor}
use Rattle.adlb_unit.specs.declared.actors.Actor.TheVariants as by
use Rattle.adlb_unit.specs.declared.letters.Letter.{Letter}
use Rattle.adlb_unit.specs.declared.messages.Message.{Message}
use Rattle.adlb_unit.specs.declared.messages.Message.TheVariants as tells
use Rattle.adlb_unit.specs.declared.names.BatchId.{BatchId}
use Rattle.adlb_unit.specs.declared.names.Rank.{Rank}
use Rattle.adlb_unit.specs.declared.names.Server.{Server}
use Rattle.adlb_unit.specs.declared.names.UnitId.{UnitId}
use Rattle.adlb_unit.specs.declared.names.WorkType.{WorkType}
use Rattle.server_components.specs.Store.{part_in}
use Rattle.server_components.specs.declared.parts.Part.{Part}
use Rattle.bag_ledger.specs.declared.entries.Entry.{Entry}
use Rattle.bag_ledger.proofs.Tests.{some_is}
use Rattle.work_queue.specs.Queue.{HasPinned, Queue, id_of}
use Rattle.work_queue.specs.declared.placing.Placed.{Placed}
use Rattle.server_components.specs.Calls.{after_ask, after_none, asking, asks_next, gone, hears_of, hinted, is_since, reserved, turned, wished}
use Rattle.server_components.specs.Grants.{best_for, pinned_to}
use Rattle.server_components.specs.Parked.{Parked, is_by, is_of}
use Rattle.server_components.specs.declared.wishes.Wish.{Wish}
use Rattle.server_law.specs.Acts.{Act, Around, Asks_on, Closes, Fetches, ServerSaying, does, entries, says, to_server, unwished}
use Rattle.server_law.specs.Batches.{can_close, close, close_rule, part_if}
use Rattle.server_law.specs.Endings.{checks, ends_event, notices}
use Rattle.server_law.specs.Expected.{IsAwaitedFrom}
use Rattle.server_law.specs.Fetches.{fetch}
use Rattle.server_law.specs.Finding.{is_pinned_as}
use Rattle.server_law.specs.Step.{acts, at_event, rule, serve, server_rule}
use Rattle.server_law.specs.Carried.{Served, all_done, carried, counted, done, posted}
use Rattle.server_law.specs.Plan.{Decider, Plan, decided, in_order, plan}
use Rattle.server_law.specs.State.{ServerModel}
use Rattle.server_law.proofs.Carrying.{decided_carried, followed, followed_by, followed_more, followed_none, with_act}
use Rattle.server_law.proofs.Expected.{server_rule_awaited}
use Rattle.server_law.proofs.Found.{pinned_is, pinned_there}
use Rattle.server_core.specs.Out.{HasRoom, Out, going_on, made, nothing, planned, with_answer, with_letter}
use Rattle.server_core.specs.inside.{parked_of}
use Rattle.server_core.specs.Waits.{asked, heard, looked, offered, pinning, released, sought, told_ask, with_parked}

-- no act
pub goes_nowhere : (out : Out) (s : ServerModel) → made s out ≡ going_on out [] s
goes_nowhere out s = sym (followed_none (made s out))

-- what was sent and entered, by its parts
pub made_as : {s t : ServerModel} {out end : Out} → t ≡ s → end ≡ out → made t end ≡ made s out
made_as {s} {t} {out} {end} same told = ap (λ u. made u end) same ∙ ap (made s) told

-- deciders after others
followed_by-append : (ds es : List Decider) (x : Served) → followed_by x (ds ++ es) ≡ followed_by (followed_by x ds) es
followed_by-append [] es x = refl
followed_by-append (d ∷ ds) es x = followed_by-append ds es (followed x (d x.state))

-- what the plan says, and then what comes last
pub goes_on : (last : List Decider) (p : Plan) (s t u : ServerModel) (out mid end : Out)
    → made t mid ≡ planned out p s → made u end ≡ going_on mid (decided last t) t
    → made u end ≡ going_on out (in_order last s p) s
goes_on last p s t u out mid end first then =
    let x = made s out in
    let y = with_act x p.first in
    let follow = p.follow ++ last in
    let before = first ∙ followed_more x p.first (decided p.follow y.state) ∙ decided_carried p.follow y in
    then
    ∙ decided_carried last (made t mid)
    ∙ ap (λ z. followed_by z last) before
    ∙ sym (followed_by-append p.follow last y)
    ∙ sym (decided_carried follow y)
    ∙ sym (followed_more x p.first (decided follow y.state))

-- one decider decides what is done
pub decides : (d : Decider) (s t : ServerModel) (out end : Out) → made t end ≡ going_on out (d s) s
    → made t end ≡ going_on out (decided (d ∷ []) s) s
decides d s t out end goes = goes ∙ ap (λ l. going_on out l s) (sym (append-nil (d s)))

-- notice is given, and then a check may start
pub ends_goes : (s t u : ServerModel) (out mid end : Out) → made t mid ≡ going_on out (notices s) s → made u end ≡ going_on mid (checks t) t
    → made u end ≡ going_on out (decided ends_event s) s
ends_goes s t u out mid end first then =
    then ∙ ap (λ (z : Served). followed z (checks z.state)) first ∙ sym (decided_carried ends_event (made s out))

-- so a letter is handled
pub handled_goes : (s t u : ServerModel) (out mid end : Out) (from : Actor) (message : Message) (p : Plan) → rule s from message ≡ Some p
    → made t mid ≡ planned out p s → made u end ≡ going_on mid (decided ends_event t) t
    → option_map (λ list. going_on out list s) (acts s from message) ≡ Some (made u end)
handled_goes s t u out mid end from message p is first then =
    ap (λ r. option_map (λ list. going_on out list s) (option_map (in_order ends_event s) r)) is
    ∙ ap (λ x. Some x) (sym (goes_on ends_event p s t u out mid end first then))

-- a letter that is expected is served so
pub serves : (s t u : ServerModel) (out : Out) (room : ℕ) (from : Actor) (letter : Letter) → IsSome (serve s from letter)
    → t ≡ at_event s letter
    → option_map (λ list. going_on (nothing room) list t) (acts t from letter.message) ≡ Some (made u out)
    → serve s from letter ≡ Some (made u out)
serves s t u out room from letter some now goes =
    tested_is (is_within s.config from && nat_lt letter.stamp stamp_limit) some
    ∙ ap (λ v. option_map (λ list. going_on (nothing room) list v) (acts v from letter.message)) (sym now) ∙ goes
  where
    tested_is : {X : Type 0} {o : Option X} (b : Bool) → IsSome (cond b o None) → cond b o None ≡ o
    tested_is true some = refl
    tested_is false some = absurd (cc)

-- and has a rule
pub serve_rule : (s : ServerModel) (from : Actor) (letter : Letter) → IsSome (serve s from letter)
    → IsSome (rule (at_event s letter) from letter.message)
serve_rule s from letter some =
    by_test (is_within s.config from && nat_lt letter.stamp stamp_limit) (rule (at_event s letter) from letter.message) some
  where
    by_test : (b : Bool) (o : Option Plan)
        → IsSome (cond b (option_map (λ l. carried l (at_event s letter)) (option_map (in_order ends_event (at_event s letter)) o)) None)
        → IsSome o
    by_test true None some = absurd (cc)
    by_test true (Some p) some = refl
    by_test false o some = absurd (cc)

-- the rule of another server's letter
pub rule_apart : (s : ServerModel) (from : Server) (message : Message) → IsSome (rule s (by.Server from) message)
    → (from.0 == s.me.0) ≡ false
rule_apart s from message some = by_test (from.0 == s.me.0) some
  where
    by_test : (t : Bool) → IsSome (cond t None (server_rule s from message)) → t ≡ false
    by_test true some = absurd (cc)
    by_test false some = refl

-- what it was expected by
pub server_awaited : (s : ServerModel) (from : Server) (message : Message) → IsSome (rule s (by.Server from) message)
    → IsAwaitedFrom s from message
server_awaited s from message some =
    (server_rule_awaited s from message).0
    (subst (λ t. IsSome (cond t None (server_rule s from message))) (rule_apart s from message some) some)

-- what a rule with a test does
pub plan_if : (b : Bool) (first : Act) (follow : List Decider) (s : ServerModel) (out : Out) (x : Served)
    → x ≡ planned out (record { first = first; follow = follow }) s
    → (p : Plan) → cond b (plan first follow) None ≡ Some p → x ≡ planned out p s
plan_if true first follow s out x made_is p is = subst (λ q. x ≡ planned out q s) (some_is is) made_is
plan_if false first follow s out x made_is p is = absurd (cc)

-- likewise with one decider
pub plan_one : (first : Act) (d : Decider) (s : ServerModel) (out : Out)
    → planned out (record { first = first; follow = d ∷ [] }) s ≡ going_on out (first ∷ d (done first s)) s
plan_one first d s out = ap (λ l. going_on out (first ∷ l) s) (append-nil (d (done first s)))

-- and with two
pub plan_two : (first : Act) (d e : Decider) (s : ServerModel) (out : Out) (l m : List Act) → d (done first s) ≡ l
    → e (all_done l (done first s)) ≡ m → planned out (record { first = first; follow = d ∷ e ∷ [] }) s ≡ going_on out (first ∷ (l ++ m)) s
plan_two first d e s out l m one two =
    ap (λ k. going_on out (first ∷ (k ++ (e (all_done k (done first s)) ++ []))) s) one
    ∙ ap (λ k. going_on out (first ∷ (l ++ k)) s) (append-nil (e (all_done l (done first s))) ∙ two)

-- what a fetch makes is its plan
pub fetch_goes : (s : ServerModel) (out : Out) (from : Rank) (request : ℕ) (id : UnitId) (x : Served)
    → HasPinned id from s.kept.queue.units
    → All (λ p. id_of p ≡ id → x ≡ going_on out (Fetches from request id p.unit ∷ []) s) s.kept.queue.units
    → (q : Plan) → fetch from request id (find (is_pinned_as id from) s.kept.queue.units) ≡ Some q → x ≡ planned out q s
fetch_goes s out from request id x pinned goes q is =
    let p = pinned_there id from s.kept.queue.units pinned in
    let u = pinned_is id from s.kept.queue.units p.0 p.1 in
    let G : Placed → Type 0 = λ u. id_of u ≡ id → x ≡ going_on out (Fetches from request id u.unit ∷ []) s in
    subst (λ r. x ≡ planned out r s) (some_is (sym (ap (fetch from request id) p.1) ∙ is))
    (All-contains G s.kept.queue.units p.0 goes u.2 u.0)

-- what a batch that ends makes is its plan
pub close_goes : (s : ServerModel) (out : Out) (from : Rank) (request : ℕ) (batch : BatchId) (accepted : ℕ) (x : Served)
    → ((p : Part) → part_in s.kept.parts batch ≡ Some p → x ≡ going_on out (Closes request batch accepted p ∷ []) s)
    → (q : Plan) → close_rule s from request batch accepted ≡ Some q → x ≡ planned out q s
close_goes s out from request batch accepted x goes = by_part (part_in s.kept.parts batch) goes
  where
    by_part : (o : Option Part) → ((p : Part) → o ≡ Some p → x ≡ going_on out (Closes request batch accepted p ∷ []) s)
        → (q : Plan) → close request batch accepted (part_if (can_close from batch accepted s.kept.queue.common) o) ≡ Some q
        → x ≡ planned out q s
    by_part None goes q is = absurd (cc)
    by_part (Some p) goes q is = by_test (can_close from batch accepted s.kept.queue.common p) (goes p refl) q is
      where
        by_test : (t : Bool) → x ≡ going_on out (Closes request batch accepted p ∷ []) s
            → (q : Plan) → close request batch accepted (cond t (Some p) None) ≡ Some q → x ≡ planned out q s
        by_test true goes q is = subst (λ r. x ≡ planned out r s) (some_is is) goes
        by_test false goes q is = absurd (cc)

-- Acts that say one thing at most.

module _ (a : Act) (more : List Act) (s : ServerModel) (out : Out) where
  -- an act that says and enters nothing only changes the server
  pub silent : says a s ≡ [] → entries a s ≡ [] → going_on out (a ∷ more) s ≡ going_on out more (does a s)
  silent nothing none =
      let one : with_act (made s out) a ≡ made (does a s) out = rw (nothing, none, append-nil out.sends, append-nil out.entries) refl in
      followed_more (made s out) a more ∙ ap (λ x. followed x more) one

  -- an act that says one thing sends that letter
  pub says_one : (x : ServerSaying) → says a s ≡ x ∷ [] → entries a s ≡ []
      → going_on out (a ∷ more) s ≡ going_on (with_letter out (posted (does a s) x)) more (counted (does a s) x.to)
  says_one x one none =
      let letter = with_letter out (posted (does a s) x) in
      let act : with_act (made s out) a ≡ made (counted (does a s) x.to) letter = rw (one, none, append-nil out.entries) refl in
      followed_more (made s out) a more ∙ ap (λ y. followed y more) act

  -- an act that says one thing and enters one sends that letter and entry
  pub answers_one : (x : ServerSaying) (e : Entry) → says a s ≡ x ∷ [] → entries a s ≡ e ∷ []
      → going_on out (a ∷ more) s ≡ going_on (with_answer out (posted (does a s) x) e) more (counted (does a s) x.to)
  answers_one x e one entry =
      let letter = with_answer out (posted (does a s) x) e in
      let act : with_act (made s out) a ≡ made (counted (does a s) x.to) letter = rw (one, entry) refl in
      followed_more (made s out) a more ∙ ap (λ y. followed y more) act

-- a plan that has no decider
module _ (a : Act) (s : ServerModel) (out : Out) where
  -- a plan of one act that says and enters one thing is that letter and entry
  pub answers_only : (x : ServerSaying) (e : Entry) → says a s ≡ x ∷ [] → entries a s ≡ e ∷ []
      → made (counted (does a s) x.to) (with_answer out (posted (does a s) x) e) ≡ planned out (record { first = a; follow = [] }) s
  answers_only x e one entry =
      goes_nowhere (with_answer out (posted (does a s) x) e) (counted (does a s) x.to) ∙ sym (answers_one a [] s out x e one entry)

  -- a plan of one act that says one thing is that letter
  pub says_only : (x : ServerSaying) → says a s ≡ x ∷ [] → entries a s ≡ []
      → made (counted (does a s) x.to) (with_letter out (posted (does a s) x)) ≡ planned out (record { first = a; follow = [] }) s
  says_only x one none =
      goes_nowhere (with_letter out (posted (does a s) x)) (counted (does a s) x.to) ∙ sym (says_one a [] s out x one none)

-- an act that says nothing, alone and before one by which a server is asked
module _ (a : Act) (s : ServerModel) (out : Out) (nothing : says a s ≡ []) (none : entries a s ≡ []) where
  -- an act that says and enters nothing leaves what was sent
  pub nothing_said : made (does a s) out ≡ going_on out (a ∷ []) s
  nothing_said = goes_nowhere out (does a s) ∙ sym (silent a [] s out nothing none)

  -- an act that says nothing, and then an ask, sends that ask
  pub asks_then : (at : Around) (wish : Wish) (to : Server) (rest : List Server)
      → told_ask to wish.rank wish.request wish.types out (does (Asks_on at wish to rest) (does a s))
      ≡ going_on out (a ∷ Asks_on at wish to rest ∷ []) s
  asks_then at wish to rest =
      let asks = Asks_on at wish to rest in
      says_only asks (does a s) out (to_server to (tells.Ask wish.rank wish.request wish.types)) refl refl
      ∙ sym (silent a (asks ∷ []) s out nothing none)

-- Room.

-- as many wait and are wished for, or fewer
pub room_left : (s : ServerModel) (queue : Queue) (parked : Parked) (out : Out) (n k : ℕ)
    → length parked.waiting + length parked.wishes + k ≤ length s.kept.parked.waiting + length s.kept.parked.wishes + n
    → HasRoom s out n → HasRoom (with_parked s queue parked) out k
room_left s queue parked out n k fewer room =
    let was = room.tells in
    record { tells = omega (arith, fewer, was); places = room.places }

-- room for more is room for less
pub room_less : {s : ServerModel} {out : Out} {n k : ℕ} → HasRoom s out n → k ≤ n → HasRoom s out k
room_less room fewer = let was = room.tells in record { tells = omega (arith, fewer, was); places = room.places }

-- room at a server is room at an equal one
pub room_as : {s t : ServerModel} {out : Out} {n : ℕ} → t ≡ s → HasRoom s out n → HasRoom t out n
room_as {s} {t} {out} {n} same room = subst (λ u. HasRoom u out n) (sym same) room

-- fewer wait, or are wished for, where one is taken off
fewer_kept : {X : Type 0} (test : X → Bool) (xs : List X) → length (filter (λ x. not (test x)) xs) ≤ length xs
fewer_kept test xs =
    let both = length-filter_both test (λ x. not (test x)) (λ x. refl) xs in
    omega (arith, both)

module _ {s : ServerModel} {out : Out} {more : ℕ} where
  -- a release leaves room
  pub released_room : (rank : Rank) → HasRoom s out more → HasRoom (released s rank) out more
  released_room rank room =
      let fewer = fewer_kept (is_of rank) s.kept.parked.waiting in
      room_left s s.kept.queue (gone (parked_of s) rank).parked out more more (omega (arith, fewer)) room

  -- a look leaves room
  pub looked_room : (rank : Rank) (types : Option (List WorkType)) → HasRoom s out more → HasRoom (looked s rank types) out more
  looked_room rank types = by_best (best_for s.kept.queue rank types)
    where
      by_best : (o : Option Placed) → HasRoom s out more → HasRoom (pinning s rank o (after_none (parked_of s) rank o)) out more
      by_best (Some p) room =
          let fewer = fewer_kept (is_of rank) s.kept.parked.waiting in
          room_left s (pinned_to rank (Some p) s.kept.queue) (gone (parked_of s) rank).parked out more more (omega (arith, fewer)) room
      by_best None room =
          let same = length-map s.kept.parked.waiting (turned (is_of rank) asks_next) in
          room_left s s.kept.queue (after_none (parked_of s) rank None).parked out more more (omega (arith, same)) room

  -- a hint that is heard leaves room
  pub heard_room : (rank : Rank) (request : ℕ) (from : Server) → HasRoom s out more → HasRoom (heard s rank request from) out more
  heard_room rank request from room =
      let same = length-map s.kept.parked.waiting (turned (is_since rank request) (hears_of s.config s.me from)) in
      room_left s s.kept.queue (hinted (parked_of s) rank request from).parked out more more (omega (arith, same)) room

  -- a seek takes room for one letter
  pub sought_room : (wish : Wish) → HasRoom s out (more + 1) → HasRoom (sought s wish) out more
  sought_room wish = by_best (best_for s.kept.queue wish.rank wish.types)
    where
      by_best : (o : Option Placed) → HasRoom s out (more + 1) → HasRoom (pinning s wish.rank o (reserved (parked_of s) wish o)) out more
      by_best (Some p) room =
          room_left s (pinned_to wish.rank (Some p) s.kept.queue) s.kept.parked out (more + 1) more (omega arith) room
      by_best None room =
          let one = length-append s.kept.parked.waiting (asking wish (others s.config s.me) ∷ []) in
          room_left s s.kept.queue (reserved (parked_of s) wish None).parked out (more + 1) more (omega (arith, one)) room

  -- an ask takes room for one letter
  pub asked_room : (wish : Wish) → HasRoom s out (more + 1) → HasRoom (asked s wish) out more
  asked_room wish = by_best (offered s.kept wish)
    where
      by_best : (o : Option Placed) → HasRoom s out (more + 1) → HasRoom (pinning s wish.rank o (after_ask (parked_of s) wish o)) out more
      by_best (Some p) room =
          let fewer = fewer_kept (is_by wish.rank) s.kept.parked.wishes in
          room_left s (pinned_to wish.rank (Some p) s.kept.queue) (after_ask (parked_of s) wish (Some p)).parked out (more + 1) more
          (omega (arith, fewer)) room
      by_best None room =
          let fewer = fewer_kept (is_by wish.rank) s.kept.parked.wishes in
          let one = length-append (unwished wish.rank s.kept.parked.wishes) (wish ∷ []) in
          room_left s s.kept.queue (wished (parked_of s) wish).parked out (more + 1) more (omega (arith, fewer, one)) room
