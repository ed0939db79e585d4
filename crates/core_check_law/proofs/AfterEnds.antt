-- Once an end was found it is over, and no work is brought, wanted or moved: in every run.
use Rattle.std.proofs.Common.{◌≡◌, ◌<◌, inr, Bool, true, false, List, [], ◌∷◌, ◌++◌, None, Some, refl, sym, ap, ◌∙◌, subst, arith, inl, ℕ}
use Rattle.std.proofs.Common.{◌≢◌, ◌⊎◌}
use Rattle.std.specs.List.{list_any}
use Rattle.adlb_unit.specs.declared.configs.Config.{Config}
use Rattle.adlb_unit.specs.declared.actors.Actor.TheVariants as by
use Rattle.adlb_unit.specs.declared.letters.Letter.{Letter}
use Rattle.adlb_unit.specs.declared.names.BatchId.{BatchId}
use Rattle.adlb_unit.specs.declared.names.Rank.{Rank}
use Rattle.adlb_unit.specs.declared.names.Server.{Server}
use Rattle.server_components.specs.Store.{closed, fetched, is_due}
use Rattle.server_components.specs.declared.parts.Part.{Part}
use Rattle.bag_ledger.specs.Bag.{Bag, settled, start as empty_bag}
use Rattle.bag_ledger.specs.Runs.{IsRun, IsRunWhere}
use Rattle.bag_ledger.specs.Steps.{after, LegalWhere}
use Rattle.bag_ledger.specs.declared.entries.Call.{Call}
use Rattle.bag_ledger.specs.declared.entries.Entry.{Entry}
use Rattle.bag_ledger.specs.declared.entries.Entry.TheVariants as enters
use Rattle.bag_ledger.proofs.Legal.{run_split}
use Rattle.rank_client.specs.State.{ClientModel}
use Rattle.rank_client.specs.Step.{Made}
use Rattle.server_law.specs.Acts.{Act, Closes, Fetches_part, entries, frees, Accepts, Finds, Heard, Promises, Shuts, takes, zeroth}
use Rattle.server_law.specs.State.{ServerModel}
use Rattle.core_run.specs.declared.events.Event.{Event}
use Rattle.core_run.specs.Runs.{Runs}
use Rattle.core_run.specs.World.{Links, World, after_rank, client_of, pool_of, start, taken}
use Rattle.core_law.specs.Acting.{IsAct, acted, AreActs, acted_all, ticks}
use Rattle.core_law.specs.Found.{found_in}
use Rattle.core_law.specs.Lawful.{IsLawful}
use Rattle.core_law.specs.Well.{IsWell}
use Rattle.core_law.proofs.ActLawful.{act_lawful, tick_lawful}
use Rattle.core_law.proofs.Actors.{every_client}
use Rattle.core_law.proofs.EveryRun.{client_at, inside_ranks, run_config, every_run_well, pool_at}
use Rattle.core_law.proofs.Lawful.{Lawful, every_run_lawful}
use Rattle.core_law.proofs.Moments.{answer_lawful, call_lawful}
use Rattle.core_law.proofs.Steps.{Begins, Hears, A_call, A_request, An_answer, Does, Serves, happens_does}
use Rattle.core_check_law.specs.After.{AllOver, AreIdle, IsShutDown, is_work}
use Rattle.core_check_law.proofs.AlongRuns.{AreKept, every_run_keeps}
use Rattle.core_check_law.proofs.Idle.{AllClosed, IdleAfter, IsClosed, IsX, begun_idle, client_closed, found_run, idle_after, idle_behind}
use Rattle.core_check_law.proofs.Idle.{idle_grows, idle_stays, rank_inside, x_run, x_step, IsUnmoved, accepts_none, is_promise, no_work}
use Rattle.core_check_law.proofs.Legal.{every_run_legal, IsChecked, begins_checked, checked_kept}
use Rattle.core_check_law.proofs.ToldRanks.{IsGoodStep, IsModest, begin_good, hear_good}
use Rattle.core_check_law.proofs.Ranks.{stands_as}
use Rattle.core_check_law.proofs.Runs.{is_finding}
use Rattle.adlb_unit.specs.declared.actors.Actor.{Actor}
use Rattle.core_check_law.proofs.NeverAtRest.{AreUnpushed, is_query}
use Rattle.core_law.specs.OnLinks.{Each}
use Rattle.core_check_law.proofs.Unpushed.{HasVerdict, IsDown, alone_unpushed, promises_none, tick_down, unpushed_stays, verdict_before}
use Rattle.core_check_law.proofs.Follows.{Holds, Next, act_holds}
use Rattle.core_check_law.proofs.ShutServers.{IsShutRight, begins_open, shut_first, shut_is_right, shuts_settling}
use Rattle.core_check_law.proofs.Pressing.{NoQuery, is_accept, unpressed}
use Rattle.bag_ledger.specs.declared.states.RankState.{RankState}
use Rattle.server_law.specs.Carried.{Served}
use Rattle.core_check_law.specs.Settling.{Settles}
use Rattle.server_law.specs.Sure.{TakeNone}
use Rattle.adlb_unit.specs.declared.tokens.Token.{Token}
use Rattle.adlb_unit.specs.declared.names.UnitId.{UnitId}
use Rattle.core_law.proofs.LettersAndActors.{act_well, inside_servers}
use Rattle.std.proofs.lemmas.Bool.{cases_eq}
use Rattle.core_check_law.proofs.Classes.{is_alone}
use Rattle.core_law.proofs.Events.{event_chain}
use Rattle.core_check_law.proofs.Events.{finds_settling, tick_holds, tick_settles}
use Rattle.server_law.specs.Step.{next_stamp, raises}
use Rattle.rank_client.specs.Agreement.{rank_of}
use Rattle.core_check_law.proofs.Quiet.{unpushed_rests}
use Rattle.adlb_unit.specs.declared.units.Unit.{Unit as Work}
use Rattle.bag_ledger.specs.declared.states.Status.TheVariants as is_at
use Rattle.server_law.specs.Step.{ticked}
use Rattle.core_check_law.proofs.ShutServers.{shut_kept, tick_shut}
use Rattle.core_check_law.proofs.Unpushed.{is_promised, is_verdict}
use Rattle.core_check_law.proofs.Events.{takes_some}
use Rattle.core_check_law.proofs.Follows.{alone_not}

-- where the ledger is a legal run of the bag
abbrev pub IsFoundOver : World → Type 0
IsFoundOver w = (b : Bag) → IsRun (empty_bag w.config) w.ledger b → IsX b × IdleAfter w.ledger

-- what is so once an end was found
pub record IsAfter (w : World) : Type 0 where
  pub lawful : Lawful w
  pub modest : (r : Rank) → r.0 < w.config.ranks → IsModest (client_of w r)
  pub down : IsDown w
  pub over : IsFoundOver w

-- The bag after a ledger is one, whatever is asked where exhaustion is found.
same_last : (f g : Bag → Bool) (es : List Entry) (a b m n : Bag) → a ≡ b → IsRunWhere f a es m → IsRunWhere g b es n → m ≡ n
same_last f g [] a b m n same left right = sym left ∙ same ∙ right
same_last f g (e ∷ es) a b m n same left right =
    same_last f g es left.0 right.0 m n (left.1.2 ∙ ap (λ (x : Bag). after x e) same ∙ sym right.1.2) left.2 right.2

-- An act of a server.

all_closed : (w : World) (b : Bag) → IsLawful w b → ((r : Rank) → r.0 < w.config.ranks → IsModest (client_of w r)) → AllClosed b
all_closed w b l modest rank x here =
    let inside = rank_inside (found_in w.config) w.config w.ledger b rank x l.run here in
    let its = l.seats rank inside in
    let c = client_of w rank in
    subst IsClosed (stands_as w b rank its.0 its.1 x here) (client_closed c c.finished its.0 (modest rank inside))

abbrev RestIdle : List Entry → Type 0
RestIdle [] = Unit {0}
RestIdle (e ∷ es) = AreIdle es

frees_idle : (me : Server) (batch : BatchId) (part : Part) → AreIdle (frees me batch part)
frees_idle me batch part = by_test (is_due part) refl
  where
    by_test : (t : Bool) → is_due part ≡ t → AreIdle (frees me batch part)
    by_test true is = rw is (refl, tt)
    by_test false is = rw is tt

rest_idle : (a : Act) (s : ServerModel) → RestIdle (entries a s)
rest_idle (Closes request batch accepted part) s = frees_idle s.me batch (closed accepted part)
rest_idle (Fetches_part rank request batch part) s = frees_idle s.me batch (fetched part)
rest_idle _ s = tt

-- the first entry promises room
abbrev first_promises : List Entry → Bool
first_promises [] = false
first_promises (e ∷ es) = is_promise e

first_other : (a : Act) (s : ServerModel) → is_promised a ≡ false → first_promises (entries a s) ≡ false
first_other (Promises from id length) s other = absurd (cc)
first_other _ s other = refl

act_over : (ledger es : List Entry) (b n : Bag) → RestIdle es → IsRun b es n → AllClosed b
    → (b.exhausted ≡ true → IsUnmoved b × (first_promises es ≡ false)) → (list_any is_finding ledger ≡ true → b.exhausted ≡ true)
    → IsX b → IdleAfter ledger → IsX n × IdleAfter (ledger ++ es)
act_over ledger [] b n rest run closed_all still found x idle = (subst IsX run x, idle_grows ledger [] idle (λ any. tt) tt)
act_over ledger (e ∷ es) b n rest run closed_all still found x idle =
    let none : b.exhausted ≡ true → is_work e ≡ false = λ over.
    let s = still over in no_work settled b e run.1.1 (x over) closed_all s.0 s.1 in
    let next : IsX run.0 = subst IsX (sym run.1.2) (x_step b e run.1.1 (λ over. idle_stays e (none over)) x) in (
      x_run es run.0 n run.2 rest next,
      idle_grows ledger (e ∷ es) idle (λ any. (none (found any), rest)) (begun_idle e es rest),
    )

-- where all work was found used up no server has a push
found_unpushed : (w : World) (b : Bag) → IsWell w → IsLawful w b → IsDown w → b.exhausted ≡ true → AreUnpushed w
found_unpushed w b well l down over =
    let there = w.config.servers_within.0 in
    let first = ap (λ (x : Server). x.0) (well.own.servers zeroth there).me in
    down (inl ((l.pools zeroth there).found first over))

after_act : (w : World) (k : Server) (a : Act) → IsWell w → IsAct w k a → IsDown (acted w k a) → IsAfter w → IsAfter (acted w k a)
after_act w k a well is down was = record {
  lawful = act_lawful w k (was.lawful).0 well (was.lawful).1 a is;
  modest = was.modest;
  down = down;
  over = λ n run.
      let s = pool_of w k in
      let l = was.lawful in
      let parts = run_split settled (empty_bag w.config) n w.ledger (entries a s) run in
      let first = empty_bag w.config in
      let same = same_last (found_in w.config) settled w.ledger first first l.0 parts.0 refl (l.1).run parts.1 in
      let before = was.over parts.0 parts.1 in
      let still : l.0.exhausted ≡ true → IsUnmoved l.0 × (first_promises (entries a s) ≡ false) = λ over.
      let free = found_unpushed w l.0 well l.1 was.down over in
      (unpushed_rests w l.0 well l.1 free, first_other a s (promises_none w k a well free is)) in
      act_over w.ledger (entries a s) parts.0 n (rest_idle a s) parts.2 (subst AllClosed same (all_closed w l.0 l.1 was.modest))
      (subst (λ (b : Bag). b.exhausted ≡ true → IsUnmoved b × (first_promises (entries a s) ≡ false)) same still)
      (λ any. found_run settled w.ledger (empty_bag w.config) parts.0 parts.1 (inr any)) before.0 before.1;
}

-- A step of a rank.

rank_after : (w : World) (me : Rank) (links : Links) (x : Made) → IsWell w → me.0 < w.config.ranks → IsGoodStep x
    → Lawful (after_rank w me links x) → IsAfter w → IsAfter (after_rank w me links x)
rank_after w me links x well here good lawful was = record {
  lawful = lawful;
  modest = every_client (λ r c. IsModest c) w me x.state (inside_ranks w me well here) good.0 (λ r inside differs. was.modest r inside);
  down = was.down;
  over = λ n run.
      let parts = run_split settled (empty_bag w.config) n w.ledger x.entries run in
      let before = was.over parts.0 parts.1 in (
        x_run x.entries parts.0 n parts.2 good.1 before.0,
        idle_grows w.ledger x.entries before.1 (λ any. good.1) (idle_after x.entries good.1),
      );
}

call_after : (w next : World) (me : Rank) (call : Call) (x : Made) → IsWell w → Begins w me call x next → IsAfter w
    → IsAfter (after_rank w me w.links x)
call_after w next me call x well does was =
    let lawful : Lawful next = call_lawful w next me call x (was.lawful).0 well (was.lawful).1 does in
    rank_after w me w.links x well does.here (begin_good (client_of w me) call x does.does) (subst Lawful does.is lawful) was

answer_after : (w next : World) (from : Server) (me : Rank) (letter : Letter) (rest : List Letter) (x : Made) → IsWell w
    → Hears w from me letter rest x next → IsAfter w → IsAfter (after_rank w me (taken w (by.Server from) (by.Rank me) rest) x)
answer_after w next from me letter rest x well does was =
    let lawful : Lawful next = answer_lawful w next from me letter rest x (was.lawful).0 well (was.lawful).1 does in
    rank_after w me (taken w (by.Server from) (by.Rank me) rest) x well does.here
    (hear_good (client_of w me) from letter x (was.modest me does.here) does.does) (subst Lawful does.is lawful) was

-- A stamp.

tick_after : (w : World) (me : Server) (stamp : ℕ) (up : Bool) → me.0 < w.config.servers → IsWell w → IsAfter w
    → IsAfter (ticks w me stamp up)
tick_after w me stamp up here well was = record {
  lawful = ((was.lawful).0, tick_lawful w me stamp up (was.lawful).0 here well (was.lawful).1);
  modest = was.modest;
  down = tick_down w me stamp up well here was.down;
  over = was.over;
}

begins_after : (config : Config) → IsAfter (start config)
begins_after config = record {
  lawful = every_run_lawful config [] (start config) refl;
  modest = λ r inside end told.
      let none : None ≡ Some end = ap (λ (c : ClientModel). c.end) (sym (client_at config r inside)) ∙ told in absurd (cc);
  down = λ found t there. ap (λ (s : ServerModel). s.kept.pushing.push) (pool_at config t there);
  over = λ b run. (λ now. let off : false ≡ true = ap (λ (x : Bag). x.exhausted) run ∙ now in absurd (cc), tt);
}

-- A run of one server.

abbrev IsAloneAfter : World → Type 0
IsAloneAfter w = (w.config.servers ≡ 1) × IsAfter w

alone_kept : AreKept IsAloneAfter
alone_kept = record {
  tick = λ w me stamp up here well was. (was.0, tick_after w me stamp up here well was.1);
  act = λ w k a well is was.
      (was.0, after_act w k a well is (λ found. alone_unpushed (acted w k a) (act_well w k a well is) was.0) was.1);
  call = λ w next me call x well does was. (was.0, call_after w next me call x well does was.1);
  answer = λ w next from me letter rest x well does was. (was.0, answer_after w next from me letter rest x well does was.1);
}

-- An event of several servers.

abbrev WhichAct : Act → Type 0
WhichAct a = (is_verdict a ≡ false) ⊎ ((from : Server) × (t : Token) × (a ≡ Finds from t))
    ⊎ ((from : Server) × (t : Token) × (a ≡ Shuts from t))

which_act : (a : Act) → WhichAct a
which_act (Finds from t) = inr (inl (from, t, refl))
which_act (Shuts from t) = inr (inr (from, t, refl))
which_act _ = inl refl

-- the act that takes the letter
first_down : (w : World) (b : Bag) (k : Server) (a : Act) (heard : Heard) → Holds w b → Settles w b → IsAct w k a
    → takes a ≡ heard ∷ [] → IsDown w → IsDown (acted w k a)
first_down w b k a heard h on is it was found = unpushed_stays w k a h.well is classes.1 (by_act (which_act a))
  where
    classes : (is_alone a ≡ false) × (is_query a ≡ false)
    classes = takes_some a heard it

    by_act : WhichAct a → AreUnpushed w
    by_act (inl none) = was (verdict_before w k a h.well is none classes.0 found)
    by_act (inr (inl (from, t, e))) = ((finds_settling w b k from t h on (subst (IsAct w k) e is)).rest).pushes
    by_act (inr (inr (from, t, e))) = ((shuts_settling w b k from t h on (subst (IsAct w k) e is)).rest).pushes

-- no put is accepted where an end was found
found_accepts : (w : World) (b : Bag) (k : Server) (unit : Work) → Holds w b → Settles w b → IsAct w k (Accepts unit) → IsShutRight w
    → IsAfter w → HasVerdict w → ⊥
found_accepts w b k unit h on is right was found = by_verdict found
  where
    x : Next w b k (Accepts unit)
    x = act_holds w b k (Accepts unit) h is tt

    id : UnitId
    id = unit.id

    legal : LegalWhere (found_in w.config) b (enters.Accepted (pool_of w k).me id)
    legal = x.run.1.1

    by_verdict : HasVerdict w → ⊥
    by_verdict (inl e) =
        let over = ((h.lawful).pools zeroth w.config.servers_within.0).exhausted e in
        accepts_none (found_in w.config) b (pool_of w k).me id legal ((was.over b h.legal).0 over) (all_closed w b h.lawful was.modest)
    by_verdict (inr e) =
        let inside = rank_inside (found_in w.config) w.config w.ledger b id.rank legal.0 (h.lawful).run legal.2 in
        let its = (h.lawful).seats id.rank inside in
        let c = client_of w id.rank in
        let ended : (rank_of c c.finished its.0).status ≡ is_at.Finished =
        ap (λ (f : Bool). (rank_of c f its.0).status) (right e id.rank inside) in
        let puts : (rank_of c c.finished its.0).status ≡ is_at.Putting legal.1 =
        ap (λ (r : RankState). r.status) (stands_as w b id.rank its.0 its.1 legal.0 legal.2) ∙ legal.3 in
        let bad : is_at.Finished ≡ is_at.Putting legal.1 = sym ended ∙ puts in
        absurd (cc)

no_verdict : (a : Act) → takes a ≡ [] → is_verdict a ≡ false
no_verdict (Finds from t) none = absurd (cc)
no_verdict (Shuts from t) none = absurd (cc)
no_verdict _ none = refl

-- what follows takes no letter, and begins no push where an end was found
follow_after : (k : Server) (list : List Act) (w : World) → TakeNone list → AreActs w k list → IsWell w → 1 < w.config.servers
    → (HasVerdict w → Each NoQuery list) → IsAfter w → IsAfter (acted_all w k list)
follow_after k [] w none are well several calm was = was
follow_after k (a ∷ more) w none are well several calm was =
    follow_after k more (acted w k a) none.1 are.1 (act_well w k a well are.0) several (λ found. (calm (before found)).1)
    (after_act w k a well are.0 (λ found. unpushed_stays w k a well are.0 (calm (before found)).0 (was.down (before found))) was)
  where
    before : HasVerdict (acted w k a) → HasVerdict w
    before found = verdict_before w k a well are.0 (no_verdict a none.0) (alone_not k w a well several are.0) found

event_after : (w next : World) (from : Actor) (me : Server) (letter : Letter) (rest : List Letter) (x : Served) → IsChecked w
    → Serves w from me letter rest x next → IsShutRight w → IsAfter w → IsAfter next
event_after w next from me letter rest x c does right was =
    let stamp = next_stamp (pool_of w me) letter in
    let up = raises letter.message in
    let v = ticks w me stamp up in
    let h = c.holds in
    let here = does.here in
    let inside = inside_servers w me h.well here in
    let chain = event_chain w next from me letter rest x inside ((h.well).own.servers me here).wishes does in
    let are : AreActs v me (chain.first ∷ chain.more) = subst (AreActs v me) chain.shape chain.are in
    let is : next ≡ acted_all v me (chain.first ∷ chain.more) = chain.is ∙ ap (acted_all v me) chain.shape in
    let held = tick_holds w me stamp up c.bag h c.ring here in
    let on = tick_settles w me stamp up c.bag h.well here c.settles in
    let at_first = tick_after w me stamp up here h.well was in
    let heard : Heard = record { from = chain.from; message = chain.message } in
    let down = first_down v c.bag me chain.first heard held on are.0 chain.takes at_first.down in
    let calm : HasVerdict (acted v me chain.first) → Each NoQuery chain.more = λ found.
    first_calm v c.bag me chain.first heard chain.more held on are.0 chain.takes (tick_shut w me stamp up h.well here right) at_first
    (unpressed (ticked (pool_of w me) stamp up) chain.from chain.message chain.first chain.more (chain.acts ∙ ap Some chain.shape)) found in
    subst IsAfter (sym is)
    (follow_after me chain.more (acted v me chain.first) chain.follow are.1 (act_well v me chain.first held.well are.0) c.several calm
    (after_act v me chain.first held.well are.0 down at_first))
  where
    first_calm : (v : World) (b : Bag) (k : Server) (a : Act) (heard : Heard) (more : List Act) → Holds v b → Settles v b → IsAct v k a
        → takes a ≡ heard ∷ [] → IsShutRight v → IsAfter v → (is_accept a ≡ false → Each NoQuery more) → HasVerdict (acted v k a)
        → Each NoQuery more
    first_calm v b k (Accepts unit) heard more h on is it right was other found =
        absurd (found_accepts v b k unit h on is right was (verdict_before v k (Accepts unit) h.well is refl refl found))
    first_calm v b k _ heard more h on is it right was other found = other refl

after_kept : (w next : World) → IsChecked w → Does w next → IsShutRight w → IsAfter w → IsAfter next
after_kept w next c (A_call {me = me} {call = call} {x = x} does) right was =
    subst IsAfter (sym does.is) (call_after w next me call x (c.holds).well does was)
after_kept w next c (An_answer {from = from} {me = me} {letter = letter} {rest = rest} {x = x} does) right was =
    subst IsAfter (sym does.is) (answer_after w next from me letter rest x (c.holds).well does was)
after_kept w next c (A_request {from = from} {me = me} {letter = letter} {rest = rest} {x = x} does) right was =
    event_after w next from me letter rest x c does right was

-- Every run.

run_after : (w last : World) (events : List Event) → IsChecked w → Runs w events last → IsShutRight w → IsAfter w → IsAfter last
run_after w last [] c run right was = subst IsAfter run was
run_after w last (e ∷ events) c run right was =
    let does = happens_does w run.0 e run.1 in
    run_after run.0 last events (checked_kept w run.0 c does) run.2 (shut_kept w run.0 c does right) (after_kept w run.0 c does right was)

-- at every moment of every run, what is so after an end
pub every_run_after : (config : Config) (events : List Event) (w : World) → Runs (start config) events w → IsAfter w
every_run_after config events w run = by_number (cases_eq config.servers 1)
  where
    by_number : (config.servers ≡ 1) ⊎ (config.servers ≢ 1) → IsAfter w
    by_number (inl alone) = (every_run_keeps IsAloneAfter alone_kept config events w run (alone, begins_after config)).1
    by_number (inr differs) =
        let some = config.servers_within.0 in
        run_after (start config) w events (begins_checked config (omega arith)) run (begins_open config) (begins_after config)

-- as the run has its configuration
legal_over : (config : Config) (events : List Event) (w : World) (b : Bag) → Runs (start config) events w
    → IsRun (empty_bag config) w.ledger b → IsX b × IdleAfter w.ledger
legal_over config events w b run legal =
    let same = run_config (start config) w events run in
    (every_run_after config events w run).over b (subst (λ (k : Config). IsRun (empty_bag k) w.ledger b) (sym same) legal)

-- in every run, once all work was found used up, all is over
pub all_over : (config : Config) (events : List Event) (w : World) (b : Bag) → Runs (start config) events w
    → IsRun (empty_bag config) w.ledger b → b.exhausted ≡ true → AllOver b
all_over config events w b run legal = (legal_over config events w b run legal).0

-- in every run no work follows the entry that all work was found used up
pub none_works : (config : Config) (events : List Event) (w : World) (before behind : List Entry) → Runs (start config) events w
    → w.ledger ≡ before ++ enters.Exhausted ∷ behind → AreIdle behind
none_works config events w before behind run is =
    let legal = every_run_legal config events w run in
    idle_behind before behind (subst IdleAfter is (legal_over config events w legal.0 run legal.1).1)

-- Where a server is shut.

-- in every run a server is shut only where all ranks have finished, and nothing is promised or travels
pub all_shut : (config : Config) (events : List Event) (w : World) (server : Server) (b : Bag) → server.0 < config.servers
    → Runs (start config) events w → IsRun (empty_bag config) w.ledger b → (pool_of w server).kept.shut ≡ true → IsShutDown b
all_shut config events w server b there run legal shut =
    let all = every_run_after config events w run in
    let l = all.lawful in
    let well = every_run_well config events w run in
    let free = all.down (inr (shut_first config events w server there run shut)) in
    let still = unpushed_rests w l.0 well l.1 free in
    let as_run = subst (λ (k : Config). IsRun (empty_bag k) w.ledger b) (sym same) legal in
    let first = empty_bag w.config in
    let one_bag = same_last (found_in w.config) settled w.ledger first first l.0 b refl (l.1).run as_run in
    subst IsShutDown one_bag (record {
      finished = λ rank x here.
          let inside = rank_inside (found_in w.config) w.config w.ledger l.0 rank x (l.1).run here in
          let its = (l.1).seats rank inside in
          let c = client_of w rank in
          let ended = shut_is_right config events w server rank there (let e = ap (λ (k : Config). k.ranks) same in omega arith) run shut in
          ap (λ (r : RankState). r.status) (sym (stands_as w l.0 rank its.0 its.1 x here))
          ∙ ap (λ (f : Bool). (rank_of c f its.0).status) ended;
      promises = still.0;
      travels = still.1;
    })
  where
    same : w.config ≡ config
    same = run_config (start config) w events run
