-- In every run the ledger is a legal run of the bag, in which each rank has its seat and with which each server agrees.
use Rattle.std.proofs.Common.{◌≡◌, ◌<◌, ℕ, zero, suc, List, [], ◌∷◌, Option, Some, None, refl, sym, ap, ◌∙◌, subst, arith, append-nil}
use Rattle.std.proofs.Common.{slice_get, replicate}
use Rattle.std.specs.Prelude.{option_and_then}
use Rattle.std.proofs.lemmas.List.Elements.{All-nil}
use Rattle.adlb_unit.specs.declared.configs.Config.{Config}
use Rattle.adlb_unit.specs.declared.messages.Message.{Message}
use Rattle.adlb_unit.specs.declared.names.Rank.{Rank}
use Rattle.adlb_unit.specs.declared.names.Server.{Server}
use Rattle.bag_ledger.specs.declared.entries.Answer.{Answer}
use Rattle.bag_ledger.specs.declared.entries.Answer.TheVariants as answers
use Rattle.bag_ledger.specs.declared.entries.Call.{Call}
use Rattle.bag_ledger.specs.declared.entries.Call.TheVariants as calls_to
use Rattle.bag_ledger.specs.declared.entries.Said.{Said}
use Rattle.bag_ledger.specs.Bag.{Bag, start as empty_bag}
use Rattle.bag_ledger.specs.Runs.{IsLegal, IsRunWhere}
use Rattle.bag_ledger.proofs.Tests.{some_is}
use Rattle.rank_client.specs.declared.pendings.Pending.{Pending}
use Rattle.rank_client.specs.declared.pendings.Pending.TheVariants as waits_for
use Rattle.rank_client.specs.Agreement.{IsHeld, fetch_coming, put_coming, reserve_coming, said, close_coming, common_coming, count_coming}
use Rattle.rank_client.specs.Calls.{plus}
use Rattle.rank_client.specs.Rules.{call_of}
use Rattle.rank_client.specs.State.{ClientModel, start as new_client}
use Rattle.server_law.specs.Agreement.{ServerAgrees}
use Rattle.server_law.proofs.Components.{start_agrees}
use Rattle.core_run.specs.declared.events.Event.{Event}
use Rattle.core_run.specs.Runs.{IsBehind, Runs, Tells, run}
use Rattle.core_run.specs.World.{World, client_of, happens, pool_of, start}
use Rattle.core_law.specs.Found.{found_in}
use Rattle.core_law.specs.Lawful.{IsFact, IsLawful, IsSeat, OfCall}
use Rattle.core_law.specs.Letters.{call_letter, one_letter}
use Rattle.core_law.specs.Measures.{measure, weights}
use Rattle.core_law.specs.Seats.{AreMoving, HasSeat, IsSeated, AreBrought}
use Rattle.core_law.specs.Well.{IsWell}
use Rattle.core_law.proofs.ActLawful.{event_lawful}
use Rattle.core_law.proofs.EveryRun.{begins_well, client_at, pool_at, run_config, well_kept}
use Rattle.core_law.proofs.Moments.{answer_lawful, call_lawful, idle_said, no_letters}
use Rattle.core_law.proofs.OwedByRanks.{letters_are}
use Rattle.core_law.proofs.RunsWhere.{alone_run}
use Rattle.core_law.proofs.RankSteps.{weighs_nothing}
use Rattle.core_law.proofs.Steps.{A_call, A_request, An_answer, Does, happens_does}
use Rattle.core_law.proofs.UnderWay.{weaker, zero_on}
use Rattle.core_law.specs.Pushed.{IsPushed}
use Rattle.core_law.proofs.RankPushes.{start_pushed}
use Rattle.core_law.proofs.Brought.{are_brought}

-- what is lawful, with some bag
abbrev pub Lawful : World → Type 0
Lawful w = (b : Bag) × IsLawful w b

-- each event keeps what is lawful
pub kept_lawful : (w next : World) → IsWell w → Lawful w → Does w next → Lawful next
kept_lawful w next well (b, l) (A_call {me = me} {call = call} {x = x} does) = call_lawful w next me call x b well l does
kept_lawful w next well (b, l) (An_answer {from = from} {me = me} {letter = letter} {rest = rest} {x = x} does) =
    answer_lawful w next from me letter rest x b well l does
kept_lawful w next well (b, l) (A_request {from = from} {me = me} {letter = letter} {rest = rest} {x = x} does) =
    event_lawful w next from me letter rest x b well l does

-- At the start.

same_rank : {X : Type 0} (n k : ℕ) (x : X) → k < n → slice_get (replicate n x) k ≡ Some x
same_rank zero k x there = absurd (omega arith)
same_rank (suc n) zero x there = refl
same_rank (suc n) (suc k) x there = same_rank n k x (omega arith)

starts_seat : (config : Config) (me : Rank) → me.0 < config.ranks → IsSeat (start config) (empty_bag config) me None
starts_seat config me within =
    let w = start config in
    let c = new_client config me in
    let well = begins_well config in
    let is = client_at config me within in
    let m = weights (one_letter me) in
    let none : measure m w ≡ 0 = letters_are w me (let e = (well.shape).ranks in omega arith) (well.one me) ∙ rw is refl in
    let nothing = zero_on m config w.links (well.shape).square (no_letters m w none) in
    record {
      named = rw is refl;
      stands = rw is (record {
        rank = same_rank config.ranks me.0 _ within;
        servers = refl;
        caused = tt;
        held = All-nil (IsHeld (empty_bag config) me);
        owed = tt;
        accepted = tt;
      });
      letters = rw is (weaker (λ from to l. call_letter me from to l.message ≡ 0) (OfCall c None) config w.links
          (λ from to l e. weighs_nothing c None me from to l.message refl e) nothing);
      waits = λ t there. rw (is, pool_at config t there) tt;
      said = rw is refl;
      facts = rw is (All-nil (IsFact (empty_bag config)));
    }

starts_lawful : (config : Config) → IsLawful (start config) (empty_bag config)
starts_lawful config = record {
  run = refl;
  rests = refl;
  seats = λ me within. (None, starts_seat config me within);
  pools = λ k there. rw (pool_at config k there) (start_agrees config k there);
  pushed = start_pushed config;
}

-- Along every run.

run_lawful : (w last : World) (events : List Event) → IsWell w → Lawful w → Runs w events last → Lawful last
run_lawful w last [] well l run = subst Lawful run l
run_lawful w last (e ∷ events) well l run =
    let d = happens_does w run.0 e run.1 in
    run_lawful run.0 last events (well_kept w run.0 well d) (kept_lawful w run.0 well l d) run.2

-- every run is lawful at every moment
pub every_run_lawful : (config : Config) (events : List Event) (w : World) → Runs (start config) events w → Lawful w
every_run_lawful config events w run =
    run_lawful (start config) w events (begins_well config) (empty_bag config, starts_lawful config) run

-- What is read off.

-- the ledger, as the run has its ranks and servers
abbrev IsLedger : Config → World → Bag → Type 0
IsLedger config w b = IsRunWhere (found_in config) (empty_bag config) w.ledger b

ledger_is : (config : Config) (events : List Event) (w : World) (b : Bag) → Runs (start config) events w → IsLawful w b
    → IsLedger config w b
ledger_is config events w b run l = subst (λ (k : Config). IsLedger k w b) (run_config (start config) w events run) l.run

-- in every run the ledger leads to a bag
pub ledger_is_legal : (config : Config) (events : List Event) (w : World) → Runs (start config) events w → (b : Bag) × IsLedger config w b
ledger_is_legal config events w run =
    let l = every_run_lawful config events w run in (l.0, ledger_is config events w l.0 run l.1)

-- with one server the ledger of every run is a legal run of the bag
pub alone_is_legal : (config : Config) (events : List Event) (w : World) → config.servers ≡ 1 → Runs (start config) events w
    → IsLegal config w.ledger
alone_is_legal config events w alone run =
    let l = ledger_is_legal config events w run in
    (l.0, alone_run config (empty_bag config) l.0 w.ledger alone l.1)

-- in every run the bag to which the ledger leads agrees with each server
pub servers_agree : (config : Config) (events : List Event) (w : World) → Runs (start config) events w
    → (b : Bag) × IsLedger config w b × ((server : Server) → server.0 < config.servers → ServerAgrees b (pool_of w server))
servers_agree config events w run =
    let l = every_run_lawful config events w run in
    let same : w.config ≡ config = run_config (start config) w events run in (
      l.0,
      ledger_is config events w l.0 run l.1,
      λ server there. l.1.pools server (let e = ap (λ (k : Config). k.servers) same in omega arith),
    )

plus_behind : (t : List Said) (call : Call) (o : Option Answer) → IsBehind t (plus t call o)
plus_behind t call None = ([], sym (append-nil t), omega arith)
plus_behind t call (Some answer) = (record { call = call; answer = answer } ∷ [], refl, omega arith)

said_behind : (c : ClientModel) (p : Pending) (o : Option Message) → IsBehind c.transcript (said c p o)
said_behind c (waits_for.SetDone request tried) o = plus_behind c.transcript calls_to.SetDone (Some answers.Fine)
said_behind c waits_for.Nothing None = ([], sym (append-nil c.transcript), omega arith)
said_behind c (waits_for.Put unit first tried) None = ([], sym (append-nil c.transcript), omega arith)
said_behind c (waits_for.Reserve request types) None = ([], sym (append-nil c.transcript), omega arith)
said_behind c (waits_for.Try request types tried) None = ([], sym (append-nil c.transcript), omega arith)
said_behind c (waits_for.Fetch request note) None = ([], sym (append-nil c.transcript), omega arith)
said_behind c (waits_for.Common request note common own) None = ([], sym (append-nil c.transcript), omega arith)
said_behind c (waits_for.Keep request common first tried) None = ([], sym (append-nil c.transcript), omega arith)
said_behind c (waits_for.Close request batch) None = ([], sym (append-nil c.transcript), omega arith)
said_behind c (waits_for.Count request kind) None = ([], sym (append-nil c.transcript), omega arith)
said_behind c waits_for.Nothing (Some m) = ([], sym (append-nil c.transcript), omega arith)
said_behind c (waits_for.Put unit first tried) (Some m) = plus_behind c.transcript (call_of unit) (put_coming m)
said_behind c (waits_for.Reserve request types) (Some m) = plus_behind c.transcript (calls_to.Reserve types) (reserve_coming m)
said_behind c (waits_for.Try request types tried) (Some m) = plus_behind c.transcript (calls_to.Try types) (reserve_coming m)
said_behind c (waits_for.Fetch request note) (Some m) = plus_behind c.transcript (calls_to.Fetch note.id) (fetch_coming note.common m)
said_behind c (waits_for.Common request note common own) (Some m) = plus_behind c.transcript (calls_to.Fetch note.id) (common_coming own m)
said_behind c (waits_for.Keep request common first tried) (Some m) = plus_behind c.transcript (calls_to.BeginBatch common) (put_coming m)
said_behind c (waits_for.Close request batch) (Some m) = plus_behind c.transcript calls_to.EndBatch (close_coming m)
said_behind c (waits_for.Count request kind) (Some m) = plus_behind c.transcript (calls_to.Count kind) (count_coming m)

-- in every run a rank's transcript is what the ledger says of its calls, but for the pending one
pub ledger_tells : (config : Config) (events : List Event) (w : World) (rank : Rank) → rank.0 < config.ranks
    → Runs (start config) events w
    → Tells w rank
ledger_tells config events w rank within run =
    let l = every_run_lawful config events w run in
    let same = ap (λ (k : Config). k.ranks) (run_config (start config) w events run) in
    let its = l.1.seats rank (omega arith) in
    let c = client_of w rank in (
      subst (λ (all : List Said). IsBehind c.transcript all) its.1.said (said_behind c c.pending its.0),
      λ idle. sym its.1.said ∙ idle_said c its.0 idle,
    )

-- in every run there is a bag in which each rank has its seat
pub actors_seated : (config : Config) (events : List Event) (w : World) → Runs (start config) events w → (b : Bag) × IsSeated w b
actors_seated config events w run =
    let l = every_run_lawful config events w run in (
      l.0,
      record {
        run = l.1.run;
        ranks = λ me within. seat w l.0 me (l.1.seats me within);
        servers = l.1.pools;
        moving = moving w l.0 l.1.pushed;
      },
    )
  where
    seat : (w : World) (b : Bag) (me : Rank) → (coming : Option Message) × IsSeat w b me coming → HasSeat w b me
    seat w b me its = record { coming = its.0; stands = its.1.stands; says = its.1.said }

    moving : (w : World) (b : Bag) → IsPushed w b → AreMoving w b
    moving w b pushed = record { travels = pushed.travels; rooms = pushed.rooms }

-- in every run letters bring each unit between servers, and are there for each promise
pub units_are_brought : (config : Config) (events : List Event) (w : World) → Runs (start config) events w
    → (b : Bag) × IsLedger config w b × AreBrought w b
units_are_brought config events w run =
    let l = every_run_lawful config events w run in
    (l.0, ledger_is config events w l.0 run l.1, are_brought w l.0 l.1.pushed)

-- A run as a relation and as a function.

-- a run as a relation is one as a function
pub run_is : (w last : World) (events : List Event) → Runs w events last → run w events ≡ Some last
run_is w last [] r = ap Some r
run_is w last (e ∷ events) r = ap (λ o. option_and_then (λ next. run next events) o) r.1 ∙ run_is r.0 last events r.2

-- a run as a function is one as a relation
pub is_run : (w last : World) (events : List Event) → run w events ≡ Some last → Runs w events last
is_run w last [] e = some_is e
is_run w last (x ∷ events) e = by_event (λ next rest. is_run next last events rest) (happens w x) refl e
  where
    by_event : ((next : World) → run next events ≡ Some last → Runs next events last) → (o : Option World) → happens w x ≡ o
        → option_and_then (λ next. run next events) o ≡ Some last → Runs w (x ∷ events) last
    by_event later None is e = absurd (cc)
    by_event later (Some next) is e = (next, is, later next e)
