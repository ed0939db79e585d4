-- The seat of a rank through one act of a server: nothing of it changes, or its pending call is decided.
use Rattle.std.proofs.Common.{◌≡◌, ◌<◌, ℕ, ◌+◌, false, not, List, [], ◌∷◌, ◌++◌, length, set, Option, sym, ap, ◌∙◌, subst, arith}
use Rattle.std.proofs.Common.{append-nil}
use Rattle.std.specs.Prelude.{All}
use Rattle.std.proofs.lemmas.Bool.{lt-ltb}
use Rattle.std.proofs.lemmas.List.{length-set}
use Rattle.adlb_unit.specs.declared.actors.Actor.{Actor}
use Rattle.adlb_unit.specs.declared.actors.Actor.TheVariants as by
use Rattle.adlb_unit.specs.declared.letters.Letter.{Letter}
use Rattle.adlb_unit.specs.declared.messages.Message.{Message}
use Rattle.adlb_unit.specs.declared.names.Rank.{Rank}
use Rattle.adlb_unit.specs.declared.names.Server.{Server}
use Rattle.bag_ledger.specs.declared.entries.Entry.{Entry}
use Rattle.bag_ledger.specs.Bag.{Bag, start as empty_bag}
use Rattle.bag_ledger.specs.Runs.{IsRunWhere, calls, calls_from}
use Rattle.bag_law.proofs.Sound.{run_is_sound}
use Rattle.rank_client.specs.Agreement.{ClientAgrees, holds, said}
use Rattle.rank_client.specs.Rules.{is_idle}
use Rattle.rank_client.specs.State.{ClientModel}
use Rattle.server_components.specs.declared.waits.Waiting.{Waiting}
use Rattle.server_law.specs.State.{ServerModel, start as new_pool}
use Rattle.server_law.specs.Acts.{Act, comes, does, entries, goes, says, takes, waiting_after}
use Rattle.server_law.specs.Carried.{done, sends}
use Rattle.core_run.specs.World.{World, client_of, pool_of}
use Rattle.core_law.specs.Acting.{IsAct, IsOwn, acted, taken_off}
use Rattle.core_law.specs.Found.{found_in}
use Rattle.core_law.specs.Lawful.{IsFact, IsOfCall, IsSeat, IsWaiting, OfCall}
use Rattle.core_law.specs.OnLinks.{Each, OnLinks}
use Rattle.core_law.specs.Letters.{call_letter, call_waits, one, one_letter}
use Rattle.core_law.specs.Measures.{IsBalanced, heard_weight, links_weight, measure, server_weight, weigh, weigh_at, weights}
use Rattle.core_law.specs.Well.{IsShaped}
use Rattle.core_law.proofs.Actors.{every_pool}
use Rattle.core_law.proofs.Acts.{counted_kept, sent_each, sent_within, taken_off_on, taken_square, taken_weight}
use Rattle.core_law.proofs.RunsWhere.{split_where}
use Rattle.core_law.proofs.Fifo.{part_le}
use Rattle.core_law.proofs.OwedByRanks.{letters_are, no_sum}
use Rattle.core_law.proofs.RankSteps.{AreSilent, one_is, run_silent, run_stands, weighs_nothing}
use Rattle.core_law.proofs.Sums.{weigh_at-set}
use Rattle.core_law.proofs.UnderWay.{posted_on, weaker, zero_on}
use Rattle.core_law.proofs.Waits.{each_after, waits}

-- Letters and who waits, after an act.

-- all letters after an act: those that are left, and those that it sends
pub letters_next : (P : Actor → Actor → Message → Type 0) (w : World) (k : Server) (a : Act) → IsShaped w → IsAct w k a → IsOwn w k a
    → OnLinks (λ from to l. P from to l.message) w.config (taken_off w.config k w.links (takes a))
    → Each (λ y. P (by.Server k) y.to y.message) (says a (pool_of w k))
    → OnLinks (λ from to l. P from to l.message) w.config (acted w k a).links
letters_next P w k a shape is own on each =
    let s = pool_of w k in
    let square = taken_square w.config k w.links (takes a) is.here is.front shape.square in
    let within = lt-ltb k.0 w.config.servers is.here in
    let sent = sent_within w.config (does a s) (says a s) own.said in
    posted_on (λ from to (l : Letter). P from to l.message) w.config (taken_off w.config k w.links (takes a)) (by.Server k) (sends a s)
    square on within sent (sent_each (P (by.Server k)) (does a s) (says a s) each)

abbrev AllWait : (Waiting → Type 0) → ServerModel → Type 0
AllWait P s = Each P s.kept.parked.waiting

waits_next : (P : Waiting → Type 0) (w : World) (k : Server) (a : Act) → IsShaped w → IsAct w k a
    → ((t : Server) → t.0 < w.config.servers → AllWait P (pool_of w t)) → Each P (comes a (pool_of w k))
    → (t : Server) → t.0 < w.config.servers → AllWait P (pool_of (acted w k a) t)
waits_next P w k a shape is each new =
    let s = pool_of w k in
    let after = each_after P a s is.sits (each k is.here) new in
    let now : AllWait P (done a s) = subst (λ x. Each P x.parked.waiting) (sym (counted_kept (does a s) (says a s))) after in
    let inside : k.0 < length w.servers = let e = shape.servers in let h = is.here in omega arith in
    every_pool (λ t x. AllWait P x) w k (done a s) inside now (λ t there differs. each t there)

-- what an act makes of the world and of the bag
pub record IsMade (w : World) (k : Server) (a : Act) (b n : Bag) : Type 0 where
  pub shape : IsShaped w
  pub is : IsAct w k a
  pub own : IsOwn w k a
  pub run : IsRunWhere (found_in w.config) (empty_bag w.config) w.ledger b
  pub step : IsRunWhere (found_in w.config) b (entries a (pool_of w k)) n

-- Nothing changes for the rank.

-- an act whose entries, letters and waiting ranks are of others leaves a seat
pub seat_stays : (w : World) (k : Server) (a : Act) (b n : Bag) (me : Rank) (coming : Option Message) → IsMade w k a b n
    → AreSilent me (entries a (pool_of w k))
    → Each (λ y. IsOfCall (client_of w me) coming (by.Server k) y.to y.message) (says a (pool_of w k))
    → Each (IsWaiting (client_of w me) coming) (comes a (pool_of w k)) → All (IsFact n) (holds (client_of w me) coming)
    → IsSeat w b me coming → IsSeat (acted w k a) n me coming
seat_stays w k a b n me coming m silent said come facts seat =
    let c = client_of w me in
    let es = entries a (pool_of w k) in
    let is = m.is in
    let shape = m.shape in
    let quiet : AreSilent c.me es = subst (λ (r : Rank). AreSilent r es) (sym seat.named) silent in
    let found = found_in w.config in
    let none = run_silent found me es b n silent m.step in
    let grows = split_where found (empty_bag w.config) b w.ledger es me m.run in
    record {
      named = seat.named;
      stands = run_stands found c coming es b n (run_is_sound found w.config w.ledger b m.run) quiet m.step seat.stands;
      letters = letters_next (IsOfCall c coming) w k a m.shape m.is m.own
          (taken_off_on (OfCall c coming) w.config k w.links (takes a) is.here is.front shape.square seat.letters) said;
      waits = waits_next (IsWaiting c coming) w k a m.shape m.is seat.waits come;
      said = seat.said ∙ sym (grows ∙ ap (λ l. calls w.config w.ledger me ++ l) none ∙ append-nil (calls w.config w.ledger me));
      facts = facts;
    }

-- The rank's call is decided: the act takes the only thing that stands for it.

each_zero : (f : Waiting → ℕ) (es : List Waiting) → weigh f es ≡ 0 → Each (λ e. f e ≡ 0) es
each_zero f [] none = tt
each_zero f (e ∷ es) none = (omega arith, each_zero f es (omega arith))

-- what is left when it is taken
record IsBare (w : World) (k : Server) (a : Act) (me : Rank) : Type 0 where
  letters : links_weight w.config (weights (one_letter me)) (taken_off w.config k w.links (takes a)) ≡ 0
  idle : (t : Server) → t.0 < w.config.servers → Each (λ e. call_waits me t.0 e ≡ 0) (pool_of (acted w k a) t).kept.parked.waiting

-- the act takes one thing that stands for the rank's call, and nobody comes to wait
pub record TakesCall (w : World) (k : Server) (a : Act) (me : Rank) : Type 0 where
  pub within : me.0 < w.config.ranks
  pub busy : is_idle (client_of w me).pending ≡ false
  pub even : IsBalanced (weights (one_letter me)) w
  pub one_goes : heard_weight (call_letter me) k (takes a) + weigh (call_waits me k.0) (goes a) ≡ 1
  pub nobody : comes a (pool_of w k) ≡ []

is_bare : (w : World) (k : Server) (a : Act) (me : Rank) → IsShaped w → IsAct w k a → TakesCall w k a me → IsBare w k a me
unfolding measure
is_bare w k a me shape is its =
    let s = pool_of w k in
    let m = weights (one_letter me) in
    let h = is.here in
    let servers = shape.servers in
    let ranks = shape.ranks in
    let within = its.within in
    let one : measure m w ≡ 1 = letters_are w me (omega arith) its.even ∙ ap (λ t. one (not t)) its.busy in
    let took = taken_weight w.config m k w.links (takes a) is.here is.front shape.square in
    let change = weigh_at-set (server_weight m.server) w.servers k.0 (done a s) (new_pool w.config k) (omega arith) in
    let kept : weigh (call_waits me k.0) (done a s).kept.parked.waiting ≡ weigh (call_waits me k.0) (waiting_after a s) =
    ap (λ x. weigh (call_waits me k.0) x.parked.waiting) (counted_kept (does a s) (says a s)) in
    let sum = waits (call_waits me k.0) a s is.sits in
    let none : weigh (call_waits me k.0) (comes a s) ≡ 0 = ap (λ l. weigh (call_waits me k.0) l) its.nobody in
    let goes_one = its.one_goes in
    let owed = no_sum w.ranks in
    let rest : weigh_at (server_weight m.server) (set w.servers k.0 (done a s)) ≡ 0 = omega arith in
    record {
      letters = omega arith;
      idle = λ t there.
          let l = length-set w.servers k.0 (done a s) in
          let part = part_le (server_weight m.server) (set w.servers k.0 (done a s)) t.0 (new_pool w.config t) (omega arith) in
          each_zero (call_waits me t.0) (pool_of (acted w k a) t).kept.parked.waiting (omega arith);
    }

-- of a rank that weighs nothing each letter is what it should be
idle_nothing : (c : ClientModel) (coming now : Option Message) (me : Rank) (place : ℕ) (e : Waiting) → c.me ≡ me → IsWaiting c coming e
    → call_waits me place e ≡ 0 → IsWaiting c now e
idle_nothing c coming now me place e named was none =
    λ of. (
      (was of).0,
      λ idle.
          let is = one_is e.wish.rank me (of ∙ named) in
          let weighs : call_waits me place e ≡ 1 = rw idle is in
          absurd (omega arith),
    )

each_idle : (c : ClientModel) (coming now : Option Message) (me : Rank) (place : ℕ) (es : List Waiting) → c.me ≡ me
    → Each (IsWaiting c coming) es
    → Each (λ e. call_waits me place e ≡ 0) es → Each (IsWaiting c now) es
each_idle c coming now me place [] named was none = tt
each_idle c coming now me place (e ∷ es) named was none =
    (idle_nothing c coming now me place e named was.0 none.0, each_idle c coming now me place es named was.1 none.1)

-- what the decision makes of the rank
pub record IsDecided (w : World) (b n : Bag) (me : Rank) (coming now : Option Message) (es : List Entry) : Type 0 where
  pub stands : ClientAgrees (client_of w me) now n
  pub told : said (client_of w me) (client_of w me).pending now
      ≡ said (client_of w me) (client_of w me).pending coming ++ calls_from b es me
  pub facts : All (IsFact n) (holds (client_of w me) now)

-- an act that takes what stands for a rank's call passes its seat on
pub seat_passes : (w : World) (k : Server) (a : Act) (b n : Bag) (me : Rank) (coming now : Option Message) → IsMade w k a b n
    → TakesCall w k a me
    → IsDecided w b n me coming now (entries a (pool_of w k))
    → Each (λ y. IsOfCall (client_of w me) now (by.Server k) y.to y.message) (says a (pool_of w k))
    → IsSeat w b me coming → IsSeat (acted w k a) n me now
seat_passes w k a b n me coming now m its d said seat =
    let c = client_of w me in
    let s = pool_of w k in
    let is = m.is in
    let shape = m.shape in
    let links = taken_off w.config k w.links (takes a) in
    let square = taken_square w.config k w.links (takes a) is.here is.front shape.square in
    let bare = is_bare w k a me m.shape m.is its in
    let nothing = zero_on (weights (one_letter me)) w.config links square bare.letters in
    let left = weaker (λ from to l. call_letter me from to l.message ≡ 0) (OfCall c now) w.config links
    (λ from to l e. weighs_nothing c now me from to l.message seat.named e) nothing in
    let new : Each (IsWaiting c coming) (comes a s) = subst (λ (l : List Waiting). Each (IsWaiting c coming) l) (sym its.nobody) tt in
    let stay = waits_next (IsWaiting c coming) w k a m.shape m.is seat.waits new in
    let grows = split_where (found_in w.config) (empty_bag w.config) b w.ledger (entries a s) me m.run in
    record {
      named = seat.named;
      stands = d.stands;
      letters = letters_next (IsOfCall c now) w k a m.shape m.is m.own left said;
      waits = λ t there.
          each_idle c coming now me t.0 (pool_of (acted w k a) t).kept.parked.waiting seat.named (stay t there) (bare.idle t there);
      said = d.told ∙ ap (λ l. l ++ calls_from b (entries a s) me) seat.said ∙ sym grows;
      facts = d.facts;
    }
