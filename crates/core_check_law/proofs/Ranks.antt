-- A rank of the bag by its client. A rank at rest has no letter under way that it says or hears, but Finish, and is ready for no call.
use Rattle.std.proofs.Common.{◌≡◌, ◌<◌, ◌≤◌, ◌⊎◌, inl, inr, ℕ, Bool, true, false, not, List, ◌∷◌, Option, None, Some, refl, sym, ap, ◌∙◌}
use Rattle.std.proofs.Common.{arith}
use Rattle.std.proofs.lemmas.Bool.{eq-eqb, lt-ltb}
use Rattle.adlb_unit.specs.Links.{is_within, place_of}
use Rattle.adlb_unit.specs.Targets.{home}
use Rattle.adlb_unit.specs.declared.actors.Actor.{Actor}
use Rattle.adlb_unit.specs.declared.actors.Actor.TheVariants as by
use Rattle.adlb_unit.specs.declared.letters.Letter.{Letter}
use Rattle.adlb_unit.specs.declared.messages.Message.{Message}
use Rattle.adlb_unit.specs.declared.messages.Message.TheVariants as tells
use Rattle.adlb_unit.specs.declared.names.CommonRef.{CommonRef}
use Rattle.adlb_unit.specs.declared.names.Rank.{Rank}
use Rattle.adlb_unit.specs.declared.names.Server.{Server}
use Rattle.adlb_unit.specs.declared.names.WorkType.{WorkType}
use Rattle.adlb_unit.specs.declared.notes.UnitNote.{UnitNote}
use Rattle.bag_ledger.specs.Bag.{Bag, rank_at}
use Rattle.bag_ledger.specs.declared.states.RankState.{RankState}
use Rattle.bag_ledger.specs.declared.states.Status.TheVariants as is_at
use Rattle.bag_ledger.proofs.Tests.{some_is}
use Rattle.rank_client.specs.Agreement.{in_call, own_fetched, rank_of}
use Rattle.rank_client.specs.Rules.{is_idle}
use Rattle.rank_client.specs.State.{ClientModel}
use Rattle.rank_client.specs.declared.pendings.Pending.{Pending}
use Rattle.rank_client.specs.declared.pendings.Pending.TheVariants as waits_for
use Rattle.core_run.specs.World.{World, client_of, link, pool_of}
use Rattle.core_law.specs.Lawful.{IsSeat}
use Rattle.core_law.specs.Letters.{any_remote_letter, call_letter, is_request, one, one_letter}
use Rattle.core_law.specs.Measures.{measure, weights}
use Rattle.core_law.specs.Well.{IsWell}
use Rattle.core_law.proofs.EveryRun.{inside_ranks}
use Rattle.core_law.proofs.Fifo.{front_held}
use Rattle.core_law.proofs.NotWaiting.{waits_nowhere_beside}
use Rattle.core_law.proofs.OwedByRanks.{letters_are}
use Rattle.core_law.proofs.RankSteps.{IsNotOf}
use Rattle.core_check_law.specs.Settling.{AsksAs, IsResting}
use Rattle.core_check_law.proofs.Lists.{each_has, home_below, wished_entry}

-- What the bag's status says of the client.

abbrev Ends : RankState → Type 0
Ends x = x.status ≡ is_at.Finished

fetch_runs : (c : ClientModel) (request : ℕ) (note : UnitNote) (o : Option CommonRef) → Ends (own_fetched c request note o) → ⊥
fetch_runs c request note None e = absurd (cc)
fetch_runs c request note (Some common) e = absurd (cc)

runs_on : (c : ClientModel) (p : Pending) (coming : Option Message) → Ends (in_call c p coming) → ⊥
runs_on c waits_for.Nothing coming e = absurd (cc)
runs_on c (waits_for.Put unit first tried) None e = absurd (cc)
runs_on c (waits_for.Put unit first tried) (Some (tells.Full to charge)) e = absurd (cc)
runs_on c (waits_for.Put unit first tried) (Some (tells.Ended to end)) e = absurd (cc)
runs_on c (waits_for.Put unit first tried) (Some _) e = absurd (cc)
runs_on c (waits_for.Reserve request types) None e = absurd (cc)
runs_on c (waits_for.Reserve request types) (Some (tells.Ended to end)) e = absurd (cc)
runs_on c (waits_for.Reserve request types) (Some _) e = absurd (cc)
runs_on c (waits_for.Try request types tried) None e = absurd (cc)
runs_on c (waits_for.Try request types tried) (Some (tells.Nothing to)) e = absurd (cc)
runs_on c (waits_for.Try request types tried) (Some (tells.Ended to end)) e = absurd (cc)
runs_on c (waits_for.Try request types tried) (Some _) e = absurd (cc)
runs_on c (waits_for.Fetch request note) None e = absurd (cc)
runs_on c (waits_for.Fetch request note) (Some m) e = fetch_runs c request note note.common e
runs_on c (waits_for.Common request note common own) None e = absurd (cc)
runs_on c (waits_for.Common request note common own) (Some m) e = absurd (cc)
runs_on c (waits_for.Keep request common first tried) None e = absurd (cc)
runs_on c (waits_for.Keep request common first tried) (Some (tells.Full to charge)) e = absurd (cc)
runs_on c (waits_for.Keep request common first tried) (Some (tells.Ended to end)) e = absurd (cc)
runs_on c (waits_for.Keep request common first tried) (Some _) e = absurd (cc)
runs_on c (waits_for.Close request batch) None e = absurd (cc)
runs_on c (waits_for.Close request batch) (Some m) e = absurd (cc)
runs_on c (waits_for.Count request kind) None e = absurd (cc)
runs_on c (waits_for.Count request kind) (Some m) e = absurd (cc)
runs_on c (waits_for.SetDone request tried) coming e = absurd (cc)

-- a rank that has finished in the bag has finished
pub has_ended : (c : ClientModel) (finished : Bool) (coming : Option Message) → Ends (rank_of c finished coming) → finished ≡ true
has_ended c true coming e = refl
has_ended c false coming e = absurd (runs_on c c.pending coming e)

-- it asks in this call, and nothing is decided of it
abbrev pub AsksFor : Pending → Option Message → ℕ → Option (List WorkType) → Type 0
AsksFor p coming request types = (coming ≡ None) × (p ≡ waits_for.Reserve request types)

abbrev Asks : RankState → ℕ → Option (List WorkType) → Type 0
Asks x q t = x.status ≡ is_at.Asking q t

fetch_asks : (c : ClientModel) (request : ℕ) (note : UnitNote) (o : Option CommonRef) (q : ℕ) (t : Option (List WorkType))
    → Asks (own_fetched c request note o) q t → ⊥
fetch_asks c request note None q t e = absurd (cc)
fetch_asks c request note (Some common) q t e = absurd (cc)

asks_in : (c : ClientModel) (p : Pending) (coming : Option Message) (q : ℕ) (t : Option (List WorkType)) → Asks (in_call c p coming) q t
    → AsksFor p coming q t
asks_in c waits_for.Nothing coming q t e = absurd (cc)
asks_in c (waits_for.Put unit first tried) None q t e = absurd (cc)
asks_in c (waits_for.Put unit first tried) (Some (tells.Full to charge)) q t e = absurd (cc)
asks_in c (waits_for.Put unit first tried) (Some (tells.Ended to end)) q t e = absurd (cc)
asks_in c (waits_for.Put unit first tried) (Some _) q t e = absurd (cc)
asks_in c (waits_for.Reserve request types) None q t e = (refl, cc)
asks_in c (waits_for.Reserve request types) (Some (tells.Ended to end)) q t e = absurd (cc)
asks_in c (waits_for.Reserve request types) (Some _) q t e = absurd (cc)
asks_in c (waits_for.Try request types tried) None q t e = absurd (cc)
asks_in c (waits_for.Try request types tried) (Some (tells.Nothing to)) q t e = absurd (cc)
asks_in c (waits_for.Try request types tried) (Some (tells.Ended to end)) q t e = absurd (cc)
asks_in c (waits_for.Try request types tried) (Some _) q t e = absurd (cc)
asks_in c (waits_for.Fetch request note) None q t e = absurd (cc)
asks_in c (waits_for.Fetch request note) (Some m) q t e = absurd (fetch_asks c request note note.common q t e)
asks_in c (waits_for.Common request note common own) None q t e = absurd (cc)
asks_in c (waits_for.Common request note common own) (Some m) q t e = absurd (cc)
asks_in c (waits_for.Keep request common first tried) None q t e = absurd (cc)
asks_in c (waits_for.Keep request common first tried) (Some (tells.Full to charge)) q t e = absurd (cc)
asks_in c (waits_for.Keep request common first tried) (Some (tells.Ended to end)) q t e = absurd (cc)
asks_in c (waits_for.Keep request common first tried) (Some _) q t e = absurd (cc)
asks_in c (waits_for.Close request batch) None q t e = absurd (cc)
asks_in c (waits_for.Close request batch) (Some m) q t e = absurd (cc)
asks_in c (waits_for.Count request kind) None q t e = absurd (cc)
asks_in c (waits_for.Count request kind) (Some m) q t e = absurd (cc)
asks_in c (waits_for.SetDone request tried) coming q t e = absurd (cc)

-- a rank that asks in the bag waits for this reserve
pub has_asked : (c : ClientModel) (finished : Bool) (coming : Option Message) (q : ℕ) (t : Option (List WorkType))
    → Asks (rank_of c finished coming) q t → AsksFor c.pending coming q t
has_asked c true coming q t e = absurd (cc)
has_asked c false coming q t e = asks_in c c.pending coming q t e

-- Of a rank at rest.

-- the state of a rank in the bag is read off its client
pub stands_as : (w : World) (b : Bag) (r : Rank) (coming : Option Message) → IsSeat w b r coming → (x : RankState) → rank_at b r ≡ Some x
    → rank_of (client_of w r) (client_of w r).finished coming ≡ x
stands_as w b r coming seat x here = some_is (sym seat.stands.rank ∙ ap (rank_at b) seat.named ∙ here)

-- the client of a rank that has finished in the bag has finished
pub client_ended : (w : World) (b : Bag) (r : Rank) (coming : Option Message) → IsSeat w b r coming → (x : RankState) → rank_at b r ≡ Some x
    → Ends x → (client_of w r).finished ≡ true
client_ended w b r coming seat x here e =
    let c = client_of w r in
    has_ended c c.finished coming (ap (λ (s : RankState). s.status) (stands_as w b r coming seat x here) ∙ e)

-- the client of a rank that has finished waits for nothing
pub client_ends : (w : World) (b : Bag) (r : Rank) (coming : Option Message) → IsWell w → r.0 < w.config.ranks → IsSeat w b r coming
    → (x : RankState) → rank_at b r ≡ Some x → Ends x → (client_of w r).pending ≡ waits_for.Nothing
client_ends w b r coming well within seat x here e = (well.own.ranks r within).rests (client_ended w b r coming seat x here e)

-- the client of a rank that asks in the bag waits for the answer of this reserve
pub client_asks : (w : World) (b : Bag) (r : Rank) (coming : Option Message) → IsSeat w b r coming → (x : RankState) → rank_at b r ≡ Some x
    → (asks : AsksAs w r x) → AsksFor (client_of w r).pending coming asks.0.request asks.0.types
client_asks w b r coming seat x here asks =
    let c = client_of w r in
    has_asked c c.finished coming asks.0.request asks.0.types
    (ap (λ (s : RankState). s.status) (stands_as w b r coming seat x here) ∙ asks.3)

-- Letters.

few_busy : (t : Bool) → one (not t) ≤ 1
few_busy true = omega arith
few_busy false = omega arith

module _ (w : World) (b : Bag) (well : IsWell w) (r : Rank) (inside : r.0 < w.config.ranks) (coming : Option Message)
    (seat : IsSeat w b r coming) (x : IsResting w b r) where
  abbrev c : ClientModel
  c = client_of w r

  -- none between the rank and a server is a letter of its call
  pub letter_never : (from to : Actor) (l : Letter) (rest : List Letter) → is_within w.config from ≡ true → is_within w.config to ≡ true
      → link w.links (place_of w.config from) (place_of w.config to) ≡ l ∷ rest → call_letter r from to l.message ≡ 1
      → any_remote_letter r from to l.message ≡ 0 → ⊥
  letter_never from to l rest f t front weighs apart = by_rests x.rests
    where
      all : measure (weights (one_letter r)) w ≡ one (not (is_idle c.pending))
      all = letters_are w r (inside_ranks w r well inside) (well.one r)

      some : 1 ≤ measure (weights (one_letter r)) w
      some = let held = front_held (weights (one_letter r)) w from to l rest well.shape f t front in omega arith

      by_rests : (x.state.status ≡ is_at.Finished) ⊎ AsksAs w r x.state → ⊥
      by_rests (inl e) =
          let ends = client_ends w b r coming well inside seat x.state x.here e in
          let idle : one (not (is_idle c.pending)) ≡ 0 = ap (λ (p : Pending). one (not (is_idle p))) ends in
          let n = some in
          let m = all in
          absurd (omega arith)
      by_rests (inr asks) =
          let n = some in
          let m = all in
          let few = few_busy (is_idle c.pending) in
          let at_home = home w.config r in
          let nowhere = waits_nowhere_beside w r from to l rest well f t front (omega arith) apart at_home (home_below w.config r) in
          let waiting = (pool_of w (home w.config r)).kept.parked.waiting in
          let e = wished_entry waiting asks.0 asks.1 in
          each_has (IsNotOf r) waiting e.0 nowhere e.1 (ap (λ y. y.rank) e.2 ∙ asks.2)

  -- it is ready for no call
  pub ready_never : c.pending ≡ waits_for.Nothing → c.finished ≡ false → ⊥
  ready_never idle going = by_rests x.rests
    where
      by_rests : (x.state.status ≡ is_at.Finished) ⊎ AsksAs w r x.state → ⊥
      by_rests (inl e) = let ended = client_ended w b r coming seat x.state x.here e in absurd (cc)
      by_rests (inr asks) = let pends = (client_asks w b r coming seat x.state x.here asks).1 in absurd (cc)

  -- a rank at rest has no request under way
  pub asks_never : (k : Server) (l : Letter) (rest : List Letter) → k.0 < w.config.servers
      → link w.links (place_of w.config (by.Rank r)) (place_of w.config (by.Server k)) ≡ l ∷ rest → is_request l.message ≡ true → ⊥
  asks_never k l rest here front asks =
      letter_never (by.Rank r) (by.Server k) l rest (lt-ltb r.0 w.config.ranks inside) (lt-ltb k.0 w.config.servers here) front
      (rw (asks, eq-eqb r.0 r.0 refl) refl) refl

  -- a rank at rest has no answer under way
  pub hears_never : (k : Server) (l : Letter) (rest : List Letter) → k.0 < w.config.servers
      → link w.links (place_of w.config (by.Server k)) (place_of w.config (by.Rank r)) ≡ l ∷ rest → ⊥
  hears_never k l rest here front =
      letter_never (by.Server k) (by.Rank r) l rest (lt-ltb k.0 w.config.servers here) (lt-ltb r.0 w.config.ranks inside) front
      (rw (eq-eqb r.0 r.0 refl) refl) refl
