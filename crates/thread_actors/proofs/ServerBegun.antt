-- What is known of a server's journal whatever it met.
use Rattle.std.proofs.Common.{◌≡◌, ◌<◌, ◌==◌, ◌+◌, ◌&&◌, ℕ, zero, suc, Bool, true, false, cond, not, nat_lt, List, [], ◌∷◌, ◌++◌, map}
use Rattle.std.proofs.Common.{filter, flat_map, Option, Some, None, inl, inr, refl, ap, sym, ◌∙◌, subst, append-nil, arith}
use Rattle.std.specs.List.{AllByRecursion as Each, range_with_len}
use Rattle.std.proofs.lemmas.Bool.{eq-eqb, eqb-true}
use Rattle.std.proofs.lemmas.Bool.Decides.{nat_tests}
use Rattle.std.proofs.lemmas.List.Concat.{flat_map-append}
use Rattle.adlb_unit.specs.Limits.{stamp_limit}
use Rattle.adlb_unit.specs.Links.{place_of}
use Rattle.adlb_unit.specs.declared.configs.Config.{Config}
use Rattle.adlb_unit.specs.declared.letters.Letter.{Letter}
use Rattle.adlb_unit.specs.declared.letters.Sending.{Sending}
use Rattle.adlb_unit.specs.declared.messages.Message.{Message}
use Rattle.adlb_unit.specs.declared.names.Server.{Server}
use Rattle.adlb_unit.specs.declared.notes.Trouble.{Trouble}
use Rattle.merge_history.specs.Events.{Event}
use Rattle.merge_history.specs.Own.{PoolWalks, got, letters_to, sent}
use Rattle.rank_mail.specs.declared.posted.Posted.{Posted}
use Rattle.rank_mail.specs.Mailboxes.{letters_of}
use Rattle.server_law.specs.State.{ServerModel, start}
use Rattle.actor_desk.specs.Desks.{Begins, DeskModel, IsNew, Tallies, is_told, received, sent_at}
use Rattle.actor_desk.proofs.Letters.{letters_of_more, received_is}
use Rattle.thread_actors.specs.Faults.{told}
use Rattle.thread_actors.specs.World.{actors, rank_named, server_named}
use Rattle.thread_actors.specs.declared.faults.ActorFault.{ActorFault}
use Rattle.thread_actors.specs.ServerJobs.{Ended, EndsAs, IsBroken, abort_to, all_told, awaits_answer, broken_to, came, tells_of}
use Rattle.thread_actors.specs.ServerJobs.{told_by_answer, told_ranks, told_servers, waits_for}
use Rattle.thread_actors.specs.inside.Serving.{Follows}

-- The letters that came.

came_of : (config : Config) (from : ℕ) (es : List Event)
    → letters_of from (flat_map (λ (e : Event). received config e.cause) es) ≡ got config from es
came_of config from [] = refl
came_of config from (e ∷ es) =
    letters_of_more from (received config e.cause) (flat_map (λ (x : Event). received config x.cause) es)
    ∙ (λ i. received_is config from e.cause i ++ came_of config from es i)

-- with one event more
pub came_more : (old new : DeskModel) (e : Event) → new.config ≡ old.config → new.events ≡ old.events ++ e ∷ []
    → came new ≡ came old ++ received old.config e.cause
came_more old new e config events =
    (λ i. flat_map (λ (x : Event). received (config i) x.cause) (events i))
    ∙ flat_map-append (λ (x : Event). received old.config x.cause) old.events (e ∷ [])
    ∙ ap (λ l. came old ++ l) (append-nil (received old.config e.cause))

-- At the start.

pub new_follows : (config : Config) (me : Server) (number : ℕ) (d : DeskModel) (s : ServerModel) → IsNew config number d
    → s ≡ start config me → Follows d [] s
new_follows config me number d s new is = record {
  whole = ap (λ (x : ServerModel). x.trouble) is;
  within = subst (λ (x : ServerModel). x.clock < stamp_limit) (sym is) (omega arith);
  tallies = new.tallies;
  walks =
      subst (λ (es : List Event). PoolWalks d.config (start d.config s.me) es s) (sym new.empty)
      ((λ i. start (new.config_is i) (ap (λ (x : ServerModel). x.me) is i)) ∙ sym is);
  got =
      new.unread ∙ ap (λ (es : List Event). flat_map (λ (e : Event). received d.config e.cause) es ++ []) (sym new.empty);
}

-- A letter more is received.

pub follows_received : (d e : DeskModel) (x : Posted) (s : ServerModel) → e ≡ record d { got = d.got ++ x ∷ [] }
    → (Tallies d [] → Tallies e (x ∷ [])) → Follows d [] s → Follows e (x ∷ []) s
follows_received d e x s same tallies was = record {
  whole = was.whole;
  within = was.within;
  tallies = tallies was.tallies;
  walks = subst (λ (y : DeskModel). PoolWalks y.config (start y.config s.me) y.events s) (sym same) was.walks;
  got =
      ap (λ (y : DeskModel). y.got) same
      ∙ ap (λ l. l ++ x ∷ []) (was.got ∙ append-nil (came d))
      ∙ ap (λ (y : DeskModel). came y ++ x ∷ []) (sym same);
}

-- Where it broke.

first_of_its : (x : Posted) (later : List Posted) → letters_of x.from (x ∷ later) ≡ x.letter ∷ letters_of x.from later
first_of_its x later =
    let rest = filter (λ (p : Posted). p.from == x.from) later in
    ap (λ (t : Bool). map (λ (p : Posted). p.letter) (cond t (x ∷ rest) rest)) (eq-eqb x.from x.from refl)

-- the letter that broke it is the next of its sender that the journal has not got
pub comes_next : (me : Server) (d : DeskModel) (last : ServerModel) (fault : ActorFault) (own : Bool) (was : IsBroken me d last fault own)
    → letters_of was.letter.from d.got
    ≡ got d.config was.letter.from d.events ++ was.letter.letter ∷ letters_of was.letter.from was.later
comes_next me d last fault own was =
    let x = was.letter in
    ap (letters_of x.from) was.got
    ∙ letters_of_more x.from (came d) (x ∷ was.later)
    ∙ (λ i. came_of d.config x.from d.events i ++ first_of_its x was.later i)

-- What it tells besides its events.

-- it says so to an actor of this kind, and no event sends it
abbrev Tells : Config → ℕ → Message → Type 0
Tells config to message = (tells_of config to message ≡ true) × (is_told message ≡ true)

-- the letter does so
abbrev TellsIt : Config → Sending → Type 0
TellsIt config y = Tells config (place_of config y.to) y.letter.message

each_both : (P : Sending → Type 0) (xs ys : List Sending) → Each P xs → Each P ys → Each P (xs ++ ys)
each_both P [] ys a b = b
each_both P (x ∷ xs) ys a b = (a.0, each_both P xs ys a.1 b)

each_named : {A : Type 0} (P : Sending → Type 0) (told : A → Sending) (test : A → Bool) (named : ℕ → A) (low n : ℕ)
    → ((k : ℕ) → k < low + n → P (told (named k))) → Each P (map told (filter test (map named (range_with_len low n))))
each_named P told test named low zero holds = tt
each_named {A} P told test named low (suc n) holds =
    by_test (test (named low)) (each_named P told test named (low + 1) n (λ k below. holds k (omega (arith, below))))
  where
    rest : List A
    rest = filter test (map named (range_with_len (low + 1) n))

    by_test : (t : Bool) → Each P (map told rest) → Each P (map told (cond t (named low ∷ rest) rest))
    by_test true all = (holds low (omega arith), all)
    by_test false all = all

low_rank : (n k : ℕ) → k < n → nat_lt k n ≡ true
low_rank n k low = grind (arith, nat_tests)

no_rank : (n k : ℕ) → not (nat_lt (n + k) n) ≡ true
no_rank n k = grind (arith, nat_tests)

answer_tells : (config : Config) (trouble : Trouble) (y : Posted) → Each (TellsIt config) (told_by_answer config trouble y)
answer_tells config trouble y = by_test (nat_lt y.from config.ranks) (awaits_answer y.letter.message) refl
  where
    by_test : (low asks : Bool) → nat_lt y.from config.ranks ≡ low
        → Each (TellsIt config) (cond (low && asks) (broken_to trouble (rank_named y.from) ∷ []) [])
    by_test true true is = ((is, refl), tt)
    by_test true false is = tt
    by_test false asks is = tt

answers_tell : (config : Config) (trouble : Trouble) (later : List Posted)
    → Each (TellsIt config) (flat_map (told_by_answer config trouble) later)
answers_tell config trouble [] = tt
answers_tell config trouble (y ∷ later) =
    each_both (TellsIt config) (told_by_answer config trouble y) (flat_map (told_by_answer config trouble) later)
    (answer_tells config trouble y) (answers_tell config trouble later)

all_tell : (config : Config) (me : Server) (s : ServerModel) (x : Posted) (later : List Posted) (trouble : Trouble)
    → Each (TellsIt config) (all_told config me s x later trouble)
all_tell config me s x later trouble =
    let first = told_servers config me trouble in
    let second = told_ranks config s x trouble in
    let rest = flat_map (told_by_answer config trouble) later in
    each_both (TellsIt config) first (second ++ rest)
    (each_named (TellsIt config) (abort_to trouble) (λ (t : Server). not (t.0 == me.0)) server_named 0 config.servers
    (λ k low. (no_rank config.ranks k, refl)))
    (each_both (TellsIt config) second rest
    (each_named (TellsIt config) (broken_to trouble) (waits_for s x) rank_named 0 config.ranks
    (λ k low. (low_rank config.ranks k (omega (arith, low)), refl)))
    (answers_tell config trouble later))

letters_tell : (config : Config) (to : ℕ) (sends : List Sending) → Each (TellsIt config) sends
    → Each (λ (l : Letter). Tells config to l.message) (letters_to config to sends)
letters_tell config to [] all = tt
letters_tell config to (y ∷ sends) all = by_test (place_of config y.to == to) refl (letters_tell config to sends all.1)
  where
    others : List Sending
    others = filter (λ (z : Sending). place_of config z.to == to) sends

    by_test : (t : Bool) → (place_of config y.to == to) ≡ t
        → Each (λ (l : Letter). Tells config to l.message) (map (λ (z : Sending). z.letter) others)
        → Each (λ (l : Letter). Tells config to l.message) (map (λ (z : Sending). z.letter) (cond t (y ∷ others) others))
    by_test true here rest =
        (subst (λ (n : ℕ). Tells config n y.letter.message) (eqb-true (place_of config y.to) to here) all.0, rest)
    by_test false there rest = rest

each_weaker : (P Q : Letter → Type 0) (ls : List Letter) → ((l : Letter) → P l → Q l) → Each P ls → Each Q ls
each_weaker P Q [] to all = tt
each_weaker P Q (l ∷ ls) to all = (to l all.0, each_weaker P Q ls to all.1)

-- what its mailboxes have after its events, where it broke
told_after : (me : Server) (d : DeskModel) (last : ServerModel) (fault : ActorFault) (own : Bool) → IsBroken me d last fault own
    → (to : ℕ) → to < actors d.config
    → (more : List Letter) × (sent_at d to ≡ sent d.config to d.events ++ more) × Each (λ (l : Letter). Tells d.config to l.message) more
told_after me d last fault own was to low =
    let all = all_told d.config me last was.letter was.later (told fault) in (
      letters_to d.config to all,
      was.sends to low,
      letters_tell d.config to all (all_tell d.config me last was.letter was.later (told fault)),
    )

-- they begin with what the journal has, where it broke
pub broken_begins : (me : Server) (d : DeskModel) (last : ServerModel) (fault : ActorFault) (own : Bool) → IsBroken me d last fault own
    → Begins d
broken_begins me d last fault own was = record {
  sends = λ to low.
      let after = told_after me d last fault own was to low in (
        after.0,
        after.1,
        each_weaker (λ l. Tells d.config to l.message) (λ l. is_told l.message ≡ true) after.0 (λ l both. both.1) after.2,
      );
  receives = λ from low. (
    letters_of from (was.letter ∷ was.later),
    ap (λ l. l ++ letters_of from (was.letter ∷ was.later)) (sym (came_of d.config from d.events))
        ∙ sym (letters_of_more from (came d) (was.letter ∷ was.later)) ∙ ap (letters_of from) (sym was.got),
  );
}

-- besides its events a server tells ranks that it broke, and servers to break too
pub tells_kind : (config : Config) (me : Server) (e : Ended) → EndsAs config me e → (to : ℕ) → to < actors config
    → (more : List Letter) × (sent_at e.desk to ≡ sent config to e.desk.events ++ more)
    × Each (λ (l : Letter). tells_of config to l.message ≡ true) more
tells_kind config me e ends to low = by_fault e.fault refl
  where
    low_there : to < actors e.desk.config
    low_there = subst (λ (c : Config). to < actors c) (sym ends.config_is) low

    whole : Tallies e.desk []
        → (more : List Letter) × (sent_at e.desk to ≡ sent config to e.desk.events ++ more)
        × Each (λ (l : Letter). tells_of config to l.message ≡ true) more
    whole tallies = (
      [],
      tallies.sends to low_there ∙ ap (λ (c : Config). sent c to e.desk.events) ends.config_is
          ∙ sym (append-nil (sent config to e.desk.events)),
      tt,
    )

    by_fault : (o : Option ActorFault) → e.fault ≡ o
        → (more : List Letter) × (sent_at e.desk to ≡ sent config to e.desk.events ++ more)
        × Each (λ (l : Letter). tells_of config to l.message ≡ true) more
    by_fault None is = whole (ends.own is).tallies
    by_fault (Some fault) is = elim (ends.broken fault is) [
      | inl broken ↦
          let after = told_after me e.desk ends.begun.last fault e.own broken to low_there in (
            after.0,
            after.1 ∙ ap (λ (c : Config). sent c to e.desk.events ++ after.0) ends.config_is,
            subst (λ (c : Config). Each (λ (l : Letter). tells_of c to l.message ≡ true) after.0) ends.config_is
                (each_weaker (λ l. Tells e.desk.config to l.message) (λ l. tells_of e.desk.config to l.message ≡ true) after.0
                (λ l both. both.0) after.2),
          )
      | inr left ↦ whole left.3.tallies
    ]
