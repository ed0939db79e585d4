-- Along every run from one server to another two hints of a rank are under way at most.
use Rattle.adlb_unit.specs.Links.{is_within, place_of}
use Rattle.adlb_unit.specs.Targets.{home, home_of}
use Rattle.adlb_unit.specs.declared.actors.Actor.{Actor}
use Rattle.adlb_unit.specs.declared.configs.Config.{Config}
use Rattle.adlb_unit.specs.declared.letters.Letter.{Letter}
use Rattle.adlb_unit.specs.declared.letters.Sending.{Sending}
use Rattle.adlb_unit.specs.declared.messages.Message.{Message}
use Rattle.adlb_unit.specs.declared.names.Rank.{Rank}
use Rattle.adlb_unit.specs.declared.names.Server.{Server}
use Rattle.adlb_unit.specs.declared.units.Unit.{Unit}
use Rattle.bag_ledger.specs.Runs.{note_of}
use Rattle.core_wish_law.proofs.Wishes.{AreSingle, KeepSingle, begins_single, few_wishes, fewer, off, single_kept, wishes_of}
use Rattle.core_wish_law.proofs.Wishes.{wishes_single}
use Rattle.core_check_law.proofs.Homes.{each_of_all}
use Rattle.core_check_law.proofs.Ticks.{after}
use Rattle.core_law.proofs.Actors.{pool_beside, pool_there}
use Rattle.core_law.proofs.Acts.{sent_each, sent_within, taken_off_links, taken_square, taken_weight}
use Rattle.core_law.proofs.Chains.{inside_after, pool_is}
use Rattle.core_law.proofs.Events.{IsChain, event_chain}
use Rattle.core_law.proofs.EveryRun.{answer_within, begins_well, call_within, pool_at, run_config, well_kept}
use Rattle.core_law.proofs.Fifo.{letters_for}
use Rattle.core_law.proofs.InLine.{empty_link}
use Rattle.core_law.proofs.OwedByRanks.{letters_are}
use Rattle.core_law.proofs.Steps.{A_call, A_request, An_answer, Does, Serves, happens_does, taken_shaped}
use Rattle.core_law.proofs.OwnStates.{fits_is}
use Rattle.core_law.proofs.Sums.{AreWithin, links_le, others_none, place_below}
use Rattle.core_law.proofs.UnderWay.{AllLinks, posted_links, taken_links, zero_on}
use Rattle.core_law.proofs.LettersAndActors.{act_well, inside_servers, own_of, tick_well}
use Rattle.core_law.specs.Acting.{AreActs, IsAct, acted, acted_all, taken_off, ticks}
use Rattle.core_law.specs.Letters.{any_remote_letter, call_letter, one, one_letter, remote_letter}
use Rattle.core_law.specs.Measures.{heard_weight, measure, said_weight, weigh, weights}
use Rattle.core_law.specs.OnLinks.{Each}
use Rattle.core_law.specs.Own.{IsWish}
use Rattle.core_law.specs.Pushed.{letters_of}
use Rattle.core_law.specs.Well.{IsSquare, IsWell}
use Rattle.core_progress_law.proofs.HintLines.{Split, answered, hint_weight, is_plain, next_split, none_early, none_yet, other_wishes}
use Rattle.core_progress_law.proofs.HintLines.{own_wish, plain_for, plain_split, rest_less, split, split_append, split_sum}
use Rattle.core_progress_law.proofs.HintsOnce.{few_hints, hints_of}
use Rattle.core_progress_law.proofs.Room.{at_most_one}
use Rattle.core_run.specs.Runs.{Runs}
use Rattle.core_run.specs.World.{Links, World, actors, after_rank, client_of, link, pool_of, rank_named, start, taken}
use Rattle.core_run.specs.declared.events.Event.{Event}
use Rattle.rank_client.specs.Rules.{is_idle}
use Rattle.rank_client.specs.Step.{Made}
use Rattle.server_components.specs.Parked.{is_by}
use Rattle.server_components.specs.declared.wishes.Wish.{Wish}
use Rattle.server_law.proofs.Waiters.{done_kept}
use Rattle.server_law.specs.Acts.{Act, Answers, Declines, Finds, Heard, Hints, ServerSaying, Shuts, does, says, takes, to_server, unwished}
use Rattle.server_law.specs.Acts.{wishes_after}
use Rattle.server_law.specs.Carried.{Served, done, posted, sends}
use Rattle.server_law.specs.Asks.{expects_ask}
use Rattle.server_law.specs.State.{Kept, ServerModel, is_home}
use Rattle.server_law.specs.Step.{next_stamp, raises, ticked}
use Rattle.server_law.specs.Sure.{TakeNone}
use Rattle.std.proofs.Common.{Bool, List, Some, [], ap, arith, cond, eqb, false, length, not, refl, subst, sym, true, ℕ, ◌++◌, ◌+◌, ◌<◌}
use Rattle.std.proofs.Common.{◌==◌, ◌∙◌, ◌∷◌, ◌≡◌, ◌≤◌}
use Rattle.std.proofs.lemmas.Bool.{and_parts, eq-eqb, eqb-true, lt-ltb, ltb-true}
use Rattle.std.proofs.lemmas.List.{length-set}
use Rattle.std.specs.Prelude.{nat_lt}
use Rattle.adlb_unit.specs.declared.actors.Actor.TheVariants as by
use Rattle.adlb_unit.specs.declared.messages.Message.TheVariants as tells

-- Between two servers, of each rank with its home at the second. At most one hint comes before the last answer, and one after it if the
-- first keeps no wish of the rank.

-- two hints of the rank at most, one before the last answer and one after it, if no wish is kept
pub record IsFew (ls : List Letter) (r : Rank) (kept : ℕ) : Type 0 where
  pub early : (split r.0 none_yet ls).early ≤ 1
  pub late : (split r.0 none_yet ls).late + kept ≤ 1

-- on one link
abbrev pub Few : World → Actor → Actor → List Letter → Type 0
Few w (by.Rank from) to ls = Prim.Unit {0}
Few w (by.Server from) (by.Rank to) ls = Prim.Unit {0}
Few w (by.Server from) (by.Server to) ls =
    (r : Rank) → home_of w.config.servers r ≡ to.0 → IsFew ls r (wishes_of r.0 (pool_of w from).kept.parked.wishes)

-- on all links
abbrev pub AreFew : World → Type 0
AreFew w = AllLinks (Few w) w.config w.links

-- without the front letter
few_rest : (w : World) (from to : Actor) (l : Letter) (rest : List Letter) → Few w from to (l ∷ rest) → Few w from to rest
few_rest w (by.Rank from) to l rest few = tt
few_rest w (by.Server from) (by.Rank to) l rest few = tt
few_rest w (by.Server from) (by.Server to) l rest few = λ r at_home.
    let was = few r at_home in
    let less = rest_less r.0 l rest in
    record { early = let a = was.early in let b = less.early in omega arith; late = let a = was.late in let b = less.late in omega arith }

-- where the servers keep the wishes that they kept
few_same : (w v : World) (from to : Actor) (ls : List Letter) → v.config ≡ w.config
    → ((k : Server) → from ≡ by.Server k → (pool_of v k).kept.parked.wishes ≡ (pool_of w k).kept.parked.wishes) → Few w from to ls
    → Few v from to ls
few_same w v (by.Rank from) to ls config same few = tt
few_same w v (by.Server from) (by.Rank to) ls config same few = tt
few_same w v (by.Server from) (by.Server to) ls config same few = λ r at_home.
    subst (λ (wishes : List Wish). IsFew ls r (wishes_of r.0 wishes)) (sym (same from refl))
    (few r (ap (λ (c : Config). home_of c.servers r) (sym config) ∙ at_home))

-- An act that is neither a hint nor an answer about a rank.

abbrev is_mute : Act → Bool
is_mute (Hints wish) = false
is_mute (Answers from wish unit) = false
is_mute (Declines from wish) = false
is_mute _ = true

abbrev loud : Actor → Actor → Message → ℕ
loud from to m = one (not (is_plain m))

mute_weighs : (a : Act) (s : ServerModel) (me : Server) → is_mute a ≡ true → said_weight loud me (says a s) ≡ 0
mute_weighs (Hints wish) s me mute = absurd (cc)
mute_weighs (Answers from wish unit) s me mute = absurd (cc)
mute_weighs (Declines from wish) s me mute = absurd (cc)
mute_weighs (Finds from t) s me mute = others_none loud me s tells.Exhaust (λ to. refl)
mute_weighs (Shuts from t) s me mute = others_none loud me s tells.Shutdown (λ to. refl)
mute_weighs _ s me mute = omega arith

plain_said : (me : Server) (ys : List ServerSaying) → said_weight loud me ys ≡ 0 → Each (λ (y : ServerSaying). is_plain y.message ≡ true) ys
plain_said me [] none = tt
plain_said me (y ∷ ys) none = (fits_is (is_plain y.message) (omega (arith, none)), plain_said me ys (omega (arith, none)))

mute_wishes : (a : Act) (wishes : List Wish) → is_mute a ≡ true → wishes_after a wishes ≡ wishes
mute_wishes (Hints wish) wishes mute = absurd (cc)
mute_wishes (Answers from wish unit) wishes mute = absurd (cc)
mute_wishes (Declines from wish) wishes mute = absurd (cc)
mute_wishes _ wishes mute = refl

-- a wish that is hinted is kept until then
abbrev IsKeptHint : Act → ServerModel → Type 0
IsKeptHint (Hints wish) s = 1 ≤ wishes_of wish.rank.0 s.kept.parked.wishes
IsKeptHint _ s = Prim.Unit {0}

module _ (w : World) (me : Server) (a : Act) (well : IsWell w) (is : IsAct w me a) (few : AreFew w) where
  abbrev s : ServerModel
  s = pool_of w me

  abbrev v : World
  v = acted w me a

  within : is_within w.config (by.Server me) ≡ true
  within = lt-ltb me.0 w.config.servers is.here

  off_links : Links
  off_links = taken_off w.config me w.links (takes a)

  off_few : AllLinks (Few w) w.config (taken_off w.config me w.links (takes a))
  off_few =
      taken_off_links (Few w) w.config me w.links (takes a) is.here is.front (well.shape).square
      (λ from l rest was. few_rest w from (by.Server me) l rest was) few

  own_wishes : (pool_of (acted w me a) me).kept.parked.wishes ≡ wishes_after a (pool_of w me).kept.parked.wishes
  own_wishes =
      ap (λ (t : ServerModel). t.kept.parked.wishes) (pool_is w me a (inside_servers w me well is.here))
      ∙ ap (λ (k : Kept). k.parked.wishes) (done_kept a (pool_of w me))

  -- what the letters of the act make of the links from this server, if something is so of each
  posted_few : (P : Actor → Actor → List Letter → Type 0) → AllLinks P w.config (taken_off w.config me w.links (takes a))
      → ((h : Server) (ls : List Letter) → is_within w.config (by.Server h) ≡ true → P (by.Server me) (by.Server h) ls
      → Few w (by.Server me) (by.Server h) ls → (r : Rank) → home_of w.config.servers r ≡ h.0
      → IsFew (ls ++ letters_for w.config (place_of w.config (by.Server h)) (sends a (pool_of w me))) r
      (wishes_of r.0 (wishes_after a (pool_of w me).kept.parked.wishes)))
      → AreFew (acted w me a)
  posted_few P all comes =
      posted_links (λ from to ls. P from to ls × Few w from to ls) (Few (acted w me a)) w.config
      (taken_off w.config me w.links (takes a)) (by.Server me) (sends a (pool_of w me))
      (taken_square w.config me w.links (takes a) is.here is.front (well.shape).square) within
      (sent_within w.config (does a (pool_of w me)) (says a (pool_of w me)) (own_of w me a well is).said)
      (λ to ls t both. by_to to ls t both.0 both.1)
      (λ from to ls differs both. few_same w (acted w me a) from to ls refl
      (λ k it. ap (λ (t : ServerModel). t.kept.parked.wishes) (pool_beside w me k (done a (pool_of w me))
      (λ e. differs (ap (place_of w.config) it ∙ ap (λ n. w.config.ranks + n) e)))) both.1)
      (λ from to f t. (all from to f t, off_few from to f t))
    where
      by_to : (to : Actor) (ls : List Letter) → is_within w.config to ≡ true → P (by.Server me) to ls → Few w (by.Server me) to ls
          → Few (acted w me a) (by.Server me) to (ls ++ letters_for w.config (place_of w.config to) (sends a (pool_of w me)))
      by_to (by.Rank to) ls t p was = tt
      by_to (by.Server to) ls t p was = λ r at_home.
          subst (λ (wishes : List Wish).
          IsFew (ls ++ letters_for w.config (place_of w.config (by.Server to)) (sends a (pool_of w me))) r (wishes_of r.0 wishes))
          (sym own_wishes) (comes to ls t p was r at_home)

  mute_few : is_mute a ≡ true → AreFew (acted w me a)
  mute_few mute = posted_few (λ from to ls. Prim.Unit {0}) (λ from to f t. tt)
      (λ h ls t p was r at_home.
      let same = split_append r.0 none_yet ls (letters_for w.config (place_of w.config (by.Server h)) (sends a (pool_of w me)))
      ∙ plain_split r.0 (split r.0 none_yet ls) (letters_for w.config (place_of w.config (by.Server h)) (sends a (pool_of w me)))
      (plain_for w.config (place_of w.config (by.Server h)) (sends a (pool_of w me))
      (sent_each (λ to m. is_plain m ≡ true) (does a (pool_of w me)) (says a (pool_of w me))
      (plain_said me (says a (pool_of w me)) (mute_weighs a (pool_of w me) me mute)))) in
      let wishes = ap (wishes_of r.0) (mute_wishes a (pool_of w me).kept.parked.wishes mute) in
      let before = was r at_home in
      record {
        early = let x = ap (λ (y : Split). y.early) same in let y = before.early in omega arith;
        late = let x = ap (λ (y : Split). y.late) same in let y = before.late in omega arith;
      })

-- A letter to one server.

abbrev Holds : Split → ℕ → Type 0
Holds x kept = (x.early ≤ 1) × (x.late + kept ≤ 1)

one_sent : (config : Config) (ls : List Letter) (r : Rank) (x : Sending) (b kept : ℕ)
    → (eqb (place_of config x.to) b ≡ true → Holds (next_split r.0 (split r.0 none_yet ls) x.letter.message) kept)
    → (eqb (place_of config x.to) b ≡ false → Holds (split r.0 none_yet ls) kept)
    → IsFew (ls ++ letters_for config b (x ∷ [])) r kept
one_sent config ls r x b kept there elsewhere = by_place (eqb (place_of config x.to) b) refl
  where
    by_place : (t : Bool) → eqb (place_of config x.to) b ≡ t → IsFew (ls ++ letters_for config b (x ∷ [])) r kept
    by_place true is =
        let same : split r.0 none_yet (ls ++ letters_for config b (x ∷ [])) ≡ next_split r.0 (split r.0 none_yet ls) x.letter.message =
        ap (λ (c : Bool). split r.0 none_yet (ls ++ cond c (x.letter ∷ []) [])) is ∙ split_append r.0 none_yet ls (x.letter ∷ []) in
        let holds = subst (λ (y : Split). Holds y kept) (sym same) (there is) in
        record { early = holds.0; late = holds.1 }
    by_place false is =
        let same : split r.0 none_yet (ls ++ letters_for config b (x ∷ [])) ≡ split r.0 none_yet ls =
        ap (λ (c : Bool). split r.0 none_yet (ls ++ cond c (x.letter ∷ []) [])) is ∙ split_append r.0 none_yet ls [] in
        let holds = subst (λ (y : Split). Holds y kept) (sym same) (elsewhere is) in
        record { early = holds.0; late = holds.1 }

fewer_of : (r : ℕ) (rank : Rank) (wishes : List Wish) → wishes_of r (unwished rank wishes) ≤ wishes_of r wishes
unfolding wishes_of
fewer_of r rank wishes = fewer (λ (w : Wish). one (w.rank.0 == r)) (λ w. not (is_by rank w)) wishes

gone : (r : ℕ) (rank : Rank) (wishes : List Wish) → (rank.0 == r) ≡ true → wishes_of r (unwished rank wishes) ≡ 0
gone r rank wishes is =
    subst (λ (n : ℕ). wishes_of n (unwished rank wishes) ≡ 0) (eqb-true rank.0 r is) (off rank wishes)

-- a hint: the wish goes
hint_holds : (x : Split) (rank : Rank) (r : ℕ) (wishes : List Wish) → Holds x (wishes_of r wishes) → 1 ≤ wishes_of rank.0 wishes
    → Holds (record { early = x.early; late = x.late + one (rank.0 == r) }) (wishes_of r (unwished rank wishes))
hint_holds x rank r wishes holds kept = by_rank (rank.0 == r) refl
  where
    by_rank : (b : Bool) → (rank.0 == r) ≡ b
        → Holds (record { early = x.early; late = x.late + one (rank.0 == r) }) (wishes_of r (unwished rank wishes))
    by_rank true is =
        let none = gone r rank wishes is in
        let its : one (rank.0 == r) ≡ 1 = ap one is in
        let some : 1 ≤ wishes_of r wishes = subst (λ (n : ℕ). 1 ≤ wishes_of n wishes) (eqb-true rank.0 r is) kept in
        (holds.0, omega (arith, holds.1))
    by_rank false is =
        let less = fewer_of r rank wishes in
        let its : one (rank.0 == r) ≡ 0 = ap one is in
        (holds.0, omega (arith, holds.1))

less_holds : (x : Split) (rank : Rank) (r : ℕ) (wishes : List Wish) → Holds x (wishes_of r wishes)
    → Holds x (wishes_of r (unwished rank wishes))
less_holds x rank r wishes holds = let less = fewer_of r rank wishes in (holds.0, omega (arith, holds.1))

-- an answer: the wish goes
answer_holds : (x : Split) (rank : Rank) (r : ℕ) (wishes : List Wish) → Holds x (wishes_of r wishes) → ((rank.0 == r) ≡ true → x.early ≡ 0)
    → Holds (answered (rank.0 == r) x) (wishes_of r (unwished rank wishes))
answer_holds x rank r wishes holds first = by_rank (rank.0 == r) refl
  where
    by_rank : (b : Bool) → (rank.0 == r) ≡ b → Holds (answered b x) (wishes_of r (unwished rank wishes))
    by_rank true is =
        let none = gone r rank wishes is in let early = first is in (omega (arith, holds.1), omega arith)
    by_rank false is = less_holds x rank r wishes holds

-- the answer that there is no unit: the wish is kept
none_holds : (x : Split) (wish : Wish) (r : ℕ) (wishes : List Wish) → Holds x (wishes_of r wishes)
    → ((wish.rank.0 == r) ≡ true → x.early ≡ 0)
    → Holds (answered (wish.rank.0 == r) x) (wishes_of r (unwished wish.rank wishes ++ wish ∷ []))
none_holds x wish r wishes holds first = by_rank (wish.rank.0 == r) refl
  where
    by_rank : (b : Bool) → (wish.rank.0 == r) ≡ b → Holds (answered b x) (wishes_of r (unwished wish.rank wishes ++ wish ∷ []))
    by_rank true is =
        let none = gone r wish.rank wishes is in
        let early = first is in
        let sum = own_wish r wish (unwished wish.rank wishes) in
        let its : one (wish.rank.0 == r) ≡ 1 = ap one is in
        (omega (arith, holds.1), omega arith)
    by_rank false is =
        let less = fewer_of r wish.rank wishes in
        let sum = own_wish r wish (unwished wish.rank wishes) in
        let its : one (wish.rank.0 == r) ≡ 0 = ap one is in
        (holds.0, omega (arith, holds.1))

other_holds : (x : Split) (wish : Wish) (r : ℕ) (wishes : List Wish) → Holds x (wishes_of r wishes) → (wish.rank.0 == r) ≡ false
    → Holds x (wishes_of r (unwished wish.rank wishes ++ wish ∷ []))
other_holds x wish r wishes holds is =
    let less = fewer_of r wish.rank wishes in
    let sum = own_wish r wish (unwished wish.rank wishes) in
    let its : one (wish.rank.0 == r) ≡ 0 = ap one is in
    (holds.0, omega (arith, holds.1))

-- Acts.

remote_less : (r : Rank) (from to : Actor) (m : Message) → any_remote_letter r from to m ≤ call_letter r from to m
remote_less r (by.Server from) (by.Server to) m = omega arith
remote_less r (by.Server from) (by.Rank to) m = omega arith
remote_less r (by.Rank from) to m = omega arith

module _ (w : World) (me : Server) (well : IsWell w) (few : AreFew w) where
  abbrev k : List Wish
  k = (pool_of w me).kept.parked.wishes

  hints_few : (wish : Wish) → IsAct w me (Hints wish) → 1 ≤ wishes_of wish.rank.0 (pool_of w me).kept.parked.wishes
      → AreFew (acted w me (Hints wish))
  hints_few wish is kept =
      posted_few w me (Hints wish) well is few (λ from to ls. Prim.Unit {0}) (λ from to f t. tt)
      (λ h ls t p was r at_home.
      let before = was r at_home in
      one_sent w.config ls r
      (posted (does (Hints wish) (pool_of w me)) (to_server (home (pool_of w me).config wish.rank) (tells.Hint wish.rank wish.request)))
      (place_of w.config (by.Server h)) (wishes_of r.0 (unwished wish.rank k))
      (λ e. hint_holds (split r.0 none_yet ls) wish.rank r.0 k (before.early, before.late) kept)
      (λ e. less_holds (split r.0 none_yet ls) wish.rank r.0 k (before.early, before.late)))

  -- where the server is asked for a rank, no answer about it is under way
  quiet_of : (a : Act) → IsAct w me a → (rank : Rank) → rank.0 < w.config.ranks → heard_weight (any_remote_letter rank) me (takes a) ≡ 1
      → (h : Server) → is_within w.config (by.Server h) ≡ true
      → Each (λ (l : Letter). remote_letter rank l.message ≡ 0)
      (link (taken_off w.config me w.links (takes a)) (place_of w.config (by.Server me)) (place_of w.config (by.Server h)))
  unfolding measure
  quiet_of a is rank low heard h t =
      let m = letters_of (any_remote_letter rank) in
      let square = taken_square w.config me w.links (takes a) is.here is.front (well.shape).square in
      let took = taken_weight w.config m me w.links (takes a) is.here is.front (well.shape).square in
      let long = (well.shape).ranks in
      let all = letters_are w rank (omega arith) (well.one rank) in
      let most = at_most_one (not (is_idle (client_of w rank).pending)) in
      let less = links_le w.config m (weights (one_letter rank)) w.links (remote_less rank) in
      let zeros = zero_on m w.config (taken_off w.config me w.links (takes a)) square (omega arith) in
      zeros.each (by.Server me) (by.Server h) (lt-ltb me.0 w.config.servers is.here) t

  abbrev Quiet : Rank → Actor → Actor → List Letter → Type 0
  Quiet rank from to ls = (from ≡ by.Server me) → (h : Server) → (to ≡ by.Server h)
      → Each (λ (l : Letter). remote_letter rank l.message ≡ 0) ls

  all_quiet : (a : Act) → IsAct w me a → (rank : Rank) → rank.0 < w.config.ranks → heard_weight (any_remote_letter rank) me (takes a) ≡ 1
      → AllLinks (Quiet rank) w.config (taken_off w.config me w.links (takes a))
  all_quiet a is rank low heard from to f t from_is h to_is =
      subst (λ (b : Actor). Each (λ (l : Letter). remote_letter rank l.message ≡ 0)
      (link (taken_off w.config me w.links (takes a)) (place_of w.config from) (place_of w.config b))) (sym to_is)
      (subst (λ (b : Actor). Each (λ (l : Letter). remote_letter rank l.message ≡ 0)
      (link (taken_off w.config me w.links (takes a)) (place_of w.config b) (place_of w.config (by.Server h)))) (sym from_is)
      (quiet_of a is rank low heard h (subst (λ (b : Actor). is_within w.config b ≡ true) to_is t)))

  early_none : (rank r : Rank) (ls : List Letter) → Each (λ (l : Letter). remote_letter rank l.message ≡ 0) ls → (rank.0 == r.0) ≡ true
      → (split r.0 none_yet ls).early ≡ 0
  early_none rank r ls quiet same =
      subst (λ (n : ℕ). (split n none_yet ls).early ≡ 0) (eqb-true rank.0 r.0 same) (none_early rank none_yet ls quiet refl)

  asked_low : (from : Server) (rank : Rank) (a : Act) → IsAct w me a → expects_ask (pool_of w me) from rank ≡ true
      → (rank.0 < w.config.ranks) × (home_of w.config.servers rank ≡ from.0)
  asked_low from rank a is asked =
      let parts = and_parts (nat_lt rank.0 (pool_of w me).config.ranks) (is_home (pool_of w me).config from rank) asked in
      let config = (own_of w me a well is).config in
      let low = ltb-true rank.0 (pool_of w me).config.ranks parts.0 in
      let same = ap (λ (c : Config). c.ranks) config in (
        omega arith,
        ap (λ (c : Config). home_of c.servers rank) (sym config)
            ∙ eqb-true (home_of (pool_of w me).config.servers rank) from.0 parts.1,
      )

  answers_few : (from : Server) (wish : Wish) (unit : Unit) → IsAct w me (Answers from wish unit)
      → AreFew (acted w me (Answers from wish unit))
  answers_few from wish unit is =
      let asked = asked_low from wish.rank (Answers from wish unit) is is.sure.0 in
      posted_few w me (Answers from wish unit) well is few (Quiet wish.rank)
      (all_quiet (Answers from wish unit) is wish.rank asked.0 (rw (eq-eqb wish.rank.0 wish.rank.0 refl) refl))
      (λ h ls t quiet was r at_home.
      let before = was r at_home in
      one_sent w.config ls r
      (posted (does (Answers from wish unit) (pool_of w me))
      (to_server from (tells.AskGrant wish.rank wish.request (note_of (pool_of w me).me unit)))) (place_of w.config (by.Server h))
      (wishes_of r.0 (unwished wish.rank k))
      (λ e. answer_holds (split r.0 none_yet ls) wish.rank r.0 k (before.early, before.late)
      (early_none wish.rank r ls (quiet refl h refl)))
      (λ e. less_holds (split r.0 none_yet ls) wish.rank r.0 k (before.early, before.late)))

  declines_few : (from : Server) (wish : Wish) → IsAct w me (Declines from wish) → AreFew (acted w me (Declines from wish))
  declines_few from wish is =
      let asked = asked_low from wish.rank (Declines from wish) is is.sure.0 in
      posted_few w me (Declines from wish) well is few (Quiet wish.rank)
      (all_quiet (Declines from wish) is wish.rank asked.0 (rw (eq-eqb wish.rank.0 wish.rank.0 refl) refl))
      (λ h ls t quiet was r at_home.
      let before = was r at_home in
      one_sent w.config ls r
      (posted (does (Declines from wish) (pool_of w me)) (to_server from (tells.AskNone wish.rank wish.request)))
      (place_of w.config (by.Server h)) (wishes_of r.0 (unwished wish.rank k ++ wish ∷ []))
      (λ e. none_holds (split r.0 none_yet ls) wish r.0 k (before.early, before.late) (early_none wish.rank r ls (quiet refl h refl)))
      (λ e. other_holds (split r.0 none_yet ls) wish r.0 k (before.early, before.late)
      (away h r at_home asked.1 e (wish.rank.0 == r.0) refl)))
    where
      -- the rank's home is told
      away : (h : Server) (r : Rank) → home_of w.config.servers r ≡ h.0 → home_of w.config.servers wish.rank ≡ from.0
          → eqb (place_of w.config (by.Server from)) (place_of w.config (by.Server h)) ≡ false → (b : Bool) → (wish.rank.0 == r.0) ≡ b
          → (wish.rank.0 == r.0) ≡ false
      away h r at_home asked far false is = is
      away h r at_home asked far true is =
          let same : wish.rank ≡ r = ap rank_named (eqb-true wish.rank.0 r.0 is) in
          let there : from.0 ≡ h.0 = sym asked ∙ ap (home_of w.config.servers) same ∙ at_home in
          let near = eq-eqb (place_of w.config (by.Server from)) (place_of w.config (by.Server h)) (ap (λ n. w.config.ranks + n) there) in
          let bad : false ≡ true = sym far ∙ near in
          absurd (cc)

  act_few : (a : Act) → IsAct w me a → IsKeptHint a (pool_of w me) → AreFew (acted w me a)
  act_few (Hints wish) is kept = hints_few wish is kept
  act_few (Answers from wish unit) is kept = answers_few from wish unit is
  act_few (Declines from wish) is kept = declines_few from wish is
  act_few a is kept = by_mute a is refl
    where
      by_mute : (a : Act) → IsAct w me a → is_mute a ≡ true → AreFew (acted w me a)
      by_mute a is mute = mute_few w me a well is few mute

-- Acts that follow: each hint is of a wish that is kept until then.

hint_kept : (a : Act) (s : ServerModel) (more : List Act) → ((r : ℕ) → hints_of r (a ∷ more) ≤ wishes_of r s.kept.parked.wishes)
    → IsKeptHint a s
hint_kept (Hints wish) s more kept =
    let all = kept wish.rank.0 in
    let its : one (wish.rank.0 == wish.rank.0) ≡ 1 = rw (eq-eqb wish.rank.0 wish.rank.0 refl) refl in
    omega arith
hint_kept _ s more kept = tt

rest_kept : (a : Act) (wishes : List Wish) (more : List Act) (r : ℕ) → takes a ≡ [] → wishes_of r wishes ≤ 1
    → hints_of r (a ∷ more) ≤ wishes_of r wishes → hints_of r more ≤ wishes_of r (wishes_after a wishes)
rest_kept (Hints wish) wishes more r none single kept = by_rank (wish.rank.0 == r) refl
  where
    by_rank : (b : Bool) → (wish.rank.0 == r) ≡ b → hints_of r more ≤ wishes_of r (unwished wish.rank wishes)
    by_rank true is = let its : one (wish.rank.0 == r) ≡ 1 = ap one is in omega arith
    by_rank false is =
        let its : one (wish.rank.0 == r) ≡ 0 = ap one is in
        let same = other_wishes wish.rank r wishes (λ e. let bad : false ≡ true = sym is ∙ eq-eqb wish.rank.0 r e in absurd (cc)) in
        omega arith
rest_kept (Answers from wish unit) wishes more r none single kept = absurd (cc)
rest_kept (Declines from wish) wishes more r none single kept = absurd (cc)
rest_kept _ wishes more r none single kept = omega (arith, kept)

follow_few : (w : World) (me : Server) (list : List Act) → IsWell w → AreActs w me list → TakeNone list → me.0 < length w.servers → AreFew w
    → AreSingle (pool_of w me).kept.parked.wishes → ((r : ℕ) → hints_of r list ≤ wishes_of r (pool_of w me).kept.parked.wishes)
    → AreFew (acted_all w me list)
follow_few w me [] well are none inside few single kept = few
follow_few w me (a ∷ more) well are none inside few single kept =
    let own = own_wishes w me a well are.0 few in
    follow_few (acted w me a) me more (act_well w me a well are.0) are.1 none.1 (inside_after w me a inside)
    (act_few w me well few a are.0 (hint_kept a (pool_of w me) more kept))
    (subst AreSingle (sym own) (wishes_single a (pool_of w me).kept.parked.wishes single))
    (λ r. subst (λ (ws : List Wish). hints_of r more ≤ wishes_of r ws) (sym own)
    (rest_kept a (pool_of w me).kept.parked.wishes more r none.0 (single r) (kept r)))

-- An event of a server.

first_kept : (a : Act) (s : ServerModel) (h : Heard) → takes a ≡ h ∷ [] → IsKeptHint a s
first_kept (Hints wish) s h is = absurd (cc)
first_kept _ s h is = tt

event_few : (w next : World) (from : Actor) (me : Server) (letter : Letter) (rest : List Letter) (x : Served) → IsWell w → KeepSingle w
    → Serves w from me letter rest x next → AreFew w → AreFew next
event_few w next from me letter rest x well once serving few =
    subst AreFew (sym (chain.is ∙ ap (acted_all v me) chain.shape))
    (follow_few (acted v me chain.first) me chain.more (act_well v me chain.first well_v are.0) are.1 chain.follow
    (inside_after v me chain.first inside_v)
    (act_few v me well_v few_v chain.first are.0
    (first_kept chain.first (pool_of v me) (record { from = chain.from; message = chain.message }) chain.takes))
    (subst AreSingle (sym (own_wishes v me chain.first well_v are.0 few_v))
    (wishes_single chain.first (pool_of v me).kept.parked.wishes
    (subst (λ (s : ServerModel). AreSingle s.kept.parked.wishes) (sym pool_v) (once me serving.here))))
    (λ r. subst (λ (s : ServerModel). hints_of r chain.more ≤ wishes_of r s.kept.parked.wishes)
    (sym (pool_is v me chain.first inside_v ∙ ap (done chain.first) pool_v))
    (few_hints t chain.first chain.more r chain.from chain.message short (chain.acts ∙ ap Some chain.shape))))
  where
    stamp : ℕ
    stamp = next_stamp (pool_of w me) letter

    up : Bool
    up = raises letter.message

    v : World
    v = ticks w me stamp up

    t : ServerModel
    t = ticked (pool_of w me) stamp up

    inside : me.0 < length w.servers
    inside = inside_servers w me well serving.here

    chain : IsChain w next me stamp up
    chain = event_chain w next from me letter rest x inside (well.own.servers me serving.here).wishes serving

    well_v : IsWell v
    well_v = tick_well w me stamp up serving.here well

    pool_v : pool_of v me ≡ t
    pool_v = pool_there w me t inside

    inside_v : me.0 < length v.servers
    inside_v = let e = length-set w.servers me.0 t in omega arith

    are : AreActs v me (chain.first ∷ chain.more)
    are = subst (AreActs v me) chain.shape chain.are

    few_v : AreFew v
    few_v = λ a b f g.
        few_same w v a b (link w.links (place_of w.config a) (place_of w.config b)) refl
        (λ k it. ap (λ (y : Kept). y.parked.wishes) (after w me stamp up well serving.here k).kept) (few a b f g)

    short : length (pool_of w me).kept.parked.wishes ≤ 32
    short =
        let all = few_wishes w.config me (pool_of w me).kept.parked.wishes
        (each_of_all (IsWish w.config me) (pool_of w me).kept.parked.wishes (well.own.servers me serving.here).wishes)
        (once me serving.here) in
        let top = w.config.ranks_within.1 in
        omega arith

-- A run.

rank_few : (w : World) (me : Rank) (links : Links) (x : Made) → me.0 < w.config.ranks → IsSquare (actors w.config) links
    → AreWithin w.config x.sends → AllLinks (Few w) w.config links → AreFew (after_rank w me links x)
rank_few w me links x here square are few =
    posted_links (Few w) (Few (after_rank w me links x)) w.config links (by.Rank me) x.sends square (lt-ltb me.0 w.config.ranks here) are
    (λ to ls t p. tt) (λ from to ls differs p. few_same w (after_rank w me links x) from to ls refl (λ k it. refl) p) few

few_next : (w next : World) → IsWell w → KeepSingle w → AreFew w → Does w next → AreFew next
few_next w next well once few (A_call {me = me} {call = call} {x = x} does) =
    subst AreFew (sym does.is)
    (rank_few w me w.links x does.here (well.shape).square (call_within w next me call x well.own does) few)
few_next w next well once few (An_answer {from = from} {me = me} {letter = letter} {rest = rest} {x = x} does) =
    let f : is_within w.config (by.Server from) ≡ true = lt-ltb from.0 w.config.servers does.there in
    let t : is_within w.config (by.Rank me) ≡ true = lt-ltb me.0 w.config.ranks does.here in
    let square = (taken_shaped w (by.Server from) (by.Rank me) rest well.shape f t).square in
    subst AreFew (sym does.is)
    (rank_few w me (taken w (by.Server from) (by.Rank me) rest) x does.here square
    (answer_within w next from me letter rest x well.own does)
    (taken_links (Few w) w.config w.links (by.Server from) (by.Rank me) letter rest (well.shape).square f t does.front (λ p. tt) few))
few_next w next well once few (A_request {from = from} {me = me} {letter = letter} {rest = rest} {x = x} does) =
    event_few w next from me letter rest x well once does few

begins_few : (config : Config) → AreFew (start config)
unfolding wishes_of
begins_few config from to f t =
    subst (λ (ls : List Letter). Few (start config) from to ls)
    (sym (empty_link (actors config) (place_of config from) (place_of config to) (place_below config from f))) (none from to f)
  where
    none : (from to : Actor) → is_within config from ≡ true → Few (start config) from to []
    none (by.Rank from) to f = tt
    none (by.Server from) (by.Rank to) f = tt
    none (by.Server from) (by.Server to) f = λ r at_home.
        subst (λ (s : ServerModel). IsFew [] r (wishes_of r.0 s.kept.parked.wishes))
        (sym (pool_at config from (ltb-true from.0 config.servers f)))
        (empty r)
      where
        empty : (r : Rank) → IsFew [] r (wishes_of r.0 [])
        empty r = record { early = omega arith; late = omega arith }

run_few : (w last : World) (events : List Event) → IsWell w → KeepSingle w → AreFew w → Runs w events last → AreFew last
run_few w last [] well once few run = subst AreFew run few
run_few w last (e ∷ events) well once few run =
    let does = happens_does w run.0 e run.1 in
    run_few run.0 last events (well_kept w run.0 well does) (single_kept w run.0 well once does) (few_next w run.0 well once few does) run.2

-- hints of the rank under way from one server to another
unfoldable pub hints_on : World → Server → Server → Rank → ℕ
hints_on w from to r =
    weigh (λ (l : Letter). hint_weight r.0 l.message) (link w.links (place_of w.config (by.Server from)) (place_of w.config (by.Server to)))

-- so there are two at most
pub two_hints : (config : Config) (events : List Event) (w : World) (from to : Server) (r : Rank) → from.0 < config.servers
    → to.0 < config.servers → Runs (start config) events w → home_of config.servers r ≡ to.0 → hints_on w from to r ≤ 2
unfolding hints_on
two_hints config events w from to r low there run at_home =
    let config_is = run_config (start config) w events run in
    let servers = ap (λ (c : Config). c.servers) config_is in
    let f : is_within w.config (by.Server from) ≡ true = lt-ltb from.0 w.config.servers (omega arith) in
    let t : is_within w.config (by.Server to) ≡ true = lt-ltb to.0 w.config.servers (omega arith) in
    let few = run_few (start config) w events (begins_well config) (begins_single config) (begins_few config) run (by.Server from)
    (by.Server to) f t r
    (ap (λ (c : Config). home_of c.servers r) config_is ∙ at_home) in
    let sum = split_sum r.0 none_yet (link w.links (place_of w.config (by.Server from)) (place_of w.config (by.Server to))) in
    let a = few.early in
    let b = few.late in
    omega arith
