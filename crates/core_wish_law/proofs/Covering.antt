-- Along every run each other server has what it has to have of a rank that waits.
use Rattle.server_law.proofs.Places.{none_found}
use Rattle.server_law.specs.Step.{ticked}
use Rattle.core_check_law.proofs.Ticks.{after}
use Rattle.server_law.proofs.Calm.{first_is}
use Rattle.adlb_unit.specs.Links.{is_within, place_of}
use Rattle.adlb_unit.specs.Targets.{home_of}
use Rattle.adlb_unit.specs.declared.actors.Actor.{Actor}
use Rattle.adlb_unit.specs.declared.configs.Config.{Config}
use Rattle.adlb_unit.specs.declared.letters.Letter.{Letter}
use Rattle.adlb_unit.specs.declared.letters.Sending.{Sending}
use Rattle.adlb_unit.specs.declared.messages.Message.{Message}
use Rattle.adlb_unit.specs.declared.names.Rank.{Rank}
use Rattle.adlb_unit.specs.declared.names.Server.{Server}
use Rattle.adlb_unit.specs.declared.names.WorkType.{WorkType}
use Rattle.bag_ledger.proofs.Tests.{some_is}
use Rattle.core_check_law.proofs.Homes.{each_of_all}
use Rattle.core_check_law.proofs.Lists.{each_has, has_at, has_filter}
use Rattle.core_check_law.specs.Settling.{Has}
use Rattle.core_law.proofs.Actors.{pool_there}
use Rattle.core_law.proofs.CalmServers.{every_run_calm}
use Rattle.core_law.proofs.Chains.{inside_after, pool_is}
use Rattle.core_law.proofs.Events.{IsChain, event_chain}
use Rattle.core_law.proofs.EveryRun.{answer_within, call_within, every_run_well, pool_at, run_config}
use Rattle.core_law.proofs.Lawful.{Lawful, every_run_lawful}
use Rattle.core_law.proofs.OwedByRanks.{no_sum}
use Rattle.core_law.proofs.Remote.{remote_awaits}
use Rattle.core_law.proofs.Steps.{A_call, A_request, An_answer, Does, Serves, happens_does, rank_weight, taken_shaped}
use Rattle.core_law.proofs.Sums.{AreWithin, front_goes, links_le}
use Rattle.core_law.proofs.UnderWay.{at_front}
use Rattle.core_law.proofs.LettersAndActors.{act_well, inside_servers, tick_well}
use Rattle.core_law.specs.Acting.{AreActs, AreFront, IsAct, acted, acted_all, ticks}
use Rattle.core_law.specs.Lawful.{IsOfRemote, IsWaiting, OfCall}
use Rattle.core_law.specs.Letters.{one, remotes_letter}
use Rattle.core_law.specs.Measures.{measure, sends_weight}
use Rattle.core_law.specs.Own.{IsEntry}
use Rattle.core_law.specs.Well.{IsShaped, IsWell}
use Rattle.core_wish_law.proofs.Pools.{snoc}
use Rattle.core_wish_law.proofs.Covered.{AllCovered, Covers, HintsKept, about_self, cover_about, cover_letter, covers, follow_covered}
use Rattle.core_wish_law.proofs.Taken.{IsRight, first_covered}
use Rattle.core_bound_law.proofs.Wishes.{AreSingle, KeepSingle, begins_single, single_kept, wishes_single}
use Rattle.core_wish_law.proofs.Having.{single_same}
use Rattle.core_wish_law.specs.News.{IsCovered, is_news, news}
use Rattle.core_run.specs.Runs.{Runs}
use Rattle.core_run.specs.World.{World, after_rank, client_of, happens, link, pool_of, rank_named, server_named, start, taken}
use Rattle.core_run.specs.declared.events.Event.{Event}
use Rattle.rank_client.specs.Step.{Made}
use Rattle.rank_client.specs.declared.pendings.Pending.{Pending}
use Rattle.server_components.specs.Calls.{is_since}
use Rattle.server_components.specs.Parked.{is_by, is_of}
use Rattle.server_components.specs.declared.waits.Waiting.{Waiting}
use Rattle.server_components.specs.declared.wishes.Wish.{Wish}
use Rattle.server_law.proofs.Decided.{decided_hints_none, ends_event_hints_none}
use Rattle.server_law.proofs.Handled.{acts_handle}
use Rattle.server_law.proofs.Waiters.{done_kept, one as weighed}
use Rattle.server_law.specs.Acts.{Act, Answers, Declines, Drops_hint, Heard, Hints, Is_hinted, does, of_server, takes, wishes_after}
use Rattle.server_law.specs.Asks.{answer_now, ask_rule, expects_ask}
use Rattle.server_law.specs.Calm.{WaitOnce}
use Rattle.server_law.specs.Carried.{Served, done}
use Rattle.server_law.specs.Endings.{ends_event}
use Rattle.server_law.specs.Expected.{IsUnanswered}
use Rattle.server_law.specs.Finding.{Place, place_in}
use Rattle.server_law.specs.Hints.{expects_hint, hint_at, hint_rule}
use Rattle.server_law.specs.Plan.{decided, in_order, plan}
use Rattle.server_law.specs.State.{Kept, ServerModel, is_home}
use Rattle.server_law.specs.Step.{acts, next_stamp, raises}
use Rattle.server_law.specs.Sure.{AreHintsOf, IsHintOf, TakeNone}
use Rattle.std.proofs.Common.{Bool, List, None, Option, Some, [], ap, arith, cond, false, inl, inr, length, not, refl, subst, sym, true, ℕ}
use Rattle.std.proofs.Common.{◌++◌, ◌+◌, ◌<◌, ◌==◌, ◌∙◌, ◌∷◌, ◌≡◌, ◌≢◌, ◌≤◌, ◌⊎◌}
use Rattle.std.proofs.lemmas.Bool.{and_parts, eq-eqb, eqb-true, lt-ltb, ltb-true}
use Rattle.std.proofs.lemmas.List.{length-set}
use Rattle.std.proofs.lemmas.List.Sums.{sum_by-cons}
use Rattle.std.specs.Option.{option_map}
use Rattle.std.specs.Prelude.{Any, count_by, nat_lt}
use Rattle.adlb_unit.specs.declared.actors.Actor.TheVariants as by
use Rattle.adlb_unit.specs.declared.messages.Message.TheVariants as tells
use Rattle.rank_client.specs.declared.pendings.Pending.TheVariants as waits_for

-- Acts that follow.

follow_all : (w : World) (me : Server) (W : List Wish) (list : List Act) → IsWell w → w.config.servers ≢ 1 → AllCovered w
    → AreActs w me list
    → TakeNone list → AreHintsOf W list → AreSingle W → me.0 < length w.servers
    → ((x : Wish) → Has (pool_of w me).kept.parked.wishes x → Has W x) → AllCovered (acted_all w me list)
follow_all w me W [] well several covered are none hints single inside sub = covered
follow_all w me W (a ∷ more) well several covered are none hints single inside sub =
    follow_all (acted w me a) me W more (act_well w me a well are.0) several
    (follow_covered w me well covered several a are.0 none.0 (only a hints.0)) are.1 none.1 hints.1 single (inside_after w me a inside)
    (λ x has. sub x
    (fewer a none.0 x
    (subst (λ (k : Kept). Has k.parked.wishes x)
    (ap (λ (y : ServerModel). y.kept) (pool_is w me a inside) ∙ done_kept a (pool_of w me)) has)))
  where
    any_is : (ws : List Wish) (wish : Wish) → Any (λ (u : Wish). u ≡ wish) ws → Has ws wish
    any_is ws wish any = subst (Has ws) any.4 (has_at ws any.0 any.1 any.2 any.3)

    only : (a : Act) → IsHintOf W a → HintsKept a (pool_of w me)
    only (Hints wish) of =
        λ x has same. single_same W wish.rank.0 (single wish.rank.0) x wish (sub x has) (any_is W wish of)
        (eqb-true x.rank.0 wish.rank.0 same) refl
    only _ of = tt

    fewer : (a : Act) → takes a ≡ [] → (x : Wish) → Has (wishes_after a (pool_of w me).kept.parked.wishes) x
        → Has (pool_of w me).kept.parked.wishes x
    fewer (Hints wish) silent x has = has_filter (λ y. not (is_by wish.rank y)) (pool_of w me).kept.parked.wishes x has
    fewer (Answers from wish unit) silent x has = absurd (cc)
    fewer (Declines from wish) silent x has = absurd (cc)
    fewer _ silent x has = has

-- What is right of the act that takes a letter.

once_same : (s : ServerModel) (x y : Waiting) → WaitOnce s → Has s.kept.parked.waiting x → Has s.kept.parked.waiting y
    → x.wish.rank.0 ≡ y.wish.rank.0 → x ≡ y
once_same s x y once a b same = by_list s.kept.parked.waiting (once y.wish.rank) a b
  where
    some : (es : List Waiting) (z : Waiting) → Has es z → z.wish.rank.0 ≡ y.wish.rank.0 → 0 < count_by (is_of y.wish.rank) es
    some [] z none e = absurd none
    some (u ∷ us) z (inl it) e =
        let sum = sum_by-cons (λ k. weighed (is_of y.wish.rank k)) u us in
        let own : weighed (is_of y.wish.rank u) ≡ 1 =
        ap (λ (k : Waiting). weighed (is_of y.wish.rank k)) it ∙ ap weighed (eq-eqb z.wish.rank.0 y.wish.rank.0 e) in
        omega arith
    some (u ∷ us) z (inr more) e =
        let sum = sum_by-cons (λ k. weighed (is_of y.wish.rank k)) u us in let later = some us z more e in omega arith

    by_list : (es : List Waiting) → count_by (is_of y.wish.rank) es ≤ 1 → Has es x → Has es y → x ≡ y
    by_list [] few none b = absurd none
    by_list (u ∷ us) few a b = by_place a b (by_list us)
      where
        sum : count_by (is_of y.wish.rank) (u ∷ us) ≡ weighed (is_of y.wish.rank u) + count_by (is_of y.wish.rank) us
        sum = sum_by-cons (λ k. weighed (is_of y.wish.rank k)) u us

        first : (z : Waiting) → u ≡ z → z.wish.rank.0 ≡ y.wish.rank.0 → weighed (is_of y.wish.rank u) ≡ 1
        first z it e = ap (λ (k : Waiting). weighed (is_of y.wish.rank k)) it ∙ ap weighed (eq-eqb z.wish.rank.0 y.wish.rank.0 e)

        by_place : (u ≡ x) ⊎ Has us x → (u ≡ y) ⊎ Has us y → (count_by (is_of y.wish.rank) us ≤ 1 → Has us x → Has us y → x ≡ y) → x ≡ y
        by_place (inl i) (inl j) later = sym i ∙ j
        by_place (inl i) (inr j) later =
            let all = sum in let here = first x i same in let more = some us y j refl in absurd (omega arith)
        by_place (inr i) (inl j) later =
            let all = sum in let here = first y j refl in let more = some us x i same in absurd (omega arith)
        by_place (inr i) (inr j) later = let all = sum in later (omega arith) i j

same_wish : (x y : Wish) → x.rank ≡ y.rank → x.request ≡ y.request → x.types ≡ y.types → x ≡ y
same_wish x y a b c =
    let one_is : x ≡ record { rank = y.rank; request = x.request; types = x.types } = ap
    (λ (k : Rank). record { rank = k; request = x.request; types = x.types }) a in
    let two : record { rank = y.rank; request = x.request; types = x.types }
    ≡ record { rank = y.rank; request = y.request; types = x.types } =
    ap (λ (n : ℕ). record { rank = y.rank; request = n; types = x.types }) b in
    let three : record { rank = y.rank; request = y.request; types = x.types } ≡ y =
    ap (λ (t : Option (List WorkType)). record { rank = y.rank; request = y.request; types = t }) c in
    one_is ∙ two ∙ three

abbrev types_of : Pending → Option (List WorkType)
types_of (waits_for.Reserve request types) = types
types_of _ = None

module _ (w : World) (well : IsWell w) (lawful : Lawful w) (once : (t : Server) → t.0 < w.config.servers → WaitOnce (pool_of w t)) where
  -- a front letter that asks for a rank
  pub ask_right : (from me : Server) (wish : Wish) (l : Letter) (rest : List Letter) → from.0 < w.config.servers → me.0 < w.config.servers
      → is_home w.config from wish.rank ≡ true → wish.rank.0 < w.config.ranks
      → link w.links (place_of w.config (by.Server from)) (place_of w.config (by.Server me)) ≡ l ∷ rest
      → l.message ≡ tells.Ask wish.rank wish.request wish.types
      → (h : Server) → h.0 < w.config.servers → (e : Waiting) → Has (pool_of w h).kept.parked.waiting e → e.wish.rank.0 ≡ wish.rank.0
      → (h ≡ from) × (e.wish ≡ wish)
  ask_right from me wish l rest there here at_home inside front what h low e has same =
      (home_is, same_wish e.wish wish rank_is call_is types_is)
    where
      rank_is : e.wish.rank ≡ wish.rank
      rank_is = ap rank_named same

      entry : IsEntry w.config h e
      entry =
          each_has (IsEntry w.config h) (pool_of w h).kept.parked.waiting e
          (each_of_all (IsEntry w.config h) (pool_of w h).kept.parked.waiting (well.own.servers h low).waiting) has

      home_is : h ≡ from
      home_is =
          ap server_named (sym (eqb-true (home_of w.config.servers e.wish.rank) h.0 entry.here) ∙ ap (home_of w.config.servers) rank_is
          ∙ eqb-true (home_of w.config.servers wish.rank) from.0 at_home)

      f : is_within w.config (by.Server from) ≡ true
      f = lt-ltb from.0 w.config.servers there

      g : is_within w.config (by.Server me) ≡ true
      g = lt-ltb me.0 w.config.servers here

      weighs : remotes_letter from me wish.rank wish.request (by.Server from) (by.Server me) l.message ≡ 1
      weighs = ap (remotes_letter from me wish.rank wish.request (by.Server from) (by.Server me)) what
          ∙ about_self from me wish.rank wish.request

      awaits : IsUnanswered (pool_of w from) me wish.rank wish.request
      awaits = remote_awaits w from me wish.rank wish.request (by.Server from) (by.Server me) l rest well there f g front weighs

      call_is : e.wish.request ≡ wish.request
      call_is =
          let other = has_at (pool_of w from).kept.parked.waiting awaits.0 awaits.1 awaits.2 awaits.3 in
          let mine = subst (λ (k : Server). Has (pool_of w k).kept.parked.waiting e) home_is has in
          let it : e ≡ awaits.1 =
          once_same (pool_of w from) e awaits.1 (once from there) mine other (same ∙ ap (λ (k : Rank). k.0) (sym awaits.4.0)) in
          ap (λ (x : Waiting). x.wish.request) it ∙ awaits.4.1

      types_is : e.wish.types ≡ wish.types
      types_is =
          let its = (lawful.1).seats wish.rank inside in
          let seat = its.1 in
          let of_call = at_front (OfCall (client_of w wish.rank) its.0) w.config w.links (by.Server from)
          (by.Server me) l rest seat.letters f g front in
          let of_ask : IsOfRemote (client_of w wish.rank) its.0 (tells.Ask wish.rank wish.request wish.types) =
          subst (λ (m : Message). IsOfRemote (client_of w wish.rank) its.0 m) what of_call in
          let asks = (of_ask (sym seat.named)).1 in
          let waits_it = (each_has (IsWaiting (client_of w wish.rank) its.0) (pool_of w h).kept.parked.waiting e (seat.waits h low) has
          (rank_is ∙ sym seat.named)).0 in
          ap types_of (sym waits_it ∙ asks)

-- What the rules say.

tail_of : List Act → List Act
tail_of [] = []
tail_of (a ∷ more) = more

head_is : (a : Act) → List Act → Act
head_is a [] = a
head_is a (b ∷ more) = b

ask_hints : (t : ServerModel) (from : Actor) (rank : Rank) (request : ℕ) (types : Option (List WorkType)) (a : Act) (more : List Act)
    (W : List Wish)
    → acts t from (tells.Ask rank request types) ≡ Some (a ∷ more) → AreHintsOf W more
unfolding tail_of
ask_hints t (by.Rank from) rank request types a more W is = absurd (cc)
ask_hints t (by.Server from) rank request types a more W is = by_self (from.0 == t.me.0) is
  where
    wish : Wish
    wish = record { rank = rank; request = request; types = types }

    by_test : (b : Bool) → option_map (in_order ends_event t) (cond b (plan (answer_now t.kept from wish) []) None) ≡ Some (a ∷ more)
        → AreHintsOf W more
    by_test false e = absurd (cc)
    by_test true e =
        let u = done (answer_now t.kept from wish) t in
        let same : decided ends_event u ≡ more = ap tail_of (some_is e) in
        subst (AreHintsOf W) same (decided_hints_none ends_event W u ends_event_hints_none)

    by_self : (b : Bool) → option_map (in_order ends_event t) (cond b None (ask_rule t from wish)) ≡ Some (a ∷ more) → AreHintsOf W more
    by_self true e = absurd (cc)
    by_self false e = by_test (expects_ask t from rank) e

abbrev is_drop : Act → Bool
is_drop (Drops_hint from rank request) = true
is_drop _ = false

late_hint : (t : ServerModel) (from : Server) (rank : Rank) (request : ℕ) (a : Act) (more : List Act)
    → acts t (by.Server from) (tells.Hint rank request) ≡ Some (a ∷ more) → is_drop a ≡ true → (e : Waiting) → Has t.kept.parked.waiting e
    → is_since rank request e ≡ false
unfolding head_is
late_hint t from rank request a more is drops e has = by_self (from.0 == t.me.0) is
  where
    by_place : (o : Option Place) → place_in (is_since rank request) t.kept.parked.waiting ≡ o
        → option_map (in_order ends_event t) (hint_at from rank request o) ≡ Some (a ∷ more) → is_since rank request e ≡ false
    by_place None none same =
        each_has (λ x. is_since rank request x ≡ false) t.kept.parked.waiting e
        (each_of_all (λ x. is_since rank request x ≡ false) t.kept.parked.waiting
        (none_found (is_since rank request) t.kept.parked.waiting none)) has
    by_place (Some p) some same =
        let first : Is_hinted p.at p.here from ≡ a = ap (head_is a) (some_is same) in
        let no : false ≡ true = ap is_drop first ∙ drops in
        absurd (cc)

    by_test : (b : Bool) → option_map (in_order ends_event t)
        (cond b (hint_at from rank request (place_in (is_since rank request) t.kept.parked.waiting)) None) ≡ Some (a ∷ more)
        → is_since rank request e ≡ false
    by_test false same = absurd (cc)
    by_test true same = by_place (place_in (is_since rank request) t.kept.parked.waiting) refl same

    by_self : (b : Bool) → option_map (in_order ends_event t) (cond b None (hint_rule t from rank request)) ≡ Some (a ∷ more)
        → is_since rank request e ≡ false
    by_self true same = absurd (cc)
    by_self false same = by_test (expects_hint t rank) same

-- An event of a server.

module _ (w next : World) (from : Actor) (me : Server) (letter : Letter) (rest : List Letter) (x : Served) (well : IsWell w)
    (lawful : Lawful w)
    (once : (t : Server) → t.0 < w.config.servers → WaitOnce (pool_of w t)) (single : KeepSingle w) (several : w.config.servers ≢ 1)
    (covered : AllCovered w) (does : Serves w from me letter rest x next) where
  abbrev stamp : ℕ
  stamp = next_stamp (pool_of w me) letter

  abbrev up : Bool
  up = raises letter.message

  abbrev v : World
  v = ticks w me stamp up

  abbrev t0 : ServerModel
  t0 = ticked (pool_of w me) stamp up

  inside : me.0 < length w.servers
  inside = inside_servers w me well does.here

  inside_v : me.0 < length v.servers
  inside_v = let same = length-set w.servers me.0 t0 in let i = inside in omega arith

  pool_v : pool_of v me ≡ t0
  pool_v = pool_there w me t0 inside

  chain : IsChain w next me stamp up
  chain = event_chain w next from me letter rest x inside (well.own.servers me does.here).wishes does

  its : (k : Server) → (pool_of v k).kept ≡ (pool_of w k).kept
  its k = (after w me stamp up well does.here k).kept

  well_v : IsWell v
  well_v = tick_well w me stamp up does.here well

  covered_v : AllCovered v
  unfolding AllCovered
  covered_v h t low there differs e has =
      by_cover (covered h t low there differs e (subst (λ (k : Kept). Has k.parked.waiting e) (its h) has))
    where
      by_cover : Covers w h t e → Covers v h t e
      by_cover (inl keeps) = inl (subst (λ (k : Kept). Has k.parked.wishes e.wish) (sym (its t)) keeps)
      by_cover (inr (inl to_ask)) = inr (inl to_ask)
      by_cover (inr (inr some)) = inr (inr some)

  once_v : WaitOnce (pool_of v me)
  once_v = subst (λ (k : Kept). (rank : Rank) → count_by (is_of rank) k.parked.waiting ≤ 1) (sym (its me)) (once me does.here)

  asks : (k : Server) (wish : Wish) → AreFront v.config me v.links (of_server k (tells.Ask wish.rank wish.request wish.types) ∷ [])
      → expects_ask (pool_of v me) k wish.rank ≡ true
      → (h : Server) → h.0 < w.config.servers → (e : Waiting) → Has (pool_of v h).kept.parked.waiting e → e.wish.rank.0 ≡ wish.rank.0
      → (h ≡ k) × (e.wish ≡ wish)
  asks k wish front expected h low e has same =
      let parts = and_parts (nat_lt wish.rank.0 (pool_of v me).config.ranks) (is_home (pool_of v me).config k wish.rank) expected in
      let config : (pool_of v me).config ≡ w.config = (well_v.own.servers me does.here).config in
      let at_home = subst (λ (c : Config). is_home c k wish.rank ≡ true) config parts.1 in
      let low_rank = subst (λ (c : Config). nat_lt wish.rank.0 c.ranks ≡ true) config parts.0 in
      ask_right w well lawful once k me wish front.0 front.1 (ltb-true k.0 w.config.servers front.2) does.here at_home
      (ltb-true wish.rank.0 w.config.ranks low_rank) front.3 front.4 h low e (subst (λ (y : Kept). Has y.parked.waiting e) (its h) has) same

  right : (a : Act) (more : List Act) → IsAct v me a → acts (pool_of v me) chain.from chain.message ≡ Some (a ∷ more)
      → takes a ≡ record { from = chain.from; message = chain.message } ∷ [] → IsRight v me a
  right (Answers k wish unit) more is are takes_it = λ h low e has same. asks k wish is.front is.sure.0 h low e has same
  right (Declines k wish) more is are takes_it = λ h low e has same. asks k wish is.front is.sure.0 h low e has same
  right (Drops_hint k rank request) more is are takes_it =
      λ e has.
      let one_is = first_is takes_it in
      let who : by.Server k ≡ chain.from = ap (λ (h : Heard). h.from) one_is in
      let what : tells.Hint rank request ≡ chain.message = ap (λ (h : Heard). h.message) one_is in
      let are_it : acts (pool_of v me) (by.Server k) (tells.Hint rank request) ≡ Some (Drops_hint k rank request ∷ more) =
      ap (λ (f : Actor). acts (pool_of v me) f (tells.Hint rank request)) who ∙ ap (acts (pool_of v me) chain.from) what ∙ are in
      late_hint (pool_of v me) k rank request (Drops_hint k rank request) more are_it refl e has
  right _ more is are takes_it = tt

  hints : (a : Act) (more : List Act) → acts t0 chain.from chain.message ≡ Some (a ∷ more) → AreHintsOf t0.kept.parked.wishes more
      → takes a ≡ record { from = chain.from; message = chain.message } ∷ [] → AreHintsOf (wishes_after a t0.kept.parked.wishes) more
  hints (Hints wish) more are old takes_it = absurd (cc)
  hints (Answers k wish unit) more are old takes_it =
      let what : chain.message ≡ tells.Ask wish.rank wish.request wish.types = sym (ap (λ (h : Heard). h.message) (first_is takes_it)) in
      ask_hints t0 chain.from wish.rank wish.request wish.types (Answers k wish unit) more _ (ap (acts t0 chain.from) (sym what) ∙ are)
  hints (Declines k wish) more are old takes_it =
      let what : chain.message ≡ tells.Ask wish.rank wish.request wish.types = sym (ap (λ (h : Heard). h.message) (first_is takes_it)) in
      ask_hints t0 chain.from wish.rank wish.request wish.types (Declines k wish) more _ (ap (acts t0 chain.from) (sym what) ∙ are)
  hints _ more are old takes_it = old

  -- after an event each other server has what it needs of a rank that waits
  pub event_covered : AllCovered next
  event_covered =
      let a = chain.first in
      let more = chain.more in
      let are = subst (AreActs v me) chain.shape chain.are in
      let acts_t : acts t0 chain.from chain.message ≡ Some (a ∷ more) = chain.acts ∙ ap Some chain.shape in
      let acts_v : acts (pool_of v me) chain.from chain.message ≡ Some (a ∷ more) = ap
      (λ (y : ServerModel). acts y chain.from chain.message) pool_v ∙ acts_t in
      let handled = acts_handle t0 chain.from chain.message chain.list chain.acts in
      let old = subst (AreHintsOf t0.kept.parked.wishes) (sym handled.are ∙ chain.shape) handled.hints in
      let first = first_covered v me well_v covered_v once_v a (record { from = chain.from; message = chain.message }) are.0 chain.takes
      (right a more are.0 acts_v chain.takes) in
      let W : List Wish = wishes_after a t0.kept.parked.wishes in
      let wishes_are : (pool_of (acted v me a) me).kept.parked.wishes ≡ W =
      ap (λ (y : ServerModel). y.kept.parked.wishes) (pool_is v me a inside_v)
      ∙ ap (λ (k : Kept). k.parked.wishes) (done_kept a (pool_of v me))
      ∙ ap (λ (y : ServerModel). wishes_after a y.kept.parked.wishes) pool_v in
      let all = follow_all (acted v me a) me W more (act_well v me a well_v are.0) several first are.1 chain.follow
      (hints a more acts_t old.1 chain.takes) (wishes_single a t0.kept.parked.wishes (single me does.here)) (inside_after v me a inside_v)
      (λ y has. subst (λ l. Has l y) wishes_are has) in
      subst AllCovered (sym (chain.is ∙ ap (acted_all v me) chain.shape)) all

-- A rank's step.

rank_silent : (h t : Server) (r : Rank) (q : ℕ) (me : Rank) (sends : List Sending) → sends_weight (covers h t r q) (by.Rank me) sends ≡ 0
rank_silent h t r q me [] = refl
rank_silent h t r q me (y ∷ sends) = let later = rank_silent h t r q me sends in omega arith

rank_covered : (w : World) (me : Rank) (x : Made) → IsShaped w → me.0 < w.config.ranks → AreWithin w.config x.sends → AllCovered w
    → AllCovered (after_rank w me w.links x)
unfolding AllCovered measure
rank_covered w me x shape here within covered h t low there differs e has = by_cover (covered h t low there differs e has)
  where
    by_cover : Covers w h t e → Covers (after_rank w me w.links x) h t e
    by_cover (inl keeps) = inl keeps
    by_cover (inr (inl to_ask)) = inr (inl to_ask)
    by_cover (inr (inr some)) =
        let all = rank_weight (covers h t e.wish.rank e.wish.request) w me x shape here within in
        let said = rank_silent h t e.wish.rank e.wish.request me x.sends in
        let a = no_sum w.servers in
        let b = no_sum w.ranks in
        let c = no_sum (after_rank w me w.links x).ranks in
        inr (inr (omega arith))

front_covered : (w : World) (from : Server) (me : Rank) (l : Letter) (rest : List Letter) → IsShaped w
    → is_within w.config (by.Server from) ≡ true
    → is_within w.config (by.Rank me) ≡ true → link w.links (place_of w.config (by.Server from)) (place_of w.config (by.Rank me)) ≡ l ∷ rest
    → AllCovered w
    → AllCovered (record w { links = taken w (by.Server from) (by.Rank me) rest })
unfolding AllCovered
front_covered w from me l rest shape f g front covered h t low there differs e has = by_cover (covered h t low there differs e has)
  where
    by_cover : Covers w h t e → Covers (record w { links = taken w (by.Server from) (by.Rank me) rest }) h t e
    by_cover (inl keeps) = inl keeps
    by_cover (inr (inl to_ask)) = inr (inl to_ask)
    by_cover (inr (inr some)) =
        let goes = front_goes w.config (covers h t e.wish.rank e.wish.request) w.links (by.Server from)
        (by.Rank me) l rest shape.square f g front in
        inr (inr (omega arith))

-- A run.

module _ (config : Config) (several : 1 < config.servers) where
  next_covered : (w next : World) (events : List Event) (e : Event) → Runs (start config) events w → happens w e ≡ Some next
      → AllCovered w → KeepSingle w → AllCovered next
  next_covered w next events e run is covered single = by_does (happens_does w next e is)
    where
      well : IsWell w
      well = every_run_well config events w run

      by_does : Does w next → AllCovered next
      by_does (A_call {me = me} {call = call} {x = x} does) =
          subst AllCovered (sym does.is) (rank_covered w me x well.shape does.here (call_within w next me call x well.own does) covered)
      by_does (An_answer {from = from} {me = me} {letter = letter} {rest = rest} {x = x} does) =
          let f : is_within w.config (by.Server from) ≡ true = lt-ltb from.0 w.config.servers does.there in
          let g : is_within w.config (by.Rank me) ≡ true = lt-ltb me.0 w.config.ranks does.here in
          subst AllCovered (sym does.is)
          (rank_covered (record w { links = taken w (by.Server from) (by.Rank me) rest }) me x
          (taken_shaped w (by.Server from) (by.Rank me) rest well.shape f g)
          does.here (answer_within w next from me letter rest x well.own does)
          (front_covered w from me letter rest well.shape f g does.front covered))
      by_does (A_request {from = from} {me = me} {letter = letter} {rest = rest} {x = x} does) =
          let same = ap (λ (c : Config). c.servers) (run_config (start config) w events run) in
          event_covered w next from me letter rest x well (every_run_lawful config events w run)
          (λ t there. (every_run_calm config events w t (omega arith) run).0) single (λ e. absurd (omega arith)) covered does

  going_covered : (w last : World) (before events : List Event) → Runs (start config) before w → Runs w events last → AllCovered w
      → KeepSingle w
      → AllCovered last
  going_covered w last before [] run more covered single = subst AllCovered more covered
  going_covered w last before (e ∷ events) run more covered single =
      let next = more.0 in
      let does = happens_does w next e more.1 in
      going_covered next last (before ++ e ∷ []) events (snoc (start config) w next before e run more.1) more.2
      (next_covered w next before e run more.1 covered single) (single_kept w next (every_run_well config before w run) single does)

  begins_covered : AllCovered (start config)
  unfolding AllCovered
  begins_covered h t low there differs e has =
      let none = ap (λ (s : ServerModel). s.kept.parked.waiting) (pool_at config h low) in absurd (subst (λ l. Has l e) none has)

  -- it holds in every run
  pub every_run_covered : (events : List Event) (w : World) → Runs (start config) events w → AllCovered w
  every_run_covered events w run = going_covered (start config) w [] events refl run begins_covered (begins_single config)

cover_is_news : (h t : Server) (r : Rank) (q : ℕ) (from to : Actor) (m : Message) → cover_letter h t r q from to m ≤ is_news m
cover_is_news h t r q (by.Rank from) to m = omega arith
cover_is_news h t r q (by.Server from) (by.Rank to) m = omega arith
cover_is_news h t r q (by.Server from) (by.Server to) m = by_message m
  where
    most : (b : Bool) → one b ≤ 1
    most true = omega arith
    most false = omega arith

    by_message : (y : Message) → cover_about h t r q from.0 to.0 y ≤ is_news y
    by_message (tells.Ask of request types) = most _
    by_message (tells.AskGrant of request note) = most _
    by_message (tells.Hint of request) = most _
    by_message _ = omega arith

-- where there is no news, no such letter is under way
pub covered_is : (w : World) → AllCovered w → IsCovered w
unfolding AllCovered measure
covered_is w covered h t e low there differs waits idle none = by_cover (covered h t low there differs e waits)
  where
    by_cover : Covers w h t e → Has (pool_of w t).kept.parked.wishes e.wish ⊎ Has e.to_ask t
    by_cover (inl keeps) = inl keeps
    by_cover (inr (inl to_ask)) = inr to_ask
    by_cover (inr (inr some)) =
        let few = links_le w.config (covers h t e.wish.rank e.wish.request) news w.links (cover_is_news h t e.wish.rank e.wish.request) in
        absurd (omega (arith, none))
