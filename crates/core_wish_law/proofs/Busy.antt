-- Where no letter brings anything on and no rank can begin a call, each server is quiet.
use Rattle.adlb_unit.specs.Kinds.{is_to_rank}
use Rattle.adlb_unit.specs.Targets.{home_of}
use Rattle.adlb_unit.specs.declared.actors.Actor.{Actor}
use Rattle.adlb_unit.specs.declared.configs.Config.{Config}
use Rattle.adlb_unit.specs.declared.letters.Letter.{Letter}
use Rattle.adlb_unit.specs.declared.messages.Message.{Message}
use Rattle.adlb_unit.specs.declared.names.Rank.{Rank}
use Rattle.adlb_unit.specs.declared.names.Server.{Server}
use Rattle.core_check_law.proofs.Homes.{each_of_all}
use Rattle.core_check_law.proofs.Lists.{each_has, has_at}
use Rattle.core_law.proofs.Debts.{letters_of_push}
use Rattle.core_law.proofs.Fifo.{part_le}
use Rattle.core_law.proofs.OnLinks.{zero_from}
use Rattle.core_law.proofs.OwedByRanks.{all_fit, finishes_are, letters_are, no_sum}
use Rattle.core_law.proofs.OwnStates.{fits_is}
use Rattle.core_law.proofs.Sums.{links_le, one_adds}
use Rattle.core_law.proofs.UnderWay.{both, weaker, zero_on}
use Rattle.core_law.specs.Letters.{call_letter, call_waits, finish_letter, finishes, if_idle, is_request, misfit, one, one_letter}
use Rattle.core_law.specs.Letters.{remote_letter}
use Rattle.core_law.specs.Measures.{links_weight, measure, server_weight, weigh, weigh_at, weights}
use Rattle.core_law.specs.Own.{IsEntry, NoneOwes}
use Rattle.core_law.specs.Pushed.{letters_of}
use Rattle.core_law.specs.Pushes.{push_letter}
use Rattle.core_law.specs.Well.{IsWell}
use Rattle.core_wish_law.specs.News.{is_news, news}
use Rattle.core_run.specs.World.{World, client_of, pool_of, rank_named, server_named}
use Rattle.server_components.specs.declared.standing.StandingPush.{StandingPush}
use Rattle.rank_client.specs.Rules.{is_free, is_idle}
use Rattle.rank_client.specs.State.{start as new_client}
use Rattle.server_components.specs.declared.waits.Waiting.{Waiting}
use Rattle.server_law.proofs.Tests.{quiet_is_tested}
use Rattle.server_law.specs.Endings.{is_quiet}
use Rattle.server_law.specs.Expected.{IsHome, WaitsIdle}
use Rattle.server_law.specs.State.{ServerModel, is_finished, start as new_pool}
use Rattle.std.proofs.Common.{Bool, List, None, Option, Some, [], ap, arith, cond, false, get_or, inl, inr, length, not, refl, subst, suc}
use Rattle.std.proofs.Common.{sym, true, zero, ℕ, ◌<◌, ◌==◌, ◌∙◌, ◌∷◌, ◌≡◌, ◌≢◌, ◌≤◌, ◌⊎◌}
use Rattle.std.proofs.lemmas.Bool.{cases_eq, eq-eqb, eqb-true, false_from_ne_true}
use Rattle.std.specs.Prelude.{Any, is_some}
use Rattle.adlb_unit.specs.declared.actors.Actor.TheVariants as by
use Rattle.adlb_unit.specs.declared.messages.Message.TheVariants as tells

push_is_news : (a : Server) (from to : Actor) (m : Message) → push_letter a from to m ≤ is_news m
push_is_news a (by.Rank from) to m = omega arith
push_is_news a (by.Server from) (by.Rank to) m = omega arith
push_is_news a (by.Server from) (by.Server to) m = by_message m
  where
    at_most : (t : Bool) → one t ≤ 1
    at_most true = omega arith
    at_most false = omega arith

    by_message : (x : Message) → push_letter a (by.Server from) (by.Server to) x ≤ is_news x
    by_message (tells.PushQuery id length) = at_most _
    by_message (tells.PushYes id) = at_most _
    by_message (tells.PushNo id) = at_most _
    by_message (tells.PushUnit unit) = at_most _
    by_message (tells.PushCancel id) = at_most _
    by_message (tells.PushAck id) = at_most _
    by_message _ = omega arith

one_most : (t : Bool) → one t ≤ 1
one_most true = omega arith
one_most false = omega arith

finish_is_news : (r : Rank) (t : Server) (from to : Actor) (m : Message) → finish_letter r t from to m ≤ is_news m
finish_is_news r t (by.Rank from) (by.Server to) m = by_message m
  where
    by_message : (x : Message) → finish_letter r t (by.Rank from) (by.Server to) x ≤ is_news x
    by_message tells.Finish = one_most _
    by_message _ = omega arith
finish_is_news r t (by.Rank from) (by.Rank to) m = omega arith
finish_is_news r t (by.Server from) to m = omega arith

-- a letter of the rank's call is not among the others
quiet_none : (config : Config) (r : Rank) (from to : Actor) (m : Message) → is_request m ≡ false → is_to_rank m ≡ false
    → remote_letter r m ≡ 0 → misfit config from to m ≡ 0 → call_letter r from to m ≡ 0
quiet_none config r (by.Rank from) (by.Server to) m ask answer remote fits = rw ask refl
quiet_none config r (by.Rank from) (by.Rank to) m ask answer remote fits = refl
quiet_none config r (by.Server from) (by.Rank to) m ask answer remote fits =
    let is : is_to_rank m ≡ true = fits_is (is_to_rank m) fits in let no : false ≡ true = sym answer ∙ is in absurd (cc)
quiet_none config r (by.Server from) (by.Server to) m ask answer remote fits = remote

call_none : (config : Config) (r : Rank) (from to : Actor) (m : Message) → misfit config from to m ≡ 0 → is_news m ≡ 0
    → call_letter r from to m ≡ 0
call_none config r from to (tells.Token t) fits none = quiet_none config r from to (tells.Token t) refl refl refl fits
call_none config r from to (tells.Failed t why) fits none = quiet_none config r from to (tells.Failed t why) refl refl refl fits
call_none config r from to tells.Shutdown fits none = quiet_none config r from to tells.Shutdown refl refl refl fits
call_none config r from to _ fits none = absurd (omega arith)

-- Sums.

some_weighs : {X : Type 0} (f : X → ℕ) (xs : List X) → 0 < weigh f xs → Any (λ x. 0 < f x) xs
some_weighs f [] some = absurd (omega arith)
some_weighs f (x ∷ xs) some = by_weight (cases_eq (f x) 0) (some_weighs f xs)
  where
    by_weight : (f x ≡ 0) ⊎ (f x ≢ 0) → (0 < weigh f xs → Any (λ y. 0 < f y) xs) → Any (λ y. 0 < f y) (x ∷ xs)
    by_weight (inl none) later = let i = later (omega arith) in (suc i.0, i.1, omega (arith, i.2), i.3, i.4)
    by_weight (inr some_here) later = (0, x, omega arith, refl, omega arith)

some_at : {X : Type 0} (f : ℕ → X → ℕ) (xs : List X) (d : ℕ → X) → 0 < weigh_at f xs
    → (i : ℕ) × (i < length xs) × (0 < f i (get_or xs i (d i)))
some_at f [] d some = absurd (omega arith)
some_at f (x ∷ xs) d some = by_weight (cases_eq (f zero x) 0) (some_at (λ i. f (suc i)) xs (λ i. d (suc i)))
  where
    by_weight : (f zero x ≡ 0) ⊎ (f zero x ≢ 0)
        → (0 < weigh_at (λ i. f (suc i)) xs → (i : ℕ) × (i < length xs) × (0 < f (suc i) (get_or xs i (d (suc i)))))
        → (i : ℕ) × (i < length (x ∷ xs)) × (0 < f i (get_or (x ∷ xs) i (d i)))
    by_weight (inl none) later = let i = later (omega arith) in (suc i.0, omega (arith, i.1), i.2)
    by_weight (inr some_here) later = (0, omega arith, omega arith)

-- what weighs is so
pub one_true : (t : Bool) → 0 < one t → t ≡ true
one_true true some = refl
one_true false some = absurd (omega arith)

-- an entry of the rank that is idle
idle_entry : (r : Rank) (place : ℕ) (e : Waiting) → 0 < call_waits r place e → (e.wish.rank ≡ r) × (e.asked ≡ None)
idle_entry r place e some = by_asked e.asked refl some
  where
    by_asked : (o : Option Server) → e.asked ≡ o → 0 < if_idle o (one (e.wish.rank.0 == r.0)) → (e.wish.rank ≡ r) × (e.asked ≡ None)
    by_asked None is weighs = (ap rank_named (eqb-true e.wish.rank.0 r.0 (one_true (e.wish.rank.0 == r.0) weighs)), is)
    by_asked (Some t) is weighs = absurd (omega arith)

module _ (w : World) (t : Server) (well : IsWell w) (paid : NoneOwes w) (there : t.0 < w.config.servers) (none : measure news w ≡ 0) where
  abbrev s : ServerModel
  s = pool_of w t

  no_news : links_weight w.config news w.links ≡ 0
  unfolding measure
  no_news = omega (arith, none)

  unpushed : s.kept.pushing.push ≡ None
  unpushed =
      let few = links_le w.config (letters_of (push_letter t)) news w.links (push_is_news t) in
      let is = letters_of_push w t well paid there in
      let zero_news = no_news in
      by_push s.kept.pushing.push refl (omega arith)
    where
      by_push : (o : Option StandingPush) → s.kept.pushing.push ≡ o → one (is_some s.kept.pushing.push) ≡ 0 → s.kept.pushing.push ≡ None
      by_push None is weighs = is
      by_push (Some p) is weighs = let w : one (is_some s.kept.pushing.push) ≡ 1 = ap (λ o. one (is_some o)) is in absurd (omega arith)

  -- no rank can begin a call
  not_free : (r : Rank) → r.0 < w.config.ranks → is_free (client_of w r) ≡ false
  unfolding measure
  not_free r low =
      let long = (well.shape).ranks in
      let part = part_le news.rank w.ranks r.0 (new_client w.config r) (omega arith) in
      by_free (is_free (client_of w r)) refl (omega (arith, none))
    where
      by_free : (b : Bool) → is_free (client_of w r) ≡ b → one (is_free (client_of w r)) ≡ 0 → is_free (client_of w r) ≡ false
      by_free true is weighs = let w : one (is_free (client_of w r)) ≡ 1 = ap one is in absurd (omega arith)
      by_free false is weighs = is

  no_call : (r : Rank) → links_weight w.config (weights (one_letter r)) w.links ≡ 0
  no_call r =
      let fit = all_fit w well.shape well.kind in
      let zero_each = zero_on news w.config w.links (well.shape).square no_news in
      zero_from (weights (one_letter r)) w.config w.links (well.shape).square
      (weaker (λ from to (l : Letter). (misfit w.config from to l.message ≡ 0) × (is_news l.message ≡ 0))
      (λ from to (l : Letter). call_letter r from to l.message ≡ 0) w.config w.links
      (λ from to l h. call_none w.config r from to l.message h.0 h.1)
      (both (λ from to (l : Letter). misfit w.config from to l.message ≡ 0)
      (λ from to (l : Letter). is_news l.message ≡ 0) w.config w.links fit zero_each))

  -- where there is no news, a rank with a pending call is idle at its home
  pub pending_idle : (r : Rank) → r.0 < w.config.ranks → home_of w.config.servers r ≡ t.0 → is_idle (client_of w r).pending ≡ false
      → WaitsIdle s r
  unfolding measure
  pending_idle r low at_home busy =
      let long = (well.shape).ranks in
      let all = letters_are w r (omega arith) (well.one r) in
      let letters = no_call r in
      let is : one (not (is_idle (client_of w r).pending)) ≡ 1 = rw busy refl in
      let ranks = no_sum w.ranks in
      let m = weights (one_letter r) in
      let i = some_at (server_weight m.server) w.servers (λ i. new_pool w.config (server_named i)) (omega arith) in
      let k = server_named i.0 in
      let inside : k.0 < w.config.servers = let e = (well.shape).servers in let l = i.1 in omega arith in
      let x = some_weighs (call_waits r k.0) (pool_of w k).kept.parked.waiting i.2 in
      let its = idle_entry r k.0 x.1 x.4 in
      let entry = each_has (IsEntry w.config k) (pool_of w k).kept.parked.waiting x.1
      (each_of_all (IsEntry w.config k) (pool_of w k).kept.parked.waiting (well.own.servers k inside).waiting)
      (has_at (pool_of w k).kept.parked.waiting x.0 x.1 x.2 x.3) in
      let at_k : home_of w.config.servers x.1.wish.rank ≡ k.0 = eqb-true (home_of w.config.servers x.1.wish.rank) k.0 entry.here in
      let same : k.0 ≡ t.0 = sym at_k ∙ ap (home_of w.config.servers) its.0 ∙ at_home in
      subst (λ (v : Server). WaitsIdle (pool_of w v) r) (ap server_named same) (x.0, x.1, x.2, x.3, its)

  finished_told : (r : Rank) → r.0 < w.config.ranks → (client_of w r).finished ≡ true → is_finished s.kept r ≡ true
  unfolding measure
  finished_told r low ended =
      let long = (well.shape).ranks in
      let m = finishes r t in
      let all = finishes_are w r t (omega arith) (well.finish r t there) in
      let few = links_le w.config m news w.links (finish_is_news r t) in
      let letters = no_news in
      let ranks = no_sum w.ranks in
      let inside : t.0 < length w.servers = let e = (well.shape).servers in omega arith in
      let only = one_adds (server_weight m.server) w.servers t.0 (new_pool w.config t) inside
      (λ i x differs. ap (λ b. cond b (one (is_finished x.kept r)) 0) (false_from_ne_true (i == t.0) (λ e. differs (eqb-true i t.0 e)))) in
      let mine : server_weight m.server t.0 s ≡ one (is_finished s.kept r) = rw (eq-eqb t.0 t.0 refl) refl in
      let is : one (client_of w r).finished ≡ 1 = ap one ended in
      one_true (is_finished s.kept r) (omega arith)

  rests_here : (r : Rank) → r.0 < s.config.ranks → IsHome s r → WaitsIdle s r ⊎ (is_finished s.kept r ≡ true)
  rests_here r low at_home =
      let pool = well.own.servers t there in
      let inside : r.0 < w.config.ranks = let e = ap (λ (c : Config). c.ranks) pool.config in omega arith in
      let home_here : home_of w.config.servers r ≡ t.0 =
      ap (λ (c : Config). home_of c.servers r) (sym pool.config) ∙ at_home ∙ ap (λ (k : Server). k.0) pool.me in
      by_parts inside home_here (is_idle (client_of w r).pending) refl (client_of w r).finished refl
    where
      by_parts : r.0 < w.config.ranks → home_of w.config.servers r ≡ t.0 → (a : Bool) → is_idle (client_of w r).pending ≡ a → (b : Bool)
          → (client_of w r).finished ≡ b → WaitsIdle s r ⊎ (is_finished s.kept r ≡ true)
      by_parts inside h a isa true isb = inr (finished_told r inside isb)
      by_parts inside h false isa false isb = inl (pending_idle r inside h isa)
      by_parts inside h true isa false isb =
          let not_so = not_free r inside in
          let so : is_free (client_of w r) ≡ true = rw (isa, isb) refl in
          let no : false ≡ true = sym not_so ∙ so in
          absurd (cc)

  -- where there is no news, each server is quiet
  pub still_quiet : is_quiet s ≡ true
  still_quiet = (quiet_is_tested s).1 (record { unpushed = unpushed; rest = rests_here })
