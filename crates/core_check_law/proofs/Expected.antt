-- In every run the front letter of each list can be handled: tokens too are expected.
use Rattle.std.proofs.Common.{◌≡◌, ◌≢◌, ◌<◌, ◌≤◌, ◌⊎◌, inl, inr, Bool, true, false, cond, ◌||◌, ◌==◌, not, List, ◌∷◌, None, Some, refl, sym}
use Rattle.std.proofs.Common.{ap, ◌∙◌, subst, arith}
use Rattle.std.specs.Option.{option_map}
use Rattle.std.proofs.lemmas.Bool.{and_from, and_parts, cases_eq, eqb-true, ltb-true, lt-ltb}
use Rattle.adlb_unit.specs.Kinds.{is_to_rank}
use Rattle.adlb_unit.specs.Limits.{stamp_limit}
use Rattle.adlb_unit.specs.Links.{is_within, place_of}
use Rattle.adlb_unit.specs.Ring.{behind}
use Rattle.adlb_unit.specs.Targets.{home, home_of}
use Rattle.adlb_unit.specs.declared.actors.Actor.{Actor}
use Rattle.adlb_unit.specs.declared.actors.Actor.TheVariants as by
use Rattle.adlb_unit.specs.declared.configs.Config.{Config}
use Rattle.adlb_unit.specs.declared.letters.Letter.{Letter}
use Rattle.adlb_unit.specs.declared.messages.Message.{Message}
use Rattle.adlb_unit.specs.declared.messages.Message.TheVariants as tells
use Rattle.adlb_unit.specs.declared.messages.Why.{Why}
use Rattle.adlb_unit.specs.declared.names.Server.{Server}
use Rattle.adlb_unit.specs.declared.tokens.Token.{Token}
use Rattle.exhaust_ring.specs.Expected.{AreAway, AreNamed, HasComeBack, IsBefore, IsRunning, IsToJudge, IsToMark, IsToTest}
use Rattle.exhaust_ring.specs.Ring.{Asker}
use Rattle.server_law.specs.Acts.{zeroth}
use Rattle.server_law.specs.Expected.{IsAwaitedFrom}
use Rattle.server_law.specs.State.{ServerModel, ring_at}
use Rattle.server_law.specs.Step.{serve}
use Rattle.server_law.proofs.Expected.{expected_have_steps}
use Rattle.core_run.specs.declared.events.Event.{Event}
use Rattle.core_run.specs.declared.events.Event.TheVariants as occurs
use Rattle.core_run.specs.Runs.{Runs, is_of_check, is_over}
use Rattle.core_run.specs.World.{World, after_server, handle, happens, has_ended, link, pool_of, server_named, start, taken}
use Rattle.core_law.specs.Letters.{fits_between, is_finish, is_request, one}
use Rattle.core_law.specs.OnLinks.{OnLinks}
use Rattle.core_law.specs.Well.{IsWell}
use Rattle.core_law.proofs.EveryRun.{every_run_well}
use Rattle.core_law.proofs.Expected.{apart_is, fits, none_is_stuck, some_of}
use Rattle.core_law.proofs.Fifo.{front_le}
use Rattle.core_law.proofs.UnderWay.{at_front, each_weaker}
use Rattle.core_check_law.specs.OnWay.{IsOnWay, IsRinged, OnFailed, OnToken, last_check, reach}
use Rattle.core_check_law.specs.Tokens.{token_letter, tokens}
use Rattle.core_check_law.specs.Turn.{AreOnTurn, IsOnTurn, NoneIsEverStuck}
use Rattle.core_check_law.proofs.EveryTurn.{every_run_turned}
use Rattle.core_check_law.proofs.Homes.{reach_at}
use Rattle.core_check_law.proofs.Named.{all_of_each, are_named}
use Rattle.core_check_law.proofs.Tokens.{token_count}

runs_if : (t : Bool) → 1 ≤ one t → t ≡ true
runs_if true some = refl
runs_if false some = absurd (omega arith)

module _ (w : World) (from me : Server) (letter : Letter) (rest : List Letter) (well : IsWell w) (ring : IsRinged w) (turn : AreOnTurn w)
    (there : from.0 < w.config.servers) (here : me.0 < w.config.servers)
    (front : link w.links (place_of w.config (by.Server from)) (place_of w.config (by.Server me)) ≡ letter ∷ rest) where
  abbrev s : ServerModel
  s = pool_of w me

  abbrev within_from : is_within w.config (by.Server from) ≡ true
  within_from = lt-ltb from.0 w.config.servers there

  abbrev within_me : is_within w.config (by.Server me) ≡ true
  within_me = lt-ltb me.0 w.config.servers here

  named : s.me ≡ me
  named = (well.own.servers me here).me

  run_of : s.config ≡ w.config
  run_of = (well.own.servers me here).config

  -- what is said of the letter
  said_of : (P : Actor → Actor → Message → Type 0) (m : Message) → letter.message ≡ m
      → OnLinks (λ from to l. P from to l.message) w.config w.links → P (by.Server from) (by.Server me) m
  said_of P m is on =
      subst (P (by.Server from) (by.Server me)) is
      (at_front (λ from to l. P from to l.message) w.config w.links (by.Server from) (by.Server me) letter rest on within_from
      within_me front)

  -- a check runs at server 0
  check_runs : (m : Message) → letter.message ≡ m → token_letter (by.Server from) (by.Server me) m ≡ 1
      → (pool_of w zeroth).kept.ring.runs ≡ true
  check_runs m is weighs =
      let count = token_count w well.shape (omega arith) ring.tokens in
      let one_of : token_letter (by.Server from) (by.Server me) letter.message ≡ 1 =
      ap (token_letter (by.Server from) (by.Server me)) is ∙ weighs in
      let part = front_le tokens w.config w.links (by.Server from) (by.Server me) letter rest (well.shape).square within_from within_me
      front in
      runs_if (pool_of w zeroth).kept.ring.runs (omega arith)

  at_zeroth : me.0 ≡ 0 → me ≡ zeroth
  at_zeroth e = ap server_named e

  running : (m : Message) (t : Token) → letter.message ≡ m → token_letter (by.Server from) (by.Server me) m ≡ 1 → me.0 ≡ 0
      → t.check ≡ last_check w → IsRunning (ring_at s) t
  running m t is weighs zero_here number =
      let it = at_zeroth zero_here in
      record {
        zeroth = ap (λ (c : Server). c.0) named ∙ zero_here;
        runs = ap (λ (c : Server). (pool_of w c).kept.ring.runs) it ∙ check_runs m is weighs;
        check = number ∙ ap (λ (c : Server). (pool_of w c).kept.ring.check) (sym it);
      }

  failed_awaited : (t : Token) (why : Why) → letter.message ≡ tells.Failed t why → fits_between w.config from me (tells.Failed t why) ≡ true
      → IsAwaitedFrom s from (tells.Failed t why)
  failed_awaited t why is kind =
      running (tells.Failed t why) t is refl (eqb-true me.0 0 kind)
      (said_of (λ from to m. OnFailed (λ t. t.check ≡ last_check w) from to m) (tells.Failed t why) is turn.failed)

  module _ (t : Token) (is : letter.message ≡ tells.Token t) where
    on : IsOnTurn w me t
    on = said_of (λ from to m. OnToken (IsOnTurn w) from to m) (tells.Token t) is turn.tokens

    way : IsOnWay w me t
    way = said_of (λ from to m. OnToken (IsOnWay w) from to m) (tells.Token t) is ring.on

    abbrev IsRow : Type 0
    IsRow = IsToMark (ring_at s) t ⊎ HasComeBack (ring_at s) t ⊎ IsToTest (ring_at s) t ⊎ IsToJudge (ring_at s) t

    row_at : (me.0 ≡ 0) ⊎ (me.0 ≢ 0) → (t.wave ≡ 1) ⊎ (t.wave ≡ 2) → IsRow
    row_at (inl e) (inl first) = inr (inl (record {
      running = running (tells.Token t) t is refl e way.number;
      wave = first;
      named = subst (λ (c : Config). AreNamed c t.asked) (sym run_of) (are_named w.config t.asked on.inside on.once);
    }))
    row_at (inl e) (inr second) = inr (inr (inr (record {
      running = running (tells.Token t) t is refl e way.number;
      wave = second;
      tested = ap (λ (c : Server). (pool_of w c).kept.ring.tested) (at_zeroth e) ∙ on.tested second;
    })))
    row_at (inr other) (inl first) =
        let r = reach_at w.config me other in
        inl (record {
          other = λ e. other (ap (λ (c : Server). c.0) (sym named) ∙ e);
          wave = first;
          named = subst (λ (c : Config). AreNamed c t.asked) (sym run_of) (are_named w.config t.asked on.inside on.once);
          fresh = way.fresh first me here (omega arith);
          away = subst (λ (c : Config). AreAway c s.me t.asked) (sym run_of)
              (subst (λ (c : Server). AreAway w.config c t.asked) (sym named)
              (all_of_each (λ (a : Asker). home_of w.config.servers a.0 ≢ me.0) t.asked
              (each_weaker (λ (a : Asker). (home w.config a.0).0 < reach w.config me) (λ (a : Asker). home_of w.config.servers a.0 ≢ me.0)
              (λ (a : Asker) low same. absurd (omega arith)) t.asked (way.homes first))));
        })
    row_at (inr other) (inr second) =
        let r = reach_at w.config me other in
        inr (inr (inl (record {
          other = λ e. other (ap (λ (c : Server). c.0) (sym named) ∙ e);
          wave = second;
          marked = way.marked me here (inl second);
          untested = on.untested me here (inr (second, omega arith));
        })))

    token_awaited : fits_between w.config from me (tells.Token t) ≡ true → IsAwaitedFrom s from (tells.Token t)
    token_awaited kind =
        let next : behind w.config from 1 ≡ me = ap server_named (sym (eqb-true me.0 (behind w.config from 1).0 kind)) in
        let before : IsBefore (ring_at s) from = (
          (let e = ap (λ (c : Config). c.servers) run_of in omega arith),
          ap (λ (c : Config). behind c from 1) run_of ∙ next ∙ sym named,
        ) in
        (before, row_at (cases_eq me.0 0) on.wave)

  check_awaited : (m : Message) → letter.message ≡ m → is_of_check m ≡ true → fits_between w.config from me m ≡ true
      → IsAwaitedFrom s from m
  check_awaited (tells.Token t) is of kind = token_awaited t is kind
  check_awaited (tells.Failed t why) is of kind = failed_awaited t why is kind
  check_awaited _ is of kind = absurd (cc)

  -- a letter of a check can be handled as long as its server has not ended
  pub check_handled : is_of_check letter.message ≡ true → letter.stamp < stamp_limit → has_ended s ≡ false
      → (next : World) × (handle w (by.Server from) (by.Server me) (letter ∷ rest) ≡ Some next)
  check_handled of small going =
      let kind = and_parts (not (from.0 == me.0)) (fits_between w.config from me letter.message)
      (fits w (by.Server from) (by.Server me) letter rest well within_from within_me front) in
      let of_run : from.0 < s.config.servers = let e = ap (λ (k : Config). k.servers) run_of in omega arith in
      let other : from ≢ s.me = λ same. apart_is from.0 me.0 kind.0 (ap (λ (k : Server). k.0) (same ∙ named)) in
      let x = some_of (serve s (by.Server from) letter)
      ((expected_have_steps s (by.Server from) letter).1 (of_run, other, small, check_awaited letter.message refl of kind.1)) in
      let f = after_server w me (taken w (by.Server from) (by.Server me) rest) in
      (f x.0, ap (λ k. cond k None (option_map f (serve s (by.Server from) letter))) going ∙ ap (option_map f) x.1)

-- Any letter.

check_here : (w : World) (from to : Actor) (letter : Letter) (rest : List Letter) → IsWell w → IsRinged w → AreOnTurn w
    → is_within w.config from ≡ true → is_within w.config to ≡ true → letter.stamp < stamp_limit → is_over w to ≡ false
    → is_of_check letter.message ≡ true → link w.links (place_of w.config from) (place_of w.config to) ≡ letter ∷ rest
    → (next : World) × (handle w from to (letter ∷ rest) ≡ Some next)
check_here w (by.Server from) (by.Server to) letter rest well ring turn f t small going of front =
    check_handled w from to letter rest well ring turn (ltb-true from.0 w.config.servers f) (ltb-true to.0 w.config.servers t) front of
    small going
check_here w (by.Rank from) (by.Rank to) letter rest well ring turn f t small going of front =
    let kind : false ≡ true = fits w (by.Rank from) (by.Rank to) letter rest well f t front in absurd (cc)
check_here w (by.Rank from) (by.Server to) letter rest well ring turn f t small going of front =
    absurd (no_rank_says letter.message of (fits w (by.Rank from) (by.Server to) letter rest well f t front))
  where
    no_rank_says : (m : Message) → is_of_check m ≡ true → (is_request m || is_finish m) ≡ true → ⊥
    no_rank_says (tells.Token t) of kind = absurd (cc)
    no_rank_says (tells.Failed t why) of kind = absurd (cc)
    no_rank_says _ of kind = absurd (cc)
check_here w (by.Server from) (by.Rank to) letter rest well ring turn f t small going of front =
    absurd (no_rank_hears letter.message of (fits w (by.Server from) (by.Rank to) letter rest well f t front))
  where
    no_rank_hears : (m : Message) → is_of_check m ≡ true → is_to_rank m ≡ true → ⊥
    no_rank_hears (tells.Token t) of kind = absurd (cc)
    no_rank_hears (tells.Failed t why) of kind = absurd (cc)
    no_rank_hears _ of kind = absurd (cc)

-- in every run the front letter of each list can be handled while stamps are given
pub none_is_ever_stuck : (config : Config) (events : List Event) (w : World) → Runs (start config) events w → NoneIsEverStuck w
none_is_ever_stuck config events w run from to letter rest f t front going small = by_kind (is_of_check letter.message) refl
  where
    letters : List Letter
    letters = link w.links (place_of w.config from) (place_of w.config to)

    by_kind : (b : Bool) → is_of_check letter.message ≡ b → (next : World) × (happens w (occurs.Deliver from to) ≡ Some next)
    by_kind false plain = none_is_stuck config events w run from to letter rest f t front going plain small
    by_kind true of =
        let all = every_run_turned config events w run in
        let here = check_here w from to letter rest (every_run_well config events w run) all.0 all.1 f t small going of front in
        (here.0, ap (λ k. cond k (handle w from to letters) None) (and_from _ _ f t) ∙ ap (handle w from to) front ∙ here.1)
