-- What the stamp of an event and each act keep is kept by each event of a server.
use Rattle.std.proofs.Common.{◌≡◌, ◌<◌, ℕ, Bool, true, false, cond, ◌&&◌, List, [], ◌∷◌, length, Option, None, Some, refl, sym, ap, ◌∙◌}
use Rattle.std.proofs.Common.{subst, arith}
use Rattle.std.specs.Option.{option_map}
use Rattle.std.specs.Prelude.{All, nat_lt}
use Rattle.std.proofs.lemmas.List.{get_or-set_same, length-set}
use Rattle.std.proofs.lemmas.List.Elements.{All-contains}
use Rattle.adlb_unit.specs.Limits.{stamp_limit}
use Rattle.adlb_unit.specs.Links.{is_within}
use Rattle.adlb_unit.specs.declared.actors.Actor.{Actor}
use Rattle.adlb_unit.specs.declared.actors.Actor.TheVariants as by
use Rattle.adlb_unit.specs.declared.configs.Config.{Config}
use Rattle.adlb_unit.specs.declared.letters.Letter.{Letter}
use Rattle.adlb_unit.specs.declared.messages.Message.{Message}
use Rattle.adlb_unit.specs.declared.names.Server.{Server}
use Rattle.bag_ledger.proofs.Tests.{some_is}
use Rattle.server_components.specs.declared.wishes.Wish.{Wish}
use Rattle.server_law.specs.Acts.{Act, Heard, Hints, takes}
use Rattle.server_law.specs.Carried.{Served, carried, done}
use Rattle.server_law.specs.State.{ServerModel, start as new_pool}
use Rattle.server_law.specs.Step.{acts, at_event, next_stamp, raises, ticked}
use Rattle.server_law.proofs.Handled.{acts_handle}
use Rattle.server_law.specs.Sure.{AreHintsOf, AreSure, HandledBy, IsHintOf, Sure, SitsIn, TakeNone}
use Rattle.core_run.specs.World.{World, after_server, pool_of, taken}
use Rattle.core_law.specs.Acting.{AreActs, AreFront, HintsAway, IsAct, acted, acted_all, ticks}
use Rattle.core_law.specs.OnLinks.{Each}
use Rattle.core_law.specs.Own.{IsWish}
use Rattle.core_law.specs.Well.{IsWell}
use Rattle.core_law.proofs.Acts.{acts_keep}
use Rattle.core_law.proofs.Chains.{event_is_acts, inside_after, pool_is}
use Rattle.core_law.proofs.Steps.{Serves}
use Rattle.core_law.proofs.LettersAndActors.{act_well, inside_servers, tick_well}

-- hints are of wishes that the server kept before
hint_away : (config : Config) (me : Server) (wishes : List Wish) (a : Act) → All (IsWish config me) wishes → IsHintOf wishes a
    → HintsAway config me a
hint_away config me wishes (Hints wish) kept is =
    subst (IsWish config me) is.4 (All-contains (IsWish config me) wishes is.1 kept (is.0, is.2, is.3))
hint_away config me wishes _ kept is = tt

hints_away : (config : Config) (me : Server) (wishes : List Wish) (list : List Act) → All (IsWish config me) wishes → AreHintsOf wishes list
    → Each (HintsAway config me) list
hints_away config me wishes [] kept are = tt
hints_away config me wishes (a ∷ more) kept are =
    (hint_away config me wishes a kept are.0, hints_away config me wishes more kept are.1)

-- acts that are sure, and take nothing, are acts of the world
quiet_acts : (w : World) (me : Server) (s : ServerModel) (list : List Act) → me.0 < w.config.servers → me.0 < length w.servers
    → pool_of w me ≡ s → TakeNone list → AreSure list s → Each (HintsAway w.config me) list → AreActs w me list
quiet_acts w me s [] here inside pool none sure hints = tt
quiet_acts w me s (a ∷ more) here inside pool none sure hints = (
  record {
    here = here;
    front = subst (λ (heard : List Heard). AreFront w.config me w.links heard) (sym none.0) tt;
    sits = subst (SitsIn a) (sym pool) sure.0;
    sure = subst (Sure a) (sym pool) sure.1;
    hints = hints.0;
  },
  quiet_acts (acted w me a) me (done a s) more here (inside_after w me a inside) (pool_is w me a inside ∙ ap (done a) pool) none.1
      sure.2 hints.1,
)

-- an event is a chain of acts: those of its letter, of which the first takes it, and the others none
pub record IsChain (w next : World) (me : Server) (stamp : ℕ) (up : Bool) : Type 0 where
  pub from : Actor
  pub message : Message
  pub raises : raises message ≡ up
  pub list : List Act
  pub acts : acts (ticked (pool_of w me) stamp up) from message ≡ Some list
  pub first : Act
  pub more : List Act
  pub shape : list ≡ first ∷ more
  pub takes : takes first ≡ record { from = from; message = message } ∷ []
  pub follow : TakeNone more
  pub are : AreActs (ticks w me stamp up) me list
  pub is : next ≡ acted_all (ticks w me stamp up) me list

handled_chain : (w next : World) (from : Actor) (me : Server) (letter : Letter) (rest : List Letter) (x : Served) (list : List Act)
    → me.0 < length w.servers → All (IsWish w.config me) (pool_of w me).kept.parked.wishes → Serves w from me letter rest x next
    → carried list (at_event (pool_of w me) letter) ≡ x → acts (at_event (pool_of w me) letter) from letter.message ≡ Some list
    → HandledBy from letter.message list (at_event (pool_of w me) letter)
    → IsChain w next me (next_stamp (pool_of w me) letter) (raises letter.message)
handled_chain w next from me letter rest x list inside kept does makes acted_so h =
    let stamp = next_stamp (pool_of w me) letter in
    let up = raises letter.message in
    let s = ticked (pool_of w me) stamp up in
    let v = ticks w me stamp up in
    let pool : pool_of v me ≡ s = get_or-set_same w.servers me.0 s (new_pool w.config me) inside in
    let within : me.0 < length v.servers = let e = length-set w.servers me.0 s in omega arith in
    let a = h.first in
    let hints = hints_away w.config me (pool_of w me).kept.parked.wishes (a ∷ h.more) kept h.hints in
    let act : IsAct v me a = record {
      here = does.here;
      front = subst (λ (heard : List Heard). AreFront v.config me v.links heard) (sym h.takes)
          (letter, rest, does.there, does.front, refl, tt);
      sits = subst (SitsIn a) (sym pool) h.sure.0;
      sure = subst (Sure a) (sym pool) h.sure.1;
      hints = hints.0;
    } in
    let later = quiet_acts (acted v me a) me (done a s) h.more does.here (inside_after v me a within)
    (pool_is v me a within ∙ ap (done a) pool) h.follow h.sure.2 hints.1 in
    let chain = event_is_acts w from me letter rest stamp up a h.more inside does.front h.takes h.follow in
    let is : next ≡ after_server w me (taken w from (by.Server me) rest) (carried (a ∷ h.more) s) =
    does.is ∙ ap (after_server w me (taken w from (by.Server me) rest)) (sym makes ∙ ap (λ l. carried l s) h.are) in
    record {
      from = from;
      message = letter.message;
      raises = refl;
      list = a ∷ h.more;
      acts = acted_so ∙ ap Some h.are;
      first = a;
      more = h.more;
      shape = refl;
      takes = h.takes;
      follow = h.follow;
      are = (act, later);
      is = is ∙ chain;
    }

-- an event of a server is a chain of its acts
pub event_chain : (w next : World) (from : Actor) (me : Server) (letter : Letter) (rest : List Letter) (x : Served)
    → me.0 < length w.servers → All (IsWish w.config me) (pool_of w me).kept.parked.wishes → Serves w from me letter rest x next
    → IsChain w next me (next_stamp (pool_of w me) letter) (raises letter.message)
event_chain w next from me letter rest x inside kept does =
    by_test (is_within (pool_of w me).config from && nat_lt letter.stamp stamp_limit) does.does
  where
    s : ServerModel
    s = at_event (pool_of w me) letter

    by_acts : (o : Option (List Act)) → acts s from letter.message ≡ o → option_map (λ list. carried list s) o ≡ Some x
        → IsChain w next me (next_stamp (pool_of w me) letter) (raises letter.message)
    by_acts None is e = absurd (cc)
    by_acts (Some list) is e =
        handled_chain w next from me letter rest x list inside kept does (some_is e) is (acts_handle s from letter.message list is)

    by_test : (t : Bool) → cond t (option_map (λ list. carried list s) (acts s from letter.message)) None ≡ Some x
        → IsChain w next me (next_stamp (pool_of w me) letter) (raises letter.message)
    by_test true e = by_acts (acts s from letter.message) refl e
    by_test false e = absurd (cc)

-- what a stamp and each act keep in worlds that are well
pub event_keeps : (J : World → Type 0)
    → ((w : World) (me : Server) (stamp : ℕ) (up : Bool) → me.0 < w.config.servers → IsWell w → J w → J (ticks w me stamp up))
    → ((w : World) (me : Server) (a : Act) → IsWell w → IsAct w me a → J w → J (acted w me a))
    → (w next : World) (from : Actor) (me : Server) (letter : Letter) (rest : List Letter) (x : Served) → IsWell w
    → Serves w from me letter rest x next → J w → J next
event_keeps J tick step w next from me letter rest x well does holds =
    let stamp = next_stamp (pool_of w me) letter in
    let up = raises letter.message in
    let kept = (well.own.servers me does.here).wishes in
    let chain = event_chain w next from me letter rest x (inside_servers w me well does.here) kept does in
    let all = acts_keep (λ v. IsWell v × J v) me (λ v a is both. (act_well v me a both.0 is, step v me a both.0 is both.1))
    (ticks w me stamp up) chain.list chain.are
    (tick_well w me stamp up does.here well, tick w me stamp up does.here well holds) in
    subst J (sym chain.is) all.1

-- each event of a server keeps what holds of letters and of each actor alone
pub event_well : (w next : World) (from : Actor) (me : Server) (letter : Letter) (rest : List Letter) (x : Served) → IsWell w
    → Serves w from me letter rest x next → IsWell next
event_well w next from me letter rest x well does =
    event_keeps IsWell (λ v k stamp up here own was. tick_well v k stamp up here was) (λ v k a own is was. act_well v k a was is) w next
    from me letter rest x well does well
