-- An event of a server is a chain of steps: acts, each carried out where the server is stirred if it may change what is free or who waits.
use Rattle.std.proofs.Common.{◌≡◌, ◌<◌, ℕ, Bool, true, List, [], ◌∷◌, length, sym, ◌∙◌, subst, arith}
use Rattle.std.proofs.lemmas.List.{length-set}
use Rattle.adlb_unit.specs.declared.actors.Actor.{Actor}
use Rattle.adlb_unit.specs.declared.letters.Letter.{Letter}
use Rattle.adlb_unit.specs.declared.names.Server.{Server}
use Rattle.server_law.specs.Acts.{Act}
use Rattle.server_law.specs.Carried.{Served}
use Rattle.server_law.specs.Step.{next_stamp, raises, ticked}
use Rattle.core_run.specs.World.{World, pool_of}
use Rattle.core_law.specs.Acting.{AreActs, acted, acted_all, ticks}
use Rattle.core_law.specs.Well.{IsWell}
use Rattle.core_law.proofs.Actors.{pool_there}
use Rattle.core_law.proofs.Chains.{inside_after, pool_is}
use Rattle.core_law.proofs.Events.{IsChain, event_chain}
use Rattle.core_law.proofs.Steps.{Serves}
use Rattle.core_law.proofs.LettersAndActors.{act_well, inside_servers, tick_well}
use Rattle.core_check_law.proofs.LoudActs.{IsStep, IsStirred}
use Rattle.core_check_law.proofs.StirredEvents.{AreStirred, acts_stirred}
use Rattle.core_check_law.proofs.Ticks.{tick_stirs}

-- acts one after the other, each a step
abbrev pub AreSteps : World → Server → List Act → Type 0
AreSteps w me [] = Unit {0}
AreSteps w me (a ∷ more) = IsStep w me a × AreSteps (acted w me a) me more

steps_of : (w : World) (me : Server) (list : List Act) → me.0 < length w.servers → AreActs w me list → AreStirred list (pool_of w me)
    → AreSteps w me list
steps_of w me [] inside are stirred = tt
steps_of w me (a ∷ more) inside are stirred = (
  record { act = are.0; stirred = stirred.0 },
  steps_of (acted w me a) me more (inside_after w me a inside) are.1 (subst (AreStirred more) (sym (pool_is w me a inside)) stirred.1),
)

-- the acts of an event's chain
pub chain_steps : (w next : World) (me : Server) (stamp : ℕ) (up : Bool) → IsWell w → me.0 < w.config.servers
    → (chain : IsChain w next me stamp up) → AreSteps (ticks w me stamp up) me chain.list
chain_steps w next me stamp up well here chain =
    let s = ticked (pool_of w me) stamp up in
    let inside = inside_servers w me well here in
    let found : pool_of (ticks w me stamp up) me ≡ s = pool_there w me s inside in
    let stirs : raises chain.message ≡ true → IsStirred s =
    λ loud. subst (λ (up : Bool). IsStirred (ticked (pool_of w me) stamp up)) (sym loud ∙ chain.raises)
    (tick_stirs (pool_of w me) stamp (well.own.servers me here).mark) in
    let all = acts_stirred s chain.from chain.message chain.list chain.acts stirs in
    let long = length-set w.servers me.0 s in
    steps_of (ticks w me stamp up) me chain.list (omega arith) chain.are (subst (AreStirred chain.list) (sym found) all)

steps_keep : (J : World → Type 0) (me : Server) → ((w : World) (a : Act) → IsWell w → IsStep w me a → J w → J (acted w me a))
    → (w : World) (list : List Act) → IsWell w → AreSteps w me list → J w → J (acted_all w me list)
steps_keep J me step w [] well are holds = holds
steps_keep J me step w (a ∷ more) well are holds =
    steps_keep J me step (acted w me a) more (act_well w me a well (are.0).act) are.1 (step w a well are.0 holds)

-- what a stamp and each step keep in worlds that are well
pub event_steps : (J : World → Type 0)
    → ((w : World) (me : Server) (stamp : ℕ) (up : Bool) → me.0 < w.config.servers → IsWell w → J w → J (ticks w me stamp up))
    → ((w : World) (me : Server) (a : Act) → IsWell w → IsStep w me a → J w → J (acted w me a))
    → (w next : World) (from : Actor) (me : Server) (letter : Letter) (rest : List Letter) (x : Served) → IsWell w
    → Serves w from me letter rest x next → J w → J next
event_steps J tick step w next from me letter rest x well does holds =
    let stamp = next_stamp (pool_of w me) letter in
    let up = raises letter.message in
    let kept = (well.own.servers me does.here).wishes in
    let chain = event_chain w next from me letter rest x (inside_servers w me well does.here) kept does in
    let all = steps_keep J me (λ v a. step v me a) (ticks w me stamp up) chain.list (tick_well w me stamp up does.here well)
    (chain_steps w next me stamp up well does.here chain) (tick w me stamp up does.here well holds) in
    subst J (sym chain.is) all
