-- An event of a server is paid by its letter.
use Rattle.std.proofs.Common.{◌≡◌, ◌≤◌, ◌<◌, ℕ, ◌+◌, Bool, true, false, not, List, [], ◌∷◌, length, Some, refl, sym, ap, ◌∙◌, subst, arith}
use Rattle.std.proofs.lemmas.Bool.{lt-ltb}
use Rattle.std.proofs.lemmas.List.{get_or-set_same, length-set}
use Rattle.adlb_unit.specs.Links.{is_within, place_of}
use Rattle.adlb_unit.specs.declared.actors.Actor.{Actor}
use Rattle.adlb_unit.specs.declared.actors.Actor.TheVariants as by
use Rattle.adlb_unit.specs.declared.configs.Config.{Config}
use Rattle.adlb_unit.specs.declared.letters.Letter.{Letter}
use Rattle.adlb_unit.specs.declared.names.Server.{Server}
use Rattle.server_law.specs.Acts.{Act, Heard, Hints, Notes_own, Notices, Queries, ServerSaying, does, says, takes}
use Rattle.server_law.specs.Carried.{Served, all_counted, counted, done, sends}
use Rattle.server_law.specs.Endings.{is_noted}
use Rattle.server_law.specs.State.{ServerModel, start as new_pool}
use Rattle.server_law.specs.Step.{next_stamp, raises, ticked}
use Rattle.core_run.specs.World.{World, pool_of}
use Rattle.core_law.specs.Acting.{AreActs, IsAct, acted, acted_all, taken_off, ticks}
use Rattle.core_law.specs.Measures.{actor, heard_weight, said_weight, sends_weight, weigh}
use Rattle.core_law.specs.Own.{IsWish}
use Rattle.core_law.specs.Well.{IsWell}
use Rattle.core_law.proofs.Acts.{sent_weight, sent_within, taken_square, taken_weight}
use Rattle.core_law.proofs.Chains.{inside_after, pool_is}
use Rattle.core_law.proofs.Events.{event_chain}
use Rattle.core_law.proofs.Steps.{Serves}
use Rattle.core_law.proofs.Sums.{place_actor, place_below, post_weight, weigh_at-set}
use Rattle.core_law.proofs.LettersAndActors.{act_well, inside_servers, own_of, tick_well}
use Rattle.server_law.proofs.Waiters.{each_all}
use Rattle.core_bound_law.specs.Costs.{IsDue, allowance, cost, toll, toll_of}
use Rattle.core_bound_law.specs.Credits.{credit, if_so, letters_credit, server_credit}
use Rattle.core_bound_law.proofs.ActsPay.{acts_pay}
use Rattle.core_bound_law.proofs.Chains.{AreDue, costs}
use Rattle.core_bound_law.proofs.Rules.{acts_paid}
use Rattle.core_bound_law.proofs.Wishes.{KeepSingle, few_wishes}

-- One act.

counted_credit : (s : ServerModel) (ys : List ServerSaying) → server_credit (all_counted s ys) ≡ server_credit s
counted_credit s [] = refl
counted_credit s (y ∷ ys) = counted_credit (counted s y.to) ys

tolls : Act → ℕ
tolls a = weigh (λ (h : Heard). toll h.message) (takes a)

act_credit : (w : World) (me : Server) (a : Act) → IsWell w → IsAct w me a → IsDue a (pool_of w me)
    → credit (acted w me a) + tolls a + allowance a ≤ credit w + cost a
unfolding credit tolls
act_credit w me a well is due =
    let s = pool_of w me in
    let own = own_of w me a well is in
    let place = place_of w.config (by.Server me) in
    let within : is_within w.config (by.Server me) ≡ true = lt-ltb me.0 w.config.servers is.here in
    let links = taken_off w.config me w.links (takes a) in
    let square = taken_square w.config me w.links (takes a) is.here is.front (well.shape).square in
    let took = taken_weight w.config letters_credit me w.links (takes a) is.here is.front (well.shape).square in
    let sent = post_weight w.config letters_credit links place (sends a s) (place_below w.config (by.Server me) within)
    (sent_within w.config (does a s) (says a s) own.said) square in
    let who : sends_weight letters_credit (actor w.config place) (sends a s) ≡ sends_weight letters_credit (by.Server me) (sends a s) =
    rw (place_actor w.config (by.Server me) within) refl in
    let said = sent_weight letters_credit me (does a s) (says a s) in
    let inside = inside_servers w me well is.here in
    let held = weigh_at-set (λ i (t : ServerModel). server_credit t) w.servers me.0 (done a s) (new_pool w.config me) inside in
    let kept = counted_credit (does a s) (says a s) in
    let here : s.me.0 < s.config.servers = subst (λ (k : Server). k.0 < s.config.servers) (sym own.named)
    (subst (λ (c : Config). me.0 < c.servers) (sym own.config) is.here) in
    let pays = acts_pay a s is.sits is.sure due here in
    let law : said_weight letters_credit.letter me (says a s) + server_credit (does a s) + weigh (λ (h : Heard). toll h.message)
    (takes a) + allowance a
    ≤ heard_weight letters_credit.letter me (takes a) + server_credit s + cost a =
    subst (λ (k : Server). said_weight letters_credit.letter k (says a s) + server_credit (does a s) + weigh (λ (h : Heard). toll h.message)
    (takes a) + allowance a
    ≤ heard_weight letters_credit.letter k (takes a) + server_credit s + cost a) own.named pays in
    omega arith

-- Acts one after the other.

acts_credit : (w : World) (me : Server) (list : List Act) → IsWell w → AreActs w me list → AreDue list (pool_of w me)
    → me.0 < length w.servers → credit (acted_all w me list) ≤ credit w + costs list
acts_credit w me [] well are due inside = omega arith
acts_credit w me (a ∷ more) well are due inside =
    let one = act_credit w me a well are.0 due.0 in
    let later = acts_credit (acted w me a) me more (act_well w me a well are.0) are.1
    (subst (AreDue more) (sym (pool_is w me a inside)) due.1) (inside_after w me a inside) in
    omega arith

-- the first takes a letter
first_due : (a : Act) (s : ServerModel) (h : Heard) → takes a ≡ h ∷ [] → IsDue a s × (cost a ≡ 0)
first_due Notices s h is = absurd (cc)
first_due Notes_own s h is = absurd (cc)
first_due (Hints wish) s h is = absurd (cc)
first_due (Queries to id length) s h is = absurd (cc)
first_due _ s h is = (tt, refl)

-- The stamp, and the activity.

ticked_credit : (s : ServerModel) (stamp : ℕ) (up : Bool) → server_credit (ticked s stamp up) + 1 ≤ server_credit s + toll_of up
ticked_credit s stamp true = let few = if_few (not (is_noted s.kept.noted (s.activity + 1))) in omega arith
  where
    if_few : (t : Bool) → if_so t 24 ≤ 24
    if_few true = omega arith
    if_few false = omega arith
ticked_credit s stamp false = omega arith

-- An event.

-- an event of a server takes at least 1 of the credit
pub event_credit : (w next : World) (from : Actor) (me : Server) (letter : Letter) (rest : List Letter) (x : Served) → IsWell w
    → KeepSingle w
    → Serves w from me letter rest x next → credit next + 1 ≤ credit w
unfolding credit tolls
event_credit w next from me letter rest x well single does =
    let s = pool_of w me in
    let pool = well.own.servers me does.here in
    let inside = inside_servers w me well does.here in
    let stamp = next_stamp s letter in
    let up = raises letter.message in
    let chain = event_chain w next from me letter rest x inside pool.wishes does in
    let v = ticks w me stamp up in
    let t = ticked s stamp up in
    let well_v = tick_well w me stamp up does.here well in
    let inside_v : me.0 < length v.servers = let e = length-set w.servers me.0 t in omega arith in
    let pool_v : pool_of v me ≡ t = get_or-set_same w.servers me.0 t (new_pool w.config me) inside in
    let held = weigh_at-set (λ i (t : ServerModel). server_credit t) w.servers me.0 t (new_pool w.config me) inside in
    let ticked_so = ticked_credit s stamp up in
    let few = few_wishes w.config me s.kept.parked.wishes (each_all (IsWish w.config me) s.kept.parked.wishes pool.wishes)
    (single me does.here) in
    let top = w.config.ranks_within.1 in
    let paid = acts_paid t chain.from chain.message chain.first chain.more (omega arith) (chain.acts ∙ ap Some chain.shape) in
    let a = chain.first in
    let are = subst (AreActs v me) chain.shape chain.are in
    let due = first_due a t (record { from = chain.from; message = chain.message }) chain.takes in
    let one = act_credit v me a well_v are.0 (subst (IsDue a) (sym pool_v) due.0) in
    let follow = acts_credit (acted v me a) me chain.more (act_well v me a well_v are.0) are.1
    (subst (AreDue chain.more) (sym (pool_is v me a inside_v ∙ ap (done a) pool_v)) paid.due) (inside_after v me a inside_v) in
    let pays : tolls a ≡ toll_of up + 0 = ap (λ (hs : List Heard). weigh (λ (h : Heard). toll h.message) hs) chain.takes
    ∙ ap (λ b. toll_of b + 0) chain.raises in
    let end : credit next ≡ credit (acted_all v me (a ∷ chain.more)) = ap credit (chain.is ∙ ap (acted_all v me) chain.shape) in
    let cheap = due.1 in
    let rest_few = paid.few in
    omega arith
