-- What the tests of a push that stands say.
use Rattle.std.proofs.Common.{◌≡◌, ◌↔◌, ◌==◌, ◌&&◌, ℕ, Bool, true, false, Option, None, Some, refl, ap, sym, ◌∙◌, subst}
use Rattle.std.proofs.lemmas.Bool.{and_from, and_parts, eq-eqb, eqb-true, not-true}
use Rattle.adlb_unit.specs.Ids.{same_unit}
use Rattle.adlb_unit.specs.declared.names.Server.{Server}
use Rattle.adlb_unit.specs.declared.names.UnitId.{UnitId}
use Rattle.adlb_unit.proofs.Same.{same_unit_from, same_unit_is}
use Rattle.server_components.specs.Pushes.{Asks, HasSent, Pushing, asks, is_push_as, is_sent, sent_to, some_push}
use Rattle.server_components.specs.declared.standing.StandingPush.{StandingPush}

sent_is : (sent is : Bool) → is_sent sent is ≡ true → is ≡ sent
sent_is true is same = same
sent_is false is same = not-true is same

sent_from : (sent : Bool) → is_sent sent sent ≡ true
sent_from true = refl
sent_from false = refl

abbrev of : Server → UnitId → ℕ → Bool → StandingPush
of to id n sent = record { to = to; id = id; length = n; sent = sent }

-- it is of the unit to the server
pub push_is : (to : Server) (id : UnitId) (sent : Bool) (p : StandingPush) → is_push_as to id sent p ≡ true → p ≡ of to id p.length sent
push_is to id sent p e =
    let s = and_parts (p.to.0 == to.0) (same_unit p.id id && is_sent sent p.sent) e in
    let t = and_parts (same_unit p.id id) (is_sent sent p.sent) s.1 in
    let servers : p.to.0 ≡ to.0 = eqb-true p.to.0 to.0 s.0 in
    let ids : p.id ≡ id = same_unit_is p.id id t.0 in
    let bits : p.sent ≡ sent = sent_is sent p.sent t.1 in
    rw (← servers, ← ids, ← bits) refl

-- a push made for a unit and a server passes their test
pub push_from : (to : Server) (id : UnitId) (n : ℕ) (sent : Bool) → is_push_as to id sent (of to id n sent) ≡ true
push_from to id n sent =
    and_from (to.0 == to.0) (same_unit id id && is_sent sent sent) (eq-eqb to.0 to.0 refl)
    (and_from (same_unit id id) (is_sent sent sent) (same_unit_from id id refl) (sent_from sent))

as_says : (push : Option StandingPush) (to : Server) (id : UnitId) (sent : Bool)
    → (some_push (is_push_as to id sent) push ≡ true) ↔ ((n : ℕ) × (push ≡ Some (of to id n sent)))
as_says None to id sent = (λ no. absurd (cc), λ is. absurd (cc (is.1)))
as_says (Some p) to id sent = (
  λ is. (p.length, ap (λ (x : StandingPush). Some x) (push_is to id sent p is)),
  λ is. let one : p ≡ of to id is.0 sent = cc (is.1) in
      subst (λ (x : StandingPush). is_push_as to id sent x ≡ true) (sym one) (push_from to id is.0 sent),
)

-- what a test of the push that stands answers
pub answers_as : (push : Option StandingPush) (p : StandingPush) (to : Server) (id : UnitId) (sent r : Bool) → push ≡ Some p
    → r ≡ is_push_as to id sent p → (r ≡ true) ↔ ((n : ℕ) × (push ≡ Some (of to id n sent)))
answers_as push p to id sent r stands answer =
    let same : r ≡ some_push (is_push_as to id sent) push = answer ∙ sym (ap (some_push (is_push_as to id sent)) stands) in
    let says = as_says push to id sent in
    (λ yes. says.0 (sym same ∙ yes), λ is. same ∙ says.1 is)

-- what the two tests say
pub asks_says : (p : Pushing) (to : Server) (id : UnitId) → (asks p to id ≡ true) ↔ Asks p to id
asks_says p to id = as_says p.push to id false

-- the test finds a unit sent to a server exactly if the push has sent it there
pub sent_says : (p : Pushing) (to : Server) (id : UnitId) → (sent_to p to id ≡ true) ↔ HasSent p to id
sent_says p to id = as_says p.push to id true
