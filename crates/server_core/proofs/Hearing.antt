-- Another server hints that it has a unit for a rank by now.
use Rattle.std.proofs.Common.{◌≡◌, ℕ, true, false, ◌&&◌, cond, List, [], ◌∷◌, ◌++◌, Option, None, Some, refl, sym, ap, ◌∙◌, subst}
use Rattle.std.specs.Prelude.{is_none}
use Rattle.std.specs.List.{list_any}
use Rattle.std.proofs.lemmas.Bool.{and_from, and_left, and_parts, eq-eqb, eqb-true}
use Rattle.adlb_unit.specs.declared.names.Rank.{Rank}
use Rattle.adlb_unit.specs.declared.names.Server.{Server}
use Rattle.bag_ledger.proofs.Tests.{some_is}
use Rattle.server_components.proofs.Places.{none_any, none_turned}
use Rattle.server_components.specs.Calls.{hears_of, is_idle_since, is_since}
use Rattle.server_components.specs.Parked.{IsHere, IsOther, IsParked, entry_of, is_idle, is_of}
use Rattle.server_components.specs.declared.waits.Waiting.{Waiting}
use Rattle.server_law.specs.Acts.{Act, Asks_on, Drops_hint, Is_hinted, hinted}
use Rattle.server_law.specs.Carried.{done}
use Rattle.server_law.specs.Finding.{Place, place_in}
use Rattle.server_law.specs.Hints.{expects_hint, hint_at, hint_rule}
use Rattle.server_law.specs.Plan.{Plan}
use Rattle.server_law.specs.State.{ServerModel, awaiting, idle}
use Rattle.server_law.specs.Waits.{ask_next, asks_on}
use Rattle.server_law.proofs.Places.{none_found}
use Rattle.server_law.proofs.Tests.{expects_hint_says}
use Rattle.server_core.specs.inside.{parked_of}
use Rattle.server_core.specs.Out.{Out, going_on, made, planned}
use Rattle.server_core.specs.Waits.{heard, told_ask}
use Rattle.server_core.proofs.Alone.{NonePasses, any_one}
use Rattle.server_core.proofs.Asking.{asks_here, at_waiting, waits_here}
use Rattle.server_core.proofs.Going.{asks_then, nothing_said, plan_one}
use Rattle.server_core.proofs.Rings.{with_one}
use Rattle.server_core.proofs.Seats.{IsAlone, alone_at, fails_for, found_is, same_rank, turned_is}
use Rattle.server_core.proofs.Sounds.{waits_as}

-- What comes of the hint.
pub record Heard (s : ServerModel) (out : Out) (from : Server) (rank : Rank) (request : ℕ) : Type 0 where
  -- a server is asked at once
  pub asks : is_idle_since (parked_of s) rank request ≡ true → (e : Waiting)
      × (entry_of (parked_of (heard s rank request from)) rank ≡ Some e)
      × ((q : Plan) → hint_rule s from rank request ≡ Some q
      → told_ask from rank request e.wish.types out (heard s rank request from) ≡ planned out q s)
  -- or later, or not at all
  pub waits : is_idle_since (parked_of s) rank request ≡ false → (q : Plan) → hint_rule s from rank request ≡ Some q
      → made (heard s rank request from) out ≡ planned out q s

module _ (s : ServerModel) (out : Out) (from : Server) (sound : IsParked (parked_of s)) (other : IsOther s.config s.me from) where
  rule_is : (rank : Rank) (request : ℕ) (o : Option Place) → expects_hint s rank ≡ true
      → place_in (is_since rank request) s.kept.parked.waiting ≡ o → hint_rule s from rank request ≡ hint_at from rank request o
  rule_is rank request o expected found =
      ap (λ b. cond b (hint_at from rank request (place_in (is_since rank request) s.kept.parked.waiting)) None) expected
      ∙ ap (hint_at from rank request) found

  -- The rank does not wait since this call.
  dropped : (rank : Rank) (request : ℕ) → expects_hint s rank ≡ true → place_in (is_since rank request) s.kept.parked.waiting ≡ None
      → Heard s out from rank request
  dropped rank request expected none =
      let fails = none_found (is_since rank request) s.kept.parked.waiting none in
      let seat = ap (at_waiting s)
      (none_turned (is_since rank request) (hears_of s.config s.me from) s.kept.parked.waiting fails) in
      let goes = nothing_said (Drops_hint from rank request) s out refl refl in
      record {
        asks = λ yes. let no = sym (none_any (is_since rank request) is_idle s.kept.parked.waiting fails) ∙ yes in absurd (cc);
        waits = λ busy q is.
            subst (λ r. made (heard s rank request from) out ≡ planned out r s)
            (some_is (sym (rule_is rank request None expected none) ∙ is)) (ap (λ w. made w out) seat ∙ goes);
      }

  -- It does.
  module _ (p : Place) (expected : expects_hint s p.here.wish.rank ≡ true)
      (found : place_in (is_since p.here.wish.rank p.here.wish.request) s.kept.parked.waiting ≡ Some p)
      (alone : IsAlone p.here.wish.rank s.kept.parked.waiting p) where
    abbrev hint : Act
    hint = Is_hinted p.at p.here from

    since : is_since p.here.wish.rank p.here.wish.request p.here ≡ true
    since = and_from _ _ (eq-eqb p.here.wish.rank.0 _ refl) (eq-eqb p.here.wish.request _ refl)

    fails_among : (l : List Waiting) → NonePasses (is_of p.here.wish.rank) l → NonePasses (is_since p.here.wish.rank p.here.wish.request) l
    fails_among =
        fails_for p.here.wish.rank (is_since p.here.wish.rank p.here.wish.request) (λ e is. and_left _ _ is)

    idle_as : is_idle_since (parked_of s) p.here.wish.rank p.here.wish.request ≡ is_none p.here.asked
    idle_as =
        ap (list_any (λ e. is_since p.here.wish.rank p.here.wish.request e && is_idle e)) alone.stands
        ∙ any_one (is_since p.here.wish.rank p.here.wish.request) is_idle p.at.before p.here p.at.behind
        (fails_among p.at.before alone.before) since (fails_among p.at.behind alone.behind)

    seat : heard s p.here.wish.rank p.here.wish.request from
        ≡ at_waiting s (p.at.before ++ hears_of s.config s.me from p.here ∷ p.at.behind)
    seat =
        ap (at_waiting s)
        (turned_is p.here.wish.rank s.kept.parked.waiting p alone (is_since p.here.wish.rank p.here.wish.request)
        (hears_of s.config s.me from) (λ e is. and_left _ _ is) since)

    by_rule : (l : List Act) → ask_next p.at p.here.wish p.here.asked (hinted s p.here from).to_ask ≡ l
        → (q : Plan) → hint_rule s from p.here.wish.rank p.here.wish.request ≡ Some q → going_on out (hint ∷ l) s ≡ planned out q s
    by_rule l asks q is =
        let next = asks_here p.at.before (hinted s p.here from) p.at.behind alone.before (done hint s) refl ∙ asks in
        subst (λ r. going_on out (hint ∷ l) s ≡ planned out r s)
        (some_is (sym (rule_is p.here.wish.rank p.here.wish.request (Some p) expected found) ∙ is))
        (sym (plan_one hint (asks_on p.here.wish.rank) s out ∙ ap (λ m. going_on out (hint ∷ m) s) next))

    heard_here : Heard s out from p.here.wish.rank p.here.wish.request
    heard_here = by_asked p.here.asked refl
      where
        by_asked : (a : Option Server) → p.here.asked ≡ a → Heard s out from p.here.wish.rank p.here.wish.request
        by_asked (Some t) asked =
            let is : p.here ≡ awaiting p.here.wish t p.here.to_ask =
            ap (λ (k : Option Server). let e : Waiting = record { wish = p.here.wish; asked = k; to_ask = p.here.to_ask } in e) asked in
            let now = ap (hears_of s.config s.me from) is ∙ ap (λ e. hinted s e from) (sym is) in
            record {
              asks = λ yes. let no = sym yes ∙ idle_as ∙ ap (λ (k : Option Server). is_none k) asked in absurd (cc);
              waits = λ busy q rule.
                  ap (λ v. made v out) (seat ∙ ap (λ e. at_waiting s (p.at.before ++ e ∷ p.at.behind)) now)
                  ∙ nothing_said hint s out refl refl
                  ∙ by_rule [] (ap (λ k. ask_next p.at p.here.wish k (hinted s p.here from).to_ask) asked) q rule;
            }
        by_asked None asked =
            let as_waits = waits_as (parked_of s) sound (is_of p.here.wish.rank) p.here
            (found_is p.here.wish.rank s.kept.parked.waiting p alone) in
            let is : p.here ≡ idle p.here.wish [] =
            ap (λ (k : Option Server). let e : Waiting = record { wish = p.here.wish; asked = k; to_ask = p.here.to_ask } in e) asked
            ∙ ap (λ (l : List Server). idle p.here.wish l) (as_waits.settled asked) in
            let now = seat
            ∙ ap (λ e. at_waiting s (p.at.before ++ e ∷ p.at.behind)) (ap (hears_of s.config s.me from) is) in
            let next = ap (λ (e : Waiting). ask_next p.at p.here.wish e.asked (hinted s e from).to_ask) is
            ∙ ap (ask_next p.at p.here.wish None) (with_one s.config s.me from sound.there other) in
            record {
              asks = λ yes. (
                awaiting p.here.wish from [],
                waits_here p.at.before (awaiting p.here.wish from []) p.at.behind alone.before
                    (heard s p.here.wish.rank p.here.wish.request from) (ap (λ (v : ServerModel). v.kept.parked.waiting) now),
                λ q rule. ap (told_ask from p.here.wish.rank p.here.wish.request p.here.wish.types out) now
                    ∙ asks_then hint s out refl refl p.at p.here.wish from []
                    ∙ by_rule (Asks_on p.at p.here.wish from [] ∷ []) next q rule,
              );
              waits = λ busy. let no = sym busy ∙ idle_as ∙ ap (λ (k : Option Server). is_none k) asked in absurd (cc);
            }

  -- what the home does after a hint
  pub hears : (rank : Rank) (request : ℕ) → IsHere s.config s.me rank → Heard s out from rank request
  hears rank request here = by_place (place_in (is_since rank request) s.kept.parked.waiting) refl
    where
      expected : expects_hint s rank ≡ true
      expected = (expects_hint_says s rank).1 here

      by_place : (o : Option Place) → place_in (is_since rank request) s.kept.parked.waiting ≡ o → Heard s out from rank request
      by_place None found = dropped rank request expected found
      by_place (Some p) found =
          let at = alone_at rank (is_since rank request) (λ e is. (and_parts _ _ is).0) s.kept.parked.waiting sound.once p found in
          let F : Rank → ℕ → Type 0 = λ r k. expects_hint s r ≡ true → place_in (is_since r k) s.kept.parked.waiting ≡ Some p
          → IsAlone r s.kept.parked.waiting p → Heard s out from r k in
          let own : F p.here.wish.rank p.here.wish.request = heard_here p in
          let rank_is = same_rank p.here.wish.rank rank (eqb-true _ _ at.0.own) in
          let request_is = eqb-true p.here.wish.request request (and_parts (is_of rank p.here) _ at.1).1 in
          let all : F rank request = subst (λ r. F r request) rank_is (subst (F p.here.wish.rank) request_is own) in
          all expected found at.0
