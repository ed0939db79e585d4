-- After each event of a server: where it is quiet it has given notice of its activity, and at server 0 a check that is wanted has begun.
use Rattle.adlb_unit.specs.Limits.{stamp_limit}
use Rattle.adlb_unit.specs.Links.{is_within}
use Rattle.adlb_unit.specs.declared.actors.Actor.{Actor}
use Rattle.adlb_unit.specs.declared.configs.Config.{Config}
use Rattle.adlb_unit.specs.declared.letters.Letter.{Letter}
use Rattle.bag_ledger.proofs.Tests.{some_is}
use Rattle.core_law.proofs.OwnStates.{counted_activity}
use Rattle.exhaust_ring.specs.Ring.{may_start}
use Rattle.server_law.proofs.Waiters.{all_done_joined, done_kept, done_named}
use Rattle.server_law.specs.Acts.{Act, Notes_own, Notices, Starts, check_alone, does, says}
use Rattle.server_law.specs.Carried.{Served, all_done, carried, done}
use Rattle.server_law.specs.Endings.{checks, ends_event, finds_alone, is_noted, is_quiet, notice, notices, starts}
use Rattle.server_law.specs.Plan.{Decider, Plan, decided, in_order}
use Rattle.server_law.specs.State.{Kept, ServerModel, ring_at}
use Rattle.server_law.specs.Step.{acts, at_event, rule, serve}
use Rattle.std.proofs.Common.{Bool, List, None, Option, Some, [], ap, append-nil, append_assoc, cond, false, inl, inr, not, refl, subst}
use Rattle.std.proofs.Common.{sym, true, ℕ, ◌&&◌, ◌++◌, ◌==◌, ◌∙◌, ◌∷◌, ◌≡◌, ◌≢◌, ◌⊎◌}
use Rattle.std.proofs.lemmas.Bool.{eq-eqb, eqb-true}
use Rattle.std.specs.Option.{option_map}
use Rattle.std.specs.Prelude.{nat_lt}

carried_state : (list : List Act) (s : ServerModel) → (carried list s).state ≡ all_done list s
carried_state [] s = refl
carried_state (a ∷ list) s = carried_state list (done a s)

-- what deciders decide, and those after them
pub decided_split : (ds es : List Decider) (s : ServerModel)
    → decided (ds ++ es) s ≡ decided ds s ++ decided es (all_done (decided ds s) s)
decided_split [] es s = refl
decided_split (d ∷ ds) es s =
    let u = all_done (d s) s in
    let later = decided_split ds es u in
    ap (λ l. d s ++ l) later
    ∙ sym (append_assoc (d s) (decided ds u) (decided es (all_done (decided ds u) u)))
    ∙ ap (λ v. (d s ++ decided ds u) ++ decided es v) (sym (all_done_joined (d s) (decided ds u) s))

all_config : (list : List Act) (s : ServerModel) → (all_done list s).config ≡ s.config
all_config [] s = refl
all_config (a ∷ list) s = all_config list (done a s) ∙ (done_named a s).0

-- an act that leaves the push, who waits and who has finished leaves the server quiet or not
pub quiet_after : (a : Act) (s : ServerModel) → (does a s).kept.pushing.push ≡ s.kept.pushing.push
    → (does a s).kept.parked.waiting ≡ s.kept.parked.waiting → (does a s).kept.finished ≡ s.kept.finished
    → is_quiet (done a s) ≡ is_quiet s
quiet_after a s p q r =
    let k = done_kept a s in
    let n = done_named a s in
    let push = ap (λ (x : Kept). x.pushing.push) k ∙ p in
    let waiting = ap (λ (x : Kept). x.parked.waiting) k ∙ q in
    let finished = ap (λ (x : Kept). x.finished) k ∙ r in
    rw (n.0, n.1, push, waiting, finished) refl

-- what is so of a server after each of its events
pub record IsAtEnd (x : ServerModel) : Type 0 where
  pub noted : is_quiet x ≡ true → is_noted x.kept.noted x.activity ≡ true
  pub started : x.me.0 ≡ 0 → is_quiet x ≡ true → x.kept.ring.wanted ≡ true → (x.kept.ring.runs ≡ true) ⊎ (x.kept.shut ≡ true)

itself : (n : ℕ) → (n == n) ≡ true
itself n = eq-eqb n n refl

own_activity : (a : Act) (s : ServerModel) → (done a s).activity ≡ s.activity
own_activity a s = counted_activity (does a s) (says a s)

noted_now : (s : ServerModel) → is_quiet (all_done (notices s) s) ≡ true
    → is_noted (all_done (notices s) s).kept.noted (all_done (notices s) s).activity ≡ true
noted_now s = by_test (is_quiet s && not (is_noted s.kept.noted s.activity)) refl
  where
    given : (a : Act) → (does a s).kept.noted ≡ Some s.activity → is_noted (done a s).kept.noted (done a s).activity ≡ true
    given a is =
        let noted : (done a s).kept.noted ≡ Some s.activity = ap (λ (x : Kept). x.noted) (done_kept a s) ∙ is in
        rw (noted, own_activity a s) (itself s.activity)

    by_place : (t : Bool) → is_noted (all_done (notice t) s).kept.noted (all_done (notice t) s).activity ≡ true
    by_place true = given Notes_own refl
    by_place false = given Notices refl

    was : (t : Bool) → is_noted s.kept.noted s.activity ≡ t → (is_quiet s && not (is_noted s.kept.noted s.activity)) ≡ false
        → is_quiet s ≡ true
        → is_noted s.kept.noted s.activity ≡ true
    was true e none quiet = e
    was false e none quiet = let so : (is_quiet s && not (is_noted s.kept.noted s.activity)) ≡ true = rw (quiet, e) refl in
        let no : false ≡ true = sym none ∙ so in absurd (cc)

    by_test : (t : Bool) → (is_quiet s && not (is_noted s.kept.noted s.activity)) ≡ t
        → is_quiet (all_done (cond t (notice (s.me.0 == 0)) []) s) ≡ true
        → is_noted (all_done (cond t (notice (s.me.0 == 0)) []) s).kept.noted (all_done (cond t (notice (s.me.0 == 0)) []) s).activity
        ≡ true
    by_test true is quiet = by_place (s.me.0 == 0)
    by_test false is quiet = was (is_noted s.kept.noted s.activity) refl is quiet

checked_now : (u : ServerModel) → u.config.servers ≢ 1 → (is_quiet u ≡ true → is_noted u.kept.noted u.activity ≡ true)
    → IsAtEnd (all_done (checks u) u)
checked_now u several noted = by_test (may_start (ring_at u) (is_quiet u)) refl
  where
    by_flags : (runs shut : Bool) → u.kept.ring.runs ≡ runs → u.kept.shut ≡ shut → may_start (ring_at u) (is_quiet u) ≡ false → u.me.0 ≡ 0
        → is_quiet u ≡ true → u.kept.ring.wanted ≡ true → (u.kept.ring.runs ≡ true) ⊎ (u.kept.shut ≡ true)
    by_flags true shut r s may z q w = inl r
    by_flags false true r s may z q w = inr s
    by_flags false false r s may z q w =
        let zero_is : (u.me.0 == 0) ≡ true = eq-eqb u.me.0 0 z in
        let so : may_start (ring_at u) (is_quiet u) ≡ true = rw (zero_is, w, r, q, s) refl in
        let no : false ≡ true = sym may ∙ so in
        absurd (cc)

    by_number : (t : Bool) → (u.config.servers == 1) ≡ t
        → IsAtEnd (all_done (cond t (finds_alone (check_alone u).step u.kept.parked.waiting) (Starts ∷ [])) u)
    by_number true is = absurd (several (eqb-true u.config.servers 1 is))
    by_number false is =
        let x = done Starts u in
        let k = done_kept Starts u in
        let quiet = quiet_after Starts u refl refl refl in
        let same : x.kept.noted ≡ u.kept.noted = ap (λ (y : Kept). y.noted) k in
        let off : x.kept.ring.wanted ≡ false = ap (λ (y : Kept). y.ring.wanted) k in
        record {
          noted = λ q. rw (same, own_activity Starts u) (noted (sym quiet ∙ q));
          started = λ z q w. let no : false ≡ true = sym off ∙ w in absurd (cc);
        }

    by_test : (t : Bool) → may_start (ring_at u) (is_quiet u) ≡ t → IsAtEnd (all_done (cond t (starts u) []) u)
    by_test true is = by_number (u.config.servers == 1) refl
    by_test false is = record { noted = noted; started = λ z q w. by_flags u.kept.ring.runs u.kept.shut refl refl is z q w }

-- it is so after what follows each event
pub end_is : (s : ServerModel) → s.config.servers ≢ 1 → IsAtEnd (all_done (decided ends_event s) s)
end_is s several =
    let u = all_done (notices s) s in
    let same : all_done (decided ends_event s) s ≡ all_done (checks u) u =
    all_done_joined (notices s) (checks u ++ []) s ∙ ap (λ l. all_done l u) (append-nil (checks u)) in
    let more : u.config.servers ≢ 1 = λ e. several (ap (λ (c : Config). c.servers) (sym (all_config (notices s) s)) ∙ e) in
    subst IsAtEnd (sym same) (checked_now u more (noted_now s))

-- it is so after a plan
pub plan_ends : (s : ServerModel) (p : Plan) → s.config.servers ≢ 1 → IsAtEnd (all_done (in_order ends_event s p) s)
plan_ends s p several =
    let t = done p.first s in
    let u = all_done (decided p.follow t) t in
    let same : all_done (in_order ends_event s p) s ≡ all_done (decided ends_event u) u =
    ap (λ l. all_done l t) (decided_split p.follow ends_event t) ∙ all_done_joined (decided p.follow t) (decided ends_event u) t in
    let config = all_config (decided p.follow t) t ∙ (done_named p.first s).0 in
    subst IsAtEnd (sym same) (end_is u (λ e. several (ap (λ (c : Config). c.servers) (sym config) ∙ e)))

-- an event
pub serve_ends : (s : ServerModel) (from : Actor) (letter : Letter) (x : Served) → s.config.servers ≢ 1 → serve s from letter ≡ Some x
    → IsAtEnd x.state
serve_ends s from letter x several is = by_test (is_within s.config from && nat_lt letter.stamp stamp_limit) is
  where
    t : ServerModel
    t = at_event s letter

    by_plan : (o : Option Plan) → option_map (λ list. carried list t) (option_map (in_order ends_event t) o) ≡ Some x → IsAtEnd x.state
    by_plan None e = absurd (cc)
    by_plan (Some p) e =
        let list = in_order ends_event t p in
        let same : all_done list t ≡ x.state = sym (carried_state list t) ∙ ap (λ (y : Served). y.state) (some_is e) in
        subst IsAtEnd same (plan_ends t p several)

    by_test : (b : Bool) → cond b (option_map (λ list. carried list t) (acts t from letter.message)) None ≡ Some x → IsAtEnd x.state
    by_test true e = by_plan (rule t from letter.message) e
    by_test false e = absurd (cc)
