-- What is entered is what is called, rank by rank, so the laws of the calls hold of the entries.
use Rattle.std.proofs.Common.{◌≡◌, ◌≢◌, ◌<◌, inl, inr, ℕ, zero, suc, true, cond, List, [], ◌∷◌, ◌++◌, get_or, Contains}
use Rattle.std.proofs.Common.{Some, None, refl, sym, ap, ◌∙◌, subst, arith, append_assoc, append-nil}
use Rattle.std.specs.Prelude.{flat_map}
use Rattle.std.proofs.lemmas.Bool.{ne_eqb}
use Rattle.std.proofs.lemmas.List.Elements.{Contains-append_cases}
use Rattle.adlb_unit.specs.declared.configs.Config.{Config}
use Rattle.adlb_unit.specs.declared.names.Rank.{Rank}
use Rattle.bag_ledger.specs.declared.entries.Answer.{Answer}
use Rattle.bag_ledger.specs.declared.entries.Answer.TheVariants as answers
use Rattle.bag_ledger.specs.declared.entries.Call.{Call}
use Rattle.bag_ledger.specs.declared.entries.Call.TheVariants as calls_to
use Rattle.bag_ledger.specs.declared.entries.Entry.{Entry}
use Rattle.bag_ledger.specs.declared.entries.Said.{Said}
use Rattle.bag_ledger.specs.Bag.{Bag, start}
use Rattle.bag_ledger.specs.Runs.{IsRun, calls}
use Rattle.balance_law.specs.Orderly.{finish}
use Rattle.flow_law.specs.Flows.{AreDistinct}
use Rattle.flow_law.specs.declared.Definition.{Definition}
use Rattle.flow_law.specs.declared.Op.{Op}
use Rattle.work_law.specs.Books.{said_of}
use Rattle.work_law.specs.Work.{put_of as put_unit}
use Rattle.flow_run_law.specs.Desk.{Desk, Goes, Moves, again_refused, again_stopped, again_taken, answer_refused, answer_stopped}
use Rattle.flow_run_law.specs.Desk.{answer_taken}
use Rattle.flow_run_law.specs.Desk.{at_start, fetched, granted, rule_refused, rule_stopped, rule_taken, told, unit_of}
use Rattle.flow_run_law.specs.Puts.{AreTaken, IsFlowRun, IsOnce, rule_of, rules_in, rules_of}
use Rattle.flow_run_law.specs.Run.{flow_of}
use Rattle.flow_run_law.specs.Units.{AreForms, FlowUnit, Forms, HasTypes, IsGoodRule, Rule, flows}
use Rattle.flow_run_law.proofs.Laws.{are_orderly, complete, once, values}
use Rattle.put_law.specs.Entered.{called, entered, put_of}
use Rattle.put_law.proofs.Entering.{entered_is}
use Rattle.flow_entry_law.specs.Entries.{AreAllEntered, AreEntered, home, rules_entered}

-- Lists.

flat-append : {X Y : Type 0} (f : X → List Y) (xs ys : List X) → flat_map f (xs ++ ys) ≡ flat_map f xs ++ flat_map f ys
flat-append f [] ys = refl
flat-append f (x ∷ xs) ys = ap (λ l. f x ++ l) (flat-append f xs ys) ∙ sym (append_assoc (f x) (flat_map f xs) (flat_map f ys))

none_there : {X : Type 0} (x : X) → Contains [] x → ⊥
none_there x there = omega (arith, there.1)

one_there : {X : Type 0} (y x : X) → Contains (y ∷ []) x → y ≡ x
one_there {X} y x there = at there.0 there.1 there.2
  where
    at : (k : ℕ) → k < 1 → get_or (y ∷ []) k x ≡ x → y ≡ x
    at zero below is = is
    at (suc k) below is = absurd (omega (arith, below))

-- Puts of rules.

module _ (F : Forms) where
  of_call : (call : Call) → flat_map (rules_of F) (put_of call) ≡ rules_of F call
  of_call (calls_to.Put kind prio target answer body) = append-nil (rules_of F (calls_to.Put kind prio target answer body))
  of_call _ = refl

  -- the rules among the puts are those among the calls
  same_rules : (said : List Said) → flat_map (rules_of F) (called said) ≡ rules_in F said
  unfolding rules_in
  same_rules [] = refl
  same_rules (s ∷ said) =
      flat-append (rules_of F) (put_of s.call) (called said) ∙ ap (λ l. l ++ flat_map (rules_of F) (called said)) (of_call s.call)
      ∙ ap (λ l. rules_of F s.call ++ l) (same_rules said)

  rules_end : (said : List Said) → rules_in F (said ++ finish ∷ []) ≡ rules_in F said
  unfolding rules_in
  rules_end [] = refl
  rules_end (s ∷ said) = ap (λ l. rules_of F s.call ++ l) (rules_end said)

  -- a rank without the flow puts no rule
  no_rule : (u : FlowUnit) (a : Answer) (s : Said) → F.read (F.form u).kind (F.form u).answer (F.form u).body ≡ Some u →
      rule_of (Some u) ≡ [] →
      s ≡ said_of (put_unit (flows F) u) a → rules_of F s.call ≡ []
  no_rule u a s back none said = ap (λ (t : Said). rules_of F t.call) said ∙ ap rule_of back ∙ none

  none_ruled : (ranks : ℕ) → AreForms ranks F → (d : Desk) (s : Said) (next : Desk) → Moves F None d s next → rules_of F s.call ≡ []
  none_ruled ranks are d s next (rule_taken g i op a b e free ready new fits said left) = absurd (cc)
  none_ruled ranks are d s next (rule_refused g i op a b e free ready new fits said left) = absurd (cc)
  none_ruled ranks are d s next (rule_stopped g i op a b end e free ready new fits said left) = absurd (cc)
  none_ruled ranks are d s next (answer_taken x rest owes none live fits said left) =
      no_rule (unit_of x) answers.Fine s (are.read_back (unit_of x) fits) refl said
  none_ruled ranks are d s next (answer_refused x rest owes none live fits said left) =
      no_rule (unit_of x) answers.Rejected s (are.read_back (unit_of x) fits) refl said
  none_ruled ranks are d s next (answer_stopped x rest end owes none live fits said left) =
      no_rule (unit_of x) (answers.Ended end) s (are.read_back (unit_of x) fits) refl said
  none_ruled ranks are d s next (again_taken x rest e free keeps fresh fits said left) =
      no_rule (unit_of x) answers.Fine s (are.read_back (unit_of x) fits) refl said
  none_ruled ranks are d s next (again_refused x rest e free keeps fresh fits said left) =
      no_rule (unit_of x) answers.Rejected s (are.read_back (unit_of x) fits) refl said
  none_ruled ranks are d s next (again_stopped x rest end e free keeps fresh fits said left) =
      no_rule (unit_of x) (answers.Ended end) s (are.read_back (unit_of x) fits) refl said
  none_ruled ranks are d s next (granted note free may said left) = ap (λ (t : Said). rules_of F t.call) said
  none_ruled ranks are d s next (told end free may said left) = ap (λ (t : Said). rules_of F t.call) said
  none_ruled ranks are d s next (fetched note bytes holds none live said left) = ap (λ (t : Said). rules_of F t.call) said

  none_ruled_all : (ranks : ℕ) → AreForms ranks F → (d : Desk) (said : List Said) (last : Desk) → Goes F None d said last →
      rules_in F said ≡ []
  unfolding rules_in
  none_ruled_all ranks are d [] last goes = refl
  none_ruled_all ranks are d (s ∷ said) last goes =
      ap (λ l. l ++ rules_in F said) (none_ruled ranks are d s goes.0 goes.1) ∙ none_ruled_all ranks are goes.0 said last goes.2

-- a put among calls, with the calls before and after it
record IsSplit (said : List Said) (call : Call) : Type 0 where
  front : List Said
  s : Said
  back : List Said
  split : said ≡ front ++ s ∷ back
  call_is : s.call ≡ call

put_is : (call c : Call) → Contains (put_of call) c → call ≡ c
put_is (calls_to.Put kind prio target answer body) c there = one_there (calls_to.Put kind prio target answer body) c there
put_is _ c there = absurd (none_there c there)

split_at : (said : List Said) (c : Call) → Contains (called said) c → IsSplit said c
split_at [] c there = absurd (none_there c there)
split_at (s ∷ said) c there = elim (Contains-append_cases (put_of s.call) (called said) c there) [
  | inl here ↦ record { front = []; s = s; back = said; split = refl; call_is = put_is s.call c here }
  | inr later ↦
      let r = split_at said c later in
      record { front = s ∷ r.front; s = r.s; back = r.back; split = ap (λ l. s ∷ l) r.split; call_is = r.call_is }
]

-- The laws.

module _ (F : Forms) (config : Config) (ledger : List Entry) (some : 0 < config.ranks) (are : AreForms config.ranks F)
    (flow : List Definition)
    (each : IsFlowRun F config ledger flow) (last : Bag) (legal : IsRun (start config) ledger last)
  where
    puts : (rank : Rank) → rank.0 < config.ranks → entered ledger rank ≡ called (calls config ledger rank)
    puts rank below = entered_is config ledger last some legal (are_orderly F config ledger some are flow each) rank below

    rules_same : (rank : Rank) → rank.0 < config.ranks → rules_entered F ledger rank ≡ rules_in F (calls config ledger rank)
    rules_same rank below = ap (flat_map (rules_of F)) (puts rank below) ∙ same_rules F (calls config ledger rank)

    no_others : (rank : Rank) → rank.0 < config.ranks → rank.0 ≢ 0 → rules_entered F ledger rank ≡ []
    no_others rank below other =
        let w = each rank below in
        let none : flow_of flow rank ≡ None = ap (λ b. cond b (Some flow) None) (ne_eqb rank.0 0 other) in
        rules_same rank below ∙ ap (rules_in F) w.calls_are ∙ rules_end F w.said
        ∙ none_ruled_all F config.ranks are at_start w.said w.last (subst (λ o. Goes F o at_start w.said w.last) none w.goes)

    values_entered : (i : ℕ) (op : Op) (a b : ℕ) → F.fits (Rule i op a b) ≡ true →
        Contains (entered ledger home) (put_unit (flows F) (Rule i op a b)) → IsGoodRule flow i op a b
    values_entered i op a b fits there =
        let r = split_at (calls config ledger home) (put_unit (flows F) (Rule i op a b))
        (subst (λ l. Contains l (put_unit (flows F) (Rule i op a b))) (puts home some) there) in
        let put : r.s ≡ said_of (put_unit (flows F) (Rule i op a b)) r.s.answer = ap (λ (c : Call). said_of c r.s.answer) r.call_is in
        values F config ledger some are flow each last legal r.front r.s r.back i op a b r.s.answer fits put r.split

    pub are_entered : AreEntered F config ledger flow
    are_entered = record {
      once = subst IsOnce (sym (rules_same home some)) (once F config ledger some are flow each last legal);
      values = values_entered;
      others = no_others;
    }

    pub all_entered : HasTypes F → AreDistinct flow → AreTaken F config ledger → AreAllEntered F ledger flow
    all_entered types distinct taken i name op left right v rule has =
        subst (λ l. Contains l i) (sym (rules_same home some))
        (complete F config ledger some are flow each last legal types distinct taken i name op left right v rule has)
