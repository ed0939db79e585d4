-- Each rule is put at most once.
use Rattle.std.proofs.Common.{◌≡◌, ◌==◌, ℕ, suc, true, cond, List, [], ◌∷◌, ◌++◌, Contains, All, count_by, Option, Some, None, refl, sym}
use Rattle.std.proofs.Common.{ap, ◌∙◌, subst, arith, inl, inr, append-nil, append_assoc}
use Rattle.std.proofs.lemmas.Bool.{cases_eq, eq-eqb, ne_eqb}
use Rattle.std.proofs.lemmas.List.Elements.{All-head, All-tail}
use Rattle.std.proofs.lemmas.List.Sums.{sum_by-append, sum_by-cons}
use Rattle.bag_ledger.specs.declared.entries.Answer.TheVariants as answers
use Rattle.bag_ledger.specs.declared.entries.Said.{Said}
use Rattle.balance_law.specs.Balanced.{IsEndedWell}
use Rattle.flow_law.specs.declared.Definition.{Definition}
use Rattle.work_law.specs.Work.{IsWork, fetched_unit, put_of}
use Rattle.work_law.specs.Books.{said_of}
use Rattle.flow_run_law.specs.Units.{FlowUnit, Forms, Rule, flows, untargeted}
use Rattle.flow_run_law.specs.Desk.{Desk, Goes, Moves, again_refused, again_stopped, again_taken, answer_refused, answer_stopped}
use Rattle.flow_run_law.specs.Desk.{answer_taken, fetched, granted, rule_refused, rule_stopped, rule_taken, told, unit_of}
use Rattle.flow_run_law.specs.Puts.{IsOnce, rule_of, rules_in, rules_of}
use Rattle.flow_run_law.proofs.Whole.{brought_put, refused_put}

-- what does not stand there is counted nowhere
none_there : (xs : List ℕ) (i : ℕ) → (Contains xs i → ⊥) → count_by (λ x. x == i) xs ≡ 0
none_there [] i none = refl
none_there (x ∷ xs) i none = elim (cases_eq x i) [
  | inl same ↦ absurd (none (0, omega arith, same))
  | inr other ↦
      let z : cond {A = ℕ} (x == i) 1 0 ≡ 0 = ap (λ b. cond {A = ℕ} b 1 0) (ne_eqb x i other) in
      let rest = none_there xs i (λ there. none (suc there.0, omega (arith, there.1), there.2)) in
      omega (arith, z, rest, sum_by-cons (λ y. cond (y == i) 1 0) x xs)
]

once_more : (xs : List ℕ) (x : ℕ) → IsOnce xs → (Contains xs x → ⊥) → IsOnce (xs ++ x ∷ [])
once_more xs x once new i = elim (cases_eq x i) [
  | inl same ↦
      let none : count_by (λ y. y == i) xs ≡ 0 = none_there xs i (λ there. new (subst (λ z. Contains xs z) (sym same) there)) in
      let one : cond {A = ℕ} (x == i) 1 0 ≡ 1 = ap (λ b. cond {A = ℕ} b 1 0) (eq-eqb x i same) in
      omega (arith, none, one, sum_by-append (λ y. cond (y == i) 1 0) xs (x ∷ []), sum_by-cons (λ y. cond (y == i) 1 0) x [])
  | inr other ↦
      let none : cond {A = ℕ} (x == i) 1 0 ≡ 0 = ap (λ b. cond {A = ℕ} b 1 0) (ne_eqb x i other) in
      let before = once i in
      omega (arith, none, before, sum_by-append (λ y. cond (y == i) 1 0) xs (x ∷ []), sum_by-cons (λ y. cond (y == i) 1 0) x [])
]

module _ (F : Forms) (is : IsWork (flows (untargeted F))) (flow : Option (List Definition)) where
  -- one call: the rules that it puts are noted, and none was put before
  record Notes (d : Desk) (s : Said) (next : Desk) : Type 0 where
    put : next.put ≡ d.put ++ rules_of F s.call
    once : IsOnce d.put → IsOnce next.put

  rule_is : (i : ℕ) (u : FlowUnit) → F.fits u ≡ true → rules_of F (put_of (flows F) u) ≡ rule_of (Some u)
  rule_is i u fits = ap rule_of (is.read_back u fits)

  stays_put : (d : Desk) (s : Said) (next : Desk) → next.put ≡ d.put → rules_of F s.call ≡ [] → Notes d s next
  stays_put d s next same none = record {
    put = same ∙ sym (append-nil d.put) ∙ ap (λ l. d.put ++ l) (sym none);
    once = λ once. subst IsOnce (sym same) once;
  }

  notes_rule : (d : Desk) (s : Said) (next : Desk) (i : ℕ) → next.put ≡ d.put ++ i ∷ [] → (Contains d.put i → ⊥) →
      rules_of F s.call ≡ i ∷ [] → Notes d s next
  notes_rule d s next i put new rule = record {
    put = put ∙ ap (λ l. d.put ++ l) (sym rule);
    once = λ once. subst IsOnce (sym put) (once_more d.put i once new);
  }

  no_rule : (x : ℕ × ℕ) (s : Said) (a : _) → s ≡ said_of (put_of (flows F) (unit_of x)) a → F.fits (unit_of x) ≡ true →
      rules_of F s.call ≡ []
  no_rule x s a said fits = ap (λ (t : Said). rules_of F t.call) said ∙ rule_is 0 (unit_of x) fits

  notes : (d : Desk) (s : Said) (next : Desk) → IsEndedWell s.call s.answer → Moves F flow d s next → Notes d s next
  notes d s next well (rule_taken g i op a b e free ready new fits said left) =
      notes_rule d s next i (ap (λ (z : Desk). z.put) left) new (ap (λ (t : Said). rules_of F t.call) said ∙ rule_is i (Rule i op a b) fits)
  notes d s next well (rule_refused g i op a b e free ready new fits said left) =
      notes_rule d s next i (ap (λ (z : Desk). z.put) left) new (ap (λ (t : Said). rules_of F t.call) said ∙ rule_is i (Rule i op a b) fits)
  notes d s next well (rule_stopped g i op a b end e free ready new fits said left) =
      absurd (let w : IsEndedWell (put_of (flows F) (Rule i op a b)) (answers.Ended end) = subst (λ (t : Said). IsEndedWell t.call t.answer)
      said well in w)
  notes d s next well (answer_taken x rest owes none live fits said left) =
      stays_put d s next (ap (λ (z : Desk). z.put) left) (no_rule x s answers.Fine said fits)
  notes d s next well (answer_refused x rest owes none live fits said left) =
      stays_put d s next (ap (λ (z : Desk). z.put) left ∙ refused_put x (record d { owed = rest }) flow)
      (no_rule x s answers.Rejected said fits)
  notes d s next well (answer_stopped x rest end owes none live fits said left) =
      stays_put d s next (ap (λ (z : Desk). z.put) left) (no_rule x s (answers.Ended end) said fits)
  notes d s next well (again_taken x rest e free keeps once fits said left) =
      stays_put d s next (ap (λ (z : Desk). z.put) left) (no_rule x s answers.Fine said fits)
  notes d s next well (again_refused x rest e free keeps once fits said left) =
      stays_put d s next (ap (λ (z : Desk). z.put) left) (no_rule x s answers.Rejected said fits)
  notes d s next well (again_stopped x rest end e free keeps once fits said left) =
      stays_put d s next (ap (λ (z : Desk). z.put) left) (no_rule x s (answers.Ended end) said fits)
  notes d s next well (granted note free may said left) =
      stays_put d s next (ap (λ (z : Desk). z.put) left) (ap (λ (t : Said). rules_of F t.call) said)
  notes d s next well (told end free may said left) =
      stays_put d s next (ap (λ (z : Desk). z.put) left) (ap (λ (t : Said). rules_of F t.call) said)
  notes d s next well (fetched note bytes holds none live said left) =
      stays_put d s next (ap (λ (z : Desk). z.put) left ∙ brought_put flow (fetched_unit (flows F) note bytes) (record d { held = None }))
      (ap (λ (t : Said). rules_of F t.call) said)

  -- all calls: the rules that are put are those that the desk notes, each once
  pub record AllNoted (d : Desk) (said : List Said) (last : Desk) : Type 0 where
    pub put : last.put ≡ d.put ++ rules_in F said
    pub once : IsOnce d.put → IsOnce last.put

  -- the rules put in calls that ended well are noted, each once
  pub all_noted : (d : Desk) (said : List Said) (last : Desk) → All (λ (s : Said). IsEndedWell s.call s.answer) said →
      Goes F flow d said last →
      AllNoted d said last
  unfolding rules_in
  all_noted d [] last well same = record {
    put = ap (λ (z : Desk). z.put) (sym same) ∙ sym (append-nil d.put);
    once = λ once. subst (λ (z : Desk). IsOnce z.put) same once;
  }
  all_noted d (s ∷ said) last well goes =
      let P : Said → Type 0 = λ t. IsEndedWell t.call t.answer in
      let here = notes d s goes.0 (All-head P s said well) goes.1 in
      let rest = all_noted goes.0 said last (All-tail P s said well) goes.2 in
      record {
        put = rest.put ∙ ap (λ l. l ++ rules_in F said) here.put ∙ append_assoc d.put (rules_of F s.call) (rules_in F said);
        once = λ once. rest.once (here.once once);
      }
