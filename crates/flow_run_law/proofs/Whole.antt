-- Each rule that has a value is put, where no answer of another rank was rejected.
use Rattle.std.proofs.Common.{◌≡◌, ◌<◌, ◌≤◌, ◌==◌, ℕ, zero, suc, Bool, true, false, cond, List, [], ◌∷◌, ◌++◌, length, get_or, Contains}
use Rattle.std.proofs.Common.{All, count_by, Option, Some, None, refl, sym, ap, ◌∙◌, subst, arith, inl, inr, ◌⊎◌}
use Rattle.std.specs.List.{list_any}
use Rattle.std.proofs.lemmas.Bool.{cases_lt, eqb-true}
use Rattle.std.proofs.lemmas.List.Elements.{All-head, All-tail, Contains-append_cases, Contains-append_left, Contains-append_right}
use Rattle.std.proofs.lemmas.List.Sums.{sum_by-append}
use Rattle.adlb_unit.specs.declared.names.UnitId.{UnitId}
use Rattle.adlb_unit.specs.declared.notes.UnitNote.{UnitNote}
use Rattle.bag_ledger.specs.declared.entries.Answer.{Answer as Reply}
use Rattle.bag_ledger.specs.declared.entries.Call.{Call}
use Rattle.bag_ledger.specs.declared.entries.Answer.TheVariants as answers
use Rattle.bag_ledger.specs.declared.entries.Call.TheVariants as calls_to
use Rattle.bag_ledger.specs.declared.entries.Said.{Said}
use Rattle.balance_law.specs.Balanced.{IsEndedWell}
use Rattle.balance_law.specs.Parcels.{Parcel, batch_after, got, granted_note, parcel_got, parcel_sent, sent}
use Rattle.flow_law.specs.Flows.{apply}
use Rattle.flow_law.specs.declared.Definition.{Definition}
use Rattle.flow_law.specs.declared.Op.{Op}
use Rattle.work_law.specs.Work.{IsWork, arrival, common_bytes, fetched_unit, put_of}
use Rattle.work_law.specs.Books.{said_of}
use Rattle.work_law.proofs.Flow.{got_counts, passes, put_counts, reads}
use Rattle.work_law.proofs.Pieces.{one_if}
use Rattle.flow_run_law.specs.Units.{Answer, FlowUnit, Forms, Rule, flows, untargeted, AimsAt}
use Rattle.flow_run_law.specs.Desk.{Desk, Goes, Moves, add, again_refused, again_stopped, again_taken, answer_refused, answer_stopped}
use Rattle.flow_run_law.specs.Desk.{answer_taken, brought, fetched, granted, refused, rule_refused, rule_stopped, rule_taken, told, unit_of}
use Rattle.flow_run_law.proofs.Good.{exact_unit, is_unit, itself, same_unit}
use Rattle.flow_run_law.proofs.Order.{ordered}

head_cases : {X : Type 0} (y x : X) (xs : List X) → Contains (y ∷ xs) x → (y ≡ x) ⊎ Contains xs x
head_cases {X} y x xs there = at there.0 there.1 there.2
  where
    at : (k : ℕ) → k < suc (length xs) → get_or (y ∷ xs) k x ≡ x → (y ≡ x) ⊎ Contains xs x
    at zero below is = inl is
    at (suc k) below is = inr (k, omega arith, is)

-- a list contains its head
pub Contains-head : {X : Type 0} (x : X) (xs : List X) → Contains (x ∷ xs) x
Contains-head x xs = (0, omega arith, refl)

none_there : {X : Type 0} (x : X) → Contains [] x → ⊥
none_there x there = omega (arith, there.1)

-- some value of the rule is stored
pub record HasStored (stored : List (ℕ × ℕ)) (i : ℕ) : Type 0 where
  pub v : ℕ
  pub there : Contains stored (i, v)

any_there : (i : ℕ) (stored : List (ℕ × ℕ)) → list_any (λ y. y.0 == i) stored ≡ true → HasStored stored i
any_there i [] e = absurd (cc)
any_there i (y ∷ ys) e = at (y.0 == i) refl (any_there i ys) e
  where
    at : (b : Bool) → b ≡ (y.0 == i) → (list_any (λ z. z.0 == i) ys ≡ true → HasStored ys i) → list_any (λ z. z.0 == i) (y ∷ ys) ≡ true →
        HasStored (y ∷ ys) i
    at true h on e =
        let same : y.0 ≡ i = eqb-true y.0 i (sym h) in
        record { v = y.1; there = subst (λ k. Contains (y ∷ ys) (k, y.1)) same (Contains-head y ys) }
    at false h on e =
        let rest : list_any (λ z. z.0 == i) ys ≡ true = rw (← h) at e in
        let r = on rest in
        record { v = r.v; there = (suc r.there.0, omega (arith, r.there.1), r.there.2) }

add_there : (x : ℕ × ℕ) (stored : List (ℕ × ℕ)) → HasStored (add x stored) x.0
add_there x stored = at (list_any (λ y. y.0 == x.0) stored) refl
  where
    at : (b : Bool) → b ≡ list_any (λ y. y.0 == x.0) stored → HasStored (cond b stored (stored ++ x ∷ [])) x.0
    at true e = any_there x.0 stored (sym e)
    at false e = record { v = x.1; there = Contains-append_right stored (x ∷ []) x (Contains-head x []) }

add_keeps : (x : ℕ × ℕ) (stored : List (ℕ × ℕ)) (i : ℕ) → HasStored stored i → HasStored (add x stored) i
add_keeps x stored i has = at (list_any (λ y. y.0 == x.0) stored)
  where
    at : (b : Bool) → HasStored (cond b stored (stored ++ x ∷ [])) i
    at true = has
    at false = record { v = has.v; there = Contains-append_left stored (x ∷ []) (i, has.v) has.there }

-- What stays.

refused_keeps : (x : ℕ × ℕ) (d : Desk) (o : Option (List Definition)) (i : ℕ) → HasStored d.stored i → HasStored (refused o x d).stored i
refused_keeps x d (Some g) i has = add_keeps x d.stored i has
refused_keeps x d None i has = has

-- a value that is rejected changes no rule that was put
pub refused_put : (x : ℕ × ℕ) (d : Desk) (o : Option (List Definition)) → (refused o x d).put ≡ d.put
refused_put x d (Some g) = refl
refused_put x d None = refl

brought_keeps : (o : Option (List Definition)) (u : Option FlowUnit) (d : Desk) (i : ℕ) → HasStored d.stored i →
    HasStored (brought o u d).stored i
brought_keeps o None d i has = has
brought_keeps o (Some (Rule j op a b)) d i has = has
brought_keeps (Some g) (Some (Answer j v)) d i has = add_keeps (j, v) d.stored i has
brought_keeps None (Some (Answer j v)) d i has = has

-- a unit that comes changes no rule that was put
pub brought_put : (o : Option (List Definition)) (u : Option FlowUnit) (d : Desk) → (brought o u d).put ≡ d.put
brought_put o None d = refl
brought_put o (Some (Rule j op a b)) d = refl
brought_put (Some g) (Some (Answer j v)) d = refl
brought_put None (Some (Answer j v)) d = refl

module _ (F : Forms) (is : IsWork (flows (untargeted F))) (flow : Option (List Definition)) where
  abbrev R : FlowUnit → Parcel → Bool
  R u = reads (flows (untargeted F)) is (is_unit u)

  stores_stay : (d : Desk) (s : Said) (next : Desk) (i : ℕ) → Moves F flow d s next → HasStored d.stored i → HasStored next.stored i
  stores_stay d s next i (rule_taken g j op a b e free ready new fits said left) has = rw left has
  stores_stay d s next i (rule_refused g j op a b e free ready new fits said left) has = rw left
      (add_keeps (j, apply op a b) d.stored i has)
  stores_stay d s next i (rule_stopped g j op a b end e free ready new fits said left) has = rw left has
  stores_stay d s next i (answer_taken x rest owes none live fits said left) has = rw left has
  stores_stay d s next i (answer_refused x rest owes none live fits said left) has = rw left
      (refused_keeps x (record d { owed = rest }) flow i has)
  stores_stay d s next i (answer_stopped x rest end owes none live fits said left) has = rw left has
  stores_stay d s next i (again_taken x rest e free keeps once fits said left) has = rw left has
  stores_stay d s next i (again_refused x rest e free keeps once fits said left) has = rw left has
  stores_stay d s next i (again_stopped x rest end e free keeps once fits said left) has = rw left has
  stores_stay d s next i (granted note free may said left) has = rw left has
  stores_stay d s next i (told end free may said left) has = rw left has
  stores_stay d s next i (fetched note bytes holds none live said left) has =
      rw left (brought_keeps flow (fetched_unit (flows F) note bytes) (record d { held = None }) i has)

  stored_on : (d : Desk) (said : List Said) (last : Desk) (i : ℕ) → Goes F flow d said last → HasStored d.stored i → HasStored last.stored i
  stored_on d [] last i same has = subst (λ (x : Desk). HasStored x.stored i) same has
  stored_on d (s ∷ said) last i goes has = stored_on goes.0 said last i goes.2 (stores_stay d s goes.0 i goes.1 has)

  -- a unit that a server took is sent
  put_sent : (u : FlowUnit) → F.fits u ≡ true → 1 ≤ count_by (R u) (parcel_sent None (put_of (flows F) u) answers.Fine)
  put_sent u fits =
      let e = put_counts (flows (untargeted F)) is (is_unit u) u None fits in
      let one : one_if (is_unit u) (arrival (flows F) [] u) ≡ 1 = ap (λ b. cond {A = ℕ} b 1 0) (itself u) in
      omega (arith, e, one)

  -- the rest of what is sent
  sent_here : (u : FlowUnit) (s : Said) (said : List Said) → 1 ≤ count_by (R u) (parcel_sent None s.call s.answer) →
      1 ≤ count_by (R u) (sent None (s ∷ said))
  unfolding sent
  sent_here u s said here =
      omega (arith, here, sum_by-append (one_if (R u)) (parcel_sent None s.call s.answer) (sent (batch_after None s.call s.answer) said))

  sent_later : (u : FlowUnit) (s : Said) (said : List Said) → batch_after None s.call s.answer ≡ None →
      1 ≤ count_by (R u) (sent None said) →
      1 ≤ count_by (R u) (sent None (s ∷ said))
  unfolding sent
  sent_later u s said none later =
      let b : count_by (R u) (sent (batch_after None s.call s.answer) said) ≡ count_by (R u)
      (sent None said) = ap (λ h. count_by (R u) (sent h said)) none in
      omega (
        arith,
        later,
        b,
        sum_by-append (one_if (R u)) (parcel_sent None s.call s.answer)
            (sent (batch_after None s.call s.answer) said),
      )

  abbrev AreEndedWell : List Said → Type 0
  AreEndedWell said = All (λ (s : Said). IsEndedWell s.call s.answer) said

  -- no answer of the rank was rejected
  abbrev pub IsRejected : Said → Type 0
  IsRejected s = (x : ℕ × ℕ) × (s ≡ said_of (put_of (flows F) (unit_of x)) answers.Rejected)

  -- An answer that is owed is put: it is sent, or stored by rank 0.

  abbrev Ends : ℕ × ℕ → List Said → Desk → Type 0
  Ends x said last = (1 ≤ count_by (R (unit_of x)) (sent None said)) ⊎ HasStored last.stored x.0

  later_ends : (x : ℕ × ℕ) (s : Said) (said : List Said) (last : Desk) → batch_after None s.call s.answer ≡ None → Ends x said last →
      Ends x (s ∷ said) last
  later_ends x s said last none (inl later) = inl (sent_later (unit_of x) s said none later)
  later_ends x s said last none (inr has) = inr has

  not_owed : (x : ℕ × ℕ) (d : Desk) → d.owed ≡ [] → Contains d.owed x → ⊥
  not_owed x d none there = none_there x (subst (λ l. Contains l x) none there)

  refused_stores : (x : ℕ × ℕ) (d : Desk) (o : Option (List Definition)) → ((o ≡ None) → ⊥) → HasStored (refused o x d).stored x.0
  refused_stores x d (Some g) has = add_there x d.stored
  refused_stores x d None has = absurd (has refl)

  refused_owed : (x : ℕ × ℕ) (d : Desk) (o : Option (List Definition)) → (refused o x d).owed ≡ d.owed
  refused_owed x d (Some g) = refl
  refused_owed x d None = refl

  owed_ends : (some : ℕ) → AimsAt F some → (x : ℕ × ℕ) (d : Desk) (said : List Said) (last : Desk) → last.owed ≡ [] → AreEndedWell said →
      (flow ≡ None → All (λ (s : Said). IsRejected s → ⊥) said) → Goes F flow d said last → Contains d.owed x → Ends x said last
  owed_ends some pos x d [] last none well ok same owes = absurd (not_owed x last none (subst (λ (z : Desk). Contains z.owed x) same owes))
  owed_ends some pos x d (s ∷ said) last none well ok goes owes =
      let P : Said → Type 0 = λ t. IsEndedWell t.call t.answer in
      let o = ordered F is flow some d s goes.0 pos goes.1 in
      by_move goes.1 (λ there. later_ends x s said last o.no_batch
      (owed_ends some pos x goes.0 said last none (All-tail P s said well) (λ e. All-tail (λ (t : Said). IsRejected t →
      ⊥) s said (ok e)) goes.2 there))
      (All-head P s said well) (λ e. All-head (λ (t : Said). IsRejected t →
      ⊥) s said (ok e)) (λ i has. stored_on goes.0 said last i goes.2 has)
    where
      by_move : {next : Desk} → Moves F flow d s next → (Contains next.owed x → Ends x (s ∷ said) last) → IsEndedWell s.call s.answer →
          (flow ≡ None → IsRejected s → ⊥) → ((i : ℕ) → HasStored next.stored i → HasStored last.stored i) → Ends x (s ∷ said) last
      by_move (rule_taken g j op a b e free ready new fits said' left) on end no' keep = absurd (not_owed x d free.none_owed owes)
      by_move (rule_refused g j op a b e free ready new fits said' left) on end no' keep = absurd (not_owed x d free.none_owed owes)
      by_move (rule_stopped g j op a b e2 e free ready new fits said' left) on end no' keep = absurd (not_owed x d free.none_owed owes)
      by_move (answer_taken y rest has none' live fits said' left) on end no' keep = elim
          (head_cases y x rest (subst (λ l. Contains l x) has owes)) [
            | inl same ↦ inl (sent_here (unit_of x) s said (subst (λ (t : Said). 1 ≤ count_by (R (unit_of x))
                (parcel_sent None t.call t.answer)) (sym said')
                (subst (λ z. 1 ≤ count_by (R (unit_of x)) (parcel_sent None (put_of (flows F) (unit_of z)) answers.Fine)) (sym same)
                (put_sent (unit_of x) (subst (λ z. F.fits (unit_of z) ≡ true) same fits)))))
            | inr later ↦ on (rw left later)
          ]
      by_move (answer_refused y rest has none' live fits said' left) on end no' keep = elim
          (head_cases y x rest (subst (λ l. Contains l x) has owes)) [
            | inl same ↦
                inr (keep x.0 (rw left (subst (λ z. HasStored (refused flow y (record d { owed = rest })).stored z)
                (ap (λ (z : ℕ × ℕ). z.0) same)
                (refused_stores y (record d { owed = rest }) flow (λ e. no' e (y, said'))))))
            | inr later ↦ on (rw (left, refused_owed y (record d { owed = rest }) flow) later)
          ]
      by_move (answer_stopped y rest e2 has none' live fits said' left) on end no' keep =
          absurd (let w : IsEndedWell (put_of (flows F) (unit_of y)) (answers.Ended e2) = subst (λ (t : Said). IsEndedWell t.call t.answer)
          said' end in w)
      by_move (again_taken y rest e free keeps once fits said' left) on end no' keep = absurd (not_owed x d free.none_owed owes)
      by_move (again_refused y rest e free keeps once fits said' left) on end no' keep = absurd (not_owed x d free.none_owed owes)
      by_move (again_stopped y rest e2 e free keeps once fits said' left) on end no' keep = absurd (not_owed x d free.none_owed owes)
      by_move (granted note free may said' left) on end no' keep = absurd (not_owed x d free.none_owed owes)
      by_move (told e2 free may said' left) on end no' keep = absurd (not_owed x d free.none_owed owes)
      by_move (fetched note bytes holds none' live said' left) on end no' keep = absurd (not_owed x d none' owes)

  -- What is got.

  record IsFetch (held : Option UnitNote) (s : Said) : Type 0 where
    note : UnitNote
    id : UnitId
    body : List ℕ
    holds : held ≡ Some note
    is_call : s.call ≡ calls_to.Fetch id
    is_answer : s.answer ≡ answers.Body body

  fetch_of : (test : Parcel → Bool) (held : Option UnitNote) (call : Call) (answer : Reply) →
      1 ≤ count_by test (parcel_got held call answer) →
      IsFetch held (said_of call answer)
  fetch_of test (Some note) (calls_to.Fetch id) (answers.Body body) some =
      record { note = note; id = id; body = body; holds = refl; is_call = refl; is_answer = refl }
  fetch_of test held call answer some = absurd (omega arith)

  no_fetch : (held : Option UnitNote) (s : Said) (u : FlowUnit) (answer : Reply) → s ≡ said_of (put_of (flows F) u) answer →
      IsFetch held s → ⊥
  no_fetch held s u answer said f =
      let e : put_of (flows F) u ≡ calls_to.Fetch f.id = ap (λ (t : Said). t.call) (sym said) ∙ f.is_call in cc

  no_reserve : (held : Option UnitNote) (s : Said) (answer : Reply) → s ≡ said_of (calls_to.Reserve None) answer → IsFetch held s → ⊥
  no_reserve held s answer said f =
      let e : calls_to.Reserve None ≡ calls_to.Fetch f.id = ap (λ (t : Said). t.call) (sym said) ∙ f.is_call in cc

  -- a unit that is got is the one that the fetch is read as
  got_is : (u : FlowUnit) (d : Desk) (s : Said) (note : UnitNote) (bytes : List ℕ) → d.held ≡ Some note →
      s ≡ said_of (calls_to.Fetch note.id) (answers.Body bytes) → 1 ≤ count_by (R u) (parcel_got d.held s.call s.answer) →
      fetched_unit (flows F) note bytes ≡ Some u
  got_is u d s note bytes holds said counts =
      let its = got_counts (flows (untargeted F)) is (is_unit u) note bytes in
      let here : count_by (R u) (parcel_got d.held s.call s.answer) ≡ count_by (R u)
      (parcel_got (Some note) (calls_to.Fetch note.id) (answers.Body bytes)) =
      ap (λ h. count_by (R u) (parcel_got h s.call s.answer)) holds
      ∙ ap (λ (t : Said). count_by (R u) (parcel_got (Some note) t.call t.answer)) said in
      at (fetched_unit (flows F) note bytes) refl (omega (arith, its, here, counts))
    where
      at : (o : Option FlowUnit) → o ≡ fetched_unit (flows F) note bytes →
          1 ≤ cond (passes (flows (untargeted F)) is (is_unit u) (common_bytes note.length bytes) (fetched_unit (flows F) note bytes)) 1 0 →
          fetched_unit (flows F) note bytes ≡ Some u
      at None e some =
          absurd (let h : 1 ≤ cond {A = ℕ} (passes (flows (untargeted F)) is (is_unit u) (common_bytes note.length bytes) None) 1 0 =
          subst (λ o. 1 ≤ cond {A = ℕ} (passes (flows (untargeted F)) is (is_unit u) (common_bytes note.length bytes) o) 1 0)
          (sym e) some in omega
          (arith, h))
      at (Some v) e some = by_test (same_unit u v) refl
        where
          by_test : (b : Bool) → b ≡ same_unit u v → fetched_unit (flows F) note bytes ≡ Some u
          by_test true t = sym e ∙ ap Some (sym (exact_unit u v (sym t)))
          by_test false t = absurd (
              let h : 1 ≤ cond {A = ℕ} (same_unit u v) 1 0 =
              subst (λ o. 1 ≤ cond {A = ℕ} (passes (flows (untargeted F)) is (is_unit u) (common_bytes note.length bytes) o) 1 0)
              (sym e) some in
              let z : cond {A = ℕ} (same_unit u v) 1 0 ≡ 0 = ap (λ b. cond {A = ℕ} b 1 0) (sym t) in
              omega (arith, h, z)
              )

  -- the move after a fetch
  record Fetches (d : Desk) (s : Said) (next : Desk) (u : FlowUnit) : Type 0 where
    next_is : next ≡ brought flow (Some u) (record d { held = None })

  fetches : (d : Desk) (s : Said) (next : Desk) (u : FlowUnit) → Moves F flow d s next →
      1 ≤ count_by (R u) (parcel_got d.held s.call s.answer) →
      Fetches d s next u
  fetches d s next u (rule_taken g j op a b e free ready new fits said left) counts =
      absurd (no_fetch d.held s (Rule j op a b) answers.Fine said (fetch_of (R u) d.held s.call s.answer counts))
  fetches d s next u (rule_refused g j op a b e free ready new fits said left) counts =
      absurd (no_fetch d.held s (Rule j op a b) answers.Rejected said (fetch_of (R u) d.held s.call s.answer counts))
  fetches d s next u (rule_stopped g j op a b end e free ready new fits said left) counts =
      absurd (no_fetch d.held s (Rule j op a b) (answers.Ended end) said (fetch_of (R u) d.held s.call s.answer counts))
  fetches d s next u (answer_taken x rest owes none live fits said left) counts =
      absurd (no_fetch d.held s (unit_of x) answers.Fine said (fetch_of (R u) d.held s.call s.answer counts))
  fetches d s next u (answer_refused x rest owes none live fits said left) counts =
      absurd (no_fetch d.held s (unit_of x) answers.Rejected said (fetch_of (R u) d.held s.call s.answer counts))
  fetches d s next u (answer_stopped x rest end owes none live fits said left) counts =
      absurd (no_fetch d.held s (unit_of x) (answers.Ended end) said (fetch_of (R u) d.held s.call s.answer counts))
  fetches d s next u (again_taken x rest e free keeps once fits said left) counts =
      absurd (no_fetch d.held s (unit_of x) answers.Fine said (fetch_of (R u) d.held s.call s.answer counts))
  fetches d s next u (again_refused x rest e free keeps once fits said left) counts =
      absurd (no_fetch d.held s (unit_of x) answers.Rejected said (fetch_of (R u) d.held s.call s.answer counts))
  fetches d s next u (again_stopped x rest end e free keeps once fits said left) counts =
      absurd (no_fetch d.held s (unit_of x) (answers.Ended end) said (fetch_of (R u) d.held s.call s.answer counts))
  fetches d s next u (granted note free may said left) counts =
      absurd (no_reserve d.held s (answers.Granted note) said (fetch_of (R u) d.held s.call s.answer counts))
  fetches d s next u (told end free may said left) counts =
      absurd (no_reserve d.held s (answers.Ended end) said (fetch_of (R u) d.held s.call s.answer counts))
  fetches d s next u (fetched note bytes holds none live said left) counts =
      record { next_is = left ∙ ap (λ o. brought flow o (record d { held = None })) (got_is u d s note bytes holds said counts) }

  got_first : (u : FlowUnit) (held : Option UnitNote) (s : Said) (said : List Said) → 1 ≤ count_by (R u) (got held (s ∷ said)) →
      (1 ≤ count_by (R u) (parcel_got held s.call s.answer)) ⊎ (1 ≤ count_by (R u) (got (granted_note s.answer) said))
  unfolding got
  got_first u held s said counts = elim (cases_lt 0 (count_by (R u) (parcel_got held s.call s.answer))) [
    | inl here ↦ inl (omega (arith, here))
    | inr none ↦ inr (omega (
      arith,
      none,
      counts,
      sum_by-append (one_if (R u)) (parcel_got held s.call s.answer)
          (got (granted_note s.answer) said),
    ))
  ]

  got_none : (u : FlowUnit) (held : Option UnitNote) → 1 ≤ count_by (R u) (got held []) → ⊥
  unfolding got
  got_none u held some = omega arith

  -- a rule that is fetched is answered: the answer is sent, or stored by rank 0
  pub rule_ends : (some : ℕ) → AimsAt F some → (i : ℕ) (op : Op) (a b : ℕ) (d : Desk) (said : List Said) (last : Desk) → last.owed ≡ [] →
      AreEndedWell said →
      (flow ≡ None → All (λ (s : Said). IsRejected s → ⊥) said) → Goes F flow d said last →
      1 ≤ count_by (R (Rule i op a b)) (got d.held said) →
      Ends (i, apply op a b) said last
  rule_ends some pos i op a b d [] last none well ok same counts = absurd (got_none (Rule i op a b) d.held counts)
  rule_ends some pos i op a b d (s ∷ said) last none well ok goes counts =
      let P : Said → Type 0 = λ t. IsEndedWell t.call t.answer in
      let o = ordered F is flow some d s goes.0 pos goes.1 in
      let later_well = All-tail P s said well in
      let later_ok : flow ≡ None → All (λ (t : Said). IsRejected t → ⊥) said = λ e. All-tail (λ (t : Said). IsRejected t →
      ⊥) s said (ok e) in
      later_ends (i, apply op a b) s said last o.no_batch (elim (got_first (Rule i op a b) d.held s said counts) [
        | inl here ↦
            let f = fetches d s goes.0 (Rule i op a b) goes.1 here in
            owed_ends some pos (i, apply op a b) goes.0 said last none later_well later_ok goes.2
            (subst (λ (z : Desk). Contains z.owed (i, apply op a b)) (sym f.next_is) (Contains-head (i, apply op a b) []))
        | inr later ↦
            rule_ends some pos i op a b goes.0 said last none later_well later_ok goes.2
            (subst (λ h. 1 ≤ count_by (R (Rule i op a b)) (got h said)) (sym o.held) later)
      ])

  -- an answer that rank 0 fetches is stored
  pub answer_stored : (some : ℕ) → AimsAt F some → (g : List Definition) → flow ≡ Some g →
      (i v : ℕ) (d : Desk) (said : List Said) (last : Desk) →
      Goes F flow d said last → 1 ≤ count_by (R (Answer i v)) (got d.held said) → HasStored last.stored i
  answer_stored some pos g has i v d [] last same counts = absurd (got_none (Answer i v) d.held counts)
  answer_stored some pos g has i v d (s ∷ said) last goes counts =
      let o = ordered F is flow some d s goes.0 pos goes.1 in
      elim (got_first (Answer i v) d.held s said counts) [
        | inl here ↦
            let f = fetches d s goes.0 (Answer i v) goes.1 here in
            let e : goes.0 ≡ brought (Some g) (Some (Answer i v)) (record d { held = None }) =
            f.next_is ∙ ap (λ o. brought o (Some (Answer i v)) (record d { held = None })) has in
            stored_on goes.0 said last i goes.2 (subst (λ (z : Desk). HasStored z.stored i) (sym e) (add_there (i, v) d.stored))
        | inr later ↦ answer_stored some pos g has i v goes.0 said last goes.2
            (subst (λ h. 1 ≤ count_by (R (Answer i v)) (got h said)) (sym o.held) later)
      ]

  -- A rule that is put is sent, or stored by rank 0.

  -- a rule with this number is among what was sent
  pub record IsSentRule (i : ℕ) (said : List Said) : Type 0 where
    pub op : Op
    pub a : ℕ
    pub b : ℕ
    pub counts : 1 ≤ count_by (R (Rule i op a b)) (sent None said)

  abbrev PutEnds : ℕ → List Said → Desk → Type 0
  PutEnds i said last = IsSentRule i said ⊎ HasStored last.stored i

  later_put : (i : ℕ) (s : Said) (said : List Said) (last : Desk) → batch_after None s.call s.answer ≡ None → PutEnds i said last →
      PutEnds i (s ∷ said) last
  later_put i s said last none (inl r) = inl (record {
    op = r.op;
    a = r.a;
    b = r.b;
    counts = sent_later (Rule i r.op r.a r.b) s said none
        r.counts;
  })
  later_put i s said last none (inr has) = inr has

  push_cases : (xs : List ℕ) (y x : ℕ) → Contains (xs ++ y ∷ []) x → Contains xs x ⊎ (y ≡ x)
  push_cases xs y x there = elim (Contains-append_cases xs (y ∷ []) x there) [
    | inl before ↦ inl before
    | inr last ↦ elim (head_cases y x [] last) [ inl same ↦ inr same | inr none ↦ absurd (none_there x none) ]
  ]

  -- a rule noted as put at the end was noted before or put by one of these calls
  pub put_ends : (some : ℕ) → AimsAt F some → (i : ℕ) (d : Desk) (said : List Said) (last : Desk) → AreEndedWell said
      → Goes F flow d said last →
      Contains last.put i → Contains d.put i ⊎ PutEnds i said last
  put_ends some pos i d [] last well same there = inl (subst (λ (z : Desk). Contains z.put i) (sym same) there)
  put_ends some pos i d (s ∷ said) last well goes there =
      let P : Said → Type 0 = λ t. IsEndedWell t.call t.answer in
      let o = ordered F is flow some d s goes.0 pos goes.1 in
      elim (put_ends some pos i goes.0 said last (All-tail P s said well) goes.2 there) [
        | inl before ↦ by_move goes.1 before (All-head P s said well) (λ has. stored_on goes.0 said last i goes.2 has)
        | inr later ↦ inr (later_put i s said last o.no_batch later)
      ]
    where
      by_move : {next : Desk} → Moves F flow d s next → Contains next.put i → IsEndedWell s.call s.answer →
          (HasStored next.stored i → HasStored last.stored i) →
          Contains d.put i ⊎ PutEnds i (s ∷ said) last
      by_move (rule_taken g j op a b e free ready new fits said' left) ok end keep = elim
          (push_cases d.put j i (subst (λ (z : Desk). Contains z.put i) left ok)) [
            | inl before ↦ inl before
            | inr same ↦ inr (inl (record {
              op = op;
              a = a;
              b = b;
              counts = sent_here (Rule i op a b) s said (subst (λ (t : Said). 1 ≤ count_by (R (Rule i op a b))
                  (parcel_sent None t.call t.answer)) (sym said')
                  (subst (λ z. 1 ≤ count_by (R (Rule i op a b)) (parcel_sent None (put_of (flows F) (Rule z op a b)) answers.Fine))
                  (sym same)
                  (put_sent (Rule i op a b) (subst (λ z. F.fits (Rule z op a b) ≡ true) same fits))));
            }))
          ]
      by_move (rule_refused g j op a b e free ready new fits said' left) ok end keep = elim
          (push_cases d.put j i (subst (λ (z : Desk). Contains z.put i) left ok)) [
            | inl before ↦ inl before
            | inr same ↦ inr (inr (keep (rw left (subst (λ z. HasStored (add (j, apply op a b) d.stored) z) same
                (add_there (j, apply op a b) d.stored)))))
          ]
      by_move (rule_stopped g j op a b e2 e free ready new fits said' left) ok end keep =
          absurd (let w : IsEndedWell (put_of (flows F) (Rule j op a b)) (answers.Ended e2) = subst (λ (t : Said). IsEndedWell t.call
          t.answer) said' end in w)
      by_move (answer_taken y rest has none' live fits said' left) ok end keep = inl (subst (λ (z : Desk). Contains z.put i) left ok)
      by_move (answer_refused y rest has none' live fits said' left) ok end keep =
          inl (subst (λ l. Contains l i) (ap (λ (z : Desk). z.put) left ∙ refused_put y (record d { owed = rest }) flow) ok)
      by_move (answer_stopped y rest e2 has none' live fits said' left) ok end keep = inl (subst (λ (z : Desk). Contains z.put i) left ok)
      by_move (again_taken y rest e free keeps once fits said' left) ok end keep = inl (subst (λ (z : Desk). Contains z.put i) left ok)
      by_move (again_refused y rest e free keeps once fits said' left) ok end keep = inl (subst (λ (z : Desk). Contains z.put i) left ok)
      by_move (again_stopped y rest e2 e free keeps once fits said' left) ok end keep = inl (subst (λ (z : Desk). Contains z.put i) left ok)
      by_move (granted note free may said' left) ok end keep = inl (subst (λ (z : Desk). Contains z.put i) left ok)
      by_move (told e2 free may said' left) ok end keep = inl (subst (λ (z : Desk). Contains z.put i) left ok)
      by_move (fetched note bytes holds none' live said' left) ok end keep =
          inl (subst (λ l. Contains l i) (ap (λ (z : Desk). z.put) left ∙ brought_put flow (fetched_unit (flows F) note bytes)
          (record d { held = None })) ok)
