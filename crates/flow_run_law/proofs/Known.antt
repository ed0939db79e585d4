-- Each input of a rule that rank 0 puts was known to it before.
use Rattle.std.proofs.Common.{◌≡◌, ◌==◌, ℕ, Bool, true, false, cond, List, [], ◌∷◌, ◌++◌, Contains, All, Option, Some, None, refl, sym, ap}
use Rattle.std.proofs.Common.{◌∙◌, subst, append-nil, append_assoc}
use Rattle.std.specs.List.{list_any}
use Rattle.std.proofs.lemmas.List.Elements.{All-nil, All-cons, All-head, All-tail, All-append, All-contains, All-weaker}
use Rattle.std.proofs.lemmas.List.Elements.{Contains-append_left, Contains-append_right}
use Rattle.bag_ledger.specs.declared.entries.Answer.{Answer as Reply}
use Rattle.bag_ledger.specs.declared.entries.Answer.TheVariants as answers
use Rattle.bag_ledger.specs.declared.entries.Call.TheVariants as calls_to
use Rattle.bag_ledger.specs.declared.entries.Said.{Said}
use Rattle.flow_law.specs.Flows.{Name, apply}
use Rattle.flow_law.specs.declared.Definition.{Definition}
use Rattle.flow_law.specs.declared.Op.{Op}
use Rattle.work_law.specs.Work.{IsWork, fetched_unit, put_of}
use Rattle.work_law.specs.Books.{said_of}
use Rattle.flow_run_law.specs.Units.{Answer, FlowUnit, Forms, Rule, flows, untargeted}
use Rattle.flow_run_law.specs.Desk.{Desk, Goes, IsReady, Knows, Moves, add, again_refused, again_stopped, again_taken, answer_refused}
use Rattle.flow_run_law.specs.Desk.{answer_stopped, answer_taken, at_start, brought, fetched, given, granted, rule_refused, rule_stopped}
use Rattle.flow_run_law.specs.Desk.{rule_taken, stored_is, told, unit_of}
use Rattle.flow_run_law.specs.Learned.{HasFetched, HasLearned, WasKnown, by_answer, by_rule, by_work, let_is, rule_is}
use Rattle.flow_run_law.specs.Puts.{IsOfKnown}
use Rattle.flow_run_law.proofs.Whole.{Contains-head}

module _ (F : Forms) (is : IsWork (flows (untargeted F))) (f : List Definition) where
  -- what is stored was learned, and what is owed was fetched, in the calls so far
  abbrev IsStored : List Said → ℕ × ℕ → Type 0
  IsStored said x = HasLearned F said x.0

  record IsOwed (said : List Said) (x : ℕ × ℕ) : Type 0 where
    op : Op
    a : ℕ
    b : ℕ
    its : HasFetched F said (Rule x.0 op a b)

  record AreCaused (said : List Said) (d : Desk) : Type 0 where
    stored : All (IsStored said) d.stored
    owed : All (IsOwed said) d.owed

  -- more calls
  fetched_more : (said more : List Said) (u : FlowUnit) → HasFetched F said u → HasFetched F (said ++ more) u
  fetched_more said more u h = record {
    note = h.note;
    bytes = h.bytes;
    there = Contains-append_left said more (said_of (calls_to.Fetch h.note.id) (answers.Body h.bytes)) h.there;
    is = h.is;
  }

  learned_more : (said more : List Said) (i : ℕ) → HasLearned F said i → HasLearned F (said ++ more) i
  learned_more said more i (by_answer v h) = by_answer v (fetched_more said more (Answer i v) h)
  learned_more said more i (by_rule op a b there) =
      by_rule op a b (Contains-append_left said more (said_of (put_of (flows F) (Rule i op a b)) answers.Rejected) there)
  learned_more said more i (by_work op a b v h there) =
      by_work op a b v (fetched_more said more (Rule i op a b) h)
      (Contains-append_left said more (said_of (put_of (flows F) (Answer i v)) answers.Rejected) there)

  owed_more : (said more : List Said) (x : ℕ × ℕ) → IsOwed said x → IsOwed (said ++ more) x
  owed_more said more x o = record { op = o.op; a = o.a; b = o.b; its = fetched_more said more (Rule x.0 o.op o.a o.b) o.its }

  caused_more : (said more : List Said) (d : Desk) → AreCaused said d → AreCaused (said ++ more) d
  caused_more said more d c = record {
    stored = All-weaker (IsStored said) (IsStored (said ++ more)) (λ x h. learned_more said more x.0 h) d.stored c.stored;
    owed = All-weaker (IsOwed said) (IsOwed (said ++ more)) (owed_more said more) d.owed c.owed;
  }

  add_caused : (said : List Said) (x : ℕ × ℕ) (stored : List (ℕ × ℕ)) → All (IsStored said) stored → HasLearned F said x.0 →
      All (IsStored said) (add x stored)
  add_caused said x stored all h = at (list_any (λ y. y.0 == x.0) stored)
    where
      at : (b : Bool) → All (IsStored said) (cond b stored (stored ++ x ∷ []))
      at true = all
      at false = All-append (IsStored said) stored (x ∷ []) all (All-cons (IsStored said) x [] h (All-nil (IsStored said)))

  last_there : (said : List Said) (s : Said) → Contains (said ++ s ∷ []) s
  last_there said s = Contains-append_right said (s ∷ []) s (Contains-head s [])

  -- what a fetch brings
  brought_caused : (said : List Said) (u : Option FlowUnit) (d : Desk) → AreCaused said d →
      ((v : FlowUnit) → u ≡ Some v → HasFetched F said v) →
      AreCaused said (brought (Some f) u d)
  brought_caused said None d c has = c
  brought_caused said (Some (Rule i op a b)) d c has = record {
    stored = c.stored;
    owed = All-cons (IsOwed said) (i, apply op a b) [] (record { op = op; a = a; b = b; its = has (Rule i op a b) refl })
        (All-nil (IsOwed said));
  }
  brought_caused said (Some (Answer i v)) d c has = record {
    stored = add_caused said (i, v) d.stored c.stored (by_answer v (has (Answer i v) refl));
    owed = c.owed;
  }

  first_owed : (said : List Said) (xs : List (ℕ × ℕ)) (x : ℕ × ℕ) (rest : List (ℕ × ℕ)) → xs ≡ x ∷ rest → All (IsOwed said) xs →
      IsOwed said x × All (IsOwed said) rest
  first_owed said xs x rest e all =
      let a = subst (All (IsOwed said)) e all in (All-head (IsOwed said) x rest a, All-tail (IsOwed said) x rest a)

  -- one call more
  caused_next : (before : List Said) (d : Desk) (s : Said) (next : Desk) → AreCaused before d → Moves F (Some f) d s next →
      AreCaused (before ++ s ∷ []) next
  caused_next before d s next c (rule_taken g i op a b e free ready new fits said left) =
      let m = caused_more before (s ∷ []) d c in
      subst (AreCaused (before ++ s ∷ [])) (sym left) (record { stored = m.stored; owed = m.owed })
  caused_next before d s next c (rule_refused g i op a b e free ready new fits said left) =
      let m = caused_more before (s ∷ []) d c in
      subst (AreCaused (before ++ s ∷ [])) (sym left) (record {
        stored = add_caused (before ++ s ∷ []) (i, apply op a b) d.stored m.stored
            (by_rule op a b (subst (λ t. Contains (before ++ s ∷ []) t) said (last_there before s)));
        owed = m.owed;
      })
  caused_next before d s next c (rule_stopped g i op a b end e free ready new fits said left) =
      let m = caused_more before (s ∷ []) d c in
      subst (AreCaused (before ++ s ∷ [])) (sym left) (record { stored = m.stored; owed = m.owed })
  caused_next before d s next c (answer_taken x rest owes none live fits said left) =
      let m = caused_more before (s ∷ []) d c in
      let o = first_owed (before ++ s ∷ []) d.owed x rest owes m.owed in
      subst (AreCaused (before ++ s ∷ [])) (sym left) (record { stored = m.stored; owed = o.1 })
  caused_next before d s next c (answer_refused x rest owes none live fits said left) =
      let m = caused_more before (s ∷ []) d c in
      let o = first_owed (before ++ s ∷ []) d.owed x rest owes m.owed in
      subst (AreCaused (before ++ s ∷ [])) (sym left) (record {
        stored = add_caused (before ++ s ∷ []) x d.stored m.stored
            (by_work o.0.op o.0.a o.0.b x.1 o.0.its (subst (λ t. Contains (before ++ s ∷ []) t) said (last_there before s)));
        owed = o.1;
      })
  caused_next before d s next c (answer_stopped x rest end owes none live fits said left) =
      let m = caused_more before (s ∷ []) d c in
      let o = first_owed (before ++ s ∷ []) d.owed x rest owes m.owed in
      subst (AreCaused (before ++ s ∷ [])) (sym left) (record { stored = m.stored; owed = o.1 })
  caused_next before d s next c (again_taken x rest e free keeps once fits said left) = absurd (cc)
  caused_next before d s next c (again_refused x rest e free keeps once fits said left) = absurd (cc)
  caused_next before d s next c (again_stopped x rest end e free keeps once fits said left) = absurd (cc)
  caused_next before d s next c (granted note free may said left) =
      let m = caused_more before (s ∷ []) d c in
      subst (AreCaused (before ++ s ∷ [])) (sym left) (record { stored = m.stored; owed = m.owed })
  caused_next before d s next c (told end free may said left) =
      let m = caused_more before (s ∷ []) d c in
      subst (AreCaused (before ++ s ∷ [])) (sym left) (record { stored = m.stored; owed = m.owed })
  caused_next before d s next c (fetched note bytes holds none live said left) =
      let m = caused_more before (s ∷ []) d c in
      subst (AreCaused (before ++ s ∷ [])) (sym left)
      (brought_caused (before ++ s ∷ []) (fetched_unit (flows F) note bytes) (record d { held = None })
      (record { stored = m.stored; owed = m.owed })
      (λ v e. record {
        note = note;
        bytes = bytes;
        there = subst (λ t. Contains (before ++ s ∷ []) t) said (last_there before s);
        is = e;
      }))

  -- A rule that is put.

  was_known : (said : List Said) (d : Desk) (name : Name) (v : ℕ) → AreCaused said d → Knows f d.stored name v → WasKnown F f said name
  was_known said d _ _ c (given name v there) = let_is v there
  was_known said d _ _ c (stored_is name v i op left right rule there) =
      rule_is i op left right rule (All-contains (IsStored said) d.stored (i, v) c.stored there)

  of_ready : (said : List Said) (d : Desk) (g : List Definition) (i : ℕ) (op : Op) (a b : ℕ) → AreCaused said d → Some f ≡ Some g →
      IsReady g d.stored i op a b →
      IsOfKnown F f said i
  of_ready said d g i op a b c e ready =
      let same : g ≡ f = cc in
      let r = subst (λ h. IsReady h d.stored i op a b) same ready in
      record {
        name = r.name;
        op = op;
        left = r.left;
        right = r.right;
        is_rule = r.is;
        of_left = was_known said d r.left a c r.of_left;
        of_right = was_known said d r.right b c r.of_right;
      }

  -- what is put is one unit
  one_unit : (u v : FlowUnit) (x y : Reply) (s : Said) → F.fits u ≡ true → F.fits v ≡ true → s ≡ said_of (put_of (flows F) u) x →
      s ≡ said_of (put_of (flows F) v) y → u ≡ v
  one_unit u v x y s fits_u fits_v e g =
      let same : put_of (flows F) u ≡ put_of (flows F) v = ap (λ (t : Said). t.call) (sym e ∙ g) in
      let kind : (F.form u).kind ≡ (F.form v).kind = cc in
      let rank : (F.form u).answer ≡ (F.form v).answer = cc in
      let body : (F.form u).body ≡ (F.form v).body = cc in
      let read : F.read (F.form u).kind (F.form u).answer (F.form u).body ≡ F.read (F.form v).kind (F.form v).answer (F.form v).body =
      ap (λ k. F.read k (F.form u).answer (F.form u).body) kind ∙ ap (λ r. F.read (F.form v).kind r (F.form u).body) rank
      ∙ ap (λ b. F.read (F.form v).kind (F.form v).answer b) body in
      let whole : Some u ≡ Some v = sym (is.read_back u fits_u) ∙ read ∙ is.read_back v fits_v in
      cc

  -- a rule that is ready, as a unit
  abbrev IsReadyUnit : List (ℕ × ℕ) → FlowUnit → Type 0
  IsReadyUnit stored (Rule i op a b) = IsReady f stored i op a b
  IsReadyUnit stored (Answer i v) = Unit {0}

  -- the unit of a rule that is put is ready on the desk
  ready_is : (stored : List (ℕ × ℕ)) (u v : FlowUnit) (g : List Definition) → u ≡ v → Some f ≡ Some g → IsReadyUnit stored v →
      IsReadyUnit stored u
  ready_is stored u v g same e ready = subst (IsReadyUnit stored) (sym same) ready

  of_flow : (stored : List (ℕ × ℕ)) (g : List Definition) (i : ℕ) (op : Op) (a b : ℕ) → Some f ≡ Some g → IsReady g stored i op a b →
      IsReady f stored i op a b
  of_flow stored g i op a b e ready =
      let same : g ≡ f = cc in
      subst (λ h. IsReady h stored i op a b) same ready

  -- a rule that is put is ready over what the desk has stored
  pub put_ready : (d : Desk) (s : Said) (next : Desk) (i : ℕ) (op : Op) (a b : ℕ) (x : Reply) → F.fits (Rule i op a b) ≡ true →
      s ≡ said_of (put_of (flows F) (Rule i op a b)) x → Moves F (Some f) d s next → IsReady f d.stored i op a b
  put_ready d s next i op a b x its put (rule_taken g j oq p q e free ready new fits is_said left) =
      ready_is d.stored (Rule i op a b) (Rule j oq p q) g (one_unit (Rule i op a b) (Rule j oq p q) x answers.Fine s its fits put is_said) e
      (of_flow d.stored g j oq p q e ready)
  put_ready d s next i op a b x its put (rule_refused g j oq p q e free ready new fits is_said left) =
      ready_is d.stored (Rule i op a b) (Rule j oq p q) g (one_unit (Rule i op a b) (Rule j oq p q) x answers.Rejected s its fits put
      is_said) e
      (of_flow d.stored g j oq p q e ready)
  put_ready d s next i op a b x its put (rule_stopped g j oq p q end e free ready new fits is_said left) =
      ready_is d.stored (Rule i op a b) (Rule j oq p q) g (one_unit (Rule i op a b) (Rule j oq p q) x (answers.Ended end) s its fits put
      is_said) e
      (of_flow d.stored g j oq p q e ready)
  put_ready d s next i op a b x its put (answer_taken y rest owes none live fits is_said left) =
      absurd (let same = one_unit (Rule i op a b) (unit_of y) x answers.Fine s its fits put is_said in cc)
  put_ready d s next i op a b x its put (answer_refused y rest owes none live fits is_said left) =
      absurd (let same = one_unit (Rule i op a b) (unit_of y) x answers.Rejected s its fits put is_said in cc)
  put_ready d s next i op a b x its put (answer_stopped y rest end owes none live fits is_said left) =
      absurd (let same = one_unit (Rule i op a b) (unit_of y) x (answers.Ended end) s its fits put is_said in cc)
  put_ready d s next i op a b x its put (again_taken y rest e free keeps once fits is_said left) = absurd (cc)
  put_ready d s next i op a b x its put (again_refused y rest e free keeps once fits is_said left) = absurd (cc)
  put_ready d s next i op a b x its put (again_stopped y rest end e free keeps once fits is_said left) = absurd (cc)
  put_ready d s next i op a b x its put (granted note free may is_said left) =
      absurd (let e : put_of (flows F) (Rule i op a b) ≡ calls_to.Reserve None = ap (λ (t : Said). t.call) (sym put ∙ is_said) in cc)
  put_ready d s next i op a b x its put (told end free may is_said left) =
      absurd (let e : put_of (flows F) (Rule i op a b) ≡ calls_to.Reserve None = ap (λ (t : Said). t.call) (sym put ∙ is_said) in cc)
  put_ready d s next i op a b x its put (fetched note bytes holds none live is_said left) =
      absurd (let e : put_of (flows F) (Rule i op a b) ≡ calls_to.Fetch note.id = ap (λ (t : Said). t.call) (sym put ∙ is_said) in cc)

  put_known : (said : List Said) (d : Desk) (s : Said) (next : Desk) (i : ℕ) (op : Op) (a b : ℕ) (x : Reply) → AreCaused said d →
      F.fits (Rule i op a b) ≡ true → s ≡ said_of (put_of (flows F) (Rule i op a b)) x → Moves F (Some f) d s next → IsOfKnown F f said i
  put_known said d s next i op a b x c its put moves =
      of_ready said d f i op a b c refl (put_ready d s next i op a b x its put moves)

  from_desk : (before : List Said) (d : Desk) (front : List Said) (s : Said) (back : List Said) (last : Desk) (i : ℕ) (op : Op) (a b : ℕ)
      (x : Reply) →
      AreCaused before d → F.fits (Rule i op a b) ≡ true → s ≡ said_of (put_of (flows F) (Rule i op a b)) x →
      Goes F (Some f) d (front ++ s ∷ back) last →
      IsOfKnown F f (before ++ front) i
  from_desk before d [] s back last i op a b x c its put goes =
      subst (λ l. IsOfKnown F f l i) (sym (append-nil before)) (put_known before d s goes.0 i op a b x c its put goes.1)
  from_desk before d (t ∷ front) s back last i op a b x c its put goes =
      subst (λ l. IsOfKnown F f l i) (append_assoc before (t ∷ []) front)
      (from_desk (before ++ t ∷ []) goes.0 front s back last i op a b x (caused_next before d t goes.0 c goes.1) its put goes.2)

  -- each input of a rule that rank 0 puts was known to it before
  pub inputs_known : (front : List Said) (s : Said) (back : List Said) (last : Desk) (i : ℕ) (op : Op) (a b : ℕ) (x : Reply) →
      F.fits (Rule i op a b) ≡ true →
      s ≡ said_of (put_of (flows F) (Rule i op a b)) x → Goes F (Some f) at_start (front ++ s ∷ back) last → IsOfKnown F f front i
  inputs_known front s back last i op a b x its put goes =
      from_desk [] at_start front s back last i op a b x (record { stored = All-nil (IsStored []); owed = All-nil (IsOwed []) }) its put
      goes
