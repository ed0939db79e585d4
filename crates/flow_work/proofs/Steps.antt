-- One more call of a rank, and what it leaves.
use Rattle.std.proofs.Common.{◌≡◌, ◌<◌, ◌≤◌, ◌+◌, ℕ, Bool, true, false, List, [], ◌∷◌, ◌++◌, length, Option, Some, None, refl, sym, ap, ◌∙◌}
use Rattle.std.proofs.Common.{inl, inr, subst, Result, Ok, Err, IfOk}
use Rattle.std.specs.Global.{Vec}
use Rattle.std.specs.Prelude.{slice_get}
use Rattle.adlb_unit.specs.declared.notes.End as told_end
use Rattle.adlb_unit.specs.declared.notes.End.TheVariants.{Exhausted}
use Rattle.adlb_unit.specs.declared.notes.Trouble.{Trouble}
use Rattle.adlb_unit.specs.declared.notes.UnitNote.{UnitNote}
use Rattle.bag_ledger.specs.declared.entries.Answer.TheVariants.{Fine, Rejected, Ended, Body, Granted}
use Rattle.bag_ledger.specs.declared.entries.Call.{Call}
use Rattle.bag_ledger.specs.declared.entries.Call.TheVariants.{Reserve, Fetch}
use Rattle.bag_ledger.specs.declared.entries.Said.{Said}
use Rattle.rank_client.specs.Calls.{Pends}
use Rattle.work_law.specs.Books.{said_of}
use Rattle.work_law.specs.Work.{fetched_unit, put_of}
use Rattle.flow_law.specs.Flows.{apply}
use Rattle.flow_law.specs.declared.Definition.{Definition}
use Rattle.flow_law.specs.declared.Op.{Op}
use Rattle.flow_app.specs.Stored.{Grows, IsLaidOut, first_stays, ready_by, worth_in}
use Rattle.flow_app.specs.declared.stores.Store.{Store}
use Rattle.flow_run_law.specs.Desk.{Desk, Goes, IsFree, MayReserve, Moves, add, again_refused, again_stopped, again_taken, answer_refused}
use Rattle.flow_run_law.specs.Desk.{answer_stopped, answer_taken, at_start, brought, fetched, granted, refused, rule_refused, rule_stopped}
use Rattle.flow_run_law.specs.Desk.{rule_taken, told, unit_of}
use Rattle.flow_run_law.specs.Units.{FlowUnit, Forms, Rule, flows}
use Rattle.flow_units.specs.declared.rules.RuleUnit.{RuleUnit}
use Rattle.flow_work.specs.Calls.{Fails, grant}
use Rattle.flow_work.specs.Follows.{IsSoFar, IsUnderWay}
use Rattle.flow_work.specs.Working.{AllPut, AtHome, Carries, Fresh, Has, HasCome, HasStored, HasTried, IsGoing, IsStopped, Keeping, OfDesk}
use Rattle.flow_work.specs.Working.{Owes, Passes, Stored}
use Rattle.flow_work.specs.declared.stock.Home.{Home}
use Rattle.flow_work.proofs.Calling.{one_more}
use Rattle.flow_work.proofs.Homes.{get_grown, get_within, kept_put, kept_stored, may_reserve, next_passed, next_put, next_stored, no_rule}
use Rattle.flow_work.proofs.Homes.{not_put, ready_is}
use Rattle.flow_work.proofs.Ways.{next_pends}

-- Any rank.

module _ (F : Forms) (flow : Option (List Definition)) where
  -- a rank that goes on has run its program so far
  pub going_so : (said new : List Said) (A : Has) → IsGoing F flow said A → new ≡ said → IsSoFar F flow new
  going_so said new A is same = record { last = is.desk; goes = subst (λ t. Goes F flow at_start t is.desk) (sym same) is.goes }

  -- a rank that stopped has run its program so far
  pub stopped_so : (said : List Said) (A : Has) → IsStopped F flow said A → IsSoFar F flow said
  stopped_so said A is = record { last = is.desk; goes = is.goes }

  -- a rank to which a unit came has run its program so far
  pub come_so : (said : List Said) (A : Has) (unit : Option FlowUnit) → HasCome F flow said A unit → IsSoFar F flow said
  come_so said A unit is = record { last = brought flow unit is.desk; goes = is.goes }

  -- a rank that owes an answer has run its program so far
  pub owes_so : (said : List Said) (A : Has) (x : ℕ × ℕ) → Owes F flow said A x → IsSoFar F flow said
  owes_so said A x is = record { last = record is.desk { owed = x ∷ [] }; goes = is.goes }

  -- Reservations and fetches.

  -- the desk of a rank that was granted a unit, and that of one that fetched it
  abbrev holds : UnitNote → Desk → Desk
  holds note d = record d { held = Some note; tried = false }

  abbrev let_go : Desk → Desk
  let_go d = record d { held = None; tried = false }

  module _ (said : List Said) (A : Has) (is : IsGoing F flow said A) (may : MayReserve flow is.desk) where
    is_granted : (note : UnitNote) → Moves F flow is.desk (grant note) (holds note is.desk)
    is_granted note = granted note is.free may refl refl

    is_told : (end : told_end.End) → Moves F flow is.desk (said_of (Reserve None) (Ended end)) (record is.desk { ended = true })
    is_told end = told end is.free may refl refl

    is_fetched : (note : UnitNote) (bytes : List ℕ) → Moves F flow (holds note is.desk) (said_of (Fetch note.id) (Body bytes))
        (brought flow (fetched_unit (flows F) note bytes) (let_go is.desk))
    is_fetched note bytes = fetched note bytes refl is.free.none_owed is.free.live refl refl

    -- an end was told
    pub told_is : (new : List Said) (end : told_end.End) (B : Has) → OfDesk A is.desk → OfDesk B (record is.desk { ended = true }) →
        new ≡ said ++ said_of (Reserve None) (Ended end) ∷ [] → IsStopped F flow new B
    told_is new end B has agrees one = record {
      desk = record is.desk { ended = true };
      goes = one_more F flow said new is.desk (record is.desk { ended = true }) (said_of (Reserve None) (Ended end)) is.goes one
          (is_told end);
      over = refl;
      agrees = agrees;
    }

    -- a unit was granted and fetched
    pub took_is : (new : List Said) (note : UnitNote) (bytes : List ℕ) (B : Has) → OfDesk B (let_go is.desk) →
        new ≡ (said ++ grant note ∷ []) ++ said_of (Fetch note.id) (Body bytes) ∷ [] →
        HasCome F flow new B (fetched_unit (flows F) note bytes)
    took_is new note bytes B agrees one = record {
      desk = let_go is.desk;
      goes = one_more F flow (said ++ grant note ∷ []) new (holds note is.desk)
          (brought flow (fetched_unit (flows F) note bytes) (let_go is.desk)) (said_of (Fetch note.id) (Body bytes))
          (one_more F flow said (said ++ grant note ∷ []) is.desk (holds note is.desk) (grant note) is.goes refl (is_granted note)) one
          (is_fetched note bytes);
      free = record { none_owed = is.free.none_owed; none_held = refl; live = is.free.live };
      agrees = agrees;
    }

    -- the reservation failed, or the fetch after it
    pub take_way : (new : List Said) (begun : Option Call) → Fails said new begun → IsUnderWay F flow new begun
    take_way new begun (inl fails) =
        next_pends F flow said new begun (Reserve None) (Ended Exhausted) is.desk (record is.desk { ended = true }) is.goes fails.0
        (is_told Exhausted) fails.1
    take_way new begun (inr fails) =
        let note : UnitNote = fails.0 in
        next_pends F flow (said ++ grant note ∷ []) new begun (Fetch note.id) (Body []) (holds note is.desk)
        (brought flow (fetched_unit (flows F) note []) (let_go is.desk))
        (one_more F flow said (said ++ grant note ∷ []) is.desk (holds note is.desk) (grant note) is.goes refl (is_granted note)) fails.1
        (is_fetched note []) fails.2

  -- nothing of a unit's form came
  pub none_came : (said : List Said) (A : Has) → HasCome F flow said A None → IsGoing F flow said A
  none_came said A is = record { desk = is.desk; goes = is.goes; free = is.free; agrees = is.agrees }

  -- a rule came: its answer is owed
  pub rule_came : (said : List Said) (A : Has) (i : ℕ) (op : Op) (a b : ℕ) → HasCome F flow said A (Some (Rule i op a b)) →
      Owes F flow said A (i, apply op a b)
  rule_came said A i op a b is = record { desk = is.desk; goes = is.goes; free = is.free; agrees = is.agrees }

  -- Answers that are owed.

  module _ (said : List Said) (A : Has) (x : ℕ × ℕ) (owes : Owes F flow said A x) (fits : F.fits (unit_of x) ≡ true) where
    abbrev owing : Desk
    owing = record owes.desk { owed = x ∷ [] }

    abbrev paid : Desk
    paid = record owes.desk { owed = [] }

    abbrev left_over : Desk
    left_over = record owes.desk { owed = []; kept = owes.desk.kept ++ x ∷ []; ended = true }

    is_stopped : (end : told_end.End) → Moves F flow owing (said_of (put_of (flows F) (unit_of x)) (Ended end)) left_over
    is_stopped end = answer_stopped x [] end refl owes.free.none_held owes.free.live fits refl refl

    -- a server takes it
    pub paid_is : (new : List Said) → new ≡ said ++ said_of (put_of (flows F) (unit_of x)) Fine ∷ [] → IsGoing F flow new A
    paid_is new one = record {
      desk = paid;
      goes = one_more F flow said new owing paid (said_of (put_of (flows F) (unit_of x)) Fine) owes.goes one
          (answer_taken x [] refl owes.free.none_held owes.free.live fits refl refl);
      free = record { none_owed = refl; none_held = owes.free.none_held; live = owes.free.live };
      agrees = owes.agrees;
    }

    -- an end was told
    pub left_is : (new : List Said) (end : told_end.End) (B : Has) → OfDesk B left_over →
        new ≡ said ++ said_of (put_of (flows F) (unit_of x)) (Ended end) ∷ [] → IsStopped F flow new B
    left_is new end B agrees one = record {
      desk = left_over;
      goes = one_more F flow said new owing left_over (said_of (put_of (flows F) (unit_of x)) (Ended end)) owes.goes one (is_stopped end);
      over = refl;
      agrees = agrees;
    }

    -- as well, when memory to keep it is short
    pub left_so : (new : List Said) (end : told_end.End) → new ≡ said ++ said_of (put_of (flows F) (unit_of x)) (Ended end) ∷ [] →
        IsSoFar F flow new
    left_so new end one = record {
      last = left_over;
      goes = one_more F flow said new owing left_over (said_of (put_of (flows F) (unit_of x)) (Ended end)) owes.goes one (is_stopped end);
    }

    -- no server takes it
    goes_refused : (new : List Said) → new ≡ said ++ said_of (put_of (flows F) (unit_of x)) Rejected ∷ [] →
        Goes F flow at_start new (refused flow x paid)
    goes_refused new one =
        one_more F flow said new owing (refused flow x paid) (said_of (put_of (flows F) (unit_of x)) Rejected) owes.goes one
        (answer_refused x [] refl owes.free.none_held owes.free.live fits refl refl)

    -- when memory to keep it is short
    pub answer_so : (new : List Said) → new ≡ said ++ said_of (put_of (flows F) (unit_of x)) Rejected ∷ [] → IsSoFar F flow new
    answer_so new one = record { last = refused flow x paid; goes = goes_refused new one }

    -- the put failed
    pub answer_way : (new : List Said) (begun : Option Call) → new ≡ said → Pends begun (put_of (flows F) (unit_of x)) →
        IsUnderWay F flow new begun
    answer_way new begun same pends =
        next_pends F flow said new begun (put_of (flows F) (unit_of x)) (Ended Exhausted) owing left_over owes.goes same
        (is_stopped Exhausted) pends

-- Rank 0.

module _ (F : Forms) (flow : List Definition) where
  -- the home after a store came in the place of its own
  abbrev with_store : Home → Store → Home
  with_store h s = record h { store = s }

  abbrev passed : Store → Store
  passed s = record s { next = s.next + 1 }

  module _ (said : List Said) (h : Home) (is : IsGoing F (Some flow) said (AtHome flow h)) (unit : RuleUnit)
      (at : slice_get h.store.ready.items h.store.next ≡ Some unit.number) (carries : Carries flow h.store unit)
      (fits : F.fits (Rule unit.number unit.op unit.left unit.right) ≡ true) where
    abbrev its_put : Call
    its_put = put_of (flows F) (Rule unit.number unit.op unit.left unit.right)

    abbrev x : ℕ × ℕ
    x = (unit.number, apply unit.op unit.left unit.right)

    abbrev put_now : Desk
    put_now = record is.desk { put = is.desk.put ++ unit.number ∷ [] }

    abbrev worked : Desk
    worked = record is.desk { put = is.desk.put ++ unit.number ∷ []; stored = add x is.desk.stored }

    abbrev over : Desk
    over = record is.desk { ended = true }

    is_over : (end : told_end.End) → Moves F (Some flow) is.desk (said_of its_put (Ended end)) over
    is_over end =
        rule_stopped flow unit.number unit.op unit.left unit.right end refl is.free
        (ready_is flow h is.desk.stored is.desk.kept is.agrees.0 unit carries)
        (not_put flow h.store is.desk.put unit.number is.agrees.0.out is.agrees.1 at) fits refl refl

    -- a server takes the rule
    pub rule_taken_is : (new : List Said) → new ≡ said ++ said_of its_put Fine ∷ [] →
        IsGoing F (Some flow) new (AtHome flow (with_store h (passed h.store)))
    rule_taken_is new one = record {
      desk = put_now;
      goes = one_more F (Some flow) said new is.desk put_now (said_of its_put Fine) is.goes one
          (rule_taken flow unit.number unit.op unit.left unit.right refl is.free
          (ready_is flow h is.desk.stored is.desk.kept is.agrees.0 unit carries)
          (not_put flow h.store is.desk.put unit.number is.agrees.0.out is.agrees.1 at) fits refl refl);
      free = record { none_owed = is.free.none_owed; none_held = is.free.none_held; live = is.free.live };
      agrees = (
        next_stored flow h is.desk.stored is.desk.kept is.agrees.0 (get_within h.store.ready.items h.store.next unit.number at),
        next_put flow h.store is.desk.put unit.number is.agrees.1 at,
      );
    }

    goes_worked : (new : List Said) → new ≡ said ++ said_of its_put Rejected ∷ [] → Goes F (Some flow) at_start new worked
    goes_worked new one =
        one_more F (Some flow) said new is.desk worked (said_of its_put Rejected) is.goes one
        (rule_refused flow unit.number unit.op unit.left unit.right refl is.free
        (ready_is flow h is.desk.stored is.desk.kept is.agrees.0 unit carries)
        (not_put flow h.store is.desk.put unit.number is.agrees.0.out is.agrees.1 at) fits refl refl)

    -- when memory to store its value is short
    pub rule_so : (new : List Said) → new ≡ said ++ said_of its_put Rejected ∷ [] → IsSoFar F (Some flow) new
    rule_so new one = record { last = worked; goes = goes_worked new one }

    -- no server takes it, and its value is stored
    pub rule_worked_is : (new : List Said) (s : Store) → new ≡ said ++ said_of its_put Rejected ∷ [] → IsLaidOut flow s →
        s.values.items ≡ first_stays h.store.values.items unit.number (apply unit.op unit.left unit.right) → s.next ≡ h.store.next →
        Grows h.store.ready.items s.ready.items → IsGoing F (Some flow) new (AtHome flow (with_store h (passed s)))
    rule_worked_is new s one out values next grows =
        let there : slice_get s.ready.items s.next ≡ Some unit.number =
        ap (slice_get s.ready.items) next ∙ get_grown h.store.ready.items s.ready.items h.store.next unit.number grows at in
        record {
          desk = worked;
          goes = goes_worked new one;
          free = record { none_owed = is.free.none_owed; none_held = is.free.none_held; live = is.free.live };
          agrees = (
            next_stored flow (with_store h s) (add x is.desk.stored) is.desk.kept
                (kept_stored flow h s is.desk.stored is.desk.kept unit.number (apply unit.op unit.left unit.right) is.agrees.0 out values)
                (get_within s.ready.items s.next unit.number there),
            next_put flow s is.desk.put unit.number
                (kept_put flow h.store s is.desk.put is.agrees.0.out.laid.inside is.agrees.1 next grows) there,
          );
        }

    -- an end was told
    pub rule_over_is : (new : List Said) (end : told_end.End) → new ≡ said ++ said_of its_put (Ended end) ∷ [] →
        IsStopped F (Some flow) new (Stored flow h)
    rule_over_is new end one = record {
      desk = over;
      goes = one_more F (Some flow) said new is.desk over (said_of its_put (Ended end)) is.goes one (is_over end);
      over = refl;
      agrees = is.agrees.0;
    }

    -- the put failed
    pub rule_way : (new : List Said) (begun : Option Call) → new ≡ said → Pends begun its_put → IsUnderWay F (Some flow) new begun
    rule_way new begun same pends =
        next_pends F (Some flow) said new begun its_put (Ended Exhausted) is.desk over is.goes same (is_over Exhausted) pends

  -- all that is ready was put, so the rank may reserve
  pub home_may : (said : List Said) (h : Home) (is : IsGoing F (Some flow) said (AllPut flow h)) → MayReserve (Some flow) is.desk
  home_may said h is = may_reserve flow h is.desk.stored is.desk.kept is.agrees.0 is.desk.put is.agrees.1 is.agrees.2

  -- what is stored of a unit that comes, or of an answer that no server takes
  module _ (h : Home) (s : Store) (i v : ℕ) (out : IsLaidOut flow s)
      (values : s.values.items ≡ first_stays h.store.values.items i v) (next : s.next ≡ h.store.next)
      (grows : Grows h.store.ready.items s.ready.items) where
    kept_home : (d : Desk) → OfDesk (AtHome flow h) d → OfDesk (AtHome flow (with_store h s)) (record d { stored = add (i, v) d.stored })
    kept_home d agrees = (
      kept_stored flow h s d.stored d.kept i v agrees.0 out values,
      kept_put flow h.store s d.put agrees.0.out.laid.inside agrees.1 next grows,
    )

    -- an answer that comes to the home is stored
    pub answer_stored : (said : List Said) → HasCome F (Some flow) said (AtHome flow h) (Some (unit_of (i, v))) →
        IsGoing F (Some flow) said (AtHome flow (with_store h s))
    answer_stored said is = record {
      desk = record is.desk { stored = add (i, v) is.desk.stored };
      goes = is.goes;
      free = record { none_owed = is.free.none_owed; none_held = is.free.none_held; live = is.free.live };
      agrees = kept_home is.desk is.agrees;
    }

    -- an answer that is rejected is stored by the home itself
    pub answer_kept : (said new : List Said) (owes : Owes F (Some flow) said (AtHome flow h) (i, v)) → F.fits (unit_of (i, v)) ≡ true →
        new ≡ said ++ said_of (put_of (flows F) (unit_of (i, v))) Rejected ∷ [] → IsGoing F (Some flow) new (AtHome flow (with_store h s))
    answer_kept said new owes fits one = record {
      desk = record owes.desk { owed = []; stored = add (i, v) owes.desk.stored };
      goes = goes_refused F (Some flow) said (AtHome flow h) (i, v) owes fits new one;
      free = record { none_owed = refl; none_held = owes.free.none_held; live = owes.free.live };
      agrees = kept_home owes.desk owes.agrees;
    }

  -- the answers that are kept, with one more
  module _ (h : Home) (k : Vec (ℕ × ℕ)) (x : ℕ × ℕ) (more : k.items ≡ h.kept.items ++ x ∷ []) where
    -- what the home keeps is kept with one value more
    pub left_home : (stored kept : List (ℕ × ℕ)) → HasStored flow h stored kept →
        HasStored flow (record h { kept = k }) stored (kept ++ x ∷ [])
    left_home stored kept has = record {
      out = has.out;
      sound = has.sound;
      whole = has.whole;
      keeps = ap (λ (l : List (ℕ × ℕ)). l ++ x ∷ []) has.keeps ∙ sym more;
    }

    -- an end was told at the put of an answer
    pub answer_left : (said new : List Said) (owes : Owes F (Some flow) said (AtHome flow h) x) → F.fits (unit_of x) ≡ true →
        (end : told_end.End) → new ≡ said ++ said_of (put_of (flows F) (unit_of x)) (Ended end) ∷ [] →
        IsStopped F (Some flow) new (Stored flow (record h { kept = k }))
    answer_left said new owes fits end one =
        left_is F (Some flow) said (AtHome flow h) x owes fits new end (Stored flow (record h { kept = k }))
        (left_home owes.desk.stored owes.desk.kept owes.agrees.0) one

  -- what is ready next is no rule, and is passed by
  pub passed_is : (said : List Said) (h : Home) → IsGoing F (Some flow) said (AtHome flow h) → (i : ℕ) →
      slice_get h.store.ready.items h.store.next ≡ Some i →
      ((d : Definition) → slice_get flow i ≡ Some d → None ≡ ready_by (worth_in flow h.store.values.items) d) →
      IsGoing F (Some flow) said (AtHome flow (with_store h (passed h.store)))
  passed_is said h is i at none = record {
    desk = is.desk;
    goes = is.goes;
    free = is.free;
    agrees = (
      next_stored flow h is.desk.stored is.desk.kept is.agrees.0 (get_within h.store.ready.items h.store.next i at),
      next_passed flow h.store is.desk.put i is.agrees.1 at (no_rule flow h.store i is.agrees.0.out at none),
    );
  }

-- A rank without the flow.

module _ (F : Forms) where
  -- an answer that comes to it is dropped
  pub answer_dropped : (said : List Said) (A : Has) (i v : ℕ) → HasCome F None said A (Some (unit_of (i, v))) → IsGoing F None said A
  answer_dropped said A i v is = record { desk = is.desk; goes = is.goes; free = is.free; agrees = is.agrees }

  -- it keeps none
  pub none_kept : (said : List Said) (answers : List (ℕ × ℕ)) → answers ≡ [] → IsGoing F None said (Fresh answers) →
      IsGoing F None said (HasTried answers)
  none_kept said answers none is = record {
    desk = is.desk;
    goes = is.goes;
    free = is.free;
    agrees = (is.agrees.0, inl (is.agrees.0 ∙ none));
  }

  -- a rank without the flow that has tried its answers may reserve
  pub away_may : (said : List Said) (answers : List (ℕ × ℕ)) (is : IsGoing F None said (HasTried answers)) → MayReserve None is.desk
  away_may said answers is = is.agrees.1

  module _ (said : List Said) (answers : List (ℕ × ℕ)) (x : ℕ × ℕ) (is : IsGoing F None said (Fresh (x ∷ answers)))
      (fits : F.fits (unit_of x) ≡ true) where
    abbrev again : Call
    again = put_of (flows F) (unit_of x)

    abbrev over_now : Desk
    over_now = record is.desk { ended = true }

    is_over_now : (end : told_end.End) → Moves F None is.desk (said_of again (Ended end)) over_now
    is_over_now end = again_stopped x answers end refl is.free is.agrees.0 is.agrees.1 fits refl refl

    -- a server takes it
    pub again_paid : (new : List Said) → new ≡ said ++ said_of again Fine ∷ [] → IsGoing F None new (HasTried answers)
    again_paid new one = record {
      desk = record is.desk { kept = answers; tried = true };
      goes = one_more F None said new is.desk (record is.desk { kept = answers; tried = true }) (said_of again Fine) is.goes one
          (again_taken x answers refl is.free is.agrees.0 is.agrees.1 fits refl refl);
      free = record { none_owed = is.free.none_owed; none_held = is.free.none_held; live = is.free.live };
      agrees = (refl, inr refl);
    }

    goes_again : (new : List Said) → new ≡ said ++ said_of again Rejected ∷ [] → Goes F None at_start new (record is.desk { tried = true })
    goes_again new one =
        one_more F None said new is.desk (record is.desk { tried = true }) (said_of again Rejected) is.goes one
        (again_refused x answers refl is.free is.agrees.0 is.agrees.1 fits refl refl)

    -- no server takes it
    pub again_kept : (new : List Said) (now : List (ℕ × ℕ)) → now ≡ x ∷ answers → new ≡ said ++ said_of again Rejected ∷ [] →
        IsGoing F None new (HasTried now)
    again_kept new now same one = record {
      desk = record is.desk { tried = true };
      goes = goes_again new one;
      free = record { none_owed = is.free.none_owed; none_held = is.free.none_held; live = is.free.live };
      agrees = (is.agrees.0 ∙ sym same, inr refl);
    }

    -- a put that is rejected is a step of the program
    pub again_so : (new : List Said) → new ≡ said ++ said_of again Rejected ∷ [] → IsSoFar F None new
    again_so new one = record { last = record is.desk { tried = true }; goes = goes_again new one }

    goes_over : (new : List Said) (end : told_end.End) → new ≡ said ++ said_of again (Ended end) ∷ [] → Goes F None at_start new over_now
    goes_over new end one = one_more F None said new is.desk over_now (said_of again (Ended end)) is.goes one (is_over_now end)

    -- an end was told
    pub again_left : (new : List Said) (end : told_end.End) (now : List (ℕ × ℕ)) → now ≡ x ∷ answers →
        new ≡ said ++ said_of again (Ended end) ∷ [] → IsStopped F None new (Keeping now)
    again_left new end now same one = record {
      desk = over_now;
      goes = goes_over new end one;
      over = refl;
      agrees = is.agrees.0 ∙ sym same;
    }

    -- a put that ends is a step of the program
    pub again_left_so : (new : List Said) (end : told_end.End) → new ≡ said ++ said_of again (Ended end) ∷ [] → IsSoFar F None new
    again_left_so new end one = record { last = over_now; goes = goes_over new end one }

    -- the put failed
    pub again_way : (new : List Said) (begun : Option Call) → new ≡ said → Pends begun again → IsUnderWay F None new begun
    again_way new begun same pends =
        next_pends F None said new begun again (Ended Exhausted) is.desk over_now is.goes same (is_over_now Exhausted) pends

  -- an answer that no server takes is kept after the others
  pub new_kept : (said new : List Said) (answers now : List (ℕ × ℕ)) (x : ℕ × ℕ) (owes : Owes F None said (Fresh answers) x) →
      F.fits (unit_of x) ≡ true → now ≡ answers ++ x ∷ [] →
      new ≡ said ++ said_of (put_of (flows F) (unit_of x)) Rejected ∷ [] → IsGoing F None new (Fresh now)
  new_kept said new answers now x owes fits more one = record {
    desk = record owes.desk { owed = []; kept = owes.desk.kept ++ x ∷ [] };
    goes = goes_refused F None said (Fresh answers) x owes fits new one;
    free = record { none_owed = refl; none_held = owes.free.none_held; live = owes.free.live };
    agrees = (ap (λ (l : List (ℕ × ℕ)). l ++ x ∷ []) owes.agrees.0 ∙ sym more, owes.agrees.1);
  }

  -- and when an end was told as well
  pub new_left : (said new : List Said) (answers now : List (ℕ × ℕ)) (x : ℕ × ℕ) (owes : Owes F None said (Fresh answers) x) →
      F.fits (unit_of x) ≡ true → (end : told_end.End) → now ≡ answers ++ x ∷ [] →
      new ≡ said ++ said_of (put_of (flows F) (unit_of x)) (Ended end) ∷ [] → IsStopped F None new (Keeping now)
  new_left said new answers now x owes fits end more one =
      left_is F None said (Fresh answers) x owes fits new end (Keeping now)
      (ap (λ (l : List (ℕ × ℕ)). l ++ x ∷ []) owes.agrees.0 ∙ sym more) one

-- what goes on, or is stopped, by a result that says so
pub passes_by : {P : Type 0} (F : Forms) (flow : Option (List Definition)) (said : List Said) (A B : Has) (on : Bool)
    (r : Result Bool Trouble) → (P → Passes F flow said A B on) → IfOk r (λ b. (b ≡ on) × P) → IfOk r (Passes F flow said A B)
passes_by F flow said A B on (Ok b) passes is = subst (λ (t : Bool). Passes F flow said A B t) (sym is.0) (passes is.1)
passes_by F flow said A B on (Err e) passes is = tt

-- what goes on or is stopped is so far
pub passes_so : (F : Forms) (flow : Option (List Definition)) (said : List Said) (A B : Has) (on : Bool) → Passes F flow said A B on →
    IsSoFar F flow said
passes_so F flow said A B true is = going_so F flow said said A is refl
passes_so F flow said A B false is = stopped_so F flow said B is
