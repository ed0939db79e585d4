-- Where a rank gets right values, it stores, keeps and puts right values.
use Rattle.std.proofs.Common.{◌≡◌, ◌≤◌, ◌==◌, ◌&&◌, ℕ, zero, suc, Bool, true, false, cond, List, [], ◌∷◌, ◌++◌, slice_get, Contains, All}
use Rattle.std.proofs.Common.{count_by, Option, Some, None, refl, sym, ap, ◌∙◌, subst, arith, inl, inr}
use Rattle.std.specs.List.{list_any}
use Rattle.std.proofs.lemmas.Bool.{cases_lt, eqb-true, eq-eqb}
use Rattle.std.proofs.lemmas.List.Elements.{All-nil, All-cons, All-head, All-tail, All-append, All-contains}
use Rattle.std.proofs.lemmas.List.Sums.{sum_by-append}
use Rattle.adlb_unit.specs.declared.notes.UnitNote.{UnitNote}
use Rattle.bag_ledger.specs.declared.entries.Answer.TheVariants as answers
use Rattle.bag_ledger.specs.declared.entries.Call.TheVariants as calls_to
use Rattle.bag_ledger.specs.declared.entries.Said.{Said}
use Rattle.balance_law.specs.Parcels.{Parcel, batch_after, got, granted_note, parcel_got, parcel_sent, sent}
use Rattle.flow_law.specs.Flows.{HasValue, Name, apply, given as value_given, ruled}
use Rattle.flow_law.specs.declared.Definition.{Definition}
use Rattle.flow_law.specs.declared.Definition.TheVariants as defines
use Rattle.flow_law.specs.declared.Op.{Op}
use Rattle.flow_law.specs.declared.Op.TheVariants.{Add, Mul, Min, Max, Xor}
use Rattle.work_law.specs.Work.{IsWork, arrival, common_bytes, fetched_unit, put_of}
use Rattle.work_law.specs.Books.{said_of}
use Rattle.work_law.proofs.Flow.{got_counts, passes, put_counts, reads}
use Rattle.work_law.proofs.Pieces.{Test, one_if}
use Rattle.flow_run_law.specs.Units.{Answer, FlowUnit, Forms, IsGood, IsGoodAnswer, IsGoodRule, Rule, flows, untargeted}
use Rattle.flow_run_law.specs.Desk.{Desk, Goes, IsReady, Knows, Moves, add, again_refused, again_stopped, again_taken, answer_refused}
use Rattle.flow_run_law.specs.Desk.{answer_stopped, answer_taken, brought, fetched, given, granted, refused, rule_refused, rule_stopped}
use Rattle.flow_run_law.specs.Desk.{rule_taken, stored_is, told, unit_of}
use Rattle.flow_run_law.specs.Puts.{IsRightDesk}

-- Units are told apart.

-- the number of an operation
abbrev pub op_number : Op → ℕ
op_number Add = 1
op_number Mul = 2
op_number Min = 3
op_number Max = 4
op_number Xor = 5

same_op : (x y : Op) → op_number x ≡ op_number y → x ≡ y
same_op Add Add e = refl
same_op Mul Mul e = refl
same_op Min Min e = refl
same_op Max Max e = refl
same_op Xor Xor e = refl
same_op _ _ e = absurd (omega arith)

-- whether two units of a flow are equal
abbrev pub same_unit : FlowUnit → FlowUnit → Bool
same_unit (Rule i x a b) (Rule j y c d) = (i == j) && ((op_number x == op_number y) && ((a == c) && (b == d)))
same_unit (Answer i v) (Answer j w) = (i == j) && (v == w)
same_unit _ _ = false

both : (b d : Bool) → (b && d) ≡ true → (b ≡ true) × (d ≡ true)
both true d e = (refl, e)
both false d e = absurd (cc)

both_of : (b d : Bool) → b ≡ true → d ≡ true → (b && d) ≡ true
both_of b d e f = ap (λ x. x && d) e ∙ f

-- units of a flow that pass the test are equal
pub exact_unit : (x y : FlowUnit) → same_unit x y ≡ true → x ≡ y
exact_unit (Rule i x a b) (Rule j y c d) e =
    let p = both (i == j) ((op_number x == op_number y) && ((a == c) && (b == d))) e in
    let q = both (op_number x == op_number y) ((a == c) && (b == d)) p.1 in
    let r = both (a == c) (b == d) q.1 in
    ap (λ z. Rule z x a b) (eqb-true i j p.0) ∙ ap (λ z. Rule j z a b) (same_op x y (eqb-true (op_number x) (op_number y) q.0))
    ∙ ap (λ z. Rule j y z b) (eqb-true a c r.0) ∙ ap (λ z. Rule j y c z) (eqb-true b d r.1)
exact_unit (Answer i v) (Answer j w) e =
    let p = both (i == j) (v == w) e in
    ap (λ z. Answer z v) (eqb-true i j p.0) ∙ ap (λ z. Answer j z) (eqb-true v w p.1)
exact_unit (Rule i x a b) (Answer j w) e = absurd (cc)
exact_unit (Answer i v) (Rule j y c d) e = absurd (cc)

-- a unit of a flow passes the test with itself
pub itself : (x : FlowUnit) → same_unit x x ≡ true
itself (Rule i x a b) =
    both_of (i == i) ((op_number x == op_number x) && ((a == a) && (b == b))) (eq-eqb i i refl)
    (both_of (op_number x == op_number x) ((a == a) && (b == b)) (eq-eqb (op_number x) (op_number x) refl)
    (both_of (a == a) (b == b) (eq-eqb a a refl) (eq-eqb b b refl)))
itself (Answer i v) = both_of (i == i) (v == v) (eq-eqb i i refl) (eq-eqb v v refl)

-- this unit, whatever came with it
abbrev pub is_unit : FlowUnit → Test FlowUnit
is_unit u a = same_unit u a.unit

-- Values.

there_at : {X : Type 0} (xs : List X) (i : ℕ) (x : X) → slice_get xs i ≡ Some x → Contains xs x
there_at [] i x e = absurd (cc)
there_at (y ∷ xs) zero x e = let same : y ≡ x = cc in (0, omega arith, same)
there_at (y ∷ xs) (suc i) x e = let t = there_at xs i x e in (suc t.0, omega (arith, t.1), t.2)

module _ (f : List Definition) where
  -- a stored value is that of its rule
  abbrev pub IsGoodPair : ℕ × ℕ → Type 0
  IsGoodPair x = IsGoodAnswer f x.0 x.1

  -- what is known by right values is a value
  knows_has : (stored : List (ℕ × ℕ)) (name : Name) (v : ℕ) → All IsGoodPair stored → Knows f stored name v → HasValue f name v
  knows_has stored _ _ good (given name v there) = value_given name v there
  knows_has stored _ _ good (stored_is name v i op left right rule there) =
      let g : IsGoodAnswer f i v = All-contains IsGoodPair stored (i, v) good there in
      let e : Some (defines.Rule g.name g.op g.left g.right) ≡ Some (defines.Rule name op left right) = sym g.is ∙ rule in
      let same : g.name ≡ name = cc in
      subst (λ n. HasValue f n v) same g.of

  -- a rule that is ready over right values carries right values
  pub ready_good : (stored : List (ℕ × ℕ)) (i : ℕ) (op : Op) (a b : ℕ) → All IsGoodPair stored → IsReady f stored i op a b →
      IsGoodRule f i op a b
  ready_good stored i op a b good r = record {
    name = r.name;
    left = r.left;
    right = r.right;
    is = r.is;
    of_left = knows_has stored r.left a good r.of_left;
    of_right = knows_has stored r.right b good r.of_right;
  }

  -- the value of a rule
  pub rule_value : (i : ℕ) (op : Op) (a b : ℕ) → IsGoodRule f i op a b → IsGoodAnswer f i (apply op a b)
  rule_value i op a b r = record {
    name = r.name;
    op = op;
    left = r.left;
    right = r.right;
    is = r.is;
    of = ruled r.name op r.left r.right a b (there_at f i (defines.Rule r.name op r.left r.right) r.is) r.of_left r.of_right;
  }

  add_good : (x : ℕ × ℕ) (stored : List (ℕ × ℕ)) → All IsGoodPair stored → IsGoodPair x → All IsGoodPair (add x stored)
  add_good x stored good its = at (list_any (λ y. y.0 == x.0) stored)
    where
      at : (b : Bool) → All IsGoodPair (cond b stored (stored ++ x ∷ []))
      at true = good
      at false = All-append IsGoodPair stored (x ∷ []) good (All-cons IsGoodPair x [] its (All-nil IsGoodPair))

module _ (F : Forms) (is : IsWork (flows (untargeted F))) (f : List Definition) (flow : Option (List Definition))
    (of_flow : (g : List Definition) → flow ≡ Some g → g ≡ f)
  where
    -- how often a call sends the unit
    abbrev pub counts_sent : FlowUnit → Said → ℕ
    counts_sent u s = count_by (reads (flows (untargeted F)) is (is_unit u)) (parcel_sent None s.call s.answer)

    -- how often a call gets the unit
    abbrev pub counts_got : FlowUnit → Option UnitNote → Said → ℕ
    counts_got u held s = count_by (reads (flows (untargeted F)) is (is_unit u)) (parcel_got held s.call s.answer)

    -- one call: what it leaves and puts is right, if what it gets is
    pub record StaysRight (d : Desk) (s : Said) (next : Desk) : Type 0 where
      pub right : IsRightDesk f next
      pub puts : (u : FlowUnit) → 1 ≤ counts_sent u s → IsGood f u
      pub held : next.held ≡ granted_note s.answer
      pub no_batch : batch_after None s.call s.answer ≡ None

    one_put : (u v : FlowUnit) → F.fits v ≡ true → IsGood f v → 1 ≤ counts_sent u (said_of (put_of (flows F) v) answers.Fine) → IsGood f u
    one_put u v fits good counts = at (same_unit u v) refl
      where
        its : counts_sent u (said_of (put_of (flows F) v) answers.Fine) ≡ one_if (is_unit u) (arrival (flows F) [] v)
        its = put_counts (flows (untargeted F)) is (is_unit u) v None fits

        at : (b : Bool) → b ≡ same_unit u v → IsGood f u
        at true e = subst (IsGood f) (sym (exact_unit u v (sym e))) good
        at false e =
            let none : one_if (is_unit u) (arrival (flows F) [] v) ≡ 0 = ap (λ b. cond {A = ℕ} b 1 0) (sym e) in
            absurd (omega (arith, counts, its, none))

    good_refused : (x : ℕ × ℕ) (d : Desk) → IsRightDesk f d → IsGoodPair f x → (o : Option (List Definition)) →
        IsRightDesk f (refused o x d)
    good_refused x d right its (Some g) = record { stored = add_good f x d.stored right.stored its; owed = right.owed; kept = right.kept }
    good_refused x d right its None = record {
      stored = right.stored;
      owed = right.owed;
      kept = All-append (IsGoodPair f) d.kept (x ∷ []) right.kept (All-cons (IsGoodPair f) x [] its (All-nil (IsGoodPair f)));
    }

    refused_held : (x : ℕ × ℕ) (d : Desk) (o : Option (List Definition)) → (refused o x d).held ≡ d.held
    refused_held x d (Some g) = refl
    refused_held x d None = refl

    brought_held : (o : Option (List Definition)) (u : Option FlowUnit) (d : Desk) → (brought o u d).held ≡ d.held
    brought_held o None d = refl
    brought_held o (Some (Rule i op a b)) d = refl
    brought_held (Some g) (Some (Answer i v)) d = refl
    brought_held None (Some (Answer i v)) d = refl

    good_brought : (o : Option (List Definition)) (u : Option FlowUnit) (d : Desk) → IsRightDesk f d →
        ((v : FlowUnit) → u ≡ Some v → IsGood f v) →
        IsRightDesk f (brought o u d)
    good_brought o None d right good = right
    good_brought o (Some (Rule i op a b)) d right good =
        let g : IsGoodRule f i op a b = good (Rule i op a b) refl in
        record {
          stored = right.stored;
          owed = All-cons (IsGoodPair f) (i, apply op a b) [] (rule_value f i op a b g) (All-nil (IsGoodPair f));
          kept = right.kept;
        }
    good_brought (Some h) (Some (Answer i v)) d right good =
        let g : IsGoodAnswer f i v = good (Answer i v) refl in
        record { stored = add_good f (i, v) d.stored right.stored g; owed = right.owed; kept = right.kept }
    good_brought None (Some (Answer i v)) d right good = right

    none_sent : (u : FlowUnit) → 1 ≤ 0 → IsGood f u
    none_sent u n = absurd (omega arith)

    first_of : (xs : List (ℕ × ℕ)) (x : ℕ × ℕ) (rest : List (ℕ × ℕ)) → xs ≡ x ∷ rest → All (IsGoodPair f) xs →
        IsGoodPair f x × All (IsGoodPair f) rest
    first_of xs x rest e all =
        let a = subst (All (IsGoodPair f)) e all in (All-head (IsGoodPair f) x rest a, All-tail (IsGoodPair f) x rest a)

    at_flow : (g : List Definition) (stored : List (ℕ × ℕ)) (i : ℕ) (op : Op) (a b : ℕ) → flow ≡ Some g → IsReady g stored i op a b →
        IsReady f stored i op a b
    at_flow g stored i op a b e r = subst (λ h. IsReady h stored i op a b) (of_flow g e) r

    -- a call that gets right units keeps the desk right, and puts right units
    pub stays_right : (d : Desk) (s : Said) (next : Desk) → IsRightDesk f d → ((u : FlowUnit) → 1 ≤ counts_got u d.held s → IsGood f u) →
        Moves F flow d s next → StaysRight d s next
    stays_right d s next right gets (rule_taken g i op a b e free ready new fits said left) =
        let good : IsGood f (Rule i op a b) = ready_good f d.stored i op a b right.stored (at_flow g d.stored i op a b e ready) in
        subst (λ n. StaysRight d s n) (sym left) (subst (λ t. StaysRight d t (record d { put = d.put ++ i ∷ [] })) (sym said) (record {
          right = record { stored = right.stored; owed = right.owed; kept = right.kept };
          puts = λ u counts. one_put u (Rule i op a b) fits good counts;
          held = free.none_held;
          no_batch = refl;
        }))
    stays_right d s next right gets (rule_refused g i op a b e free ready new fits said left) =
        let good = ready_good f d.stored i op a b right.stored (at_flow g d.stored i op a b e ready) in
        subst (λ n. StaysRight d s n) (sym left)
        (subst (λ t. StaysRight d t (record d { put = d.put ++ i ∷ []; stored = add (i, apply op a b) d.stored })) (sym said) (record {
          right = record {
            stored = add_good f (i, apply op a b) d.stored right.stored (rule_value f i op a b good);
            owed = right.owed;
            kept = right.kept;
          };
          puts = none_sent;
          held = free.none_held;
          no_batch = refl;
        }))
    stays_right d s next right gets (rule_stopped g i op a b end e free ready new fits said left) =
        subst (λ n. StaysRight d s n) (sym left) (subst (λ t. StaysRight d t (record d { ended = true })) (sym said) (record {
          right = record { stored = right.stored; owed = right.owed; kept = right.kept };
          puts = none_sent;
          held = free.none_held;
          no_batch = refl;
        }))
    stays_right d s next right gets (answer_taken x rest owes none live fits said left) =
        let o = first_of d.owed x rest owes right.owed in
        subst (λ n. StaysRight d s n) (sym left) (subst (λ t. StaysRight d t (record d { owed = rest })) (sym said) (record {
          right = record { stored = right.stored; owed = o.1; kept = right.kept };
          puts = λ u counts. one_put u (unit_of x) fits o.0 counts;
          held = none;
          no_batch = refl;
        }))
    stays_right d s next right gets (answer_refused x rest owes none live fits said left) =
        let o = first_of d.owed x rest owes right.owed in
        subst (λ n. StaysRight d s n) (sym left) (subst (λ t. StaysRight d t (refused flow x (record d { owed = rest }))) (sym said)
        (record {
          right = good_refused x (record d { owed = rest }) (record { stored = right.stored; owed = o.1; kept = right.kept }) o.0 flow;
          puts = none_sent;
          held = refused_held x (record d { owed = rest }) flow ∙ none;
          no_batch = refl;
        }))
    stays_right d s next right gets (answer_stopped x rest end owes none live fits said left) =
        let o = first_of d.owed x rest owes right.owed in
        subst (λ n. StaysRight d s n) (sym left)
        (subst (λ t. StaysRight d t (record d { owed = rest; kept = d.kept ++ x ∷ []; ended = true })) (sym said) (record {
          right = record {
            stored = right.stored;
            owed = o.1;
            kept = All-append (IsGoodPair f) d.kept (x ∷ []) right.kept (All-cons (IsGoodPair f) x [] o.0 (All-nil (IsGoodPair f)));
          };
          puts = none_sent;
          held = none;
          no_batch = refl;
        }))
    stays_right d s next right gets (again_taken x rest e free keeps once fits said left) =
        let o = first_of d.kept x rest keeps right.kept in
        subst (λ n. StaysRight d s n) (sym left) (subst (λ t. StaysRight d t (record d { kept = rest; tried = true })) (sym said) (record {
          right = record { stored = right.stored; owed = right.owed; kept = o.1 };
          puts = λ u counts. one_put u (unit_of x) fits o.0 counts;
          held = free.none_held;
          no_batch = refl;
        }))
    stays_right d s next right gets (again_refused x rest e free keeps once fits said left) =
        subst (λ n. StaysRight d s n) (sym left) (subst (λ t. StaysRight d t (record d { tried = true })) (sym said) (record {
          right = record { stored = right.stored; owed = right.owed; kept = right.kept };
          puts = none_sent;
          held = free.none_held;
          no_batch = refl;
        }))
    stays_right d s next right gets (again_stopped x rest end e free keeps once fits said left) =
        subst (λ n. StaysRight d s n) (sym left) (subst (λ t. StaysRight d t (record d { ended = true })) (sym said) (record {
          right = record { stored = right.stored; owed = right.owed; kept = right.kept };
          puts = none_sent;
          held = free.none_held;
          no_batch = refl;
        }))
    stays_right d s next right gets (granted note free may said left) =
        subst (λ n. StaysRight d s n) (sym left) (subst (λ t. StaysRight d t (record d { held = Some note; tried = false })) (sym said)
        (record {
          right = record { stored = right.stored; owed = right.owed; kept = right.kept };
          puts = none_sent;
          held = refl;
          no_batch = refl;
        }))
    stays_right d s next right gets (told end free may said left) =
        subst (λ n. StaysRight d s n) (sym left) (subst (λ t. StaysRight d t (record d { ended = true })) (sym said) (record {
          right = record { stored = right.stored; owed = right.owed; kept = right.kept };
          puts = none_sent;
          held = free.none_held;
          no_batch = refl;
        }))
    stays_right d s next right gets (fetched note bytes holds none live said left) =
        let u : Option FlowUnit = fetched_unit (flows F) note bytes in
        let good : (v : FlowUnit) → u ≡ Some v → IsGood f v = λ v e.
        let its : count_by (reads (flows (untargeted F)) is (is_unit v))
        (parcel_got (Some note) (calls_to.Fetch note.id) (answers.Body bytes))
        ≡ cond (passes (flows (untargeted F)) is (is_unit v) (common_bytes note.length bytes) u) 1 0 =
        got_counts (flows (untargeted F)) is (is_unit v) note bytes in
        let yes : cond {A = ℕ} (passes (flows (untargeted F)) is (is_unit v) (common_bytes note.length bytes) u) 1 0 ≡ 1 =
        ap (λ o. cond {A = ℕ} (passes (flows (untargeted F)) is (is_unit v) (common_bytes note.length bytes) o) 1 0) e
        ∙ ap (λ b. cond {A = ℕ} b 1 0)
        (itself v) in
        let here : counts_got v d.held s ≡ count_by (reads (flows (untargeted F)) is (is_unit v))
        (parcel_got (Some note) (calls_to.Fetch note.id) (answers.Body bytes)) =
        ap (λ h. counts_got v h s) holds ∙ ap (λ t. counts_got v (Some note) t) said in
        gets v (omega (arith, its, yes, here)) in
        subst (λ n. StaysRight d s n) (sym left) (subst (λ t. StaysRight d t (brought flow u (record d { held = None }))) (sym said)
        (record {
          right = good_brought flow u (record d { held = None }) (record { stored = right.stored; owed = right.owed; kept = right.kept })
              good;
          puts = none_sent;
          held = brought_held flow u (record d { held = None });
          no_batch = refl;
        }))

    -- All calls.

    -- the desk is right at the end, and each unit put is right
    pub record AllRight (said : List Said) (last : Desk) : Type 0 where
      pub right : IsRightDesk f last
      pub puts : (u : FlowUnit) → 1 ≤ count_by (reads (flows (untargeted F)) is (is_unit u)) (sent None said) → IsGood f u

    -- a rank that gets right units keeps, stores and puts right ones
    pub all_right : (d : Desk) (said : List Said) (last : Desk) → IsRightDesk f d →
        ((u : FlowUnit) → 1 ≤ count_by (reads (flows (untargeted F)) is (is_unit u)) (got d.held said) → IsGood f u)
        → Goes F flow d said last →
        AllRight said last
    unfolding sent got
    all_right d [] last right gets same = record { right = subst (IsRightDesk f) same right; puts = none_sent }
    all_right d (s ∷ said) last right gets goes =
        let R : FlowUnit → Parcel → Bool = λ u. reads (flows (untargeted F)) is (is_unit u) in
        let one = stays_right d s goes.0 right (λ u counts. gets u (omega (
          arith,
          counts,
          sum_by-append (one_if (R u)) (parcel_got d.held s.call s.answer) (got (granted_note s.answer) said),
        ))) goes.1 in
        let rest = all_right goes.0 said last one.right (λ u counts.
        let e : count_by (R u) (got goes.0.held said) ≡ count_by (R u) (got (granted_note s.answer) said) = ap (λ h. count_by (R u)
        (got h said)) one.held in
        gets u (omega (
          arith,
          counts,
          e,
          sum_by-append (one_if (R u)) (parcel_got d.held s.call s.answer) (got (granted_note s.answer) said),
        ))) goes.2 in
        record {
          right = rest.right;
          puts = λ u counts.
              let b : count_by (R u) (sent (batch_after None s.call s.answer) said) ≡ count_by (R u) (sent None said) =
              ap (λ h. count_by (R u) (sent h said)) one.no_batch in
              elim (cases_lt 0 (counts_sent u s)) [
                | inl here ↦ one.puts u (omega (arith, here))
                | inr none ↦ rest.puts u (omega (
                  arith,
                  none,
                  counts,
                  b,
                  sum_by-append (one_if (R u)) (parcel_sent None s.call s.answer) (sent (batch_after None s.call s.answer) said),
                ))
              ];
        }
