-- Row 5, worked on one rank: rule 0, `c xor a b`, is put, fetched and worked; its value is put, fetched and stored.
use Rattle.std.proofs.Common.{◌≡◌, ℕ, zero, suc, Bool, true, false, List, [], ◌∷◌, Contains, Option, Some, None, refl, sym, arith}
use Rattle.std.specs.Prelude.{codes, pos}
use Rattle.adlb_unit.specs.declared.names.Rank.{Rank}
use Rattle.adlb_unit.specs.declared.names.Target.TheVariants.{Any, Only}
use Rattle.adlb_unit.specs.declared.notes.End.TheVariants as ends_by
use Rattle.adlb_unit.specs.declared.notes.UnitNote.{UnitNote}
use Rattle.bag_ledger.specs.declared.entries.Answer.TheVariants as answers
use Rattle.bag_ledger.specs.declared.entries.Call.TheVariants as calls_to
use Rattle.bag_ledger.specs.declared.entries.Said.{Said}
use Rattle.flow_law.specs.Flows.{Name}
use Rattle.flow_law.specs.declared.Definition.{Definition}
use Rattle.flow_law.specs.declared.Definition.TheVariants as defines
use Rattle.flow_law.specs.declared.Op.{Op}
use Rattle.flow_law.specs.declared.Op.TheVariants.{Xor}
use Rattle.work_law.specs.Work.{Form, put_of}
use Rattle.work_law.specs.Books.{said_of}
use Rattle.flow_run_law.specs.Units.{Answer, FlowUnit, Forms, IsRule, Rule, flows}
use Rattle.flow_run_law.specs.Desk.{Desk, Goes, IsFree, IsReady, answer_taken, at_start, fetched, given, granted, rule_taken, told}

flow : List Definition
flow = defines.Rule (codes "c") Xor (codes "a") (codes "b") ∷ defines.Let (codes "a") 6 ∷ defines.Let (codes "b") 3 ∷ []

zero_rank : Rank
zero_rank = record { 0 = 0 }

-- forms that tell the two units of the run apart
abbrev form_of : FlowUnit → Form
form_of (Rule i op a b) = record {
  kind = record { 0 = 0 };
  prio = pos 0;
  target = Any;
  answer = Some (record { 0 = 0 });
  body = a ∷ b ∷ [];
}
form_of (Answer i v) = record { kind = record { 0 = 1 }; prio = pos 100; target = Only (record { 0 = 0 }); answer = None; body = v ∷ [] }

abbrev read_of : List ℕ → Option FlowUnit
read_of (a ∷ b ∷ []) = Some (Rule 0 Xor a b)
read_of (v ∷ []) = Some (Answer 0 v)
read_of body = None

forms : Forms
forms = record { form = form_of; fits = λ u. true; read = λ kind answer body. read_of body }

note : ℕ → ℕ → ℕ → UnitNote
note call kind long = record {
  id = record { rank = record { 0 = 0 }; number = call };
  kind = record { 0 = kind };
  prio = pos 0;
  answer = None;
  server = record { 0 = 0 };
  common = None;
  length = long;
}

said : List Said
said =
    said_of (put_of (flows forms) (Rule 0 Xor 6 3)) answers.Fine
    ∷ said_of (calls_to.Reserve None) (answers.Granted (note 0 0 2))
    ∷ said_of (calls_to.Fetch (note 0 0 2).id) (answers.Body (6 ∷ 3 ∷ []))
    ∷ said_of (put_of (flows forms) (Answer 0 5)) answers.Fine
    ∷ said_of (calls_to.Reserve None) (answers.Granted (note 3 1 1))
    ∷ said_of (calls_to.Fetch (note 3 1 1).id) (answers.Body (5 ∷ []))
    ∷ said_of (calls_to.Reserve None) (answers.Ended ends_by.Exhausted) ∷ []

-- there is one rule
one_rule : (i : ℕ) (name : Name) (op : Op) (left right : Name) → IsRule flow i name op left right → i ≡ 0
unfolding flow
one_rule zero name op left right rule = refl
one_rule (suc zero) name op left right rule = absurd (cc)
one_rule (suc (suc zero)) name op left right rule = absurd (cc)
one_rule (suc (suc (suc i))) name op left right rule = absurd (cc)

all_put : (stored : List (ℕ × ℕ)) (i : ℕ) (op : Op) (a b : ℕ) → IsReady flow stored i op a b → Contains (0 ∷ []) i
all_put stored i op a b ready =
    let e : i ≡ 0 = one_rule i ready.name op ready.left ready.right ready.is in
    (0, omega arith, sym e)

desk : List (ℕ × ℕ) → List (ℕ × ℕ) → Option UnitNote → Bool → Desk
desk stored owed held ended = record { stored = stored; put = 0 ∷ []; owed = owed; kept = []; tried = false; held = held; ended = ended }

free : IsFree at_start
free = record { none_owed = refl; none_held = refl; live = refl }

free_at : (stored : List (ℕ × ℕ)) → IsFree (desk stored [] None false)
unfolding desk
free_at stored = record { none_owed = refl; none_held = refl; live = refl }

ready : IsReady flow [] 0 Xor 6 3
unfolding flow
ready = record {
  name = codes "c";
  left = codes "a";
  right = codes "b";
  is = refl;
  of_left = given (codes "a") 6 (1, omega arith, refl);
  of_right = given (codes "b") 3 (2, omega arith, refl);
}

goes : Goes forms (Some flow) at_start said (desk ((0, 5) ∷ []) [] None true)
unfolding said forms desk note
goes = (
  desk [] [] None false,
  rule_taken flow 0 Xor 6 3 refl free ready (λ there. omega (arith, there.1)) refl refl refl,
  (
    desk [] [] (Some (note 0 0 2)) false,
    granted (note 0 0 2) (free_at []) (all_put []) refl refl,
    (
      desk [] ((0, 5) ∷ []) None false,
      fetched (note 0 0 2) (6 ∷ 3 ∷ []) refl refl refl refl refl,
      (
        desk [] [] None false,
        answer_taken (0, 5) [] refl refl refl refl refl refl,
        (
          desk [] [] (Some (note 3 1 1)) false,
          granted (note 3 1 1) (free_at []) (all_put []) refl refl,
          (
            desk ((0, 5) ∷ []) [] None false,
            fetched (note 3 1 1) (5 ∷ []) refl refl refl refl refl,
            (
              desk ((0, 5) ∷ []) [] None true,
              told ends_by.Exhausted (free_at ((0, 5) ∷ [])) (all_put ((0, 5) ∷ [])) refl refl,
              refl,
            ),
          ),
        ),
      ),
    ),
  ),
)
