-- A small run, worked: two ranks, one server, and the rule `c xor a b` with `a` 6 and `b` 3. Rank 0 puts the rule; rank 1 reserves, fetches
-- and works it. No server takes its answer, which rank 1 puts once more before it reserves; then rank 0 reserves and fetches it. Both are
-- told an end, and finish. These are eleven calls, where no run has more than twelve. The twelfth would follow the reserve of the answer:
-- rank 0, which keeps none, puts none once more.
use Rattle.std.proofs.Common.{◌≡◌, ◌+◌, ℕ, zero, suc, Bool, true, false, List, ◌∷◌, [], ◌++◌, length, replicate, Contains, None, Option}
use Rattle.std.proofs.Common.{Some, refl, sym, arith, inl}
use Rattle.std.specs.Prelude.{codes, pos}
use Rattle.adlb_unit.specs.declared.configs.Config.{Config}
use Rattle.adlb_unit.specs.declared.names.Rank.{Rank}
use Rattle.adlb_unit.specs.declared.names.Server.{Server}
use Rattle.adlb_unit.specs.declared.names.Target.TheVariants.{Any, Only}
use Rattle.adlb_unit.specs.declared.names.UnitId.{UnitId}
use Rattle.adlb_unit.specs.declared.notes.End.TheVariants as ends_by
use Rattle.adlb_unit.specs.declared.notes.UnitNote.{UnitNote}
use Rattle.bag_ledger.specs.declared.entries.Answer.TheVariants as answers
use Rattle.bag_ledger.specs.declared.entries.Call.TheVariants as calls_to
use Rattle.bag_ledger.specs.declared.entries.Entry.{Entry}
use Rattle.bag_ledger.specs.declared.entries.Entry.TheVariants.{Putting, Accepted, Refused, Rejected, Asked, Granted, Fetching, Fetched}
use Rattle.bag_ledger.specs.declared.entries.Entry.TheVariants.{Promised, Withdrawn, Exhausted, Over, Finished}
use Rattle.bag_ledger.specs.declared.entries.Said.{Said}
use Rattle.bag_ledger.specs.Bag.{start}
use Rattle.bag_ledger.specs.Runs.{calls, first_illegal}
use Rattle.balance_law.specs.Orderly.{finish}
use Rattle.flow_law.specs.Flows.{Name}
use Rattle.flow_law.specs.declared.Definition.{Definition}
use Rattle.flow_law.specs.declared.Definition.TheVariants as defines
use Rattle.flow_law.specs.declared.Op.{Op}
use Rattle.flow_law.specs.declared.Op.TheVariants.{Xor}
use Rattle.work_law.specs.Work.{Form, put_of}
use Rattle.work_law.specs.Books.{said_of}
use Rattle.flow_run_law.specs.Units.{Answer, FlowUnit, Forms, IsRule, Rule, flows}
use Rattle.flow_run_law.specs.Desk.{Desk, Goes, IsFree, IsReady, again_taken, answer_refused, at_start, fetched, given, granted, rule_taken}
use Rattle.flow_run_law.specs.Desk.{told}
use Rattle.flow_bound_law.specs.Most.{most_calls}

flow : List Definition
flow = defines.Rule (codes "c") Xor (codes "a") (codes "b") ∷ defines.Let (codes "a") 6 ∷ defines.Let (codes "b") 3 ∷ []

abbrev rank : ℕ → Rank
rank n = record { 0 = n }

abbrev server : Server
server = record { 0 = 0 }

abbrev unit : ℕ → ℕ → UnitId
unit r call = record { rank = rank r; number = call }

-- forms that tell the two units of the run apart: that of a rule is as long as the limit
abbrev rule_body : ℕ → ℕ → List ℕ
rule_body a b = a ∷ b ∷ replicate 62 0

abbrev form_of : FlowUnit → Form
form_of (Rule i op a b) = record {
  kind = record { 0 = 0 };
  prio = pos 0;
  target = Any;
  answer = Some (rank 0);
  body = rule_body a b;
}
form_of (Answer i v) = record { kind = record { 0 = 1 }; prio = pos 100; target = Only (rank 0); answer = None; body = v ∷ [] }

abbrev read_of : List ℕ → Option FlowUnit
read_of (v ∷ []) = Some (Answer 0 v)
read_of (a ∷ b ∷ rest) = Some (Rule 0 Xor a b)
read_of body = None

forms : Forms
forms = record { form = form_of; fits = λ u. true; read = λ kind answer body. read_of body }

small : Config
small = record {
  ranks = 2;
  servers = 1;
  limit = 64;
  ranks_within = (omega arith, omega arith);
  servers_within = (omega arith, omega arith);
  limit_within = (omega arith, omega arith);
}

-- while the answer is put the first time, room for the rule is promised
ledger : List Entry
ledger =
    Putting (rank 0) 0 (record { 0 = 0 }) (pos 0) Any (Some (rank 0)) (rule_body 6 3) ∷ Accepted server (unit 0 0)
    ∷ Asked (rank 1) 0 None ∷ Granted server (rank 1) 0 (unit 0 0) ∷ Fetching (rank 1) 1 (unit 0 0) ∷ Fetched server (rank 1) (unit 0 0)
    ∷ Promised server (unit 0 0) 64
    ∷ Putting (rank 1) 2 (record { 0 = 1 }) (pos 100) (Only (rank 0)) None (5 ∷ []) ∷ Refused server (unit 1 2) 64 ∷ Rejected (rank 1) 2
    ∷ Withdrawn server (unit 0 0)
    ∷ Putting (rank 1) 3 (record { 0 = 1 }) (pos 100) (Only (rank 0)) None (5 ∷ []) ∷ Accepted server (unit 1 3)
    ∷ Asked (rank 1) 4 None ∷ Asked (rank 0) 1 None ∷ Granted server (rank 0) 1 (unit 1 3)
    ∷ Fetching (rank 0) 2 (unit 1 3) ∷ Fetched server (rank 0) (unit 1 3)
    ∷ Asked (rank 0) 3 None ∷ Exhausted ∷ Over (rank 0) 3 ends_by.Exhausted ∷ Over (rank 1) 4 ends_by.Exhausted
    ∷ Finished (rank 0) 4 ∷ Finished (rank 1) 5 ∷ []

-- the ledger is a legal run
legal : first_illegal (start small) 0 ledger ≡ None
unfolding small ledger
legal = refl

rule_note : UnitNote
rule_note = record {
  id = unit 0 0;
  kind = record { 0 = 0 };
  prio = pos 0;
  answer = Some (rank 0);
  server = server;
  common = None;
  length = 64;
}

answer_note : UnitNote
answer_note = record {
  id = unit 1 3;
  kind = record { 0 = 1 };
  prio = pos 100;
  answer = None;
  server = server;
  common = None;
  length = 1;
}

-- The calls of the ranks, but for Finish, are those of the program.

at_home : List Said
at_home =
    said_of (put_of (flows forms) (Rule 0 Xor 6 3)) answers.Fine
    ∷ said_of (calls_to.Reserve None) (answers.Granted answer_note)
    ∷ said_of (calls_to.Fetch answer_note.id) (answers.Body (5 ∷ []))
    ∷ said_of (calls_to.Reserve None) (answers.Ended ends_by.Exhausted) ∷ []

away : List Said
away =
    said_of (calls_to.Reserve None) (answers.Granted rule_note)
    ∷ said_of (calls_to.Fetch rule_note.id) (answers.Body (rule_body 6 3))
    ∷ said_of (put_of (flows forms) (Answer 0 5)) answers.Rejected
    ∷ said_of (put_of (flows forms) (Answer 0 5)) answers.Fine
    ∷ said_of (calls_to.Reserve None) (answers.Ended ends_by.Exhausted) ∷ []

calls_home : calls small ledger (rank 0) ≡ at_home ++ finish ∷ []
unfolding small ledger at_home answer_note forms
calls_home = refl

calls_away : calls small ledger (rank 1) ≡ away ++ finish ∷ []
unfolding small ledger away rule_note forms
calls_away = refl

-- there is one rule
one_rule : (i : ℕ) (name : Name) (op : Op) (left right : Name) → IsRule flow i name op left right → i ≡ 0
unfolding flow
one_rule zero name op left right rule = refl
one_rule (suc zero) name op left right rule = absurd (cc)
one_rule (suc (suc zero)) name op left right rule = absurd (cc)
one_rule (suc (suc (suc i))) name op left right rule = absurd (cc)

all_put : (stored : List (ℕ × ℕ)) (i : ℕ) (op : Op) (a b : ℕ) → IsReady flow stored i op a b → Contains (0 ∷ []) i
all_put stored i op a b ready =
    let e : i ≡ 0 = one_rule i ready.name op ready.left ready.right ready.is in
    (0, omega arith, sym e)

ready : IsReady flow [] 0 Xor 6 3
unfolding flow
ready = record {
  name = codes "c";
  left = codes "a";
  right = codes "b";
  is = refl;
  of_left = given (codes "a") 6 (1, omega arith, refl);
  of_right = given (codes "b") 3 (2, omega arith, refl);
}

desk : List (ℕ × ℕ) → List ℕ → List (ℕ × ℕ) → List (ℕ × ℕ) → Bool → Option UnitNote → Bool → Desk
desk stored put owed kept tried held ended = record {
  stored = stored;
  put = put;
  owed = owed;
  kept = kept;
  tried = tried;
  held = held;
  ended = ended;
}

free_at : (stored : List (ℕ × ℕ)) (put : List ℕ) (kept : List (ℕ × ℕ)) (tried : Bool) → IsFree (desk stored put [] kept tried None false)
unfolding desk
free_at stored put kept tried = record { none_owed = refl; none_held = refl; live = refl }

goes_home : Goes forms (Some flow) at_start at_home (desk ((0, 5) ∷ []) (0 ∷ []) [] [] false None true)
unfolding at_home forms desk answer_note
goes_home = (
  desk [] (0 ∷ []) [] [] false None false,
  rule_taken flow 0 Xor 6 3 refl (free_at [] [] [] false) ready (λ there. omega (arith, there.1)) refl refl refl,
  (
    desk [] (0 ∷ []) [] [] false (Some answer_note) false,
    granted answer_note (free_at [] (0 ∷ []) [] false) (all_put []) refl refl,
    (
      desk ((0, 5) ∷ []) (0 ∷ []) [] [] false None false,
      fetched answer_note (5 ∷ []) refl refl refl refl refl,
      (
        desk ((0, 5) ∷ []) (0 ∷ []) [] [] false None true,
        told ends_by.Exhausted (free_at ((0, 5) ∷ []) (0 ∷ []) [] false) (all_put ((0, 5) ∷ [])) refl refl,
        refl,
      ),
    ),
  ),
)

goes_away : Goes forms None at_start away (desk [] [] [] [] true None true)
unfolding away forms desk rule_note
goes_away = (
  desk [] [] [] [] false (Some rule_note) false,
  granted rule_note (free_at [] [] [] false) (inl refl) refl refl,
  (
    desk [] [] ((0, 5) ∷ []) [] false None false,
    fetched rule_note (rule_body 6 3) refl refl refl refl refl,
    (
      desk [] [] [] ((0, 5) ∷ []) false None false,
      answer_refused (0, 5) [] refl refl refl refl refl refl,
      (
        desk [] [] [] [] true None false,
        again_taken (0, 5) [] refl (free_at [] [] ((0, 5) ∷ []) false) refl refl refl refl refl,
        (desk [] [] [] [] true None true, told ends_by.Exhausted (free_at [] [] [] true) (inl refl) refl refl, refl),
      ),
    ),
  ),
)

-- these are eleven calls
eleven : length (calls small ledger (rank 0)) + length (calls small ledger (rank 1)) ≡ 11
unfolding small ledger
eleven = refl

-- and twelve are the most: of one rule eight, and of each rank two
most : most_calls 2 flow ≡ 12
unfolding flow
most = refl
