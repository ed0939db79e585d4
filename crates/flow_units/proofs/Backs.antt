-- Each unit is read back of its body, and the two kinds are told apart.
use Rattle.std.proofs.Common.{◌≡◌, ◌<◌, ◌==◌, ◌&&◌, ◌^◌, ℕ, Bool, true, false, cond, List, length, take, drop, Option, Some, None, refl, ap}
use Rattle.std.proofs.Common.{◌∙◌, arith}
use Rattle.std.specs.Prelude.{is_none, nat_lt, slice_index}
use Rattle.std.specs.Int.{to_be_bytes, from_be_bytes, w32, w64}
use Rattle.std.proofs.lemmas.Bool.{and_parts, eqb-true, ltb-true}
use Rattle.std.proofs.lemmas.Nat.{from_be_bytes-to_be_bytes_4, from_be_bytes-to_be_bytes_8}
use Rattle.adlb_unit.specs.declared.names.Rank.{Rank}
use Rattle.adlb_unit.specs.declared.names.WorkType.{WorkType}
use Rattle.balance_law.specs.Orderly.{IsAimed}
use Rattle.flow_law.specs.declared.Op.{Op}
use Rattle.flow_law.specs.declared.Op.TheVariants.{Add, Mul, Min, Max, Xor}
use Rattle.flow_run_law.specs.Units.{Answer, AreForms, FlowUnit, HasTypes, Rule}
use Rattle.flow_units.specs.Bodies.{answer_body, answer_in, forms, is_rank_0, op_byte, op_in, rule_body, rule_in, rule_with, unit_fits}
use Rattle.flow_units.specs.Bodies.{unit_in}

op_back : (op : Op) → op_in (op_byte op) ≡ Some op
op_back Add = refl
op_back Mul = refl
op_back Min = refl
op_back Max = refl
op_back Xor = refl

-- what is in the body of a rule, by its places
rule_parts : (i : ℕ) (op : Op) (a b : ℕ) → rule_in (rule_body i op a b)
    ≡ rule_with (from_be_bytes w32 (to_be_bytes w32 i)) (op_in (op_byte op)) (from_be_bytes w64 (to_be_bytes w64 a))
    (from_be_bytes w64 (to_be_bytes w64 b))
rule_parts i op a b = refl

answer_parts : (i v : ℕ) → answer_in (answer_body i v)
    ≡ Some (Answer (from_be_bytes w32 (to_be_bytes w32 i)) (from_be_bytes w64 (to_be_bytes w64 v)))
answer_parts i v = refl

rule_back : (i : ℕ) (op : Op) (a b : ℕ) → unit_fits (Rule i op a b) ≡ true → rule_in (rule_body i op a b) ≡ Some (Rule i op a b)
rule_back i op a b fits =
    let p = and_parts (nat_lt i (2 ^ 32)) (nat_lt a (2 ^ 64) && nat_lt b (2 ^ 64)) fits in
    let q = and_parts (nat_lt a (2 ^ 64)) (nat_lt b (2 ^ 64)) p.1 in
    rule_parts i op a b
    ∙ ap (λ n. rule_with n (op_in (op_byte op)) (from_be_bytes w64 (to_be_bytes w64 a)) (from_be_bytes w64 (to_be_bytes w64 b)))
    (from_be_bytes-to_be_bytes_4 i (ltb-true i (2 ^ 32) p.0))
    ∙ ap (λ o. rule_with i o (from_be_bytes w64 (to_be_bytes w64 a)) (from_be_bytes w64 (to_be_bytes w64 b))) (op_back op)
    ∙ ap (λ n. rule_with i (Some op) n (from_be_bytes w64 (to_be_bytes w64 b))) (from_be_bytes-to_be_bytes_8 a (ltb-true a (2 ^ 64) q.0))
    ∙ ap (λ n. rule_with i (Some op) a n) (from_be_bytes-to_be_bytes_8 b (ltb-true b (2 ^ 64) q.1))

answer_back : (i v : ℕ) → unit_fits (Answer i v) ≡ true → answer_in (answer_body i v) ≡ Some (Answer i v)
answer_back i v fits =
    let p = and_parts (nat_lt i (2 ^ 32)) (nat_lt v (2 ^ 64)) fits in
    answer_parts i v
    ∙ ap (λ n. Some (Answer n (from_be_bytes w64 (to_be_bytes w64 v)))) (from_be_bytes-to_be_bytes_4 i (ltb-true i (2 ^ 32) p.0))
    ∙ ap (λ n. Some (Answer i n)) (from_be_bytes-to_be_bytes_8 v (ltb-true v (2 ^ 64) p.1))

-- the units of a flow are read back from their bodies, whatever the number of ranks
pub are_forms : (ranks : ℕ) → 0 < ranks → AreForms ranks (forms ranks)
are_forms ranks some = record { read_back = back; aimed = aimed_at }
  where
    back : (unit : FlowUnit) → (forms ranks).fits unit ≡ true →
        (forms ranks).read ((forms ranks).form unit).kind ((forms ranks).form unit).answer ((forms ranks).form unit).body ≡ Some unit
    back (Rule i op a b) fits = rule_back i op a b fits
    back (Answer i v) fits = answer_back i v fits

    aimed_at : (unit : FlowUnit) → IsAimed ranks ((forms ranks).form unit).target
    aimed_at (Rule i op a b) = omega arith
    aimed_at (Answer i v) = some

-- what is read as an answer is of type 1
no_rule : (i : ℕ) (o : Option Op) (a b j v : ℕ) → rule_with i o a b ≡ Some (Answer j v) → ⊥
no_rule i None a b j v e = cc
no_rule i (Some op) a b j v e = let same : Rule i op a b ≡ Answer j v = cc in cc

rule_reads : (t : Bool) (i : ℕ) (o : Option Op) (a b j v : ℕ) → cond t (rule_with i o a b) None ≡ Some (Answer j v) → ⊥
rule_reads true i o a b j v e = no_rule i o a b j v e
rule_reads false i o a b j v e = cc

answer_kind : (kind : WorkType) (rank : Option Rank) (body : List ℕ) (i v : ℕ) → unit_in kind rank body ≡ Some (Answer i v) → kind.0 ≡ 1
answer_kind kind rank body i v e =
    at ((kind.0 == 0) && is_rank_0 rank) ((kind.0 == 1) && is_none rank) refl e
  where
    at : (t s : Bool) → ((kind.0 == 1) && is_none rank) ≡ s
        → cond t (rule_in body) (cond s (answer_in body) None) ≡ Some (Answer i v) → kind.0 ≡ 1
    at true s is e =
        absurd (rule_reads (length body == 21) (from_be_bytes w32 (take 4 body)) (op_in (slice_index body 4))
        (from_be_bytes w64 (take 8 (drop 5 body)))
        (from_be_bytes w64 (take 8 (drop 13 body))) i v e)
    at false true is e = eqb-true kind.0 1 (and_parts (kind.0 == 1) (is_none rank) is).0
    at false false is e = absurd (cc)

-- values and rules have two work types
pub have_types : (ranks : ℕ) → HasTypes (forms ranks)
have_types ranks = record { rule = λ i op a b. refl; answer = λ i v. refl; read = answer_kind }
