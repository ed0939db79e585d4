-- The calls of a rank whose link fails.
use Rattle.std.proofs.Common.{◌≡◌, List, [], ◌∷◌, ◌++◌, Option, Some, None, refl, sym, ap, ◌∙◌, subst, inl, inr}
use Rattle.adlb_unit.specs.declared.notes.Trouble.{Trouble}
use Rattle.bag_ledger.specs.declared.entries.Answer.{Answer}
use Rattle.bag_ledger.specs.declared.entries.Call.{Call}
use Rattle.bag_ledger.specs.declared.entries.Said.{Said}
use Rattle.rank_client.specs.Calls.{Began, Pends, has_finished, unanswered}
use Rattle.flow_law.specs.declared.Definition.{Definition}
use Rattle.work_law.specs.Books.{said_of}
use Rattle.flow_run_law.specs.Desk.{Desk, Goes, Moves, at_start}
use Rattle.flow_run_law.specs.Units.{Forms}
use Rattle.flow_work.specs.Follows.{IsSoFar, IsUnderWay}
use Rattle.flow_work.proofs.Calling.{one_more, so_front, so_open}
use Rattle.std.proofs.Common.{false}

-- a call of a link that had not failed is what is begun, if anything is
pub began_pends : (before : Option Trouble) (was : Option Call) (call : Call) (now : Option Trouble) (begun : Option Call) → before ≡ None →
    Began before was call now begun → Pends (unanswered now begun) call
began_pends None was call None begun whole began = inl refl
began_pends None was call (Some trouble) begun whole began = began
began_pends (Some trouble) was call now begun whole began = absurd (cc)

module _ (F : Forms) (flow : Option (List Definition)) where
  -- nothing is begun while a link has not failed
  pub whole_way : (said : List Said) (failed : Option Trouble) (begun : Option Call) → failed ≡ None → IsSoFar F flow said →
      IsUnderWay F flow said (unanswered failed begun)
  whole_way said failed begun whole so =
      let none : unanswered failed begun ≡ None = ap (λ f. unanswered f begun) whole in
      subst (λ x. IsUnderWay F flow said x) (sym none) so

  -- the calls are such calls without what is begun too
  pub way_so : (said : List Said) (begun : Option Call) → IsUnderWay F flow said begun → IsSoFar F flow said
  way_so said None way = way
  way_so said (Some call) way = so_front F flow said (said_of call way.0 ∷ []) way.1

  -- a rank that is under way has not finished
  pub way_open : (said : List Said) (begun : Option Call) → IsUnderWay F flow said begun → has_finished said ≡ false
  way_open said begun way = so_open F flow said (way_so said begun way)

  -- a call can be begun if with some answer it is the next
  pub next_pends : (said new : List Said) (begun : Option Call) (call : Call) (answer : Answer) (mid next : Desk) →
      Goes F flow at_start said mid → new ≡ said → Moves F flow mid (said_of call answer) next → Pends begun call →
      IsUnderWay F flow new begun
  next_pends said new begun call answer mid next goes same move (inl none) =
      subst (λ x. IsUnderWay F flow new x) (sym none)
      (record { last = mid; goes = subst (λ t. Goes F flow at_start t mid) (sym same) goes })
  next_pends said new begun call answer mid next goes same move (inr some) =
      subst (λ x. IsUnderWay F flow new x) (sym some) (
        answer,
        record {
          last = next;
          goes = one_more F flow said (new ++ said_of call answer ∷ []) mid next (said_of call answer) goes
              (ap (λ t. t ++ said_of call answer ∷ []) same) move;
        },
      )
