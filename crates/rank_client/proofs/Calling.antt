-- A call that was opened.
use Rattle.std.proofs.Common.{◌≡◌, ◌&&◌, ◌∙◌, ℕ, ℤ, Bool, true, false, not, cond, is_some, length, List, Option, None, Some, Result, Ok}
use Rattle.std.proofs.Common.{Err, refl, ap, sym}
use Rattle.std.specs.Prelude.{IsSome, OnErr, nat_le}
use Rattle.adlb_unit.specs.Limits.{body_limit}
use Rattle.adlb_unit.specs.Targets.{in_ranks}
use Rattle.adlb_unit.specs.declared.names.Rank.{Rank}
use Rattle.adlb_unit.specs.declared.names.Target.{Target}
use Rattle.adlb_unit.specs.declared.names.WorkType.{WorkType}
use Rattle.adlb_unit.specs.declared.units.Unit.{Unit}
use Rattle.bag_ledger.specs.declared.entries.Call.TheVariants as calls_to
use Rattle.rank_client.specs.Rules.{ClientResponse, open_call, put, unit_put}
use Rattle.rank_client.specs.State.{ClientModel}

-- what is so is so of a failure
pub on_err : {T E P : Type 0} (r : Result T E) → P → OnErr r P
on_err (Ok x) p = tt
on_err (Err e) p = p

-- a call that an opening begins is not Finish
pub begun_by : {X : Type 0} (o : Option X) (x : X) (t : Bool) → is_some o ≡ not t → o ≡ Some x → t ≡ false
begun_by o x false there is = refl
begun_by None x true there is = absurd (cc)
begun_by (Some y) x true there is = absurd (cc)

-- a put for which the rank is ready
pub put_opens : (s : ClientModel) (kind : WorkType) (prio : ℤ) (target : Target) (answer : Option Rank) (body : List ℕ) (unit : Unit)
    (z : ClientResponse) → unit ≡ unit_put s kind prio target answer body → z ≡ put s unit s.end
    → IsSome (open_call s (calls_to.Put kind prio target answer body)) → open_call s (calls_to.Put kind prio target answer body) ≡ Some z
put_opens s kind prio target answer body unit z unit_is is ready =
    by_test (nat_le (length body) body_limit && in_ranks s.config target) ready
    ∙ ap Some (ap (λ (u : Unit). put s u s.end) (sym unit_is) ∙ sym is)
  where
    rule : ClientResponse
    rule = put s (unit_put s kind prio target answer body) s.end

    by_test : (t : Bool) → IsSome (cond t (Some rule) None) → cond t (Some rule) None ≡ Some rule
    by_test true some = refl
    by_test false some = absurd (cc)
