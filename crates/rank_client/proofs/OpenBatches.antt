-- Whether a batch is going on after one call more.
use Rattle.std.proofs.Common.{◌≡◌, ◌&&◌, Bool, true, false, List, [], ◌∷◌, ◌++◌, Option, None, Some, refl, sym, ap, ◌∙◌}
use Rattle.std.specs.Prelude.{is_none, is_some}
use Rattle.adlb_unit.specs.declared.notes.Trouble.{Trouble}
use Rattle.bag_ledger.specs.declared.entries.Said.{Said}
use Rattle.rank_client.specs.Calls.{goes_on, is_open, open_after}

after_more : (open_then : Bool) (said : List Said) (s : Said)
    → open_after open_then (said ++ s ∷ []) ≡ goes_on s.call s.answer (open_after open_then said)
unfolding open_after
after_more open_then [] s = refl
after_more open_then (t ∷ said) s = after_more (goes_on t.call t.answer open_then) said s

-- as the last call leaves it
pub opened_more : (said : List Said) (s : Said) → is_open (said ++ s ∷ []) ≡ goes_on s.call s.answer (is_open said)
opened_more said s = after_more false said s

-- at the start none is
pub none_opened : is_open [] ≡ false
unfolding open_after
none_opened = refl

-- what is there, by the test
pub not_some : {X : Type 0} (o : Option X) → is_some o ≡ false → o ≡ None
not_some None is = refl
not_some (Some x) is = absurd (cc)

-- an option that passes the test has a value
pub some_of : {X : Type 0} (o : Option X) → is_some o ≡ true → (x : X) × (o ≡ Some x)
some_of None is = absurd (cc)
some_of (Some x) is = (x, refl)

and_true : (t : Bool) → (t && true) ≡ t
and_true true = refl
and_true false = refl

and_false : (t : Bool) → (t && false) ≡ false
and_false true = refl
and_false false = refl

-- a link that has failed has no batch, and of one that has not the transcript alone says it
pub fell : (failed : Option Trouble) (trouble : Trouble) (on : Bool) → failed ≡ Some trouble → (on && is_none failed) ≡ false
fell failed trouble on is = ap (λ o. on && is_none o) is ∙ and_false on

-- on a link that has not failed, a batch goes on as its transcript says
pub stands : (failed : Option Trouble) (on : Bool) → failed ≡ None → (on && is_none failed) ≡ on
stands failed on is = ap (λ o. on && is_none o) is ∙ and_true on

-- on a link that has not failed and has no batch, none is open
pub not_open : (said : List Said) (failed : Option Trouble) → failed ≡ None → (is_open said && is_none failed) ≡ false
    → is_open said ≡ false
not_open said failed none closed = sym (stands failed (is_open said) none) ∙ closed
