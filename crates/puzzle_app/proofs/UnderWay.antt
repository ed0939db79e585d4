-- The calls of a rank whose link fails.
use Rattle.std.proofs.Common.{◌≡◌, ℕ, Bool, List, [], ◌∷◌, ◌++◌, Option, Some, None, IfSome, refl, sym, ap, subst, inl, inr}
use Rattle.adlb_unit.specs.declared.notes.End.TheVariants.{Exhausted}
use Rattle.adlb_unit.specs.declared.notes.Trouble.{Trouble}
use Rattle.bag_ledger.specs.declared.entries.Answer.{Answer}
use Rattle.bag_ledger.specs.declared.entries.Answer.TheVariants.{Fine, Ended, Body}
use Rattle.bag_ledger.specs.declared.entries.Call.{Call}
use Rattle.bag_ledger.specs.declared.entries.Call.TheVariants.{Reserve, Fetch, BeginBatch, EndBatch}
use Rattle.bag_ledger.specs.declared.entries.Said.{Said}
use Rattle.job_units.specs.Forms.{IsUnit}
use Rattle.job_units.specs.declared.jobs.Job as units
use Rattle.job_units.specs.declared.units.Made.{Made}
use Rattle.job_units.specs.Puts.{put_of}
use Rattle.rank_client.specs.Calls.{Began, Pends, unanswered}
use Rattle.puzzle_app.specs.Books.{said_of}
use Rattle.puzzle_app.specs.Calls.{Fails}
use Rattle.puzzle_app.specs.Follows.{IsSoFar, IsUnderWay}
use Rattle.puzzle_app.specs.Tasks.{Task, Begin, End}
use Rattle.puzzle_app.specs.Working.{HasPut, IsGoing, Passes}
use Rattle.puzzle_app.specs.declared.desk.Desk.{Desk}
use Rattle.puzzle_app.specs.declared.program.PuzzleProgram.{PuzzleProgram}
use Rattle.puzzle_app.proofs.Calling.{so_front}
use Rattle.puzzle_app.proofs.Steps.{Popped, brought_so, going_so, granted_so, passes_closed, passes_so, stopped_is, stopped_so, told_is}
use Rattle.puzzle_app.proofs.Steps.{unbegun_is}

-- a call of a link that had not failed is what is begun, if anything is
pub began_pends : (before : Option Trouble) (was : Option Call) (call : Call) (now : Option Trouble) (begun : Option Call) → before ≡ None →
    Began before was call now begun → Pends (unanswered now begun) call
began_pends None was call None begun whole began = inl refl
began_pends None was call (Some trouble) begun whole began = began
began_pends (Some trouble) was call now begun whole began = absurd (cc)

-- nothing is begun while a link has not failed
pub none_pends : (failed : Option Trouble) (begun : Option Call) → failed ≡ None → unanswered failed begun ≡ None
none_pends failed begun whole = ap (λ f. unanswered f begun) whole

-- a rank whose link has not failed is under way with nothing begun
pub whole_way : (p : PuzzleProgram) (said : List Said) (failed : Option Trouble) (begun : Option Call) → failed ≡ None → IsSoFar p said →
    IsUnderWay p said (unanswered failed begun)
whole_way p said failed begun whole so = subst (λ x. IsUnderWay p said x) (sym (none_pends failed begun whole)) so

-- the calls are such calls without what is begun too
pub way_so : (p : PuzzleProgram) (said : List Said) (begun : Option Call) → IsUnderWay p said begun → IsSoFar p said
way_so p said None way = way
way_so p said (Some call) way = so_front p said (said_of call way.0 ∷ []) way.1

-- a call can be begun if with some answer it is the next
can_pend : (p : PuzzleProgram) (said : List Said) (begun : Option Call) (call : Call) (answer : Answer) → IsSoFar p said →
    IsSoFar p (said ++ said_of call answer ∷ []) → Pends begun call → IsUnderWay p said begun
can_pend p said begun call answer so more (inl none) = subst (λ x. IsUnderWay p said x) (sym none) so
can_pend p said begun call answer so more (inr some) = subst (λ x. IsUnderWay p said x) (sym some) (answer, more)

plus_same : (said new : List Said) (s : Said) → new ≡ said → new ++ s ∷ [] ≡ said ++ s ∷ []
plus_same said new s same = ap (λ t. t ++ s ∷ []) same

-- a put failed; what it began is the put of a unit that can be put
pub put_way : (p : PuzzleProgram) (said new : List Said) (d e : Desk) (x : Made) (rest : List Task) (on : Option (List ℕ))
    (begun : Option Call) →
    IsGoing p said d rest on → Popped x d e → new ≡ said → Pends begun (put_of x) → IfSome begun (λ call. IsUnit x) →
    IsUnderWay p new begun
put_way p said new d e x rest on begun is popped same (inl none) form =
    subst (λ o. IsUnderWay p new o) (sym none) (going_so p said new d rest on is same)
put_way p said new d e x rest on begun is popped same (inr some) form =
    let s : Said = said_of (put_of x) (Ended Exhausted) in
    let fits : IsUnit x = subst (λ o. IfSome o (λ call. IsUnit x)) some form in
    can_pend p new begun (put_of x) (Ended Exhausted) (going_so p said new d rest on is same)
    (stopped_so p (new ++ s ∷ []) e on (stopped_is p said (new ++ s ∷ []) d e x Exhausted rest on is popped fits
    (plus_same said new s same))) (inr some)

-- the beginning of a batch failed
pub begin_way : (p : PuzzleProgram) (said new : List Said) (d : Desk) (common : List ℕ) (jobs : List units.Job) (rest : List Task)
    (begun : Option Call) →
    IsGoing p said d (Begin common jobs ∷ rest) None → d.waiting.items ≡ [] → new ≡ said → Pends begun (BeginBatch common) →
    IsUnderWay p new begun
begin_way p said new d common jobs rest begun is none same pends =
    let s : Said = said_of (BeginBatch common) (Ended Exhausted) in
    can_pend p new begun (BeginBatch common) (Ended Exhausted) (going_so p said new d (Begin common jobs ∷ rest) None is same)
    (stopped_so p (new ++ s ∷ []) d None (unbegun_is p said (new ++ s ∷ []) d common jobs rest Exhausted is none
    (plus_same said new s same))) pends

-- the end of a batch failed
pub end_way : (p : PuzzleProgram) (said new : List Said) (d : Desk) (common : List ℕ) (rest : List Task) (all : Bool)
    (begun : Option Call) →
    Passes p said d (End ∷ rest) (Some common) all → new ≡ said → Pends begun EndBatch → IsUnderWay p new begun
end_way p said new d common rest all begun is same pends =
    let s : Said = said_of EndBatch Fine in
    can_pend p new begun EndBatch Fine (subst (λ t. IsSoFar p t) (sym same) (passes_so p said d (End ∷ rest) (Some common) all is))
    (passes_so p (new ++ s ∷ []) d rest None all
    (passes_closed p said (new ++ s ∷ []) d common rest all is (plus_same said new s same))) pends

-- a reservation failed, or the fetch after it
pub take_way : (p : PuzzleProgram) (said new : List Said) (d : Desk) (begun : Option Call) → HasPut p said d [] None →
    Fails said new begun → IsUnderWay p new begun
take_way p said new d begun put (inl fails) =
    let s : Said = said_of (Reserve None) (Ended Exhausted) in
    can_pend p new begun (Reserve None) (Ended Exhausted) (going_so p said new d [] None put.going fails.0)
    (stopped_so p (new ++ s ∷ []) d None (told_is p said (new ++ s ∷ []) d Exhausted put (plus_same said new s fails.0))) fails.1
take_way p said new d begun put (inr fails) =
    let s : Said = said_of (Fetch fails.0.id) (Body []) in
    can_pend p new begun (Fetch fails.0.id) (Body []) (granted_so p said new d fails.0 put fails.1)
    (brought_so p said (new ++ s ∷ []) d fails.0 [] put (plus_same (said ++ _ ∷ []) new s fails.1)) fails.2
