-- What the fake link is asked, and what it answers.
use Rattle.std.proofs.Common.{◌≡◌, ◌==◌, ◌&&◌, ◌∙◌, ℕ, Bool, true, false, not, List, Option, Some, None, Result, Ok, Err, IfOk, IfErr, OnOk}
use Rattle.std.proofs.Common.{OnErr, [], ◌∷◌, ◌++◌, get_or, ap, refl, sym, subst, inl, inr}
use Rattle.std.specs.List.{list_any}
use Rattle.std.proofs.lemmas.Bool.{cases_eq, eq-eqb, ne_eqb}
use Rattle.std.proofs.lemmas.List.Folds.{list_any_at}
use Rattle.adlb_unit.specs.Ids.{same_unit}
use Rattle.adlb_unit.specs.Totals.{total_of}
use Rattle.adlb_unit.specs.declared.names.UnitId.{UnitId}
use Rattle.adlb_unit.specs.declared.wanted.Types.{Types}
use Rattle.adlb_unit.specs.declared.notes.UnitNote.{UnitNote}
use Rattle.bag_ledger.specs.declared.entries.Answer.{Answer}
use Rattle.bag_ledger.specs.declared.entries.Answer.TheVariants as answers
use Rattle.rank_client.specs.Answers.{IsAnswer, IsAnswerTo, answers_reserve}
use Rattle.rank_client.specs.Calls.{TellsAgain, end_told, goes_on, granted, has_finished}
use Rattle.rank_client.specs.Link.{Can, Made}
use Rattle.rank_client.proofs.LinkLaws.{made_answered, made_failed}
use Rattle.adlb_unit.specs.declared.notes.Trouble.{Trouble}
use Rattle.bag_ledger.specs.declared.entries.Call.{Call}
use Rattle.bag_ledger.specs.declared.entries.Call.TheVariants as calls_to
use Rattle.bag_ledger.specs.declared.entries.Said.{Said}
use Rattle.unit_tests.specs.Fake.{IsShort, fake_link, misfits}

-- a body that can be put is short
pub short_of : (said : List Said) (going : Bool) (failed : Option Trouble) (call : Call) → Can (fake_link said going failed) call
    → IsShort call
short_of said going failed (calls_to.Put kind prio target answer body) can = can.suits.0
short_of said going failed _ can = tt

-- a reserve has such an answer
pub reserve_fits : {E : Type 0} (said : List Said) (types : Types) (r : Result Answer E) →
    IfOk r (λ a. answers_reserve a ≡ true) → IfOk r (λ a. IsAnswer said (calls_to.Reserve types) a) →
    IfOk r (λ a. TellsAgain (end_told said) (Some a)) → IfOk r (λ a. IsAnswerTo said (calls_to.Reserve types) a)
reserve_fits said types (Ok a) kind known again = record { kind = kind; known = known; again = λ heeds. again }
reserve_fits said types (Err e) kind known again = tt

-- an id is the same as itself
alike : (id : UnitId) → same_unit id id ≡ true
alike id = ap (λ b. b && (id.number == id.number)) (eq-eqb id.rank.0 id.rank.0 refl) ∙ eq-eqb id.number id.number refl

-- where no note of the unit says another number of bytes, each says this one
pub no_misfit : (id : UnitId) (total : ℕ) (said : List Said) → list_any (λ s. misfits id total s.answer) said ≡ false →
    (note : UnitNote) → granted note said → note.id ≡ id → total ≡ total_of note
unfolding granted
no_misfit id total said none note was same = elim (cases_eq (total_of note) total) [
  | inl e ↦ sym e
  | inr ne ↦
      let x : Said = record { call = was.0; answer = answers.Granted note } in
      let one : same_unit note.id id ≡ true = ap (λ i. same_unit i id) same ∙ alike id in
      let other : not (total_of note == total) ≡ true = ap not (ne_eqb (total_of note) total ne) in
      let fails : misfits id total (answers.Granted note) ≡ true = ap (λ b. b && not (total_of note == total)) one ∙ other in
      let there : misfits id total (get_or said was.1.0 x).answer ≡ true = ap (λ (s : Said). misfits id total s.answer) was.1.2 ∙ fails in
      let any : list_any (λ (s : Said). misfits id total s.answer) said ≡ true =
      list_any_at (λ (s : Said). misfits id total s.answer) said was.1.0 x was.1.1 there in
      absurd (cc)
]

-- what a call with this answer makes of the link, if it can be kept
pub made_said : (said now : List Said) (going goes : Bool) (failed fails : Option Trouble) (call : Call) (answer : Answer)
    (r : Result Answer Trouble) → has_finished said ≡ false → failed ≡ None → IsAnswerTo said call answer →
    IfOk r (λ a. now ≡ said ++ record { call = call; answer = a } ∷ []) → IfOk r (λ a. a ≡ answer) → OnErr r (now ≡ said) →
    OnOk r (fails ≡ failed) → IfErr r (λ t. fails ≡ Some t) → IfOk r (λ a. goes ≡ goes_on call a going) → OnErr r (goes ≡ false) →
    Made (fake_link said going failed) (fake_link now goes fails) call r
made_said said now going goes failed fails call answer (Ok a) running whole fits says same kept fine told on shut =
    made_answered (fake_link said going failed) (fake_link now goes fails) call running whole refl a
    (subst (λ (x : Answer). IsAnswerTo said call x) (sym same) fits) says on (fine ∙ whole) refl
made_said said now going goes failed fails call answer (Err t) running whole fits says same kept fine told on shut =
    made_failed (fake_link said going failed) (fake_link now goes fails) call running whole refl t kept shut told (inl refl)
