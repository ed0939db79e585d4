-- What one more call makes of a transcript.
use Rattle.std.proofs.Common.{◌≡◌, List, [], ◌∷◌, ◌++◌, Option, Some, None, Bool, true, false, ◌||◌, refl, ap, ◌∙◌}
use Rattle.std.specs.List.{list_any}
use Rattle.std.proofs.lemmas.List.Elements.{Contains-append_left, Contains-push}
use Rattle.std.proofs.lemmas.List.Folds.{list_any-append}
use Rattle.adlb_unit.specs.declared.names.UnitId.{UnitId}
use Rattle.adlb_unit.specs.declared.notes.End.{End}
use Rattle.adlb_unit.specs.declared.notes.UnitNote.{UnitNote}
use Rattle.bag_ledger.specs.declared.entries.Answer.{Answer}
use Rattle.bag_ledger.specs.declared.entries.Answer.TheVariants as answers
use Rattle.bag_ledger.specs.declared.entries.Call.{Call}
use Rattle.bag_ledger.specs.declared.entries.Said.{Said}
use Rattle.rank_client.specs.Calls.{end_of, end_told, fetches, granted, grants, has_finished, is_fetched, is_finish, is_granted}

or_false : (t : Bool) → (t || false) ≡ t
or_false true = refl
or_false false = refl

any_more : {X : Type 0} (p : X → Bool) (xs : List X) (x : X) → list_any p (xs ++ x ∷ []) ≡ (list_any p xs || p x)
any_more p xs x = list_any-append p xs (x ∷ []) ∙ ap (λ t. list_any p xs || t) (or_false (p x))

-- a transcript with one more call is finished if it was, or if that call finishes it
pub finished_more : (said : List Said) (s : Said) → has_finished (said ++ s ∷ []) ≡ (has_finished said || is_finish s.call)
unfolding has_finished
finished_more said s = any_more (λ (s : Said). is_finish s.call) said s

-- one call more grants a unit if its answer does
pub granted_more : (id : UnitId) (said : List Said) (s : Said) → is_granted id (said ++ s ∷ []) ≡ (is_granted id said || grants id s.answer)
unfolding is_granted
granted_more id said s = any_more (λ (s : Said). grants id s.answer) said s

-- one call more fetches a unit if it is that fetch
pub fetched_more : (id : UnitId) (said : List Said) (s : Said) → is_fetched id (said ++ s ∷ []) ≡ (is_fetched id said || fetches id s.call)
unfolding is_fetched
fetched_more id said s = any_more (λ (s : Said). fetches id s.call) said s

-- the first of two ends
abbrev pub first_end : Option End → Option End → Option End
first_end (Some end) later = Some end
first_end None later = later

end_first : (a : Answer) (later last : Option End) → end_of a (first_end later last) ≡ first_end (end_of a later) last
end_first answers.Fine later last = refl
end_first answers.Rejected later last = refl
end_first (answers.Ended end) later last = refl
end_first (answers.Granted note) later last = refl
end_first answers.NoCurrent later last = refl
end_first (answers.Body body) later last = refl
end_first (answers.Info info) later last = refl

-- one call more tells an end if its answer does and none was told before
pub told_more : (said : List Said) (s : Said) → end_told (said ++ s ∷ []) ≡ first_end (end_told said) (end_of s.answer None)
unfolding end_told
told_more [] s = refl
told_more (t ∷ said) s = ap (λ later. end_of t.answer later) (told_more said s) ∙ end_first t.answer (end_told said) (end_of s.answer None)

-- an empty transcript tells no end
pub none_told : end_told [] ≡ None
unfolding end_told
none_told = refl

-- an empty transcript is not finished
pub none_finished : has_finished [] ≡ false
unfolding has_finished
none_finished = refl

-- the last answer grants this unit
pub granted_last : (said : List Said) (call : Call) (note : UnitNote)
    → granted note (said ++ record { call = call; answer = answers.Granted note } ∷ [])
unfolding granted
granted_last said call note = (call, Contains-push said (record { call = call; answer = answers.Granted note }))

-- a unit that was granted is granted after one call more
pub granted_before : (said : List Said) (s : Said) (note : UnitNote) → granted note said → granted note (said ++ s ∷ [])
unfolding granted
granted_before said s note g = (g.0, Contains-append_left said (s ∷ []) (record { call = g.0; answer = answers.Granted note }) g.1)
