-- A rank that works and then finishes is orderly.
use Rattle.std.proofs.Common.{◌≡◌, ◌<◌, ℕ, Bool, true, false, List, [], ◌∷◌, ◌++◌, Option, Some, None, refl, sym, ap, ◌∙◌, subst, inl, inr}
use Rattle.std.proofs.lemmas.Bool.{cases_Bool}
use Rattle.bag_ledger.specs.declared.entries.Answer.{Answer}
use Rattle.bag_ledger.specs.declared.entries.Answer.TheVariants as answers
use Rattle.bag_ledger.specs.declared.entries.Said.{Said}
use Rattle.balance_law.specs.Orderly.{IsNext, IsOrderly, end_batch, finish, last_calls}
use Rattle.balance_law.specs.Orderly.{Goes as GoesOn}
use Rattle.balance_law.specs.Parcels.{batch_after, granted_note}
use Rattle.work_law.specs.Work.{Arrival, IsWork, Work, common_bytes, fetched_unit}
use Rattle.work_law.specs.Books.{Books, Goes, Task, going, shut}
use Rattle.work_law.proofs.Calls.{OfEach, brought_on, by_kind}

abbrev is_end : Answer → Bool
is_end (answers.Ended end) = true
is_end _ = false

-- After an end.

on_behind : (answer : Answer) (batch : Option (List ℕ)) (said : List Said) (on : Type 0) → is_end answer ≡ false → on →
    GoesOn answer batch said on
on_behind (answers.Ended end) batch said on not_end x = absurd (cc)
on_behind _ batch said on not_end x = x

end_behind : (answer : Answer) (batch : Option (List ℕ)) (said : List Said) (on : Type 0) → is_end answer ≡ true →
    said ≡ last_calls batch → GoesOn answer batch said on
end_behind (answers.Ended end) batch said on is_end is = is
end_behind _ batch said on is_end is = absurd (cc)

module _ {Made : Type 0} (W : Work Made) (is : IsWork W) where
  -- a call of the program is the next one of an orderly rank; after an end the batch that was going on goes on
  record IsOrdered (ranks : ℕ) (b : Books Made) (s : Said) (next : Books Made) : Type 0 where
    comes : IsNext ranks b.held b.on s.call
    stays : batch_after b.on s.call s.answer ≡ next.on
    holds : next.held ≡ granted_note s.answer
    ends : b.ended ≡ false → next.ended ≡ is_end s.answer
    keeps : is_end s.answer ≡ true → next.on ≡ b.on

  each_ordered : (ranks : ℕ) → 0 < ranks → OfEach W (IsOrdered ranks)
  each_ordered ranks some = record {
    at_accepted = λ unit rest on came fits. record {
      comes = is.aimed ranks unit some;
      stays = refl;
      holds = refl;
      ends = λ live. refl;
      keeps = λ e. refl;
    };
    at_rejected = λ unit rest on came. record {
      comes = is.aimed ranks unit some;
      stays = refl;
      holds = refl;
      ends = λ live. refl;
      keeps = λ e. refl;
    };
    at_stopped = λ unit rest on came end. record {
      comes = is.aimed ranks unit some;
      stays = refl;
      holds = refl;
      ends = λ live. refl;
      keeps = λ e. refl;
    };
    at_begun = λ common units rest came. record { comes = refl; stays = refl; holds = refl; ends = λ live. refl; keeps = λ e. absurd (cc) };
    at_refused = λ common units rest came. record { comes = refl; stays = refl; holds = refl; ends = λ live. refl; keeps = λ e. refl };
    at_stopped_before = λ common units rest came end. record {
      comes = refl;
      stays = refl;
      holds = refl;
      ends = λ live. refl;
      keeps = λ e. refl;
    };
    at_closed = λ common rest came. record {
      comes = (common, refl);
      stays = refl;
      holds = refl;
      ends = λ live. refl;
      keeps = λ e. absurd (cc);
    };
    at_closed_behind = λ common rest came. record {
      comes = (common, refl);
      stays = refl;
      holds = refl;
      ends = λ live. absurd (cc);
      keeps = λ e. absurd (cc);
    };
    at_granted = λ came note. record { comes = refl; stays = refl; holds = refl; ends = λ live. refl; keeps = λ e. refl };
    at_told = λ came end. record { comes = refl; stays = refl; holds = refl; ends = λ live. refl; keeps = λ e. refl };
    at_fetched = λ came note bytes.
        let on = brought_on W (common_bytes note.length bytes) (fetched_unit W note bytes) came in
        record { comes = refl; stays = sym on.stays; holds = on.holds; ends = λ live. on.lives; keeps = λ e. on.stays };
  }

  -- after an end a rank ends its batch and makes no other call
  abbrev IsLast : Books Made → Said → Books Made → Type 0
  IsLast b s next =
      b.ended ≡ true → (common : List ℕ) × (b.on ≡ Some common) × (s ≡ end_batch) × (next.on ≡ None) × (next.ended ≡ true)

  each_last : OfEach W IsLast
  each_last = record {
    at_accepted = λ unit rest on came fits e. absurd (cc);
    at_rejected = λ unit rest on came e. absurd (cc);
    at_stopped = λ unit rest on came end e. absurd (cc);
    at_begun = λ common units rest came e. absurd (cc);
    at_refused = λ common units rest came e. absurd (cc);
    at_stopped_before = λ common units rest came end e. absurd (cc);
    at_closed = λ common rest came e. absurd (cc);
    at_closed_behind = λ common rest came e. (common, refl, refl, refl, refl);
    at_granted = λ came note e. absurd (cc);
    at_told = λ came end e. absurd (cc);
    at_fetched = λ came note bytes e. absurd (cc);
  }

  -- the calls after an end, and then Finish
  behind_end : (b : Books Made) (said : List Said) (last : Books Made) → b.ended ≡ true → last.on ≡ None → Goes W b said last →
      said ++ finish ∷ [] ≡ last_calls b.on
  behind_end b [] last over none same =
      let on : b.on ≡ None = ap (λ (x : Books Made). x.on) same ∙ none in ap last_calls (sym on)
  behind_end b (s ∷ said) last over none goes =
      let here = by_kind W IsLast each_last b s goes.0 goes.1 over in
      let later : said ++ finish ∷ [] ≡ last_calls None = behind_end goes.0 said last here.4 none goes.2 ∙ ap last_calls here.3 in
      ap (λ x. x ∷ (said ++ finish ∷ [])) here.2 ∙ ap (λ l. end_batch ∷ l) later ∙ ap last_calls (sym here.1)

  -- the calls to the end, and then Finish
  goes_orderly : (ranks : ℕ) (b : Books Made) (said : List Said) (last : Books Made) → 0 < ranks → b.ended ≡ false → last.ended ≡ true →
      last.on ≡ None → Goes W b said last → IsOrderly ranks b.held b.on (said ++ finish ∷ [])
  unfolding IsOrderly
  goes_orderly ranks b [] last some live over none same =
      absurd (let e : true ≡ false = sym over ∙ ap (λ (x : Books Made). x.ended) (sym same) ∙ live in cc)
  goes_orderly ranks b (s ∷ said) last some live over none goes =
      let here : IsOrdered ranks b s goes.0 = by_kind W (IsOrdered ranks) (each_ordered ranks some) b s goes.0 goes.1 in
      let rest : List Said = said ++ finish ∷ [] in
      let on : Type 0 = IsOrderly ranks (granted_note s.answer) (batch_after b.on s.call s.answer) rest in (
        here.comes,
        elim (cases_Bool (is_end s.answer)) as (λ _. GoesOn s.answer b.on rest on) [
          | inl at_end ↦
              let behind : rest ≡ last_calls goes.0.on = behind_end goes.0 said last (here.ends live ∙ at_end) none goes.2 in
              end_behind s.answer b.on rest on at_end (behind ∙ ap last_calls (here.keeps at_end))
          | inr goes_on ↦
              let later : IsOrderly ranks goes.0.held goes.0.on rest =
              goes_orderly ranks goes.0 said last some (here.ends live ∙ goes_on) over none goes.2 in
              on_behind s.answer b.on rest on goes_on
              (subst (λ batch. IsOrderly ranks (granted_note s.answer) batch rest) (sym here.stays)
              (subst (λ h. IsOrderly ranks h goes.0.on rest) here.holds later))
        ],
      )

  -- a rank that works to its end and then finishes is orderly
  pub worker_orderly : (ranks : ℕ) (first left : List (Task Made)) (said : List Said) (came : List (Arrival Made)) → 0 < ranks →
      Goes W (going first None []) said (shut left None came) → IsOrderly ranks None None (said ++ finish ∷ [])
  worker_orderly ranks first left said came some goes =
      goes_orderly ranks (going first None []) said (shut left None came) some refl refl refl goes
