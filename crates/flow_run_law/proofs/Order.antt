-- A rank that runs a flow and then finishes is orderly.
use Rattle.std.proofs.Common.{◌≡◌, ℕ, Bool, true, false, List, [], ◌∷◌, ◌++◌, Option, Some, None, refl, sym, ap, ◌∙◌, subst, inl, inr}
use Rattle.std.proofs.lemmas.Bool.{cases_Bool}
use Rattle.adlb_unit.specs.declared.notes.UnitNote.{UnitNote}
use Rattle.bag_ledger.specs.declared.entries.Answer.{Answer}
use Rattle.bag_ledger.specs.declared.entries.Answer.TheVariants as answers
use Rattle.bag_ledger.specs.declared.entries.Said.{Said}
use Rattle.balance_law.specs.Orderly.{IsNext, IsOrderly, finish, last_calls}
use Rattle.balance_law.specs.Orderly.{Goes as GoesOn}
use Rattle.balance_law.specs.Parcels.{batch_after, granted_note}
use Rattle.flow_law.specs.declared.Definition.{Definition}
use Rattle.work_law.specs.Work.{IsWork, fetched_unit, put_of}
use Rattle.flow_run_law.specs.Units.{Answer as Told, FlowUnit, Forms, Rule, flows, untargeted, AimsAt}
use Rattle.flow_run_law.specs.Desk.{Desk, Goes, Moves, again_refused, again_stopped, again_taken, answer_refused, answer_stopped}
use Rattle.flow_run_law.specs.Desk.{answer_taken, brought, fetched, granted, refused, rule_refused, rule_stopped, rule_taken, told, unit_of}

-- the answer ends the work
abbrev pub is_end : Answer → Bool
is_end (answers.Ended end) = true
is_end _ = false

on_behind : (answer : Answer) (batch : Option (List ℕ)) (said : List Said) (on : Type 0) → is_end answer ≡ false → on →
    GoesOn answer batch said on
on_behind (answers.Ended end) batch said on not_end x = absurd (cc)
on_behind _ batch said on not_end x = x

end_behind : (answer : Answer) (batch : Option (List ℕ)) (said : List Said) (on : Type 0) → is_end answer ≡ true →
    said ≡ last_calls batch → GoesOn answer batch said on
end_behind (answers.Ended end) batch said on is_end is = is
end_behind _ batch said on is_end is = absurd (cc)

module _ (F : Forms) (is : IsWork (flows (untargeted F))) (flow : Option (List Definition)) where
  -- one call in order: it may come next, and it leaves the state of batches, grants and ends
  pub record IsOrdered (ranks : ℕ) (d : Desk) (s : Said) (next : Desk) : Type 0 where
    pub comes : IsNext ranks d.held None s.call
    pub held : next.held ≡ granted_note s.answer
    pub no_batch : batch_after None s.call s.answer ≡ None
    pub ends : next.ended ≡ is_end s.answer
    pub live : d.ended ≡ false

  refused_stays : (x : ℕ × ℕ) (d : Desk) (o : Option (List Definition)) →
      ((refused o x d).held ≡ d.held) × ((refused o x d).ended ≡ d.ended)
  refused_stays x d (Some g) = (refl, refl)
  refused_stays x d None = (refl, refl)

  brought_stays : (o : Option (List Definition)) (u : Option FlowUnit) (d : Desk) →
      ((brought o u d).held ≡ d.held) × ((brought o u d).ended ≡ d.ended)
  brought_stays o None d = (refl, refl)
  brought_stays o (Some (Rule i op a b)) d = (refl, refl)
  brought_stays (Some g) (Some (Told i v)) d = (refl, refl)
  brought_stays None (Some (Told i v)) d = (refl, refl)

  -- a put, where nothing is held
  put_next : (ranks : ℕ) (u : FlowUnit) (held : Option UnitNote) → AimsAt F ranks → held ≡ None
      → IsNext ranks held None (put_of (flows F) u)
  put_next ranks u held aims none =
      let free : IsNext ranks None None (put_of (flows F) u) = aims u in
      subst (λ h. IsNext ranks h None (put_of (flows F) u)) (sym none) free

  -- each move of a desk is a call in order
  pub ordered : (ranks : ℕ) (d : Desk) (s : Said) (next : Desk) → AimsAt F ranks → Moves F flow d s next → IsOrdered ranks d s next
  ordered ranks d s next aims (rule_taken g i op a b e free ready new fits said left) = rw (said, left) (record {
    comes = put_next ranks (Rule i op a b) d.held aims free.none_held;
    held = free.none_held;
    no_batch = refl;
    ends = free.live;
    live = free.live;
  })
  ordered ranks d s next aims (rule_refused g i op a b e free ready new fits said left) = rw (said, left) (record {
    comes = put_next ranks (Rule i op a b) d.held aims free.none_held;
    held = free.none_held;
    no_batch = refl;
    ends = free.live;
    live = free.live;
  })
  ordered ranks d s next aims (rule_stopped g i op a b end e free ready new fits said left) = rw (said, left) (record {
    comes = put_next ranks (Rule i op a b) d.held aims free.none_held;
    held = free.none_held;
    no_batch = refl;
    ends = refl;
    live = free.live;
  })
  ordered ranks d s next aims (answer_taken x rest owes none live fits said left) = rw (said, left) (record {
    comes = put_next ranks (unit_of x) d.held aims none;
    held = none;
    no_batch = refl;
    ends = live;
    live = live;
  })
  ordered ranks d s next aims (answer_refused x rest owes none live fits said left) =
      let r = refused_stays x (record d { owed = rest }) flow in
      rw (said, left) (record {
        comes = put_next ranks (unit_of x) d.held aims none;
        held = r.0 ∙ none;
        no_batch = refl;
        ends = r.1 ∙ live;
        live = live;
      })
  ordered ranks d s next aims (answer_stopped x rest end owes none live fits said left) = rw (said, left) (record {
    comes = put_next ranks (unit_of x) d.held aims none;
    held = none;
    no_batch = refl;
    ends = refl;
    live = live;
  })
  ordered ranks d s next aims (again_taken x rest e free keeps once fits said left) = rw (said, left) (record {
    comes = put_next ranks (unit_of x) d.held aims free.none_held;
    held = free.none_held;
    no_batch = refl;
    ends = free.live;
    live = free.live;
  })
  ordered ranks d s next aims (again_refused x rest e free keeps once fits said left) = rw (said, left) (record {
    comes = put_next ranks (unit_of x) d.held aims free.none_held;
    held = free.none_held;
    no_batch = refl;
    ends = free.live;
    live = free.live;
  })
  ordered ranks d s next aims (again_stopped x rest end e free keeps once fits said left) = rw (said, left) (record {
    comes = put_next ranks (unit_of x) d.held aims free.none_held;
    held = free.none_held;
    no_batch = refl;
    ends = refl;
    live = free.live;
  })
  ordered ranks d s next aims (granted note free may said left) = rw (said, left) (record {
    comes = rw free.none_held refl;
    held = refl;
    no_batch = refl;
    ends = free.live;
    live = free.live;
  })
  ordered ranks d s next aims (told end free may said left) = rw (said, left) (record {
    comes = rw free.none_held refl;
    held = free.none_held;
    no_batch = refl;
    ends = refl;
    live = free.live;
  })
  ordered ranks d s next aims (fetched note bytes holds none live said left) =
      let r = brought_stays flow (fetched_unit (flows F) note bytes) (record d { held = None }) in
      rw (said, left) (record {
        comes = rw holds refl;
        held = r.0;
        no_batch = refl;
        ends = r.1 ∙ live;
        live = live;
      })

  goes_orderly : (ranks : ℕ) (d : Desk) (said : List Said) (last : Desk) → AimsAt F ranks → d.ended ≡ false → last.ended ≡ true →
      Goes F flow d said last → IsOrderly ranks d.held None (said ++ finish ∷ [])
  unfolding IsOrderly
  goes_orderly ranks d [] last aims live over same =
      absurd (let e : true ≡ false = sym over ∙ ap (λ (x : Desk). x.ended) (sym same) ∙ live in cc)
  goes_orderly ranks d (s ∷ said) last aims live over goes =
      let here : IsOrdered ranks d s goes.0 = ordered ranks d s goes.0 aims goes.1 in
      let rest : List Said = said ++ finish ∷ [] in
      let on : Type 0 = IsOrderly ranks (granted_note s.answer) (batch_after None s.call s.answer) rest in (
        here.comes,
        elim (cases_Bool (is_end s.answer)) as (λ _. GoesOn s.answer None rest on) [
          | inl at_end ↦ end_behind s.answer None rest on at_end (none_more goes.0 said last (here.ends ∙ at_end) goes.2)
          | inr goes_on ↦
              let later : IsOrderly ranks goes.0.held None rest = goes_orderly ranks goes.0 said last aims (here.ends ∙ goes_on) over
              goes.2 in
              on_behind s.answer None rest on goes_on
              (subst (λ batch. IsOrderly ranks (granted_note s.answer) batch rest) (sym here.no_batch)
              (subst (λ h. IsOrderly ranks h None rest) here.held later))
        ],
      )
    where
      none_more : (d : Desk) (said : List Said) (last : Desk) → d.ended ≡ true → Goes F flow d said last →
          said ++ finish ∷ [] ≡ last_calls None
      none_more d [] last over goes = refl
      none_more d (s ∷ said) last over goes =
          let o = ordered ranks d s goes.0 aims goes.1 in
          absurd (let e : true ≡ false = sym over ∙ o.live in cc)

  -- a rank that runs a flow to its end and then finishes is orderly
  pub flow_orderly : (ranks : ℕ) (d : Desk) (said : List Said) (last : Desk) → AimsAt F ranks → d.ended ≡ false → d.held ≡ None →
      last.ended ≡ true →
      Goes F flow d said last → IsOrderly ranks None None (said ++ finish ∷ [])
  flow_orderly ranks d said last aims live none over goes =
      subst (λ h. IsOrderly ranks h None (said ++ finish ∷ [])) none (goes_orderly ranks d said last aims live over goes)
