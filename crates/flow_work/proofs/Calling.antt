-- What the relation of the calls says of a transcript.
use Rattle.std.proofs.Common.{◌≡◌, ◌||◌, Bool, true, false, List, [], ◌∷◌, ◌++◌, Option, refl, sym, ap, ◌∙◌, subst}
use Rattle.bag_ledger.specs.declared.entries.Said.{Said}
use Rattle.rank_client.specs.Calls.{has_finished, is_finish}
use Rattle.flow_law.specs.declared.Definition.{Definition}
use Rattle.flow_run_law.specs.Desk.{Desk, Goes, Moves, again_refused, again_stopped, again_taken, answer_refused, answer_stopped}
use Rattle.flow_run_law.specs.Desk.{answer_taken, at_start, fetched, granted, rule_refused, rule_stopped, rule_taken, told}
use Rattle.flow_run_law.specs.Units.{Forms}
use Rattle.flow_work.specs.Follows.{IsSoFar}

module _ (F : Forms) (flow : Option (List Definition)) where
  -- a call after others
  goes_snoc : (d : Desk) (said : List Said) (mid next : Desk) (s : Said) → Goes F flow d said mid → Moves F flow mid s next →
      Goes F flow d (said ++ s ∷ []) next
  goes_snoc d [] mid next s same move = (next, subst (λ x. Moves F flow x s next) (sym same) move, refl)
  goes_snoc d (t ∷ said) mid next s goes move = (goes.0, goes.1, goes_snoc goes.0 said mid next s goes.2 move)

  -- the calls lead to this desk, and one more to that
  pub one_more : (said new : List Said) (mid next : Desk) (s : Said) → Goes F flow at_start said mid → new ≡ said ++ s ∷ [] →
      Moves F flow mid s next → Goes F flow at_start new next
  one_more said new mid next s goes e move =
      subst (λ t. Goes F flow at_start t next) (sym e) (goes_snoc at_start said mid next s goes move)

  -- no call is Finish
  no_finish : (d : Desk) (s : Said) (next : Desk) → Moves F flow d s next → is_finish s.call ≡ false
  no_finish d s next (rule_taken f i op a b e free ready new fits said left) = ap (λ (t : Said). is_finish t.call) said
  no_finish d s next (rule_refused f i op a b e free ready new fits said left) = ap (λ (t : Said). is_finish t.call) said
  no_finish d s next (rule_stopped f i op a b end e free ready new fits said left) = ap (λ (t : Said). is_finish t.call) said
  no_finish d s next (answer_taken x rest owes none live fits said left) = ap (λ (t : Said). is_finish t.call) said
  no_finish d s next (answer_refused x rest owes none live fits said left) = ap (λ (t : Said). is_finish t.call) said
  no_finish d s next (answer_stopped x rest end owes none live fits said left) = ap (λ (t : Said). is_finish t.call) said
  no_finish d s next (again_taken x rest e free keeps fresh fits said left) = ap (λ (t : Said). is_finish t.call) said
  no_finish d s next (again_refused x rest e free keeps fresh fits said left) = ap (λ (t : Said). is_finish t.call) said
  no_finish d s next (again_stopped x rest end e free keeps fresh fits said left) = ap (λ (t : Said). is_finish t.call) said
  no_finish d s next (granted note free may said left) = ap (λ (t : Said). is_finish t.call) said
  no_finish d s next (told end free may said left) = ap (λ (t : Said). is_finish t.call) said
  no_finish d s next (fetched note bytes held none live said left) = ap (λ (t : Said). is_finish t.call) said

  goes_open : (d : Desk) (said : List Said) (last : Desk) → Goes F flow d said last → has_finished said ≡ false
  unfolding has_finished
  goes_open d [] last goes = refl
  goes_open d (s ∷ said) last goes =
      ap (λ t. t || has_finished said) (no_finish d s goes.0 goes.1) ∙ goes_open goes.0 said last goes.2

  -- no rank finishes while its program runs
  pub so_open : (said : List Said) → IsSoFar F flow said → has_finished said ≡ false
  so_open said is = goes_open at_start said is.last is.goes

  -- the calls before a call
  goes_front : (d : Desk) (said more : List Said) (last : Desk) → Goes F flow d (said ++ more) last → (mid : Desk) × Goes F flow d said mid
  goes_front d [] more last goes = (d, refl)
  goes_front d (s ∷ said) more last goes =
      let later = goes_front goes.0 said more last goes.2 in (later.0, (goes.0, goes.1, later.1))

  -- the front of a transcript is a transcript so far
  pub so_front : (said more : List Said) → IsSoFar F flow (said ++ more) → IsSoFar F flow said
  so_front said more is =
      let front = goes_front at_start said more is.last is.goes in record { last = front.0; goes = front.1 }
