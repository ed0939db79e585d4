-- What the relation of the calls says of a transcript.
use Rattle.std.proofs.Common.{◌≡◌, ◌||◌, Bool, true, false, List, [], ◌∷◌, ◌++◌, Option, Some, None, refl, sym, ap, ◌∙◌, subst}
use Rattle.bag_ledger.specs.declared.entries.Said.{Said}
use Rattle.rank_client.specs.Calls.{has_finished, is_finish}
use Rattle.work_law.specs.Books.{Books, Goes, Moves}
use Rattle.work_law.proofs.Calls.{OfEach, by_kind}
use Rattle.tour_app.specs.Follows.{IsSoFar, begins}
use Rattle.tour_app.specs.Works.{tours}
use Rattle.tour_app.specs.declared.program.TourProgram.{TourProgram}
use Rattle.tour_app.specs.declared.units.TourUnit.{TourUnit}

-- a call after others
pub goes_snoc : (b : Books TourUnit) (said : List Said) (mid next : Books TourUnit) (s : Said) → Goes tours b said mid
    → Moves tours mid s next →
    Goes tours b (said ++ s ∷ []) next
goes_snoc b [] mid next s same move = (next, subst (λ x. Moves tours x s next) (sym same) move, refl)
goes_snoc b (t ∷ said) mid next s goes move = (goes.0, goes.1, goes_snoc goes.0 said mid next s goes.2 move)

-- the calls lead to these books, and one more to those
pub one_more : (p : TourProgram) (said new : List Said) (mid next : Books TourUnit) (s : Said) → Goes tours (begins p) said mid →
    new ≡ said ++ s ∷ [] → Moves tours mid s next → Goes tours (begins p) new next
one_more p said new mid next s goes e move =
    subst (λ t. Goes tours (begins p) t next) (sym e) (goes_snoc (begins p) said mid next s goes move)

-- no call is Finish
never_finish : OfEach tours (λ b s next. is_finish s.call ≡ false)
never_finish = record {
  at_accepted = λ unit rest on came fits. refl;
  at_rejected = λ unit rest on came. refl;
  at_stopped = λ unit rest on came end. refl;
  at_begun = λ common units rest came. refl;
  at_refused = λ common units rest came. refl;
  at_stopped_before = λ common units rest came end. refl;
  at_closed = λ common rest came. refl;
  at_closed_behind = λ common rest came. refl;
  at_granted = λ came note. refl;
  at_told = λ came end. refl;
  at_fetched = λ came note bytes. refl;
}

goes_open : (b : Books TourUnit) (said : List Said) (last : Books TourUnit) → Goes tours b said last → has_finished said ≡ false
unfolding has_finished
goes_open b [] last goes = refl
goes_open b (s ∷ said) last goes =
    ap (λ t. t || has_finished said) (by_kind tours (λ b s next. is_finish s.call ≡ false) never_finish b s goes.0 goes.1)
    ∙ goes_open goes.0 said last goes.2

-- no rank finishes while its program runs
pub so_open : (p : TourProgram) (said : List Said) → IsSoFar p said → has_finished said ≡ false
so_open p said is = goes_open (begins p) said is.last is.goes

-- the calls before a call
goes_front : (b : Books TourUnit) (said more : List Said) (last : Books TourUnit) → Goes tours b (said ++ more) last →
    (mid : Books TourUnit) × Goes tours b said mid
goes_front b [] more last goes = (b, refl)
goes_front b (s ∷ said) more last goes = let later = goes_front goes.0 said more last goes.2 in (later.0, (goes.0, goes.1, later.1))

-- the front of a transcript is a transcript so far
pub so_front : (p : TourProgram) (said more : List Said) → IsSoFar p (said ++ more) → IsSoFar p said
so_front p said more is = let front = goes_front (begins p) said more is.last is.goes in record { last = front.0; goes = front.1 }
