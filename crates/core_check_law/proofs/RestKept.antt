-- Acts that leave all that rests as it is.
use Rattle.std.proofs.Common.{◌≡◌, ◌<◌, ◌⊎◌, inl, inr, ℕ, Bool, true, false, List, [], ◌∷◌, ◌++◌, map, Option, None, Some, refl, sym, ap}
use Rattle.std.proofs.Common.{◌∙◌, subst}
use Rattle.std.proofs.lemmas.List.{map-append}
use Rattle.adlb_unit.specs.Targets.{home}
use Rattle.adlb_unit.specs.declared.names.Rank.{Rank}
use Rattle.adlb_unit.specs.declared.names.Server.{Server}
use Rattle.bag_ledger.specs.Bag.{Bag}
use Rattle.bag_ledger.specs.declared.entries.Entry.{Entry}
use Rattle.bag_ledger.specs.declared.states.RankState.{RankState}
use Rattle.bag_ledger.specs.declared.states.Status.TheVariants as is_at
use Rattle.exhaust_ring.specs.Ring.{Asker}
use Rattle.work_queue.specs.Queue.{Queue}
use Rattle.server_components.specs.Calls.{wants}
use Rattle.server_components.specs.declared.waits.Waiting.{Waiting}
use Rattle.server_components.specs.declared.wishes.Wish.{Wish}
use Rattle.rank_client.specs.State.{ClientModel}
use Rattle.server_law.specs.Acts.{Acks, Act, Around, Asks_on, Declines, Drops_hint, Hears_exhaust, Hears_shutdown, Hints, Is_hinted}
use Rattle.server_law.specs.Acts.{Notes_finish, Notes_own, Notices, Wakes, Wants, around, comes, done_after, entries, goes, queue_after}
use Rattle.server_law.specs.Acts.{turned, turns, waiting_with}
use Rattle.server_law.specs.State.{Kept, ServerModel}
use Rattle.server_law.specs.Sure.{Sits}
use Rattle.core_run.specs.World.{Links, World, pool_of}
use Rattle.core_law.specs.Acting.{IsAct, acted}
use Rattle.core_law.specs.OnLinks.{Each}
use Rattle.core_law.specs.Well.{IsShaped}
use Rattle.core_check_law.specs.Settling.{AsksAs, Has, IsResting, IsSettling, NoFit, asker, wish_of, wished}
use Rattle.core_check_law.proofs.Classes.{IsMine, IsOthers, now}
use Rattle.core_check_law.proofs.Lists.{home_below}
use Rattle.core_check_law.proofs.Stays.{changed}

-- it enters nothing, and who waits for what, the queue and the push stay
abbrev pub is_still : Act → Bool
is_still (Asks_on at wish to rest) = true
is_still (Wakes at wish from rest) = true
is_still (Is_hinted at e from) = true
is_still (Drops_hint from rank request) = true
is_still (Declines from wish) = true
is_still (Hints wish) = true
is_still (Acks to id) = true
is_still (Notes_finish rank) = true
is_still (Hears_exhaust from) = true
is_still (Hears_shutdown from) = true
is_still Notices = true
is_still Notes_own = true
is_still (Wants from) = true
is_still _ = false

-- what those who wait wish
abbrev pub wishes : List Waiting → List Wish
wishes l = map wish_of l

-- the act leaves queue, wishes, push and ends as they were
pub record IsStill (a : Act) (s : ServerModel) : Type 0 where
  pub queue : queue_after a s.kept.queue ≡ s.kept.queue
  pub wished : wishes (goes a) ≡ wishes (comes a s)
  pub push : turned (turns a) s.kept.pushing.push ≡ s.kept.pushing.push
  pub done : done_after a s.kept.done ≡ s.kept.done

-- so it is of each act of this class
pub still : (a : Act) (s : ServerModel) → is_still a ≡ true → IsStill a s
still (Asks_on at wish to rest) s e = record { queue = refl; wished = refl; push = refl; done = refl }
still (Wakes at wish from rest) s e = record { queue = refl; wished = refl; push = refl; done = refl }
still (Is_hinted at x from) s e = record { queue = refl; wished = refl; push = refl; done = refl }
still (Drops_hint from rank request) s e = record { queue = refl; wished = refl; push = refl; done = refl }
still (Declines from wish) s e = record { queue = refl; wished = refl; push = refl; done = refl }
still (Hints wish) s e = record { queue = refl; wished = refl; push = refl; done = refl }
still (Acks to id) s e = record { queue = refl; wished = refl; push = refl; done = refl }
still (Notes_finish rank) s e = record { queue = refl; wished = refl; push = refl; done = refl }
still (Hears_exhaust from) s e = record { queue = refl; wished = refl; push = refl; done = refl }
still (Hears_shutdown from) s e = record { queue = refl; wished = refl; push = refl; done = refl }
still Notices s e = record { queue = refl; wished = refl; push = refl; done = refl }
still Notes_own s e = record { queue = refl; wished = refl; push = refl; done = refl }
still (Wants from) s e = record { queue = refl; wished = refl; push = refl; done = refl }
still _ s e = absurd (cc)

-- such an act enters nothing
pub still_enters : (a : Act) (s : ServerModel) → is_still a ≡ true → entries a s ≡ []
still_enters (Asks_on at wish to rest) s e = refl
still_enters (Wakes at wish from rest) s e = refl
still_enters (Is_hinted at x from) s e = refl
still_enters (Drops_hint from rank request) s e = refl
still_enters (Declines from wish) s e = refl
still_enters (Hints wish) s e = refl
still_enters (Acks to id) s e = refl
still_enters (Notes_finish rank) s e = refl
still_enters (Hears_exhaust from) s e = refl
still_enters (Hears_shutdown from) s e = refl
still_enters Notices s e = refl
still_enters Notes_own s e = refl
still_enters (Wants from) s e = refl
still_enters _ s e = absurd (cc)

wishes_with : (o : Option Around) (waiting gone come : List Waiting) → Sits o waiting gone → wishes gone ≡ wishes come
    → wishes (waiting_with o waiting come) ≡ wishes waiting
wishes_with None waiting gone [] is same = refl
wishes_with None waiting gone (e ∷ come) is same =
    let none : [] ≡ e.wish ∷ wishes come = ap (λ l. wishes l) (sym is) ∙ same in absurd (cc)
wishes_with (Some at) waiting gone come is same =
    map-append wish_of at.before (come ++ at.behind)
    ∙ ap (λ l. wishes at.before ++ l) (map-append wish_of come at.behind ∙ ap (λ l. l ++ wishes at.behind) (sym same)
    ∙ sym (map-append wish_of gone at.behind))
    ∙ sym (map-append wish_of at.before (gone ++ at.behind)) ∙ ap (λ l. wishes l) (sym is)

-- a server as it was, but for what a token does not look at
pub record IsAsWas (w next : World) (t : Server) : Type 0 where
  pub wished : wished (pool_of next t).kept ≡ wished (pool_of w t).kept
  pub queue : (pool_of next t).kept.queue ≡ (pool_of w t).kept.queue
  pub done : (pool_of next t).kept.done ≡ (pool_of w t).kept.done
  pub push : (pool_of next t).kept.pushing.push ≡ (pool_of w t).kept.pushing.push

-- such an act leaves each server as it was, as far as tokens say
pub as_was : (w : World) (k : Server) (a : Act) → IsShaped w → IsAct w k a → IsStill a (pool_of w k) → (t : Server)
    → t.0 < w.config.servers → IsAsWas w (acted w k a) t
as_was w k a shape is x t there = by_server (now w k a shape is.here t there)
  where
    by_server : IsMine w k a t ⊎ IsOthers w k a t → IsAsWas w (acted w k a) t
    by_server (inl m) =
        let s = pool_of w k in
        let it : s ≡ pool_of w t = ap (pool_of w) (sym m.same) in
        record {
          wished = ap (λ (y : Kept). wished y) m.kept
              ∙ wishes_with (around a) s.kept.parked.waiting (goes a) (comes a s) is.sits x.wished
              ∙ ap (λ (y : ServerModel). wished y.kept) it;
          queue = ap (λ (y : Kept). y.queue) m.kept ∙ x.queue ∙ ap (λ (y : ServerModel). y.kept.queue) it;
          done = ap (λ (y : Kept). y.done) m.kept ∙ x.done ∙ ap (λ (y : ServerModel). y.kept.done) it;
          push = ap (λ (y : Kept). y.pushing.push) m.kept ∙ x.push ∙ ap (λ (y : ServerModel). y.kept.pushing.push) it;
        }
    by_server (inr o) = record {
      wished = ap (λ (y : Kept). wished y) o.kept;
      queue = ap (λ (y : Kept). y.queue) o.kept;
      done = ap (λ (y : Kept). y.done) o.kept;
      push = ap (λ (y : Kept). y.pushing.push) o.kept;
    }

-- as a token names them
pub asked_of : (es : List Waiting) → map wants es ≡ map asker (wishes es)
asked_of [] = refl
asked_of (e ∷ es) = ap (λ l. wants e ∷ l) (asked_of es)

-- what is settled stays so where each server is as it was
pub settling_stays : (w : World) (ranks : List ClientModel) (servers : List ServerModel) (links : Links) (ledger : List Entry)
    (b : Bag) (p : ℕ) (asked : List Asker)
    → ((t : Server) → t.0 < w.config.servers → IsAsWas w (changed w ranks servers links ledger) t) → IsSettling w b p asked
    → IsSettling (changed w ranks servers links ledger) b p asked
settling_stays w ranks servers links ledger b p asked same k = record {
  rest = record {
    promises = (k.rest).promises;
    travels = (k.rest).travels;
    pushes = λ t there. (same t there).push ∙ (k.rest).pushes t there;
    ranks = λ r within. by_rank r ((k.rest).ranks r within);
  };
  listed = λ t there.
      let m = same t there in
      k.listed t there
      ∙ asked_of (pool_of w t).kept.parked.waiting ∙ ap (λ (l : List Wish). map asker l) (sym m.wished)
      ∙ sym (asked_of (pool_of next t).kept.parked.waiting);
  going = λ t there wish has.
      let m = same t there in m.done ∙ k.going t there wish (subst (λ (l : List Wish). Has l wish) m.wished has);
  none = λ t there low.
      let m = same t there in subst (λ (q : Queue). Each (NoFit q.units) asked) (sym m.queue) (k.none t there low);
}
  where
    next : World
    next = changed w ranks servers links ledger

    by_case : (r : Rank) (state : RankState) → (state.status ≡ is_at.Finished) ⊎ AsksAs w r state
        → (state.status ≡ is_at.Finished) ⊎ AsksAs next r state
    by_case r state (inl e) = inl e
    by_case r state (inr (wish, has, who, asks)) =
        let m = same (home w.config r) (home_below w.config r) in
        inr (wish, subst (λ (l : List Wish). Has l wish) (sym m.wished) has, who, asks)

    by_rank : (r : Rank) → IsResting w b r → IsResting next b r
    by_rank r x = record { state = x.state; here = x.here; rests = by_case r x.state x.rests }
