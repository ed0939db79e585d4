-- What acts make of a server's ring, notices and stamps of activity. At a server that is alone no check runs, and it is shut only if each
-- rank has finished.
use Rattle.std.proofs.Common.{◌≡◌, ◌≢◌, ◌≤◌, ◌<◌, ℕ, Bool, true, false, not, ◌||◌, List, [], ◌∷◌, length, Option, None, Some, refl, sym, ap}
use Rattle.std.proofs.Common.{◌∙◌, arith, eqb, zero-add}
use Rattle.std.specs.Prelude.{All, IfSome, is_none}
use Rattle.std.specs.List.{list_all, range_with_len}
use Rattle.std.proofs.Math.Nat.{mod-one}
use Rattle.std.proofs.lemmas.Bool.{and_parts, eq-eqb}
use Rattle.std.proofs.lemmas.List.Elements.{All-from_get_or, All-set}
use Rattle.std.proofs.lemmas.List.FromFn.{get_or-range_with_len, length-range_with_len}
use Rattle.std.proofs.lemmas.List.Sums.{AllPass-from_list_all}
use Rattle.adlb_unit.specs.declared.messages.Why.{Why}
use Rattle.adlb_unit.specs.declared.names.UnitId.{UnitId}
use Rattle.adlb_unit.specs.declared.tokens.Token.{Token}
use Rattle.exhaust_ring.specs.Ring.{Asker, Ring, RingModel, begun, with_ring, with_tests}
use Rattle.exhaust_ring.specs.Tests.{first_failing}
use Rattle.exhaust_ring.specs.Visits.{Outcome, first_token, found_of, judged, judged_alone, started}
use Rattle.server_law.specs.Acts.{Act, Checks_alone, Fails, Finds, Finds_alone, Gives_up, Hears_failed, Hears_shutdown, Marks, Notes_finish}
use Rattle.server_law.specs.Acts.{Notes_own, Notices, Passes, Shuts, Shuts_alone, Starts, Wants, askers, check_alone, fit_among}
use Rattle.server_law.specs.Acts.{finished_after, noted_after, ring_after, shut_after, tested_in}
use Rattle.server_law.specs.Endings.{is_quiet, rests}
use Rattle.server_law.specs.State.{ServerModel, is_finished, is_home, ring_at}
use Rattle.server_law.specs.Sure.{Sure}
use Rattle.core_run.specs.World.{rank_named}

-- The whole check of a server that is alone.

-- it has ended, and the mark was taken in it
pub record HasEnded (activity : ℕ) (o : Outcome) : Type 0 where
  pub ended : o.ring.ring.runs ≡ false
  pub mark : o.ring.ring.mark ≡ activity
  pub number : o.ring.ring.number ≡ o.ring.ring.check

found_ended : (m : RingModel) (asked : List Asker) → m.ring.number ≡ m.ring.check → HasEnded m.ring.mark (found_of m asked)
found_ended m [] own = record { ended = refl; mark = refl; number = own }
found_ended m (first ∷ more) own = by_test m.exhausted refl
  where
    by_test : (t : Bool) → m.exhausted ≡ t → HasEnded m.ring.mark (found_of m (first ∷ more))
    by_test true is = rw is (record { ended = refl; mark = refl; number = own })
    by_test false is = rw is (record { ended = refl; mark = refl; number = own })

judged_ended : (m : RingModel) (t : Token) (o : Option Why) → m.me.0 ≡ 0 → m.ring.number ≡ m.ring.check
    → HasEnded m.ring.mark (judged_alone (judged m t o))
judged_ended m t None zeroth own = found_ended (with_ring m (with_tests m.ring)) t.asked own
judged_ended m t (Some why) zeroth own = rw (eq-eqb m.me.0 0 zeroth) (record { ended = refl; mark = refl; number = own })

started_ended : (m : RingModel) (activity : ℕ) (parked : List Asker) (fits : Option UnitId) → m.config.servers ≡ 1 → m.me.0 ≡ 0
    → HasEnded activity (started m activity parked fits)
started_ended m activity parked fits alone zeroth =
    let after = with_ring m (begun m.ring activity) in
    let all = judged_ended after (first_token after parked) (first_failing true activity activity fits) zeroth refl in
    rw (eq-eqb m.config.servers 1 alone) all

-- a check of a server that is alone ends at once
pub check_ended : (s : ServerModel) → s.config.servers ≡ 1 → s.me.0 ≡ 0 → HasEnded s.activity (check_alone s)
check_ended s alone zeroth =
    started_ended (ring_at s) s.activity (askers s.kept) (fit_among s.kept (askers s.kept)) alone zeroth

-- The ring of a server of a run, after an act: with one server no check runs, and the last mark was of this activity or less.

-- from another server the act takes a letter
abbrev pub Elsewhere : Act → ServerModel → Type 0
Elsewhere (Shuts from t) s = s.config.servers ≢ 1
Elsewhere (Hears_shutdown from) s = s.config.servers ≢ 1
Elsewhere _ s = Unit {0}

-- the tests of a token leave whether a check runs
pub tested_runs : (wave : ℕ) (r : Ring) → (tested_in wave r).runs ≡ r.runs
tested_runs wave r = by_test (eqb wave 2) refl
  where
    by_test : (t : Bool) → eqb wave 2 ≡ t → (tested_in wave r).runs ≡ r.runs
    by_test true is = rw is refl
    by_test false is = rw is refl

-- the tests of a token leave the mark
pub tested_mark : (wave : ℕ) (r : Ring) → (tested_in wave r).mark ≡ r.mark
tested_mark wave r = by_test (eqb wave 2) refl
  where
    by_test : (t : Bool) → eqb wave 2 ≡ t → (tested_in wave r).mark ≡ r.mark
    by_test true is = rw is refl
    by_test false is = rw is refl

-- at a server that is alone no check runs after an act
pub alone_after : (a : Act) (s : ServerModel) → s.config.servers ≡ 1 → s.me.0 ≡ 0 → Sure a s → s.kept.ring.runs ≡ false
    → (ring_after a s).runs ≡ false
alone_after Notes_own s alone zeroth sure was = was
alone_after (Wants from) s alone zeroth sure was = was
alone_after Starts s alone zeroth sure was = absurd (sure.1 alone)
alone_after (Marks from t) s alone zeroth sure was = was
alone_after (Passes from t) s alone zeroth sure was = was
alone_after (Fails from t why) s alone zeroth sure was = tested_runs t.wave s.kept.ring ∙ was
alone_after (Gives_up from t) s alone zeroth sure was = refl
alone_after (Hears_failed from t why) s alone zeroth sure was = refl
alone_after (Finds from t) s alone zeroth sure was = refl
alone_after (Shuts from t) s alone zeroth sure was = refl
alone_after Finds_alone s alone zeroth sure was = (check_ended s alone zeroth).ended
alone_after Shuts_alone s alone zeroth sure was = (check_ended s alone zeroth).ended
alone_after Checks_alone s alone zeroth sure was = (check_ended s alone zeroth).ended
alone_after _ s alone zeroth sure was = was

marked : (s : ServerModel) → s.config.servers ≡ 1 → s.me.0 < s.config.servers → (check_alone s).ring.ring.mark ≤ s.activity
marked s alone here = let is = (check_ended s alone (omega arith)).mark in omega arith

-- the last mark is of the activity or of less, after an act too
pub mark_after : (a : Act) (s : ServerModel) → s.me.0 < s.config.servers → Sure a s → s.kept.ring.mark ≤ s.activity
    → (ring_after a s).mark ≤ s.activity
mark_after Notes_own s here sure was = was
mark_after (Wants from) s here sure was = was
mark_after Starts s here sure was = omega arith
mark_after (Marks from t) s here sure was = omega arith
mark_after (Passes from t) s here sure was = was
mark_after (Fails from t why) s here sure was = let same = tested_mark t.wave s.kept.ring in omega arith
mark_after (Gives_up from t) s here sure was = was
mark_after (Hears_failed from t why) s here sure was = was
mark_after (Finds from t) s here sure was = was
mark_after (Shuts from t) s here sure was = was
mark_after Finds_alone s here sure was = marked s sure.alone here
mark_after Shuts_alone s here sure was = marked s sure.0 here
mark_after Checks_alone s here sure was = marked s sure here
mark_after _ s here sure was = was

-- the last notice is of the activity or of less, after an act too
pub noted_is : (a : Act) (s : ServerModel) → IfSome s.kept.noted (λ n. n ≤ s.activity) → IfSome (noted_after a s) (λ n. n ≤ s.activity)
noted_is Notices s was = omega arith
noted_is Notes_own s was = omega arith
noted_is _ s was = was

-- A server that is alone, and is shut.

-- with nobody that waits, each rank whose home is here has finished where the server is quiet
finished_where : (home is_done : Bool) → home ≡ true → (not home || is_done || false) ≡ true → is_done ≡ true
finished_where true true here rest = refl
finished_where true false here rest = rest
finished_where false is_done here rest = absurd (cc)

quiet_finished : (s : ServerModel) → s.config.servers ≡ 1 → s.me.0 ≡ 0 → length s.kept.finished ≡ s.config.ranks → is_quiet s ≡ true
    → s.kept.parked.waiting ≡ [] → All (λ finished. finished ≡ true) s.kept.finished
quiet_finished s alone zeroth long quiet nobody =
    let test : ℕ → Bool = λ n. rests s (rank_named n) in
    let all = (and_parts (is_none s.kept.pushing.push) (list_all test (range_with_len 0 s.config.ranks)) quiet).1 in
    let count = length-range_with_len 0 s.config.ranks in
    All-from_get_or (λ finished. finished ≡ true) s.kept.finished false (λ i inside.
    let here : is_home s.config s.me (rank_named i) ≡ true = rw (alone, zeroth, mod-one i) refl in
    let rest : rests s (rank_named i) ≡ true =
    ap test (sym (get_or-range_with_len 0 s.config.ranks i 0 (omega arith) ∙ zero-add i))
    ∙ AllPass-from_list_all test (range_with_len 0 s.config.ranks) all i 0 (omega arith) in
    finished_where (is_home s.config s.me (rank_named i)) (is_finished s.kept (rank_named i)) here (rw nobody at rest))

-- a server that is alone is shut only where each rank has finished, after an act too
pub shut_is : (a : Act) (s : ServerModel) → s.config.servers ≡ 1 → s.me.0 ≡ 0 → length s.kept.finished ≡ s.config.ranks
    → Elsewhere a s → Sure a s → (s.kept.shut ≡ true → All (λ finished. finished ≡ true) s.kept.finished)
    → shut_after a s.kept.shut ≡ true → All (λ finished. finished ≡ true) (finished_after a s.kept.finished)
shut_is (Notes_finish rank) s alone zeroth long away sure was now =
    All-set (λ finished. finished ≡ true) s.kept.finished rank.0 true refl (was now)
shut_is (Shuts from t) s alone zeroth long away sure was now = absurd (away alone)
shut_is (Hears_shutdown from) s alone zeroth long away sure was now = absurd (away alone)
shut_is Shuts_alone s alone zeroth long away sure was now = quiet_finished s alone zeroth long sure.1 sure.2
shut_is _ s alone zeroth long away sure was now = was now
