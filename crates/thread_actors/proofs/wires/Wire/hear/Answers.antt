use Rattle.thread_actors.proofs.Prelude.{Config, IsRecorded, Some, [], ap, refl, subst, sym}
use Rattle.thread_actors.proofs.Prelude.{told_trouble, was_told, ℕ, ◌+◌, ◌<◌, ◌∙◌, ◌∷◌, ◌≡◌}
use Rattle.thread_actors.proofs.RankBegun.{failed_up}
use Rattle.thread_actors.proofs.RankSteps.{first_fail, not_broken}
use Rattle.thread_actors.proofs.Told.{told_last, untold_last}
use Rattle.thread_actors.proofs.Walks.{cut_here}
use Rattle.thread_actors.proofs.Limits.{err_weaker, memory_limit}
use Rattle.thread_actors.proofs.wires.Wire.hear.Goals as goal

pub take_in-requires : goal.take_in-requires
take_in-requires g c =
    let w = c.args.self.now in
    let server = c.in-Some.ensures.server in
    let at = ap (λ (k : Config). k.ranks + c.in-Some.server.0) w.desk_is.0 ∙ server.1 in
    record {
      whole = c.requires.whole;
      knows = c.requires.knows;
      expected = c.in-Some.ensures.heard;
      untold = not_broken _ c.in_default.not-Broken;
      server = subst (λ (k : Config). c.in-Some.server.0 < k.servers) (sym w.desk_is.0) server.0;
      recorded = subst (λ (n : ℕ). IsRecorded w.desk (record { from = n; letter = c.args.letter } ∷ []) w.core) (sym at)
          c.requires.recorded;
    }

pub returns-in-None-clause-unexpected : goal.returns-in-None-clause-unexpected
returns-in-None-clause-unexpected g c = λ n.
    let one : Some c.args.from ≡ Some n → n ≡ c.args.from = λ same. cc in (
      λ same. (one same, record { untold = not_broken _ c.in_default.not-Broken; unheard = c.in-None.ensures.unheard }),
      λ both. ap Some (sym both.0),
    )

pub returns-in-None-clause-cut : goal.returns-in-None-clause-cut
returns-in-None-clause-cut g c =
    let w = c.args.self.now in
    let e = c.fail-in-None.ensures in
    cut_here w.desk w.config w.core c.fail-in-None.new.self c.args.from c.args.letter c.requires.came.0 c.fail-in-None.result
    c.requires.whole c.requires.recorded c.requires.came.1 w.desk_is.0
    (record { untold = not_broken _ c.in_default.not-Broken; unheard = c.in-None.ensures.unheard }) e.failed
    (first_fail w.core.trouble c.told-in-None.result c.fail-in-None.result c.requires.whole e.first ∙ c.told-in-None.ensures)

pub returns-in-Broken-clause-begun : goal.returns-in-Broken-clause-begun
returns-in-Broken-clause-begun g c =
    let w = c.args.self.now in
    failed_up w.desk w.desk (record { from = c.args.from; letter = c.args.letter } ∷ []) w.core c.fail.new.self c.fail.result
    c.requires.whole c.requires.recorded refl c.fail.ensures.failed

pub returns-in-None-clause-begun : goal.returns-in-None-clause-begun
returns-in-None-clause-begun g c =
    let w = c.args.self.now in
    failed_up w.desk w.desk (record { from = c.args.from; letter = c.args.letter } ∷ []) w.core c.fail-in-None.new.self
    c.fail-in-None.result c.requires.whole c.requires.recorded refl c.fail-in-None.ensures.failed

pub returns-in-None-clause-limit : goal.returns-in-None-clause-limit
returns-in-None-clause-limit g c = λ own.
    let w = c.args.self.now in
    let e = c.fail-in-None.ensures in
    memory_limit w.desk w.core c.fail-in-None.new.self c.fail-in-None.result e.failed
    (first_fail w.core.trouble c.told-in-None.result c.fail-in-None.result c.requires.whole e.first ∙ c.told-in-None.ensures)

pub returns-in-Some-clause-limit : goal.returns-in-Some-clause-limit
returns-in-Some-clause-limit g c = err_weaker c.take_in.result c.take_in.ensures.limit (λ limit own. limit)

pub returns-in-Broken-clause-told : goal.returns-in-Broken-clause-told
returns-in-Broken-clause-told g c =
    told_last c.requires.came.0 (record { from = c.args.from; letter = c.args.letter }) _ c.in-Broken.trouble
    (ap told_trouble c.in-Broken.is) c.requires.came.1

pub returns-in-None-clause-told : goal.returns-in-None-clause-told
returns-in-None-clause-told g c =
    untold_last c.requires.came.0 (record { from = c.args.from; letter = c.args.letter }) _ c.args.self.now.told
    (not_broken _ c.in_default.not-Broken) c.requires.came.1 c.requires.came.2

pub returns-in-Some-clause-told : goal.returns-in-Some-clause-told
returns-in-Some-clause-told g c =
    let e = c.take_in.ensures in
    e.told ∙ untold_last c.requires.came.0 (record { from = c.args.from; letter = c.args.letter }) _ c.args.self.now.told
    (not_broken _ c.in_default.not-Broken) c.requires.came.1 c.requires.came.2 ∙ ap was_told (sym e.got)
