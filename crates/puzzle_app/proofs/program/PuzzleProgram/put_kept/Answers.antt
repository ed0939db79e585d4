use Rattle.std.proofs.Common.{refl, Some, ◌∷◌, ◌∙◌}
use Rattle.bag_ledger.specs.declared.entries.Call.TheVariants.{EndBatch}
use Rattle.puzzle_app.specs.Tasks.{End}
use Rattle.puzzle_app.proofs.Calling.{so_open}
use Rattle.puzzle_app.proofs.Steps.{passes_closed, passes_so}
use Rattle.puzzle_app.proofs.UnderWay.{began_pends, end_way, way_so, whole_way}
use Rattle.puzzle_app.proofs.program.PuzzleProgram.put_kept.Goals as goal

pub end_batch-requires : goal.end_batch-requires
end_batch-requires g c = record {
  can = record {
    running = so_open c.args.self.now _ (way_so c.args.self.now _ _ c.in_ok-all.ensures.so_far);
    suits = c.in_ok-all.ensures.kept.batch ∙ c.requires.open;
  };
}

pub returns-in-Ok-clause-told : goal.returns-in-Ok-clause-told
returns-in-Ok-clause-told g c = λ rest start.
    passes_closed c.args.self.now _ _ c.put_jobs.new.desk c.args.common.now rest c.in_ok-all.all
    (c.in_ok-all.ensures.told (Some c.args.common.now) refl (End ∷ rest) start) c.in-Ok.ensures.made.said

pub returns-in-Ok-clause-so_far : goal.returns-in-Ok-clause-so_far
returns-in-Ok-clause-so_far g c =
    let at = c.requires.going in
    whole_way c.args.self.now _ _ _ c.in-Ok.ensures.made.failed (passes_so c.args.self.now _ c.put_jobs.new.desk at.0 _ c.in_ok-all.all
    (passes_closed c.args.self.now _ _ c.put_jobs.new.desk c.args.common.now at.0 c.in_ok-all.all
    (c.in_ok-all.ensures.told (Some c.args.common.now) refl (End ∷ at.0) at.1) c.in-Ok.ensures.made.said))

pub returns-in-Err-clause-so_far : goal.returns-in-Err-clause-so_far
returns-in-Err-clause-so_far g c =
    let at = c.requires.going in
    end_way c.args.self.now _ _ c.put_jobs.new.desk c.args.common.now at.0 c.in_ok-all.all _
    (c.in_ok-all.ensures.told (Some c.args.common.now) refl (End ∷ at.0) at.1) c.in-Err.ensures.made.said
    (began_pends _ _ EndBatch _ _ c.in_ok-all.ensures.kept.whole c.in-Err.ensures.made.began)
