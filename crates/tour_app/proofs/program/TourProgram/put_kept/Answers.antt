use Rattle.std.proofs.Common.{refl, Some, None, [], ◌∷◌, ◌∙◌}
use Rattle.bag_ledger.specs.declared.entries.Call.TheVariants.{EndBatch}
use Rattle.work_law.specs.Books.{End}
use Rattle.tour_app.proofs.Calling.{so_open}
use Rattle.tour_app.proofs.Steps.{passes_closed, passes_so}
use Rattle.tour_app.proofs.Ways.{began_pends, end_way, way_so, whole_way}
use Rattle.tour_app.proofs.program.TourProgram.put_kept.Goals as goal

pub put_all-requires-clause-going : goal.put_all-requires-clause-going
put_all-requires-clause-going g c = (End ∷ [], Some c.args.common.now, refl, c.requires.going)

pub end_batch-requires : goal.end_batch-requires
end_batch-requires g c = record {
  can = record {
    running = so_open c.args.self.now _ (way_so c.args.self.now _ _ c.in_ok-all.ensures.so_far);
    suits = c.in_ok-all.ensures.kept.batch ∙ c.requires.open;
  };
}

pub returns-in-Ok-clause-told : goal.returns-in-Ok-clause-told
returns-in-Ok-clause-told g c =
    passes_closed c.args.self.now _ _ c.put_all.new.desk c.args.common.now [] c.in_ok-all.all refl
    (c.in_ok-all.ensures.told (Some c.args.common.now) refl (End ∷ []) c.requires.going) c.in-Ok.ensures.made.said

pub returns-in-Ok-clause-so_far : goal.returns-in-Ok-clause-so_far
returns-in-Ok-clause-so_far g c =
    whole_way c.args.self.now _ _ _ c.in-Ok.ensures.made.failed (passes_so c.args.self.now _ c.put_all.new.desk [] None c.in_ok-all.all
    (passes_closed c.args.self.now _ _ c.put_all.new.desk c.args.common.now [] c.in_ok-all.all refl
    (c.in_ok-all.ensures.told (Some c.args.common.now) refl (End ∷ []) c.requires.going) c.in-Ok.ensures.made.said))

pub returns-in-Err-clause-so_far : goal.returns-in-Err-clause-so_far
returns-in-Err-clause-so_far g c =
    end_way c.args.self.now _ _ c.put_all.new.desk c.args.common.now [] c.in_ok-all.all _ refl
    (c.in_ok-all.ensures.told (Some c.args.common.now) refl (End ∷ []) c.requires.going) c.in-Err.ensures.made.said
    (began_pends _ _ EndBatch _ _ c.in_ok-all.ensures.kept.whole c.in-Err.ensures.made.began)
