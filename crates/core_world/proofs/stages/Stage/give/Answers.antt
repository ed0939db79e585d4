use Rattle.std.proofs.Common.{refl, subst}
use Rattle.core_run.specs.World.{World}
use Rattle.core_world.specs.Applied.{IsHalf}
use Rattle.core_world.specs.Stage.{world_of}
use Rattle.core_world.proofs.Posting.{half_none}
use Rattle.core_world.proofs.stages.Stage.give.Goals as goal

pub returns-then-is_err-clause-cut : goal.returns-then-is_err-clause-cut
returns-then-is_err-clause-cut c =
    let i = c.self.inside in
    let half : IsHalf (world_of i) c.args.entries.now.items (world_of (record i { links = c.post.new.self })) =
    half_none (world_of i) c.post.new.self c.args.entries.now.items in
    (refl, subst (λ (w : World). IsHalf w c.args.entries.now.items (world_of (record i { links = c.post.new.self }))) c.self.view_is half)
