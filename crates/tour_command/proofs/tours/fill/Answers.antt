use Rattle.std.proofs.Common.{arith, List, subst, sym}
use Rattle.tour_app.specs.declared.program.TourProgram.{TourProgram}
use Rattle.tour_command.proofs.Programs.{more_programs}
use Rattle.tour_command.specs.Tours.{ArePrograms}
use Rattle.tour_command.proofs.tours.fill.Goals as goal

pub loop-rank-preserved : goal.loop-rank-preserved
loop-rank-preserved c =
    let old = c.loop-rank.invariant in
    let pushed = c.push_reserved-in-loop-rank.ensures in
    record {
      many = omega (arith, old.many, pushed.len);
      room = omega (arith, old.room, pushed.capacity);
      are = subst (λ (programs : List TourProgram). ArePrograms c.args.cities.now programs) (sym pushed.items)
          (more_programs c.args.cities.now c.loop-rank.programs.items c.new-in-loop-rank.result
          (omega (arith, old.many, c.loop-rank.auto._rank)) c.new-in-loop-rank.ensures old.are);
    }
