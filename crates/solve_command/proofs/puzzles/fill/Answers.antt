use Rattle.std.proofs.Common.{rules, arith, ◌≡◌, ◌<◌, ◌++◌, ◌∷◌, [], List, Some, length, vec_len, sym, ap, subst, ◌∙◌}
use Rattle.puzzle_app.specs.declared.program.PuzzleProgram.{PuzzleProgram}
use Rattle.solve_command.specs.Puzzles.{ArePrograms}
use Rattle.solve_command.proofs.Programs.{first_program, more_programs}
use Rattle.solve_command.proofs.puzzles.fill.Goals as goal

pub loop-rank-init : goal.loop-rank-init
loop-rank-init g =
    let pushed = g.push_reserved.ensures in let made = g.new.ensures in let before = g.args.programs.now in
    let same : length before.items ≡ vec_len before = search rules in
    let none = ap (λ (l : List PuzzleProgram). length l) g.requires.empty in record {
      many = omega (arith, pushed.len, same, none);
      room = omega (arith, pushed.capacity, g.requires.room);
      are = subst (ArePrograms g.args.settings g.args.asked.now)
          (sym (pushed.items ∙ ap (λ (l : List PuzzleProgram). l ++ g.new.result ∷ []) g.requires.empty))
          (first_program g.args.settings g.args.asked.now g.new.result made.settings
          (made.jobs ∙ ap Some (g.in_ok-jobs.ensures ∙ g.jobs.ensures.jobs)));
    }

pub loop-rank-preserved : goal.loop-rank-preserved
loop-rank-preserved g =
    let was = g.loop-rank.invariant in let pushed = g.push_reserved-in-loop-rank.ensures in let made = g.new-in-loop-rank.ensures in
    let before = g.loop-rank.programs in
    let same : length before.items ≡ vec_len before = search rules in
    let some : 0 < length before.items = omega (arith, same, was.many, g.loop-rank.auto._rank) in record {
      many = omega (arith, pushed.len, was.many);
      room = omega (arith, pushed.capacity, was.room);
      are = subst (ArePrograms g.args.settings g.args.asked.now) (sym pushed.items)
          (more_programs g.args.settings g.args.asked.now before.items g.new-in-loop-rank.result some made.settings made.jobs was.are);
    }
