use Rattle.thread_actors.proofs.Prelude.{Err, Rank, ap, is_none, is_open, not_begun, rules, subst, ◌&&◌, ◌∙◌, ◌≡◌}
use Rattle.rank_client.proofs.OpenBatches.{none_opened}
use Rattle.thread_actors.proofs.Called.{same_seat}
use Rattle.thread_actors.specs.Run.{left_begun}
use Rattle.thread_actors.proofs.rank_jobs.RankJob.run.Goals.{in-Err, in-Ok}
use Rattle.thread_actors.proofs.rank_jobs.RankJob.run.Goals as goal

pub run-requires-clause-batch : goal.run-requires-clause-batch
run-requires-clause-batch g c =
    let failed = c.args.self.link.core.trouble in
    ap (λ said. is_open said && is_none failed) c.args.self.empty ∙ ap (λ on. on && is_none failed) none_opened

pub run-requires-clause-running : goal.run-requires-clause-running
run-requires-clause-running g c = not_begun _ c.args.self.empty

pub fail-requires : goal.fail-requires
fail-requires g c = record {
  other = λ whole stamp is. let failed = c.run.ensures.too_long stamp (c.in-Err.is ∙ ap Err is) in cc (whole, failed);
}

pub returns : goal.returns
returns g c =
    let first = c.args.self.link in
    let last = c.match-run.link in
    let end = c.end-said.result in
    let same = same_seat c.run.new.link.config first.config c.run.new.link.me first.me c.run.ensures.seat in
    let kept : (last.config ≡ first.config) × (last.me ≡ first.me) = search (rules, same) in
    let so : g.P.RankProgram.so_far c.args.self.program first.me c.run.new.link.core.transcript (left_begun c.run.new.link) =
    subst (λ (r : Rank). g.P.RankProgram.so_far c.args.self.program r c.run.new.link.core.transcript (left_begun c.run.new.link))
    c.rank.ensures c.run.ensures.so_far in
    let made : g.P.RankProgram.so_far c.args.self.program first.me last.core.transcript (left_begun last) = elim c.match-run.branch [
      | in-Ok w ↦ rw w.link-is so
      | in-Err w ↦ rw w.link-is (rw (w.fail.ensures.says, w.fail.ensures.begun) so)
    ] in
    record {
      config_is = c.end-said.ensures.desk.0 ∙ kept.0;
      number = c.end-said.ensures.desk.1 ∙ ap (λ (r : Rank). r.0) kept.1;
      outcome_is = search rules;
      followed = search rules;
      late = c.end-said.ensures.late;
      own = λ none. rw (← kept.0, ← kept.1) (c.end-said.ensures.own none);
      cut = λ from is. rw (← kept.0, ← kept.1) (c.end-said.ensures.cut from is);
      begun = record {
        before = last.core.transcript;
        begun = left_begun last;
        made = made;
        said_is = c.end-said.ensures.said;
        run = rw (← kept.0, ← kept.1) c.end-said.ensures.begun;
      };
      sent = rw (← kept.0) c.end-said.ensures.sent;
      itself = c.end-said.ensures.itself;
      stopped = λ own stamp is. rw (← kept.0, ← kept.1) (c.end-said.ensures.stopped own stamp is);
    }
