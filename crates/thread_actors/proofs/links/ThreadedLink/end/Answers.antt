use Rattle.thread_actors.proofs.Prelude.{Config, DeskModel, Finish, IsLate, Option, RankLink}
use Rattle.thread_actors.proofs.Prelude.{Some, Trouble, ap, has_finished, is_none, link_in}
use Rattle.thread_actors.proofs.Prelude.{not, option_map, plus, subst, sym, told, was_told, ℕ, ◌++◌, ◌<◌, ◌∙◌, ◌≡◌}
use Rattle.actor_desk.specs.Desks.{sent_at}
use Rattle.actor_desk.specs.World.{actors}
use Rattle.bag_ledger.specs.declared.entries.Answer.TheVariants.{Fine}
use Rattle.merge_history.specs.Own.{letters_to}
use Rattle.rank_client.specs.Answers.{troubled}
use Rattle.std.proofs.Common.{IfSome}
use Rattle.thread_actors.proofs.RankBegun.{ended_said, gone_begun, gone_told, left_still}
use Rattle.thread_actors.proofs.Called.{finish_said, gone_recorded, kept_of, link_can, own_run, told_late}
use Rattle.thread_actors.proofs.Limits.{left_stopped, not_so}
use Rattle.thread_actors.proofs.Walks.{still_cut}
use Rattle.thread_actors.specs.RankJobs.{HasToldAll, ended_by, last_words}
use Rattle.thread_actors.specs.Run.{left_begun}
use Rattle.thread_actors.proofs.links.ThreadedLink.end.Goals as goal

pub call-came-requires-clause-can : goal.call-came-requires-clause-can
call-came-requires-clause-can g c =
    link_can c.self.inside.wire.core c.args.self (ap link_in c.self.view_is) Finish
    (record { running = c.requires.running; suits = c.requires.closed }) tt

pub fault_of-requires : goal.fault_of-requires
fault_of-requires g c =
    let e = c.call-came.ensures in
    record {
      late = subst (λ (t : Option Trouble). IfSome t IsLate) (sym c.failed.ensures) e.came.rests.knows.late;
      memory = λ from some. c.failed.ensures ∙ (e.cut from some).0;
    }

pub returns : goal.returns
returns g c =
    let s = c.self.inside.wire.core in
    let w = c.call-came.new.self in
    let r = c.call-came.result in
    let e = c.call-came.ensures in
    let desk = c.tell_gone.new.desk in
    let gone = c.tell_gone.ensures in
    let view = c.self.view_is in
    let fault = c.fault_of.result in
    let met = c.fault_of.ensures.told ∙ c.failed.ensures in
    let before = ap (λ (l : RankLink). l.core.trouble) view in
    let config = w.desk_is.0 ∙ e.config ∙ sym c.self.inside.wire.run_is ∙ ap (λ (l : RankLink). l.config) view in
    let me = e.me ∙ ap (λ (l : RankLink). l.me) view in
    let configs = ap (λ (d : DeskModel). d.config) gone.desk ∙ config in
    let all =
    subst (λ (k : Config). (n : ℕ) → n < actors k → sent_at desk n ≡ sent_at w.desk n ++ letters_to k n (last_words k (troubled r)))
    (sym w.desk_is.0) gone.told in
    record {
      finished = λ none. c.into_transcript.ensures ∙ finish_said s w.core r e.came (sym met ∙ ap (option_map told) none)
          ∙ ap (λ (l : RankLink). plus l.core.transcript Finish (Some Fine)) view;
      said = c.into_transcript.ensures ∙ ended_said s w.core r e.came fault met
          ∙ ap (λ (l : RankLink). ended_by fault l.core.transcript) view;
      late = told_late _ _ met e.came.rests.knows.late;
      kept = λ failed. met ∙ kept_of s w.core r e.came (ap is_none before ∙ failed) ∙ before;
      desk = (configs, ap (λ (d : DeskModel). d.number) gone.desk ∙ w.desk_is.1 ∙ ap (λ r. r.0) me);
      own = λ none. rw c.into_transcript.ensures
          (own_run s w.core r e.came desk (ap (λ (l : RankLink). has_finished l.core.transcript) view ∙ c.requires.running)
          (sym met ∙ ap (option_map told) none) (gone_recorded s w.core Finish r w.desk desk e.came gone.fine e.recorded) _ _ configs me);
      cut = λ from is. rw (← configs, ← me)
          (still_cut w.desk desk w.core w.unexpected gone.desk e.cut from ((c.fault_of.ensures.unexpected from).0 is)).1;
      begun = rw (← config, ← me)
          (gone_begun w.desk desk w.core (troubled r) e.begun gone.desk all c.into_transcript.result.items (left_begun c.args.self)
          (sym c.into_transcript.ensures) (left_still s w.core r e.came ∙ ap left_begun view) e.came.rests.knows.within);
      sent = subst (λ (k : Config). HasToldAll k desk (option_map told fault)) config
          (subst (λ (o : Option Trouble). HasToldAll w.desk.config desk o) (sym (met ∙ e.came.made.failed))
          (gone_told w.desk desk w.core (troubled r) e.begun gone.desk all));
      itself = ap not (e.told ∙ ap (λ (d : DeskModel). was_told d.got) (sym gone.desk));
      stopped = λ own stamp is. rw (← config, ← me)
          (left_stopped w.desk desk w.core stamp e.begun gone.desk (e.limit (not_so w.told own)) (sym met ∙ ap (option_map told) is));
    }
