use Rattle.std.proofs.Common.{◌≡◌, ◌<◌, ℕ, Some, slice_get, ap, sym, subst, ◌∙◌}
use Rattle.adlb_unit.specs.declared.configs.Config.{Config}
use Rattle.adlb_unit.specs.declared.notes.Trouble.{Trouble}
use Rattle.actor_desk.specs.Desks.{DeskModel}
use Rattle.rank_mail.specs.declared.posted.Posted.{Posted}
use Rattle.thread_actors.specs.World.{rank_named}
use Rattle.thread_actors.specs.ServerJobs.{told_by_answer, told_ranks, told_servers, waits_for}
use Rattle.thread_actors.specs.inside.Serving.{AreTold, GoesOn}
use Rattle.thread_actors.proofs.Cuts.{cut_reads, noted_at, reads_more, reads_out, through_at}
use Rattle.thread_actors.proofs.broken.break_down.Goals as goal

pub loop-init : goal.loop-init
loop-init g c =
    let cut = c.requires.cut in
    let old = c.args.desk.now in let mid = c.tell_servers.new.desk in let new = c.tell_ranks.new.desk in
    let broken = c.args.broken in
    let at = c.requires.config in
    let servers = subst (λ (y : Config × Trouble). AreTold old (told_servers y.0 c.args.me y.1) mid)
    (λ i. (sym at i, c.told-trouble.ensures i)) c.tell_servers.ensures in
    let waits = subst (λ (y : Config). (k : ℕ) → k < y.ranks
    → slice_get broken.roll.waits k ≡ Some (waits_for cut.last cut.letter (rank_named k))) at cut.roll.waits_are in
    let ranks = subst (λ (y : Config × Trouble). AreTold mid (told_ranks y.0 cut.last cut.letter y.1) new)
    (λ i. (sym at i, c.told-trouble.ensures i)) (c.tell_ranks.ensures cut.last cut.letter waits) in
    record {
      reading = cut_reads c.args.me old mid new broken.roll.waits broken.roll.over broken.fault broken.own cut servers ranks;
      config = ap (λ (d : DeskModel). d.config) ranks.same ∙ ap (λ (d : DeskModel). d.config) servers.same;
      number = ap (λ (d : DeskModel). d.number) ranks.same ∙ ap (λ (d : DeskModel). d.number) servers.same;
    }

pub returns-then-not-goes_on-clause-broken : goal.returns-then-not-goes_on-clause-broken
returns-then-not-goes_on-clause-broken g c =
    let d = c.loop.desk in let over = c.loop.roll.over in
    let at : d.config ≡ c.args.config.now = c.loop.invariant.config ∙ c.requires.config in
    reads_out c.args.me d over c.args.broken.fault c.args.broken.own c.loop.invariant.reading
    (through_at d.config c.args.config.now over at (c.goes_on.ensures.through c.if-not-goes_on.true))

pub loop-preserved : goal.loop-preserved
loop-preserved g c =
    let d = c.loop.desk in let over = c.loop.roll.over in let config = c.args.config.now in
    let at : d.config ≡ config = c.loop.invariant.config ∙ c.requires.config in
    let e = c.receive-from.new.self in let f = c.answer.new.desk in
    let x : Posted = record { from = c.receive-from.result.0; letter = c.receive-from.result.1 } in
    let answers = subst (λ (y : DeskModel × Config × Trouble). AreTold y.0 (told_by_answer y.1 y.2 x) f)
    (λ i. (c.receive-from.ensures.got i, sym at i, c.told-trouble.ensures i)) c.answer.ensures in
    let on = subst (λ (y : Config). GoesOn y.ranks over) (sym at) (c.goes_on.ensures.going c.if-not-goes_on.false) in
    record {
      reading =
          reads_more c.args.me d f over c.note.new.self.over x c.args.broken.fault c.args.broken.own c.loop.invariant.reading on
          (noted_at d.config config over c.note.new.self.over x at c.note.ensures.over) answers;
      config =
          ap (λ (y : DeskModel). y.config) c.answer.ensures.same ∙ ap (λ (y : DeskModel). y.config) c.receive-from.ensures.got
          ∙ c.loop.invariant.config;
      number =
          ap (λ (y : DeskModel). y.number) c.answer.ensures.same ∙ ap (λ (y : DeskModel). y.number) c.receive-from.ensures.got
          ∙ c.loop.invariant.number;
    }
