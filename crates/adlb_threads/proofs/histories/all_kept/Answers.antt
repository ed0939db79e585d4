use Rattle.std.proofs.Common.{◌∙◌, ◌++◌, flat_map, map, ap}
use Rattle.adlb_threads.specs.inside.{after_all}
use Rattle.adlb_threads.proofs.Endings.{all_desks}
use Rattle.adlb_threads.proofs.histories.all_kept.Goals as goal

pub returns-clause-transcripts : goal.returns-clause-transcripts
returns-clause-transcripts g c =
    ap (λ v. map (λ t. t.items) v.items) c.in_ok-gather_servers.ensures.transcripts ∙ c.in_ok-kept.ensures.transcripts

pub returns-clause-outcomes : goal.returns-clause-outcomes
returns-clause-outcomes g c = ap (λ v. v.items) c.in_ok-gather_servers.ensures.outcomes ∙ c.in_ok-kept.ensures.outcomes

pub returns-clause-desks : goal.returns-clause-desks
returns-clause-desks g c =
    let a = c.args in
    all_desks a.ended.items a.served.items a.desk _ _ _ c.in_ok-kept.ensures.desks c.in_ok-gather_servers.ensures.desks
    c.in-Ok.ensures.items

pub returns-clause-left : goal.returns-clause-left
returns-clause-left g c =
    c.in_ok-gather_servers.ensures.left ∙ ap (λ l. l ++ flat_map (λ e. e.left) c.args.served.items) c.in_ok-kept.ensures.left

pub returns-clause-met : goal.returns-clause-met
returns-clause-met g c =
    c.in_ok-gather_servers.ensures.met
    ∙ ap (λ m. after_all m (map (λ e. (e.fault, e.own)) c.args.served.items)) c.in_ok-kept.ensures.met
