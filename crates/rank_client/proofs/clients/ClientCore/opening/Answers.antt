use Rattle.std.proofs.Common.{rules, ◌≡◌, Some, subst, sym}
use Rattle.std.specs.Prelude.{IsSome}
use Rattle.bag_ledger.specs.declared.entries.Call.{Call}
use Rattle.rank_client.specs.inside.{opened}
use Rattle.rank_client.specs.Rules.{open_call}
use Rattle.rank_client.proofs.Calling.{put_opens}
use Rattle.rank_client.proofs.clients.ClientCore.opening.Goals as goal

pub returns-in_ok-put-in-Put-clause-ok : goal.returns-in_ok-put-in-Put-clause-ok
returns-in_ok-put-in-Put-clause-ok c =
    let s = c.args.self.now in
    let it = c.in_ok-put-in-Put in
    let ready = subst (λ (call : Call). IsSome (open_call s call)) c.in-Put.is c.requires.ready in
    subst (λ (call : Call). open_call s call ≡ Some (opened s it.field-0)) (sym c.in-Put.is)
    (put_opens s c.in-Put.kind c.in-Put.prio c.in-Put.target c.in-Put.answer c.in-Put.body c.in_ok-unit-in-Put.unit (opened s it.field-0)
    (search rules) it.ensures.ok ready)
