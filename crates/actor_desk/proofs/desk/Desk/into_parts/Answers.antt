use Rattle.std.proofs.Common.{◌<◌, ◌∙◌, Some, ap, length, slice_get, subst, sym}
use Rattle.std.specs.List.{AllByRecursion as Each}
use Rattle.rank_mail.specs.declared.posted.Posted.{Posted}
use Rattle.merge_history.specs.Kept.{kept_of}
use Rattle.actor_desk.specs.Desks.{DeskModel}
use Rattle.actor_desk.proofs.desk.Desk.into_parts.Goals as goal

pub returns-clause-post : goal.returns-clause-post
returns-clause-post g c = record {
  number = c.self.invariant.post ∙ ap (λ (x : DeskModel). x.number) c.self.view_is;
  places_are = c.self.invariant.places_are;
  sent = ap (λ (x : DeskModel). x.sent) c.self.view_is;
}

pub returns-clause-inbox : goal.returns-clause-inbox
returns-clause-inbox g c =
    let places = g.M.Mailing.places in record {
      place = ap (λ (x : DeskModel). slice_get places x.number) (sym c.self.view_is) ∙ c.self.invariant.inbox;
      unclosed = c.self.invariant.unclosed;
      got = ap (λ (x : DeskModel). x.got) c.self.view_is;
      named = subst (λ (x : DeskModel). Each (λ (p : Posted). p.from < length places) x.got) c.self.view_is c.self.invariant.named;
    }

pub returns-clause-kept : goal.returns-clause-kept
returns-clause-kept g c = c.self.invariant.kept ∙ ap (λ (x : DeskModel). kept_of x.events) c.self.view_is
