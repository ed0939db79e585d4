use Rattle.thread_actors.proofs.Prelude.{ClientModel, [], ap, sym, was_told}
use Rattle.thread_actors.proofs.RankBegun.{whole_up}
use Rattle.thread_actors.proofs.Called.{start_rests}
use Rattle.thread_actors.proofs.Walks.{new_recorded}
use Rattle.thread_actors.proofs.links.ThreadedLink.new.Goals as goal

pub invariant_of-result-3 : goal.invariant_of-result-3
invariant_of-result-3 g c =
    let recorded = new_recorded c.args.config c.args.me c.args.desk c.in_ok-core.core c.requires.desk c.in_ok-core.ensures in (
      ap (λ (s : ClientModel). s.me) c.in_ok-core.ensures,
      start_rests _ _ _ c.in_ok-core.ensures,
      recorded,
      λ from some. absurd (cc),
      whole_up c.args.desk [] c.in_ok-core.core (ap (λ (s : ClientModel). s.trouble) c.in_ok-core.ensures) recorded,
      λ own stamp met. absurd (let whole = ap (λ (s : ClientModel). s.trouble) c.in_ok-core.ensures in cc (whole, met)),
      ap was_told (sym c.requires.desk.unread),
    )
