use Rattle.std.proofs.Common.{◌≡◌, ◌∙◌, ap, slice_set, arith}
use Rattle.bag_ledger.specs.declared.states.RankState.{RankState}
use Rattle.bag_tables.specs.Changes.{rank_changed}
use Rattle.bag_tables.proofs.Changing.{past_changes, set_changes, on_ok}
use Rattle.bag_tables.proofs.ranks.Ranks.change.Goals as goal

pub returns-then-place-len : goal.returns-then-place-len
returns-then-place-len c =
    rw (← c.self.view_is) (past_changes c.self.inside.held.items c.args.rank.0 (rank_changed c.args.change) (omega arith))

pub returns : goal.returns
returns c = rw (← c.self.view_is) (
    on_ok c.take.result (λ (e : c.take.new.r ≡ rank_changed c.args.change c.index_mut-r.result.now). rw e (
    ap (λ (r : RankState). slice_set c.self.inside.held.items c.args.rank.0 (rank_changed c.args.change r)) c.index_mut-r.ensures.value
    ∙ set_changes c.self.inside.held.items c.args.rank.0 (rank_changed c.args.change) c.index_mut-r.result.now (omega arith)
    )) c.take.ensures
    )
