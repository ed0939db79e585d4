use Rattle.std.specs.Fn.{FnOnceReturnsAtMut}
use Rattle.std.proofs.Common.{refl}
use Rattle.adlb_rank.proofs.Batches.{begun, can_end, done_stays, end_failed, end_failed_stays, inside_failed, inside_failed_stays}
use Rattle.adlb_rank.proofs.links.AnyRank.batch.Goals as goal

pub end_batch-requires : goal.end_batch-requires
end_batch-requires g c = record {
  can = can_end (λ l. g.A.Adlb.link l) (FnOnceReturnsAtMut g.F.FnOnce c.args.inside) c.args.common c.args.self.now
      c.begin_batch.new.self c.inside.new.arg2 c.requires.stays c.requires.can.suits.1
      (begun _ _ _ _ c.in_ok-begin_batch.ensures.made c.in-Accepted.is) c.in-Ok.done
      record { shown = _; shows = refl; left = _; met = c.in-Ok.ensures; leaves = refl };
}

pub returns-in-Ok-end_batch-clause-made : goal.returns-in-Ok-end_batch-clause-made
returns-in-Ok-end_batch-clause-made g c = (
  c.begin_batch.new.self,
  c.inside.new.arg2,
  begun _ _ _ _ c.in_ok-begin_batch.ensures.made c.in-Accepted.is,
  record { shown = _; shows = refl; left = _; met = c.in-Ok.ensures; leaves = refl },
  c.in-Ok-end_batch.ensures.made,
)

pub returns-in-Ok-end_batch-clause-stays : goal.returns-in-Ok-end_batch-clause-stays
returns-in-Ok-end_batch-clause-stays g c =
    done_stays (λ l. g.A.Adlb.link l) (FnOnceReturnsAtMut g.F.FnOnce c.args.inside) c.args.common c.args.self.now
    c.begin_batch.new.self c.inside.new.arg2 c.requires.stays c.requires.can.suits.1
    (begun _ _ _ _ c.in_ok-begin_batch.ensures.made c.in-Accepted.is) c.end_batch.new.self c.in-Ok.done
    record { shown = _; shows = refl; left = _; met = c.in-Ok.ensures; leaves = refl } c.in-Ok-end_batch.ensures.made

pub returns-in-Err-end_batch-clause-made : goal.returns-in-Err-end_batch-clause-made
returns-in-Err-end_batch-clause-made g c =
    end_failed (λ l. g.A.Adlb.link l) (FnOnceReturnsAtMut g.F.FnOnce c.args.inside) c.args.common c.args.self.now
    c.begin_batch.new.self c.inside.new.arg2 c.requires.stays c.requires.can.suits.1
    (begun _ _ _ _ c.in_ok-begin_batch.ensures.made c.in-Accepted.is) c.end_batch.new.self c.in-Ok.done c.in-Err-end_batch.trouble
    record { shown = _; shows = refl; left = _; met = c.in-Ok.ensures; leaves = refl } c.in-Err-end_batch.ensures.made

pub returns-in-Err-end_batch-clause-stays : goal.returns-in-Err-end_batch-clause-stays
returns-in-Err-end_batch-clause-stays g c =
    end_failed_stays (λ l. g.A.Adlb.link l) (FnOnceReturnsAtMut g.F.FnOnce c.args.inside) c.args.common c.args.self.now
    c.begin_batch.new.self c.inside.new.arg2 c.requires.stays c.requires.can.suits.1
    (begun _ _ _ _ c.in_ok-begin_batch.ensures.made c.in-Accepted.is) c.end_batch.new.self c.in-Ok.done c.in-Err-end_batch.trouble
    record { shown = _; shows = refl; left = _; met = c.in-Ok.ensures; leaves = refl } c.in-Err-end_batch.ensures.made

pub returns-in-Err-clause-made : goal.returns-in-Err-clause-made
returns-in-Err-clause-made g c =
    inside_failed (λ l. g.A.Adlb.link l) (FnOnceReturnsAtMut g.F.FnOnce c.args.inside) c.args.common c.args.self.now
    c.begin_batch.new.self c.inside.new.arg2 c.requires.stays c.requires.can.suits.1
    (begun _ _ _ _ c.in_ok-begin_batch.ensures.made c.in-Accepted.is) c.in-Err.trouble
    record { shown = _; shows = refl; left = _; met = c.in-Err.ensures; leaves = refl }

pub returns-in-Err-clause-stays : goal.returns-in-Err-clause-stays
returns-in-Err-clause-stays g c =
    inside_failed_stays (λ l. g.A.Adlb.link l) (FnOnceReturnsAtMut g.F.FnOnce c.args.inside) c.args.common c.args.self.now
    c.begin_batch.new.self c.inside.new.arg2 c.requires.stays c.requires.can.suits.1
    (begun _ _ _ _ c.in_ok-begin_batch.ensures.made c.in-Accepted.is) c.in-Err.trouble
    record { shown = _; shows = refl; left = _; met = c.in-Err.ensures; leaves = refl }
