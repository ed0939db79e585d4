use Rattle.std.proofs.Common.{arith, refl, ap, length}
use Rattle.adlb_io.proofs.Reading.{gathering_more, gathers_long, gathers_none, reads_end, reads_full}
use Rattle.adlb_io.proofs.whole.read_up_to.Goals as goal

pub loop-alloc-init : goal.loop-alloc-init
loop-alloc-init g c = record {
  so_far = gathers_none _ _ c.new-bytes.ensures.items;
  within = omega (arith, ap length c.new-bytes.ensures.items);
  counted = refl;
}

pub returns-then-branch-wanted-clause-read : goal.returns-then-branch-wanted-clause-read
returns-then-branch-wanted-clause-read g c =
    let piece = c.in_ok-read_piece.ensures.appended in
    reads_end _ _ _ _ _ _ _ _ c.loop-alloc.invariant.so_far
    (omega (
      arith,
      gathers_long _ _ _ _ _ _ piece,
      piece.within,
      c.min-wanted.ensures,
      c.len-in-loop-alloc.ensures,
      c.loop-alloc.invariant.within,
    )) piece c.if-branch-wanted.true

pub loop-alloc-preserved : goal.loop-alloc-preserved
loop-alloc-preserved g c =
    gathering_more _ _ _ _ _ _ _ _ _ _ _ c.loop-alloc.invariant (omega (arith, c.min-wanted.ensures, c.len-in-loop-alloc.ensures))
    c.in_ok-read_piece.ensures.appended c.in_ok-read_piece.ensures.counted

pub returns-clause-read : goal.returns-clause-read
returns-clause-read g c =
    reads_full _ _ _ _ c.loop-alloc.invariant.so_far (omega (arith, c.loop-alloc.invariant.within, c.loop-alloc-test.false, c.len.ensures))
