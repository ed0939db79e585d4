use Rattle.core_inline.proofs.inline.InlineWorldCarrier.exchange.Goals as goal

pub invariant_of-self : goal.invariant_of-self
invariant_of-self c = record {
  one_rank = c.call.ensures.holds.one_rank;
  late = λ stamp too_long. (c.call.ensures.holds.late stamp too_long).0;
  short = c.call.ensures.holds.short;
}
