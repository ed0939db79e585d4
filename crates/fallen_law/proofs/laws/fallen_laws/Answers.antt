use Rattle.fallen_law.proofs.Expecting.{expected, few_happen, late_many, stamp_low}
use Rattle.fallen_law.proofs.Fallen.{link_of}
use Rattle.fallen_law.proofs.Nexts.{first_of_link, next_of}
use Rattle.fallen_law.proofs.laws.fallen_laws.Goals as goal

pub returns : goal.returns
returns c = record {
  links = link_of;
  next = next_of;
  first = first_of_link;
  expected = λ config finals journals events from to letter rest run f t next on stamp.
      expected config finals journals events run from to letter rest f t next on stamp;
  few = few_happen;
  stamps = λ config finals journals events from to letter rest run f t next.
      stamp_low config finals journals events run from to letter rest f t next;
  late = late_many;
}
