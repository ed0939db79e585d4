use Rattle.server_core.proofs.Prelude.{◌+◌, ◌-◌, ◌≡◌, HasRoom, said, to_others, told_from, verdict, ℕ}
use Rattle.server_core.proofs.states.ServerState.tell_others.Given as goal

abbrev pub invariant-loop-places : goal.invariant-loop-places
invariant-loop-places l = record {
  left : said l.out (told_from l.self (verdict l.shut) l.places) l.self ≡ said l.fn.out (to_others l.fn.self (verdict l.shut)) l.fn.self;
  config : l.self.config ≡ l.fn.self.config;
  end : l.places-end ≡ l.fn.self.config.servers;
  room : (more : ℕ) → HasRoom l.fn.self l.fn.out (l.fn.self.config.servers - 1 + more)
      → HasRoom l.self l.out (l.fn.self.config.servers - l.places + more);
}
