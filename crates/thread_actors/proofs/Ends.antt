-- How a server ended: it ran to its end, or it broke.
use Rattle.std.proofs.Common.{◌≡◌, ◌+◌, Bool, true, false, List, [], Option, Some, None, inl, inr, refl, sym, subst}
use Rattle.std.specs.Prelude.{IfSome}
use Rattle.adlb_unit.specs.declared.configs.Config.{Config}
use Rattle.adlb_unit.specs.declared.names.Server.{Server}
use Rattle.actor_desk.specs.Desks.{DeskModel}
use Rattle.merge_history.specs.Own.{PoolWalks}
use Rattle.server_core.specs.Left.{left_of}
use Rattle.server_core.specs.declared.states.LeftUnit.{LeftUnit}
use Rattle.server_law.specs.State.{ServerModel, start}
use Rattle.thread_actors.specs.Faults.{IsLateFault}
use Rattle.thread_actors.specs.World.{has_ended}
use Rattle.thread_actors.specs.declared.faults.ActorFault.{ActorFault}
use Rattle.thread_actors.specs.declared.faults.ActorFault.TheVariants as faults
use Rattle.thread_actors.specs.ServerJobs.{EndsAs, IsBroken}
use Rattle.thread_actors.specs.inside.Serving.{EndsBroken, Follows}
use Rattle.thread_actors.proofs.ServerBegun.{broken_begins}
use Rattle.actor_desk.proofs.Begun.{tallied_begins}
use Rattle.thread_actors.proofs.ServerSteps.{whole_run}

late_missing : (o : Option ActorFault) → ((f : ActorFault) → o ≡ Some f → f ≡ faults.Memory) → IfSome o IsLateFault
late_missing None all = tt
late_missing (Some f) all = subst IsLateFault (sym (all f refl)) (λ stamp too_long. absurd (cc))

-- it ran to its end, and perhaps there was no memory for what was left
pub ends_whole : (config : Config) (me : Server) (d : DeskModel) (s : ServerModel) (left : List LeftUnit) (missing : Option ActorFault)
    → d.config ≡ config → d.number ≡ config.ranks + me.0 → (s.config ≡ config) × (s.me ≡ me) → Follows d [] s → has_ended s ≡ true
    → (missing ≡ None → left ≡ left_of s) → ((f : ActorFault) → missing ≡ Some f → f ≡ faults.Memory)
    → EndsAs config me (record { left = left; fault = missing; own = false; desk = d })
ends_whole config me d s left missing at number own was ended all memory = record {
  config_is = at;
  number = number;
  late = late_missing missing memory;
  begun = record {
    last = s;
    walks = subst (λ (y : Config × Server). PoolWalks y.0 (start y.0 y.1) d.events s) (λ i. (at i, own.1 i)) was.walks;
    within = was.within;
    begins = tallied_begins d [] was.tallies;
  };
  own = λ none. whole_run config me d s left at own was ended (all none);
  broken = λ f some. inr (refl, memory f some, left_of s, whole_run config me d s (left_of s) at own was ended refl);
}

-- it broke
pub ends_broken : (config : Config) (me : Server) (d : DeskModel) (left : List LeftUnit) (fault : ActorFault) (own : Bool)
    → d.config ≡ config → d.number ≡ config.ranks + me.0 → IsLateFault fault → EndsBroken me d fault own
    → EndsAs config me (record { left = left; fault = Some fault; own = own; desk = d })
ends_broken config me d left fault own at number late broke = record {
  config_is = at;
  number = number;
  late = late;
  begun = record {
    last = broke.0;
    walks = subst (λ (c : Config). PoolWalks c (start c me) d.events broke.0) at broke.1;
    within = broke.2;
    begins = broken_begins me d broke.0 fault own broke.3;
  };
  own = λ none. absurd (cc);
  broken = λ f some. inl (subst (λ (k : ActorFault). IsBroken me d broke.0 k own) (cc some) broke.3);
}
