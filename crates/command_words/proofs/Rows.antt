-- What lists of words say, by computation.
use Rattle.std.proofs.Common.{◌≡◌, ◌∷◌, [], None, Some, codes, false, refl, true}
use Rattle.clap.proofs.OnLiterals.{clap_on_literals}
use Rattle.command_words.specs.Said.{command_of, default_run}
use Rattle.command_words.specs.declared.commands.Command.TheVariants.{Check, Draw, Drill, Flow, Make, Solve, Tour}

no_word : command_of [] ≡ None
no_word = refl

unknown : command_of (codes "frob" ∷ []) ≡ None
unknown = refl

defaults : command_of (codes "solve" ∷ []) ≡ Some (Solve (record { options = default_run; stats = false; ledger = false }))
unfolding clap_on_literals
defaults = refl

each_option : command_of (codes "solve" ∷ codes "--limit" ∷ codes "64" ∷ codes "--grain=1" ∷ codes "--stats" ∷ codes "--inline" ∷ [])
    ≡ Some (Solve (record {
      options = record default_run { sizes = record default_run.sizes { limit = 64 }; grain = 1; inline = true };
      stats = true;
      ledger = false;
    }))
unfolding clap_on_literals
each_option = refl

one_rank : command_of (codes "solve" ∷ codes "--ranks" ∷ codes "1" ∷ codes "--servers=1" ∷ [])
    ≡ Some (Solve (record {
      options = record default_run { sizes = record default_run.sizes { ranks = 1; servers = 1 } };
      stats = false;
      ledger = false;
    }))
unfolding clap_on_literals
one_rank = refl

many_ranks : command_of (codes "solve" ∷ codes "--ranks=33" ∷ []) ≡ None
unfolding clap_on_literals
many_ranks = refl

eight_servers : command_of (codes "solve" ∷ codes "--servers=8" ∷ [])
    ≡ Some (Solve (record {
      options = record default_run { sizes = record default_run.sizes { servers = 8 } };
      stats = false;
      ledger = false;
    }))
unfolding clap_on_literals
eight_servers = refl

many_servers : command_of (codes "solve" ∷ codes "--servers=9" ∷ []) ≡ None
unfolding clap_on_literals
many_servers = refl

below : command_of (codes "solve" ∷ codes "--limit=63" ∷ []) ≡ None
unfolding clap_on_literals
below = refl

twice : command_of (codes "solve" ∷ codes "--grain=2" ∷ codes "--grain=2" ∷ []) ≡ None
unfolding clap_on_literals
twice = refl

no_option : command_of (codes "solve" ∷ codes "--help" ∷ []) ≡ None
unfolding clap_on_literals
no_option = refl

check : command_of (codes "check" ∷ []) ≡ Some Check
unfolding clap_on_literals
check = refl

leftover : command_of (codes "check" ∷ codes "x" ∷ []) ≡ None
unfolding clap_on_literals
leftover = refl

make : command_of (codes "make" ∷ codes "8" ∷ codes "1" ∷ []) ≡ Some (Make 8 1)
unfolding clap_on_literals
make = refl

missing : command_of (codes "make" ∷ codes "8" ∷ []) ≡ None
unfolding clap_on_literals
missing = refl

between : command_of (codes "drill" ∷ codes "+3" ∷ codes "--budget" ∷ codes "100" ∷ codes "004" ∷ [])
    ≡ Some (Drill 3 4 (record default_run { budget = 100 }))
unfolding clap_on_literals
between = refl

told : command_of (codes "drill" ∷ codes "3" ∷ codes "4" ∷ codes "--progress" ∷ [])
    ≡ Some (Drill 3 4 (record default_run { progress = true }))
unfolding clap_on_literals
told = refl

tour : command_of (codes "tour" ∷ codes "--limit=64" ∷ codes "--progress" ∷ [])
    ≡ Some (Tour (record { sizes = record default_run.sizes { limit = 64 }; progress = true }))
unfolding clap_on_literals
tour = refl

tour_in_line : command_of (codes "tour" ∷ codes "--inline" ∷ []) ≡ None
unfolding clap_on_literals
tour_in_line = refl

flow : command_of (codes "flow" ∷ codes "--ranks=1" ∷ codes "--servers" ∷ codes "1" ∷ [])
    ≡ Some (Flow (record { sizes = record default_run.sizes { ranks = 1; servers = 1 }; progress = false }))
unfolding clap_on_literals
flow = refl

flow_in_line : command_of (codes "flow" ∷ codes "--inline" ∷ []) ≡ None
unfolding clap_on_literals
flow_in_line = refl

draw : command_of (codes "draw" ∷ []) ≡ Some Draw
unfolding clap_on_literals
draw = refl
