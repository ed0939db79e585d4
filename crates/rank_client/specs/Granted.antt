-- That a unit is granted before it is held or fetched.
use Rattle.std.specs.Prelude.{◌≡◌, true, false, List, Some, All}
use Rattle.adlb_unit.specs.declared.configs.Config.{Config}
use Rattle.adlb_unit.specs.declared.letters.Letter.{Letter}
use Rattle.adlb_unit.specs.declared.names.Rank.{Rank}
use Rattle.adlb_unit.specs.declared.names.Server.{Server}
use Rattle.adlb_unit.specs.declared.names.UnitId.{UnitId}
use Rattle.adlb_unit.specs.declared.notes.UnitNote.{UnitNote}
use Rattle.bag_ledger.specs.declared.entries.Call.{Call}
use Rattle.bag_ledger.specs.declared.entries.Said.{Said}
use Rattle.rank_client.specs.declared.pendings.Pending.{Pending}
use Rattle.rank_client.specs.declared.pendings.Pending.TheVariants as waits_for
use Rattle.rank_client.specs.Calls.{is_fetched, is_granted}
use Rattle.rank_client.specs.State.{ClientModel, start}
use Rattle.rank_client.specs.Step.{Made, begin, hear}

-- a fetch that is pending is of a unit that was granted
abbrev pub IsOfGranted : List Said → Pending → Type 0
IsOfGranted said (waits_for.Fetch request note) = is_granted note.id said ≡ true
IsOfGranted said (waits_for.Common request note common own) = is_granted note.id said ≡ true
IsOfGranted said _ = Prim.Unit {0}

-- each unit of these notes, that the pending call fetches, or that was fetched, was granted
pub record AreGranted (said : List Said) (notes : List UnitNote) (pending : Pending) : Type 0 where
  pub held : All (λ n. is_granted n.id said ≡ true) notes
  pub fetching : IsOfGranted said pending
  pub fetched : (id : UnitId) → is_fetched id said ≡ true → is_granted id said ≡ true

-- each unit that the client holds, fetches or fetched was granted
abbrev pub IsGrantedFirst : ClientModel → Type 0
IsGrantedFirst s = AreGranted s.transcript s.handles s.pending

-- the law: so it is at the start and after each step of a rank, and then a unit that was not granted was not fetched either
pub record GrantsComeFirst : Type 0 where
  pub at_start : (config : Config) (me : Rank) → IsGrantedFirst (start config me)
  pub after_call : (s : ClientModel) (call : Call) (x : Made) → begin s call ≡ Some x → IsGrantedFirst s → IsGrantedFirst x.state
  pub after_letter : (s : ClientModel) (from : Server) (letter : Letter) (x : Made) → hear s from letter ≡ Some x → IsGrantedFirst s
      → IsGrantedFirst x.state
  pub unfetched : (s : ClientModel) (id : UnitId) → IsGrantedFirst s → is_granted id s.transcript ≡ false
      → is_fetched id s.transcript ≡ false
