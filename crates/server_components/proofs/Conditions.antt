-- The conditions of the calls, from what is told before.
use Rattle.std.proofs.Common.{◌≡◌, ℕ, true, false, ◌&&◌, Option, None, Some, refl, ap}
use Rattle.std.specs.Option.{option_map}
use Rattle.std.proofs.lemmas.Bool.{and_from}
use Rattle.std.proofs.lemmas.List.Folds.{list_any_at, list_any_none}
use Rattle.adlb_unit.specs.declared.names.Rank.{Rank}
use Rattle.adlb_unit.specs.declared.names.Server.{Server}
use Rattle.work_queue.proofs.Searched.{find_first, find_none}
use Rattle.server_components.specs.Calls.{request_of}
use Rattle.server_components.specs.Parked.{ParkedModel, entry_of, is_asked, is_of, is_parked, is_pending}
use Rattle.server_components.specs.declared.waits.Waiting.{Waiting}

-- a rank of which nothing is told does not wait
pub not_parked : (m : ParkedModel) (rank : Rank) → option_map request_of (entry_of m rank) ≡ None → is_parked m rank ≡ false
not_parked m rank none = by_found (entry_of m rank) refl none
  where
    by_found : (o : Option Waiting) → entry_of m rank ≡ o → option_map request_of o ≡ None → is_parked m rank ≡ false
    by_found None found none = list_any_none (is_of rank) m.parked.waiting (find_none (is_of rank) m.parked.waiting found)
    by_found (Some e) found none = absurd (cc (none))

abbrev server_of : Option (ℕ × Option Server) → Option Server
server_of None = None
server_of (Some told) = told.1

-- for one of which an unanswered server is told, one is
pub pending : (m : ParkedModel) (rank : Rank) (request : ℕ) (s : Server)
    → option_map request_of (entry_of m rank) ≡ Some (request, Some s) → is_pending m rank ≡ true
pending m rank request s told = by_found (entry_of m rank) refl told
  where
    by_found : (o : Option Waiting) → entry_of m rank ≡ o → option_map request_of o ≡ Some (request, Some s) → is_pending m rank ≡ true
    by_found None found told = let none = ap server_of told in absurd (cc (none))
    by_found (Some e) found told =
        let first = find_first (is_of rank) m.parked.waiting e found in
        let asked : e.asked ≡ Some s = ap server_of told in
        let is : is_asked e ≡ true = rw asked refl in
        let both : (is_of rank e && is_asked e) ≡ true = and_from (is_of rank e) (is_asked e) first.passes is in
        list_any_at (λ x. is_of rank x && is_asked x) m.parked.waiting first.place e first.within (rw first.read both)
