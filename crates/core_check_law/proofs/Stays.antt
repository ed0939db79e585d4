-- What tokens say stays so where marks are as they were, and each server has changed since its mark or is as it was.
use Rattle.std.proofs.Common.{◌≡◌, ◌<◌, ◌⊎◌, inl, inr, true, List, filter, map, sym, ap, ◌∙◌, arith}
use Rattle.adlb_unit.specs.declared.names.Server.{Server}
use Rattle.adlb_unit.specs.declared.tokens.Token.{Token}
use Rattle.bag_ledger.specs.declared.entries.Entry.{Entry}
use Rattle.rank_client.specs.State.{ClientModel}
use Rattle.server_components.specs.Calls.{wants}
use Rattle.server_law.specs.Acts.{askers, zeroth}
use Rattle.server_law.specs.Endings.{is_quiet}
use Rattle.server_law.specs.State.{Kept, ServerModel}
use Rattle.core_run.specs.World.{Links, World, pool_of}
use Rattle.core_check_law.specs.OnWay.{AreNumbered, IsOnWay, IsUnchanged, of_home}

-- a world with other actors, letters and entries
abbrev pub changed : World → List ClientModel → List ServerModel → Links → List Entry → World
changed w ranks servers links ledger = record w { ranks = ranks; servers = servers; links = links; ledger = ledger }

-- Of two states of a server.

-- marks and what was counted are as they were
pub record IsMarked (s n : ServerModel) : Type 0 where
  pub config : n.config ≡ s.config
  pub me : n.me ≡ s.me
  pub number : n.kept.ring.number ≡ s.kept.ring.number
  pub mark : n.kept.ring.mark ≡ s.kept.ring.mark
  pub check : n.kept.ring.check ≡ s.kept.ring.check
  pub activity : n.activity ≡ s.activity

-- so are who waits, who has finished and the push
pub record IsParkedSame (s n : ServerModel) : Type 0 where
  pub waiting : n.kept.parked.waiting ≡ s.kept.parked.waiting
  pub finished : n.kept.finished ≡ s.kept.finished
  pub push : n.kept.pushing.push ≡ s.kept.pushing.push

-- it has changed since its mark, or they are
abbrev pub IsSteady : ServerModel → ServerModel → Type 0
IsSteady s n = (s.kept.ring.mark < s.activity) ⊎ IsParkedSame s n

-- a server with the same ranks waiting and push is as quiet
pub quiet_same : (s n : ServerModel) → n.config ≡ s.config → n.me ≡ s.me → IsParkedSame s n → is_quiet s ≡ true → is_quiet n ≡ true
quiet_same s n c m same quiet = rw (c, m, same.waiting, same.finished, same.push) quiet

-- a server with the same ranks waiting names them alike
pub askers_same : (k n : Kept) → n.parked.waiting ≡ k.parked.waiting → askers n ≡ askers k
askers_same k n same = ap (λ l. map wants l) same

module _ (w : World) (ranks : List ClientModel) (servers : List ServerModel) (links : Links) (ledger : List Entry) where
  abbrev v : World
  v = changed w ranks servers links ledger

  module _ (first : IsMarked (pool_of w zeroth) (pool_of v zeroth))
      (same : (t : Server) → t.0 < w.config.servers → IsMarked (pool_of w t) (pool_of v t)) where
    -- a token is right on its way in a world whose servers are steady
    pub way_stays : ((t : Server) → t.0 < w.config.servers → IsSteady (pool_of w t) (pool_of v t)) → (to : Server) (t : Token)
        → IsOnWay w to t → IsOnWay v to t
    way_stays steady to t on = record {
      number = on.number ∙ sym first.check;
      homes = on.homes;
      marked = λ s there e. (same s there).number ∙ on.marked s there e;
      fresh = λ wave s there high e. on.fresh wave s there high (sym (same s there).number ∙ e);
      bridge = λ s there e un. by_steady s there (sym (same s there).number ∙ e)
          (sym (same s there).activity ∙ un ∙ (same s there).mark) (steady s there);
    }
      where
        by_steady : (s : Server) → s.0 < w.config.servers → (pool_of w s).kept.ring.number ≡ t.check → IsUnchanged (pool_of w s)
            → IsSteady (pool_of w s) (pool_of v s)
            → (is_quiet (pool_of v s) ≡ true) × (filter (of_home w.config s) t.asked ≡ askers (pool_of v s).kept)
        by_steady s there e un (inl more) = absurd (omega arith)
        by_steady s there e un (inr parked) =
            let was = on.bridge s there e un in
            let m = same s there in (
              quiet_same (pool_of w s) (pool_of v s) m.config m.me parked was.0,
              was.1 ∙ sym (askers_same (pool_of w s).kept (pool_of v s).kept parked.waiting),
            )

    -- servers have no number above the last check in the new world either
    pub numbers_stay : AreNumbered w → AreNumbered v
    numbers_stay are = record {
      numbers = λ s there.
          let n = are.numbers s there in
          let a = (same s there).number in
          let z = first.check in
          omega arith;
    }
