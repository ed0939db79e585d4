-- Letters are sent, and entries entered, one by one.
use Rattle.std.proofs.Common.{◌≡◌, ℕ, List, [], ◌∷◌, ◌++◌, refl, sym, append-nil, append_assoc}
use Rattle.adlb_unit.specs.Links.{place_of}
use Rattle.adlb_unit.specs.declared.configs.Config.{Config}
use Rattle.adlb_unit.specs.declared.letters.Sending.{Sending}
use Rattle.bag_ledger.specs.declared.entries.Entry.{Entry}
use Rattle.core_run.specs.World.{Links, World, link, post, put_link}
use Rattle.core_world.specs.Applied.{IsBetween, IsHalf}

-- no letter changes no link
pub post_none : (config : Config) (links : Links) (from : ℕ) → post config links from [] ≡ links
unfolding post
post_none config links from = refl

-- letters are sent one after the other, each at the end of its link
pub post_one : (config : Config) (links : Links) (from : ℕ) (x : Sending) (sends : List Sending)
    → post config links from (x ∷ sends)
    ≡ post config (put_link links from (place_of config x.to) (link links from (place_of config x.to) ++ x.letter ∷ [])) from sends
unfolding post
post_one config links from x sends = refl

-- nothing was entered
pub between_none : (before entries : List Entry) → IsBetween before before (before ++ entries)
between_none before entries = record { entered = []; rest = entries; now_is = sym (append-nil before); after_is = refl }

-- a front was entered
pub between_front : (before now entries front rest : List Entry) → entries ≡ front ++ rest → now ≡ before ++ front
    → IsBetween before now (before ++ entries)
between_front before now entries front rest all is =
    record { entered = front; rest = rest; now_is = is; after_is = rw (all, is) (sym (append_assoc before front rest)) }

-- letters were sent, and nothing was entered
pub half_none : (w : World) (links : Links) (entries : List Entry) → IsHalf w entries (record w { links = links })
half_none w links entries = record { config = refl; ranks = refl; servers = refl; ledger = between_none w.ledger entries }
