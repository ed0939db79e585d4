-- What the ledger has of a client's calls and the client has not heard: nothing, or its pending call with an answer.
use Rattle.std.proofs.Common.{◌≡◌, ◌⊎◌, inl, inr, List, [], ◌∷◌, ◌++◌, Bool, true, false, Option, Some, None, refl, ap}
use Rattle.adlb_unit.specs.declared.messages.Message.{Message}
use Rattle.adlb_unit.specs.declared.messages.Message.TheVariants as tells
use Rattle.adlb_unit.specs.declared.names.CommonRef.{CommonRef}
use Rattle.bag_ledger.specs.declared.entries.Call.TheVariants as calls_to
use Rattle.bag_ledger.specs.declared.entries.Said.{Said}
use Rattle.bag_ledger.specs.Runs.{call_of}
use Rattle.rank_client.specs.Agreement.{fetch_coming, in_call, own_fetched, rank_of, said}
use Rattle.rank_client.specs.Calls.{plus}
use Rattle.rank_client.specs.Remembered.{pending_call}
use Rattle.rank_client.specs.State.{ClientModel}
use Rattle.rank_client.specs.declared.pendings.Pending.{Pending}
use Rattle.rank_client.specs.declared.pendings.Pending.TheVariants as waits_for

-- the pending call has an answer in the ledger, and so it is pending no longer in the bag
pub record HasCome (c : ClientModel) (p : Pending) (coming : Option Message) : Type 0 where
  pub s : Said
  pub call : pending_call p ≡ Some s.call
  pub says : said c p coming ≡ c.transcript ++ s ∷ []
  pub over : call_of (in_call c p coming).status ≡ None

-- the ledger tells the transcript, and perhaps the pending call
pub told : (c : ClientModel) (p : Pending) (coming : Option Message) → (said c p coming ≡ c.transcript) ⊎ HasCome c p coming
told c (waits_for.SetDone request tried) coming = inr (record { s = _; call = refl; says = refl; over = refl })
told c waits_for.Nothing None = inl refl
told c waits_for.Nothing (Some m) = inl refl
told c (waits_for.Fetch request note) (Some m) = own_came note.common refl m
  where
    said_by : Option CommonRef → Message → List Said
    said_by o m = plus c.transcript (calls_to.Fetch note.id) (fetch_coming o m)

    own_came : (common : Option CommonRef) → note.common ≡ common → (m : Message)
        → (said c (waits_for.Fetch request note) (Some m) ≡ c.transcript) ⊎ HasCome c (waits_for.Fetch request note) (Some m)
    own_came None none (tells.Bytes to body) =
        inr (record {
          s = _;
          call = refl;
          says = ap (λ o. said_by o (tells.Bytes to body)) none;
          over = ap (λ o. call_of (own_fetched c request note o).status) none;
        })
    own_came None none m = inl (ap (λ o. said_by o m) none)
    own_came (Some common) some m = inl (ap (λ o. said_by o m) some)
told c (waits_for.Put unit first tried) (Some (tells.Accepted to)) = inr (record { s = _; call = refl; says = refl; over = refl })
told c (waits_for.Put unit first tried) (Some (tells.Ended to end)) = inr (record { s = _; call = refl; says = refl; over = refl })
told c (waits_for.Reserve request types) (Some (tells.Grant to note)) = inr (record { s = _; call = refl; says = refl; over = refl })
told c (waits_for.Reserve request types) (Some (tells.Ended to end)) = inr (record { s = _; call = refl; says = refl; over = refl })
told c (waits_for.Try request types tried) (Some (tells.Grant to note)) = inr (record { s = _; call = refl; says = refl; over = refl })
told c (waits_for.Try request types tried) (Some (tells.Ended to end)) = inr (record { s = _; call = refl; says = refl; over = refl })
told c (waits_for.Common request note common own) (Some (tells.Bytes to body)) =
    inr (record { s = _; call = refl; says = refl; over = refl })
told c (waits_for.Keep request common first tried) (Some (tells.Accepted to)) =
    inr (record { s = _; call = refl; says = refl; over = refl })
told c (waits_for.Keep request common first tried) (Some (tells.Ended to end)) =
    inr (record { s = _; call = refl; says = refl; over = refl })
told c (waits_for.Close request batch) (Some (tells.Closed to)) = inr (record { s = _; call = refl; says = refl; over = refl })
told c (waits_for.Count request kind) (Some (tells.Counted to info)) = inr (record { s = _; call = refl; says = refl; over = refl })
told c _ None = inl refl
told c _ (Some _) = inl refl

-- the rank of a client has its number of calls
pub number_of : (c : ClientModel) (finished : Bool) (coming : Option Message) → (rank_of c finished coming).next ≡ c.next
number_of c true coming = refl
number_of c false coming = of_call c.pending coming
  where
    of_call : (p : Pending) (coming : Option Message) → (in_call c p coming).next ≡ c.next
    of_call (waits_for.Fetch request note) (Some m) = own note.common
      where
        own : (o : Option CommonRef) → (own_fetched c request note o).next ≡ c.next
        own None = refl
        own (Some common) = refl
    of_call (waits_for.Put unit first tried) (Some (tells.Full to charge)) = refl
    of_call (waits_for.Put unit first tried) (Some (tells.Ended to end)) = refl
    of_call (waits_for.Reserve request types) (Some (tells.Ended to end)) = refl
    of_call (waits_for.Try request types tried) (Some (tells.Nothing to)) = refl
    of_call (waits_for.Try request types tried) (Some (tells.Ended to end)) = refl
    of_call (waits_for.Keep request common first tried) (Some (tells.Full to charge)) = refl
    of_call (waits_for.Keep request common first tried) (Some (tells.Ended to end)) = refl
    of_call waits_for.Nothing coming = refl
    of_call (waits_for.SetDone request tried) coming = refl
    of_call _ None = refl
    of_call _ (Some _) = refl
