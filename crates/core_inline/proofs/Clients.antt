-- What a letter makes of the client of a rank, with one server.
use Rattle.core_inline.proofs.Prelude.{Bool, Call, ClientModel, ClientResponse, CommonRef, Letter, List, Made, Message, None, Option}
use Rattle.core_inline.proofs.Prelude.{Pending, Server, Some, answer_call, ap, arith, cond, false, false_from_ne_true, first_server, hear}
use Rattle.core_inline.proofs.Prelude.{is_finish, is_idle, letter_stamp, looked, ltb-true, made, mapped_if, nat_lt, not, one, own_came}
use Rattle.core_inline.proofs.Prelude.{part_refused, pending_call, refused, some_is, stamp_limit, subst, sym, ticked, told_done, ℕ, ◌&&◌}
use Rattle.core_inline.proofs.Prelude.{◌*◌, ◌+◌, ◌≡◌, ◌≤◌}
use Rattle.adlb_unit.specs.declared.notes.UnitNote.{UnitNote}
use Rattle.rank_client.proofs.Granted.{if_is}
use Rattle.adlb_unit.specs.declared.messages.Message.TheVariants as tells
use Rattle.rank_client.specs.declared.pendings.Pending.TheVariants as waits_for

-- How many events are to come besides those of a letter that is under way. A unit whose own bytes come may have a common part, for which
-- the server is then asked.
abbrev pub more : Pending → ℕ
more waits_for.Nothing = 0
more (waits_for.Common request note common own) = 0
more _ = 2

-- a pending call leads to two answers more at most
pub more_few : (p : Pending) → more p ≤ 2
more_few waits_for.Nothing = omega arith
more_few _ = omega arith

-- the call that is pending is not Finish
pub pending_other : (p : Pending) (call : Call) → pending_call p ≡ Some call → is_finish call ≡ false
pending_other waits_for.Nothing call is = absurd (cc)
pending_other _ call is = ap is_finish (sym (some_is is))

-- A letter answers the call, but for the own bytes of a unit that has a common part.

module _ (c : ClientModel) (one_server : c.config.servers ≡ 1) where
  -- it waits for nothing then, or two events fewer are to come
  abbrev Passes : ℕ → ClientResponse → Type 0
  Passes n z = more (made z).state.pending + 2 * one (not (is_idle (made z).state.pending)) ≤ n

  -- there is no server but the one that refused, looked or was told
  tried_all : (tried : ℕ) → nat_lt (tried + 1) c.config.servers ≡ false
  tried_all tried =
      rw one_server (false_from_ne_true (nat_lt (tried + 1) 1) (λ more. absurd (omega (arith, ltb-true (tried + 1) 1 more))))

  passes_last : (t : Bool) (f : Bool → ClientResponse) (tried : ℕ) (z : ClientResponse)
      → cond t (Some (f (nat_lt (tried + 1) c.config.servers))) None ≡ Some z → Passes 2 (f false) → Passes 2 z
  passes_last t f tried z is passed =
      subst (Passes 2) (if_is t _ z is) (subst (λ (b : Bool). Passes 2 (f b)) (sym (tried_all tried)) passed)

  own_passes : (request : ℕ) (note : UnitNote) (body : List ℕ) (common : Option CommonRef) → Passes 2 (own_came c request note body common)
  own_passes request note body None = omega arith
  own_passes request note body (Some common) = omega arith

  -- as each pending call awaits it
  passes : (p : Pending) (from : Server) (m : Message) (z : ClientResponse) → answer_call c p from m ≡ Some z → Passes (more p) z
  passes (waits_for.Put unit first tried) from (tells.Full to charge) z is =
      passes_last _ (refused c unit first tried) tried z is (omega arith)
  passes (waits_for.Try request types tried) from (tells.Nothing to) z is =
      passes_last _ (looked c request types tried) tried z is (omega arith)
  passes (waits_for.Keep request common first tried) from (tells.Full to charge) z is =
      passes_last _ (part_refused c request common first tried) tried z is (omega arith)
  passes (waits_for.SetDone request tried) from (tells.DoneHeard to) z is =
      passes_last _ (told_done c request tried) tried z is (omega arith)
  passes (waits_for.Fetch request note) from (tells.Bytes to body) z is =
      subst (Passes 2) (if_is _ _ z is) (own_passes request note body note.common)
  passes _ from tells.Finish z is = absurd (cc)
  passes _ from _ z is = first_of (cc, grind (arith, if_is))

-- so does each letter that the client hears
pub passes_letter : (c : ClientModel) → c.config.servers ≡ 1 → (letter : Letter) (x : Made) → hear c first_server letter ≡ Some x
    → more x.state.pending + 2 * one (not (is_idle x.state.pending)) ≤ more c.pending
passes_letter c one_server letter x hears =
    let heard = ticked c (letter_stamp c letter) in
    let rule =
    mapped_if (not c.finished && nat_lt letter.stamp stamp_limit) made (answer_call heard c.pending first_server letter.message) x hears in
    rw rule.2 (passes heard one_server c.pending first_server letter.message rule.0 rule.1)
