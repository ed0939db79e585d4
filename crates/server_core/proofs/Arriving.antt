-- A unit comes from another server: it is settled while its acknowledgement is owed, which is said then.
use Rattle.std.proofs.Common.{◌≡◌, Bool, true, false, cond, List, [], ◌∷◌, ◌++◌, append-nil, find, Option, None, Some, refl, sym, ap, ◌∙◌}
use Rattle.std.proofs.Common.{subst}
use Rattle.adlb_unit.specs.declared.actors.Actor.TheVariants as by
use Rattle.adlb_unit.specs.declared.messages.Message.TheVariants as tells
use Rattle.adlb_unit.specs.declared.names.Server.{Server}
use Rattle.adlb_unit.specs.declared.names.UnitId.{UnitId}
use Rattle.adlb_unit.specs.declared.units.Unit.{Unit}
use Rattle.bag_ledger.specs.declared.entries.Entry.{Entry}
use Rattle.bag_ledger.specs.declared.entries.Entry.TheVariants as enters
use Rattle.work_queue.specs.Queue.{with_arrival}
use Rattle.work_queue.specs.declared.placing.Placed.{Placed}
use Rattle.server_components.specs.declared.wishes.Wish.{Wish}
use Rattle.server_law.specs.Acts.{Act, Acks, Arrives, Hints, does, entries, says, to_server}
use Rattle.server_law.specs.Carried.{Served, all_done, carried, counted, done, joined, posted, sends}
use Rattle.server_law.specs.Finding.{Place, is_free_as, taker}
use Rattle.server_law.specs.Hints.{hint_all, hints_if, is_first_for, is_later_for}
use Rattle.server_law.specs.Plan.{Plan}
use Rattle.server_law.specs.Pushes.{acks, expects_unit, unit_rule}
use Rattle.server_law.specs.Puts.{gives, settles, settles_as}
use Rattle.server_law.specs.State.{Debt, ServerModel, debt}
use Rattle.server_law.proofs.Carrying.{carried_state, followed, followed_more, with_act}
use Rattle.server_law.proofs.Debts.{settles_leaves_debt}
use Rattle.server_law.proofs.Waiters.{done_named}
use Rattle.server_core.specs.Out.{Out, going_on, made, planned, with_entry, with_letter}
use Rattle.server_core.proofs.Going.{decides, goes_nowhere, goes_on, plan_if, says_one}
use Rattle.server_core.proofs.Pushing.{moved}

-- the server while this is owed
abbrev pub owing : ServerModel → Option Debt → ServerModel
owing s owed = record s { kept = record s.kept { owed = owed } }

abbrev owing_then : Option Debt → Served → Served
owing_then owed x = record x { state = owing x.state owed }

-- Acts that neither bring a debt nor pay one do the same whatever is owed.

abbrev LeavesDebts : List Act → Type 0
LeavesDebts list = (s : ServerModel) (owed : Option Debt) → carried list (owing s owed) ≡ owing_then owed (carried list s)

hints_leave : (test : Wish → Bool) (wishes : List Wish) (more : List Act) → LeavesDebts more → LeavesDebts (hints_if test wishes ++ more)
hints_leave test [] more leaves = leaves
hints_leave test (w ∷ wishes) more leaves = by_test (test w) (hints_leave test wishes more leaves)
  where
    by_test : (t : Bool) → LeavesDebts (hints_if test wishes ++ more)
        → LeavesDebts (cond t (Hints w ∷ hints_if test wishes) (hints_if test wishes) ++ more)
    by_test true rest s owed = ap (λ x. joined (sends (Hints w) s) [] x) (rest (done (Hints w) s) owed)
    by_test false rest s owed = rest s owed

all_leave : (unit : Unit) (wishes : List Wish) → LeavesDebts (hint_all unit wishes)
all_leave unit wishes =
    let later = hints_if (is_later_for unit) wishes in
    let last = hints_leave (is_later_for unit) wishes [] (λ s owed. refl) in
    hints_leave (is_first_for unit) wishes later (subst LeavesDebts (append-nil later) last)

-- a unit is settled so
settles_leave : (id : UnitId) (s : ServerModel) → LeavesDebts (settles id s)
settles_leave id s = by_unit (find (is_free_as id) s.kept.queue.units)
  where
    by_taker : (unit : Unit) (o : Option Place) → LeavesDebts (gives s.kept unit o)
    by_taker unit None = all_leave unit s.kept.parked.wishes
    by_taker unit (Some p) = λ t owed. refl

    by_unit : (o : Option Placed) → LeavesDebts (settles_as s.kept o)
    by_unit None = λ t owed. refl
    by_unit (Some p) = by_taker p.unit (taker p.unit s.kept.parked.waiting)

settles_likewise : (id : UnitId) (s : ServerModel) (owed : Option Debt) → settles id (owing s owed) ≡ settles id s
settles_likewise id s owed = by_unit (find (is_free_as id) s.kept.queue.units)
  where
    by_taker : (unit : Unit) (o : Option Place) → gives (owing s owed).kept unit o ≡ gives s.kept unit o
    by_taker unit None = refl
    by_taker unit (Some p) = refl

    by_unit : (o : Option Placed) → settles_as (owing s owed).kept o ≡ settles_as s.kept o
    by_unit None = refl
    by_unit (Some p) = by_taker p.unit (taker p.unit s.kept.parked.waiting)

settled_owing : (id : UnitId) (s t : ServerModel) (out mid : Out) (owed : Option Debt) → made t mid ≡ going_on out (settles id s) s
    → made (owing t owed) mid ≡ going_on out (settles id (owing s owed)) (owing s owed)
settled_owing id s t out mid owed settled =
    ap (owing_then owed) settled
    ∙ ap (joined out.sends out.entries) (sym (settles_leave id s s owed))
    ∙ ap (λ l. going_on out l (owing s owed)) (sym (settles_likewise id s owed))

-- what is settled owes nothing
settled_owes : (id : UnitId) (s t : ServerModel) (out mid : Out) → made t mid ≡ going_on out (settles id s) s → s.kept.owed ≡ None
    → t.kept.owed ≡ None
settled_owes id s t out mid settled none =
    ap (λ (x : Served). x.state.kept.owed) settled
    ∙ ap (λ (u : ServerModel). u.kept.owed) (carried_state (settles id s) s)
    ∙ settles_leaves_debt id s ∙ none

-- the server stays of its run
all_config : (list : List Act) (s : ServerModel) → (all_done list s).config ≡ s.config
all_config [] s = refl
all_config (a ∷ list) s = all_config list (done a s) ∙ (done_named a s).0

-- settling a unit keeps the configuration
pub settled_config : (id : UnitId) (s t : ServerModel) (out mid : Out) → made t mid ≡ going_on out (settles id s) s → t.config ≡ s.config
settled_config id s t out mid settled =
    ap (λ (x : Served). x.state.config) settled
    ∙ ap (λ (u : ServerModel). u.config) (carried_state (settles id s) s)
    ∙ all_config (settles id s) s

-- an act that enters one thing and says nothing
enters_one : (a : Act) (s : ServerModel) (out : Out) (e : Entry) → says a s ≡ [] → entries a s ≡ e ∷ []
    → made (does a s) (with_entry out e) ≡ going_on out (a ∷ []) s
enters_one a s out e nothing one =
    let act : with_act (made s out) a ≡ made (does a s) (with_entry out e) = rw (nothing, one, append-nil out.sends) refl in
    goes_nowhere (with_entry out e) (does a s) ∙ sym (followed_more (made s out) a [] ∙ ap (λ x. followed x []) act)

module _ (s : ServerModel) (out : Out) (from : Server) (unit : Unit) (none : s.kept.owed ≡ None) (t : ServerModel) (mid : Out)
    (settled : (let v = moved s (with_arrival s.kept.queue unit) s.kept.pushing in
    made t mid ≡ going_on (with_entry out (enters.Arrived s.me unit.id)) (settles unit.id v) v)) where
  abbrev v : ServerModel
  v = moved s (with_arrival s.kept.queue unit) s.kept.pushing

  abbrev owed : Option Debt
  owed = Some (debt from unit.id)

  acked : (last : ServerModel) (end : Out) → last ≡ counted t (by.Server from)
      → end ≡ with_letter mid (posted t (to_server from (tells.PushAck unit.id)))
      → made last end ≡ going_on mid (acks (owing t owed)) (owing t owed)
  acked last end after told =
      let a = Acks from unit.id in
      let x = to_server from (tells.PushAck unit.id) in
      let paid : owing t None ≡ t =
      ap (owing t) (sym (settled_owes unit.id v t (with_entry out (enters.Arrived s.me unit.id)) mid settled none)) in
      let now = after ∙ ap (λ u. counted u (by.Server from)) (sym paid) in
      let letter = told ∙ ap (λ u. with_letter mid (posted u x)) (sym paid) in
      let goes = goes_nowhere (with_letter mid (posted (owing t None) x)) (counted (owing t None) (by.Server from))
      ∙ sym (says_one a [] (owing t owed) mid x refl refl) in
      rw (now, letter) goes

  -- the arrival of a unit is what the rule says
  pub arrives_goes : (last : ServerModel) (end : Out) → last ≡ counted t (by.Server from)
      → end ≡ with_letter mid (posted t (to_server from (tells.PushAck unit.id)))
      → (p : Plan) → unit_rule s from unit ≡ Some p → made last end ≡ planned out p s
  arrives_goes last end after told p is =
      let a = Arrives from unit in
      let id = unit.id in
      let first = enters_one a s out (enters.Arrived s.me unit.id) refl refl in
      let come : Plan = record { first = a; follow = [] } in
      let lies : Plan = record { first = a; follow = settles id ∷ [] } in
      let mid_out = with_entry out (enters.Arrived s.me unit.id) in
      let then = goes_on (settles id ∷ []) come s (does a s) (owing t owed) out mid_out mid first
      (decides (settles id) (does a s) (owing t owed) mid_out mid (settled_owing id v t mid_out mid owed settled)) in
      let all = goes_on (acks ∷ []) lies s (owing t owed) last out mid end then
      (decides acks (owing t owed) last mid end (acked last end after told)) in
      plan_if (expects_unit s.kept unit) a (settles id ∷ acks ∷ []) s out (made last end) all p is
