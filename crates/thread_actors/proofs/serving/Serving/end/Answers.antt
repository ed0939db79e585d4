use Rattle.std.proofs.Common.{◌≡◌, Option, None, Some, ap, sym, ◌∙◌}
use Rattle.server_core.specs.Left.{left_of}
use Rattle.thread_actors.specs.declared.faults.ActorFault.{ActorFault}
use Rattle.thread_actors.specs.declared.faults.ActorFault.TheVariants as faults
use Rattle.thread_actors.proofs.Ends.{ends_whole}
use Rattle.thread_actors.proofs.serving.Serving.end.Goals.{in-Ok, in-Err}
use Rattle.thread_actors.proofs.serving.Serving.end.Goals as goal

no_fault : {A : Type 0} (p : A × Option ActorFault) (a : A) (t : ActorFault) → p ≡ (a, Some t) → p.1 ≡ None → ⊥
no_fault {A} p a t is none = let some : Some t ≡ None = sym (ap (λ (q : A × Option ActorFault). q.1) is) ∙ none in absurd (cc)

fault_is : {A : Type 0} (p : A × Option ActorFault) (a : A) (o : Option ActorFault) (f : ActorFault) → p ≡ (a, o)
    → p.1 ≡ Some f → o ≡ Some f
fault_is {A} p a o f is some = sym (ap (λ (q : A × Option ActorFault). q.1) is) ∙ some

pub returns : goal.returns
returns g c =
    let self = c.args.self in
    let left : c.match-left.left.1 ≡ None → c.match-left.left.0.items ≡ left_of self.state = elim c.match-left.branch [
      | in-Ok w ↦ λ none. rw w.left-is w.in-Ok.ensures
      | in-Err w ↦ λ none. absurd (no_fault c.match-left.left _ _ w.left-is none)
    ] in
    let memory : (f : ActorFault) → c.match-left.left.1 ≡ Some f → f ≡ faults.Memory = elim c.match-left.branch [
      | in-Ok w ↦ λ f some. absurd (let no = fault_is c.match-left.left _ _ f w.left-is some in cc)
      | in-Err w ↦ λ f some. let same = fault_is c.match-left.left _ _ f w.left-is some in cc
    ] in
    ends_whole self.config self.me self.desk self.state c.match-left.left.0.items c.match-left.left.1 self.desk_is.0 self.desk_is.1
    self.run_is c.requires.follows c.requires.ended left memory
