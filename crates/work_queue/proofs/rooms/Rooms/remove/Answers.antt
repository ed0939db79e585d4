use Rattle.std.proofs.Common.{◌≡◌, ap, ◌∙◌, get_or}
use Rattle.std.specs.List.{remove}
use Rattle.work_queue.specs.Queue.{Promise}
use Rattle.work_queue.proofs.Promises.{length_told, removed_is}
use Rattle.work_queue.proofs.rooms.Rooms.remove.Goals as goal

pub returns-clause-removed : goal.returns-clause-removed
returns-clause-removed c =
    let r = c.remove.result in
    let read : r ≡ get_or c.args.self.now c.place_of-place.result r =
    c.remove.ensures.value ∙ ap (λ l. get_or l c.place_of-place.result r) c.self.view_is in
    let is = ap (λ (p : Promise). p.id) read ∙ c.place_of-place.ensures.found r in
    c.remove.ensures.items ∙ ap (λ l. remove l c.place_of-place.result) c.self.view_is
    ∙ removed_is c.args.self.now c.place_of-place.result r c.args.id c.requires.once c.place_of-place.ensures.within read is

pub returns-clause-length : goal.returns-clause-length
returns-clause-length c =
    let r = c.remove.result in
    let read : r ≡ get_or c.args.self.now c.place_of-place.result r =
    c.remove.ensures.value ∙ ap (λ l. get_or l c.place_of-place.result r) c.self.view_is in
    let is = ap (λ (p : Promise). p.id) read ∙ c.place_of-place.ensures.found r in
    λ k d within same. ap (λ (p : Promise). p.length) c.result.view_is
    ∙ length_told c.args.self.now c.place_of-place.result r c.args.id c.requires.once c.place_of-place.ensures.within read is
    k d within same
