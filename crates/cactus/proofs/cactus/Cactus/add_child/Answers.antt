use Rattle.std.proofs.Common.{◌≡◌, ℕ, [], ◌∷◌, ◌++◌, Some, Result, IfOk, sym, ap, ◌∙◌}
use Rattle.std.proofs.lemmas.Result.{IfOk-weaker}
use Rattle.frame.specs.declared.path.Path.{Path}
use Rattle.lists.specs.declared.memory.OutOfMemory.{OutOfMemory}
use Rattle.cactus.specs.declared.node.Node.{Node}
use Rattle.cactus.specs.Frames.{Frames, node_at, IsAdded, AddsChild}
use Rattle.cactus.proofs.ByPathLemmas.{grows}
use Rattle.cactus.proofs.cactus.Cactus.add_child.Goals as goal

child_added : {F : Type 0} (r : Result ℕ OutOfMemory) (old new : Frames F) (parent number : ℕ) (frame : F) (above : Node F) (path : Path) → node_at old parent ≡ Some above → path.numbers ≡ above.path.numbers ++ number ∷ [] → IfOk r (IsAdded old new path (Some parent) frame) → IfOk r (AddsChild old new parent number frame)
child_added r old new parent number frame above path stands numbers added =
    IfOk-weaker r (IsAdded old new path (Some parent) frame) (AddsChild old new parent number frame) (λ slot is. record { above = above; stands = stands; path = path; numbers = numbers; added = is }) added

pub returns-clause-ok : goal.returns-clause-ok
returns-clause-ok g c =
    let stands : node_at c.args.self.now c.args.parent ≡ Some c.index.result.now = sym (ap (λ (f : Frames g.row.F.Denot). node_at f c.args.parent) c.self.view_is) ∙ c.index.ensures in
    child_added c.put.result c.args.self.now c.put.new.self c.args.parent c.args.number c.args.frame c.index.result.now c.in_ok-path.path stands c.in_ok-path.ensures c.put.ensures.ok

pub returns-clause-map : goal.returns-clause-map
returns-clause-map g c = grows c.put.result c.args.self.now c.put.new.self c.args.parent c.args.number c.args.frame (returns-clause-ok g c)
