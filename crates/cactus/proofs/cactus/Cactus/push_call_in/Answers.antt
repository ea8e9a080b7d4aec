use Rattle.std.proofs.Common.{◌≡◌, ℕ, [], ◌∷◌, ◌++◌, Some, Result, sym, ap, ◌∙◌}
use Rattle.std.specs.Prelude.{Ok, Err, OnOk}
use Rattle.frame.specs.declared.path.Path.{Path}
use Rattle.lists.specs.declared.memory.OutOfMemory.{OutOfMemory}
use Rattle.cactus.specs.declared.node.Node.{Node}
use Rattle.cactus.specs.Frames.{Frames, node_at, IsAdded, AddsChild}
use Rattle.cactus.specs.ByPath.{GrowsMap}
use Rattle.cactus.proofs.ByPathLemmas.{child_binds}
use Rattle.cactus.proofs.cactus.Cactus.push_call_in.Goals as goal

child_added : {F X : Type 0} (r : Result X OutOfMemory) (old new : Frames F) (parent number : ℕ) (frame : F) (slot : ℕ) (above : Node F) (path : Path) → node_at old parent ≡ Some above → path.numbers ≡ above.path.numbers ++ number ∷ [] → OnOk r (IsAdded old new path (Some parent) frame slot) → OnOk r (AddsChild old new parent number frame slot)
child_added (Ok x) old new parent number frame slot above path stands numbers added = record { above = above; stands = stands; path = path; numbers = numbers; added = added }
child_added (Err e) old new parent number frame slot above path stands numbers added = tt

grown : {F X : Type 0} (r : Result X OutOfMemory) (old new : Frames F) (parent number : ℕ) (frame : F) (slot : ℕ) → OnOk r (AddsChild old new parent number frame slot) → OnOk r (GrowsMap old new parent number frame)
grown (Ok x) old new parent number frame slot adds = child_binds old new parent number frame slot adds
grown (Err e) old new parent number frame slot adds = tt

pub returns-clause-ok : goal.returns-clause-ok
returns-clause-ok g c =
    let stands : node_at c.args.self.now c.args.caller ≡ Some c.index.result.now = sym (ap (λ (f : Frames g.row.F.Denot). node_at f c.args.caller) c.self.view_is) ∙ c.index.ensures in
    child_added c.put_in.result c.args.self.now c.put_in.new.self c.args.caller c.args.number c.args.frame c.args.slot c.index.result.now c.in_ok-path.path stands c.in_ok-path.ensures c.put_in.ensures.ok

pub returns-clause-map : goal.returns-clause-map
returns-clause-map g c = grown c.put_in.result c.args.self.now c.put_in.new.self c.args.caller c.args.number c.args.frame c.args.slot (returns-clause-ok g c)
