-- Edges along which nothing goes on.
use Rattle.std.proofs.Common.{◌≡◌, Bool, true, false, not, ◌&&◌, ◌||◌, List, [], ◌∷◌, refl, ap}
use Rattle.std.specs.Prelude.{slice_get}
use Rattle.std.specs.List.{list_all}
use Rattle.program.specs.declared.annotation.Pending.{Pending}
use Rattle.program.specs.declared.annotation.Zone.{Zone}
use Rattle.program.specs.declared.instruction.Terminator.{Terminator}
use Rattle.program.specs.declared.instruction.Terminator.TheVariants as terminator
use Rattle.program.specs.declared.function.Block.{Block}
use Rattle.ranges.specs.cfg.declared.structure.Way.{Way}
use Rattle.ranges.specs.cfg.declared.structure.Way.TheVariants.{Branch, Detached, Continued, Synced}
use Rattle.ranges.specs.declared.table.EdgeFacts.{EdgeFacts}
use Rattle.footprints.specs.Footprints.{hands_on, is_passed, are_passed, foot_passed, child_foot, child_passed_on, pending_of, passes_on}

both : (a b r s : Bool) → (r ≡ true → s ≡ true) → (a && r) ≡ true → ((a || b) && s) ≡ true
both false b r s h p = let none : false ≡ true = p in absurd cc
both true b r s h p = h p

none_handed_on : (e : EdgeFacts) (waiting pending : List Pending) → list_all (λ (q : Pending). not (hands_on e.way q.region)) pending ≡ true → are_passed e waiting pending ≡ true
none_handed_on e waiting [] p = refl
none_handed_on e waiting (q ∷ qs) p = both (not (hands_on e.way q.region)) (is_passed e waiting q.region q.zone) _ _ (none_handed_on e waiting qs) p

no_child : (blocks : List Block) (e : EdgeFacts) (waiting : List Pending) (way : Way) (t : Terminator) → child_foot blocks t ≡ [] → child_passed_on blocks e waiting way t ≡ true
no_child blocks e waiting Branch t none = refl
no_child blocks e waiting Detached t none = refl
no_child blocks e waiting (Synced region) t none = refl
no_child blocks e waiting Continued (terminator.Jump target) none = refl
no_child blocks e waiting Continued (terminator.Branch condition when_true when_false) none = refl
no_child blocks e waiting Continued (terminator.Switch width value default cases) none = refl
no_child blocks e waiting Continued (terminator.Return value) none = refl
no_child blocks e waiting Continued (terminator.Detach region body continuation) none = ap (λ (foot : List Zone). foot_passed e waiting region foot) none
no_child blocks e waiting Continued (terminator.Reattach region continuation) none = refl
no_child blocks e waiting Continued (terminator.Sync region target) none = refl

pub nothing_goes_on : (blocks : List Block) (pending : List Pending) (t : Terminator) (e : EdgeFacts) → list_all (λ (q : Pending). not (hands_on e.way q.region)) pending ≡ true →
    child_foot blocks t ≡ [] → passes_on blocks pending t e ≡ true
nothing_goes_on blocks pending t e none no_foot =
    let waiting = pending_of (slice_get blocks e.to.0) in
    rw (none_handed_on e waiting pending none, no_child blocks e waiting e.way t no_foot)
