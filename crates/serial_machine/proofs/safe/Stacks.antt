-- The frames of a stack by their paths: each was made by the one below it.
use Rattle.std.proofs.Common.{◌≡◌, ℕ, zero, suc, ◌<◌, ◌≤◌, List, [], ◌∷◌, length, Option, Some, None, Bool, true, false, cond, is_none, refl, ap, sym, ◌∙◌, arith}
use Rattle.std.specs.Prelude.{⊤}
use Rattle.semantics.specs.Paths.{Path, same_path}
use Rattle.semantics.specs.Frames.{Wait, Free, OnRegion, OnCall, Halted, Role, Child, Body, Frame}
use Rattle.semantics.specs.State.{State, all_below, may_go, childless, outside, override}
use Rattle.semantics.proofs.Actions.{same_path_itself}
use Rattle.semantics.proofs.Places.{same_path_apart}
use Rattle.laws_strands.specs.stacks.Strands.{Placed}
use Rattle.serial_stack.specs.Steps.{Run}

abbrev pub at_path : List Placed → Path → Option Frame
at_path [] x = None
at_path (g ∷ below) x = cond (same_path g.path x) (Some g.frame) (at_path below x)

-- down to the root
abbrev pub Stacked : Path → List Placed → Type 0
Stacked p [] = p ≡ []
Stacked p (g ∷ below) = (k : ℕ) × (p ≡ k ∷ g.path) × Stacked g.path below

-- the frame on top, and those below it
abbrev pub stack_of : Run → List Placed
stack_of s = record { path = s.path; frame = s.frame } ∷ s.below

pub higher : (p x : Path) → length p < length x → same_path p x ≡ false
higher p x low = same_path_apart p x (λ e. let l : length p ≡ length x = ap (λ (q : Path). length q) e in absurd (omega (arith, low, l)))

pub lower : (p x : Path) → length x < length p → same_path p x ≡ false
lower p x low = same_path_apart p x (λ e. let l : length p ≡ length x = ap (λ (q : Path). length q) e in absurd (omega (arith, low, l)))

-- nothing stands at the height of the one on top, or above it
pub none_higher : (p : Path) (below : List Placed) (x : Path) → Stacked p below → length p ≤ length x → at_path below x ≡ None
none_higher p [] x h high = refl
none_higher p (g ∷ below) x h high =
    let long : length p ≡ suc (length g.path) = ap (λ (q : Path). length q) h.1 in
    ap (λ (b : Bool). cond b (Some g.frame) (at_path below x)) (higher g.path x (omega (arith, long, high))) ∙ none_higher g.path below x h.2 (omega (arith, long, high))

pub on_top : (s : Run) → at_path (stack_of s) s.path ≡ Some s.frame
on_top s = ap (λ (b : Bool). cond b (Some s.frame) (at_path s.below s.path)) (same_path_itself s.path)

pub no_children : (s : Run) → Stacked s.path s.below → (k : ℕ) → at_path (stack_of s) (k ∷ s.path) ≡ None
no_children s h k =
    ap (λ (b : Bool). cond b (Some s.frame) (at_path s.below (k ∷ s.path))) (higher s.path (k ∷ s.path) (omega arith)) ∙ none_higher s.path s.below (k ∷ s.path) h (omega arith)

-- ---- a frame that goes on

abbrev pub IsAwake : Wait → Type 0
IsAwake Free = ⊤
IsAwake (OnRegion r) = ⊤
IsAwake (OnCall k d) = ⊥
IsAwake Halted = ⊥

all_true : (n : ℕ) (test : ℕ → Bool) → ((k : ℕ) → test k ≡ true) → all_below n test ≡ true
all_true zero test h = refl
all_true (suc n) test h = rw (h n) (all_true n test h)

pub may : (s : State) (p : Path) (made : ℕ) (w : Wait) → IsAwake w → ((k : ℕ) → s.frames (k ∷ p) ≡ None) → may_go s p made w ≡ true
may s p made Free awake bare = refl
may s p made (OnRegion r) awake bare = all_true made (λ k. outside r (s.frames (k ∷ p))) (λ k. ap (outside r) (bare k))
may s p made (OnCall k d) awake bare = absurd awake
may s p made Halted awake bare = absurd awake

pub none_left : (s : State) (p : Path) (made : ℕ) → ((k : ℕ) → s.frames (k ∷ p) ≡ None) → childless s p made ≡ true
none_left s p made bare = all_true made (λ k. is_none (s.frames (k ∷ p))) (λ k. ap (λ (o : Option Frame). is_none o) (bare k))

-- ---- a path's frame after a change

pub put : (b : Bool) (f w : Frame) (v u : Option Frame) → v ≡ cond b (Some f) u → override (cond b (Some (Some w)) None) v ≡ cond b (Some w) u
put true f w v u e = refl
put false f w v u e = e

pub put_two : (b d : Bool) (f w x : Frame) (v u : Option Frame) → (b ≡ true → d ≡ true → ⊥) → v ≡ cond b (Some f) u → override (cond b (Some (Some w)) (cond d (Some (Some x)) None)) v ≡ cond d (Some x) (cond b (Some w) u)
put_two true true f w x v u never e = absurd (never refl refl)
put_two true false f w x v u never e = refl
put_two false true f w x v u never e = refl
put_two false false f w x v u never e = e

pub gone : (b : Bool) (f : Frame) (v u : Option Frame) → (b ≡ true → u ≡ None) → v ≡ cond b (Some f) u → override (cond b (Some None) None) v ≡ u
gone true f v u none e = sym (none refl)
gone false f v u none e = e

pub handed : (b d : Bool) (f g w : Frame) (v u : Option Frame) → (b ≡ true → d ≡ false) → (b ≡ true → u ≡ None) → v ≡ cond b (Some f) (cond d (Some g) u) →
    override (cond b (Some None) (cond d (Some (Some w)) None)) v ≡ cond d (Some w) u
handed true d f g w v u off none e = sym (ap (λ (t : Bool). cond t (Some w) u) (off refl) ∙ none refl)
handed false true f g w v u off none e = refl
handed false false f g w v u off none e = e

-- ---- owners: a detached child's home is below it

abbrev pub IsOwner : Role → Path → Path → Type 0
IsOwner Body home p = ⊤
IsOwner (Child r c) home p = length home < length p

abbrev pub AreOwners : List Placed → Type 0
AreOwners [] = ⊤
AreOwners (g ∷ below) = IsOwner g.frame.role g.frame.home g.path × AreOwners below

-- a path is as long as the stack below it
pub stack_long : (p : Path) (below : List Placed) → Stacked p below → length p ≡ length below
stack_long p [] h = ap (λ (q : Path). length q) h
stack_long p (g ∷ below) h =
    let long : length p ≡ suc (length g.path) = ap (λ (q : Path). length q) h.1 in
    let rest : length g.path ≡ length below = stack_long g.path below h.2 in
    long ∙ ap suc rest
