-- What is shown of a stage that stands as a machine: frames, hands, lines.
use Rattle.std.proofs.Common.{◌≡◌, ◌≢◌, ◌↔◌, ℕ, ◌<◌, ◌≤◌, List, length, reverse, Option, Some, None, Bool, true, false, ltb, refl, sym, ap, ◌∙◌, subst}
use Rattle.std.specs.Prelude.{IfNone, IfSome, IsSome, is_some, option_and_then}
use Rattle.std.specs.Option.{option_map}
use Rattle.std.proofs.Math.Logic.{∥∥₁_elim}
use Rattle.std.proofs.Props.{props}
use Rattle.std.proofs.Math.Nat.{ℕ_set}
use Rattle.std.proofs.Math.IntN.{ℤ_set}
use mathlib.Core.Sum.{⊎_set}
use Rattle.std.proofs.lemmas.Bool.{ltb-true, ltb-false}
use Rattle.std.proofs.lemmas.List.{get_or_past, length-reverse, reverse-reverse}
use Rattle.semantics.specs.Paths.{Path as RunningPath}
use Rattle.semantics.specs.Frames.{Frame, block_at}
use Rattle.semantics.specs.Events.{Machine}
use Rattle.program.specs.declared.function.Block.{Block}
use Rattle.frame.specs.declared.path.Path.{Path}
use Rattle.cactus.specs.declared.node.Node.{Node}
use Rattle.cactus.specs.Frames.{Frames, node_at, HasPath, HasNoPath}
use Rattle.cactus.specs.ByPath.{named}
use Rattle.cactus.proofs.ByPathLemmas.{not_named}
use Rattle.schedule_workers.specs.declared.activation.Activation.{Activation}
use Rattle.schedule_workers.specs.Layouts.{layout_of}
use Rattle.schedule_workers.specs.Scheduling.{hand_of}
use Rattle.schedule_workers.specs.RunShown.{ShowsAt, place_of}
use Rattle.schedule_workers.proofs.Onward.{seen}
use Rattle.schedule_workers.proofs.Views.{hand_seen, node_tells}
use Rattle.schedule_core.specs.declared.stage.Stage.{Stage}
use Rattle.schedule_core.specs.Lines.{StandsAt, line_in, line_of_worker, next_line, place_line}
use Rattle.schedule_core.specs.Replaying.{IsMachine}
use Rattle.schedule_core.specs.Stages.{IsState, program_of}
use Rattle.schedule_core.specs.Viewed.{place_in}
use Rattle.schedule_core.proofs.Spots.{IsUse, named_use, use_found}

-- what stands in a use of a slot
pub has_node : (frames : Frames Activation) (slot generation : ℕ) (path : Path) → HasPath frames slot generation path →
    (node : Node Activation) × (node_at frames slot ≡ Some node) × (node.path ≡ path)
has_node frames slot generation path has =
    let u : IsUse frames slot generation path = use_found frames slot generation path (named_use frames slot generation path has) in
    (u.node, u.stands, u.named)

module _ (stage : Stage) (m : Machine) (s : IsState stage m) where
  -- ---- hands

  pub hand_is : (worker slot : ℕ) (node : Node Activation) → hand_of stage.run.hands.items worker ≡ Some slot → node_at stage.run.cactus slot ≡ Some node → m.hands worker ≡ Some (place_of node)
  hand_is worker slot node hand stands = s.shown.shows.hands worker ∙ hand_seen stage.run.cactus stage.run.hands.items worker slot node hand stands

  pub no_hand : (worker : ℕ) → hand_of stage.run.hands.items worker ≡ None → m.hands worker ≡ None
  no_hand worker none = s.shown.shows.hands worker ∙ rw none refl

  -- a hand holds a living frame
  pub hand_lives : (worker slot : ℕ) → hand_of stage.run.hands.items worker ≡ Some slot → (node : Node Activation) × (node_at stage.run.cactus slot ≡ Some node)
  hand_lives worker slot hand = node_tells stage.run.cactus slot (s.shown.agrees.held worker slot hand)

  pub depth_is : (worker slot : ℕ) (node : Node Activation) → hand_of stage.run.hands.items worker ≡ Some slot → node_at stage.run.cactus slot ≡ Some node →
      Some (length node.path.numbers) ≡ option_map (λ (p : RunningPath). length p) (m.hands worker)
  depth_is worker slot node hand stands = ap Some (sym (length-reverse node.path.numbers)) ∙ sym (ap (option_map (λ (p : RunningPath). length p)) (hand_is worker slot node hand stands))

  pub no_depth : (worker : ℕ) → hand_of stage.run.hands.items worker ≡ None → None ≡ option_map (λ (p : RunningPath). length p) (m.hands worker)
  no_depth worker none = sym (ap (option_map (λ (p : RunningPath). length p)) (no_hand worker none))

  pub empty_hand : (P : Type 0) (worker slot : ℕ) → hand_of stage.run.hands.items worker ≡ Some slot → node_at stage.run.cactus slot ≡ None → P
  empty_hand P worker slot hand none = let lives = hand_lives worker slot hand in absurd (let e : None ≡ Some lives.0 = sym none ∙ lives.1 in cc)

  -- ---- frames by path

  pub gone_path : (path : Path) → HasNoPath stage.run.cactus path → m.core.frames (place_in path) ≡ None
  gone_path path none =
      let p = place_in path in
      let absent : named stage.run.cactus (reverse p) ≡ None = not_named stage.run.cactus (reverse p) (λ slot node stands same. none slot node stands (ap (λ (l : List ℕ). record { numbers = l }) (same ∙ reverse-reverse path.numbers))) in
      from (m.core.frames p) refl (subst (λ o. ShowsAt (layout_of (program_of stage) stage.places stage.run.cactus m.core) stage.places p (m.core.frames p) o) absent (s.shown.shows.frames p))
    where
      from : (o : Option Frame) → m.core.frames (place_in path) ≡ o → ShowsAt (layout_of (program_of stage) stage.places stage.run.cactus m.core) stage.places (place_in path) o None → m.core.frames (place_in path) ≡ None
      from None e h = e
      from (Some g) e h = absurd h

  pub found_path : (slot generation : ℕ) (path : Path) → HasPath stage.run.cactus slot generation path → IsSome (m.core.frames (place_in path))
  found_path slot generation path has =
      let h = has_node stage.run.cactus slot generation path has in
      let g = seen (program_of stage) stage.places stage.run slot h.0 h.0.frame h.1 m s.shown in
      subst (λ (p : Path). IsSome (m.core.frames (place_in p))) h.2 (ap is_some g.is)

  pub spot_lives : (path : Path) (o : Option (ℕ × ℕ)) → IfSome o (λ spot. HasPath stage.run.cactus spot.0 spot.1 path) → IfNone o (HasNoPath stage.run.cactus path) →
      IsSome o ↔ IsSome (m.core.frames (place_in path))
  spot_lives path None found absent = ((λ some. absurd (cc)), (λ some. let e : IsSome {T = Frame} None = subst (λ x. IsSome x) (gone_path path absent) some in absurd (cc)))
  spot_lives path (Some spot) found absent = ((λ some. found_path spot.0 spot.1 path found), (λ some. refl))

  -- ---- lines

  pub held_line : (worker slot : ℕ) (node : Node Activation) → hand_of stage.run.hands.items worker ≡ Some slot → node_at stage.run.cactus slot ≡ Some node →
      line_of_worker (program_of stage) m worker ≡ next_line (program_of stage) node.frame.frame
  held_line worker slot node hand stands =
      let prog = program_of stage in
      let g = seen prog stage.places stage.run slot node node.frame stands m s.shown in
      let by_place : place_line prog g.frame ≡ next_line prog node.frame.frame =
      λ i. option_and_then (λ (block : Block). line_in block (g.shows.shown.index i)) (block_at prog (g.shows.shown.function i) (g.shows.shown.block i)) in
      ap (λ (o : Option RunningPath). option_and_then (λ p. option_and_then (place_line prog) (m.core.frames p)) o) (hand_is worker slot node hand stands)
      ∙ (ap (λ (o : Option Frame). option_and_then (place_line prog) o) g.is ∙ by_place)

  pub idle_line : (worker : ℕ) → hand_of stage.run.hands.items worker ≡ None → line_of_worker (program_of stage) m worker ≡ None
  idle_line worker none = ap (λ (o : Option RunningPath). option_and_then (λ p. option_and_then (place_line (program_of stage)) (m.core.frames p)) o) (no_hand worker none)

  -- workers past the last are idle
  past_line : (worker : ℕ) → length stage.run.hands.items ≤ worker → line_of_worker (program_of stage) m worker ≡ None
  past_line worker past = idle_line worker (get_or_past stage.run.hands.items worker None past)

  -- where no worker stands on the line, none does
  pub stands_nowhere : (line : ℕ) → ((w : ℕ) → w < length stage.run.hands.items → line_of_worker (program_of stage) m w ≢ Some line) → ¬ StandsAt (program_of stage) m line
  stands_nowhere line none stands = by (ltb stands.0 (length stage.run.hands.items)) refl
    where
      by : (b : Bool) → ltb stands.0 (length stage.run.hands.items) ≡ b → ⊥
      by true is = none stands.0 (ltb-true stands.0 (length stage.run.hands.items) is) stands.1
      by false is = let e : None ≡ Some line = sym (past_line stands.0 (ltb-false stands.0 (length stage.run.hands.items) is)) ∙ stands.1 in cc

-- ---- without a state

below_prop : (a b : ℕ) → IsProp (a < b)
below_prop a b = Prim.hlevel (props, ⊎_set, ℕ_set, ℤ_set)

-- what is found was given out
pub spot_given : (stage : Stage) → ∥ IsMachine stage ∥₁ → (path : Path) (o : Option (ℕ × ℕ)) → IfSome o (λ spot. HasPath stage.run.cactus spot.0 spot.1 path) → IfSome o (λ spot. spot.1 < stage.run.cactus.made)
spot_given stage kept path None found = tt
spot_given stage kept path (Some spot) found =
    let u : IsUse stage.run.cactus spot.0 spot.1 path = use_found stage.run.cactus spot.0 spot.1 path (named_use stage.run.cactus spot.0 spot.1 path found) in
    ∥∥₁_elim kept (below_prop spot.1 stage.run.cactus.made) (λ k. subst (λ g. g < stage.run.cactus.made) u.since (k.given spot.0 u.node u.stands))
