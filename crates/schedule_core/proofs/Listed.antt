-- The paths of the living frames, taken slot by slot.
use Rattle.std.proofs.Common.{◌≡◌, ℕ, ◌+◌, List, [], ◌∷◌, ◌++◌, length, length-append, Contains, reverse, Option, Some, None, ◌⊎◌, inl, inr, refl, sym, ap, ◌∙◌, subst, arith}
use Rattle.std.specs.Prelude.{IsSome, is_some, count_by}
use Rattle.std.proofs.lemmas.List.{reverse-reverse}
use Rattle.std.proofs.lemmas.List.Elements.{Contains-append_left, Contains-append_right, Contains-push, Contains-push_cases}
use Rattle.semantics.specs.Frames.{Frame}
use Rattle.semantics.specs.Events.{Machine}
use Rattle.frame.specs.declared.path.Path.{Path}
use Rattle.slab.specs.Slab.{entries_from}
use Rattle.slab.proofs.SlabLemmas.{Contains-cons_cases, Contains-entries, length-entries_from}
use Rattle.cactus.specs.declared.node.Node.{Node}
use Rattle.cactus.specs.Frames.{Frames, node_at}
use Rattle.cactus.specs.ByPath.{named}
use Rattle.cactus.proofs.ByPathLemmas.{FoundAt, named_found}
use Rattle.schedule_workers.specs.declared.activation.Activation.{Activation}
use Rattle.schedule_workers.specs.Layouts.{layout_of}
use Rattle.schedule_workers.specs.RunShown.{ShowsAt}
use Rattle.schedule_workers.proofs.Onward.{seen}
use Rattle.schedule_core.specs.declared.stage.Stage.{Stage}
use Rattle.schedule_core.specs.FrameViews.{AreLiving}
use Rattle.schedule_core.specs.Stages.{IsState, program_of}
use Rattle.schedule_core.specs.Viewed.{place_in}
use Rattle.schedule_core.proofs.Firsts.{listed_node}
use Rattle.schedule_core.proofs.Living.{counts_frames}

-- a frame of this path stands in some slot
pub record Stands (frames : Frames Activation) (path : Path) : Type 0 where
  pub slot : ℕ
  pub node : Node Activation
  pub stands : node_at frames slot ≡ Some node
  pub is : node.path ≡ path

-- each frame is among those that are left, or its path among those that were taken
pub record Takes (frames : Frames Activation) (left : List (ℕ × Node Activation)) (paths : List Path) : Type 0 where
  pub stand : (slot : ℕ) (node : Node Activation) → Contains left (slot, node) → node_at frames slot ≡ Some node
  pub taken : (path : Path) → Contains paths path → Stands frames path
  pub remain : (slot : ℕ) (node : Node Activation) → node_at frames slot ≡ Some node → Contains left (slot, node) ⊎ Contains paths node.path
  pub count : length paths + length left ≡ count_by is_some frames.nodes

none_in : {X : Type 0} (x : X) → Contains [] x → ⊥
none_in x there = let (k, below, is) = there in absurd (omega arith)

pub begins : (frames : Frames Activation) (left : List (ℕ × Node Activation)) → left ≡ entries_from 0 frames.nodes → Takes frames left []
begins frames left all =
    record {
      stand = λ slot node there. (Contains-entries (record { slots = frames.nodes; vacant_key = 0; capacity = 0 }) slot node).0 (subst (λ (l : List (ℕ × Node Activation)). Contains l (slot, node)) all there);
      taken = λ path there. absurd (none_in path there);
      remain = λ slot node stands. inl (subst (λ (l : List (ℕ × Node Activation)). Contains l (slot, node)) (sym all) (listed_node frames slot node stands));
      count = let long = ap (λ (l : List (ℕ × Node Activation)). length l) all in let each = length-entries_from 0 frames.nodes in omega (arith, long, each);
    }

module _ (frames : Frames Activation) (left more : List (ℕ × Node Activation)) (slot : ℕ) (node : Node Activation) (paths after : List Path)
    (steps : left ≡ (slot, node) ∷ more) (pushed : after ≡ paths ++ node.path ∷ []) (t : Takes frames left paths) where
  in_left : (s : ℕ) (n : Node Activation) → Contains ((slot, node) ∷ more) (s, n) → node_at frames s ≡ Some n
  in_left s n there = t.stand s n (subst (λ (l : List (ℕ × Node Activation)). Contains l (s, n)) (sym steps) there)

  here : node_at frames slot ≡ Some node
  here = in_left slot node (Contains-append_left ((slot, node) ∷ []) more (slot, node) (Contains-push [] (slot, node)))

  in_after : (path : Path) → Contains (paths ++ node.path ∷ []) path → Contains after path
  in_after path there = subst (λ (l : List Path). Contains l path) (sym pushed) there

  taken_next : (path : Path) → Contains after path → Stands frames path
  taken_next path there =
      elim (Contains-push_cases paths node.path path (subst (λ (l : List Path). Contains l path) pushed there)) [
        | inl old ↦ t.taken path old
        | inr new ↦ record { slot = slot; node = node; stands = here; is = new }
      ]

  remain_next : (s : ℕ) (n : Node Activation) → node_at frames s ≡ Some n → Contains more (s, n) ⊎ Contains after n.path
  remain_next s n stands =
      elim (t.remain s n stands) [
        | inr done ↦ inr (in_after n.path (Contains-append_left paths (node.path ∷ []) n.path done))
        | inl listed ↦ elim (Contains-cons_cases (slot, node) (s, n) more (subst (λ (l : List (ℕ × Node Activation)). Contains l (s, n)) steps listed)) [
          | inl first ↦ inr (in_after n.path (subst (λ (p : ℕ × Node Activation). Contains (paths ++ node.path ∷ []) p.1.path) first (Contains-push paths node.path)))
          | inr rest ↦ inl rest
        ]
      ]

  pub goes_on : Takes frames more after
  goes_on =
      record {
        stand = λ s n there. in_left s n (Contains-append_right ((slot, node) ∷ []) more (s, n) there);
        taken = taken_next;
        remain = remain_next;
        count =
            let was = t.count in
            let one = ap (λ (l : List (ℕ × Node Activation)). length l) steps in
            let more_paths = ap (λ (l : List Path). length l) pushed in
            let each = length-append paths (node.path ∷ []) in
            omega (arith, was, one, more_paths, each);
      }

module _ (stage : Stage) (m : Machine) (s : IsState stage m) (paths : List Path) (t : Takes stage.run.cactus [] paths) where
  live : (path : Path) → Contains paths path → IsSome (m.core.frames (place_in path))
  live path there =
      let h = t.taken path there in
      let g = seen (program_of stage) stage.places stage.run h.slot h.node h.node.frame h.stands m s.shown in
      subst (λ (p : Path). IsSome (m.core.frames (place_in p))) h.is (ap is_some g.is)

  listed : (path : Path) → IsSome (m.core.frames (place_in path)) → Contains paths path
  listed path lives = from (named stage.run.cactus (reverse (place_in path))) refl (s.shown.shows.frames (place_in path))
    where
      from : (o : Option (Node Activation)) → named stage.run.cactus (reverse (place_in path)) ≡ o →
          ShowsAt (layout_of (program_of stage) stage.places stage.run.cactus m.core) stage.places (place_in path) (m.core.frames (place_in path)) o → Contains paths path
      from None e shows = absurd (gone (m.core.frames (place_in path)) lives shows)
        where
          gone : (f : Option Frame) → IsSome f → ShowsAt (layout_of (program_of stage) stage.places stage.run.cactus m.core) stage.places (place_in path) f None → ⊥
          gone None some h = cc
          gone (Some g) some h = h
      from (Some node) e shows =
          let f : FoundAt stage.run.cactus (reverse (place_in path)) node = named_found stage.run.cactus (reverse (place_in path)) node e in
          let is : node.path ≡ path = ap (λ (l : List ℕ). record { numbers = l }) (f.is ∙ reverse-reverse path.numbers) in
          elim (t.remain f.slot node f.stands) [
            | inl rest ↦ absurd (none_in (f.slot, node) rest)
            | inr there ↦ subst (λ (p : Path). Contains paths p) is there
          ]

  pub all_taken : AreLiving m paths
  all_taken = record { live = live; listed = listed; once = counts_frames stage m (length paths) s (let all = t.count in omega (arith, all)) }
