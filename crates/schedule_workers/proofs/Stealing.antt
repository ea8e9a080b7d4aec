-- A steal, by slots, is what the definitions say of it by paths.
use Rattle.std.proofs.Common.{Vec, Global, ◌≡◌, ◌≢◌, ℕ, List, [], ◌∷◌, ◌++◌, length, reverse, Option, Some, None, Bool, true, false, cond, ◌⊎◌, inl, inr, refl, sym, ap, ◌∙◌, subst, arith, ltb, is_none, ◌&&◌}
use Rattle.std.specs.Prelude.{IsSomeAnd, IsTrue, option_and_then}
use Rattle.std.specs.Option.{option_map}
use Rattle.std.specs.Vec.{with_item}
use Rattle.std.proofs.lemmas.Bool.{lt-ltb, ltb-true}
use Rattle.std.proofs.lemmas.Bool.Decides.{eqb_tells}
use Rattle.std.proofs.lemmas.List.{reverse-reverse, get_or-set_same, get_or-set_other}
use Rattle.semantics.specs.Paths.{Path}
use Rattle.semantics.specs.Frames as frames
use Rattle.semantics.specs.Events as running
use Rattle.semantics.specs.Events.{Machine}
use Rattle.program.specs.declared.function.Program.{Program}
use Rattle.frame.specs.declared.path.Path.{Path as Name}
use Rattle.frame.specs.declared.frame.Wait.{Wait}
use Rattle.frame.specs.declared.frame.Wait.TheVariants as wait
use Rattle.frame.specs.declared.frame.Role.{Role as RoleOf}
use Rattle.frame.specs.declared.frame.Role.TheVariants as role
use Rattle.frame.specs.Reading.{role_of, wait_of}
use Rattle.cactus.specs.declared.node.Node.{Node}
use Rattle.cactus.specs.Frames.{Frames, node_at, frame_at, HasNoPath}
use Rattle.cactus.specs.ByPath.{named, IsBelow}
use Rattle.cactus.proofs.ByPathLemmas.{not_named}
use Rattle.frame_engine.specs.declared.activation.Places.{Places}
use Rattle.schedule_workers.specs.declared.activation.Activation.{Activation}
use Rattle.schedule_workers.specs.declared.run.Run.{Run}
use Rattle.schedule_workers.specs.Scheduling.{hand_of}
use Rattle.schedule_workers.specs.Tasks.{IsLowest, IsIdle, IsReady, FindsTop, nobody, no_task, task, run_by, run_at, taken, top_within, Takes}
use Rattle.schedule_workers.specs.Layouts.{layout_of}
use Rattle.schedule_workers.specs.RunShown.{CalleeStands, IsShown, ShowsAt, place_of, hands_of}
use Rattle.schedule_workers.specs.Going.{Becomes}
use Rattle.schedule_workers.proofs.Views.{hand_seen, node_tells}
use Rattle.schedule_workers.proofs.Onward.{seen}
use Rattle.schedule_workers.proofs.Written.{HandsAgree, gone_on, goes_on_shown}
use Rattle.schedule_workers.proofs.Topmost.{TopIs, ended_at, holder_is, top_is}

unless : {A : Type 0} (b : Bool) (o : Option A) → o ≡ None → cond b o None ≡ None
unless true o e = e
unless false o e = refl

-- how a frame stands that is a task's top
abbrev pub standing : Option ℕ → Wait → Option running.Status
standing None wait.Nothing = Some running.Ready
standing None (wait.Region region) = Some (running.Stalled region.0)
standing None (wait.Call child register) = None
standing (Some worker) waits = Some (running.Running worker)

pub standing_is : (g : frames.Frame) (o : Option ℕ) (w : Wait) → g.waits ≡ wait_of w → running.status_at (Some g) o ≡ standing o w
standing_is g None wait.Nothing is = ap running.waiting_status is
standing_is g None (wait.Region region) is = ap running.waiting_status is
standing_is g None (wait.Call child register) is = ap running.waiting_status is
standing_is g (Some worker) wait.Nothing is = refl
standing_is g (Some worker) (wait.Region region) is = refl
standing_is g (Some worker) (wait.Call child register) is = refl

is_child_of : (r : RoleOf) → ((r ≡ role.Body) × (running.is_child (role_of r) ≡ false)) ⊎ ((r ≢ role.Body) × (running.is_child (role_of r) ≡ true))
is_child_of role.Body = inl (refl, refl)
is_child_of (role.Child region continuation) = inr ((λ e. cc), refl)

no_child_empty : (l : List ℕ) (k : ℕ) → l ++ k ∷ [] ≢ []
no_child_empty [] k e = cc
no_child_empty (x ∷ l) k e = cc

pub ready_standing : (o : Option ℕ) (w : Wait) → standing o w ≡ Some running.Ready → (o ≡ None) × (w ≡ wait.Nothing)
ready_standing None wait.Nothing e = (refl, refl)
ready_standing None (wait.Region region) e = absurd (let f : Some (running.Stalled region.0) ≡ Some running.Ready = e in cc)
ready_standing None (wait.Call child register) e = absurd (cc)
ready_standing (Some worker) waits e = absurd (let f : Some (running.Running worker) ≡ Some running.Ready = e in cc)

ready_at : (frames : Frames Activation) (slot : ℕ) (node : Node Activation) → node_at frames slot ≡ Some node → IsSomeAnd (frame_at frames slot) IsReady → IsReady node.frame
ready_at frames slot node stands ready = rw stands at ready

-- what the code does with the slot that it found
pub data Did (k new : Run) (w : ℕ) : Option ℕ → Bool → Type 0 where
  nothing : new ≡ k → Did k new w None false
  refused : (top : ℕ) → (IsIdle k.hands.items w → IsSomeAnd (frame_at k.cactus top) IsReady → ⊥) → new ≡ k → Did k new w (Some top) false
  took : (top : ℕ) → Takes k new w top → Did k new w (Some top) true

pub did_by : (k new : Run) (w top : ℕ) (b : Bool) → (¬ IsTrue b → new ≡ k) → (IsTrue b → Takes k new w top) → (IsIdle k.hands.items w → IsSomeAnd (frame_at k.cactus top) IsReady → IsTrue b) → Did k new w (Some top) b
did_by k new w top true same takes enabled = took top (takes refl)
did_by k new w top false same takes enabled = refused top (λ idle ready. let t : IsTrue false = enabled idle ready in cc) (same (λ e. cc))

module _ (prog : Program) (places : Places) (m : Machine) (k : Run) (shown : IsShown prog places m k) where
  abbrev workers : ℕ
  workers = length k.hands.items

  -- ---- tasks

  module _ (slot : ℕ) (node : Node Activation) (stands : node_at k.cactus slot ≡ Some node) where
    below_root : (parent : ℕ) → node.parent ≡ Some parent → node.path.numbers ≢ []
    below_root parent is empty =
        let b : IsBelow k.cactus parent node.path.numbers = shown.agrees.tree.below slot parent node stands is in
        no_child_empty b.above.path.numbers b.number (sym b.is ∙ empty)

    task_at : (t : Path) (f : frames.Frame) → place_of node ≡ t → f.role ≡ role_of node.frame.frame.role → (IsLowest node × (running.is_task t (Some f) ≡ true)) ⊎ ((¬ IsLowest node) × (running.is_task t (Some f) ≡ false))
    task_at [] f place is = inl (inl (of_parent node.parent refl), refl)
      where
        empty : node.path.numbers ≡ []
        empty = sym (reverse-reverse node.path.numbers) ∙ ap reverse place

        of_parent : (o : Option ℕ) → node.parent ≡ o → node.parent ≡ None
        of_parent None e = e
        of_parent (Some p) e = absurd (below_root p e empty)
    task_at (j ∷ above) f place is =
        elim (is_child_of node.frame.frame.role) [
          | inl h ↦ inr ((λ low. elim low [ inl none ↦ not_root none | inr other ↦ other h.0 ]), ap running.is_child is ∙ h.1)
          | inr h ↦ inl (inr h.0, ap running.is_child is ∙ h.1)
        ]
      where
        not_root : node.parent ≡ None → ⊥
        not_root none =
            let empty : node.path.numbers ≡ [] = shown.agrees.tree.root slot node stands none in
            let nil : [] ≡ j ∷ above = ap reverse (sym empty) ∙ place in
            cc

    -- a frame is a task's lowest just where the definitions say so
    pub task_tells : (IsLowest node × (running.is_task (place_of node) (m.core.frames (place_of node)) ≡ true)) ⊎ ((¬ IsLowest node) × (running.is_task (place_of node) (m.core.frames (place_of node)) ≡ false))
    task_tells =
        let g = seen prog places k slot node node.frame stands m shown in
        elim (task_at (place_of node) g.frame refl g.shows.shown.role) [
          | inl h ↦ inl (h.0, ap (running.is_task (place_of node)) g.is ∙ h.1)
          | inr h ↦ inr (h.0, ap (running.is_task (place_of node)) g.is ∙ h.1)
        ]

    pub top_place : TopIs prog places m k shown m.core.peak (place_of node) (top_within k.cactus k.peak slot)
    top_place = subst (λ (n : ℕ). TopIs prog places m k shown m.core.peak (place_of node) (top_within k.cactus n slot)) shown.shows.peak (top_is prog places m k shown m.core.peak slot node stands)

    pub status_of_top : IsLowest node → (t : TopIs prog places m k shown m.core.peak (place_of node) (top_within k.cactus k.peak slot)) → running.status_of workers m (place_of node) ≡ standing t.node.frame.runner t.node.frame.frame.waits
    status_of_top lowest t =
        let is_top : running.is_task (place_of node) (m.core.frames (place_of node)) ≡ true = elim task_tells [ inl h ↦ h.1 | inr h ↦ absurd (h.0 lowest) ] in
        let g = seen prog places k t.slot t.node t.node.frame t.stands m shown in
        ap (λ b. cond b (running.top_status workers m (running.top_of m.core (place_of node))) None) is_top
        ∙ ap (running.top_status workers m) t.place
        ∙ ap (λ o. running.status_at o (running.holder workers m.hands (place_of t.node))) g.is
        ∙ ap (running.status_at (Some g.frame)) (holder_is prog places m k shown t.slot t.node t.stands)
        ∙ standing_is g.frame t.node.frame.runner t.node.frame.frame.waits g.shows.waits

    pub status_of_no_task : ¬ IsLowest node → running.status_of workers m (place_of node) ≡ None
    status_of_no_task high = elim task_tells [ inl h ↦ absurd (high h.0) | inr h ↦ ap (λ b. cond b (running.top_status workers m (running.top_of m.core (place_of node))) None) h.1 ]

  pub status_of_nobody : (path : Name) → HasNoPath k.cactus path → running.status_of workers m (reverse path.numbers) ≡ None
  status_of_nobody path none =
      let absent : named k.cactus (reverse (reverse path.numbers)) ≡ None = not_named k.cactus (reverse (reverse path.numbers)) (λ slot node stands same. none slot node stands (ap (λ (l : List ℕ). record { numbers = l }) (same ∙ reverse-reverse path.numbers))) in
      let empty = from (m.core.frames p) refl (subst (λ o. ShowsAt (layout_of prog places k.cactus m.core) places p (m.core.frames p) o) absent (shown.shows.frames p)) in
      ap (λ o. cond (running.is_task p o) (running.top_status workers m (running.top_of m.core p)) None) empty
    where
      p : Path
      p = reverse path.numbers

      from : (o : Option frames.Frame) → m.core.frames p ≡ o → ShowsAt (layout_of prog places k.cactus m.core) places p o None → m.core.frames p ≡ None
      from None e h = e
      from (Some g) e h = absurd h

  -- ---- who is idle

  abbrev idle_test : ℕ → Bool
  idle_test w = ltb w workers && is_none (m.hands w)

  idle_hand : (w : ℕ) (o : Option ℕ) → hand_of k.hands.items w ≡ o → ((o ≡ None) × (is_none (hands_of k.cactus k.hands.items w) ≡ true)) ⊎ ((o ≢ None) × (is_none (hands_of k.cactus k.hands.items w) ≡ false))
  idle_hand w None is = inl (refl, rw is refl)
  idle_hand w (Some slot) is =
      let (node, stands) = node_tells k.cactus slot (shown.agrees.held w slot is) in
      inr ((λ e. cc), ap is_none (hand_seen k.cactus k.hands.items w slot node is stands))

  idle_tells : (w : ℕ) → (IsIdle k.hands.items w × (idle_test w ≡ true)) ⊎ ((¬ IsIdle k.hands.items w) × (idle_test w ≡ false))
  idle_tells w = from (ltb w workers) refl (idle_hand w (hand_of k.hands.items w) refl)
    where
      test : (b : Bool) → is_none (hands_of k.cactus k.hands.items w) ≡ b → is_none (m.hands w) ≡ b
      test b e = ap is_none (shown.shows.hands w) ∙ e

      from : (b : Bool) → ltb w workers ≡ b → ((hand_of k.hands.items w ≡ None) × (is_none (hands_of k.cactus k.hands.items w) ≡ true)) ⊎ ((hand_of k.hands.items w ≢ None) × (is_none (hands_of k.cactus k.hands.items w) ≡ false)) → (IsIdle k.hands.items w × (idle_test w ≡ true)) ⊎ ((¬ IsIdle k.hands.items w) × (idle_test w ≡ false))
      from true is (inl h) = inl (record { is_worker = ltb-true w workers is; no_task = h.0 }, rw (is, test true h.1) refl)
      from true is (inr h) = inr ((λ i. h.0 i.no_task), rw (is, test false h.1) refl)
      from false is h = inr ((λ i. let t : ltb w workers ≡ true = lt-ltb w workers i.is_worker in cc), rw is refl)

  -- ---- the steal that is done

  module _ (w : ℕ) (t : Path) where
    abbrev stolen_to : Option Machine
    stolen_to = running.event prog workers (running.Steal w t) m

    sound : stolen_to ≡ cond (idle_test w) (running.if_ready (running.stolen m w t) (running.status_of workers m t)) None
    sound = ap (λ o. running.unless_trapped o (running.sound_event prog workers (running.Steal w t) m)) shown.shows.trapped

    undone : running.status_of workers m t ≢ Some running.Ready → stolen_to ≡ None
    undone other = sound ∙ unless (idle_test w) (running.if_ready (running.stolen m w t) (running.status_of workers m t)) (from (running.status_of workers m t) refl)
      where
        from : (o : Option running.Status) → running.status_of workers m t ≡ o → running.if_ready (running.stolen m w t) (running.status_of workers m t) ≡ None
        from None is = ap (running.if_ready (running.stolen m w t)) is
        from (Some (running.Running v)) is = ap (running.if_ready (running.stolen m w t)) is
        from (Some running.Ready) is = absurd (other is)
        from (Some (running.Stalled r)) is = ap (running.if_ready (running.stolen m w t)) is

    busy : ¬ IsIdle k.hands.items w → stolen_to ≡ None
    busy off = sound ∙ elim (idle_tells w) [ inl h ↦ absurd (off h.0) | inr h ↦ ap (λ b. cond b (running.if_ready (running.stolen m w t) (running.status_of workers m t)) None) h.1 ]

    done : IsIdle k.hands.items w → running.status_of workers m t ≡ Some running.Ready → stolen_to ≡ Some (running.stolen m w t)
    done idle ready = sound ∙ elim (idle_tells w) [
      | inl h ↦ ap (λ b. cond b (running.if_ready (running.stolen m w t) (running.status_of workers m t)) None) h.1 ∙ ap (running.if_ready (running.stolen m w t)) ready
      | inr h ↦ absurd (h.0 idle)
    ]

    module _ (top : ℕ) (node : Node Activation) (stands : node_at k.cactus top ≡ Some node) (idle : IsIdle k.hands.items w) (ready : IsReady node.frame) (is : running.top_of m.core t ≡ place_of node) where
      abbrev new_hands : Vec (Option ℕ) Global
      new_hands = with_item k.hands w (Some top)

      hand_now : (v : ℕ) → ((w ≡ v) × (hand_of new_hands.items v ≡ Some top)) ⊎ ((w ≢ v) × (hand_of new_hands.items v ≡ hand_of k.hands.items v))
      hand_now v =
          elim (eqb_tells w v) [
            | inl h ↦ inl (h.1, subst (λ x. hand_of new_hands.items x ≡ Some top) h.1 (get_or-set_same k.hands.items w (Some top) None idle.is_worker))
            | inr h ↦ inr (h.1, get_or-set_other k.hands.items w v (Some top) None (λ e. h.1 (sym e)))
          ]

      taken_hands : (g : frames.Frame) → HandsAgree prog places m (running.stolen m w t) k top node g (run_by w node.frame) new_hands
      taken_hands g = record {
        seen = seen_now;
        held = λ v s has. elim (hand_now v) [
          | inl h ↦ let same : top ≡ s = (let e : Some top ≡ Some s = sym h.1 ∙ has in cc) in rw (sym same) (rw stands refl)
          | inr h ↦ shown.agrees.held v s (sym h.1 ∙ has)
        ];
        own = λ v. elim (hand_now v) [
          | inl h ↦ ((λ e. h.1), λ e. ap Some h.0)
          | inr h ↦ ((λ e. absurd (h.0 (let f : Some w ≡ Some v = e in cc))), λ e. absurd (let runs : node.frame.runner ≡ Some v = (shown.agrees.runners top v node stands).1 (sym h.1 ∙ e) in let free = ready.unheld in cc))
        ];
        others = λ v s away. elim (hand_now v) [
          | inl h ↦ ((λ e. absurd (let none : hand_of k.hands.items v ≡ None = subst (λ x. hand_of k.hands.items x ≡ None) h.0 idle.no_task in cc)), λ e. absurd (away (let f : Some top ≡ Some s = sym h.1 ∙ e in cc)))
          | inr h ↦ ((λ e. h.1 ∙ e), λ e. sym h.1 ∙ e)
        ];
      }
        where
          seen_now : (v : ℕ) → running.with_hand m.hands w (Some (running.top_of m.core t)) v ≡ hands_of k.cactus new_hands.items v
          seen_now v =
              elim (eqb_tells w v) [
                | inl h ↦ ap (λ b. cond b (Some (running.top_of m.core t)) (m.hands v)) h.0 ∙ ap Some is ∙ sym (hand_seen k.cactus new_hands.items v top node (subst (λ x. hand_of new_hands.items x ≡ Some top) h.1 (get_or-set_same k.hands.items w (Some top) None idle.is_worker)) stands)
                | inr h ↦ ap (λ b. cond b (Some (running.top_of m.core t)) (m.hands v)) h.0 ∙ shown.shows.hands v ∙ sym (ap (option_and_then (λ x. option_map place_of (node_at k.cactus x))) (get_or-set_other k.hands.items w v (Some top) None (λ e. h.1 (sym e))))
              ]

      taken_is : taken k w top ≡ gone_on prog places m (running.stolen m w t) k top node (seen prog places k top node node.frame stands m shown).frame (run_by w node.frame) k.cells k.instructions k.moves new_hands
      taken_is = ap (λ (o : Option Activation). record k { cactus = run_at k.cactus top w o; hands = new_hands }) (ap (option_map (λ (n : Node Activation). n.frame)) stands)

      taken_shown : IsShown prog places (running.stolen m w t) (taken k w top)
      taken_shown =
          let g = seen prog places k top node node.frame stands m shown in
          let was = shown.agrees.nodes top node stands in
          subst (IsShown prog places (running.stolen m w t)) (sym taken_is)
          (goes_on_shown prog places m (running.stolen m w t) k top node g.frame (run_by w node.frame) shown stands
          (record { only = refl; fits = was.fits; waits = g.shows.waits; callee = was.callee; taker = was.taker; counts = refl })
          (record {
            here = g.is;
            elsewhere = λ q away. refl;
            peak = refl;
            result = refl;
            sound = shown.shows.trapped;
            living = λ o. refl;
            counts = λ q r. refl;
          })
          k.cells k.instructions k.moves new_hands (taken_hands g.frame) shown.shows.done (omega arith) g.shows.shown shown.shows.cells)

  -- ---- the steal, by what was found

  abbrev Comes : Run → ℕ → Path → Bool → Type 0
  Comes new w t b = Becomes prog places workers (running.Steal w t) m new b

  stays : (new : Run) (w : ℕ) (t : Path) → new ≡ k → running.event prog workers (running.Steal w t) m ≡ None → Comes new w t false
  stays new w t same none = (none, subst (IsShown prog places m) (sym same) shown)

  module _ (new : Run) (w slot : ℕ) (node : Node Activation) (stands : node_at k.cactus slot ≡ Some node) (lowest : IsLowest node) where
    abbrev t : TopIs prog places m k shown m.core.peak (place_of node) (top_within k.cactus k.peak slot)
    t = top_place slot node stands

    task_status : running.status_of workers m (place_of node) ≡ standing t.node.frame.runner t.node.frame.frame.waits
    task_status = status_of_top slot node stands lowest t

    -- a frame that waits for a call is nobody's to take
    no_call : (callee : ℕ) → t.node.frame.callee ≡ Some callee → t.node.frame.frame.waits ≢ wait.Nothing
    no_call callee some free = absurd (let none : t.node.frame.callee ≡ None = subst (λ x. CalleeStands k.cactus t.node x t.node.frame.callee) free (shown.agrees.nodes t.slot t.node t.stands).callee in cc)

    the_top : (top : ℕ) → Some top ≡ ended_at t.slot t.node.frame.callee → t.slot ≡ top
    the_top top last = from t.node.frame.callee last
      where
        from : (o : Option ℕ) → Some top ≡ ended_at t.slot o → t.slot ≡ top
        from None e = let f : Some top ≡ Some t.slot = e in cc
        from (Some callee) e = absurd (let f : Some top ≡ None = e in cc)

    steals_when : (found : Option ℕ) (did : Bool) → found ≡ ended_at t.slot t.node.frame.callee → Did k new w found did → Comes new w (place_of node) did
    steals_when found did last (nothing same) =
        stays new w (place_of node) same (undone w (place_of node) (λ e. from t.node.frame.callee refl last (ready_standing t.node.frame.runner t.node.frame.frame.waits (sym task_status ∙ e))))
      where
        from : (o : Option ℕ) → t.node.frame.callee ≡ o → None ≡ ended_at t.slot o → (t.node.frame.runner ≡ None) × (t.node.frame.frame.waits ≡ wait.Nothing) → ⊥
        from None is e free = let f : None ≡ Some t.slot = e in cc
        from (Some callee) is e free = no_call callee is free.1
    steals_when found did last (refused top refuses same) =
        stays new w (place_of node) same (elim (idle_tells w) [
          | inl idle ↦ undone w (place_of node) (λ e. refuses idle.0 (subst (λ s. IsSomeAnd (frame_at k.cactus s) IsReady) (the_top top last) (ready (ready_standing t.node.frame.runner t.node.frame.frame.waits (sym task_status ∙ e)))))
          | inr off ↦ busy w (place_of node) off.0
        ])
      where
        ready : (t.node.frame.runner ≡ None) × (t.node.frame.frame.waits ≡ wait.Nothing) → IsSomeAnd (frame_at k.cactus t.slot) IsReady
        ready h = rw t.stands (record { unheld = h.0; free = h.1 })
    steals_when found did last (took top takes) =
        let at = the_top top last in
        let is_ready = ready_at k.cactus t.slot t.node t.stands (subst (λ s. IsSomeAnd (frame_at k.cactus s) IsReady) (sym at) takes.ready) in (
          running.stolen m w (place_of node),
          done w (place_of node) takes.idle (task_status ∙ rw (is_ready.unheld, is_ready.free) refl),
          subst (IsShown prog places (running.stolen m w (place_of node))) (ap (taken k w) at ∙ sym takes.is)
              (taken_shown w (place_of node) t.slot t.node t.stands takes.idle is_ready t.place),
        )

  -- a steal is what the definitions say, whatever was found
  pub steals : (new : Run) (w : ℕ) (path : Name) (found : Option ℕ) (did : Bool) → FindsTop k.cactus k.peak path found → Did k new w found did → Comes new w (reverse path.numbers) did
  steals new w path found did finds d = from finds found did refl d
    where
      by_none : (b : Bool) (o : Option ℕ) → o ≡ None → Did k new w o b → running.status_of workers m (reverse path.numbers) ≡ None → Comes new w (reverse path.numbers) b
      by_none b o is (nothing same) absent = stays new w (reverse path.numbers) same (undone w (reverse path.numbers) (λ e. cc))
      by_none b o is (refused top refuses same) absent = stays new w (reverse path.numbers) same (undone w (reverse path.numbers) (λ e. cc))
      by_none b o is (took top takes) absent = absurd (let f : Some top ≡ None = is in cc)

      from : {o : Option ℕ} → FindsTop k.cactus k.peak path o → (q : Option ℕ) (b : Bool) → q ≡ o → Did k new w q b → Comes new w (reverse path.numbers) b
      from (nobody absent) q b is d2 = by_none b q is d2 (status_of_nobody path absent)
      from (no_task slot node stands same high) q b is d2 =
          by_none b q is d2 (subst (λ (p : Name). running.status_of workers m (reverse p.numbers) ≡ None) same (status_of_no_task slot node stands high))
      from (task slot node o stands same lowest at) q b is d2 =
          subst (λ (p : Name). Comes new w (reverse p.numbers) b) same (steals_when new w slot node stands lowest q b (is ∙ (at ∙ (top_place slot node stands).last)) d2)
