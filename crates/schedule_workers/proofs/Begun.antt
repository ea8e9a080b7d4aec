-- A frame that is called: the slots with it, and with its caller, which waits.
use Rattle.std.proofs.Common.{◌≡◌, ◌≢◌, ℕ, ◌+◌, List, [], ◌∷◌, ◌++◌, reverse, Some, None, inl, inr, refl, sym, ap, ◌∙◌, subst}
use Rattle.std.proofs.lemmas.Bool.Decides.{eqb_tells}
use Rattle.std.proofs.lemmas.List.{reverse-append, reverse-reverse}
use Rattle.semantics.specs.Paths.{Path}
use Rattle.semantics.proofs.Places.{same_path_tells}
use Rattle.cactus.specs.declared.node.Node.{Node}
use Rattle.cactus.specs.Frames.{Frames, node_at, AddsChild}
use Rattle.cactus.specs.ByPath.{named, child_node, IsTree, Binds, GrowsMap}
use Rattle.cactus.specs.Lending.{with_frame}
use Rattle.schedule_workers.specs.declared.activation.Activation.{Activation}
use Rattle.schedule_workers.specs.RunShown.{place_of}
use Rattle.schedule_workers.proofs.Views.{named_written, still, stood, tree_after}

pub back_down : (numbers : List ℕ) (number : ℕ) → reverse (number ∷ reverse numbers) ≡ numbers ++ number ∷ []
back_down numbers number = ap reverse (sym (reverse-append numbers (number ∷ []))) ∙ reverse-reverse (numbers ++ number ∷ [])

module _ (old mid : Frames Activation) (slot number : ℕ) (b : Activation) (child : ℕ) (adds : AddsChild old mid slot number b child) (grows : GrowsMap old mid slot number b)
    (tree : IsTree old) (node : Node Activation) (stands : node_at old slot ≡ Some node) (fresh : named old (node.path.numbers ++ number ∷ []) ≡ None) (changed : Activation) where
  abbrev numbers : List ℕ
  numbers = node.path.numbers ++ number ∷ []

  -- the callee's path, and its node
  abbrev pub path : Path
  path = number ∷ place_of node

  abbrev pub begun : Node Activation
  begun = child_node old node slot number b

  pub begun_path : place_of begun ≡ path
  begun_path = reverse-append node.path.numbers (number ∷ [])

  back : reverse path ≡ numbers
  back = back_down node.path.numbers number

  binds : Binds old mid numbers (Some begun)
  binds = grows node tree stands fresh

  pub free : node_at old child ≡ None
  free = adds.added.free

  pub away : slot ≢ child
  away e = let none : node_at old slot ≡ None = subst (λ s. node_at old s ≡ None) (sym e) free in let x : None ≡ Some node = sym none ∙ stands in absurd cc

  stands_mid : node_at mid slot ≡ Some node
  stands_mid = adds.added.change.others slot away ∙ stands

  begun_mid : node_at mid child ≡ Some begun
  begun_mid =
      let same : adds.above ≡ node = (let e : Some adds.above ≡ Some node = sym adds.stands ∙ stands in cc) in
      let at : adds.path.numbers ≡ numbers = adds.numbers ∙ ap (λ (n : Node Activation). n.path.numbers ++ number ∷ []) same in
      adds.added.change.changed ∙ ap (λ (l : List ℕ). Some (record { generation = old.made; path = record { numbers = l }; parent = Some slot; frame = b })) at

  abbrev pub after : Frames Activation
  after = with_frame mid slot changed

  abbrev pub caller : Node Activation
  caller = record node { frame = changed }

  pub tree_now : IsTree after
  tree_now = tree_after mid binds.tree slot node stands_mid changed

  -- ---- by path

  pub data NamedNow (q : Path) : Type 0 where
    the_caller : place_of node ≡ q → named after (reverse q) ≡ Some caller → NamedNow q
    the_callee : path ≡ q → named after (reverse q) ≡ Some begun → NamedNow q
    another : place_of node ≢ q → path ≢ q → named after (reverse q) ≡ named old (reverse q) → NamedNow q

  off_caller : (q : Path) → place_of node ≢ q → named after (reverse q) ≡ named mid (reverse q) → NamedNow q
  off_caller q off same =
      elim (same_path_tells path q) [
        | inl h ↦ the_callee h.1 (same ∙ subst (λ x. named mid (reverse x) ≡ Some begun) h.1 (ap (named mid) back ∙ binds.here))
        | inr h ↦ another off h.1 (same ∙ binds.elsewhere (reverse q) (λ e. h.1 (sym begun_path ∙ (ap reverse (sym e) ∙ reverse-reverse q))))
      ]

  pub named_now : (q : Path) → NamedNow q
  named_now q = elim (named_written mid binds.tree slot node stands_mid changed q) [ inl h ↦ the_caller h.0 h.1 | inr h ↦ off_caller q h.0 h.1 ]

  -- ---- by slot

  pub data StoodNow (s : ℕ) (x : Node Activation) : Type 0 where
    as_caller : slot ≡ s → caller ≡ x → StoodNow s x
    as_callee : child ≡ s → begun ≡ x → StoodNow s x
    as_before : s ≢ slot → s ≢ child → node_at old s ≡ Some x → StoodNow s x

  in_mid : (s : ℕ) (x : Node Activation) → s ≢ slot → node_at mid s ≡ Some x → StoodNow s x
  in_mid s x off here =
      elim (eqb_tells child s) [
        | inl h ↦ as_callee h.1 (let e : Some begun ≡ Some x = sym begun_mid ∙ subst (λ y. node_at mid y ≡ Some x) (sym h.1) here in cc)
        | inr h ↦ as_before off (λ e. h.1 (sym e)) (sym (adds.added.change.others s (λ e. h.1 (sym e))) ∙ here)
      ]

  pub stood_now : (s : ℕ) (x : Node Activation) → node_at after s ≡ Some x → StoodNow s x
  stood_now s x here = elim (stood mid binds.tree slot node stands_mid changed s x here) [ inl h ↦ as_caller h.0 h.1 | inr h ↦ in_mid s x h.0 h.1 ]

  pub not_child : (s : ℕ) (x : Node Activation) → node_at old s ≡ Some x → s ≢ child
  not_child s x here e = let none : node_at old s ≡ None = subst (λ y. node_at old y ≡ None) (sym e) free in let n : None ≡ Some x = sym none ∙ here in absurd cc

  -- what stood in a slot is there, with its path
  pub still_now : (s : ℕ) (x : Node Activation) → node_at old s ≡ Some x → (y : Node Activation) × (node_at after s ≡ Some y) × (y.path ≡ x.path)
  still_now s x here = still mid binds.tree slot node stands_mid changed s x (adds.added.change.others s (not_child s x here) ∙ here)

  pub callee_now : node_at after child ≡ Some begun
  callee_now =
      let (y, now, same) = still mid binds.tree slot node stands_mid changed child begun begun_mid in
      from (stood_now child y now) now
    where
      from : {y : Node Activation} → StoodNow child y → node_at after child ≡ Some y → node_at after child ≡ Some begun
      from (as_caller e is) now = absurd (away e)
      from (as_callee e is) now = now ∙ ap Some (sym is)
      from (as_before off none is) now = absurd (none refl)

  pub caller_now : node_at after slot ≡ Some caller
  caller_now =
      let (y, now, same) = still mid binds.tree slot node stands_mid changed slot node stands_mid in
      from (stood_now slot y now) now
    where
      from : {y : Node Activation} → StoodNow slot y → node_at after slot ≡ Some y → node_at after slot ≡ Some caller
      from (as_caller e is) now = now ∙ ap Some (sym is)
      from (as_callee e is) now = absurd (away (sym e))
      from (as_before off none is) now = absurd (off refl)

  pub made_now : after.made ≡ old.made + 1
  made_now = rw stands_mid adds.added.made
