-- What stands in the slots once frames were made one on top of the other, and each knows the slot of its callee.
use Rattle.std.proofs.Common.{◌≡◌, ◌≢◌, ◌∙◌, ◌+◌, ℕ, List, [], ◌∷◌, length, Option, Some, None, inl, inr, refl, sym, ap, subst, arith}
use Rattle.std.specs.Option.{option_map}
use Rattle.std.proofs.lemmas.Bool.Decides.{eqb_tells}
use Rattle.cactus.specs.declared.node.Link.{Link}
use Rattle.cactus.specs.declared.node.Node.{Node}
use Rattle.cactus.specs.Frames.{Frames, frame_at, node_at}
use Rattle.cactus.specs.ByPath.{IsTree}
use Rattle.cactus.specs.Chain.{AddsUpTo}
use Rattle.cactus.specs.Lending.{with_frame}
use Rattle.cactus.proofs.ByPathLemmas.{written_tree}
use Rattle.cactus.proofs.FramesLemmas.{node_at-with_frame, node_at-with_frame_other}
use Rattle.schedule_workers.specs.declared.activation.Activation.{Activation}
use Rattle.schedule_workers.proofs.Uses.{made_still}
use Rattle.schedule_commit.specs.strands.Committing.{last_of, linked_up, under, under_at, waiting_at}

-- ---- slots

-- the slot is none of these
abbrev pub IsOut : ℕ → List ℕ → Type 0
IsOut z [] = Unit {0}
IsOut z (s ∷ slots) = (z ≢ s) × IsOut z slots

abbrev AreApart : List ℕ → Type 0
AreApart [] = Unit {0}
AreApart (s ∷ slots) = IsOut s slots × AreApart slots

abbrev pub AreFree : Frames Activation → List ℕ → Type 0
AreFree frames [] = Unit {0}
AreFree frames (s ∷ slots) = (node_at frames s ≡ None) × AreFree frames slots

pub none_some : {X : Type 0} {o : Option X} {x : X} → o ≡ None → o ≡ Some x → ⊥
none_some none some = let e = sym none ∙ some in cc

-- a slot with a frame is none of the free ones
pub out_of_free : (frames : Frames Activation) (z : ℕ) (n : Node Activation) → node_at frames z ≡ Some n → (slots : List ℕ) → AreFree frames slots → IsOut z slots
out_of_free frames z n stands [] free = tt
out_of_free frames z n stands (s ∷ slots) free = (λ e. none_some (ap (node_at frames) e ∙ free.0) stands, out_of_free frames z n stands slots free.1)

pub last_out : (z s : ℕ) (slots : List ℕ) → IsOut z (s ∷ slots) → z ≢ last_of s slots
last_out z s [] out = out.0
last_out z s (c ∷ slots) out = last_out z c slots out.1

-- ---- frames that are made

-- the frame of this path stands in the slot
pub record NodeIs (frames : Frames Activation) (s : ℕ) (path : List ℕ) (a : Activation) : Type 0 where
  pub node : Node Activation
  pub stands : node_at frames s ≡ Some node
  pub path_is : node.path.numbers ≡ path
  pub frame_is : node.frame ≡ a

abbrev AllStand : Frames Activation → List (Link Activation) → List ℕ → Type 0
AllStand frames [] [] = Unit {0}
AllStand frames [] (s ∷ slots) = ⊥
AllStand frames (l ∷ links) [] = ⊥
AllStand frames (l ∷ links) (s ∷ slots) = NodeIs frames s l.path.numbers l.frame × AllStand frames links slots

free_before : (old mid : Frames Activation) (s : ℕ) → node_at old s ≡ None → ((z : ℕ) → z ≢ s → node_at mid z ≡ node_at old z) → (slots : List ℕ) → AreFree mid slots → AreFree old slots
free_before old mid s none same [] free = tt
free_before old mid s none same (z ∷ slots) free =
    (elim (eqb_tells z s) [ inl h ↦ subst (λ y. node_at old y ≡ None) (sym h.1) none | inr h ↦ sym (same z h.1) ∙ free.0 ], free_before old mid s none same slots free.1)

pub chain_free : (links : List (Link Activation)) (slots : List ℕ) (old new : Frames Activation) (parent top : ℕ) → AddsUpTo old new parent links slots top → AreFree old slots
chain_free [] [] old new parent top adds = tt
chain_free [] (s ∷ slots) old new parent top adds = absurd adds
chain_free (l ∷ links) [] old new parent top adds = absurd adds
chain_free (l ∷ links) (s ∷ slots) old new parent top (mid, one, rest) = (one.free, free_before old mid s one.free one.change.others slots (chain_free links slots mid new s top rest))

chain_apart : (links : List (Link Activation)) (slots : List ℕ) (old new : Frames Activation) (parent top : ℕ) → AddsUpTo old new parent links slots top → AreApart slots
chain_apart [] [] old new parent top adds = tt
chain_apart [] (s ∷ slots) old new parent top adds = absurd adds
chain_apart (l ∷ links) [] old new parent top adds = absurd adds
chain_apart (l ∷ links) (s ∷ slots) old new parent top (mid, one, rest) =
    (out_of_free mid s _ one.change.changed slots (chain_free links slots mid new s top rest), chain_apart links slots mid new s top rest)

pub chain_out : (links : List (Link Activation)) (slots : List ℕ) (old new : Frames Activation) (parent top : ℕ) → AddsUpTo old new parent links slots top → (z : ℕ) → IsOut z slots → node_at new z ≡ node_at old z
chain_out [] [] old new parent top adds z out = ap (λ (f : Frames Activation). node_at f z) adds.0
chain_out [] (s ∷ slots) old new parent top adds z out = absurd adds
chain_out (l ∷ links) [] old new parent top adds z out = absurd adds
chain_out (l ∷ links) (s ∷ slots) old new parent top (mid, one, rest) z out = chain_out links slots mid new s top rest z out.1 ∙ one.change.others z out.0

pub chain_made : (links : List (Link Activation)) (slots : List ℕ) (old new : Frames Activation) (parent top : ℕ) → AddsUpTo old new parent links slots top → new.made ≡ old.made + length links
chain_made [] [] old new parent top adds = let e : new.made ≡ old.made = ap (λ (f : Frames Activation). f.made) adds.0 in omega (arith, e)
chain_made [] (s ∷ slots) old new parent top adds = absurd adds
chain_made (l ∷ links) [] old new parent top adds = absurd adds
chain_made (l ∷ links) (s ∷ slots) old new parent top (mid, one, rest) = let a = chain_made links slots mid new s top rest in let b = one.made in omega (arith, a, b)

chain_stands : (links : List (Link Activation)) (slots : List ℕ) (old new : Frames Activation) (parent top : ℕ) → AddsUpTo old new parent links slots top → AllStand new links slots
chain_stands [] [] old new parent top adds = tt
chain_stands [] (s ∷ slots) old new parent top adds = absurd adds
chain_stands (l ∷ links) [] old new parent top adds = absurd adds
chain_stands (l ∷ links) (s ∷ slots) old new parent top (mid, one, rest) =
    let free = chain_free links slots mid new s top rest in (
      record {
        node = record { generation = old.made; path = l.path; parent = Some parent; frame = l.frame };
        stands = chain_out links slots mid new s top rest s (out_of_free mid s _ one.change.changed slots free) ∙ one.change.changed;
        path_is = refl;
        frame_is = refl;
      },
      chain_stands links slots mid new s top rest,
    )

-- ---- callees

frame_there : (frames : Frames Activation) (s : ℕ) (n : Node Activation) → node_at frames s ≡ Some n → frame_at frames s ≡ Some n.frame
frame_there frames s n stands = ap (option_map (λ (x : Node Activation). x.frame)) stands

waiting_is : (frames : Frames Activation) (s child : ℕ) (n : Node Activation) → node_at frames s ≡ Some n → waiting_at frames s child ≡ with_frame frames s (under child n.frame)
waiting_is frames s child n stands = ap (under_at frames s child) (frame_there frames s n stands)

still_stand : (frames : Frames Activation) (s : ℕ) (a : Activation) (links : List (Link Activation)) (slots : List ℕ) → IsOut s slots → AllStand frames links slots → AllStand (with_frame frames s a) links slots
still_stand frames s a [] [] out all = tt
still_stand frames s a [] (z ∷ slots) out all = absurd all
still_stand frames s a (l ∷ links) [] out all = absurd all
still_stand frames s a (l ∷ links) (z ∷ slots) out all =
    let here = all.0 in
    (record { node = here.node; stands = node_at-with_frame_other frames s z a (λ e. out.0 (sym e)) ∙ here.stands; path_is = here.path_is; frame_is = here.frame_is }, still_stand frames s a links slots out.1 all.1)

-- the frames from this one up, each of which knows its callee
abbrev pub Held : Frames Activation → ℕ → List ℕ → Activation → List ℕ → List (Link Activation) → Type 0
Held frames s path a [] [] = NodeIs frames s path a
Held frames s path a [] (l ∷ links) = ⊥
Held frames s path a (c ∷ slots) [] = ⊥
Held frames s path a (c ∷ slots) (l ∷ links) = NodeIs frames s path (under c a) × IsOut s (c ∷ slots) × Held frames c l.path.numbers l.frame slots links

linked_out : (frames : Frames Activation) (s : ℕ) (slots : List ℕ) (z : ℕ) → IsOut z (s ∷ slots) → node_at (linked_up frames s slots) z ≡ node_at frames z
linked_out frames s [] z out = refl
linked_out frames s (c ∷ slots) z out = linked_out (waiting_at frames s c) c slots z out.1 ∙ by (frame_at frames s)
  where
    by : (o : Option Activation) → node_at (under_at frames s c o) z ≡ node_at frames z
    by None = refl
    by (Some a) = node_at-with_frame_other frames s z (under c a) out.0

linked_made : (frames : Frames Activation) (s : ℕ) (slots : List ℕ) → (linked_up frames s slots).made ≡ frames.made
linked_made frames s [] = refl
linked_made frames s (c ∷ slots) = linked_made (waiting_at frames s c) c slots ∙ by (frame_at frames s)
  where
    by : (o : Option Activation) → (under_at frames s c o).made ≡ frames.made
    by None = refl
    by (Some a) = made_still frames s (under c a)

linked_tree : (frames : Frames Activation) (s : ℕ) (slots : List ℕ) → IsTree frames → IsTree (linked_up frames s slots)
linked_tree frames s [] tree = tree
linked_tree frames s (c ∷ slots) tree = linked_tree (waiting_at frames s c) c slots (by (node_at frames s) refl)
  where
    by : (o : Option (Node Activation)) → node_at frames s ≡ o → IsTree (waiting_at frames s c)
    by None is = subst (λ (f : Frames Activation). IsTree f) (sym (ap (under_at frames s c) (ap (option_map (λ (x : Node Activation). x.frame)) is))) tree
    by (Some n) is = subst (λ (f : Frames Activation). IsTree f) (sym (waiting_is frames s c n is)) (written_tree frames s n (under c n.frame) tree is)

linked_held : (slots : List ℕ) (links : List (Link Activation)) (frames : Frames Activation) (s : ℕ) (n : Node Activation) → node_at frames s ≡ Some n → AllStand frames links slots → AreApart (s ∷ slots) →
    Held (linked_up frames s slots) s n.path.numbers n.frame slots links
linked_held [] [] frames s n stands all apart = record { node = n; stands = stands; path_is = refl; frame_is = refl }
linked_held [] (l ∷ links) frames s n stands all apart = absurd all
linked_held (c ∷ slots) [] frames s n stands all apart = absurd all
linked_held (c ∷ slots) (l ∷ links) frames s n stands all apart =
    let mid = with_frame frames s (under c n.frame) in
    let is : waiting_at frames s c ≡ mid = waiting_is frames s c n stands in
    let then : AllStand mid (l ∷ links) (c ∷ slots) = still_stand frames s (under c n.frame) (l ∷ links) (c ∷ slots) apart.0 all in
    let more : Held (linked_up mid c slots) c then.0.node.path.numbers then.0.node.frame slots links = linked_held slots links mid c then.0.node then.0.stands then.1 apart.1 in
    let named : Held (linked_up mid c slots) c l.path.numbers then.0.node.frame slots links = subst (λ (p : List ℕ). Held (linked_up mid c slots) c p then.0.node.frame slots links) then.0.path_is more in
    let framed : Held (linked_up mid c slots) c l.path.numbers l.frame slots links = subst (λ (a : Activation). Held (linked_up mid c slots) c l.path.numbers a slots links) then.0.frame_is named in
    subst (λ (f : Frames Activation). NodeIs (linked_up f c slots) s n.path.numbers (under c n.frame) × IsOut s (c ∷ slots) × Held (linked_up f c slots) c l.path.numbers l.frame slots links) (sym is) (
      record {
        node = record n { frame = under c n.frame };
        stands = linked_out mid c slots s apart.0 ∙ node_at-with_frame frames s (under c n.frame) n stands;
        path_is = refl;
        frame_is = refl;
      },
      apart.0,
      framed,
    )

-- ---- all of it

pub record AreSeated (old new : Frames Activation) (s : ℕ) (path : List ℕ) (base : Activation) (links : List (Link Activation)) (slots : List ℕ) : Type 0 where
  pub held : Held new s path base slots links
  pub out : (z : ℕ) → IsOut z (s ∷ slots) → node_at new z ≡ node_at old z
  pub free : AreFree old slots
  pub made : new.made ≡ old.made + length links

module _ (old mid : Frames Activation) (s : ℕ) (n : Node Activation) (stands : node_at old s ≡ Some n) (links : List (Link Activation)) (slots : List ℕ) (top : ℕ) (adds : AddsUpTo old mid s links slots top) (base : Activation) where
  abbrev pub final : Frames Activation
  final = linked_up (with_frame mid s base) s slots

  out : IsOut s slots
  out = out_of_free old s n stands slots (chain_free links slots old mid s top adds)

  pub still_there : node_at mid s ≡ Some n
  still_there = chain_out links slots old mid s top adds s out ∙ stands

  pub seated : AreSeated old final s n.path.numbers base links slots
  seated = record {
    held = linked_held slots links (with_frame mid s base) s (record n { frame = base }) (node_at-with_frame mid s base n still_there)
        (still_stand mid s base links slots out (chain_stands links slots old mid s top adds)) (out, chain_apart links slots old mid s top adds);
    out = λ z away. linked_out (with_frame mid s base) s slots z away ∙ (node_at-with_frame_other mid s z base away.0 ∙ chain_out links slots old mid s top adds z away.1);
    free = chain_free links slots old mid s top adds;
    made = linked_made (with_frame mid s base) s slots ∙ (made_still mid s base ∙ chain_made links slots old mid s top adds);
  }

  pub final_tree : IsTree mid → IsTree final
  final_tree tree = linked_tree (with_frame mid s base) s slots (written_tree mid s n base tree still_there)
