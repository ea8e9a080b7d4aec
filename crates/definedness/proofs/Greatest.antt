-- The greatest labelling, as far as it is made.
use Rattle.std.proofs.Common.{◌≡◌, ℕ, ◌-◌, ◌<◌, ◌≤◌, Bool, true, false, List, [], ◌∷◌, ◌++◌, Option, Some, None, length, get_or, inl, inr, refl, sym, ap, ⊎_elim, ◌∙◌, arith}
use Rattle.std.specs.Prelude.{slice_get}
use Rattle.std.specs.List.{All, AllWithin, Contains}
use Rattle.std.proofs.lemmas.Bool.{cases_eq, cases_lt, true≢false, false≢true, false_from_ne_true}
use Rattle.std.proofs.lemmas.List.{get_or_past}
use Rattle.std.proofs.lemmas.List.Elements.{All-weaker, All-contains, Contains-get_or, Contains-push_cases}
use Rattle.std.proofs.lemmas.List.Sums.{count_by-le-length}
use Rattle.std.proofs.lemmas.Option.{slice_get-get_or, slice_get_within}
use Rattle.linear.specs.declared.form.RegisterId.{RegisterId}
use Rattle.cfg.specs.declared.structure.BlockEdges.{BlockEdges}
use Rattle.cfg.specs.declared.structure.Edge.{Edge}
use Rattle.cfg.specs.declared.structure.Way.{Way}
use Rattle.cfg.specs.declared.structure.Way.TheVariants.{Branch, Detached, Continued, Synced}
use Rattle.cfg.specs.Paths.{edges_of}
use Rattle.cfg.proofs.Searching.{edges_within}
use Rattle.definedness_allocas.specs.declared.fork.Fork.{Fork}
use Rattle.definedness_allocas.specs.declared.sets.Label.{Label}
use Rattle.definedness_allocas.specs.declared.sets.Label.TheVariants.{Due}
use Rattle.definedness_allocas.specs.declared.sets.Sets.{Sets}
use Rattle.definedness.specs.Sure.{Labels}
use Rattle.definedness_allocas.specs.Sets.{due_in, label_in, is_sure_label, label_at, label_of, ended_in, IsHeldBy, EdgeGives, IsFit}
use Rattle.definedness.specs.Settling.{IsTableLabelling, IsBelow, Lowers, IsSettledAt, IsAllSure, IsGreatest}
use Rattle.definedness.proofs.Settling.{lowers_then}

read_same : {X : Type 0} (xs : List X) (i : ℕ) (d e : X) → i < length xs → get_or xs i d ≡ get_or xs i e
read_same xs i d e l = let same : Some (get_or xs i d) ≡ Some (get_or xs i e) = sym (slice_get-get_or xs i d l) ∙ slice_get-get_or xs i e l in cc

-- what holds of each edge of the blocks there are holds of each edge
all_edges : (P : ℕ → Edge → Type 0) (blocks : List BlockEdges) → ((a : ℕ) → a < length blocks → All (P a) (edges_of blocks a)) → (a : ℕ) → All (P a) (edges_of blocks a)
all_edges P blocks h a k d l = h a (edges_within blocks a (Contains-get_or (edges_of blocks a) k d l)) k d l

-- an edge that gave what its target had still does, or its block is listed
pub settled_stays : (stops : List Bool) (forks : List Fork) (blocks : List BlockEdges) (before after : Sets) (work work' : List ℕ) → Lowers stops forks blocks before work after work' → (a : ℕ) → a < length blocks → (e : Edge) → IsSettledAt stops forks before work a e → IsSettledAt stops forks after work' a e
settled_stays stops forks blocks before after work work' s a w e (inl c) = inl (s.waiting a c)
settled_stays stops forks blocks before after work work' s a w e (inr kept) = elim (s.woken a w) [
  | inl c ↦ inl c
  | inr keeps ↦ inr (λ k h. keeps k e.way (kept k (s.fewer k e.to.0 h)))
]

-- no labelling has what an edge does not give
module _ (stops : List Bool) (forks : List Fork) (blocks : List BlockEdges) (l : Labels) (sets : Sets) (size : length forks ≤ length blocks) (below : IsBelow (length blocks) l sets) where
  held_below : (k : Option RegisterId) (b : ℕ) → b < length blocks → IsHeldBy stops l k b → IsHeldBy stops (label_of sets) k b
  held_below k b w (inl sure) = inl (below None b w sure)
  held_below k b w (inr (inl due)) = inr (inl (below k b w due))
  held_below k b w (inr (inr stored)) = inr (inr stored)

  end_block : (d b : ℕ) (o : Option Fork) → slice_get forks b ≡ o → ended_in o ≡ Some d → b < length blocks
  end_block d b None at e = absurd (cc)
  end_block d b (Some fork) at e = let w = slice_get_within forks b fork at in omega arith

  pub kept_below : (k : Option RegisterId) (from : ℕ) (way : Way) → from < length blocks → EdgeGives stops forks l k from way → EdgeGives stops forks (label_of sets) k from way
  kept_below k from way w (inl held) = inl (held_below k from w held)
  kept_below k from Branch w (inr h) = absurd h
  kept_below k from Detached w (inr h) = absurd h
  kept_below k from Continued w (inr h) = inr (h.0, h.1, h.2, λ end at. held_below None end (end_block from end (slice_get forks end) refl at) (h.3 end at))
  kept_below k from (Synced its) w (inr h) = inr (held_below (Some its) from w h)

pub edge_above : (stops : List Bool) (forks : List Fork) (blocks : List BlockEdges) (sets : Sets) (from : ℕ) (e : Edge) (given : Label) → length forks ≤ length blocks → Contains (edges_of blocks from) e → ((k : Option RegisterId) → EdgeGives stops forks (label_of sets) k from e.way → label_in given k ≡ true) → (l : Labels) → IsTableLabelling stops forks blocks l → IsBelow (length blocks) l sets → (k : Option RegisterId) → l k e.to.0 ≡ true → label_in given k ≡ true
edge_above stops forks blocks sets from e given size c gives l is below k h =
    gives k (kept_below stops forks blocks l sets size below k from e.way (edges_within blocks from c) (All-contains (λ (x : Edge). (q : Option RegisterId) → l q x.to.0 ≡ true → EdgeGives stops forks l q from x.way) (edges_of blocks from) e (is.edges from) c k h))

-- the edges of a block, from the last on
pub record EdgesFrom (stops : List Bool) (forks : List Fork) (blocks : List BlockEdges) (from : ℕ) (edges : List Edge) (before : Sets) (work : List ℕ) (left : ℕ) (after : Sets) (work' : List ℕ) : Type 0 where
  pub within : left ≤ length edges
  pub lowers : Lowers stops forks blocks before work after work'
  pub kept : AllWithin (IsSettledAt stops forks after work' from) edges left (length edges)

pub edges_next : (stops : List Bool) (forks : List Fork) (blocks : List BlockEdges) (from : ℕ) (edges : List Edge) (before : Sets) (work : List ℕ) (left : ℕ) (now : Sets) (work' : List ℕ) (after : Sets) (work2 : List ℕ) (e : Edge) → edges ≡ edges_of blocks from → 0 < left → e ≡ get_or edges (left - 1) e → EdgesFrom stops forks blocks from edges before work left now work' → Lowers stops forks blocks now work' after work2 → IsSettledAt stops forks after work2 from e → EdgesFrom stops forks blocks from edges before work (left - 1) after work2
edges_next stops forks blocks from edges before work left now work' after work2 e same more is g s here =
    let inside : left - 1 < length edges = (let l = g.within in omega arith) in
    let w : from < length blocks = edges_within blocks from {e = get_or edges (left - 1) e} (rw (← same) (Contains-get_or edges (left - 1) e inside)) in
    record {
      within = (let l = g.within in omega arith);
      lowers = lowers_then stops forks blocks before now after work work' work2 g.lowers s;
      kept = λ k d low high. elim (cases_eq k (left - 1)) [
        | inl at ↦
            let read : get_or edges (left - 1) d ≡ e = read_same edges (left - 1) d e inside ∙ sym is in
            rw (at, read) here
        | inr ne ↦ settled_stays stops forks blocks now after work' work2 s from w (get_or edges k d) (g.kept k d (omega arith) high)
      ];
    }

pub nothing_in : (k : Option RegisterId) → label_in (Due []) k ≡ true → ⊥
nothing_in None h = absurd (false≢true h)
nothing_in (Some r) h = absurd (false≢true h)

-- the blocks that are not listed give what their edges' targets have
pub record Settling (stops : List Bool) (forks : List Fork) (blocks : List BlockEdges) (sets : Sets) (work : List ℕ) : Type 0 where
  pub fit : IsFit stops forks (length blocks) sets
  pub entry : (k : Option RegisterId) → label_of sets k 0 ≡ true → ⊥
  pub above : (l : Labels) → IsTableLabelling stops forks blocks l → IsBelow (length blocks) l sets
  pub settled : (a : ℕ) → a < length blocks → All (IsSettledAt stops forks sets work a) (edges_of blocks a)

module _ (stops : List Bool) (forks : List Fork) (blocks : List BlockEdges) (start : Sets) (size : length forks ≤ length blocks) (all : IsAllSure (length blocks) start) where
  due_none : (b : ℕ) → due_in (label_at start b) ≡ []
  due_none b = elim (cases_lt b (length blocks)) [
    | inl l ↦ rw (all.sure b l) refl
    | inr past ↦ rw (get_or_past start.labels.items b (Due []) (let s = all.labels in omega arith)) refl
  ]

  sure_start : (k : Option RegisterId) (b : ℕ) → b < length blocks → label_of start k b ≡ true
  sure_start k b w = ap (λ x. label_in x k) (all.sure b w)

  pub fit_start : IsFit stops forks (length blocks) start
  fit_start = record {
    labels = all.labels;
    lacking = all.lacking;
    short = λ b. rw (due_none b) (let s = all.labels in omega (arith, count_by-le-length is_sure_label start.labels.items));
    lost = λ d h. absurd (true≢false (sym h ∙ all.unmarked d));
    whole = λ d end w h ends. inl (sure_start None end (end_block stops forks blocks (λ k b. false) start size (λ k b w' h'. absurd (false≢true h')) d end (slice_get forks end) refl ends));
  }

  pub settling_start : (after : Sets) (work : List ℕ) → Lowers stops forks blocks start [] after work → ((k : Option RegisterId) → label_of after k 0 ≡ true → label_in (Due []) k ≡ true) → Settling stops forks blocks after work
  settling_start after work s taken = record {
    fit = s.fit;
    entry = λ k h. nothing_in k (taken k h);
    above = λ l is. s.above l is (λ k b w h. sure_start k b w);
    settled = λ a w k d l. settled_stays stops forks blocks start after [] work s a w (get_or (edges_of blocks a) k d) (inr (λ q h. inl (inl (sure_start None a w))));
  }

pub settling_next : (stops : List Bool) (forks : List Fork) (blocks : List BlockEdges) (sets after : Sets) (work rest work' : List ℕ) (block : ℕ) → work ≡ rest ++ block ∷ [] → Settling stops forks blocks sets work → Lowers stops forks blocks sets rest after work' → All (IsSettledAt stops forks after work' block) (edges_of blocks block) → Settling stops forks blocks after work'
settling_next stops forks blocks sets after work rest work' block popped g s here = record {
  fit = s.fit;
  entry = λ k h. g.entry k (s.fewer k 0 h);
  above = λ l is. s.above l is (g.above l is);
  settled = λ a w. elim (cases_eq a block) [
    | inl e ↦ rw e here
    | inr ne ↦ All-weaker (IsSettledAt stops forks sets work a) (IsSettledAt stops forks after work' a) (λ e h. settled_stays stops forks blocks sets after rest work' s a w e (⊎_elim (λ c. ⊎_elim (λ old. inl old) (λ same. absurd (ne (sym same))) (Contains-push_cases rest block a (rw popped at c))) (λ kept. inr kept) h)) (edges_of blocks a) (g.settled a w)
  ];
}

-- an edge gives what is left at its target, or is gone through again
pub settled_now : (stops : List Bool) (forks : List Fork) (blocks : List BlockEdges) (before after : Sets) (work work' : List ℕ) (from : ℕ) (e : Edge) (given : Label) → Contains (edges_of blocks from) e → ((k : Option RegisterId) → label_in given k ≡ true → EdgeGives stops forks (label_of before) k from e.way) → Lowers stops forks blocks before work after work' → ((k : Option RegisterId) → label_of after k e.to.0 ≡ true → label_in given k ≡ true) → IsSettledAt stops forks after work' from e
settled_now stops forks blocks before after work work' from e given c gives s taken = elim (s.woken from (edges_within blocks from c)) [
  | inl listed ↦ inl listed
  | inr keeps ↦ inr (λ k h. keeps k e.way (gives k (taken k h)))
]

-- a number past the last block has no edges
pub no_edges : (stops : List Bool) (forks : List Fork) (blocks : List BlockEdges) (sets : Sets) (work : List ℕ) (from : ℕ) → length blocks ≤ from → All (IsSettledAt stops forks sets work from) (edges_of blocks from)
no_edges stops forks blocks sets work from past k d l = absurd (let w = edges_within blocks from (Contains-get_or (edges_of blocks from) k d l) in omega (arith, w, past))

pub settling_done : (stops : List Bool) (forks : List Fork) (blocks : List BlockEdges) (sets : Sets) (work : List ℕ) → length work ≤ 0 → Settling stops forks blocks sets work → IsGreatest stops forks blocks sets
settling_done stops forks blocks sets work none g = record {
  labelling = record {
    entry = λ k. false_from_ne_true (label_of sets k 0) (g.entry k);
    edges = λ a. All-weaker (IsSettledAt stops forks sets work a) (λ (e : Edge). (k : Option RegisterId) → label_of sets k e.to.0 ≡ true → EdgeGives stops forks (label_of sets) k a e.way) (λ e h. ⊎_elim (λ c. absurd (omega (arith, none, c.1))) (λ kept. kept) h) (edges_of blocks a) (all_edges (IsSettledAt stops forks sets work) blocks g.settled a);
  };
  greatest = g.above;
}
