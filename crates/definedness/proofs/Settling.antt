-- Labels taken away, block by block.
use Rattle.std.proofs.Common.{◌≡◌, ◌⊎◌, ℕ, ◌+◌, ◌<◌, ◌≤◌, Bool, true, false, cond, List, [], ◌∷◌, ◌++◌, Option, Some, None, length, get_or, set, inl, inr, refl, sym, ap, ◌∙◌, arith, get_or-set_same, get_or-set_other}
use Rattle.std.specs.Prelude.{slice_get}
use Rattle.std.specs.List.{Contains}
use Rattle.std.proofs.lemmas.Bool.{cases_eq, cases_lt, true≢false, false≢true, cases_Bool}
use Rattle.std.proofs.lemmas.List.{length-set, length_push, get_or_past}
use Rattle.std.proofs.lemmas.List.Elements.{Contains-append_left, Contains-push}
use Rattle.std.proofs.lemmas.List.Sums.{sum_by-set}
use Rattle.linear.specs.declared.form.RegisterId.{RegisterId}
use Rattle.cfg.specs.declared.structure.BlockEdges.{BlockEdges}
use Rattle.cfg.specs.declared.structure.Way.{Way}
use Rattle.cfg.specs.declared.structure.Way.TheVariants.{Branch, Detached, Continued, Synced}
use Rattle.definedness_allocas.specs.declared.fork.Fork.{Fork}
use Rattle.definedness_allocas.specs.declared.sets.Label.{Label}
use Rattle.definedness_allocas.specs.declared.sets.Label.TheVariants.{Sure, Due}
use Rattle.definedness_allocas.specs.declared.sets.Sets.{Sets}
use Rattle.definedness.specs.Sure.{Labels}
use Rattle.definedness_allocas.specs.Sets.{due_in, label_in, is_sure_label, label_at, label_of, count_sure, Stores, ended_in, Ends, IsHeldBy, EdgeGives, IsFit}
use Rattle.definedness.specs.Settling.{weight, load, IsTableLabelling, IsBelow, Lowers, NotesEnd}

pub option_cases : (o : Option ℕ) (n : ℕ) → (o ≡ Some n) ⊎ (o ≡ Some n → ⊥)
option_cases None n = inr (λ e. absurd (cc))
option_cases (Some m) n = elim (cases_eq m n) [
  | inl e ↦ inl (ap Some e)
  | inr ne ↦ inr (λ e. let same : m ≡ n = cc in ne same)
]

pub lowers_none : (stops : List Bool) (forks : List Fork) (blocks : List BlockEdges) (sets : Sets) (work : List ℕ) → IsFit stops forks (length blocks) sets → Lowers stops forks blocks sets work sets work
lowers_none stops forks blocks sets work fit = record {
  fit = fit;
  fewer = λ k b h. h;
  above = λ l is below. below;
  waiting = λ a c. c;
  woken = λ a w. inr (λ k way h. h);
  less = omega arith;
}

pub lowers_then : (stops : List Bool) (forks : List Fork) (blocks : List BlockEdges) (first second third : Sets) (w1 w2 w3 : List ℕ) → Lowers stops forks blocks first w1 second w2 → Lowers stops forks blocks second w2 third w3 → Lowers stops forks blocks first w1 third w3
lowers_then stops forks blocks first second third w1 w2 w3 f s = record {
  fit = s.fit;
  fewer = λ k b h. f.fewer k b (s.fewer k b h);
  above = λ l is below. s.above l is (f.above l is below);
  waiting = λ a c. s.waiting a (f.waiting a c);
  woken = λ a w. elim (s.woken a w) [
    | inl c ↦ inl c
    | inr after ↦ elim (f.woken a w) [
      | inl c ↦ inl (s.waiting a c)
      | inr before ↦ inr (λ k way h. after k way (before k way h))
    ]
  ];
  less = omega (arith, f.less, s.less);
}

-- one label is put anew
module _ (stops : List Bool) (forks : List Fork) (before after : Sets) (to : ℕ) (new : Label) (w : to < length before.labels.items) (put : after.labels.items ≡ set before.labels.items to new) where
  pub label_here : label_at after to ≡ new
  label_here = rw put (get_or-set_same before.labels.items to new (Due []) w)

  pub label_beside : (b : ℕ) → (b ≡ to → ⊥) → label_at after b ≡ label_at before b
  label_beside b ne = rw put (get_or-set_other before.labels.items to b new (Due []) ne)

  pub put_fewer : ((k : Option RegisterId) → label_in new k ≡ true → label_of before k to ≡ true) → (k : Option RegisterId) (b : ℕ) → label_of after k b ≡ true → label_of before k b ≡ true
  put_fewer below k b h = elim (cases_eq b to) [
    | inl e ↦ rw e (below k (sym (ap (λ x. label_in x k) label_here) ∙ rw e at h))
    | inr ne ↦ sym (ap (λ x. label_in x k) (label_beside b ne)) ∙ h
  ]

  pub held_beside : (k : Option RegisterId) (b : ℕ) → (b ≡ to → ⊥) → IsHeldBy stops (label_of before) k b → IsHeldBy stops (label_of after) k b
  held_beside k b ne (inl s) = inl (ap (λ x. label_in x None) (label_beside b ne) ∙ s)
  held_beside k b ne (inr (inl d)) = inr (inl (ap (λ x. label_in x k) (label_beside b ne) ∙ d))
  held_beside k b ne (inr (inr st)) = inr (inr st)

  pub kept_beside : (a : ℕ) → (a ≡ to → ⊥) → (Ends forks a to → IsHeldBy stops (label_of before) None to → IsHeldBy stops (label_of after) None to) → (k : Option RegisterId) (way : Way) → EdgeGives stops forks (label_of before) k a way → EdgeGives stops forks (label_of after) k a way
  kept_beside a ne ends k way (inl h) = inl (held_beside k a ne h)
  kept_beside a ne ends k Branch (inr h) = absurd h
  kept_beside a ne ends k Detached (inr h) = absurd h
  kept_beside a ne ends k Continued (inr h) = inr (
    h.0,
    h.1,
    h.2,
    λ end x. elim (cases_eq end to) [
      | inl e ↦ rw e (ends (rw e at x) (rw e at (h.3 end x)))
      | inr other ↦ held_beside None end other (h.3 end x)
    ],
  )
  kept_beside a ne ends k (Synced its) (inr h) = inr (held_beside (Some its) a ne h)

held_back : (stops : List Bool) (before after : Sets) → ((k : Option RegisterId) (b : ℕ) → label_of after k b ≡ true → label_of before k b ≡ true) → (k : Option RegisterId) (b : ℕ) → IsHeldBy stops (label_of after) k b → IsHeldBy stops (label_of before) k b
held_back stops before after fewer k b (inl s) = inl (fewer None b s)
held_back stops before after fewer k b (inr (inl d)) = inr (inl (fewer k b d))
held_back stops before after fewer k b (inr (inr st)) = inr (inr st)

-- what has to be known of a label that is put anew
pub record Puts (stops : List Bool) (forks : List Fork) (blocks : List BlockEdges) (before : Sets) (work : List ℕ) (after : Sets) (work' : List ℕ) (to : ℕ) (new : Label) : Type 0 where
  pub within : to < length before.labels.items
  pub put : after.labels.items ≡ set before.labels.items to new
  pub below : (k : Option RegisterId) → label_in new k ≡ true → label_of before k to ≡ true
  pub given : (l : Labels) → IsTableLabelling stops forks blocks l → IsBelow (length blocks) l before → (k : Option RegisterId) → l k to ≡ true → label_in new k ≡ true
  pub size : length after.lacking.items ≡ length before.lacking.items
  pub marked : (d : ℕ) → get_or before.lacking.items d false ≡ true → get_or after.lacking.items d false ≡ true
  pub lost : (d : ℕ) → get_or after.lacking.items d false ≡ true → (get_or before.lacking.items d false ≡ true) ⊎ (Ends forks d to × (IsHeldBy stops (label_of after) None to → ⊥))
  pub whole : (d : ℕ) → d < length blocks → get_or after.lacking.items d false ≡ false → Ends forks d to → IsHeldBy stops (label_of after) None to
  pub waiting : (a : ℕ) → Contains work a → Contains work' a
  pub listed : Contains work' to
  pub woken : (a : ℕ) → a < length blocks → Contains work' a ⊎ (Ends forks a to → IsHeldBy stops (label_of before) None to → IsHeldBy stops (label_of after) None to)
  pub fewer : count_sure after ≤ count_sure before
  pub short : count_sure after + length (due_in new) ≤ length blocks
  pub less : load (length blocks) after work' ≤ load (length blocks) before work

module _ (stops : List Bool) (forks : List Fork) (blocks : List BlockEdges) (before : Sets) (work : List ℕ) (after : Sets) (work' : List ℕ) (to : ℕ) (new : Label) (fit : IsFit stops forks (length blocks) before) (p : Puts stops forks blocks before work after work' to new) where
  fewer_here : (k : Option RegisterId) (b : ℕ) → label_of after k b ≡ true → label_of before k b ≡ true
  fewer_here = put_fewer stops forks before after to new p.within p.put p.below

  puts_short : (b : ℕ) → count_sure after + length (due_in (label_at after b)) ≤ length blocks
  puts_short b = elim (cases_eq b to) [
    | inl e ↦ rw (e, label_here stops forks before after to new p.within p.put) p.short
    | inr ne ↦ rw (label_beside stops forks before after to new p.within p.put b ne) (let s = fit.short b in let f = p.fewer in omega arith)
  ]

  puts_lost : (d : ℕ) → get_or after.lacking.items d false ≡ true → (end : ℕ) × (end < length blocks) × Ends forks d end × (IsHeldBy stops (label_of after) None end → ⊥)
  puts_lost d h = elim (p.lost d h) [
    | inl old ↦ let f = fit.lost d old in (f.0, f.1, f.2, λ held. f.3 (held_back stops before after fewer_here None f.0 held))
    | inr here ↦ (to, (let w = p.within in let s = fit.labels in omega arith), here.0, here.1)
  ]

  puts_whole : (d end : ℕ) → d < length blocks → get_or after.lacking.items d false ≡ false → Ends forks d end → IsHeldBy stops (label_of after) None end
  puts_whole d end w h ends = elim (cases_eq end to) [
    | inl e ↦ rw e (p.whole d w h (rw e at ends))
    | inr ne ↦ elim (cases_Bool (get_or before.lacking.items d false)) [
      | inl t ↦ absurd (true≢false (sym (p.marked d t) ∙ h))
      | inr f ↦ held_beside stops forks before after to new p.within p.put None end ne (fit.whole d end w f ends)
    ]
  ]

  puts_above : (l : Labels) → IsTableLabelling stops forks blocks l → IsBelow (length blocks) l before → IsBelow (length blocks) l after
  puts_above l is below k b w h = elim (cases_eq b to) [
    | inl e ↦ rw (e, label_here stops forks before after to new p.within p.put) (p.given l is below k (rw e at h))
    | inr ne ↦ ap (λ x. label_in x k) (label_beside stops forks before after to new p.within p.put b ne) ∙ below k b w h
  ]

  puts_woken : (a : ℕ) → a < length blocks → Contains work' a ⊎ ((k : Option RegisterId) (way : Way) → EdgeGives stops forks (label_of before) k a way → EdgeGives stops forks (label_of after) k a way)
  puts_woken a w = elim (cases_eq a to) [
    | inl e ↦ inl (rw e p.listed)
    | inr ne ↦ elim (p.woken a w) [
      | inl c ↦ inl c
      | inr ends ↦ inr (kept_beside stops forks before after to new p.within p.put a ne ends)
    ]
  ]

  pub puts_lowers : Lowers stops forks blocks before work after work'
  puts_lowers = record {
    fit = record {
      labels = rw p.put (length-set before.labels.items to new ∙ fit.labels);
      lacking = p.size ∙ fit.lacking;
      short = puts_short;
      lost = puts_lost;
      whole = puts_whole;
    };
    fewer = fewer_here;
    above = puts_above;
    waiting = p.waiting;
    woken = puts_woken;
    less = p.less;
  }

pub unsure_held : (stops : List Bool) (sets : Sets) (b : ℕ) → label_of sets None b ≡ false → IsHeldBy stops (label_of sets) None b → Stores stops b
unsure_held stops sets b off (inl s) = absurd (false≢true (sym off ∙ s))
unsure_held stops sets b off (inr (inl s)) = absurd (false≢true (sym off ∙ s))
unsure_held stops sets b off (inr (inr st)) = st

-- a block where the alloca was sure
module _ (stops : List Bool) (forks : List Fork) (blocks : List BlockEdges) (before : Sets) (work : List ℕ) (after : Sets) (work' : List ℕ) (to : ℕ) (given : List RegisterId) (fit : IsFit stops forks (length blocks) before) (sure : label_of before None to ≡ true) (w : to < length before.labels.items) (put : after.labels.items ≡ set before.labels.items to (Due given)) (o : NotesEnd stops forks to before.lacking.items after.lacking.items (work ++ to ∷ []) work') (few : count_sure before + length given ≤ length blocks + 1) (above : (l : Labels) → IsTableLabelling stops forks blocks l → IsBelow (length blocks) l before → (k : Option RegisterId) → l k to ≡ true → label_in (Due given) k ≡ true) where
  sure_is : (x : Label) → label_in x None ≡ true → x ≡ Sure
  sure_is Sure e = refl
  sure_is (Due regions) e = absurd (false≢true e)

  was : label_at before to ≡ Sure
  was = sure_is (label_at before to) sure

  now : label_at after to ≡ Due given
  now = label_here stops forks before after to (Due given) w put

  unsure_now : label_of after None to ≡ false
  unsure_now = ap (λ x. label_in x None) now

  one_less : count_sure after + 1 ≡ count_sure before
  one_less =
      let cells = sum_by-set (λ x. cond (is_sure_label x) 1 0) before.labels.items to (Due given) (Due []) w in
      rw put (omega (arith, rw was at cells))

  lighter : load (length blocks) after work' ≤ load (length blocks) before work
  lighter =
      let rows = rw was at (sum_by-set (weight (length blocks)) before.labels.items to (Due given) (Due []) w) in
      let listed = length_push work to in
      let less = one_less in
      rw put (omega (arith, rows, o.few, listed, few, less))

  pub sure_lowers : Lowers stops forks blocks before work after work'
  sure_lowers = puts_lowers stops forks blocks before work after work' to (Due given) fit (record {
    within = w;
    put = put;
    below = λ k h. ap (λ x. label_in x k) was;
    given = above;
    size = o.size;
    marked = o.kept;
    lost = λ d h. elim (o.new d h) [
      | inl old ↦ inl old
      | inr here ↦ inr (here.0, λ held. here.1 (unsure_held stops after to unsure_now held))
    ];
    whole = λ d within h ends. elim (cases_Bool (get_or stops to false)) [
      | inl st ↦ inr (inr st)
      | inr off ↦ absurd (true≢false (sym (o.opened d (let s = fit.lacking in omega arith) ends (λ st. true≢false (sym st ∙ off))).0 ∙ h))
    ];
    waiting = λ a c. o.waiting a (Contains-append_left work (to ∷ []) a c);
    listed = o.waiting to (Contains-push work to);
    woken = λ a within. elim (cases_Bool (get_or stops to false)) [
      | inl st ↦ inr (λ ends held. inr (inr st))
      | inr off ↦ elim (option_cases (ended_in (slice_get forks to)) a) [
        | inl ends ↦ inl (o.opened a (let s = fit.lacking in omega arith) ends (λ st. true≢false (sym st ∙ off))).1
        | inr other ↦ inr (λ ends. absurd (other ends))
      ]
    ];
    fewer = (let less = one_less in omega arith);
    short = (let less = one_less in omega (arith, few));
    less = lighter;
  })

  pub sure_taken : (k : Option RegisterId) → label_of after k to ≡ true → label_in (Due given) k ≡ true
  sure_taken k h = sym (ap (λ x. label_in x k) now) ∙ h

pub sure_within : (sets : Sets) (b : ℕ) → label_of sets None b ≡ true → b < length sets.labels.items
sure_within sets b h = elim (cases_lt b (length sets.labels.items)) [
  | inl l ↦ l
  | inr past ↦ absurd (let none : label_at sets b ≡ Due [] = get_or_past sets.labels.items b (Due []) past in false≢true (sym (ap (λ x. label_in x None) none) ∙ h))
]

one_detach : (o : Option ℕ) (x y : ℕ) → o ≡ Some x → o ≡ Some y → x ≡ y
one_detach o x y h k = let e : Some x ≡ Some y = sym h ∙ k in cc

-- a detach is noted
module _ (stops : List Bool) (forks : List Fork) (b : ℕ) (marks : List Bool) (work : List ℕ) where
  pub notes_none : ((d : ℕ) → d < length marks → Ends forks d b → (Stores stops b → ⊥) → ⊥) → NotesEnd stops forks b marks marks work work
  notes_none none = record {
    size = refl;
    kept = λ d h. h;
    new = λ d h. inl h;
    opened = λ d w ends unstored. absurd (none d w ends unstored);
    waiting = λ a c. c;
    few = omega arith;
  }

  pub notes_one : (d : ℕ) → d < length marks → Ends forks d b → (Stores stops b → ⊥) → NotesEnd stops forks b marks (set marks d true) work (work ++ d ∷ [])
  notes_one d w ends unstored = record {
    size = length-set marks d true;
    kept = λ x h. elim (cases_eq x d) [
      | inl e ↦ rw e (get_or-set_same marks d true false w)
      | inr ne ↦ get_or-set_other marks d x true false ne ∙ h
    ];
    new = λ x h. elim (cases_eq x d) [
      | inl e ↦ inr (rw e ends, unstored)
      | inr ne ↦ inl (sym (get_or-set_other marks d x true false ne) ∙ h)
    ];
    opened = λ x l other no_store. let same : x ≡ d = one_detach (ended_in (slice_get forks b)) x d other ends in (rw same (get_or-set_same marks d true false w), rw same (Contains-push work d));
    waiting = λ a c. Contains-append_left work (d ∷ []) a c;
    few = (let l = length_push work d in omega (arith, l));
  }
