-- The search for labels, as far as it has come.
use Rattle.std.proofs.Common.{◌≡◌, ◌⊎◌, ℕ, ◌+◌, ◌<◌, true, false, not, cond, List, [], ◌∷◌, ◌++◌, zero, suc, length, get_or, set, take, replicate, count_by, inl, inr, refl, sym, ap, ◌∙◌, Bool, arith, get_or-set_same, get_or-set_other}
use Rattle.std.specs.List.{All, Contains}
use Rattle.std.proofs.lemmas.Bool.{cases_eq, cases_lt, true≢false, false≢true}
use Rattle.std.proofs.lemmas.List.{length-set, length_push, take_more, get_or_past, get_or_read, get_or-replicate, length-replicate}
use Rattle.std.proofs.lemmas.List.Elements.{All-nil, All-push, All-weaker, All-contains, Contains-append_left, Contains-push, Contains-push_cases, Contains-get_or}
use Rattle.std.proofs.lemmas.List.Sums.{sum_by-set}
use Rattle.cfg.specs.declared.structure.Way.{Way}
use Rattle.cfg.specs.declared.structure.Way.TheVariants.{Branch, Detached, Continued, Synced}
use Rattle.cfg.specs.declared.structure.Edge.{Edge}
use Rattle.cfg.specs.declared.structure.BlockEdges.{BlockEdges}
use Rattle.cfg.specs.Paths.{edges_of, Leg, IsPath}
use Rattle.region_match.specs.declared.task.Task.{Task}
use Rattle.region_match.specs.declared.task.Task.TheVariants.{Unreached, Body, Child}
use Rattle.region_match.specs.Tasks.{task_along, task_on, innermost, task_at}
use Rattle.region_match.specs.Labels.{next_task, is_seen, IsLabelled, LabelsTargets}

pub next_seen : (way : Way) (b : ℕ) (label : Task) → is_seen label ≡ true → is_seen (next_task way b label) ≡ true
next_seen Branch b label h = h
next_seen Detached b label h = refl
next_seen Continued b label h = h
next_seen (Synced region) b label h = h

-- a label and a list of detaches go on alike
pub next_innermost : (way : Way) (b : ℕ) (ds : List ℕ) → next_task way b (innermost ds) ≡ innermost (task_along way b ds)
next_innermost Branch b ds = refl
next_innermost Detached b ds = refl
next_innermost Continued b ds = refl
next_innermost (Synced region) b ds = refl

pub seen_within : (labels : List Task) (b : ℕ) → is_seen (task_at labels b) ≡ true → b < length labels
seen_within labels b h = elim (cases_lt b (length labels)) [ inl l ↦ l | inr g ↦ absurd (false≢true (sym (ap is_seen (get_or_past labels b Unreached g)) ∙ h)) ]

pub All-from_contains : {X : Type 0} (P : X → Type 0) → (xs : List X) → ((x : X) → Contains xs x → P x) → All P xs
All-from_contains P xs f = λ k d l. f (get_or xs k d) (Contains-get_or xs k d l)

-- a label that is written where none stood keeps the others
pub set_kept : (labels : List Task) (to b : ℕ) (l : Task) → is_seen (task_at labels to) ≡ false → is_seen (task_at labels b) ≡ true → task_at (set labels to l) b ≡ task_at labels b
set_kept labels to b l free h = elim (cases_eq b to) [
  | inl e ↦ absurd (true≢false (sym h ∙ (rw e free)))
  | inr ne ↦ get_or-set_other labels to b l Unreached ne
]

pub LabelsTargets-none : (block : ℕ) (label : Task) (labels : List Task) (work : List ℕ) → LabelsTargets block [] label labels work labels work
LabelsTargets-none block label labels work = record {
  size = refl;
  targets = All-nil _;
  kept = λ b h. refl;
  added = λ b h. inl h;
  waiting = λ b h. h;
  new = λ b h. inl h;
  count = refl;
}

module _ (block : ℕ) (edges : List Edge) (i : ℕ) (e : Edge) (label : Task) (labels : List Task) (work : List ℕ) (labels' : List Task) (work' : List ℕ) (l : i < length edges) (is : e ≡ get_or edges i e) (m : LabelsTargets block (take i edges) label labels work labels' work') where
  grown : take i edges ++ e ∷ [] ≡ take (i + 1) edges
  grown = ap (λ x. take i edges ++ x ∷ []) is ∙ sym (take_more edges i e l)

  pub labels_skip : (e.to.0 < length labels → is_seen (task_at labels' e.to.0) ≡ true) → LabelsTargets block (take (i + 1) edges) label labels work labels' work'
  labels_skip h = rw (← grown) (record {
    size = m.size;
    targets = All-push (λ e. e.to.0 < length labels → is_seen (task_at labels' e.to.0) ≡ true) (take i edges) e m.targets h;
    kept = m.kept;
    added = λ b k. elim (m.added b k) [ inl old ↦ inl old | inr p ↦ inr (p.0, p.1, Contains-append_left (take i edges) (e ∷ []) p.1 p.2, p.3, p.4) ];
    waiting = m.waiting;
    new = m.new;
    count = m.count;
  })

  pub labels_set : is_seen label ≡ true → e.to.0 < length labels' → is_seen (task_at labels' e.to.0) ≡ false → LabelsTargets block (take (i + 1) edges) label labels work (set labels' e.to.0 (next_task e.way block label)) (work' ++ e.to.0 ∷ [])
  labels_set seen within free =
      let next : Task = next_task e.way block label in
      let same : task_at (set labels' e.to.0 next) e.to.0 ≡ next = get_or-set_same labels' e.to.0 next Unreached within in
      let same_seen : is_seen (task_at (set labels' e.to.0 next) e.to.0) ≡ true = rw same (next_seen e.way block label seen) in
      let here : Contains (take i edges ++ e ∷ []) e = Contains-push (take i edges) e in
      let length_work : length (work' ++ e.to.0 ∷ []) ≡ length work' + 1 = length_push work' e.to.0 in
      let counted : count_by (λ l. not (is_seen l)) (set labels' e.to.0 next) + 1 ≡ count_by (λ l. not (is_seen l)) labels' + 0 =
      rw (free, next_seen e.way block label seen) at (sum_by-set (λ l. cond (not (is_seen l)) 1 0) labels' e.to.0 next Unreached within) in
      let keep : (b : ℕ) → is_seen (task_at labels' b) ≡ true → is_seen (task_at (set labels' e.to.0 next) b) ≡ true = λ b h. rw (set_kept labels' e.to.0 b next free h) h in
      rw (← grown) (record {
        size = length-set labels' e.to.0 next ∙ m.size;
        targets = All-push (λ x. x.to.0 < length labels → is_seen (task_at (set labels' e.to.0 next) x.to.0) ≡ true) (take i edges) e (All-weaker (λ x. x.to.0 < length labels → is_seen (task_at labels' x.to.0) ≡ true) (λ x. x.to.0 < length labels → is_seen (task_at (set labels' e.to.0 next) x.to.0) ≡ true) (λ x h w. keep x.to.0 (h w)) (take i edges) m.targets) (λ w. same_seen);
        kept = λ b h. set_kept labels' e.to.0 b next free (rw (m.kept b h) h) ∙ m.kept b h;
        added = λ b h. elim (cases_eq b e.to.0) [
          | inl eq ↦ inr (rw eq (Contains-push work' e.to.0), e, here, sym eq, rw eq same)
          | inr ne ↦ elim (m.added b (rw (get_or-set_other labels' e.to.0 b next Unreached ne) at h)) [
            | inl old ↦ inl old
            | inr p ↦ inr (Contains-append_left work' (e.to.0 ∷ []) b p.0, p.1, Contains-append_left (take i edges) (e ∷ []) p.1 p.2, p.3, get_or-set_other labels' e.to.0 b next Unreached ne ∙ p.4)
          ]
        ];
        waiting = λ b k. Contains-append_left work' (e.to.0 ∷ []) b (m.waiting b k);
        new = λ b k. elim (Contains-push_cases work' e.to.0 b k) [
          | inl old ↦ elim (m.new b old) [ inl x ↦ inl x | inr h ↦ inr (keep b h) ]
          | inr eq ↦ inr (rw (← eq) same_seen)
        ];
        count = omega (arith, m.count, counted, length_work);
      })

pub record Labelling (blocks : List BlockEdges) (labels : List Task) (work : List ℕ) : Type 0 where
  pub size : length labels ≡ length blocks
  pub entry : 0 < length blocks → task_at labels 0 ≡ Body
  pub path : (b : ℕ) → is_seen (task_at labels b) ≡ true → (p : List Leg) × IsPath blocks 0 p b × (innermost (task_on p) ≡ task_at labels b)
  pub waiting : All (λ b. is_seen (task_at labels b) ≡ true) work
  pub closed : (b : ℕ) → is_seen (task_at labels b) ≡ true → Contains work b ⊎ All (λ e. e.to.0 < length labels → is_seen (task_at labels e.to.0) ≡ true) (edges_of blocks b)

pub next_marked : (blocks : List BlockEdges) (labels : List Task) (work rest : List ℕ) (b : ℕ) → Labelling blocks labels work → work ≡ rest ++ b ∷ [] → is_seen (task_at labels b) ≡ true
next_marked blocks labels work rest b s e = All-contains (λ b. is_seen (task_at labels b) ≡ true) work b s.waiting (rw e (Contains-push rest b))

pub next_within : (blocks : List BlockEdges) (labels : List Task) (work rest : List ℕ) (b : ℕ) → Labelling blocks labels work → work ≡ rest ++ b ∷ [] → b < length blocks
next_within blocks labels work rest b s e = rw (← s.size) (seen_within labels b (next_marked blocks labels work rest b s e))

pub Labelling-step : (blocks : List BlockEdges) (labels : List Task) (work rest : List ℕ) (b : ℕ) (labels' : List Task) (work' : List ℕ) → Labelling blocks labels work → work ≡ rest ++ b ∷ [] → LabelsTargets b (edges_of blocks b) (task_at labels b) labels rest labels' work' → Labelling blocks labels' work'
Labelling-step blocks labels work rest b labels' work' s e m =
    let here = next_marked blocks labels work rest b s e in
    let there = s.path b here in
    let keep : (x : ℕ) → is_seen (task_at labels x) ≡ true → is_seen (task_at labels' x) ≡ true = λ x h. rw (m.kept x h) h in
    record {
      size = m.size ∙ s.size;
      entry = λ l. m.kept 0 (rw (s.entry l) refl) ∙ s.entry l;
      path = λ x h. elim (m.added x h) [
        | inl old ↦ let p = s.path x old in (p.0, p.1, p.2 ∙ sym (m.kept x old))
        | inr q ↦ (record { from = b; edge = q.1 } ∷ there.0, (q.2, q.3, there.1), sym (next_innermost q.1.way b (task_on there.0)) ∙ ap (next_task q.1.way b) there.2 ∙ sym q.4)
      ];
      waiting = All-from_contains (λ x. is_seen (task_at labels' x) ≡ true) work' (λ x k. elim (m.new x k) [
        | inl old ↦ keep x (All-contains (λ x. is_seen (task_at labels x) ≡ true) work x s.waiting (rw e (Contains-append_left rest (b ∷ []) x old)))
        | inr h ↦ h
      ]);
      closed = λ x h. elim (m.added x h) [
        | inl old ↦ elim (s.closed x old) [
          | inl k ↦ elim (Contains-push_cases rest b x (rw e at k)) [
            | inl r ↦ inl (m.waiting x r)
            | inr same ↦ inr (rw (← same, m.size) m.targets)
          ]
          | inr all ↦ inr (All-weaker (λ x. x.to.0 < length labels → is_seen (task_at labels x.to.0) ≡ true) (λ x. x.to.0 < length labels' → is_seen (task_at labels' x.to.0) ≡ true) (λ x k w. keep x.to.0 (k (omega (arith, w, m.size)))) (edges_of blocks x) all)
        ]
        | inr p ↦ inl p.0
      ];
    }

pub Labelling-end : (blocks : List BlockEdges) (labels : List Task) (work : List ℕ) → Labelling blocks labels work → length work ≡ 0 → IsLabelled blocks labels
Labelling-end blocks labels [] s e = record {
  size = s.size;
  entry = s.entry;
  path = s.path;
  closed = λ b h. elim (s.closed b h) [ inl k ↦ absurd (omega (arith, k.1)) | inr all ↦ all ];
}
Labelling-end blocks labels (x ∷ xs) s e = absurd (omega (arith, e))

blank : (n b : ℕ) → task_at (replicate n Unreached) b ≡ Unreached
blank n b = elim (cases_lt b n) [ inl w ↦ get_or-replicate n b Unreached Unreached w | inr g ↦ get_or_past (replicate n Unreached) b Unreached (rw (length-replicate n Unreached) g) ]

-- the entry alone
pub Labelling-start : (blocks : List BlockEdges) (labels : List Task) (n : ℕ) → labels ≡ replicate n Unreached → n ≡ length blocks → 0 < n → Labelling blocks (set labels 0 Body) ([] ++ 0 ∷ [])
Labelling-start blocks labels n made e l =
    let size : length labels ≡ n = ap length made ∙ length-replicate n Unreached in
    let within : 0 < length labels = rw size l in
    let none : (b : ℕ) → task_at labels b ≡ Unreached = λ b. ap (λ ls. task_at ls b) made ∙ blank n b in
    let first : task_at (set labels 0 Body) 0 ≡ Body = get_or-set_same labels 0 Body Unreached within in
    let only : (b : ℕ) → is_seen (task_at (set labels 0 Body) b) ≡ true → b ≡ 0 = λ b h. elim (cases_eq b 0) [
      | inl z ↦ z
      | inr ne ↦ absurd (true≢false (sym h ∙ ap is_seen (get_or-set_other labels 0 b Body Unreached ne ∙ none b)))
    ] in
    record {
      size = length-set labels 0 Body ∙ size ∙ e;
      entry = λ w. first;
      path = λ b h. ([], sym (only b h), rw (only b h) (sym first));
      waiting = All-push (λ b. is_seen (task_at (set labels 0 Body) b) ≡ true) [] 0 (All-nil _) (rw first refl);
      closed = λ b h. inl (rw (only b h) (Contains-push [] 0));
    }

-- no block at all
pub Labelling-none : (blocks : List BlockEdges) (labels : List Task) (n : ℕ) → labels ≡ replicate n Unreached → n ≡ length blocks → length blocks ≡ 0 → Labelling blocks labels []
Labelling-none blocks labels n made e zero' =
    let size : length labels ≡ n = ap length made ∙ length-replicate n Unreached in
    let none : (b : ℕ) → task_at labels b ≡ Unreached = λ b. ap (λ ls. task_at ls b) made ∙ blank n b in
    record {
      size = size ∙ e;
      entry = λ w. absurd (omega (arith, w, zero'));
      path = λ b h. absurd (true≢false (sym h ∙ ap is_seen (none b)));
      waiting = All-nil _;
      closed = λ b h. absurd (true≢false (sym h ∙ ap is_seen (none b)));
    }

pub seen_from : (label : Task) → (label ≡ Unreached → ⊥) → is_seen label ≡ true
seen_from Unreached h = absurd (h refl)
seen_from Body h = refl
seen_from (Child d) h = refl

-- what a read of a label says
pub read_label : (labels : List Task) (b : ℕ) (x : Task) → b < length labels → x ≡ get_or labels b x → task_at labels b ≡ x
read_label labels b x l r = sym (get_or_read labels b x l r Unreached)

pub edges_of-read : (blocks : List BlockEdges) (b : ℕ) (d : BlockEdges) → b < length blocks → edges_of blocks b ≡ (get_or blocks b d).edges
edges_of-read [] b d l = absurd (omega arith)
edges_of-read (x ∷ xs) zero d l = refl
edges_of-read (x ∷ xs) (suc b) d l = edges_of-read xs b d (omega arith)

-- what a test of a label says
pub read_seen : (labels : List Task) (b : ℕ) (x : Task) (r v : Bool) → b < length labels → x ≡ get_or labels b x → r ≡ is_seen x → r ≡ v → is_seen (task_at labels b) ≡ v
read_seen labels b x r v l read e t = ap is_seen (read_label labels b x l read) ∙ sym e ∙ t

-- the edges of the block that a loop has come to
pub edges_item : (blocks : List BlockEdges) (i : ℕ) (body : BlockEdges) (edges : List Edge) → i < length blocks → body ≡ get_or blocks i body → edges ≡ body.edges → edges_of blocks i ≡ edges
edges_item blocks i body edges l is read = edges_of-read blocks i body l ∙ ap (λ (x : BlockEdges). x.edges) (sym is) ∙ sym read

pub less_left : (a b k : ℕ) (work rest : List ℕ) (x : ℕ) → a + b ≡ k + length rest → work ≡ rest ++ x ∷ [] → a + b < k + length work
less_left a b k work rest x e is = let l = length_push rest x in rw is (omega (arith, e, l))
