-- Blocks that two paths give different tasks.
use Rattle.std.proofs.Common.{◌≡◌, ◌≢◌, ◌⊎◌, ◌↔◌, ℕ, ◌<◌, Bool, true, false, List, [], ◌∷◌, ◌++◌, zero, suc, length, get_or, inl, inr, refl, sym, ap, subst, ◌∙◌, ⊎_elim, arith}
use Rattle.std.specs.List.{Contains}
use Rattle.std.proofs.lemmas.Bool.{cases_eq, cases_Bool, true≢false}
use Rattle.std.proofs.lemmas.List.Elements.{All-contains}
use Rattle.program.specs.declared.identifier.BlockId.{BlockId}
use Rattle.cfg.specs.declared.structure.Way.{Way}
use Rattle.cfg.specs.declared.structure.Way.TheVariants.{Branch, Detached, Continued, Synced}
use Rattle.cfg.specs.declared.structure.Edge.{Edge}
use Rattle.cfg.specs.declared.structure.BlockEdges.{BlockEdges}
use Rattle.cfg.specs.Paths.{edges_of, Leg, IsPath}
use Rattle.cfg.specs.Reached.{Avoids, IsReached}
use Rattle.region_match.specs.declared.task.Task.{Task}
use Rattle.region_match.specs.declared.task.Task.TheVariants.{Unreached, Body, Child}
use Rattle.region_match.specs.Tasks.{task_along, task_on, innermost, task_at, HasTwoTasks, IsInnermostAt}
use Rattle.region_match.specs.Labels.{next_task, is_seen, IsLabelled, HasClash}
use Rattle.region_match.proofs.Labelling.{next_innermost}

-- ---- paths put together

pub joined : (blocks : List BlockEdges) (from middle to : ℕ) (legs before : List Leg) → IsPath blocks from before middle → IsPath blocks middle legs to → IsPath blocks from (legs ++ before) to
joined blocks from middle to [] before p q = subst (λ x. IsPath blocks from before x) q p
joined blocks from middle to (leg ∷ legs) before p q = (q.0, q.1, joined blocks from middle leg.from legs before p q.2)

along_same : (way : Way) (b : ℕ) (ds es : List ℕ) → task_along way b ds ≡ task_along way b es → ds ≡ es
along_same Branch b ds es e = e
along_same Detached b ds es e = cc
along_same Continued b ds es e = e
along_same (Synced region) b ds es e = e

-- what two paths give stays different along the same legs
pub still_different : (legs p q : List Leg) → task_on (legs ++ p) ≡ task_on (legs ++ q) → task_on p ≡ task_on q
still_different [] p q e = e
still_different (leg ∷ legs) p q e = still_different legs p q (along_same leg.edge.way leg.from (task_on (legs ++ p)) (task_on (legs ++ q)) e)

pub edges_within : (blocks : List BlockEdges) (b : ℕ) (e : Edge) → Contains (edges_of blocks b) e → b < length blocks
edges_within [] b e c = absurd (omega (arith, c.1))
edges_within (x ∷ xs) zero e c = omega arith
edges_within (x ∷ xs) (suc b) e c = let w = edges_within xs b e c in omega (arith, w)

pub start_within : (blocks : List BlockEdges) (from to : ℕ) (legs : List Leg) → IsPath blocks from legs to → to < length blocks → from < length blocks
start_within blocks from to [] path l = rw path l
start_within blocks from to (leg ∷ legs) path l = start_within blocks from leg.from legs path.2 (edges_within blocks leg.from leg.edge path.0)

seen_innermost : (ds : List ℕ) → is_seen (innermost ds) ≡ true
seen_innermost [] = refl
seen_innermost (d ∷ ds) = refl

-- ---- clashes

-- a block that an edge gives another label is on two paths with different tasks
clash_two : (blocks : List BlockEdges) (tasks : List Task) (b : ℕ) → IsLabelled blocks tasks → b < length blocks → HasClash blocks tasks b → HasTwoTasks blocks b
clash_two blocks tasks b s l clash =
    let from = clash.0 in
    let any = clash.1 in
    let e : Edge = any.1 in
    let edge : Contains (edges_of blocks from) e = (any.0, any.2, any.3) in
    let to : e.to.0 ≡ b = any.4.0 in
    let seen_from : is_seen (task_at tasks from) ≡ true = any.4.1.0 in
    let within : e.to.0 < length tasks = rw (to, s.size) l in
    let seen_to : is_seen (task_at tasks b) ≡ true = rw (← to) (All-contains (λ e. e.to.0 < length tasks → is_seen (task_at tasks e.to.0) ≡ true) (edges_of blocks from) e (s.closed from seen_from) edge within) in
    let p = s.path b seen_to in
    let q = s.path from seen_from in (
      p.0,
      record { from = from; edge = e } ∷ q.0,
      p.1,
      (edge, to, q.1),
      λ same. any.4.1.1 (rw to (sym p.2 ∙ ap innermost same ∙ sym (next_innermost e.way from (task_on q.0)) ∙ ap (next_task e.way from) q.2)),
    )

-- what is behind such a block is so too
pub reached_two : (blocks : List BlockEdges) (from to : ℕ) (legs : List Leg) → IsPath blocks from legs to → HasTwoTasks blocks from → HasTwoTasks blocks to
reached_two blocks from to legs path two = (
  legs ++ two.0,
  legs ++ two.1,
  joined blocks 0 from to legs two.0 two.2 path,
  joined blocks 0 from to legs two.1 two.3 path,
  λ same. two.4 (still_different legs two.0 two.1 same),
)

cases_task : (x y : Task) → (x ≡ y) ⊎ (x ≢ y)
cases_task Unreached Unreached = inl refl
cases_task Unreached Body = inr (λ e. cc)
cases_task Unreached (Child d) = inr (λ e. cc)
cases_task Body Unreached = inr (λ e. cc)
cases_task Body Body = inl refl
cases_task Body (Child d) = inr (λ e. cc)
cases_task (Child c) Unreached = inr (λ e. cc)
cases_task (Child c) Body = inr (λ e. cc)
cases_task (Child c) (Child d) = elim (cases_eq c.0 d.0) [
  | inl e ↦ inl (ap (λ n. Child (record { 0 = n })) e)
  | inr ne ↦ inr (λ e. let same : c ≡ d = cc in ne (ap (λ (x : BlockId). x.0) same))
]

-- ---- the marks behind clashes

module _ (blocks : List BlockEdges) (tasks : List Task) (starts stops marks : List Bool) (s : IsLabelled blocks tasks)
    (clash : (b : ℕ) → b < length blocks → (get_or starts b false ≡ true) ↔ HasClash blocks tasks b)
    (none : (b : ℕ) → get_or stops b false ≡ false)
    (exact : (b : ℕ) → b < length blocks → (get_or marks b false ≡ true) ↔ IsReached blocks starts stops b) where
  free : (legs : List Leg) → Avoids (λ b. get_or stops b false) legs
  free [] = tt
  free (leg ∷ legs) = (none leg.from, free legs)

  pub marked_two : (b : ℕ) → b < length blocks → get_or marks b false ≡ true → HasTwoTasks blocks b
  marked_two b l h =
      let r = (exact b l).0 h in
      let within : r.0 < length blocks = start_within blocks r.0 b r.2 r.3 l in
      reached_two blocks r.0 b r.2 r.3 (clash_two blocks tasks r.0 s within ((clash r.0 within).0 r.1))

  -- nothing that leads to an unmarked block is marked
  unmarked_before : (b d : ℕ) (legs : List Leg) → b < length blocks → get_or marks b false ≡ false → IsPath blocks d legs b → get_or marks d false ≡ false
  unmarked_before b d legs l clear path =
      let within : d < length blocks = start_within blocks d b legs path l in
      ⊎_elim
      (λ on. let r = (exact d within).0 on in absurd (true≢false (sym ((exact b l).1 (r.0, r.1, legs ++ r.2, joined blocks r.0 d b legs r.2 r.3 path, free (legs ++ r.2))) ∙ clear)))
      (λ off. off)
      (cases_Bool (get_or marks d false))

  pub unmarked_innermost : (b : ℕ) (legs : List Leg) → b < length blocks → get_or marks b false ≡ false → IsPath blocks 0 legs b → task_at tasks b ≡ innermost (task_on legs)
  unmarked_innermost b [] l clear path = subst (λ x. task_at tasks x ≡ Body) path (s.entry (omega (arith, l)))
  unmarked_innermost b (leg ∷ legs) l clear path =
      let within : leg.from < length blocks = edges_within blocks leg.from leg.edge path.0 in
      let off : get_or marks leg.from false ≡ false = unmarked_before b leg.from (leg ∷ []) l clear (path.0, path.1, refl) in
      let before : task_at tasks leg.from ≡ innermost (task_on legs) = unmarked_innermost leg.from legs within off path.2 in
      let seen : is_seen (task_at tasks leg.from) ≡ true = rw before (seen_innermost (task_on legs)) in
      elim (cases_task (task_at tasks b) (next_task leg.edge.way leg.from (task_at tasks leg.from))) [
        | inl same ↦ same ∙ ap (next_task leg.edge.way leg.from) before ∙ next_innermost leg.edge.way leg.from (task_on legs)
        | inr differ ↦
            let broken : HasClash blocks tasks b = (leg.from, (path.0.0, leg.edge, path.0.1, path.0.2, (path.1, (seen, rw path.1 differ)))) in
            absurd (true≢false (sym ((exact b l).1 (b, (clash b l).1 broken, [], refl, tt)) ∙ clear))
      ]

-- ---- labels fix the whole task

-- the labels of a block and of all that leads to it are those of each path
abbrev pub IsClear : List BlockEdges → List Task → ℕ → Type 0
IsClear blocks tasks b = (d : ℕ) (legs : List Leg) → IsPath blocks d legs b → IsInnermostAt blocks tasks d

-- the part of a path that leads to the innermost detach, and the part behind it
Part : List BlockEdges → ℕ → List ℕ → ℕ → ℕ → Type 0
Part blocks b ds d n = (p : List Leg) × (rest : List Leg) × IsPath blocks 0 p d × IsPath blocks d rest b × (ds ≡ d ∷ task_on p) × (length p < n)

n-less-suc : (n : ℕ) → n < suc n
n-less-suc n = omega arith

part_step : (blocks : List BlockEdges) (way : Way) (b from : ℕ) (legs : List Leg) (last : Leg) (d : ℕ) → last.from ≡ from → Contains (edges_of blocks from) last.edge → last.edge.to.0 ≡ b → IsPath blocks 0 legs from → (innermost (task_on legs) ≡ Child (record { 0 = d }) → Part blocks from (task_on legs) d (length legs)) → innermost (task_along way from (task_on legs)) ≡ Child (record { 0 = d }) → Part blocks b (task_along way from (task_on legs)) d (suc (length legs))
unfolding Part
part_step blocks Branch b from legs last d is edge to path before h = let p = before h in (p.0, last ∷ p.1, p.2, (rw is edge, to, rw is p.3), p.4, omega (arith, p.5))
part_step blocks Detached b from legs last d is edge to path before h =
    let same : record { 0 = from } ≡ record { 0 = d } = cc in
    let e : from ≡ d = ap (λ (x : BlockId). x.0) same in
    (legs, last ∷ [], subst (λ x. IsPath blocks 0 legs x) e path, (rw is edge, to, rw is (sym e)), rw e refl, n-less-suc (length legs))
part_step blocks Continued b from legs last d is edge to path before h = let p = before h in (p.0, last ∷ p.1, p.2, (rw is edge, to, rw is p.3), p.4, omega (arith, p.5))
part_step blocks (Synced region) b from legs last d is edge to path before h = let p = before h in (p.0, last ∷ p.1, p.2, (rw is edge, to, rw is p.3), p.4, omega (arith, p.5))

part_of : (blocks : List BlockEdges) (b : ℕ) (p : List Leg) (d : ℕ) → IsPath blocks 0 p b → innermost (task_on p) ≡ Child (record { 0 = d }) → Part blocks b (task_on p) d (length p)
part_of blocks b [] d path h = absurd cc
part_of blocks b (leg ∷ legs) d path h = part_step blocks leg.edge.way b leg.from legs leg d refl path.0 path.1 path.2 (part_of blocks leg.from legs d path.2) h

task_cases : (ds : List ℕ) → ((ds ≡ []) × (innermost ds ≡ Body)) ⊎ ((d : ℕ) × (innermost ds ≡ Child (record { 0 = d })))
task_cases [] = inl (refl, refl)
task_cases (d ∷ ds) = inr (d, refl)

pub no_task : (ds : List ℕ) → innermost ds ≡ Body → ds ≡ []
no_task [] h = refl
no_task (d ∷ ds) h = absurd cc

clear_before : (blocks : List BlockEdges) (tasks : List Task) (b d : ℕ) (legs : List Leg) → IsClear blocks tasks b → IsPath blocks d legs b → IsClear blocks tasks d
clear_before blocks tasks b d legs clear path e before p = clear e (legs ++ before) (joined blocks e d b legs before p path)

-- the same label at two blocks is the same task
pub one_task : (blocks : List BlockEdges) (tasks : List Task) → (n b c : ℕ) (p q : List Leg) → length p < n → IsClear blocks tasks b → IsClear blocks tasks c → IsPath blocks 0 p b → IsPath blocks 0 q c → innermost (task_on p) ≡ innermost (task_on q) → task_on p ≡ task_on q
unfolding Part
one_task blocks tasks zero b c p q l clear clear' path path' same = absurd (omega (arith, l))
one_task blocks tasks (suc n) b c p q l clear clear' path path' same =
    elim (task_cases (task_on p)) [
      | inl r ↦ r.0 ∙ sym (no_task (task_on q) (sym same ∙ r.1))
      | inr d ↦
          let p' = part_of blocks b p d.0 path d.1 in
          let q' = part_of blocks c q d.0 path' (sym same ∙ d.1) in
          let at = clear d.0 p'.1 p'.3 in
          let inner = sym (at p'.0 p'.2) ∙ at q'.0 q'.2 in
          p'.4 ∙ ap (λ ds. d.0 ∷ ds) (one_task blocks tasks n d.0 d.0 p'.0 q'.0 (omega (arith, p'.5, l)) (clear_before blocks tasks b d.0 p'.1 clear p'.3) (clear_before blocks tasks c d.0 q'.1 clear' q'.3) p'.2 q'.2 inner) ∙ sym q'.4
    ]

-- ---- the answer on all blocks

pub marks_exact : (blocks : List BlockEdges) (tasks : List Task) (starts stops marks : List Bool) → IsLabelled blocks tasks → ((b : ℕ) → b < length blocks → (get_or starts b false ≡ true) ↔ HasClash blocks tasks b) → ((b : ℕ) → get_or stops b false ≡ false) → ((b : ℕ) → b < length blocks → (get_or marks b false ≡ true) ↔ IsReached blocks starts stops b) → (b : ℕ) → b < length blocks → (get_or marks b false ≡ true) ↔ HasTwoTasks blocks b
marks_exact blocks tasks starts stops marks s clash none exact b l = (
  marked_two blocks tasks starts stops marks s clash none exact b l,
  λ two. ⊎_elim
      (λ on. on)
      (λ off.
      let clear : IsClear blocks tasks b = λ d legs path p q. unmarked_innermost blocks tasks starts stops marks s clash none exact d p (start_within blocks d b legs path l) (unmarked_before blocks tasks starts stops marks s clash none exact b d legs l off path) q in
      let at = clear b [] refl in
      absurd (two.4 (one_task blocks tasks (suc (length two.0)) b b two.0 two.1 (n-less-suc (length two.0)) clear clear two.2 two.3 (sym (at two.0 two.2) ∙ at two.1 two.3))))
      (cases_Bool (get_or marks b false)),
)
