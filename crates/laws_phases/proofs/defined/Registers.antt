-- What is defined on each path to a place is defined as the law on registers asks.
use Rattle.std.proofs.Common.{◌≡◌, ◌≢◌, ℕ, zero, suc, ◌<◌, ◌⊎◌, inl, inr, List, [], ◌∷◌, ◌++◌, length, map, Option, Some, None, true, false, eqb, refl, sym, ap, subst, ◌∙◌, arith, slice_get}
use Rattle.std.specs.List.{Contains, flat_map}
use Rattle.std.proofs.lemmas.Bool.Decides.{eqb_tells}
use Rattle.std.proofs.lemmas.List.Elements.{Contains-append_left, Contains-append_right, Contains-append_cases}
use Rattle.semantics.specs.Frames.{Does, Ends, item_at, phis_at}
use Rattle.semantics.proofs.Confluence.{one_result}
use Rattle.laws_conditions.specs.theorem.SerialConditions.{Nothing}
use Rattle.program.specs.declared.function.Block.{Block}
use Rattle.program.specs.declared.function.Function.{Function}
use Rattle.program.specs.declared.function.Program.{Program}
use Rattle.program.specs.declared.instruction.Instruction.{Instruction}
use Rattle.program.specs.declared.instruction.Phi.{Phi}
use Rattle.program.specs.declared.instruction.Step.{Step}
use Rattle.program.specs.declared.instruction.Terminator.{Terminator}
use Rattle.program.specs.declared.instruction.Terminator.TheVariants as terminator
use Rattle.cfg.specs.declared.structure.BlockEdges.{BlockEdges}
use Rattle.cfg.specs.declared.structure.Edge.{Edge}
use Rattle.cfg.specs.declared.structure.Way.{Way}
use Rattle.cfg.specs.declared.structure.Way.TheVariants as way
use Rattle.cfg.specs.Edges.{graph_of}
use Rattle.cfg.specs.Paths.{edges_of, Leg, IsPath}
use Rattle.region_match.specs.Matched.{AreRegionsRight}
use Rattle.definedness.specs.declared.act.Act.TheVariants.{Needs, Gives}
use Rattle.definedness.specs.Missing.{defined_along}
use Rattle.definedness.specs.Needs.{gives, given_of, numbers_at}
use Rattle.definedness.specs.RegisterActs.{phi_gives, start_gives, gives_below, inequality_needs, instruction_needs}
use Rattle.definedness.specs.Definedness.{register_table}
use Rattle.laws_conditions.specs.rules.Moves.{dest_of}
use Rattle.laws_conditions.specs.rules.Costs.{parameters_of}
use Rattle.laws_conditions.specs.rules.Registers.{HasPhi, DefinesRegisters}
use Rattle.laws_conditions.proofs.rules.Registers.{registers_kept}
use Rattle.laws_phases.specs.defined.Leads.{LeadsTo, IsBlock}
use Rattle.laws_phases.specs.defined.Names.{IsNamed}
use Rattle.laws_phases.specs.defined.Defined.{listed, steps_define, defined_before, IsAlways, DefinedAreKept, UsesAreDefined}
use Rattle.laws_phases.proofs.defined.Lists.{none_within, first_within, within_cases}
use Rattle.laws_phases.proofs.defined.Items.{stands, block_is, step_there, end_there, Along, edge_behind}
use Rattle.laws_phases.proofs.defined.Paths.{no_edges, phi_refused}
use Rattle.laws_phases.proofs.defined.Defined.{gives_append, left_given, need_defined, step_found}

-- ---- numbers in order

below_within : (n r : ℕ) → Contains (gives (gives_below n)) r → r < n
below_within zero r c = absurd (none_within r c)
below_within (suc n) r c = elim (Contains-append_cases (gives (gives_below n)) (n ∷ []) r (subst (λ xs. Contains xs r) (gives_append (gives_below n) (Gives n ∷ [])) c)) [
  | inl h ↦ let l : r < n = below_within n r h in omega arith
  | inr h ↦ elim (within_cases n r [] h) [ inl e ↦ omega (arith, e) | inr k ↦ absurd (none_within r k) ]
]

within_below : (n r : ℕ) → r < n → Contains (gives (gives_below n)) r
within_below zero r l = absurd (omega (arith, l))
within_below (suc n) r l = subst (λ xs. Contains xs r) (sym (gives_append (gives_below n) (Gives n ∷ []))) (elim (eqb_tells n r) [
  | inl e ↦ Contains-append_right (gives (gives_below n)) (n ∷ []) r (subst (λ k. Contains (n ∷ []) k) e.1 (first_within n []))
  | inr e ↦ Contains-append_left (gives (gives_below n)) (n ∷ []) r (within_below n r (omega (arith, l, e.1)))
])

phi_within : (phis : List Phi) (r : ℕ) → Contains (gives (flat_map phi_gives phis)) r → HasPhi phis r
phi_within [] r c = absurd (none_within r c)
phi_within (phi ∷ phis) r c = elim (within_cases phi.register.0 r (gives (flat_map phi_gives phis)) c) [
  | inl e ↦ inl e
  | inr h ↦ inr (phi_within phis r h)
]

one_listed : (o : Option ℕ) (r : ℕ) → Contains (listed o) r → o ≡ Some r
one_listed None r c = absurd (none_within r c)
one_listed (Some x) r c = elim (within_cases x r [] c) [ inl e ↦ ap (λ n. Some n) e | inr h ↦ absurd (none_within r h) ]

none_defined : (steps : List Step) (r : ℕ) → Contains (steps_define steps 0) r → ⊥
none_defined [] r c = none_within r c
none_defined (s ∷ steps) r c = none_within r c

pub defined_step : (steps : List Step) (i r : ℕ) (s : Step) → slice_get steps i ≡ Some s → Contains (steps_define steps (suc i)) r → Contains (steps_define steps i) r ⊎ (dest_of s.instruction ≡ Some r)
defined_step [] i r s at c = absurd (cc)
defined_step (x ∷ xs) zero r s at c = elim (Contains-append_cases (listed (dest_of x.instruction)) (steps_define xs 0) r c) [
  | inl h ↦ let same : x ≡ s = cc in inr (subst (λ (y : Step). dest_of y.instruction ≡ Some r) same (one_listed (dest_of x.instruction) r h))
  | inr h ↦ absurd (none_defined xs r h)
]
defined_step (x ∷ xs) (suc i) r s at c = elim (Contains-append_cases (listed (dest_of x.instruction)) (steps_define xs (suc i)) r c) [
  | inl h ↦ inl (Contains-append_left (listed (dest_of x.instruction)) (steps_define xs i) r h)
  | inr h ↦ elim (defined_step xs i r s at h) [
    | inl k ↦ inl (Contains-append_right (listed (dest_of x.instruction)) (steps_define xs i) r k)
    | inr k ↦ inr k
  ]
]

-- a step that one of the first defines
pub defining_step : (steps : List Step) (i r : ℕ) → Contains (steps_define steps i) r → (j : ℕ) × (s : Step) × (j < i) × (slice_get steps j ≡ Some s) × (dest_of s.instruction ≡ Some r)
defining_step [] i r c = absurd (none_within r c)
defining_step (x ∷ xs) zero r c = absurd (none_within r c)
defining_step (x ∷ xs) (suc i) r c = elim (Contains-append_cases (listed (dest_of x.instruction)) (steps_define xs i) r c) [
  | inl h ↦ (0, x, omega arith, refl, one_listed (dest_of x.instruction) r h)
  | inr h ↦ let k = defining_step xs i r h in (suc k.0, k.1, omega (arith, k.2), k.3, k.4)
]

-- ---- how a register comes to be defined before a place

-- a parameter, a phi, or a step
pub data Defining (function : Function) (b : ℕ) (block : Block) (i r : ℕ) : Type 0 where
  is_parameter : b ≡ 0 → r < length function.parameters → Defining function b block i r
  is_phi : HasPhi block.phis r → Defining function b block i r
  is_step : Contains (steps_define block.steps i) r → Defining function b block i r

pub defining : (function : Function) (b : ℕ) (block : Block) (i r : ℕ) → Contains (defined_before function b block i) r → Defining function b block i r
defining function b block i r c = elim (Contains-append_cases (gives (start_gives b (length function.parameters))) (gives (flat_map phi_gives block.phis) ++ steps_define block.steps i) r c) [
  | inl h ↦ by b h
  | inr h ↦ elim (Contains-append_cases (gives (flat_map phi_gives block.phis)) (steps_define block.steps i) r h) [
    | inl k ↦ is_phi (phi_within block.phis r k)
    | inr k ↦ is_step k
  ]
]
  where
    by : (n : ℕ) → Contains (gives (start_gives n (length function.parameters))) r → Defining function n block i r
    by zero h = is_parameter refl (below_within (length function.parameters) r h)
    by (suc n) h = absurd (none_within r h)

pub step_within : (function : Function) (b : ℕ) (block : Block) (i r : ℕ) → Contains (steps_define block.steps i) r → Contains (defined_before function b block i) r
step_within function b block i r c = Contains-append_right (gives (start_gives b (length function.parameters))) (gives (flat_map phi_gives block.phis) ++ steps_define block.steps i) r (Contains-append_right (gives (flat_map phi_gives block.phis)) (steps_define block.steps i) r c)

-- other steps before the place, or another place, leave the rest as it is
rest_within : (function : Function) (b : ℕ) (block : Block) (i j r : ℕ) → (Contains (steps_define block.steps i) r → Contains (steps_define block.steps j) r) → Contains (defined_before function b block i) r → Contains (defined_before function b block j) r
rest_within function b block i j r h c =
    let start : List ℕ = gives (start_gives b (length function.parameters)) in
    let phis : List ℕ = gives (flat_map phi_gives block.phis) in
    elim (Contains-append_cases start (phis ++ steps_define block.steps i) r c) [
      | inl k ↦ Contains-append_left start (phis ++ steps_define block.steps j) r k
      | inr k ↦ elim (Contains-append_cases phis (steps_define block.steps i) r k) [
        | inl n ↦ Contains-append_right start (phis ++ steps_define block.steps j) r (Contains-append_left phis (steps_define block.steps j) r n)
        | inr n ↦ Contains-append_right start (phis ++ steps_define block.steps j) r (Contains-append_right phis (steps_define block.steps j) r (h n))
      ]
    ]

has_or_not : (phis : List Phi) (r : ℕ) → HasPhi phis r ⊎ (HasPhi phis r → ⊥)
has_or_not [] r = inr (λ h. h)
has_or_not (phi ∷ phis) r = by (eqb_tells phi.register.0 r) (has_or_not phis r)
  where
    none : (phi.register.0 ≢ r) → (HasPhi phis r → ⊥) → HasPhi (phi ∷ phis) r → ⊥
    none e n (inl h) = e h
    none e n (inr h) = n h

    by : ((eqb phi.register.0 r ≡ true) × (phi.register.0 ≡ r)) ⊎ ((eqb phi.register.0 r ≡ false) × (phi.register.0 ≢ r)) → HasPhi phis r ⊎ (HasPhi phis r → ⊥) → HasPhi (phi ∷ phis) r ⊎ (HasPhi (phi ∷ phis) r → ⊥)
    by (inl e) rest = inl (inl e.1)
    by (inr e) (inl h) = inl (inr h)
    by (inr e) (inr n) = inr (none e.1 n)

pub dest_or_not : (o : Option ℕ) (r : ℕ) → (o ≡ Some r) ⊎ (o ≢ Some r)
dest_or_not None r = inr (λ e. cc)
dest_or_not (Some d) r = elim (eqb_tells d r) [ inl e ↦ inl (ap (λ x. Some x) e.1) | inr e ↦ inr (λ k. e.1 (cc)) ]

no_phi : (phis : List Phi) (r : ℕ) → phis ≡ [] → HasPhi phis r → ⊥
no_phi phis r e h = let k : HasPhi [] r = subst (λ ps. HasPhi ps r) e h in k

module _ (prog : Program) (named : IsNamed prog) where
  -- parameters are defined on each path
  parameters_along : (f : ℕ) (function : Function) → slice_get prog.functions f ≡ Some function → (b : ℕ) (block : Block) (i r : ℕ) → slice_get function.blocks b ≡ Some block → r < length function.parameters → (legs : List Leg) → IsPath (graph_of function).blocks 0 legs b →
      Contains (defined_along (map given_of (register_table function)) legs ++ defined_before function b block i) r
  parameters_along f function at b block i r there less [] path =
      subst (λ n. Contains (defined_before function n block i) r) path (Contains-append_left (gives (gives_below (length function.parameters))) (gives (flat_map phi_gives block.phis) ++ steps_define block.steps i) r (within_below (length function.parameters) r less))
  parameters_along f function at b block i r there less (leg ∷ legs) path =
      let from = from_there (graph_of function).blocks leg.from leg.edge path.0 in
      Contains-append_left (defined_along (map given_of (register_table function)) legs ++ numbers_at (map given_of (register_table function)) leg.from) (defined_before function b block i) r
      (rw (left_given function leg.from from.0 from.1) (parameters_along f function at leg.from from.0 (length from.0.steps) r from.1 less legs path.2))
    where
      from_there : (blocks : List BlockEdges) (c : ℕ) (e : Edge) → Contains (edges_of (graph_of function).blocks c) e → (x : Block) × (slice_get function.blocks c ≡ Some x)
      from_there blocks c e within = by (slice_get function.blocks c) refl
        where
          by : (o : Option Block) → slice_get function.blocks c ≡ o → (x : Block) × (slice_get function.blocks c ≡ Some x)
          by None is = absurd (no_edges function c e is within)
          by (Some x) is = (x, is)

  entry : (f r : ℕ) → IsAlways prog f 0 0 r → r < parameters_of prog f
  entry f r h = by (defining h.function 0 h.block 0 r (h.always [] refl))
    where
      by : Defining h.function 0 h.block 0 r → r < parameters_of prog f
      by (is_parameter e less) = rw h.is.at_function less
      by (is_phi has) = absurd (no_phi h.block.phis r (named.entry f h.function h.block h.is) has)
      by (is_step c) = absurd (none_defined h.block.steps r c)

  step : (f b i r : ℕ) (what : Instruction) → item_at prog f b i ≡ Some (Does what) → IsAlways prog f b (suc i) r → IsAlways prog f b i r ⊎ (dest_of what ≡ Some r)
  step f b i r what at h = elim (dest_or_not (dest_of what) r) [
    | inl e ↦ inr e
    | inr apart ↦
        let s = stands prog f b i (Does what) at in
        let x = step_there s.block.steps s.block.ending i what s.item in
        let one : s.function ≡ h.function = one_result (slice_get prog.functions f) s.function h.function s.is.at_function h.is.at_function in
        let two : s.block ≡ h.block = one_result (slice_get h.function.blocks b) s.block h.block (subst (λ (y : Function). slice_get y.blocks b ≡ Some s.block) one s.is.at_block) h.is.at_block in
        let there : slice_get h.block.steps i ≡ Some x.0 = subst (λ (y : Block). slice_get y.steps i ≡ Some x.0) two x.1 in
        inl (record {
          function = h.function;
          block = h.block;
          is = h.is;
          always = λ legs path. elim (Contains-append_cases (defined_along (map given_of (register_table h.function)) legs) (defined_before h.function b h.block (suc i)) r (h.always legs path)) [
            | inl c ↦ Contains-append_left (defined_along (map given_of (register_table h.function)) legs) (defined_before h.function b h.block i) r c
            | inr c ↦ Contains-append_right (defined_along (map given_of (register_table h.function)) legs) (defined_before h.function b h.block i) r
                (rest_within h.function b h.block (suc i) i r (λ k. elim (defined_step h.block.steps i r x.0 there k) [ inl n ↦ n | inr n ↦ absurd (apart (ap dest_of (sym x.2) ∙ n)) ]) c)
          ];
        })
  ]

  -- along an edge, what is defined behind it was defined before it, or by a phi
  along : (f b i to r : ℕ) (t : Terminator) (w : Way) → item_at prog f b i ≡ Some (Ends t) → LeadsTo t w to → IsAlways prog f to 0 r → IsAlways prog f b i r ⊎ HasPhi (phis_at prog f to) r
  along f b i to r t w at leads h = elim (has_or_not h.block.phis r) [
    | inl has ↦ inr (subst (λ ps. HasPhi ps r) (sym (phis_are f to h.function h.block h.is)) has)
    | inr lacks ↦
        let s = stands prog f b i (Ends t) at in
        let end = end_there s.block.steps s.block.ending i t s.item in
        let one : s.function ≡ h.function = one_result (slice_get prog.functions f) s.function h.function s.is.at_function h.is.at_function in
        let from : IsBlock prog f b h.function s.block = subst (λ (y : Function). IsBlock prog f b y s.block) one s.is in
        let edge = edge_behind prog f b to h.function s.block h.block end.0 w from end.1 h.is.at_block (subst (λ (y : Terminator). LeadsTo y w to) (sym end.2) leads) in
        inl (record {
          function = h.function;
          block = s.block;
          is = from;
          always = λ legs path. before s.block from end.3 lacks edge legs path;
        })
  ]
    where
      phis_are : (f to : ℕ) (function : Function) (block : Block) → IsBlock prog f to function block → phis_at prog f to ≡ block.phis
      phis_are f to function block is = rw (block_is prog f to function block is) refl

      before : (block : Block) → IsBlock prog f b h.function block → i ≡ length block.steps → (HasPhi h.block.phis r → ⊥) → Along (edges_of (graph_of h.function).blocks b) w to → (legs : List Leg) → IsPath (graph_of h.function).blocks 0 legs b →
          Contains (defined_along (map given_of (register_table h.function)) legs ++ defined_before h.function b block i) r
      before block from last lacks edge legs path =
          let leg : Leg = record { from = b; edge = edge.edge } in
          let there : IsPath (graph_of h.function).blocks 0 (leg ∷ legs) to = (edge.within, edge.target, path) in
          elim (Contains-append_cases (defined_along (map given_of (register_table h.function)) (leg ∷ legs)) (defined_before h.function to h.block 0) r (h.always (leg ∷ legs) there)) [
            | inl c ↦ rw (last, ← left_given h.function b block from.at_block) c
            | inr c ↦ by (defining h.function to h.block 0 r c)
          ]
        where
          by : Defining h.function to h.block 0 r → Contains (defined_along (map given_of (register_table h.function)) legs ++ defined_before h.function b block i) r
          by (is_parameter e less) = parameters_along f h.function from.at_function b block i r from.at_block less legs path
          by (is_phi has) = absurd (lacks has)
          by (is_step k) = absurd (none_defined h.block.steps r k)

  module _ (right : AreRegionsRight prog) where
    -- 307: a detached block and a continuation have no phis
    no_phis : (f to : ℕ) (function : Function) (block : Block) → IsBlock prog f to function block → (a : ℕ) (w : Way) → (w ≡ way.Detached) ⊎ (w ≡ way.Continued) → Along (edges_of (graph_of function).blocks a) w to → block.phis ≡ []
    no_phis f to function block is a w kind edge = by block.phis refl
      where
        by : (phis : List Phi) → block.phis ≡ phis → block.phis ≡ []
        by [] e = e
        by (phi ∷ phis) e = absurd (phi_refused prog right f to function block phi phis is e a w kind edge)

    pub always_defined : DefinesRegisters prog (IsAlways prog)
    always_defined = record {
      entry = λ f r h. entry f r h;
      step = λ f b i r what at h. step f b i r what at h;
      along = λ f b i to r t at leads h. along f b i to r t way.Branch at leads h;
      sync = λ f b i region to r t at leads h. along f b i to r t (way.Synced (record { 0 = region })) at leads h;
      body = λ f b i r region body continuation at h. no_choice f b i body.0 r (terminator.Detach region body continuation) way.Detached at refl (inl refl) h;
      continuation = λ f b i r region body continuation at h. no_choice f b i continuation.0 r (terminator.Detach region body continuation) way.Continued at refl (inr refl) h;
      arguments = named.arguments;
      calls = named.calls;
      returns = named.returns;
    }
      where
        no_choice : (f b i to r : ℕ) (t : Terminator) (w : Way) → item_at prog f b i ≡ Some (Ends t) → LeadsTo t w to → (w ≡ way.Detached) ⊎ (w ≡ way.Continued) → IsAlways prog f to 0 r → IsAlways prog f b i r
        no_choice f b i to r t w at leads kind h = elim (along f b i to r t w at leads h) [
          | inl k ↦ k
          | inr has ↦
              let s = stands prog f b i (Ends t) at in
              let end = end_there s.block.steps s.block.ending i t s.item in
              let one : s.function ≡ h.function = one_result (slice_get prog.functions f) s.function h.function s.is.at_function h.is.at_function in
              let from : IsBlock prog f b h.function s.block = subst (λ (y : Function). IsBlock prog f b y s.block) one s.is in
              let edge = edge_behind prog f b to h.function s.block h.block end.0 w from end.1 h.is.at_block (subst (λ (y : Terminator). LeadsTo y w to) (sym end.2) leads) in
              let read : phis_at prog f to ≡ h.block.phis = rw (block_is prog f to h.function h.block h.is) refl in
              absurd (no_phi (phis_at prog f to) r (read ∙ no_phis f to h.function h.block h.is b w kind edge) has)
        ]

pub defined_are_kept : DefinedAreKept
defined_are_kept prog named right = registers_kept prog (IsAlways prog) (always_defined prog named right) Nothing

-- what a step needs is defined on each path to it
pub uses_are_defined : UsesAreDefined
uses_are_defined prog rule f b i what n at needed =
    let s = stands prog f b i (Does what) at in
    let x = step_there s.block.steps s.block.ending i what s.item in
    let needs : Contains (instruction_needs s.function.allocas x.0.line x.0.instruction) (Needs n x.0.line) = subst (λ (y : Instruction). Contains (instruction_needs s.function.allocas x.0.line y) (Needs n x.0.line)) (sym x.2) (needed s.function x.0.line s.is.at_function) in
    record {
      function = s.function;
      block = s.block;
      is = s.is;
      always = need_defined s.function b s.block s.is.at_block (rule f s.function s.is.at_function) (defined_before s.function b s.block i) n x.0.line
          (step_found s.function b s.block i x.0 (Needs n x.0.line) x.1 (Contains-append_right (flat_map inequality_needs x.0.shows) (instruction_needs s.function.allocas x.0.line x.0.instruction) (Needs n x.0.line) needs));
    }
