-- A block, judged as far as the loop has come.
use Rattle.std.proofs.Common.{◌≡◌, ◌↔◌, ℕ, ◌+◌, ◌<◌, Bool, true, false, List, [], ◌∷◌, ◌++◌, length, get_or, take, Option, None, inl, inr, sym, ◌∙◌, ⊎_elim, arith}
use Rattle.std.specs.List.{Contains}
use Rattle.std.proofs.lemmas.Bool.{cases_lt, false≢true, false_from_ne_true}
use Rattle.std.proofs.lemmas.List.{take_more}
use Rattle.std.proofs.lemmas.List.Elements.{filter_map-append, Contains-append_left, Contains-append_right, Contains-append_cases, Contains-push, Contains-push_cases}
use Rattle.std.proofs.lemmas.Option.{slice_get_past}
use Rattle.refusal.specs.declared.broken.Broken.{Broken}
use Rattle.refusal.specs.Earliest.{IsEarliest}
use Rattle.refusal.specs.Named.{IsLowerOf}
use Rattle.refusal.proofs.Elements.{earliest_same}
use Rattle.definedness.specs.declared.act.Act.{Act}
use Rattle.definedness.specs.declared.act.Act.TheVariants.{Needs, Gives}
use Rattle.definedness.specs.declared.table.Row.{Row}
use Rattle.definedness.specs.Acts.{given}
use Rattle.definedness.specs.Judging.{IsNeedBrokenBy, IsGivenBy, MarksGiven}
use Rattle.definedness.specs.Needs.{gives, IsNeedBroken}
use Rattle.definedness.specs.Marks.{mark_at}
use Rattle.refusal.proofs.Places.{Below, below_nothing, below_next}

abbrev pub BrokenAt : List Row → ℕ → ℕ → List Act → ℕ → Act → Broken → Type 0
BrokenAt rows block rule acts k act broken = IsNeedBroken (λ n. mark_at rows n block ≡ true) rule (gives (take k acts)) act broken

pub record Judging (rows : List Row) (block rule : ℕ) (acts : List Act) (i : ℕ) (here : List Bool) (named : Option Broken) : Type 0 where
  pub size : length here ≡ length rows
  pub marks : (n : ℕ) → n < length rows → (get_or here n false ≡ true) ↔ Contains (gives (take i acts)) n
  pub broken : IsEarliest (Below (BrokenAt rows block rule acts) acts i) named

pub judging_none : (rows : List Row) (block rule : ℕ) (acts : List Act) (here : List Bool) → length here ≡ length rows → ((n : ℕ) → get_or here n false ≡ false) → Judging rows block rule acts 0 here None
judging_none rows block rule acts here size none = record {
  size = size;
  marks = λ n l. (λ h. absurd (false≢true (sym (none n) ∙ h)), λ c. absurd (omega (arith, c.1)));
  broken = below_nothing (BrokenAt rows block rule acts) acts;
}

pub mark_within : (rows : List Row) (n b : ℕ) → mark_at rows n b ≡ true → n < length rows
mark_within rows n b h = elim (cases_lt n (length rows)) [
  | inl l ↦ l
  | inr past ↦ absurd (false≢true (let none = slice_get_past rows n past in rw none at h))
]

-- an act that is judged by marks is judged by what stands before it
by_marks : (rows : List Row) (block rule i : ℕ) (acts : List Act) (here : List Bool) (named : Option Broken) → Judging rows block rule acts i here named → (act : Act) (b : Broken) → IsNeedBrokenBy rows here block rule act b → BrokenAt rows block rule acts i act b
by_marks rows block rule i acts here named j (Needs n line) b p = (p.0, p.1, λ c. false≢true (sym p.3 ∙ (j.marks n (rw (← j.size) p.2)).1 c), p.4)
by_marks rows block rule i acts here named j (Gives n) b p = p

to_marks : (rows : List Row) (block rule i : ℕ) (acts : List Act) (here : List Bool) (named : Option Broken) → Judging rows block rule acts i here named → (act : Act) (b : Broken) → BrokenAt rows block rule acts i act b → IsNeedBrokenBy rows here block rule act b
to_marks rows block rule i acts here named j (Needs n line) b p =
    let within = mark_within rows n block p.3 in
    (p.0, p.1, rw j.size within, false_from_ne_true (get_or here n false) (λ t. p.2 ((j.marks n within).0 t)), p.3)
to_marks rows block rule i acts here named j (Gives n) b p = p

-- what one act defines
gives_one : (act : Act) (n : ℕ) → Contains (gives (act ∷ [])) n → IsGivenBy act n
gives_one (Needs m line) n c = absurd (omega (arith, c.1))
gives_one (Gives m) n c = ⊎_elim (λ none. absurd (omega (arith, none.1))) (λ e. sym e) (Contains-push_cases [] m n c)

one_given : (act : Act) (n : ℕ) → IsGivenBy act n → Contains (gives (act ∷ [])) n
one_given (Needs m line) n h = absurd h
one_given (Gives m) n e = rw e (Contains-push [] m)

pub judging_next : (rows : List Row) (block rule : ℕ) (acts : List Act) (i : ℕ) (act : Act) (here here' : List Bool) (named broken r : Option Broken) → i < length acts → act ≡ get_or acts i act → Judging rows block rule acts i here named → IsEarliest (IsNeedBrokenBy rows here block rule act) broken → IsLowerOf named broken r → MarksGiven act here here' → Judging rows block rule acts (i + 1) here' r
judging_next rows block rule acts i act here here' named broken r l is j judged lower m =
    let grown : gives (take (i + 1) acts) ≡ gives (take i acts) ++ gives (act ∷ []) = rw (take_more acts i act l, ← is) (filter_map-append given (take i acts) (act ∷ [])) in
    record {
      size = m.size ∙ j.size;
      marks = λ n w. (
        λ h. rw grown (⊎_elim
            (λ old. Contains-append_left (gives (take i acts)) (gives (act ∷ [])) n ((j.marks n w).0 old))
            (λ new. Contains-append_right (gives (take i acts)) (gives (act ∷ [])) n (one_given act n new))
            (m.new n h)),
        λ c. ⊎_elim
            (λ old. m.kept n ((j.marks n w).1 old))
            (λ new. m.given n (rw j.size w) (gives_one act n new))
            (Contains-append_cases (gives (take i acts)) (gives (act ∷ [])) n (rw grown at c)),
      );
      broken = below_next (BrokenAt rows block rule acts) acts i act named broken r l is j.broken
          (earliest_same (IsNeedBrokenBy rows here block rule act) (BrokenAt rows block rule acts i act) broken (by_marks rows block rule i acts here named j act) (to_marks rows block rule i acts here named j act) judged)
          lower;
    }
