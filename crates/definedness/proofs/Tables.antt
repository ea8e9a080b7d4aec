-- Tables of marks.
use Rattle.std.proofs.Common.{◌≡◌, ◌↔◌, ℕ, ◌+◌, ◌<◌, ◌≤◌, Bool, true, false, List, [], ◌∷◌, ◌++◌, length, get_or, take, inl, inr, refl, sym, ap, ◌∙◌, arith}
use Rattle.std.specs.Prelude.{IsTrue}
use Rattle.std.specs.List.{All, Contains}
use Rattle.std.proofs.lemmas.Bool.{cases_eq, cases_lt, false≢true}
use Rattle.std.proofs.lemmas.List.{length_push, get_or_append_left, get_or_push, get_or_past, take_more}
use Rattle.std.proofs.lemmas.List.Elements.{All-push, All-weaker}
use Rattle.std.proofs.lemmas.Option.{slice_get_past}
use Rattle.definedness.specs.declared.act.Act.{Act}
use Rattle.definedness.specs.declared.act.Act.TheVariants.{Needs, Gives}
use Rattle.definedness.specs.declared.act.BlockActs.{BlockActs}
use Rattle.definedness.specs.declared.table.Given.{Given}
use Rattle.definedness.specs.declared.table.Row.{Row}
use Rattle.definedness.specs.Needs.{numbers_of, numbers_at}
use Rattle.definedness.specs.Marks.{mark_at, IsNeedBelow, AreNeedsBelow}
use Rattle.refusal.proofs.Places.{read_at}

-- the marks of the first blocks
pub record MarksOf (all : List Given) (number n : ℕ) (marks : List Bool) : Type 0 where
  pub size : length marks ≡ n
  pub exact : (b : ℕ) → b < n → (get_or marks b false ≡ true) ↔ Contains (numbers_at all b) number

pub marks_none : (all : List Given) (number : ℕ) → MarksOf all number 0 []
marks_none all number = record { size = refl; exact = λ b l. absurd (omega (arith, l)) }

contains_nothing : (n : ℕ) → Contains [] n → ⊥
contains_nothing n c = absurd (omega (arith, c.1))

pub marks_more : (all : List Given) (number i : ℕ) (block : Given) (marks : List Bool) (mark : Bool) → i < length all → block ≡ get_or all i block → MarksOf all number i marks → (IsTrue mark ↔ Contains block.numbers number) → MarksOf all number (i + 1) (marks ++ mark ∷ [])
marks_more all number i block marks mark l is m here =
    let numbers : numbers_at all i ≡ block.numbers = ap numbers_of (read_at all i block l is) in
    record {
      size = length_push marks mark ∙ omega (arith, m.size);
      exact = λ b w. elim (cases_eq b i) [
        | inl e ↦
            let last : length marks ≡ b = m.size ∙ sym e in
            let value : get_or (marks ++ mark ∷ []) b false ≡ mark = get_or_push marks mark false b last in
            rw (value, e, numbers) here
        | inr ne ↦
            let inside : b < length marks = omega (arith, w, ne, m.size) in
            rw (get_or_append_left marks (mark ∷ []) false b inside) (m.exact b (omega (arith, w, ne)))
      ];
    }

pub marks_all : (all : List Given) (number n : ℕ) (marks : List Bool) → length all ≤ n → MarksOf all number n marks → (b : ℕ) → (get_or marks b false ≡ true) ↔ Contains (numbers_at all b) number
marks_all all number n marks past m b = elim (cases_lt b n) [
  | inl l ↦ m.exact b l
  | inr g ↦ (
    λ h. absurd (false≢true (sym (get_or_past marks b false (rw m.size g)) ∙ h)),
    λ c. absurd (contains_nothing number (let none = slice_get_past all b (omega (arith, past, g)) in rw none at c)),
  )
]

need_weaker : (m n : ℕ) → m ≤ n → (act : Act) → IsNeedBelow m act → IsNeedBelow n act
need_weaker m n le (Needs x line) h = omega (arith, le, h)
need_weaker m n le (Gives x) h = tt

pub needs_next : (acts : List Act) (i : ℕ) (act : Act) (m n : ℕ) → i < length acts → act ≡ get_or acts i act → m ≤ n → All (IsNeedBelow m) (take i acts) → IsNeedBelow n act → All (IsNeedBelow n) (take (i + 1) acts)
needs_next acts i act m n l is le before here =
    rw (take_more acts i act l, ← is) (All-push (IsNeedBelow n) (take i acts) act (All-weaker (IsNeedBelow m) (IsNeedBelow n) (need_weaker m n le) (take i acts) before) here)

block_weaker : (m n : ℕ) → m ≤ n → (block : BlockActs) → All (IsNeedBelow m) block.acts → All (IsNeedBelow n) block.acts
block_weaker m n le block all = All-weaker (IsNeedBelow m) (IsNeedBelow n) (need_weaker m n le) block.acts all

pub blocks_next : (table : List BlockActs) (i : ℕ) (block : BlockActs) (m n : ℕ) → i < length table → block ≡ get_or table i block → m ≤ n → AreNeedsBelow m (take i table) → All (IsNeedBelow n) block.acts → AreNeedsBelow n (take (i + 1) table)
blocks_next table i block m n l is le before here =
    let P : ℕ → BlockActs → Type 0 = λ m b. All (IsNeedBelow m) b.acts in
    rw (take_more table i block l, ← is) (All-push (P n) (take i table) block (All-weaker (P m) (P n) (block_weaker m n le) (take i table) before) here)

pub row_seen : (rows : List Row) (n b : ℕ) (row : Row) (mark : Bool) → n < length rows → row ≡ get_or rows n row → mark ≡ get_or row.marks b false → mark ≡ mark_at rows n b
row_seen rows n b row mark l at is = rw (read_at rows n row l at) is
