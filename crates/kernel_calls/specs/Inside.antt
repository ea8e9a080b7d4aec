-- What a host is told of what a module has.
use Rattle.std.specs.Prelude.{◌≡◌, ◌≢◌, ◌⊎◌, ◌-◌, ◌^◌, ◌≤◌, ◌<◌, ◌-ℤ◌, ℕ, ℤ, List, [], length, map, min, sum, take}
use Rattle.std.specs.Prelude.{Option, Some, None, true, false, slice_get, pos}
use Rattle.linear.specs.Terms.{Combination}
use Rattle.linear.specs.declared.form.Term.{Term}
use Rattle.program.specs.declared.annotation.Inequality.{Inequality}
use Rattle.program.specs.declared.function.Alloca.{Alloca}
use Rattle.program.specs.declared.function.Function.{Function}
use Rattle.program.specs.declared.function.Global.{Global}
use Rattle.program.specs.declared.function.Program.{Program}
use Rattle.kernel_calls.specs.Held.{closed}
use Rattle.kernel_calls.specs.Told.{cells_of, done}
use Rattle.kernel_calls.specs.Words.{not_found}
use Rattle.kernel_calls.specs.declared.range.Range.{Range}

abbrev pub IsFoundStatus : ℕ → Type 0
IsFoundStatus n = (n ≡ done) ⊎ ((n ≡ closed) ⊎ (n ≡ not_found))

-- ---- counts, none of a handle that holds nothing

abbrev pub globals_in : Option Program → ℕ
globals_in None = 0
globals_in (Some program) = length program.globals

abbrev pub parameters_in : Option Function → ℕ
parameters_in None = 0
parameters_in (Some main) = length main.parameters

abbrev pub arguments_in : Option Program → ℕ
arguments_in None = 0
arguments_in (Some program) = parameters_in (slice_get program.functions program.main.0)

-- ---- cells of frames

-- a frame's own cells, as far as 64 bits count
abbrev pub frame_cells : Function → ℕ
frame_cells f = min (sum (map (λ (a : Alloca). a.cells) f.allocas)) (2 ^ 64 - 1)

-- no frame of these functions has more
abbrev pub AreAtMost : List Function → ℕ → Type 0
AreAtMost functions most = (k : ℕ) (f : Function) → slice_get functions k ≡ Some f → frame_cells f ≤ most

abbrev pub HasFrames : Option Program → ℕ → Type 0
HasFrames None most = most ≡ 0
HasFrames (Some program) most = AreAtMost program.functions most

-- ---- globals

-- the global of this number has this name, begins behind so many cells of those before it, and has so many
pub record IsGlobalAt (program : Program) (number : ℕ) (name : List ℕ) (first cells : ℕ) : Type 0 where
  pub global : Global
  pub there : slice_get program.globals number ≡ Some global
  pub named : global.name ≡ name
  pub first_is : first ≡ cells_of (take number program.globals)
  pub cells_are : cells ≡ global.cells

abbrev pub IsGlobalOf : Program → List ℕ → ℕ → ℕ → Type 0
IsGlobalOf program name first cells = (number : ℕ) × IsGlobalAt program number name first cells

-- none has this name
abbrev pub LacksName : List Global → List ℕ → Type 0
LacksName globals name = (number : ℕ) (global : Global) → slice_get globals number ≡ Some global → global.name ≢ name

-- ---- arguments

-- the form is the argument of this number and a constant
pub record IsArgument (number : ℕ) (form : Combination) : Type 0 where
  pub one : length form.terms ≡ 1
  pub term : Term
  pub there : slice_get form.terms 0 ≡ Some term
  pub register : term.register.0 ≡ number
  pub coefficient : term.coefficient ≡ pos 1

-- set against a form without arguments it is this number
pub record IsBound (number : ℕ) (alone other : Combination) (bound : ℤ) : Type 0 where
  pub alone_is : IsArgument number alone
  pub other_is : other.terms ≡ []
  pub bound_is : bound ≡ other.constant -ℤ alone.constant

-- one of these requirements sets the argument at least at this number, or at most
abbrev pub SetsLow : ℕ → List Inequality → ℤ → Type 0
SetsLow number requirements bound = (k : ℕ) × (r : Inequality) × (slice_get requirements k ≡ Some r) ×
    IsBound number r.high r.low bound

abbrev pub SetsHigh : ℕ → List Inequality → ℤ → Type 0
SetsHigh number requirements bound = (k : ℕ) × (r : Inequality) × (slice_get requirements k ≡ Some r) ×
    IsBound number r.low r.high bound

-- each bound that is told is one that a requirement sets
pub record IsRangeOf (number : ℕ) (requirements : List Inequality) (range : Range) : Type 0 where
  pub low : range.has_low ≡ true → SetsLow number requirements range.low
  pub high : range.has_high ≡ true → SetsHigh number requirements range.high

-- of an argument of `main`
pub record IsArgumentRange (program : Program) (number : ℕ) (range : Range) : Type 0 where
  pub main : Function
  pub there : slice_get program.functions program.main.0 ≡ Some main
  pub few : number < length main.parameters
  pub range_is : IsRangeOf number main.requirements range

abbrev pub HasNoBound : Range → Type 0
HasNoBound range = (range.has_low ≡ false) × (range.has_high ≡ false)
