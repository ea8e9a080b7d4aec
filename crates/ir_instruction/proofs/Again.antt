-- What is spelled by a shape is read again.
use Rattle.std.proofs.Common.{◌≡◌, ℕ, zero, suc, ◌*◌, ◌/◌, ◌%◌, ◌≤◌, ◌<◌, List, [], ◌∷◌, ◌++◌, length, Bool, true, false, cond, eqb, eq-eqb, Option, Some, None, refl, ap, ◌∙◌, append_assoc, length-append, arith}
use Rattle.std.specs.Prelude.{codes, flat_map, pos, nat_lt, ◌&&◌}
use Rattle.std.specs.List.{list_all}
use Rattle.std.specs.Str.{bytes_eq}
use Rattle.std.proofs.lemmas.Bool.{ltb-true, lt-ltb, and_parts}
use Rattle.std.proofs.lemmas.Slice.Eq.{bytes_eq-Decides}
use Rattle.syntax.specs.declared.instruction.Operand.{Operand}
use Rattle.syntax.specs.declared.instruction.Operand.TheVariants as operands
use Rattle.syntax.specs.declared.instruction.Address.{Address}
use Rattle.syntax.specs.declared.instruction.Address.TheVariants as addresses
use Rattle.syntax.specs.declared.instruction.Argument.{Argument}
use Rattle.syntax.specs.declared.instruction.Argument.TheVariants as argument
use Rattle.syntax.specs.declared.instruction.PhiEntry.{PhiEntry}
use Rattle.syntax.specs.declared.module.Parameter.{Parameter}
use Rattle.syntax.specs.declared.module.Parameter.TheVariants as parameter
use Rattle.syntax.specs.declared.module.ResultType.TheVariants as results
use Rattle.syntax.specs.declared.operator.Predicate.{Predicate}
use Rattle.syntax.specs.declared.operator.Predicate.TheVariants.{Equal, NotEqual, UnsignedGreater, UnsignedAtLeast, UnsignedLess, UnsignedAtMost, SignedGreater, SignedAtLeast, SignedLess, SignedAtMost}
use Rattle.syntax.specs.declared.operator.Width.{Width}
use Rattle.syntax.specs.declared.operator.Width.TheVariants.{Bits64, Bits32}
use Rattle.ir_instruction.specs.declared.symbol.Numeral.TheVariants.{Small}
use Rattle.ir_instruction.specs.declared.symbol.Symbol.{Symbol}
use Rattle.ir_instruction.specs.declared.symbol.Symbol.TheVariants.{Register, Number, Word, Mark}
use Rattle.ir_instruction.specs.declared.switch.SpelledCase.{SpelledCase}
use Rattle.ir_instruction.specs.Outcome.{◌>>=◌}
use Rattle.ir_instruction.specs.Numerals.{count_of, cells_of_bytes}
use Rattle.ir_instruction.specs.Fronts.{is_mark, array_at, operand_at, pointer_at, width_at}
use Rattle.ir_instruction.specs.Operators.{predicate_of, predicate_at}
use Rattle.ir_instruction.specs.Lists.{list_at, comma_at, case_follows, parameter_at, argument_at, entry_at, case_at, all_at, all_cases_at, all_entries_at}
use Rattle.ir_instruction.specs.Shape.{Gap, register, function, label, operand, pointer, array, width, result_type, predicate, parameters, arguments, cases, entries, Piece, word, mark, named, gap, space, Held, Gaps, gap_at, gaps_of}
use Rattle.ir_instruction.specs.Spelling.{Atom, Token, Blank, symbols_in, operand_symbol, address_symbol, width_word, predicate_word, array_atoms, parameter_atoms, argument_atoms, entry_atoms, case_atoms, other_atoms, parted, cases_atoms, gap_atoms, atoms_of}
use Rattle.ir_instruction.specs.Fits.{has_cells, fits, may_stand, all_fit}

pub symbols_appended : (xs ys : List Atom) → symbols_in (xs ++ ys) ≡ symbols_in xs ++ symbols_in ys
symbols_appended [] ys = refl
symbols_appended (Blank ∷ xs) ys = symbols_appended xs ys
symbols_appended (Token s ∷ xs) ys = ap (λ (t : List Symbol). s ∷ t) (symbols_appended xs ys)

-- one gap

operand_again : (v : Operand) (rest : List Symbol) → operand_at (operand_symbol v ∷ rest) ≡ Some (v, rest)
operand_again (operands.Number n) rest = refl
operand_again (operands.Register name) rest = refl

pointer_again : (a : Address) (rest : List Symbol) → pointer_at (Word (codes "ptr") ∷ address_symbol a ∷ rest) ≡ Some (a, rest)
pointer_again (addresses.Register name) rest = refl
pointer_again (addresses.Global name) rest = refl

width_again : (w : Width) (rest : List Symbol) → width_at (Word (width_word w) ∷ rest) ≡ Some (w, rest)
width_again Bits64 rest = refl
width_again Bits32 rest = refl

predicate_again : (p : Predicate) (rest : List Symbol) → predicate_at (Word (predicate_word p) ∷ rest) ≡ Some (p, rest)
unfolding predicate_of
predicate_again Equal rest = refl
predicate_again NotEqual rest = refl
predicate_again UnsignedGreater rest = refl
predicate_again UnsignedAtLeast rest = refl
predicate_again UnsignedLess rest = refl
predicate_again UnsignedAtMost rest = refl
predicate_again SignedGreater rest = refl
predicate_again SignedAtLeast rest = refl
predicate_again SignedLess rest = refl
predicate_again SignedAtMost rest = refl

count_again : (n : ℕ) → nat_lt 0 n ≡ true → count_of (Small (pos n)) ≡ Some n
count_again n h = ap (λ (b : Bool). cond b (Some n) None) h

array_again : (n : ℕ) (rest : List Symbol) → nat_lt 0 n ≡ true → array_at (symbols_in (array_atoms n) ++ rest) ≡ Some (n, rest)
array_again n rest h = rw h refl

cells_again : (n : ℕ) → nat_lt 0 n ≡ true → cells_of_bytes (Small (pos (8 * n))) ≡ Some n
cells_again n h =
    let some : 0 < n = ltb-true 0 n h in
    let first : nat_lt 0 (8 * n) ≡ true = lt-ltb 0 (8 * n) (omega arith) in
    let whole : eqb ((8 * n) % 8) 0 ≡ true = eq-eqb ((8 * n) % 8) 0 (omega arith) in
    let back : (8 * n) / 8 ≡ n = omega arith in
    rw (first, whole, back) refl

-- elements of lists

parameter_again : (p : Parameter) (rest : List Symbol) → has_cells p ≡ true → parameter_at (symbols_in (parameter_atoms p) ++ rest) ≡ Some (p, rest)
parameter_again (parameter.Number name) rest h = refl
parameter_again (parameter.Pointer name cells) rest h = rw (cells_again cells h) refl

argument_again : (x : Argument) (rest : List Symbol) → argument_at (symbols_in (argument_atoms x) ++ rest) ≡ Some (x, rest)
argument_again (argument.Number (operands.Number n)) rest = refl
argument_again (argument.Number (operands.Register name)) rest = refl
argument_again (argument.Pointer (addresses.Register name)) rest = refl
argument_again (argument.Pointer (addresses.Global name)) rest = refl

entry_again : (e : PhiEntry) (rest : List Symbol) → entry_at (symbols_in (entry_atoms e) ++ rest) ≡ Some (e, rest)
entry_again e rest = rw (operand_again e.value (Mark 44 ∷ Register e.predecessor ∷ Mark 93 ∷ rest)) refl

case_again : (c : SpelledCase) (rest : List Symbol) → case_at (symbols_in (case_atoms c) ++ rest) ≡ Some (c, rest)
case_again c rest = rw (width_again c.width (Number c.number ∷ Mark 44 ∷ Word (codes "label") ∷ Register c.target ∷ rest)) refl

-- lists parted by commas

pub record IsElement {A : Type 0} (at : List Symbol → Option (A × List Symbol)) (f : A → List Symbol) (x : A) : Type 0 where
  pub some : 0 < length (f x)
  pub again : (rest : List Symbol) → at (f x ++ rest) ≡ Some (x, rest)

abbrev pub AreElements : {A : Type 0} → (List Symbol → Option (A × List Symbol)) → (A → List Symbol) → List A → Type 0
AreElements at f [] = Unit {0}
AreElements at f (x ∷ xs) = IsElement at f x × AreElements at f xs

-- behind commas
abbrev pub others : {A : Type 0} → (A → List Symbol) → List A → List Symbol
others f [] = []
others f (x ∷ xs) = Mark 44 ∷ (f x ++ others f xs)

list_again : {A : Type 0} (at : List Symbol → Option (A × List Symbol)) (f : A → List Symbol) (x : A) (xs : List A) (most : ℕ) (rest : List Symbol)
    → length xs < most → is_mark 44 rest ≡ false → AreElements at f (x ∷ xs) → list_at at comma_at most (f x ++ (others f xs ++ rest)) ≡ Some (x ∷ xs, rest)
unfolding list_at
list_again at f x xs zero rest le h ok = absurd (omega arith)
list_again at f x [] (suc most) rest le h ok = rw (ok.0.again rest, h) refl
list_again at f x (y ∷ ys) (suc most) rest le h ok =
    let regrouped : others f (y ∷ ys) ++ rest ≡ Mark 44 ∷ (f y ++ (others f ys ++ rest)) = ap (λ (t : List Symbol). Mark 44 ∷ t) (append_assoc (f y) (others f ys) rest) in
    ap (λ (t : List Symbol). list_at at comma_at (suc most) (f x ++ t)) regrouped
    ∙ rw (ok.0.again (Mark 44 ∷ (f y ++ (others f ys ++ rest))), list_again at f y ys most rest (omega arith) h ok.1) refl

long_enough : {A : Type 0} (f : A → List Symbol) (xs : List A) → length xs ≤ length (others f xs)
long_enough f [] = omega arith
long_enough f (x ∷ xs) = omega (arith, long_enough f xs, length-append (f x) (others f xs))

-- the symbols of parted elements
pub parted_symbols : {A : Type 0} (f : A → List Atom) (xs : List A) → symbols_in (flat_map (other_atoms f) xs) ≡ others (λ x. symbols_in (f x)) xs
parted_symbols f [] = refl
parted_symbols f (x ∷ xs) = ap (λ (t : List Symbol). Mark 44 ∷ t) (symbols_appended (f x) (flat_map (other_atoms f) xs) ∙ ap (λ (t : List Symbol). symbols_in (f x) ++ t) (parted_symbols f xs))

pub some_parted : {A : Type 0} (f : A → List Atom) (x : A) (xs : List A) (rest : List Symbol) → symbols_in (parted f (x ∷ xs)) ++ rest ≡ symbols_in (f x) ++ (others (λ x. symbols_in (f x)) xs ++ rest)
some_parted f x xs rest =
    ap (λ (t : List Symbol). t ++ rest) (symbols_appended (f x) (flat_map (other_atoms f) xs) ∙ ap (λ (t : List Symbol). symbols_in (f x) ++ t) (parted_symbols f xs))
    ∙ append_assoc (symbols_in (f x)) (others (λ x. symbols_in (f x)) xs) rest

elements_again : {A : Type 0} (at : List Symbol → Option (A × List Symbol)) (f : A → List Atom) (x : A) (xs : List A) (rest : List Symbol)
    → is_mark 44 rest ≡ false → AreElements at (λ x. symbols_in (f x)) (x ∷ xs) → (line : List Symbol) → line ≡ symbols_in (parted f (x ∷ xs)) ++ rest → list_at at comma_at (length line) line ≡ Some (x ∷ xs, rest)
elements_again at f x xs rest h ok line e =
    let whole : line ≡ symbols_in (f x) ++ (others (λ x. symbols_in (f x)) xs ++ rest) = e ∙ some_parted f x xs rest in
    let some : 0 < length (symbols_in (f x)) = ok.0.some in
    let enough : length xs < length (symbols_in (f x) ++ (others (λ x. symbols_in (f x)) xs ++ rest)) = omega (arith, long_enough (λ x. symbols_in (f x)) xs, length-append (symbols_in (f x)) (others (λ x. symbols_in (f x)) xs ++ rest), length-append (others (λ x. symbols_in (f x)) xs) rest) in
    rw whole (list_again at (λ x. symbols_in (f x)) x xs (length (symbols_in (f x) ++ (others (λ x. symbols_in (f x)) xs ++ rest))) rest enough h ok)

longer_parameter : (p : Parameter) → 0 < length (symbols_in (parameter_atoms p))
longer_parameter (parameter.Number name) = omega arith
longer_parameter (parameter.Pointer name cells) = omega arith

parameters_fit : (ps : List Parameter) → list_all has_cells ps ≡ true → AreElements parameter_at (λ p. symbols_in (parameter_atoms p)) ps
parameters_fit [] h = tt
parameters_fit (p ∷ ps) h =
    let t = and_parts (has_cells p) (list_all has_cells ps) h in
    (record { some = longer_parameter p; again = λ rest. parameter_again p rest t.0 }, parameters_fit ps t.1)

longer_argument : (x : Argument) → 0 < length (symbols_in (argument_atoms x))
longer_argument (argument.Number value) = omega arith
longer_argument (argument.Pointer address) = omega arith

arguments_fit : (xs : List Argument) → AreElements argument_at (λ x. symbols_in (argument_atoms x)) xs
arguments_fit [] = tt
arguments_fit (x ∷ xs) = (record { some = longer_argument x; again = argument_again x }, arguments_fit xs)

entries_fit : (es : List PhiEntry) → AreElements entry_at (λ e. symbols_in (entry_atoms e)) es
entries_fit [] = tt
entries_fit (e ∷ es) = (record { some = omega arith; again = entry_again e }, entries_fit es)

-- up to )

abbrev pub closed : {A : Type 0} → (A → List Atom) → List A → List Symbol → List Symbol
closed f xs rest = symbols_in (parted f xs) ++ (Mark 41 ∷ rest)

closed_symbols : {A : Type 0} (f : A → List Atom) (xs : List A) (rest : List Symbol) → symbols_in (parted f xs ++ Token (Mark 41) ∷ []) ++ rest ≡ closed f xs rest
closed_symbols f xs rest =
    ap (λ (t : List Symbol). t ++ rest) (symbols_appended (parted f xs) (Token (Mark 41) ∷ [])) ∙ append_assoc (symbols_in (parted f xs)) (Mark 41 ∷ []) rest

begins_parameter : (p : Parameter) (ps : List Parameter) (rest : List Symbol) → is_mark 41 (closed parameter_atoms (p ∷ ps) rest) ≡ false
begins_parameter (parameter.Number name) ps rest = refl
begins_parameter (parameter.Pointer name cells) ps rest = refl

begins_argument : (x : Argument) (xs : List Argument) (rest : List Symbol) → is_mark 41 (closed argument_atoms (x ∷ xs) rest) ≡ false
begins_argument (argument.Number value) xs rest = refl
begins_argument (argument.Pointer address) xs rest = refl

all_again : {A : Type 0} (at : List Symbol → Option (A × List Symbol)) (f : A → List Atom) (x : A) (xs : List A) (rest line : List Symbol)
    → is_mark 41 line ≡ false → AreElements at (λ x. symbols_in (f x)) (x ∷ xs) → line ≡ closed f (x ∷ xs) rest → all_at at line ≡ Some (x ∷ xs, rest)
all_again at f x xs rest line begins ok e = rw (begins, elements_again at f x xs (Mark 41 ∷ rest) refl ok line e) refl

parameters_again : (ps : List Parameter) (rest : List Symbol) → list_all has_cells ps ≡ true → all_at parameter_at (closed parameter_atoms ps rest) ≡ Some (ps, rest)
parameters_again [] rest h = refl
parameters_again (p ∷ ps) rest h = all_again parameter_at parameter_atoms p ps rest (closed parameter_atoms (p ∷ ps) rest) (begins_parameter p ps rest) (parameters_fit (p ∷ ps) h) refl

arguments_again : (xs : List Argument) (rest : List Symbol) → all_at argument_at (closed argument_atoms xs rest) ≡ Some (xs, rest)
arguments_again [] rest = refl
arguments_again (x ∷ xs) rest = all_again argument_at argument_atoms x xs rest (closed argument_atoms (x ∷ xs) rest) (begins_argument x xs rest) (arguments_fit (x ∷ xs)) refl

entries_again : (es : List PhiEntry) → fits entries es ≡ true → all_entries_at (symbols_in (parted entry_atoms es) ++ []) ≡ Some (es, [])
entries_again [] h = absurd cc
entries_again (e ∷ es) h = elements_again entry_at entry_atoms e es [] refl (entries_fit (e ∷ es)) (symbols_in (parted entry_atoms (e ∷ es)) ++ []) refl

-- up to ]

no_bracket : (w : Width) (rest : List Symbol) → is_mark 93 (Word (width_word w) ∷ rest) ≡ false
no_bracket w rest = refl

cases_symbols : (c : SpelledCase) (cs : List SpelledCase) (rest : List Symbol) → symbols_in (cases_atoms (c ∷ cs)) ++ rest ≡ symbols_in (case_atoms c) ++ (symbols_in (cases_atoms cs) ++ rest)
cases_symbols c cs rest = refl

cases_listed : (c : SpelledCase) (cs : List SpelledCase) (most : ℕ) (rest : List Symbol)
    → length cs < most → list_at case_at case_follows most (symbols_in (cases_atoms (c ∷ cs)) ++ rest) ≡ Some (c ∷ cs, Mark 93 ∷ rest)
unfolding list_at
cases_listed c cs zero rest le = absurd (omega arith)
cases_listed c [] (suc most) rest le = rw (case_again c (Mark 93 ∷ rest)) refl
cases_listed c (d ∷ ds) (suc most) rest le =
    let later : List Symbol = symbols_in (cases_atoms (d ∷ ds)) ++ rest in
    rw (case_again c later, cases_listed d ds most rest (omega arith)) refl

more_cases : (cs : List SpelledCase) → length cs < length (symbols_in (cases_atoms cs))
more_cases [] = omega arith
more_cases (c ∷ cs) = omega (arith, more_cases cs)

cases_again : (cs : List SpelledCase) (rest : List Symbol) → fits cases cs ≡ true → all_cases_at (symbols_in (cases_atoms cs) ++ rest) ≡ Some (cs, rest)
cases_again [] rest h = absurd cc
cases_again (c ∷ cs) rest h =
    let enough : length cs < length (symbols_in (cases_atoms (c ∷ cs)) ++ rest) = omega (arith, more_cases (c ∷ cs), length-append (symbols_in (cases_atoms (c ∷ cs))) rest) in
    rw (cases_listed c cs (length (symbols_in (cases_atoms (c ∷ cs)) ++ rest)) rest enough) refl

-- a gap, and a whole shape

ends_with : (es : List PhiEntry) (rest : List Symbol) → rest ≡ [] → fits entries es ≡ true → all_entries_at (symbols_in (parted entry_atoms es) ++ rest) ≡ Some (es, rest)
ends_with es [] e h = entries_again es h
ends_with es (s ∷ rest) e h = absurd cc

rest_fits : Gap → List Symbol → Type 0
rest_fits entries rest = rest ≡ []
rest_fits _ rest = Unit {0}

gap_again : (g : Gap) (value : Held g) (rest : List Symbol) → fits g value ≡ true → rest_fits g rest → gap_at g (symbols_in (gap_atoms g value) ++ rest) ≡ Some (value, rest)
unfolding rest_fits
gap_again register name rest h e = refl
gap_again function name rest h e = refl
gap_again label name rest h e = refl
gap_again operand value rest h e = operand_again value rest
gap_again pointer address rest h e = pointer_again address rest
gap_again array n rest h e = array_again n rest h
gap_again width w rest h e = width_again w rest
gap_again result_type results.Number rest h e = refl
gap_again result_type results.Void rest h e = refl
gap_again predicate p rest h e = predicate_again p rest
gap_again parameters ps rest h e = ap (all_at parameter_at) (closed_symbols parameter_atoms ps rest) ∙ parameters_again ps rest h
gap_again arguments xs rest h e = ap (all_at argument_at) (closed_symbols argument_atoms xs rest) ∙ arguments_again xs rest
gap_again cases cs rest h e = cases_again cs rest h
gap_again entries es rest h e = ends_with es rest e h

stands : (g : Gap) (shape : List Piece) (gaps : Gaps shape) → may_stand g shape ≡ true → rest_fits g (symbols_in (atoms_of shape gaps))
unfolding rest_fits
stands entries [] gaps h = refl
stands entries (p ∷ shape) gaps h = absurd cc
stands register shape gaps h = tt
stands function shape gaps h = tt
stands label shape gaps h = tt
stands operand shape gaps h = tt
stands pointer shape gaps h = tt
stands array shape gaps h = tt
stands width shape gaps h = tt
stands result_type shape gaps h = tt
stands predicate shape gaps h = tt
stands parameters shape gaps h = tt
stands arguments shape gaps h = tt
stands cases shape gaps h = tt

same_word : (text : List ℕ) → bytes_eq text text ≡ true
same_word text = (bytes_eq-Decides text text).1 refl

-- what a shape's gaps hold is read from its symbols
pub gaps_again : (shape : List Piece) (gaps : Gaps shape) → all_fit shape gaps ≡ true → gaps_of shape (symbols_in (atoms_of shape gaps)) ≡ Some gaps
gaps_again [] gaps h = refl
gaps_again (word text ∷ shape) gaps h = rw (same_word text) (gaps_again shape gaps h)
gaps_again (mark byte ∷ shape) gaps h = rw (eq-eqb byte byte refl) (gaps_again shape gaps h)
gaps_again (named text ∷ shape) gaps h = rw (same_word text) (gaps_again shape gaps h)
gaps_again (space ∷ shape) gaps h = gaps_again shape gaps h
gaps_again (gap g ∷ shape) gaps h =
    let t = and_parts (fits g gaps.0 && may_stand g shape) (all_fit shape gaps.1) h in
    let u = and_parts (fits g gaps.0) (may_stand g shape) t.0 in
    let rest : List Symbol = symbols_in (atoms_of shape gaps.1) in
    let one : gap_at g (symbols_in (gap_atoms g gaps.0) ++ rest) ≡ Some (gaps.0, rest) = gap_again g gaps.0 rest u.0 (stands g shape gaps.1 u.1) in
    ap (λ (line : List Symbol). gap_at g line >>= λ found. gaps_of shape found.1 >>= λ gaps. Some (found.0, gaps)) (symbols_appended (gap_atoms g gaps.0) (atoms_of shape gaps.1))
    ∙ ap (λ (r : Option (Held g × List Symbol)). r >>= λ found. gaps_of shape found.1 >>= λ gaps. Some (found.0, gaps)) one
    ∙ ap (λ (r : Option (Gaps shape)). r >>= λ (more : Gaps shape). Some (gaps.0, more)) (gaps_again shape gaps.1 t.1)
