-- The names that an item which is kept defines are names within their limit.
use Rattle.std.proofs.Common.{◌≡◌, ℕ, Bool, true, List, [], ◌∷◌, ◌++◌, length, map, Option, Some, None, refl, sym, subst, ap, ◌∙◌}
use Rattle.std.specs.Prelude.{◌&&◌, ◌*◌, nat_le, flat_map, codes, pos}
use Rattle.std.specs.List.{list_all, All}
use Rattle.std.proofs.lemmas.Bool.{leb-true, and_parts}
use Rattle.std.proofs.lemmas.List.Elements.{All-nil, All-cons}
use Rattle.std.proofs.lemmas.List.Folds.{list_all-append}
use Rattle.syntax.specs.declared.module.Parameter.{Parameter}
use Rattle.syntax.specs.declared.module.Parameter.TheVariants as parameter
use Rattle.ir_lex.specs.Spelling.{is_name}
use Rattle.ir_annotation.specs.Annotations.{IsShortName}
use Rattle.syntax.specs.declared.module.ResultType.{ResultType}
use Rattle.ir_reader.specs.declared.item.item.Item.{Item}
use Rattle.ir_reader.specs.declared.item.item.Item.TheVariants as item
use Rattle.ir_instruction.specs.declared.symbol.Numeral.TheVariants.{Small}
use Rattle.ir_instruction.specs.declared.symbol.Symbol.{Symbol}
use Rattle.ir_instruction.specs.declared.symbol.Symbol.TheVariants as symbols
use Rattle.ir_instruction.specs.Symbols.{is_within_limits}
use Rattle.ir_instruction.specs.Spelling.{Atom, Token, Blank, symbols_in, parameter_atoms, other_atoms, parted, result_word}
use Rattle.ir_reader.specs.item.Items.{item_atoms}
use Rattle.ir_instruction.specs.Spelled.{is_spelled, is_parted_from, are_spelled}
use Rattle.ir_reader.specs.item.Printed.{IsSpelledItem, IsKeptItem}
use Rattle.ir_instruction.proofs.Again.{symbols_appended}

abbrev is_good : Symbol → Bool
is_good s = is_spelled s && is_within_limits s

abbrev Good : List Symbol → Type 0
Good ss = list_all is_good ss ≡ true

good_list : (atoms : List Atom) → are_spelled atoms ≡ true → list_all is_within_limits (symbols_in atoms) ≡ true → Good (symbols_in atoms)
good_list [] h w = refl
good_list (Blank ∷ atoms) h w = good_list atoms h w
good_list (Token s ∷ atoms) h w =
    let t = and_parts (is_spelled s && is_parted_from s atoms) (are_spelled atoms) h in
    let u = and_parts (is_spelled s) (is_parted_from s atoms) t.0 in
    let v = and_parts (is_within_limits s) (list_all is_within_limits (symbols_in atoms)) w in
    rw (u.0, v.0, good_list atoms t.1 v.1) refl

good_item : (i : Item) → IsSpelledItem i → Good (symbols_in (item_atoms i))
good_item i is = good_list (item_atoms i) is.spelled is.within

later_good : (s : Symbol) (ss : List Symbol) → Good (s ∷ ss) → Good ss
later_good s ss h = (and_parts (is_good s) (list_all is_good ss) h).1

short : (name : List ℕ) → (is_name name && nat_le (length name) 64) ≡ true → IsShortName name
short name h =
    let t = and_parts (is_name name) (nat_le (length name) 64) h in
    record { spelled = t.0; short = leb-true (length name) 64 t.1 }

good_append : (xs ys : List Symbol) → Good (xs ++ ys) → Good xs × Good ys
good_append xs ys h = and_parts (list_all is_good xs) (list_all is_good ys) (sym (list_all-append is_good xs ys) ∙ h)

-- ---- parameters

abbrev pub name_of : Parameter → List ℕ
name_of (parameter.Number name) = name
name_of (parameter.Pointer name cells) = name

parameter_short : (p : Parameter) → Good (symbols_in (parameter_atoms p)) → IsShortName (name_of p)
parameter_short (parameter.Number name) h = short name (and_parts (is_good (symbols.Register name)) true h).0
parameter_short (parameter.Pointer name cells) h =
    let rest = and_parts (is_good (symbols.Number (Small (pos (8 * cells))))) (list_all is_good (symbols.Mark 41 ∷ symbols.Register name ∷ [])) h in
    short name (and_parts (is_good (symbols.Register name)) true rest.1).0

others_short : (ps : List Parameter) → Good (symbols_in (flat_map (other_atoms parameter_atoms) ps)) → All IsShortName (map name_of ps)
others_short [] h = All-nil IsShortName
others_short (p ∷ ps) h =
    let t = good_append (symbols_in (other_atoms parameter_atoms p)) (symbols_in (flat_map (other_atoms parameter_atoms) ps))
    (ap (list_all is_good) (sym (symbols_appended (other_atoms parameter_atoms p) (flat_map (other_atoms parameter_atoms) ps))) ∙ h) in
    All-cons IsShortName (name_of p) (map name_of ps) (parameter_short p t.0) (others_short ps t.1)

parameters_short : (ps : List Parameter) → Good (symbols_in (parted parameter_atoms ps)) → All IsShortName (map name_of ps)
parameters_short [] h = All-nil IsShortName
parameters_short (p ∷ ps) h =
    let t = good_append (symbols_in (parameter_atoms p)) (symbols_in (flat_map (other_atoms parameter_atoms) ps)) (ap (list_all is_good) (sym (symbols_appended (parameter_atoms p) (flat_map (other_atoms parameter_atoms) ps))) ∙ h) in
    All-cons IsShortName (name_of p) (map name_of ps) (parameter_short p t.0) (others_short ps t.1)

-- ---- items

-- the name at the front of a line
abbrev pub name_at_front : List Symbol → Option (List ℕ)
name_at_front [] = None
name_at_front (symbols.Register name ∷ ss) = Some name
name_at_front (symbols.Global name ∷ ss) = Some name
name_at_front (symbols.Word name ∷ ss) = Some name
name_at_front (_ ∷ ss) = None

front_short : (ss : List Symbol) (name : List ℕ) → Good ss → name_at_front ss ≡ Some name → IsShortName name
front_short [] name h e = absurd cc
front_short (symbols.Register n ∷ ss) name h e = let same : n ≡ name = cc in subst IsShortName same (short n (and_parts (is_good (symbols.Register n)) (list_all is_good ss) h).0)
front_short (symbols.Global n ∷ ss) name h e = let same : n ≡ name = cc in subst IsShortName same (short n (and_parts (is_good (symbols.Global n)) (list_all is_good ss) h).0)
front_short (symbols.Word n ∷ ss) name h e = let same : n ≡ name = cc in subst IsShortName same (short n (and_parts (is_good (symbols.Word n)) (list_all is_good ss) h).0)
front_short (symbols.Number n ∷ ss) name h e = absurd cc
front_short (symbols.Mark b ∷ ss) name h e = absurd cc
front_short (symbols.Note ∷ ss) name h e = absurd cc

pub item_short : (i : Item) (name : List ℕ) → IsSpelledItem i → name_at_front (symbols_in (item_atoms i)) ≡ Some name → IsShortName name
item_short i name is e = front_short (symbols_in (item_atoms i)) name (good_item i is) e

pub record AreHeadNamesShort (name : List ℕ) (ps : List Parameter) : Type 0 where
  pub name_short : IsShortName name
  pub parameters : All IsShortName (map name_of ps)

pub head_short : (name : List ℕ) (r : ResultType) (ps : List Parameter) → IsKeptItem (item.Define name r ps) → AreHeadNamesShort name ps
head_short name r ps is =
    let closed : List Atom = parted parameter_atoms ps ++ Token (symbols.Mark 41) ∷ [] in
    let tail : List Symbol = symbols_in (closed ++ Blank ∷ Token (symbols.Mark 123) ∷ []) in
    let all : Good (symbols.Word (codes "define") ∷ symbols.Word (result_word r) ∷ symbols.Global name ∷ symbols.Mark 40 ∷ tail) = good_item (item.Define name r ps) is in
    let result = later_good (symbols.Word (codes "define")) (symbols.Word (result_word r) ∷ symbols.Global name ∷ symbols.Mark 40 ∷ tail) all in
    let named = later_good (symbols.Word (result_word r)) (symbols.Global name ∷ symbols.Mark 40 ∷ tail) result in
    let list : Good tail = later_good (symbols.Global name) (symbols.Mark 40 ∷ tail) named in
    let outer = good_append (symbols_in closed) (symbols.Mark 123 ∷ []) (ap (list_all is_good) (sym (symbols_appended closed (Blank ∷ Token (symbols.Mark 123) ∷ []))) ∙ list) in
    let inner = good_append (symbols_in (parted parameter_atoms ps)) (symbols.Mark 41 ∷ []) (ap (list_all is_good) (sym (symbols_appended (parted parameter_atoms ps) (Token (symbols.Mark 41) ∷ []))) ∙ outer.0) in
    record { name_short = front_short (symbols.Global name ∷ symbols.Mark 40 ∷ tail) name named refl; parameters = parameters_short ps inner.0 }
