-- Only the reader's own functions need these: the names that stand, as the items come.
use Rattle.std.specs.Prelude.{ℕ, Bool, ◌||◌, List, [], ◌∷◌, ◌++◌, map}
use Rattle.syntax.specs.declared.module.Parameter.{Parameter}
use Rattle.ir_reader.specs.declared.item.item.Item.{Item}
use Rattle.ir_reader.specs.declared.scope.Scope.{Scope}
use Rattle.ir_reader.specs.Names.{is_repeated}
use Rattle.ir_reader.specs.Defined.{parameter_name, reserved_inside, inside_before, defined_outside, defined_inside}

-- a function begins
abbrev pub enters_again : Scope → List ℕ → List Parameter → Bool
enters_again s name parameters = is_repeated s.outside (name ∷ []) || is_repeated (reserved_inside ∷
    []) (map parameter_name parameters)

abbrev pub entered : Scope → List ℕ → List Parameter → Scope
entered s name parameters = record {
  outside = s.outside ++ name ∷ [];
  inside = (reserved_inside ∷ []) ++
      map parameter_name parameters;
}

-- the item defines a name that stands already
abbrev pub repeats : Scope → Item → Bool
repeats s i = is_repeated s.outside (defined_outside i) || is_repeated (inside_before s.inside i) (defined_inside i)

-- with the names of one more item
abbrev pub scope_with : Scope → Item → Scope
scope_with s i = record {
  outside = s.outside ++ defined_outside i;
  inside = inside_before s.inside i ++
      defined_inside i;
}
