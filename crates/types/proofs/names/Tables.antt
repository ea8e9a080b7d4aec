-- The names as the map keeps them.
use Rattle.std.proofs.Common.{true≢false, ◌≡◌, ℕ, Bool, true, false, List, [], ◌∷◌, ◌++◌, map, refl, ap, ◌∙◌, sym, Option, Some, None, cond, is_some}
use Rattle.std.specs.Prelude.{if◌then◌else◌}
use Rattle.std.specs.Global.{Vec}
use Rattle.std.specs.Str.{bytes_eq}
use Rattle.std.specs.Map.{lookup}
use Rattle.indexmap.specs.IndexMap.{insert_entry}
use Rattle.types.specs.names.Table.{look_up, with_name}

abbrev pub seen_entries : {T : Type 0} → List (Vec ℕ × T) → List (List ℕ × T)
seen_entries es = map (λ e. (e.0.items, e.1)) es

pub look_up-seen : {T : Type 0} (es : List (Vec ℕ × T)) (name : List ℕ) → lookup (λ (k : Vec ℕ). bytes_eq name k.items) es ≡ look_up (seen_entries es) name
look_up-seen [] name = refl
look_up-seen {T} (e ∷ es) name = ap (λ (o : Option T). cond (bytes_eq name e.0.items) (Some e.1) o) (look_up-seen es name)

pub seen-append : {T : Type 0} (es : List (Vec ℕ × T)) (key : Vec ℕ) (v : T) → seen_entries (es ++ (key, v) ∷ []) ≡ seen_entries es ++ (key.items, v) ∷ []
seen-append [] key v = refl
seen-append (e ∷ es) key v = ap (λ l. (e.0.items, e.1) ∷ l) (seen-append es key v)

-- a name that nothing has goes last
pub named-new : {T : Type 0} (es : List (List ℕ × T)) (name : List ℕ) (v : T) → look_up es name ≡ None → with_name es name v ≡ es ++ (name, v) ∷ []
named-new {T} es name v absent = ap (λ (o : Option T). if is_some o then es else es ++ (name, v) ∷ []) absent

past : {T : Type 0} (b : Bool) (x : T) (rest : Option T) → (if b then Some x else rest) ≡ None → (b ≡ false) × (rest ≡ None)
past true x rest h = absurd (true≢false (ap is_some h))
past false x rest h = (refl, h)

inserted : {T : Type 0} (eq : Vec ℕ → Vec ℕ → Bool) (key : Vec ℕ) (v : T) → ((k : Vec ℕ) → eq key k ≡ bytes_eq key.items k.items) →
    (es : List (Vec ℕ × T)) → look_up (seen_entries es) key.items ≡ None → insert_entry eq es key v ≡ es ++ (key, v) ∷ []
inserted eq key v same [] absent = refl
inserted {T} eq key v same (e ∷ es) absent =
    let p = past (bytes_eq key.items e.0.items) e.1 (look_up (seen_entries es) key.items) absent in
    ap (λ b. if b then (e.0, v) ∷ es else e ∷ insert_entry eq es key v) (same e.0 ∙ p.0)
    ∙ ap (λ l. e ∷ l) (inserted eq key v same es p.1)

pub entered : {T : Type 0} (eq : Vec ℕ → Vec ℕ → Bool) (key : Vec ℕ) (v : T) → ((k : Vec ℕ) → eq key k ≡ bytes_eq key.items k.items) →
    (es es' : List (Vec ℕ × T)) (table : List (List ℕ × T)) (name : List ℕ) → seen_entries es ≡ table → key.items ≡ name → look_up table name ≡ None →
    es' ≡ insert_entry eq es key v → seen_entries es' ≡ with_name table name v
entered {T} eq key v same es es' table name sees named absent made =
    let absent' : look_up (seen_entries es) key.items ≡ None = ap (λ t. look_up t key.items) sees ∙ ap (look_up table) named ∙ absent in
    ap seen_entries (made ∙ inserted eq key v same es absent')
    ∙ seen-append es key v
    ∙ ap (λ t. t ++ (key.items, v) ∷ []) sees
    ∙ ap (λ (n : List ℕ). table ++ (n, v) ∷ []) named
    ∙ sym (named-new table name v absent)

nothing : {T : Type 0} (o : Option T) → is_some o ≡ false → o ≡ None
nothing None h = refl
nothing (Some x) h = absurd (true≢false h)

-- what was looked up and not found
pub absent : {T : Type 0} (table : List (List ℕ × T)) (bytes name : List ℕ) (o : Option T) → o ≡ look_up table bytes → bytes ≡ name → is_some o ≡ false → look_up table name ≡ None
absent table bytes name o is same h = ap (look_up table) (sym same) ∙ sym is ∙ nothing o h
