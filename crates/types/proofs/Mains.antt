-- The function at which the run begins, by what the table of names has.
use Rattle.std.proofs.Common.{◌≡◌, ◌∙◌, ℕ, ◌<◌, List, length, get_or, Option, Some, None, Result, Ok, Err, false, sym, ap, ltb, ltb-false}
use Rattle.std.specs.Prelude.{slice_get, codes, Bool}
use Rattle.std.proofs.lemmas.Option.{slice_get_past}
use Rattle.program.specs.declared.identifier.FunctionId.{FunctionId}
use Rattle.program.specs.declared.identifier.GlobalId.{GlobalId}
use Rattle.syntax.specs.declared.module.Function.{Function as FunctionText}
use Rattle.refusal.specs.declared.broken.Broken.{Broken as TypeFault}
use Rattle.refusal.proofs.Places.{read_at}
use Rattle.types.specs.declared.names.item.Item.{Item}
use Rattle.types.specs.declared.names.item.Item.TheVariants as item
use Rattle.types.specs.Meaning.{main_form, as_main, found_main, main_of}
use Rattle.types.specs.names.Address.{Items}
use Rattle.types.specs.names.Fault.{breaks, made_of, unless_of}
use Rattle.types.specs.names.Table.{look_up}

module _ (items : Items) (functions : List FunctionText) (word : List ℕ) (found : Option Item) (main : word ≡ codes "main") (is : found ≡ look_up items word) where
  here : main_of items functions ≡ found_main functions found
  here = ap (found_main functions) (ap (look_up items) (sym main) ∙ sym is)

  pub main_lacked : (fault : TypeFault) → found ≡ None → fault ≡ breaks 201 1 → Err fault ≡ main_of items functions
  main_lacked fault e ef = ap Err ef ∙ sym (here ∙ ap (found_main functions) e)

  pub main_global : (fault : TypeFault) (x : Item) (g : GlobalId) (cells : ℕ) → found ≡ Some x → x ≡ item.Global g cells → fault ≡ breaks 201 1 → Err fault ≡ main_of items functions
  main_global fault x g cells e ex ef = ap Err ef ∙ sym (here ∙ ap (found_main functions) (e ∙ ap Some ex))

  module _ (x : Item) (id : FunctionId) (e : found ≡ Some x) (ex : x ≡ item.Function id) where
    named : main_of items functions ≡ as_main id (slice_get functions id.0)
    named = here ∙ ap (found_main functions) (e ∙ ap Some ex)

    pub main_past : (fault : TypeFault) → false ≡ ltb id.0 (length functions) → fault ≡ breaks 201 1 → Err fault ≡ main_of items functions
    main_past fault past ef = ap Err ef ∙ sym (named ∙ ap (as_main id) (slice_get_past functions id.0 (ltb-false id.0 (length functions) (sym past))))

    module _
        (text : FunctionText)
        (within : id.0 < length functions)
        (at : text ≡ get_or functions id.0 text)
        (formed : Bool)
        (fault : TypeFault)
        (judged : Result (Unit {0}) TypeFault)
        (form : formed ≡ main_form text.result_type text.parameters)
        (mismatch : fault ≡ breaks 202 text.line)
        (rule : judged ≡ unless_of formed fault)
      where
        read : main_of items functions ≡ made_of (λ _. id) judged
        read =
            named ∙ ap (as_main id) (read_at functions id.0 text within at)
            ∙ ap (made_of (λ _. id)) (sym (rule ∙ ap (λ h. unless_of h fault) form ∙ ap (unless_of (main_form text.result_type text.parameters)) mismatch))

        pub main_good : (u : Unit {0}) → judged ≡ Ok u → Ok id ≡ main_of items functions
        main_good u j = sym (read ∙ ap (made_of (λ _. id)) j)

        pub main_refused : (refused : TypeFault) → judged ≡ Err refused → Err refused ≡ main_of items functions
        main_refused refused j = sym (read ∙ ap (made_of (λ _. id)) j)
