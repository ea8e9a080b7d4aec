use Rattle.std.proofs.lemmas.Result.{err_from_is_err_and}
use Rattle.types.proofs.Mains.{main_lacked, main_global, main_past, main_good, main_refused}
use Rattle.types.proofs.check.resolve_main.Goals as goal

pub returns-in_err-unless-in-Some : goal.returns-in_err-unless-in-Some
returns-in_err-unless-in-Some c =
    let p = err_from_is_err_and c.from_residual.result c.from_residual.ensures.1 in
    rw (p.1, p.2) (main_refused c.args.items.now c.args.functions.now c.as_slice.result.now c.find.result c.as_slice.ensures c.find.ensures
    c.in-Some-Function.field-0 c.in-Some-Function.id c.in-Some-Function.is c.in-Some-Function.field-0-is
    c.in-Some.function.now c.in-Some.ensures.lookup.3.0 c.in-Some.ensures.lookup.1 c.has_main_form.result c.type_mismatch.result c.unless.result c.has_main_form.ensures c.type_mismatch.ensures c.unless.ensures
    c.in_err-unless-in-Some.field-0.0 c.in_err-unless-in-Some.was)

pub returns-in-None : goal.returns-in-None
returns-in-None c = main_lacked c.args.items.now c.args.functions.now c.as_slice.result.now c.find.result c.as_slice.ensures c.find.ensures c.unknown_name.result c.in-None.is c.unknown_name.ensures

pub returns-in-Some-Global : goal.returns-in-Some-Global
returns-in-Some-Global c =
    main_global c.args.items.now c.args.functions.now c.as_slice.result.now c.find.result c.as_slice.ensures c.find.ensures
    c.unknown_name-in-Some-Global.result c.in-Some-Global.field-0 c.in-Some-Global.field-0-0 c.in-Some-Global.field-0-1 c.in-Some-Global.is c.in-Some-Global.field-0-is c.unknown_name-in-Some-Global.ensures

pub returns-in-None-get : goal.returns-in-None-get
returns-in-None-get c =
    main_past c.args.items.now c.args.functions.now c.as_slice.result.now c.find.result c.as_slice.ensures c.find.ensures
    c.in-Some-Function.field-0 c.in-Some-Function.id c.in-Some-Function.is c.in-Some-Function.field-0-is c.unknown_name-in-None-get.result c.in-None-get.ensures.lookup.0 c.unknown_name-in-None-get.ensures

pub returns-in_ok-unless-in-Some : goal.returns-in_ok-unless-in-Some
returns-in_ok-unless-in-Some c =
    main_good c.args.items.now c.args.functions.now c.as_slice.result.now c.find.result c.as_slice.ensures c.find.ensures
    c.in-Some-Function.field-0 c.in-Some-Function.id c.in-Some-Function.is c.in-Some-Function.field-0-is
    c.in-Some.function.now c.in-Some.ensures.lookup.3.0 c.in-Some.ensures.lookup.1 c.has_main_form.result c.type_mismatch.result c.unless.result c.has_main_form.ensures c.type_mismatch.ensures c.unless.ensures c.in_ok-unless-in-Some.field-0 c.in_ok-unless-in-Some.was
